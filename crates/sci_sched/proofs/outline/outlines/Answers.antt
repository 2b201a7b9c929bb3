use Rattle.std.proofs.Common.{rules, ◌+◌, ◌<◌, List, refl, subst, sym}
use Rattle.sci_net.specs.Sources.{source_of}
use Rattle.sci_sched.specs.declared.outline.Outline.{Outline}
use Rattle.sci_sched.specs.Outlines.{AreOutlines}
use Rattle.sci_sched.proofs.Planned.{one_more, first_stopped}
use Rattle.sci_sched.proofs.outline.outlines.Goals as goal

pub returns-in_err-outline-clause-stop : goal.returns-in_err-outline-clause-stop
returns-in_err-outline-clause-stop c =
    first_stopped c.args.net.now (source_of c.args.net.now c.loop-at.at) c.loop-at.at c.loop-at.outlines.items c.outline_of.result c.from_residual-in_err-outline.result c.in_err-outline.field-0.0 c.in_err-outline.was (search rules)
    (subst (λ m. c.loop-at.at < m) c.source_count-at-end.ensures c.loop-at-test.true) c.loop-at.invariant.0 refl c.outline_of.ensures.stop

pub loop-at-preserved : goal.loop-at-preserved
loop-at-preserved c =
    let n = c.args.net.now in let o = c.in_ok-outline.outline in (
      subst (λ (os : List Outline). AreOutlines n (c.loop-at.at + 1) os) (sym c.in_ok-keep.ensures) (one_more n c.loop-at.at c.loop-at.outlines.items o c.loop-at.invariant.0 c.in_ok-outline.ensures.ok),
      c.in_ok-outline.ensures.count,
      c.loop-at.invariant.2,
    )
