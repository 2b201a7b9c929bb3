use Rattle.std.proofs.Common.{rules, ◌+◌, drop, subst, List, ℕ, get_or}
use Rattle.sci_io.specs.Taken.{UnderWay}
use Rattle.sci_io.proofs.Advance.{cut_off, next_front}
use Rattle.sci_reaction.specs.declared.entry.Guard.{Guard}
use Rattle.sci_reaction.specs.Kept.{guard_of, guards_of}
use Rattle.sci_sched.specs.Text.{guard_text, guards_text}
use Rattle.sci_sched.proofs.Steps.{guards-drop}
use Rattle.sci_sched.proofs.write.put_guards.Goals as goal

pub returns-in_err-put_guard : goal.returns-in_err-put_guard
returns-in_err-put_guard g c =
    let i = c.loop-guard.guard-index in
    let gs = c.args.guards.now in
    let d : Guard = record { block = 0; port = 0; mask = 0 } in
    let due = subst (λ (l : List ℕ). UnderWay (g.S.Sink.state c.args.out.now) (g.S.Sink.state c.loop-guard.out) (guards_text (guards_of gs)) l) (guards-drop gs i d c.loop-guard-test.true) c.loop-guard.invariant in
    cut_off (guard_text (guard_of (get_or gs i d))) (guards_text (guards_of (drop (i + 1) gs))) c.put_guard.result c.from_residual.result _ _ c.in_err-put_guard.was (search rules) due c.put_guard.ensures

pub loop-guard-preserved : goal.loop-guard-preserved
loop-guard-preserved g c =
    let i = c.loop-guard.guard-index in
    let gs = c.args.guards.now in
    let d : Guard = record { block = 0; port = 0; mask = 0 } in
    let due = subst (λ (l : List ℕ). UnderWay (g.S.Sink.state c.args.out.now) (g.S.Sink.state c.loop-guard.out) (guards_text (guards_of gs)) l) (guards-drop gs i d c.loop-guard-test.true) c.loop-guard.invariant in
    next_front (guard_text (guard_of (get_or gs i d))) (guards_text (guards_of (drop (i + 1) gs))) c.put_guard.result _ c.in_ok-put_guard.was due c.put_guard.ensures
