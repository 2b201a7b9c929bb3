use Rattle.std.proofs.Common.{◌≡◌, ◌∙◌, ◌+◌, refl, sym, ap, subst, arith}
use Rattle.sci_forms.specs.declared.spec.Spec.{Spec}
use Rattle.sci_net.specs.Parts.{spec_of}
use Rattle.sci_loop.specs.Lists.{plain}
use Rattle.sci_inherit.specs.Followers.{AreFedBy, plain_rows}
use Rattle.sci_inherit.specs.Gather.{IsSender}
use Rattle.sci_inherit.proofs.Filling.{row_given}
use Rattle.sci_inherit.proofs.Living.{row_of_wanted}
use Rattle.sci_inherit.proofs.Gathering.{gathered_begins, gathered_ends, gathered_port}
use Rattle.sci_inherit.proofs.gather.gather_ports.Goals as goal

pub loop-at-init : goal.loop-at-init
loop-at-init c = record {
  count = refl;
  len = refl;
  gathered = λ s sends before. gathered_begins c.args.net.now (IsSender c.args.net.now c.args.rows.now.wanted.items s) c.args.block (plain c.args.reaching.now.items) c.well_formed-2.ensures c.requires.least before;
}

pub gather_output-requires-clause-walk : goal.gather_output-requires-clause-walk
gather_output-requires-clause-walk c = c.loop-at.invariant.count ∙ c.requires.walk

pub gather_output-requires-clause-fed : goal.gather_output-requires-clause-fed
gather_output-requires-clause-fed c =
    let n = c.args.net.now in
    let b = c.args.block in
    let p = c.loop-at.at + 1 in
    let e : c.spec.result.now.evtout ≡ (spec_of n b).evtout = ap (λ (s : Spec). s.evtout) c.spec.ensures.value in
    let is = row_given n c.args.rows.now.fed.items b p c.index-fed.result.now c.index.result.now c.requires.rows.have_rows (record { least = c.requires.least; most = c.requires.most })
    (omega (arith, e, c.loop-at-test.true)) c.index-fed.ensures c.index.ensures in
    subst (AreFedBy n (record { block = b; port = p })) (is ∙ sym c.deref.ensures.value)
    (row_of_wanted n c.args.rows.now.wanted.items (plain_rows c.args.rows.now.fed.items) (record { block = b; port = p }) c.requires.rows.rows c.requires.wanted)

pub gather_output-requires-clause-len : goal.gather_output-requires-clause-len
gather_output-requires-clause-len c = c.loop-at.invariant.len ∙ c.requires.len

pub returns-in_err-gather_output-clause-count : goal.returns-in_err-gather_output-clause-count
returns-in_err-gather_output-clause-count c = c.gather_output.ensures.count ∙ c.loop-at.invariant.count

pub loop-at-preserved : goal.loop-at-preserved
loop-at-preserved c = record {
  count = c.gather_output.ensures.count ∙ c.loop-at.invariant.count;
  len = c.in_ok-gather_output.ensures.len ∙ c.loop-at.invariant.len;
  gathered = λ s sends before. gathered_port c.args.net.now (IsSender c.args.net.now c.args.rows.now.wanted.items s) c.args.block c.loop-at.at (plain c.loop-at.reaching.items)
      (plain c.gather_output.new.reaching.items) sends c.in_ok-gather_output.ensures.lists (c.loop-at.invariant.gathered s sends before);
}

pub returns-clause-gathered : goal.returns-clause-gathered
returns-clause-gathered c =
    let n = c.args.net.now in
    let b = c.args.block in
    let e : c.spec.result.now.evtout ≡ (spec_of n b).evtout = ap (λ (s : Spec). s.evtout) c.spec.ensures.value in
    let all : c.loop-at.at ≡ (spec_of n b).evtout = omega (arith, e, c.loop-at-test.false, c.loop-at.auto.at-end) in
    λ s sends before. gathered_ends n (IsSender n c.args.rows.now.wanted.items s) b c.loop-at.at (plain c.loop-at.reaching.items) c.well_formed-2.ensures all (c.loop-at.invariant.gathered s sends before)

pub returns-clause-count : goal.returns-clause-count
returns-clause-count c = c.loop-at.invariant.count
