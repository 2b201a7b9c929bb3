use Rattle.std.proofs.Common.{◌≡◌, ◌+◌, ◌∷◌, ℕ, length, [], sym, ap, subst, ◌∙◌, arith, rules}
use Rattle.sci_forms.specs.declared.spec.Spec.{Spec}
use Rattle.sci_forms.specs.Words.{out_type}
use Rattle.sci_net.specs.Parts.{rows_of}
use Rattle.sci_ranges_base.specs.declared.interval.Interval.{Interval}
use Rattle.sci_ranges_base.specs.Intervals.{whole}
use Rattle.sci_ranges_find.specs.Widest.{AreWholeStatesTo}
use Rattle.sci_ranges_find.proofs.Wholes.{states_begin, states_more}
use Rattle.sci_ranges_find.proofs.widest.whole_states.Goals as goal

pub loop-block-init : goal.loop-block-init
loop-block-init c = states_begin c.args.net.now c.new-states.result.items c.push.new.self.items c.new.result c.new-states.ensures.items c.in_ok-push.ensures.items

pub loop-block-preserved : goal.loop-block-preserved
loop-block-preserved c =
    subst (λ rows. AreWholeStatesTo c.args.net.now (c.loop-block.block + 1) (rows_of rows)) (sym c.in_ok-push-2.ensures.items)
    (states_more c.args.net.now c.loop-block.block c.loop-block.states.items c.in_ok-state.state c.loop-block.invariant
    (c.in_ok-state.ensures.items_if_clones_equal (search rules) ∙ ap (λ (i : Interval). i ∷ []) (c.whole_state-whole.ensures ∙ ap (λ (s : Spec). whole (out_type s)) c.spec.ensures.value)))

pub returns : goal.returns
returns c =
    let most = c.loop-block.auto.block-end in
    let all : c.loop-block.block ≡ length c.args.net.now.specs = omega (arith, c.loop-block-test.false, most, c.len-block-end.ensures) in
    subst (λ (k : ℕ). AreWholeStatesTo c.args.net.now k (rows_of c.loop-block.states.items)) all c.loop-block.invariant
