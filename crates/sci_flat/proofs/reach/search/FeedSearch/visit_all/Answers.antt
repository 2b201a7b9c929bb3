use Rattle.std.proofs.Common.{◌≡◌, ◌+◌, ◌-◌, ◌<◌, length, get_or, ◌∙◌, inl, inr, arith}
use Rattle.std.proofs.lemmas.Bool.Decides.{eqb_tells}
use Rattle.std.proofs.lemmas.Grind.{get_or_default_zero}
use Rattle.sci_flat.specs.Successors.{from_at, to_at, latest}
use Rattle.sci_flat.proofs.ReachFilling.{to_within}
use Rattle.sci_flat.proofs.Leading.{latest_few, turning_begins, turning_on}
use Rattle.sci_flat.proofs.Searching.{visits_again, visits_first}
use Rattle.sci_flat.proofs.reach.search.FeedSearch.visit_all.Goals as goal

pub loop-next-init : goal.loop-next-init
loop-next-init c =
    let at = get_or_default_zero c.args.successors.now.latest.items c.args.port c.index-next.result.now (omega (arith, c.requires.port, c.requires.successors.ports_long)) in
    turning_begins c.args.steps.now c.args.wanted.now c.args.source c.args.port c.args.self.now c.index-next.result.now
    (c.index-next.ensures ∙ (at ∙ c.requires.successors.last c.args.port c.requires.port))

pub visit-requires-clause-port : goal.visit-requires-clause-port
visit-requires-clause-port c =
    let inside = to_within (length c.args.wanted.now) c.args.steps.now (c.loop-next.next - 1) (0, 0) (omega (arith, c.loop-next.invariant.few)) c.requires.within in
    omega (arith, inside, c.requires.wanted, c.loop-next.invariant.visits.stamps_long)

pub loop-next-smaller : goal.loop-next-smaller
loop-next-smaller c =
    let k = c.loop-next.next - 1 in
    let low : k < length c.args.steps.now = omega (arith, c.loop-next.invariant.few) in
    let at = get_or_default_zero c.args.successors.now.earlier.items k c.index-next-in-loop-next.result.now (omega (arith, low, c.requires.successors.steps_long)) in
    let is : c.index-next-in-loop-next.result.now ≡ latest c.args.steps.now (from_at c.args.steps.now k) k = c.index-next-in-loop-next.ensures ∙ (at ∙ c.requires.successors.before k low) in
    omega (arith, is, latest_few c.args.steps.now (from_at c.args.steps.now k) k)

pub loop-next-preserved : goal.loop-next-preserved
loop-next-preserved c =
    let es = c.args.steps.now in
    let k = c.loop-next.next - 1 in
    let low : k < length es = omega (arith, c.loop-next.invariant.few) in
    let at = get_or_default_zero c.args.successors.now.earlier.items k c.index-next-in-loop-next.result.now (omega (arith, low, c.requires.successors.steps_long)) in
    let mid = c.loop-next.self in
    let done = c.loop-next.invariant.done in
    let visits = c.loop-next.invariant.visits in
    let inside = to_within (length c.args.wanted.now) es k (0, 0) low c.requires.within in
    turning_on es c.args.wanted.now c.args.source c.args.port c.args.self.now mid c.visit.new.self c.loop-next.next c.index-next-in-loop-next.result.now c.loop-next.invariant c.loop-next-test.true
    (c.index-next-in-loop-next.ensures ∙ (at ∙ c.requires.successors.before k low))
    (elim (eqb_tells (get_or mid.stamps.items (to_at es k) 0) (c.args.source + 1)) [
      | inl t ↦ visits_again c.args.wanted.now c.args.source done (to_at es k) c.args.self.now mid c.visit.new.self t.1 (c.in_ok-visit.ensures.again t.1) visits
      | inr t ↦ visits_first c.args.wanted.now c.args.source done (to_at es k) c.args.self.now mid c.visit.new.self (omega (arith, inside, c.requires.wanted, visits.stamps_long))
          (omega (arith, c.requires.lists, visits.stamps_long, visits.lists_long)) t.1 (c.in_ok-visit.ensures.first t.1) visits
    ])
