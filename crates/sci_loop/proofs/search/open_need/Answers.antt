use Rattle.std.proofs.Common.{ℕ, ◌<◌, length, get_or, refl, sym, subst, below_more}
use Rattle.sci_loop.specs.Progress.{IsSettled}
use Rattle.sci_loop.proofs.Places.{need_listed, need_open, need_settled, to_seen, all_met}
use Rattle.sci_loop.proofs.search.open_need.Goals as goal

pub bounds-places-needs : goal.bounds-places-needs
bounds-places-needs c =
    (need_listed c.args.table.now c.args.at c.loop-index.index c.index.result.now c.args.places.now c.as_slice-needs.result.now c.requires.table c.requires.places c.requires.within c.index.ensures
    c.as_slice-needs.ensures.value c.loop-index-test.true).0

pub bounds-settled-place : goal.bounds-settled-place
bounds-settled-place c =
    subst (λ n. get_or c.args.places.now (get_or c.as_slice-needs.result.now c.loop-index.index 0) 0 < n) (sym c.requires.settled)
    (need_listed c.args.table.now c.args.at c.loop-index.index c.index.result.now c.args.places.now c.as_slice-needs.result.now c.requires.table c.requires.places c.requires.within c.index.ensures
    c.as_slice-needs.ensures.value c.loop-index-test.true).1

pub returns-then-not-settled-place-clause-some : goal.returns-then-not-settled-place-clause-some
returns-then-not-settled-place-clause-some c =
    need_open c.args.table.now c.args.settled.now c.args.at c.loop-index.index c.index.result.now c.args.places.now c.as_slice-needs.result.now c.requires.table c.requires.places c.requires.within
    c.index.ensures c.as_slice-needs.ensures.value c.loop-index-test.true c.if-not-settled-place.true

pub returns-then-not-settled-place-clause-seen : goal.returns-then-not-settled-place-clause-seen
returns-then-not-settled-place-clause-seen c =
    to_seen c.args.table.now c.args.settled.now c.args.at c.loop-index.index c.index.result.now c.args.table.now.members.items c.as_slice-needs.result.now c.requires.table c.requires.within
    c.index.ensures refl c.as_slice-needs.ensures.value c.loop-index.invariant

pub loop-index-preserved : goal.loop-index-preserved
loop-index-preserved c =
    let P : ℕ → Type 0 = λ m. m < length c.as_slice-needs.result.now → IsSettled c.args.table.now.members.items c.args.settled.now (get_or c.as_slice-needs.result.now m 0) in
    below_more P _ c.loop-index.invariant
    (λ h. need_settled c.args.table.now c.args.settled.now c.args.at c.loop-index.index c.index.result.now c.args.places.now c.as_slice-needs.result.now c.requires.table c.requires.places
    c.requires.within c.index.ensures c.as_slice-needs.ensures.value h c.if-not-settled-place.false)

pub returns-clause-none : goal.returns-clause-none
returns-clause-none c =
    all_met c.args.table.now c.args.settled.now c.args.at c.loop-index.index c.index.result.now c.as_slice-needs.result.now c.requires.table c.requires.within c.index.ensures
    c.as_slice-needs.ensures.value c.loop-index-test.false c.loop-index.invariant
