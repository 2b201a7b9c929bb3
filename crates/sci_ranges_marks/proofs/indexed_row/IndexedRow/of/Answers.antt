use Rattle.std.proofs.Common.{◌≡◌, ◌+◌, ◌<◌, ℕ, List, get_or, length, sym, ap, ◌∙◌, subst, arith, rules}
use Rattle.std.proofs.lemmas.List.{get_or_default}
use Rattle.sci_reaction.specs.Kept.{entries_of}
use Rattle.sci_reaction.specs.Schedule.{blocks_of}
use Rattle.sci_ranges_marks.proofs.Placed.{ArePlacesTo, blocks_length, block_at, place_written, place_kept, no_places}
use Rattle.sci_ranges_marks.proofs.indexed_row.IndexedRow.of.Goals.{then-index-eq0, else-index-eq0}
use Rattle.sci_ranges_marks.proofs.indexed_row.IndexedRow.of.Goals as goal

pub loop-k-init : goal.loop-k-init
loop-k-init c = no_places (blocks_of (entries_of c.args.entries.items)) c.in_ok-places.places.items (c.args.count + 1) (c.in_ok-places.ensures.items_if_clones_equal (search rules))

pub loop-k-preserved : goal.loop-k-preserved
loop-k-preserved c =
    let es = c.args.entries.items in
    let k = c.loop-k.k in
    let x = c.index.result.now.block in
    let ps = c.loop-k.places.items in
    let inside : k < length es = omega (arith, c.loop-k-test.true, c.len-k-end.ensures) in
    let within : k < length (blocks_of (entries_of es)) = omega (arith, inside, blocks_length es) in
    let here : get_or (blocks_of (entries_of es)) k 0 ≡ x = block_at es k c.index.result.now inside c.index.ensures in
    let small : x < c.args.count + 1 =
    let most = c.requires k c.index.result.now inside in let same = ap (λ e. e.block) c.index.ensures in omega (arith, most, same) in
    let read : get_or ps x 0 ≡ c.index-in-loop-k.result.now =
    sym (c.index-in-loop-k.ensures ∙ get_or_default ps x c.index-in-loop-k.result.now 0 (omega (arith, small, c.loop-k.invariant.enough))) in
    elim c.if-index-eq0.branch [
      | then-index-eq0 w ↦
          subst (λ (v : List ℕ). ArePlacesTo (blocks_of (entries_of es)) (k + 1) (c.args.count + 1) v) (sym (ap (λ v. v.items) w.places-is))
          (place_written (blocks_of (entries_of es)) (c.args.count + 1) ps k x within here small c.loop-k.invariant (omega (arith, read, w.if-index-eq0.true)))
      | else-index-eq0 w ↦
          subst (λ (v : List ℕ). ArePlacesTo (blocks_of (entries_of es)) (k + 1) (c.args.count + 1) v) (sym (ap (λ v. v.items) w.places-is))
          (place_kept (blocks_of (entries_of es)) (c.args.count + 1) ps k x within here small c.loop-k.invariant (λ none. absurd (omega (arith, read, none, w.if-index-eq0.false))))
    ]
