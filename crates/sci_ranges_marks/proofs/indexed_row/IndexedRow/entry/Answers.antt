use Rattle.std.proofs.Common.{◌≡◌, ◌-◌, suc, sym, ◌∙◌, arith}
use Rattle.std.proofs.lemmas.List.{get_or_past, get_or_default}
use Rattle.sci_reaction.specs.Kept.{entries_of}
use Rattle.sci_reaction.specs.Schedule.{blocks_of}
use Rattle.sci_ranges_marks.specs.Places.{place_in}
use Rattle.sci_ranges_marks.proofs.Placed.{no_entry, entry_here, place_within, blocks_length}
use Rattle.sci_ranges_marks.proofs.indexed_row.IndexedRow.entry.Goals.{then-place-eq0-via-then-place-eq0, then-place-eq0-via-else-place-eq0+then-place-len}
use Rattle.sci_ranges_marks.proofs.indexed_row.IndexedRow.entry.Goals as goal

pub returns-then-block-len : goal.returns-then-block-len
returns-then-block-len c =
    let r = c.args.self.now in
    sym (no_entry r.entries.items c.args.block
    (sym (r.placed c.args.block) ∙ get_or_past r.places.items c.args.block 0 (omega (arith, c.if-block-len.true, c.len.ensures, r.places.ok.0))))

pub returns-then-place-eq0 : goal.returns-then-place-eq0
returns-then-place-eq0 c =
    let r = c.args.self.now in
    let b = c.args.block in
    let here : c.index-place.result.now ≡ place_in (blocks_of (entries_of r.entries.items)) b =
    c.index-place.ensures
    ∙ (get_or_default r.places.items b c.index-place.result.now 0 (omega (arith, c.if-block-len.false, c.len.ensures, r.places.ok.0)) ∙ r.placed b) in
    let most = place_within (blocks_of (entries_of r.entries.items)) b in
    let len = blocks_length r.entries.items in
    elim c.then-place-eq0.branch [
      | then-place-eq0-via-then-place-eq0 w ↦ sym (no_entry r.entries.items b (sym here ∙ w.if-place-eq0.true))
      | then-place-eq0-via-else-place-eq0+then-place-len w ↦ absurd (omega (arith, here, most, len, w.if-place-len.true, w.len-else-place-eq0.ensures, r.entries.ok.0))
    ]

pub returns : goal.returns
returns c =
    let r = c.args.self.now in
    let b = c.args.block in
    let p = c.index-place.result.now in
    let here : p ≡ place_in (blocks_of (entries_of r.entries.items)) b =
    c.index-place.ensures ∙ (get_or_default r.places.items b p 0 (omega (arith, c.if-block-len.false, c.len.ensures, r.places.ok.0)) ∙ r.placed b) in
    let some : place_in (blocks_of (entries_of r.entries.items)) b ≡ suc (p - 1) = omega (arith, here, c.if-place-eq0.false) in
    entry_here r.entries.items b (p - 1) c.index.result.now some c.index.ensures
