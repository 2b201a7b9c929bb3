use Rattle.std.proofs.Common.{length, ◌-◌, arith, sym}
use Rattle.std.proofs.lemmas.Option.{get_or_from_slice_get}
use Rattle.sci_loop.proofs.Places.{never_falls}
use Rattle.sci_loop.proofs.table.size_of_places.Goals as goal

pub returns-in-Some : goal.returns-in-Some
returns-in-Some c k h =
    let xs = c.args.members.now in
    let last = get_or_from_slice_get xs (length xs - 1) c.in-Some.last.now 0 (sym c.in-Some.ensures.value) in
    let low = never_falls xs c.requires k (length xs - 1) (omega (arith, h)) (omega (arith, h)) in
    omega (arith, last, low)
