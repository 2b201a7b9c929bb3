use Rattle.std.proofs.Common.{get_or, ◌<◌, subst, sym}
use Rattle.std.proofs.lemmas.List.{length-set}
use Rattle.sci_loop.proofs.Places.{listed_more}
use Rattle.sci_loop.proofs.table.places_by_number.Goals as goal

pub loop-place-preserved : goal.loop-place-preserved
loop-place-preserved c =
    let ms = c.args.members.now in
    let ps = c.loop-place.places.items in
    let i = c.loop-place.place in
    record {
      within = λ k h. subst (λ n. get_or ms k 0 < n) (sym (length-set ps (get_or ms i 0) i)) (c.loop-place.invariant.within k h);
      listed = listed_more ms ps i c.requires c.loop-place-test.true (c.loop-place.invariant.within i c.loop-place-test.true) c.loop-place.invariant.listed;
    }
