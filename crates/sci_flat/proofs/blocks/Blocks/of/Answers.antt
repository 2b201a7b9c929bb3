use Rattle.std.proofs.Common.{◌∙◌, ◌++◌, ◌∷◌, [], List, length, ap, sym, arith}
use Rattle.std.proofs.lemmas.List.{map_push, length_push}
use Rattle.sci_forms.specs.declared.spec.Spec.{Spec}
use Rattle.sci_base.specs.declared.refusal.Place.{Place}
use Rattle.sci_blocks.specs.Blocks.{Placed, placed, part_view}
use Rattle.sci_flat.specs.Placed.{placed_all}
use Rattle.sci_flat.proofs.Making.{placed_push}
use Rattle.sci_flat.proofs.blocks.Blocks.of.Goals as goal

pub loop-part-preserved : goal.loop-part-preserved
loop-part-preserved c =
    let ss = c.loop-part.specs.items in
    let qs = c.loop-part.places.items in
    record {
      same = ap (λ (x : List Spec). placed_all x c.push-in-loop-part.new.self.items) c.in_ok-push.ensures.items
          ∙ (ap (λ (x : List Place). placed_all (ss ++ c.in-Some.part.spec ∷ []) x) c.in_ok-push-2.ensures.items
          ∙ (placed_push ss qs c.in-Some.part.spec c.in-Some.part.place c.loop-part.invariant.long
          ∙ (ap (λ (x : List Placed). x ++ placed c.in-Some.part.place.path.items c.in-Some.part.spec ∷ []) c.loop-part.invariant.same
          ∙ sym (map_push part_view c.loop-part.yielded c.in-Some.part))));
      long =
          let a = ap length c.in_ok-push.ensures.items ∙ length_push ss c.in-Some.part.spec in
          let b = ap length c.in_ok-push-2.ensures.items ∙ length_push qs c.in-Some.part.place in
          omega (arith, a, b, c.loop-part.invariant.long);
    }
