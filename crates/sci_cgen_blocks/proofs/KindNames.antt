-- Recipes by the names of kinds.
use Rattle.std.proofs.Common.{◌≡◌, Result, IfOk, sym, subst}
use Rattle.sci_forms.specs.declared.Kind.{Kind}
use Rattle.sci_forms.specs.declared.spec.Spec.{Spec}
use Rattle.sci_cgen_blocks.specs.declared.recipe_parts.Recipe.{Recipe}
use Rattle.sci_cgen_blocks.specs.Recipes.{recipe_of}
use Rattle.sci_cgen_blocks.specs.Plain.{plain_recipe}

-- the recipe of a kind by its name is that of a block of this kind
pub recipe_by_name : {E : Type 0} (r : Result Recipe E) (s : Spec) (k : Kind) → s.kind ≡ k → IfOk r (λ x. plain_recipe x ≡ recipe_of k s)
    → IfOk r (λ x. plain_recipe x ≡ recipe_of s.kind s)
recipe_by_name r s k is h = subst (λ c. IfOk r (λ x. plain_recipe x ≡ recipe_of c s)) (sym is) h
