use Rattle.std.proofs.Common.{◌≡◌, List, All, true, subst, sym}
use Rattle.sci_forms.specs.declared.spec.Spec.{Spec}
use Rattle.sci_forms.specs.Typed.{typed}
use Rattle.sci_net.proofs.TypedSpecs.{all_typed}
use Rattle.sci_net.proofs.net.Net.assemble.Goals as goal

pub sources-requires-clause-typed_specs : goal.sources-requires-clause-typed_specs
sources-requires-clause-typed_specs c =
    subst (λ (ss : List Spec). All (λ (s : Spec). typed s ≡ true) ss) (sym c.deref.ensures.value) (all_typed _ c.requires)
