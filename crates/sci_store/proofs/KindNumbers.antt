-- Kinds by their numbers.
use Rattle.std.proofs.Common.{◌≡◌, Some, refl, sym, ap, ◌∙◌}
use Rattle.sci_forms.specs.declared.Kind.{Kind}
use Rattle.sci_forms.specs.declared.Kind.TheVariants.{Const}
use Rattle.sci_forms.specs.Numbers.{number_of, kind_at}

at_number : (k : Kind) → kind_at (number_of k) ≡ Some k
at_number Const = refl
at_number _ = refl

of_some : (j k : Kind) → Some j ≡ Some k → j ≡ k
of_some j k h = cc

-- two kinds of one number are one
pub same_kind : (j k : Kind) → number_of j ≡ number_of k → j ≡ k
same_kind j k h = of_some j k (sym (at_number j) ∙ (ap kind_at h ∙ at_number k))
