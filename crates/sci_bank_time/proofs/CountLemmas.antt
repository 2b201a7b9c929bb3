-- What a counter's next number is counted from.
use Rattle.std.proofs.Common.{◌≡◌, ◌<◌, ℤ, pos, ◌≤ℤ◌, List, arith}
use Rattle.std.proofs.lemmas.Int.{ints}
use Rattle.sci_base.specs.Lists.{at}
use Rattle.sci_base.proofs.FitLemmas.{high_at_most}
use Rattle.sci_forms.specs.declared.Kind.TheVariants.{ModuloCount}
use Rattle.sci_forms.specs.declared.spec.Spec.{Spec}
use Rattle.sci_forms.specs.Words.{out_type, state_len_of}
use Rattle.sci_kinds.specs.Asks.{IsState}

-- a state's number is small
pub count_small : (s : Spec) (x : List ℤ) → s.kind ≡ ModuloCount → IsState s x → at x 0 ≤ℤ pos 4294967295
count_small s x e st =
    let first : 0 < state_len_of s.kind s = rw e (omega arith) in
    let r = st.in_range 0 first in
    omega (arith, ints, r.below, high_at_most (out_type s))
