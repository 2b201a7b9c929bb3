-- How often the blocks of a kind were active in a run so far: so often their outputs were computed.
use Rattle.std.specs.Prelude.{ℕ, ◌+◌, ◌==◌, Bool, true, List, [], ◌∷◌, if◌then◌else◌}
use Rattle.sci_forms.specs.declared.Kind.{Kind}
use Rattle.sci_forms.specs.declared.spec.Spec.{Spec}
use Rattle.sci_forms.specs.Numbers.{number_of}
use Rattle.sci_net.specs.Parts.{Parts}
use Rattle.sci_run.specs.Run.{State}

-- summed over the blocks that count, numbered from b on
abbrev pub activations_from : (Spec → Bool) → (b : ℕ) → List Spec → (ℕ → ℕ) → ℕ
activations_from counts b [] activations = 0
activations_from counts b (s ∷ ss) activations = (if counts s then activations b else 0) + activations_from counts (b + 1) ss activations

abbrev pub activations_of_kind : Parts → State → Kind → ℕ
activations_of_kind n st k = activations_from (λ s. number_of s.kind == number_of k) 1 n.specs st.activations

abbrev pub all_activations : Parts → State → ℕ
all_activations n st = activations_from (λ s. true) 1 n.specs st.activations
