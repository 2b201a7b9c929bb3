-- A test of all specs of a net.
use Rattle.std.proofs.Common.{◌≡◌, ℕ, ◌+◌, ◌<◌, List, length, drop, Bool, true, false, ◌||◌, sym, ap, ◌∙◌}
use Rattle.std.specs.List.{list_any}
use Rattle.std.proofs.lemmas.List.{drop_more}
use Rattle.sci_forms.specs.declared.spec.Spec.{Spec}
use Rattle.sci_net.specs.Parts.{numbered, no_spec}
use Rattle.sci_net.proofs.Numbered.{numbered_next}

any_more : (f : Spec → Bool) (ss : List Spec) (i : ℕ) → i < length ss
    → list_any f (drop i ss) ≡ (f (numbered no_spec ss (i + 1)) || list_any f (drop (i + 1) ss))
any_more f ss i l = ap (list_any f) (drop_more ss i no_spec l) ∙ ap (λ s. f s || list_any f (drop (i + 1) ss)) (sym (numbered_next no_spec ss i))

-- what is left decides, where the test doesn't hold of the next
pub any_passed : (f : Spec → Bool) (ss : List Spec) (i : ℕ) (all : Bool) → i < length ss → list_any f (drop i ss) ≡ all
    → f (numbered no_spec ss (i + 1)) ≡ false → list_any f (drop (i + 1) ss) ≡ all
any_passed f ss i all l so_far here = sym (ap (λ b. b || list_any f (drop (i + 1) ss)) here) ∙ sym (any_more f ss i l) ∙ so_far

-- it is decided where the test holds of the next
pub any_there : (f : Spec → Bool) (ss : List Spec) (i : ℕ) (all : Bool) → i < length ss → list_any f (drop i ss) ≡ all
    → f (numbered no_spec ss (i + 1)) ≡ true → true ≡ all
any_there f ss i all l so_far here = sym (ap (λ b. b || list_any f (drop (i + 1) ss)) here) ∙ sym (any_more f ss i l) ∙ so_far
