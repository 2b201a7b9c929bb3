-- Facts that hold or do not.
use Rattle.std.proofs.Common.{◌≡◌, Bool, true, ◌⊎◌, inl, inr, ⊎_elim, sym, ◌∙◌, true≢false}
use Rattle.std.proofs.lemmas.Bool.{cases_Bool}

abbrev pub Decided : Type 0 → Type 0
Decided P = P ⊎ (P → ⊥)

pub decide_true : (b : Bool) → Decided (b ≡ true)
decide_true b = ⊎_elim (λ on. inl on) (λ off. inr (λ h. true≢false (sym h ∙ off))) (cases_Bool b)
