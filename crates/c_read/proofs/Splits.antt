-- Where whole lines end.
use Rattle.std.proofs.Common.{◌≡◌, ℕ, List, [], ◌∷◌, ◌++◌, Bool, true, false, ◌⊎◌, inl, inr, sym, ap, ◌∙◌, append_assoc, append-nil}
use Rattle.sci_text.specs.Lines.{has_lf, with_lf, joined}
use Rattle.sci_text.proofs.Splits.{line_has_lf}

pub differ : (b : Bool) → b ≡ true → b ≡ false → ⊥
differ b t f = cc

-- what stands at the end of a text that ends by x
ends_by : (a r line : List ℕ) (x : ℕ) → r ++ line ≡ a ++ x ∷ [] → (line ≡ []) ⊎ ((front : List ℕ) × (line ≡ front ++ x ∷ []))
ends_by a [] line x e = inr (a, e)
ends_by [] (c ∷ r) line x e = inl (last_none r line cc)
  where
    last_none : (r line : List ℕ) → r ++ line ≡ [] → line ≡ []
    last_none [] line e = e
    last_none (c ∷ r) line e = absurd cc
ends_by (d ∷ a) (c ∷ r) line x e = ends_by a r line x cc

-- whole lines end by a LF
joined_ends : (l : List ℕ) (ls : List (List ℕ)) → (a : List ℕ) × (joined (l ∷ ls) ≡ a ++ 10 ∷ [])
joined_ends l [] = (l, append-nil (with_lf l))
joined_ends l (m ∷ ls) =
    let i = joined_ends m ls in
    (with_lf l ++ i.0, ap (λ (t : List ℕ). with_lf l ++ t) i.1 ∙ sym (append_assoc (with_lf l) i.0 (10 ∷ [])))

no_end : (line : List ℕ) → has_lf line ≡ false → (line ≡ []) ⊎ ((front : List ℕ) × (line ≡ front ++ 10 ∷ [])) → line ≡ []
no_end line c (inl e) = e
no_end line c (inr f) = absurd (differ (has_lf line) (ap has_lf (f.1 ∙ sym (append-nil (f.0 ++ 10 ∷ []))) ∙ line_has_lf f.0 []) c)

pub whole_lines : (ls : List (List ℕ)) (line rest : List ℕ) → joined ls ≡ rest ++ line → has_lf line ≡ false → line ≡ []
whole_lines [] line [] e c = sym e
whole_lines [] line (d ∷ rest) e c = absurd cc
whole_lines (l ∷ ls) line rest e c = let j = joined_ends l ls in no_end line c (ends_by j.0 rest line 10 (sym e ∙ j.1))
