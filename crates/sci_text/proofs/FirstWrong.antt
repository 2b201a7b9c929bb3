-- At most one line of a text is the first with which its lines are no front.
use Rattle.std.proofs.Common.{◌≡◌, ℕ, ◌+◌, ◌<◌, ◌≤◌, List, [], ◌∷◌, ◌++◌, length, false, ⊎_elim, refl, sym, ap, ◌∙◌, subst, arith, append_assoc, length-append}
use Rattle.std.proofs.lemmas.Bool.{cases_order}
use Rattle.sci_text.specs.Lines.{has_lf, with_lf, joined, AllClear}
use Rattle.sci_text.proofs.Splits.{joined-append, first_line}

clear_parts : (a b : List (List ℕ)) → AllClear (a ++ b) → AllClear a × AllClear b
clear_parts [] b f = (tt, f)
clear_parts (l ∷ a) b f = let i = clear_parts a b f.1 in ((f.0, i.0), i.1)

-- lines that are split from the same text are the beginning of one another
prefix : (a b : List (List ℕ)) (x y : List ℕ) → AllClear a → AllClear b → length a ≤ length b → joined a ++ x ≡ joined b ++ y → (ks : List (List ℕ)) × (b ≡ a ++ ks) × (x ≡ joined ks ++ y)
prefix [] b x y f g h e = (b, refl, e)
prefix (l ∷ a) [] x y f g h e = absurd (omega (arith, h))
prefix (l ∷ a) (m ∷ b) x y f g h e =
    let s = first_line l m (joined a ++ x) (joined b ++ y) f.0 g.0 (sym (append_assoc (with_lf l) (joined a) x) ∙ e ∙ append_assoc (with_lf m) (joined b) y) in
    let i = prefix a b x y f.1 g.1 (omega (arith, h)) s.1 in
    (i.0, ap (λ (q : List ℕ). q ∷ b) (sym s.0) ∙ ap (λ (t : List (List ℕ)). l ∷ t) i.1, i.2)

-- with the line that follows these lines they are no front
abbrev pub IsWrong : (List ℕ → Type 0) → List (List ℕ) → List ℕ → Type 0
IsWrong Front before rest = (line more : List ℕ) → has_lf line ≡ false → rest ≡ with_lf line ++ more → Front (joined before ++ with_lf line) → ⊥

module _ (Front : List ℕ → Type 0) (shorter : (a b : List ℕ) → Front (a ++ b) → Front a) where
  -- the next line isn't wrong where more lines are a front
  no_next : (a ks : List (List ℕ)) (x y : List ℕ) → AllClear ks → 0 < length ks → x ≡ joined ks ++ y → Front (joined (a ++ ks)) → IsWrong Front a x → ⊥
  no_next a [] x y c h e f wrong = absurd (omega (arith, h))
  no_next a (l ∷ ks) x y c h e f wrong =
      let parts : joined (a ++ (l ∷ ks)) ≡ (joined a ++ with_lf l) ++ joined ks = joined-append a (l ∷ ks) ∙ sym (append_assoc (joined a) (with_lf l) (joined ks)) in
      wrong l (joined ks ++ y) c.0 (e ∙ append_assoc (with_lf l) (joined ks) y) (shorter (joined a ++ with_lf l) (joined ks) (subst Front parts f))

  not_earlier : (a b : List (List ℕ)) (x y : List ℕ) → AllClear a → AllClear b → joined a ++ x ≡ joined b ++ y → Front (joined b) → IsWrong Front a x → length a < length b → ⊥
  not_earlier a b x y c d e f wrong less =
      let p = prefix a b x y c d (omega (arith, less)) e in
      let size : length b ≡ length a + length p.0 = ap (λ (ls : List (List ℕ)). length ls) p.1 ∙ length-append a p.0 in
      no_next a p.0 x y (clear_parts a p.0 (subst AllClear p.1 d)).1 (omega (arith, less, size)) p.2 (subst (λ (ls : List (List ℕ)). Front (joined ls)) p.1 f) wrong

  -- as many lines stand before one as before the other
  pub one_first_wrong : (a b : List (List ℕ)) (x y : List ℕ) → AllClear a → AllClear b → joined a ++ x ≡ joined b ++ y → Front (joined a) → Front (joined b) → IsWrong Front a x → IsWrong Front b y → length a ≡ length b
  one_first_wrong a b x y c d e f g u v =
      ⊎_elim (λ h. h) (λ o. ⊎_elim (λ h. absurd (not_earlier a b x y c d e g u h)) (λ h. absurd (not_earlier b a y x d c (sym e) f v h)) o) (cases_order (length a) (length b))
