-- Lines and their LFs.
use Rattle.std.proofs.Common.{◌≡◌, ℕ, List, [], ◌∷◌, ◌++◌, Option, Some, Bool, true, false, refl, sym, ap, ◌∙◌, append_assoc, append-nil}
use Rattle.std.specs.Prelude.{nat_eq, ◌||◌}
use Rattle.std.proofs.lemmas.Bool.{eqb-false, or_parts}
use Rattle.std.proofs.lemmas.List.Concat.{flat_map-append}
use Rattle.sci_text.specs.Reading.{◌>>=◌}
use Rattle.sci_text.specs.Lines.{has_lf, with_lf, joined, AllClear, through}
use Rattle.sci_text.proofs.Parts.{bind_some}

or_true : (a b : Bool) → b ≡ true → (a || b) ≡ true
or_true true b e = refl
or_true false b e = e

pub line_has_lf : (a x : List ℕ) → has_lf (with_lf a ++ x) ≡ true
line_has_lf [] x = refl
line_has_lf (c ∷ a) x = or_true (nat_eq 10 c) (has_lf (with_lf a ++ x)) (line_has_lf a x)

-- the first line of a text is one
pub first_line : (a b x y : List ℕ) → has_lf a ≡ false → has_lf b ≡ false → with_lf a ++ x ≡ with_lf b ++ y → (a ≡ b) × (x ≡ y)
first_line [] [] x y e f h = (refl, cc)
first_line [] (c ∷ b) x y e f h = let p = or_parts (nat_eq 10 c) (has_lf b) f in let same : 10 ≡ c = cc in absurd (eqb-false 10 c p.0 same)
first_line (c ∷ a) [] x y e f h = let p = or_parts (nat_eq 10 c) (has_lf a) e in let same : 10 ≡ c = cc in absurd (eqb-false 10 c p.0 same)
first_line (c ∷ a) (d ∷ b) x y e f h =
    let p = or_parts (nat_eq 10 c) (has_lf a) e in
    let q = or_parts (nat_eq 10 d) (has_lf b) f in
    let heads : c ≡ d = cc in
    let tails : with_lf a ++ x ≡ with_lf b ++ y = cc in
    let i = first_line a b x y p.1 q.1 tails in
    let is = i.0 in
    (cc, i.1)

pub joined-append : (a b : List (List ℕ)) → joined (a ++ b) ≡ joined a ++ joined b
joined-append a b = flat_map-append with_lf a b

pub joined_push : (ls : List (List ℕ)) (line : List ℕ) → joined (ls ++ line ∷ []) ≡ joined ls ++ with_lf line
joined_push ls line = joined-append ls (line ∷ []) ∙ ap (λ (t : List ℕ). joined ls ++ t) (append-nil (with_lf line))

pub clear_append : (a b : List (List ℕ)) → AllClear a → AllClear b → AllClear (a ++ b)
clear_append [] b f g = g
clear_append (l ∷ a) b f g = (f.0, clear_append a b f.1 g)

-- lines at the beginning of a text are its first lines
pub split_lines : (ls ms : List (List ℕ)) (more : List ℕ) → AllClear ls → AllClear ms → joined ms ≡ joined ls ++ more → (ks : List (List ℕ)) × (ms ≡ ls ++ ks) × (joined ks ≡ more)
split_lines [] ms more f g e = (ms, refl, e)
split_lines (l ∷ ls) [] more f g e = let h = line_has_lf l (joined ls ++ more) in let k : has_lf [] ≡ true = ap has_lf (e ∙ append_assoc (with_lf l) (joined ls) more) ∙ h in absurd (no_lf k)
  where
    no_lf : has_lf [] ≡ true → ⊥
    no_lf k = cc
split_lines (l ∷ ls) (m ∷ ms) more f g e =
    let s = first_line m l (joined ms) (joined ls ++ more) g.0 f.0 (e ∙ append_assoc (with_lf l) (joined ls) more) in
    let i = split_lines ls ms more f.1 g.1 s.1 in
    (i.0, ap (λ (h : List ℕ). h ∷ ms) s.0 ∙ ap (λ (t : List (List ℕ)). l ∷ t) i.1, i.2)

-- what holds no LF holds no line
pub no_line : (ks : List (List ℕ)) (rest : List ℕ) → joined ks ≡ rest → has_lf rest ≡ false → (ks ≡ []) × (rest ≡ [])
no_line [] rest e c = (refl, sym e)
no_line (l ∷ ks) rest e c = let h = line_has_lf l (joined ks) in let k : true ≡ false = sym h ∙ ap has_lf e ∙ c in absurd (differ k)
  where
    differ : true ≡ false → ⊥
    differ k = cc

-- ---- where lines lead

pub through-append : {S : Type 0} (pass : List ℕ → S → Option S) (a b : List (List ℕ)) (s t : S) → through pass a s ≡ Some t → through pass (a ++ b) s ≡ through pass b t
through-append {S} pass [] b s t e = ap (λ (q : Option S). q >>= through pass b) e
through-append {S} pass (l ∷ a) b s t e =
    let m = bind_some (pass l s) (through pass a) t e in
    ap (λ (q : Option S). q >>= through pass (a ++ b)) m.1 ∙ through-append pass a b m.0 t m.2

pub through_front : {S : Type 0} (pass : List ℕ → S → Option S) (a b : List (List ℕ)) (s t : S) → through pass (a ++ b) s ≡ Some t → (u : S) × (through pass a s ≡ Some u)
through_front {S} pass [] b s t e = (s, refl)
through_front {S} pass (l ∷ a) b s t e =
    let m = bind_some (pass l s) (through pass (a ++ b)) t e in
    let i = through_front pass a b m.0 t m.2 in
    (i.0, ap (λ (q : Option S). q >>= through pass a) m.1 ∙ i.1)
