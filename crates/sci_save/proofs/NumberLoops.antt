-- Reading the numbers of a line one after another, as a loop does.
use Rattle.std.proofs.Common.{◌≡◌, ℕ, ◌+◌, ◌<◌, ◌≤◌, ℤ, List, [], ◌∷◌, ◌++◌, length, get_or, drop, Option, Some, None, Ok, Err, refl, sym, ap, ◌∙◌, append_assoc, append-nil}
use Rattle.std.specs.Prelude.{codes}
use Rattle.std.proofs.lemmas.List.{drop_more, drop_all}
use Rattle.sci_text.specs.Reading.{◌>>=◌, after}
use Rattle.sci_save.specs.declared.bounds.Bounds.{Bounds}
use Rattle.sci_save.specs.Numbers.{below_zero, next_number, line_end, numbers_at}
use Rattle.sci_save.specs.Reading.{told}

-- ---- the number below 0 of a size

pub below_none : (size : ℕ) (rest : List ℕ) → size ≡ 0 → None ≡ below_zero size rest
below_none size rest e = sym (ap (λ (m : ℕ). below_zero m rest) e)

-- ---- numbers of a line

abbrev ended_line : Option (List ℕ) → Option (List ℤ × List ℕ)
ended_line o = o >>= λ rest. Some ([], rest)

-- what was read before, and what is still read
abbrev pub front_numbers : List ℤ → Option (List ℤ × List ℕ) → Option (List ℤ × List ℕ)
front_numbers front (Some x) = Some (front ++ x.0, x.1)
front_numbers front None = None

abbrev cons_number : ℤ → Option (List ℤ × List ℕ) → Option (List ℤ × List ℕ)
cons_number z (Some x) = Some (z ∷ x.0, x.1)
cons_number z None = None

front_cons : (front : List ℤ) (z : ℤ) (o : Option (List ℤ × List ℕ)) → front_numbers front (cons_number z o) ≡ front_numbers (front ++ z ∷ []) o
front_cons front z (Some x) = ap (λ (l : List ℤ). Some (l, x.1)) (simp append_assoc)
front_cons front z None = refl

consed : (z : ℤ) (o : Option (List ℤ × List ℕ)) → (o >>= λ xs. Some (z ∷ xs.0, xs.1)) ≡ cons_number z o
consed z (Some x) = refl
consed z None = refl

numbers_next : (rs : List Bounds) (i : ℕ) (d : Bounds) (bytes : List ℕ) (z : ℤ) (behind : List ℕ) → i < length rs → next_number (get_or rs i d) bytes ≡ Some (z, behind)
    → numbers_at (drop i rs) bytes ≡ cons_number z (numbers_at (drop (i + 1) rs) behind)
unfolding numbers_at
numbers_next rs i d bytes z behind h e = ap (λ (l : List Bounds). numbers_at l bytes) (drop_more rs i d h) ∙ rw e (consed z (numbers_at (drop (i + 1) rs) behind))

numbers_none : (rs : List Bounds) (i : ℕ) (d : Bounds) (bytes : List ℕ) → i < length rs → next_number (get_or rs i d) bytes ≡ None → numbers_at (drop i rs) bytes ≡ None
unfolding numbers_at
numbers_none rs i d bytes h e = ap (λ (l : List Bounds). numbers_at l bytes) (drop_more rs i d h) ∙ rw e refl

pub numbers_go_on : (front : List ℤ) (rs : List Bounds) (i : ℕ) (d : Bounds) (bytes : List ℕ) (z : ℤ) (behind : List ℕ) (total : Option (List ℤ × List ℕ)) → i < length rs
    → next_number (get_or rs i d) bytes ≡ Some (z, behind) → front_numbers front (numbers_at (drop i rs) bytes) ≡ total → front_numbers (front ++ z ∷ []) (numbers_at (drop (i + 1) rs) behind) ≡ total
numbers_go_on front rs i d bytes z behind total h e so_far =
    sym (front_cons front z (numbers_at (drop (i + 1) rs) behind)) ∙ ap (front_numbers front) (sym (numbers_next rs i d bytes z behind h e)) ∙ so_far

pub numbers_break : (front : List ℤ) (rs : List Bounds) (i : ℕ) (d : Bounds) (bytes : List ℕ) (left : ℕ) (total : Option (List ℤ × List ℕ)) → i < length rs
    → next_number (get_or rs i d) bytes ≡ None → front_numbers front (numbers_at (drop i rs) bytes) ≡ total → told left total ≡ Err left
numbers_break front rs i d bytes left total h e so_far = ap (told left) (sym so_far ∙ ap (front_numbers front) (numbers_none rs i d bytes h e))

numbers_last : (rs : List Bounds) (i : ℕ) (bytes : List ℕ) → length rs ≤ i → numbers_at (drop i rs) bytes ≡ line_end bytes
unfolding numbers_at
numbers_last rs i bytes h = ap (λ (l : List Bounds). numbers_at l bytes) (drop_all i rs h)

pub numbers_end : (front : List ℤ) (rs : List Bounds) (i : ℕ) (bytes end : List ℕ) (left : ℕ) (total : Option (List ℤ × List ℕ)) → length rs ≤ i → after (codes "\n") bytes ≡ Some end
    → front_numbers front (numbers_at (drop i rs) bytes) ≡ total → told left total ≡ Ok (front, end)
numbers_end front rs i bytes end left total h e so_far =
    ap (told left) (sym so_far ∙ ap (front_numbers front) (numbers_last rs i bytes h ∙ ended (after (codes "\n") bytes) e) ∙ ap (λ (l : List ℤ). Some (l, end)) (append-nil front))
  where
    ended : (o : Option (List ℕ)) → o ≡ Some end → ended_line o ≡ Some ([], end)
    ended o f = ap ended_line f

pub numbers_open : (front : List ℤ) (rs : List Bounds) (i : ℕ) (bytes : List ℕ) (left : ℕ) (total : Option (List ℤ × List ℕ)) → length rs ≤ i → after (codes "\n") bytes ≡ None
    → front_numbers front (numbers_at (drop i rs) bytes) ≡ total → told left total ≡ Err left
numbers_open front rs i bytes left total h e so_far =
    ap (told left) (sym so_far ∙ ap (front_numbers front) (numbers_last rs i bytes h ∙ ap ended_line e))
