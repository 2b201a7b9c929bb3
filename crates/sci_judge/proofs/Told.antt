-- What a comparing sink took, told with its text.
use Rattle.std.proofs.Common.{◌≡◌, ◌<◌, ℕ, Bool, true, List, [], ◌∷◌, ◌++◌, length, refl, sym, ap, ◌∙◌, arith, append_assoc, append-nil, inl, inr, Some, Result, Ok, Err}
use Rattle.sci_io.specs.Taken.{Writes, Advances}
use Rattle.sci_agree.specs.Compared.{Compared, taken_by, state_of, WasGiven}
use Rattle.sci_judge.specs.Against.{Against, told}

module _ (old new : Compared) (same : new.text ≡ old.text) where
  abbrev full : Compared → List ℕ
  full c = length c.text ∷ (c.text ++ taken_by c)

  grown : (front : List ℕ) → taken_by new ≡ taken_by old ++ front → full new ≡ full old ++ front
  grown front is =
      ap (λ (t : List ℕ). length t ∷ (t ++ taken_by new)) same
      ∙ ap (λ (l : List ℕ). length old.text ∷ l) (ap (λ (l : List ℕ). old.text ++ l) is ∙ sym (append_assoc old.text (taken_by old) front))

  advances : (due rest : List ℕ) → Advances (Some (taken_by old)) (Some (taken_by new)) due rest → Advances (Some (full old)) (Some (full new)) due rest
  advances due rest a = record { front = a.front; split = a.split; taken = grown a.front a.taken }

  pub told_writes : {T E : Type 0} (piece : List ℕ) (r : Result T E) → Writes (state_of old) (state_of new) piece r
      → Writes (told (record { compared = old })) (told (record { compared = new })) piece r
  told_writes piece (Ok x) w = record {
    ok = advances ([] ++ piece) [] w.ok;
    quiet = w.quiet;
    works = w.works;
    cut = tt;
    dropped = tt;
    cause = tt;
    fails = tt;
    later = w.later;
  }
  told_writes piece (Err e) w = record {
    ok = tt;
    quiet = tt;
    works = tt;
    cut = (let c = w.cut in (c.0, advances ([] ++ piece) c.0 c.1));
    dropped = w.dropped;
    cause = w.cause;
    fails = w.fails;
    later = w.later;
  }

-- ---- back

head_is : (x y : ℕ) (xs ys : List ℕ) → x ∷ xs ≡ y ∷ ys → x ≡ y
head_is x y xs ys e = cc e

tail_is : (x y : ℕ) (xs ys : List ℕ) → x ∷ xs ≡ y ∷ ys → xs ≡ ys
tail_is x y xs ys e = cc e

-- lists that go on alike behind fronts of one length
fronts : (a b xs ys : List ℕ) → length a ≡ length b → a ++ xs ≡ b ++ ys → (a ≡ b) × (xs ≡ ys)
fronts [] [] xs ys long e = (refl, e)
fronts [] (y ∷ b) xs ys long e = absurd (omega (arith, long))
fronts (x ∷ a) [] xs ys long e = absurd (omega (arith, long))
fronts (x ∷ a) (y ∷ b) xs ys long e =
    let rest = fronts a b xs ys (omega (arith, long)) (tail_is x y (a ++ xs) (b ++ ys) e) in
    (ap (λ l. x ∷ l) rest.0 ∙ ap (λ z. z ∷ b) (head_is x y (a ++ xs) (b ++ ys) e), rest.1)

module _ (old new : Compared) (none : taken_by old ≡ []) (front : List ℕ) where
  whole : length new.text ∷ (new.text ++ taken_by new) ≡ (length old.text ∷ (old.text ++ taken_by old)) ++ front → new.text ++ taken_by new ≡ old.text ++ front
  whole e =
      tail_is (length new.text) (length old.text) (new.text ++ taken_by new) ((old.text ++ taken_by old) ++ front) e
      ∙ (append_assoc old.text (taken_by old) front ∙ ap (λ (l : List ℕ). old.text ++ (l ++ front)) none)

  pub told_back : length new.text ∷ (new.text ++ taken_by new) ≡ (length old.text ∷ (old.text ++ taken_by old)) ++ front → (new.text ≡ old.text) × (taken_by new ≡ front)
  told_back e =
      fronts new.text old.text (taken_by new) front
      (head_is (length new.text) (length old.text) (new.text ++ taken_by new) ((old.text ++ taken_by old) ++ front) e) (whole e)

-- what was given where a text was written to a sink to which nothing had been given
pub was_given : {T E : Type 0} (old new : Against) (due : List ℕ) (r : Result T E) → taken_by old.compared ≡ [] → old.compared.faults ≡ 0 → Writes (told old) (told new) due r
    → (new.compared.text ≡ old.compared.text) × WasGiven due new.compared
was_given old new due (Ok x) none sound w =
    let b = told_back old.compared new.compared none w.ok.front w.ok.taken in
    (b.0, inl (b.1 ∙ sym (w.ok.split ∙ append-nil w.ok.front), w.quiet ∙ sound))
was_given old new due (Err e) none sound w =
    let c = w.cut.1 in
    let b = told_back old.compared new.compared none c.front c.taken in
    (b.0, inr (w.cut.0, c.split ∙ ap (λ (l : List ℕ). l ++ w.cut.0) (sym b.1), (let one_more = w.cause in omega (arith, one_more, sound))))
