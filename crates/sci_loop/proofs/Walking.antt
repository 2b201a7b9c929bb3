-- A walk, step by step.
use Rattle.std.proofs.Common.{◌≡◌, ◌≢◌, ◌<◌, ◌≤◌, ◌+◌, ◌↔◌, ℕ, zero, suc, List, [], ◌∷◌, ◌++◌, length, Bool, true, false, inl, inr, refl, sym, ap, ◌∙◌, subst, arith, append_assoc, get_or, get_or-set_same, get_or-set_other, length-set, length-append, true≢false}
use Rattle.std.proofs.Math.ListN.{set, replicate, take, drop}
use Rattle.std.specs.Prelude.{Contains, All, nat_eq}
use Rattle.std.specs.List.{IsDistinct, AllByRecursion}
use Rattle.std.proofs.lemmas.Bool.Decides.{eqb_tells}
use Rattle.std.proofs.lemmas.Bool.{ne_eqb}
use Rattle.std.proofs.lemmas.List.{take_more, take_all, drop_all, take-append-le, append-nil}
use Rattle.std.proofs.lemmas.List.Elements.{Contains-append_left, Contains-append_right, Contains-append_cases, Contains-push, Contains-push_cases, Contains-get_or}
use Rattle.sci_loop.specs.Lists.{list_at}
use Rattle.sci_loop.specs.Reached.{IsReached, start, onward}
use Rattle.sci_loop.specs.Walk.{Found, IsMarked, unmarked, AreMarks, AddsNumbers, Walking}

-- a mark is put only on numbers that are there
pub marked_inside : (ts : List Bool) (q : ℕ) → IsMarked ts q → q < length ts
marked_inside [] q e = absurd (true≢false (sym e))
marked_inside (t ∷ ts) zero e = omega arith
marked_inside (t ∷ ts) (suc q) e = omega (arith, marked_inside ts q e)

pub none_marked : (n q : ℕ) → IsMarked (replicate n false) q → ⊥
none_marked zero q e = true≢false (sym e)
none_marked (suc n) zero e = true≢false (sym e)
none_marked (suc n) (suc q) e = none_marked n q e

-- one more has a mark
count_set : (ts : List Bool) (q : ℕ) → q < length ts → get_or ts q false ≡ false → suc (unmarked (set ts q true)) ≡ unmarked ts
count_set [] q h off = absurd (omega arith)
count_set (t ∷ ts) zero h off = rw off (omega arith)
count_set (t ∷ ts) (suc q) h off = let r = count_set ts q (omega arith) off in omega (arith, r)

no_element : (q : ℕ) → Contains [] q → ⊥
no_element q has = absurd (omega (arith, has.1))

unmarked-none : (ts : List Bool) → ((q : ℕ) → IsMarked ts q → ⊥) → unmarked ts ≡ length ts
unmarked-none [] none = refl
unmarked-none (true ∷ ts) none = absurd (none 0 refl)
unmarked-none (false ∷ ts) none = let r = unmarked-none ts (λ q e. none (suc q) e) in omega (arith, r)

-- no marks, and nothing found
pub are_marks_none : (ts : List Bool) → ((q : ℕ) → IsMarked ts q → ⊥) → AreMarks ts []
unfolding IsDistinct
are_marks_none ts none = record {
  exactly = λ q. ((λ e. absurd (none q e)), λ c. absurd (no_element q c));
  distinct = tt;
  sum = let r = unmarked-none ts none in omega (arith, r);
}

unmarked-push : (ts : List Bool) → unmarked (ts ++ false ∷ []) ≡ unmarked ts + 1
unmarked-push [] = refl
unmarked-push (t ∷ ts) = let r = unmarked-push ts in omega (arith, r)

marked-push : (ts : List Bool) (q : ℕ) → get_or (ts ++ false ∷ []) q false ≡ get_or ts q false
marked-push [] zero = refl
marked-push [] (suc q) = refl
marked-push (t ∷ ts) zero = refl
marked-push (t ∷ ts) (suc q) = marked-push ts q

-- one number more, without a mark
pub are_marks_grown : (ts new : List Bool) (found : List ℕ) → new ≡ ts ++ false ∷ [] → AreMarks ts found → AreMarks new found
are_marks_grown ts new found e m = let P : List Bool → Type 0 = λ l. AreMarks l found in subst P (sym e) (record {
  exactly = λ q. ((λ s. (m.exactly q).0 (sym (marked-push ts q) ∙ s)), λ c. marked-push ts q ∙ (m.exactly q).1 c);
  distinct = m.distinct;
  sum = let a = unmarked-push ts in let b = length-append ts (false ∷ []) in let c = m.sum in omega arith;
})

distinct-push : (xs : List ℕ) (p : ℕ) → (Contains xs p → ⊥) → IsDistinct nat_eq xs → IsDistinct nat_eq (xs ++ p ∷ [])
unfolding IsDistinct
distinct-push [] p new d = (tt, tt)
distinct-push (x ∷ xs) p new d = (differs xs d.0, distinct-push xs p (λ h. new (Contains-append_right (x ∷ []) xs p h)) d.1)
  where
    apart : nat_eq x p ≡ false
    apart = ne_eqb x p (λ e. new (subst (λ z. Contains (x ∷ xs) z) e (Contains-get_or (x ∷ xs) 0 0 (omega arith))))

    differs : (ys : List ℕ) → AllByRecursion (λ y. nat_eq x y ≡ false) ys → AllByRecursion (λ y. nat_eq x y ≡ false) (ys ++ p ∷ [])
    differs [] a = (apart, tt)
    differs (y ∷ ys) a = (a.0, differs ys a.1)

pub are_marks_new : (ts : List Bool) (found : List ℕ) (n : ℕ) → ts ≡ replicate n false → found ≡ [] → AreMarks ts found
are_marks_new ts found n off none = let P : List ℕ → Type 0 = λ l. AreMarks ts l in subst P (sym none) (are_marks_none ts (λ q s. none_marked n q (subst (λ x. IsMarked x q) off s)))

-- what is found is there
pub all_inside : (ts : List Bool) (found : List ℕ) → AreMarks ts found → All (λ q. q < length ts) found
all_inside ts found m k d h =
    marked_inside ts (get_or found k d) ((m.exactly (get_or found k d)).1 (Contains-get_or found k d h))

-- the marks of these numbers were taken away
pub record AreTaken (numbers : List ℕ) (old new : List Bool) : Type 0 where
  pub long : length new ≡ length old
  pub kept : (q : ℕ) → IsMarked new q → IsMarked old q
  pub taken : (q : ℕ) → IsMarked new q → Contains numbers q → ⊥

pub taken_none : (ts : List Bool) → AreTaken [] ts ts
taken_none ts = record { long = refl; kept = λ q s. s; taken = λ q s c. no_element q c }

pub taken_more : (ps : List ℕ) (p : ℕ) (old mid new : List Bool) → p < length old → new ≡ set mid p false → AreTaken ps old mid → AreTaken (ps ++ p ∷ []) old new
taken_more ps p old mid new inside e t = record {
  long = ap length e ∙ (length-set mid p false ∙ t.long);
  kept = λ q s. t.kept q (before q s);
  taken = λ q s c. elim (Contains-push_cases ps p q c) [ inl a ↦ t.taken q (before q s) a | inr is ↦ off q is s ];
}
  where
    gone : get_or new p false ≡ false
    gone = let long = t.long in ap (λ (x : List Bool). get_or x p false) e ∙ get_or-set_same mid p false false (omega arith)

    off : (q : ℕ) → p ≡ q → IsMarked new q → ⊥
    off q is s = true≢false (sym s ∙ (ap (λ z. get_or new z false) (sym is) ∙ gone))

    before : (q : ℕ) → IsMarked new q → IsMarked mid q
    before q s = elim (eqb_tells q p) [
      | inl t ↦ absurd (off q (sym t.1) s)
      | inr t ↦ sym (ap (λ (x : List Bool). get_or x q false) e ∙ get_or-set_other mid p q false false t.1) ∙ s
    ]

-- all the items of a vector, as a slice of it was changed
whole : (n : ℕ) (old new : List Bool) → n ≡ length old → length new ≡ length old → take n (new ++ drop (length new) old) ≡ new
whole n old new e f = ap (λ l. take n (new ++ l)) (drop_all (length new) old (omega arith)) ∙ (ap (take n) (append-nil new) ∙ take_all n new (omega arith))

-- with the marks of all that was found taken away
pub are_marks_forgotten : (n : ℕ) (ts new : List Bool) (found none : List ℕ) → n ≡ length ts → length new ≡ length ts → none ≡ [] → AreMarks ts found → ((q : ℕ) → IsMarked new q → IsMarked ts q) → ((q : ℕ) → IsMarked new q → Contains found q → ⊥)
    → AreMarks (take n (new ++ drop (length new) ts)) none
are_marks_forgotten n ts new found none e f is m kept taken =
    let P : List ℕ → Type 0 = λ l. AreMarks (take n (new ++ drop (length new) ts)) l in
    let Q : List Bool → Type 0 = λ l. AreMarks l [] in
    subst P (sym is) (subst Q (sym (whole n ts new e f)) (are_marks_none new (λ q s. taken q s ((m.exactly q).0 (kept q s)))))

-- a number that had no mark gets it, and is found
pub are_marks_added : (ts new : List Bool) (found all : List ℕ) (p : ℕ) → p < length ts → get_or ts p false ≡ false → new ≡ set ts p true → all ≡ found ++ p ∷ [] → AreMarks ts found → AreMarks new all
are_marks_added ts new found all p inside off e f m = record {
  exactly = λ q. (
    (λ s. elim (eqb_tells q p) [
      | inl t ↦ rw (f, t.1) (Contains-push found p)
      | inr t ↦ rw f (Contains-append_left found (p ∷ []) q ((m.exactly q).0 (sym (same q t.1) ∙ s)))
    ]),
    λ c. elim (eqb_tells q p) [
      | inl t ↦ rw t.1 here
      | inr t ↦ elim (Contains-push_cases found p q (subst (λ x. Contains x q) f c)) [ inl a ↦ same q t.1 ∙ (m.exactly q).1 a | inr is ↦ absurd (t.1 (sym is)) ]
    ],
  );
  distinct = rw f (distinct-push found p (λ h. true≢false (sym ((m.exactly p).1 h) ∙ off)) m.distinct);
  sum =
      let one = count_set ts p inside off in
      let marks = ap unmarked e in
      let long = ap length e ∙ length-set ts p true in
      let more = ap length f ∙ length-append found (p ∷ []) in
      let before = m.sum in
      omega arith;
}
  where
    here : IsMarked new p
    here = ap (λ (x : List Bool). get_or x p false) e ∙ get_or-set_same ts p true false inside

    same : (q : ℕ) → q ≢ p → get_or new q false ≡ get_or ts q false
    same q d = ap (λ (x : List Bool). get_or x q false) e ∙ get_or-set_other ts p q true false d

-- ---- what was found, as numbers are added

pub adds_none : (f : Found) → AddsNumbers [] f f
adds_none f = record {
  count = refl;
  more = [];
  found = sym (append-nil f.found);
  exactly = λ q. ((λ c. inl c), λ h. elim h [ inl a ↦ a | inr b ↦ absurd (no_element q b) ]);
}

-- one number that was found before
pub adds_again : (p : ℕ) (f : Found) → Contains f.found p → AddsNumbers (p ∷ []) f f
adds_again p f has = record {
  count = refl;
  more = [];
  found = sym (append-nil f.found);
  exactly = λ q. ((λ c. inl c), λ h. elim h [ inl a ↦ a | inr b ↦ elim (Contains-push_cases [] p q b) [ inl c ↦ absurd (no_element q c) | inr e ↦ subst (λ z. Contains f.found z) e has ] ]);
}

-- one number that is found now
pub adds_first : (p : ℕ) (old new : Found) → new.count ≡ old.count → new.found ≡ old.found ++ p ∷ [] → AddsNumbers (p ∷ []) old new
adds_first p old new count e = record {
  count = count;
  more = p ∷ [];
  found = e;
  exactly = λ q. (
    (λ c. Contains-append_cases old.found (p ∷ []) q (subst (λ x. Contains x q) e c)),
    λ h. elim h [
      | inl a ↦ rw e (Contains-append_left old.found (p ∷ []) q a)
      | inr b ↦ rw e (Contains-append_right old.found (p ∷ []) q b)
    ],
  );
}

-- first these, and then those
pub adds_both : (ps qs all : List ℕ) (old mid new : Found) → all ≡ ps ++ qs → AddsNumbers ps old mid → AddsNumbers qs mid new → AddsNumbers all old new
adds_both ps qs all old mid new is a b = record {
  count = b.count ∙ a.count;
  more = a.more ++ b.more;
  found = b.found ∙ (ap (λ l. l ++ b.more) a.found ∙ append_assoc old.found a.more b.more);
  exactly = λ q. (
    (λ c. elim ((b.exactly q).0 c) [
      | inl m ↦ elim ((a.exactly q).0 m) [ inl o ↦ inl o | inr p ↦ inr (rw is (Contains-append_left ps qs q p)) ]
      | inr d ↦ inr (rw is (Contains-append_right ps qs q d))
    ]),
    λ h. (b.exactly q).1 (elim h [
      | inl o ↦ inl ((a.exactly q).1 (inl o))
      | inr c ↦ elim (Contains-append_cases ps qs q (subst (λ x. Contains x q) is c)) [ inl p ↦ inl ((a.exactly q).1 (inr p)) | inr d ↦ inr d ]
    ]),
  );
}

-- ---- a walk

pub walking_begins : (ls : List (List ℕ)) (starts : List ℕ) (n : ℕ) (old new : Found) → old ≡ record { count = n; found = [] } → AddsNumbers starts old new → Walking ls starts n 0 new
walking_begins ls starts n old new e a = record {
  count = a.count ∙ ap (λ (f : Found). f.count) e;
  done = omega arith;
  sound = λ q c. elim ((a.exactly q).0 c) [ inl o ↦ absurd (nothing q o) | inr s ↦ start q s ];
  begun = λ q c. (a.exactly q).1 (inr c);
  goes_on = λ p q c d. absurd (no_element p c);
}
  where
    nothing : (q : ℕ) → Contains old.found q → ⊥
    nothing q c = no_element q (subst (λ (f : Found). Contains f.found q) e c)

-- the walk goes on from the number at a place
pub walking_more : (ls : List (List ℕ)) (starts : List ℕ) (n at p : ℕ) (now new : Found) → at < length now.found → p ≡ get_or now.found at 0 → Walking ls starts n at now → AddsNumbers (list_at ls p) now new → Walking ls starts n (at + 1) new
walking_more ls starts n at p now new inside is w a = record {
  count = a.count ∙ w.count;
  done = let long = ap length a.found ∙ length-append now.found a.more in omega arith;
  sound = λ q c. elim ((a.exactly q).0 c) [ inl o ↦ w.sound q o | inr d ↦ onward p q (w.sound p has) d ];
  begun = λ q c. (a.exactly q).1 (inl (w.begun q c));
  goes_on = λ r q c d. elim (Contains-push_cases (take at now.found) p r (subst (λ x. Contains x r) front c)) [
    | inl b ↦ (a.exactly q).1 (inl (w.goes_on r q b d))
    | inr e ↦ (a.exactly q).1 (inr (subst (λ z. Contains (list_at ls z) q) (sym e) d))
  ];
}
  where
    has : Contains now.found p
    has = subst (λ z. Contains now.found z) (sym is) (Contains-get_or now.found at 0 inside)

    front : take (at + 1) new.found ≡ take at now.found ++ p ∷ []
    front =
        ap (take (at + 1)) a.found ∙ (take-append-le (at + 1) now.found a.more (omega arith) ∙ (take_more now.found at 0 inside ∙ ap (λ z. take at now.found ++ z ∷ []) (sym is)))

-- with nothing left to go on from all is found that is reached
pub walking_ends : (ls : List (List ℕ)) (starts : List ℕ) (n at : ℕ) (f : Found) → length f.found ≤ at → Walking ls starts n at f → (q : ℕ) → Contains f.found q ↔ IsReached ls starts q
walking_ends ls starts n at f end w q = (w.sound q, all)
  where
    all : {q : ℕ} → IsReached ls starts q → Contains f.found q
    all (start q c) = w.begun q c
    all (onward p q before d) = w.goes_on p q (subst (λ x. Contains x p) (sym (take_all at f.found end)) (all before)) d

-- with nothing found before, what is found are the numbers that are added
pub taken_are : (n : ℕ) (numbers : List ℕ) (old new : Found) → old ≡ record { count = n; found = [] } → AddsNumbers numbers old new → (q : ℕ) → Contains new.found q ↔ Contains numbers q
taken_are n numbers old new e a q = (
  (λ c. elim ((a.exactly q).0 c) [ inl o ↦ absurd (no_element q (subst (λ (f : Found). Contains f.found q) e o)) | inr s ↦ s ]),
  λ c. (a.exactly q).1 (inr c),
)
