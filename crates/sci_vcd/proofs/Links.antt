-- What the links between changes lead to.
use Rattle.std.proofs.Common.{◌≡◌, ℕ, zero, suc, ◌+◌, ◌-◌, ◌<◌, ◌≤◌, ℤ, List, [], ◌∷◌, ◌++◌, length, take, get_or, set, Bool, true, false, cond, ◌⊎◌, inl, inr, ⊎_elim, refl, sym, ap, ◌∙◌, subst, arith, append-nil}
use Rattle.std.specs.Prelude.{nat_eq, nat_le, filter}
use Rattle.std.proofs.lemmas.Bool.{le-leb, lt-leb, eqb-true, eq-eqb, ne_eqb, cond-true, cond-false, cases_eq, cases_lt}
use Rattle.std.proofs.lemmas.List.{take_more, take_all, length-map, get_or-map, get_or_append_left, get_or_push, get_or-set_same, get_or-set_other, length-set, length_push, map-append, nil_from_length, get_or_default}
use Rattle.std.proofs.lemmas.List.Elements.{filter-append}
use Rattle.sci_vcd.specs.declared.signal.Change.{Change}
use Rattle.sci_vcd.specs.declared.draft.Linked.{Linked}
use Rattle.sci_vcd.specs.Waveforms.{outset_of, last_from, last_of, value_behind, up_to}
use Rattle.sci_vcd.specs.Draft.{changes_of, change_no, latest_to, AreLinked}
use Rattle.sci_vcd.proofs.Eachs.{value_push}

-- ---- the last change of a signal

pub latest_le : (cs : List Change) (n k : ℕ) → latest_to cs n k ≤ k
latest_le cs n zero = omega arith
latest_le cs n (suc k) = by_test (nat_eq (change_no cs k).signal n) (latest_le cs n k)
  where
    by_test : (b : Bool) → latest_to cs n k ≤ k → cond b (suc k) (latest_to cs n k) ≤ suc k
    by_test true i = omega arith
    by_test false i = omega arith

pub latest_own : (cs : List Change) (n k : ℕ) → 0 < latest_to cs n k → (change_no cs (latest_to cs n k - 1)).signal ≡ n
latest_own cs n zero h = absurd (omega (arith, h))
latest_own cs n (suc k) h = by_test (nat_eq (change_no cs k).signal n) refl (latest_own cs n k)
  where
    by_test : (b : Bool) → nat_eq (change_no cs k).signal n ≡ b → (0 < latest_to cs n k → (change_no cs (latest_to cs n k - 1)).signal ≡ n) → (change_no cs (latest_to cs n (suc k) - 1)).signal ≡ n
    by_test true e i =
        let is : latest_to cs n (suc k) ≡ suc k = cond-true (nat_eq (change_no cs k).signal n) (suc k) (latest_to cs n k) e in
        let j : latest_to cs n (suc k) - 1 ≡ k = omega arith in
        ap (λ (i : ℕ). (change_no cs i).signal) j ∙ eqb-true (change_no cs k).signal n e
    by_test false e i =
        let is : latest_to cs n (suc k) ≡ latest_to cs n k = cond-false (nat_eq (change_no cs k).signal n) (suc k) (latest_to cs n k) e in
        ap (λ (j : ℕ). (change_no cs (j - 1)).signal) is ∙ i (subst (λ (j : ℕ). 0 < j) is h)

-- a further change leaves what stands before it
latest_push : (cs : List Change) (c : Change) (n k : ℕ) → k ≤ length cs → latest_to (cs ++ c ∷ []) n k ≡ latest_to cs n k
latest_push cs c n zero h = refl
latest_push cs c n (suc k) h =
    let less : k < length cs = omega arith in
    ap (λ (d : Change). cond (nat_eq d.signal n) (suc k) (latest_to (cs ++ c ∷ []) n k)) (get_or_append_left cs (c ∷ []) (outset_of 0) k less)
    ∙ ap (λ (j : ℕ). cond (nat_eq (change_no cs k).signal n) (suc k) j) (latest_push cs c n k (omega arith))

-- ---- the value behind the first k changes, of which those count that pass a test

abbrev pub value_to : (Change → Bool) → ℤ → ℕ → List Change → ℕ → ℤ
value_to p v n cs k = value_behind v n (filter p (take k cs))

one_kept : (b : Bool) (v : ℤ) (n : ℕ) (cs : List Change) (c : Change) → value_behind v n (cs ++ cond b (c ∷ []) []) ≡ cond b (cond (nat_eq c.signal n) c.value (value_behind v n cs)) (value_behind v n cs)
one_kept true v n cs c = value_push v n cs c
one_kept false v n cs c = ap (value_behind v n) (append-nil cs)

value_step : (p : Change → Bool) (v : ℤ) (n : ℕ) (cs : List Change) (k : ℕ) → k < length cs
    → value_to p v n cs (k + 1) ≡ cond (p (change_no cs k)) (cond (nat_eq (change_no cs k).signal n) (change_no cs k).value (value_to p v n cs k)) (value_to p v n cs k)
value_step p v n cs k h =
    let c = change_no cs k in
    ap (λ (l : List Change). value_behind v n (filter p l)) (take_more cs k (outset_of 0) h) ∙ ap (value_behind v n) (filter-append p (take k cs) (c ∷ []))
    ∙ one_kept (p c) v n (filter p (take k cs)) c

either : (b : Bool) (x : ℤ) → cond b x x ≡ x
either true x = refl
either false x = refl

-- a change of another signal, one that doesn't count, and one that does
value_other : (p : Change → Bool) (v : ℤ) (n : ℕ) (cs : List Change) (k : ℕ) → k < length cs → nat_eq (change_no cs k).signal n ≡ false → value_to p v n cs (k + 1) ≡ value_to p v n cs k
value_other p v n cs k h e =
    let c = change_no cs k in
    value_step p v n cs k h ∙ ap (λ (b : Bool). cond (p c) (cond b c.value (value_to p v n cs k)) (value_to p v n cs k)) e ∙ either (p c) (value_to p v n cs k)

pub value_passed : (p : Change → Bool) (v : ℤ) (n : ℕ) (cs : List Change) (k : ℕ) → k < length cs → p (change_no cs k) ≡ false → value_to p v n cs (k + 1) ≡ value_to p v n cs k
value_passed p v n cs k h e =
    let c = change_no cs k in
    value_step p v n cs k h ∙ cond-false (p c) (cond (nat_eq c.signal n) c.value (value_to p v n cs k)) (value_to p v n cs k) e

pub value_found : (p : Change → Bool) (v : ℤ) (n : ℕ) (cs : List Change) (k : ℕ) → k < length cs → p (change_no cs k) ≡ true → (change_no cs k).signal ≡ n → value_to p v n cs (k + 1) ≡ (change_no cs k).value
value_found p v n cs k h e is =
    let c = change_no cs k in
    value_step p v n cs k h ∙ cond-true (p c) (cond (nat_eq c.signal n) c.value (value_to p v n cs k)) (value_to p v n cs k) e
    ∙ cond-true (nat_eq c.signal n) c.value (value_to p v n cs k) (eq-eqb c.signal n is)

-- changes of other signals leave the value
pub value_latest : (p : Change → Bool) (v : ℤ) (n : ℕ) (cs : List Change) (k : ℕ) → k ≤ length cs → value_to p v n cs k ≡ value_to p v n cs (latest_to cs n k)
value_latest p v n cs zero h = refl
value_latest p v n cs (suc k) h = by_test (nat_eq (change_no cs k).signal n) refl (value_latest p v n cs k (omega arith))
  where
    by_test : (b : Bool) → nat_eq (change_no cs k).signal n ≡ b → value_to p v n cs k ≡ value_to p v n cs (latest_to cs n k) → value_to p v n cs (suc k) ≡ value_to p v n cs (latest_to cs n (suc k))
    by_test true e i = ap (λ (j : ℕ). value_to p v n cs j) (sym (cond-true (nat_eq (change_no cs k).signal n) (suc k) (latest_to cs n k) e))
    by_test false e i =
        let less : k < length cs = omega arith in
        let next : suc k ≡ k + 1 = omega arith in
        ap (λ (j : ℕ). value_to p v n cs j) next ∙ value_other p v n cs k less e ∙ i
        ∙ ap (λ (j : ℕ). value_to p v n cs j) (sym (cond-false (nat_eq (change_no cs k).signal n) (suc k) (latest_to cs n k) e))

-- ---- entries

pub entry_change : (es : List Linked) (i : ℕ) (e : Linked) → i < length es → e ≡ get_or es i e → change_no (changes_of es) i ≡ e.change
entry_change es i e h is = get_or-map (λ (x : Linked). x.change) es i e (outset_of 0) h ∙ ap (λ (x : Linked). x.change) (sym is)

pub changes_length : (es : List Linked) → length (changes_of es) ≡ length es
changes_length es = length-map es (λ (x : Linked). x.change)

all_kept : (cs : List Change) → filter (λ c. true) cs ≡ cs
all_kept [] = refl
all_kept (c ∷ cs) = ap (λ (l : List Change). c ∷ l) (all_kept cs)

whole_to : (p : Change → Bool) (v : ℤ) (n : ℕ) (cs : List Change) (k : ℕ) → length cs ≤ k → value_to p v n cs k ≡ value_behind v n (filter p cs)
whole_to p v n cs k h = ap (λ (l : List Change). value_behind v n (filter p l)) (take_all k cs h)

-- the value behind all changes, from the signal's last one
pub value_from : (p : Change → Bool) (v : ℤ) (n count : ℕ) (latest : List ℕ) (es : List Linked) → AreLinked count latest es → 1 ≤ n → n ≤ count
    → value_behind v n (filter p (changes_of es)) ≡ value_to p v n (changes_of es) (get_or latest (n - 1) 0)
value_from p v n count latest es l least most =
    let size = changes_length es in
    sym (whole_to p v n (changes_of es) (length es) (omega arith)) ∙ value_latest p v n (changes_of es) (length es) (omega arith)
    ∙ ap (λ (k : ℕ). value_to p v n (changes_of es) k) (sym (l.latest_is n least most))

pub now_from : (v : ℤ) (n count : ℕ) (latest : List ℕ) (es : List Linked) → AreLinked count latest es → 1 ≤ n → n ≤ count
    → value_behind v n (changes_of es) ≡ value_to (λ c. true) v n (changes_of es) (get_or latest (n - 1) 0)
now_from v n count latest es l least most = ap (value_behind v n) (sym (all_kept (changes_of es))) ∙ value_from (λ c. true) v n count latest es l least most

-- Walking back from change to change: the first k of them give the value, and the last of these is one of the signal.
pub record Walks (t : ℕ) (v : ℤ) (n : ℕ) (es : List Linked) (k : ℕ) : Type 0 where
  pub within : k ≤ length es
  pub same : value_behind v n (up_to t (changes_of es)) ≡ value_to (λ c. nat_le c.tick t) v n (changes_of es) k
  pub own : 0 < k → (change_no (changes_of es) (k - 1)).signal ≡ n

pub walk_start : (t : ℕ) (v : ℤ) (n count k : ℕ) (latest : List ℕ) (es : List Linked) → AreLinked count latest es → 1 ≤ n → n ≤ count → k ≡ get_or latest (n - 1) 0 → Walks t v n es k
walk_start t v n count k latest es l least most is =
    let cs = changes_of es in
    let e : k ≡ latest_to cs n (length es) = is ∙ l.latest_is n least most in
    subst (Walks t v n es) (sym e) (record {
      within = latest_le cs n (length es);
      same = value_from (λ c. nat_le c.tick t) v n count latest es l least most ∙ ap (λ (j : ℕ). value_to (λ c. nat_le c.tick t) v n cs j) (l.latest_is n least most);
      own = latest_own cs n (length es);
    })

pub walk_next : (t : ℕ) (v : ℤ) (n count k : ℕ) (latest : List ℕ) (es : List Linked) (e : Linked) → AreLinked count latest es → Walks t v n es k → 0 < k → e ≡ get_or es (k - 1) e → t < e.change.tick → Walks t v n es e.earlier
walk_next t v n count k latest es e l w some is late =
    let cs = changes_of es in
    let within = w.within in
    let size = changes_length es in
    let less : k - 1 < length es = omega arith in
    let c = entry_change es (k - 1) e less is in
    let own : e.change.signal ≡ n = ap (λ (d : Change). d.signal) (sym c) ∙ w.own some in
    let before : e.earlier ≡ latest_to cs n (k - 1) = l.earlier_is (k - 1) e less is ∙ ap (λ (m : ℕ). latest_to cs m (k - 1)) own in
    let over : nat_le (change_no cs (k - 1)).tick t ≡ false = ap (λ (d : Change). nat_le d.tick t) c ∙ lt-leb e.change.tick t late in
    let back : k ≡ (k - 1) + 1 = omega arith in
    subst (Walks t v n es) (sym before) (record {
      within = let i = latest_le cs n (k - 1) in omega arith;
      same = w.same ∙ ap (λ (j : ℕ). value_to (λ c. nat_le c.tick t) v n cs j) back ∙ value_passed (λ c. nat_le c.tick t) v n cs (k - 1) (omega arith) over ∙ value_latest (λ c. nat_le c.tick t) v n cs (k - 1) (omega arith);
      own = latest_own cs n (k - 1);
    })

pub walk_smaller : (count k : ℕ) (latest : List ℕ) (es : List Linked) (e : Linked) → AreLinked count latest es → 0 < k → k ≤ length es → e ≡ get_or es (k - 1) e → e.earlier < k
walk_smaller count k latest es e l some within is =
    let less : k - 1 < length es = omega arith in
    omega (arith, l.earlier_is (k - 1) e less is, latest_le (changes_of es) e.change.signal (k - 1))

pub walk_found : (t : ℕ) (v : ℤ) (n k : ℕ) (es : List Linked) (e : Linked) → Walks t v n es k → 0 < k → e ≡ get_or es (k - 1) e → e.change.tick ≤ t → e.change.value ≡ value_behind v n (up_to t (changes_of es))
walk_found t v n k es e w some is early =
    let cs = changes_of es in
    let within = w.within in
    let size = changes_length es in
    let less : k - 1 < length es = omega arith in
    let c = entry_change es (k - 1) e less is in
    let in_time : nat_le (change_no cs (k - 1)).tick t ≡ true = ap (λ (d : Change). nat_le d.tick t) c ∙ le-leb e.change.tick t early in
    let back : k ≡ (k - 1) + 1 = omega arith in
    sym (w.same ∙ ap (λ (j : ℕ). value_to (λ c. nat_le c.tick t) v n cs j) back ∙ value_found (λ c. nat_le c.tick t) v n cs (k - 1) (omega arith) in_time (w.own some) ∙ ap (λ (d : Change). d.value) c)

pub walk_end : (t : ℕ) (v : ℤ) (n k : ℕ) (es : List Linked) → Walks t v n es k → k ≡ 0 → v ≡ value_behind v n (up_to t (changes_of es))
walk_end t v n k es w none = sym (w.same ∙ ap (λ (j : ℕ). value_to (λ c. nat_le c.tick t) v n (changes_of es) j) none)

-- the value behind all changes: the first one, or that of the last change
pub now_none : (v : ℤ) (n count : ℕ) (latest : List ℕ) (es : List Linked) → AreLinked count latest es → 1 ≤ n → n ≤ count → get_or latest (n - 1) 0 ≡ 0 → v ≡ value_behind v n (changes_of es)
now_none v n count latest es l least most none = sym (now_from v n count latest es l least most ∙ ap (λ (j : ℕ). value_to (λ c. true) v n (changes_of es) j) none)

pub now_some : (v : ℤ) (n count k : ℕ) (latest : List ℕ) (es : List Linked) (e : Linked) → AreLinked count latest es → 1 ≤ n → n ≤ count → k ≡ get_or latest (n - 1) 0 → 0 < k → e ≡ get_or es (k - 1) e → e.change.value ≡ value_behind v n (changes_of es)
now_some v n count k latest es e l least most at some is =
    let cs = changes_of es in
    let place : k ≡ latest_to cs n (length es) = at ∙ l.latest_is n least most in
    let within = latest_le cs n (length es) in
    let size = changes_length es in
    let less : k - 1 < length es = omega arith in
    let c = entry_change es (k - 1) e less is in
    let own : (change_no cs (k - 1)).signal ≡ n = ap (λ (j : ℕ). (change_no cs (j - 1)).signal) place ∙ latest_own cs n (length es) (omega arith) in
    let back : k ≡ (k - 1) + 1 = omega arith in
    sym (now_from v n count latest es l least most ∙ ap (λ (j : ℕ). value_to (λ c. true) v n cs j) (sym at ∙ back) ∙ value_found (λ c. true) v n cs (k - 1) (omega arith) refl own ∙ ap (λ (d : Change). d.value) c)

pub latest_within : (n count k : ℕ) (latest : List ℕ) (es : List Linked) → AreLinked count latest es → 1 ≤ n → n ≤ count → k ≡ get_or latest (n - 1) 0 → k ≤ length es
latest_within n count k latest es l least most is = omega (arith, is, l.latest_is n least most, latest_le (changes_of es) n (length es))

-- ---- what is put in

pub linked_none : AreLinked 0 [] []
linked_none = record { sizes = refl; latest_is = λ n least most. absurd (omega (arith, least, most)); earlier_is = λ i e h is. absurd (omega (arith, h)) }

-- one more signal, which has no change
pub linked_signal : (count : ℕ) (latest : List ℕ) (es : List Linked) → AreLinked count latest es → changes_of es ≡ [] → AreLinked (count + 1) (latest ++ 0 ∷ []) es
linked_signal count latest es l none =
    let size = l.sizes in
    let empty : length es ≡ 0 = sym (changes_length es) ∙ ap (λ (cs : List Change). length cs) none in
    record {
      sizes = let more = length_push latest 0 in omega arith;
      latest_is = λ n least most. ⊎_elim
          (λ less. get_or_append_left latest (0 ∷ []) 0 (n - 1) (omega (arith, least, less, size)) ∙ l.latest_is n least (omega (arith, less)))
          (λ over. get_or_push latest 0 0 (n - 1) (omega (arith, least, most, over, size)) ∙ no_change n)
          (cases_lt n (count + 1));
      earlier_is = λ i e h is. absurd (omega (arith, h, empty));
    }
  where
    no_change : (n : ℕ) → 0 ≡ latest_to (changes_of es) n (length es)
    no_change n = let empty : length es ≡ 0 = sym (changes_length es) ∙ ap (λ (cs : List Change). length cs) none in let i = latest_le (changes_of es) n (length es) in omega arith

changes_push : (es : List Linked) (e : Linked) → changes_of (es ++ e ∷ []) ≡ changes_of es ++ e.change ∷ []
changes_push es e = map-append (λ (x : Linked). x.change) es (e ∷ [])

latest_last : (es : List Linked) (e : Linked) (n : ℕ) → latest_to (changes_of (es ++ e ∷ [])) n (length (es ++ e ∷ [])) ≡ cond (nat_eq e.change.signal n) (suc (length es)) (latest_to (changes_of es) n (length es))
latest_last es e n =
    let cs = changes_of es in
    let c = e.change in
    let k = length es in
    let more = length_push es e in
    let size : length (es ++ e ∷ []) ≡ suc k = omega arith in
    let same = changes_length es in
    ap (latest_to (changes_of (es ++ e ∷ [])) n) size
    ∙ ap (λ (l : List Change). latest_to l n (suc k)) (changes_push es e)
    ∙ ap (λ (d : Change). cond (nat_eq d.signal n) (suc k) (latest_to (cs ++ c ∷ []) n k)) (get_or_push cs c (outset_of 0) k same)
    ∙ ap (λ (j : ℕ). cond (nat_eq c.signal n) (suc k) j) (latest_push cs c n k (omega arith))

latest_before : (es : List Linked) (e : Linked) (n i : ℕ) → i ≤ length es → latest_to (changes_of es) n i ≡ latest_to (changes_of (es ++ e ∷ [])) n i
latest_before es e n i h =
    let same = changes_length es in
    sym (ap (λ (l : List Change). latest_to l n i) (changes_push es e) ∙ latest_push (changes_of es) e.change n i (omega arith))

-- one more change
pub linked_change : (count : ℕ) (latest : List ℕ) (es : List Linked) (e : Linked) → AreLinked count latest es → 1 ≤ e.change.signal → e.change.signal ≤ count → e.earlier ≡ get_or latest (e.change.signal - 1) 0
    → AreLinked count (set latest (e.change.signal - 1) (length es + 1)) (es ++ e ∷ [])
linked_change count latest es e l least most before = record {
  sizes = length-set latest (e.change.signal - 1) (length es + 1) ∙ l.sizes;
  latest_is = λ n low_n high_n. of_signal n low_n high_n (cases_eq n e.change.signal);
  earlier_is = λ i x h is. of_entry i x h is (cases_lt i (length es));
}
  where
    of_signal : (n : ℕ) → 1 ≤ n → n ≤ count → (n ≡ e.change.signal) ⊎ (n ≡ e.change.signal → ⊥) → get_or (set latest (e.change.signal - 1) (length es + 1)) (n - 1) 0 ≡ latest_to (changes_of (es ++ e ∷ [])) n (length (es ++ e ∷ []))
    of_signal n low_n high_n (inl is) =
        let s = e.change.signal in
        let size = l.sizes in
        let next : length es + 1 ≡ suc (length es) = omega arith in
        ap (λ (m : ℕ). get_or (set latest (s - 1) (length es + 1)) (m - 1) 0) is ∙ get_or-set_same latest (s - 1) (length es + 1) 0 (omega (arith, least, most)) ∙ next
        ∙ sym (latest_last es e n ∙ cond-true (nat_eq s n) (suc (length es)) (latest_to (changes_of es) n (length es)) (eq-eqb s n (sym is)))
    of_signal n low_n high_n (inr differs) =
        let s = e.change.signal in
        get_or-set_other latest (s - 1) (n - 1) (length es + 1) 0 (λ q. differs (omega (arith, least, low_n, q))) ∙ l.latest_is n low_n high_n
        ∙ sym (latest_last es e n ∙ cond-false (nat_eq s n) (suc (length es)) (latest_to (changes_of es) n (length es)) (ne_eqb s n (λ q. differs (sym q))))

    of_entry : (i : ℕ) (x : Linked) → i < length (es ++ e ∷ []) → x ≡ get_or (es ++ e ∷ []) i x → (i < length es) ⊎ (length es ≤ i) → x.earlier ≡ latest_to (changes_of (es ++ e ∷ [])) x.change.signal i
    of_entry i x h is (inl less) =
        l.earlier_is i x less (is ∙ get_or_append_left es (e ∷ []) x i less) ∙ latest_before es e x.change.signal i (omega (arith, less))
    of_entry i x h is (inr over) =
        let more = length_push es e in
        let at : length es ≡ i = omega (arith, h, over) in
        let same : x ≡ e = is ∙ get_or_push es e x i at in
        ap (λ (y : Linked). y.earlier) same ∙ before ∙ l.latest_is e.change.signal least most ∙ latest_before es e e.change.signal (length es) (omega arith)
        ∙ ap (latest_to (changes_of (es ++ e ∷ [])) e.change.signal) at ∙ ap (λ (y : Linked). latest_to (changes_of (es ++ e ∷ [])) y.change.signal i) (sym same)

-- the last change
pub last_index : (c : Change) (d : Change) (cs : List Change) → last_from c (d ∷ cs) ≡ get_or (d ∷ cs) (length (d ∷ cs) - 1) c
last_index c d [] = refl
last_index c d (e ∷ cs) =
    let at : length (d ∷ e ∷ cs) - 1 ≡ suc (length (e ∷ cs) - 1) = omega arith in
    let within : length (e ∷ cs) - 1 < length (e ∷ cs) = omega arith in
    last_index d e cs ∙ get_or_default (e ∷ cs) (length (e ∷ cs) - 1) d c within ∙ ap (λ (i : ℕ). get_or (d ∷ e ∷ cs) i c) (sym at)

pub last_none : (count : ℕ) (es : List Linked) → length es ≡ 0 → last_of count (changes_of es) ≡ outset_of count
last_none count es e = ap (λ (l : List Linked). last_of count (changes_of l)) (nil_from_length es e)

last_by_index : (c : Change) (cs : List Change) (k : ℕ) → length cs ≡ k + 1 → last_from c cs ≡ get_or cs k c
last_by_index c [] k e = absurd (omega (arith, e))
last_by_index c (d ∷ cs) k e = let at : length (d ∷ cs) - 1 ≡ k = omega (arith, e) in last_index c d cs ∙ ap (λ (i : ℕ). get_or (d ∷ cs) i c) at

pub last_some : (count k : ℕ) (es : List Linked) (e : Linked) → k ≡ length es → 0 < k → e ≡ get_or es (k - 1) e → e.change ≡ last_of count (changes_of es)
last_some count k es e size some is =
    let same = changes_length es in
    let less : k - 1 < length es = omega arith in
    sym (last_by_index (outset_of count) (changes_of es) (k - 1) (omega arith) ∙ get_or-map (λ (x : Linked). x.change) es (k - 1) e (outset_of count) less ∙ ap (λ (x : Linked). x.change) (sym is))
