-- Lists and rows as they are filled.
use Rattle.std.proofs.Common.{◌≡◌, ◌≢◌, ◌<◌, ◌+◌, ℕ, zero, suc, List, [], ◌∷◌, ◌++◌, length, map, drop, get_or, Bool, true, false, inl, inr, refl, sym, ap, ◌∙◌, subst, arith, append_assoc, get_or-set_same, get_or-set_other, Vec, true≢false}
use Rattle.std.proofs.Math.ListN.{set}
use Rattle.std.specs.Prelude.{Contains, All, ◌==◌}
use Rattle.std.specs.List.{range_with_len}
use Rattle.std.proofs.lemmas.Bool.Decides.{eqb_tells, nat_tests}
use Rattle.std.specs.declared.alloc.Global.{Global}
use Rattle.sci_net.specs.Parts.{rows_of}
use Rattle.sci_flat.specs.Lists.{plain, list_at}
use Rattle.sci_flat.proofs.ReachFilling.{list_at-plain}
use Rattle.std.proofs.lemmas.Bool.{cases_lt}
use Rattle.std.proofs.lemmas.List.{drop_more, map-append, length_push, get_or_push, get_or_append_left, get_or_default, map_push, nil_from_length}
use Rattle.sci_net.specs.declared.Wire.{Wire}
use Rattle.sci_net.specs.declared.Feed.{Feed}
use Rattle.sci_blocks.specs.declared.class.PortClass.{PortClass}
use Rattle.sci_blocks.specs.declared.class.PortClass.TheVariants.{Input, ActivationInput}
use Rattle.sci_forms.specs.declared.spec.Spec.{Spec}
use Rattle.sci_flat.specs.declared.steps.port_numbers.PortNumbers.{PortNumbers}
use Rattle.sci_flat.specs.PortNumbers.{count}
use Rattle.sci_flat.specs.Ends.{end_of, seat_numbers, seat_ends, numbers_of, ends_of}
use Rattle.sci_flat.specs.Wired.{feed_at, wire_at, no_wire, input_list, activation_list, AreWires, IsFirstUnfed, AreFeeds, seat_of, IsTakenAt, IsSoundAt, AllWired, AllFed}

range_suc : (a n : ℕ) → range_with_len a (suc n) ≡ range_with_len a n ++ (a + n) ∷ []
range_suc a zero = let e : a + 0 ≡ a = omega arith in rw e refl
range_suc a (suc n) = let e : (a + 1) + n ≡ a + suc n = omega arith in ap (λ l. a ∷ l) (range_suc (a + 1) n ∙ ap (λ k. range_with_len (a + 1) n ++ k ∷ []) e)

range_more : (a n : ℕ) → range_with_len a (n + 1) ≡ range_with_len a n ++ (a + n) ∷ []
range_more a n = let next : suc n ≡ n + 1 = omega arith in subst (λ (i : ℕ). range_with_len a i ≡ range_with_len a n ++ (a + n) ∷ []) next (range_suc a n)

pub numbers_more : (a n m : ℕ) (xs ys zs : List ℕ) → m ≡ a + n → ys ≡ xs ++ range_with_len a n → zs ≡ ys ++ m ∷ [] → zs ≡ xs ++ range_with_len a (n + 1)
numbers_more a n m xs ys zs e before grown =
    grown ∙ (ap (λ (l : List ℕ). l ++ m ∷ []) before ∙ (append_assoc xs (range_with_len a n) (m ∷ []) ∙ ap (λ (l : List ℕ). xs ++ l) (ap (λ (i : ℕ). range_with_len a n ++ i ∷ []) e ∙ sym (range_more a n))))

pub ends_more : (b n : ℕ) (f : Feed) (xs ys zs : List Feed) → f ≡ end_of b (n + 1) → ys ≡ xs ++ map (end_of b) (range_with_len 1 n) → zs ≡ ys ++ f ∷ [] → zs ≡ xs ++ map (end_of b) (range_with_len 1 (n + 1))
ends_more b n f xs ys zs e before grown =
    let next : 1 + n ≡ n + 1 = omega arith in
    let more : map (end_of b) (range_with_len 1 (n + 1)) ≡ map (end_of b) (range_with_len 1 n) ++ end_of b (n + 1) ∷ [] = ap (map (end_of b)) (range_more 1 n) ∙ (map-append (end_of b) (range_with_len 1 n) ((1 + n) ∷ []) ∙ ap (λ (i : ℕ). map (end_of b) (range_with_len 1 n) ++ end_of b i ∷ []) next) in
    grown ∙ (ap (λ (l : List Feed). l ++ f ∷ []) before ∙ (append_assoc xs (map (end_of b) (range_with_len 1 n)) (f ∷ []) ∙ ap (λ (l : List Feed). xs ++ l) (ap (λ (x : Feed). map (end_of b) (range_with_len 1 n) ++ x ∷ []) e ∙ sym more)))

-- ---- one block's ports after another's

pub numbers_next : (c : PortClass) (ss : List PortNumbers) (i : ℕ) (d s : PortNumbers) → i < length ss → s ≡ get_or ss i d → (xs ys w : List ℕ) → ys ≡ xs ++ seat_numbers c s → xs ++ numbers_of c (drop i ss) ≡ w → ys ++ numbers_of c (drop (i + 1) ss) ≡ w
numbers_next c ss i d s h is xs ys w grown whole = let now = rw (drop_more ss i d h, ← is) at whole in rw grown (append_assoc xs _ _ ∙ now)

pub ends_next : (c : PortClass) (ss : List PortNumbers) (i b : ℕ) (d s : PortNumbers) → i < length ss → s ≡ get_or ss i d → b ≡ i + 1 → (xs ys w : List Feed) → ys ≡ xs ++ seat_ends c b s → xs ++ ends_of c (i + 1) (drop i ss) ≡ w → ys ++ ends_of c ((i + 1) + 1) (drop (i + 1) ss) ≡ w
ends_next c ss i b d s h is e xs ys w grown whole = let now = rw (drop_more ss i d h, ← is) at whole in rw (grown, e) (append_assoc xs _ _ ∙ now)

-- ---- marks

pub marks_more : (ms : List Bool) (ns : List ℕ) (i : ℕ) → get_or ns i 0 < length ms → ((k : ℕ) → k < i → get_or ms (get_or ns k 0) false ≡ true) → (k : ℕ) → k < i + 1 → get_or (set ms (get_or ns i 0) true) (get_or ns k 0) false ≡ true
marks_more ms ns i h before k l = elim (eqb_tells (get_or ns k 0) (get_or ns i 0)) [
  | inl t ↦ ap (λ (x : ℕ). get_or (set ms (get_or ns i 0) true) x false) t.1 ∙ get_or-set_same ms (get_or ns i 0) true false h
  | inr t ↦ get_or-set_other ms (get_or ns i 0) (get_or ns k 0) true false t.1 ∙ before k (below k (λ e. t.1 (ap (λ (x : ℕ). get_or ns x 0) e)) l)
]
  where
    below : (k : ℕ) → k ≢ i → k < i + 1 → k < i
    below k d l = omega arith

pub marked_all : (ms : List Bool) (ns : List ℕ) → ((k : ℕ) → k < length ns → get_or ms (get_or ns k 0) false ≡ true) → (q : ℕ) → Contains ns q → get_or ms q false ≡ true
marked_all ms ns all q (k, h, e) = subst (λ (x : ℕ). get_or ms x false ≡ true) (get_or_default ns k 0 q h ∙ e) (all k h)

-- ---- rows

pub wires_more : (feeds : List Feed) (lists : List (List ℕ)) (s : PortNumbers) (k i : ℕ) (w : Wire) (row new : List Wire) → Contains (input_list lists s k) i → w ≡ wire_at feeds i → new ≡ row ++ w ∷ [] → AreWires feeds lists s k row → AreWires feeds lists s (k + 1) new
wires_more feeds lists s k i w row new has is grown r = record {
  long = ap length grown ∙ (length_push row w ∙ ap (λ (n : ℕ). n + 1) r.long);
  each = λ j h. elim (cases_lt j k) [
    | inl l ↦ let old = r.each j l in (old.0, old.1, ap (λ (x : List Wire). get_or x j no_wire) grown ∙ (get_or_append_left row (w ∷ []) no_wire j (omega (arith, l, r.long)) ∙ old.2))
    | inr g ↦ let e : j ≡ k = omega (arith, g, h) in (i, rw e has, ap (λ (x : List Wire). get_or x j no_wire) grown ∙ (get_or_push row w no_wire j (omega (arith, e, r.long)) ∙ is))
  ];
}

pub first_unfed : (feeds : List Feed) (lists : List (List ℕ)) (s : PortNumbers) (k : ℕ) (row : List Wire) → k < count s Input → input_list lists s k ≡ [] → AreWires feeds lists s k row → IsFirstUnfed lists s k
first_unfed feeds lists s k row h none r = record { there = h; before = λ j l. let old = r.each j l in (old.0, old.1); unfed = none }

pub feeds_more : (feeds : List Feed) (lists : List (List ℕ)) (s : PortNumbers) (p : ℕ) (f : List Feed) (row new : List (List Feed)) → f ≡ map (feed_at feeds) (activation_list lists s p) → new ≡ row ++ f ∷ [] → AreFeeds feeds lists s p row → AreFeeds feeds lists s (p + 1) new
feeds_more feeds lists s p f row new is grown r = record {
  long = ap length grown ∙ (length_push row f ∙ ap (λ (n : ℕ). n + 1) r.long);
  each = λ j h. elim (cases_lt j p) [
    | inl l ↦ ap (λ (x : List (List Feed)). get_or x j []) grown ∙ (get_or_append_left row (f ∷ []) [] j (omega (arith, l, r.long)) ∙ r.each j l)
    | inr g ↦ let e : j ≡ p = omega (arith, g, h) in ap (λ (x : List (List Feed)). get_or x j []) grown ∙ (get_or_push row f [] j (omega (arith, e, r.long)) ∙ (is ∙ ap (λ (x : ℕ). map (feed_at feeds) (activation_list lists s x)) (sym e)))
  ];
}

-- ---- all blocks

pub wired_none : (feeds : List Feed) (lists : List (List ℕ)) (ss : List PortNumbers) (specs : List Spec) (rows : List (List Wire)) → rows ≡ [] → AllWired feeds lists ss specs 0 rows
wired_none feeds lists ss specs rows e = record { long = ap length e; each = λ b h. absurd (omega arith); sound = λ b h. absurd (omega arith) }

pub wired_more : (feeds : List Feed) (lists : List (List ℕ)) (ss : List PortNumbers) (specs : List Spec) (b : ℕ) (row : List Wire) (rows new : List (List Wire)) → AreWires feeds lists (seat_of ss b) (count (seat_of ss b) Input) row → (IsTakenAt specs b → ⊥) → new ≡ rows ++ row ∷ []
    → AllWired feeds lists ss specs b rows → AllWired feeds lists ss specs (b + 1) new
wired_more feeds lists ss specs b row rows new w own grown r = record {
  long = ap length grown ∙ (length_push rows row ∙ ap (λ (n : ℕ). n + 1) r.long);
  each = λ c h. elim (cases_lt c b) [
    | inl l ↦ let same : get_or new c [] ≡ get_or rows c [] = ap (λ (x : List (List Wire)). get_or x c []) grown ∙ get_or_append_left rows (row ∷ []) [] c (omega (arith, l, r.long)) in
        let P : List Wire → Type 0 = AreWires feeds lists (seat_of ss c) (count (seat_of ss c) Input) in subst P (sym same) (r.each c l)
    | inr g ↦ let e : c ≡ b = omega (arith, g, h) in
        let same : get_or new c [] ≡ row = ap (λ (x : List (List Wire)). get_or x c []) grown ∙ get_or_push rows row [] c (omega (arith, e, r.long)) in
        let P : List Wire → Type 0 = AreWires feeds lists (seat_of ss c) (count (seat_of ss c) Input) in
        let Q : ℕ → Type 0 = λ x. AreWires feeds lists (seat_of ss x) (count (seat_of ss x) Input) row in
        subst P (sym same) (subst Q (sym e) w)
  ];
  sound = λ c h. elim (cases_lt c b) [
    | inl l ↦ r.sound c l
    | inr g ↦ let e : c ≡ b = omega (arith, g, h) in let Q : ℕ → Type 0 = IsSoundAt lists ss specs in
        subst Q (sym e) (record { reached = λ k l. let one = w.each k l in (one.0, one.1); own = own })
  ];
}

pub fed_more : (feeds : List Feed) (lists : List (List ℕ)) (ss : List PortNumbers) (b : ℕ) (row : List (List Feed)) (rows new : List (List (List Feed))) → AreFeeds feeds lists (seat_of ss b) (count (seat_of ss b) ActivationInput) row → new ≡ rows ++ row ∷ []
    → AllFed feeds lists ss b rows → AllFed feeds lists ss (b + 1) new
fed_more feeds lists ss b row rows new w grown r = record {
  long = ap length grown ∙ (length_push rows row ∙ ap (λ (n : ℕ). n + 1) r.long);
  each = λ c h. elim (cases_lt c b) [
    | inl l ↦ let same : get_or new c [] ≡ get_or rows c [] = ap (λ (x : List (List (List Feed))). get_or x c []) grown ∙ get_or_append_left rows (row ∷ []) [] c (omega (arith, l, r.long)) in
        let P : List (List Feed) → Type 0 = AreFeeds feeds lists (seat_of ss c) (count (seat_of ss c) ActivationInput) in subst P (sym same) (r.each c l)
    | inr g ↦ let e : c ≡ b = omega (arith, g, h) in
        let same : get_or new c [] ≡ row = ap (λ (x : List (List (List Feed))). get_or x c []) grown ∙ get_or_push rows row [] c (omega (arith, e, r.long)) in
        let P : List (List Feed) → Type 0 = AreFeeds feeds lists (seat_of ss c) (count (seat_of ss c) ActivationInput) in
        let Q : ℕ → Type 0 = λ x. AreFeeds feeds lists (seat_of ss x) (count (seat_of ss x) ActivationInput) row in
        subst P (sym same) (subst Q (sym e) w)
  ];
}

pub fed_none : (feeds : List Feed) (lists : List (List ℕ)) (ss : List PortNumbers) (rows : List (List (List Feed))) → rows ≡ [] → AllFed feeds lists ss 0 rows
fed_none feeds lists ss rows e = record { long = ap length e; each = λ b h. absurd (omega arith) }

-- ---- one list

true_eq : (a b : ℕ) → (a == b) ≡ true → a ≡ b
true_eq a b e = grind (arith, nat_tests)

false_eq : (a b : ℕ) → (a == b) ≡ false → a ≢ b
false_eq a b e f = let t : (a == b) ≡ true = eq_true a b f in true≢false (sym t ∙ e)
  where
    eq_true : (a b : ℕ) → a ≡ b → (a == b) ≡ true
    eq_true a b e = grind (arith, nat_tests)

pub list_here : (lists : List (Vec ℕ Global)) (n i : ℕ) (v : Vec ℕ Global) → i ≡ n → n < length lists → v ≡ get_or lists i v → list_at (plain lists) n ≡ v.items
list_here lists n i v e h is =
    let P : ℕ → Type 0 = λ x. v ≡ get_or lists x v in
    list_at-plain lists n v h (subst P e is)

pub list_empty : (xs : List ℕ) (v : Vec ℕ Global) (b : Bool) → xs ≡ v.items → b ≡ (v.len == 0) → b ≡ true → xs ≡ []
list_empty xs v b e f t = let none : v.len ≡ 0 = true_eq v.len 0 (sym f ∙ t) in e ∙ nil_from_length v.items (omega (arith, none, v.ok))

pub list_starts : (v : Vec ℕ Global) (b : Bool) → b ≡ (v.len == 0) → b ≡ false → 0 < length v.items
list_starts v b f t = let some = false_eq v.len 0 (sym f ∙ t) in omega (arith, some, v.ok)

pub first_has : (xs : List ℕ) (v : Vec ℕ Global) (i : ℕ) → xs ≡ v.items → 0 < length v.items → i ≡ get_or v.items 0 i → Contains xs i
first_has xs v i e h is = let P : List ℕ → Type 0 = λ x. Contains x i in subst P (sym e) (0, h, sym is)

pub first_low : (n : ℕ) (xs : List ℕ) (v : Vec ℕ Global) (i : ℕ) → xs ≡ v.items → 0 < length v.items → i ≡ get_or v.items 0 i → All (λ x. x < n) xs → i < n
first_low n xs v i e h is all = let P : List ℕ → Type 0 = All (λ x. x < n) in let low = (let here : All (λ x. x < n) v.items = subst P e all in here) 0 i h in omega (arith, low, is)

pub feed_rows_push : (rows new : List (Vec Feed Global)) (row : Vec Feed Global) → new ≡ rows ++ row ∷ [] → rows_of new ≡ rows_of rows ++ row.items ∷ []
feed_rows_push rows new row e = ap (rows_of {A = Feed}) e ∙ map_push (λ (v : Vec Feed Global). v.items) rows row
