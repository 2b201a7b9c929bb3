-- What is written tick by tick is a dump.
use Rattle.std.proofs.Common.{◌≡◌, ℕ, zero, suc, ◌+◌, ◌-◌, ◌^◌, ◌<◌, ◌≤◌, ℤ, pos, List, [], ◌∷◌, ◌++◌, length, get_or, Bool, true, false, ◌⊎◌, inl, inr, refl, sym, ap, ◌∙◌, subst, arith, append_assoc, append-nil}
use Rattle.std.specs.Prelude.{Option, Some, None, nat_eq, nat_lt, nat_le, ◌&&◌, ◌||◌, if◌then◌else◌}
use Rattle.std.proofs.lemmas.Bool.{cases_Bool, cases_lt, and_from, eq-eqb, ne_eqb, lt-ltb, le-ltb, ltb-true, le-leb, lt-leb, eqb-true, or_left, or_right, and_parts, cond-true, cond-false}
use Rattle.std.proofs.lemmas.List.Elements.{filter-append}
use Rattle.std.proofs.lemmas.List.{length_push}
use Rattle.sci_base.specs.Fit.{in_range, int_eq}
use Rattle.sci_vcd.specs.declared.signal.Signal.{Signal}
use Rattle.sci_vcd.specs.declared.signal.Change.{Change}
use Rattle.sci_vcd.specs.Waveforms.{Waveforms, Each, type_of, Begins, AreValues, first_of, is_later, outset_of, last_from, last_of, value_behind, Follows, up_to, value_at}
use Rattle.sci_text.specs.Lines.{joined}
use Rattle.sci_vcd.specs.Spelling.{change_lines, value_line, head_part, lines_of, spelling}
use Rattle.sci_vcd.specs.Machine.{last_change, change_by}
use Rattle.sci_vcd.specs.Writing.{Writing, IsWriting, AreOf, MayClose, change_here, changes_at, told_behind, lines_behind, IsTold, IsTickTold}
use Rattle.sci_vcd.specs.Laws.{WrittenIsDump}
use Rattle.sci_vcd.proofs.Differing.{same_by, same_self}
use Rattle.sci_text.proofs.Splits.{joined-append}
use Rattle.sci_vcd.proofs.Leading.{new_tick}
use Rattle.sci_vcd.proofs.Eachs.{each-append, last_push, value_push}
use Rattle.sci_vcd.proofs.Changed.{unchanged_here, changed_here, change_lines-append}

-- ---- values behind changes

value_behind-append : (v : ℤ) (k : ℕ) (cs ds : List Change) → value_behind v k (cs ++ ds) ≡ value_behind (value_behind v k cs) k ds
value_behind-append v k [] ds = refl
value_behind-append v k (c ∷ cs) ds = value_behind-append (if nat_eq c.signal k then c.value else v) k cs ds

-- the change of another signal
value_other : (v : ℤ) (j t n : ℕ) (x y : ℤ) (cs : List Change) → (n ≡ j → ⊥) → value_behind v j (change_here t n x y ++ cs) ≡ value_behind v j cs
value_other v j t n x y cs apart =
    elim (cases_Bool (int_eq x y)) [
      | inl e ↦ ap (λ (ds : List Change). value_behind v j (ds ++ cs)) (unchanged_here t n x y e)
      | inr e ↦ ap (λ (ds : List Change). value_behind v j (ds ++ cs)) (changed_here t n x y e) ∙ ap (λ (u : ℤ). value_behind u j cs) (cond-false (nat_eq n j) y v (ne_eqb n j apart))
    ]

-- the change of the signal itself
value_own : (t n : ℕ) (x y : ℤ) (cs : List Change) → value_behind x n (change_here t n x y ++ cs) ≡ value_behind y n cs
value_own t n x y cs =
    elim (cases_Bool (int_eq x y)) [
      | inl e ↦ ap (λ (ds : List Change). value_behind x n (ds ++ cs)) (unchanged_here t n x y e) ∙ ap (λ (u : ℤ). value_behind u n cs) (same_by x y e)
      | inr e ↦ ap (λ (ds : List Change). value_behind x n (ds ++ cs)) (changed_here t n x y e) ∙ ap (λ (u : ℤ). value_behind u n cs) (cond-true (nat_eq n n) y x (eq-eqb n n refl))
    ]

value_below : (v : ℤ) (j t n : ℕ) (vs ws : List ℤ) → j < n → value_behind v j (changes_at t n vs ws) ≡ v
value_below v j t n [] ws h = refl
value_below v j t n (x ∷ vs) [] h = refl
value_below v j t n (x ∷ vs) (y ∷ ws) h = value_other v j t n x y (changes_at t (n + 1) vs ws) (λ e. absurd (omega (arith, h, e))) ∙ value_below v j t (n + 1) vs ws (omega (arith, h))

-- behind the changes of a tick each signal has its new value
value_changed : (t n i : ℕ) (vs ws : List ℤ) (d : ℤ) → length vs ≡ length ws → i < length vs → value_behind (get_or vs i d) (n + i) (changes_at t n vs ws) ≡ get_or ws i d
value_changed t n i [] ws d e h = absurd (omega (arith, h))
value_changed t n i (x ∷ vs) [] d e h = absurd (omega (arith, e))
value_changed t n zero (x ∷ vs) (y ∷ ws) d e h =
    let z : n + 0 ≡ n = omega arith in
    ap (λ (j : ℕ). value_behind x j (changes_at t n (x ∷ vs) (y ∷ ws))) z ∙ value_own t n x y (changes_at t (n + 1) vs ws) ∙ value_below y n t (n + 1) vs ws (omega arith)
value_changed t n (suc i) (x ∷ vs) (y ∷ ws) d e h =
    let z : n + suc i ≡ (n + 1) + i = omega arith in
    value_other (get_or vs i d) (n + suc i) t n x y (changes_at t (n + 1) vs ws) (λ f. absurd (omega (arith, f)))
    ∙ ap (λ (j : ℕ). value_behind (get_or vs i d) j (changes_at t (n + 1) vs ws)) z ∙ value_changed t (n + 1) i vs ws d (omega (arith, e)) (omega (arith, h))

-- ---- ticks

last_changed : (t n d : ℕ) (c : Change) (vs ws : List ℤ) → c.tick ≤ d → t ≤ d → (last_from c (changes_at t n vs ws)).tick ≤ d
last_changed t n d c [] ws h g = h
last_changed t n d c (x ∷ vs) [] h g = h
last_changed t n d c (x ∷ vs) (y ∷ ws) h g =
    elim (cases_Bool (int_eq x y)) [
      | inl e ↦ subst (λ (ds : List Change). (last_from c (ds ++ changes_at t (n + 1) vs ws)).tick ≤ d) (sym (unchanged_here t n x y e)) (last_changed t (n + 1) d c vs ws h g)
      | inr e ↦ subst (λ (ds : List Change). (last_from c (ds ++ changes_at t (n + 1) vs ws)).tick ≤ d) (sym (changed_here t n x y e)) (last_changed t (n + 1) d (change_by t n y) vs ws g g)
    ]

last_from-append : (c : Change) (cs ds : List Change) → last_from c (cs ++ ds) ≡ last_from (last_from c cs) ds
last_from-append c [] ds = refl
last_from-append c (d ∷ cs) ds = last_from-append d cs ds

told_last : (c : Change) (cs : List Change) → told_behind c.tick cs ≡ (last_from c cs).tick
told_last c [] = refl
told_last c (d ∷ cs) = told_last d cs

-- the line of the tick is due, whatever earlier one was told
any_told : (gs : List Signal) (a b t n : ℕ) (vs ws : List ℤ) → a < t → b < t → change_lines gs a (changes_at t n vs ws) ≡ change_lines gs b (changes_at t n vs ws)
any_told gs a b t n [] ws h g = refl
any_told gs a b t n (x ∷ vs) [] h g = refl
any_told gs a b t n (x ∷ vs) (y ∷ ws) h g =
    elim (cases_Bool (int_eq x y)) [
      | inl e ↦ ap (λ (ds : List Change). change_lines gs a (ds ++ changes_at t (n + 1) vs ws)) (unchanged_here t n x y e) ∙ any_told gs a b t (n + 1) vs ws h g
          ∙ sym (ap (λ (ds : List Change). change_lines gs b (ds ++ changes_at t (n + 1) vs ws)) (unchanged_here t n x y e))
      | inr e ↦ ap (λ (ds : List Change). change_lines gs a (ds ++ changes_at t (n + 1) vs ws)) (changed_here t n x y e)
          ∙ ap (λ (ls : List (List ℕ)). ls ++ (value_line (type_of gs n) n y ∷ change_lines gs t (changes_at t (n + 1) vs ws))) (new_tick a t (λ f. absurd (omega (arith, f, h))) ∙ sym (new_tick b t (λ f. absurd (omega (arith, f, g)))))
          ∙ sym (ap (λ (ds : List Change). change_lines gs b (ds ++ changes_at t (n + 1) vs ws)) (changed_here t n x y e))
    ]

filter_kept : (s : ℕ) (c : Change) (cs : List Change) → c.tick ≤ s → up_to s (c ∷ cs) ≡ c ∷ up_to s cs
filter_kept s c cs h = cond-true (nat_le c.tick s) (c ∷ up_to s cs) (up_to s cs) (le-leb c.tick s h)

filter_dropped : (s : ℕ) (c : Change) (cs : List Change) → s < c.tick → up_to s (c ∷ cs) ≡ up_to s cs
filter_dropped s c cs h = cond-false (nat_le c.tick s) (c ∷ up_to s cs) (up_to s cs) (lt-leb c.tick s h)

up_to_later : (s t n : ℕ) (vs ws : List ℤ) → s < t → up_to s (changes_at t n vs ws) ≡ []
up_to_later s t n [] ws h = refl
up_to_later s t n (x ∷ vs) [] h = refl
up_to_later s t n (x ∷ vs) (y ∷ ws) h =
    elim (cases_Bool (int_eq x y)) [
      | inl e ↦ ap (λ (ds : List Change). up_to s (ds ++ changes_at t (n + 1) vs ws)) (unchanged_here t n x y e) ∙ up_to_later s t (n + 1) vs ws h
      | inr e ↦ ap (λ (ds : List Change). up_to s (ds ++ changes_at t (n + 1) vs ws)) (changed_here t n x y e)
          ∙ filter_dropped s (change_by t n y) (changes_at t (n + 1) vs ws) h ∙ up_to_later s t (n + 1) vs ws h
    ]

up_to_now : (s t n : ℕ) (vs ws : List ℤ) → t ≤ s → up_to s (changes_at t n vs ws) ≡ changes_at t n vs ws
up_to_now s t n [] ws h = refl
up_to_now s t n (x ∷ vs) [] h = refl
up_to_now s t n (x ∷ vs) (y ∷ ws) h =
    elim (cases_Bool (int_eq x y)) [
      | inl e ↦ ap (λ (ds : List Change). up_to s (ds ++ changes_at t (n + 1) vs ws)) (unchanged_here t n x y e) ∙ up_to_now s t (n + 1) vs ws h
          ∙ sym (ap (λ (ds : List Change). ds ++ changes_at t (n + 1) vs ws) (unchanged_here t n x y e))
      | inr e ↦ ap (λ (ds : List Change). up_to s (ds ++ changes_at t (n + 1) vs ws)) (changed_here t n x y e)
          ∙ filter_kept s (change_by t n y) (changes_at t (n + 1) vs ws) h ∙ ap (λ (ds : List Change). change_by t n y ∷ ds) (up_to_now s t (n + 1) vs ws h)
          ∙ sym (ap (λ (ds : List Change). ds ++ changes_at t (n + 1) vs ws) (changed_here t n x y e))
    ]

either : (a b : Bool) → (a || b) ≡ true → (a ≡ true) ⊎ (b ≡ true)
either true b h = inl refl
either false b h = inr h

later_tick : (c d : Change) → is_later c d ≡ true → c.tick ≤ d.tick
later_tick c d h =
    elim (either (nat_lt c.tick d.tick) (nat_eq c.tick d.tick && nat_lt c.signal d.signal) h) [
      | inl l ↦ let f = ltb-true c.tick d.tick l in omega (arith, f)
      | inr r ↦ let f = eqb-true c.tick d.tick (and_parts _ _ r).0 in omega (arith, f)
    ]

-- ticks never fall
ticks_rise : (gs : List Signal) (first : List ℤ) (before cs : List Change) → Each (Follows gs first) before cs → (last_of (length gs) before).tick ≤ (last_from (last_of (length gs) before) cs).tick
ticks_rise gs first before [] e = omega arith
ticks_rise gs first before (c ∷ cs) e =
    let l = last_push (outset_of (length gs)) before c in
    let h = later_tick (last_of (length gs) before) c e.0.later in
    let f = subst (λ (d : Change). d.tick ≤ (last_from d cs).tick) l (ticks_rise gs first (before ++ c ∷ []) cs e.1) in
    omega (arith, h, f)

up_to_all : (gs : List Signal) (first : List ℤ) (s : ℕ) (before cs : List Change) → Each (Follows gs first) before cs → (last_from (last_of (length gs) before) cs).tick ≤ s → up_to s cs ≡ cs
up_to_all gs first s before [] e h = refl
up_to_all gs first s before (c ∷ cs) e h =
    let l = last_push (outset_of (length gs)) before c in
    let rise = subst (λ (d : Change). d.tick ≤ (last_from d cs).tick) l (ticks_rise gs first (before ++ c ∷ []) cs e.1) in
    filter_kept s c cs (omega (arith, rise, h))
    ∙ ap (λ (ds : List Change). c ∷ ds) (up_to_all gs first s (before ++ c ∷ []) cs e.1 (subst (λ (d : Change). (last_from d cs).tick ≤ s) (sym l) h))

-- ---- the changes of a tick may follow

later_by : (c : Change) (t n : ℕ) (v : ℤ) → (c.tick < t) ⊎ ((c.tick ≡ t) × (c.signal < n)) → is_later c (change_by t n v) ≡ true
later_by c t n v (inl h) = or_left _ _ (lt-ltb c.tick t h)
later_by c t n v (inr h) = or_right _ _ (and_from _ _ (eq-eqb c.tick t h.0) (lt-ltb c.signal n h.1))

later_next : (c : Change) (t n : ℕ) → (c.tick < t) ⊎ ((c.tick ≡ t) × (c.signal < n)) → (c.tick < t) ⊎ ((c.tick ≡ t) × (c.signal < n + 1))
later_next c t n (inl h) = inl h
later_next c t n (inr h) = inr (h.0, omega (arith, h.1))

changes_follow : (gs : List Signal) (first : List ℤ) (t n : ℕ) (vs ws : List ℤ) (before : List Change) (d : ℤ) → t ≤ 2 ^ 62 → 1 ≤ n → length ws ≡ length vs → n + length vs ≡ length gs + 1
    → ((last_of (length gs) before).tick < t) ⊎ (((last_of (length gs) before).tick ≡ t) × ((last_of (length gs) before).signal < n))
    → ((i : ℕ) → i < length vs → value_behind (first_of first (n + i)) (n + i) before ≡ get_or vs i d)
    → ((i : ℕ) → i < length ws → in_range (type_of gs (n + i)) (get_or ws i d) ≡ true)
    → Each (Follows gs first) before (changes_at t n vs ws)
changes_follow gs first t n [] ws before d early one same all later values fits = tt
changes_follow gs first t n (x ∷ vs) [] before d early one same all later values fits = tt
changes_follow gs first t n (x ∷ vs) (y ∷ ws) before d early one same all later values fits =
    elim (cases_Bool (int_eq x y)) [
      | inl e ↦ subst (λ (ds : List Change). Each (Follows gs first) before (ds ++ changes_at t (n + 1) vs ws)) (sym (unchanged_here t n x y e))
          (changes_follow gs first t (n + 1) vs ws before d early (omega arith) (omega (arith, same)) (omega (arith, all)) (later_next (last_of (length gs) before) t n later)
          (λ i h. subst (λ (j : ℕ). value_behind (first_of first j) j before ≡ get_or vs i d) (shift i) (values (suc i) (omega (arith, h))))
          (λ i h. subst (λ (j : ℕ). in_range (type_of gs j) (get_or ws i d) ≡ true) (shift i) (fits (suc i) (omega (arith, h)))))
      | inr e ↦
          let c = change_by t n y in
          let l = last_push (outset_of (length gs)) before c in
          subst (λ (ds : List Change). Each (Follows gs first) before (ds ++ changes_at t (n + 1) vs ws)) (sym (changed_here t n x y e)) (
            record {
              known = and_from _ _ (le-leb 1 n one) (le-leb n (length gs) (omega (arith, all)));
              early = early;
              later = later_by (last_of (length gs) before) t n y later;
              fits = subst (λ (j : ℕ). in_range (type_of gs j) y ≡ true) here (fits 0 (omega arith));
              another = λ f. differs e (sym (f ∙ subst (λ (j : ℕ). value_behind (first_of first j) j before ≡ x) here (values 0 (omega arith))));
            },
            changes_follow gs first t (n + 1) vs ws (before ++ c ∷ []) d early (omega arith) (omega (arith, same)) (omega (arith, all))
                (inr (ap (λ (k : Change). k.tick) l, subst (λ (k : Change). k.signal < n + 1) (sym l) (omega arith)))
                (λ i h. value_push (first_of first ((n + 1) + i)) ((n + 1) + i) before c ∙ cond-false (nat_eq n ((n + 1) + i)) y _ (ne_eqb n ((n + 1) + i) (λ f. absurd (omega (arith, f))))
                ∙ subst (λ (j : ℕ). value_behind (first_of first j) j before ≡ get_or vs i d) (shift i) (values (suc i) (omega (arith, h))))
                (λ i h. subst (λ (j : ℕ). in_range (type_of gs j) (get_or ws i d) ≡ true) (shift i) (fits (suc i) (omega (arith, h)))),
          )
    ]
  where
    here : n + 0 ≡ n
    here = omega arith

    shift : (i : ℕ) → n + suc i ≡ (n + 1) + i
    shift i = omega arith

    differs : int_eq x y ≡ false → x ≡ y → ⊥
    differs e f = let yes : int_eq x y ≡ true = subst (λ (z : ℤ). int_eq x z ≡ true) f (same_self x) in clash (sym yes ∙ e)
      where
        clash : true ≡ false → ⊥
        clash h = cc h

-- ---- first values

values_from : (gs : List Signal) (before vs : List ℤ) (d : ℤ) → ((i : ℕ) → i < length vs → in_range (type_of gs ((length before + 1) + i)) (get_or vs i d) ≡ true) → Each (Begins gs) before vs
values_from gs before [] d h = tt
values_from gs before (v ∷ vs) d h =
    let here : (length before + 1) + 0 ≡ length before + 1 = omega arith in
    let l = length_push before v in (
      subst (λ (j : ℕ). in_range (type_of gs j) v ≡ true) here (h 0 (omega arith)),
      values_from gs (before ++ v ∷ []) vs d (λ i g.
          let s : (length before + 1) + suc i ≡ (length (before ++ v ∷ []) + 1) + i = omega (arith, l) in
          subst (λ (j : ℕ). in_range (type_of gs j) (get_or vs i d) ≡ true) s (h (suc i) (omega (arith, g)))),
    )

pub are_values : (gs : List Signal) (vs : List ℤ) → AreOf gs vs → AreValues gs vs
are_values gs vs h =
    values_from gs [] vs (pos 0) (λ i g.
    let l = h.one_each in
    let e : (1 + i) - 1 ≡ i = omega arith in
    let n : (0 + 1) + i ≡ 1 + i = omega arith in
    subst (λ (j : ℕ). in_range (type_of gs j) (get_or vs i (pos 0)) ≡ true) (sym n) (subst (λ (j : ℕ). in_range (type_of gs (1 + i)) (get_or vs j (pos 0)) ≡ true) e (h.fit (1 + i) (omega arith) (omega (arith, l, g)))))

-- ---- the law

first_told : (o : Writing) (t : ℕ) → IsWriting o → o.closed ≡ None → t ≡ 0 → IsTickTold o None t
first_told o t w none zero_is = record {
  told = record {
    closed = refl;
    dump = record { signals = w.signals; first = are_values o.signals o.noted w.noted; one_each = w.noted.one_each; changes = tt };
    signals = refl;
    values = λ k h g. refl;
    past = omega arith;
  };
  text = ap joined (append-nil (head_part o.signals o.noted) ∙ ap (λ (cl : Option ℕ). lines_behind cl o t) (sym none));
  values = λ k s h g. sym (cond-false (nat_lt s t) (pos 0) (first_of o.noted k) (le-ltb s t (omega (arith, zero_is))));
}

next_told : (o : Writing) (w : Waveforms) (d t : ℕ) → IsWriting o → IsTold o w d → d < t → t ≤ 2 ^ 62 → IsTickTold o (Some w) t
next_told o w d t h told later early = record {
  told = record {
    closed = refl;
    dump = record {
      signals = told.dump.signals;
      first = told.dump.first;
      one_each = told.dump.one_each;
      changes = each-append (Follows w.signals w.first) [] w.changes new told.dump.changes follow;
    };
    signals = told.signals;
    values = λ k k1 k2. value_behind-append (first_of w.first k) k w.changes new ∙ ap (λ (v : ℤ). value_behind v k new) (told.values k k1 k2) ∙ value_new k k1 k2;
    past = subst (λ (c : Change). c.tick ≤ t) (sym (last_from-append (outset_of (length w.signals)) w.changes new)) (last_changed t 1 t (last_change w) o.written o.noted (let p = told.past in omega (arith, p, later)) (omega arith));
  };
  text = ap (λ (ls : List (List ℕ)). joined (head_part w.signals w.first ++ ls)) (change_lines-append w.signals 0 w.changes new)
      ∙ ap joined (sym (append_assoc (head_part w.signals w.first) (change_lines w.signals 0 w.changes) (change_lines w.signals (told_behind 0 w.changes) new)))
      ∙ joined-append (lines_of w) (change_lines w.signals (told_behind 0 w.changes) new)
      ∙ ap (λ (ls : List (List ℕ)). spelling w ++ joined ls) (any_told w.signals (told_behind 0 w.changes) d t 1 o.written o.noted last_told later
      ∙ ap (λ (gs : List Signal). change_lines gs d new) told.signals ∙ ap (λ (cl : Option ℕ). lines_behind cl o t) (sym told.closed));
  values = λ k s k1 k2. elim (cases_lt s t) [
    | inl l ↦ ap (λ (cs : List Change). value_behind (first_of w.first k) k cs) (filter-append (λ c. nat_le c.tick s) w.changes new ∙ ap (λ (cs : List Change). up_to s w.changes ++ cs) (up_to_later s t 1 o.written o.noted l) ∙ append-nil (up_to s w.changes))
        ∙ sym (cond-true (nat_lt s t) (value_at w k s) (first_of o.noted k) (lt-ltb s t l))
    | inr r ↦
        let p = told.past in
        ap (λ (cs : List Change). value_behind (first_of w.first k) k cs) (filter-append (λ c. nat_le c.tick s) w.changes new
        ∙ ap (λ (cs : List Change). cs ++ up_to s new) (up_to_all w.signals w.first s [] w.changes told.dump.changes (omega (arith, p, later, r)))
        ∙ ap (λ (cs : List Change). w.changes ++ cs) (up_to_now s t 1 o.written o.noted r))
        ∙ value_behind-append (first_of w.first k) k w.changes new ∙ ap (λ (v : ℤ). value_behind v k new) (told.values k k1 k2) ∙ value_new k k1 k2
        ∙ sym (cond-false (nat_lt s t) (value_at w k s) (first_of o.noted k) (le-ltb s t r))
  ];
}
  where
    new : List Change
    new = changes_at t 1 o.written o.noted

    value_new : (k : ℕ) → 1 ≤ k → k ≤ length o.signals → value_behind (first_of o.written k) k (changes_at t 1 o.written o.noted) ≡ first_of o.noted k
    value_new k k1 k2 =
        let e : 1 + (k - 1) ≡ k = omega (arith, k1) in
        let lw = h.written in
        let ln = h.noted.one_each in
        ap (λ (j : ℕ). value_behind (first_of o.written k) j (changes_at t 1 o.written o.noted)) (sym e)
        ∙ value_changed t 1 (k - 1) o.written o.noted (pos 0) (lw ∙ sym ln) (omega (arith, lw, k1, k2))

    last_told : told_behind 0 w.changes < t
    last_told = let l = told_last (outset_of (length w.signals)) w.changes in let p = told.past in omega (arith, l, p, later)

    follow : Each (Follows w.signals w.first) w.changes (changes_at t 1 o.written o.noted)
    follow =
        let lw = h.written in
        let ln = h.noted.one_each in
        let lg = ap (λ (gs : List Signal). length gs) told.signals in
        let p = told.past in
        changes_follow w.signals w.first t 1 o.written o.noted w.changes (pos 0) early (omega arith) (omega (arith, lw, ln)) (omega (arith, lw, lg)) (inl (omega (arith, p, later)))
        (λ i g. let e : (1 + i) - 1 ≡ i = omega arith in told.values (1 + i) (omega arith) (omega (arith, lw, g)) ∙ ap (λ (j : ℕ). get_or o.written j (pos 0)) e)
        (λ i g.
        let e : (1 + i) - 1 ≡ i = omega arith in
        subst (λ (gs : List Signal). in_range (type_of gs (1 + i)) (get_or o.noted i (pos 0)) ≡ true) (sym told.signals)
        (subst (λ (j : ℕ). in_range (type_of o.signals (1 + i)) (get_or o.noted j (pos 0)) ≡ true) e (h.noted.fit (1 + i) (omega arith) (omega (arith, ln, g)))))

pub written_is_dump : WrittenIsDump
written_is_dump o None t w told may early = first_told o t w told (subst (λ (cl : Option ℕ). MayClose cl t) told may)
written_is_dump o (Some v) t w told may early = next_told o v told.0 t w told.1 (subst (λ (cl : Option ℕ). MayClose cl t) told.1.closed may) early
