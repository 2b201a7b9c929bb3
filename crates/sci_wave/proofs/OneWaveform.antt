-- A dump is known by its signals and by their values at all ticks.
use Rattle.std.proofs.Common.{◌≡◌, ℕ, ◌+◌, ◌-◌, ◌<◌, ◌≤◌, ℤ, pos, List, [], ◌∷◌, ◌++◌, length, get_or, Bool, true, false, ◌⊎◌, inl, inr, refl, sym, ap, ◌∙◌, subst, arith, append_assoc}
use Rattle.std.specs.Prelude.{nat_eq, nat_lt, nat_le, ◌&&◌, ◌||◌, if◌then◌else◌}
use Rattle.std.proofs.lemmas.Bool.{cases_order, ne_eqb, eq-eqb, ltb-true, eqb-true, leb-true, le-leb, lt-leb, and_parts, cond-true, cond-false}
use Rattle.std.proofs.lemmas.List.Elements.{filter-append}
use Rattle.std.proofs.lemmas.List.{ext_get_or}
use Rattle.sci_vcd.specs.declared.signal.Signal.{Signal}
use Rattle.sci_vcd.specs.declared.signal.Change.{Change}
use Rattle.sci_vcd.specs.Waveforms.{Waveforms, Each, first_of, is_later, outset_of, last_of, value_behind, Follows, AreChanges, IsDump, up_to, value_at}
use Rattle.sci_vcd.specs.Machine.{change_by}
use Rattle.sci_vcd.proofs.Eachs.{last_push}

-- ---- the order of changes

-- the first comes before the second
abbrev Before : Change → Change → Type 0
Before c d = (c.tick < d.tick) ⊎ ((c.tick ≡ d.tick) × (c.signal < d.signal))

-- or stands at its place
abbrev UpTo : Change → Change → Type 0
UpTo c d = (c.tick < d.tick) ⊎ ((c.tick ≡ d.tick) × (c.signal ≤ d.signal))

either : (a b : Bool) → (a || b) ≡ true → (a ≡ true) ⊎ (b ≡ true)
either true b h = inl refl
either false b h = inr h

before_of : (c d : Change) → is_later c d ≡ true → Before c d
before_of c d h =
    elim (either (nat_lt c.tick d.tick) (nat_eq c.tick d.tick && nat_lt c.signal d.signal) h) [
      | inl l ↦ inl (ltb-true c.tick d.tick l)
      | inr r ↦
          let p = and_parts (nat_eq c.tick d.tick) (nat_lt c.signal d.signal) r in
          inr (eqb-true c.tick d.tick p.0, ltb-true c.signal d.signal p.1)
    ]

beyond : (c d e : Change) → UpTo c d → Before d e → Before c e
beyond c d e (inl h) (inl g) = inl (omega (arith, h, g))
beyond c d e (inl h) (inr g) = inl (omega (arith, h, g.0))
beyond c d e (inr h) (inl g) = inl (omega (arith, h.0, g))
beyond c d e (inr h) (inr g) = inr (omega (arith, h.0, g.0), omega (arith, h.1, g.1))

weaker : (c d : Change) → Before c d → UpTo c d
weaker c d (inl h) = inl h
weaker c d (inr h) = inr (h.0, omega (arith, h.1))

no_earlier : (c d : Change) → Before c d → c.tick ≤ d.tick
no_earlier c d (inl h) = omega (arith, h)
no_earlier c d (inr h) = omega (arith, h.0)

in_order : (c d : Change) → Before c d ⊎ (Before d c ⊎ ((c.tick ≡ d.tick) × (c.signal ≡ d.signal)))
in_order c d =
    elim (cases_order c.tick d.tick) [
      | inl same ↦ elim (cases_order c.signal d.signal) [ inl one ↦ inr (inr (same, one)) | inr (inl less) ↦ inl (inr (same, less)) | inr (inr more) ↦ inr (inl (inr (sym same, more))) ]
      | inr (inl less) ↦ inl (inl less)
      | inr (inr more) ↦ inr (inl (inl more))
    ]

-- ---- values behind changes

behind-append : (v : ℤ) (n : ℕ) (cs ds : List Change) → value_behind v n (cs ++ ds) ≡ value_behind (value_behind v n cs) n ds
behind-append v n [] ds = refl
behind-append v n (c ∷ cs) ds = behind-append (if nat_eq c.signal n then c.value else v) n cs ds

kept : (t : ℕ) (c : Change) (cs : List Change) → c.tick ≤ t → up_to t (c ∷ cs) ≡ c ∷ up_to t cs
kept t c cs h = cond-true (nat_le c.tick t) (c ∷ up_to t cs) (up_to t cs) (le-leb c.tick t h)

dropped : (t : ℕ) (c : Change) (cs : List Change) → t < c.tick → up_to t (c ∷ cs) ≡ up_to t cs
dropped t c cs h = cond-false (nat_le c.tick t) (c ∷ up_to t cs) (up_to t cs) (lt-leb c.tick t h)

-- a later change leaves the signal of c as it is at its tick
passed : (v : ℤ) (c d : Change) (ds : List Change) → Before c d → value_behind v c.signal (up_to c.tick (d ∷ ds)) ≡ value_behind v c.signal (up_to c.tick ds)
passed v c d ds (inl h) = ap (λ (xs : List Change). value_behind v c.signal xs) (dropped c.tick d ds h)
passed v c d ds (inr h) =
    ap (λ (xs : List Change). value_behind v c.signal xs) (kept c.tick d ds (omega (arith, h.0)))
    ∙ ap (λ (u : ℤ). value_behind u c.signal (up_to c.tick ds)) (cond-false (nat_eq d.signal c.signal) d.value v (ne_eqb d.signal c.signal (λ e. absurd (omega (arith, e, h.1)))))

module _ (gs : List Signal) (first : List ℤ) where
  -- and so do all that come later
  left : (v : ℤ) (c : Change) (before cs : List Change) → UpTo c (last_of (length gs) before) → Each (Follows gs first) before cs → value_behind v c.signal (up_to c.tick cs) ≡ v
  left v c before [] h e = refl
  left v c before (d ∷ cs) h e =
      let next = beyond c (last_of (length gs) before) d h (before_of (last_of (length gs) before) d e.0.later) in
      let last = last_push (outset_of (length gs)) before d in
      passed v c d cs next ∙ left v c (before ++ d ∷ []) cs (subst (λ (x : Change). UpTo c x) (sym last) (weaker c d next)) e.1

  -- from the tick of the last one on these have all come
  abbrev HaveCome : List Change → Type 0
  HaveCome before = (t : ℕ) → (last_of (length gs) before).tick ≤ t → up_to t before ≡ before

  come_more : (before : List Change) (c : Change) → HaveCome before → Before (last_of (length gs) before) c → HaveCome (before ++ c ∷ [])
  come_more before c come next t late =
      let last = ap (λ (x : Change). x.tick) (last_push (outset_of (length gs)) before c) in
      let tick : c.tick ≤ t = omega (arith, last, late) in
      let earlier = no_earlier (last_of (length gs) before) c next in
      filter-append (λ x. nat_le x.tick t) before (c ∷ [])
      ∙ (ap (λ (xs : List Change). xs ++ up_to t (c ∷ [])) (come t (omega (arith, earlier, tick))) ∙ ap (λ (xs : List Change). before ++ xs) (kept t c [] tick))

  abbrev value_in : ℕ → ℕ → List Change → ℤ
  value_in n t cs = value_behind (first_of first n) n (up_to t cs)

  abbrev value_so_far : ℕ → List Change → ℤ
  value_so_far n before = value_behind (first_of first n) n before

  from_there : (n t : ℕ) (before cs : List Change) → HaveCome before → (last_of (length gs) before).tick ≤ t → value_in n t (before ++ cs) ≡ value_behind (value_so_far n before) n (up_to t cs)
  from_there n t before cs come late =
      ap (λ (xs : List Change). value_behind (first_of first n) n xs) (filter-append (λ x. nat_le x.tick t) before cs ∙ ap (λ (xs : List Change). xs ++ up_to t cs) (come t late))
      ∙ behind-append (first_of first n) n before (up_to t cs)

  -- a change shows at its tick
  shows : (before cs : List Change) (c : Change) → HaveCome before → Follows gs first before c → Each (Follows gs first) (before ++ c ∷ []) cs → value_in c.signal c.tick (before ++ c ∷ cs) ≡ c.value
  shows before cs c come follows e =
      let next = before_of (last_of (length gs) before) c follows.later in
      let last = last_push (outset_of (length gs)) before c in
      let v = value_so_far c.signal before in
      let place : UpTo c c = inr (refl, omega arith) in
      from_there c.signal c.tick before (c ∷ cs) come (no_earlier (last_of (length gs) before) c next)
      ∙ (ap (λ (xs : List Change). value_behind v c.signal xs) (kept c.tick c cs (omega arith))
      ∙ (ap (λ (u : ℤ). value_behind u c.signal (up_to c.tick cs)) (cond-true (nat_eq c.signal c.signal) c.value v (eq-eqb c.signal c.signal refl))
      ∙ left c.value c (before ++ c ∷ []) cs (subst (λ (x : Change). UpTo c x) (sym last) place) e))

  -- and where the next one comes later, none shows there
  hides : (before ds : List Change) (c d : Change) → HaveCome before → Before (last_of (length gs) before) c → Before c d → Each (Follows gs first) (before ++ d ∷ []) ds
      → value_in c.signal c.tick (before ++ d ∷ ds) ≡ value_so_far c.signal before
  hides before ds c d come next later e =
      let last = last_push (outset_of (length gs)) before d in
      let v = value_so_far c.signal before in
      from_there c.signal c.tick before (d ∷ ds) come (no_earlier (last_of (length gs) before) c next)
      ∙ (passed v c d ds later ∙ left v c (before ++ d ∷ []) ds (subst (λ (x : Change). UpTo c x) (sym last) (weaker c d later)) e)

  known_signal : (before : List Change) (c : Change) → Follows gs first before c → (1 ≤ c.signal) × (c.signal ≤ length gs)
  known_signal before c follows =
      let p = and_parts (nat_le 1 c.signal) (nat_le c.signal (length gs)) follows.known in
      (leb-true 1 c.signal p.0, leb-true c.signal (length gs) p.1)

  -- the values are the same at all ticks
  abbrev AreSame : List Change → List Change → Type 0
  AreSame cs ds = (n t : ℕ) → 1 ≤ n → n ≤ length gs → value_in n t cs ≡ value_in n t ds

  turned : (cs ds : List Change) → AreSame cs ds → AreSame ds cs
  turned cs ds same n t least most = sym (same n t least most)

  no_more : (before cs : List Change) (c : Change) → HaveCome before → Each (Follows gs first) before (c ∷ cs) → AreSame (before ++ c ∷ cs) (before ++ []) → ⊥
  no_more before cs c come e same =
      let known = known_signal before c e.0 in
      let next = before_of (last_of (length gs) before) c e.0.later in
      e.0.another
      (sym (shows before cs c come e.0 e.1) ∙ (same c.signal c.tick known.0 known.1 ∙ from_there c.signal c.tick before [] come (no_earlier (last_of (length gs) before) c next)))

  no_earlier_one : (before cs ds : List Change) (c d : Change) → HaveCome before → Each (Follows gs first) before (c ∷ cs) → Each (Follows gs first) before (d ∷ ds) → Before c d
      → AreSame (before ++ c ∷ cs) (before ++ d ∷ ds) → ⊥
  no_earlier_one before cs ds c d come e f earlier same =
      let known = known_signal before c e.0 in
      let next = before_of (last_of (length gs) before) c e.0.later in
      e.0.another (sym (shows before cs c come e.0 e.1) ∙ (same c.signal c.tick known.0 known.1 ∙ hides before ds c d come next earlier f.1))

  one_change : (before cs ds : List Change) (c d : Change) → HaveCome before → Each (Follows gs first) before (c ∷ cs) → Each (Follows gs first) before (d ∷ ds) → c.tick ≡ d.tick → c.signal ≡ d.signal
      → AreSame (before ++ c ∷ cs) (before ++ d ∷ ds) → c ≡ d
  one_change before cs ds c d come e f tick signal same =
      let known = known_signal before c e.0 in
      let value : c.value ≡ d.value =
      sym (shows before cs c come e.0 e.1)
      ∙ (same c.signal c.tick known.0 known.1
      ∙ (ap (λ (n : ℕ). value_in n c.tick (before ++ d ∷ ds)) signal ∙ (ap (λ (t : ℕ). value_in d.signal t (before ++ d ∷ ds)) tick ∙ shows before ds d come f.0 f.1))) in
      ap (λ (t : ℕ). change_by t c.signal c.value) tick ∙ (ap (λ (n : ℕ). change_by d.tick n c.value) signal ∙ ap (λ (v : ℤ). change_by d.tick d.signal v) value)

  same_changes : (before cs ds : List Change) → HaveCome before → Each (Follows gs first) before cs → Each (Follows gs first) before ds → AreSame (before ++ cs) (before ++ ds) → cs ≡ ds
  same_changes before [] [] come e f same = refl
  same_changes before (c ∷ cs) [] come e f same = absurd (no_more before cs c come e same)
  same_changes before [] (d ∷ ds) come e f same = absurd (no_more before ds d come f (turned (before ++ []) (before ++ d ∷ ds) same))
  same_changes before (c ∷ cs) (d ∷ ds) come e f same =
      elim (in_order c d) [
        | inl earlier ↦ absurd (no_earlier_one before cs ds c d come e f earlier same)
        | inr (inl later) ↦ absurd (no_earlier_one before ds cs d c come f e later (turned (before ++ c ∷ cs) (before ++ d ∷ ds) same))
        | inr (inr place) ↦
            let one = one_change before cs ds c d come e f place.0 place.1 same in
            let next = before_of (last_of (length gs) before) c e.0.later in
            let ours : (before ++ c ∷ []) ++ cs ≡ before ++ c ∷ cs = append_assoc before (c ∷ []) cs in
            let theirs : (before ++ c ∷ []) ++ ds ≡ before ++ d ∷ ds = append_assoc before (c ∷ []) ds ∙ ap (λ (x : Change). before ++ x ∷ ds) one in
            let behind = subst (λ (xs : List Change). AreSame xs ((before ++ c ∷ []) ++ ds)) (sym ours) (subst (λ (xs : List Change). AreSame (before ++ c ∷ cs) xs) (sym theirs) same) in
            let rest = same_changes (before ++ c ∷ []) cs ds (come_more before c come next) e.1 (subst (λ (x : Change). Each (Follows gs first) (before ++ x ∷ []) ds) (sym one) f.1) behind in
            ap (λ (x : Change). x ∷ cs) one ∙ ap (λ (xs : List Change). d ∷ xs) rest
      ]

  -- nothing changes at tick 0
  none_at_start : (before cs : List Change) → (1 ≤ (last_of (length gs) before).tick) ⊎ (((last_of (length gs) before).tick ≡ 0) × (length gs ≤ (last_of (length gs) before).signal)) → Each (Follows gs first) before cs → up_to 0 cs ≡ []
  none_at_start before [] h e = refl
  none_at_start before (d ∷ cs) h e =
      let last = ap (λ (x : Change). x.tick) (last_push (outset_of (length gs)) before d) in
      let tick = starts h (before_of (last_of (length gs) before) d e.0.later) in
      dropped 0 d cs tick ∙ none_at_start (before ++ d ∷ []) cs (inl (omega (arith, last, tick))) e.1
    where
      starts : (1 ≤ (last_of (length gs) before).tick) ⊎ (((last_of (length gs) before).tick ≡ 0) × (length gs ≤ (last_of (length gs) before).signal)) → Before (last_of (length gs) before) d → 0 < d.tick
      starts g (inl less) = omega (arith, less)
      starts (inl some) (inr same) = omega (arith, some, same.0)
      starts (inr all) (inr same) = let known = known_signal before d e.0 in absurd (omega (arith, all.1, same.1, known.1))

  begins : (cs : List Change) (n : ℕ) → AreChanges gs first cs → value_in n 0 cs ≡ first_of first n
  begins cs n e = ap (λ (xs : List Change). value_behind (first_of first n) n xs) (none_at_start [] cs (inr (refl, omega arith)) e)

-- ---- dumps

abbrev waves : List Signal → List ℤ → List Change → Waveforms
waves gs first cs = record { signals = gs; first = first; changes = cs }

one_first : (v w : Waveforms) → IsDump v → IsDump w → v.signals ≡ w.signals → ((n t : ℕ) → 1 ≤ n → n ≤ length v.signals → value_at v n t ≡ value_at w n t) → v.first ≡ w.first
one_first v w d e signals same =
    let many = d.one_each in
    let others = e.one_each in
    let count = ap (λ (gs : List Signal). length gs) signals in
    ext_get_or (pos 0) v.first w.first (omega (arith, many, others, count))
    (λ i h.
    let place : i + 1 - 1 ≡ i = omega arith in
    ap (λ (k : ℕ). get_or v.first k (pos 0)) (sym place)
    ∙ (sym (begins v.signals v.first v.changes (i + 1) d.changes) ∙ (same (i + 1) 0 (omega arith) (omega (arith, h, many)) ∙ (begins w.signals w.first w.changes (i + 1) e.changes ∙ ap (λ (k : ℕ). get_or w.first k (pos 0)) place))))

pub one_waveform : (v w : Waveforms) → IsDump v → IsDump w → v.signals ≡ w.signals → ((n t : ℕ) → 1 ≤ n → n ≤ length v.signals → value_at v n t ≡ value_at w n t) → v ≡ w
one_waveform v w d e signals same =
    let first = one_first v w d e signals same in
    let theirs = subst (λ (vs : List ℤ). AreChanges v.signals vs w.changes) (sym first) (subst (λ (gs : List Signal). AreChanges gs w.first w.changes) (sym signals) e.changes) in
    let values : (n t : ℕ) → 1 ≤ n → n ≤ length v.signals → value_behind (first_of v.first n) n (up_to t v.changes) ≡ value_behind (first_of v.first n) n (up_to t w.changes) =
    λ n t least most. same n t least most ∙ ap (λ (vs : List ℤ). value_behind (first_of vs n) n (up_to t w.changes)) (sym first) in
    let changes = same_changes v.signals v.first [] v.changes w.changes (λ t late. refl) d.changes theirs values in
    ap (λ (gs : List Signal). waves gs v.first v.changes) signals ∙ (ap (λ (vs : List ℤ). waves w.signals vs v.changes) first ∙ ap (λ (cs : List Change). waves w.signals w.first cs) changes)
