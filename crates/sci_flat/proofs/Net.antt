-- The parts of the flat net, put together.
use Rattle.std.proofs.Common.{◌≡◌, ◌<◌, ◌≤◌, ◌+◌, ℕ, zero, suc, pos, List, [], ◌∷◌, length, map, get_or, true, inl, inr, sym, ap, ◌∙◌, subst, arith}
use Rattle.std.specs.Prelude.{Contains}
use Rattle.std.proofs.lemmas.Bool.{cases_lt}
use Rattle.std.proofs.lemmas.List.{length-map, get_or-map}
use Rattle.std.proofs.lemmas.List.Elements.{Contains-get_or}
use Rattle.sci_base.specs.Plain.{Violation}
use Rattle.sci_diagram.specs.Objects.{Objects}
use Rattle.sci_forms.specs.declared.spec.Spec.{Spec}
use Rattle.sci_net.specs.declared.Wire.{Wire}
use Rattle.sci_net.specs.declared.Feed.{Feed}
use Rattle.sci_net.specs.Parts.{no_spec, precedes, AreRising, column_of}
use Rattle.sci_forms.specs.Form.{is_sensor}
use Rattle.sci_blocks.specs.declared.class.PortClass.{PortClass}
use Rattle.sci_blocks.specs.declared.class.PortClass.TheVariants.{Input, Output, ActivationInput, ActivationOutput}
use Rattle.sci_blocks.specs.Blocks.{Placed, placed}
use Rattle.sci_flat.specs.declared.steps.numbered.Numbered.{Numbered}
use Rattle.sci_flat.specs.PortNumbers.{start, count}
use Rattle.sci_flat.specs.Numbered.{spec_ports, IsNumbered}
use Rattle.sci_flat.specs.Tagged.{all_steps}
use Rattle.sci_flat.specs.Ends.{end_of, ends_of, AreFeeding}
use Rattle.sci_flat.specs.Wired.{feed_at, wire_at, no_wire, input_list, activation_list, seat_of, spec_at, IsTakenAt, IsReached, IsSoundAt, AllWired, AllFed, IsUnreached, source_missing, column_shared, BreaksAt}
use Rattle.sci_flat.specs.Flat.{block_at, IsWire, IsFeed}
use Rattle.sci_flat.specs.Refused.{ShareColumn, HasInput, IsFed, IsTaken, IsSound, AreSoundBefore, no_source, BreaksBlocks}
use Rattle.sci_flat.proofs.Meaning.{ends_rise, number_listed, seat_is, Source, listed_feeds, feeds_listed}

module _ (t : Objects) (ps : List Placed) (n : Numbered) (num : IsNumbered t ps (all_steps t) n) (specs : List Spec) (specs_is : specs ≡ map (λ p. p.spec) ps) where
  pub long_specs : length specs ≡ length ps
  long_specs = ap length specs_is ∙ length-map ps _

  pub spec_is : (b : ℕ) → b < length ps → get_or specs b no_spec ≡ (block_at ps (suc b)).spec
  spec_is b h = ap (λ (x : List Spec). get_or x b no_spec) specs_is ∙ get_or-map (λ (p : Placed). p.spec) ps b (placed [] no_spec) no_spec h

  counted : (b : ℕ) (c : PortClass) → b < length ps → count (seat_of n.blocks.items b) c ≡ spec_ports (block_at ps (suc b)).spec c
  counted b c h = (seat_is t ps n num b h).counts c

  pub counted_spec : (b : ℕ) (c : PortClass) → b < length ps → count (seat_of n.blocks.items b) c ≡ spec_ports (get_or specs b no_spec) c
  counted_spec b c h = counted b c h ∙ ap (λ (s : Spec). spec_ports s c) (sym (spec_is b h))

  module _ (feeds : List Feed) (lists : List (List ℕ)) (fed : AreFeeding n.blocks.items n.steps.items n.ports Output Input feeds lists) where
    fed_of : (b k i : ℕ) → b < length ps → k < count (seat_of n.blocks.items b) Input → Contains (input_list lists (seat_of n.blocks.items b) k) i → IsFed t ps (suc b) (suc k)
    fed_of b k i hb hk has = (wire_at feeds i, (listed_feeds t ps n num Output Input feeds lists fed b k hb hk i has).0)

    input_low : (b k : ℕ) → b < length ps → HasInput (block_at ps (suc b)) (suc k) → k < count (seat_of n.blocks.items b) Input
    input_low b k hb h = omega (arith, h.1, counted b Input hb)

    all_fed : (b : ℕ) → b < length ps → IsReached lists (seat_of n.blocks.items b) → (k : ℕ) → HasInput (block_at ps (suc b)) k → IsFed t ps (suc b) k
    all_fed b hb r zero h = absurd (omega (arith, h.0))
    all_fed b hb r (suc k) h = let low = input_low b k hb h in let one = r k low in fed_of b k one.0 hb low one.1

    taken_of : (b : ℕ) → b < length ps → IsTaken ps (suc b) → IsTakenAt specs b
    taken_of b hb (zero, h, l, s) = absurd (omega (arith, h))
    taken_of b hb (suc c, h, l, s) =
        let low : c < b = omega (arith, l) in
        let P : Spec → Type 0 = λ x. ShareColumn x (block_at ps (suc b)).spec in
        let Q : Spec → Type 0 = λ x. ShareColumn (spec_at specs c) x in
        (c, low, subst Q (sym (spec_is b hb)) (subst P (sym (spec_is c (omega arith))) s))

    taken_back : (b : ℕ) → b < length ps → IsTakenAt specs b → IsTaken ps (suc b)
    taken_back b hb (c, l, s) =
        let P : Spec → Type 0 = λ x. ShareColumn x (block_at ps (suc b)).spec in
        let Q : Spec → Type 0 = λ x. ShareColumn (spec_at specs c) x in
        (suc c, omega arith, omega (arith, l), subst P (spec_is c (omega (arith, l, hb))) (subst Q (spec_is b hb) s))

    sound_of : (b : ℕ) → b < length ps → IsSoundAt lists n.blocks.items specs b → IsSound t ps (suc b)
    sound_of b hb s = record { fed = all_fed b hb s.reached; own = λ x. s.own (taken_of b hb x) }

    sound_before : (b : ℕ) → b < length ps → ((c : ℕ) → c < b → IsSoundAt lists n.blocks.items specs c) → AreSoundBefore t ps (suc b)
    sound_before b hb s zero h l = absurd (omega arith)
    sound_before b hb s (suc c) h l = sound_of c (omega arith) (s c (omega arith))

    -- a refusal of the code is one of the tree
    pub broken : (paths : List (List ℕ)) → paths ≡ map (λ p. p.place) ps → (v : Violation) → BreaksAt lists n.blocks.items specs paths v → BreaksBlocks t ps v
    broken paths paths_is v (inl (b, k, u, e)) =
        let hb : b < length ps = omega (arith, u.there, num.one_seat_each) in
        let place : get_or paths b [] ≡ (block_at ps (suc b)).place = ap (λ (x : List (List ℕ)). get_or x b []) paths_is ∙ get_or-map (λ (p : Placed). p.place) ps b (placed [] no_spec) [] hb in
        let one_more : k + 1 ≡ suc k = omega arith in
        inl (
          suc b,
          suc k,
          record {
            least = omega arith;
            most = omega (arith, hb);
            sound = sound_before b hb u.sound;
            input = (omega arith, omega (arith, u.unfed.there, counted b Input hb));
            before = before b k hb u;
            unfed = λ w is. none b k hb u w is;
          },
          e ∙ (ap (λ (x : List ℕ). source_missing x k) place ∙ ap (λ (x : ℕ). let v : Violation = record { rule = (no_source ps (suc b) x).rule; place = (block_at ps (suc b)).place; detail = pos x ∷ [] } in v) one_more),
        )
      where
        before : (b k : ℕ) → b < length ps → IsUnreached lists n.blocks.items specs b k → (j : ℕ) → 1 ≤ j → j < suc k → IsFed t ps (suc b) j
        before b k hb u zero h l = absurd (omega arith)
        before b k hb u (suc j) h l = let one = u.unfed.before j (omega arith) in fed_of b j one.0 hb (omega (arith, l, u.unfed.there)) one.1

        none : (b k : ℕ) → b < length ps → IsUnreached lists n.blocks.items specs b k → (w : Wire) → IsWire t ps (suc b) (suc k) w → ⊥
        none b k hb u w is =
            let r = feeds_listed t ps n num Output Input feeds lists fed b k w.block w.port hb u.unfed.there is in
            let P : List ℕ → Type 0 = λ x. Contains x r.0 in
            let empty = subst P u.unfed.unfed r.1 in
            absurd (omega (arith, empty.1))
    broken paths paths_is v (inr (b, u, e)) =
        let hb : b < length ps = omega (arith, u.there, num.one_seat_each) in
        let place : get_or paths b [] ≡ (block_at ps (suc b)).place = ap (λ (x : List (List ℕ)). get_or x b []) paths_is ∙ get_or-map (λ (p : Placed). p.place) ps b (placed [] no_spec) [] hb in
        inr (
          suc b,
          record {
            least = omega arith;
            most = omega (arith, hb);
            sound = sound_before b hb u.sound;
            fed = all_fed b hb u.reached;
            taken = taken_back b hb u.taken;
          },
          e ∙ (ap (λ (x : List ℕ). column_shared x (spec_at specs b)) place ∙ ap (λ (s : Spec). column_shared (block_at ps (suc b)).place s) (spec_is b hb)),
        )

    -- the wires
    module _ (wires : List (List Wire)) (wired : AllWired feeds lists n.blocks.items specs (length n.blocks.items) wires) where
      pub wire_fed : (b k : ℕ) → b < length ps → k < count (seat_of n.blocks.items b) Input → (i : ℕ) × (get_or (get_or wires b []) k no_wire ≡ wire_at feeds i) × IsWire t ps (suc b) (suc k) (get_or (get_or wires b []) k no_wire) × Source ps n Output feeds i
      wire_fed b k hb hk =
          let w = (wired.each b (omega (arith, hb, num.one_seat_each))).each k hk in
          let r = listed_feeds t ps n num Output Input feeds lists fed b k hb hk w.0 w.1 in
          let P : Wire → Type 0 = IsWire t ps (suc b) (suc k) in
          (w.0, w.2, subst P (sym w.2) r.0, r.1)

      pub row_long : (b : ℕ) → b < length ps → length (get_or wires b []) ≡ length (get_or specs b no_spec).ins
      row_long b hb = (wired.each b (omega (arith, hb, num.one_seat_each))).long ∙ counted_spec b Input hb

      pub columns_own : (b c : ℕ) → b < length ps → c < length ps → is_sensor (get_or specs b no_spec).kind ≡ true → is_sensor (get_or specs c no_spec).kind ≡ true → column_of (get_or specs b no_spec) ≡ column_of (get_or specs c no_spec) → b ≡ c
      columns_own b c hb hc sb sc e = elim (cases_lt b c) [
        | inl l ↦ absurd ((wired.sound c (omega (arith, hc, num.one_seat_each))).own (b, l, record { first = sb; second = sc; column = e }))
        | inr g ↦ elim (cases_lt c b) [
          | inl l ↦ absurd ((wired.sound b (omega (arith, hb, num.one_seat_each))).own (c, l, record { first = sc; second = sb; column = sym e }))
          | inr h ↦ omega arith
        ]
      ]

  -- the feed lists
  module _ (feeds : List Feed) (lists : List (List ℕ)) (fed : AreFeeding n.blocks.items n.steps.items n.ports ActivationOutput ActivationInput feeds lists) where
    feed_low : (b p j : ℕ) → b < length ps → p < count (seat_of n.blocks.items b) ActivationInput → j < length (activation_list lists (seat_of n.blocks.items b) p) → get_or (activation_list lists (seat_of n.blocks.items b) p) j 0 < length feeds
    feed_low b p j hb hp h =
        let l = activation_list lists (seat_of n.blocks.items b) p in
        ((fed.exactly (start (seat_of n.blocks.items b) ActivationInput + p) (get_or l j 0) (number_listed ActivationInput n.blocks.items b p (omega (arith, hb, num.one_seat_each)) hp)).0 (Contains-get_or l j 0 h)).0

    mapped_rise : (b p : ℕ) → b < length ps → p < count (seat_of n.blocks.items b) ActivationInput → AreRising (map (feed_at feeds) (activation_list lists (seat_of n.blocks.items b) p))
    mapped_rise b p hb hp i j d h k =
        let l = activation_list lists (seat_of n.blocks.items b) p in
        let hj : j < length l = omega (arith, k, length-map l (feed_at feeds)) in
        let hi : i < length l = omega arith in
        let x = get_or-map (feed_at feeds) l i 0 d hi in
        let y = get_or-map (feed_at feeds) l j 0 d hj in
        let low : get_or l i 0 < get_or l j 0 = fed.rising (start (seat_of n.blocks.items b) ActivationInput + p) i j 0 h hj in
        let top : get_or l j 0 < length (ends_of ActivationOutput 1 n.blocks.items) = omega (arith, feed_low b p j hb hp hj, ap length fed.ends) in
        let r = ends_rise ActivationOutput 1 n.blocks.items (get_or l i 0) (get_or l j 0) (end_of 0 0) low top in
        let P : List Feed → Type 0 = λ z. precedes (get_or z (get_or l i 0) (end_of 0 0)) (get_or z (get_or l j 0) (end_of 0 0)) ≡ true in
        rw (x, y) (subst P (sym fed.ends) r)

    mapped_has : (b p : ℕ) (q : Feed) → b < length ps → p < count (seat_of n.blocks.items b) ActivationInput → Contains (map (feed_at feeds) (activation_list lists (seat_of n.blocks.items b) p)) q → IsFeed t ps (suc b) (suc p) q × (i : ℕ) × (feed_at feeds i ≡ q) × Source ps n ActivationOutput feeds i
    mapped_has b p q hb hp (j, h, e) =
        let l = activation_list lists (seat_of n.blocks.items b) p in
        let hj : j < length l = omega (arith, h, length-map l (feed_at feeds)) in
        let is : feed_at feeds (get_or l j 0) ≡ q = sym (get_or-map (feed_at feeds) l j 0 q hj) ∙ e in
        let r = listed_feeds t ps n num ActivationOutput ActivationInput feeds lists fed b p hb hp (get_or l j 0) (Contains-get_or l j 0 hj) in
        let P : Feed → Type 0 = IsFeed t ps (suc b) (suc p) in
        (subst P is r.0, get_or l j 0, is, r.1)

    mapped_all : (b p : ℕ) (q : Feed) → b < length ps → p < count (seat_of n.blocks.items b) ActivationInput → IsFeed t ps (suc b) (suc p) q → Contains (map (feed_at feeds) (activation_list lists (seat_of n.blocks.items b) p)) q
    mapped_all b p q hb hp f =
        let l = activation_list lists (seat_of n.blocks.items b) p in
        let r = feeds_listed t ps n num ActivationOutput ActivationInput feeds lists fed b p q.block q.port hb hp f in
        let same : feed_at feeds r.0 ≡ q = r.2 in
        (r.1.0, omega (arith, r.1.1, length-map l (feed_at feeds)), get_or-map (feed_at feeds) l r.1.0 r.0 q r.1.1 ∙ (ap (feed_at feeds) r.1.2 ∙ same))

    module _ (rows : List (List (List Feed))) (all : AllFed feeds lists n.blocks.items (length n.blocks.items) rows) where
      list_is : (b p : ℕ) → b < length ps → p < count (seat_of n.blocks.items b) ActivationInput → get_or (get_or rows b []) p [] ≡ map (feed_at feeds) (activation_list lists (seat_of n.blocks.items b) p)
      list_is b p hb hp = (all.each b (omega (arith, hb, num.one_seat_each))).each p hp

      pub feed_row_long : (b : ℕ) → b < length ps → length (get_or rows b []) ≡ (get_or specs b no_spec).evtin
      feed_row_long b hb = (all.each b (omega (arith, hb, num.one_seat_each))).long ∙ counted_spec b ActivationInput hb

      pub list_rises : (b p : ℕ) → b < length ps → p < count (seat_of n.blocks.items b) ActivationInput → AreRising (get_or (get_or rows b []) p [])
      list_rises b p hb hp = subst AreRising (sym (list_is b p hb hp)) (mapped_rise b p hb hp)

      pub list_has : (b p : ℕ) (q : Feed) → b < length ps → p < count (seat_of n.blocks.items b) ActivationInput → Contains (get_or (get_or rows b []) p []) q → IsFeed t ps (suc b) (suc p) q × (i : ℕ) × (feed_at feeds i ≡ q) × Source ps n ActivationOutput feeds i
      list_has b p q hb hp c = let P : List Feed → Type 0 = λ x. Contains x q in mapped_has b p q hb hp (subst P (list_is b p hb hp) c)

      pub list_all : (b p : ℕ) (q : Feed) → b < length ps → p < count (seat_of n.blocks.items b) ActivationInput → IsFeed t ps (suc b) (suc p) q → Contains (get_or (get_or rows b []) p []) q
      list_all b p q hb hp f = let P : List Feed → Type 0 = λ x. Contains x q in subst P (sym (list_is b p hb hp)) (mapped_all b p q hb hp f)
