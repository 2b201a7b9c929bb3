-- A tree has at most one flat net.
use Rattle.std.proofs.Common.{◌≡◌, ℕ, zero, suc, ◌<◌, List, [], ◌∷◌, length, map, refl, sym, ◌∙◌, ap, subst, arith, inl, inr, ◌⊎◌, true, pos}
use Rattle.std.specs.Prelude.{Ok, Contains, slice_index_or, nat_lt, nat_eq, ◌&&◌}
use Rattle.sci_diagram.specs.Objects.{Objects}
use Rattle.sci_forms.specs.declared.spec.Spec.{Spec}
use Rattle.sci_forms.proofs.TestLemmas.{both_true, either_true, nat_lt_told, nat_same}
use Rattle.sci_net.specs.declared.Wire.{Wire}
use Rattle.sci_net.specs.declared.Feed.{Feed}
use Rattle.sci_net.specs.Parts.{Parts, numbered, no_wire, no_spec, spec_of, wire_of, feeds_of, IsBlock, IsInput, IsActivationInput, precedes, AreRising}
use Rattle.sci_blocks.specs.declared.class.PortClass.TheVariants.{Input}
use Rattle.sci_blocks.specs.Blocks.{Placed}
use Rattle.sci_flat.specs.Ports.{port}
use Rattle.sci_flat.proofs.Source.{one_source}
use Rattle.sci_flat.proofs.Making.{blocks_found}
use Rattle.sci_flat.specs.Flat.{blocks, block_at, IsWire, IsFeed, IsFlatNet}

-- ---- lists

same_by : {A : Type 0} (d : A) (xs ys : List A) → length xs ≡ length ys → ((i : ℕ) → i < length xs → slice_index_or xs i d ≡ slice_index_or ys i d) → xs ≡ ys
same_by d [] [] e h = refl
same_by d [] (y ∷ ys) e h = absurd (omega (arith, e))
same_by d (x ∷ xs) [] e h = absurd (omega (arith, e))
same_by d (x ∷ xs) (y ∷ ys) e h =
    let first : x ≡ y = h 0 (omega arith) in
    let rest : xs ≡ ys = same_by d xs ys (omega (arith, e)) (λ i l. h (suc i) (omega (arith, l))) in
    cc (first, rest)

in_or : (x : Feed) (xs : List Feed) (q : Feed) → Contains (x ∷ xs) q → (x ≡ q) ⊎ Contains xs q
in_or x xs q (zero, l, e) = inl e
in_or x xs q (suc i, l, e) = inr (i, omega (arith, l), e)

first_in : (x : Feed) (xs : List Feed) → Contains (x ∷ xs) x
first_in x xs = (0, omega arith, refl)

later_in : (x : Feed) (xs : List Feed) (q : Feed) → Contains xs q → Contains (x ∷ xs) q
later_in x xs q h = (suc h.0, omega (arith, h.1), h.2)

none_in : (q : Feed) → Contains [] q → ⊥
none_in q h = omega (arith, h.1)

-- an element behind the first comes after it
after_first : (x : Feed) (xs : List Feed) (q : Feed) → AreRising (x ∷ xs) → Contains xs q → precedes x q ≡ true
after_first x xs q rising h = subst (λ (y : Feed). precedes x y ≡ true) h.2 (rising 0 (suc h.0) q (omega arith) (omega (arith, h.1)))

rest_rising : (x : Feed) (xs : List Feed) → AreRising (x ∷ xs) → AreRising xs
rest_rising x xs rising i j d l k = rising (suc i) (suc j) d (omega (arith, l)) (omega (arith, k))

precedes_told : (a b : Feed) → precedes a b ≡ true → (a.block < b.block) ⊎ ((a.block ≡ b.block) × (a.port < b.port))
precedes_told a b h = elim (either_true (nat_lt a.block b.block) (nat_eq a.block b.block && nat_lt a.port b.port) h) [
  | inl l ↦ inl (nat_lt_told a.block b.block l)
  | inr r ↦ let p = both_true (nat_eq a.block b.block) (nat_lt a.port b.port) r in inr (nat_same a.block b.block p.0, nat_lt_told a.port b.port p.1)
]

not_both_ways : (a b : Feed) → precedes a b ≡ true → precedes b a ≡ true → ⊥
not_both_ways a b h k = elim (precedes_told a b h) [
  | inl l ↦ elim (precedes_told b a k) [ inl m ↦ omega (arith, l, m) | inr m ↦ omega (arith, l, m.0) ]
  | inr l ↦ elim (precedes_told b a k) [ inl m ↦ omega (arith, l.0, m) | inr m ↦ omega (arith, l.1, m.1) ]
]

same_first : (x : Feed) (xs : List Feed) (y : Feed) (ys : List Feed) → AreRising (x ∷ xs) → AreRising (y ∷ ys) → Contains (y ∷ ys) x → Contains (x ∷ xs) y → x ≡ y
same_first x xs y ys r s h k = elim (in_or y ys x h) [
  | inl e ↦ sym e
  | inr m ↦ elim (in_or x xs y k) [ inl e ↦ e | inr n ↦ absurd (not_both_ways x y (after_first x xs y r n) (after_first y ys x s m)) ]
]

kept_behind : (x : Feed) (xs : List Feed) (y : Feed) (ys : List Feed) → x ≡ y → AreRising (x ∷ xs) → (q : Feed) → Contains (y ∷ ys) q → Contains xs q → Contains ys q
kept_behind x xs y ys e r q h k = elim (in_or y ys q h) [
  | inl f ↦ let g : precedes x x ≡ true = subst (λ (z : Feed). precedes x z ≡ true) (sym (e ∙ f)) (after_first x xs q r k) in absurd (not_both_ways x x g g)
  | inr m ↦ m
]

-- rising lists with the same elements are equal
rising_same : (xs ys : List Feed) → AreRising xs → AreRising ys → ((q : Feed) → Contains xs q → Contains ys q) → ((q : Feed) → Contains ys q → Contains xs q) → xs ≡ ys
rising_same [] [] r s f g = refl
rising_same [] (y ∷ ys) r s f g = absurd (none_in y (g y (first_in y ys)))
rising_same (x ∷ xs) [] r s f g = absurd (none_in x (f x (first_in x xs)))
rising_same (x ∷ xs) (y ∷ ys) r s f g =
    let first : x ≡ y = same_first x xs y ys r s (f x (first_in x xs)) (g y (first_in y ys)) in
    let rest : xs ≡ ys = rising_same xs ys (rest_rising x xs r) (rest_rising y ys s)
    (λ q k. kept_behind x xs y ys first r q (f q (later_in x xs q k)) k)
    (λ q k. kept_behind y ys x xs (sym first) s q (g q (later_in y ys q k)) k) in
    cc (first, rest)

-- ---- nets

abbrev made_wire : ℕ → ℕ → Wire
made_wire b p = record { block = b; port = p }

wire_same : (w x : Wire) → w.block ≡ x.block → w.port ≡ x.port → w ≡ x
wire_same w x e f = ap (λ (b : ℕ). made_wire b w.port) e ∙ ap (made_wire x.block) f

abbrev made_parts : List Spec → List (List ℕ) → List (List Wire) → List (List (List Feed)) → Parts
made_parts specs paths wires feeds = record { specs = specs; paths = paths; wires = wires; feeds = feeds }

parts_same : (m n : Parts) → m.specs ≡ n.specs → m.paths ≡ n.paths → m.wires ≡ n.wires → m.feeds ≡ n.feeds → m ≡ n
parts_same m n a b c d =
    ap (λ (s : List Spec). made_parts s m.paths m.wires m.feeds) a ∙ (ap (λ (p : List (List ℕ)). made_parts n.specs p m.wires m.feeds) b
    ∙ (ap (λ (w : List (List Wire)). made_parts n.specs n.paths w m.feeds) c ∙ ap (made_parts n.specs n.paths n.wires) d))

one_wire : (t : Objects) (ps : List Placed) (b k : ℕ) (w x : Wire) → blocks t ≡ Ok ps → IsWire t ps b k w → IsWire t ps b k x → w ≡ x
one_wire t ps b k w x e h g =
    let walks = blocks_found t ps e in
    let same = one_source t ps tt walks.0 walks.1 w.block w.port x.block x.port h.least h.most g.least g.most (port (block_at ps b).place Input (pos k)) refl h.fed g.fed in
    wire_same w x same.0 same.1

module _ (t : Objects) (m n : Parts) (h : IsFlatNet t m) (k : IsFlatNet t n) where
  same_placed : h.placed ≡ k.placed
  same_placed = let e : Ok h.placed ≡ Ok k.placed = sym h.blocks ∙ k.blocks in cc e

  same_specs : m.specs ≡ n.specs
  same_specs = h.specs ∙ (ap (map (λ (p : Placed). p.spec)) same_placed ∙ sym k.specs)

  same_paths : m.paths ≡ n.paths
  same_paths = h.paths ∙ (ap (map (λ (p : Placed). p.place)) same_placed ∙ sym k.paths)

  same_spec : (b : ℕ) → spec_of m b ≡ spec_of n b
  same_spec b = ap (λ (ss : List Spec). numbered no_spec ss b) same_specs

  here : (b : ℕ) → IsBlock m b → IsBlock n b
  here b i = record { least = i.least; most = let e = ap length same_specs in omega (arith, e, i.most) }

  row : (i : ℕ) → i < length m.wires → IsBlock m (suc i)
  row i l = record { least = omega arith; most = omega (arith, h.flat.wired.one_row_each, l) }

  feed_row : (i : ℕ) → i < length m.feeds → IsBlock m (suc i)
  feed_row i l = record { least = omega arith; most = omega (arith, h.flat.wired.one_feed_row_each, l) }

  same_wire : (b j : ℕ) → IsInput m b j → wire_of m b j ≡ wire_of n b j
  same_wire b j i =
      let there : IsInput n b j = record { block = here b i.block; least = i.least; most = let e = ap (λ (s : Spec). length s.ins) (same_spec b) in omega (arith, e, i.most) } in
      one_wire t k.placed b j (wire_of m b j) (wire_of n b j) k.blocks (subst (λ (ps : List Placed). IsWire t ps b j (wire_of m b j)) same_placed (h.wires b j i)) (k.wires b j there)

  same_wire_row : (b : ℕ) → IsBlock m b → numbered [] m.wires b ≡ numbered [] n.wires b
  same_wire_row b i =
      let e = ap (λ (s : Spec). length s.ins) (same_spec b) in
      let first = h.flat.wired.one_wire_each b i in
      let second = k.flat.wired.one_wire_each b (here b i) in
      same_by no_wire (numbered [] m.wires b) (numbered [] n.wires b) (first ∙ (e ∙ sym second))
      (λ j l. same_wire b (suc j) (record { block = i; least = omega arith; most = omega (arith, first, l) }))

  same_wires : m.wires ≡ n.wires
  same_wires = let e = ap length same_specs in
      same_by [] m.wires n.wires (h.flat.wired.one_row_each ∙ (e ∙ sym k.flat.wired.one_row_each)) (λ i l. same_wire_row (suc i) (row i l))

  same_feed_list : (b p : ℕ) → IsActivationInput m b p → feeds_of m b p ≡ feeds_of n b p
  same_feed_list b p i =
      let there : IsActivationInput n b p = record { block = here b i.block; least = i.least; most = let e = ap (λ (s : Spec). s.evtin) (same_spec b) in omega (arith, e, i.most) } in
      let a = h.feeds b p i in
      let c = k.feeds b p there in
      rising_same (feeds_of m b p) (feeds_of n b p) a.rising c.rising
      (λ q g. (c.exactly q).1 (subst (λ (ps : List Placed). IsFeed t ps b p q) same_placed ((a.exactly q).0 g)))
      (λ q g. (a.exactly q).1 (subst (λ (ps : List Placed). IsFeed t ps b p q) (sym same_placed) ((c.exactly q).0 g)))

  same_feed_row : (b : ℕ) → IsBlock m b → numbered [] m.feeds b ≡ numbered [] n.feeds b
  same_feed_row b i =
      let e = ap (λ (s : Spec). s.evtin) (same_spec b) in
      let first = h.flat.wired.one_feed_list_each b i in
      let second = k.flat.wired.one_feed_list_each b (here b i) in
      same_by [] (numbered [] m.feeds b) (numbered [] n.feeds b) (first ∙ (e ∙ sym second))
      (λ j l. same_feed_list b (suc j) (record { block = i; least = omega arith; most = omega (arith, first, l) }))

  same_feeds : m.feeds ≡ n.feeds
  same_feeds = let e = ap length same_specs in
      same_by [] m.feeds n.feeds (h.flat.wired.one_feed_row_each ∙ (e ∙ sym k.flat.wired.one_feed_row_each)) (λ i l. same_feed_row (suc i) (feed_row i l))

  same_parts : m ≡ n
  same_parts = parts_same m n same_specs same_paths same_wires same_feeds

pub one_flat : (t : Objects) (m n : Parts) → IsFlatNet t m → IsFlatNet t n → m ≡ n
one_flat t m n h k = same_parts t m n h k
