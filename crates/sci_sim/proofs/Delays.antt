-- One block after another programs its activation outputs.
use Rattle.std.proofs.Common.{◌≡◌, ℕ, zero, suc, ◌+◌, ◌-◌, ◌<◌, ◌≤◌, nat_lt, Bool, true, false, ◌⊎◌, inl, inr, ℤ, negsuc, List, [], ◌∷◌, ◌++◌, Contains, length, take, take_all, length-append, length-take-le, append_assoc, get_or, if◌then◌else◌, refl, sym, ◌∙◌, ap, arith}
use Rattle.std.proofs.Math.Seq.{take-suc}
use Rattle.std.proofs.lemmas.Bool.Decides.{nat_tests}
use Rattle.std.proofs.lemmas.List.{get_or_append_left, get_or-append_right, get_or-append-add, append-nil, take_more}
use Rattle.sci_links.proofs.TestLemmas.{known}
use Rattle.sci_forms.specs.declared.spec.Spec.{Spec}
use Rattle.sci_forms.specs.Form.{is_sync}
use Rattle.sci_net.specs.declared.Feed.{Feed}
use Rattle.sci_net.specs.declared.Source.{Source}
use Rattle.sci_net.specs.declared.Source.TheVariants.{Start, Port}
use Rattle.sci_net.specs.Parts.{Parts, IsBlock, no_spec, spec_of}
use Rattle.sci_net.specs.Sources.{ports_to, block_sources, sources_from, sources_of, source_of}
use Rattle.sci_reaction.proofs.Lists.{cons-Contains, Contains-cons}
use Rattle.sci_reaction.proofs.Sources.{sources_are}
use Rattle.sci_pending.specs.Pending.{Pending}
use Rattle.sci_run.specs.Programs.{with_delay, with_delays}
use Rattle.sci_sim.proofs.Programs.{with_more}

-- ---- the places of the sources

is_below : (i k : ℕ) → nat_lt i k ≡ true → i < k
is_below i k h = grind (arith, nat_tests)

not_below : (i k : ℕ) → nat_lt i k ≡ false → k ≤ i
not_below i k h = grind (arith, nat_tests)

below : (i k : ℕ) → (i < k) ⊎ (k ≤ i)
below i k = elim (known (nat_lt i k)) [ inl t ↦ inl (is_below i k t) | inr t ↦ inr (not_below i k t) ]

pub ports_length : (b n : ℕ) → length (ports_to b n) ≡ n
ports_length b zero = refl
ports_length b (suc n) = let before = ports_length b n in simp length-append (omega (arith, before))

abbrev port : ℕ → ℕ → Source
port b p = Port (record { block = b; port = p })

ports_at : (b n i : ℕ) → i < n → get_or (ports_to b n) i Start ≡ port b (i + 1)
ports_at b zero i h = absurd (omega (arith, h))
ports_at b (suc n) i h =
    let long = ports_length b n in
    elim (below i n) [
      | inl less ↦ get_or_append_left (ports_to b n) (port b (suc n) ∷ []) Start i (omega (arith, long)) ∙ ports_at b n i less
      | inr most ↦
          (let same : i ≡ length (ports_to b n) + 0 = omega (arith, long) in
          let last : suc n ≡ i + 1 = omega (arith, most, h) in
          ap (λ (k : ℕ). get_or (ports_to b n ++ port b (suc n) ∷ []) k Start) same
          ∙ (get_or-append-add (ports_to b n) (port b (suc n) ∷ []) 0 Start ∙ ap (port b) last))
    ]

own_at : (t : Bool) (b n i : ℕ) → i < length (if t then [] else ports_to b n) → get_or (if t then [] else ports_to b n) i Start ≡ port b (i + 1)
own_at true b n i h = absurd (omega (arith, h))
own_at false b n i h = let long = ports_length b n in ports_at b n i (omega (arith, h, long))

same_feed : (b p : ℕ) (q : Feed) → port b p ≡ Port q → (b ≡ q.block) × (p ≡ q.port)
same_feed b p q e = let f : ◌≡◌ {A = Feed} (record { block = b; port = p }) q = cc in (ap (λ (r : Feed). r.block) f, ap (λ (r : Feed). r.port) f)

-- the place of a source among those of the blocks from c on
record IsPlaced (c : ℕ) (ss : List Spec) (j : ℕ) (q : Feed) : Type 0 where
  from : c ≤ q.block
  place : j + 1 ≡ length (sources_from c (take (q.block - c) ss)) + q.port

placed_at : (c : ℕ) (ss : List Spec) (j : ℕ) (q : Feed) → j < length (sources_from c ss) → get_or (sources_from c ss) j Start ≡ Port q → IsPlaced c ss j q
placed_at c [] j q h e = absurd (omega (arith, h))
placed_at c (s ∷ ss) j q h e =
    let own : List Source = block_sources c s in
    let rest : List Source = sources_from (c + 1) ss in
    elim (below j (length own)) [
      | inl less ↦
          (let f = same_feed c (j + 1) q (sym (own_at (is_sync s.kind) c s.evtout j less) ∙ (sym (get_or_append_left own rest Start j less) ∙ e)) in
          let none : q.block - c ≡ 0 = let b = f.0 in omega arith in
          let before = ap (λ (d : ℕ). length (sources_from c (take d (s ∷ ss)))) none in
          record { from = let b = f.0 in omega arith; place = let p = f.1 in omega (arith, before) })
      | inr most ↦
          (let long = length-append own rest in
          let r = placed_at (c + 1) ss (j - length own) q (omega (arith, h, long)) (sym (get_or-append_right own rest (length own) j Start refl most) ∙ e) in
          let from : c + 1 ≤ q.block = r.from in
          let more : q.block - c ≡ suc (q.block - (c + 1)) = omega (arith, from) in
          let before = ap (λ (d : ℕ). length (sources_from c (take d (s ∷ ss)))) more in
          let both = length-append own (sources_from (c + 1) (take (q.block - (c + 1)) ss)) in
          record { from = omega (arith, from); place = let p = r.place in omega (arith, before, both, p, most) })
    ]

pub source_at : (n : Parts) (k : ℕ) (q : Feed) → 1 ≤ k → k < length (sources_of n) → source_of n k ≡ Port q
    → k ≡ length (sources_from 1 (take (q.block - 1) n.specs)) + q.port
source_at n zero q least most e = absurd (omega arith)
source_at n (suc k) q least most e = let r = placed_at 1 n.specs k q (omega (arith, most)) e in let p = r.place in omega (arith, p)

-- ---- the sources of the first blocks

abbrev pub sources_to : Parts → ℕ → List Source
sources_to n b = Start ∷ sources_from 1 (take b n.specs)

from_append : (c : ℕ) (xs ys : List Spec) → sources_from c (xs ++ ys) ≡ sources_from c xs ++ sources_from (c + length xs) ys
from_append c [] ys = ap (λ (k : ℕ). sources_from k ys) (let same : c ≡ c + 0 = omega arith in same)
from_append c (x ∷ xs) ys =
    let own : List Source = block_sources c x in
    let same : c + 1 + length xs ≡ c + suc (length xs) = omega arith in
    ap (λ (l : List Source). own ++ l) (from_append (c + 1) xs ys ∙ ap (λ (k : ℕ). sources_from (c + 1) xs ++ sources_from k ys) same)
    ∙ sym (append_assoc own (sources_from (c + 1) xs) (sources_from (c + suc (length xs)) ys))

to_more : (n : Parts) (b : ℕ) → b < length n.specs → sources_to n (suc b) ≡ sources_to n b ++ block_sources (suc b) (spec_of n (suc b))
to_more n b h =
    let s : Spec = spec_of n (suc b) in
    let long = length-take-le b n.specs (omega arith) in
    let same : 1 + length (take b n.specs) ≡ suc b = omega (arith, long) in
    ap (λ (l : List Spec). Start ∷ sources_from 1 l) (take-suc n.specs b no_spec h)
    ∙ ap (λ (l : List Source). Start ∷ l) (from_append 1 (take b n.specs) (s ∷ [])
    ∙ (ap (λ (k : ℕ). sources_from 1 (take b n.specs) ++ sources_from k (s ∷ [])) same
    ∙ ap (λ (l : List Source). sources_from 1 (take b n.specs) ++ l) (append-nil (block_sources (suc b) s))))

to_all : (n : Parts) → sources_to n (length n.specs) ≡ sources_of n
to_all n = ap (λ (l : List Spec). Start ∷ sources_from 1 l) (take_all (length n.specs) n.specs (omega arith))

-- ---- delays that are the same, or none

same_delays : (date : ℕ) (f g : Feed → ℤ) (k : ℕ) (ss : List Source) (p : Pending) → ((q : Feed) → Contains ss (Port q) → f q ≡ g q)
    → with_delays date f k ss p ≡ with_delays date g k ss p
same_delays date f g k [] p h = refl
same_delays date f g k (Start ∷ ss) p h = same_delays date f g (k + 1) ss p (λ q c. h q (cons-Contains Start ss (Port q) c))
same_delays date f g k (Port r ∷ ss) p h =
    ap (λ (d : ℤ). with_delays date f (k + 1) ss (with_delay date k d p)) (h r (0, omega arith, refl))
    ∙ same_delays date f g (k + 1) ss (with_delay date k (g r) p) (λ q c. h q (cons-Contains (Port r) ss (Port q) c))

-- of all sources, where those of the blocks are the same
pub same_blocks : (n : Parts) (date : ℕ) (f g : Feed → ℤ) (p : Pending) → ((q : Feed) → IsBlock n q.block → f q ≡ g q)
    → with_delays date f 0 (sources_of n) p ≡ with_delays date g 0 (sources_of n) p
same_blocks n date f g p h = same_delays date f g 0 (sources_of n) p (λ q c. h q ((sources_are n (Port q)).0 c).0.block)

-- one port more
pub ports_more : (date : ℕ) (f : Feed → ℤ) (k b i : ℕ) (p : Pending)
    → with_delay date (k + i) (f (record { block = b; port = i + 1 })) (with_delays date f k (ports_to b i) p) ≡ with_delays date f k (ports_to b (i + 1)) p
ports_more date f k b i p =
    let same : i + 1 ≡ suc i = omega arith in
    let long = ports_length b i in
    let place : k + i ≡ k + length (ports_to b i) = omega (arith, long) in
    let before : Pending = with_delays date f k (ports_to b i) p in
    ap (λ (j : ℕ). with_delay date j (f (record { block = b; port = i + 1 })) before) place
    ∙ (ap (λ (j : ℕ). with_delay date (k + length (ports_to b i)) (f (record { block = b; port = j })) before) same
    ∙ (sym (with_more date f k (ports_to b i) (port b (suc i) ∷ []) p) ∙ ap (λ (j : ℕ). with_delays date f k (ports_to b j) p) (sym same)))

pub same_ports : (date : ℕ) (f g : Feed → ℤ) (k b n : ℕ) (p : Pending) → ((i : ℕ) → f (record { block = b; port = i }) ≡ g (record { block = b; port = i }))
    → with_delays date f k (ports_to b n) p ≡ with_delays date g k (ports_to b n) p
same_ports date f g k b zero p h = refl
same_ports date f g k b (suc n) p h =
    let last : List Source = port b (suc n) ∷ [] in
    let at : ℕ = k + length (ports_to b n) in
    with_more date f k (ports_to b n) last p
    ∙ (ap (λ (r : Pending). with_delay date at (f (record { block = b; port = suc n })) r) (same_ports date f g k b n p h)
    ∙ (ap (λ (d : ℤ). with_delay date at d (with_delays date g k (ports_to b n) p)) (h (suc n)) ∙ sym (with_more date g k (ports_to b n) last p)))

quiet_ports : (date : ℕ) (f : Feed → ℤ) (k b n : ℕ) (p : Pending) → ((i : ℕ) → f (record { block = b; port = i }) ≡ negsuc 0)
    → with_delays date f k (ports_to b n) p ≡ p
quiet_ports date f k b zero p h = refl
quiet_ports date f k b (suc n) p h =
    let at : ℕ = k + length (ports_to b n) in
    with_more date f k (ports_to b n) (port b (suc n) ∷ []) p
    ∙ (ap (λ (r : Pending). with_delay date at (f (record { block = b; port = suc n })) r) (quiet_ports date f k b n p h)
    ∙ ap (λ (d : ℤ). with_delay date at d p) (h (suc n)))

quiet_own : (t : Bool) (date : ℕ) (f : Feed → ℤ) (k b n : ℕ) (p : Pending) → ((i : ℕ) → f (record { block = b; port = i }) ≡ negsuc 0)
    → with_delays date f k (if t then [] else ports_to b n) p ≡ p
quiet_own true date f k b n p h = refl
quiet_own false date f k b n p h = quiet_ports date f k b n p h

-- ---- blocks one after another

-- the places rise and are of blocks, all behind r
abbrev pub Rises : ℕ → ℕ → List ℕ → Type 0
Rises most r [] = Unit {0}
Rises most r (b ∷ bs) = (r < b) × (b ≤ most) × Rises most b bs

rises_above : (most r : ℕ) (bs : List ℕ) (c : ℕ) → Rises most r bs → Contains bs c → r < c
rises_above most r [] c h has = absurd (omega (arith, has.1))
rises_above most r (b ∷ bs) c h has = elim (Contains-cons b bs c has) [
  | inl here ↦ omega (arith, h.0, here)
  | inr there ↦ (let above = rises_above most b bs c h.2 there in omega (arith, h.0, above))
]

module _ (n : Parts) (date : ℕ) (f : Feed → ℤ) (on : ℕ → Bool) (first : ℕ → ℕ) where
  -- a block that programs
  abbrev pub one : ℕ → Pending → Pending
  one b p = if on b then with_delays date f (first b) (block_sources b (spec_of n b)) p else p

  abbrev pub over : List ℕ → Pending → Pending
  over [] p = p
  over (b ∷ bs) p = over bs (one b p)

  over_append : (xs ys : List ℕ) (p : Pending) → over (xs ++ ys) p ≡ over ys (over xs p)
  over_append [] ys p = refl
  over_append (x ∷ xs) ys p = over_append xs ys (one x p)

  pub over_more : (bs : List ℕ) (i d : ℕ) (p : Pending) → i < length bs → one (get_or bs i d) (over (take i bs) p) ≡ over (take (i + 1) bs) p
  over_more bs i d p h = sym (ap (λ (l : List ℕ). over l p) (take_more bs i d h) ∙ over_append (take i bs) (get_or bs i d ∷ []) p)

  abbrev to : ℕ → Pending → Pending
  to b p = with_delays date f 0 (sources_to n b) p

  to_next : (b : ℕ) (p : Pending) → b < length n.specs
      → to (suc b) p ≡ with_delays date f (length (sources_to n b)) (block_sources (suc b) (spec_of n (suc b))) (to b p)
  to_next b p h =
      let own : List Source = block_sources (suc b) (spec_of n (suc b)) in
      let same : 0 + length (sources_to n b) ≡ length (sources_to n b) = omega arith in
      ap (λ (ss : List Source). with_delays date f 0 ss p) (to_more n b h)
      ∙ (with_more date f 0 (sources_to n b) own p ∙ ap (λ (k : ℕ). with_delays date f k own (to b p)) same)

  module _
      (off : (b : ℕ) → IsBlock n b → on b ≡ false → (i : ℕ) → f (record { block = b; port = i }) ≡ negsuc 0)
      (placed : (b : ℕ) (p : Pending) → IsBlock n (suc b) → on (suc b) ≡ true → with_delays date f (first (suc b)) (block_sources (suc b) (spec_of n (suc b))) p
      ≡ with_delays date f (length (sources_to n b)) (block_sources (suc b) (spec_of n (suc b))) p) where
    block : (b : ℕ) → b < length n.specs → IsBlock n (suc b)
    block b h = record { least = omega arith; most = omega (arith, h) }

    quiet_next : (b : ℕ) (p : Pending) → b < length n.specs → on (suc b) ≡ false → to (suc b) p ≡ to b p
    quiet_next b p h none =
        to_next b p h ∙ quiet_own (is_sync (spec_of n (suc b)).kind) date f (length (sources_to n b)) (suc b) (spec_of n (suc b)).evtout (to b p)
        (off (suc b) (block b h) none)

    one_next : (b : ℕ) (p : Pending) → b < length n.specs → one (suc b) (to b p) ≡ to (suc b) p
    one_next b p h =
        let programs : Pending = with_delays date f (first (suc b)) (block_sources (suc b) (spec_of n (suc b))) (to b p) in
        elim (known (on (suc b))) [
          | inl is_on ↦ ap (λ (t : Bool). if t then programs else to b p) is_on ∙ (placed b (to b p) (block b h) is_on ∙ sym (to_next b p h))
          | inr none ↦ ap (λ (t : Bool). if t then programs else to b p) none ∙ sym (quiet_next b p h none)
        ]

    quiet : (r d : ℕ) (p : Pending) → r + d ≤ length n.specs → ((c : ℕ) → r < c → c ≤ r + d → on c ≡ false) → to (r + d) p ≡ to r p
    quiet r zero p h none = ap (λ (k : ℕ). to k p) (let same : r + 0 ≡ r = omega arith in same)
    quiet r (suc d) p h none =
        let same : r + suc d ≡ suc (r + d) = omega arith in
        ap (λ (k : ℕ). to k p) same
        ∙ (quiet_next (r + d) p (omega (arith, h)) (none (suc (r + d)) (omega arith) (omega arith))
        ∙ quiet r d p (omega (arith, h)) (λ c least most. none c least (omega (arith, most))))

    not_on : (bs : List ℕ) (c : ℕ) → (on c ≡ true → Contains bs c) → (Contains bs c → ⊥) → on c ≡ false
    not_on bs c all none = elim (known (on c)) [ inl is_on ↦ absurd (none (all is_on)) | inr none_on ↦ none_on ]

    -- all blocks behind r
    behind : (r : ℕ) (bs : List ℕ) (p : Pending) → r ≤ length n.specs → Rises (length n.specs) r bs
        → ((c : ℕ) → r < c → c ≤ length n.specs → on c ≡ true → Contains bs c) → over bs (to r p) ≡ to (length n.specs) p
    behind r [] p within rises all =
        let whole : r + (length n.specs - r) ≡ length n.specs = omega (arith, within) in
        sym (ap (λ (k : ℕ). to k p) (sym whole)
        ∙ quiet r (length n.specs - r) p (omega (arith, within))
        (λ c least most. not_on [] c (all c least (omega (arith, most, whole))) (λ has. absurd (omega (arith, has.1)))))
    behind r (zero ∷ bs) p within rises all = absurd (omega (arith, rises.0))
    behind r (suc b ∷ bs) p within rises all =
        let less : r ≤ b = omega (arith, rises.0) in
        let room : b < length n.specs = omega (arith, rises.1) in
        let gap : r + (b - r) ≡ b = omega (arith, less) in
        let still : to b p ≡ to r p = ap (λ (k : ℕ). to k p) (sym gap)
        ∙ quiet r (b - r) p (omega (arith, gap, room))
        (λ c least most. not_on (suc b ∷ bs) c (all c least (omega (arith, most, gap, room)))
        (λ has. let above : b < c = next_above b bs c rises.2 has in absurd (omega (arith, above, most, gap)))) in
        ap (λ (q : Pending). over bs (one (suc b) q)) (sym still)
        ∙ (ap (over bs) (one_next b p room) ∙ behind (suc b) bs p (omega (arith, room)) rises.2
        (λ c least most is_on. later b bs c least (all c (omega (arith, least, less)) most is_on)))
      where
        next_above : (b : ℕ) (bs : List ℕ) (c : ℕ) → Rises (length n.specs) (suc b) bs → Contains (suc b ∷ bs) c → b < c
        next_above b bs c rises has = elim (Contains-cons (suc b) bs c has) [
          | inl here ↦ omega (arith, here)
          | inr there ↦ (let above = rises_above (length n.specs) (suc b) bs c rises there in omega (arith, above))
        ]

        later : (b : ℕ) (bs : List ℕ) (c : ℕ) → suc b < c → Contains (suc b ∷ bs) c → Contains bs c
        later b bs c least has = elim (Contains-cons (suc b) bs c has) [ inl here ↦ absurd (omega (arith, here, least)) | inr there ↦ there ]

    pub over_all : (bs : List ℕ) (p : Pending) → Rises (length n.specs) 0 bs → ((c : ℕ) → IsBlock n c → on c ≡ true → Contains bs c)
        → over bs p ≡ with_delays date f 0 (sources_of n) p
    over_all bs p rises all =
        behind 0 bs p (omega arith) rises (λ c least most is_on. all c (record { least = least; most = most }) is_on)
        ∙ ap (λ (ss : List Source). with_delays date f 0 ss p) (to_all n)
