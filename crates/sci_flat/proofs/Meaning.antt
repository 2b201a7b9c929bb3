-- What the lists of ports mean: which port feeds which.
use Rattle.std.proofs.Common.{◌≡◌, ◌<◌, ◌+◌, ◌-◌, ℕ, zero, suc, pos, List, [], ◌∷◌, length, map, get_or, Bool, true, false, ◌&&◌, ◌||◌, inl, inr, refl, sym, ap, ◌∙◌, subst, arith}
use Rattle.std.specs.Prelude.{Contains, AllPairs, nat_lt, nat_eq}
use Rattle.std.specs.List.{range_with_len}
use Rattle.std.proofs.lemmas.Bool.{cases_lt}
use Rattle.std.proofs.lemmas.Bool.Decides.{nat_tests}
use Rattle.std.proofs.lemmas.List.{length-append, length-map, get_or-map, get_or_append_left, get_or-append-add, get_or_default}
use Rattle.std.proofs.lemmas.List.FromFn.{length-range_with_len, get_or-range_with_len}
use Rattle.sci_diagram.specs.Objects.{Objects}
use Rattle.sci_net.specs.declared.Feed.{Feed}
use Rattle.sci_net.specs.Parts.{precedes}
use Rattle.sci_blocks.specs.declared.class.PortClass.{PortClass}
use Rattle.sci_blocks.specs.Blocks.{Placed, placed}
use Rattle.sci_net.specs.Parts.{no_spec}
use Rattle.sci_flat.specs.Chain.{Step, Chain, stay, onward, AllWithin}
use Rattle.sci_flat.specs.Lists.{list_at}
use Rattle.sci_flat.specs.declared.steps.port_numbers.PortNumbers.{PortNumbers}
use Rattle.sci_flat.specs.declared.steps.numbered.Numbered.{Numbered}
use Rattle.sci_flat.specs.PortNumbers.{start, count, no_seat}
use Rattle.sci_flat.specs.Ports.{Port, port, PortStep}
use Rattle.sci_flat.specs.Numbered.{no_port, named_step, IsSeat, IsNumbered}
use Rattle.sci_flat.specs.Tagged.{all_steps}
use Rattle.sci_flat.specs.Ends.{end_of, seat_numbers, seat_ends, numbers_of, ends_of, AreFeeding}
use Rattle.sci_flat.specs.Wired.{feed_at, seat_of}
use Rattle.sci_flat.specs.Flat.{block_at, FedBy}
use Rattle.sci_flat.proofs.Reaching.{length_ends}

-- ---- the ports of a class, by index

-- index i is port k of block b, counted from 0, where the first of the seats is that of block `first`
pub record IsEnd (c : PortClass) (first : ℕ) (ss : List PortNumbers) (i b k : ℕ) : Type 0 where
  pub block : b < length ss
  pub port : k < count (seat_of ss b) c
  pub index : i < length (ends_of c first ss)
  pub is : feed_at (ends_of c first ss) i ≡ end_of (first + b) (k + 1)
  pub number : get_or (numbers_of c ss) i 0 ≡ start (seat_of ss b) c + k

seat_end : (c : PortClass) (b : ℕ) (s : PortNumbers) (k : ℕ) (d : Feed) → k < count s c → get_or (seat_ends c b s) k d ≡ end_of b (k + 1)
seat_end c b s k d h =
    let there : k < length (range_with_len 1 (count s c)) = omega (arith, length-range_with_len 1 (count s c)) in
    let is : get_or (range_with_len 1 (count s c)) k 0 ≡ k + 1 = omega (arith, get_or-range_with_len 1 (count s c) k 0 h) in
    get_or-map (end_of b) (range_with_len 1 (count s c)) k 0 d there ∙ ap (end_of b) is

length-seat_ends : (c : PortClass) (b : ℕ) (s : PortNumbers) → length (seat_ends c b s) ≡ count s c
length-seat_ends c b s = length-map (range_with_len 1 (count s c)) (end_of b) ∙ length-range_with_len 1 (count s c)

first_end : (c : PortClass) (first : ℕ) (s : PortNumbers) (ss : List PortNumbers) (k : ℕ) → k < count s c → IsEnd c first (s ∷ ss) k 0 k
first_end c first s ss k h =
    let long = length-seat_ends c first s in
    let long' = length-range_with_len (start s c) (count s c) in
    let same : first ≡ first + 0 = omega arith in
    record {
      block = omega arith;
      port = h;
      index = omega (arith, h, long, length-append (seat_ends c first s) (ends_of c (first + 1) ss));
      is = get_or_append_left (seat_ends c first s) (ends_of c (first + 1) ss) (end_of 0 0) k (omega (arith, h, long)) ∙ (seat_end c first s k (end_of 0 0) h ∙ ap (λ (x : ℕ). end_of x (k + 1)) same);
      number = get_or_append_left (seat_numbers c s) (numbers_of c ss) 0 k (omega (arith, h, long')) ∙ get_or-range_with_len (start s c) (count s c) k 0 h;
    }

later_end : (c : PortClass) (first : ℕ) (s : PortNumbers) (ss : List PortNumbers) (i b k : ℕ) → IsEnd c (first + 1) ss i b k → IsEnd c first (s ∷ ss) (count s c + i) (suc b) k
later_end c first s ss i b k e =
    let long = length-seat_ends c first s in
    let long' = length-range_with_len (start s c) (count s c) in
    let both = length-append (seat_ends c first s) (ends_of c (first + 1) ss) in
    let same : first + 1 + b ≡ first + suc b = omega arith in
    record {
      block = omega (arith, e.block);
      port = e.port;
      index = omega (arith, long, both, e.index);
      is = ap (λ (x : ℕ). get_or (ends_of c first (s ∷ ss)) (x + i) (end_of 0 0)) (sym long) ∙ (get_or-append-add (seat_ends c first s) (ends_of c (first + 1) ss) i (end_of 0 0) ∙ (e.is ∙ ap (λ (x : ℕ). end_of x (k + 1)) same));
      number = ap (λ (x : ℕ). get_or (numbers_of c (s ∷ ss)) (x + i) 0) (sym long') ∙ (get_or-append-add (seat_numbers c s) (numbers_of c ss) i 0 ∙ e.number);
    }

-- each index is a port
pub end_at : (c : PortClass) (first : ℕ) (ss : List PortNumbers) (i : ℕ) → i < length (ends_of c first ss) → (b : ℕ) × (k : ℕ) × IsEnd c first ss i b k
end_at c first [] i h = absurd (omega arith)
end_at c first (s ∷ ss) i h = elim (cases_lt i (count s c)) [
  | inl l ↦ (0, i, first_end c first s ss i l)
  | inr g ↦
      let both = length-append (seat_ends c first s) (ends_of c (first + 1) ss) in
      let low : i - count s c < length (ends_of c (first + 1) ss) = omega (arith, h, g, both, length-seat_ends c first s) in
      let r = end_at c (first + 1) ss (i - count s c) low in
      let same : count s c + (i - count s c) ≡ i = omega arith in
      (suc r.0, r.1, subst (λ (x : ℕ). IsEnd c first (s ∷ ss) x (suc r.0) r.1) same (later_end c first s ss (i - count s c) r.0 r.1 r.2))
]

-- each port has an index
pub end_of_port : (c : PortClass) (first : ℕ) (ss : List PortNumbers) (b k : ℕ) → b < length ss → k < count (seat_of ss b) c → (i : ℕ) × IsEnd c first ss i b k
end_of_port c first [] b k h l = absurd (omega arith)
end_of_port c first (s ∷ ss) zero k h l = (k, first_end c first s ss k l)
end_of_port c first (s ∷ ss) (suc b) k h l = let r = end_of_port c (first + 1) ss b k (omega arith) l in (count s c + r.0, later_end c first s ss r.0 b k r.1)

pub number_listed : (c : PortClass) (ss : List PortNumbers) (b k : ℕ) → b < length ss → k < count (seat_of ss b) c → Contains (numbers_of c ss) (start (seat_of ss b) c + k)
number_listed c ss b k h l =
    let r = end_of_port c 1 ss b k h l in
    let low : r.0 < length (numbers_of c ss) = omega (arith, r.1.index, length_ends c 1 ss) in
    (r.0, low, get_or_default (numbers_of c ss) r.0 (start (seat_of ss b) c + k) 0 low ∙ r.1.number)

-- they are in order
earlier_block : (a b p q : ℕ) → a < b → precedes (end_of a p) (end_of b q) ≡ true
earlier_block a b p q h = let e : nat_lt a b ≡ true = grind (arith, nat_tests) in ap (λ (t : Bool). t || (nat_eq a b && nat_lt p q)) e

earlier_port : (a p q : ℕ) → p < q → precedes (end_of a p) (end_of a q) ≡ true
earlier_port a p q h =
    let e : nat_lt p q ≡ true = grind (arith, nat_tests) in
    let f : nat_eq a a ≡ true = same a in
    ap (λ (t : Bool). nat_lt a a || (t && nat_lt p q)) f ∙ (ap (λ (t : Bool). nat_lt a a || (true && t)) e ∙ or_true (nat_lt a a))
  where
    same : (a : ℕ) → nat_eq a a ≡ true
    same a = grind (arith, nat_tests)

    or_true : (b : Bool) → (b || true) ≡ true
    or_true true = refl
    or_true false = refl

pub ends_rise : (c : PortClass) (first : ℕ) (ss : List PortNumbers) → AllPairs (λ a b. precedes a b ≡ true) (ends_of c first ss)
ends_rise c first [] i j d h l = absurd (omega arith)
ends_rise c first (s ∷ ss) i j d h l =
    let long = length-seat_ends c first s in
    let both = length-append (seat_ends c first s) (ends_of c (first + 1) ss) in
    elim (cases_lt j (count s c)) [
      | inl a ↦
          let low : i < count s c = omega arith in
          let x = get_or_append_left (seat_ends c first s) (ends_of c (first + 1) ss) d i (omega (arith, long, low)) ∙ seat_end c first s i d low in
          let y = get_or_append_left (seat_ends c first s) (ends_of c (first + 1) ss) d j (omega (arith, long, a)) ∙ seat_end c first s j d a in
          rw (x, y) (earlier_port first (i + 1) (j + 1) (omega arith))
      | inr g ↦
          let j' : ℕ = j - count s c in
          let sum : count s c + (j - count s c) ≡ j = omega arith in
          let low : j - count s c < length (ends_of c (first + 1) ss) = omega (arith, l, g, both, long) in
          let y = ap (λ (n : ℕ). get_or (ends_of c first (s ∷ ss)) n d) (sym sum ∙ ap (λ (n : ℕ). n + (j - count s c)) (sym long)) ∙ get_or-append-add (seat_ends c first s) (ends_of c (first + 1) ss) (j - count s c) d in
          elim (cases_lt i (count s c)) [
            | inl a ↦
                let x = get_or_append_left (seat_ends c first s) (ends_of c (first + 1) ss) d i (omega (arith, long, a)) ∙ seat_end c first s i d a in
                let r = end_at c (first + 1) ss (j - count s c) low in
                let z = get_or_default (ends_of c (first + 1) ss) (j - count s c) d (end_of 0 0) low ∙ r.2.is in
                rw (x, y, z) (earlier_block first (first + 1 + r.0) (i + 1) (r.1 + 1) (omega arith))
            | inr b ↦
                let sum' : count s c + (i - count s c) ≡ i = omega arith in
                let x = ap (λ (n : ℕ). get_or (ends_of c first (s ∷ ss)) n d) (sym sum' ∙ ap (λ (n : ℕ). n + (i - count s c)) (sym long)) ∙ get_or-append-add (seat_ends c first s) (ends_of c (first + 1) ss) (i - count s c) d in
                rw (x, y) (ends_rise c (first + 1) ss (i - count s c) (j - count s c) d (omega arith) low)
          ]
    ]

-- ---- chains by name and by number

step_forth : (names : List Port) (es : List (ℕ × ℕ)) (a b : ℕ) → Step es a b → Step (map (named_step names) es) (get_or names a no_port) (get_or names b no_port)
step_forth names [] a b s = absurd s
step_forth names (e ∷ es) a b (inl here) = inl (ap (λ (x : ℕ). get_or names x no_port) here.0, ap (λ (x : ℕ). get_or names x no_port) here.1)
step_forth names (e ∷ es) a b (inr later) = inr (step_forth names es a b later)

step_back : (names : List Port) (es : List (ℕ × ℕ)) (p q : Port) → Step (map (named_step names) es) p q → (a : ℕ) × (b : ℕ) × Step es a b × (get_or names a no_port ≡ p) × (get_or names b no_port ≡ q)
step_back names [] p q s = absurd s
step_back names (e ∷ es) p q (inl here) = (e.0, e.1, inl (refl, refl), here.0, here.1)
step_back names (e ∷ es) p q (inr later) = let r = step_back names es p q later in (r.0, r.1, inr r.2, r.3, r.4)

chain_forth : (names : List Port) (es : List (ℕ × ℕ)) {a b : ℕ} → Chain es a b → Chain (map (named_step names) es) (get_or names a no_port) (get_or names b no_port)
chain_forth names es stay = stay
chain_forth names es (onward {q = q} {r = r} before s) = onward (chain_forth names es before) (step_forth names es q r s)

from_below : (n : ℕ) (es : List (ℕ × ℕ)) (a b : ℕ) → Step es a b → AllWithin n es → (a < n) × (b < n)
from_below n [] a b s w = absurd s
from_below n (e ∷ es) a b (inl here) w = (subst (λ (x : ℕ). x < n) here.0 w.0, subst (λ (x : ℕ). x < n) here.1 w.1)
from_below n (e ∷ es) a b (inr later) w = from_below n es a b later w.2

chain_back : (names : List Port) (n : ℕ) (es : List (ℕ × ℕ)) → ((i j : ℕ) → i < n → j < n → get_or names i no_port ≡ get_or names j no_port → i ≡ j) → AllWithin n es
    → {p q : Port} → Chain (map (named_step names) es) p q → (y : ℕ) → y < n → q ≡ get_or names y no_port → (x : ℕ) × (x < n) × (p ≡ get_or names x no_port) × Chain es x y
chain_back names n es distinct w stay y h e = (y, h, e, stay)
chain_back names n es distinct w (onward {q = q} {r = r} before s) y h e =
    let t = step_back names es q r s in
    let low = from_below n es t.0 t.1 t.2 w in
    let same : t.1 ≡ y = distinct t.1 y low.1 h (t.4 ∙ e) in
    let c = chain_back names n es distinct w before t.0 low.0 (sym t.3) in
    (c.0, c.1, c.2, onward c.3 (subst (λ (x : ℕ). Step es t.0 x) same t.2))

-- ---- which ports feed a port

pub seat_is : (t : Objects) (ps : List Placed) (n : Numbered) (num : IsNumbered t ps (all_steps t) n) (b : ℕ) → b < length ps → IsSeat num.names (block_at ps (suc b)) (seat_of n.blocks.items b)
seat_is t ps n num b h =
    num.seats b (block_at ps (suc b)) (seat_of n.blocks.items b) h (get_or_default ps b (placed [] no_spec) (block_at ps (suc b)) h)
    (get_or_default n.blocks.items b (no_seat 0) (seat_of n.blocks.items b) (omega (arith, h, num.one_seat_each)))

-- an index of a port that reaches this one
pub record Source (ps : List Placed) (n : Numbered) (from : PortClass) (feeds : List Feed) (i : ℕ) : Type 0 where
  pub block : ℕ
  pub port : ℕ
  pub low : block < length ps
  pub there : port < count (seat_of n.blocks.items block) from
  pub is : feed_at feeds i ≡ end_of (suc block) (suc port)

module _ (t : Objects) (ps : List Placed) (n : Numbered) (num : IsNumbered t ps (all_steps t) n) (from to : PortClass) (feeds : List Feed) (lists : List (List ℕ)) (fed : AreFeeding n.blocks.items n.steps.items n.ports from to feeds lists) where
  -- the target is port p + 1 of block b + 1
  pub listed_feeds : (b p : ℕ) → b < length ps → p < count (seat_of n.blocks.items b) to → (i : ℕ) → Contains (list_at lists (start (seat_of n.blocks.items b) to + p)) i
      → FedBy t ps from to (feed_at feeds i).block (feed_at feeds i).port (suc b) (suc p) × Source ps n from feeds i
  listed_feeds b p hb hp i has =
      let ss = n.blocks.items in
      let low : b < length ss = omega (arith, hb, num.one_seat_each) in
      let r = (fed.exactly (start (seat_of ss b) to + p) i (number_listed to ss b p low hp)).0 has in
      let in' : i < length (ends_of from 1 ss) = omega (arith, r.0, ap length fed.ends) in
      let e = end_at from 1 ss i in' in
      let source : e.0 < length ps = omega (arith, e.2.block, num.one_seat_each) in
      let one : 1 + e.0 ≡ suc e.0 = omega arith in
      let two : e.1 + 1 ≡ suc e.1 = omega arith in
      let is : feed_at feeds i ≡ end_of (suc e.0) (suc e.1) = ap (λ (l : List Feed). feed_at l i) fed.ends ∙ (e.2.is ∙ (ap (λ (x : ℕ). end_of x (e.1 + 1)) one ∙ ap (end_of (suc e.0)) two)) in
      let s = seat_is t ps n num e.0 source in
      let q = seat_is t ps n num b hb in
      let up : p + 1 ≡ suc p = omega arith in
      let begins : get_or num.names (get_or (numbers_of from ss) i 0) no_port ≡ port (block_at ps (suc e.0)).place from (pos (suc e.1)) =
      ap (λ (x : ℕ). get_or num.names x no_port) e.2.number ∙ (s.named from e.1 e.2.port ∙ ap (λ (x : ℕ). port (block_at ps (suc e.0)).place from (pos x)) two) in
      let ends : get_or num.names (start (seat_of ss b) to + p) no_port ≡ port (block_at ps (suc b)).place to (pos (suc p)) = q.named to p hp ∙ ap (λ (x : ℕ). port (block_at ps (suc b)).place to (pos x)) up in
      let chain = chain_forth num.names n.steps.items r.1 in
      let P : Port → Type 0 = λ x. Chain (map (named_step num.names) n.steps.items) x (get_or num.names (start (seat_of ss b) to + p) no_port) in
      let Q : Port → Type 0 = λ x. Chain (map (named_step num.names) n.steps.items) (port (block_at ps (suc e.0)).place from (pos (suc e.1))) x in
      let S : List PortStep → Type 0 = λ x. Chain x (port (block_at ps (suc e.0)).place from (pos (suc e.1))) (port (block_at ps (suc b)).place to (pos (suc p))) in
      let whole : FedBy t ps from to (suc e.0) (suc e.1) (suc b) (suc p) = record { least = omega arith; most = omega (arith, source); fed = subst S num.steps (subst Q ends (subst P begins chain)) } in
      let F : Feed → Type 0 = λ x. FedBy t ps from to x.block x.port (suc b) (suc p) in
      (subst F (sym is) whole, record { block = e.0; port = e.1; low = source; there = e.2.port; is = is })

  pub feeds_listed : (b p s k : ℕ) → b < length ps → p < count (seat_of n.blocks.items b) to → FedBy t ps from to s k (suc b) (suc p) → (i : ℕ) × Contains (list_at lists (start (seat_of n.blocks.items b) to + p)) i × (feed_at feeds i ≡ end_of s k)
  feeds_listed b p zero k hb hp f = absurd (omega (arith, f.least))
  feeds_listed b p (suc s) k hb hp f =
      let ss = n.blocks.items in
      let low : b < length ss = omega (arith, hb, num.one_seat_each) in
      let source : s < length ps = omega (arith, f.most) in
      let low_s : s < length ss = omega (arith, source, num.one_seat_each) in
      let q = seat_is t ps n num b hb in
      let up : p + 1 ≡ suc p = omega arith in
      let ends : port (block_at ps (suc b)).place to (pos (suc p)) ≡ get_or num.names (start (seat_of ss b) to + p) no_port = sym (q.named to p hp ∙ ap (λ (x : ℕ). port (block_at ps (suc b)).place to (pos x)) up) in
      let S : List PortStep → Type 0 = λ x. Chain x (port (block_at ps (suc s)).place from (pos k)) (port (block_at ps (suc b)).place to (pos (suc p))) in
      let below : start (seat_of ss b) to + p < n.ports = omega (arith, q.inside to p hp, num.long) in
      let c = chain_back num.names n.ports n.steps.items num.distinct num.within (subst S (sym num.steps) f.fed) (start (seat_of ss b) to + p) below ends in
      let o = (seat_is t ps n num s source).only from (pos k) c.0 (omega (arith, c.1, num.long)) (sym c.2) in
      let e = end_of_port from 1 ss s o.0 low_s o.1 in
      let number : get_or (numbers_of from ss) e.0 0 ≡ c.0 = e.1.number ∙ sym o.3 in
      let up_k : k ≡ o.0 + 1 = cc in
      let one : 1 + s ≡ suc s = omega arith in
      let C : ℕ → Type 0 = λ x. Chain n.steps.items x (start (seat_of ss b) to + p) in
      let long : e.0 < length feeds = omega (arith, e.1.index, ap length fed.ends) in (
        e.0,
        (fed.exactly (start (seat_of ss b) to + p) e.0 (number_listed to ss b p low hp)).1 (long, subst C (sym number) c.3),
        ap (λ (l : List Feed). feed_at l e.0) fed.ends ∙ (e.1.is ∙ (ap (λ (x : ℕ). end_of x (o.0 + 1)) one ∙ ap (end_of (suc s)) (sym up_k))),
      )
