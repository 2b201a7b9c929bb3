-- What reaches the ports of a class.
use Rattle.std.proofs.Common.{◌≡◌, ◌<◌, ◌+◌, ℕ, List, [], ◌∷◌, length, get_or, Bool, refl, sym, ap, ◌∙◌, subst, arith}
use Rattle.std.specs.Prelude.{Contains, All, ◌↔◌}
use Rattle.std.specs.List.{range_with_len}
use Rattle.std.proofs.lemmas.List.{length-append, length-map}
use Rattle.std.proofs.lemmas.List.FromFn.{length-range_with_len, get_or-range_with_len}
use Rattle.std.proofs.lemmas.List.Elements.{All-nil, All-append, All-head, All-tail}
use Rattle.sci_net.specs.declared.Feed.{Feed}
use Rattle.sci_blocks.specs.declared.class.PortClass.{PortClass}
use Rattle.sci_flat.specs.Chain.{Chain}
use Rattle.sci_flat.specs.Lists.{list_at}
use Rattle.sci_flat.specs.Reached.{IsWanted, AreReached}
use Rattle.sci_flat.specs.declared.steps.port_numbers.PortNumbers.{PortNumbers}
use Rattle.sci_flat.specs.PortNumbers.{start, count}
use Rattle.sci_flat.specs.Ends.{end_of, seat_numbers, seat_ends, numbers_of, ends_of, IsInside, AreFeeding}

pub numbers_within : (ports : ℕ) (c : PortClass) (ss : List PortNumbers) → All (IsInside ports) ss → All (λ n. n < ports) (numbers_of c ss)
numbers_within ports c [] h = All-nil (λ n. n < ports)
numbers_within ports c (s ∷ ss) h = All-append (λ n. n < ports) (seat_numbers c s) (numbers_of c ss) one (numbers_within ports c ss (All-tail (IsInside ports) s ss h))
  where
    one : All (λ n. n < ports) (seat_numbers c s)
    one k d l =
        let low : k < count s c = omega (arith, length-range_with_len (start s c) (count s c)) in
        let is = get_or-range_with_len (start s c) (count s c) k d low in
        let in' = All-head (IsInside ports) s ss h c k low in
        omega (arith, is, in')

pub length_ends : (c : PortClass) (b : ℕ) (ss : List PortNumbers) → length (numbers_of c ss) ≡ length (ends_of c b ss)
length_ends c b [] = refl
length_ends c b (s ∷ ss) =
    let more = length_ends c (b + 1) ss in
    let x = length-append (seat_numbers c s) (numbers_of c ss) in
    let y = length-append (seat_ends c b s) (ends_of c (b + 1) ss) in
    let u = length-range_with_len (start s c) (count s c) in
    let v = length-map (range_with_len 1 (count s c)) (end_of b) in
    let w = length-range_with_len 1 (count s c) in
    omega (arith, more, x, y, u, v, w)

pub marks_at : (ms ns : List Bool) (q : ℕ) → ms ≡ ns → IsWanted ns q → IsWanted ms q
marks_at ms ns q e h = subst (λ (x : List Bool). IsWanted x q) (sym e) h

pub are_feeding : (ss : List PortNumbers) (es : List (ℕ × ℕ)) (ports : ℕ) (from to : PortClass) (feeds : List Feed) (lists : List (List ℕ)) (sources : List ℕ) (wanted : List Bool) (targets : List ℕ) → feeds ≡ ends_of from 1 ss → sources ≡ numbers_of from ss
    → targets ≡ numbers_of to ss → length wanted ≡ ports → ((q : ℕ) → Contains targets q → IsWanted wanted q) → AreReached es sources wanted lists → AreFeeding ss es ports from to feeds lists
are_feeding ss es ports from to feeds lists sources wanted targets f s t long marks r = record {
  ends = f;
  long = r.long ∙ long;
  rising = r.rising;
  exactly = λ q i has.
      let P : List ℕ → Type 0 = λ x. Contains x q in
      let same : length sources ≡ length feeds = ap length s ∙ (length_ends from 1 ss ∙ sym (ap length f)) in
      let S : List ℕ → Type 0 = λ x. Contains (list_at lists q) i ↔ ((i < length feeds) × Chain es (get_or x i 0) q) in
      let L : ℕ → Type 0 = λ n. Contains (list_at lists q) i ↔ ((i < n) × Chain es (get_or sources i 0) q) in
      subst S s (subst L same (r.exactly q i (marks q (subst P (sym t) has))));
}
