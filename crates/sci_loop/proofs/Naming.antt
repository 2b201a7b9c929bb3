-- Rounds of places, and the loops of members that they are.
use Rattle.std.proofs.Common.{ℕ, ◌≡◌, ◌+◌, ◌-◌, ◌<◌, ◌≤◌, List, ◌++◌, length, get_or, map, take, drop, reverse, All, Contains, take-append-drop, subst, subst₂, sym, ap, ◌∙◌, arith, slice_index}
use Rattle.std.proofs.lemmas.List.{get_or_default, get_or-map, length-map, length-drop, get_or-drop, get_or_append_left}
use Rattle.std.proofs.lemmas.List.Sorted.{IsPermutation-append_comm, Contains-permutation}
use Rattle.sci_loop.specs.Loops.{IsLoop, IsFromLeast}
use Rattle.sci_loop.specs.Rounds.{IsRound}
use Rattle.sci_loop.proofs.Rounds.{round_loop, loop_turned}
use Rattle.sci_loop.specs.declared.table.DepTable.{DepTable}
use Rattle.sci_loop.specs.Table.{Needs, NeedsAt, IsTable}
use Rattle.sci_loop.proofs.Places.{same_place}

pub round_named : (t : DepTable) (xs : List ℕ) → IsTable t → ((k : ℕ) → k < length xs → get_or xs k 0 < length t.members.items) → IsRound (NeedsAt t) xs →
    IsRound (Needs t) (map (λ i. slice_index t.members.items i) xs)
round_named t xs ok within r =
    let f : ℕ → ℕ = λ i. slice_index t.members.items i in
    let long = length-map xs f in
    let at = λ (k : ℕ) (h : k < length xs). get_or-map f xs k 0 0 h in
    record {
      some = omega (arith, long, r.some);
      apart = λ i j hi hj e.
          let li : i < length xs = omega (arith, long, hi) in let lj : j < length xs = omega (arith, long, hj) in
          r.apart i j li lj (same_place t.members.items (get_or xs i 0) (get_or xs j 0) ok.rising (within i li) (within j lj) (sym (at i li) ∙ (e ∙ at j lj)));
      step = λ k h.
          let l : k + 1 < length xs = omega (arith, long, h) in
          subst₂ (Needs t) (sym (at k (omega (arith, l)))) (sym (at (k + 1) l)) (r.step k l);
      close =
          let some = r.some in
          let last : get_or (map f xs) (length (map f xs) - 1) 0 ≡ f (get_or xs (length xs - 1) 0) = ap (λ m. get_or (map f xs) (m - 1) 0) long ∙ at (length xs - 1) (omega (arith, some)) in
          subst₂ (Needs t) (sym last) (sym (at 0 some)) r.close;
    }

-- the reading backwards of a round, from any of its numbers, is a loop
pub turned_loop : (needs : ℕ → ℕ → Type 0) (xs : List ℕ) (p : ℕ) → IsRound needs xs → IsLoop needs (drop p (reverse xs) ++ take p (reverse xs))
turned_loop needs xs p r =
    let zs = reverse xs in
    loop_turned needs (take p zs) (drop p zs) (subst (IsLoop needs) (sym (take-append-drop p zs)) (round_loop needs xs r))

pub turned_least : (zs : List ℕ) (p : ℕ) → p < length zs → ((k : ℕ) → k < length zs → get_or zs p 0 ≤ get_or zs k 0) → IsFromLeast (drop p zs ++ take p zs)
turned_least zs p h least b has =
    let some : 0 < length (drop p zs) = let l = length-drop p zs in omega (arith, l, h) in
    let first : get_or (drop p zs ++ take p zs) 0 0 ≡ get_or zs p 0 =
    get_or_append_left (drop p zs) (take p zs) 0 0 some ∙ (get_or-drop p zs 0 0 ∙ ap (λ m. get_or zs m 0) (let z : p + 0 ≡ p = omega arith in z)) in
    let back : Contains zs b = subst (λ ys. Contains ys b) (take-append-drop p zs) (Contains-permutation (drop p zs ++ take p zs) (take p zs ++ drop p zs) b (IsPermutation-append_comm (drop p zs) (take p zs)) has) in
    let is : get_or zs back.0 0 ≡ b = get_or_default zs back.0 0 b back.1 ∙ back.2 in
    let low = least back.0 back.1 in
    omega (arith, first, is, low)

pub listed_loop : (t : DepTable) (places found zs out ms : List ℕ) (p : ℕ) → IsTable t → All (λ i. i < length t.members.items) places → IsRound (NeedsAt t) places → ms ≡ t.members.items →
    found ≡ map (λ i. slice_index ms i) places → zs ≡ reverse found → out ≡ drop p zs ++ take p zs → IsLoop (Needs t) out
listed_loop t places found zs out ms p ok within r same named back turned =
    let names = map (λ i. slice_index t.members.items i) places in
    let is : zs ≡ reverse names = back ∙ ap reverse (named ∙ ap (λ xs. map (λ i. slice_index xs i) places) same) in
    subst (IsLoop (Needs t)) (sym (turned ∙ ap (λ xs. drop p xs ++ take p xs) is)) (turned_loop (Needs t) names p (round_named t places ok (λ k h. within k 0 h) r))

pub listed_least : (zs ns out : List ℕ) (p : ℕ) → ns ≡ zs → p < length ns → ((k : ℕ) → k < length ns → get_or ns p 0 ≤ get_or ns k 0) → out ≡ drop p zs ++ take p zs → IsFromLeast out
listed_least zs ns out p same h least turned =
    subst IsFromLeast (sym turned)
    (turned_least zs p (subst (λ xs. p < length xs) same h) (subst (λ xs. (k : ℕ) → k < length xs → get_or xs p 0 ≤ get_or xs k 0) same least))
