-- Blocks behind a sum, and their inputs.
use Rattle.std.proofs.Common.{◌≡◌, ℕ, ◌+◌, ◌≤◌, Bool, true, false, ◌&&◌, cond, nat_eq, Option, Some, None, sym, ap, ◌∙◌, arith}
use Rattle.sci_net.specs.declared.Wire.{Wire}
use Rattle.sci_net.specs.Net.{IsNet}
use Rattle.sci_net.specs.Parts.{Parts, IsBlock, IsInput, spec_of, wire_of}
use Rattle.sci_reaction.proofs.Lists.{and_both}
use Rattle.sci_ranges_refined.specs.Sums.{adds_two, takes_difference, subtracted, shrinks}
use Rattle.sci_ranges_refined.proofs.Adding.{two_added, two_inputs, subtracted_less}
use Rattle.sci_ranges_refined.proofs.Parts.{shrinking_is}
use Rattle.sci_ranges_rows.specs.Marks.{Marks}
use Rattle.sci_ranges_rows.specs.Tests.{is_along}
use Rattle.sci_ranges_pass.specs.Told.{shrinks_along, step_back, subtracts_along, aim_at, aim, either_of, stepped_back}

-- the one input of a block that shrinks
pub shrinking_input : (n : Parts) (m : Marks) (c : ℕ) (w : Wire) → IsNet n → IsBlock n w.block → shrinks_along n m c w ≡ true → IsInput n w.block 1
shrinking_input n m c w net block h =
    let p = and_both (nat_eq w.port 1) (shrinks (spec_of n w.block) && is_along m w.block c) h in
    let q = and_both (shrinks (spec_of n w.block)) (is_along m w.block c) p.1 in
    let is = shrinking_is (spec_of n w.block) (net.typed_specs w.block block) q.0 in
    record { block = block; least = omega arith; most = omega (arith, is.one) }

pub step_on : (n : Parts) (m : Marks) (c : ℕ) (w : Wire) → shrinks_along n m c w ≡ true → wire_of n w.block 1 ≡ step_back n m c w
step_on n m c w h = ap (λ (b : Bool). cond b (wire_of n w.block 1) w) (sym h)

pub step_off : (n : Parts) (m : Marks) (c : ℕ) (w : Wire) → shrinks_along n m c w ≡ false → w ≡ step_back n m c w
step_off n m c w h = ap (λ (b : Bool). cond b (wire_of n w.block 1) w) (sym h)

-- the input that a difference subtracts
pub subtracted_input : (n : Parts) (b : ℕ) → IsBlock n b → takes_difference (spec_of n b) ≡ true → IsInput n b (subtracted (spec_of n b) + 1)
subtracted_input n b block h =
    let t = two_inputs (spec_of n b) h in
    let less = subtracted_less (spec_of n b) in
    record { block = block; least = omega arith; most = omega (arith, t.1, less) }

-- the two inputs of a sum
pub added_input : (n : Parts) (b k : ℕ) → IsBlock n b → adds_two (spec_of n b) ≡ true → 1 ≤ k → k ≤ 2 → IsInput n b k
added_input n b k block h least most = let t = two_added (spec_of n b) h in record { block = block; least = least; most = omega (arith, t.1, most) }

pub aim_on : (n : Parts) (m : Marks) (c from more : ℕ) (w : Wire) → w ≡ stepped_back n m c (wire_of n c more) → subtracts_along n m c (wire_of n c from) w ≡ true
    → Some w.block ≡ aim_at n m c from more
aim_on n m c from more w e h =
    ap (λ (b : Bool). cond b (Some w.block) None) (sym h) ∙ ap (λ (v : Wire). cond (subtracts_along n m c (wire_of n c from) v) (Some v.block) None) e

pub aim_off : (n : Parts) (m : Marks) (c from more : ℕ) (w : Wire) → w ≡ stepped_back n m c (wire_of n c more) → subtracts_along n m c (wire_of n c from) w ≡ false
    → None ≡ aim_at n m c from more
aim_off n m c from more w e h =
    ap (λ (b : Bool). cond b (Some w.block) None) (sym h) ∙ ap (λ (v : Wire). cond (subtracts_along n m c (wire_of n c from) v) (Some v.block) None) e

-- of a sum of two inputs, the first that there is
pub aim_first : (n : Parts) (m : Marks) (c f : ℕ) → adds_two (spec_of n c) ≡ true → aim_at n m c 1 2 ≡ Some f → Some f ≡ aim n m c
aim_first n m c f h e =
    ap (λ (o : Option ℕ). either_of o (aim_at n m c 2 1)) (sym e) ∙ ap (λ (b : Bool). cond b (either_of (aim_at n m c 1 2) (aim_at n m c 2 1)) None) (sym h)

pub aim_second : (n : Parts) (m : Marks) (c : ℕ) (o : Option ℕ) → adds_two (spec_of n c) ≡ true → aim_at n m c 1 2 ≡ None → o ≡ aim_at n m c 2 1 → o ≡ aim n m c
aim_second n m c o h e is =
    is ∙ (ap (λ (p : Option ℕ). either_of p (aim_at n m c 2 1)) (sym e) ∙ ap (λ (b : Bool). cond b (either_of (aim_at n m c 1 2) (aim_at n m c 2 1)) None) (sym h))

pub no_aim : (n : Parts) (m : Marks) (c : ℕ) → adds_two (spec_of n c) ≡ false → None ≡ aim n m c
no_aim n m c h = ap (λ (b : Bool). cond b (either_of (aim_at n m c 1 2) (aim_at n m c 2 1)) None) (sym h)
