-- At most one output of a block feeds a regular input.
use Rattle.std.proofs.Common.{◌≡◌, ℕ, zero, suc, ◌<◌, ◌≤◌, pos, List, [], length, get_or, Ok, refl, sym, ap, subst, arith}
use Rattle.sci_diagram.specs.Objects.{Objects}
use Rattle.sci_blocks.specs.declared.class.PortClass.{PortClass}
use Rattle.sci_blocks.specs.declared.class.PortClass.TheVariants.{Input, Output}
use Rattle.sci_blocks.specs.Blocks.{Placed, placed, parts_of}
use Rattle.sci_blocks.specs.Wiring.{links_of}
use Rattle.sci_blocks.specs.Kept.{AreBlocksKept, AreLinksKept}
use Rattle.sci_blocks.proofs.Keeping.{blocks_kept, links_kept}
use Rattle.sci_net.specs.Parts.{numbered, no_spec}
use Rattle.sci_flat.specs.Chain.{Step, Chain, stay, onward}
use Rattle.sci_flat.specs.Ports.{Port, port}
use Rattle.sci_flat.specs.Tagged.{all_steps}
use Rattle.sci_flat.specs.Laws.{IsRegular, output}
use Rattle.sci_flat.proofs.SingleBlocks.{nowhere, own_place}
use Rattle.sci_flat.proofs.TagSource.{one_before, regular_before, none_into}

abbrev IsStart : Objects → Port → Type 0
IsStart t a = (p : Port) → Step (all_steps t) p a → ⊥

-- two chains to a regular port that begin where no step leads begin at one port
one_start : (t : Objects) → AreBlocksKept t → AreLinksKept t → {a b q : Port} → IsStart t a → IsStart t b → IsRegular q.class → Chain (all_steps t) a q → Chain (all_steps t) b q → a ≡ b
one_start t blocks links none_a none_b r stay stay = refl
one_start t blocks links none_a none_b r stay (onward {q = m} c s) = absurd (none_a m s)
one_start t blocks links none_a none_b r (onward {q = m} c s) stay = absurd (none_b m s)
one_start t blocks links {a = a} {b = b} {q = q} none_a none_b r (onward {q = m} c s) (onward {q = n} d u) =
    let same : n ≡ m = one_before t blocks links n m q r u s in
    one_start t blocks links none_a none_b (regular_before t m q r s) c (subst (λ (x : Port). Chain (all_steps t) b x) same d)

-- the block at an index
start : (t : Objects) (ps : List Placed) → parts_of t ≡ Ok ps → (i : ℕ) → i < length ps → (k : ℕ) → IsStart t (port (get_or ps i nowhere).place Output (pos k))
start t ps h i l k p s = none_into t ps h i l p (port (get_or ps i nowhere).place Output (pos k)) refl refl s

by_index : (t : Objects) (ps : List Placed) (u : Unit {0}) → parts_of t ≡ Ok ps → links_of t ≡ Ok u → (i k j m : ℕ) → i < length ps → j < length ps → (q : Port) → IsRegular q.class
    → Chain (all_steps t) (port (get_or ps i nowhere).place Output (pos k)) q → Chain (all_steps t) (port (get_or ps j nowhere).place Output (pos m)) q → (i ≡ j) × (k ≡ m)
by_index t ps u h v i k j m l n q r c d =
    let e = one_start t (blocks_kept t ps h) (links_kept t u v) (start t ps h i l k) (start t ps h j n m) r c d in
    let f : pos k ≡ pos m = ap (λ (x : Port). x.number) e in
    (own_place t ps h i j l n (ap (λ (x : Port). x.place) e), cc)

pub one_source : (t : Objects) (ps : List Placed) (u : Unit {0}) → parts_of t ≡ Ok ps → links_of t ≡ Ok u → (s k s' k' : ℕ) → 1 ≤ s → s ≤ length ps → 1 ≤ s' → s' ≤ length ps → (q : Port) → q.class ≡ Input
    → Chain (all_steps t) (port (numbered (placed [] no_spec) ps s).place Output (pos k)) q → Chain (all_steps t) (port (numbered (placed [] no_spec) ps s').place Output (pos k')) q → (s ≡ s') × (k ≡ k')
one_source t ps u h v zero k s' k' a b a' b' q e c d = absurd (omega (arith, a))
one_source t ps u h v (suc i) k zero k' a b a' b' q e c d = absurd (omega (arith, a'))
one_source t ps u h v (suc i) k (suc j) k' a b a' b' q e c d =
    let both = by_index t ps u h v i k j k' (omega (arith, b)) (omega (arith, b')) q (subst (λ (x : PortClass). IsRegular x) (sym e) tt) c d in
    (ap suc both.0, both.1)

pub no_step : (t : Objects) (ps : List Placed) → parts_of t ≡ Ok ps → (s k : ℕ) → 1 ≤ s → s ≤ length ps → (p : Port) → Step (all_steps t) p (output ps s k) → ⊥
no_step t ps h zero k a b p s = absurd (omega (arith, a))
no_step t ps h (suc i) k a b p s = start t ps h i (omega (arith, b)) k p s

pub one_place : (t : Objects) (ps : List Placed) → parts_of t ≡ Ok ps → (s s' : ℕ) → 1 ≤ s → s ≤ length ps → 1 ≤ s' → s' ≤ length ps
    → (numbered (placed [] no_spec) ps s).place ≡ (numbered (placed [] no_spec) ps s').place → s ≡ s'
one_place t ps h zero s' a b a' b' e = absurd (omega (arith, a))
one_place t ps h (suc i) zero a b a' b' e = absurd (omega (arith, a'))
one_place t ps h (suc i) (suc j) a b a' b' e = ap suc (own_place t ps h i j (omega (arith, b)) (omega (arith, b')) e)
