-- A bulk diagram gives a flat net: no rule on tags, blocks, links and feeding is broken.
use Rattle.std.proofs.Common.{◌≡◌, ◌≤◌, ◌<◌, ◌+◌, inl, inr, ℕ, zero, suc, List, [], ◌∷◌, length, false, Some, Ok, Err, pos, refl, sym, ◌∙◌, ap, subst, arith}
use Rattle.std.specs.Prelude.{slice_get}
use Rattle.sci_base.specs.Plain.{Violation}
use Rattle.sci_base.specs.Outcome.{Outcome, ◌>>=◌}
use Rattle.sci_diagram.specs.Objects.{Objects, objects_of}
use Rattle.sci_forms.specs.declared.spec.Spec.{Spec}
use Rattle.sci_net.specs.declared.Wire.{Wire}
use Rattle.sci_net.specs.Parts.{numbered, no_spec}
use Rattle.sci_forms.specs.Form.{is_sensor}
use Rattle.sci_blocks.specs.declared.class.PortClass.TheVariants.{Input, Output, ActivationInput, ActivationOutput}
use Rattle.sci_blocks.specs.Blocks.{Placed, placed, parts_of}
use Rattle.sci_blocks.specs.Wiring.{links_of}
use Rattle.sci_goto.specs.Phase.{Tags, tags_of, no_tags}
use Rattle.sci_flat.specs.Chain.{Step}
use Rattle.sci_flat.specs.Ports.{Port, port}
use Rattle.sci_flat.specs.Flat.{blocks, block_at, IsWire, IsFeed}
use Rattle.sci_flat.specs.Refused.{HasInput, IsFed, IsTaken, BreaksBlocks, Breaks}
use Rattle.sci_bulk.specs.declared.data_block.DataBlock.{DataBlock}
use Rattle.sci_bulk.specs.declared.data_block.DataBlock.TheVariants.{One, Delay, Sum, Triple}
use Rattle.sci_bulk.specs.Bulk.{drawing}
use Rattle.sci_bulk.proofs.Shapes.{each_spec, clock_spec, data_spec, specs_of}
use Rattle.sci_bulk.proofs.Drawn.{IsDrawn, AreDrawn, drawn_at, each_number, specs_length, IsOf, is_clock, is_data, is_of, clock_number, data_number, data_within}
use Rattle.sci_bulk.proofs.Placing.{placed_from, tags_kept, parts_kept, block_is, placed_length}
use Rattle.sci_bulk.proofs.Linking.{links_kept}
use Rattle.sci_bulk.proofs.Stepping.{steps_in, single, chained, data_step, own_step, earlier_step}

all_blocks : (a : Outcome Tags) (b : Outcome (List Placed)) (c : Outcome (Unit {0})) (t : Tags) (ps : List Placed) → a ≡ Ok t → b ≡ Ok ps → c ≡ Ok tt → (a >>= λ _. b >>= λ qs. c >>= λ _. Ok qs) ≡ Ok ps
all_blocks a b c t ps h k l = rw (h, k, l) refl

pub never_both : {A : Type 0} (o : Outcome A) (a : A) (v : Violation) → o ≡ Ok a → o ≡ Err v → ⊥
never_both o a v h k = cc

pub same_value : {A : Type 0} (o : Outcome A) (a b : A) → o ≡ Ok a → o ≡ Ok b → a ≡ b
same_value o a b h k = cc

data_sensor : (d : DataBlock) → is_sensor (data_spec d).kind ≡ false
data_sensor One = refl
data_sensor (Delay c a) = refl
data_sensor (Sum a b) = refl
data_sensor (Triple a) = refl

pub never_sensor : (ds : List DataBlock) (b : ℕ) → is_sensor (numbered no_spec (specs_of ds) b).kind ≡ false
never_sensor ds b = each_number (λ (s : Spec). is_sensor s.kind ≡ false) (specs_of ds) no_spec refl (each_spec (λ (s : Spec). is_sensor s.kind ≡ false) (λ j. refl) data_sensor ds) b

module _ (ds : List DataBlock) (drawn : AreDrawn 1 ds) where
  abbrev pub tree : Objects
  tree = objects_of (drawing ds)

  abbrev pub all : List Placed
  all = placed_from 1 (specs_of ds)

  pub blocks_kept : blocks tree ≡ Ok all
  blocks_kept = all_blocks (tags_of tree) (parts_of tree) (links_of tree) no_tags all (tags_kept ds) (parts_kept ds) (links_kept ds drawn)

  pub all_length : length all ≡ 8 + length ds
  all_length = placed_length 1 (specs_of ds) ∙ specs_length ds

  pub there : (b : ℕ) → 1 ≤ b → b ≤ 8 + length ds → block_at all b ≡ placed (b ∷ []) (numbered no_spec (specs_of ds) b)
  there b l m = block_is (specs_of ds) b l (omega (arith, specs_length ds, m))

  -- ---- an input that a step leads to is fed

  fed_along : (a b k : ℕ) → 8 + a ≤ 8 + length ds → 1 ≤ b → b ≤ 8 + length ds → Step (steps_in ds) (port ((8 + a) ∷ []) Output (pos 1)) (port (b ∷ []) Input (pos k)) → IsFed tree all b k
  fed_along a b k inside least most s =
      let from = ap (λ (p : Placed). port p.place Output (pos 1)) (there (8 + a) (omega arith) inside) in
      let to = ap (λ (p : Placed). port p.place Input (pos k)) (there b least most) in (
        record { block = 8 + a; port = 1 },
        record {
          least = omega arith;
          most = omega (arith, all_length, inside);
          fed = chained ds (port (block_at all (8 + a)).place Output (pos 1)) (port (block_at all b).place Input (pos k))
              (subst (λ (q : Port). Step (steps_in ds) (port (block_at all (8 + a)).place Output (pos 1)) q) (sym to)
              (subst (λ (p : Port). Step (steps_in ds) p (port (b ∷ []) Input (pos k))) (sym from) s));
        },
      )

  input_fed : (m b k i : ℕ) (d : DataBlock) → b ≡ 9 + m → i ≡ 1 + m → slice_get ds m ≡ Some d → IsDrawn i d → 1 ≤ k → k ≤ length (data_spec d).ins → IsFed tree all b k
  input_fed m b k i One at count is h least most = absurd (omega (arith, least, most))
  input_fed m b k i (Delay c a) at count is h least most =
      let one : 1 ≡ k = omega (arith, least, most) in
      let l = h.3 in
      let inside = data_within ds m (Delay c a) is in
      subst (λ (j : ℕ). IsFed tree all b j) one
      (fed_along a b 1 (omega (arith, l, count, inside)) (omega (arith, at)) (omega (arith, at, inside)) (data_step ds m b (Delay c a) at is (port ((8 + a) ∷ []) Output (pos 1)) (port (b ∷ []) Input (pos 1)) (inr (inl (refl, refl)))))
  input_fed m b (suc zero) i (Sum a c) at count is h least most =
      let l = h.1 in
      let inside = data_within ds m (Sum a c) is in
      fed_along a b 1 (omega (arith, l, count, inside)) (omega (arith, at)) (omega (arith, at, inside)) (data_step ds m b (Sum a c) at is (port ((8 + a) ∷ []) Output (pos 1)) (port (b ∷ []) Input (pos 1)) (inl (refl, refl)))
  input_fed m b (suc (suc zero)) i (Sum a c) at count is h least most =
      let l = h.3 in
      let inside = data_within ds m (Sum a c) is in
      fed_along c b 2 (omega (arith, l, count, inside)) (omega (arith, at)) (omega (arith, at, inside)) (data_step ds m b (Sum a c) at is (port ((8 + c) ∷ []) Output (pos 1)) (port (b ∷ []) Input (pos 2)) (inr (inl (refl, refl))))
  input_fed m b zero i (Sum a c) at count is h least most = absurd (omega (arith, least))
  input_fed m b (suc (suc (suc k))) i (Sum a c) at count is h least most = absurd (omega (arith, most))
  input_fed m b k i (Triple a) at count is h least most =
      let one : 1 ≡ k = omega (arith, least, most) in
      let l = h.1 in
      let inside = data_within ds m (Triple a) is in
      subst (λ (j : ℕ). IsFed tree all b j) one
      (fed_along a b 1 (omega (arith, l, count, inside)) (omega (arith, at)) (omega (arith, at, inside)) (data_step ds m b (Triple a) at is (port ((8 + a) ∷ []) Output (pos 1)) (port (b ∷ []) Input (pos 1)) (inl (refl, refl))))

  -- how many inputs block b has
  inputs_of : (b : ℕ) (s : Spec) → 1 ≤ b → b ≤ 8 + length ds → numbered no_spec (specs_of ds) b ≡ s → length (block_at all b).spec.ins ≡ length s.ins
  inputs_of b s least most is = ap (λ (p : Placed). length p.spec.ins) (there b least most) ∙ ap (λ (x : Spec). length x.ins) is

  block_fed : (b k : ℕ) → 1 ≤ b → b ≤ 8 + length ds → HasInput (block_at all b) k → IsFed tree all b k
  block_fed b k least most has = by (is_of ds b least most)
    where
      by : IsOf ds b → IsFed tree all b k
      by (is_clock l m) =
          let none : length (block_at all b).spec.ins ≡ 0 = inputs_of b (clock_spec b) least most (clock_number ds b l m) in
          let h = has.0 in
          let j = has.1 in
          absurd (omega (arith, none, h, j))
      by (is_data m d at is) =
          let many = inputs_of b (data_spec d) least most (data_number ds b m d at is) in
          let j = has.1 in
          input_fed m b k (1 + m) d at refl is (drawn_at 1 m ds d drawn is) has.0 (omega (arith, many, j))

  -- ---- no column is read twice

  sensors : (b : ℕ) → 1 ≤ b → b ≤ 8 + length ds → is_sensor (block_at all b).spec.kind ≡ false
  sensors b least most = ap (λ (p : Placed). is_sensor p.spec.kind) (there b least most) ∙ never_sensor ds b

  none_taken : (b : ℕ) → b ≤ 8 + length ds → IsTaken all b → ⊥
  none_taken b most h =
      let c = h.0 in
      let l = h.1 in
      let less = h.2 in
      let is = h.3.first in
      let never = sensors h.0 l (omega (arith, less, most)) in
      cc

  -- ---- no rule is broken

  none_broken : (v : Violation) → BreaksBlocks tree all v → ⊥
  none_broken v (inl h) =
      let u = h.2 in
      let most = u.most in
      let fed = block_fed h.0 h.1 u.least (omega (arith, most, all_length)) u.input in
      u.unfed fed.0 fed.1
  none_broken v (inr h) =
      let u = h.1 in
      let most = u.most in
      none_taken h.0 (omega (arith, most, all_length)) u.taken

  pub keeps_rules : (v : Violation) → Breaks tree v → ⊥
  keeps_rules v (inl h) = never_both (blocks tree) all v blocks_kept h
  keeps_rules v (inr h) = none_broken v (subst (λ (ps : List Placed). BreaksBlocks tree ps v) (same_value (blocks tree) h.0 all h.1 blocks_kept) h.2)

  -- ---- what the flat net's wires and feeds are

  pub wire_earlier : (b k : ℕ) (w : Wire) → 1 ≤ b → b ≤ 8 + length ds → IsWire tree all b k w → w.block < b
  wire_earlier b k w least most h =
      let m = h.most in
      let from = ap (λ (p : Placed). port p.place Output (pos w.port)) (there w.block h.least (omega (arith, m, all_length))) in
      let to = ap (λ (p : Placed). port p.place Input (pos k)) (there b least most) in
      let s = single ds (port (block_at all w.block).place Output (pos w.port)) (port (block_at all b).place Input (pos k)) refl refl h.fed in
      earlier_step ds drawn w.block b (pos w.port) (pos k)
      (subst (λ (q : Port). Step (steps_in ds) (port (w.block ∷ []) Output (pos w.port)) q) to (subst (λ (p : Port). Step (steps_in ds) p (port (block_at all b).place Input (pos k))) from s))

  pub own_feed : (j : ℕ) → 1 ≤ j → j ≤ 8 → IsFeed tree all j 1 (record { block = j; port = 1 })
  own_feed j least most =
      let is = there j least (omega (arith, most)) in
      let from = ap (λ (p : Placed). port p.place ActivationOutput (pos 1)) is in
      let to = ap (λ (p : Placed). port p.place ActivationInput (pos 1)) is in
      record {
        least = least;
        most = omega (arith, most, all_length);
        fed = chained ds (port (block_at all j).place ActivationOutput (pos 1)) (port (block_at all j).place ActivationInput (pos 1))
            (subst (λ (q : Port). Step (steps_in ds) (port (block_at all j).place ActivationOutput (pos 1)) q) (sym to)
            (subst (λ (p : Port). Step (steps_in ds) p (port (j ∷ []) ActivationInput (pos 1))) (sym from) (own_step ds j least most)));
      }
