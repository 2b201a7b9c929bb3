-- The flat net as a whole.
use Rattle.std.proofs.Common.{◌≡◌, ◌<◌, ◌≤◌, ℕ, zero, suc, List, [], length, map, sym, ap, ◌∙◌, subst, arith, Ok}
use Rattle.std.specs.Prelude.{Contains}
use Rattle.std.proofs.lemmas.List.{length-map}
use Rattle.sci_diagram.specs.Objects.{Objects}
use Rattle.sci_net.specs.declared.Wire.{Wire}
use Rattle.sci_net.specs.declared.Feed.{Feed}
use Rattle.sci_net.specs.Parts.{Parts, numbered, no_spec, spec_of, wire_of, feeds_of, IsBlock, IsInput, IsOutput, IsActivationInput, IsActivationOutput, column_of, IsSensor, IsWired}
use Rattle.sci_net.specs.Flat.{IsFlat}
use Rattle.sci_blocks.specs.declared.class.PortClass.TheVariants.{Input, Output, ActivationInput, ActivationOutput}
use Rattle.sci_blocks.specs.Blocks.{Placed, placed}
use Rattle.sci_flat.specs.declared.steps.numbered.Numbered.{Numbered}
use Rattle.sci_flat.specs.PortNumbers.{count}
use Rattle.sci_flat.specs.Numbered.{IsNumbered}
use Rattle.sci_flat.specs.Tagged.{all_steps}
use Rattle.sci_flat.specs.Ends.{AreFeeding}
use Rattle.sci_flat.specs.Wired.{feed_at, seat_of, AllWired, AllFed}
use Rattle.sci_flat.specs.Flat.{blocks, IsWire, IsFeedList, IsFlatNet}
use Rattle.sci_flat.proofs.Meaning.{Source}
use Rattle.sci_flat.proofs.Net.{long_specs, spec_is, counted_spec, wire_fed, row_long, columns_own, feed_row_long, list_rises, list_has, list_all}
use Rattle.sci_flat.proofs.Formed.{IsGood, AllGood, good_at}

-- all that the net is made from
pub record Made (t : Objects) (ps : List Placed) (n : Numbered) (m : Parts) : Type 0 where
  pub num : IsNumbered t ps (all_steps t) n
  pub blocks : blocks t ≡ Ok ps
  pub few : length ps ≤ 2048
  pub good : AllGood ps
  pub specs : m.specs ≡ map (λ p. p.spec) ps
  pub paths : m.paths ≡ map (λ p. p.place) ps
  pub ends : List Feed
  pub lists : List (List ℕ)
  pub fed : AreFeeding n.blocks.items n.steps.items n.ports Output Input ends lists
  pub wired : AllWired ends lists n.blocks.items m.specs (length n.blocks.items) m.wires
  pub acts : List Feed
  pub act_lists : List (List ℕ)
  pub act_fed : AreFeeding n.blocks.items n.steps.items n.ports ActivationOutput ActivationInput acts act_lists
  pub all : AllFed acts act_lists n.blocks.items (length n.blocks.items) m.feeds

module _ (t : Objects) (ps : List Placed) (n : Numbered) (m : Parts) (a : Made t ps n m) where
  long : length m.specs ≡ length ps
  long = long_specs t ps n a.num m.specs a.specs

  low : (b : ℕ) → IsBlock m (suc b) → b < length ps
  low b i = omega (arith, i.most, long)

  input_low : (b k : ℕ) → IsInput m (suc b) (suc k) → k < count (seat_of n.blocks.items b) Input
  input_low b k i = omega (arith, i.most, counted_spec t ps n a.num m.specs a.specs b Input (low b i.block))

  activation_low : (b p : ℕ) → IsActivationInput m (suc b) (suc p) → p < count (seat_of n.blocks.items b) ActivationInput
  activation_low b p i = omega (arith, i.most, counted_spec t ps n a.num m.specs a.specs b ActivationInput (low b i.block))

  an_output : (i : ℕ) → Source ps n Output a.ends i → IsOutput m (feed_at a.ends i).block (feed_at a.ends i).port
  an_output i s =
      let counts = counted_spec t ps n a.num m.specs a.specs s.block Output s.low in
      let P : Feed → Type 0 = λ f. IsOutput m f.block f.port in
      subst P (sym s.is) (record { block = record { least = omega arith; most = omega (arith, s.low, long) }; least = omega arith; most = omega (arith, s.there, counts) })

  an_activation : (i : ℕ) → Source ps n ActivationOutput a.acts i → IsActivationOutput m (feed_at a.acts i).block (feed_at a.acts i).port
  an_activation i s =
      let counts = counted_spec t ps n a.num m.specs a.specs s.block ActivationOutput s.low in
      let P : Feed → Type 0 = λ f. IsActivationOutput m f.block f.port in
      subst P (sym s.is) (record { block = record { least = omega arith; most = omega (arith, s.low, long) }; least = omega arith; most = omega (arith, s.there, counts) })

  row_each : (b : ℕ) → IsBlock m b → length (numbered [] m.wires b) ≡ length (spec_of m b).ins
  row_each zero i = absurd (omega (arith, i.least))
  row_each (suc b) i = row_long t ps n a.num m.specs a.specs a.ends a.lists a.fed m.wires a.wired b (low b i)

  feed_row_each : (b : ℕ) → IsBlock m b → length (numbered [] m.feeds b) ≡ (spec_of m b).evtin
  feed_row_each zero i = absurd (omega (arith, i.least))
  feed_row_each (suc b) i = feed_row_long t ps n a.num m.specs a.specs a.acts a.act_lists a.act_fed m.feeds a.all b (low b i)

  wire_is : (b k : ℕ) → IsInput m b k → IsWire t ps b k (wire_of m b k) × IsOutput m (wire_of m b k).block (wire_of m b k).port
  wire_is zero k i = absurd (omega (arith, i.block.least))
  wire_is (suc b) zero i = absurd (omega (arith, i.least))
  wire_is (suc b) (suc k) i =
      let r = wire_fed t ps n a.num m.specs a.specs a.ends a.lists a.fed m.wires a.wired b k (low b i.block) (input_low b k i) in
      let P : Wire → Type 0 = λ w. IsOutput m w.block w.port in
      (r.2, subst P (sym r.1) (an_output r.0 r.3))

  feeds_are : (b p : ℕ) → IsActivationInput m b p → IsFeedList t ps b p (feeds_of m b p)
  feeds_are zero p i = absurd (omega (arith, i.block.least))
  feeds_are (suc b) zero i = absurd (omega (arith, i.least))
  feeds_are (suc b) (suc p) i = record {
    rising = list_rises t ps n a.num m.specs a.specs a.acts a.act_lists a.act_fed m.feeds a.all b p (low b i.block) (activation_low b p i);
    exactly = λ q. (
      λ c. (list_has t ps n a.num m.specs a.specs a.acts a.act_lists a.act_fed m.feeds a.all b p q (low b i.block) (activation_low b p i) c).0,
      λ f. list_all t ps n a.num m.specs a.specs a.acts a.act_lists a.act_fed m.feeds a.all b p q (low b i.block) (activation_low b p i) f,
    );
  }

  feeds_lead : (b p : ℕ) (q : Feed) → IsActivationInput m b p → Contains (feeds_of m b p) q → IsActivationOutput m q.block q.port
  feeds_lead zero p q i c = absurd (omega (arith, i.block.least))
  feeds_lead (suc b) zero q i c = absurd (omega (arith, i.least))
  feeds_lead (suc b) (suc p) q i c =
      let r = list_has t ps n a.num m.specs a.specs a.acts a.act_lists a.act_fed m.feeds a.all b p q (low b i.block) (activation_low b p i) c in
      let P : Feed → Type 0 = λ f. IsActivationOutput m f.block f.port in
      subst P r.2 (an_activation r.1 r.3)

  own_columns : (b c : ℕ) → IsSensor m b → IsSensor m c → column_of (spec_of m b) ≡ column_of (spec_of m c) → b ≡ c
  own_columns zero c i j e = absurd (omega (arith, i.block.least))
  own_columns (suc b) zero i j e = absurd (omega (arith, j.block.least))
  own_columns (suc b) (suc c) i j e = ap suc (columns_own t ps n a.num m.specs a.specs a.ends a.lists a.fed m.wires a.wired b c (low b i.block) (low c j.block) i.sensor j.sensor e)

  good_spec : (b : ℕ) → IsBlock m b → IsGood (spec_of m b)
  good_spec zero i = absurd (omega (arith, i.least))
  good_spec (suc b) i = subst IsGood (sym (spec_is t ps n a.num m.specs a.specs b (low b i))) (good_at ps b (placed [] no_spec) (low b i) a.good)

  wired : IsWired m
  wired = record {
    few = omega (arith, a.few, long);
    one_path_each = ap length a.paths ∙ (length-map ps _ ∙ sym long);
    one_row_each = a.wired.long ∙ (a.num.one_seat_each ∙ sym long);
    one_wire_each = row_each;
    one_feed_row_each = a.all.long ∙ (a.num.one_seat_each ∙ sym long);
    one_feed_list_each = feed_row_each;
    wires_lead = λ b k i. (wire_is b k i).1;
    feeds_rise = λ b p i. (feeds_are b p i).rising;
    feeds_lead = feeds_lead;
    own_columns = own_columns;
  }

  pub is_flat : IsFlat m
  is_flat = record { wired = wired; formed = λ b i. (good_spec b i).formed; declared = λ b i. (good_spec b i).declared }

  pub is_flat_net : IsFlatNet t m
  is_flat_net = record { placed = ps; blocks = a.blocks; specs = a.specs; paths = a.paths; flat = is_flat; wires = λ b k i. (wire_is b k i).0; feeds = feeds_are }
