-- What is told of sums has their exact values, and what is told of switches what they take, where all is known of what a block needs.
use Rattle.std.proofs.Common.{◌≡◌, ℕ, suc, ◌+◌, ◌-◌, ◌*◌, ◌^◌, ◌<◌, ◌≤◌, Bool, true, false, cond, ℤ, pos, List, length, Option, Some, None, refl, sym, ap, subst, ◌∙◌, arith, inl, inr, ⊎_elim, true≢false}
use Rattle.std.specs.Prelude.{Result, Ok, option_and_then}
use Rattle.std.specs.Int.{int_div_euclid}
use Rattle.sci_base.specs.declared.observation.StopWord.{StopWord}
use Rattle.sci_base.specs.Lists.{at, truth_at}
use Rattle.sci_base.specs.declared.Ty.{Ty}
use Rattle.sci_forms.specs.declared.Kind.TheVariants.{Select}
use Rattle.sci_forms.specs.Form.{is_sensor}
use Rattle.sci_forms.specs.Ports.{elements, total, before, Fills, IsAlike}
use Rattle.sci_forms.specs.Words.{in_type, out_type, size}
use Rattle.sci_kinds.specs.declared.Cell.TheVariants.{Value}
use Rattle.sci_kinds.specs.Table.{Values, input, cell, out}
use Rattle.sci_kinds.proofs.Elements.{gathered_values, total_alike, total_one}
use Rattle.sci_net.specs.declared.Source.{Source}
use Rattle.sci_net.specs.declared.Wire.{Wire}
use Rattle.sci_net.specs.Net.{IsNet}
use Rattle.sci_net.specs.Parts.{Parts, IsBlock, IsInput, spec_of, wire_of, input_of, output_of}
use Rattle.sci_reaction.specs.Active.{Possible}
use Rattle.sci_reaction.specs.Depends.{Conditions, Depends}
use Rattle.sci_reaction.specs.Links.{has_feedthrough}
use Rattle.sci_reaction.specs.Memory.{Memory, Columns, next_value}
use Rattle.sci_reaction.specs.Equations.{Signals, Active, input_in, all_inputs, values_or_word, sensed, answer}
use Rattle.sci_reaction.proofs.Decide.{decide_possible}
use Rattle.sci_reaction.proofs.Fills.{input_in_range}
use Rattle.sci_reaction.proofs.Ranges.{laid_in_range}
use Rattle.sci_reaction.proofs.Spreading.{possible, Spread-block}
use Rattle.sci_ranges_base.specs.declared.interval.Interval.{Interval}
use Rattle.sci_ranges_base.specs.Intervals.{IsInSome, meet, range_at}
use Rattle.sci_ranges_base.specs.Cells.{MayBe}
use Rattle.sci_ranges_base.proofs.Numbers.{met_has}
use Rattle.sci_ranges_rules.specs.Rules.{compared}
use Rattle.sci_ranges_rules.proofs.Covers.{one_size}
use Rattle.sci_ranges_rules.proofs.Feeding.{fed_kind, port_of, before_alike}
use Rattle.sci_ranges_refined.specs.Sums.{is_sum, exact_sum, sum_cells, keeps_sum, IsPartOf, subtracted, either_input, leaking_sums, places_of}
use Rattle.sci_ranges_refined.specs.Choices.{is_switch, takes, taken_input, taken_place, taken_numbers, known_truth, sum_of}
use Rattle.sci_ranges_refined.specs.Laws.{AreWithin}
use Rattle.sci_ranges_refined.proofs.Adding.{sum_feeds, sum_senses_none, sum_no_choice, sum_asks, sum_is_within, two_inputs, two_added, subtracted_less, sum_is_fitted}
use Rattle.sci_ranges_refined.proofs.Parts.{same_part, part_of_part, shrinking_is, shift_shrinks, shift_is_quotient, shrinking_gives_part, difference_gives_part}
use Rattle.sci_ranges_refined.proofs.Going.{goes_between}
use Rattle.sci_ranges_refined.proofs.Leaking.{leak_is_within}
use Rattle.sci_ranges_refined.proofs.Choosing.{IsThree, switch_ports, switch_feeds, switch_no_choice, comparing_asks, comparing_feeds, comparing_senses_none, comparing_no_choice, ones_before, taken_has_number, comparison_is_known, sum_of_is_within}
use Rattle.sci_ranges_reads.specs.Live.{MayAct, IsLive, AreKnown}
use Rattle.sci_ranges_reads.proofs.Acting.{active_may_act, acts_too_is_active}
use Rattle.sci_ranges.specs.Table.{Table}
use Rattle.sci_ranges.specs.Reads.{Enters}
use Rattle.sci_ranges.specs.Told.{ActsAlong, first_output, HasPart, given, shrunk, GoesTowards, Leaks, HasSum, summed, towards, leaking, LooksAt, Keeps, as_read, as_condition, as_compared, TakesSum, HasTaken, is_kept, is_added}
use Rattle.sci_ranges.proofs.Wires.{input_at, element_at}
use Rattle.sci_ranges.proofs.Answering.{values_of}
use Rattle.sci_ranges.proofs.Reading.{IsBefore, Known, taken, chosen_at}
use Rattle.sci_ranges.proofs.Needing.{Needs, direct, needs_from}
use Rattle.sci_ranges.proofs.Reacting.{HaveSums, HaveChoices, HaveMore, entered_has}

-- ---- small words

-- the value at an element of what a wire has
abbrev pub on_wire : Parts → Signals → Wire → ℕ → ℤ
on_wire n y w e = at (y w.block) (before (spec_of n w.block).outs (w.port - 1) + e)

first_on : (n : Parts) (y : Signals) (b e : ℕ) → at (y b) e ≡ on_wire n y (first_output b) e
first_on n y b e = let same : e ≡ 0 + e = omega arith in ap (at (y b)) same

-- a number of two intervals
both_have : (o p : Option Interval) (v : ℤ) → IsInSome o v → IsInSome p v → IsInSome (meet o p) v
both_have None p v h k = absurd h
both_have (Some i) None v h k = absurd k
both_have (Some i) (Some j) v h k = met_has i j v h k

-- what a kind that is no sensor gives
not_sensed : (test : Bool) (a b : Result (List ℤ) StopWord) (vs : List ℤ) → test ≡ false → cond test a b ≡ Ok vs → b ≡ Ok vs
not_sensed true a b vs h g = absurd (true≢false h)
not_sensed false a b vs h g = g

-- an active block, where all is known that it needs
pub record IsReady (n : Parts) (j : Columns) (t : Table) (m : Memory) (s : Source) (y : Signals) (b : ℕ) : Type 0 where
  pub block : IsBlock n b
  pub on : Active n s y b
  pub needs : (c : ℕ) → Needs n s b c → Known n j t m s y c

-- of the block f whose part a wire has: that it is ready and known, its element, and the part
abbrev PartOn : Parts → Columns → Table → Memory → Source → Signals → (f : ℕ) → Wire → ℕ → Type 0
PartOn n j t m s y f w e = IsReady n j t m s y f × Known n j t m s y f × (e < size (spec_of n f)) × IsPartOf (at (y f) e) (on_wire n y w e)

module _ (n : Parts) (i j : Columns) (t : Table) (m : Memory) (s : Source) (y : Signals) (net : IsNet n) (live : IsLive n t.dead s) (old : IsBefore n t m s)
    (idle : (c : ℕ) → IsBlock n c → (Possible n s c → ⊥) → Known n j t m s y c) where
  -- ---- what it stands on

  inside_at : (b : ℕ) → IsBlock n b → (k : ℕ) → k < length (spec_of n b).ins → IsInput n b (suc k)
  inside_at b block k l = record { block = block; least = omega arith; most = omega (arith, l) }

  feeder_need : (b : ℕ) (r : IsReady n j t m s y b) (k : ℕ) → k < length (spec_of n b).ins → truth_at (spec_of n b).feed k ≡ true → Possible n s (wire_of n b (suc k)).block
      → Depends n s b (wire_of n b (suc k)).block
  feeder_need b r k l through may = record {
    possible = possible n s _ r.on;
    on_possible = may;
    waits = inl (record { input = suc k; within = inside_at b r.block k l; from = refl; through = through });
  }

  fed : (b : ℕ) (r : IsReady n j t m s y b) (k : ℕ) → k < length (spec_of n b).ins → truth_at (spec_of n b).feed k ≡ true → Known n j t m s y (wire_of n b (suc k)).block
  fed b r k l through =
      ⊎_elim
      (λ may. r.needs (wire_of n b (suc k)).block (direct (wire_of n b (suc k)).block (feeder_need b r k l through may)))
      (λ out. idle (wire_of n b (suc k)).block (net.wired.wires_lead b (suc k) (inside_at b r.block k l)).block out)
      (decide_possible n s (wire_of n b (suc k)).block)

  ready_on : (b : ℕ) (r : IsReady n j t m s y b) (k : ℕ) → k < length (spec_of n b).ins → truth_at (spec_of n b).feed k ≡ true → Active n s y (wire_of n b (suc k)).block
      → IsReady n j t m s y (wire_of n b (suc k)).block
  ready_on b r k l through on = record {
    block = Spread-block n s _ on;
    on = on;
    needs = λ c need. r.needs c (needs_from n s b (wire_of n b (suc k)).block (feeder_need b r k l through (possible n s _ on)) need);
  }

  decided : (b : ℕ) (r : IsReady n j t m s y b) (c : ℕ) → Conditions n c b → Active n s y c → Known n j t m s y c
  decided b r c decides on = r.needs c (direct c (record { possible = possible n s _ r.on; on_possible = possible n s _ on; waits = inr decides }))

  known_of : (b : ℕ) → IsReady n j t m s y b → AreKnown n t.dead s y b
  known_of b r c p on decides takes = let k = decided b r c decides on in (k.acts on, k.takes p on decides.sync takes)

  may_act : (b : ℕ) → IsReady n j t m s y b → MayAct n t.dead s b
  may_act b r = active_may_act n t.dead s y b (known_of b r) r.on

  -- what acts along with it
  along : (b : ℕ) → IsReady n j t m s y b → (a : ℕ) → ActsAlong n t a b → Active n s y a
  along b r a w = acts_too_is_active n t.dead s y a b (known_of b r) (w s live (may_act b r)) r.on

  -- ---- its equation, its inputs

  given_values : (g mask : ℕ) (vs : List ℤ) → is_sensor (spec_of n g).kind ≡ false → answer n m j g mask (input_in n y g) ≡ Ok vs
      → out (spec_of n g) (m.state g) mask (all_inputs (spec_of n g) (input_in n y g)) ≡ Values vs
  unfolding answer
  given_values g mask vs off is =
      values_of (out (spec_of n g) (m.state g) mask (all_inputs (spec_of n g) (input_in n y g))) vs
      (not_sensed (is_sensor (spec_of n g).kind) (sensed (spec_of n g) (m.state g) mask (next_value j (spec_of n g) (m.cursor g)))
      (values_or_word (out (spec_of n g) (m.state g) mask (all_inputs (spec_of n g) (input_in n y g)))) vs off is)

  equation : (g : ℕ) → Known n j t m s y g → Active n s y g → is_sensor (spec_of n g).kind ≡ false → (e : ℕ) → e < total (spec_of n g).outs
      → (mask : ℕ) × (cell (spec_of n g) (m.state g) mask (all_inputs (spec_of n g) (input_in n y g)) e ≡ Value (at (y g) e))
  equation g k on off e l =
      ⊎_elim
      (λ gives. (
        gives.mask,
        (gathered_values (cell (spec_of n g) (m.state g) gives.mask (all_inputs (spec_of n g) (input_in n y g))) (total (spec_of n g).outs) (y g)
            (given_values g gives.mask (y g) off gives.answer_is)).1 e l,
      ))
      (λ held. absurd (held.idle on))
      k.meets

  -- an element of an input, and where the wire ends
  wire_element : (b : ℕ) → IsBlock n b → (k e : ℕ) (l : k < length (spec_of n b).ins) → e < elements (input_of n b (suc k))
      → e < elements (output_of n (wire_of n b (suc k)).block (wire_of n b (suc k)).port)
  wire_element b block k e l q = subst (λ p. e < elements p) (sym (net.joined b (suc k) (inside_at b block k l))) q

  input_value : (b : ℕ) → IsBlock n b → (xs : ℕ → List ℤ) (k e : ℕ) → k < length (spec_of n b).ins → xs (suc k) ≡ input_in n y b (suc k)
      → IsAlike (spec_of n b).ins (out_type (spec_of n b)) (size (spec_of n b)) → e < size (spec_of n b)
      → input (size (spec_of n b)) (all_inputs (spec_of n b) xs) k e ≡ on_wire n y (wire_of n b (suc k)) e
  input_value b block xs k e l same alike q =
      let few : e < elements (input_of n b (suc k)) = subst (λ z. e < z) (sym (alike.sizes k l)) q in
      let place : k * size (spec_of n b) ≡ before (spec_of n b).ins k = sym (before_alike (spec_of n b).ins (out_type (spec_of n b)) (size (spec_of n b)) k alike (omega (arith, l))) in
      ap (λ z. at (all_inputs (spec_of n b) xs) (z + e)) place ∙ element_at n net y xs b k e same (inside_at b block k l) few

  -- the one input of a block
  first_value : (g : ℕ) → IsInput n g 1 → (e : ℕ) → e < elements (input_of n g 1)
      → at (all_inputs (spec_of n g) (input_in n y g)) e ≡ on_wire n y (wire_of n g 1) e
  first_value g inside e few = let same : e ≡ 0 + e = omega arith in ap (at (all_inputs (spec_of n g) (input_in n y g))) same ∙ input_at n net y g 0 e inside few

  -- ---- parts

  part_on : (b f : ℕ) → IsReady n j t m s y b → {w : Wire} → HasPart n t b f w → (e : ℕ) → e < elements (output_of n w.block w.port)
      → (Active n s y w.block → IsReady n j t m s y w.block × Known n j t m s y w.block) → PartOn n j t m s y f w e
  part_on b f r (given w) e q have =
      let h = have (along b r f w) in
      (h.0, h.1, q, same_part (at (y f) e) (on_wire n y (first_output f) e) (first_on n y f e))
  part_on b f r (shrunk g w shrinking part) e q have =
      let on = along b r g w in
      let h = have on in
      let small : e < size (spec_of n g) = q in
      let typed = net.typed_specs g h.0.block in
      let is = shrinking_is (spec_of n g) typed shrinking in
      let l : 0 < length (spec_of n g).ins = omega (arith, is.one) in
      let through = fed_kind (spec_of n g) typed 0 l (is.through (0 + 1)) in
      let few : e < elements (input_of n g 1) = subst (λ z. e < z) (sym (is.alike.ins_alike.sizes 0 l)) small in
      let rest = part_on b f r part e (wire_element g h.0.block 0 e l few) (λ active. (ready_on g h.0 0 l through active, fed g h.0 0 l through)) in
      let fills : Fills (spec_of n g).ins (all_inputs (spec_of n g) (input_in n y g)) =
      laid_in_range (spec_of n g).ins (input_in n y g) (λ k p. input_in_range n net y g k (inside_at g h.0.block k p) (fed g h.0 k p (fed_kind (spec_of n g) typed k p (is.through (k + 1)))).fills) in
      let is_in : e < total (spec_of n g).outs = omega (arith, small, total_one (spec_of n g).outs (out_type (spec_of n g)) (size (spec_of n g)) is.alike.outs_alike is.alike.one) in
      let q_is = equation g h.1 on is.no_sensor e is_in in
      let shows : IsPartOf (at (all_inputs (spec_of n g) (input_in n y g)) e) (at (y g) e) =
      shrinking_gives_part (spec_of n g) (m.state g) q_is.0 (all_inputs (spec_of n g) (input_in n y g)) e (at (y g) e) typed shrinking fills small q_is.1 in
      let from : at (all_inputs (spec_of n g) (input_in n y g)) e ≡ on_wire n y (wire_of n g 1) e = first_value g (inside_at g h.0.block 0 l) e few in
      let through_g : IsPartOf (on_wire n y (wire_of n g 1) e) (on_wire n y (first_output g) e) =
      subst (λ z. IsPartOf (on_wire n y (wire_of n g 1) e) z) (first_on n y g e) (subst (λ z. IsPartOf z (at (y g) e)) from shows) in
      (rest.0, rest.1, rest.2, part_of_part (at (y f) e) (on_wire n y (wire_of n g 1) e) (on_wire n y (first_output g) e) rest.3 through_g)

  -- ---- what enters a block all of whose inputs have feedthrough

  all_within : (b : ℕ) (r : IsReady n j t m s y b) → ((k : ℕ) → k < length (spec_of n b).ins → truth_at (spec_of n b).feed k ≡ true) → ((spec_of n b).kind ≡ Select → ⊥)
      → (us : List (Option Interval)) → Enters n i t b us → (xs : ℕ → List ℤ) → ((k : ℕ) → k < length (spec_of n b).ins → xs (suc k) ≡ input_in n y b (suc k))
      → AreWithin (spec_of n b) us (all_inputs (spec_of n b) xs)
  all_within b r through other us enter xs same d l =
      let p = port_of (spec_of n b).ins d l in
      entered_has n i j t m s y net live old b r.block r.on (may_act b r) (known_of b r) (decided b r) us enter xs p.0 d p.1 (same p.0 p.1) (fed b r p.0 p.1 (through p.0 p.1))
      (λ z. absurd (other z)) p.2 p.3

  -- the one element of an input behind inputs of one element
  one_value : (b : ℕ) → IsBlock n b → (xs : ℕ → List ℤ) (k : ℕ) → k < length (spec_of n b).ins → xs (suc k) ≡ input_in n y b (suc k) → before (spec_of n b).ins k ≡ k
      → elements (input_of n b (suc k)) ≡ 1 → at (all_inputs (spec_of n b) xs) k ≡ on_wire n y (wire_of n b (suc k)) 0
  one_value b block xs k l same place one =
      let here : k ≡ before (spec_of n b).ins k + 0 = omega (arith, place) in
      ap (at (all_inputs (spec_of n b) xs)) here ∙ element_at n net y xs b k 0 same (inside_at b block k l) (omega (arith, one))

  -- ---- what enters a sum

  module _ (b : ℕ) (r : IsReady n j t m s y b) (sum : is_sum (spec_of n b).kind ≡ true) where
    through_all : (k : ℕ) → k < length (spec_of n b).ins → truth_at (spec_of n b).feed k ≡ true
    through_all k l = fed_kind (spec_of n b) (net.typed_specs b r.block) k l (sum_feeds (spec_of n b).kind (k + 1) sum)

    inputs_within : (us : List (Option Interval)) → Enters n i t b us → (xs : ℕ → List ℤ) → ((k : ℕ) → k < length (spec_of n b).ins → xs (suc k) ≡ input_in n y b (suc k))
        → AreWithin (spec_of n b) us (all_inputs (spec_of n b) xs)
    inputs_within us enter xs same = all_within b r through_all (sum_no_choice (spec_of n b).kind sum) us enter xs same

  -- ---- towards

  module _ (b f : ℕ) (r : IsReady n j t m s y b) (goes : GoesTowards n t b f) (vs : List (Option Interval)) (enter : Enters n i t f vs) (xs : ℕ → List ℤ)
      (same : (k : ℕ) → k < length (spec_of n b).ins → xs (suc k) ≡ input_in n y b (suc k)) (e : ℕ) (q : e < size (spec_of n b))
      (keeps : keeps_sum (spec_of n f) vs e ≡ true) where
    own_two : (is_sum (spec_of n b).kind ≡ true) × (length (spec_of n b).ins ≡ 2)
    own_two = two_added (spec_of n b) goes.adds

    own_alike : IsAlike (spec_of n b).ins (out_type (spec_of n b)) (size (spec_of n b))
    own_alike = (sum_asks (spec_of n b) (net.typed_specs b r.block) own_two.0).0.ins_alike

    more_in : goes.more < length (spec_of n b).ins
    more_in = omega (arith, goes.two, own_two.1)

    from_in : goes.from < length (spec_of n b).ins
    from_in = omega (arith, goes.two, own_two.1)

    through_more : truth_at (spec_of n b).feed goes.more ≡ true
    through_more = through_all b r own_two.0 goes.more more_in

    part : PartOn n j t m s y f (wire_of n b (suc goes.more)) e
    part =
        part_on b f r goes.part e (wire_element b r.block goes.more e more_in (subst (λ z. e < z) (sym (own_alike.sizes goes.more more_in)) q))
        (λ on. (ready_on b r goes.more more_in through_more on, fed b r goes.more more_in through_more))

    two : (is_sum (spec_of n f).kind ≡ true) × (length (spec_of n f).ins ≡ 2)
    two = let t = two_inputs (spec_of n f) goes.takes in (t.0, t.1)

    lies_between : IsInSome (either_input (spec_of n f) vs e) (exact_sum (spec_of n b) (all_inputs (spec_of n b) xs) e)
    lies_between =
        let typed = net.typed_specs f part.0.block in
        let a = sum_asks (spec_of n f) typed two.0 in
        let w = all_inputs (spec_of n f) (input_in n y f) in
        let inside = inputs_within f part.0 two.0 vs enter (input_in n y f) (λ k l. refl) in
        let is_in : e < total (spec_of n f).outs = omega (arith, part.2, total_one (spec_of n f).outs (out_type (spec_of n f)) (size (spec_of n f)) a.0.outs_alike a.0.one) in
        let is = equation f part.1 part.0.on (sum_senses_none (spec_of n f).kind two.0) e is_in in
        let shows : IsPartOf (exact_sum (spec_of n f) w e) (at (y f) e) =
        difference_gives_part (spec_of n f) vs (m.state f) is.0 w e (at (y f) e) typed goes.takes inside part.2 keeps is.1 in
        let less : subtracted (spec_of n f) < length (spec_of n f).ins = omega (arith, subtracted_less (spec_of n f), two.1) in
        let all = part_of_part (exact_sum (spec_of n f) w e) (at (y f) e) (on_wire n y (wire_of n b (suc goes.more)) e) shows part.3 in
        goes_between (spec_of n b) (spec_of n f) vs (all_inputs (spec_of n b) xs) w goes.from goes.more e typed goes.adds goes.takes inside part.2 goes.two
        (input_value b r.block xs goes.from e from_in (same goes.from from_in) own_alike q
        ∙ (ap (λ (v : Wire). on_wire n y v e) goes.same ∙ sym (input_value f part.0.block (input_in n y f) (subtracted (spec_of n f)) e less refl a.0.ins_alike part.2)))
        (subst (IsPartOf (exact_sum (spec_of n f) w e)) (sym (input_value b r.block xs goes.more e more_in (same goes.more more_in) own_alike q)) all)

  -- ---- leaking

  module _ (b k l g : ℕ) (r : IsReady n j t m s y b) (sum : is_sum (spec_of n b).kind ≡ true) (leaks : Leaks n t b k l g) (us : List (Option Interval)) (enter : Enters n i t b us)
      (xs : ℕ → List ℤ) (same : (d : ℕ) → d < length (spec_of n b).ins → xs (suc d) ≡ input_in n y b (suc d)) (e : ℕ) (q : e < size (spec_of n b)) where
    alike_own : IsAlike (spec_of n b).ins (out_type (spec_of n b)) (size (spec_of n b))
    alike_own = (sum_asks (spec_of n b) (net.typed_specs b r.block) sum).0.ins_alike

    kept_in : k < length (spec_of n b).ins
    kept_in = omega (arith, leaks.kept.most)

    lost_in : l < length (spec_of n b).ins
    lost_in = omega (arith, leaks.lost.most)

    is_on : Active n s y g
    is_on = along b r g leaks.along

    is_known : Known n j t m s y g
    is_known = subst (λ (w : Wire). Known n j t m s y w.block) leaks.shifted (fed b r l lost_in (through_all b r sum l lost_in))

    shift_element : e < size (spec_of n g)
    shift_element =
        subst (λ (w : Wire). e < elements (output_of n w.block w.port)) leaks.shifted
        (wire_element b r.block l e lost_in (subst (λ z. e < z) (sym (alike_own.sizes l lost_in)) q))

    shifted_is : input (size (spec_of n b)) (all_inputs (spec_of n b) xs) l e
        ≡ int_div_euclid (input (size (spec_of n b)) (all_inputs (spec_of n b) xs) k e) (pos (2 ^ places_of (spec_of n g)))
    shifted_is =
        let typed = net.typed_specs g is_known.block in
        let is = shrinking_is (spec_of n g) typed (shift_shrinks (spec_of n g) leaks.shifts) in
        let p : 0 < length (spec_of n g).ins = omega (arith, is.one) in
        let few : e < elements (input_of n g 1) = subst (λ z. e < z) (sym (is.alike.ins_alike.sizes 0 p)) shift_element in
        let is_in : e < total (spec_of n g).outs = omega (arith, shift_element, total_one (spec_of n g).outs (out_type (spec_of n g)) (size (spec_of n g)) is.alike.outs_alike is.alike.one) in
        let shows = equation g is_known is_on is.no_sensor e is_in in
        let quotient = shift_is_quotient (spec_of n g) (m.state g) shows.0 (all_inputs (spec_of n g) (input_in n y g)) e (at (y g) e) leaks.shifts shows.1 in
        let from : at (all_inputs (spec_of n g) (input_in n y g)) e ≡ input (size (spec_of n b)) (all_inputs (spec_of n b) xs) k e =
        first_value g (inside_at g is_known.block 0 p) e few
        ∙ (ap (λ (w : Wire). on_wire n y w e) leaks.same ∙ sym (input_value b r.block xs k e kept_in (same k kept_in) alike_own q)) in
        input_value b r.block xs l e lost_in (same l lost_in) alike_own q
        ∙ (ap (λ (w : Wire). on_wire n y w e) leaks.shifted
        ∙ (sym (first_on n y g e) ∙ (quotient ∙ ap (λ v. int_div_euclid v (pos (2 ^ places_of (spec_of n g)))) from)))

    leak_has : IsInSome (leaking_sums (spec_of n b) k l (places_of (spec_of n g)) us e) (exact_sum (spec_of n b) (all_inputs (spec_of n b) xs) e)
    leak_has =
        leak_is_within (spec_of n b) us (all_inputs (spec_of n b) xs) k l (places_of (spec_of n g)) e (net.typed_specs b r.block) sum (inputs_within b r sum us enter xs same) q kept_in lost_in
        leaks.signs shifted_is

  -- ---- choosing

  module _ (c : ℕ) (r : IsReady n j t m s y c) (switch : is_switch (spec_of n c).kind ≡ true) (single : size (spec_of n c) ≡ 1) (us : List (Option Interval)) (enter : Enters n i t c us)
      (xs : ℕ → List ℤ) (same : (k : ℕ) → k < length (spec_of n c).ins → xs (suc k) ≡ input_in n y c (suc k)) where
    ports : IsThree (spec_of n c)
    ports = switch_ports (spec_of n c) (net.typed_specs c r.block) switch single

    input_there : (k : ℕ) → k < 3 → k < length (spec_of n c).ins
    input_there k l = omega (arith, l, ports.three)

    passes_through : (k : ℕ) → k < length (spec_of n c).ins → truth_at (spec_of n c).feed k ≡ true
    passes_through k l = fed_kind (spec_of n c) (net.typed_specs c r.block) k l (switch_feeds (spec_of n c).kind (k + 1) switch)

    value_on : (k : ℕ) → k < 3 → at (all_inputs (spec_of n c) xs) k ≡ on_wire n y (wire_of n c (suc k)) 0
    value_on k l = one_value c r.block xs k (input_there k l) (same k (input_there k l)) (ports.places k l) (ports.each k l)

    read_within : (k : ℕ) → k < 3 → IsInSome (range_at us k) (at (all_inputs (spec_of n c) xs) k)
    read_within k l =
        all_within c r passes_through (switch_no_choice (spec_of n c).kind switch) us enter xs same k (omega (arith, l, ports.all))

    feeder_ready : (k : ℕ) → k < 3 → Active n s y (wire_of n c (suc k)).block → IsReady n j t m s y (wire_of n c (suc k)).block
    feeder_ready k l on = ready_on c r k (input_there k l) (passes_through k (input_there k l)) on

    feeder_known : (k : ℕ) → k < 3 → Known n j t m s y (wire_of n c (suc k)).block
    feeder_known k l = fed c r k (input_there k l) (passes_through k (input_there k l))

    -- a block whose first output feeds input k, and that acts along
    feeder_is : (k g : ℕ) → k < 3 → wire_of n c (suc k) ≡ first_output g → ActsAlong n t g c → IsReady n j t m s y g × Known n j t m s y g
    feeder_is k g l from way = (
      subst (λ (w : Wire). IsReady n j t m s y w.block) from (feeder_ready k l (subst (λ (w : Wire). Active n s y w.block) (sym from) (along c r g way))),
      subst (λ (w : Wire). Known n j t m s y w.block) from (feeder_known k l),
    )

    -- the one that it takes
    taken_on : (b : Bool) → at (all_inputs (spec_of n c) xs) (taken_place b) ≡ on_wire n y (wire_of n c (taken_input b)) 0
    taken_on true = value_on 0 (omega arith)
    taken_on false = value_on 2 (omega arith)

    taken_read : (b : Bool) → IsInSome (range_at us (taken_place b)) (on_wire n y (wire_of n c (taken_input b)) 0)
    taken_read true = subst (IsInSome (range_at us 0)) (value_on 0 (omega arith)) (read_within 0 (omega arith))
    taken_read false = subst (IsInSome (range_at us 2)) (value_on 2 (omega arith)) (read_within 2 (omega arith))

    sum_is : (b : Bool) (g : ℕ) → TakesSum n t c b g → IsReady n j t m s y g × Known n j t m s y g
    sum_is true g sums = feeder_is 0 g (omega arith) sums.input sums.along
    sum_is false g sums = feeder_is 2 g (omega arith) sums.input sums.along

    module _ (first : Bool) (taking : takes (spec_of n c) first (on_wire n y (wire_of n c 2) 0) ≡ true) where
      compared_has : (g k : ℕ) (holds : Bool) (vs : List (Option Interval)) → LooksAt n t c g → known_truth (spec_of n c) first ≡ Some holds → k < 2 → Enters n i t g vs
          → IsInSome (option_and_then (compared (spec_of n g) k holds) (range_at vs (1 - k))) (on_wire n y (wire_of n g (suc k)) 0)
      compared_has g k holds vs looks known few entering =
          let is = feeder_is 1 g (omega arith) looks.condition looks.along in
          let typed = net.typed_specs g is.0.block in
          let a = comparing_asks (spec_of n g) typed looks.comparing in
          let through = λ (d : ℕ) (p : d < length (spec_of n g).ins). fed_kind (spec_of n g) typed d p (comparing_feeds (spec_of n g).kind (d + 1) looks.comparing) in
          let within = all_within g is.0 through (comparing_no_choice (spec_of n g).kind looks.comparing) vs entering (input_in n y g) (λ d p. refl) in
          let fills : Fills (spec_of n g).ins (all_inputs (spec_of n g) (input_in n y g)) =
          laid_in_range (spec_of n g).ins (input_in n y g) (λ d p. input_in_range n net y g d (inside_at g is.0.block d p) (fed g is.0 d p (through d p)).fills) in
          let some : 0 < total (spec_of n g).outs =
          omega (arith, looks.single, total_one (spec_of n g).outs (out_type (spec_of n g)) (size (spec_of n g)) a.0.outs_alike a.0.one) in
          let shows = equation g is.1 (along c r g looks.along) (comparing_senses_none (spec_of n g).kind looks.comparing) 0 some in
          let told : at (y g) 0 ≡ on_wire n y (wire_of n c 2) 0 = first_on n y g 0 ∙ ap (λ (w : Wire). on_wire n y w 0) (sym looks.condition) in
          let there : k < length (spec_of n g).ins = omega (arith, few, a.1) in
          subst (IsInSome (option_and_then (compared (spec_of n g) k holds) (range_at vs (1 - k))))
          (one_value g is.0.block (input_in n y g) k there refl (ones_before (spec_of n g) (in_type (spec_of n g)) a.0.ins_alike looks.single k (omega (arith, there)))
          (a.0.ins_alike.sizes k there ∙ looks.single))
          (comparison_is_known (spec_of n c) (spec_of n g) first holds vs (m.state g) shows.0 (all_inputs (spec_of n g) (input_in n y g)) (at (y g) 0) k typed looks.comparing
          looks.single known (subst (λ z. takes (spec_of n c) first z ≡ true) (sym told) taking) shows.1 fills within few)

      keeps_has : (w : Wire) (o : Option Interval) {p : Option Interval} → Keeps n i t c first w o p → IsInSome o (on_wire n y w 0) → IsInSome p (on_wire n y w 0)
      keeps_has w o as_read h = h
      keeps_has w o (as_condition p k is) h =
          taken_has_number (spec_of n c) first p (on_wire n y w 0) (subst (λ (v : Wire). takes (spec_of n c) first (on_wire n y v 0) ≡ true) is taking) (keeps_has w o k h)
      keeps_has w o (as_compared g k holds vs p kept looks known few is entering) h =
          both_have p (option_and_then (compared (spec_of n g) k holds) (range_at vs (1 - k))) (on_wire n y w 0) (keeps_has w o kept h)
          (subst (λ (v : Wire). IsInSome (option_and_then (compared (spec_of n g) k holds) (range_at vs (1 - k))) (on_wire n y v 0)) is
          (compared_has g k holds vs looks known few entering))

      added_has : (g : ℕ) (vs : List (Option Interval)) (f : ℕ → Option Interval) → TakesSum n t c first g → Enters n i t g vs
          → ((d : ℕ) → d < length (spec_of n g).ins → Keeps n i t c first (wire_of n g (suc d)) (range_at vs d) (f d))
          → IsInSome ((sum_cells (spec_of n g) (sum_of (spec_of n g) f)).values) (on_wire n y (wire_of n c (taken_input first)) 0)
      added_has g vs f sums entering each =
          let is = sum_is first g sums in
          let typed = net.typed_specs g is.0.block in
          let a = sum_asks (spec_of n g) typed sums.sum in
          let w = all_inputs (spec_of n g) (input_in n y g) in
          let within = inputs_within g is.0 sums.sum vs entering (input_in n y g) (λ d p. refl) in
          let all : total (spec_of n g).ins ≡ length (spec_of n g).ins =
          total_alike (spec_of n g).ins (out_type (spec_of n g)) (size (spec_of n g)) a.0.ins_alike
          ∙ subst (λ z. length (spec_of n g).ins * z ≡ length (spec_of n g).ins) (sym sums.single) (omega arith) in
          let value = λ (d : ℕ) (p : d < length (spec_of n g).ins).
          one_value g is.0.block (input_in n y g) d p refl (ones_before (spec_of n g) (out_type (spec_of n g)) a.0.ins_alike sums.single d (omega (arith, p)))
          (a.0.ins_alike.sizes d p ∙ sums.single) in
          let summed_up = sum_of_is_within (spec_of n g) f w sums.single
          (λ d p. subst (IsInSome (f d)) (sym (value d p))
          (keeps_has (wire_of n g (suc d)) (range_at vs d) (each d p) (subst (IsInSome (range_at vs d)) (value d p) (within d (omega (arith, p, all)))))) in
          let some : 0 < total (spec_of n g).outs =
          omega (arith, sums.single, total_one (spec_of n g).outs (out_type (spec_of n g)) (size (spec_of n g)) a.0.outs_alike a.0.one) in
          let shows = equation g is.1 (along c r g sums.along) (sum_senses_none (spec_of n g).kind sums.sum) 0 some in
          let cells_have : MayBe (sum_cells (spec_of n g) (sum_of (spec_of n g) f)) (Value (at (y g) 0)) =
          subst (MayBe (sum_cells (spec_of n g) (sum_of (spec_of n g) f))) shows.1
          (sum_is_fitted (spec_of n g) (m.state g) shows.0 w 0 (sum_of (spec_of n g) f) sums.sum summed_up) in
          subst (IsInSome ((sum_cells (spec_of n g) (sum_of (spec_of n g) f)).values)) (first_on n y g 0 ∙ ap (λ (v : Wire). on_wire n y v 0) (sym sums.input)) cells_have

      taken_has : {o : Option Interval} → HasTaken n i t c us first o → IsInSome o (on_wire n y (wire_of n c (taken_input first)) 0)
      taken_has (is_kept p kept) = keeps_has (wire_of n c (taken_input first)) (range_at us (taken_place first)) kept (taken_read first)
      taken_has (is_added g vs f p h sums entering each) =
          both_have p ((sum_cells (spec_of n g) (sum_of (spec_of n g) f)).values) (on_wire n y (wire_of n c (taken_input first)) 0) (taken_has h) (added_has g vs f sums entering each)

    choices_have : IsInSome (range_at us 1) (at (all_inputs (spec_of n c) xs) 1)
        × ((first : Bool) (o : Option Interval) → takes (spec_of n c) first (at (all_inputs (spec_of n c) xs) 1) ≡ true → HasTaken n i t c us first o
        → IsInSome o (at (all_inputs (spec_of n c) xs) (taken_place first)))
    choices_have = (
      read_within 1 (omega arith),
      λ first o taking h.
          subst (IsInSome o) (sym (taken_on first)) (taken_has first (subst (λ z. takes (spec_of n c) first z ≡ true) (value_on 1 (omega arith)) taking) h),
    )

  -- ---- what is told of a sum

  sum_has : (b : ℕ) → IsReady n j t m s y b → is_sum (spec_of n b).kind ≡ true → (us : List (Option Interval)) → Enters n i t b us → (xs : ℕ → List ℤ)
      → ((k : ℕ) → k < length (spec_of n b).ins → xs (suc k) ≡ input_in n y b (suc k)) → (e : ℕ) → e < size (spec_of n b) → {o : Option Interval} → HasSum n i t b us e o
      → IsInSome o (exact_sum (spec_of n b) (all_inputs (spec_of n b) xs) e)
  sum_has b r sum us enter xs same e q summed =
      sum_is_within (spec_of n b) us (all_inputs (spec_of n b) xs) e (net.typed_specs b r.block) sum (inputs_within b r sum us enter xs same) q
  sum_has b r sum us enter xs same e q (towards f vs o h goes enters keeps) =
      both_have o (either_input (spec_of n f) vs e) (exact_sum (spec_of n b) (all_inputs (spec_of n b) xs) e) (sum_has b r sum us enter xs same e q h)
      (lies_between b f r goes vs enters xs same e q keeps)
  sum_has b r sum us enter xs same e q (leaking k l g o h leaks) =
      both_have o (leaking_sums (spec_of n b) k l (places_of (spec_of n g)) us e) (exact_sum (spec_of n b) (all_inputs (spec_of n b) xs) e)
      (sum_has b r sum us enter xs same e q h) (leak_has b k l g r sum leaks us enter xs same e q)

  -- on the values that a block takes
  taken_sums : (b : ℕ) → IsReady n j t m s y b → (us : List (Option Interval)) → Enters n i t b us → HaveSums n i t b us (all_inputs (spec_of n b) (taken n m y b))
  taken_sums b r us enter e o sum l h =
      let a = sum_asks (spec_of n b) (net.typed_specs b r.block) sum in
      sum_has b r sum us enter (taken n m y b)
      (λ k p. chosen_at (has_feedthrough (spec_of n b) (suc k)) (input_in n y b (suc k)) (input_in n m.held b (suc k)) (through_all b r sum k p)) e
      (one_size (spec_of n b) e a.0.outs_alike a.0.one l) h

  taken_choices : (b : ℕ) → IsReady n j t m s y b → (us : List (Option Interval)) → Enters n i t b us → HaveChoices n i t b us (all_inputs (spec_of n b) (taken n m y b))
  taken_choices b r us enter switch single =
      choices_have b r switch single us enter (taken n m y b)
      (λ k p. chosen_at (has_feedthrough (spec_of n b) (suc k)) (input_in n y b (suc k)) (input_in n m.held b (suc k)) (fed_kind (spec_of n b) (net.typed_specs b r.block) k p (switch_feeds (spec_of n b).kind (k + 1) switch)))

  pub taken_more : (b : ℕ) → IsReady n j t m s y b → (us : List (Option Interval)) → Enters n i t b us → HaveMore n i t b us (all_inputs (spec_of n b) (taken n m y b))
  taken_more b r us enter = (taken_sums b r us enter, taken_choices b r us enter)
