-- The rule of an active block whose feeders and conditions are known.
use Rattle.std.proofs.Common.{◌≡◌, ℕ, zero, suc, ◌+◌, ◌-◌, ◌<◌, ◌≤◌, ℤ, Bool, true, false, cond, List, [], ◌∷◌, length, Option, Some, None, refl, sym, ap, subst, ◌∙◌, arith, ⊎_elim, add-one, true≢false}
use Rattle.std.specs.Prelude.{Ok, Err}
use Rattle.std.specs.Int.{bit_at}
use Rattle.sci_base.specs.declared.observation.StopWord.{StopWord}
use Rattle.sci_base.specs.declared.observation.StopWord.TheVariants.{Input}
use Rattle.sci_base.specs.Lists.{at, truth_at}
use Rattle.sci_forms.specs.declared.Kind.{Kind}
use Rattle.sci_forms.specs.declared.Kind.TheVariants.{Select, Summation, Switch2, IfThEl, ESelect}
use Rattle.sci_forms.specs.declared.ports.Port.{Port}
use Rattle.sci_forms.specs.declared.spec.Spec.{Spec}
use Rattle.sci_forms.specs.Form.{is_sensor, is_sync}
use Rattle.sci_forms.specs.Ports.{no_port, elements, total, port_at, before, Fills}
use Rattle.sci_forms.specs.Words.{size}
use Rattle.sci_kinds.specs.Asks.{Asks, IsMask, entering}
use Rattle.sci_kinds.specs.Table.{Values, cell, out, state_len}
use Rattle.sci_kinds.proofs.Elements.{gathered_values}
use Rattle.sci_kinds.proofs.LawProofs.{asks}
use Rattle.sci_net.specs.declared.Feed.{Feed}
use Rattle.sci_net.specs.declared.Source.{Source}
use Rattle.sci_net.specs.declared.Wire.{Wire}
use Rattle.sci_net.specs.Net.{IsNet}
use Rattle.sci_net.specs.Parts.{Parts, IsBlock, IsInput, numbered, column_of, spec_of, wire_of, input_of, output_of}
use Rattle.sci_reaction.specs.Links.{has_feedthrough}
use Rattle.sci_reaction.specs.Active.{IsSync}
use Rattle.sci_reaction.specs.Depends.{Conditions}
use Rattle.sci_reaction.specs.Memory.{Memory, IsMemory, Columns, AreColumns, next_value}
use Rattle.sci_reaction.specs.Equations.{Signals, Active, IsActivated, IsMaskOf, input_in, all_inputs, values_or_word, sensed, answer}
use Rattle.sci_reaction.proofs.Fair.{fair}
use Rattle.sci_reaction.proofs.Fills.{entering_ins, input_in_range, answer_in_range}
use Rattle.sci_reaction.proofs.Masks.{mask_in_range}
use Rattle.sci_reaction.proofs.Ranges.{IsOf, laid_in_range}
use Rattle.sci_reaction.proofs.Spreading.{Spread-block}
use Rattle.sci_ranges_base.specs.Intervals.{IsIn, IsInSome, range_at}
use Rattle.sci_ranges_base.specs.declared.interval.Interval.{Interval}
use Rattle.sci_ranges_base.specs.declared.cells.Cells.{Cells}
use Rattle.sci_ranges_base.specs.Cells.{MayBe}
use Rattle.sci_ranges_base.specs.Masks.{AreMasks}
use Rattle.sci_ranges_rules.specs.Laws.{AreFed}
use Rattle.sci_ranges_rules.specs.Rules.{cells, state_range}
use Rattle.sci_ranges_rules.proofs.Covers.{rule_covers, one_size}
use Rattle.sci_ranges_refined.specs.Sums.{is_sum, exact_sum}
use Rattle.sci_ranges_refined.specs.Choices.{is_switch, takes, taken_place}
use Rattle.sci_ranges_refined.proofs.Adding.{sum_is_fitted}
use Rattle.sci_ranges_refined.proofs.Choosing.{switch_asks, taken_is_shown}
use Rattle.sci_ranges_reads.specs.Live.{MayAct, IsLive, AreKnown}
use Rattle.sci_ranges_reads.proofs.Acting.{masks_are_between}
use Rattle.sci_ranges.specs.Columns.{sensed_range, KeepWithin}
use Rattle.sci_ranges.specs.Table.{Table}
use Rattle.sci_ranges.specs.Reads.{Reads, Enters, fed_element}
use Rattle.sci_ranges.specs.Told.{HasSum, HasTaken, AreTaken, Tells, by_rule, by_sum, by_choice}
use Rattle.sci_ranges.specs.Closed.{IsBlockClosed}
use Rattle.sci_ranges.proofs.Wires.{element_at, before_next, before_within}
use Rattle.sci_ranges.proofs.Answering.{within_some, no_fit, no_quotient, stops_by, values_of, next_in_column}
use Rattle.sci_ranges.proofs.Sensing.{entering_outs, sensor_asks, sensor_total, one_value, sensed_in_type}
use Rattle.sci_ranges.proofs.Reading.{IsBefore, Known, read_has, taken, chosen_at}

-- a synchronous block has an input
sync_asks : (k : Kind) (s : Spec) → is_sync k ≡ true → Asks k s → total s.ins ≡ 1
sync_asks IfThEl s e a = a.1
sync_asks ESelect s e a = a.1
sync_asks _ s e a = absurd (true≢false (sym e))

some_input : (ps : List Port) → total ps ≡ 1 → 1 ≤ length ps
some_input [] h = absurd (omega (arith, h))
some_input (p ∷ ps) h = omega arith

none_at : (ps : List Port) (e : ℕ) → length ps ≡ 0 → e < total ps → ⊥
none_at [] e h l = omega (arith, l)
none_at (p ∷ ps) e h l = omega (arith, h)

inside_total : (ps : List Port) (p d : ℕ) → 1 ≤ p → p ≤ length ps → d < elements (numbered no_port ps p) → before ps (p - 1) + d < total ps
inside_total ps zero d least most l = absurd (omega (arith, least))
inside_total ps (suc k) d least most l =
    let all = before_within ps k (omega (arith, most)) in
    let less : suc k - 1 ≡ k = omega arith in
    subst (λ h. before ps h + d < total ps) (sym less) (omega (arith, all, l))

taken_of : (t : Bool) (p : Port) (x z : List ℤ) → (t ≡ true → IsOf p x) → IsOf p z → IsOf p (cond t x z)
taken_of true p x z f g = f refl
taken_of false p x z f g = g

-- a synchronous block's first input, and that it is there
pub first_there : (n : Parts) → IsNet n → (b : ℕ) → IsBlock n b → IsSync n b → IsInput n b 1
first_there n net b block sync = record {
  block = block;
  least = omega arith;
  most = some_input (spec_of n b).ins (sync_asks (spec_of n b).kind (spec_of n b) sync (asks (spec_of n b) (net.typed_specs b block)));
}

-- an element that is fed is one of the feeder's
pub fed_inside : (n : Parts) → IsNet n → (b k d : ℕ) → IsInput n b k → d < elements (input_of n b k) → fed_element n b k d < total (spec_of n (wire_of n b k).block).outs
fed_inside n net b k d inside l =
    let w = wire_of n b k in
    let lead = net.wired.wires_lead b k inside in
    inside_total (spec_of n w.block).outs w.port d lead.least lead.most (subst (λ p. d < elements p) (sym (net.joined b k inside)) l)

-- the first input of a condition whose wire is that of an input with elements
pub first_input : (n : Parts) → IsNet n → (s : Source) (y : Signals) (b k d : ℕ) → IsInput n b k → d < elements (input_of n b k) → (q : Feed) → IsSync n q.block
    → wire_of n q.block 1 ≡ wire_of n b k → d ≡ 0 → Active n s y q.block → IsInput n q.block 1 × (0 < elements (input_of n q.block 1))
first_input n net s y b k d inside l q sync same head active =
    let here : IsInput n q.block 1 = first_there n net q.block (Spread-block n s _ active) sync in
    let one : input_of n q.block 1 ≡ input_of n b k = sym (net.joined q.block 1 here) ∙ (ap (λ (w : Wire). output_of n w.block w.port) same ∙ net.joined b k inside) in
    (here, subst (λ p. 0 < elements p) (sym one) (subst (λ e. e < elements (input_of n b k)) head l))

-- what goes into a block lies in the intervals that enter it
module _ (n : Parts) (i j : Columns) (t : Table) (m : Memory) (s : Source) (y : Signals) (net : IsNet n) (live : IsLive n t.dead s) (old : IsBefore n t m s)
    (b : ℕ) (block : IsBlock n b) (on : Active n s y b) (may : MayAct n t.dead s b) (known : AreKnown n t.dead s y b)
    (conditions : (c : ℕ) → Conditions n c b → Active n s y c → Known n j t m s y c) (us : List (Option Interval)) (enter : Enters n i t b us) where
  -- an input whose feeder is known
  pub entered_has : (xs : ℕ → List ℤ) (k e : ℕ) → k < length (spec_of n b).ins → xs (suc k) ≡ input_in n y b (suc k) → Known n j t m s y (wire_of n b (suc k)).block
      → ((spec_of n b).kind ≡ Select → IsActivated n s y b (suc k)) → before (spec_of n b).ins k ≤ e → e < before (spec_of n b).ins (suc k)
      → IsInSome (range_at us e) (at (all_inputs (spec_of n b) xs) e)
  entered_has xs k e l same feeder activated from to =
      let inside : IsInput n b (suc k) = record { block = block; least = omega arith; most = omega (arith, l) } in
      let d : ℕ = e - before (spec_of n b).ins k in
      let next = before_next (spec_of n b).ins k l in
      let few : d < elements (input_of n b (suc k)) = omega (arith, from, to, next) in
      let place : before (spec_of n b).ins k + d ≡ e = omega (arith, from) in
      let less : suc k - 1 ≡ k = omega arith in
      let reads : Reads n t b (suc k) d (range_at us e) =
      subst (λ f. Reads n t b (suc k) d (range_at us f)) (ap (λ h. before (spec_of n b).ins h + d) less ∙ place) (enter.inputs (suc k) d inside few) in
      let there : IsInSome (range_at us e) (at (y (wire_of n b (suc k)).block) (fed_element n b (suc k) d)) =
      read_has n j t m s y net live old b on may known conditions (suc k) d activated feeder (fed_inside n net b (suc k) d inside few)
      (first_input n net s y b (suc k) d inside few) reads in
      subst (IsInSome (range_at us e)) (sym (ap (at (all_inputs (spec_of n b) xs)) (sym place) ∙ element_at n net y xs b k d same inside few)) there

-- what is told of the exact values of a sum has them
abbrev pub HaveSums : Parts → Columns → Table → ℕ → List (Option Interval) → List ℤ → Type 0
HaveSums n i t b us u =
    (e : ℕ) (o : Option Interval) → is_sum (spec_of n b).kind ≡ true → e < total (spec_of n b).outs → HasSum n i t b us e o → IsInSome o (exact_sum (spec_of n b) u e)

-- what a switch of one element looks at is in its interval, and what it takes in each that is told of that
abbrev pub HaveChoices : Parts → Columns → Table → ℕ → List (Option Interval) → List ℤ → Type 0
HaveChoices n i t b us u =
    is_switch (spec_of n b).kind ≡ true → size (spec_of n b) ≡ 1
    → IsInSome (range_at us 1) (at u 1)
    × ((first : Bool) (o : Option Interval) → takes (spec_of n b) first (at u 1) ≡ true → HasTaken n i t b us first o → IsInSome o (at u (taken_place first)))

abbrev pub HaveMore : Parts → Columns → Table → ℕ → List (Option Interval) → List ℤ → Type 0
HaveMore n i t b us u = HaveSums n i t b us u × HaveChoices n i t b us u

-- a sensor is no sum, and no switch
no_sum : (c : Kind) → is_sensor c ≡ true → is_sum c ≡ true → ⊥
no_sum Summation sensor sum = true≢false (sym sensor)
no_sum _ sensor sum = true≢false (sym sum)

no_switch : (c : Kind) → is_sensor c ≡ true → is_switch c ≡ true → ⊥
no_switch Switch2 sensor switch = true≢false (sym sensor)
no_switch _ sensor switch = true≢false (sym switch)

module _ (n : Parts) (i j : Columns) (t : Table) (m : Memory) (s : Source) (y : Signals) (net : IsNet n) (memory : IsMemory n m) (live : IsLive n t.dead s) (old : IsBefore n t m s)
    (states : (b k : ℕ) → IsBlock n b → k < state_len (spec_of n b) → IsIn (state_range (t.states b) k) (at (m.state b) k)) (columns : AreColumns n i) (keeps : KeepWithin n i j)
    (b mask : ℕ) (block : IsBlock n b) (on : Active n s y b) (may : MayAct n t.dead s b) (known : AreKnown n t.dead s y b) (is : IsMaskOf n s y b mask)
    (conditions : (c : ℕ) → Conditions n c b → Active n s y c → Known n j t m s y c) (c : IsBlockClosed n i t b) where
  inside_at : (k : ℕ) → k < length (spec_of n b).ins → IsInput n b (suc k)
  inside_at k l = record { block = block; least = omega arith; most = omega (arith, l) }

  -- an input whose feeder is known
  pub element_has : (xs : ℕ → List ℤ) (k e : ℕ) → k < length (spec_of n b).ins → xs (suc k) ≡ input_in n y b (suc k) → Known n j t m s y (wire_of n b (suc k)).block
      → ((spec_of n b).kind ≡ Select → bit_at mask k ≡ 1) → before (spec_of n b).ins k ≤ e → e < before (spec_of n b).ins (suc k)
      → IsInSome (range_at c.inputs e) (at (all_inputs (spec_of n b) xs) e)
  element_has xs k e l same feeder chosen from to =
      entered_has n i j t m s y net live old b block on may known conditions c.inputs c.enter xs k e l same feeder
      (λ z. subst (IsActivated n s y b) (add-one k) ((is k).0 (chosen z))) from to

  masks_are : AreMasks c.masks mask
  masks_are =
      let r = c.masks_are s live may in
      (r.1.0, r.0, r.1.1, r.1.2, masks_are_between n t.dead s y b mask r.0 known r.2 is)

  is_mask : IsMask (spec_of n b) mask
  is_mask = mask_in_range n s y b mask net on is

  -- each cell is one of those that the rule tells
  rule_has : (u : List ℤ) (e : ℕ) → Fills (entering (spec_of n b)) u → AreFed (spec_of n b) mask c.inputs u → e < total (spec_of n b).outs
      → MayBe (cells (spec_of n b) (t.states b) c.masks c.inputs e) (cell (spec_of n b) (m.state b) mask u e)
  rule_has u e fills fed l =
      rule_covers (spec_of n b) (t.states b) (m.state b) c.masks mask c.inputs u e (net.typed_specs b block) (memory.states b block) is_mask fills (λ k p. states b k block p) masks_are fed l

  -- and of inputs as they are taken
  choice_has : (u : List ℤ) (e : ℕ) (vs : List (Option Interval)) → HaveChoices n i t b c.inputs u → AreTaken n i t b c.inputs vs → e < total (spec_of n b).outs
      → MayBe (cells (spec_of n b) (t.states b) c.masks vs e) (cell (spec_of n b) (m.state b) mask u e)
  choice_has u e vs choices are l =
      let s = spec_of n b in
      let a = switch_asks s (net.typed_specs b block) are.switch in
      let few = one_size s e a.0.outs_alike a.0.one l in
      let zero_is : e ≡ 0 = omega (arith, few, are.single) in
      let third : size s + 1 + e ≡ 2 = omega (arith, are.single, zero_is) in
      let both = choices are.switch are.single in
      let took = λ (first : Bool) (h : takes s first (at u (size s)) ≡ true).
      both.1 first (range_at vs (taken_place first)) (subst (λ z. takes s first (at u z) ≡ true) are.single h) (are.taken first) in
      taken_is_shown s (t.states b) c.masks vs (m.state b) mask u e are.switch
      (subst (λ z. IsInSome (range_at vs z) (at u z)) (sym are.single) (subst (λ o. IsInSome o (at u 1)) (sym are.condition) both.0))
      (λ h. subst (λ d. IsInSome (range_at vs d) (at u d)) (sym zero_is) (took true h)) (λ h. subst (λ d. IsInSome (range_at vs d) (at u d)) (sym third) (took false h))

  -- and so of what is told of a sum
  told_has : (u : List ℤ) (e : ℕ) → Fills (entering (spec_of n b)) u → AreFed (spec_of n b) mask c.inputs u → HaveMore n i t b c.inputs u → e < total (spec_of n b).outs
      → MayBe (c.told e) (cell (spec_of n b) (m.state b) mask u e)
  told_has u e fills fed more l = by_way (c.tells e l)
    where
      by_way : {cs : Cells} → Tells n i t b c.masks c.inputs e cs → MayBe cs (cell (spec_of n b) (m.state b) mask u e)
      by_way by_rule = rule_has u e fills fed l
      by_way (by_sum o sum h) = sum_is_fitted (spec_of n b) (m.state b) mask u e o sum (more.0 e o sum l h)
      by_way (by_choice vs are) = choice_has u e vs more.1 are l

  -- and the values that there are lie in the table
  values_in : (u vs : List ℤ) (e : ℕ) → Fills (entering (spec_of n b)) u → AreFed (spec_of n b) mask c.inputs u → HaveMore n i t b c.inputs u → out (spec_of n b) (m.state b) mask u ≡ Values vs → e < total (spec_of n b).outs
      → IsInSome (range_at (t.shows b) e) (at vs e)
  values_in u vs e fills fed more given l =
      let g = gathered_values (cell (spec_of n b) (m.state b) mask u) (total (spec_of n b).outs) vs given in
      within_some ((c.told e).values) (range_at (t.shows b) e) (at vs e) (c.values e l) (subst (MayBe (c.told e)) (g.1 e l) (told_has u e fills fed more l))

  -- and where there are none the stop is one that the table lists
  word_in : (u : List ℤ) (word : StopWord) → Fills (entering (spec_of n b)) u → AreFed (spec_of n b) mask c.inputs u → HaveMore n i t b c.inputs u → values_or_word (out (spec_of n b) (m.state b) mask u) ≡ Err word
      → t.stops b word ≡ true
  word_in u word fills fed more given =
      ⊎_elim
      (λ p. let r = no_fit (cell (spec_of n b) (m.state b) mask u) (total (spec_of n b).outs) p.0 in
      subst (λ w. t.stops b w ≡ true) (sym p.1)
      (c.overflow r.0 r.1 (subst (MayBe (c.told r.0)) r.2 (told_has u r.0 fills fed more r.1))))
      (λ p. let r = no_quotient (cell (spec_of n b) (m.state b) mask u) (total (spec_of n b).outs) p.0 in
      subst (λ w. t.stops b w ≡ true) (sym p.1)
      (c.zero r.0 r.1 (subst (MayBe (c.told r.0)) r.2 (told_has u r.0 fills fed more r.1))))
      (stops_by (out (spec_of n b) (m.state b) mask u) word given)

  -- ---- a sensor

  sensor_fill : is_sensor (spec_of n b).kind ≡ true → (v : ℤ) → IsIn (sensed_range i (spec_of n b)) v → Fills (entering (spec_of n b)) (v ∷ [])
  sensor_fill sensor v h =
      let a = sensor_asks (spec_of n b).kind (spec_of n b) sensor (asks (spec_of n b) (net.typed_specs b block)) in
      subst (λ ps. Fills ps (v ∷ [])) (sym (entering_outs (spec_of n b).kind (spec_of n b) sensor))
      (one_value (spec_of n b) a v (sensed_in_type n i b v columns (record { block = block; sensor = sensor }) h))

  sensor_fed : is_sensor (spec_of n b).kind ≡ true → (v : ℤ) → IsIn (sensed_range i (spec_of n b)) v → AreFed (spec_of n b) mask c.inputs (v ∷ [])
  sensor_fed sensor v h =
      let a = sensor_asks (spec_of n b).kind (spec_of n b) sensor (asks (spec_of n b) (net.typed_specs b block)) in
      record {
        inputs = λ k e m from to. absurd (omega (arith, m.within, a.2));
        sensed = λ e none l.
            let inside : e < total (spec_of n b).outs = subst (λ ps. e < total ps) (entering_outs (spec_of n b).kind (spec_of n b) sensor) l in
            let first : e ≡ 0 = omega (arith, inside, sensor_total (spec_of n b) a) in
            subst (λ d. IsInSome (range_at c.inputs d) (at (v ∷ []) d)) (sym first) (subst (λ o. IsInSome o v) (sym (c.enter.sensed sensor)) h);
      }

  sensor_more : is_sensor (spec_of n b).kind ≡ true → (u : List ℤ) → HaveMore n i t b c.inputs u
  sensor_more sensor u = (λ e o sum l h. absurd (no_sum (spec_of n b).kind sensor sum), λ switch single. absurd (no_switch (spec_of n b).kind sensor switch))

  -- what its column has next
  column_has : is_sensor (spec_of n b).kind ≡ true → (v : ℤ) → next_value j (spec_of n b) (m.cursor b) ≡ Some v → IsIn (sensed_range i (spec_of n b)) v
  column_has sensor v h =
      keeps b (record { block = block; sensor = sensor }) v (next_in_column (numbered [] j (column_of (spec_of n b))) (m.cursor b) v h)

  -- ---- another block, whose feeders of inputs with feedthrough are known

  module _ (feeders : (k : ℕ) → k < length (spec_of n b).ins → truth_at (spec_of n b).feed k ≡ true → Known n j t m s y (wire_of n b (suc k)).block)
      (more : HaveMore n i t b c.inputs (all_inputs (spec_of n b) (taken n m y b))) where
    inputs_fill : Fills (spec_of n b).ins (all_inputs (spec_of n b) (taken n m y b))
    inputs_fill =
        laid_in_range (spec_of n b).ins (taken n m y b)
        (λ k l. taken_of (has_feedthrough (spec_of n b) (suc k)) (port_at (spec_of n b).ins k) (input_in n y b (suc k)) (input_in n m.held b (suc k))
        (λ through. input_in_range n net y b k (inside_at k l) (feeders k l through).fills)
        (input_in_range n net m.held b k (inside_at k l) (memory.held (wire_of n b (suc k)).block (net.wired.wires_lead b (suc k) (inside_at k l)).block)))

    inputs_fed : is_sensor (spec_of n b).kind ≡ false → AreFed (spec_of n b) mask c.inputs (all_inputs (spec_of n b) (taken n m y b))
    inputs_fed off = record {
      inputs = λ k e h from to.
          element_has (taken n m y b) k e h.within
          (chosen_at (has_feedthrough (spec_of n b) (suc k)) (input_in n y b (suc k)) (input_in n m.held b (suc k)) h.through) (feeders k h.within h.through) h.chosen from
          (subst (λ p. e < before (spec_of n b).ins p) (add-one k) to);
      sensed = λ e none l. absurd (none_at (spec_of n b).ins e none (subst (λ ps. e < total ps) (entering_ins (spec_of n b).kind (spec_of n b) off) l));
    }

    enter_fill : is_sensor (spec_of n b).kind ≡ false → Fills (entering (spec_of n b)) (all_inputs (spec_of n b) (taken n m y b))
    enter_fill off = subst (λ ps. Fills ps (all_inputs (spec_of n b) (taken n m y b))) (sym (entering_ins (spec_of n b).kind (spec_of n b) off)) inputs_fill

    same_answer : answer n m j b mask (taken n m y b) ≡ answer n m j b mask (input_in n y b)
    same_answer =
        (fair n m j net.typed_specs).answers b mask (taken n m y b) (input_in n y b) block
        (λ k within through. chosen_at (has_feedthrough (spec_of n b) k) (input_in n y b k) (input_in n m.held b k) through)

    by_sensor : (test : Bool) (next : Option ℤ) (vs : List ℤ) (e : ℕ) → is_sensor (spec_of n b).kind ≡ test → (test ≡ true → (v : ℤ) → next ≡ Some v → IsIn (sensed_range i (spec_of n b)) v)
        → cond test (sensed (spec_of n b) (m.state b) mask next) (values_or_word (out (spec_of n b) (m.state b) mask (all_inputs (spec_of n b) (taken n m y b)))) ≡ Ok vs
        → e < total (spec_of n b).outs → IsInSome (range_at (t.shows b) e) (at vs e)
    by_sensor true None vs e sensor column given l = cc
    by_sensor true (Some v) vs e sensor column given l =
        let h = column refl v refl in
        values_in (v ∷ []) vs e (sensor_fill sensor v h) (sensor_fed sensor v h) (sensor_more sensor (v ∷ [])) (values_of (out (spec_of n b) (m.state b) mask (v ∷ [])) vs given) l
    by_sensor false next vs e off column given l =
        values_in (all_inputs (spec_of n b) (taken n m y b)) vs e (enter_fill off) (inputs_fed off) more
        (values_of (out (spec_of n b) (m.state b) mask (all_inputs (spec_of n b) (taken n m y b))) vs given) l

    word_by_sensor : (test : Bool) (next : Option ℤ) (word : StopWord) → is_sensor (spec_of n b).kind ≡ test
        → (test ≡ true → (v : ℤ) → next ≡ Some v → IsIn (sensed_range i (spec_of n b)) v)
        → cond test (sensed (spec_of n b) (m.state b) mask next) (values_or_word (out (spec_of n b) (m.state b) mask (all_inputs (spec_of n b) (taken n m y b)))) ≡ Err word
        → t.stops b word ≡ true
    word_by_sensor true None word sensor column given = let same : Input ≡ word = cc in subst (λ w. t.stops b w ≡ true) same (c.ends sensor)
    word_by_sensor true (Some v) word sensor column given =
        let h = column refl v refl in word_in (v ∷ []) word (sensor_fill sensor v h) (sensor_fed sensor v h) (sensor_more sensor (v ∷ [])) given
    word_by_sensor false next word off column given = word_in (all_inputs (spec_of n b) (taken n m y b)) word (enter_fill off) (inputs_fed off) more given

    -- what the block gives lies in the table
    pub given_in : (vs : List ℤ) (e : ℕ) → answer n m j b mask (input_in n y b) ≡ Ok vs → e < total (spec_of n b).outs → IsInSome (range_at (t.shows b) e) (at vs e)
    unfolding answer
    given_in vs e given l =
        by_sensor (is_sensor (spec_of n b).kind) (next_value j (spec_of n b) (m.cursor b)) vs e refl (λ sensor v h. column_has sensor v h) (same_answer ∙ given) l

    -- and the word by which it stops is listed there
    pub stop_in : (word : StopWord) → answer n m j b mask (input_in n y b) ≡ Err word → t.stops b word ≡ true
    unfolding answer
    stop_in word given =
        word_by_sensor (is_sensor (spec_of n b).kind) (next_value j (spec_of n b) (m.cursor b)) word refl (λ sensor v h. column_has sensor v h) (same_answer ∙ given)

    -- what it gives is in range
    pub given_fills : AreColumns n j → (vs : List ℤ) → answer n m j b mask (input_in n y b) ≡ Ok vs → Fills (spec_of n b).outs vs
    given_fills own vs given = answer_in_range n m j net memory own b mask (taken n m y b) vs block is_mask inputs_fill (same_answer ∙ given)
