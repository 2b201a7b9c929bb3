-- Behind a pass the active blocks program their activation outputs.
use Rattle.std.proofs.Common.{◌≡◌, ℕ, zero, suc, ◌+◌, ◌<◌, ◌≤◌, ◌^◌, ◌≤ℤ◌, List, length, Some, Bool, true, false, refl, sym, subst, arith, ℤ, pos, true≢false, inl, inr, Contains}
use Rattle.std.specs.Prelude.{nat_le}
use Rattle.std.proofs.lemmas.Bool.{cases_lt}
use Rattle.std.proofs.lemmas.Bool.Decides.{nat_tests}
use Rattle.std.proofs.lemmas.Int.{ints}
use Rattle.std.proofs.lemmas.List.{get_or_past}
use Rattle.std.proofs.lemmas.List.Elements.{Contains-get_or}
use Rattle.sci_forms.specs.declared.Kind.{Kind}
use Rattle.sci_forms.specs.declared.Kind.TheVariants.{EvtDly, EvtVarDly, IfThEl, ESelect}
use Rattle.sci_forms.specs.declared.spec.Spec.{Spec}
use Rattle.sci_forms.specs.Forms.{counts_of}
use Rattle.sci_forms.specs.Form.{is_sync, has_delay}
use Rattle.sci_forms.specs.Typed.{typed, formed_of, counted}
use Rattle.sci_kinds.specs.Table.{delay}
use Rattle.sci_kinds.proofs.LawProofs.{delay_law}
use Rattle.sci_net.specs.declared.Feed.{Feed}
use Rattle.sci_net.specs.declared.Source.TheVariants.{Start, Port}
use Rattle.sci_net.specs.Parts.{Parts, IsBlock, spec_of, no_spec}
use Rattle.sci_net.specs.Net.{IsNet}
use Rattle.sci_net.specs.Sources.{sources_of, source_of}
use Rattle.sci_net.proofs.TypedSpecs.{typed_formed}
use Rattle.sci_reaction.specs.Equations.{Signals, AreInRange, input_in, all_inputs}
use Rattle.sci_reaction.specs.Links.{IsSource}
use Rattle.sci_reaction.proofs.Fills.{inputs_in_range}
use Rattle.sci_reaction.proofs.Lists.{and_both}
use Rattle.sci_reaction.proofs.Sources.{sources_are}
use Rattle.sci_pending.specs.Pending.{Pending}
use Rattle.sci_run.specs.Activity.{Activity}
use Rattle.sci_run.specs.Programs.{next_pending}
use Rattle.c_mean.specs.Meaning.{World, Around, run_block}
use Rattle.c_mean.specs.Places.{get, value_of}
use Rattle.c_mean.specs.Texts.{assigns_only}
use Rattle.c_mean.specs.Runs.{Leads, LeftAlone}
use Rattle.sci_due.specs.Due.{now as now_name, is_programming}
use Rattle.sci_due.specs.Laws.{ShowsPending, AreOfPorts, HasProgrammed}
use Rattle.sci_cgen_blocks.specs.Texts.{delay_expression}
use Rattle.sci_cgen_blocks.proofs.Effects.{delay_term_law}
use Rattle.sci_cgen_blocks.proofs.NextTexts.{delay_is}
use Rattle.sci_program.specs.declared.part.Part.{Part}
use Rattle.sci_program.specs.Program.{port_count, each_port, places_of, delay_text}
use Rattle.sci_program.specs.Shows.{ShowsValues, ShowsStates, ShowsActive, HasRoom}
use Rattle.sci_program.proofs.Table.{ports_lead}
use Rattle.sci_program.proofs.Given.{holds_unread, delay_unread}
use Rattle.sci_program.proofs.Staying.{values_stay, states_stay}

-- ---- the sources but start

no_outputs : (c : Kind) (k : ℕ) → is_sync c ≡ false → has_delay c ≡ false → (counts_of c k).evtout_most ≡ 0
no_outputs IfThEl k h d = absurd (true≢false h)
no_outputs ESelect k h d = absurd (true≢false h)
no_outputs EvtDly k h d = absurd (true≢false d)
no_outputs EvtVarDly k h d = absurd (true≢false d)
no_outputs _ k h d = refl

few_outputs : (c : Kind) (s : Spec) → formed_of c s ≡ true → nat_le s.evtout (counts_of c (length s.ins)).evtout_most ≡ true
few_outputs c s formed =
    let counts : counted s (counts_of c (length s.ins)) ≡ true =
    (and_both _ _ (and_both _ _ (and_both _ _ (and_both _ _ (and_both _ _ (and_both _ _ formed).0).0).0).0).0).0 in
    (and_both _ _ (and_both _ _ counts).1).1

-- an activation output of a kind that isn't synchronous has delays
output_has_delay : (s : Spec) → typed s ≡ true → is_sync s.kind ≡ false → 1 ≤ s.evtout → has_delay s.kind ≡ true
output_has_delay s h free some = by_case (has_delay s.kind) refl
  where
    by_case : (t : Bool) → has_delay s.kind ≡ t → has_delay s.kind ≡ true
    by_case true e = e
    by_case false e =
        let z = no_outputs s.kind (length s.ins) free e in
        let most = few_outputs s.kind s (typed_formed s h) in
        absurd (grind (arith, nat_tests))

port_is : (n : Parts) (q : Feed) (j : ℕ) → j < port_count n → source_of n (suc j) ≡ Port q → IsSource n (Port q)
port_is n q j l e =
    (sources_are n (Port q)).0 (subst (Contains (sources_of n)) e (Contains-get_or (sources_of n) (suc j) Start (omega (arith, l))))

port_block : (n : Parts) (q : Feed) → IsSource n (Port q) → IsBlock n q.block
port_block n q h = h.0.block

port_has_delay : (n : Parts) → IsNet n → (q : Feed) → IsSource n (Port q) → has_delay (spec_of n q.block).kind ≡ true
port_has_delay n net q h =
    output_has_delay (spec_of n q.block) (net.typed_specs q.block h.0.block) h.1 (let l = h.0.least in let m = h.0.most in omega (arith, l, m))

-- ---- delays

-- a block that isn't there has none
delay_most : (n : Parts) → IsNet n → (b p : ℕ) (u : List ℤ) → delay (spec_of n b) p u ≤ℤ pos 2147483647
delay_most n net zero p u = omega (arith, ints)
delay_most n net (suc k) p u = elim (cases_lt k (length n.specs)) [
  | inl l ↦ (delay_law (spec_of n (suc k)) p u (net.typed_specs (suc k) (record { least = omega arith; most = omega (arith, l) }))).1
  | inr r ↦
      let absent : spec_of n (suc k) ≡ no_spec = get_or_past n.specs k no_spec r in
      subst (λ (s : Spec). delay s p u ≤ℤ pos 2147483647) (sym absent) (omega (arith, ints))
]

module _ (env : Around) (n : Parts) (net : IsNet n) (scratch date : ℕ) (x y : Signals) (part : ℕ → Part) (active : Activity) (p : Pending) (w : World) (in_range : AreInRange n y)
    (values : ShowsValues n y w) (states : ShowsStates n x w) (room : HasRoom n scratch w) (marked : ShowsActive n part active w)
    (ports : AreOfPorts (port_count n) p.events) (soon : date ≤ 2 ^ 62) (small : suc (p.programmed + port_count n) < 2 ^ 63) where
  -- the delay of an output, on the values of the reaction
  abbrev full : Feed → ℤ
  full q = delay (spec_of n q.block) q.port (all_inputs (spec_of n q.block) (input_in n y q.block))

  delay_there : (q : Feed) → IsSource n (Port q) → (w' : World) → LeftAlone (assigns_only is_programming) w w'
      → value_of (delay_expression (spec_of n q.block) (places_of n q.block)) w' ≡ Some (full q)
  delay_there q source w' alone =
      let block = port_block n q source in
      let has = port_has_delay n net q source in
      delay_is (spec_of n q.block) (places_of n q.block) (x q.block) 0 (all_inputs (spec_of n q.block) (input_in n y q.block)) w'
      (holds_unread n net y (λ c b. (in_range c b).enough) w' (values_stay is_programming w w' alone n y refl values) q.block (x q.block) block
      (delay_unread (spec_of n q.block).kind has)
      (λ i l. (states_stay is_programming w w' alone n x refl states).each q.block i block l))
      delay_term_law (net.typed_specs q.block block) has (inputs_in_range n net y q.block block in_range) q.port

  -- They program them by block and port, as they do on the values of the reaction.
  pub delays_lead : 1 ≤ port_count n → ShowsPending (port_count n) p w → get w now_name 0 ≡ Some (pos date) → (k : ℕ)
      → Leads (run_block env k (each_port (λ i. delay_text n part i (source_of n i)) n) w)
      (HasProgrammed (port_count n) (next_pending n date y active p) w)
  delays_lead some pending now_is k =
      ports_lead env n part date p.programmed soon small p w active full (omega arith) ports pending now_is (room.delay some)
      (λ q j l e. marked.each q.block (port_block n q (port_is n q j l e)))
      (λ q j l e a w' alone. delay_there q (port_is n q j l e) w' alone)
      (λ q. delay_most n net q.block q.port _) k
