-- The leading statements of the program lead to a memory that shows the state before the run.
use Rattle.std.proofs.Common.{◌≡◌, ℕ, zero, suc, ◌+◌, ◌-◌, ◌<◌, ◌≤◌, ◌≤ℤ◌, List, [], ◌∷◌, length, Bool, true, false, ◌||◌, Some, inl, inr, nat_lt, refl, sym, ap, ◌∙◌, subst, arith, ℤ, pos, negsuc, slice_index_or, ltb-true, ltb-false, true≢false}
use Rattle.std.proofs.lemmas.Bool.{cases_lt}
use Rattle.std.proofs.lemmas.Int.{ints}
use Rattle.sci_base.specs.declared.Ty.{Ty}
use Rattle.sci_base.specs.declared.Ty.TheVariants.{I32, I16, I8, U32, U16, U8}
use Rattle.sci_base.specs.Fit.{InRange}
use Rattle.sci_base.specs.Lists.{at}
use Rattle.sci_forms.specs.declared.spec.Spec.{Spec}
use Rattle.sci_forms.specs.Ports.{total, type_at}
use Rattle.sci_forms.specs.Words.{out_type, state_len_of}
use Rattle.sci_kinds.specs.Table.{first_state as state_at_first, first_held}
use Rattle.sci_net.specs.declared.Feed.{Feed}
use Rattle.sci_net.specs.Parts.{Parts, IsBlock, numbered, no_spec, spec_of, column_of}
use Rattle.sci_net.specs.Net.{IsNet, all_elements}
use Rattle.sci_net.specs.Sources.{sources_of}
use Rattle.sci_net.proofs.TypedSpecs.{sources_few, all_typed}
use Rattle.sci_reaction.specs.Memory.{Columns, IsMemory, first_memory}
use Rattle.sci_reaction.proofs.Next.{first_in_range}
use Rattle.sci_places.specs.Flat.{start_in, start_of}
use Rattle.sci_places.proofs.Placed.{start_after}
use Rattle.sci_run.specs.Activity.{halts_from}
use Rattle.sci_run.specs.Programs.{firing_of, first_pending}
use Rattle.sci_run.specs.Run.{first_state}
use Rattle.sci_run.proofs.Ordered.{typed_firing}
use Rattle.c_ast.specs.declared.Name.{Name}
use Rattle.c_ast.specs.Syntax.{scalar, set, ask, until as ask_until, done}
use Rattle.c_mean.specs.Meaning.{World, Around, run_block, same_name, truth}
use Rattle.c_mean.specs.Places.{get, Has, Puts}
use Rattle.c_mean.specs.Texts.{assigns_only}
use Rattle.c_mean.specs.Runs.{Leads, LeftAlone}
use Rattle.c_mean.specs.Laws.{Within}
use Rattle.c_mean.proofs.Memory.{put_there, put_other}
use Rattle.c_mean.proofs.Steps.{done_leads, joined_leads, let_runs, until_runs}
use Rattle.c_mean.proofs.Frames.{alone_all, alone_then, puts_alone}
use Rattle.sci_cgen_blocks.specs.Texts.{values, states}
use Rattle.sci_due.specs.Due.{dates, orders, fresh, firsts, last as programmed_name, now as now_name}
use Rattle.sci_due.specs.Laws.{AreOfPorts, ShowsPending}
use Rattle.sci_program.specs.Names.{limit_name, until_name, fired_name, next_date, halt_name}
use Rattle.sci_program.specs.Program.{natural, one, text_where, each_block, each_port, port_count, states_before, places_of, held_begun, state_begun, source_begun, programmed_before, clock_begun, outset_text}
use Rattle.sci_program.specs.Shows.{ShowsValues, ShowsStates, ShowsColumns, HasRoom, ShowsState}
use Rattle.sci_program.proofs.Firings.{is_table, HasBegun, few_before, firings_lead}
use Rattle.sci_program_laws.proofs.Counting.{first_counts}
use Rattle.sci_program_laws.proofs.Ready.{IsReady}
use Rattle.sci_program.proofs.Staying.{pending_stays}
use Rattle.sci_program_laws.proofs.Between.{alone_wider}
use Rattle.sci_program_laws.proofs.Turns.{idle_from}
use Rattle.sci_program_laws.proofs.Begun.{AllBegun, begun_all}
use Rattle.sci_program.proofs.Blank.{IsBlank}

-- ---- numbers of the net

fits_word : (t : Ty) (z : ℤ) → InRange t z → Within z
fits_word I32 z r = record { above = omega (arith, ints, r.above); below = omega (arith, ints, r.below) }
fits_word I16 z r = record { above = omega (arith, ints, r.above); below = omega (arith, ints, r.below) }
fits_word I8 z r = record { above = omega (arith, ints, r.above); below = omega (arith, ints, r.below) }
fits_word U32 z r = record { above = omega (arith, ints, r.above); below = omega (arith, ints, r.below) }
fits_word U16 z r = record { above = omega (arith, ints, r.above); below = omega (arith, ints, r.below) }
fits_word U8 z r = record { above = omega (arith, ints, r.above); below = omega (arith, ints, r.below) }

start_all : (ss : List Spec) → start_in ss (length ss) ≡ all_elements ss
start_all [] = refl
start_all (s ∷ ss) = ap (λ (k : ℕ). total s.outs + k) (start_all ss)

states_after : (ss : List Spec) (k : ℕ) → k < length ss
    → states_before ss (suc k) ≡ states_before ss k + state_len_of (slice_index_or ss k no_spec).kind (slice_index_or ss k no_spec)
states_after [] k l = absurd (omega (arith, l))
states_after (s ∷ ss) zero l = let none : states_before ss 0 ≡ 0 = by_list ss in omega (arith, none)
  where
    by_list : (ss : List Spec) → states_before ss 0 ≡ 0
    by_list [] = refl
    by_list (s ∷ ss) = refl
states_after (s ∷ ss) (suc k) l = let rest = states_after ss k (omega (arith, l)) in omega (arith, rest)

past_all : (ss : List Spec) (k : ℕ) → length ss ≤ k → slice_index_or ss k no_spec ≡ no_spec
past_all [] k l = refl
past_all (s ∷ ss) zero l = absurd (omega (arith, l))
past_all (s ∷ ss) (suc k) l = past_all ss k (omega (arith, l))

no_firing : (s : Spec) (p : ℕ) → s ≡ no_spec → numbered (negsuc 0) s.firing p ≤ℤ pos 2147483647
no_firing s p e = subst (λ (s : Spec). numbered (negsuc 0) s.firing p ≤ℤ pos 2147483647) (sym e) (by_port p)
  where
    by_port : (p : ℕ) → numbered (negsuc 0) [] p ≤ℤ pos 2147483647
    by_port zero = omega arith
    by_port (suc p) = omega arith

none_halts : (b : ℕ) (ss : List Spec) → halts_from b ss (λ b. false) ≡ false
none_halts b [] = refl
none_halts b (s ∷ ss) = none_halts (b + 1) ss

pub ports_few : (n : Parts) → IsNet n → port_count n ≤ 2048
ports_few n net = let few = sources_few 1 n.specs (all_typed n net) in omega (arith, few, net.wired.few)

module _ (n : Parts) (net : IsNet n) where
  soon : (q : Feed) → firing_of n q ≤ℤ pos 2147483647
  soon q = by_block q.block
    where
      by_block : (b : ℕ) → numbered (negsuc 0) (spec_of n b).firing q.port ≤ℤ pos 2147483647
      by_block zero = no_firing (spec_of n 0) q.port refl
      by_block (suc b) = elim (cases_lt b (length n.specs)) [
        | inl l ↦ typed_firing (spec_of n (suc b)) q.port (net.typed_specs (suc b) (record { least = omega arith; most = omega (arith, l) }))
        | inr l ↦ no_firing (spec_of n (suc b)) q.port (past_all n.specs b l)
      ]

  inside : (b : ℕ) → b < length n.specs → IsBlock n (suc b)
  inside b l = record { least = omega arith; most = omega (arith, l) }

  memory : IsMemory n (first_memory n)
  memory = first_in_range n net

  abbrev held_start : ℕ → ℕ
  held_start b = start_of n (suc b)

  abbrev held_list : ℕ → List ℤ
  held_list b = first_held (spec_of n (suc b))

  abbrev state_start : ℕ → ℕ
  state_start b = (places_of n (suc b)).state

  abbrev state_list : ℕ → List ℤ
  state_list b = state_at_first (spec_of n (suc b))

  held_length : (b : ℕ) → b < length n.specs → length (held_list b) ≡ total (spec_of n (suc b)).outs
  held_length b l = (memory.held (suc b) (inside b l)).enough

  state_length : (b : ℕ) → b < length n.specs → length (state_list b) ≡ state_len_of (spec_of n (suc b)).kind (spec_of n (suc b))
  state_length b l = (memory.states (suc b) (inside b l)).enough

  held_follows : (m : ℕ) → m < length n.specs → held_start (suc m) ≡ held_start m + length (held_list m)
  held_follows m l =
      let a : start_in n.specs (suc (suc m) - 1) ≡ start_in n.specs (m + 1) = ap (start_in n.specs) (let e : suc (suc m) - 1 ≡ m + 1 = omega arith in e) in
      let b : start_in n.specs m ≡ start_in n.specs (suc m - 1) = ap (start_in n.specs) (let e : m ≡ suc m - 1 = omega arith in e) in
      let c : total (spec_of n (m + 1)).outs ≡ total (spec_of n (suc m)).outs =
      ap (λ (k : ℕ). total (spec_of n k).outs) (let e : m + 1 ≡ suc m = omega arith in e) in
      let d = start_after n m l in
      let e = held_length m l in omega (arith, a, b, c, d, e)

  state_follows : (m : ℕ) → m < length n.specs → state_start (suc m) ≡ state_start m + length (state_list m)
  state_follows m l =
      let a : states_before n.specs (suc (suc m) - 1) ≡ states_before n.specs (suc m) =
      ap (states_before n.specs) (let e : suc (suc m) - 1 ≡ suc m = omega arith in e) in
      let b : states_before n.specs m ≡ states_before n.specs (suc m - 1) = ap (states_before n.specs) (let e : m ≡ suc m - 1 = omega arith in e) in
      let d = states_after n.specs m l in
      let e = state_length m l in omega (arith, a, b, d, e)

  held_fits : (b j : ℕ) → b < length n.specs → j < length (held_list b) → Within (at (held_list b) j)
  held_fits b j l q =
      fits_word (type_at (spec_of n (suc b)).outs j) (at (held_list b) j) ((memory.held (suc b) (inside b l)).in_range j (omega (arith, q, held_length b l)))

  state_fits : (b j : ℕ) → b < length n.specs → j < length (state_list b) → Within (at (state_list b) j)
  state_fits b j l q =
      fits_word (out_type (spec_of n (suc b))) (at (state_list b) j) ((memory.states (suc b) (inside b l)).in_range j (omega (arith, q, state_length b l)))

  held_end : held_start (length n.specs) ≡ all_elements n.specs
  held_end = ap (start_in n.specs) (let e : suc (length n.specs) - 1 ≡ length n.specs = omega arith in e) ∙ start_all n.specs

  state_end : state_start (length n.specs) ≡ states_before n.specs (length n.specs)
  state_end = ap (states_before n.specs) (let e : suc (length n.specs) - 1 ≡ length n.specs = omega arith in e)

  held_shown : (w w' : World) → AllBegun values held_start held_list (length n.specs) (length n.specs) w w' → ShowsValues n (λ b. first_held (spec_of n b)) w'
  held_shown w w' h = record { each = at_block }
    where
      at_block : (b e : ℕ) → IsBlock n b → e < total (spec_of n b).outs → get w' values (start_of n b + e) ≡ Some (at (first_held (spec_of n b)) e)
      at_block zero e k l = absurd (omega (arith, k.least))
      at_block (suc b) e k l = let own : b < length n.specs = omega (arith, k.most) in h.there b e own (omega (arith, l, held_length b own))

  states_shown : (w w' : World) → AllBegun states state_start state_list (length n.specs) (length n.specs) w w'
      → ShowsStates n (λ b. state_at_first (spec_of n b)) w'
  states_shown w w' h = record { each = at_block }
    where
      at_block : (b e : ℕ) → IsBlock n b → e < state_len_of (spec_of n b).kind (spec_of n b)
          → get w' states ((places_of n b).state + e) ≡ Some (at (state_at_first (spec_of n b)) e)
      at_block zero e k l = absurd (omega (arith, k.least))
      at_block (suc b) e k l = let own : b < length n.specs = omega (arith, k.most) in h.there b e own (omega (arith, l, state_length b own))

-- ---- what is shown stays where an array does

held_stays : (n : Parts) (w w' : World) → ((j : ℕ) → get w' values j ≡ get w values j) → ShowsValues n (λ b. first_held (spec_of n b)) w
    → ShowsValues n (λ b. first_held (spec_of n b)) w'
held_stays n w w' same s = record { each = λ b e k l. same _ ∙ s.each b e k l }

begun_stay : (n : Parts) (w w' : World) → ((j : ℕ) → get w' states j ≡ get w states j) → ShowsStates n (λ b. state_at_first (spec_of n b)) w
    → ShowsStates n (λ b. state_at_first (spec_of n b)) w'
begun_stay n w w' same s = record { each = λ b e k l. same _ ∙ s.each b e k l }

-- ---- the leading statements

abbrev is_clock : Name → Bool
is_clock x = same_name programmed_name x || same_name until_name x

abbrev pub is_outset : Name → Bool
is_outset x =
    same_name limit_name x || (same_name values x || (same_name states x || (is_table x || (same_name programmed_name x || same_name until_name x))))

all_fail : (a b c d e : Bool) → a || (b || (c || (d || e))) ≡ false → (b ≡ false) × ((c ≡ false) × ((d ≡ false) × (e ≡ false)))
all_fail true b c d e h = absurd (true≢false h)
all_fail false true c d e h = absurd (true≢false h)
all_fail false false true d e h = absurd (true≢false h)
all_fail false false false true e h = absurd (true≢false h)
all_fail false false false false e h = (refl, (refl, (refl, h)))

tests_fail : (y : Name) → is_outset y ≡ false
    → (same_name values y ≡ false) × ((same_name states y ≡ false) × ((is_table y ≡ false) × (same_name programmed_name y || same_name until_name y ≡ false)))
tests_fail y q =
    all_fail (same_name limit_name y) (same_name values y) (same_name states y) (is_table y) (same_name programmed_name y || same_name until_name y) q

-- what is known behind them, and behind that for the bound on events
pub record HasOutset (n : Parts) (last : ℤ) (w0 w : World) : Type 0 where
  pub held : ShowsValues n (λ b. first_held (spec_of n b)) w
  pub states : ShowsStates n (λ b. state_at_first (spec_of n b)) w
  pub pending : 1 ≤ port_count n → ShowsPending (port_count n) (first_pending n) w
  pub until : 1 ≤ port_count n → get w until_name 0 ≡ Some last
  pub ports : AreOfPorts (port_count n) (first_pending n).events
  pub few : (first_pending n).programmed ≤ suc (port_count n)
  pub rest : LeftAlone (assigns_only is_outset) w0 w

module _ (env : Around) (n : Parts) (net : IsNet n) (scratch : ℕ) (i : Columns) (w0 : World) (blank : IsBlank n scratch i w0) where
  abbrev Held : World → Type 0
  Held w = AllBegun values (held_start n net) (held_list n net) (length n.specs) (length n.specs) w0 w

  held_leads : (k : ℕ) → Leads (run_block env k (each_block (held_begun n) n) w0) Held
  held_leads k =
      begun_all env values (held_start n net) (held_list n net) (length n.specs) w0 (held_follows n net) (held_fits n net)
      (λ j lo hi. blank.values j (omega (arith, hi, held_end n net))) k

  abbrev WithStates : World → World → Type 0
  WithStates w1 w = AllBegun states (state_start n net) (state_list n net) (length n.specs) (length n.specs) w1 w

  states_lead : (k : ℕ) (w1 : World) → Held w1 → Leads (run_block env k (each_block (state_begun n) n) w1) (WithStates w1)
  states_lead k w1 h =
      begun_all env states (state_start n net) (state_list n net) (length n.specs) w1 (state_follows n net) (state_fits n net)
      (λ j lo hi. h.rest.same states j refl ∙ blank.states j (omega (arith, hi, state_end n net))) k

  values_wider : (w w' : World) → LeftAlone (assigns_only (same_name values)) w w' → LeftAlone (assigns_only is_outset) w w'
  values_wider w w' h = alone_wider (same_name values) is_outset w w' (λ y q. (tests_fail y q).0) h

  states_wider : (w w' : World) → LeftAlone (assigns_only (same_name states)) w w' → LeftAlone (assigns_only is_outset) w w'
  states_wider w w' h = alone_wider (same_name states) is_outset w w' (λ y q. (tests_fail y q).1.0) h

  table_wider : (w w' : World) → LeftAlone (assigns_only is_table) w w' → LeftAlone (assigns_only is_outset) w w'
  table_wider w w' h = alone_wider is_table is_outset w w' (λ y q. (tests_fail y q).1.1.0) h

  table_leads : (k : ℕ) (w1 w2 : World) → Held w1 → WithStates w1 w2
      → Leads (run_block env k (each_port (source_begun n) n) w2) (HasBegun n (port_count n) (first_pending n) w2)
  table_leads k w1 w2 h g =
      firings_lead env n w2 (let few = ports_few n net in omega (arith, few)) (soon n net)
      (λ j l. (
        g.rest.same dates j refl ∙ (h.rest.same dates j refl ∙ blank.dates j l),
        λ q. g.rest.same orders j refl
            ∙ (h.rest.same orders j refl ∙ blank.orders q j l),
      )) k

  -- where nothing is written but what the bounds and the count of orders are
  module _ (w1 w2 w3 : World) (h : Held w1) (g : WithStates w1 w2) (f : HasBegun n (port_count n) (first_pending n) w2 w3) where
    outset_at : (w : World) → LeftAlone (assigns_only is_clock) w3 w
        → (2 ≤ port_count n → get w programmed_name 0 ≡ Some (pos (first_pending n).programmed)) → (1 ≤ port_count n → get w until_name 0 ≡ Some env.until)
        → HasOutset n env.until w0 w
    outset_at w alone last bound = record {
      held = held_stays n w1 w
          (λ j. alone.same values j refl ∙ (f.rest.same values j refl ∙ g.rest.same values j refl)) (held_shown n net w0 w1 h);
      states = begun_stay n w2 w (λ j. alone.same states j refl ∙ f.rest.same states j refl) (states_shown n net w1 w2 g);
      pending = λ l. record {
        there = λ e c. (alone.same dates (e.source - 1) refl ∙ (f.there e c).0, λ m. alone.same orders (e.source - 1) refl ∙ (f.there e c).1 m);
        free = λ k a b q. alone.same dates (k - 1) refl ∙ f.free k a b q;
        orders_there = λ m k a b. alone.there orders (k - 1) (f.orders_there m k a b);
        programmed = last;
        groups = λ m q l. (
          record {
            holds = pos 0;
            is = alone.same firsts q refl
                ∙ (f.rest.same firsts q refl ∙ (g.rest.same firsts q refl ∙ (h.rest.same firsts q refl ∙ blank.firsts m q l)));
          },
          inl (alone.same fresh q refl
              ∙ (f.rest.same fresh q refl ∙ (g.rest.same fresh q refl ∙ (h.rest.same fresh q refl ∙ blank.fresh m q l)))),
        );
        single = f.single;
      };
      until = bound;
      ports = f.ports;
      few = let few = few_before n (suc (port_count n)) in omega (arith, few, f.programmed);
      rest =
          alone_then (assigns_only is_outset) w0 w3 w
          (alone_then (assigns_only is_outset) w0 w2 w3
          (alone_then (assigns_only is_outset) w0 w1 w2 (values_wider w0 w1 h.rest) (states_wider w1 w2 g.rest)) (table_wider w2 w3 f.rest))
          (alone_wider is_clock is_outset w3 w
          (λ y q. (tests_fail y q).1.1.1) alone);
    }

  programmed_is : (w3 : World) (w2 : World) → HasBegun n (port_count n) (first_pending n) w2 w3
      → (let k : ℕ = programmed_before n (length (sources_of n)) in k) ≡ (first_pending n).programmed
  programmed_is w3 w2 f = ap (programmed_before n) (let e : length (sources_of n) ≡ suc (port_count n) = omega arith in e) ∙ sym f.programmed

  -- how many events were programmed is there, where there are several sources of events
  record HasCount (w3 w : World) : Type 0 where
    pub is : 2 ≤ port_count n → get w programmed_name 0 ≡ Some (pos (programmed_before n (length (sources_of n))))
    pub rest : LeftAlone (assigns_only is_clock) w3 w

  count_leads : (k : ℕ) (w3 : World) → (2 ≤ port_count n → Has w3 programmed_name 0)
      → Leads (run_block env k (text_where (nat_lt 1 (port_count n)) (one (set (scalar programmed_name) (natural (programmed_before n (length (sources_of n))))))) w3)
      (HasCount w3)
  count_leads k w3 there = by_count (nat_lt 1 (port_count n)) refl
    where
      by_count : (t : Bool) → nat_lt 1 (port_count n) ≡ t
          → Leads (run_block env k (text_where t (one (set (scalar programmed_name) (natural (programmed_before n (length (sources_of n))))))) w3) (HasCount w3)
      by_count true q =
          let_runs (λ r. Leads r (HasCount w3)) env k programmed_name (natural (programmed_before n (length (sources_of n)))) done w3
          (pos (programmed_before n (length (sources_of n)))) refl (there (ltb-true 1 (port_count n) q)) (λ k4 w4 p.
          done_leads env k4 w4 (record {
            is = λ m. put_there w3 w4 programmed_name 0 (pos (programmed_before n (length (sources_of n)))) p;
            rest = puts_alone (assigns_only is_clock) w3 w4 programmed_name 0 (pos (programmed_before n (length (sources_of n)))) refl p;
          }))
      by_count false q =
          let few : port_count n ≤ 1 = ltb-false 1 (port_count n) q in
          done_leads env k w3 (record { is = λ m. absurd (omega (arith, m, few)); rest = alone_all (assigns_only is_clock) w3 })

  -- the rest of the outset
  table_end : (k : ℕ) (w1 w2 w3 : World) (h : Held w1) (g : WithStates w1 w2) (f : HasBegun n (port_count n) (first_pending n) w2 w3)
      → Leads (run_block env k (text_where (nat_lt 0 (port_count n)) (clock_begun n)) w3) (HasOutset n env.until w0)
  table_end k w1 w2 w3 h g f = by_ports (nat_lt 0 (port_count n)) refl
    where
      kept_there : (x : Name) → Has w0 x 0 → Has w3 x 0
      kept_there x t = f.rest.there x 0 (g.rest.there x 0 (h.rest.there x 0 t))

      by_ports : (t : Bool) → nat_lt 0 (port_count n) ≡ t → Leads (run_block env k (text_where t (clock_begun n)) w3) (HasOutset n env.until w0)
      by_ports false q =
          done_leads env k w3 (outset_at w1 w2 w3 h g f w3 (alone_all (assigns_only is_clock) w3) (λ l. absurd (none (omega (arith, l)))) (λ l. absurd (none l)))
        where
          none : 1 ≤ port_count n → ⊥
          none l = omega (arith, l, ltb-false 0 (port_count n) q)
      by_ports true q =
          let some : 1 ≤ port_count n = ltb-true 0 (port_count n) q in
          joined_leads (λ r. Leads r (HasOutset n env.until w0)) env k
          (text_where (nat_lt 1 (port_count n)) (one (set (scalar programmed_name) (natural (programmed_before n (length (sources_of n)))))))
          (one (ask (scalar until_name) ask_until)) w3
          (count_leads k w3 (λ m. kept_there programmed_name (record { holds = pos 0; is = blank.programmed m }))) (λ k4 w4 c.
          until_runs (λ r. Leads r (HasOutset n env.until w0)) env k4 (scalar until_name) done w4 until_name 0 (refl, refl)
          (c.rest.there until_name 0 (kept_there until_name (record { holds = pos 0; is = blank.until some }))) (λ k5 w5 u.
          done_leads env k5 w5 (outset_at w1 w2 w3 h g f w5
          (alone_then (assigns_only is_clock) w3 w4 w5 c.rest (puts_alone (assigns_only is_clock) w4 w5 until_name 0 env.until refl u))
          (λ m. put_other w4 w5 until_name 0 env.until programmed_name 0 u refl
          ∙ (c.is m ∙ ap (λ (j : ℕ). Some (pos j)) (programmed_is w3 w2 f)))
          (λ l. put_there w4 w5 until_name 0 env.until u))))

  pub outset_leads : (k : ℕ) → Leads (run_block env k (outset_text n) w0) (HasOutset n env.until w0)
  outset_leads k =
      joined_leads (λ r. Leads r (HasOutset n env.until w0)) env k (each_block (held_begun n) n) _ w0 (held_leads k) (λ k1 w1 h.
      joined_leads (λ r. Leads r (HasOutset n env.until w0)) env k1 (each_block (state_begun n) n) _ w1 (states_lead k1 w1 h) (λ k2 w2 g.
      joined_leads (λ r. Leads r (HasOutset n env.until w0)) env k2 (each_port (source_begun n) n) _ w2 (table_leads k2 w1 w2 h g) (λ k3 w3 f.
      table_end k3 w1 w2 w3 h g f)))

-- ---- the first state

module _ (n : Parts) (net : IsNet n) (scratch : ℕ) (i : Columns) (own : Bool) (until limit : ℕ) (w0 w w' : World) (blank : IsBlank n scratch i w0)
    (h : HasOutset n (pos until) w0 w) (put : Puts w limit_name 0 (pos limit) w') where
  alone : LeftAlone (assigns_only is_outset) w0 w'
  alone = alone_then (assigns_only is_outset) w0 w w' h.rest (puts_alone (assigns_only is_outset) w w' limit_name 0 (pos limit) refl put)

  zero_there : (x : Name) (j : ℕ) → get w0 x j ≡ Some (pos 0) → Has w' x j
  zero_there x j e = alone.there x j (record { holds = pos 0; is = e })

  room_is : HasRoom n scratch w'
  room_is = record {
    masks = λ b k. zero_there _ (b - 1) (blank.masks (b - 1) (omega (arith, k.least, k.most)));
    scratch_names = λ k lo hi. zero_there _ 0 (blank.scratch_names k lo hi);
    actives = λ b k. zero_there _ (b - 1) (blank.actives (b - 1) (omega (arith, k.least, k.most)));
    branches = λ s b k. zero_there _ (b - 1) (blank.branches s (b - 1) (omega (arith, k.least, k.most)));
    scan = λ l. zero_there _ 0 (blank.scan l);
    chosen = λ l. zero_there _ 0 (blank.chosen l);
    delay = λ l. zero_there _ 0 (blank.delay l);
  }

  columns_are : ShowsColumns n i (λ b. 0) w'
  columns_are = record { each = λ b k. ap (λ (l : List (List ℤ)). numbered [] l (column_of (spec_of n b))) (alone.left refl ∙ blank.left) }

  state_is : ShowsState n scratch i until limit (record (first_state n) { now = 0 }) w'
  state_is = record {
    held = held_stays n w w' (λ j. put_other w w' limit_name 0 (pos limit) values j put refl) h.held;
    states = begun_stay n w w' (λ j. put_other w w' limit_name 0 (pos limit) states j put refl) h.states;
    columns = columns_are;
    pending = λ l. pending_stays (same_name limit_name) w w' (puts_alone (assigns_only (same_name limit_name)) w w' limit_name 0 (pos limit) refl put)
        (port_count n) (first_pending n) refl refl refl refl refl (h.pending l);
    now = λ l. alone.same now_name 0 refl ∙ blank.now l;
    halt = λ l. alone.same halt_name 0 refl ∙ (blank.halt l ∙ ap (λ (t : Bool). Some (truth t)) (sym (none_halts 1 n.specs)));
    bounds = record {
      events = put_there w w' limit_name 0 (pos limit) put;
      time = λ l. put_other w w' limit_name 0 (pos limit) until_name 0 put refl ∙ h.until l;
    };
    room = room_is;
  }

  pub first_ready : IsReady n scratch i own until limit 0 (first_state n) w'
  first_ready = record {
    shows = state_is;
    idle = λ q. idle_from n w' (λ b l. alone.same _ b refl ∙ blank.actives b l) (λ s b l. alone.same _ b refl ∙ blank.branches s b l);
    goes_on = none_halts 1 n.specs;
    memory = memory n net;
    counts = first_counts n net;
    ports = h.ports;
    few = let few = ports_few n net in omega (arith, few, h.few);
    soon = omega arith;
  }

  pub none_fired : get w' fired_name 0 ≡ Some (pos 0)
  none_fired = alone.same fired_name 0 refl ∙ blank.fired

  pub coming_there : Has w' next_date 0
  coming_there = zero_there next_date 0 blank.coming
