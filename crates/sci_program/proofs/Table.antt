-- Behind a reaction the active blocks program their ports.
use Rattle.std.proofs.Common.{◌≡◌, ℕ, zero, suc, ◌+◌, ◌-◌, ◌<◌, ◌≤◌, ◌^◌, ◌≤ℤ◌, ℤ, pos, negsuc, List, [], ◌∷◌, ◌++◌, length, take, Bool, true, Some, if◌then◌else◌, refl, sym, ap, ◌∙◌, subst, arith}
use Rattle.std.proofs.lemmas.Int.{ints}
use Rattle.std.proofs.lemmas.List.{take_more, take_all, length-take-le}
use Rattle.c_ast.specs.Syntax.{Exp, num, Block, done}
use Rattle.c_mean.specs.Meaning.{World, Around, run_block}
use Rattle.c_mean.specs.Places.{get, value_of, Has}
use Rattle.c_mean.specs.Texts.{assigns_only, upto}
use Rattle.c_mean.specs.Runs.{Leads, LeftAlone}
use Rattle.c_mean.proofs.Steps.{done_leads, joined_leads, leads_as}
use Rattle.c_mean.proofs.Frames.{alone_all, alone_then}
use Rattle.sci_pending.specs.Pending.{Pending}
use Rattle.sci_net.specs.declared.Feed.{Feed}
use Rattle.sci_net.specs.declared.Source.{Source}
use Rattle.sci_net.specs.declared.Source.TheVariants.{Start, Port}
use Rattle.sci_net.specs.Parts.{Parts, spec_of}
use Rattle.sci_net.specs.Sources.{sources_of, sources_from, source_of}
use Rattle.sci_run.specs.Programs.{with_delay, with_delays}
use Rattle.sci_due.specs.Due.{due_table, now as now_name, delay as delay_name, is_programming}
use Rattle.sci_due.specs.Texts.{entry_text as due_entry, program_text, delayed_text}
use Rattle.sci_due.specs.Laws.{ShowsPending, AreOfPorts, HasProgrammed}
use Rattle.sci_due.proofs.Pending.{program_next, due_next, delayed_form, program_none, programmed_ports}
use Rattle.sci_cgen_blocks.specs.Texts.{delay_expression}
use Rattle.sci_program.specs.declared.part.Part.{Part}
use Rattle.sci_program.specs.Program.{port_count, each_port, places_of, delay_text}
use Rattle.sci_program.specs.Shows.{Acts}
use Rattle.sci_program.proofs.Staying.{acts_stay}
use Rattle.sci_program.proofs.States.{where_active}

-- ---- all sources of a list, from the front or from its end

abbrev pub one_more : (date : ℕ) → (Feed → ℤ) → ℕ → Source → Pending → Pending
one_more date delays k Start p = p
one_more date delays k (Port q) p = with_delay date k (delays q) p

pub delays_more : (date : ℕ) (delays : Feed → ℤ) (k : ℕ) (ss : List Source) (s : Source) (p : Pending)
    → with_delays date delays k (ss ++ s ∷ []) p ≡ one_more date delays (k + length ss) s (with_delays date delays k ss p)
delays_more date delays k [] s p = here s (k + 0) (omega arith)
  where
    here : (s : Source) (j : ℕ) → k ≡ j → with_delays date delays k (s ∷ []) p ≡ one_more date delays j s p
    here Start j e = refl
    here (Port q) j e = ap (λ (i : ℕ). with_delay date i (delays q) p) e
delays_more date delays k (Start ∷ ss) s p =
    delays_more date delays (k + 1) ss s p ∙ ap (λ (i : ℕ). one_more date delays i s (with_delays date delays (k + 1) ss p)) (omega arith)
delays_more date delays k (Port q ∷ ss) s p =
    delays_more date delays (k + 1) ss s (with_delay date k (delays q) p) ∙ ap
    (λ (i : ℕ). one_more date delays i s (with_delays date delays (k + 1) ss (with_delay date k (delays q) p))) (omega arith)

-- ---- one port

-- what one more port leaves
pub record HasDelayed (n : Parts) (most : ℕ) (p : Pending) (w w' : World) : Type 0 where
  pub done : HasProgrammed (port_count n) p w w'
  pub ports : AreOfPorts (port_count n) p.events
  pub few : p.programmed ≤ most

module _ (env : Around) (n : Parts) (part : ℕ → Part) (date most : ℕ) (soon : date ≤ 2 ^ 62) (small : suc most < 2 ^ 63) where
  port_leads : (i : ℕ) (q : Feed) (p : Pending) (a : Bool) (z : ℤ) (k : ℕ) (w : World) → 1 ≤ i → i ≤ port_count n → p.programmed ≤ most
      → AreOfPorts (port_count n) p.events
      → ShowsPending (port_count n) p w → get w now_name 0 ≡ Some (pos date) → Has w delay_name 0 → Acts (part q.block) a w q.block
      → (a ≡ true → value_of (delay_expression (spec_of n q.block) (places_of n q.block)) w ≡ Some z) → z ≤ℤ pos 2147483647
      → Leads (run_block env k (delay_text n part i (Port q)) w) (HasDelayed n (suc most) (with_delay date i (if a then z else negsuc 0) p) w)
  port_leads i q p a z k w lo hi few ports s now_is there acts val bound =
      where_active env (part q.block) q.block (delayed_text (due_table (port_count n)) (i - 1) (delay_expression (spec_of n q.block) (places_of n q.block))) a k w acts
      (λ on l. subst (λ (t : Bool). Leads (run_block env l (delayed_text (due_table (port_count n)) (i - 1) (delay_expression (spec_of n q.block) (places_of n q.block))) w)
      (HasDelayed n (suc most) (with_delay date i (if t then z else negsuc 0) p) w)) (sym on) (by_form z l (val on) bound))
      (λ off. subst (λ (t : Bool). HasDelayed n (suc most) (with_delay date i (if t then z else negsuc 0) p) w w) (sym off) nothing)
    where
      nothing : HasDelayed n (suc most) p w w
      nothing = record { done = record { pending = s; rest = alone_all (assigns_only is_programming) w }; ports = ports; few = omega (arith, few) }

      by_delay : (z : ℤ) (l : ℕ) → value_of (delay_expression (spec_of n q.block) (places_of n q.block)) w ≡ Some z → z ≤ℤ pos 2147483647
          → Leads (run_block env l (program_text (due_table (port_count n)) (i - 1) (delay_expression (spec_of n q.block) (places_of n q.block)) done) w)
          (HasDelayed n (suc most) (with_delay date i z p) w)
      by_delay (negsuc z) l is b =
          program_none (λ r. Leads r (HasDelayed n (suc most) p w)) env (port_count n) (i - 1) z p
          (delay_expression (spec_of n q.block) (places_of n q.block)) done l w s is there (λ j w' h.
          done_leads env j w' (record { done = h; ports = ports; few = omega (arith, few) }))
      by_delay (pos d) l is b =
          let own : suc (i - 1) ≡ i = omega (arith, lo) in
          let within : (i - 1) < port_count n = omega (arith, lo, hi) in
          subst (λ (j : ℕ). Leads (run_block env l (program_text (due_table (port_count n)) (i - 1) (delay_expression (spec_of n q.block) (places_of n q.block)) done) w)
          (HasDelayed n (suc most) (with_delay date j (pos d) p) w)) own
          (program_next (λ r. Leads r (HasDelayed n (suc most) (with_delay date (suc (i - 1)) (pos d) p) w)) env (port_count n) (i - 1) date d p
          (delay_expression (spec_of n q.block) (places_of n q.block)) done l w within
          (omega (arith, few, small)) (record { above = omega (arith, ints); below = omega (arith, ints, soon, b) }) ports s now_is is there
          (λ j w' h.
          done_leads env j w' (record { done = h; ports = programmed_ports (port_count n) p (date + d) (i - 1) within ports; few = omega (arith, few) })))

      -- where the delay is a number
      by_number : (d l : ℕ) → pos d ≤ℤ pos 2147483647
          → Leads (run_block env l (due_entry (due_table (port_count n)) (i - 1) (num (pos d))) w) (HasDelayed n (suc most) (with_delay date i (pos d) p) w)
      by_number d l b =
          let own : suc (i - 1) ≡ i = omega (arith, lo) in
          let within : (i - 1) < port_count n = omega (arith, lo, hi) in
          subst (λ (j : ℕ). Leads (run_block env l (due_entry (due_table (port_count n)) (i - 1) (num (pos d))) w) (HasDelayed n (suc most) (with_delay date j (pos d) p) w)) own
          (due_next (λ r. Leads r (HasDelayed n (suc most) (with_delay date (suc (i - 1)) (pos d) p) w)) env (port_count n) (i - 1) date d p l w within
          (omega (arith, few, small)) (record { above = omega (arith, ints); below = omega (arith, ints, soon, b) }) ports s now_is (λ j w' h.
          done_leads env j w' (record { done = h; ports = programmed_ports (port_count n) p (date + d) (i - 1) within ports; few = omega (arith, few) })))

      some_same : (x y : ℤ) → Some x ≡ Some y → x ≡ y
      some_same x y h = cc

      by_form : (z : ℤ) (l : ℕ) → value_of (delay_expression (spec_of n q.block) (places_of n q.block)) w ≡ Some z → z ≤ℤ pos 2147483647
          → Leads (run_block env l (delayed_text (due_table (port_count n)) (i - 1) (delay_expression (spec_of n q.block) (places_of n q.block))) w)
          (HasDelayed n (suc most) (with_delay date i z p) w)
      by_form z l is b =
          delayed_form (λ (t : Block). Leads (run_block env l t w) (HasDelayed n (suc most) (with_delay date i z p) w)) (due_table (port_count n)) (i - 1)
          (delay_expression (spec_of n q.block) (places_of n q.block)) (λ d e.
          let same : pos d ≡ z = some_same (pos d) z (ap (λ (x : Exp). value_of x w) (sym e) ∙ is) in
          subst (λ (y : ℤ). Leads (run_block env l (due_entry (due_table (port_count n)) (i - 1) (num (pos d))) w) (HasDelayed n (suc most) (with_delay date i y p) w)) same
          (by_number d l (subst (λ (y : ℤ). y ≤ℤ pos 2147483647) (sym same) b))) (by_delay z l is b)

-- ---- all ports

module _ (env : Around) (n : Parts) (part : ℕ → Part) (date most : ℕ) (soon : date ≤ 2 ^ 62) (small : suc (most + port_count n) < 2 ^ 63) (p : Pending) (w0 : World)
    (active : ℕ → Bool) (full : Feed → ℤ)
    (few : p.programmed ≤ most) (ports : AreOfPorts (port_count n) p.events) (shows : ShowsPending (port_count n) p w0)
    (now_is : get w0 now_name 0 ≡ Some (pos date)) (there : Has w0 delay_name 0)
    (marked : (q : Feed) (j : ℕ) → j < port_count n → source_of n (suc j) ≡ Port q → Acts (part q.block) (active q.block) w0 q.block)
    (gives : (q : Feed) (j : ℕ) → j < port_count n → source_of n (suc j) ≡ Port q → active q.block ≡ true → (w : World) → LeftAlone
    (assigns_only is_programming) w0 w
    → value_of (delay_expression (spec_of n q.block) (places_of n q.block)) w ≡ Some (full q))
    (bound : (q : Feed) → full q ≤ℤ pos 2147483647) where
  abbrev delays : Feed → ℤ
  delays q = if active q.block then full q else negsuc 0

  abbrev rest_ports : List Source
  rest_ports = sources_from 1 n.specs

  next_port_leads : (m : ℕ) → m < port_count n → (s : Source) → source_of n (suc m) ≡ s → (r : Pending) (w : World) → HasDelayed n (most + m) r w0 w → (k : ℕ)
      → Leads (run_block env k (delay_text n part (suc m) s) w) (HasDelayed n (most + suc m) (one_more date delays (suc m) s r) w0)
  next_port_leads m l Start e r w h k = done_leads env k w (record { done = h.done; ports = h.ports; few = omega (arith, h.few) })
  next_port_leads m l (Port q) e r w h k =
      let alone = h.done.rest in
      leads_as (run_block env k (delay_text n part (suc m) (Port q)) w)
      (λ w' g. record {
        done = record { pending = g.done.pending; rest = alone_then (assigns_only is_programming) w0 w w' alone g.done.rest };
        ports = g.ports;
        few = omega (arith, g.few);
      })
      (port_leads env n part date (most + m) soon (omega (arith, small, l)) (suc m) q r (active q.block) (full q) k w (omega arith)
      (omega (arith, l)) h.few h.ports h.done.pending
      (alone.same now_name 0 refl ∙ now_is) (alone.there delay_name 0 there)
      (acts_stay is_programming w0 w alone (part q.block) (active q.block) q.block refl refl (marked q m l e))
      (λ a. gives q m l e a w alone) (bound q))

  first_ports : (m : ℕ) → m ≤ port_count n → (k : ℕ)
      → Leads (run_block env k (upto (λ j. delay_text n part (suc j) (source_of n (suc j))) m) w0)
      (HasDelayed n (most + m) (with_delays date delays 1 (take m rest_ports) p) w0)
  first_ports zero l k =
      done_leads env k w0 (record {
        done = record { pending = shows; rest = alone_all (assigns_only is_programming) w0 };
        ports = ports;
        few = omega
            (arith, few);
      })
  first_ports (suc m) l k =
      joined_leads (λ r. Leads r (HasDelayed n (most + suc m) (with_delays date delays 1 (take (suc m) rest_ports) p) w0)) env k
      (upto (λ j. delay_text n part (suc j) (source_of n (suc j))) m) (delay_text n part (suc m) (source_of n (suc m))) w0
      (first_ports m (omega (arith, l)) k)
      (λ j w h. subst (λ (r : Pending). Leads (run_block env j (delay_text n part (suc m) (source_of n (suc m))) w) (HasDelayed n (most + suc m) r w0)) (sym more)
      (next_port_leads m (omega (arith, l)) (source_of n (suc m)) refl (with_delays date delays 1 (take m rest_ports) p) w h j))
    where
      within : m < length rest_ports
      within = omega (arith, l)

      place : 1 + length (take m rest_ports) ≡ suc m
      place = omega (arith, within, length-take-le m rest_ports (omega (arith, within)))

      taken : take (suc m) rest_ports ≡ take m rest_ports ++ source_of n (suc m) ∷ []
      taken = let same : suc m ≡ m + 1 = omega arith in ap (λ (j : ℕ). take j rest_ports) same ∙ take_more rest_ports m Start within

      more : with_delays date delays 1 (take (suc m) rest_ports) p ≡ one_more date delays (suc m) (source_of n (suc m))
          (with_delays date delays 1 (take m rest_ports) p)
      more =
          ap (λ (ss : List Source). with_delays date delays 1 ss p) taken
          ∙ (delays_more date delays 1 (take m rest_ports) (source_of n (suc m)) p ∙ ap
          (λ (j : ℕ). one_more date delays j (source_of n (suc m)) (with_delays date delays 1 (take m rest_ports) p)) place)

  -- The active blocks program their ports, by block and port.
  pub ports_lead : (k : ℕ) → Leads (run_block env k (each_port (λ i. delay_text n part i (source_of n i)) n) w0)
      (HasProgrammed (port_count n) (with_delays date delays 0 (sources_of n) p) w0)
  ports_lead k =
      let all : take (port_count n) rest_ports ≡ rest_ports = take_all (port_count n) rest_ports (omega arith) in
      leads_as (run_block env k (each_port (λ i. delay_text n part i (source_of n i)) n) w0)
      (λ w h. subst (λ (ss : List Source). HasProgrammed (port_count n) (with_delays date delays 1 ss p) w0 w) all h.done)
      (first_ports (port_count n) (omega arith) k)
