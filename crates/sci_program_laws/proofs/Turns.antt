-- The function of one event: the next event fires, or the run is over.
use Rattle.std.proofs.Common.{◌≡◌, ℕ, zero, suc, ◌+◌, ◌-◌, ◌<◌, ◌≤◌, ◌^◌, ◌==◌, List, [], ◌∷◌, length, Option, Some, None, Bool, true, false, not, ◌&&◌, ◌||◌, if◌then◌else◌, nat_lt, refl, sym, ap, ◌∙◌, subst, arith, pos, negsuc, true≢false, slice_index_or, lt-ltb, ltb-true, ltb-false}
use Rattle.std.specs.Prelude.{int_lt}
use Rattle.std.proofs.lemmas.Bool.Decides.{nat_tests}
use Rattle.std.specs.List.{list_any}
use Rattle.sci_base.specs.declared.observation.EndWord.{EndWord}
use Rattle.sci_base.specs.declared.observation.EndWord.TheVariants.{Halt, Events, Empty, Until}
use Rattle.sci_forms.specs.declared.spec.Spec.{Spec}
use Rattle.sci_forms.specs.Form.{is_sync}
use Rattle.sci_net.specs.Parts.{Parts, IsBlock, spec_of, no_spec}
use Rattle.sci_net.specs.Sources.{sources_of}
use Rattle.sci_reaction.specs.Memory.{Columns, IsMemory}
use Rattle.sci_pending.specs.Pending.{Event, Pending, next}
use Rattle.sci_run.specs.Activity.{Activity, halts, halts_from}
use Rattle.sci_forms.specs.Form.{is_halt}
use Rattle.sci_run.specs.Order.{PendingInOrder}
use Rattle.sci_run.specs.Run.{State, taken, Decision, Over, Fires, in_time, comes_next}
use Rattle.c_ast.specs.declared.Name.{Name}
use Rattle.c_ast.specs.declared.Op.TheVariants.{Lt, Gt}
use Rattle.c_ast.specs.Syntax.{Exp, var, bin, tell, finish, call, Block, done, next as followed}
use Rattle.c_mean.specs.Meaning.{World, Around, Ran, then_run, run_block, later, truth, end_word, same_name}
use Rattle.c_mean.specs.Places.{get, value_of, Has}
use Rattle.c_mean.specs.Texts.{assigns_only}
use Rattle.c_mean.specs.Runs.{Leads, Ends, LeftAlone}
use Rattle.c_mean.proofs.Steps.{then_same, then_ends, joined_runs, joined_leads, leads_as, done_leads, if_runs, else_runs, finish_ends}
use Rattle.c_mean.proofs.Frames.{alone_all}
use Rattle.c_mean.proofs.Values.{lt_is, gt_is}
use Rattle.sci_due.specs.Due.{best as chosen_name, scan as scan_name, fresh, firsts, is_taking}
use Rattle.sci_due.specs.Laws.{ShowsPending, AreOfPorts, HasTaken}
use Rattle.sci_due.proofs.Lists.{has_first, next_first, was_there}
use Rattle.sci_program.specs.Names.{actives, branches, until_name, fired_name, next_date, halt_name, source_name, clear_name, choose_name}
use Rattle.sci_program.specs.Program.{natural, one, text_where, port_count, has_halt, has_sync, end_number, end_told, end_or, halted_or, react_step, react_deep, fire_text, event_text, turn_text}
use Rattle.sci_program.specs.Shows.{HasRoom, IsIdle, ShowsState}
use Rattle.sci_program.specs.Stepping.{date_of}
use Rattle.sci_program_laws.specs.Memory.{Stands}
use Rattle.sci_program_laws.proofs.Choice.{is_choosing_next, HasNext, are_of_ports, take_goes}
use Rattle.sci_program_laws.proofs.Dispatch.{nothing_behind, dispatch_is}
use Rattle.sci_program_laws.proofs.Counting.{AreCounts}
use Rattle.sci_program_laws.proofs.Ready.{IsReady, ReactionGoes}
use Rattle.sci_program.proofs.Staying.{neither, values_stay, states_stay, room_stays, bounds_stay}
use Rattle.sci_program_laws.proofs.Between.{columns_stay, is_between, is_between_events, alone_wider, state_with, state_stays}
use Rattle.sci_program_laws.proofs.Clear.{is_clearing, HasCleared}

-- What calls mean in the function of one event.
pub record HasCalls (env : Around) (n : Parts) (scratch : ℕ) (i : Columns) (own : Bool) (until limit : ℕ) (react : ℕ → World → Ran)
    (clear choose : World → Ran)
    : Type 0 where
  pub few_ports : port_count n ≤ 2048
  pub react_called : (k : ℕ) → k < length (sources_of n) → env.calls (source_name k) ≡ Some (react k)
  pub clear_called : 1 ≤ port_count n → own ≡ false → env.calls clear_name ≡ Some clear
  pub choose_called : 1 ≤ port_count n → env.calls choose_name ≡ Some choose
  pub clears : 1 ≤ port_count n → own ≡ false → (w : World) → HasRoom n scratch w → Leads (clear w) (HasCleared n (length n.specs) w)
  pub chooses : 1 ≤ port_count n → (now : ℕ) (p : Pending) (w : World) → PendingInOrder n now p → ShowsPending (port_count n) p w → HasRoom n scratch w
      → Has w next_date 0 → Leads (choose w) (HasNext n p w)
  pub reaction : ReactionGoes n scratch i own until limit react

-- what is known of a state that is reached
pub record IsInOrder (n : Parts) (st : State) : Type 0 where
  pub memory : IsMemory n st.memory
  pub counts : AreCounts n st.memory
  pub pending : PendingInOrder n st.now st.pending
  pub few : suc (st.pending.programmed + port_count n) < 2 ^ 63

-- ---- lists of blocks

halts_has : (b : ℕ) (ss : List Spec) (active : Activity) → halts_from b ss active ≡ true → list_any (λ s. is_halt s.kind) ss ≡ true
halts_has b [] active h = absurd (true≢false (sym h))
halts_has b (s ∷ ss) active h = by_first (active b) (is_halt s.kind) h (halts_has (b + 1) ss active)
  where
    by_first : (a t : Bool) → (a && t) || halts_from (b + 1) ss active ≡ true
        → (halts_from (b + 1) ss active ≡ true → list_any (λ s. is_halt s.kind) ss ≡ true)
        → t || list_any (λ s. is_halt s.kind) ss ≡ true
    by_first a true h go = refl
    by_first true false h go = go h
    by_first false false h go = go h

any_at : (test : Spec → Bool) (ss : List Spec) (k : ℕ) → k < length ss → test (slice_index_or ss k no_spec) ≡ true → list_any test ss ≡ true
any_at test [] k l h = absurd (omega (arith, l))
any_at test (s ∷ ss) zero l h = ap (λ (t : Bool). t || list_any test ss) h
any_at test (s ∷ ss) (suc k) l h = by_first (test s) (any_at test ss k (omega (arith, l)) h)
  where
    by_first : (t : Bool) → list_any test ss ≡ true → t || list_any test ss ≡ true
    by_first true g = refl
    by_first false g = g

pub sync_has : (n : Parts) (b : ℕ) → IsBlock n b → is_sync (spec_of n b).kind ≡ true → has_sync n ≡ true
sync_has n zero k h = absurd (omega (arith, k.least))
sync_has n (suc b) k h = any_at (λ s. is_sync s.kind) n.specs b (omega (arith, k.most)) h

pub none_next : (m : ℕ) (es : List Event) → m ≡ 0 → AreOfPorts m es → next es ≡ None
none_next m [] e h = refl
none_next m (x ∷ es) e h = let s = h x (has_first x es) in absurd (omega (arith, e, s.0, s.1))

-- ---- ends

pub end_ends : (env : Around) (k : ℕ) (test : Exp) (code word : EndWord) (rest : Block) (w : World) → value_of test w ≡ Some (pos 1)
    → end_word (pos (end_number code)) ≡ Some word → Ends (run_block env k (end_or test code rest) w) word
end_ends env k test code word rest w is e =
    if_runs (λ r. Ends r word) env k test (one (end_told code)) rest done w is (λ l m.
    then_ends (run_block env l (one (end_told code)) w) (run_block env m done) word
    (finish_ends env l (natural (end_number code)) done w (pos (end_number code)) word refl e))

pub end_skips : (Q : Ran → Type 0) (env : Around) (k : ℕ) (test : Exp) (code : EndWord) (rest : Block) (w : World) → value_of test w ≡ Some (pos 0)
    → ((m : ℕ) → Q (run_block env m rest w)) → Q (run_block env k (end_or test code rest) w)
end_skips Q env k test code rest w is go =
    else_runs Q env k test (one (end_told code)) rest done w is (λ l m.
    subst Q (sym (nothing_behind env m (run_block env l rest w))) (go l))

-- the run halts where a HALT_f was active
module _ (env : Around) (n : Parts) (active : Activity) (w : World) (shown : has_halt n ≡ true → get w halt_name 0 ≡ Some (truth (halts n active))) where
  pub halt_ends : (k : ℕ) (rest : Block) → halts n active ≡ true → Ends (run_block env k (halted_or n rest) w) Halt
  halt_ends k rest h =
      let has : has_halt n ≡ true = halts_has 1 n.specs active h in
      subst (λ (t : Bool). Ends (run_block env k (if t then end_or (var halt_name) Halt rest else rest) w) Halt) (sym has)
      (end_ends env k (var halt_name) Halt Halt rest w (shown has ∙ ap (λ (t : Bool). Some (truth t)) h) refl)

  pub halt_skips : (Q : Ran → Type 0) (k : ℕ) (rest : Block) → halts n active ≡ false → ((m : ℕ) → Q (run_block env m rest w))
      → Q (run_block env k (halted_or n rest) w)
  halt_skips Q k rest h go = by_has (has_halt n) refl
    where
      by_has : (t : Bool) → has_halt n ≡ t → Q (run_block env k (halted_or n rest) w)
      by_has true e =
          subst (λ (t : Bool). Q (run_block env k (if t then end_or (var halt_name) Halt rest else rest) w)) (sym e)
          (end_skips Q env k (var halt_name) Halt rest w (shown e ∙ ap (λ (t : Bool). Some (truth t)) h) go)
      by_has false e = subst (λ (t : Bool). Q (run_block env k (if t then end_or (var halt_name) Halt rest else rest) w)) (sym e) (go k)

same_word : (a b : EndWord) → Over a ≡ Over b → a ≡ b
same_word a b e = cc

same_event : (a b : Event) → Fires a ≡ Fires b → a ≡ b
same_event a b e = cc

fires_over : (e : Event) (word : EndWord) → Fires e ≡ Over word → ⊥
fires_over e word h = cc

over_fires : (word : EndWord) (e : Event) → Over word ≡ Fires e → ⊥
over_fires word e h = cc

-- ---- memory before a reaction

pub idle_from : (n : Parts) (w : World) → ((b : ℕ) → b < length n.specs → get w actives b ≡ Some (pos 0))
    → (has_sync n ≡ true → (b : ℕ) → b < length n.specs → get w branches b ≡ Some (pos 0)) → IsIdle n w
idle_from n w active branch = record {
  actives = λ b k. active (b - 1) (omega (arith, k.least, k.most));
  branches = λ b k sync. branch (sync_has n b k sync) (b - 1) (omega (arith, k.least, k.most));
}

not_zero : (k : ℕ) → (suc k == 0) ≡ false
not_zero k = grind (arith, nat_tests)

-- of six tests that fail the third and the fourth
next_two : (a b c d e f : Bool) → a || (b || (c || (d || (e || f)))) ≡ false → b || (c || d) ≡ false
next_two true b c d e f h = absurd (true≢false h)
next_two false true c d e f h = absurd (true≢false h)
next_two false false true d e f h = absurd (true≢false h)
next_two false false false true e f h = absurd (true≢false h)
next_two false false false false e f h = refl

-- the last, and the first two
outer_two : (a b c d e f : Bool) → a || (b || (c || (d || (e || f)))) ≡ false → (f ≡ false) × ((a ≡ false) × (b ≡ false))
outer_two true b c d e f h = absurd (true≢false h)
outer_two false true c d e f h = absurd (true≢false h)
outer_two false false true d e f h = absurd (true≢false h)
outer_two false false false true e f h = absurd (true≢false h)
outer_two false false false false true f h = absurd (true≢false h)
outer_two false false false false false true h = absurd (true≢false h)
outer_two false false false false false false h = (refl, (refl, refl))

-- none of four
none_of_four : (a b c d : Bool) → a ≡ false → b ≡ false → c ≡ false → d ≡ false → a || (b || (c || d)) ≡ false
none_of_four true b c d p q r s = absurd (true≢false p)
none_of_four false true c d p q r s = absurd (true≢false q)
none_of_four false false true d p q r s = absurd (true≢false r)
none_of_four false false false d p q r s = s

choosing_less : (y : Name) → is_between_events y ≡ false → is_choosing_next y ≡ false
choosing_less y q =
    let both = neither (is_between y) (same_name firsts y || same_name fresh y) q in
    let some =
    outer_two (same_name chosen_name y) (same_name scan_name y) (same_name actives y) (same_name branches y) (same_name fired_name y)
    (same_name next_date y) both.0 in
    none_of_four (same_name next_date y) (same_name chosen_name y) (same_name scan_name y) (same_name firsts y || same_name fresh y) some.0 some.1.0 some.1.1
    both.1

clearing_less : (y : Name) → is_between y ≡ false → is_clearing y ≡ false
clearing_less y q =
    next_two (same_name chosen_name y) (same_name scan_name y) (same_name actives y) (same_name branches y) (same_name fired_name y) (same_name next_date y) q

above : (b : ℕ) → int_lt (pos b) (pos 0) ≡ false
above b = grind arith

-- ---- calls

-- a call in the text
pub call_exact : (env : Around) (k : ℕ) (f : Name) (rest : Block) (w : World) (run : World → Ran) → env.calls f ≡ Some run
    → run_block env k (followed (call f) rest) w ≡ then_run (run w) (run_block env (later k 1) rest)
unfolding run_block
call_exact env k f rest w run is = rw is refl

-- a text of one call
pub call_alone : (env : Around) (k : ℕ) (f : Name) (w : World) (run : World → Ran) → env.calls f ≡ Some run → run_block env k (one (call f)) w ≡ run w
call_alone env k f w run is =
    call_exact env k f done w run is ∙ nothing_behind env (later k 1) (run w)

-- where the next event is chosen, memory stands between two events
pub stands_next : (n : Parts) (scratch : ℕ) (i : Columns) (until limit count : ℕ) (st : State) (w w' : World) → ShowsState n scratch i until limit st w
    → get w fired_name 0 ≡ Some (pos count) → HasNext n st.pending w w' → Stands n scratch i until limit count st w'
stands_next n scratch i until limit count st w w' s f h = record {
  shows = state_with n scratch i until limit st w w' (alone_wider is_choosing_next is_between_events w w' choosing_less h.rest) h.pending s;
  chosen = h.chosen;
  coming = h.coming;
  fired = h.rest.same fired_name 0 refl ∙ f;
}

-- ---- one event

-- Nothing was changed but marks and branches; and where one text follows for all sources, none is left.
record IsReadied (n : Parts) (own : Bool) (w w' : World) : Type 0 where
  pub idle : own ≡ false → IsIdle n w'
  pub rest : LeftAlone (assigns_only is_clearing) w w'

module _ (env : Around) (n : Parts) (scratch : ℕ) (i : Columns) (own : Bool) (until limit : ℕ) (late : until ≤ 2 ^ 62) (react : ℕ → World → Ran)
    (clear choose : World → Ran)
    (calls : HasCalls env n scratch i own until limit react clear choose) where
  abbrev coming_text : Block
  coming_text = end_or (bin Lt (var next_date) (natural 0)) Empty (end_or (bin Gt (var next_date) (var until_name)) Until (fire_text own n))

  -- ---- the run is over

  over_coming : (m : ℕ) (w : World) (x : Option Event) (word : EndWord) → in_time until x ≡ Over word → get w next_date 0 ≡ Some (date_of x)
      → get w until_name 0 ≡ Some (pos until) → Ends (run_block env m coming_text w) word
  over_coming m w None word h is bound =
      subst (λ (v : EndWord). Ends (run_block env m coming_text w) v) (same_word Empty word h)
      (end_ends env m (bin Lt (var next_date) (natural 0)) Empty Empty _ w (lt_is (var next_date) (natural 0) w (negsuc 0) (pos 0) is refl) refl)
  over_coming m w (Some e) word h is bound = by_time (nat_lt until e.date) refl h
    where
      by_time : (t : Bool) → nat_lt until e.date ≡ t → (if t then Over Until else Fires e) ≡ Over word → Ends (run_block env m coming_text w) word
      by_time false q h = absurd (fires_over e word h)
      by_time true q h =
          subst (λ (v : EndWord). Ends (run_block env m coming_text w) v) (same_word Until word h)
          (end_skips (λ r. Ends r Until) env m (bin Lt (var next_date) (natural 0)) Empty _ w
          (lt_is (var next_date) (natural 0) w (pos e.date) (pos 0) is refl ∙ ap (λ (t : Bool). Some (truth t)) (above e.date)) (λ j.
          end_ends env j (bin Gt (var next_date) (var until_name)) Until Until (fire_text own n) w
          (gt_is (var next_date) (var until_name) w (pos e.date) (pos until) is bound ∙ ap (λ (t : Bool). Some (truth t)) q) refl))

  event_over : (k count : ℕ) (st : State) (w : World) (word : EndWord) → in_time until (next st.pending.events) ≡ Over word
      → Stands n scratch i until limit count st w → IsInOrder n st → Ends (run_block env k (event_text own n) w) word
  event_over k count st w word is s o = by_ports (nat_lt 0 (port_count n)) refl
    where
      by_ports : (t : Bool) → nat_lt 0 (port_count n) ≡ t → Ends (run_block env k (event_text own n) w) word
      by_ports true q =
          subst (λ (t : Bool). Ends (run_block env k (if t then coming_text else one (tell (finish (natural 2)))) w) word) (sym q)
          (over_coming k w (next st.pending.events) word is s.coming (s.shows.bounds.time (ltb-true 0 (port_count n) q)))
      by_ports false q =
          let none : next st.pending.events ≡ None = none_next (port_count n) st.pending.events (omega (arith, ltb-false 0 (port_count n) q))
          (are_of_ports n st.now st.pending o.pending) in
          subst (λ (t : Bool). Ends (run_block env k (if t then coming_text else one (tell (finish (natural 2)))) w) word) (sym q)
          (subst (λ (v : EndWord). Ends (run_block env k (one (tell (finish (natural 2)))) w) v) (same_word Empty word (ap (in_time until) (sym none) ∙ is))
          (finish_ends env k (natural 2) done w (pos 2) Empty refl refl))

  -- ---- an event fires

  -- what is known where the event was taken and the blocks are cleared
  pub record IsFired (count : ℕ) (st : State) (e : Event) (w : World) : Type 0 where
    pub ports : 1 ≤ port_count n
    pub ready : IsReady n scratch i own until limit e.date (taken st e) w
    pub fired : get w fired_name 0 ≡ Some (pos count)
    pub coming : Has w next_date 0

  reacts_alone : (k : ℕ) (e : Event) (w : World) → 1 ≤ e.source → e.source ≤ port_count n
      → (2 ≤ port_count n → get w chosen_name 0 ≡ Some (pos (e.source - 1)))
      → (Q : Ran → Type 0) → Q (then_run (react e.source w) choose)
      → Q (run_block env k (followed (react_step react_deep 0 (port_count n)) (one (call choose_name))) w)
  reacts_alone k e w lo hi is Q h =
      let own : suc (e.source - 1) ≡ e.source = omega (arith, lo) in
      let within : e.source < length (sources_of n) = omega (arith, lo, hi) in
      joined_runs Q env k (one (react_step react_deep 0 (port_count n))) (one (call choose_name)) w (λ m.
      subst Q (sym (ap (λ (r : Ran). then_run r (run_block env m (one (call choose_name))))
      (dispatch_is env (e.source - 1) (port_count n) w is (react e.source)
      (subst (λ (j : ℕ). env.calls (source_name j) ≡ Some (react e.source)) (sym own) (calls.react_called e.source within)) k (omega (arith, lo, hi))
      calls.few_ports)
      ∙ then_same (react e.source w) (run_block env m (one (call choose_name))) choose
      (λ u. call_alone env m choose_name u choose (calls.choose_called (omega (arith, lo, hi)))))) h)

  fire_goes : (Q : Ran → Type 0) (k count : ℕ) (st : State) (e : Event) (w : World) → 1 ≤ port_count n → next st.pending.events ≡ Some e → e.date ≤ until
      → halts n st.active ≡ false → Stands n scratch i until limit count st w → IsInOrder n st
      → ((w3 : World) → IsFired count st e w3 → Q (then_run (react e.source w3) choose)) → Q (run_block env k (fire_text own n) w)
  fire_goes Q k count st e w ports is early on s o go =
      take_goes Q env n st.now st.pending e _ k w (let few = calls.few_ports in omega (arith, few)) o.pending is (s.shows.pending ports) chosen_first
      (record { holds = pos st.now; is = s.shows.now ports }) (λ k2 w2 t.
      joined_leads Q env k2 (text_where (not own) (one (call clear_name))) (followed (react_step react_deep 0 (port_count n)) (one (call choose_name))) w2
      (readied k2 w2 t own refl) (λ k3 w3 h.
      reacts_alone k3 e w3 source.0 source.1 (chosen_is w2 w3 t h.rest) Q (go w3 (fired_is w2 w3 t h))))
    where
      -- the blocks are cleared where one text follows for all sources
      readied : (k2 : ℕ) (w2 : World) → HasTaken (port_count n) st.pending e w w2 → (o : Bool) → own ≡ o
          → Leads (run_block env k2 (text_where (not o) (one (call clear_name))) w2) (IsReadied n o w2)
      readied k2 w2 t true q =
          done_leads env k2 w2 (record { idle = λ f. absurd (true≢false f); rest = alone_all (assigns_only is_clearing) w2 })
      readied k2 w2 t false q =
          subst (λ (r : Ran). Leads r (IsReadied n false w2)) (sym (call_alone env k2 clear_name w2 clear (calls.clear_called ports q)))
          (leads_as (clear w2) (λ w3 h. record { idle = λ f. idle_from n w3 h.active h.branch; rest = h.rest })
          (calls.clears ports q w2 (room_stays is_taking w w2 t.rest n scratch s.shows.room)))

      source : (1 ≤ e.source) × (e.source ≤ port_count n)
      source = are_of_ports n st.now st.pending o.pending e (next_first st.pending.events e is)

      chosen_first : 2 ≤ port_count n → get w chosen_name 0 ≡ Some (pos (e.source - 1))
      chosen_first l = s.chosen l e is

      chosen_is : (w2 w3 : World) → HasTaken (port_count n) st.pending e w w2 → LeftAlone (assigns_only is_clearing) w2 w3
          → 2 ≤ port_count n → get w3 chosen_name 0 ≡ Some (pos (e.source - 1))
      chosen_is w2 w3 t h l = h.same chosen_name 0 refl ∙ (t.rest.same chosen_name 0 refl ∙ chosen_first l)

      s2 : (w2 : World) → HasTaken (port_count n) st.pending e w w2 → ShowsState n scratch i until limit (record (taken st e) { now = e.date }) w2
      s2 w2 t = record {
        held = values_stay is_taking w w2 t.rest n st.memory.held refl s.shows.held;
        states = states_stay is_taking w w2 t.rest n st.memory.state refl s.shows.states;
        columns = columns_stay n i st.memory.cursor w w2 (t.rest.left refl) s.shows.columns;
        pending = λ l. t.pending;
        now = λ l. t.date;
        halt = λ l. t.rest.same halt_name 0 refl ∙ s.shows.halt l;
        bounds = bounds_stay is_taking w w2 t.rest n until limit refl refl s.shows.bounds;
        room = room_stays is_taking w w2 t.rest n scratch s.shows.room;
      }

      s3 : (w2 w3 : World) → HasTaken (port_count n) st.pending e w w2 → LeftAlone (assigns_only is_clearing) w2 w3
          → ShowsState n scratch i until limit (record (taken st e) { now = e.date }) w3
      s3 w2 w3 t h =
          state_stays n scratch i until limit (record (taken st e) { now = e.date }) w2 w3
          (alone_wider is_clearing is_between w2 w3 clearing_less h) (s2 w2 t)

      fired_is : (w2 w3 : World) → HasTaken (port_count n) st.pending e w w2 → IsReadied n own w2 w3 → IsFired count st e w3
      fired_is w2 w3 t h = record {
        ports = ports;
        ready = record {
          shows = s3 w2 w3 t h.rest;
          idle = h.idle;
          goes_on = on;
          memory = o.memory;
          counts = o.counts;
          ports = λ f k. are_of_ports n st.now st.pending o.pending f (was_there (λ (e' : Event). not (e'.order == e.order)) st.pending.events f k).0;
          few = o.few;
          soon = omega (arith, early, late);
        };
        fired = h.rest.same fired_name 0 refl ∙ (t.rest.same fired_name 0 refl ∙ s.fired);
        coming = h.rest.there next_date 0 (t.rest.there next_date 0 (record { holds = date_of (next st.pending.events); is = s.coming }));
      }

  event_fires : (Q : Ran → Type 0) (k count : ℕ) (st : State) (e : Event) (w : World) → in_time until (next st.pending.events) ≡ Fires e
      → halts n st.active ≡ false → Stands n scratch i until limit count st w → IsInOrder n st
      → ((w3 : World) → IsFired count st e w3 → Q (then_run (react e.source w3) choose)) → Q (run_block env k (event_text own n) w)
  event_fires Q k count st e w is on s o go = by_next (next st.pending.events) refl is
    where
      by_next : (x : Option Event) → next st.pending.events ≡ x → in_time until x ≡ Fires e → Q (run_block env k (event_text own n) w)
      by_next None q h = absurd (over_fires Empty e h)
      by_next (Some f) q h = by_time (nat_lt until f.date) refl h
        where
          by_time : (t : Bool) → nat_lt until f.date ≡ t → (if t then Over Until else Fires f) ≡ Fires e → Q (run_block env k (event_text own n) w)
          by_time true r h = absurd (over_fires Until e h)
          by_time false r h =
              let same : f ≡ e = same_event f e h in
              let found : next st.pending.events ≡ Some e = q ∙ ap Some same in
              let early : e.date ≤ until = subst (λ (v : Event). v.date ≤ until) same (ltb-false until f.date r) in
              let source = are_of_ports n st.now st.pending o.pending e (next_first st.pending.events e found) in
              let ports : 1 ≤ port_count n = omega (arith, source.0, source.1) in
              let date : get w next_date 0 ≡ Some (pos e.date) = s.coming ∙ ap (λ (x : Option Event). Some (date_of x)) found in
              subst (λ (t : Bool). Q (run_block env k (if t then coming_text else one (tell (finish (natural 2)))) w)) (sym (some_ports ports))
              (end_skips Q env k (bin Lt (var next_date) (natural 0)) Empty _ w
              (lt_is (var next_date) (natural 0) w (pos e.date) (pos 0) date refl ∙ ap (λ (t : Bool). Some (truth t)) (above e.date)) (λ j.
              end_skips Q env j (bin Gt (var next_date) (var until_name)) Until (fire_text own n) w
              (gt_is (var next_date) (var until_name) w (pos e.date) (pos until) date (s.shows.bounds.time ports)
              ∙ ap (λ (t : Bool). Some (truth t)) (ap (λ (v : Event). nat_lt until v.date) (sym same) ∙ r)) (λ l.
              fire_goes Q l count st e w ports found early on s o go)))
            where
              some_ports : 1 ≤ port_count n → nat_lt 0 (port_count n) ≡ true
              some_ports l = lt-ltb 0 (port_count n) (omega (arith, l))

  -- ---- by what comes next

  in_time_of : (left : ℕ) (x : Option Event) (d : Decision) → (if suc left == 0 then Over Events else in_time until x) ≡ d → in_time until x ≡ d
  in_time_of left x d h = by_test (suc left == 0) (not_zero left) h
    where
      by_test : (t : Bool) → t ≡ false → (if t then Over Events else in_time until x) ≡ d → in_time until x ≡ d
      by_test true q h = absurd (true≢false q)
      by_test false q h = h

  pub turn_over : (k left count : ℕ) (st : State) (w : World) (word : EndWord) → comes_next n until (suc left) st ≡ Over word
      → Stands n scratch i until limit count st w
      → IsInOrder n st → Ends (run_block env k (turn_text own n) w) word
  turn_over k left count st w word is s o = by_halt (halts n st.active) refl is
    where
      by_halt : (t : Bool) → halts n st.active ≡ t → (if t then Over Halt else if suc left == 0 then Over Events else in_time until
          (next st.pending.events)) ≡ Over word
          → Ends (run_block env k (turn_text own n) w) word
      by_halt true q h =
          subst (λ (v : EndWord). Ends (run_block env k (turn_text own n) w) v) (same_word Halt word h)
          (halt_ends env n st.active w s.shows.halt k (event_text own n) q)
      by_halt false q h =
          halt_skips env n st.active w s.shows.halt (λ r. Ends r word) k (event_text own n) q (λ m.
          event_over m count st w word (in_time_of left (next st.pending.events) (Over word) h) s o)

  pub turn_fires : (Q : Ran → Type 0) (k left count : ℕ) (st : State) (e : Event) (w : World) → comes_next n until (suc left) st ≡ Fires e
      → Stands n scratch i until limit count st w → IsInOrder n st
      → ((w3 : World) → IsFired count st e w3 → Q (then_run (react e.source w3) choose)) → Q (run_block env k (turn_text own n) w)
  turn_fires Q k left count st e w is s o go = by_halt (halts n st.active) refl is
    where
      by_halt : (t : Bool) → halts n st.active ≡ t → (if t then Over Halt else if suc left == 0 then Over Events else in_time until
          (next st.pending.events)) ≡ Fires e
          → Q (run_block env k (turn_text own n) w)
      by_halt true q h = absurd (over_fires Halt e h)
      by_halt false q h =
          halt_skips env n st.active w s.shows.halt Q k (event_text own n) q (λ m.
          event_fires Q m count st e w (in_time_of left (next st.pending.events) (Fires e) h) q s o go)

-- where the bound on events is reached
pub behind_over : (env : Around) (n : Parts) (scratch : ℕ) (i : Columns) (until limit : ℕ) (k : ℕ) (st : State) (w : World) (word : EndWord)
    → comes_next n until 0 st ≡ Over word → ShowsState n scratch i until limit st w
    → Ends (run_block env k (halted_or n (one (tell (finish (natural 1))))) w) word
behind_over env n scratch i until limit k st w word is s = by_halt (halts n st.active) refl is
  where
    by_halt : (t : Bool) → halts n st.active ≡ t → (if t then Over Halt else Over Events) ≡ Over word
        → Ends (run_block env k (halted_or n (one (tell (finish (natural 1))))) w) word
    by_halt true q h =
        subst (λ (v : EndWord). Ends (run_block env k (halted_or n (one (tell (finish (natural 1))))) w) v) (same_word Halt word h)
        (halt_ends env n st.active w s.halt k (one (tell (finish (natural 1)))) q)
    by_halt false q h =
        subst (λ (v : EndWord). Ends (run_block env k (halted_or n (one (tell (finish (natural 1))))) w) v) (same_word Events word h)
        (halt_skips env n st.active w s.halt (λ r. Ends r Events) k (one (tell (finish (natural 1)))) q (λ m.
        finish_ends env m (natural 1) done w (pos 1) Events refl refl))
