-- What the program means, run by main or stepped by its host.
use Rattle.std.proofs.Common.{◌≡◌, ℕ, ℤ, pos, negsuc, List, [], ◌∷◌, Bool, true, false, nat_lt, if◌then◌else◌, refl, sym, ap, ◌∙◌, subst}
use Rattle.sci_base.specs.declared.observation.Obs.{Obs}
use Rattle.sci_net.specs.Parts.{Parts}
use Rattle.sci_net.specs.Net.{IsNet}
use Rattle.sci_reaction.specs.Memory.{Columns, AreColumns}
use Rattle.sci_reaction.specs.Schedule.{Entry, IsSchedule}
use Rattle.sci_run.specs.Laws.{AreLoopFree}
use Rattle.sci_run.specs.Run.{State}
use Rattle.sci_run.specs.Finish.{Ending, ByEnd, ByStop}
use Rattle.c_ast.specs.declared.Name.{Name}
use Rattle.c_ast.specs.declared.Op.TheVariants.{Lt, Gt}
use Rattle.c_ast.specs.declared.events.TextEvent.TheVariants as events
use Rattle.c_ast.specs.Syntax.{var, bin, scalar, limit, finish, set, ask, choice, call, tell, Block, next}
use Rattle.c_ast.specs.Events.{statement_events, block_events}
use Rattle.c_mean.specs.Meaning.{Ran}
use Rattle.c_mean.specs.Texts.{number}
use Rattle.c_trim.specs.Trim.{is_kept}
use Rattle.c_trim.specs.Laws.{kept_world, kept_ran}
use Rattle.c_trim.proofs.Named.{KeepsEvents, keeps_first, keeps_second, joined_first, joined_second, bodies_second, functions_kept, main_kept}
use Rattle.c_trim.proofs.Runs.{reads_stay, meaning_stays, turns_stay}
use Rattle.sci_cgen_blocks.specs.Laws.{ValuesLaw, SensorLaw, BranchLaw, MayLaw}
use Rattle.sci_cgen_blocks.proofs.KindLaws.{cell_law, cell_reads_law}
use Rattle.sci_cgen_blocks.proofs.Bodies.{body_answers}
use Rattle.sci_cgen_blocks.proofs.Sensing.{body_senses}
use Rattle.sci_cgen_blocks.proofs.Effects.{branch_term_law}
use Rattle.sci_cgen_blocks.proofs.NextTexts.{branch_is}
use Rattle.sci_cgen_blocks.proofs.Assigned.{body_within, next_within}
use Rattle.sci_base.specs.declared.observation.EndWord.{EndWord}
use Rattle.sci_base.specs.declared.observation.EndWord.TheVariants as words
use Rattle.sci_program.specs.Names.{limit_name, until_name, next_date, halt_name, source_name, choose_name, event_name}
use Rattle.sci_program.specs.Laws.{answer_by, ProgramMeansRun}
use Rattle.sci_program.specs.Program.{natural, one, has_own, has_halt, port_count, end_told, end_or, fire_text, event_text, first_text, outset_text, begin_text, called_functions, event_function, full_program, program}
use Rattle.sci_program.specs.Stepping.{Waits, stepped, ProgramSteps}
use Rattle.sci_program.proofs.Parted.{ending, running}
use Rattle.sci_program_laws.proofs.Means.{ReactionsGo, program_means, program_waits, program_steps}
use Rattle.sci_program_laws.proofs.Reacting.{reactions_go}

-- ---- the texts of blocks

values_law : ValuesLaw
values_law env s p x m u n w is_typed other state mask fills holds room bounds apart =
    body_answers cell_law cell_reads_law env s p x m u n w is_typed other state mask fills holds room bounds apart

sensor_law : SensorLaw
sensor_law env s p column n w kind param room scratch = body_senses env s p column n w kind param room scratch

branch_law : BranchLaw
branch_law s p x m u w is_typed sync fills holds = branch_is s p x m u w holds branch_term_law is_typed sync fills

may_law : MayLaw
may_law = record { body = body_within; next = next_within }

-- ---- without variables that no text names

abbrev pub kept : Parts → List (List Entry) → Name → Bool
kept n rows = is_kept (full_program n rows)

-- a run that is over has no variables
end_kept : (keep : Name → Bool) (how : Ending) (os : List Obs)
    → kept_ran keep (record { seen = os; how = answer_by how }) ≡ record { seen = os; how = answer_by how }
end_kept keep (ByEnd word) os = refl
end_kept keep (ByStop block word) os = refl

-- ---- the date of the next event, which a host reads, is named

-- where a run ends by this word, or the rest follows
rest_kept : (keep : Name → Bool) (x : Name) (word : EndWord) (rest : Block) → KeepsEvents keep (block_events (end_or (var x) word rest))
    → KeepsEvents keep (block_events rest)
rest_kept keep x word rest h =
    let choosing : KeepsEvents keep (statement_events (choice (var x) (one (end_told word)) rest))
    = keeps_first keep (statement_events (choice (var x) (one (end_told word)) rest)) [] h in
    keeps_first keep (block_events rest) (events.Close ∷ []) choosing.1.1

module _ (n : Parts) (rows : List (List Entry)) where
  -- start's reaction, and the first event
  abbrev start_text : Block
  start_text = next (call (source_name 0)) (first_text n)

  first_names : KeepsEvents (kept n rows) (block_events (first_text n))
  first_names =
      let begin = joined_first (kept n rows) (begin_text n) (running n) (main_kept (full_program n rows)) in
      let behind = joined_second (kept n rows) (outset_text n) (next (ask (scalar limit_name) limit) start_text) begin in
      keeps_second (kept n rows) (statement_events (call (source_name 0))) (block_events (first_text n))
      (keeps_second (kept n rows) (statement_events (ask (scalar limit_name) limit)) (block_events start_text) behind)

  event_names : KeepsEvents (kept n rows) (block_events (event_text (has_own n rows) n))
  event_names =
      let last = bodies_second (kept n rows) (called_functions n rows) (event_function (has_own n rows) n ∷ []) (functions_kept (full_program n rows)) in
      by_halt (has_halt n) last.0
    where
      by_halt : (t : Bool)
          → KeepsEvents (kept n rows) (block_events (if t then end_or (var halt_name) words.Halt (event_text (has_own n rows) n) else event_text (has_own n rows) n))
          → KeepsEvents (kept n rows) (block_events (event_text (has_own n rows) n))
      by_halt true h = rest_kept (kept n rows) halt_name words.Halt (event_text (has_own n rows) n) h
      by_halt false h = h

  -- by the choice of the first event where there is none, and else by the function of one event
  pub next_date_kept : kept n rows next_date ≡ true
  next_date_kept = by_ports (nat_lt 0 (port_count n)) event_names first_names
    where
      by_ports : (t : Bool) → KeepsEvents (kept n rows) (block_events (
          if t then end_or (bin Lt (var next_date) (natural 0)) words.Empty (end_or (bin Gt (var next_date) (var until_name)) words.Until (fire_text (has_own n rows) n))
          else one (tell (finish (natural 2)))))
          → KeepsEvents (kept n rows) (block_events (if t then one (call choose_name) else one (set (scalar next_date) (number (negsuc 0)))))
          → kept n rows next_date ≡ true
      by_ports true event first = event.0
      by_ports false event first = first.0

-- so its value stays
date_kept : (n : Parts) (rows : List (List Entry)) (st : State) (seen : List Obs) (r : Ran) → Waits st seen r → Waits st seen (kept_ran (kept n rows) r)
date_kept n rows st seen r h = record {
  world = kept_world (kept n rows) h.world;
  is = ap (kept_ran (kept n rows)) h.is;
  date = reads_stay (kept n rows) h.world next_date 0 (next_date_kept n rows) ∙ h.date;
}

pub stepped_kept : (n : Parts) (rows : List (List Entry)) (i : Columns) (last most : ℤ) (k : ℕ)
    → stepped (program n rows) (begin_text n) i last most k ≡ kept_ran (kept n rows) (stepped (full_program n rows) (begin_text n) i last most k)
stepped_kept n rows i last most k = turns_stay (full_program n rows) (begin_text n) (running n) event_name i last most k refl

-- ---- the program

-- its reactions are those of the net
pub program_reacts : (n : Parts) (rows : List (List Entry)) (i : Columns) (until most : ℕ) → IsNet n → AreLoopFree n → IsSchedule n rows → AreColumns n i
    → ReactionsGo n rows i until most
unfolding ReactionsGo
program_reacts n rows i last_date most net free schedule columns =
    λ react are. reactions_go values_law sensor_law branch_law may_law n rows i last_date most net free schedule columns react are

-- On every input file in range and within all bounds it observes exactly the trace of the net, and it ends as the run does.
pub program_means_run : ProgramMeansRun
program_means_run n rows i last_date most_events st how os net free schedule columns late most ends_so =
    meaning_stays (full_program n rows) i (pos last_date) (pos most_events)
    ∙ (ap (kept_ran (kept n rows)) (program_means n rows i last_date most_events net free columns late most
    (program_reacts n rows i last_date most_events net free schedule columns) ends_so)
    ∙ end_kept (kept n rows) how os)

-- Begun and then stepped by its host, it observes the reactions of start and of as many events, or all of a run that has fewer.
pub program_can_step : ProgramSteps
program_can_step n rows net free schedule = record {
  begin = begin_text n;
  parted = record { rest = ending n; is = refl };
  waits = λ i until most k st seen columns late few r all.
      subst (Waits st seen) (sym (stepped_kept n rows i (pos until) (pos most) k))
      (date_kept n rows st seen (stepped (full_program n rows) (begin_text n) i (pos until) (pos most) k)
      (program_waits n rows i until most net free columns late (program_reacts n rows i until most net free schedule columns) k few st seen r all));
  ends = λ i until most k st how os columns late few finish told.
      stepped_kept n rows i (pos until) (pos most) k
      ∙ (ap (kept_ran (kept n rows)) (program_steps n rows i until most net free columns late
      (program_reacts n rows i until most net free schedule columns) k few finish told)
      ∙ end_kept (kept n rows) how os);
}
