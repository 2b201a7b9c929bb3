-- A reaction of the program: the memory that it goes from, and what it comes to.
use Rattle.std.specs.Prelude.{◌≡◌, ℕ, suc, ◌+◌, ◌<◌, ◌≤◌, ◌^◌, Bool, false, true, not, ◌||◌, nat_eq, List, length}
use Rattle.sci_base.specs.declared.observation.Obs.{Obs}
use Rattle.sci_base.specs.declared.observation.StopWord.{StopWord}
use Rattle.sci_net.specs.Parts.{Parts}
use Rattle.sci_net.specs.declared.Source.{Source}
use Rattle.sci_net.specs.Sources.{sources_of, source_of}
use Rattle.sci_reaction.specs.Memory.{Columns, IsMemory}
use Rattle.sci_reaction.specs.Result.{Stopped, IsResult}
use Rattle.sci_run.specs.Activity.{halts}
use Rattle.sci_run.specs.Observed.{stop_seen}
use Rattle.sci_run.specs.Run.{State, Reacts}
use Rattle.sci_run.specs.Alike.{AreAlike}
use Rattle.c_ast.specs.declared.Name.{Name}
use Rattle.c_mean.specs.Meaning.{World, Ran, going, halted, same_name}
use Rattle.c_mean.specs.Texts.{May}
use Rattle.c_mean.specs.Runs.{Leaves}
use Rattle.sci_due.specs.Due.{best as chosen_name}
use Rattle.sci_due.specs.Laws.{AreOfPorts}
use Rattle.sci_program.specs.Names.{limit_name, until_name, fired_name, settle_name}
use Rattle.sci_program.specs.Program.{port_count}
use Rattle.sci_program_laws.proofs.Counting.{AreCounts}
use Rattle.sci_program.specs.Shows.{ShowsState, IsIdle}

-- Memory is ready for a reaction at a date: it shows the state with this date; and where one text follows all reactions, no block is marked and none has taken a
-- branch. No HALT_f was active before, and dates and orders stay far within range.
pub record IsReady (n : Parts) (scratch : ℕ) (i : Columns) (own : Bool) (until limit date : ℕ) (st : State) (w : World) : Type 0 where
  pub shows : ShowsState n scratch i until limit (record st { now = date }) w
  pub idle : own ≡ false → IsIdle n w
  pub goes_on : halts n st.active ≡ false
  pub memory : IsMemory n st.memory
  pub counts : AreCounts n st.memory
  pub ports : AreOfPorts (port_count n) st.pending.events
  pub few : suc (st.pending.programmed + port_count n) < 2 ^ 63
  pub soon : date ≤ 2 ^ 62

-- what no reaction assigns: the bounds, how many events have fired, and which was chosen
abbrev pub is_of_run : Name → Bool
is_of_run x = same_name limit_name x || (same_name until_name x || (same_name fired_name x || same_name chosen_name x))

-- what a reaction may do; it calls functions of blocks and the one that settles
abbrev pub may_call : Name → Bool
may_call f = nat_eq f.letter 102 || same_name settle_name f

abbrev pub reacting : May
reacting = record { assign = λ x. not (is_of_run x); call = may_call; take = true; show = true }

-- no other reaction leads from there to another state, or is observed otherwise
abbrev pub IsOneReaction : Parts → Columns → (date : ℕ) → Source → State → State → List Obs → Type 0
IsOneReaction n i date s st after seen =
    (other : State) (others : List Obs) → Reacts n i date s st other others → (seen ≡ others) × AreAlike n after other

-- From each memory that is ready the function of a source observes the reaction and leads to a memory that shows the state behind it; or it observes the stop
-- and ends the run.
pub record ReactionGoes (n : Parts) (scratch : ℕ) (i : Columns) (own : Bool) (until limit : ℕ) (react : ℕ → World → Ran) : Type 0 where
  pub leaves : (k : ℕ) → k < length (sources_of n) → (w : World) → Leaves reacting w (react k w)
  pub values : (k date : ℕ) (st after : State) (seen : List Obs) (w : World) → k < length (sources_of n) → IsReady n scratch i own until limit date st w
      → Reacts n i date (source_of n k) st after seen → IsOneReaction n i date (source_of n k) st after seen
      → (w' : World) × ((react k w ≡ record { seen = seen; how = going w' }) × ShowsState n scratch i until limit after w')
  pub stops : (k date : ℕ) (st : State) (block : ℕ) (word : StopWord) (w : World) → k < length (sources_of n) → IsReady n scratch i own until limit date st w
      → IsResult n st.memory i (source_of n k) (Stopped block word)
      → react k w ≡ record { seen = stop_seen date (source_of n k) block word; how = halted }
