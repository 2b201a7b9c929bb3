-- What is told of the dump of a run is what its outputs hold.
use Rattle.std.specs.Prelude.{ℕ, ℤ, ◌≡◌, ◌≤◌, ◌+◌, ◌-◌, length, List, [], ◌∷◌, ◌++◌}
use Rattle.sci_base.specs.declared.limits.TheConstants.{TICKS, EVENTS}
use Rattle.sci_base.specs.Lists.{at}
use Rattle.sci_io.specs.Files.{Files}
use Rattle.sci_forms.specs.declared.spec.Spec.{Spec}
use Rattle.sci_net.specs.Parts.{Parts}
use Rattle.sci_needs.specs.Needs.{needs_of}
use Rattle.sci_reaction.specs.Memory.{Memory, first_memory}
use Rattle.sci_run.specs.Run.{State}
use Rattle.sci_vcd.specs.declared.signal.Signal.{Signal}
use Rattle.sci_vcd.specs.Signals.{output_signals}
use Rattle.sci_wave.specs.History.{IsWholeHistory, memory_at}
use Rattle.sci_verdict.specs.Verdict.{Plan, Accepts}
use Rattle.sci_answers.specs.Answer.{Answer, IsDone, prints}
use Rattle.sci_answers.specs.Course.{Holds, dump_slot}
use Rattle.sci_answers.specs.Due.{Due}
use Rattle.sci_print.specs.Values.{signal_text}
use Rattle.sci_answers.specs.Inputs.{AcceptsColumns}
use Rattle.sci_words.specs.Words.{dump, dump_at, spelled}

-- ---- what outputs hold

-- the lines of signals of a block, of which the first is element e of its outputs, which hold these values
abbrev pub element_texts : List ℤ → (e : ℕ) → List Signal → List ℕ
element_texts vs e [] = []
element_texts vs e (g ∷ gs) = signal_text g (at vs (e - 1)) ++ element_texts vs (e + 1) gs

-- and of blocks, of which the first is block b
abbrev pub block_texts : (ℕ → List ℤ) → (b : ℕ) → List Spec → List ℕ
block_texts held b [] = []
block_texts held b (s ∷ ss) = element_texts (held b) 1 (output_signals b 1 s.outs) ++ block_texts held (b + 1) ss

-- of each element of a net's regular outputs its name and the value that is held, in a line
abbrev pub held_text : Parts → Memory → List ℕ
held_text n m = block_texts m.held 1 n.specs

-- ---- the dump of a run

-- Of a diagram's and an input file's bytes this answer is due of vcd, which is no refusal, and whose bytes are no more than a dump's file may have.
pub record IsDumped (d i : List ℕ) (until limit : ℕ) (diagram inputs : List ℕ) (dumped : Answer) : Type 0 where
  pub until_within : until ≤ TICKS
  pub limit_within : limit ≤ EVENTS
  pub files : Files
  pub names : List (List ℕ)
  pub due : Due files (spelled (dump d i until limit)) (diagram ∷ inputs ∷ []) names dumped
  pub done : IsDone dumped.status
  pub short : length dumped.out ≤ dump_slot.longest

-- The diagram's bytes are accepted, and the input file's; and these are the states of the run, one behind each reaction that has values.
pub record RunsThrough (until limit : ℕ) (diagram inputs : List ℕ) : Type 0 where
  pub plan : Plan
  pub accepted : Accepts diagram plan
  pub columns : List (List ℤ)
  pub read : AcceptsColumns (needs_of plan.net) inputs columns
  pub states : List State
  pub history : IsWholeHistory plan.net columns until limit states

-- the answer that tells what the outputs hold at a tick: behind the last reaction up to it, or before the run
abbrev pub held_at : {until limit : ℕ} {diagram inputs : List ℕ} → RunsThrough until limit diagram inputs → ℕ → Answer
held_at r tick = prints (held_text r.plan.net (memory_at (first_memory r.plan.net) r.states tick))

-- There is such a run; and of any, this is due of vcdat on the bytes that vcd writes, at each tick, and nothing else is.
pub record TellsRun (until limit : ℕ) (diagram inputs : List ℕ) (dumped : Answer) : Type 0 where
  pub some : RunsThrough until limit diagram inputs
  pub told : (run : RunsThrough until limit diagram inputs) (files : Files) (v : List ℕ) (tick : ℕ) → tick ≤ TICKS → Holds files v dumped.out
      → Due files (spelled (dump_at v tick)) (dumped.out ∷ []) (v ∷ []) (held_at run tick)
  pub only : (run : RunsThrough until limit diagram inputs) (files : Files) (v : List ℕ) (tick : ℕ) (names : List (List ℕ)) (a : Answer) → tick ≤ TICKS
      → Due files (spelled (dump_at v tick)) (dumped.out ∷ []) names a → a ≡ held_at run tick

abbrev pub DumpTellsRun : Type 0
DumpTellsRun =
    (d i : List ℕ) (until limit : ℕ) (diagram inputs : List ℕ) (dumped : Answer) → IsDumped d i until limit diagram inputs dumped → TellsRun until limit diagram inputs dumped
