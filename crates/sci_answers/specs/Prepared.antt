-- What a prepared command has: the answers that it may write, and what it needs for them.
use Rattle.std.specs.Prelude.{ℕ, ◌≡◌, List, length, true, ◌≤◌, ◌<◌, pos}
use Rattle.sci_net.specs.Sources.{sources_of}
use Rattle.sci_sched.specs.Plain.{rows_of}
use Rattle.sci_sched.specs.Text.{plan_text}
use Rattle.sci_print.specs.Map.{map_text}
use Rattle.sci_answers.specs.Report.{counts_line}
use Rattle.sci_answers.specs.declared.told.Told.{Told}
use Rattle.sci_answers.specs.declared.told.Told.TheVariants.{Check, Map, Schedule}
use Rattle.sci_answers.specs.declared.prepared.BulkCounts.{BulkCounts}
use Rattle.sci_answers.specs.Bulk.{bulk_line}
use Rattle.sci_base.specs.declared.limits.TheConstants.{TICKS, EVENTS}
use Rattle.sci_base.specs.Plain.{violation_of}
use Rattle.sci_base.specs.declared.observation.Obs.{Obs}
use Rattle.sci_net.specs.Net.{IsNet}
use Rattle.sci_reaction.specs.Memory.{AreColumns}
use Rattle.sci_run.specs.Run.{IsRest, IsRun}
use Rattle.sci_save.specs.Saved.{saved_of}
use Rattle.sci_save.specs.Text.{saved_text}
use Rattle.sci_save.specs.Valid.{IsShaped}
use Rattle.sci_save.specs.Resumed.{state_of}
use Rattle.sci_bank.specs.Bank.{Meaning}
use Rattle.sci_sim.specs.At.{IsAt, IsAtStart}
use Rattle.c_ast.specs.View.{whole_of}
use Rattle.c_ast.specs.Spelling.{spelling}
use Rattle.c_ast.specs.Bounds.{IsWhole}
use Rattle.c_mean.specs.Meaning.{meaning}
use Rattle.sci_answers.specs.Answer.{Answer, usage, prints, refused, read_fault, no_memory}
use Rattle.sci_answers.specs.RunC.{c_ran}
use Rattle.sci_answers.specs.Simulate.{IsTraceOf}
use Rattle.sci_answers.specs.Judge.{judged}
use Rattle.sci_answers.specs.Resume.{IsRestOf}
use Rattle.sci_answers.specs.Dump.{IsDumpAnswer}
use Rattle.sci_print.specs.Values.{values_text}
use Rattle.sci_run.specs.Laws.{AreLoopFree}
use Rattle.sci_vcd.specs.Writing.{Writing, IsOutset}
use Rattle.sci_answers.specs.Counts.{CountsRun}
use Rattle.sci_answers.specs.declared.prepared.Prepared.{Prepared}
use Rattle.sci_answers.specs.declared.prepared.ResumedRun.{ResumedRun}
use Rattle.sci_answers.specs.declared.prepared.Simulation.{Simulation}
use Rattle.sci_answers.specs.declared.prepared.Prepared.TheVariants.{Usage, Refused, ReadFault, Memory, Print, Report as Tell, Simulate, Judge, Save, Resume, Code, RunC, Bulk, Dump, DumpAt}

-- the text of what is told
abbrev pub told_text : Told → List ℕ
told_text (Check m) = counts_line (length m.net.specs) (length (sources_of m.net)) m.size.entries m.size.guards
told_text (Map net) = map_text net
told_text (Schedule c) = plan_text (sources_of c.net) (rows_of c.schedule)

-- a schedule has a row for each source
abbrev pub HasRows : Told → Type 0
HasRows (Check m) = Unit {0}
HasRows (Map net) = Unit {0}
HasRows (Schedule c) = length (rows_of c.schedule) ≡ length (sources_of c.net)

-- the line of what was counted
abbrev pub counted_line : BulkCounts → List ℕ
counted_line c = bulk_line c.blocks c.sources c.entries c.guards c.lines c.sum

-- what it writes
abbrev pub IsAnswerOf : Prepared → Answer → Type 0
IsAnswerOf Usage a = a ≡ usage
IsAnswerOf (Refused r) a = a ≡ refused (violation_of r)
IsAnswerOf ReadFault a = a ≡ read_fault
IsAnswerOf Memory a = a ≡ no_memory
IsAnswerOf (Print text) a = a ≡ prints text.now
IsAnswerOf (Tell t) a = a ≡ prints (told_text t)
IsAnswerOf (RunC program columns until limit) a = a ≡ c_ran (meaning (whole_of program) columns (pos until) (pos limit))
IsAnswerOf (Code program) a = a ≡ prints (spelling (whole_of program))
IsAnswerOf (Bulk counts) a = a ≡ prints (counted_line counts)
IsAnswerOf (Simulate s) a = IsTraceOf s.ready.fixed.net s.inputs s.until s.limit a
IsAnswerOf (Judge v) a = a ≡ judged v
IsAnswerOf (Save s) a = a ≡ prints (saved_text s.ready.fixed.net (saved_of s.image))
IsAnswerOf (Resume s) a = IsRestOf s.run.ready.fixed.net s.run.inputs s.run.until s.run.limit (saved_of s.image) a
IsAnswerOf (Dump s out) a = IsDumpAnswer s.ready.fixed.net s.inputs s.until s.limit a
IsAnswerOf (DumpAt dump tick) a = a ≡ prints (values_text dump tick)

-- a net and its banks stand before the run, on columns in range and within the bounds; and the run has a trace
pub record IsReadyToRun (banks : List Meaning) (s : Simulation) : Type 0 where
  pub start : IsAtStart s.ready.fixed.net s.ready banks
  pub net : IsNet s.ready.fixed.net
  pub columns : AreColumns s.ready.fixed.net s.inputs
  pub until : s.until ≤ TICKS
  pub limit : s.limit ≤ EVENTS
  pub trace : (os : List Obs) × IsRun s.ready.fixed.net s.inputs s.until s.limit os

-- so does a net of which no source has a loop, and nothing of its dump is written
pub record IsReadyToDump (banks : List Meaning) (s : Simulation) (out : Writing) : Type 0 where
  pub run : IsReadyToRun banks s
  pub free : AreLoopFree s.ready.fixed.net
  pub outset : IsOutset s.ready.fixed.net out

-- a net and its banks stand where a run was saved, on columns in range and within the bounds; and the rest of the run has a trace
pub record IsReadyToGoOn (banks : List Meaning) (s : ResumedRun) : Type 0 where
  pub at : IsAt s.run.ready banks (state_of (saved_of s.image))
  pub started : s.run.ready.started ≡ true
  pub columns : AreColumns s.run.ready.fixed.net s.run.inputs
  pub until : s.run.until ≤ TICKS
  pub limit : s.run.limit ≤ EVENTS
  pub rest : (os : List Obs) × IsRest s.run.ready.fixed.net s.run.inputs s.run.until s.run.limit (state_of (saved_of s.image)) os

-- what it needs is there: a text isn't empty, schedules have a row for each source, a simulation can run with these banks, a program has a text,
-- what is saved is as its net asks, bounds are kept
abbrev pub IsPrepared : List Meaning → Prepared → Type 0
IsPrepared banks Usage = Unit {0}
IsPrepared banks (Refused r) = Unit {0}
IsPrepared banks ReadFault = Unit {0}
IsPrepared banks Memory = Unit {0}
IsPrepared banks (Print text) = 0 < length text.now
IsPrepared banks (Tell t) = HasRows t
IsPrepared banks (RunC program columns until limit) = (until ≤ TICKS) × (limit ≤ EVENTS)
IsPrepared banks (Code program) = IsWhole (whole_of program)
IsPrepared banks (Bulk counts) = Unit {0}
IsPrepared banks (Simulate s) = IsReadyToRun banks s
IsPrepared banks (Judge v) = Unit {0}
IsPrepared banks (Save s) = IsShaped s.ready.fixed.net (saved_of s.image)
IsPrepared banks (Resume s) = IsReadyToGoOn banks s
IsPrepared banks (Dump s out) = IsReadyToDump banks s out
IsPrepared banks (DumpAt dump tick) = Unit {0}

-- Behind it, where it was done: a simulation has counted its run; of any other command no run is left to do, and the banks are as they were.
abbrev pub LeavesBanks : Prepared → (before after : List Meaning) → Type 0
LeavesBanks Usage before after = after ≡ before
LeavesBanks (Refused r) before after = after ≡ before
LeavesBanks ReadFault before after = after ≡ before
LeavesBanks Memory before after = after ≡ before
LeavesBanks (Print text) before after = after ≡ before
LeavesBanks (Tell t) before after = after ≡ before
LeavesBanks (RunC program columns until limit) before after = after ≡ before
LeavesBanks (Code program) before after = after ≡ before
LeavesBanks (Bulk counts) before after = after ≡ before
LeavesBanks (Simulate s) before after = CountsRun s.ready.fixed.net s.inputs s.until s.limit after
LeavesBanks (Judge v) before after = after ≡ before
LeavesBanks (Save s) before after = after ≡ before
LeavesBanks (Resume s) before after = Unit {0}
LeavesBanks (Dump s out) before after = CountsRun s.ready.fixed.net s.inputs s.until s.limit after
LeavesBanks (DumpAt dump tick) before after = after ≡ before

-- memory may lack when it begins, before it writes anything
abbrev pub MayLack : Prepared → Type 0
MayLack Usage = ⊥
MayLack (Refused r) = ⊥
MayLack ReadFault = ⊥
MayLack Memory = ⊥
MayLack (Print text) = ⊥
MayLack (Tell t) = ⊥
MayLack (Simulate s) = ⊥
MayLack (Judge v) = ⊥
MayLack (Save s) = ⊥
MayLack (Resume s) = ⊥
MayLack (Code program) = ⊥
MayLack (Bulk counts) = ⊥
MayLack (RunC program columns until limit) = Unit {0}
MayLack (Dump s out) = ⊥
MayLack (DumpAt dump tick) = ⊥
