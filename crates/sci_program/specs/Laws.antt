-- What a generated program means, and how it is built.
use Rattle.std.specs.Prelude.{◌≡◌, ℕ, ◌+◌, ◌≤◌, ◌^◌, pos, false, nat_eq, List, [], ◌∷◌, length, Contains, if◌then◌else◌}
use Rattle.sci_base.specs.declared.limits.TheConstants.{TICKS}
use Rattle.sci_base.specs.declared.observation.Obs.{Obs}
use Rattle.sci_net.specs.Parts.{Parts, IsBlock}
use Rattle.sci_net.specs.Net.{IsNet}
use Rattle.sci_reaction.specs.Memory.{Columns, AreColumns}
use Rattle.sci_reaction.specs.Schedule.{Entry, IsSchedule, blocks_of}
use Rattle.sci_run.specs.Laws.{AreLoopFree}
use Rattle.sci_run.specs.Run.{State}
use Rattle.sci_run.specs.Finish.{Ending, ByEnd, ByStop, Finish}
use Rattle.c_ast.specs.declared.Name.{Name}
use Rattle.c_ast.specs.Syntax.{Statement, set, ask, choice, loop, call, tell, Block, done, next, Function, Whole}
use Rattle.c_ast.specs.Bounds.{IsWhole}
use Rattle.c_ast.specs.Rules.{KeepsRules}
use Rattle.c_mean.specs.Meaning.{same_name, How, over, halted, meaning}
use Rattle.sci_program.specs.Names.{block_name}
use Rattle.sci_program.specs.Program.{program, is_scheduled}

-- ---- what it means

-- the answer of a run that is over in this way
abbrev pub answer_by : Ending → How
answer_by (ByEnd word) = over
answer_by (ByStop block word) = halted

-- On every input file in range and within all bounds the program observes exactly the trace of the net, and it ends as the run does. So it is never undefined.
abbrev pub ProgramMeansRun : Type 0
ProgramMeansRun =
    (n : Parts) (rows : List (List Entry)) (i : Columns) (until limit : ℕ) (st : State) (how : Ending) (os : List Obs)
    → IsNet n → AreLoopFree n → IsSchedule n rows → AreColumns n i → until ≤ TICKS → limit ≤ 2 ^ 51 → Finish n i until limit st how os
    → meaning (program n rows) i (pos until) (pos limit) ≡ record { seen = os; how = answer_by how }

-- ---- how it is built

-- it is a program of the subset
abbrev pub ProgramIsWhole : Type 0
ProgramIsWhole =
    (n : Parts) (rows : List (List Entry)) → IsNet n → AreLoopFree n → IsSchedule n rows → IsWhole (program n rows) × KeepsRules (program n rows)

-- how often a text calls a function
abbrev mutual
  pub calls_in_statement : Name → Statement → ℕ
  calls_in_statement f (set p e) = 0
  calls_in_statement f (ask p a) = 0
  calls_in_statement f (choice e a b) = calls_in f a + calls_in f b
  calls_in_statement f (loop x b s) = calls_in f s
  calls_in_statement f (call g) = if same_name g f then 1 else 0
  calls_in_statement f (tell t) = 0

  pub calls_in : Name → Block → ℕ
  calls_in f done = 0
  calls_in f (next s b) = calls_in_statement f s + calls_in f b

abbrev pub calls_in_functions : Name → List Function → ℕ
calls_in_functions f [] = 0
calls_in_functions f (g ∷ gs) = calls_in f g.body + calls_in_functions f gs

-- the functions of this name
abbrev pub named_so : Name → List Function → List Function
named_so f [] = []
named_so f (g ∷ gs) = if same_name g.name f then g ∷ named_so f gs else named_so f gs

-- how many entries of the rows have the block
abbrev pub count_of : ℕ → List ℕ → ℕ
count_of b [] = 0
count_of b (c ∷ cs) = (if nat_eq b c then 1 else 0) + count_of b cs

abbrev pub entries_of : ℕ → List (List Entry) → ℕ
entries_of b [] = 0
entries_of b (row ∷ rows) = count_of b (blocks_of row) + entries_of b rows

-- Each block has exactly one function, of its own name; as many calls name it as the schedule has entries of the block; without an entry its body is empty.
pub record HasBlockFunctions (n : Parts) (rows : List (List Entry)) (p : Whole) : Type 0 where
  pub one : (b : ℕ) → IsBlock n b → length (named_so (block_name b) p.funcs) ≡ 1
  pub calls : (b : ℕ) → IsBlock n b → calls_in_functions (block_name b) p.funcs + calls_in (block_name b) p.main ≡ entries_of b rows
  pub empty : (b : ℕ) (f : Function) → IsBlock n b → is_scheduled rows b ≡ false → Contains (named_so (block_name b) p.funcs) f → f.body ≡ done

abbrev pub ProgramHasBlockFunctions : Type 0
ProgramHasBlockFunctions = (n : Parts) (rows : List (List Entry)) → IsNet n → IsSchedule n rows → HasBlockFunctions n rows (program n rows)
