-- What stays where variables that no text names are left out.
use Rattle.std.specs.Prelude.{◌≡◌, ℕ, ℤ, Bool, true, List, filter}
use Rattle.c_ast.specs.declared.Name.{Name}
use Rattle.c_ast.specs.Syntax.{Block, Whole}
use Rattle.c_ast.specs.Bounds.{IsWhole}
use Rattle.c_ast.specs.Rules.{KeepsRules}
use Rattle.c_mean.specs.Meaning.{Slot, World, behind_functions, first_world, How, going, undefined, over, halted, Ran, then_run, run_block, turns, calling, meaning}
use Rattle.c_mean.specs.Places.{get}
use Rattle.c_mean.specs.Texts.{joined}
use Rattle.c_mean.specs.Programs.{surroundings}
use Rattle.c_trim.specs.Trim.{is_kept, trimmed}

-- a world with the variables of these names alone
abbrev pub kept_world : (Name → Bool) → World → World
kept_world keep w = record { slots = filter (λ (s : Slot). keep s.name) w.slots; left = w.left }

abbrev pub kept_how : (Name → Bool) → How → How
kept_how keep (going w) = going (kept_world keep w)
kept_how keep (undefined n) = undefined n
kept_how keep over = over
kept_how keep halted = halted

abbrev pub kept_ran : (Name → Bool) → Ran → Ran
kept_ran keep r = record { seen = r.seen; how = kept_how keep r.how }

-- A variable that is kept reads as before.
abbrev pub ReadsStay : Type 0
ReadsStay = (keep : Name → Bool) (w : World) (x : Name) (i : ℕ) → keep x ≡ true → get (kept_world keep w) x i ≡ get w x i

-- The same is observed, and it ends in the same way.
abbrev pub MeaningStays : Type 0
MeaningStays =
    (p : Whole) (columns : List (List ℤ)) (last most : ℤ) → meaning (trimmed p) columns last most ≡ kept_ran (is_kept p) (meaning p columns last most)

-- So it is where a host calls a function again and again behind the first statements of main.
abbrev pub TurnsStay : Type 0
TurnsStay =
    (p : Whole) (begin rest : Block) (f : Name) (columns : List (List ℤ)) (last most : ℤ) (k : ℕ) → p.main ≡ joined begin rest
    → then_run (run_block (surroundings p.funcs last most) (behind_functions 1 p.funcs) begin (first_world (trimmed p) columns))
    (turns k (calling (surroundings p.funcs last most) (behind_functions 1 p.funcs) f))
    ≡ kept_ran (is_kept p) (then_run (run_block (surroundings p.funcs last most) (behind_functions 1 p.funcs) begin (first_world p columns))
    (turns k (calling (surroundings p.funcs last most) (behind_functions 1 p.funcs) f)))

abbrev pub WholeStays : Type 0
WholeStays = (p : Whole) → IsWhole p → IsWhole (trimmed p)

abbrev pub RulesStay : Type 0
RulesStay = (p : Whole) → KeepsRules p → KeepsRules (trimmed p)
