-- What a run in memory stands for.
use Rattle.std.specs.Prelude.{◌≡◌, ℕ, ◌<◌, ◌^◌, ℤ, pos, List, map, drop, Option, Some, Result, Ok, Err, if◌then◌else◌}
use Rattle.sci_io.specs.Taken.{SinkState, Writes}
use Rattle.sci_trace.specs.Lines.{text}
use Rattle.c_ast.specs.View.{statements_of}
use Rattle.c_run.specs.declared.functions.Functions.{Functions}
use Rattle.c_run.specs.declared.memory.Memory.{Memory}
use Rattle.c_run.specs.declared.machine.ColumnRest.{ColumnRest}
use Rattle.c_run.specs.declared.machine.Routine.{Routine}
use Rattle.c_run.specs.declared.machine.Limits.{Limits}
use Rattle.c_run.specs.declared.machine.Flow.{Flow}
use Rattle.c_run.specs.declared.machine.Flow.TheVariants as flows
use Rattle.c_run.specs.Layout.{slots}
use Rattle.c_ast.specs.declared.Name.{Name}
use Rattle.c_ast.specs.declared.Bound.{Bound}
use Rattle.c_ast.specs.Syntax.{Exp, Block}
use Rattle.c_mean.specs.Meaning.{Slot, World, How, going, undefined, over, halted, Ran, Numbered, Around, around, calls_of, later, needs, evaluate, is_zero, run_block, block_count, bound_value, store, turn_count, ◌>>=◌}

abbrev pub left_of : ColumnRest → List ℤ
left_of c = c.left.now

abbrev pub world : Memory → List ColumnRest → World
world m cs = record { slots = slots m; left = map left_of cs }

abbrev pub numbered_of : Routine → Numbered
numbered_of g = record { name = g.name; first = g.first; body = statements_of g.body.now }

-- the functions from this place on
abbrev pub earlier : Functions → ℕ → List Routine
earlier functions n = drop n functions.routines.items

-- the latest comes first
abbrev pub surroundings : List Routine → Limits → Around
surroundings gs limits = around (calls_of (map numbered_of gs) limits.until limits.limit) limits.until limits.limit

-- How statements ended that were left so, where the first of them has number n.
abbrev pub how_of : ℕ → Flow → World → How
how_of n flows.Going w = going w
how_of n (flows.Undefined k) w = undefined (later n k)
how_of n (flows.UndefinedInCall m) w = undefined m
how_of n flows.Over w = over
how_of n flows.Halted w = halted

-- How statements were left whose part that stands so many behind the first was left so.
abbrev pub moved : {E : Type 0} → ℕ → Result Flow E → Result Flow E
moved n (Ok (flows.Undefined k)) = Ok (flows.Undefined (later n k))
moved n left = left

-- How a call was left whose function was left so, and whose function's first statement has number n.
abbrev pub called : {E : Type 0} → ℕ → Result Flow E → Result Flow E
called n (Ok (flows.Undefined k)) = Ok (flows.UndefinedInCall (later n k))
called n left = left

-- The text of what was observed was written; where the sink failed, a front of it.
abbrev pub RunsBy : {E : Type 0} → ℕ → SinkState → SinkState → Result Flow E → World → Ran → Type 0
RunsBy n old new (Ok flow) w ran = Writes {T = Unit {0}} {E = Unit {0}} old new (text ran.seen) (Ok tt) × (ran.how ≡ how_of n flow w)
RunsBy n old new (Err e) w ran = Writes {T = Unit {0}} {E = Unit {0}} old new (text ran.seen) (Err tt)

-- A run of statements the first of which has number n.
pub record RunsFrom {E : Type 0} (n : ℕ) (old new : SinkState) (result : Result Flow E) (w : World) (ran : Ran) : Type 0 where
  pub by : RunsBy n old new result w ran

-- The same run is due whichever number the first of the statements has, up to the last that is counted.
pub record Runs {E : Type 0} (old new : SinkState) (result : Result Flow E) (w : World) (ran : ℕ → Ran) : Type 0 where
  pub from : (n : ℕ) → n < 2 ^ 64 → RunsFrom n old new result w (ran n)

-- What an If does whose first statement has number n.
abbrev pub choosing : Around → Exp → Block → Block → World → ℕ → Ran
choosing env e a b w n = needs n (evaluate e w.slots) (λ v. if is_zero v then run_block env (later (later n 1) (block_count a)) b w else run_block env (later n 1) a w)

-- What a For begins with: the variables, the counter at 0, and how many turns follow.
abbrev pub begun : Name → Bound → List Slot → Option (List Slot × ℕ)
begun x b m = bound_value b m >>= λ v. store m x 0 (pos 0) >>= λ zeroed. Some (zeroed, turn_count v)
