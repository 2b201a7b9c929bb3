-- A whole program's run is its meaning.
use Rattle.std.proofs.Common.{◌≡◌, ℕ, List, [], map, Result, Ok, Err, sym, ap, ◌∙◌, ℤ}
use Rattle.sci_io.specs.declared.sink.Failed.{Failed}
use Rattle.sci_io.specs.Taken.{SinkState}
use Rattle.c_ast.specs.declared.Program.{Program}
use Rattle.c_ast.specs.declared.Stmt.{Stmt}
use Rattle.c_ast.specs.View.{declared_of, function_of, statements_of, whole_of}
use Rattle.c_run.specs.declared.machine.Flow.{Flow}
use Rattle.c_run.specs.declared.machine.Flow.TheVariants as flows
use Rattle.c_run.specs.declared.memory.Memory.{Memory}
use Rattle.c_run.specs.declared.machine.ColumnRest.{ColumnRest}
use Rattle.c_run.specs.declared.machine.Routine.{Routine}
use Rattle.c_run.specs.declared.machine.Limits.{Limits}
use Rattle.c_mean.specs.Meaning.{Slot, World, Ran, Numbered, run_block, around, calls_of, numbered, behind_functions, first_slot, meaning}
use Rattle.c_run.specs.Running.{RunsFrom, numbered_of, left_of, world, surroundings}
use Rattle.c_run.specs.Layout.{slots}
use Rattle.c_run.specs.Answering.{Answers, answer_of, end_of}

pub answers : {old new : SinkState} (n : ℕ) (r : Result Flow Failed) (w : World) (ran : Ran) → RunsFrom n old new r w ran → Answers old new (answer_of n r) ran
answers n (Ok flows.Going) w ran h = record { by = (h.by.0, sym (ap end_of h.by.1)) }
answers n (Ok (flows.Undefined k)) w ran h = record { by = (h.by.0, sym (ap end_of h.by.1)) }
answers n (Ok (flows.UndefinedInCall k)) w ran h = record { by = (h.by.0, sym (ap end_of h.by.1)) }
answers n (Ok flows.Over) w ran h = record { by = (h.by.0, sym (ap end_of h.by.1)) }
answers n (Ok flows.Halted) w ran h = record { by = (h.by.0, sym (ap end_of h.by.1)) }
answers n (Err e) w ran h = record { by = h.by }

pub run_is : (p : Program) (columns : List (List ℤ)) (u l : ℤ) (limits : Limits) (gs : List Routine) (n : ℕ) (list : List Stmt) (vs : Memory) (cs : List ColumnRest) → limits.until ≡ u → limits.limit ≡ l
    → map numbered_of gs ≡ numbered 1 (map function_of p.funcs.items) []
    → n ≡ behind_functions 1 (map function_of p.funcs.items) → list ≡ p.main.items → slots vs ≡ map first_slot (map declared_of p.decls.items) → map left_of cs ≡ columns
    → run_block (surroundings gs limits) n (statements_of list) (world vs cs) ≡ meaning (whole_of p) columns u l
unfolding meaning
run_is p columns u l limits gs n list vs cs until limit functions number body memory left =
    let known = numbered 1 (map function_of p.funcs.items) [] in
    let first = behind_functions 1 (map function_of p.funcs.items) in
    ap (λ (t : ℤ). run_block (around (calls_of (map numbered_of gs) t limits.limit) t limits.limit) n (statements_of list) (world vs cs)) until
    ∙ ap (λ (t : ℤ). run_block (around (calls_of (map numbered_of gs) u t) u t) n (statements_of list) (world vs cs)) limit
    ∙ ap (λ (q : List Numbered). run_block (around (calls_of q u l) u l) n (statements_of list) (world vs cs)) functions
    ∙ ap (λ (k : ℕ). run_block (around (calls_of known u l) u l) k (statements_of list) (world vs cs)) number
    ∙ ap (λ (m : List Stmt). run_block (around (calls_of known u l) u l) first (statements_of m) (world vs cs)) body
    ∙ ap (λ (m : List Slot). let w : World = record { slots = m; left = map left_of cs } in run_block (around (calls_of known u l) u l) first (statements_of p.main.items) w) memory
    ∙ ap (λ (m : List (List ℤ)). let w : World = record { slots = map first_slot (map declared_of p.decls.items); left = m } in run_block (around (calls_of known u l) u l) first (statements_of p.main.items) w) left
