-- The steps of the loops over statements and turns, and the choice of an If.
use Rattle.std.proofs.Common.{◌≡◌, ℕ, ◌+◌, ◌-◌, ◌<◌, ◌≤◌, List, ◌∷◌, length, get_or, drop, Bool, true, false, Option, Some, None, Result, Ok, refl, sym, ap, ◌∙◌, subst, ℤ, pos}
use Rattle.std.specs.declared.vec.Vec.{Vec}
use Rattle.std.specs.declared.alloc.Global.{Global}
use Rattle.std.proofs.lemmas.List.{drop_more, drop_all}
use Rattle.sci_io.specs.Taken.{SinkState}
use Rattle.c_ast.specs.declared.Expr.{Expr}
use Rattle.c_ast.specs.declared.Stmt.{Stmt, If, For}
use Rattle.c_ast.specs.declared.Stmt.TheVariants as stmts
use Rattle.c_ast.specs.declared.Stmt.TheVariants.{Set}
use Rattle.c_ast.specs.declared.Target.{Target}
use Rattle.c_ast.specs.declared.Ask.{Ask}
use Rattle.c_ast.specs.declared.Tell.{Tell}
use Rattle.c_ast.specs.declared.Name.{Name}
use Rattle.c_ast.specs.declared.Bound.{Bound}
use Rattle.c_ast.specs.Syntax.{Statement}
use Rattle.std.specs.Prelude.{if◌then◌else◌, option_map}
use Rattle.c_ast.specs.View.{exp_of, place_of, asked_of, told_of, statement_of, statements_of}
use Rattle.c_ast.proofs.Views.{choice_is, loop_is}
use Rattle.c_run.specs.declared.machine.Flow.{Flow}
use Rattle.c_run.specs.declared.machine.Flow.TheVariants as flows
use Rattle.c_mean.specs.Meaning.{World, Slot, Ran, Around, quietly, undefined, stored, set_to, asked, calling, telling, going, with_slots, run_statement, run_block, one_turn, then_run, turns, later, statement_count, needs, store, bound_value, turn_count, ◌>>=◌}
use Rattle.c_run.specs.Running.{RunsFrom, Runs, choosing, begun}
use Rattle.c_run.proofs.Progress.{Progress, progress_on, progress_runs, turns_more, quiet_runs, undefined_runs}

-- what is left at i: a statement, and what is left after it
block_rest : (calls : Around) (n : ℕ) (list : List Stmt) (i : ℕ) (s : Stmt) (m : World) → i < length list → s ≡ get_or list i s → run_block calls n (statements_of (drop i list)) m ≡ then_run (run_statement calls n (statement_of s) m) (run_block calls (later n (statement_count (statement_of s))) (statements_of (drop (i + 1) list)))
unfolding run_block
block_rest calls n list i s m h e = ap (λ (l : List Stmt). run_block calls n (statements_of l) m) (drop_more list i s h ∙ ap (λ (w : Stmt). w ∷ drop (i + 1) list) (sym e))

module _ (calls : Around) (here : ℕ) (list : List Stmt) (i : ℕ) (s : Stmt) (m m' : World) (p q w : SinkState) (whole : Ran) (within : i < length list) (is : s ≡ get_or list i s) (g : Progress p q whole (run_block calls here (statements_of (drop i list)) m)) where
  pub block_on : {E : Type 0} (here' : ℕ) → here' ≡ later here (statement_count (statement_of s)) → RunsFrom {E = E} here q w (Ok flows.Going) m' (run_statement calls here (statement_of s) m) → Progress p w whole (run_block calls here' (statements_of (drop (i + 1) list)) m')
  block_on {E} here' next r =
      let go = run_block calls (later here (statement_count (statement_of s))) (statements_of (drop (i + 1) list)) in
      subst (λ (n : ℕ). Progress p w whole (run_block calls n (statements_of (drop (i + 1) list)) m')) (sym next)
      (progress_on w (run_statement calls here (statement_of s) m) go m' (subst (Progress p q whole) (block_rest calls here list i s m within is) g) r.by.0 r.by.1)

  pub block_over : {E : Type 0} (result : Result Flow E) → (result ≡ Ok flows.Going → ⊥) → RunsFrom here q w result m' (run_statement calls here (statement_of s) m) → RunsFrom here p w result m' whole
  block_over result n r =
      progress_runs here w (run_statement calls here (statement_of s) m) (run_block calls (later here (statement_count (statement_of s))) (statements_of (drop (i + 1) list))) result m' n (subst (Progress p q whole) (block_rest calls here list i s m within is) g) r

module _ (turn : World → Ran) (k n i : ℕ) (m m' : World) (p q w : SinkState) (whole : Ran) (within : i < n) (g : Progress p q whole (turns (n - i) turn m)) where
  pub turn_on : {E : Type 0} → RunsFrom {E = E} k q w (Ok flows.Going) m' (turn m) → Progress p w whole (turns (n - (i + 1)) turn m')
  turn_on {E} r = progress_on w (turn m) (turns (n - (i + 1)) turn) m' (subst (Progress p q whole) (turns_more n i turn m within) g) r.by.0 r.by.1

  pub turn_over : {E : Type 0} (result : Result Flow E) → (result ≡ Ok flows.Going → ⊥) → RunsFrom k q w result m' (turn m) → RunsFrom k p w result m' whole
  turn_over result o r = progress_runs k w (turn m) (turns (n - (i + 1)) turn) result m' o (subst (Progress p q whole) (turns_more n i turn m within) g) r

-- What an If does, by its lists in memory.
pub choice_runs : (env : Around) (n : ℕ) (s : Stmt) (e : Expr) (a b : Vec Stmt Global) (w : World) → s ≡ If e a b → run_statement env n (statement_of s) w ≡ choosing env (exp_of e) (statements_of a.items) (statements_of b.items) w n
unfolding run_block
choice_runs env n s e a b w is =
    ap (λ (t : Stmt). run_statement env n (statement_of t) w) is
    ∙ ap (λ (t : Statement). run_statement env n t w) (choice_is e a b)

-- What a For does, by what it begins with.
by_begun : (n : ℕ) (x : Name) (b : Bound) (w : World) (go : ℕ → World → Ran) → needs n (bound_value b w.slots) (λ v. needs n (store w.slots x 0 (pos 0)) (λ m. go (turn_count v) (with_slots w m))) ≡ needs n (begun x b w.slots) (λ c. go c.1 (with_slots w c.0))
by_begun n x b w go = by_bound (bound_value b w.slots) (store w.slots x 0 (pos 0))
  where
    by_bound : (o : Option ℤ) (m : Option (List Slot)) → needs n o (λ v. needs n m (λ m. go (turn_count v) (with_slots w m))) ≡ needs n (o >>= λ v. m >>= λ zeroed. let c : List Slot × ℕ = (zeroed, turn_count v) in Some c) (λ c. go c.1 (with_slots w c.0))
    by_bound None m = refl
    by_bound (Some v) None = refl
    by_bound (Some v) (Some m) = refl

loop_runs : (env : Around) (n : ℕ) (s : Stmt) (x : Name) (b : Bound) (a : Vec Stmt Global) (w : World) → s ≡ For x b a → run_statement env n (statement_of s) w ≡ needs n (begun x b w.slots) (λ c. turns c.1 (one_turn env n x (statements_of a.items)) (with_slots w c.0))
unfolding run_block
loop_runs env n s x b a w is =
    ap (λ (t : Stmt). run_statement env n (statement_of t) w) is
    ∙ ap (λ (t : Statement). run_statement env n t w) (loop_is x b a)
    ∙ by_begun n x b w (λ k. turns k (one_turn env n x (statements_of a.items)))

module _ (env : Around) (n : ℕ) (s : Stmt) (x : Name) (b : Bound) (a : Vec Stmt Global) (w : World) (m : List Slot) (o : Option ℕ) (is : s ≡ For x b a) (begins : option_map (λ k. (m, k)) o ≡ begun x b w.slots) where
  pub loop_turns : run_statement env n (statement_of s) w ≡ needs n o (λ k. turns k (one_turn env n x (statements_of a.items)) (with_slots w m))
  loop_turns =
      loop_runs env n s x b a w is
      ∙ ap (λ (o : Option (List Slot × ℕ)). needs n o (λ c. turns c.1 (one_turn env n x (statements_of a.items)) (with_slots w c.0))) (sym begins)
      ∙ mapped o
    where
      mapped : (o : Option ℕ) → needs {A = List Slot × ℕ} n (option_map (λ k. (m, k)) o) (λ c. turns c.1 (one_turn env n x (statements_of a.items)) (with_slots w c.0)) ≡ needs n o (λ k. turns k (one_turn env n x (statements_of a.items)) (with_slots w m))
      mapped None = refl
      mapped (Some k) = refl

-- The other statements.
pub set_runs : (env : Around) (n : ℕ) (s : Stmt) (t : Target) (e : Expr) (w : World) → s ≡ Set t e → run_statement env n (statement_of s) w ≡ stored n w (set_to (place_of t) (exp_of e) w.slots)
unfolding run_block
set_runs env n s t e w is = ap (λ (t : Stmt). run_statement env n (statement_of t) w) is

pub ask_runs : (env : Around) (n : ℕ) (s : Stmt) (t : Target) (a : Ask) (w : World) → s ≡ stmts.Ask t a → run_statement env n (statement_of s) w ≡ asked env.until env.limit n (place_of t) (asked_of a) w
unfolding run_block
ask_runs env n s t a w is = ap (λ (t : Stmt). run_statement env n (statement_of t) w) is

pub call_runs : (env : Around) (n : ℕ) (s : Stmt) (f : Name) (w : World) → s ≡ stmts.Call f → run_statement env n (statement_of s) w ≡ calling env n f w
unfolding run_block
call_runs env n s f w is = ap (λ (t : Stmt). run_statement env n (statement_of t) w) is

pub tell_runs : (env : Around) (n : ℕ) (s : Stmt) (t : Tell) (w : World) → s ≡ stmts.Tell t → run_statement env n (statement_of s) w ≡ telling n (told_of t) w
unfolding run_block
tell_runs env n s t w is = ap (λ (t : Stmt). run_statement env n (statement_of t) w) is

-- nothing is left of a list
pub none_left : (env : Around) (n : ℕ) (list : List Stmt) (i : ℕ) (w : World) → length list ≤ i → run_block env n (statements_of (drop i list)) w ≡ quietly (going w)
unfolding run_block
none_left env n list i w h = ap (λ (l : List Stmt). run_block env n (statements_of l) w) (drop_all i list h)

-- what an assignment leaves
pub stored_is : (n : ℕ) (w : World) (o : Option (List Slot)) (b : Bool) (m : List Slot) → (if b then Some m else None) ≡ o → stored n w o ≡ quietly (if b then going (with_slots w m) else undefined n)
stored_is n w o true m is = ap (stored n w) (sym is)
stored_is n w o false m is = ap (stored n w) (sym is)

-- a statement without observations that is defined or not
pub quiet_defined : {E : Type 0} (p : SinkState) (w : World) (r : ℕ → Ran) (b : Bool) (f : Flow) → ((n : ℕ) → r n ≡ quietly (if b then going w else undefined n)) → (b ≡ true → f ≡ flows.Going) → (b ≡ false → f ≡ flows.Undefined 0) → Runs {E = E} p p (Ok f) w r
quiet_defined {E} p w r true f is good bad = subst (λ (f : Flow). Runs {E = E} p p (Ok f) w r) (sym (good refl)) (record { from = λ n small. quiet_runs n p flows.Going w (r n) (is n) })
quiet_defined {E} p w r false f is good bad = subst (λ (f : Flow). Runs {E = E} p p (Ok f) w r) (sym (bad refl)) (undefined_runs p w r is)
