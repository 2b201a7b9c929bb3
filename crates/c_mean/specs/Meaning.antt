-- What a program means: what is observed when it runs on input columns, and how the run ends.
-- It goes by statement and expression over the variables and what is left of each column, and says nothing of blocks or events.
-- In a program that keeps the static rules neither a loop's counter nor its bound is assigned within, so its turns are counted once.
use Rattle.std.specs.Prelude.{ℕ, zero, suc, ◌+◌, ◌-◌, ◌^◌, min, ℤ, pos, negsuc, ◌+ℤ◌, ◌-ℤ◌, ◌*ℤ◌, neg_ℤ, List, [], ◌∷◌, ◌++◌, Option, Some, None, Bool, true, false, ◌&&◌, nat_eq, nat_lt, slice_get, slice_set, length, if◌then◌else◌, int_le, int_lt}
use Rattle.std.specs.Prelude.{int_div, int_rem, map, replicate, unwrap_or}
use Rattle.sci_base.specs.declared.observation.Obs.{Obs}
use Rattle.sci_base.specs.declared.observation.Obs.TheVariants.{Start, Event, Val, End, Stop}
use Rattle.sci_base.specs.declared.observation.EndWord.{EndWord}
use Rattle.sci_base.specs.declared.observation.EndWord.TheVariants as ends
use Rattle.sci_base.specs.declared.observation.StopWord.{StopWord}
use Rattle.sci_base.specs.declared.observation.StopWord.TheVariants as stops
use Rattle.c_ast.specs.declared.Name.{Name}
use Rattle.c_ast.specs.declared.Op.{Op}
use Rattle.c_ast.specs.declared.Op.TheVariants.{Add, Sub, Mul, Div, Rem, Lt, Le, Gt, Ge, Eq, Ne, And, Or}
use Rattle.c_ast.specs.declared.Bound.{Bound}
use Rattle.c_ast.specs.declared.Bound.TheVariants as bounds
use Rattle.c_ast.specs.Syntax.{Exp, num, var, element, neg, not, bin, Place, scalar, cell, Asked, more, input, until, limit, Told, start, event, value, finish, stop, Statement, set, ask, choice, loop, call, tell, Block, done, next, Declared, Function, Whole}

infixl 10 ◌>>=◌
abbrev pub ◌>>=◌ : {A B : Type 0} → Option A → (A → Option B) → Option B
(Some x) >>= f = f x
None >>= f = None

-- a declared name with its elements; a scalar has one
pub record Slot : Type 0 where
  pub name : Name
  pub cells : List ℤ

abbrev pub same_name : Name → Name → Bool
same_name x y = nat_eq x.letter y.letter && nat_eq x.number y.number

abbrev pub lookup : List Slot → Name → ℕ → Option ℤ
lookup [] x i = None
lookup (s ∷ ss) x i = if same_name s.name x then slice_get s.cells i else lookup ss x i

abbrev pub store : List Slot → Name → ℕ → ℤ → Option (List Slot)
store [] x i v = None
store (s ∷ ss) x i v = if same_name s.name x
    then (if nat_lt i (length s.cells) then Some (record { name = s.name; cells = slice_set s.cells i v } ∷ ss) else None)
    else (store ss x i v >>= λ rest. Some (s ∷ rest))

-- in the range of int64_t
abbrev pub in_word : ℤ → Option ℤ
in_word (pos n) = if nat_lt n (2 ^ 63) then Some (pos n) else None
in_word (negsuc n) = if nat_lt n (2 ^ 63) then Some (negsuc n) else None

abbrev pub is_zero : ℤ → Bool
is_zero (pos n) = nat_eq n 0
is_zero (negsuc n) = false

abbrev pub truth : Bool → ℤ
truth b = if b then pos 1 else pos 0

abbrev pub index : ℤ → Option ℕ
index (pos n) = Some n
index (negsuc n) = None

-- both sides are looked at
abbrev pub strict : Op → ℤ → ℤ → Option ℤ
strict Add a b = in_word (a +ℤ b)
strict Sub a b = in_word (a -ℤ b)
strict Mul a b = in_word (a *ℤ b)
strict Div a b = if is_zero b then None else in_word (int_div a b)
strict Rem a b = if is_zero b then None else (in_word (int_div a b) >>= λ q. Some (int_rem a b))
strict Lt a b = Some (truth (int_lt a b))
strict Le a b = Some (truth (int_le a b))
strict Gt a b = Some (truth (int_lt b a))
strict Ge a b = Some (truth (int_le b a))
strict Eq a b = Some (truth (int_le a b && int_le b a))
strict Ne a b = Some (truth (if int_le a b && int_le b a then false else true))
strict And a b = Some (truth (if is_zero a then false else (if is_zero b then false else true)))
strict Or a b = Some (truth (if is_zero a then (if is_zero b then false else true) else true))

-- the right side is looked at where the left doesn't decide
abbrev pub operate : Op → Option ℤ → Option ℤ → Option ℤ
operate And a b = a >>= λ x. if is_zero x then Some (pos 0) else (b >>= λ y. strict And x y)
operate Or a b = a >>= λ x. if is_zero x then (b >>= λ y. strict Or x y) else Some (pos 1)
operate op a b = a >>= λ x. b >>= λ y. strict op x y

-- the value, or none where it is undefined
abbrev pub evaluate : Exp → List Slot → Option ℤ
evaluate (num z) m = Some z
evaluate (var x) m = lookup m x 0
evaluate (element x e) m = evaluate e m >>= λ v. index v >>= λ i. lookup m x i
evaluate (neg e) m = evaluate e m >>= λ v. in_word (neg_ℤ v)
evaluate (not e) m = evaluate e m >>= λ v. Some (truth (is_zero v))
evaluate (bin op a b) m = operate op (evaluate a m) (evaluate b m)

abbrev pub assign : Place → ℤ → List Slot → Option (List Slot)
assign (scalar x) v m = store m x 0 v
assign (cell x e) v m = evaluate e m >>= λ z. index z >>= λ i. store m x i v

-- the variables after the expression's value is assigned
abbrev pub set_to : Place → Exp → List Slot → Option (List Slot)
set_to p e m = evaluate e m >>= λ v. assign p v m

-- the variables after one more is added to the counter
abbrev pub counted : Name → List Slot → Option (List Slot)
counted x m = lookup m x 0 >>= λ v. in_word (v +ℤ pos 1) >>= λ u. store m x 0 u

-- the variables, and what is left of each input column
pub record World : Type 0 where
  pub slots : List Slot
  pub left : List (List ℤ)

abbrev pub with_slots : World → List Slot → World
with_slots w m = record { slots = m; left = w.left }

-- columns are counted from 1
abbrev pub column_place : ℤ → Option ℕ
column_place (pos (suc i)) = Some i
column_place _ = None

-- what is left of column k
abbrev pub column : List (List ℤ) → ℤ → Option (List ℤ)
column left k = column_place k >>= slice_get left

abbrev pub has_left : Option (List ℤ) → Bool
has_left (Some (v ∷ vs)) = true
has_left _ = false

abbrev pub take_left : Option (List ℤ) → Option (ℤ × List ℤ)
take_left (Some (v ∷ vs)) = Some (v, vs)
take_left _ = None

-- the word of an end's number
abbrev pub end_word : ℤ → Option EndWord
end_word (pos zero) = Some ends.Halt
end_word (pos (suc zero)) = Some ends.Events
end_word (pos (suc (suc zero))) = Some ends.Empty
end_word (pos (suc (suc (suc zero)))) = Some ends.Until
end_word z = None

-- the word of a stop's number
abbrev pub stop_word : ℤ → Option StopWord
stop_word (pos zero) = Some stops.Overflow
stop_word (pos (suc zero)) = Some stops.Zero
stop_word (pos (suc (suc zero))) = Some stops.Input
stop_word (pos (suc (suc (suc zero)))) = Some stops.Conflict
stop_word z = None

-- what is observed, where all its numbers are defined
abbrev pub told : Told → List Slot → Option Obs
told start m = Some Start
told (event a b c) m = evaluate a m >>= λ x. evaluate b m >>= λ y. evaluate c m >>= λ z. Some (Event x y z)
told (value a b c d) m = evaluate a m >>= λ x. evaluate b m >>= λ y. evaluate c m >>= λ z. evaluate d m >>= λ v. Some (Val x y z v)
told (finish a) m = evaluate a m >>= end_word >>= λ x. Some (End x)
told (stop a b c) m = evaluate a m >>= stop_word >>= λ x. evaluate b m >>= λ y. evaluate c m >>= λ z. Some (Stop x y z)

pub data How : Type 0 where
  going : World → How
  undefined : ℕ → How
  over : How
  halted : How

-- an end and a stop end the run
abbrev pub how_after : Obs → World → How
how_after Start w = going w
how_after (Event a b c) w = going w
how_after (Val a b c d) w = going w
how_after (End x) w = over
how_after (Stop x b c) w = halted

-- what was observed, and how it went
pub record Ran : Type 0 where
  pub seen : List Obs
  pub how : How

abbrev pub quietly : How → Ran
quietly h = record { seen = []; how = h }

abbrev pub seeing : Obs → How → Ran
seeing o h = record { seen = o ∷ []; how = h }

abbrev pub behind : List Obs → Ran → Ran
behind seen r = record { seen = seen ++ r.seen; how = r.how }

-- goes on where a run goes on
abbrev pub on_how : List Obs → How → (World → Ran) → Ran
on_how seen (going w) go = behind seen (go w)
on_how seen (undefined n) go = record { seen = seen; how = undefined n }
on_how seen over go = record { seen = seen; how = over }
on_how seen halted go = record { seen = seen; how = halted }

abbrev pub then_run : Ran → (World → Ran) → Ran
then_run r go = on_how r.seen r.how go

-- a value that statement n needs
abbrev pub needs : {A : Type 0} → ℕ → Option A → (A → Ran) → Ran
needs n None go = quietly (undefined n)
needs n (Some x) go = go x

-- the variables after statement n, where it is defined
abbrev pub stored : ℕ → World → Option (List Slot) → Ran
stored n w o = needs n o (λ m. quietly (going (with_slots w m)))

-- a count that stands still at its end
abbrev pub later : ℕ → ℕ → ℕ
later n k = min (n + k) (2 ^ 64 - 1)

-- how many statements, through all lists
abbrev mutual
  pub statement_count : Statement → ℕ
  statement_count (set p e) = 1
  statement_count (ask p a) = 1
  statement_count (choice e a b) = later (later 1 (block_count a)) (block_count b)
  statement_count (loop x b s) = later 1 (block_count s)
  statement_count (call f) = 1
  statement_count (tell t) = 1

  pub block_count : Block → ℕ
  block_count done = 0
  block_count (next s b) = later (statement_count s) (block_count b)

-- what a call of each function does, and the bounds of the run
pub record Around : Type 0 where
  pub calls : Name → Option (World → Ran)
  pub until : ℤ
  pub limit : ℤ

-- the variables after it is assigned whether a column has a value left
abbrev pub told_more : Place → Exp → World → Option (List Slot)
told_more p e w = evaluate e w.slots >>= λ k. assign p (truth (has_left (column w.left k))) w.slots

-- the next value of a column, and the world behind it
abbrev pub received : Place → Exp → World → Option World
received p e w = evaluate e w.slots >>= column_place >>= λ i. take_left (slice_get w.left i) >>= λ c. assign p c.0 w.slots >>= λ m.
    Some (record { slots = m; left = slice_set w.left i c.1 })

abbrev pub asked : ℤ → ℤ → ℕ → Place → Asked → World → Ran
asked last most n p (more e) w = stored n w (told_more p e w)
asked last most n p (input e) w = needs n (received p e w) (λ w. quietly (going w))
asked last most n p until w = stored n w (assign p last w.slots)
asked last most n p limit w = stored n w (assign p most w.slots)

abbrev pub bound_value : Bound → List Slot → Option ℤ
bound_value (bounds.Num z) m = Some z
bound_value (bounds.Var x) m = lookup m x 0

abbrev pub turn_count : ℤ → ℕ
turn_count (pos n) = n
turn_count (negsuc n) = 0

-- the counter's next value
abbrev pub count_up : ℕ → Name → World → Ran
count_up n x w = stored n w (counted x w.slots)

-- so many turns
abbrev pub turns : ℕ → (World → Ran) → World → Ran
turns zero turn w = quietly (going w)
turns (suc k) turn w = then_run (turn w) (turns k turn)

-- an observation in statement n
abbrev pub telling : ℕ → Told → World → Ran
telling n t w = needs n (told t w.slots) (λ o. seeing o (how_after o w))

-- a call in statement n
abbrev pub calling : Around → ℕ → Name → World → Ran
calling env n f w = needs n (env.calls f) (λ run. run w)

unfoldable mutual
  pub run_statement : Around → ℕ → Statement → World → Ran
  run_statement env n (set p e) w = stored n w (set_to p e w.slots)
  run_statement env n (ask p a) w = asked env.until env.limit n p a w
  run_statement env n (choice e a b) w = needs n (evaluate e w.slots) (λ v. if is_zero v then run_block env (later (later n 1) (block_count a)) b w else run_block env (later n 1) a w)
  run_statement env n (loop x b s) w = needs n (bound_value b w.slots) (λ v. needs n (store w.slots x 0 (pos 0)) (λ m. turns (turn_count v) (λ w. then_run (run_block env (later n 1) s w) (count_up n x)) (with_slots w m)))
  run_statement env n (call f) w = calling env n f w
  run_statement env n (tell t) w = telling n t w

  pub run_block : Around → ℕ → Block → World → Ran
  run_block env n done w = quietly (going w)
  run_block env n (next s b) w = then_run (run_statement env n s w) (run_block env (later n (statement_count s)) b)

-- the body of loop n once, and the counter's next value
abbrev pub one_turn : Around → ℕ → Name → Block → World → Ran
one_turn env n x b w = then_run (run_block env (later n 1) b w) (count_up n x)

-- a function, with the number of its first statement
pub record Numbered : Type 0 where
  pub name : Name
  pub first : ℕ
  pub body : Block

-- the functions behind those already numbered, the latest first
abbrev pub numbered : ℕ → List Function → List Numbered → List Numbered
numbered n [] before = before
numbered n (f ∷ fs) before = numbered (later n (block_count f.body)) fs (record { name = f.name; first = n; body = f.body } ∷ before)

abbrev pub around : (Name → Option (World → Ran)) → ℤ → ℤ → Around
around calls last most = record { calls = calls; until = last; limit = most }

-- a function calls the functions before it
abbrev pub calls_of : List Numbered → ℤ → ℤ → Name → Option (World → Ran)
calls_of [] last most f = None
calls_of (g ∷ gs) last most f =
    if same_name g.name f then Some (run_block (around (calls_of gs last most) last most) g.first g.body) else calls_of gs last most f

-- the number behind the statements of these functions
abbrev pub behind_functions : ℕ → List Function → ℕ
behind_functions n [] = n
behind_functions n (f ∷ fs) = behind_functions (later n (block_count f.body)) fs

-- how many elements a variable has
abbrev pub elements_of : Declared → ℕ
elements_of d = unwrap_or d.size 1

-- a declared variable at the beginning: all elements are 0
abbrev pub first_slot : Declared → Slot
first_slot d = record { name = d.name; cells = replicate (unwrap_or d.size 1) (pos 0) }

abbrev pub first_world : Whole → List (List ℤ) → World
first_world p columns = record { slots = map first_slot p.decls; left = columns }

-- The meaning of a program on these columns and bounds. Statements are counted from 1, those of sci_main behind those of the functions.
unfoldable pub meaning : Whole → List (List ℤ) → ℤ → ℤ → Ran
meaning p columns last most =
    run_block (around (calls_of (numbered 1 p.funcs []) last most) last most) (behind_functions 1 p.funcs) p.main (first_world p columns)
