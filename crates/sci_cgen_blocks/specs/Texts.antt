-- The C text of a block: its recipes as statements over the program's arrays.
use Rattle.std.specs.Prelude.{ℕ, suc, ◌+◌, ◌-◌, ℤ, pos, List, [], ◌∷◌, slice_index_or, if◌then◌else◌}
use Rattle.sci_forms.specs.declared.Kind.{Kind}
use Rattle.sci_forms.specs.declared.Kind.TheVariants.{Sensor}
use Rattle.sci_forms.specs.declared.spec.Spec.{Spec}
use Rattle.sci_forms.specs.Ports.{total}
use Rattle.sci_forms.specs.Words.{param, state_len_of}
use Rattle.c_ast.specs.declared.Name.{Name}
use Rattle.c_ast.specs.declared.Bound.TheVariants as bounds
use Rattle.c_ast.specs.declared.Op.TheVariants.{Add}
use Rattle.c_ast.specs.Syntax.{Exp, num, var, element, bin, scalar, cell, more, input as next_input, tell, stop, Statement, set, ask, choice, loop, Block, done, next}
use Rattle.c_mean.specs.Places.{named}
use Rattle.c_mean.specs.Texts.{number, place, upto}
use Rattle.sci_cgen_blocks.specs.Terms.{Term, constant, input, along, state, state_along, state_behind, mask, scratch, both, Work, assign, assign_if, Step, change, stop_if, repeat, Recipe, Way, each, all, decide, is_looped}
use Rattle.sci_cgen_blocks.specs.Recipes.{way_of, next_term, next_alike, next_along, delay_term, branch_term}

-- which element a text is written for: one by its number, or the one that a scratch number counts
pub data Which : Type 0 where
  fixed : ℕ → Which
  counted_by : ℕ → Which

-- Where a block's places lie: its number, of each input the first place in the array of values, the first place of its outputs there, of its state in the array of
-- states, and its mask's place in the array of masks; and which element its text is written for.
pub record Places : Type 0 where
  pub number : ℕ
  pub ins : List ℕ
  pub outs : ℕ
  pub state : ℕ
  pub mask : ℕ
  pub which : Which

abbrev pub written : Places → Which → Places
written p q = record p { which = q }

-- the arrays of all output values, states and masks
abbrev pub values : Name
values = named 118 1

abbrev pub states : Name
states = named 118 2

abbrev pub masks : Name
masks = named 118 3

-- t1 to t16
abbrev pub scratch_name : ℕ → Name
scratch_name n = named 116 n

abbrev pub input_start : Places → ℕ → ℕ
input_start p k = slice_index_or p.ins k 0

abbrev pub input_place : Places → ℕ → ℕ → ℕ
input_place p k e = input_start p k + e

-- the place of the element that is written for, where the first one is at place o
abbrev pub element_place : Which → ℕ → Exp
element_place (fixed e) o = num (pos (o + e))
element_place (counted_by n) o = bin Add (var (scratch_name n)) (num (pos o))

abbrev pub expression : Places → Term → Exp
expression p (constant z) = number z
expression p (input k e) = place values (input_place p k e)
expression p (along k) = element values (element_place p.which (input_start p k))
expression p (state i) = place states (p.state + i)
expression p state_along = element states (element_place p.which p.state)
expression p state_behind = element states (element_place p.which (suc p.state))
expression p mask = place masks p.mask
expression p (scratch n) = var (scratch_name n)
expression p (both op a b) = bin op (expression p a) (expression p b)

abbrev pub work_statement : Places → Work → Statement
work_statement p (assign n t) = set (scalar (scratch_name n)) (expression p t)
work_statement p (assign_if c n t) = choice (expression p c) (next (set (scalar (scratch_name n)) (expression p t)) done) done

abbrev pub works_text : Places → List Work → Block
works_text p [] = done
works_text p (w ∷ ws) = next (work_statement p w) (works_text p ws)

-- the run stops by this word at the block
abbrev pub stop_text : ℕ → ℕ → Block
stop_text word b = next (tell (stop (num (pos word)) (num (pos b)) (num (pos 0)))) done

-- A step, and the rest that follows it. Behind a stop the rest stands in an else: where the stop returns, it isn't done.
abbrev pub step_text : Places → Step → Block → Block
step_text p (change w) rest = next (work_statement p w) rest
step_text p (stop_if c word) rest = next (choice (expression p c) (stop_text word p.number) rest) done
step_text p (repeat n k ws) rest = next (loop (scratch_name n) (bounds.Num (pos k)) (works_text p ws)) rest

abbrev pub steps_text : Places → List Step → Block → Block
steps_text p [] rest = rest
steps_text p (x ∷ xs) rest = step_text p x (steps_text p xs rest)

-- the element of the outputs that is written for becomes what a term is
abbrev pub assigned_text : Places → Term → Block
assigned_text p t = next (set (cell values (element_place p.which p.outs)) (expression p t)) done

-- or what the recipe gives
abbrev pub recipe_text : Places → Recipe → Block
recipe_text p r = steps_text p r.steps (assigned_text p r.value)

-- what is written for each element, in a loop whose counter is a scratch number
abbrev pub looped_text : Places → ℕ → ℕ → Recipe → Block
looped_text p n c r = next (loop (scratch_name c) (bounds.Num (pos n)) (recipe_text (written p (counted_by c)) r)) done

-- n elements of the outputs become what the way gives
abbrev pub way_text : Places → ℕ → Way → Block
way_text p n (each f) = upto (λ e. recipe_text (written p (fixed e)) (f e)) n
way_text p n (all m r) = if is_looped n then looped_text p n (suc m) r else upto (λ e. recipe_text (written p (fixed e)) r) n
way_text p n (decide c a b) = next (choice (expression (written p (fixed 0)) c) (way_text p n a) (way_text p n b)) done

-- the next value of the column, or the stop where it has none
abbrev pub sensor_text : Places → ℤ → Block
sensor_text p column =
    next (ask (scalar (scratch_name 1)) (more (num column)))
    (next (choice (var (scratch_name 1)) (next (ask (cell values (num (pos p.outs))) (next_input (num column))) done) (stop_text 2 p.number)) done)

abbrev pub values_text : Kind → Spec → Places → Block
values_text Sensor s p = sensor_text p (param s 0)
values_text c s p = way_text p (total s.outs) (way_of c s)

-- the block's values
abbrev pub body_text : Spec → Places → Block
body_text s p = values_text s.kind s p

-- value i of the block's next state
abbrev pub next_value_text : Spec → Places → ℕ → Block
next_value_text s p i = next (set (cell states (num (pos (p.state + i)))) (expression (written p (fixed 0)) (next_term s.kind s i))) done

-- the first n values in a loop
abbrev pub next_loop : Spec → Places → ℕ → Statement
next_loop s p n =
    loop (scratch_name 1) (bounds.Num (pos n))
    (next (set (cell states (element_place (counted_by 1) p.state)) (expression (written p (counted_by 1)) (next_along s.kind s))) done)

-- the block's next state: values that are worked out alike in a loop, where there are three or more
abbrev pub next_text : Spec → Places → Block
next_text s p =
    if is_looped (next_alike s.kind s)
    then next (next_loop s p (next_alike s.kind s))
    (upto (λ i. next_value_text s p (next_alike s.kind s + i)) (state_len_of s.kind s - next_alike s.kind s))
    else upto (next_value_text s p) (state_len_of s.kind s)

abbrev pub delay_expression : Spec → Places → Exp
delay_expression s p = expression (written p (fixed 0)) (delay_term s.kind s)

abbrev pub branch_expression : Spec → Places → Exp
branch_expression s p = expression (written p (fixed 0)) (branch_term s.kind s)
