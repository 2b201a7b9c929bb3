-- How each kind's values, next states, delays and branches are worked out. What a kind means stands in its table (sci_kinds); these are ways to it that
-- C leaves nowhere undefined.
use Rattle.std.specs.Prelude.{◌≡◌, ℕ, zero, suc, ◌+◌, ◌-◌, ◌*◌, ◌/◌, ◌^◌, ◌<◌, ◌≤◌, true, ℤ, pos, negsuc, List, [], ◌∷◌, ◌++◌, length, Bool, false, ◌&&◌, nat_eq, nat_lt, int_lt, if◌then◌else◌, unsigned_abs}
use Rattle.std.specs.Int.{int_rem_euclid}
use Rattle.sci_base.specs.declared.Ty.{Ty}
use Rattle.sci_base.specs.declared.Ty.TheVariants.{U32}
use Rattle.sci_base.specs.declared.Mode.{Mode}
use Rattle.sci_base.specs.declared.Mode.TheVariants.{Wrap, Saturate, Stop}
use Rattle.sci_base.specs.Fit.{low, high, span, width, int_eq}
use Rattle.sci_base.specs.Lists.{at, truth_at}
use Rattle.sci_forms.specs.declared.Kind.{Kind}
use Rattle.sci_forms.specs.declared.Kind.TheVariants.{Const, Summation, GainBlk, Product, AbsValue, Signum, MaxMin, Saturation, DeadBand, Convert, Mux, Demux, Extractor, LogicalOp, RelationalOp, Shift, BitSet, BitClear, ExtractBits, Switch2, Select, Logic, AndLog, Dollar, SampHold, Register, ModuloCount, GatedDelay, Sensor, EvtDly, EvtVarDly, IfThEl, ESelect, Halt}
use Rattle.sci_forms.specs.declared.form.Memory.TheVariants.{Elements, Moving, Counter}
use Rattle.sci_forms.specs.declared.form.Role.{Role}
use Rattle.sci_forms.specs.declared.form.Role.TheVariants.{Values, State, Delay, Branch, Sensor as Senses, Halt as Halts}
use Rattle.sci_forms.specs.Form.{role_of, reads_mask}
use Rattle.sci_forms.specs.declared.ports.Port.{Port}
use Rattle.sci_forms.specs.declared.spec.Spec.{Spec}
use Rattle.sci_forms.specs.Ports.{elements, port_at, before, total}
use Rattle.sci_forms.specs.Words.{param, out_type, state_len_of}
use Rattle.sci_kinds.specs.Table.{mode_of}
use Rattle.c_ast.specs.declared.Op.{Op}
use Rattle.c_ast.specs.declared.Op.TheVariants.{Add, Sub, Mul, Div, Rem, Lt, Le, Gt, Ge, Eq, Ne, And, Or}
use Rattle.sci_cgen_blocks.specs.declared.logical_kinds.Join.{Join}
use Rattle.sci_cgen_blocks.specs.declared.logical_kinds.Join.TheVariants.{Every, Any, Odd}
use Rattle.sci_cgen_blocks.specs.Terms.{Term, constant, input, along, state, state_along, state_behind, mask, scratch, both, Work, assign, assign_if, Step, change, stop_if, repeat, Recipe, Way, each, all, decide, is_looped, Given, Readable}

-- ---- words

abbrev pub natural : ℕ → Term
natural n = constant (pos n)

-- the first scratch number, in which a value is worked out
abbrev pub result : Term
result = scratch 1

abbrev pub set : Term → Step
set t = change (assign 1 t)

abbrev pub set_if : Term → Term → Step
set_if c t = change (assign_if c 1 t)

abbrev pub plain : Term → Recipe
plain t = record { steps = []; value = t }

abbrev pub worked_out : List Step → Recipe
worked_out xs = record { steps = xs; value = result }

-- the remainder that isn't negative, by remainders of signed numbers
abbrev pub modulo : Term → ℕ → Term
modulo t n = both Rem (both Add (both Rem t (natural n)) (natural n)) (natural n)

-- ---- fitting

-- the number of the type that differs from t by a multiple of the span
abbrev pub wrapped : Ty → Term → Term
wrapped ty t = both Add (constant (low ty)) (modulo (both Sub t (constant (low ty))) (span ty))

-- the result becomes what fits, or the run stops
abbrev pub fit_steps : Ty → Mode → List Step
fit_steps ty Wrap = set (wrapped ty result) ∷ []
fit_steps ty Saturate = set_if (both Lt result (constant (low ty))) (constant (low ty)) ∷ set_if (both Gt result (constant (high ty))) (constant (high ty)) ∷ []
fit_steps ty Stop = stop_if (both Or (both Lt result (constant (low ty))) (both Gt result (constant (high ty)))) 0 ∷ []

-- the result of these steps, fitted
abbrev pub fitted_out : Ty → Mode → List Step → Recipe
fitted_out ty m xs = worked_out (xs ++ fit_steps ty m)

-- a pattern as a number of the type
abbrev pub from_pattern : Ty → Term → Recipe
from_pattern ty t = plain (wrapped ty t)

-- the pattern of a number of the type
abbrev pub pattern : Ty → Term → Term
pattern ty t = modulo t (span ty)

-- bit k of a pattern
abbrev pub bit : Term → ℕ → Term
bit p k = both Rem (both Div p (natural (2 ^ k))) (natural 2)

-- ---- products

-- Two numbers of uint32 have a product that 64 bits needn't hold. Modulo 2^32 it is a times the lower half of b, and the upper half's product modulo 2^16 above it.
abbrev pub halves_product : Term → Term → Term
halves_product a b =
    both Rem (both Add (both Mul a (both Rem b (natural 65536))) (both Mul (both Rem (both Mul a (both Div b (natural 65536))) (natural 65536)) (natural 65536)))
    (natural 4294967296)

-- whether the product of two numbers of uint32 is past the type's end, told by a quotient
abbrev pub product_is_large : Term → Term → Term
product_is_large a b = both And (both Ne b (natural 0)) (both Gt a (both Div (natural 4294967295) b))

abbrev pub product_fits : Term → Term → Term
product_fits a b = both Or (both Eq b (natural 0)) (both Le a (both Div (natural 4294967295) b))

abbrev pub large_product : Mode → Term → Term → List Step
large_product Wrap a b = set (halves_product a b) ∷ []
large_product Saturate a b = set (natural 4294967295) ∷ set_if (product_fits a b) (both Mul a b) ∷ []
large_product Stop a b = stop_if (product_is_large a b) 0 ∷ set (both Mul a b) ∷ []

abbrev pub product : Ty → Mode → Term → Term → Recipe
product U32 m a b = worked_out (large_product m a b)
product ty m a b = fitted_out ty m (set (both Mul a b) ∷ [])

abbrev pub quotient : Ty → Mode → Term → Term → Recipe
quotient ty m a b = fitted_out ty m (stop_if (both Eq b (natural 0)) 1 ∷ set (both Div a b) ∷ [])

-- ---- many inputs

-- the signed inputs from k on, n of them, added to the result
abbrev pub terms : Spec → ℕ → ℕ → List Step
terms s k zero = []
terms s k (suc n) = set (both (if int_eq (param s (k + 1)) (pos 1) then Add else Sub) result (along k)) ∷ terms s (suc k) n

-- the inputs from k on, n of them, compared with the result
abbrev pub extremes : Op → ℕ → ℕ → List Step
extremes op k zero = []
extremes op k (suc n) = set_if (both op (along k) result) (along k) ∷ extremes op (suc k) n

-- 1 where a term isn't 0
abbrev pub truth : Term → Term
truth t = both Ne t (natural 0)

-- the truths of the terms from k on, n of them, counted in the result
abbrev pub counted : (ℕ → Term) → ℕ → ℕ → List Work
counted f k zero = []
counted f k (suc n) = assign 1 (both Add result (f k)) ∷ counted f (suc k) n

abbrev pub changed : List Work → List Step
changed [] = []
changed (w ∷ ws) = change w ∷ changed ws

-- the logical operation, where the result counts the true inputs of n
abbrev pub logical : ℤ → ℕ → Term
logical op n =
    if int_eq op (pos 0) then both Eq result (natural n) else
    if int_eq op (pos 1) then both Gt result (natural 0) else
    if int_eq op (pos 2) then both Ne result (natural n) else
    if int_eq op (pos 3) then both Eq result (natural 0) else
    if int_eq op (pos 4) then both Eq (both Rem result (natural 2)) (natural 1) else both Eq result (natural 0)

abbrev pub logical_truths : ℤ → ℕ → Recipe
logical_truths op n = record { steps = set (natural 0) ∷ changed (counted (λ k. truth (along k)) 0 n); value = logical op n }

-- how an operation joins bits
abbrev pub join_of : ℤ → Join
join_of op =
    if int_eq op (pos 0) then Every else
    if int_eq op (pos 2) then Every else
    if int_eq op (pos 4) then Odd else Any

-- whether it turns over what it has joined
abbrev pub is_turned : ℤ → Bool
is_turned op =
    if int_eq op (pos 0) then false else
    if int_eq op (pos 1) then false else
    if int_eq op (pos 4) then false else true

-- the last bit of a scratch number
abbrev pub last_bit : ℕ → Term
last_bit n = both Rem (scratch n) (natural 2)

-- what the last bits of scratch 1 and 2 give, as a test
abbrev pub last_joined : Join → Term
last_joined Every = both And (last_bit 1) (last_bit 2)
last_joined Any = both Or (last_bit 1) (last_bit 2)
last_joined Odd = both Rem (both Add (scratch 1) (scratch 2)) (natural 2)

-- Both give their last bit away, and scratch 1 takes what these give as its highest.
abbrev pub bit_joined : Ty → Join → List Work
bit_joined ty j =
    assign_if (last_joined j) 1 (both Add result (natural (span ty))) ∷ assign 1 (both Div result (natural 2)) ∷ assign 2 (both Div (scratch 2) (natural 2)) ∷ []

-- The patterns of inputs k to k + n - 1, each in scratch 2, are joined with the one in scratch 1, two bits in each turn.
abbrev pub patterns_joined : Ty → Join → ℕ → ℕ → List Step
patterns_joined ty j k zero = []
patterns_joined ty j k (suc n) =
    change (assign 2 (pattern ty (along k))) ∷ repeat 3 (width ty / 2) (bit_joined ty j ++ bit_joined ty j) ∷ patterns_joined ty j (suc k) n

-- the pattern in scratch 1, turned over or not
abbrev pub turned_over : Ty → Bool → Term
turned_over ty b = if b then both Sub (natural (span ty - 1)) result else result

abbrev pub logical_bits : Ty → ℤ → ℕ → Recipe
logical_bits ty op n = record {
  steps = set (pattern ty (along 0)) ∷ patterns_joined ty (join_of op) 1 (n - 1);
  value = wrapped ty (turned_over ty (is_turned op));
}

abbrev pub logical_operation : Ty → ℤ → ℤ → ℕ → Recipe
logical_operation ty op b n = if int_eq b (pos 0) then logical_truths op n else logical_bits ty op n

-- ---- one input

abbrev pub relation : ℤ → Op
relation op =
    if int_eq op (pos 0) then Eq else if int_eq op (pos 1) then Ne else if int_eq op (pos 2) then Lt else if int_eq op (pos 3) then Le else
    if int_eq op (pos 4) then Gt else Ge

-- rounded toward minus infinity
abbrev pub floor_quotient : Term → ℕ → Term
floor_quotient t n = both Div (both Sub t (modulo t n)) (natural n)

abbrev pub shifted : Ty → ℤ → Term → Recipe
shifted ty n t =
    if int_lt n (pos 0) then plain (floor_quotient t (2 ^ unsigned_abs n)) else plain (wrapped ty (both Mul t (natural (2 ^ unsigned_abs n))))

abbrev pub turned : Ty → ℕ → Term → Recipe
turned ty n t =
    record { steps = set (both Mul (pattern ty t) (natural (2 ^ n))) ∷ []; value = wrapped ty (both Add (both Rem result (natural (span ty))) (both Div result (natural (span ty)))) }

abbrev pub shift : Ty → ℤ → ℤ → Term → Recipe
shift ty n r t = if int_eq r (pos 0) then shifted ty n t else turned ty (unsigned_abs (int_rem_euclid n (pos (width ty)))) t

-- the pattern with bit k made 1, or 0
abbrev pub with_bit : Ty → ℕ → Term → Recipe
with_bit ty k t = from_pattern ty (both Add (pattern ty t) (both Mul (both Sub (natural 1) (bit (pattern ty t) k)) (natural (2 ^ k))))

abbrev pub without_bit : Ty → ℕ → Term → Recipe
without_bit ty k t = from_pattern ty (both Sub (pattern ty t) (both Mul (bit (pattern ty t) k) (natural (2 ^ k))))

abbrev pub bits : Ty → ℕ → ℕ → Term → Recipe
bits ty a b t = from_pattern ty (both Rem (both Div (pattern ty t) (natural (2 ^ a))) (natural (2 ^ ((b - a) + 1))))

-- whether the first of the switched inputs is taken
abbrev pub switches : ℤ → ℤ → Term → Term
switches c a t = if int_eq c (pos 0) then both Ge t (constant a) else if int_eq c (pos 1) then both Gt t (constant a) else both Ne t (constant a)

-- low to high, a low below
abbrev pub brought : ℤ → ℤ → Term → List Step
brought low high t = set t ∷ set_if (both Gt result (constant high)) (constant high) ∷ set_if (both Lt t (constant low)) (constant low) ∷ []

-- ---- the recipes

-- element e of all inputs together, counted from input k on
abbrev pub flat_from : List Port → ℕ → ℕ → Term
flat_from [] k e = input k e
flat_from (p ∷ ps) k e = if nat_lt e (elements p) then input k e else flat_from ps (suc k) (e - elements p)

-- The recipe of each element of the outputs, of a kind that does the same to all of them. A SENSOR's is no recipe, since it asks for its value; those of kinds that decide
-- once for all elements neither (way_of).
abbrev pub recipe_of : Kind → Spec → Recipe
recipe_of Const s = plain (constant (param s 0))
recipe_of Summation s = fitted_out (out_type s) (mode_of (param s 0)) (set (natural 0) ∷ terms s 0 (length s.ins))
recipe_of GainBlk s = product (out_type s) (mode_of (param s 0)) (constant (param s 1)) (along 0)
recipe_of Product s =
    if int_eq (param s 1) (pos 1) then product (out_type s) (mode_of (param s 0)) (along 0) (along 1)
    else quotient (out_type s) (mode_of (param s 0)) (along 0) (along 1)
recipe_of AbsValue s = fitted_out (out_type s) (mode_of (param s 0)) (set (along 0) ∷ set_if (both Lt result (natural 0)) (both Sub (natural 0) result) ∷ [])
recipe_of Signum s = plain (both Sub (both Gt (along 0) (natural 0)) (both Lt (along 0) (natural 0)))
recipe_of MaxMin s =
    worked_out (set (along 0) ∷ extremes (if int_eq (param s 0) (pos 1) then Lt else Gt) 1 (length s.ins - 1))
recipe_of Saturation s = worked_out (brought (param s 0) (param s 1) (along 0))
recipe_of DeadBand s =
    fitted_out (out_type s) (mode_of (param s 0)) (set (natural 0) ∷ set_if (both Lt (along 0) (constant (param s 1))) (both Sub (along 0) (constant (param s 1)))
    ∷ set_if (both Gt (along 0) (constant (param s 2))) (both Sub (along 0) (constant (param s 2))) ∷ [])
recipe_of Convert s = fitted_out (out_type s) (mode_of (param s 0)) (set (along 0) ∷ [])
recipe_of Mux s = plain (natural 0)
recipe_of Demux s = plain (along 0)
recipe_of Extractor s = plain (natural 0)
recipe_of LogicalOp s = logical_operation (out_type s) (param s 0) (param s 1) (length s.ins)
recipe_of RelationalOp s = plain (both (relation (param s 0)) (along 0) (along 1))
recipe_of Shift s = shift (out_type s) (param s 0) (param s 1) (along 0)
recipe_of BitSet s = with_bit (out_type s) (unsigned_abs (param s 0)) (along 0)
recipe_of BitClear s = without_bit (out_type s) (unsigned_abs (param s 0)) (along 0)
recipe_of ExtractBits s = bits (out_type s) (unsigned_abs (param s 0)) (unsigned_abs (param s 1)) (along 0)
recipe_of Switch2 s = plain (natural 0)
recipe_of Select s = plain (natural 0)
recipe_of Logic s = plain (natural 0)
recipe_of AndLog s = plain (both Sub (both Mul (natural 2) (both Eq mask (natural 3))) (natural 1))
recipe_of Dollar s = plain state_along
recipe_of SampHold s = plain (along 0)
recipe_of Register s = plain (state 0)
recipe_of ModuloCount s = plain (state 0)
recipe_of GatedDelay s = plain (both Mul (both Gt (input 1 0) (natural 0)) state_along)
recipe_of Sensor s = plain (natural 0)
recipe_of EvtDly s = plain (natural 0)
recipe_of EvtVarDly s = plain (natural 0)
recipe_of IfThEl s = plain (natural 0)
recipe_of ESelect s = plain (natural 0)
recipe_of Halt s = plain (natural 0)

-- how many scratch numbers it takes
abbrev pub worked_of : Kind → Spec → ℕ
worked_of Summation s = 1
worked_of GainBlk s = 1
worked_of Product s = 1
worked_of AbsValue s = 1
worked_of MaxMin s = 1
worked_of Saturation s = 1
worked_of DeadBand s = 1
worked_of Convert s = 1
worked_of LogicalOp s = if int_eq (param s 1) (pos 0) then 1 else if nat_lt 1 (length s.ins) then 3 else 1
worked_of Shift s = if int_eq (param s 1) (pos 0) then 0 else 1
worked_of Sensor s = 1
worked_of _ s = 0

-- element e of the outputs, of a kind that takes a number or an input of its own for each
abbrev pub part_of : Kind → Spec → ℕ → Term
part_of Const s e = constant (param s e)
part_of Mux s e = flat_from s.ins 0 e
part_of Extractor s e = input 0 (unsigned_abs (param s e) - 1)
part_of _ s e = natural 0

-- ---- tables of truth

-- entry e of row r
abbrev pub entry : Spec → ℕ → ℕ → ℤ
entry s r e = param s (r * length s.outs + e)

-- whether two rows have the same entries from e on, n of them
abbrev pub same_entries : Spec → ℕ → ℕ → ℕ → ℕ → Bool
same_entries s q r e zero = true
same_entries s q r e (suc n) = int_eq (entry s q e) (entry s r e) && same_entries s q r (suc e) n

-- whether the rows from r on, n of them, are all as row q
abbrev pub are_as : Spec → ℕ → ℕ → ℕ → Bool
are_as s q r zero = true
are_as s q r (suc n) = same_entries s q r 0 (length s.outs) && are_as s q (suc r) n

abbrev pub row : Spec → ℕ → Way
row s r = each (λ e. plain (constant (entry s r e)))

-- The row that the truths of inputs k to k + n - 1 name among the 2^n rows from r on. Nothing is asked where these rows are all the same.
abbrev pub decided : Spec → ℕ → ℕ → ℕ → Way
decided s k zero r = row s r
decided s k (suc n) r = if are_as s r r (2 ^ suc n) then row s r else decide (input k 0) (decided s (suc k) n (r + 2 ^ n)) (decided s (suc k) n r)

-- ---- choices

-- all elements of input k
abbrev pub copied : ℕ → Way
copied k = all 0 (plain (along k))

-- of inputs k to k + n the first whose activation input is activated; the last is not asked about
abbrev pub first_activated : ℕ → ℕ → Way
first_activated k zero = copied k
first_activated k (suc n) = decide (bit mask k) (copied k) (first_activated (suc k) n)

-- ---- the ways

-- whether all elements are worked out by one recipe, under decisions or not
abbrev pub is_alike : Kind → Spec → Bool
is_alike Const s = nat_eq (length s.params) 1
is_alike Mux s = false
is_alike Extractor s = false
is_alike Logic s = false
is_alike _ s = true

-- Elements of the outputs are counted through all of them.
abbrev pub way_of : Kind → Spec → Way
way_of Switch2 s = decide (switches (param s 0) (param s 1) (input 1 0)) (copied 0) (copied 2)
way_of Select s = first_activated 0 (s.evtin - 1)
way_of Logic s = decided s 0 (length s.ins) 0
way_of c s = if is_alike c s then all (worked_of c s) (recipe_of c s) else each (λ e. plain (part_of c s e))

-- ---- next states, delays, branches

-- Value i of the next state, by what a state is. The values are assigned in order, so a term may read the state from value i on alone.
-- A counter stands below its base, so that one more is the base at most.
abbrev pub next_by : Role → Spec → ℕ → Term
next_by (State Elements) s i = input 0 i
next_by (State Moving) s i = if nat_lt (i + 1) (length s.state) then state (i + 1) else input 0 0
next_by (State Counter) s i = both Mul (both Lt (both Add (state 0) (natural 1)) (constant (param s 0))) (both Add (state 0) (natural 1))
next_by Values s i = natural 0
next_by Delay s i = natural 0
next_by Branch s i = natural 0
next_by Senses s i = natural 0
next_by Halts s i = natural 0

abbrev pub next_term : Kind → Spec → ℕ → Term
next_term c s i = next_by (role_of c) s i

-- How many of the first values of the next state are worked out alike, of n, and the term of each as the element that is worked out. They are assigned in order
-- too, so where values move up, each reads the value behind one before that is written. The last of them is the input, and a counter has no other.
abbrev pub alike_by : Role → ℕ → ℕ
alike_by (State Elements) n = n
alike_by (State Moving) n = n - 1
alike_by (State Counter) n = 0
alike_by Values n = 0
alike_by Delay n = 0
alike_by Branch n = 0
alike_by Senses n = 0
alike_by Halts n = 0

abbrev pub next_alike : Kind → Spec → ℕ
next_alike c s = alike_by (role_of c) (state_len_of c s)

abbrev pub along_by : Role → Term
along_by (State Moving) = state_behind
along_by (State Elements) = along 0
along_by (State Counter) = along 0
along_by Values = along 0
along_by Delay = along 0
along_by Branch = along 0
along_by Senses = along 0
along_by Halts = along 0

abbrev pub next_along : Kind → Spec → Term
next_along c s = along_by (role_of c)

-- t where it is at most the most, else the most
abbrev pub at_most : ℕ → Term → Term
at_most n t = both Add (both Mul (both Le t (natural n)) t) (both Mul (both Gt t (natural n)) (natural n))

-- the delay of an activation output
abbrev pub delay_term : Kind → Spec → Term
delay_term EvtDly s = constant (param s 0)
delay_term EvtVarDly s = both Sub (both Mul (both Ge (input 0 0) (natural 0)) (at_most 2147483647 (input 0 0))) (both Lt (input 0 0) (natural 0))
delay_term _ s = constant (negsuc 0)

-- the branch that a synchronous block takes
abbrev pub branch_term : Kind → Spec → Term
branch_term IfThEl s = both Sub (natural 2) (both Gt (input 0 0) (natural 0))
branch_term ESelect s = both Add (both Mul (both Ge (input 0 0) (natural 1)) (at_most s.evtout (input 0 0))) (both Lt (input 0 0) (natural 1))
branch_term _ s = natural 1

-- ---- what they may read

-- how many scratch numbers the values take: those of the recipe, and one that counts elements in a loop
abbrev pub scratch_of : Kind → Spec → ℕ
scratch_of c s = if is_alike c s && is_looped (total s.outs) then suc (worked_of c s) else worked_of c s

-- and the next state: one that counts values in a loop
abbrev pub next_scratch : Kind → Spec → ℕ
next_scratch c s = if is_looped (next_alike c s) then 1 else 0

abbrev pub given : Spec → List ℤ → ℕ → List ℤ → Given
given s x m u = record { input = λ k e. at u (before s.ins k + e); state = at x; mask = m; element = 0 }

abbrev pub IsElement : Spec → ℕ → ℕ → Type 0
IsElement s k e = (k < length s.ins) × (e < elements (port_at s.ins k))

-- for the values: the inputs with feedthrough, the state, and the mask by the kind
abbrev pub fed : Spec → Readable
fed s = record {
  input = λ k e. IsElement s k e × (truth_at s.feed k ≡ true);
  state = λ i. i < state_len_of s.kind s;
  mask = reads_mask s.kind;
  scratch = scratch_of s.kind s;
  element = 0;
}

-- for value i of the next state: all inputs, and the state from this value on
abbrev pub from_value : Spec → ℕ → Readable
from_value s i = record { input = IsElement s; state = λ j. (i ≤ j) × (j < state_len_of s.kind s); mask = false; scratch = 0; element = 0 }

-- for delays and branches: all inputs
abbrev pub inputs : Spec → Readable
inputs s = record { input = IsElement s; state = λ i. ⊥; mask = false; scratch = 0; element = 0 }
