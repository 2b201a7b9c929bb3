-- How a block's values are worked out: terms over what the block is given and over scratch numbers, steps that change scratch or stop, and decisions between
-- ways. What they mean is said here without any memory. Each term is one expression of C, and each step and each decision one statement (Texts).
use Rattle.std.specs.Prelude.{◌≡◌, ℕ, zero, suc, ◌<◌, ◌≤◌, ◌^◌, ℤ, pos, negsuc, ◌≤ℤ◌, ◌+ℤ◌, List, [], ◌∷◌, Option, Some, None, Bool, true, false, nat_eq, nat_lt, if◌then◌else◌}
use Rattle.sci_kinds.specs.declared.Cell.{Cell}
use Rattle.sci_kinds.specs.declared.Cell.TheVariants.{Value, Overflow, Zero}
use Rattle.c_ast.specs.declared.Op.{Op}
use Rattle.c_mean.specs.Meaning.{operate, is_zero, ◌>>=◌}

-- What a block is given: element e of input k, value i of its state, its mask; and which element is worked out.
pub record Given : Type 0 where
  pub input : ℕ → ℕ → ℤ
  pub state : ℕ → ℤ
  pub mask : ℕ
  pub element : ℕ

-- `along k` is the element of input k that is worked out, `state_along` that of the state, and `state_behind` the one behind it.
pub data Term : Type 0 where
  constant : ℤ → Term
  input : ℕ → ℕ → Term
  along : ℕ → Term
  state : ℕ → Term
  state_along : Term
  state_behind : Term
  mask : Term
  scratch : ℕ → Term
  both : Op → Term → Term → Term

-- the scratch numbers, each with its number
abbrev pub Scratch : Type 0
Scratch = ℕ → ℤ

abbrev pub with_scratch : ℕ → ℤ → Scratch → Scratch
with_scratch n v s k = if nat_eq n k then v else s k

-- the value of a term, or none where C leaves it undefined
abbrev pub value : Given → Scratch → Term → Option ℤ
value g s (constant z) = Some z
value g s (input k e) = Some (g.input k e)
value g s (along k) = Some (g.input k g.element)
value g s (state i) = Some (g.state i)
value g s state_along = Some (g.state g.element)
value g s state_behind = Some (g.state (suc g.element))
value g s mask = Some (pos g.mask)
value g s (scratch n) = Some (s n)
value g s (both op a b) = operate op (value g s a) (value g s b)

-- A change of scratch: number n becomes a term's value; or it does where a test isn't 0.
pub data Work : Type 0 where
  assign : ℕ → Term → Work
  assign_if : Term → ℕ → Term → Work

-- A step: a change; a stop by this word where a test isn't 0; or changes made again and again, so many times, while a counter goes up from 0.
pub data Step : Type 0 where
  change : Work → Step
  stop_if : Term → ℕ → Step
  repeat : ℕ → ℕ → List Work → Step

pub data Outcome : Type 0 where
  worked : Scratch → Outcome
  stopped : ℕ → Outcome
  unclear : Outcome

abbrev pub work_under : Given → Scratch → ℕ → Term → ℤ → Option Scratch
work_under g s n t z = if is_zero z then Some s else (value g s t >>= λ v. Some (with_scratch n v s))

abbrev pub do_work : Given → Work → Scratch → Option Scratch
do_work g (assign n t) s = value g s t >>= λ v. Some (with_scratch n v s)
do_work g (assign_if c n t) s = value g s c >>= work_under g s n t

abbrev pub do_works : Given → List Work → Scratch → Option Scratch
do_works g [] s = Some s
do_works g (w ∷ ws) s = do_work g w s >>= do_works g ws

-- the counter's next value
abbrev pub count_on : ℕ → Scratch → Option Scratch
count_on n s = Some (with_scratch n (s n +ℤ pos 1) s)

abbrev pub do_turns : Given → ℕ → List Work → ℕ → Scratch → Option Scratch
do_turns g n ws zero s = Some s
do_turns g n ws (suc k) s = do_works g ws s >>= count_on n >>= do_turns g n ws k

abbrev pub worked_by : Option Scratch → Outcome
worked_by (Some s) = worked s
worked_by None = unclear

abbrev pub stopped_under : ℕ → Scratch → Option ℤ → Outcome
stopped_under word s None = unclear
stopped_under word s (Some z) = if is_zero z then worked s else stopped word

abbrev pub do_step : Given → Step → Scratch → Outcome
do_step g (change w) s = worked_by (do_work g w s)
do_step g (stop_if c word) s = stopped_under word s (value g s c)
do_step g (repeat n k ws) s = worked_by (do_turns g n ws k (with_scratch n (pos 0) s))

abbrev pub then_steps : Outcome → (Scratch → Outcome) → Outcome
then_steps (worked s) f = f s
then_steps (stopped word) f = stopped word
then_steps unclear f = unclear

abbrev pub do_steps : Given → List Step → Scratch → Outcome
do_steps g [] s = worked s
do_steps g (x ∷ xs) s = then_steps (do_step g x s) (do_steps g xs)

-- How one element is worked out: steps, and its value behind them.
pub record Recipe : Type 0 where
  pub steps : List Step
  pub value : Term

-- The value behind the steps is v.
pub record Comes (g : Given) (r : Recipe) (s : Scratch) (v : ℤ) : Type 0 where
  pub behind : Scratch
  pub works : do_steps g r.steps s ≡ worked behind
  pub is : value g behind r.value ≡ Some v

-- The recipe gives what the cell is: its value, or the stop of overflow (word 0) or of a zero divisor (word 1).
abbrev pub Gives : Given → Recipe → Scratch → Cell → Type 0
Gives g r s (Value v) = Comes g r s v
Gives g r s Overflow = do_steps g r.steps s ≡ stopped 0
Gives g r s Zero = do_steps g r.steps s ≡ stopped 1

-- ---- ways

-- How a block's values are worked out: each element by a recipe of its own; or all by one recipe, which takes so many scratch numbers; or one way where a test
-- isn't 0, and another where it is.
pub data Way : Type 0 where
  each : (ℕ → Recipe) → Way
  all : ℕ → Recipe → Way
  decide : Term → Way → Way → Way

-- a test has a value, and the first holds where it isn't 0, the second where it is
abbrev pub Under : Option ℤ → Type 0 → Type 0 → Type 0
Under None p q = ⊥
Under (Some z) p q = (is_zero z ≡ false → p) × (is_zero z ≡ true → q)

-- The way gives what the cells of n elements are, whatever scratch holds before.
abbrev pub WayGives : Given → ℕ → (ℕ → Cell) → Way → Type 0
WayGives g n cells (each f) = (e : ℕ) → e < n → (s : Scratch) → Gives (record g { element = e }) (f e) s (cells e)
WayGives g n cells (all m x) = (e : ℕ) → e < n → (s : Scratch) → Gives (record g { element = e }) x s (cells e)
WayGives g n cells (decide c a b) = (s : Scratch) → Under (value g s c) (WayGives g n cells a) (WayGives g n cells b)

-- ---- what may be read

-- a number that C spells, itself or behind a minus sign
abbrev pub IsSpelled : ℤ → Type 0
IsSpelled z = (negsuc 9223372036854775806 ≤ℤ z) × (z ≤ℤ pos 9223372036854775807)

-- elements of inputs, values of the state, the mask or not, and so many scratch numbers, counted from 1; and which element is worked out
pub record Readable : Type 1 where
  pub input : ℕ → ℕ → Type 0
  pub state : ℕ → Type 0
  pub mask : Bool
  pub scratch : ℕ
  pub element : ℕ

abbrev pub IsScratch : Readable → ℕ → Type 0
IsScratch r n = (1 ≤ n) × (n ≤ r.scratch)

-- A term at most d deep that reads what may be read alone.
abbrev pub TermFits : Readable → ℕ → Term → Type 0
TermFits r zero t = ⊥
TermFits r (suc d) (constant z) = IsSpelled z
TermFits r (suc d) (input k e) = r.input k e
TermFits r (suc d) (along k) = r.input k r.element
TermFits r (suc d) (state i) = r.state i
TermFits r (suc d) state_along = r.state r.element
TermFits r (suc d) state_behind = r.state (suc r.element)
TermFits r (suc d) mask = r.mask ≡ true
TermFits r (suc d) (scratch n) = IsScratch r n
TermFits r (suc d) (both op a b) = TermFits r d a × TermFits r d b

abbrev pub WorkFits : Readable → Work → Type 0
WorkFits r (assign n t) = IsScratch r n × TermFits r 32 t
WorkFits r (assign_if c n t) = IsScratch r n × TermFits r 32 c × TermFits r 32 t

abbrev pub changes : Work → ℕ
changes (assign n t) = n
changes (assign_if c n t) = n

abbrev pub WorksFit : Readable → List Work → Type 0
WorksFit r [] = Unit {0}
WorksFit r (w ∷ ws) = WorkFits r w × WorksFit r ws

-- no change of the counter
abbrev pub Spares : ℕ → List Work → Type 0
Spares n [] = Unit {0}
Spares n (w ∷ ws) = (nat_eq (changes w) n ≡ false) × Spares n ws

abbrev pub StepFits : Readable → Step → Type 0
StepFits r (change w) = WorkFits r w
StepFits r (stop_if c word) = TermFits r 32 c × (word ≤ 1)
StepFits r (repeat n k ws) = IsScratch r n × (k < 2 ^ 32) × WorksFit r ws × Spares n ws

abbrev pub StepsFit : Readable → List Step → Type 0
StepsFit r [] = Unit {0}
StepsFit r (x ∷ xs) = StepFits r x × StepsFit r xs

abbrev pub RecipeFits : Readable → Recipe → Type 0
RecipeFits r c = StepsFit r c.steps × TermFits r 32 c.value

-- A loop pays from three elements on.
abbrev pub is_looped : ℕ → Bool
is_looped n = nat_lt 2 n

-- A way of at most d decisions, one in the other. Where n elements make a loop, one scratch number more counts them.
abbrev pub WayFits : Readable → ℕ → Way → ℕ → Type 0
WayFits r n (each f) d = (e : ℕ) → e < n → RecipeFits (record r { element = e }) (f e)
WayFits r n (all m x) d =
    (m ≤ r.scratch) × (is_looped n ≡ true → suc m ≤ r.scratch) × ((e : ℕ) → e < n → RecipeFits (record r { scratch = m; element = e }) x)
WayFits r n (decide c a b) zero = ⊥
WayFits r n (decide c a b) (suc d) = TermFits r 32 c × WayFits r n a d × WayFits r n b d
