-- The laws of runs, for every environment, number and world. None says that two runs at different numbers are the same.
use Rattle.std.specs.Prelude.{◌≡◌, ℕ, suc, ◌<◌, ◌≤ℤ◌, ◌^◌, ℤ, pos, negsuc, ◌+ℤ◌, ◌-ℤ◌, ◌*ℤ◌, neg_ℤ, int_div, int_rem, int_lt, int_le, nat_lt, List, [], ◌∷◌, ◌++◌, Some, None, Bool, true, false, ◌&&◌, ◌||◌, not, slice_get, if◌then◌else◌}
use Rattle.sci_base.specs.declared.observation.Obs.{Obs}
use Rattle.sci_base.specs.declared.observation.Obs.TheVariants as observed
use Rattle.sci_base.specs.declared.observation.EndWord.{EndWord}
use Rattle.sci_base.specs.declared.observation.StopWord.{StopWord}
use Rattle.c_ast.specs.declared.Name.{Name}
use Rattle.c_ast.specs.declared.Bound.{Bound}
use Rattle.c_ast.specs.declared.Op.TheVariants.{Add, Sub, Mul, Div, Rem, Lt, Le, Gt, Ge, Eq, Ne, And, Or}
use Rattle.c_ast.specs.Syntax.{Exp, neg, not as denied, bin, element, Place, more, input, until, limit, start, event, value, finish, stop, set, ask, choice, loop, call, tell, Block, next, Function, Whole}
use Rattle.c_mean.specs.Meaning.{World, is_zero, truth, column, has_left, bound_value, turn_count, end_word, stop_word, Ran, quietly, going, behind, then_run, turns, count_up, one_turn, Around, run_block, first_world, meaning}
use Rattle.c_mean.specs.Places.{get, put, value_of, HasValue, IsAt, Has, Puts, Takes}
use Rattle.c_mean.specs.Texts.{number, reads_only, joined, May, block_within}
use Rattle.c_mean.specs.Runs.{Stops, Ends, Leaves, LeaveCalls}
use Rattle.c_mean.specs.Programs.{surroundings, is_defined, functions_within, places}

-- A run goes on with this text, from a world of which P holds.
pub record GoesOn (env : Around) (rest : Block) (P : World → Type 0) (r : Ran) : Type 0 where
  pub number : ℕ
  pub to : World
  pub is : r ≡ run_block env number rest to
  pub holds : P to

-- The same, where these were observed first.
pub record ShowsFirst (env : Around) (rest : Block) (w : World) (seen : List Obs) (r : Ran) : Type 0 where
  pub number : ℕ
  pub is : r ≡ behind seen (run_block env number rest w)

-- ---- memory

-- a place that is there can be written, and every other read stays
abbrev pub PutLaw : Type 0
PutLaw = (w : World) (x : Name) (i : ℕ) (v : ℤ) → Has w x i → (w' : World) × ((put w x i v ≡ Some w') × Puts w x i v w')

-- ---- statements

abbrev pub SetLaw : Type 0
SetLaw =
    (env : Around) (n : ℕ) (p : Place) (e : Exp) (rest : Block) (w : World) (x : Name) (i : ℕ) (v : ℤ) → IsAt p w x i → HasValue e w v → Has w x i →
    GoesOn env rest (Puts w x i v) (run_block env n (next (set p e) rest) w)

pub record AskLaw : Type 0 where
  pub more : (env : Around) (n : ℕ) (p : Place) (e : Exp) (rest : Block) (w : World) (x : Name) (i : ℕ) (c : ℤ) → IsAt p w x i → HasValue e w c → Has w x i
      → GoesOn env rest (Puts w x i (truth (has_left (column w.left c)))) (run_block env n (next (ask p (more e)) rest) w)
  -- columns are counted from 1, and c from 0
  pub input : (env : Around) (n : ℕ) (p : Place) (e : Exp) (rest : Block) (w : World) (x : Name) (i c : ℕ) (v : ℤ) (vs : List ℤ) → IsAt p w x i
      → HasValue e w (pos (suc c)) → slice_get w.left c ≡ Some (v ∷ vs) → Has w x i
      → GoesOn env rest (Takes w x i c v vs) (run_block env n (next (ask p (input e)) rest) w)
  pub until : (env : Around) (n : ℕ) (p : Place) (rest : Block) (w : World) (x : Name) (i : ℕ) → IsAt p w x i → Has w x i
      → GoesOn env rest (Puts w x i env.until) (run_block env n (next (ask p until) rest) w)
  pub limit : (env : Around) (n : ℕ) (p : Place) (rest : Block) (w : World) (x : Name) (i : ℕ) → IsAt p w x i → Has w x i
      → GoesOn env rest (Puts w x i env.limit) (run_block env n (next (ask p limit) rest) w)

-- by the truth of the test
abbrev pub ChoiceLaw : Type 0
ChoiceLaw =
    (env : Around) (n : ℕ) (e : Exp) (a b rest : Block) (w : World) (t : Bool) → HasValue e w (truth t) →
    (k : ℕ) × (l : ℕ) × (m : ℕ) ×
    (run_block env n (next (choice e a b) rest) w ≡ then_run (if t then run_block env k a w else run_block env l b w) (run_block env m rest))

abbrev pub CallLaw : Type 0
CallLaw =
    (env : Around) (n : ℕ) (f : Name) (rest : Block) (w : World) (run : World → Ran) → env.calls f ≡ Some run →
    (k : ℕ) × (run_block env n (next (call f) rest) w ≡ then_run (run w) (run_block env k rest))

pub record TellLaw : Type 0 where
  pub start : (env : Around) (n : ℕ) (rest : Block) (w : World) → ShowsFirst env rest w (observed.Start ∷ []) (run_block env n (next (tell start) rest) w)
  pub event : (env : Around) (n : ℕ) (a b c : Exp) (rest : Block) (w : World) (x y z : ℤ) → HasValue a w x → HasValue b w y → HasValue c w z
      → ShowsFirst env rest w (observed.Event x y z ∷ []) (run_block env n (next (tell (event a b c)) rest) w)
  pub value : (env : Around) (n : ℕ) (a b c d : Exp) (rest : Block) (w : World) (x y z v : ℤ) → HasValue a w x → HasValue b w y → HasValue c w z
      → HasValue d w v → ShowsFirst env rest w (observed.Val x y z v ∷ []) (run_block env n (next (tell (value a b c d)) rest) w)
  -- these end the run
  pub finish : (env : Around) (n : ℕ) (a : Exp) (rest : Block) (w : World) (z : ℤ) (word : EndWord) → HasValue a w z → end_word z ≡ Some word
      → Ends (run_block env n (next (tell (finish a)) rest) w) word
  pub stop : (env : Around) (n : ℕ) (a b c : Exp) (rest : Block) (w : World) (z : ℤ) (word : StopWord) (block : ℕ) → HasValue a w z → stop_word z ≡ Some word
      → HasValue b w (pos block) → HasValue c w (pos 0) → Stops (run_block env n (next (tell (stop a b c)) rest) w) word block

-- The counter begins at 0, the turns follow, as many as the bound says before the first, and then the rest.
abbrev pub LoopLaw : Type 0
LoopLaw =
    (env : Around) (n : ℕ) (x : Name) (b : Bound) (body rest : Block) (w : World) (v : ℤ) → bound_value b w.slots ≡ Some v → Has w x 0 →
    (k : ℕ) × (m : ℕ) × (w' : World) × Puts w x 0 (pos 0) w' ×
    (run_block env n (next (loop x b body) rest) w ≡ then_run (turns (turn_count v) (one_turn env k x body) w') (run_block env m rest))

-- and behind each turn the counter goes up
abbrev pub CountLaw : Type 0
CountLaw =
    (n : ℕ) (x : Name) (w : World) (i : ℕ) → get w x 0 ≡ Some (pos i) → suc i < 2 ^ 63 →
    (w' : World) × ((count_up n x w ≡ quietly (going w')) × Puts w x 0 (pos (suc i)) w')

-- ---- texts

-- joined texts run one behind the other
abbrev pub JoinedLaw : Type 0
JoinedLaw = (env : Around) (n : ℕ) (a b : Block) (w : World) → (k : ℕ) × (run_block env n (joined a b) w ≡ then_run (run_block env n a w) (run_block env k b))

-- A text does no more than it may: it leaves every name as it was that it doesn't assign, what is there stays there, no input is taken where
-- nothing may be taken, and nothing is observed where nothing may be shown.
abbrev pub LeavesLaw : Type 0
LeavesLaw =
    (env : Around) (may : May) (b : Block) → LeaveCalls may env → block_within may b ≡ true → (n : ℕ) (w : World) → Leaves may w (run_block env n b w)

-- Functions do no more than they may, whichever of them are called.
abbrev pub CallsLeaveLaw : Type 0
CallsLeaveLaw = (may : May) (fs : List Function) (last most : ℤ) → functions_within may fs ≡ true → LeaveCalls may (surroundings fs last most)

-- ---- values

-- in the range of int64_t
pub record Within (z : ℤ) : Type 0 where
  pub above : negsuc 9223372036854775807 ≤ℤ z
  pub below : z ≤ℤ pos 9223372036854775807

-- operators on values, where a result in range is asked for
pub record ArithmeticLaw : Type 0 where
  pub number : (z : ℤ) (w : World) → Within z → HasValue (number z) w z
  pub element : (a : Name) (e : Exp) (w : World) (i : ℕ) (v : ℤ) → HasValue e w (pos i) → get w a i ≡ Some v → HasValue (element a e) w v
  pub neg : (a : Exp) (w : World) (x : ℤ) → HasValue a w x → Within (neg_ℤ x) → HasValue (neg a) w (neg_ℤ x)
  pub add : (a b : Exp) (w : World) (x y : ℤ) → HasValue a w x → HasValue b w y → Within (x +ℤ y) → HasValue (bin Add a b) w (x +ℤ y)
  pub sub : (a b : Exp) (w : World) (x y : ℤ) → HasValue a w x → HasValue b w y → Within (x -ℤ y) → HasValue (bin Sub a b) w (x -ℤ y)
  pub mul : (a b : Exp) (w : World) (x y : ℤ) → HasValue a w x → HasValue b w y → Within (x *ℤ y) → HasValue (bin Mul a b) w (x *ℤ y)
  pub div : (a b : Exp) (w : World) (x y : ℤ) → HasValue a w x → HasValue b w y → is_zero y ≡ false → Within (int_div x y)
      → HasValue (bin Div a b) w (int_div x y)
  pub rem : (a b : Exp) (w : World) (x y : ℤ) → HasValue a w x → HasValue b w y → is_zero y ≡ false → Within (int_div x y)
      → HasValue (bin Rem a b) w (int_rem x y)

pub record TruthLaw : Type 0 where
  pub lt : (a b : Exp) (w : World) (x y : ℤ) → HasValue a w x → HasValue b w y → HasValue (bin Lt a b) w (truth (int_lt x y))
  pub le : (a b : Exp) (w : World) (x y : ℤ) → HasValue a w x → HasValue b w y → HasValue (bin Le a b) w (truth (int_le x y))
  pub gt : (a b : Exp) (w : World) (x y : ℤ) → HasValue a w x → HasValue b w y → HasValue (bin Gt a b) w (truth (int_lt y x))
  pub ge : (a b : Exp) (w : World) (x y : ℤ) → HasValue a w x → HasValue b w y → HasValue (bin Ge a b) w (truth (int_le y x))
  pub eq : (a b : Exp) (w : World) (x y : ℤ) → HasValue a w x → HasValue b w y → HasValue (bin Eq a b) w (truth (int_le x y && int_le y x))
  pub ne : (a b : Exp) (w : World) (x y : ℤ) → HasValue a w x → HasValue b w y → HasValue (bin Ne a b) w (truth (not (int_le x y && int_le y x)))
  -- the right side is asked for where the left doesn't decide
  pub both : (a b : Exp) (w : World) (s t : Bool) → HasValue a w (truth s) → (s ≡ true → HasValue b w (truth t)) → HasValue (bin And a b) w (truth (s && t))
  pub either : (a b : Exp) (w : World) (s t : Bool) → HasValue a w (truth s) → (s ≡ false → HasValue b w (truth t)) → HasValue (bin Or a b) w (truth (s || t))
  pub none : (a : Exp) (w : World) (t : Bool) → HasValue a w (truth t) → HasValue (denied a) w (truth (not t))
  pub zero : (a : Exp) (w : World) (x : ℤ) → HasValue a w x → HasValue (denied a) w (truth (is_zero x))

-- where what it reads is the same, an expression has the same value
abbrev pub ValueStays : Type 0
ValueStays =
    (names : Name → Bool) (e : Exp) (w w' : World) → reads_only names e ≡ true → ((x : Name) (i : ℕ) → names x ≡ true → get w' x i ≡ get w x i) →
    value_of e w' ≡ value_of e w

-- ---- whole programs

pub record ProgramLaw : Type 0 where
  -- a call is the body of the last function of this name, in the surroundings of those before it
  pub call : (before : List Function) (f : Function) (behind : List Function) (last most : ℤ) → is_defined f.name behind ≡ false
      → (n : ℕ) × ((surroundings (before ++ f ∷ behind) last most).calls f.name ≡ Some (run_block (surroundings before last most) n f.body))
  -- and later functions of other names change none
  pub stay : (f : Name) (fs gs : List Function) (last most : ℤ) → is_defined f gs ≡ false
      → (surroundings (fs ++ gs) last most).calls f ≡ (surroundings fs last most).calls f
  pub main : (p : Whole) (columns : List (List ℤ)) (last most : ℤ)
      → (n : ℕ) × (meaning p columns last most ≡ run_block (surroundings p.funcs last most) n p.main (first_world p columns))
  -- at the beginning each declared variable is 0 at each of its places, nothing else is there, and all input is left
  pub first : (p : Whole) (columns : List (List ℤ)) (x : Name) (i : ℕ)
      → get (first_world p columns) x i ≡ (if nat_lt i (places p.decls x) then Some (pos 0) else None)
  pub left : (p : Whole) (columns : List (List ℤ)) → (first_world p columns).left ≡ columns
