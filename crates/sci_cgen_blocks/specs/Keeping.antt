-- Texts that keep the static rules of the subset, statement by statement: each name is used as what it is declared as, and nothing is assigned that
-- is the counter or the bound of an open loop.
use Rattle.std.specs.Prelude.{◌≡◌, ℕ, ◌<◌, ◌≤◌, List, [], ◌∷◌, ◌++◌, length, Option, Some, Bool, true, false}
use Rattle.std.specs.List.{list_any}
use Rattle.c_ast.specs.declared.Name.{Name}
use Rattle.c_ast.specs.declared.Bound.{Bound}
use Rattle.c_ast.specs.declared.Bound.TheVariants as bounds
use Rattle.c_ast.specs.declared.events.NameKind.{NameKind}
use Rattle.c_ast.specs.declared.events.Opened.{Opened}
use Rattle.c_ast.specs.declared.events.Opened.TheVariants.{Branch, Turn}
use Rattle.c_ast.specs.Syntax.{Exp, num, var, element, neg, not, bin, Place, scalar, cell, Asked, more, input, until, limit, Told, start, event, value, finish, stop, Statement, set, ask, choice, loop, call, tell, Block, done, next}
use Rattle.c_ast.specs.Rules.{Routine, Scope, kind_in, routine_in, same_name, is_scalar, is_array, is_hit, is_guarded, is_among}
use Rattle.sci_cgen_blocks.specs.Texts.{values, states, masks, scratch_name}

-- What a text finds: what each name is declared as, the functions that stand earlier; and which names it may assign, and how deep its calls may be.
pub record Scene : Type 0 where
  pub kinds : Name → Option NameKind
  pub routines : Name → Option Routine
  pub may : Name → Bool
  pub depth : ℕ

abbrev pub IsScalar : Scene → Name → Type 0
IsScalar c x = is_scalar (c.kinds x) ≡ true

abbrev pub IsArray : Scene → Name → Type 0
IsArray c x = is_array (c.kinds x) ≡ true

-- what an expression reads
abbrev pub ReadsWell : Scene → Exp → Type 0
ReadsWell c (num z) = Unit {0}
ReadsWell c (var x) = IsScalar c x
ReadsWell c (element x e) = IsArray c x × ReadsWell c e
ReadsWell c (neg e) = ReadsWell c e
ReadsWell c (not e) = ReadsWell c e
ReadsWell c (bin op a b) = ReadsWell c a × ReadsWell c b

-- a name may be assigned where these blocks are open
abbrev pub MayAssign : Scene → List Opened → Name → Type 0
MayAssign c opens x = (c.may x ≡ true) × (is_guarded opens x ≡ false)

abbrev pub AssignsWell : Scene → List Opened → Place → Type 0
AssignsWell c opens (scalar x) = IsScalar c x × MayAssign c opens x
AssignsWell c opens (cell x e) = IsArray c x × MayAssign c opens x × ReadsWell c e

abbrev pub AsksWell : Scene → Asked → Type 0
AsksWell c (more e) = ReadsWell c e
AsksWell c (input e) = ReadsWell c e
AsksWell c until = Unit {0}
AsksWell c limit = Unit {0}

abbrev pub TellsWell : Scene → Told → Type 0
TellsWell c start = Unit {0}
TellsWell c (event x y z) = ReadsWell c x × ReadsWell c y × ReadsWell c z
TellsWell c (value x y z v) = ReadsWell c x × ReadsWell c y × ReadsWell c z × ReadsWell c v
TellsWell c (finish x) = ReadsWell c x
TellsWell c (stop x y z) = ReadsWell c x × ReadsWell c y × ReadsWell c z

-- the bound of the loop of a counter
abbrev pub IsBoundWell : Scene → Name → Bound → Type 0
IsBoundWell c x (bounds.Num z) = Unit {0}
IsBoundWell c x (bounds.Var y) = IsScalar c y × (same_name x y ≡ false)

pub record CallsWell (c : Scene) (opens : List Opened) (f : Name) : Type 0 where
  pub routine : Routine
  pub is : c.routines f ≡ Some routine
  pub apart : list_any (is_hit (is_among routine.assigns)) opens ≡ false
  pub assigns : (x : Name) → is_among routine.assigns x ≡ true → c.may x ≡ true
  pub depth : routine.depth < c.depth

abbrev mutual
  pub StatementKeeps : Scene → List Opened → Statement → Type 0
  StatementKeeps c opens (set p e) = AssignsWell c opens p × ReadsWell c e
  StatementKeeps c opens (ask p a) = AssignsWell c opens p × AsksWell c a
  StatementKeeps c opens (choice e a b) = ReadsWell c e × BlockKeeps c (opens ++ Branch ∷ []) a × BlockKeeps c (opens ++ Branch ∷ []) b
  StatementKeeps c opens (loop x n s) = IsScalar c x × MayAssign c opens x × IsBoundWell c x n × BlockKeeps c (opens ++ Turn x n ∷ []) s
  StatementKeeps c opens (call f) = CallsWell c opens f
  StatementKeeps c opens (tell t) = TellsWell c t

  pub BlockKeeps : Scene → List Opened → Block → Type 0
  BlockKeeps c opens done = Unit {0}
  BlockKeeps c opens (next s b) = StatementKeeps c opens s × BlockKeeps c opens b

-- a scope has what a text finds, and these blocks are open
pub record StandsIn (c : Scene) (opens : List Opened) (s : Scope) : Type 0 where
  pub scalars : (x : Name) → IsScalar c x → is_scalar (kind_in s.declared x) ≡ true
  pub arrays : (x : Name) → IsArray c x → is_array (kind_in s.declared x) ≡ true
  pub routines : (f : Name) (r : Routine) → c.routines f ≡ Some r → routine_in s.routines f ≡ Some r
  pub blocks : s.blocks ≡ opens
  pub within : 1 ≤ length opens

-- ---- where a block's texts stand

-- The arrays of values and states, that of masks where the text looks at the block's, and the scratch numbers t1 to tk, are declared as such. Nothing else is
-- read by a block's texts.
pub record HasBlockNames (c : Scene) (looks : Bool) (k : ℕ) : Type 0 where
  pub values : IsArray c values
  pub states : IsArray c states
  pub masks : looks ≡ true → IsArray c masks
  pub scratch : (n : ℕ) → 1 ≤ n → n ≤ k → IsScalar c (scratch_name n)

-- scratch and states may be assigned
pub record MayStep (c : Scene) (opens : List Opened) (k : ℕ) : Type 0 where
  pub states : MayAssign c opens states
  pub scratch : (n : ℕ) → 1 ≤ n → n ≤ k → MayAssign c opens (scratch_name n)

-- scratch and values may be assigned
pub record MayWork (c : Scene) (opens : List Opened) (k : ℕ) : Type 0 where
  pub values : MayAssign c opens values
  pub scratch : (n : ℕ) → 1 ≤ n → n ≤ k → MayAssign c opens (scratch_name n)
