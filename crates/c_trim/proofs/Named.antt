-- The variables that a text names are kept.
use Rattle.std.proofs.Common.{◌≡◌, List, [], ◌∷◌, ◌++◌, Bool, true, false, ◌||◌, refl, sym, ap, ◌∙◌}
use Rattle.std.specs.Prelude.{map, flat_map}
use Rattle.c_ast.specs.declared.Name.{Name}
use Rattle.c_ast.specs.declared.events.TextEvent.{TextEvent}
use Rattle.c_ast.specs.declared.events.TextEvent.TheVariants as events
use Rattle.c_ast.specs.Syntax.{Block, done, next, Declared, Function, Whole}
use Rattle.c_ast.specs.Events.{statement_events, block_events, declared_event, function_events, main_events, program_events}
use Rattle.c_mean.specs.Texts.{joined}
use Rattle.c_mean.proofs.Memory.{name_same}
use Rattle.c_trim.specs.Trim.{names_event, is_named, is_kept, trimmed}

-- the variables that an event names are kept
abbrev pub KeepsEvent : (Name → Bool) → TextEvent → Type 0
KeepsEvent keep (events.Read x k) = keep x ≡ true
KeepsEvent keep (events.Assign x k) = keep x ≡ true
KeepsEvent keep (events.Loop x n) = keep x ≡ true
KeepsEvent keep _ = Unit {0}

abbrev pub KeepsEvents : (Name → Bool) → List TextEvent → Type 0
KeepsEvents keep [] = Unit {0}
KeepsEvents keep (e ∷ es) = KeepsEvent keep e × KeepsEvents keep es

pub keeps_first : (keep : Name → Bool) (xs ys : List TextEvent) → KeepsEvents keep (xs ++ ys) → KeepsEvents keep xs
keeps_first keep [] ys h = tt
keeps_first keep (x ∷ xs) ys h = (h.0, keeps_first keep xs ys h.1)

pub keeps_second : (keep : Name → Bool) (xs ys : List TextEvent) → KeepsEvents keep (xs ++ ys) → KeepsEvents keep ys
keeps_second keep [] ys h = h
keeps_second keep (x ∷ xs) ys h = keeps_second keep xs ys h.1

pub keeps_both : (keep : Name → Bool) (xs ys : List TextEvent) → KeepsEvents keep xs → KeepsEvents keep ys → KeepsEvents keep (xs ++ ys)
keeps_both keep [] ys h k = k
keeps_both keep (x ∷ xs) ys h k = (h.0, keeps_both keep xs ys h.1 k)

-- of two texts, one behind the other
pub joined_first : (keep : Name → Bool) (a b : Block) → KeepsEvents keep (block_events (joined a b)) → KeepsEvents keep (block_events a)
joined_first keep done b h = tt
joined_first keep (next s a) b h =
    keeps_both keep (statement_events s) (block_events a) (keeps_first keep (statement_events s) (block_events (joined a b)) h)
    (joined_first keep a b (keeps_second keep (statement_events s) (block_events (joined a b)) h))

pub joined_second : (keep : Name → Bool) (a b : Block) → KeepsEvents keep (block_events (joined a b)) → KeepsEvents keep (block_events b)
joined_second keep done b h = h
joined_second keep (next s a) b h = joined_second keep a b (keeps_second keep (statement_events s) (block_events (joined a b)) h)

-- ---- from what is named

or_first : (a b : Bool) → a ≡ true → a || b ≡ true
or_first a b h = ap (λ (t : Bool). t || b) h

or_second : (a b : Bool) → b ≡ true → a || b ≡ true
or_second true b h = refl
or_second false b h = h

from_event : (keep : Name → Bool) (e : TextEvent) → ((x : Name) → names_event x e ≡ true → keep x ≡ true) → KeepsEvent keep e
from_event keep (events.Declare x size) h = tt
from_event keep (events.Function f) h = tt
from_event keep events.Main h = tt
from_event keep (events.Read x k) h = h x (name_same x)
from_event keep (events.Assign x k) h = h x (name_same x)
from_event keep (events.Loop x n) h = h x (name_same x)
from_event keep (events.Call f) h = tt
from_event keep events.If h = tt
from_event keep events.Close h = tt

from_named : (keep : Name → Bool) (es : List TextEvent) → ((x : Name) → is_named es x ≡ true → keep x ≡ true) → KeepsEvents keep es
from_named keep [] h = tt
from_named keep (e ∷ es) h = (
  from_event keep e (λ x q. h x (or_first (names_event x e) (is_named es x) q)),
  from_named keep es (λ x q. h x (or_second (names_event x e) (is_named es x) q)),
)

-- ---- of a program

-- the texts of all functions keep their variables
abbrev pub KeepsBodies : (Name → Bool) → List Function → Type 0
KeepsBodies keep [] = Unit {0}
KeepsBodies keep (f ∷ fs) = KeepsEvents keep (block_events f.body) × KeepsBodies keep fs

pub bodies_first : (keep : Name → Bool) (fs gs : List Function) → KeepsBodies keep (fs ++ gs) → KeepsBodies keep fs
bodies_first keep [] gs h = tt
bodies_first keep (f ∷ fs) gs h = (h.0, bodies_first keep fs gs h.1)

pub bodies_second : (keep : Name → Bool) (fs gs : List Function) → KeepsBodies keep (fs ++ gs) → KeepsBodies keep gs
bodies_second keep [] gs h = h
bodies_second keep (f ∷ fs) gs h = bodies_second keep fs gs h.1

bodies_kept : (keep : Name → Bool) (fs : List Function) → KeepsEvents keep (flat_map function_events fs) → KeepsBodies keep fs
bodies_kept keep [] h = tt
bodies_kept keep (f ∷ fs) h =
    let own = keeps_first keep (function_events f) (flat_map function_events fs) h in
    (keeps_first keep (block_events f.body) (events.Close ∷ []) own.1, bodies_kept keep fs (keeps_second keep (function_events f) (flat_map function_events fs) h))

module _ (p : Whole) where
  abbrev keep : Name → Bool
  keep = is_kept p

  -- what stands behind the declarations
  abbrev pub texts : List TextEvent
  texts = flat_map function_events p.funcs ++ main_events p.main

  pub texts_kept : KeepsEvents keep texts
  texts_kept =
      keeps_second keep (map declared_event p.decls) texts
      (from_named keep (program_events p) (λ x q. q))

  pub functions_kept : KeepsBodies keep p.funcs
  functions_kept = bodies_kept keep p.funcs (keeps_first keep (flat_map function_events p.funcs) (main_events p.main) texts_kept)

  pub main_kept : KeepsEvents keep (block_events p.main)
  main_kept =
      let own = keeps_second keep (flat_map function_events p.funcs) (main_events p.main) texts_kept in
      keeps_first keep (block_events p.main) (events.Close ∷ []) own.1

-- ---- of a program that is trimmed

pub declared_not : (ds : List Declared) (es : List TextEvent) (x : Name) → is_named (map declared_event ds ++ es) x ≡ is_named es x
declared_not [] es x = refl
declared_not (d ∷ ds) es x = declared_not ds es x

-- its texts name the same
pub kept_again : (p : Whole) (x : Name) → is_kept (trimmed p) x ≡ is_kept p x
kept_again p x = declared_not (trimmed p).decls (texts p) x ∙ sym (declared_not p.decls (texts p) x)
