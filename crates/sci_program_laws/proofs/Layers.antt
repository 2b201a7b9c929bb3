-- Programs of functions in layers keep the static rules: functions that call none, functions that call those, functions that call either, and sci_main.
use Rattle.std.proofs.Common.{◌≡◌, ℕ, ◌+◌, ◌≤◌, List, [], ◌∷◌, ◌++◌, Option, Some, None, Bool, true, false, refl, sym, ap, ◌∙◌, subst, arith, true≢false, append_assoc, if◌then◌else◌, nat_lt}
use Rattle.std.specs.Prelude.{map, is_some}
use Rattle.std.specs.List.{flat_map}
use Rattle.std.proofs.lemmas.Grind.{flat_map-append}
use Rattle.std.proofs.lemmas.Bool.{cond-true, cond-false}
use Rattle.std.proofs.lemmas.Bool.Decides.{nat_tests}
use Rattle.c_ast.specs.declared.Name.{Name}
use Rattle.c_ast.specs.declared.events.NameKind.{NameKind}
use Rattle.c_ast.specs.declared.events.NameKind.TheVariants as kinds
use Rattle.c_ast.specs.declared.events.TextEvent.{TextEvent}
use Rattle.c_ast.specs.declared.events.Opened.TheVariants.{Branch}
use Rattle.c_ast.specs.Syntax.{Block, Declared, Function}
use Rattle.c_ast.specs.Events.{declared_event, function_events, main_events}
use Rattle.c_ast.specs.Rules.{same_name, Routine, Scope, outset, kind_in, routine_in, is_scalar, is_array, elements_of, is_too_large, kind_of, behind, KeepsRules}
use Rattle.c_mean.proofs.Memory.{name_eq, name_same}
use Rattle.sci_cgen_blocks.specs.Keeping.{Scene, BlockKeeps}
use Rattle.sci_cgen_blocks.proofs.Rules.{IsBlameless, StandsBefore, IsBehind, unblamed, some_if, either_false, function_keeps, main_keeps}
use Rattle.sci_cgen_blocks.proofs.WholeRules.{declaring, AreNew, sizes, AreNewFunctions, declaring_functions, IsKnown, AreKnown, AllKeep, scene}

-- ---- declarations

not_too_large : (sum : ℕ) (size : Option ℕ) → sum + elements_of size ≤ 16777216 → is_too_large sum size ≡ false
not_too_large sum None h = refl
not_too_large sum (Some n) h = by_sum (sum + n) h
  where
    by_sum : (m : ℕ) → m ≤ 16777216 → nat_lt 16777216 m ≡ false
    by_sum m h = grind (arith, nat_tests)

declared_keep : (ds : List Declared) (s : Scope) → AreNew ds s.declared → s.elements + sizes ds ≤ 16777216 → (rest : List TextEvent)
    → IsBlameless (record s { declared = declaring ds s.declared; elements = s.elements + sizes ds }) rest → IsBlameless s (map declared_event ds ++ rest)
declared_keep [] s fresh few rest go = subst (λ (n : ℕ). IsBlameless (record s { elements = n }) rest) (omega arith) go
declared_keep (d ∷ ds) s fresh few rest go =
    unblamed s (declared_event d) (map declared_event ds ++ rest)
    (λ i. some_if i _ (either_false _ _ (ap is_some fresh.0) (not_too_large s.elements d.size (omega (arith, few)))))
    (λ i. declared_keep ds (behind i s (declared_event d)) fresh.1 (omega (arith, few)) rest
    (subst (λ (n : ℕ). IsBlameless (record s { declared = declaring ds ((d.name, kind_of d.size) ∷ s.declared); elements = n }) rest) (omega arith) go)
    (i + 1))

-- ---- functions

-- Between functions: functions that have ended are declared.
record IsBetween (c : Scene) (s : Scope) : Type 0 where
  pub stands : StandsBefore c s
  pub declared : (f : Name) (r : Routine) → routine_in s.routines f ≡ Some r → kind_in s.declared f ≡ None → ⊥

-- what was known of functions stays known
record Remembers (s s' : Scope) : Type 0 where
  pub routines : (f : Name) (r : Routine) → routine_in s.routines f ≡ Some r → routine_in s'.routines f ≡ Some r

known_on : (may : Name → Bool) (depth : ℕ) (s s' : Scope) (f : Name) → Remembers s s' → IsKnown may depth (routine_in s.routines) f
    → IsKnown may depth (routine_in s'.routines) f
known_on may depth s s' f m k = record { routine = k.routine; is = m.routines f k.routine k.is; assigns = k.assigns; deep = k.deep }

module _ (c : Scene) (most : c.depth ≤ 64) (least : 1 ≤ c.depth) where
  module _ (f : Function) (s t : Scope) (between : IsBetween c s) (new : kind_in s.declared f.name ≡ None) (b : IsBehind c f s t) where
    remembered : Remembers s t
    remembered = record {
      routines = λ g r h. ap (λ (l : List Routine). routine_in l g) b.routines ∙ by_name g r h (same_name b.routine.name g) refl;
    }
      where
        by_name : (g : Name) (r : Routine) → routine_in s.routines g ≡ Some r → (test : Bool) → same_name b.routine.name g ≡ test
            → (if test then Some b.routine else routine_in s.routines g) ≡ Some r
        by_name g r h true e =
            absurd (between.declared g r h (subst (λ (x : Name). kind_in s.declared x ≡ None) (sym b.named ∙ name_eq b.routine.name g e) new))
        by_name g r h false e = h

    this_known : IsKnown c.may c.depth (routine_in t.routines) f.name
    this_known = record {
      routine = b.routine;
      is = ap (λ (l : List Routine). routine_in l f.name) b.routines
          ∙ cond-true (same_name b.routine.name f.name) (Some b.routine) (routine_in s.routines f.name)
          (subst (λ (x : Name). same_name b.routine.name x ≡ true) b.named (name_same b.routine.name));
      assigns = b.assigns;
      deep = b.depth;
    }

    kind_kept : (x : Name) (test : Option NameKind → Bool) → test None ≡ false → test (kind_in s.declared x) ≡ true → test (kind_in t.declared x) ≡ true
    kind_kept x test out h = ap (λ (l : List (Name × NameKind)). test (kind_in l x)) b.declared ∙ by_name (same_name f.name x) refl
      where
        by_name : (q : Bool) → same_name f.name x ≡ q → test (if q then Some kinds.Function else kind_in s.declared x) ≡ true
        by_name true e = absurd (true≢false (sym h ∙ (ap test (subst (λ (y : Name). kind_in s.declared y ≡ None) (name_eq f.name x e) new) ∙ out)))
        by_name false e = h

    -- a name that isn't declared behind the function was not declared before, and is another
    not_before : (g : Name) → kind_in t.declared g ≡ None → (same_name f.name g ≡ false) × (kind_in s.declared g ≡ None)
    not_before g h = by_name (same_name f.name g) refl (ap (λ (l : List (Name × NameKind)). kind_in l g) (sym b.declared) ∙ h)
      where
        by_name : (q : Bool) → same_name f.name g ≡ q → (if q then Some kinds.Function else kind_in s.declared g) ≡ None
            → (same_name f.name g ≡ false) × (kind_in s.declared g ≡ None)
        by_name true e h = cc
        by_name false e h = (e, h)

    between_on : IsBetween c t
    between_on = record {
      stands = record {
        scalars = λ x h. kind_kept x is_scalar refl (between.stands.scalars x h);
        arrays = λ x h. kind_kept x is_array refl (between.stands.arrays x h);
        routines = λ g r h. remembered.routines g r (between.stands.routines g r h);
        blocks = b.blocks;
      };
      declared = λ g r h none. let n = not_before g none in
          by_name g r (ap (λ (l : List Routine). routine_in l g) (sym b.routines) ∙ h) n.1 (same_name b.routine.name g) refl n.0;
    }
      where
        by_name : (g : Name) (r : Routine) → (if same_name b.routine.name g then Some b.routine else routine_in s.routines g) ≡ Some r
            → kind_in s.declared g ≡ None → (q : Bool) → same_name b.routine.name g ≡ q → same_name f.name g ≡ false → ⊥
        by_name g r h none true e other = true≢false (sym (subst (λ (x : Name). same_name x g ≡ true) b.named e) ∙ other)
        by_name g r h none false e other =
            between.declared g r (sym (cond-false (same_name b.routine.name g) (Some b.routine) (routine_in s.routines g) e) ∙ h) none

  -- Functions whose bodies keep the rules are not blamed.
  functions_keep : (fs : List Function) (s : Scope) → IsBetween c s → AreNewFunctions fs s.declared → AllKeep c fs → (rest : List TextEvent)
      → ((t : Scope) → IsBetween c t → Remembers s t → AreKnown c.may c.depth (routine_in t.routines) fs → t.declared ≡ declaring_functions fs s.declared
      → t.elements ≡ s.elements → IsBlameless t rest)
      → IsBlameless s (flat_map function_events fs ++ rest)
  functions_keep [] s between new keep rest go = go s between (record { routines = λ f r h. h }) tt refl refl
  functions_keep (f ∷ fs) s between new keep rest go =
      subst (IsBlameless s) (sym (append_assoc (function_events f) (flat_map function_events fs) rest))
      (function_keeps c s between.stands f new.0 keep.0 most least (flat_map function_events fs ++ rest) (λ t b.
      functions_keep fs t (between_on f s t between new.0 b) (subst (AreNewFunctions fs) (sym b.declared) new.1) keep.1 rest (λ u q m known d e.
      go u q (record { routines = λ g r h. m.routines g r ((remembered f s t between new.0 b).routines g r h) })
      (known_on c.may c.depth t u f.name m (this_known f s t between new.0 b), known) (d ∙ ap (declaring_functions fs) b.declared) (e ∙ b.elements))))

-- ---- programs

stands_between : (c : Scene) (ds : List Declared) (may : Name → Bool) (depth : ℕ) (s : Scope) → c.kinds ≡ kind_in (declaring ds []) → IsBetween c s
    → IsBetween (scene ds (routine_in s.routines) may depth) s
stands_between c ds may depth s e b = record {
  stands = record {
    scalars = λ x h. b.stands.scalars x (ap (λ (k : Name → Option NameKind). is_scalar (k x)) e ∙ h);
    arrays = λ x h. b.stands.arrays x (ap (λ (k : Name → Option NameKind). is_array (k x)) e ∙ h);
    routines = λ f r h. h;
    blocks = b.stands.blocks;
  };
  declared = b.declared;
}

known_all : (may : Name → Bool) (depth : ℕ) (s t : Scope) (fs : List Function) → Remembers s t → AreKnown may depth (routine_in s.routines) fs
    → AreKnown may depth (routine_in t.routines) fs
known_all may depth s t [] m k = tt
known_all may depth s t (f ∷ fs) m k = (known_on may depth s t f.name m k.0, known_all may depth s t fs m k.1)

abbrev any_name : Name → Bool
any_name x = true

-- A program of variables of different names, functions that call none, functions that call those, functions that call either, and sci_main keeps the rules
-- where all its bodies do. The functions assign no more than they may.
pub program_keeps : (ds : List Declared) (first second third : List Function) (main : Block) (may : Name → Bool) → AreNew ds [] → sizes ds ≤ 16777216
    → AreNewFunctions first (declaring ds []) → AreNewFunctions second (declaring_functions first (declaring ds []))
    → AreNewFunctions third (declaring_functions second (declaring_functions first (declaring ds [])))
    → ((routines : Name → Option Routine) → AllKeep (scene ds routines may 1) first)
    → ((routines : Name → Option Routine) → AreKnown may 1 routines first → AllKeep (scene ds routines may 2) second)
    → ((routines : Name → Option Routine) → AreKnown may 1 routines first → AreKnown may 2 routines second → AllKeep (scene ds routines may 3) third)
    → ((routines : Name → Option Routine) → AreKnown may 1 routines first → AreKnown may 2 routines second → AreKnown may 3 routines third
    → BlockKeeps (scene ds routines any_name 64) (Branch ∷ []) main)
    → KeepsRules (record { decls = ds; funcs = (first ++ second) ++ third; main = main })
program_keeps ds first second third main may new few new_first new_second new_third keep_first keep_second keep_third keep_main =
    declared_keep ds outset new (omega (arith, few)) (flat_map function_events ((first ++ second) ++ third) ++ main_events main)
    (subst (IsBlameless begun) (sym arranged)
    (functions_keep (scene ds (routine_in begun.routines) may 1) (omega arith) (omega arith) first begun begins new_first
    (keep_first (routine_in begun.routines))
    (flat_map function_events second ++ (flat_map function_events third ++ main_events main)) (λ s b m known d e.
    functions_keep (scene ds (routine_in s.routines) may 2) (omega arith) (omega arith) second s
    (stands_between (scene ds (routine_in begun.routines) may 1) ds may 2 s refl b) (subst (AreNewFunctions second) (sym d) new_second)
    (keep_second (routine_in s.routines) known) (flat_map function_events third ++ main_events main) (λ t q n after d' e'.
    functions_keep (scene ds (routine_in t.routines) may 3) (omega arith) (omega arith) third t
    (stands_between (scene ds (routine_in s.routines) may 2) ds may 3 t refl q)
    (subst (AreNewFunctions third) (sym (d' ∙ ap (declaring_functions second) d)) new_third)
    (keep_third (routine_in t.routines) (known_all may 1 s t first n known) after) (main_events main) (λ u r l last d'' e''.
    main_keeps (scene ds (routine_in u.routines) any_name 64) u
    (stands_between (scene ds (routine_in t.routines) may 3) ds any_name 64 u refl r).stands main
    (keep_main (routine_in u.routines) (known_all may 1 t u first l (known_all may 1 s t first n known)) (known_all may 2 t u second l after) last)))))) 0
  where
    begun : Scope
    begun = record outset { declared = declaring ds []; elements = 0 + sizes ds }

    begins : IsBetween (scene ds (routine_in begun.routines) may 1) begun
    begins = record {
      stands = record { scalars = λ x h. h; arrays = λ x h. h; routines = λ f r h. h; blocks = refl };
      declared = λ f r h none. none_some r h;
    }
      where
        none_some : (r : Routine) → None ≡ Some r → ⊥
        none_some r e = cc

    arranged : flat_map function_events ((first ++ second) ++ third) ++ main_events main
        ≡ flat_map function_events first ++ (flat_map function_events second ++ (flat_map function_events third ++ main_events main))
    arranged =
        ap (λ (l : List TextEvent). l ++ main_events main) (flat_map-append function_events (first ++ second) third)
        ∙ (append_assoc (flat_map function_events (first ++ second)) (flat_map function_events third) (main_events main)
        ∙ (ap (λ (l : List TextEvent). l ++ (flat_map function_events third ++ main_events main)) (flat_map-append function_events first second)
        ∙ append_assoc (flat_map function_events first) (flat_map function_events second) (flat_map function_events third ++ main_events main)))
