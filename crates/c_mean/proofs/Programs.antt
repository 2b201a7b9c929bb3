-- What calls mean, and the world at the beginning.
use Rattle.std.proofs.Common.{◌≡◌, ℕ, ◌<◌, List, [], ◌∷◌, ◌++◌, map, replicate, Some, None, Bool, true, false, not, true≢false, ◌&&◌, ◌||◌, refl, sym, ap, ◌∙◌, arith, subst, ℤ, pos, nat_lt, slice_get, if◌then◌else◌, lt-ltb, ltb-false, ltb-true}
use Rattle.std.proofs.lemmas.Bool.{cond-true, cond-false, or_parts, and_from}
use Rattle.std.proofs.lemmas.List.{length-replicate, get_or-replicate}
use Rattle.std.proofs.lemmas.Option.{slice_get-get_or, slice_get_past}
use Rattle.c_ast.specs.declared.Name.{Name}
use Rattle.c_ast.specs.Syntax.{Declared, Function, Whole}
use Rattle.c_mean.specs.Meaning.{World, Ran, same_name, lookup, run_block, around, calls_of, Numbered, numbered, later, block_count, behind_functions, elements_of, first_slot, first_world, meaning}
use Rattle.c_mean.specs.Places.{get}
use Rattle.c_mean.proofs.Memory.{name_same, name_eq, and_left, and_right}
use Rattle.c_mean.proofs.Frames.{block_leaves}
use Rattle.c_mean.specs.Texts.{May, block_within}
use Rattle.c_mean.specs.Runs.{Leaves, LeaveCalls}
use Rattle.c_mean.specs.Programs.{surroundings, is_defined, functions_within, places}

-- ---- calls

numbered_joined : (n : ℕ) (fs gs : List Function) (before : List Numbered)
    → numbered n (fs ++ gs) before ≡ numbered (behind_functions n fs) gs (numbered n fs before)
numbered_joined n [] gs before = refl
numbered_joined n (f ∷ fs) gs before = numbered_joined (later n (block_count f.body)) fs gs (record { name = f.name; first = n; body = f.body } ∷ before)

-- later functions of other names change no call
passed_by : (f : Name) (n : ℕ) (gs : List Function) (before : List Numbered) (last most : ℤ) → is_defined f gs ≡ false
    → calls_of (numbered n gs before) last most f ≡ calls_of before last most f
passed_by f n [] before last most h = refl
passed_by f n (g ∷ gs) before last most h =
    let both = or_parts (same_name g.name f) (is_defined f gs) h in
    passed_by f (later n (block_count g.body)) gs (record { name = g.name; first = n; body = g.body } ∷ before) last most both.1
    ∙ cond-false (same_name g.name f) _ (calls_of before last most f) both.0

pub calls_stay : (f : Name) (fs gs : List Function) (last most : ℤ) → is_defined f gs ≡ false
    → (surroundings (fs ++ gs) last most).calls f ≡ (surroundings fs last most).calls f
calls_stay f fs gs last most h =
    ap (λ (ns : List Numbered). calls_of ns last most f) (numbered_joined 1 fs gs [])
    ∙ passed_by f (behind_functions 1 fs) gs (numbered 1 fs []) last most h

-- A call is the body of the last function of this name, in the surroundings of those before it.
pub call_is : (before : List Function) (f : Function) (behind : List Function) (last most : ℤ) → is_defined f.name behind ≡ false
    → (n : ℕ) × ((surroundings (before ++ f ∷ behind) last most).calls f.name ≡ Some (run_block (surroundings before last most) n f.body))
call_is before f behind last most h =
    let n = behind_functions 1 before in
    let known = numbered 1 before [] in
    let own : Numbered = record { name = f.name; first = n; body = f.body } in (
      n,
      ap (λ (ns : List Numbered). calls_of ns last most f.name) (numbered_joined 1 before (f ∷ behind) [])
          ∙ (passed_by f.name (later n (block_count f.body)) behind (own ∷ known) last most h ∙ cond-true (same_name f.name f.name) _
          (calls_of known last most f.name) (name_same f.name)),
    )

pub defined_joined : (f : Name) (fs gs : List Function) → is_defined f (fs ++ gs) ≡ is_defined f fs || is_defined f gs
defined_joined f [] gs = refl
defined_joined f (g ∷ fs) gs =
    ap (λ (b : Bool). same_name g.name f || b) (defined_joined f fs gs) ∙ assoc (same_name g.name f) (is_defined f fs) (is_defined f gs)
  where
    assoc : (a b c : Bool) → a || (b || c) ≡ (a || b) || c
    assoc true b c = refl
    assoc false b c = refl

-- ---- what calls leave

abbrev numbered_within : May → List Numbered → Bool
numbered_within may [] = true
numbered_within may (g ∷ gs) = (not (may.call g.name) || block_within may g.body) && numbered_within may gs

still_within : (may : May) (n : ℕ) (fs : List Function) (before : List Numbered) → functions_within may fs ≡ true → numbered_within may before ≡ true
    → numbered_within may (numbered n fs before) ≡ true
still_within may n [] before h k = k
still_within may n (f ∷ fs) before h k =
    still_within may (later n (block_count f.body)) fs (record { name = f.name; first = n; body = f.body } ∷ before)
    (and_right (not (may.call f.name) || block_within may f.body) _ h)
    (and_from _ _ (and_left _ (functions_within may fs) h) k)

some_run : (a b : World → Ran) → Some a ≡ Some b → a ≡ b
some_run a b e = cc

calls_leave : (may : May) (gs : List Numbered) (last most : ℤ) → numbered_within may gs ≡ true → LeaveCalls may (around (calls_of gs last most) last most)
calls_leave may [] last most h f run allowed is w = cc
calls_leave may (g ∷ gs) last most h f run allowed is w =
    by_name (calls_leave may gs last most (and_right (not (may.call g.name) || block_within may g.body) _ h)) (same_name g.name f) refl is
  where
    own : same_name g.name f ≡ true → may.call g.name ≡ true
    own e = ap may.call (name_eq g.name f e) ∙ allowed

    body_within : (a b : Bool) → not a || b ≡ true → a ≡ true → b ≡ true
    body_within true b p e = p
    body_within false b p e = absurd (true≢false (sym e))

    by_name : LeaveCalls may (around (calls_of gs last most) last most) → (t : Bool) → same_name g.name f ≡ t
        → (if t then Some (run_block (around (calls_of gs last most) last most) g.first g.body) else calls_of gs last most f) ≡ Some run
        → Leaves may w (run w)
    by_name rest true e q =
        subst (λ (r : World → Ran). Leaves may w (r w)) (some_run (run_block (around (calls_of gs last most) last most) g.first g.body) run q)
        (block_leaves (around (calls_of gs last most) last most) may rest g.body
        (body_within (may.call g.name) (block_within may g.body) (and_left _ (numbered_within may gs) h) (own e)) g.first w)
    by_name rest false e q = rest f run allowed q w

-- Functions do no more than they may, whichever of them are called.
pub functions_leave : (may : May) (fs : List Function) (last most : ℤ) → functions_within may fs ≡ true → LeaveCalls may (surroundings fs last most)
functions_leave may fs last most h = calls_leave may (numbered 1 fs []) last most (still_within may 1 fs [] h refl)

-- ---- the whole program

pub meaning_runs : (Q : Ran → Type 0) (p : Whole) (columns : List (List ℤ)) (last most : ℤ)
    → ((n : ℕ) → Q (run_block (surroundings p.funcs last most) n p.main (first_world p columns))) → Q (meaning p columns last most)
unfolding meaning
meaning_runs Q p columns last most go = go (behind_functions 1 p.funcs)

zeros : (n i : ℕ) → slice_get (replicate n (pos 0)) i ≡ (if nat_lt i n then Some (pos 0) else None)
zeros n i = by_case (nat_lt i n) refl
  where
    by_case : (t : Bool) → nat_lt i n ≡ t → slice_get (replicate n (pos 0)) i ≡ (if t then Some (pos 0) else None)
    by_case true e =
        let within : i < n = ltb-true i n e in
        slice_get-get_or (replicate n (pos 0)) i (pos 0) (omega (arith, within, length-replicate n (pos 0))) ∙ ap Some
        (get_or-replicate n i (pos 0) (pos 0) within)
    by_case false e = slice_get_past (replicate n (pos 0)) i (omega (arith, ltb-false i n e, length-replicate n (pos 0)))

first_lookup : (ds : List Declared) (x : Name) (i : ℕ) → lookup (map first_slot ds) x i ≡ (if nat_lt i (places ds x) then Some (pos 0) else None)
first_lookup [] x i = sym (cond-false (nat_lt i 0) (Some (pos 0)) None (not_below i))
  where
    not_below : (i : ℕ) → nat_lt i 0 ≡ false
    not_below i = grind arith
first_lookup (d ∷ ds) x i = by_name (first_lookup ds x i) (same_name d.name x)
  where
    by_name : lookup (map first_slot ds) x i ≡ (if nat_lt i (places ds x) then Some (pos 0) else None) → (t : Bool)
        → (if t then slice_get (replicate (elements_of d) (pos 0)) i else lookup (map first_slot ds) x i) ≡
        (if nat_lt i (if t then elements_of d else places ds x) then Some (pos 0) else None)
    by_name rest true = zeros (elements_of d) i
    by_name rest false = rest

-- Each declared variable is 0 at each of its places, and nothing else is there.
pub first_is : (p : Whole) (columns : List (List ℤ)) (x : Name) (i : ℕ)
    → get (first_world p columns) x i ≡ (if nat_lt i (places p.decls x) then Some (pos 0) else None)
first_is p columns x i = first_lookup p.decls x i

pub first_there : (p : Whole) (columns : List (List ℤ)) (x : Name) (i : ℕ) → i < places p.decls x → get (first_world p columns) x i ≡ Some (pos 0)
first_there p columns x i h = first_is p columns x i ∙ cond-true (nat_lt i (places p.decls x)) (Some (pos 0)) None (lt-ltb i (places p.decls x) h)

pub first_left : (p : Whole) (columns : List (List ℤ)) → (first_world p columns).left ≡ columns
first_left p columns = refl
