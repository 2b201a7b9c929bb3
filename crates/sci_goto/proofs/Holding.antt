-- What the map of givers says of the list of givers.
use Rattle.std.proofs.Common.{◌≡◌, ℕ, ◌<◌, List, [], ◌∷◌, ◌++◌, length, Bool, true, false, cond, ◌||◌, Option, Some, None, refl, sym, ap, ◌∙◌, subst, length-append, arith}
use Rattle.std.specs.List.{list_any, find}
use Rattle.std.specs.Option.{option_or}
use Rattle.std.specs.BTreeMap.{get}
use Rattle.std.proofs.lemmas.List.{get_or_append_left}
use Rattle.std.proofs.lemmas.List.Folds.{find-append}
use Rattle.std.proofs.Math.Seq.{get_or-append_seam}
use Rattle.std.specs.Ordering.{is_eq}
use Rattle.sci_forms.specs.Forms.{or_else}
use Rattle.sci_base.specs.declared.refusal.Rule.TheVariants.{TagTwice}
use Rattle.sci_base.specs.declared.stop.Stop.{Stop}
use Rattle.sci_base.specs.Stops.{IsViolation, Stops}
use Rattle.sci_base.proofs.Stopping.{stops_violation}
use Rattle.sci_goto.specs.declared.givers.ScopedTag.{ScopedTag}
use Rattle.sci_goto.specs.declared.givers.Givers.{Givers}
use Rattle.sci_goto.specs.declared.tag.Tag.{Tag}
use Rattle.sci_goto.specs.declared.tag.Scope.{Scope}
use Rattle.sci_goto.specs.declared.tag.TagForm.TheVariants.{Gives}
use Rattle.sci_goto.specs.Phase.{Standing, Giving, Tags, within, giving, gives, by_tag, given_once}
use Rattle.sci_goto.specs.Serving.{no_standing, standing_at, IsGiverAt}
use Rattle.sci_goto.specs.Givers.{within_of, IsScoped, same_scoped, position_in, IsFirst, HoldsGivers, IsJoined}
use Rattle.sci_goto.proofs.Keys.{scoped_cmp, scoped_tied, position_is, same_scopes}

-- what the map has at a tag in a scope
pub first_at : (m : Givers) (ss : List Standing) (gs : List Giving) (q : ScopedTag) (t : Tag) (w : Option (List ℕ)) (r : Option ℕ)
    → HoldsGivers m ss gs → IsScoped q t w → r ≡ get scoped_cmp m.positions q → IsFirst ss (find (gives t w) gs) r
first_at m ss gs q t w r h k is =
    let P : Option ℕ → Type 0 = λ o. IsFirst ss (find (gives q.tag (within_of q)) gs) o in
    rw (k.tag, k.within) at (subst P (sym (is ∙ position_is m q)) (h q))

-- the local one is preferred
pub first_or : (ss : List Standing) (a b : Option Giving) (x y : Option ℕ) → IsFirst ss a x → IsFirst ss b y → IsFirst ss (or_else a b) (option_or x y)
first_or ss None b None y h k = k
first_or ss None b (Some n) y h k = absurd h
first_or ss (Some g) b None y h k = absurd h
first_or ss (Some g) b (Some n) y h k = h

-- ---- one more tag object

pub standing_kept : (ss : List Standing) (s : Standing) (n : ℕ) → n < length ss → standing_at (ss ++ s ∷ []) n ≡ standing_at ss n
standing_kept ss s n h = get_or_append_left ss (s ∷ []) no_standing n h

first_kept : (ss : List Standing) (s : Standing) (o : Option Giving) (r : Option ℕ) → IsFirst ss o r → IsFirst (ss ++ s ∷ []) o r
first_kept ss s None None h = tt
first_kept ss s None (Some n) h = absurd h
first_kept ss s (Some g) None h = absurd h
first_kept ss s (Some g) (Some n) h =
    let P : Standing → Type 0 = λ st. IsGiverAt st g in
    (omega (arith, h.0, length-append ss (s ∷ [])), subst P (sym (standing_kept ss s n h.0)) h.1)

-- it gives no tag
pub givers_kept : (m : Givers) (ss : List Standing) (gs : List Giving) (s : Standing) → HoldsGivers m ss gs → HoldsGivers m (ss ++ s ∷ []) gs
givers_kept m ss gs s h q = first_kept ss s _ _ (h q)

any_unless : {A : Type 0} (b c : Bool) (x : A) (o : Option A) → (o ≡ None → c ≡ false) → cond b (Some x) o ≡ None → (b || c) ≡ false
any_unless true c x o f h = cc
any_unless false c x o f h = f h

find_any : {A : Type 0} (p : A → Bool) (xs : List A) → find p xs ≡ None → list_any p xs ≡ false
find_any p [] h = refl
find_any p (x ∷ xs) h = any_unless (p x) (list_any p xs) x (find p xs) (find_any p xs) h

any_found : {A : Type 0} (b c : Bool) (x y : A) (o : Option A) → (o ≡ Some y → c ≡ true) → cond b (Some x) o ≡ Some y → (b || c) ≡ true
any_found true c x y o f h = refl
any_found false c x y o f h = f h

found_any : {A : Type 0} (p : A → Bool) (xs : List A) (y : A) → find p xs ≡ Some y → list_any p xs ≡ true
found_any p [] y h = cc
found_any p (x ∷ xs) y h = any_found (p x) (list_any p xs) x y (find p xs) (found_any p xs y) h

none_first : (ss : List Standing) (o : Option Giving) → IsFirst ss o None → o ≡ None
none_first ss None h = refl
none_first ss (Some g) h = absurd h

some_first : (ss : List Standing) (o : Option Giving) (n : ℕ) → IsFirst ss o (Some n) → (g : Giving) × (o ≡ Some g)
some_first ss None n h = absurd h
some_first ss (Some g) n h = (g, refl)

-- s gives the tag t in this scope, and the key says the same
module _ (m : Givers) (ss : List Standing) (tags : Tags) (s : Standing) (t : Tag) (scope : Scope) (key : ScopedTag)
    (h : HoldsGivers m ss tags.givers) (k : IsScoped key t (within scope s.around)) where
  abbrev g : Giving
  g = giving s t scope

  none_found : get scoped_cmp m.positions key ≡ None → find (gives t g.within) tags.givers ≡ None
  none_found absent = none_first ss _ (first_at m ss tags.givers key t g.within None h k (sym absent))

  -- the map has the key already
  pub given_twice : (n : ℕ) (e : Stop) → get scoped_cmp m.positions key ≡ Some n → IsViolation (by_tag TagTwice s.place t) e → Stops (given_once tags g) e
  given_twice n e there v =
      let found = some_first ss _ n (first_at m ss tags.givers key t g.within (Some n) h k (sym there)) in
      stops_violation (given_once tags g) (by_tag TagTwice s.place t) e (rw (found_any (gives t g.within) tags.givers found.0 found.1) refl) v

  -- the map gets the key
  module _ (new : Givers) (n : ℕ) (at : n ≡ length ss) (says : s.form ≡ Gives t scope) (absent : get scoped_cmp m.positions key ≡ None)
      (updated : (q : ScopedTag) → get scoped_cmp new.positions q ≡ cond (is_eq (scoped_cmp key q)) (Some n) (get scoped_cmp m.positions q)) where
    here : IsFirst (ss ++ s ∷ []) (Some g) (Some n)
    here =
        let P : Standing → Type 0 = λ st. IsGiverAt st g in
        let seam : standing_at (ss ++ s ∷ []) n ≡ s = rw at (get_or-append_seam ss s [] no_standing) in
        (omega (arith, length-append ss (s ∷ [])), subst P (sym seam) (refl, (scope, says)))

    by_key : (q : ScopedTag) (b : Bool) → same_scoped key q ≡ b → IsFirst (ss ++ s ∷ []) (option_or (find (gives q.tag (within_of q)) tags.givers) (cond b (Some g) None)) (cond b (Some n) (position_in m q))
    by_key q true e =
        let same = same_scopes key q e in
        let none : find (gives q.tag (within_of q)) tags.givers ≡ None = rw (← same.0, ← same.1, k.tag, k.within) (none_found absent) in
        rw none here
    by_key q false e = option_none (find (gives q.tag (within_of q)) tags.givers) (position_in m q) (first_kept ss s _ _ (h q))
      where
        option_none : (o : Option Giving) (r : Option ℕ) → IsFirst (ss ++ s ∷ []) o r → IsFirst (ss ++ s ∷ []) (option_or o None) r
        option_none None r f = f
        option_none (Some x) r f = f

    holds : HoldsGivers new (ss ++ s ∷ []) (tags.givers ++ g ∷ [])
    holds q =
        let test : is_eq (scoped_cmp key q) ≡ same_scoped key q = scoped_tied key q in
        let gives_so : gives q.tag (within_of q) g ≡ same_scoped key q = rw (k.tag, k.within) refl in
        let there : position_in new q ≡ cond (same_scoped key q) (Some n) (position_in m q) =
        sym (position_is new q) ∙ updated q ∙ ap (λ b. cond b (Some n) (get scoped_cmp m.positions q)) test ∙ ap (λ o. cond (same_scoped key q) (Some n) o) (position_is m q) in
        let found : find (gives q.tag (within_of q)) (tags.givers ++ g ∷ []) ≡ option_or (find (gives q.tag (within_of q)) tags.givers) (cond (same_scoped key q) (Some g) None) =
        find-append (gives q.tag (within_of q)) tags.givers (g ∷ []) ∙ ap (λ b. option_or (find (gives q.tag (within_of q)) tags.givers) (cond b (Some g) None)) gives_so in
        rw (found, there) (by_key q (same_scoped key q) refl)

    pub given_first : IsJoined new (ss ++ s ∷ []) (given_once tags g)
    given_first = record {
      more = record { givers = tags.givers ++ g ∷ []; takers = tags.takers };
      kept = rw (find_any (gives t g.within) tags.givers (none_found absent)) refl;
      holds = holds;
    }
