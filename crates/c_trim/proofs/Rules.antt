-- The static rules are kept: what was declared and isn't named is missed nowhere.
use Rattle.std.proofs.Common.{◌≡◌, ℕ, zero, suc, ◌+◌, ◌≤◌, List, [], ◌∷◌, ◌++◌, map, filter, Option, Some, None, Bool, true, false, ◌||◌, not, refl, sym, ap, ap₂, ◌∙◌, subst, arith, nat_lt, if◌then◌else◌, is_some, true≢false}
use Rattle.std.proofs.lemmas.Bool.Decides.{nat_tests}
use Rattle.std.proofs.lemmas.Bool.{or_parts}
use Rattle.c_ast.specs.declared.Name.{Name}
use Rattle.c_ast.specs.declared.events.NameKind.{NameKind}
use Rattle.c_ast.specs.declared.events.NameKind.TheVariants as kinds
use Rattle.c_ast.specs.declared.events.TextEvent.{TextEvent}
use Rattle.c_ast.specs.declared.events.TextEvent.TheVariants as events
use Rattle.c_ast.specs.Syntax.{Declared, Whole}
use Rattle.c_ast.specs.Events.{declared_event, program_events}
use Rattle.c_ast.specs.Rules.{Routine, Scope, outset, same_name, kind_in, kind_of, is_used_well, is_scalar, is_guarded, is_bound, is_blamed, is_too_large, elements_of, is_last, too_deep, closing, blamed_at, ended, behind, earlier, first_blamed}
use Rattle.c_mean.proofs.Memory.{name_eq}
use Rattle.c_trim.specs.Trim.{is_kept, trimmed}
use Rattle.c_trim.specs.Laws.{RulesStay}
use Rattle.c_trim.proofs.Named.{KeepsEvent, KeepsEvents, texts, texts_kept}

-- ---- blame

blamed_not : (b : Bool) (i : ℕ) → (if b then Some i else None) ≡ None → b ≡ false
blamed_not true i h = cc
blamed_not false i h = refl

not_blamed : (b : Bool) (i : ℕ) → b ≡ false → (if b then Some i else None) ≡ None
not_blamed b i h = ap (λ (t : Bool). if t then Some i else None) h

both_none : (a b : Option ℕ) → earlier a b ≡ None → (a ≡ None) × (b ≡ None)
both_none None b h = (refl, h)
both_none (Some i) None h = cc
both_none (Some i) (Some j) h = cc

none_both : (a b : Option ℕ) → a ≡ None → b ≡ None → earlier a b ≡ None
none_both a b p q = ap (λ (o : Option ℕ). earlier o b) p ∙ q

new_is : (o : Option NameKind) → is_some o ≡ false → o ≡ None
new_is None h = refl
new_is (Some k) h = absurd (true≢false h)

is_new : (o : Option NameKind) → o ≡ None → is_some o ≡ false
is_new o h = ap (λ (q : Option NameKind). is_some q) h

still_small : (m n : ℕ) (size : Option ℕ) → m ≤ n → is_too_large n size ≡ false → is_too_large m size ≡ false
still_small m n None l h = refl
still_small m n (Some k) l h = grind (arith, nat_tests)

-- ---- scopes

-- the same function is open, wherever it began
abbrev SameOwner : Option (Name × ℕ) → Option (Name × ℕ) → Type 0
SameOwner None None = Unit {0}
SameOwner (Some f) (Some g) = f.0 ≡ g.0
SameOwner None (Some g) = ⊥
SameOwner (Some f) None = ⊥

-- a scope in which other names are declared
abbrev other : Scope → List (Name × NameKind) → ℕ → Option (Name × ℕ) → Scope
other s declared elements owner = record s { declared = declared; elements = elements; owner = owner }

-- what is kept is declared as before, and what wasn't declared isn't
record Lacks (keep : Name → Bool) (s : Scope) (declared : List (Name × NameKind)) (elements : ℕ) (owner : Option (Name × ℕ)) : Type 0 where
  pub same : (x : Name) → keep x ≡ true → kind_in declared x ≡ kind_in s.declared x
  pub new : (x : Name) → kind_in s.declared x ≡ None → kind_in declared x ≡ None
  pub fewer : elements ≤ s.elements
  pub owned : SameOwner owner s.owner

more_same : (x y : Name) (k : NameKind) (ds es : List (Name × NameKind)) → kind_in ds y ≡ kind_in es y → kind_in ((x, k) ∷ ds) y ≡ kind_in ((x, k) ∷ es) y
more_same x y k ds es h = ap (λ (o : Option NameKind). if same_name x y then Some k else o) h

more_new : (x y : Name) (k : NameKind) (ds es : List (Name × NameKind)) → (kind_in es y ≡ None → kind_in ds y ≡ None)
    → kind_in ((x, k) ∷ es) y ≡ None → kind_in ((x, k) ∷ ds) y ≡ None
more_new x y k ds es go h = by_name (same_name x y) h
  where
    by_name : (t : Bool) → (if t then Some k else kind_in es y) ≡ None → (if t then Some k else kind_in ds y) ≡ None
    by_name true q = cc
    by_name false q = go q

without : (x y : Name) (k : NameKind) (es : List (Name × NameKind)) → kind_in ((x, k) ∷ es) y ≡ None → kind_in es y ≡ None
without x y k es h = by_name (same_name x y) h
  where
    by_name : (t : Bool) → (if t then Some k else kind_in es y) ≡ None → kind_in es y ≡ None
    by_name true q = cc
    by_name false q = q

module _ (keep : Name → Bool) where
  -- ---- one event

  unblamed : (s : Scope) (d : List (Name × NameKind)) (n : ℕ) (o : Option (Name × ℕ)) (e : TextEvent) (i j : ℕ) → Lacks keep s d n o → KeepsEvent keep e
      → blamed_at i s e ≡ None → blamed_at j (other s d n o) e ≡ None
  unblamed s d n o (events.Declare x size) i j l k h =
      let two = or_parts (is_some (kind_in s.declared x)) (is_too_large s.elements size) (blamed_not (is_blamed s (events.Declare x size)) i h) in
      not_blamed (is_blamed (other s d n o) (events.Declare x size)) j
      (ap₂ (λ (a b : Bool). a || b) (is_new (kind_in d x) (l.new x (new_is (kind_in s.declared x) two.0))) (still_small n s.elements size l.fewer two.1))
  unblamed s d n o (events.Function f) i j l k h =
      not_blamed (is_some (kind_in d f)) j
      (is_new (kind_in d f) (l.new f (new_is (kind_in s.declared f) (blamed_not (is_some (kind_in s.declared f)) i h))))
  unblamed s d n o events.Main i j l k h = refl
  unblamed s d n o (events.Read x w) i j l k h =
      not_blamed (not (is_used_well w (kind_in d x))) j
      (ap (λ (q : Option NameKind). not (is_used_well w q)) (l.same x k) ∙ blamed_not (not (is_used_well w (kind_in s.declared x))) i h)
  unblamed s d n o (events.Assign x w) i j l k h =
      not_blamed (not (is_used_well w (kind_in d x)) || is_guarded s.blocks x) j
      (ap (λ (q : Option NameKind). not (is_used_well w q) || is_guarded s.blocks x) (l.same x k)
      ∙ blamed_not (not (is_used_well w (kind_in s.declared x)) || is_guarded s.blocks x) i h)
  unblamed s d n o (events.Loop x b) i j l k h =
      not_blamed (not (is_scalar (kind_in d x)) || (is_guarded s.blocks x || is_bound (same_name x) b)) j
      (ap (λ (q : Option NameKind). not (is_scalar q) || (is_guarded s.blocks x || is_bound (same_name x) b)) (l.same x k)
      ∙ blamed_not (not (is_scalar (kind_in s.declared x)) || (is_guarded s.blocks x || is_bound (same_name x) b)) i h)
  unblamed s d n o (events.Call f) i j l k h =
      not_blamed (is_blamed s (events.Call f)) j (blamed_not (is_blamed s (events.Call f)) i h)
  unblamed s d n o events.If i j l k h = refl
  unblamed s d n o events.Close i j l k h = by_last (is_last s.blocks) h
    where
      by_owner : (o p : Option (Name × ℕ)) → SameOwner o p → too_deep s p ≡ None → too_deep (other s d n o) o ≡ None
      by_owner None None q h = refl
      by_owner None (Some g) q h = absurd q
      by_owner (Some f) None q h = absurd q
      by_owner (Some f) (Some g) q h = not_blamed (nat_lt 64 s.depth) f.1 (blamed_not (nat_lt 64 s.depth) g.1 h)

      by_last : (t : Bool) → (if t then too_deep s s.owner else None) ≡ None → (if t then too_deep (other s d n o) o else None) ≡ None
      by_last true q = by_owner o s.owner l.owned q
      by_last false q = refl

  ended_alike : (s : Scope) (d : List (Name × NameKind)) (n : ℕ) (o p : Option (Name × ℕ)) → SameOwner o p → ended (other s d n o) o ≡ ended s p
  ended_alike s d n None None q = refl
  ended_alike s d n None (Some g) q = absurd q
  ended_alike s d n (Some f) None q = absurd q
  ended_alike s d n (Some f) (Some g) q =
      ap (λ (x : Name). (let r : Routine = record { name = x; assigns = s.assigns; depth = s.depth } in r) ∷ s.routines) q

  -- ---- all events

  abbrev Passes : Scope → List (Name × NameKind) → ℕ → Option (Name × ℕ) → List TextEvent → Type 0
  Passes s d n o es = (i j : ℕ) → first_blamed i s es ≡ None → first_blamed j (other s d n o) es ≡ None

  pass : (es : List TextEvent) → KeepsEvents keep es → (s : Scope) (d : List (Name × NameKind)) (n : ℕ) (o : Option (Name × ℕ)) → Lacks keep s d n o
      → Passes s d n o es
  pass [] k s d n o l i j h = refl
  pass (e ∷ es) k s d n o l i j h =
      let two = both_none (blamed_at i s e) (first_blamed (i + 1) (behind i s e) es) h in
      none_both (blamed_at j (other s d n o) e) (first_blamed (j + 1) (behind j (other s d n o) e) es) (unblamed s d n o e i j l k.0 two.0)
      (further (pass es k.1) e k.0 two.1)
    where
      further : ((s : Scope) (d : List (Name × NameKind)) (n : ℕ) (o : Option (Name × ℕ)) → Lacks keep s d n o → Passes s d n o es)
          → (e : TextEvent) → KeepsEvent keep e → first_blamed (i + 1) (behind i s e) es ≡ None
          → first_blamed (j + 1) (behind j (other s d n o) e) es ≡ None
      further go (events.Declare x size) q g =
          go (behind i s (events.Declare x size)) ((x, kind_of size) ∷ d) (n + elements_of size) o (record {
            same = λ y r. more_same x y (kind_of size) d s.declared (l.same y r);
            new = λ y r. more_new x y (kind_of size) d s.declared (l.new y) r;
            fewer = omega (arith, l.fewer);
            owned = l.owned;
          }) (i + 1) (j + 1) g
      further go (events.Function f) q g =
          go (behind i s (events.Function f)) ((f, kinds.Function) ∷ d) n (Some (f, j)) (record {
            same = λ y r. more_same f y kinds.Function d s.declared (l.same y r);
            new = λ y r. more_new f y kinds.Function d s.declared (l.new y) r;
            fewer = l.fewer;
            owned = refl;
          }) (i + 1) (j + 1) g
      further go events.Main q g =
          go (behind i s events.Main) d n None (record { same = l.same; new = l.new; fewer = l.fewer; owned = tt }) (i + 1) (j + 1) g
      further go (events.Read x w) q g = go s d n o l (i + 1) (j + 1) g
      further go (events.Assign x w) q g =
          go (behind i s (events.Assign x w)) d n o (record { same = l.same; new = l.new; fewer = l.fewer; owned = l.owned }) (i + 1) (j + 1) g
      further go (events.Loop x b) q g =
          go (behind i s (events.Loop x b)) d n o (record { same = l.same; new = l.new; fewer = l.fewer; owned = l.owned }) (i + 1) (j + 1) g
      further go (events.Call f) q g =
          go (behind i s (events.Call f)) d n o (record { same = l.same; new = l.new; fewer = l.fewer; owned = l.owned }) (i + 1) (j + 1) g
      further go events.If q g =
          go (behind i s events.If) d n o (record { same = l.same; new = l.new; fewer = l.fewer; owned = l.owned }) (i + 1) (j + 1) g
      further go events.Close q g =
          let closed_scope : Scope = behind i s events.Close in
          subst (λ (rs : List Routine). first_blamed (j + 1) (record (other closed_scope d n o) { routines = if is_last s.blocks then rs else s.routines }) es ≡ None)
          (sym (ended_alike s d n o s.owner l.owned))
          (go closed_scope d n o (record { same = l.same; new = l.new; fewer = l.fewer; owned = l.owned }) (i + 1) (j + 1) g)

  -- ---- the declarations

  declared_pass : (ds : List Declared) (es : List TextEvent) → KeepsEvents keep es → (s : Scope) (d : List (Name × NameKind)) (n : ℕ) → Lacks keep s d n s.owner
      → (i j : ℕ) → first_blamed i s (map declared_event ds ++ es) ≡ None
      → first_blamed j (other s d n s.owner) (map declared_event (filter (λ (x : Declared). keep x.name) ds) ++ es) ≡ None
  declared_pass [] es k s d n l i j h = pass es k s d n s.owner l i j h
  declared_pass (x ∷ xs) es k s d n l i j h = by_test (declared_pass xs es k) (keep x.name) refl
    where
      two : (blamed_at i s (declared_event x) ≡ None) × (first_blamed (i + 1) (behind i s (declared_event x)) (map declared_event xs ++ es) ≡ None)
      two = both_none (blamed_at i s (declared_event x)) (first_blamed (i + 1) (behind i s (declared_event x)) (map declared_event xs ++ es)) h

      apart : (y : Name) → keep x.name ≡ false → keep y ≡ true → (t : Bool) → same_name x.name y ≡ t
          → kind_in s.declared y ≡ (if t then Some (kind_of x.size) else kind_in s.declared y)
      apart y p q true r = absurd (true≢false (sym q ∙ (ap keep (sym (name_eq x.name y r)) ∙ p)))
      apart y p q false r = refl

      by_test : ((s : Scope) (d : List (Name × NameKind)) (n : ℕ) → Lacks keep s d n s.owner → (i j : ℕ)
          → first_blamed i s (map declared_event xs ++ es) ≡ None
          → first_blamed j (other s d n s.owner) (map declared_event (filter (λ (x : Declared). keep x.name) xs) ++ es) ≡ None)
          → (t : Bool) → keep x.name ≡ t
          → first_blamed j (other s d n s.owner) (map declared_event (if t then x ∷ filter (λ (x : Declared). keep x.name) xs else
          filter (λ (x : Declared). keep x.name) xs) ++ es) ≡ None
      by_test go true p =
          none_both (blamed_at j (other s d n s.owner) (declared_event x)) _ (unblamed s d n s.owner (declared_event x) i j l tt two.0)
          (go (behind i s (declared_event x)) ((x.name, kind_of x.size) ∷ d) (n + elements_of x.size) (record {
            same = λ y r. more_same x.name y (kind_of x.size) d s.declared (l.same y r);
            new = λ y r. more_new x.name y (kind_of x.size) d s.declared (l.new y) r;
            fewer = omega (arith, l.fewer);
            owned = l.owned;
          }) (i + 1) (j + 1) two.1)
      by_test go false p =
          go (behind i s (declared_event x)) d n (record {
            same = λ y r. l.same y r ∙ apart y p r (same_name x.name y) refl;
            new = λ y r. l.new y (without x.name y (kind_of x.size) s.declared r);
            fewer = omega (arith, l.fewer);
            owned = l.owned;
          }) (i + 1) j two.1

pub rules_stay : RulesStay
rules_stay p h =
    declared_pass (is_kept p) p.decls (texts p) (texts_kept p) outset [] 0
    (record { same = λ x r. refl; new = λ x r. refl; fewer = omega arith; owned = tt }) 0 0 h
