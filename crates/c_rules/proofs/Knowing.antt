-- What the rules know, as a text goes on.
use Rattle.std.proofs.Common.{◌≡◌, ◌≢◌, ◌<◌, ◌≤◌, ◌+◌, ℕ, suc, List, [], ◌∷◌, ◌++◌, length, Bool, true, false, cond, inl, inr, ◌⊎◌, refl, sym, ap, ◌∙◌, subst, arith, Option, Some, None, true≢false}
use Rattle.std.specs.Prelude.{Contains, ◌||◌, min, max}
use Rattle.std.specs.List.{list_any}
use Rattle.std.proofs.lemmas.List.Folds.{list_any-append}
use Rattle.std.proofs.lemmas.List.{get_or_past}
use Rattle.std.proofs.lemmas.List.Elements.{Contains-append_left, Contains-push, All-contains}
use Rattle.std.proofs.lemmas.Bool.Decides.{eqb_tells}
use Rattle.sci_loop.specs.Lists.{list_at}
use Rattle.sci_loop.specs.Reached.{IsReached, onward}
use Rattle.c_ast.specs.declared.Name.{Name}
use Rattle.c_rules.specs.declared.bodies.Bodies.{Bodies}
use Rattle.c_ast.specs.declared.events.Opened.{Opened}
use Rattle.c_rules.specs.declared.rules.Past.{Past}
use Rattle.c_ast.specs.Rules.{same_name, is_among, is_hit, Routine, Scope, ended, breaks_loop, assigns_of, depth_of}
use Rattle.c_rules.specs.Assigning.{Tells}
use Rattle.c_rules.specs.Naming.{number_in, at_number, at_place, by_name}
use Rattle.c_ast.specs.declared.events.NameKind.{NameKind}
use Rattle.c_rules.proofs.Numbering.{grown}
use Rattle.indexmap.specs.IndexSet.{insert_key}
use Rattle.std.proofs.lemmas.Option.{none-some}
use Rattle.c_rules.specs.Bodies.{callees_in, assigners_in, KeepsBodies, BeginsBody, AssignsName, CallsBody, CallsAgain}
use Rattle.c_rules.specs.Knowing.{AreAssigned, IsRoutine, MayBeRoutine}
use Rattle.c_rules.proofs.Assigning.{list_at-begun, list_at-called, list_at-others, reach_itself, reach_below, reach_agrees, reach_more, reach_onward, reach_alone, reach_called, either_true, left_true, right_true}

module _ (old new : Bodies) where
  same_lists : (ls ms : List (List ℕ)) → ms ≡ ls → (p q : ℕ) → Contains (list_at ls p) q → Contains (list_at ms p) q
  same_lists ls ms e p q c = subst (λ (l : List (List ℕ)). Contains (list_at l p) q) (sym e) c

  same_names : (assigners more : Name → List ℕ) → ((q : Name) → more q ≡ assigners q) → (q : Name) (r : ℕ) → Contains (assigners q) r → Contains (more q) r
  same_names assigners more e q r c = subst (λ (l : List ℕ). Contains l r) (sym (e q)) c

  pub assigned_same : (body : ℕ) (names : List Name) → KeepsBodies old new → AreAssigned old body names → AreAssigned new body names
  assigned_same body names k a q = (
    (λ t. let w = (a q).0 t in (w.0, reach_more (callees_in old) (callees_in new) (body ∷ []) (same_lists (callees_in old) (callees_in new) k.callees) w.1, same_names (assigners_in old) (assigners_in new) k.assigners q w.0 w.2)),
    λ w. (a q).1 (w.0, reach_more (callees_in new) (callees_in old) (body ∷ []) (same_lists (callees_in new) (callees_in old) (sym k.callees)) w.1, same_names (assigners_in new) (assigners_in old) (λ y. sym (k.assigners y)) q w.0 w.2),
  )

  module _ (b : BeginsBody old new) where
    begun_at : (p : ℕ) → list_at (callees_in new) p ≡ list_at (callees_in old) p
    begun_at p = ap (λ (l : List (List ℕ)). list_at l p) b.callees ∙ list_at-begun (callees_in old) p

    -- what bodies assign stays
    pub assigned_begun : (body : ℕ) (names : List Name) → AreAssigned old body names → AreAssigned new body names
    assigned_begun body names a q = (
      (λ t. let w = (a q).0 t in (w.0, reach_more (callees_in old) (callees_in new) (body ∷ []) (λ p r c. subst (λ (l : List ℕ). Contains l r) (sym (begun_at p)) c) w.1, same_names (assigners_in old) (assigners_in new) b.assigners q w.0 w.2)),
      λ w. (a q).1 (w.0, reach_more (callees_in new) (callees_in old) (body ∷ []) (λ p r c. subst (λ (l : List ℕ). Contains l r) (begun_at p) c) w.1, same_names (assigners_in new) (assigners_in old) (λ y. sym (b.assigners y)) q w.0 w.2),
    )

    -- and the next assigns nothing
    pub assigned_none : AreAssigned new new.last []
    assigned_none q = (
      (λ t. absurd (true≢false (sym t))),
      λ w.
          let alone = reach_alone (callees_in new) new.last (begun_at new.last ∙ past) w.1 in
          let low = All-contains (λ p. p ≤ old.last) (assigners_in old q) w.0 (old.sound.there q) (same_names (assigners_in new) (assigners_in old) (λ y. sym (b.assigners y)) q w.0 w.2) in
          absurd (omega (arith, b.last)),
    )
      where
        past : list_at (callees_in old) new.last ≡ []
        past = get_or_past (callees_in old) new.last [] (omega (arith, b.last, old.sound.bodies))

  module _ (x : Name) (n : AssignsName x old new) where
    -- what earlier bodies assign stays
    pub assigned_kept : (body : ℕ) (names : List Name) → body < old.last → AreAssigned old body names → AreAssigned new body names
    assigned_kept body names low a q = (
      (λ t. let w = (a q).0 t in (w.0, reach_more (callees_in old) (callees_in new) (body ∷ []) (same_lists (callees_in old) (callees_in new) n.callees) w.1, (n.assigners q w.0).1 (inl w.2))),
      λ w. let r = reach_more (callees_in new) (callees_in old) (body ∷ []) (same_lists (callees_in new) (callees_in old) (sym n.callees)) w.1 in
          elim ((n.assigners q w.0).0 w.2) [
            | inl c ↦ (a q).1 (w.0, r, c)
            | inr e ↦ let below = reach_below (callees_in old) body old.sound.earlier r in absurd (omega (arith, e.1))
          ],
    )

    -- and the last one assigns a name more
    pub assigned_more : (names : List Name) → AreAssigned old old.last names → AreAssigned new new.last (x ∷ names)
    assigned_more names a = let P : ℕ → Type 0 = λ l. AreAssigned new l (x ∷ names) in subst P (sym n.last) here
      where
        here : AreAssigned new old.last (x ∷ names)
        here q = (
          (λ t. elim (either_true (same_name x q) (is_among names q) t) [
            | inl s ↦ (old.last, reach_itself (callees_in new) old.last, (n.assigners q old.last).1 (inr (s, refl)))
            | inr m ↦ let w = (a q).0 m in (w.0, reach_more (callees_in old) (callees_in new) (old.last ∷ []) (same_lists (callees_in old) (callees_in new) n.callees) w.1, (n.assigners q w.0).1 (inl w.2))
          ]),
          λ w. elim ((n.assigners q w.0).0 w.2) [
            | inl c ↦ right_true (same_name x q) (is_among names q) ((a q).1 (w.0, reach_more (callees_in new) (callees_in old) (old.last ∷ []) (same_lists (callees_in new) (callees_in old) (sym n.callees)) w.1, c))
            | inr e ↦ left_true (same_name x q) (is_among names q) e.0
          ],
        )

  module _ (callee : ℕ) (low : callee < old.last) (k : CallsBody callee old new) where
    inside : old.last < length (callees_in old)
    inside = omega (arith, old.sound.bodies)

    others : (p : ℕ) → p ≢ old.last → list_at (callees_in new) p ≡ list_at (callees_in old) p
    others = list_at-others (callees_in old) (callees_in new) old.last callee inside k.callees

    more_callees : (p q : ℕ) → Contains (list_at (callees_in old) p) q → Contains (list_at (callees_in new) p) q
    more_callees p q c = elim (eqb_tells p old.last) [
      | inl t ↦ subst (λ (l : List ℕ). Contains l q) (sym (ap (list_at (callees_in new)) t.1 ∙ list_at-called (callees_in old) (callees_in new) old.last callee inside k.callees))
          (Contains-append_left (list_at (callees_in old) old.last) (callee ∷ []) q (subst (λ (z : ℕ). Contains (list_at (callees_in old) z) q) t.1 c))
      | inr t ↦ subst (λ (l : List ℕ). Contains l q) (sym (others p t.1)) c
    ]

    -- what earlier bodies assign stays
    pub assigned_passed : (body : ℕ) (names : List Name) → body < old.last → AreAssigned old body names → AreAssigned new body names
    assigned_passed body names first a q = (
      (λ t. let w = (a q).0 t in (w.0, reach_more (callees_in old) (callees_in new) (body ∷ []) more_callees w.1, same_names (assigners_in old) (assigners_in new) k.assigners q w.0 w.2)),
      λ w. (a q).1 (w.0, back w.1, same_names (assigners_in new) (assigners_in old) (λ y. sym (k.assigners y)) q w.0 w.2),
    )
      where
        back : {r : ℕ} → IsReached (callees_in new) (body ∷ []) r → IsReached (callees_in old) (body ∷ []) r
        back h = reach_agrees (callees_in new) (callees_in old) old.last body (λ p less. sym (others p (λ e. absurd (omega arith)))) new.sound.earlier first h

    -- and the last one assigns what the other does
    pub assigned_called : (more names : List Name) → AreAssigned old callee more → AreAssigned old old.last names → AreAssigned new new.last (more ++ names)
    assigned_called more names b a = let P : ℕ → Type 0 = λ l. AreAssigned new l (more ++ names) in subst P (sym k.last) here
      where
        both : (q : Name) → is_among (more ++ names) q ≡ (is_among more q || is_among names q)
        both q = list_any-append (λ x. same_name x q) more names

        to_callee : {r : ℕ} → IsReached (callees_in old) (callee ∷ []) r → IsReached (callees_in new) (old.last ∷ []) r
        to_callee h =
            let one = list_at-called (callees_in old) (callees_in new) old.last callee inside k.callees in
            let has = subst (λ (l : List ℕ). Contains l callee) (sym one) (Contains-push (list_at (callees_in old) old.last) callee) in
            reach_onward (callees_in new) (old.last ∷ []) callee (onward old.last callee (reach_itself (callees_in new) old.last) has) (reach_more (callees_in old) (callees_in new) (callee ∷ []) more_callees h)

        here : AreAssigned new old.last (more ++ names)
        here q = (
          (λ t. elim (either_true (is_among more q) (is_among names q) (sym (both q) ∙ t)) [
            | inl m ↦ let w = (b q).0 m in (w.0, to_callee w.1, same_names (assigners_in old) (assigners_in new) k.assigners q w.0 w.2)
            | inr n ↦ let w = (a q).0 n in (w.0, reach_more (callees_in old) (callees_in new) (old.last ∷ []) more_callees w.1, same_names (assigners_in old) (assigners_in new) k.assigners q w.0 w.2)
          ]),
          λ w. let c = same_names (assigners_in new) (assigners_in old) (λ y. sym (k.assigners y)) q w.0 w.2 in
              both q ∙ elim (reach_called (callees_in old) (callees_in new) old.last callee inside k.callees old.sound.earlier low w.1) [
                | inl l ↦ right_true (is_among more q) (is_among names q) ((a q).1 (w.0, l, c))
                | inr m ↦ left_true (is_among more q) (is_among names q) ((b q).1 (w.0, m, c))
              ],
        )

pub routine_kept : (old new : Bodies) → ((p : Past) (r : Routine) → IsRoutine old p r → IsRoutine new p r) → (a : Option Past) (b : Option Routine) → MayBeRoutine old a b → MayBeRoutine new a b
routine_kept old new to None None m = m
routine_kept old new to (Some p) (Some r) m = to p r m
routine_kept old new to None (Some r) m = absurd m
routine_kept old new to (Some p) None m = absurd m

module _ (old new : Bodies) where
  pub routine_same : KeepsBodies old new → (a : Option Past) (b : Option Routine) → MayBeRoutine old a b → MayBeRoutine new a b
  routine_same k = routine_kept old new (λ p r m. record { earlier = let low = m.earlier in omega (arith, k.last); assigns = assigned_same old new p.body r.assigns k m.assigns; depth = m.depth })

  pub routine_begun : BeginsBody old new → (a : Option Past) (b : Option Routine) → MayBeRoutine old a b → MayBeRoutine new a b
  routine_begun k = routine_kept old new (λ p r m. record { earlier = let low = m.earlier in omega (arith, k.last); assigns = assigned_begun old new k p.body r.assigns m.assigns; depth = m.depth })

  pub routine_assigned : (x : Name) → AssignsName x old new → (a : Option Past) (b : Option Routine) → MayBeRoutine old a b → MayBeRoutine new a b
  routine_assigned x k = routine_kept old new (λ p r m. record { earlier = let low = m.earlier in omega (arith, k.last); assigns = assigned_kept old new x k p.body r.assigns m.earlier m.assigns; depth = m.depth })

  pub routine_called : (callee : ℕ) → callee < old.last → CallsBody callee old new → (a : Option Past) (b : Option Routine) → MayBeRoutine old a b → MayBeRoutine new a b
  routine_called callee low k = routine_kept old new (λ p r m. record { earlier = let first = m.earlier in omega (arith, k.last); assigns = assigned_passed old new callee low k p.body r.assigns m.earlier m.assigns; depth = m.depth })

  -- the body that was the last is a function that has ended
  pub routine_ended : (t : Bool) (p : Past) (r : Routine) (now before : Option Past) (rest : Option Routine) → BeginsBody old new → p.body ≡ old.last → p.depth ≡ min r.depth 65 → AreAssigned old old.last r.assigns → now ≡ cond t (Some p) before → MayBeRoutine old before rest
      → MayBeRoutine new now (cond t (Some r) rest)
  routine_ended true p r now before rest k body depth a e m = let P : Option Past → Type 0 = λ o. MayBeRoutine new o (Some r) in subst P (sym e) (record {
    earlier = omega (arith, k.last);
    assigns = let Q : ℕ → Type 0 = λ n. AreAssigned new n r.assigns in subst Q (sym body) (assigned_begun old new k old.last r.assigns a);
    depth = depth;
  })
  routine_ended false p r now before rest k body depth a e m = let P : Option Past → Type 0 = λ o. MayBeRoutine new o rest in subst P (sym e) (routine_begun k before rest m)

-- a call breaks a loop, or does not
pub breaks_known : (b : Bodies) (p : Past) (blocks : List Opened) (hit : Bool) (a : Option Past) (r : Option Routine) → a ≡ Some p → MayBeRoutine b a r → ((test : Name → Bool) → Tells test (callees_in b) (assigners_in b) p.body → hit ≡ list_any (is_hit test) blocks) → hit ≡ breaks_loop blocks r
breaks_known b p blocks hit a r e m hits = known r (subst (λ (o : Option Past). MayBeRoutine b o r) e m)
  where
    known : (r : Option Routine) → MayBeRoutine b (Some p) r → hit ≡ breaks_loop blocks r
    known None m = absurd m
    known (Some r) m = hits (is_among r.assigns) m.assigns

pub breaks_unknown : (b : Bodies) (blocks : List Opened) (a : Option Past) (r : Option Routine) → a ≡ None → MayBeRoutine b a r → true ≡ breaks_loop blocks r
breaks_unknown b blocks a r e m = known r (subst (λ (o : Option Past). MayBeRoutine b o r) e m)
  where
    known : (r : Option Routine) → MayBeRoutine b None r → true ≡ breaks_loop blocks r
    known None m = refl
    known (Some r) m = absurd m

-- a function that the last body called before
module _ (old new : Bodies) (callee : ℕ) (k : CallsAgain callee old new) where
  called_twice : (more names : List Name) → AreAssigned old callee more → AreAssigned old old.last names → AreAssigned old old.last (more ++ names)
  called_twice more names b a q = (
    (λ t. elim (either_true (is_among more q) (is_among names q) (sym both ∙ t)) [
      | inl m ↦ let w = (b q).0 m in (w.0, reach_onward (callees_in old) (old.last ∷ []) callee (onward old.last callee (reach_itself (callees_in old) old.last) k.called) w.1, w.2)
      | inr n ↦ (a q).0 n
    ]),
    λ w. both ∙ right_true (is_among more q) (is_among names q) ((a q).1 w),
  )
    where
      both : is_among (more ++ names) q ≡ (is_among more q || is_among names q)
      both = list_any-append (λ x. same_name x q) more names

  pub assigned_again : (more names : List Name) → AreAssigned old callee more → AreAssigned old old.last names → AreAssigned new new.last (more ++ names)
  assigned_again more names b a = let P : ℕ → Type 0 = λ l. AreAssigned new l (more ++ names) in subst P (sym (k.keeps).last) (assigned_same old new old.last (more ++ names) k.keeps (called_twice more names b a))

pub routine_calls : (old new : Bodies) (callee : ℕ) → callee < old.last → CallsBody callee old new ⊎ CallsAgain callee old new → (a : Option Past) (b : Option Routine) → MayBeRoutine old a b → MayBeRoutine new a b
routine_calls old new callee low (inl k) = routine_called old new callee low k
routine_calls old new callee low (inr k) = routine_same old new k.keeps

-- what a called function assigns, and how deep its calls are
pub called_known : (old new : Bodies) (p : Past) (a : Option Past) (r : Option Routine) (names : List Name) → a ≡ Some p → p.body < old.last → CallsBody p.body old new ⊎ CallsAgain p.body old new → MayBeRoutine old a r → AreAssigned old old.last names → AreAssigned new new.last (assigns_of r ++ names)
called_known old new p a r names e low k m w = known r (subst (λ (o : Option Past). MayBeRoutine old o r) e m)
  where
    known : (r : Option Routine) → MayBeRoutine old (Some p) r → AreAssigned new new.last (assigns_of r ++ names)
    known None m = absurd m
    known (Some r) m = elim k [ inl c ↦ assigned_called old new p.body low c r.assigns names m.assigns w | inr c ↦ assigned_again old new p.body c r.assigns names m.assigns w ]

pub depth_known : (b : Bodies) (p : Past) (a : Option Past) (r : Option Routine) (now new depth : ℕ) → a ≡ Some p → MayBeRoutine b a r → now ≡ min depth 65 → new ≡ max now (min (p.depth + 1) 65) → new ≡ min (max depth (suc (depth_of r))) 65
depth_known b p a r now new depth e m was is = known r (subst (λ (o : Option Past). MayBeRoutine b o r) e m)
  where
    known : (r : Option Routine) → MayBeRoutine b (Some p) r → new ≡ min (max depth (suc (depth_of r))) 65
    known None m = absurd m
    known (Some r) m = let d = m.depth in omega arith

-- what holds of all that stands in a table holds of what stands at a name
pub by_names : (P : Past → Type 0) (names : List Name) (table : List (Option Past)) (q : Name) (past : Past) → ((n : ℕ) (p : Past) → at_place table n ≡ Some p → P p) → by_name names table q ≡ Some past → P past
by_names P names table q past all e = known (number_in names q) e
  where
    known : (o : Option ℕ) → at_number None table o ≡ Some past → P past
    known None e = absurd (none-some past e)
    known (Some n) e = all n past e

-- the routines with the names that the text has by now
pub routine_named : (b : Bodies) (before names : List Name) (x : Name) (table : List (Option Past)) (q : Name) (r : Option Routine) → names ≡ insert_key same_name before x → length table ≤ length before → MayBeRoutine b (by_name before table q) r → MayBeRoutine b (by_name names table q) r
routine_named b before names x table q r grows long m = subst (λ (o : Option Past). MayBeRoutine b o r) (sym (ap (λ (l : List Name). by_name l table q) grows ∙ grown None table before x q long)) m

-- the same kinds with more names
pub kind_named : (before names : List Name) (x : Name) (table : List (Option NameKind)) (q : Name) → names ≡ insert_key same_name before x → length table ≤ length before → by_name names table q ≡ by_name before table q
kind_named before names x table q grows long = ap (λ (l : List Name). by_name l table q) grows ∙ grown None table before x q long

abbrev body_in : Option Past → ℕ
body_in None = 0
body_in (Some p) = p.body

-- the functions that have ended, with one more
abbrev pub AreEarlier : List (Option Past) → ℕ → Type 0
AreEarlier table n = (k : ℕ) (past : Past) → at_place table k ≡ Some past → past.body < n

pub earlier_kept : (table new : List (Option Past)) (n m : ℕ) → n ≤ m → ((k : ℕ) → at_place new k ≡ at_place table k) → AreEarlier table n → AreEarlier new m
earlier_kept table new n m more same low k past e = let less = low k past (sym (same k) ∙ e) in omega arith

pub earlier_put : (table new : List (Option Past)) (at : ℕ) (p : Past) (n m : ℕ) → p.body < m → n ≤ m → at_place new at ≡ Some p → ((k : ℕ) → k ≢ at → at_place new k ≡ at_place table k) → AreEarlier table n → AreEarlier new m
earlier_put table new at p n m less more there others low k past e = elim (eqb_tells k at) [
  | inl t ↦ let same : p.body ≡ past.body = ap body_in (sym there ∙ ap (at_place new) (sym t.1) ∙ e) in omega arith
  | inr t ↦ let first = low k past (sym (others k t.1) ∙ e) in omega arith
]

pub routine_renamed : (b : Bodies) (before names : List Name) (table : List (Option Past)) (q : Name) (r : Option Routine) → names ≡ before → MayBeRoutine b (by_name before table q) r → MayBeRoutine b (by_name names table q) r
routine_renamed b before names table q r same m = subst (λ (l : List Name). MayBeRoutine b (by_name l table q) r) (sym same) m

pub kind_renamed : (before names : List Name) (table : List (Option NameKind)) (q : Name) → names ≡ before → by_name names table q ≡ by_name before table q
kind_renamed before names table q same = ap (λ (l : List Name). by_name l table q) same

pub assigned_last : (old new : Bodies) (names : List Name) → KeepsBodies old new → AreAssigned old old.last names → AreAssigned new new.last names
assigned_last old new names k a = subst (λ (l : ℕ). AreAssigned new l names) (sym k.last) (assigned_same old new old.last names k a)

pub ended_none : (s : Scope) (o : Option (Name × ℕ)) → ((x : Name × ℕ) → o ≡ Some x → ⊥) → ended s o ≡ s.routines
ended_none s None none = refl
ended_none s (Some x) none = absurd (none x refl)
