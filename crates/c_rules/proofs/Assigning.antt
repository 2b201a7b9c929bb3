-- Bodies by number: whom they call, and what they assign.
use Rattle.std.proofs.Common.{◌≡◌, ◌≢◌, ◌<◌, ◌≤◌, ◌+◌, ℕ, zero, suc, List, [], ◌∷◌, ◌++◌, length, Bool, true, false, cond, ◌⊎◌, ◌↔◌, inl, inr, refl, sym, ap, ◌∙◌, subst, arith, Option, Some, None, Vec, get_or, get_or-set_same, get_or-set_other, length-set, length-append, true≢false}
use Rattle.std.proofs.Math.ListN.{set}
use Rattle.std.specs.Prelude.{Result, Ok, Err, OnOk, OnErr, All, Contains, ◌||◌, nat_eq, nat_le, slice_get, slice_index_or}
use Rattle.std.specs.List.{list_any}
use Rattle.std.specs.declared.alloc.Global.{Global}
use Rattle.std.proofs.lemmas.Bool.{cases_Bool, eqb-true, eq-eqb, le-leb, leb-true}
use Rattle.std.proofs.lemmas.Option.{same_Some, none-some}
use Rattle.std.proofs.lemmas.List.{get_or_past}
use Rattle.std.proofs.lemmas.Bool.Decides.{eqb_tells}
use Rattle.std.proofs.lemmas.List.Elements.{Contains-append_right, Contains-append_cases, Contains-push, Contains-push_cases, Contains-get_or, Contains-append_left, All-push, All-nil, All-contains}
use Rattle.sci_loop.specs.Lists.{plain, list_at}
use Rattle.sci_loop.specs.Reached.{IsReached, start, onward}
use Rattle.c_ast.specs.declared.Name.{Name}
use Rattle.c_ast.specs.declared.Bound.TheVariants as bounds
use Rattle.c_ast.specs.declared.events.Opened.{Opened}
use Rattle.c_ast.specs.declared.events.Opened.TheVariants as opened
use Rattle.c_ast.specs.Rules.{same_name, is_hit}
use Rattle.c_rules.specs.Assigning.{assigners_of, IsNoted, Tells, AreSound, is_early, is_found}
use Rattle.c_rules.specs.Naming.{number_in, at_number, at_place}
use Rattle.c_rules.proofs.Numbering.{grown, at_name, elsewhere}
use Rattle.indexmap.specs.IndexSet.{insert_key}

-- what holds on Ok and on Err holds
pub on_either : {T E P Q S : Type 0} (r : Result T E) → OnOk r P → OnErr r Q → (P → S) → (Q → S) → S
on_either (Ok v) p q f g = f p
on_either (Err e) p q f g = g q

pub no_element : {X : Type 0} (q : X) → Contains [] q → ⊥
no_element q has = absurd (omega (arith, has.1))

-- what follows from both holds on Ok
pub on_both : {T E P Q R : Type 0} (r : Result T E) → OnOk r P → OnOk r Q → (P → Q → R) → OnOk r R
on_both (Ok v) p q f = f p q
on_both (Err e) p q f = tt

-- ---- a body that is noted

pub noted_contains : (b : ℕ) (old new : List ℕ) → IsNoted b old new → (p : ℕ) → Contains new p ↔ (Contains old p ⊎ (b ≡ p))
noted_contains b old new (inl e) p = (
  (λ c. Contains-push_cases old b p (subst (λ (l : List ℕ). Contains l p) e c)),
  λ h. subst (λ (l : List ℕ). Contains l p) (sym e) (elim h [ inl o ↦ Contains-append_left old (b ∷ []) p o | inr is ↦ subst (Contains (old ++ b ∷ [])) is (Contains-push old b) ]),
)
noted_contains b old new (inr k) p = (
  (λ c. inl (subst (λ (l : List ℕ). Contains l p) k.0 c)),
  λ h. subst (λ (l : List ℕ). Contains l p) (sym k.0) (elim h [ inl o ↦ o | inr is ↦ subst (Contains old) is k.1 ]),
)

abbrev IsFirst : List ℕ → Type 0
IsFirst l = All (λ p. slice_index_or l 0 0 ≤ p) l

pushed_first : (b : ℕ) (old : List ℕ) → All (λ p. p ≤ b) old → IsFirst old → IsFirst (old ++ b ∷ [])
pushed_first b [] low first = All-push (λ p. b ≤ p) [] b (All-nil (λ p. b ≤ p)) (omega arith)
pushed_first b (o ∷ os) low first = All-push (λ p. o ≤ p) (o ∷ os) b first (low 0 0 (omega arith))

pub noted_first : (b : ℕ) (old new : List ℕ) → IsNoted b old new → All (λ p. p ≤ b) old → IsFirst old → IsFirst new
noted_first b old new (inl e) low first = subst IsFirst (sym e) (pushed_first b old low first)
noted_first b old new (inr k) low first = subst IsFirst (sym k.0) first

noted_low : (b : ℕ) (old new : List ℕ) → IsNoted b old new → All (λ p. p ≤ b) old → All (λ p. p ≤ b) new
noted_low b old new (inl e) low = subst (All (λ p. p ≤ b)) (sym e) (All-push (λ p. p ≤ b) old b low (omega arith))
noted_low b old new (inr k) low = subst (All (λ p. p ≤ b)) (sym k.0) low

module _ (old new : List (Vec ℕ Global)) (before names : List Name) (x : Name) (grows : names ≡ insert_key same_name before x) (long : length (plain old) ≤ length before) where
  more_names : (q : Name) → at_number [] (plain old) (number_in names q) ≡ assigners_of before old q
  more_names q = ap (λ (l : List Name). at_number [] (plain old) (number_in l q)) grows ∙ grown [] (plain old) before x q long

  -- nothing was noted
  pub noted_none : ((m : ℕ) → list_at (plain new) m ≡ list_at (plain old) m) → (q : Name) → assigners_of names new q ≡ assigners_of before old q
  noted_none same q = by (number_in names q) ∙ more_names q
    where
      by : (o : Option ℕ) → at_number [] (plain new) o ≡ at_number [] (plain old) o
      by None = refl
      by (Some m) = same m

  -- a body was noted at one name
  pub noted_at : (n b : ℕ) → number_in names x ≡ Some n → IsNoted b (list_at (plain old) n) (list_at (plain new) n) → ((m : ℕ) → m ≢ n → list_at (plain new) m ≡ list_at (plain old) m)
      → (q : Name) → ((same_name x q ≡ true) × IsNoted b (assigners_of before old q) (assigners_of names new q)) ⊎ ((same_name x q ≡ false) × (assigners_of names new q ≡ assigners_of before old q))
  noted_at n b e has others q = elim (cases_Bool (same_name x q)) [
    | inl t ↦
        let was : list_at (plain old) n ≡ assigners_of before old q = sym (at_name [] (plain old) (plain old) names x n e q t) ∙ more_names q in
        let is : list_at (plain new) n ≡ assigners_of names new q = sym (at_name [] (plain old) (plain new) names x n e q t) in
        inl (t, subst (λ (l : List ℕ). IsNoted b l (assigners_of names new q)) was (subst (IsNoted b (list_at (plain old) n)) is has))
    | inr f ↦ inr (f, elsewhere [] (plain old) (plain new) names x n e others q f ∙ more_names q)
  ]

abbrev NotedAt : Name → ℕ → (Name → List ℕ) → (Name → List ℕ) → Type 0
NotedAt x b assigners more = (q : Name) → ((same_name x q ≡ true) × IsNoted b (assigners q) (more q)) ⊎ ((same_name x q ≡ false) × (more q ≡ assigners q))

pub noted : (assigners more : Name → List ℕ) (x : Name) (b : ℕ) → NotedAt x b assigners more → (q : Name) (p : ℕ) → Contains (more q) p ↔ (Contains (assigners q) p ⊎ ((same_name x q ≡ true) × (b ≡ p)))
noted assigners more x b has q p = elim (has q) [
  | inl h ↦ (
    (λ c. elim ((noted_contains b (assigners q) (more q) h.1 p).0 c) [ inl o ↦ inl o | inr e ↦ inr (h.0, e) ]),
    λ w. (noted_contains b (assigners q) (more q) h.1 p).1 (elim w [ inl o ↦ inl o | inr e ↦ inr e.1 ]),
  )
  | inr h ↦ (
    (λ c. inl (subst (λ (l : List ℕ). Contains l p) h.1 c)),
    λ w. elim w [ inl o ↦ subst (λ (l : List ℕ). Contains l p) (sym h.1) o | inr e ↦ absurd (true≢false (sym e.0 ∙ h.0)) ],
  )
]

-- ---- bodies that stay sound

pub list_at-begun : (ls : List (List ℕ)) (p : ℕ) → list_at (ls ++ [] ∷ []) p ≡ list_at ls p
list_at-begun [] zero = refl
list_at-begun [] (suc p) = refl
list_at-begun (l ∷ ls) zero = refl
list_at-begun (l ∷ ls) (suc p) = list_at-begun ls p

pub sound_first : (ls : List (List ℕ)) (assigners : Name → List ℕ) → ls ≡ [] ∷ [] → ((q : Name) → assigners q ≡ []) → AreSound ls assigners 0 1
sound_first ls assigners e none = record {
  bodies = sym (ap length e);
  walked = sym (ap length e);
  earlier = λ p. subst (λ (l : List (List ℕ)). All (λ q. q < p) (list_at l p)) (sym e) (first p);
  there = λ q. subst (All (λ p. p ≤ 0)) (sym (none q)) (All-nil (λ p. p ≤ 0));
  first = λ q. subst IsFirst (sym (none q)) (All-nil (λ p. 0 ≤ p));
}
  where
    first : (p : ℕ) → All (λ q. q < p) (list_at ([] ∷ []) p)
    first zero = All-nil (λ q. q < 0)
    first (suc p) = All-nil (λ q. q < suc p)

pub sound_begun : (ls ms : List (List ℕ)) (assigners : Name → List ℕ) (n m count more : ℕ) → ms ≡ ls ++ [] ∷ [] → m ≡ n + 1 → more ≡ count + 1 → AreSound ls assigners n count → AreSound ms assigners m more
sound_begun ls ms assigners n m count more e next grown s = record {
  bodies = let long = ap length e ∙ length-append ls ([] ∷ []) in let was = s.bodies in omega arith;
  walked = let long = ap length e ∙ length-append ls ([] ∷ []) in let was = s.walked in omega arith;
  earlier = λ p. subst (All (λ q. q < p)) (sym (ap (λ l. list_at l p) e ∙ list_at-begun ls p)) (s.earlier p);
  there = λ q k d h. let was = s.there q k d h in omega arith;
  first = s.first;
}

pub sound_noted : (ls : List (List ℕ)) (assigners more : Name → List ℕ) (x : Name) (n count : ℕ) → NotedAt x n assigners more → AreSound ls assigners n count → AreSound ls more n count
sound_noted ls assigners more x n count has s = record {
  bodies = s.bodies;
  walked = s.walked;
  earlier = s.earlier;
  there = λ q. elim (has q) [ inl h ↦ noted_low n (assigners q) (more q) h.1 (s.there q) | inr h ↦ subst (All (λ p. p ≤ n)) (sym h.1) (s.there q) ];
  first = λ q. elim (has q) [ inl h ↦ noted_first n (assigners q) (more q) h.1 (s.there q) (s.first q) | inr h ↦ subst IsFirst (sym h.1) (s.first q) ];
}

pub sound_same : (ls ms : List (List ℕ)) (assigners more : Name → List ℕ) (n count : ℕ) → ms ≡ ls → ((q : Name) → more q ≡ assigners q) → AreSound ls assigners n count → AreSound ms more n count
sound_same ls ms assigners more n count e same s = record {
  bodies = s.bodies ∙ sym (ap length e);
  walked = s.walked ∙ sym (ap length e);
  earlier = λ p. subst (λ (l : List (List ℕ)). All (λ q. q < p) (list_at l p)) (sym e) (s.earlier p);
  there = λ q. subst (All (λ p. p ≤ n)) (sym (same q)) (s.there q);
  first = λ q. subst IsFirst (sym (same q)) (s.first q);
}

module _ (ls ms : List (List ℕ)) (n body : ℕ) (there : n < length ls) (e : ms ≡ set ls n (list_at ls n ++ body ∷ [])) where
  pub list_at-called : list_at ms n ≡ list_at ls n ++ body ∷ []
  list_at-called = ap (λ (l : List (List ℕ)). list_at l n) e ∙ get_or-set_same ls n (list_at ls n ++ body ∷ []) [] there

  pub list_at-others : (p : ℕ) → p ≢ n → list_at ms p ≡ list_at ls p
  list_at-others p d = ap (λ (l : List (List ℕ)). list_at l p) e ∙ get_or-set_other ls n p (list_at ls n ++ body ∷ []) [] d

pub sound_called : (ls ms : List (List ℕ)) (assigners : Name → List ℕ) (n body count : ℕ) → ms ≡ set ls n (list_at ls n ++ body ∷ []) → body < n → AreSound ls assigners n count → AreSound ms assigners n count
sound_called ls ms assigners n body count e low s = record {
  bodies = s.bodies ∙ sym (ap length e ∙ length-set ls n (list_at ls n ++ body ∷ []));
  walked = s.walked ∙ sym (ap length e ∙ length-set ls n (list_at ls n ++ body ∷ []));
  earlier = λ p. elim (eqb_tells p n) [
    | inl t ↦ subst (λ (l : List ℕ). All (λ q. q < p) l) (sym (ap (list_at ms) t.1 ∙ list_at-called ls ms n body (omega (arith, s.bodies)) e)) (All-push (λ q. q < p) (list_at ls n) body (subst (λ (z : ℕ). All (λ q. q < p) (list_at ls z)) t.1 (s.earlier p)) (omega (arith, t.1)))
    | inr t ↦ subst (All (λ q. q < p)) (sym (list_at-others ls ms n body (omega (arith, s.bodies)) e p t.1)) (s.earlier p)
  ];
  there = s.there;
  first = s.first;
}

-- ---- what bodies reach

from_one : (p q : ℕ) → Contains (p ∷ []) q → p ≡ q
from_one p q c = elim (Contains-push_cases [] p q c) [ inl a ↦ absurd (no_element q a) | inr e ↦ e ]

pub reach_itself : (ls : List (List ℕ)) (p : ℕ) → IsReached ls (p ∷ []) p
reach_itself ls p = start p (Contains-push [] p)

-- calls lead only to earlier bodies
pub reach_below : (ls : List (List ℕ)) (p : ℕ) {r : ℕ} → ((q : ℕ) → All (λ r. r < q) (list_at ls q)) → IsReached ls (p ∷ []) r → r ≤ p
reach_below ls p earlier (start r c) = let e = from_one p r c in omega arith
reach_below ls p earlier (onward q r before c) = let low = reach_below ls p earlier before in let less = All-contains (λ z. z < q) (list_at ls q) r (earlier q) c in omega arith

-- with other lists from n on
pub reach_agrees : (ls ms : List (List ℕ)) (n p : ℕ) {r : ℕ} → ((q : ℕ) → q < n → list_at ms q ≡ list_at ls q) → ((q : ℕ) → All (λ r. r < q) (list_at ls q)) → p < n → IsReached ls (p ∷ []) r → IsReached ms (p ∷ []) r
reach_agrees ls ms n p same earlier low (start r c) = start r c
reach_agrees ls ms n p same earlier low (onward q r before c) =
    let below = reach_below ls p earlier before in
    onward q r (reach_agrees ls ms n p same earlier low before) (subst (λ (l : List ℕ). Contains l r) (sym (same q (omega arith))) c)

-- with more successors
pub reach_more : (ls ms : List (List ℕ)) (starts : List ℕ) {r : ℕ} → ((p q : ℕ) → Contains (list_at ls p) q → Contains (list_at ms p) q) → IsReached ls starts r → IsReached ms starts r
reach_more ls ms starts more (start r c) = start r c
reach_more ls ms starts more (onward q r before c) = onward q r (reach_more ls ms starts more before) (more q r c)

pub reach_onward : (ls : List (List ℕ)) (starts : List ℕ) (p : ℕ) {r : ℕ} → IsReached ls starts p → IsReached ls (p ∷ []) r → IsReached ls starts r
reach_onward ls starts p first (start r c) = subst (IsReached ls starts) (from_one p r c) first
reach_onward ls starts p first (onward q r before c) = onward q r (reach_onward ls starts p first before) c

-- a body that calls none
pub reach_alone : (ls : List (List ℕ)) (p : ℕ) {r : ℕ} → list_at ls p ≡ [] → IsReached ls (p ∷ []) r → p ≡ r
reach_alone ls p none (start r c) = from_one p r c
reach_alone ls p none (onward q r before c) =
    let e = reach_alone ls p none before in
    absurd (no_element r (subst (λ (l : List ℕ). Contains l r) (ap (list_at ls) (sym e) ∙ none) c))

-- the last body calls another
pub reach_called : (ls ms : List (List ℕ)) (n body : ℕ) {r : ℕ} → n < length ls → ms ≡ set ls n (list_at ls n ++ body ∷ []) → ((q : ℕ) → All (λ r. r < q) (list_at ls q)) → body < n → IsReached ms (n ∷ []) r → IsReached ls (n ∷ []) r ⊎ IsReached ls (body ∷ []) r
reach_called ls ms n body there e earlier low (start r c) = inl (start r c)
reach_called ls ms n body there e earlier low (onward q r before c) = elim (reach_called ls ms n body there e earlier low before) [
  | inl a ↦ elim (eqb_tells q n) [
    | inl t ↦ elim (Contains-push_cases (list_at ls n) body r (subst (λ (l : List ℕ). Contains l r) (ap (list_at ms) t.1 ∙ list_at-called ls ms n body there e) c)) [
      | inl o ↦ inl (onward q r a (subst (λ (z : ℕ). Contains (list_at ls z) r) (sym t.1) o))
      | inr is ↦ inr (subst (IsReached ls (body ∷ [])) is (reach_itself ls body))
    ]
    | inr t ↦ inl (onward q r a (subst (λ (l : List ℕ). Contains l r) (list_at-others ls ms n body there e q t.1) c))
  ]
  | inr b ↦ let below = reach_below ls body earlier b in inr (onward q r b (subst (λ (l : List ℕ). Contains l r) (list_at-others ls ms n body there e q (λ is. absurd (omega arith))) c))
]

-- ---- tests of names

any_found : {X : Type 0} (p : X → Bool) (xs : List X) → list_any p xs ≡ true → (x : X) × Contains xs x × (p x ≡ true)
any_found p [] e = absurd (true≢false (sym e))
any_found p (x ∷ xs) e = elim (or_cases (p x) (list_any p xs) e) [
  | inl t ↦ (x, Contains-append_left (x ∷ []) xs x (Contains-push [] x), t)
  | inr r ↦ let f = any_found p xs r in (f.0, Contains-append_right (x ∷ []) xs f.0 f.1, f.2)
]
  where
    or_cases : (a b : Bool) → (a || b) ≡ true → (a ≡ true) ⊎ (b ≡ true)
    or_cases true b e = inl refl
    or_cases false b e = inr e

some_any : {X : Type 0} (p : X → Bool) (xs : List X) (x : X) → Contains xs x → p x ≡ true → list_any p xs ≡ true
some_any p [] x c e = absurd (no_element x c)
some_any p (y ∷ ys) x c e = elim (Contains-append_cases (y ∷ []) ys x c) [
  | inl a ↦ elim (Contains-push_cases [] y x a) [ inl n ↦ absurd (no_element x n) | inr is ↦ left (p y) (list_any p ys) (ap p is ∙ e) ]
  | inr b ↦ right (p y) (list_any p ys) (some_any p ys x b e)
]
  where
    left : (a b : Bool) → a ≡ true → (a || b) ≡ true
    left true b t = refl
    left false b t = absurd (true≢false (sym t))

    right : (a b : Bool) → b ≡ true → (a || b) ≡ true
    right true b t = refl
    right false b t = t

pub same_bool : (a b : Bool) → (a ≡ true → b ≡ true) → (b ≡ true → a ≡ true) → a ≡ b
same_bool true true f g = refl
same_bool false false f g = refl
same_bool true false f g = sym (f refl)
same_bool false true f g = g refl

pub found_any : (r : Bool) (n : ℕ) (found : List ℕ) → ((r ≡ true) ↔ Contains found n) → r ≡ list_any (nat_eq n) found
found_any r n found has =
    same_bool r (list_any (nat_eq n) found) (λ t. some_any (nat_eq n) found n (has.0 t) (eq-eqb n n refl))
    (λ t. let f = any_found (nat_eq n) found t in has.1 (subst (Contains found) (sym (eqb-true n f.0 f.2)) f.1))

pub either_true : (a b : Bool) → (a || b) ≡ true → (a ≡ true) ⊎ (b ≡ true)
either_true true b e = inl refl
either_true false b e = inr e

pub left_true : (a b : Bool) → a ≡ true → (a || b) ≡ true
left_true true b t = refl
left_true false b t = absurd (true≢false (sym t))

pub right_true : (a b : Bool) → b ≡ true → (a || b) ≡ true
right_true true b t = refl
right_true false b t = t

-- whether a list has a number up to this one, by its first, which is the least
pub first_tells : (l : List ℕ) (body o : ℕ) → slice_get l 0 ≡ Some o → IsFirst l → nat_le o body ≡ list_any (λ p. nat_le p body) l
first_tells [] body o is first = absurd (none-some o is)
first_tells (x ∷ xs) body o is first =
    let e : x ≡ o = same_Some x o is in
    same_bool (nat_le o body) (list_any (λ p. nat_le p body) (x ∷ xs)) (λ t. left_true (nat_le x body) (list_any (λ p. nat_le p body) xs) (ap (λ (n : ℕ). nat_le n body) e ∙ t)) (λ t.
    let f = any_found (λ p. nat_le p body) (x ∷ xs) t in
    let least : x ≤ f.0 = All-contains (λ p. x ≤ p) (x ∷ xs) f.0 first f.1 in
    let low = leb-true f.0 body f.2 in
    le-leb o body (omega arith))

-- ---- which bodies have called which

abbrev pub AreCallers : List (List ℕ) → List (Option ℕ) → Type 0
AreCallers ls callers = (p q : ℕ) → at_place callers q ≡ Some p → list_any (nat_eq q) (list_at ls p) ≡ true

pub is_listed : (l : List ℕ) (q : ℕ) → Contains l q → list_any (nat_eq q) l ≡ true
is_listed l q c = some_any (nat_eq q) l q c (eq-eqb q q refl)

pub listed_there : (l : List ℕ) (q : ℕ) → list_any (nat_eq q) l ≡ true → Contains l q
listed_there l q e = let f = any_found (nat_eq q) l e in subst (Contains l) (sym (eqb-true q f.0 f.2)) f.1

no_caller : (p q : ℕ) → at_place [] q ≡ Some p → ⊥
no_caller p q e = absurd (none-some p (sym (get_or_past [] q None (omega arith)) ∙ e))

pub callers_none : (ls : List (List ℕ)) (callers : List (Option ℕ)) → callers ≡ [] → AreCallers ls callers
callers_none ls callers none p q e = absurd (no_caller p q (ap (λ (l : List (Option ℕ)). at_place l q) (sym none) ∙ e))

pub callers_begun : (ls ms : List (List ℕ)) (callers : List (Option ℕ)) → ms ≡ ls ++ [] ∷ [] → AreCallers ls callers → AreCallers ms callers
callers_begun ls ms callers e has p q is = subst (λ (l : List ℕ). list_any (nat_eq q) l ≡ true) (sym (ap (λ (m : List (List ℕ)). list_at m p) e ∙ list_at-begun ls p)) (has p q is)

module _ (ls ms : List (List ℕ)) (callers : List (Option ℕ)) (n body : ℕ) (inside : n < length ls) (e : ms ≡ set ls n (list_at ls n ++ body ∷ [])) (has : AreCallers ls callers) where
  more_callees : (p q : ℕ) → Contains (list_at ls p) q → Contains (list_at ms p) q
  more_callees p q c = elim (eqb_tells p n) [
    | inl t ↦ subst (λ (l : List ℕ). Contains l q) (sym (ap (list_at ms) t.1 ∙ list_at-called ls ms n body inside e)) (Contains-append_left (list_at ls n) (body ∷ []) q (subst (λ (z : ℕ). Contains (list_at ls z) q) t.1 c))
    | inr t ↦ subst (λ (l : List ℕ). Contains l q) (sym (list_at-others ls ms n body inside e p t.1)) c
  ]

  -- a call that is not noted yet
  pub callers_kept : (more : List (Option ℕ)) → ((m : ℕ) → at_place more m ≡ at_place callers m) → AreCallers ms more
  callers_kept more same p q is = is_listed (list_at ms p) q (more_callees p q (listed_there (list_at ls p) q (has p q (sym (same q) ∙ is))))

  pub callers_called : (more : List (Option ℕ)) → at_place more body ≡ Some n → ((m : ℕ) → m ≢ body → at_place more m ≡ at_place callers m) → AreCallers ms more
  callers_called more there others p q is = elim (eqb_tells q body) [
    | inl t ↦
        let same : n ≡ p = same_Some n p (sym there ∙ ap (at_place more) (sym t.1) ∙ is) in
        is_listed (list_at ms p) q (subst (λ (z : ℕ). Contains (list_at ms z) q) same (subst (λ (l : List ℕ). Contains l q) (sym (list_at-called ls ms n body inside e)) (subst (Contains (list_at ls n ++ body ∷ [])) (sym t.1) (Contains-push (list_at ls n) body))))
    | inr t ↦ is_listed (list_at ms p) q (more_callees p q (listed_there (list_at ls p) q (has p q (sym (others q t.1) ∙ is))))
  ]

hit_same : (t u : Name → Bool) → ((y : Name) → t y ≡ u y) → (o : Opened) → is_hit t o ≡ is_hit u o
hit_same t u e opened.Branch = refl
hit_same t u e (opened.Turn y (bounds.Num z)) = ap (λ (b : Bool). b || false) (e y)
hit_same t u e (opened.Turn y (bounds.Var z)) = ap (λ (b : Bool). b || t z) (e y) ∙ ap (λ (b : Bool). u y || b) (e z)

pub hits_same : (t u : Name → Bool) → ((y : Name) → t y ≡ u y) → (blocks : List Opened) → list_any (is_hit t) blocks ≡ list_any (is_hit u) blocks
hits_same t u e [] = refl
hits_same t u e (o ∷ os) = ap (λ (b : Bool). b || list_any (is_hit t) os) (hit_same t u e o) ∙ ap (λ (b : Bool). is_hit u o || b) (hits_same t u e os)

hit_more : (t u : Name → Bool) → ((y : Name) → t y ≡ true → u y ≡ true) → (o : Opened) → is_hit t o ≡ true → is_hit u o ≡ true
hit_more t u more opened.Branch e = e
hit_more t u more (opened.Turn y (bounds.Num z)) e = elim (either_true (t y) false e) [ inl a ↦ left_true (u y) false (more y a) | inr b ↦ absurd (true≢false (sym b)) ]
hit_more t u more (opened.Turn y (bounds.Var z)) e = elim (either_true (t y) (t z) e) [ inl a ↦ left_true (u y) (u z) (more y a) | inr b ↦ right_true (u y) (u z) (more z b) ]

hits_more : (t u : Name → Bool) → ((y : Name) → t y ≡ true → u y ≡ true) → (blocks : List Opened) → list_any (is_hit t) blocks ≡ true → list_any (is_hit u) blocks ≡ true
hits_more t u more [] e = e
hits_more t u more (o ∷ os) e = elim (either_true (is_hit t o) (list_any (is_hit t) os) e) [
  | inl a ↦ left_true (is_hit u o) (list_any (is_hit u) os) (hit_more t u more o a)
  | inr b ↦ right_true (is_hit u o) (list_any (is_hit u) os) (hits_more t u more os b)
]

-- where no body up to this one assigns a counter or a bound, this one does not
pub hits_none : (ls : List (List ℕ)) (assigners : Name → List ℕ) (body : ℕ) (blocks : List Opened) (test : Name → Bool) → ((q : ℕ) → All (λ r. r < q) (list_at ls q)) → Tells test ls assigners body → list_any (is_hit (is_early assigners body)) blocks ≡ false
    → false ≡ list_any (is_hit test) blocks
hits_none ls assigners body blocks test earlier tells none =
    same_bool false (list_any (is_hit test) blocks) (λ e. absurd (true≢false (sym e))) (λ e. sym none ∙ hits_more test (is_early assigners body) early blocks e)
  where
    early : (y : Name) → test y ≡ true → is_early assigners body y ≡ true
    early y t = let a = (tells y).0 t in some_any (λ p. nat_le p body) (assigners y) a.0 a.2 (le-leb a.0 body (reach_below ls body earlier a.1))

-- the walk found what the body reaches
pub hits_found : (ls : List (List ℕ)) (assigners : Name → List ℕ) (body : ℕ) (found : List ℕ) (blocks : List Opened) (test : Name → Bool) → ((q : ℕ) → Contains found q ↔ IsReached ls (body ∷ []) q) → Tells test ls assigners body
    → list_any (is_hit (is_found assigners found)) blocks ≡ list_any (is_hit test) blocks
hits_found ls assigners body found blocks test all tells = hits_same (is_found assigners found) test (λ y. same_bool (is_found assigners found y) (test y) (from y) (to y)) blocks
  where
    from : (y : Name) → is_found assigners found y ≡ true → test y ≡ true
    from y e =
        let a = any_found (λ p. list_any (nat_eq p) found) (assigners y) e in
        let b = any_found (nat_eq a.0) found a.2 in
        (tells y).1 (a.0, (all a.0).0 (subst (Contains found) (sym (eqb-true a.0 b.0 b.2)) b.1), a.1)

    to : (y : Name) → test y ≡ true → is_found assigners found y ≡ true
    to y e = let a = (tells y).0 e in some_any (λ p. list_any (nat_eq p) found) (assigners y) a.0 a.2 (some_any (nat_eq a.0) found a.0 ((all a.0).1 a.1) (eq-eqb a.0 a.0 refl))
