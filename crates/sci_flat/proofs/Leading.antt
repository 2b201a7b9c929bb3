-- The steps that lead from a port, the latest first.
use Rattle.std.proofs.Common.{◌≡◌, ◌≢◌, ◌<◌, ◌≤◌, ◌+◌, ◌-◌, ℕ, zero, suc, List, [], ◌∷◌, ◌++◌, length, Bool, true, false, cond, inl, inr, refl, sym, ap, ◌∙◌, subst, arith, get_or, get_or-set_same, get_or-set_other, add-one, length-set, length-append, append_assoc}
use Rattle.std.proofs.Math.ListN.{set, replicate}
use Rattle.std.specs.Prelude.{Contains, ◌==◌, ◌↔◌}
use Rattle.std.proofs.lemmas.Bool.Decides.{eqb_tells, nat_tests}
use Rattle.std.proofs.lemmas.List.{append-nil, get_or_append_left, get_or_push, get_or-replicate, length-replicate}
use Rattle.sci_flat.specs.Chain.{Step}
use Rattle.sci_flat.specs.Search.{Visits}
use Rattle.sci_flat.specs.Successors.{from_at, to_at, latest, leading, targets}
use Rattle.sci_flat.specs.declared.reach.search.FeedSearch.{FeedSearch}
use Rattle.sci_flat.proofs.ReachFilling.{Steps, step_at, place_of}
use Rattle.sci_flat.proofs.Searching.{visits_none}

same : (a b : ℕ) → a ≡ b → (a == b) ≡ true
same a b e = grind (arith, nat_tests)

other : (a b : ℕ) → a ≢ b → (a == b) ≡ false
other a b e = grind (arith, nat_tests)

equal : (a b : ℕ) → (a == b) ≡ true → a ≡ b
equal a b e = grind (arith, nat_tests)

-- ---- the latest step

pub latest_few : (es : Steps) (p n : ℕ) → latest es p n ≤ n
latest_few es p zero = omega arith
latest_few es p (suc n) = tested (from_at es n == p) (latest_few es p n)
  where
    tested : (b : Bool) → latest es p n ≤ n → cond b (suc n) (latest es p n) ≤ suc n
    tested true h = omega arith
    tested false h = omega arith

latest_more : (es : Steps) (p n : ℕ) → from_at es n ≡ p → latest es p (suc n) ≡ suc n
latest_more es p n e = ap (λ (b : Bool). cond b (suc n) (latest es p n)) (same (from_at es n) p e)

latest_less : (es : Steps) (p n : ℕ) → from_at es n ≢ p → latest es p (suc n) ≡ latest es p n
latest_less es p n e = ap (λ (b : Bool). cond b (suc n) (latest es p n)) (other (from_at es n) p e)

leading_more : (es : Steps) (p n : ℕ) → from_at es n ≡ p → leading es p (suc n) ≡ to_at es n ∷ leading es p n
leading_more es p n e = ap (λ (b : Bool). cond b (to_at es n ∷ leading es p n) (leading es p n)) (same (from_at es n) p e)

leading_less : (es : Steps) (p n : ℕ) → from_at es n ≢ p → leading es p (suc n) ≡ leading es p n
leading_less es p n e = ap (λ (b : Bool). cond b (to_at es n ∷ leading es p n) (leading es p n)) (other (from_at es n) p e)

-- nothing leads from p between the latest step and the end
pub leading_latest : (es : Steps) (p n : ℕ) → leading es p (latest es p n) ≡ leading es p n
leading_latest es p zero = refl
leading_latest es p (suc n) = elim (eqb_tells (from_at es n) p) [
  | inl t ↦ ap (leading es p) (latest_more es p n t.1)
  | inr t ↦ ap (leading es p) (latest_less es p n t.1) ∙ (leading_latest es p n ∙ sym (leading_less es p n t.1))
]

pub latest_twice : (es : Steps) (p n : ℕ) → latest es p (latest es p n) ≡ latest es p n
latest_twice es p zero = refl
latest_twice es p (suc n) = elim (eqb_tells (from_at es n) p) [
  | inl t ↦ ap (latest es p) (latest_more es p n t.1)
  | inr t ↦ ap (latest es p) (latest_less es p n t.1) ∙ (latest_twice es p n ∙ sym (latest_less es p n t.1))
]

-- a step that is the latest leads from p
pub leads_from : (es : Steps) (p n : ℕ) → latest es p (suc n) ≡ suc n → from_at es n ≡ p
leads_from es p n e = elim (eqb_tells (from_at es n) p) [
  | inl t ↦ t.1
  | inr t ↦ absurd (omega (arith, sym (latest_less es p n t.1) ∙ e, latest_few es p n))
]

-- ---- the tables of the first n steps

pub record Listed (es : Steps) (ports : ℕ) (latest_now earlier_now : List ℕ) (n : ℕ) : Type 0 where
  pub ports_long : length latest_now ≡ ports
  pub steps_long : length earlier_now ≡ n
  pub last : (p : ℕ) → p < ports → get_or latest_now p 0 ≡ latest es p n
  pub before : (k : ℕ) → k < n → get_or earlier_now k 0 ≡ latest es (from_at es k) k

pub listed_none : (es : Steps) (ports : ℕ) (last : List ℕ) → last ≡ replicate ports 0 → Listed es ports last [] 0
listed_none es ports last e = rw e (record {
  ports_long = length-replicate ports _;
  steps_long = refl;
  last = λ p h. get_or-replicate ports p 0 0 h;
  before = λ k h. absurd (omega arith);
})

pub listed_more : (es : Steps) (ports : ℕ) (last before last' before' : List ℕ) (n from : ℕ) → from < ports → from ≡ from_at es n → last' ≡ set last from (n + 1) → before' ≡ before ++ get_or last from 0 ∷ [] → Listed es ports last before n → Listed es ports last' before' (n + 1)
listed_more es ports last before last' before' n from inside is e f t = rw (e, f) (record {
  ports_long = length-set last from (n + 1) ∙ t.ports_long;
  steps_long = length-append before (get_or last from 0 ∷ []) ∙ omega (arith, t.steps_long);
  last = λ p h. elim (eqb_tells p from) [
    | inl q ↦ rw (q.1, add-one) (get_or-set_same last from (suc n) 0 (omega (arith, t.ports_long)) ∙ sym (latest_more es from n (sym is)))
    | inr q ↦ get_or-set_other last from p (n + 1) 0 q.1 ∙ (t.last p h ∙ (sym (latest_less es p n (λ g. q.1 (sym g ∙ sym is))) ∙ ap (latest es p) (sym (add-one n))))
  ];
  before = λ k h. elim (eqb_tells k n) [
    | inl q ↦ rw q.1 (get_or_push before (get_or last from 0) 0 n t.steps_long ∙ (t.last from inside ∙ ap (λ (x : ℕ). latest es x n) is))
    | inr q ↦ get_or_append_left before (get_or last from 0 ∷ []) 0 k (omega (arith, t.steps_long, q.1)) ∙ t.before k (omega (arith, q.1))
  ];
})

-- ---- turning from one step to the one before it

pub record Turning (es : Steps) (wanted : List Bool) (source port : ℕ) (old new : FeedSearch) (next : ℕ) : Type 0 where
  pub done : List ℕ
  pub visits : Visits wanted source done old new
  pub rest : done ++ leading es port next ≡ targets es port
  pub fixed : latest es port next ≡ next
  pub few : next ≤ length es

pub turning_begins : (es : Steps) (wanted : List Bool) (source port : ℕ) (old : FeedSearch) (next : ℕ) → next ≡ latest es port (length es) → Turning es wanted source port old old next
turning_begins es wanted source port old next e = rw e (record {
  done = [];
  visits = visits_none wanted source old;
  rest = leading_latest es port (length es);
  fixed = latest_twice es port (length es);
  few = latest_few es port (length es);
})

-- the step k is visited, and then comes the one before it
pub turning_more : (es : Steps) (wanted : List Bool) (source port : ℕ) (old mid new : FeedSearch) (k next : ℕ) (t : Turning es wanted source port old mid (suc k)) → next ≡ latest es (from_at es k) k → Visits wanted source (t.done ++ to_at es k ∷ []) old new → Turning es wanted source port old new next
turning_more es wanted source port old mid new k next t e v =
    let from = leads_from es port k t.fixed in
    let is : next ≡ latest es port k = e ∙ ap (λ (x : ℕ). latest es x k) from in
    rw is (record {
      done = t.done ++ to_at es k ∷ [];
      visits = v;
      rest = append_assoc t.done (to_at es k ∷ []) (leading es port (latest es port k)) ∙ (ap (λ (x : List ℕ). t.done ++ to_at es k ∷ x) (leading_latest es port k) ∙ (ap (λ (x : List ℕ). t.done ++ x) (sym (leading_more es port k from)) ∙ t.rest));
      fixed = latest_twice es port k;
      few = omega (arith, latest_few es port k, t.few);
    })

pub turning_ends : (es : Steps) (wanted : List Bool) (source port : ℕ) (old new : FeedSearch) → Turning es wanted source port old new 0 → Visits wanted source (targets es port) old new
turning_ends es wanted source port old new t = subst (λ (x : List ℕ). Visits wanted source x old new) (sym (append-nil t.done) ∙ t.rest) t.visits

pub turning_on : (es : Steps) (wanted : List Bool) (source port : ℕ) (old mid new : FeedSearch) (n next : ℕ) (t : Turning es wanted source port old mid n) → (n ≡ 0 → ⊥) → next ≡ latest es (from_at es (n - 1)) (n - 1) → Visits wanted source (t.done ++ to_at es (n - 1) ∷ []) old new → Turning es wanted source port old new next
turning_on es wanted source port old mid new zero next t h e v = absurd (h refl)
turning_on es wanted source port old mid new (suc k) next t h e v =
    let is : suc k - 1 ≡ k = omega arith in
    turning_more es wanted source port old mid new k next t (subst (λ (x : ℕ). next ≡ latest es (from_at es x) x) is e) (subst (λ (x : ℕ). Visits wanted source (t.done ++ to_at es x ∷ []) old new) is v)

-- ---- where the steps lead

-- the list of each port has the ports to which a step leads from it
abbrev pub LeadOn : Steps → (ℕ → List ℕ) → Type 0
LeadOn es ls = (p q : ℕ) → Contains (ls p) q ↔ Step es p q

later : (b : Bool) (x : ℕ) (xs : List ℕ) (q : ℕ) → Contains xs q → Contains (cond b (x ∷ xs) xs) q
later true x xs q (k, h, e) = (suc k, omega arith, e)
later false x xs q c = c

sound : (es : Steps) (p n q : ℕ) → n ≤ length es → Contains (leading es p n) q → Step es p q
sound es p zero q h (k, l, e) = absurd (omega arith)
sound es p (suc n) q h c = elim (eqb_tells (from_at es n) p) [
  | inl t ↦ here t.1 (λ (d : Contains (leading es p n) q). sound es p n q (omega arith) d) (subst (λ (x : List ℕ). Contains x q) (leading_more es p n t.1) c)
  | inr t ↦ sound es p n q (omega arith) (subst (λ (x : List ℕ). Contains x q) (leading_less es p n t.1) c)
]
  where
    here : from_at es n ≡ p → (Contains (leading es p n) q → Step es p q) → Contains (to_at es n ∷ leading es p n) q → Step es p q
    here is before (zero, l, e) = subst (λ (x : ℕ). Step es x q) is (subst (λ (x : ℕ). Step es (from_at es n) x) e (step_at es n (0, 0) (omega arith)))
    here is before (suc k, l, e) = before (k, omega arith, e)

complete : (es : Steps) (n k : ℕ) → k < n → Contains (leading es (from_at es k) n) (to_at es k)
complete es zero k h = absurd (omega arith)
complete es (suc n) k h = elim (eqb_tells k n) [
  | inl t ↦ let P : ℕ → Type 0 = λ x. Contains (leading es (from_at es x) (suc n)) (to_at es x) in
      subst P (sym t.1) (subst (λ (l : List ℕ). Contains l (to_at es n)) (sym (leading_more es (from_at es n) n refl)) (0, omega arith, refl))
  | inr t ↦ later (from_at es n == from_at es k) (to_at es n) (leading es (from_at es k) n) (to_at es k) (complete es n k (omega (arith, t.1)))
]

pub targets_lead : (es : Steps) → LeadOn es (targets es)
targets_lead es p q = (sound es p (length es) q (omega arith), λ s. found (place_of es p q (0, 0) s))
  where
    found : (k : ℕ) × (k < length es) × ((get_or es k (0, 0)).0 ≡ p) × ((get_or es k (0, 0)).1 ≡ q) → Contains (targets es p) q
    found (k, l, a, b) = subst (λ (x : ℕ). Contains (targets es p) x) b (subst (λ (x : ℕ). Contains (targets es x) (to_at es k)) a (complete es (length es) k l))
