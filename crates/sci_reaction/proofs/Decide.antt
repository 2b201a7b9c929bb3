-- What a net says can be decided: each least set, and what depends on what.
use Rattle.std.proofs.Common.{◌≡◌, ℕ, zero, suc, ◌+◌, ◌<◌, ◌≤◌, true, ◌⊎◌, inl, inr, ⊎_elim, List, [], ◌∷◌, length, get_or, Contains, eqb, refl, sym, ap, ap₂, subst, arith, true≢false}
use Rattle.std.proofs.lemmas.Bool.{cases_Bool, cases_eq, cases_lt, or_cases, eqb-true}
use Rattle.std.specs.List.{IsDistinct, AllByRecursion, list_any}
use Rattle.std.proofs.lemmas.Map.Keys.{IsDistinct-cons}
use Rattle.std.proofs.lemmas.Map.Steps.{length-le_from_distinct_below}
use Rattle.sci_forms.specs.Form.{is_sync}
use Rattle.sci_loop.proofs.Decided.{Decided, decide_true}
use Rattle.sci_loop.proofs.Grounded.{fresh, inside_at, IsDistinct-nil}
use Rattle.sci_net.specs.declared.Feed.{Feed}
use Rattle.sci_net.specs.declared.Source.{Source}
use Rattle.sci_net.specs.declared.Source.TheVariants.{Start, Port}
use Rattle.sci_net.specs.Parts.{Parts, IsBlock, IsInput, IsActivationInput, spec_of, wire_of, feeds_of}
use Rattle.sci_reaction.specs.Links.{Supplies, SuppliesThrough, Feeds, IsConstant, Inherits, SetOff, SourceFeeds, has_feedthrough}
use Rattle.sci_reaction.specs.Active.{Inherited, seeded, passed, Reaches, IsAlways, IsSync, set_off, taken, inherited, Possible}
use Rattle.sci_reaction.specs.Depends.{Conditions, Depends}
use Rattle.sci_reaction.specs.Equations.{Signals, input_in, branch_on, Takes, Active, BranchFeeds, IsActivated}
use Rattle.sci_reaction.proofs.Lists.{Has, Has-cases}
use Rattle.sci_reaction.proofs.Spreading.{SetOff-block, Spread-block, Spread-least}

pub decide_both : {P Q : Type 0} → Decided P → Decided Q → Decided (P × Q)
decide_both p q = ⊎_elim (λ a. ⊎_elim (λ b. inl (a, b)) (λ out. inr (λ h. out h.1)) q) (λ out. inr (λ h. out h.0)) p

pub decide_either : {P Q : Type 0} → Decided P → Decided Q → Decided (P ⊎ Q)
decide_either p q = ⊎_elim (λ a. inl (inl a)) (λ n. ⊎_elim (λ b. inl (inr b)) (λ o. inr (λ h. ⊎_elim n o h)) q) p

pub decide_like : {P Q : Type 0} → (P → Q) → (Q → P) → Decided P → Decided Q
decide_like f g p = ⊎_elim (λ a. inl (f a)) (λ n. inr (λ h. n (g h))) p

pub decide_lt : (a b : ℕ) → Decided (a < b)
decide_lt a b = ⊎_elim (λ h. inl h) (λ h. inr (λ g. omega arith)) (cases_lt a b)

pub decide_le : (a b : ℕ) → Decided (a ≤ b)
decide_le a b = decide_like (λ h. omega (arith, h)) (λ h. omega (arith, h)) (decide_lt a (b + 1))

-- some number below n has the property, or none has
pub search_below : (P : ℕ → Type 0) → ((k : ℕ) → Decided (P k)) → (n : ℕ) → Decided ((k : ℕ) × (k < n) × P k)
search_below P dec zero = inr (λ h. absurd (omega (arith, h.1)))
search_below P dec (suc n) =
    ⊎_elim (λ here. inl (n, omega arith, here))
    (λ not_here. ⊎_elim (λ below. inl (below.0, omega (arith, below.1), below.2))
    (λ none. inr (λ h. ⊎_elim (λ same. not_here (subst P same h.2)) (λ other. none (h.0, omega (arith, h.1, other), h.2)) (cases_eq h.0 n)))
    (search_below P dec n))
    (dec n)

decide_feed : (p q : Feed) → Decided (p ≡ q)
decide_feed p q =
    ⊎_elim (λ b. ⊎_elim (λ c. inl (ap₂ (λ i j. record { block = i; port = j }) b c)) (λ n. inr (λ h. n (ap (λ (x : Feed). x.port) h))) (cases_eq p.port q.port))
    (λ n. inr (λ h. n (ap (λ (x : Feed). x.block) h))) (cases_eq p.block q.block)

pub decide_has : (xs : List Feed) (q : Feed) → Decided (Contains xs q)
decide_has xs q = search_below (λ k. get_or xs k q ≡ q) (λ k. decide_feed (get_or xs k q) q) (length xs)

-- some member of the list has the property
pub decide_some : (P : Feed → Type 0) → ((q : Feed) → Decided (P q)) → (xs : List Feed) → Decided ((q : Feed) × Contains xs q × P q)
decide_some P dec [] = inr (λ h. absurd (omega (arith, h.1.1)))
decide_some P dec (x ∷ xs) =
    ⊎_elim (λ here. inl (x, (0, omega arith, refl), here))
    (λ not_here. ⊎_elim (λ r. inl (r.0, (suc r.1.0, omega (arith, r.1.1), r.1.2), r.2))
    (λ none. inr (λ h. some_absurd x xs not_here none h.0 h.1.0 h.1.1 h.1.2 h.2)) (decide_some P dec xs))
    (dec x)
  where
    some_absurd : (x' : Feed) (ys : List Feed) → (P x' → ⊥) → ((q : Feed) × Contains ys q × P q → ⊥) → (q : Feed) (k : ℕ) → k < length (x' ∷ ys) → get_or (x' ∷ ys) k q ≡ q → P q → ⊥
    some_absurd x' ys out none q zero l e h = out (subst P (sym e) h)
    some_absurd x' ys out none q (suc k) l e h = none (q, (k, omega (arith, l), e), h)

-- A least set of numbers below n, of which it can be decided what it begins with and where it goes on, is a list.
module _ (n : ℕ) (seed : ℕ → Type 0) (edge : ℕ → ℕ → Type 0) (R : ℕ → Type 0)
    (dec_seed : (b : ℕ) → Decided (seed b)) (dec_edge : (a b : ℕ) → Decided (edge a b))
    (first : (b : ℕ) → seed b → R b) (next : (a b : ℕ) → R a → edge a b → R b) (below : (b : ℕ) → R b → b < n) where
  Closed : Type 0
  Closed = (ys : List ℕ) × ((b : ℕ) → Has ys b → R b) × ((b : ℕ) → seed b → Has ys b) × ((a b : ℕ) → Has ys a → edge a b → Has ys b)

  New : List ℕ → ℕ → Type 0
  New xs b = (Has xs b → ⊥) × (seed b ⊎ ((a : ℕ) × (a < n) × (Has xs a × edge a b)))

  dec_new : (xs : List ℕ) (b : ℕ) → Decided (New xs b)
  unfolding New
  dec_new xs b =
      decide_both (⊎_elim (λ h. inr (λ out. out h)) (λ h. inl h) (Has-cases xs b))
      (decide_either (dec_seed b) (search_below (λ a. Has xs a × edge a b) (λ a. decide_both (Has-cases xs a) (dec_edge a b)) n))

  grown : (xs : List ℕ) → ((b : ℕ) → Has xs b → R b) → (b : ℕ) → New xs b → R b
  unfolding New
  grown xs all b new = ⊎_elim (λ s. first b s) (λ e. next e.0 b (all e.0 e.2.0) e.2.1) new.1

  step : (xs : List ℕ) → ((b : ℕ) → Has xs b → R b) → ((b : ℕ) × (b < n) × New xs b) ⊎ Closed
  unfolding Closed New
  step xs all =
      ⊎_elim (λ found. inl found)
      (λ none. inr (
        xs,
        all,
        (λ b s. ⊎_elim (λ h. h) (λ out. absurd (none (b, below b (first b s), (out, inl s)))) (Has-cases xs b)),
        λ a b h e. ⊎_elim (λ g. g) (λ out. absurd (none (b, below b (next a b (all a h) e), (out, inr (a, below a (all a h), (h, e)))))) (Has-cases xs b),
      ))
      (search_below (New xs) (dec_new xs) n)

  longer : (b : ℕ) (xs : List ℕ) → (Has xs b → ⊥) → IsDistinct eqb xs → IsDistinct eqb (b ∷ xs)
  longer b xs out distinct =
      IsDistinct-cons eqb b xs (fresh b xs (⊎_elim (λ on. absurd (out on)) (λ off. off) (cases_Bool (list_any (eqb b) xs)))) distinct

  all_longer : (b : ℕ) (xs : List ℕ) → R b → ((c : ℕ) → Has xs c → R c) → (c : ℕ) → Has (b ∷ xs) c → R c
  all_longer b xs here all c h = ⊎_elim (λ same. subst R (sym (eqb-true c b same)) here) (all c) (or_cases (eqb c b) (list_any (eqb c) xs) h)

  grow : (k : ℕ) (xs : List ℕ) → n ≤ length xs + k → IsDistinct eqb xs → AllByRecursion (λ q. q < n) xs → ((b : ℕ) → Has xs b → R b) → Closed
  unfolding New
  grow zero xs room distinct inside all =
      ⊎_elim
      (λ found. absurd (let full : length (found.0 ∷ xs) ≤ n =
      length-le_from_distinct_below (found.0 ∷ xs) n (longer found.0 xs found.2.0 distinct) (inside_at n (found.0 ∷ xs) (found.1, inside)) in omega arith))
      (λ c. c) (step xs all)
  grow (suc k) xs room distinct inside all =
      ⊎_elim
      (λ found. grow k (found.0 ∷ xs) (omega arith) (longer found.0 xs found.2.0 distinct) (found.1, inside)
      (all_longer found.0 xs (grown xs all found.0 found.2) all))
      (λ c. c) (step xs all)

  pub closure : (ys : List ℕ) × ((b : ℕ) → Has ys b → R b) × ((b : ℕ) → seed b → Has ys b) × ((a b : ℕ) → Has ys a → edge a b → Has ys b)
  unfolding Closed
  closure = grow n [] (omega arith) IsDistinct-nil tt (λ b h. absurd (true≢false (sym h)))

module _ (n : Parts) where
  -- numbers of blocks are below this
  abbrev pub bound : ℕ
  bound = length n.specs + 1

  pub block_below : (b : ℕ) → IsBlock n b → b < bound
  block_below b h = omega (arith, h.most)

  pub decide_block : (b : ℕ) → Decided (IsBlock n b)
  decide_block b =
      decide_like (λ h. record { least = h.0; most = h.1 }) (λ h. (h.least, h.most)) (decide_both (decide_le 1 b) (decide_le b (length n.specs)))

  decide_input : (b k : ℕ) → Decided (IsInput n b k)
  decide_input b k =
      decide_like (λ h. record { block = h.0; least = h.1.0; most = h.1.1 }) (λ h. (h.block, (h.least, h.most)))
      (decide_both (decide_block b) (decide_both (decide_le 1 k) (decide_le k (length (spec_of n b).ins))))

  pub decide_activation_input : (b p : ℕ) → Decided (IsActivationInput n b p)
  decide_activation_input b p =
      decide_like (λ h. record { block = h.0; least = h.1.0; most = h.1.1 }) (λ h. (h.block, (h.least, h.most)))
      (decide_both (decide_block b) (decide_both (decide_le 1 p) (decide_le p (spec_of n b).evtin)))

  pub decide_feeds : (q : Feed) (b : ℕ) → Decided (Feeds n q b)
  decide_feeds q b =
      decide_like (λ h. record { input = h.0; within = h.2.0; fed = h.2.1 }) (λ h. (h.input, omega (arith, h.within.most), (h.within, h.fed)))
      (search_below (λ p. IsActivationInput n b p × Contains (feeds_of n b p) q) (λ p. decide_both (decide_activation_input b p) (decide_has (feeds_of n b p) q))
      ((spec_of n b).evtin + 1))

  pub decide_supplies : (a b : ℕ) → Decided (Supplies n a b)
  decide_supplies a b =
      decide_like (λ h. record { input = h.0; within = h.2.0; from = h.2.1 }) (λ h. (h.input, omega (arith, h.within.most), (h.within, h.from)))
      (search_below (λ k. IsInput n b k × ((wire_of n b k).block ≡ a)) (λ k. decide_both (decide_input b k) (cases_eq (wire_of n b k).block a)) (length (spec_of n b).ins + 1))

  decide_supplies_through : (a b : ℕ) → Decided (SuppliesThrough n a b)
  decide_supplies_through a b =
      decide_like (λ h. record { input = h.0; within = h.2.0; from = h.2.1.0; through = h.2.1.1 })
      (λ h. (h.input, omega (arith, h.within.most), (h.within, (h.from, h.through))))
      (search_below (λ k. IsInput n b k × (((wire_of n b k).block ≡ a) × (has_feedthrough (spec_of n b) k ≡ true)))
      (λ k. decide_both (decide_input b k) (decide_both (cases_eq (wire_of n b k).block a) (decide_true (has_feedthrough (spec_of n b) k))))
      (length (spec_of n b).ins + 1))

  pub decide_inherits : (b : ℕ) → Decided (Inherits n b)
  decide_inherits b =
      decide_like (λ h. record { some_input = h.0; no_activation_input = h.1 }) (λ h. (h.some_input, h.no_activation_input))
      (decide_both (decide_lt 0 (length (spec_of n b).ins)) (cases_eq (spec_of n b).evtin 0))

  decide_constant : (b : ℕ) → Decided (IsConstant n b)
  decide_constant b =
      decide_like (λ h. record { block = h.0; no_input = h.1.0; no_activation_input = h.1.1 }) (λ h. (h.block, (h.no_input, h.no_activation_input)))
      (decide_both (decide_block b) (decide_both (cases_eq (length (spec_of n b).ins) 0) (cases_eq (spec_of n b).evtin 0)))

  pub decide_set_off : (s : Source) (b : ℕ) → Decided (SetOff n s b)
  decide_set_off Start b = decide_constant b
  decide_set_off (Port q) b = decide_feeds q b

  -- a hands its activation on to b
  abbrev pub HandsOn : ℕ → ℕ → Type 0
  HandsOn a b = Inherits n b × Supplies n a b

  decide_hands_on : (a b : ℕ) → Decided (HandsOn a b)
  decide_hands_on a b = decide_both (decide_inherits b) (decide_supplies a b)

  -- some branch of a feeds b
  abbrev pub FedBy : ℕ → ℕ → Type 0
  FedBy a b = (p : ℕ) × Feeds n (record { block = a; port = p }) b

  fed_by : (a b : ℕ) → (k : ℕ) × (k < (spec_of n b).evtin + 1) × (IsActivationInput n b k × ((q : Feed) × Contains (feeds_of n b k) q × (q.block ≡ a))) → FedBy a b
  fed_by a b h =
      let q = h.2.1.0 in
      (q.port, record { input = h.0; within = h.2.0; fed = subst (λ (k : ℕ). Contains (feeds_of n b h.0) (record { block = k; port = q.port })) h.2.1.2 h.2.1.1 })

  pub decide_fed : (a b : ℕ) → Decided (FedBy a b)
  decide_fed a b =
      decide_like (fed_by a b)
      (λ h. (h.1.input, omega (arith, h.1.within.most), (h.1.within, (record { block = a; port = h.0 }, h.1.fed, refl))))
      (search_below (λ k. IsActivationInput n b k × ((q : Feed) × Contains (feeds_of n b k) q × (q.block ≡ a)))
      (λ k. decide_both (decide_activation_input b k) (decide_some (λ q. q.block ≡ a) (λ q. cases_eq q.block a) (feeds_of n b k)))
      ((spec_of n b).evtin + 1))

  abbrev pub Branches : ℕ → ℕ → Type 0
  Branches a b = IsSync n a × FedBy a b

  decide_branches : (a b : ℕ) → Decided (Branches a b)
  decide_branches a b = decide_both (decide_true (is_sync (spec_of n a).kind)) (decide_fed a b)

  pub Inherited-block : (seed : ℕ → Type 0) → ((b : ℕ) → seed b → IsBlock n b) → {b : ℕ} → Inherited n seed b → IsBlock n b
  Inherited-block seed low (seeded c h) = low c h
  Inherited-block seed low (passed a c d i u) = u.within.block

  Inherited-in : (seed P : ℕ → Type 0) → ((b : ℕ) → seed b → P b) → ((a b : ℕ) → P a → HandsOn a b → P b) → {b : ℕ} → Inherited n seed b → P b
  Inherited-in seed P first next (seeded c h) = first c h
  Inherited-in seed P first next (passed a c d i u) = next a c (Inherited-in seed P first next d) (i, u)

  pub decide_inherited : (seed : ℕ → Type 0) → ((b : ℕ) → Decided (seed b)) → ((b : ℕ) → seed b → IsBlock n b) → (b : ℕ) → Decided (Inherited n seed b)
  decide_inherited seed dec low b =
      let c = closure bound seed HandsOn (Inherited n seed) dec decide_hands_on (λ d h. seeded d h) (λ a d h e. passed a d h e.0 e.1) (λ d h. block_below d (Inherited-block seed low h)) in
      decide_like (c.1 b) (λ h. Inherited-in seed (Has c.0) c.2 c.3 h) (Has-cases c.0 b)

  pub decide_possible : (s : Source) (b : ℕ) → Decided (Possible n s b)
  decide_possible s b =
      let c = closure bound (SetOff n s) (λ a d. Branches a d ⊎ HandsOn a d) (Possible n s) (decide_set_off s) (λ a d. decide_either (decide_branches a d) (decide_hands_on a d))
      (λ d h. set_off d h) (λ a d h e. ⊎_elim (λ br. taken a br.1.0 d h br.0 tt br.1.1) (λ on. inherited a d h on.0 on.1) e)
      (λ d h. block_below d (Spread-block n s _ h)) in
      decide_like (c.1 b)
      (λ h. Spread-least n s _ (Has c.0) c.2 (λ a p d g y t f. c.3 a d g (inl (y, (p, f)))) (λ a d g j u. c.3 a d g (inr (j, u))) h)
      (Has-cases c.0 b)

  pub decide_always : (s : Source) (b : ℕ) → Decided (IsAlways n s b)
  decide_always s b = decide_inherited (SetOff n s) (decide_set_off s) (SetOff-block n s) b

  pub decide_reaches : (q : Feed) (b : ℕ) → Decided (Reaches n q b)
  decide_reaches q b = decide_inherited (Feeds n q) (decide_feeds q) (λ a h. h.within.block) b

  -- some branch of b reaches c
  reaches_some : (b : ℕ) {c : ℕ} → Inherited n (FedBy b) c → (p : ℕ) × Reaches n (record { block = b; port = p }) c
  reaches_some b (seeded c h) = (h.0, seeded c h.1)
  reaches_some b (passed a c d i u) = let r = reaches_some b d in (r.0, passed a c r.1 i u)

  some_reaches : (b p : ℕ) {c : ℕ} → Reaches n (record { block = b; port = p }) c → Inherited n (FedBy b) c
  some_reaches b p (seeded c h) = seeded c (p, h)
  some_reaches b p (passed a c d i u) = passed a c (some_reaches b p d) i u

  decide_conditions : (b c : ℕ) → Decided (Conditions n b c)
  decide_conditions b c =
      decide_like (λ h. let r = reaches_some b h.1 in record { sync = h.0; branch = r.0; reaches = r.1 }) (λ h. (h.sync, some_reaches b h.branch h.reaches))
      (decide_both (decide_true (is_sync (spec_of n b).kind)) (decide_inherited (FedBy b) (decide_fed b) (λ a h. h.1.within.block) c))

  pub decide_depends : (s : Source) (c b : ℕ) → Decided (Depends n s c b)
  decide_depends s c b =
      decide_like (λ h. record { possible = h.0; on_possible = h.1.0; waits = h.1.1 }) (λ h. (h.possible, (h.on_possible, h.waits)))
      (decide_both (decide_possible s c) (decide_both (decide_possible s b) (decide_either (decide_supplies_through b c) (decide_conditions b c))))

  -- on given values
  abbrev Taken : Signals → ℕ → ℕ → Type 0
  Taken y a b = IsSync n a × Feeds n (record { block = a; port = branch_on (spec_of n a) (input_in n y a) }) b

  pub decide_active : (s : Source) (y : Signals) (b : ℕ) → Decided (Active n s y b)
  decide_active s y b =
      let c = closure bound (SetOff n s) (λ a d. Taken y a d ⊎ HandsOn a d) (Active n s y) (decide_set_off s)
      (λ a d. decide_either
      (decide_both (decide_true (is_sync (spec_of n a).kind)) (decide_feeds (record { block = a; port = branch_on (spec_of n a) (input_in n y a) }) d))
      (decide_hands_on a d))
      (λ d h. set_off d h) (λ a d h e. ⊎_elim (λ br. taken a (branch_on (spec_of n a) (input_in n y a)) d h br.0 refl br.1) (λ on. inherited a d h on.0 on.1) e)
      (λ d h. block_below d (Spread-block n s _ h)) in
      decide_like (c.1 b)
      (λ h. Spread-least n s _ (Has c.0) c.2
      (λ a p d g sync t f. c.3 a d g (inl (sync, subst (λ (q : ℕ). Feeds n (record { block = a; port = q }) d) (sym t) f)))
      (λ a d g j u. c.3 a d g (inr (j, u))) h)
      (Has-cases c.0 b)

  decide_branch_feeds : (s : Source) (y : Signals) (b p : ℕ) → Decided (BranchFeeds n s y b p)
  decide_branch_feeds s y b p =
      decide_like
      (λ h. record { block = h.0.block; port = h.0.port; active = h.2.0; sync = h.2.1.0; takes = h.2.1.1; fed = h.1 })
      (λ h. (record { block = h.block; port = h.port }, h.fed, (h.active, (h.sync, h.takes))))
      (decide_some (λ q. Active n s y q.block × (IsSync n q.block × Takes n y q.block q.port))
      (λ q. decide_both (decide_active s y q.block)
      (decide_both (decide_true (is_sync (spec_of n q.block).kind)) (cases_eq (branch_on (spec_of n q.block) (input_in n y q.block)) q.port)))
      (feeds_of n b p))

  decide_source_feeds : (s : Source) (b p : ℕ) → Decided (SourceFeeds n s b p)
  decide_source_feeds Start b p = inr (λ h. h)
  decide_source_feeds (Port q) b p = decide_has (feeds_of n b p) q

  pub decide_activated : (s : Source) (y : Signals) (b p : ℕ) → Decided (IsActivated n s y b p)
  decide_activated s y b p =
      decide_like (λ h. record { within = h.0; how = h.1 }) (λ h. (h.within, h.how))
      (decide_both (decide_activation_input b p) (decide_either (decide_source_feeds s b p) (decide_branch_feeds s y b p)))
