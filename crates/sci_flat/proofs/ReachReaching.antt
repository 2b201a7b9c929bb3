-- Source after source: what the lists have come to.
use Rattle.std.proofs.Common.{◌≡◌, ◌<◌, ◌+◌, ℕ, List, [], ◌∷◌, ◌++◌, length, Bool, true, false, ◌&&◌, inl, inr, refl, sym, ◌∙◌, subst, arith, get_or}
use Rattle.std.proofs.Math.ListN.{replicate}
use Rattle.std.specs.Prelude.{Contains, ◌==◌, AllPairs, ◌↔◌}
use Rattle.std.proofs.lemmas.Bool.Decides.{eqb_tells, nat_tests}
use Rattle.std.proofs.lemmas.List.{append-nil}
use Rattle.std.proofs.lemmas.List.Elements.{Contains-get_or, Contains-append_left, Contains-push, Contains-push_cases}
use Rattle.std.proofs.lemmas.List.Quantifiers.{all_pairs_push}
use Rattle.sci_flat.specs.declared.reach.search.FeedSearch.{FeedSearch}
use Rattle.sci_flat.specs.Chain.{Chain}
use Rattle.sci_flat.specs.Chain as chain
use Rattle.sci_flat.specs.Lists.{lists_of, list_at}
use Rattle.sci_flat.specs.Search.{Path, stay, onward, is_stamped, is_wanted, one_if, Walks, IsReady}
use Rattle.sci_flat.specs.Reached.{IsWanted, AreReached}
use Rattle.sci_flat.proofs.ReachFilling.{Steps, none-there}
use Rattle.sci_flat.proofs.Leading.{LeadOn}

chain_from_path : (es : Steps) (ls : ℕ → List ℕ) → LeadOn es ls → {p q : ℕ} → Path ls p q → Chain es p q
chain_from_path es ls lead stay = chain.stay
chain_from_path es ls lead (onward {q = q} {r = r} before c) = chain.onward (chain_from_path es ls lead before) ((lead q r).0 c)

path_from_chain : (es : Steps) (ls : ℕ → List ℕ) → LeadOn es ls → {p q : ℕ} → Chain es p q → Path ls p q
path_from_chain es ls lead chain.stay = stay
path_from_chain es ls lead (chain.onward {q = q} {r = r} before s) = onward (path_from_chain es ls lead before) ((lead q r).1 s)

-- the lists with the first i sources
pub record Reaching (es : Steps) (sources : List ℕ) (wanted : List Bool) (s : FeedSearch) (i : ℕ) : Type 0 where
  pub ready : IsReady s (length wanted) i
  pub rising : (q : ℕ) → AllPairs (λ a b. a < b) (list_at (lists_of s.lists) q)
  pub under : (q j : ℕ) → Contains (list_at (lists_of s.lists) q) j → j < i
  pub exactly : (q j : ℕ) → IsWanted wanted q → Contains (list_at (lists_of s.lists) q) j ↔ ((j < i) × Chain es (get_or sources j 0) q)

pub reaching_none : (es : Steps) (sources : List ℕ) (wanted : List Bool) (s : FeedSearch) (n : ℕ) → lists_of s.lists ≡ replicate n [] → IsReady s (length wanted) 0 → Reaching es sources wanted s 0
reaching_none es sources wanted s n e ready = record {
  ready = ready;
  rising = λ q a b d l h. absurd (none q (get_or (list_at (lists_of s.lists) q) b d) (Contains-get_or (list_at (lists_of s.lists) q) b d h));
  under = λ q j c. absurd (none q j c);
  exactly = λ q j w. (λ c. absurd (none q j c), λ r. absurd (omega (arith, r.0)));
}
  where
    none : (q j : ℕ) → Contains (list_at (lists_of s.lists) q) j → ⊥
    none q j c = none-there n q j (subst (λ (x : List (List ℕ)). Contains (list_at x q) j) e c)

true_eq : (a b : ℕ) → (a == b) ≡ true → a ≡ b
true_eq a b e = grind (arith, nat_tests)

eq_true : (a b : ℕ) → a ≡ b → (a == b) ≡ true
eq_true a b e = grind (arith, nat_tests)

module _ (i : ℕ) (old new : List ℕ) where
  rising_more : (b : Bool) → new ≡ old ++ one_if b i → ((j : ℕ) → Contains old j → j < i) → AllPairs (λ (a : ℕ) (c : ℕ). a < c) old → AllPairs (λ (a : ℕ) (c : ℕ). a < c) new
  rising_more true e under rising = let P : List ℕ → Type 0 = AllPairs (λ (a : ℕ) (c : ℕ). a < c) in
      subst P (sym e) (all_pairs_push (λ (a : ℕ) (c : ℕ). a < c) old i rising (λ k d h. under (get_or old k d) (Contains-get_or old k d h)))
  rising_more false e under rising = let P : List ℕ → Type 0 = AllPairs (λ (a : ℕ) (c : ℕ). a < c) in subst P (sym (e ∙ append-nil old)) rising

  under_more : (b : Bool) → new ≡ old ++ one_if b i → ((j : ℕ) → Contains old j → j < i) → (j : ℕ) → Contains new j → j < i + 1
  under_more true e under j c = elim (Contains-push_cases old i j (subst (λ (x : List ℕ). Contains x j) e c)) [ inl a ↦ omega (arith, under j a) | inr is ↦ omega arith ]
  under_more false e under j c = omega (arith, under j (subst (λ (x : List ℕ). Contains x j) (e ∙ append-nil old) c))

  -- a wanted port, where b says whether the source reaches it
  exact_more : (b : Bool) (R : ℕ → Type 0) → new ≡ old ++ one_if b i → ((j : ℕ) → Contains old j ↔ ((j < i) × R j)) → (b ≡ true → R i) → (R i → b ≡ true) → (j : ℕ) → Contains new j ↔ ((j < i + 1) × R j)
  exact_more true R e exactly to from j = (
    λ c. elim (Contains-push_cases old i j (subst (λ (x : List ℕ). Contains x j) e c)) [ inl a ↦ (omega (arith, ((exactly j).0 a).0), ((exactly j).0 a).1) | inr is ↦ (omega arith, subst R is (to refl)) ],
    λ r. subst (λ (x : List ℕ). Contains x j) (sym e) (elim (eqb_tells j i) [ inl t ↦ rw t.1 (Contains-push old i) | inr t ↦ Contains-append_left old (i ∷ []) j ((exactly j).1 (omega (arith, r.0, t.1), r.1)) ]),
  )
  exact_more false R e exactly to from j =
      let same = e ∙ append-nil old in (
        λ c. let r = (exactly j).0 (subst (λ (x : List ℕ). Contains x j) same c) in (omega (arith, r.0), r.1),
        λ r. subst (λ (x : List ℕ). Contains x j) (sym same) (elim (eqb_tells j i) [ inl t ↦ absurd (differs (from (subst R t.1 r.1))) | inr t ↦ (exactly j).1 (omega (arith, r.0, t.1), r.1) ]),
      )
    where
      differs : false ≡ true → ⊥
      differs f = cc

pub reaching_more : (es : Steps) (ls : ℕ → List ℕ) (sources : List ℕ) (wanted : List Bool) (s new : FeedSearch) (i : ℕ) → LeadOn es ls → Walks ls wanted i (get_or sources i 0) s new → Reaching es sources wanted s i → Reaching es sources wanted new (i + 1)
reaching_more es ls sources wanted s new i lead w r = record {
  ready = record { stamps_long = w.stamps_long ∙ r.ready.stamps_long; lists_long = w.lists_long ∙ r.ready.lists_long; pending = w.pending; below = w.below };
  rising = λ q. rising_more i (list_at (lists_of s.lists) q) (list_at (lists_of new.lists) q) (is_stamped new.stamps.items (i + 1) q && is_wanted wanted q) (w.lists q) (r.under q) (r.rising q);
  under = λ q. under_more i (list_at (lists_of s.lists) q) (list_at (lists_of new.lists) q) (is_stamped new.stamps.items (i + 1) q && is_wanted wanted q) (w.lists q) (r.under q);
  exactly = λ q j is_w. exact_more i (list_at (lists_of s.lists) q) (list_at (lists_of new.lists) q) (is_stamped new.stamps.items (i + 1) q && is_wanted wanted q) (λ (j : ℕ). Chain es (get_or sources j 0) q) (w.lists q) (λ j. r.exactly q j is_w)
      (λ t. chain_from_path es ls lead (w.reach q (true_eq _ _ (left_true (is_stamped new.stamps.items (i + 1) q) (is_wanted wanted q) t))))
      (λ c. both_true (is_stamped new.stamps.items (i + 1) q) (is_wanted wanted q) (eq_true _ _ (w.all q (path_from_chain es ls lead c))) is_w) j;
}
  where
    left_true : (b w : Bool) → (b && w) ≡ true → b ≡ true
    left_true true w e = refl
    left_true false w e = e

    both_true : (b w : Bool) → b ≡ true → w ≡ true → (b && w) ≡ true
    both_true b w e f = rw (e, f) refl

pub reaching_all : (es : Steps) (sources : List ℕ) (wanted : List Bool) (s : FeedSearch) (lists : List (List ℕ)) (i : ℕ) → i ≡ length sources → lists ≡ lists_of s.lists → length lists ≡ length wanted → Reaching es sources wanted s i → AreReached es sources wanted lists
reaching_all es sources wanted s lists i e is long r = record {
  long = long;
  rising = λ q. let P : List (List ℕ) → Type 0 = λ x. AllPairs (λ (a : ℕ) (c : ℕ). a < c) (list_at x q) in subst P (sym is) (r.rising q);
  under = λ q j c. let P : List (List ℕ) → Type 0 = λ x. Contains (list_at x q) j in omega (arith, e, r.under q j (subst P is c));
  exactly = λ q j w. let P : List (List ℕ) → Type 0 = λ x. Contains (list_at x q) j ↔ ((j < length sources) × Chain es (get_or sources j 0) q) in
      subst P (sym is) (subst (λ (n : ℕ). Contains (list_at (lists_of s.lists) q) j ↔ ((j < n) × Chain es (get_or sources j 0) q)) e (r.exactly q j w));
}
