-- A source without a loop has one row.
use Rattle.std.proofs.Common.{◌≡◌, ℕ, suc, ◌<◌, Bool, true, false, ◌&&◌, nat_lt, nat_eq, ◌⊎◌, inl, inr, ⊎_elim, ◌↔◌, List, [], ◌∷◌, slice_index_or, Contains, refl, sym, ap, ap₂, subst, ◌∙◌, arith}
use Rattle.std.proofs.lemmas.Bool.{or_cases, ltb-true, lt-ltb, eqb-true, eq-eqb}
use Rattle.std.proofs.lemmas.List.Elements.{All-contains}
use Rattle.std.specs.List.{AllPairs}
use Rattle.sci_net.specs.declared.Feed.{Feed}
use Rattle.sci_net.specs.declared.Source.{Source}
use Rattle.sci_net.specs.Parts.{Parts, precedes}
use Rattle.sci_reaction.specs.Links.{SourceFeeds}
use Rattle.sci_loop.proofs.Depth.{one_depth}
use Rattle.sci_reaction.specs.Depends.{Depends, IsLoopFree, Precedes}
use Rattle.sci_reaction.specs.Schedule.{Guard, Entry, blocks_of, branch_of, IsEntry, IsRow}
use Rattle.sci_reaction.proofs.Lists.{and_both, and_true, or_left, or_right, cons-Contains, Contains-cons}
use Rattle.sci_reaction.proofs.OneResult.{precedes_trans, irreflexive}
use Rattle.sci_reaction.proofs.Rows.{Contains-has, block_in, entry_at}
use Rattle.sci_reaction.proofs.Exists.{same_mask}

-- two lists in one strict order with the same members are the same
module _ {A : Type 0} (R : A → A → Type 0) (strict : (a : A) → R a a → ⊥) (trans : (a b c : A) → R a b → R b c → R a c) where
  head_before : (x : A) (xs : List A) → AllPairs R (x ∷ xs) → (a : A) → Contains xs a → R x a
  head_before x xs all a h =
      let pair : R x (slice_index_or xs h.0 a) = all 0 (suc h.0) a (omega arith) (omega (arith, h.1)) in subst (R x) h.2 pair

  tail_pairs : (x : A) (xs : List A) → AllPairs R (x ∷ xs) → AllPairs R xs
  tail_pairs x xs all i j d l h = all (suc i) (suc j) d (omega (arith, l)) (omega (arith, h))

  -- the first members are the same
  same_head : (x y : A) (xs ys : List A) → AllPairs R (x ∷ xs) → AllPairs R (y ∷ ys) → Contains (y ∷ ys) x → Contains (x ∷ xs) y → x ≡ y
  same_head x y xs ys hx hy there back =
      ⊎_elim (λ same. sym same)
      (λ after. ⊎_elim (λ same. same)
      (λ before. absurd (strict x (trans x y x (head_before x xs hx y before) (head_before y ys hy x after))))
      (Contains-cons x xs y back))
      (Contains-cons y ys x there)

  -- a member of the one tail is one of the other
  same_tail : (x y : A) (xs ys : List A) → x ≡ y → AllPairs R (x ∷ xs) → (a : A) → Contains xs a → Contains (y ∷ ys) a → Contains ys a
  same_tail x y xs ys same hx a h there =
      ⊎_elim (λ first. absurd (strict a (subst (λ v. R v a) (same ∙ first) (head_before x xs hx a h)))) (λ later. later) (Contains-cons y ys a there)

  pub same_lists : (xs ys : List A) → AllPairs R xs → AllPairs R ys → ((a : A) → Contains xs a ↔ Contains ys a) → xs ≡ ys
  same_lists [] [] hx hy h = refl
  same_lists [] (y ∷ ys) hx hy h = absurd (let c = (h y).1 (0, omega arith, refl) in omega (arith, c.1))
  same_lists (x ∷ xs) [] hx hy h = absurd (let c = (h x).0 (0, omega arith, refl) in omega (arith, c.1))
  same_lists (x ∷ xs) (y ∷ ys) hx hy h =
      let head = same_head x y xs ys hx hy ((h x).0 (0, omega arith, refl)) ((h y).1 (0, omega arith, refl)) in
      let tail = same_lists xs ys (tail_pairs x xs hx) (tail_pairs y ys hy)
      (λ a. (
        (λ c. same_tail x y xs ys head hx a c ((h a).0 (cons-Contains x xs a c))),
        λ c. same_tail y x ys xs (sym head) hy a c ((h a).1 (cons-Contains y ys a c)),
      )) in
      ap₂ (λ v vs. v ∷ vs) head tail

-- ---- guards

-- by block and port
abbrev Before : Feed → Feed → Type 0
Before p q = (p.block < q.block) ⊎ ((p.block ≡ q.block) × (p.port < q.port))

before_of : (p q : Feed) → precedes p q ≡ true → Before p q
before_of p q h =
    ⊎_elim (λ less. inl (ltb-true p.block q.block less))
    (λ same. let b = and_both (nat_eq p.block q.block) (nat_lt p.port q.port) same in inr (eqb-true p.block q.block b.0, ltb-true p.port q.port b.1))
    (or_cases (nat_lt p.block q.block) (nat_eq p.block q.block && nat_lt p.port q.port) h)

of_before : (p q : Feed) → Before p q → precedes p q ≡ true
of_before p q h =
    ⊎_elim (λ less. or_left (nat_lt p.block q.block) (nat_eq p.block q.block && nat_lt p.port q.port) (lt-ltb p.block q.block less))
    (λ same. or_right (nat_lt p.block q.block) (nat_eq p.block q.block && nat_lt p.port q.port)
    (and_true (nat_eq p.block q.block) (nat_lt p.port q.port) (eq-eqb p.block q.block same.0) (lt-ltb p.port q.port same.1)))
    h

before_strict : (p : Feed) → precedes p p ≡ true → ⊥
before_strict p h = ⊎_elim (λ less. omega (arith, less)) (λ same. omega (arith, same.1)) (before_of p p h)

before_trans : (p q r : Feed) → precedes p q ≡ true → precedes q r ≡ true → precedes p r ≡ true
before_trans p q r x y =
    of_before p r
    (⊎_elim
    (λ l. ⊎_elim (λ k. inl (omega (arith, l, k))) (λ k. inl (omega (arith, l, k.0))) (before_of q r y))
    (λ l. ⊎_elim (λ k. inl (omega (arith, l.0, k))) (λ k. inr (omega (arith, l.0, k.0), omega (arith, l.1, k.1))) (before_of q r y))
    (before_of p q x))

-- ---- entries

same_test : (t u : Bool) → ((t ≡ true) ↔ (u ≡ true)) → t ≡ u
same_test true true h = refl
same_test true false h = sym (h.0 refl)
same_test false true h = h.1 refl
same_test false false h = refl

entry_parts : (d e : Entry) → d.block ≡ e.block → d.depth ≡ e.depth → d.always ≡ e.always → d.mask ≡ e.mask → d.guards ≡ e.guards → d ≡ e
entry_parts d e p k q r t =
    ap (λ (v : ℕ). record d { block = v }) p
    ∙ (ap (λ (v : ℕ). record d { block = e.block; depth = v }) k
    ∙ (ap (λ (v : Bool). record d { block = e.block; depth = e.depth; always = v }) q
    ∙ (ap (λ (v : ℕ). record d { block = e.block; depth = e.depth; always = e.always; mask = v }) r ∙ ap (λ (v : List Guard). record e { guards = v }) t)))

module _ (n : Parts) (s : Source) where
  same_entry_at : (d e : Entry) → d.block ≡ e.block → IsEntry n s d → IsEntry n s e → d ≡ e
  same_entry_at d e same x y =
      let z : IsEntry n s (record e { block = d.block }) = moved in
      let depth = one_depth (Depends n s) d.block d.depth e.depth x.depth_is z.depth_is in
      let always = same_test d.always e.always ((λ h. z.always_is.1 (x.always_is.0 h)), λ h. x.always_is.1 (z.always_is.0 h)) in
      let mask = same_mask (SourceFeeds n s d.block) d.mask e.mask x.mask_is z.mask_is in
      let guards = same_lists (λ g h. precedes (branch_of g) (branch_of h) ≡ true) (λ g. before_strict (branch_of g)) (λ f g h. before_trans (branch_of f) (branch_of g) (branch_of h))
      d.guards e.guards x.rising z.rising (λ g. ((λ c. (z.guards_are g).1 ((x.guards_are g).0 c)), λ c. (x.guards_are g).1 ((z.guards_are g).0 c))) in
      entry_parts d e same depth always mask guards
    where
      moved : IsEntry n s (record e { block = d.block })
      moved = subst (λ b. IsEntry n s (record e { block = b })) (sym same) y

  module _ (free : IsLoopFree n s) where
    there : (one other : List Entry) → IsRow n s one → IsRow n s other → (e : Entry) → Contains one e → Contains other e
    there one other x y e has =
        let may = (x.exactly e.block).0 (block_in one e has) in
        let d = entry_at other e.block (Contains-has (blocks_of other) e.block ((y.exactly e.block).1 may)) in
        let same = same_entry_at d.0 e d.2 (All-contains (IsEntry n s) other d.0 y.entries d.1) (All-contains (IsEntry n s) one e x.entries has) in
        subst (Contains other) same d.1

    pub one_row : (one other : List Entry) → IsRow n s one → IsRow n s other → one ≡ other
    one_row one other x y =
        same_lists (λ d e. Precedes n s d.block e.block) (λ e. irreflexive n s free e.block) (λ c d e. precedes_trans n s free c.block d.block e.block)
        one other x.ordered y.ordered (λ e. (there one other x y e, there other one y x e))
