-- The guards of an entry.
use Rattle.std.proofs.Common.{◌≡◌, ℕ, ◌<◌, Bool, true, false, ◌⊎◌, inl, inr, ⊎_elim, ◌↔◌, List, [], ◌∷◌, ◌++◌, length, map, Contains, AllPairs, sym, ap, ap₂, refl, subst, ◌∙◌, arith, nat_lt, nat_eq, ◌&&◌}
use Rattle.std.specs.List.{filter, count_by}
use Rattle.std.proofs.lemmas.Bool.{or_cases, ltb-true, lt-ltb, eqb-true, eq-eqb}
use Rattle.std.proofs.lemmas.List.{length-map, map-append, append-nil}
use Rattle.std.proofs.lemmas.List.Elements.{All-contains, All-push, filter-append}
use Rattle.std.proofs.lemmas.List.Kept.{AllPairs-filter}
use Rattle.std.proofs.lemmas.List.Sums.{length-filter}
use Rattle.std.proofs.Math.Path.{fun_ext}
use Rattle.sci_net.specs.declared.Feed.{Feed}
use Rattle.sci_net.specs.declared.Source.{Source}
use Rattle.sci_net.specs.Parts.{Parts, IsBlock, IsWired, feeds_of, precedes, AreRising}
use Rattle.sci_reaction.specs.Links.{IsSource}
use Rattle.sci_reaction.specs.Active.{IsSync, Possible, Reaches}
use Rattle.sci_reaction.specs.Equations.{HasBits}
use Rattle.sci_reaction.specs.Schedule.{Guard as PlainGuard, Entry as PlainEntry, branch_of, IsGuard, IsEntry}
use Rattle.sci_reaction.proofs.Lists.{Has, and_both, and_true, or_left, or_right}
use Rattle.sci_reaction.proofs.Exists.{same_mask}
use Rattle.sci_reaction.proofs.OneRow.{same_lists}
use Rattle.sci_reaction.proofs.Rows.{Contains-has, has-Contains, guard_mask, guard_mask-bits}
use Rattle.sci_inherit.specs.Live.{IsLive}
use Rattle.sci_reaction.specs.declared.entry.Guard.{Guard}
use Rattle.sci_reaction.specs.Kept.{guard_of, guards_of}
use Rattle.sci_sched.specs.Guards.{is_possible, branch_in, AreGuards}
use Rattle.sci_sched.proofs.Members.{map_from, map_to, filter_from, filter_to, pairs_map, pairs_of_map}

-- ---- by block and port

abbrev pub Before : Feed → Feed → Type 0
Before p q = (p.block < q.block) ⊎ ((p.block ≡ q.block) × (p.port < q.port))

pub before_of : (p q : Feed) → precedes p q ≡ true → Before p q
before_of p q h =
    ⊎_elim (λ less. inl (ltb-true p.block q.block less))
    (λ same. let b = and_both (nat_eq p.block q.block) (nat_lt p.port q.port) same in inr (eqb-true p.block q.block b.0, ltb-true p.port q.port b.1))
    (or_cases (nat_lt p.block q.block) (nat_eq p.block q.block && nat_lt p.port q.port) h)

of_before : (p q : Feed) → Before p q → precedes p q ≡ true
of_before p q h =
    ⊎_elim (λ less. or_left (nat_lt p.block q.block) (nat_eq p.block q.block && nat_lt p.port q.port) (lt-ltb p.block q.block less))
    (λ same. or_right (nat_lt p.block q.block) (nat_eq p.block q.block && nat_lt p.port q.port)
    (and_true (nat_eq p.block q.block) (nat_lt p.port q.port) (eq-eqb p.block q.block same.0) (lt-ltb p.port q.port same.1)))
    h

pub feed_strict : (p : Feed) → precedes p p ≡ true → ⊥
feed_strict p h = ⊎_elim (λ less. omega (arith, less)) (λ same. omega (arith, same.1)) (before_of p p h)

pub feed_trans : (p q r : Feed) → precedes p q ≡ true → precedes q r ≡ true → precedes p r ≡ true
feed_trans p q r x y =
    of_before p r
    (⊎_elim
    (λ l. ⊎_elim (λ k. inl (omega (arith, l, k))) (λ k. inl (omega (arith, l, k.0))) (before_of q r y))
    (λ l. ⊎_elim (λ k. inl (omega (arith, l.0, k))) (λ k. inr (omega (arith, l.0, k.0), omega (arith, l.1, k.1))) (before_of q r y))
    (before_of p q x))

-- ---- possible blocks

-- the blocks of a list, by the test of its members
pub marked : (n : Parts) (s : Source) (possible : List ℕ) → ((b : ℕ) → Contains possible b ↔ Possible n s b) → (c : ℕ) → Has possible c ↔ Possible n s c
marked n s possible are c = (λ h. (are c).0 (has-Contains possible c h), λ p. Contains-has possible c ((are c).1 p))

same_tests : (a b : Bool) → (a ≡ true → b ≡ true) → (b ≡ true → a ≡ true) → a ≡ b
same_tests true b to from = sym (to refl)
same_tests false true to from = from refl
same_tests false false to from = refl

-- lists with the same members find the same branches possible
pub alike : (xs ys : List ℕ) → ((c : ℕ) → Contains xs c ↔ Contains ys c) → is_possible xs ≡ is_possible ys
alike xs ys same = fun_ext (λ (q : Feed). same_tests (is_possible xs q) (is_possible ys q)
    (λ on. Contains-has ys q.block ((same q.block).0 (has-Contains xs q.block on)))
    (λ on. Contains-has xs q.block ((same q.block).1 (has-Contains ys q.block on))))

pub guards_alike : (n : Parts) (xs ys : List ℕ) (qs : List Feed) (b : ℕ) (gs : List Guard) → ((c : ℕ) → Contains xs c ↔ Contains ys c) → AreGuards n xs qs b gs → AreGuards n ys qs b gs
guards_alike n xs ys qs b gs same is = record { branches_are = is.branches_are ∙ ap (λ p. filter p qs) (alike xs ys same); masks_are = is.masks_are }

-- ---- guards, one branch after the other

pub guards_with : (n : Parts) (possible : List ℕ) (qs : List Feed) (b : ℕ) (gs : List Guard) (q : Feed) (g : Guard) → AreGuards n possible qs b gs → is_possible possible q ≡ true → branch_in g ≡ q →
    HasBits g.mask (λ p. Contains (feeds_of n b p) q) → AreGuards n possible (qs ++ q ∷ []) b (gs ++ g ∷ [])
guards_with n possible qs b gs q g is on same bits =
    let one : filter (is_possible possible) (q ∷ []) ≡ q ∷ [] = rw on refl in
    record {
      branches_are =
          map-append branch_in gs (g ∷ [])
          ∙ (ap₂ (λ xs ys. xs ++ ys) is.branches_are (ap (λ x. x ∷ []) same ∙ sym one) ∙ sym (filter-append (is_possible possible) qs (q ∷ [])));
      masks_are =
          All-push (λ (h : Guard). HasBits h.mask (λ p. Contains (feeds_of n b p) (branch_in h))) gs g is.masks_are
          (subst (λ x. HasBits g.mask (λ p. Contains (feeds_of n b p) x)) (sym same) bits);
    }

pub guards_without : (n : Parts) (possible : List ℕ) (qs : List Feed) (b : ℕ) (gs : List Guard) (q : Feed) → AreGuards n possible qs b gs → is_possible possible q ≡ false → AreGuards n possible (qs ++ q ∷ []) b gs
guards_without n possible qs b gs q is off =
    let none : filter (is_possible possible) (q ∷ []) ≡ [] = rw off refl in
    record {
      branches_are = is.branches_are ∙ (sym (append-nil (filter (is_possible possible) qs)) ∙ (ap (λ ys. filter (is_possible possible) qs ++ ys) (sym none) ∙ sym (filter-append (is_possible possible) qs (q ∷ []))));
      masks_are = is.masks_are;
    }

-- ---- the guards of block b

guard_parts : (g h : PlainGuard) → g.block ≡ h.block → g.port ≡ h.port → g.mask ≡ h.mask → g ≡ h
guard_parts g h p q r =
    ap (λ (v : ℕ). record g { block = v }) p ∙ (ap (λ (v : ℕ). record g { block = h.block; port = v }) q ∙ ap (λ (v : ℕ). record h { mask = v }) r)

module _ (n : Parts) (s : Source) (source : IsSource n s) (b : ℕ) (possible : List ℕ) (branches : List Feed) (rise : AreRising branches)
    (are : (q : Feed) → Contains branches q ↔ (IsLive n q.block × IsSync n q.block × Reaches n q b))
    (mark : (q : Feed) → IsSync n q.block → Reaches n q b → Has possible q.block ↔ Possible n s q.block) where
  -- what the source may activate is live
  live : {c : ℕ} → Possible n s c → IsLive n c
  live p = record { source = s; is_source = source; possible = p }

  abbrev Precede : Feed → Feed → Type 0
  Precede p q = precedes p q ≡ true

  pub guards_rise : (gs : List Guard) → AreGuards n possible branches b gs → AllPairs (λ g h. precedes (branch_of g) (branch_of h) ≡ true) (guards_of gs)
  guards_rise gs is =
      let in_order : AllPairs Precede (map branch_in gs) = subst (AllPairs Precede) (sym is.branches_are) (AllPairs-filter Precede (is_possible possible) branches rise) in
      pairs_map (λ g h. precedes (branch_of g) (branch_of h) ≡ true) guard_of gs (pairs_of_map Precede branch_in gs in_order)

  sound : (gs : List Guard) → AreGuards n possible branches b gs → (x : Guard) → Contains gs x → IsGuard n s b (guard_of x)
  sound gs is x has =
      let f = filter_from (is_possible possible) branches (branch_in x) (subst (λ qs. Contains qs (branch_in x)) is.branches_are (map_to branch_in gs x has)) in
      let a = (are (branch_in x)).0 f.0 in
      record {
        possible = (mark (branch_in x) a.1 a.2).0 f.1;
        sync = a.1;
        reaches = a.2;
        feeds = All-contains (λ (g : Guard). HasBits g.mask (λ p. Contains (feeds_of n b p) (branch_in g))) gs x is.masks_are has;
      }

  complete : (gs : List Guard) → AreGuards n possible branches b gs → (g : PlainGuard) → IsGuard n s b g → Contains (guards_of gs) g
  complete gs is g ok =
      let inside = filter_to (is_possible possible) branches (branch_of g) ((are (branch_of g)).1 (live ok.possible, ok.sync, ok.reaches)) ((mark (branch_of g) ok.sync ok.reaches).1 ok.possible) in
      let r = map_from branch_in gs (branch_of g) (subst (λ qs. Contains qs (branch_of g)) (sym is.branches_are) inside) in
      let bits = All-contains (λ (h : Guard). HasBits h.mask (λ p. Contains (feeds_of n b p) (branch_in h))) gs r.0 is.masks_are r.1 in
      let same = same_mask (λ p. Contains (feeds_of n b p) (branch_of g)) r.0.mask g.mask (subst (λ q. HasBits r.0.mask (λ p. Contains (feeds_of n b p) q)) r.2 bits) ok.feeds in
      let parts = guard_parts (guard_of r.0) g (ap (λ (q : Feed). q.block) r.2) (ap (λ (q : Feed). q.port) r.2) same in
      subst (Contains (guards_of gs)) parts (map_to guard_of gs r.0 r.1)

  pub guards_exact : (gs : List Guard) → AreGuards n possible branches b gs → (g : PlainGuard) → Contains (guards_of gs) g ↔ IsGuard n s b g
  guards_exact gs is g = (
    λ has. let r = map_from guard_of gs g has in subst (IsGuard n s b) r.2 (sound gs is r.0 r.1),
    λ ok. complete gs is g ok,
  )

  -- an entry has as many guards as there are branches of possible blocks
  pub guards_counted : IsWired n → IsBlock n b → (e : PlainEntry) → e.block ≡ b → IsEntry n s e → length e.guards ≡ count_by (is_possible possible) branches
  guards_counted wired inside e at ok =
      let same : map branch_of e.guards ≡ filter (is_possible possible) branches =
      same_lists Precede feed_strict feed_trans (map branch_of e.guards) (filter (is_possible possible) branches) (pairs_map Precede branch_of e.guards ok.rising)
      (AllPairs-filter Precede (is_possible possible) branches rise) (λ q. (to q, from q)) in
      sym (length-map e.guards branch_of) ∙ (ap length same ∙ length-filter (is_possible possible) branches)
    where
      to : (q : Feed) → Contains (map branch_of e.guards) q → Contains (filter (is_possible possible) branches) q
      to q has =
          let r = map_from branch_of e.guards q has in
          let g = subst (λ c. IsGuard n s c r.0) at ((ok.guards_are r.0).0 r.1) in
          subst (Contains (filter (is_possible possible) branches)) r.2
          (filter_to (is_possible possible) branches (branch_of r.0) ((are (branch_of r.0)).1 (live g.possible, g.sync, g.reaches)) ((mark (branch_of r.0) g.sync g.reaches).1 g.possible))

      from : (q : Feed) → Contains (filter (is_possible possible) branches) q → Contains (map branch_of e.guards) q
      from q has =
          let f = filter_from (is_possible possible) branches q has in
          let a = (are q).0 f.0 in
          let g : PlainGuard = record { block = q.block; port = q.port; mask = guard_mask n b q } in
          let is : IsGuard n s b g = record { possible = (mark q a.1 a.2).0 f.1; sync = a.1; reaches = a.2; feeds = guard_mask-bits n wired b q inside } in
          map_to branch_of e.guards g ((ok.guards_are g).1 (subst (λ c. IsGuard n s c g) (sym at) is))
