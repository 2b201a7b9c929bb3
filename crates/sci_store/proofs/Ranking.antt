-- Ranks in their order, and the entries that they stand for.
use Rattle.std.proofs.Common.{◌≡◌, ℕ, ◌+◌, ◌<◌, ◌≤◌, ◌≢◌, Bool, true, false, cond, List, [], ◌∷◌, ◌++◌, length, get_or, take, map, All, AllPairs, ◌↔◌, refl, sym, ap, subst, subst₂, ◌∙◌, arith, true≢false}
use Rattle.std.specs.Prelude.{eqb}
use Rattle.std.specs.List.{IsDistinct, filter}
use Rattle.std.specs.List.Sorted.{IsPermutation, IsSorted}
use Rattle.std.specs.Cmp.{IsTotalOrder}
use Rattle.std.specs.Ordering.{is_lt, nat_cmp, bool_cmp, ordering_then}
use Rattle.std.specs.declared.cmp.Ordering.{Ordering}
use Rattle.std.specs.declared.cmp.Ordering.TheVariants.{Less, Equal, Greater}
use Rattle.std.proofs.lemmas.Bool.Decides.{Decides-eqb}
use Rattle.std.proofs.lemmas.Cmp.{ranked, nat_cmp_total, on_total, then_total}
use Rattle.std.specs.Cmp.{bool_cmp_total}
use Rattle.std.proofs.lemmas.List.{get_or-map, get_or_default, length-map, map_push, take_all, get_or_read}
use Rattle.std.proofs.lemmas.List.Elements.{All-push, All-head, All-tail, filter_more}
use Rattle.std.proofs.lemmas.List.Quantifiers.{all_pairs_push}
use Rattle.std.proofs.lemmas.List.Sorted.{IsPermutation-map, IsPermutation-refl, All-permutation, sorted_far, ranks_by}
use Rattle.std.proofs.lemmas.Map.Keys.{IsDistinct-IsPermutation}
use Rattle.std.proofs.lemmas.Map.Made.{IsDistinct-from_AllPairs, AllPairs-from_IsDistinct}
use Rattle.std.proofs.lemmas.Cmp.{nat_eq_equiv}
use Rattle.sci_reaction.specs.declared.entry.Entry.{Entry}
use Rattle.sci_forms.specs.Numbers.{number_of}
use Rattle.sci_store.specs.declared.row.CallRank.{CallRank}
use Rattle.sci_store.specs.Frame.{Fixed}
use Rattle.sci_store.specs.Rows.{is_guarded, IsAlone, StandsBefore}
use Rattle.sci_store.specs.Ranks.{IsRankOf, AreRanked}

-- ---- the order of ranks

-- what the derived order compares
abbrev pub rank_cmp : CallRank → CallRank → Ordering
rank_cmp x y =
    ordering_then (nat_cmp x.depth y.depth)
    (ordering_then (bool_cmp x.guarded y.guarded)
    (ordering_then (bool_cmp x.alone y.alone)
    (ordering_then (nat_cmp x.kind y.kind)
    (ordering_then (nat_cmp x.block y.block) (nat_cmp x.at y.at)))))

rank_total : IsTotalOrder rank_cmp
rank_total =
    then_total (on_total (λ (r : CallRank). r.depth) nat_cmp_total)
    (then_total (on_total (λ (r : CallRank). r.guarded) bool_cmp_total)
    (then_total (on_total (λ (r : CallRank). r.alone) bool_cmp_total)
    (then_total (on_total (λ (r : CallRank). r.kind) nat_cmp_total)
    (then_total (on_total (λ (r : CallRank). r.block) nat_cmp_total) (on_total (λ (r : CallRank). r.at) nat_cmp_total)))))

pub by_number : (a b : ℕ) (o p : Ordering) → o ≡ nat_cmp b a → is_lt (ordering_then o p) ≡ false → (a ≤ b) × (a ≡ b → is_lt p ≡ false)
by_number a b Less p e h = absurd (true≢false h)
by_number a b Equal p e h = let same : b ≡ a = ranked b a Equal e in (omega (arith, same), λ _. h)
by_number a b Greater p e h = let less : a < b = ranked b a Greater e in (omega (arith, less), λ s. absurd (omega (arith, less, s)))

by_flag : (a b : Bool) (p : Ordering) → is_lt (ordering_then (bool_cmp b a) p) ≡ false → (a ≡ true → b ≡ true) × (a ≡ b → is_lt p ≡ false)
by_flag false false p h = (λ e. e, λ _. h)
by_flag true true p h = (λ e. e, λ _. h)
by_flag false true p h = (λ _. refl, λ e. absurd (true≢false (sym e)))
by_flag true false p h = absurd (true≢false h)

-- r stands before q, or the two are alike
pub record IsUpTo (r q : CallRank) : Type 0 where
  pub depths : r.depth ≤ q.depth
  pub guards : r.depth ≡ q.depth → r.guarded ≡ true → q.guarded ≡ true
  pub alone : r.depth ≡ q.depth → r.guarded ≡ q.guarded → r.alone ≡ true → q.alone ≡ true
  pub kinds : r.depth ≡ q.depth → r.guarded ≡ q.guarded → r.alone ≡ q.alone → r.kind ≤ q.kind
  pub numbers : r.depth ≡ q.depth → r.guarded ≡ q.guarded → r.alone ≡ q.alone → r.kind ≡ q.kind → r.block ≤ q.block

pub up_to : (r q : CallRank) → is_lt (rank_cmp q r) ≡ false → IsUpTo r q
up_to r q h = record {
  depths = first.0;
  guards = λ d. (second d).0;
  alone = λ d g. (third d g).0;
  kinds = λ d g a. (fourth d g a).0;
  numbers = λ d g a k. (by_number r.block q.block (nat_cmp q.block r.block) (nat_cmp q.at r.at) refl ((fourth d g a).1 k)).0;
}
  where
    first : (r.depth ≤ q.depth) × (r.depth ≡ q.depth → is_lt (ordering_then (bool_cmp q.guarded r.guarded) (ordering_then (bool_cmp q.alone r.alone) (ordering_then (nat_cmp q.kind r.kind) (ordering_then (nat_cmp q.block r.block) (nat_cmp q.at r.at))))) ≡ false)
    first = by_number r.depth q.depth (nat_cmp q.depth r.depth) _ refl h

    second : r.depth ≡ q.depth → (r.guarded ≡ true → q.guarded ≡ true)
        × (r.guarded ≡ q.guarded → is_lt (ordering_then (bool_cmp q.alone r.alone) (ordering_then (nat_cmp q.kind r.kind) (ordering_then (nat_cmp q.block r.block) (nat_cmp q.at r.at)))) ≡ false)
    second d = by_flag r.guarded q.guarded _ (first.1 d)

    third : r.depth ≡ q.depth → r.guarded ≡ q.guarded → (r.alone ≡ true → q.alone ≡ true)
        × (r.alone ≡ q.alone → is_lt (ordering_then (nat_cmp q.kind r.kind) (ordering_then (nat_cmp q.block r.block) (nat_cmp q.at r.at))) ≡ false)
    third d g = by_flag r.alone q.alone _ ((second d).1 g)

    fourth : r.depth ≡ q.depth → r.guarded ≡ q.guarded → r.alone ≡ q.alone → (r.kind ≤ q.kind)
        × (r.kind ≡ q.kind → is_lt (ordering_then (nat_cmp q.block r.block) (nat_cmp q.at r.at)) ≡ false)
    fourth d g a = by_number r.kind q.kind (nat_cmp q.kind r.kind) _ refl ((third d g).1 a)

-- ---- ranks and entries

-- the rank of the entry at its place among these
pub record IsRankIn (f : Fixed) (depth : Entry → ℕ) (es : List Entry) (r : CallRank) : Type 0 where
  pub within : r.at < length es
  pub rank : (d : Entry) → IsRankOf f (get_or es r.at d) r
  pub depth_is : (d : Entry) → r.depth ≡ depth (get_or es r.at d)

abbrev pub same_flag : (a b : Bool) → (a ≡ true → b ≡ true) → (b ≡ true → a ≡ true) → a ≡ b
same_flag false false h k = refl
same_flag true true h k = refl
same_flag true false h k = absurd (true≢false (sym (h refl)))
same_flag false true h k = absurd (true≢false (sym (k refl)))

stands_before : (f : Fixed) (depth : Entry → ℕ) (d e : Entry) (r q : CallRank) → IsRankOf f d r → IsRankOf f e q → r.depth ≡ depth d → q.depth ≡ depth e → IsUpTo r q
    → StandsBefore f depth d e
stands_before f depth d e r q is was deep deeper h = record {
  depths = subst₂ (λ (x y : ℕ). x ≤ y) deep deeper h.depths;
  guards = λ s g. sym was.guarded_is ∙ h.guards (level s) (is.guarded_is ∙ g);
  alone = λ s g a. was.alone_is.0 (h.alone (level s) (marked g) (is.alone_is.1 a));
  kinds = λ s g a. subst₂ (λ (x y : ℕ). x ≤ y) is.kind_is was.kind_is (h.kinds (level s) (marked g) (alone a));
  numbers = λ s g a k. subst₂ (λ (x y : ℕ). x ≤ y) is.block_is was.block_is
      (h.numbers (level s) (marked g) (alone a) (is.kind_is ∙ (ap number_of k ∙ sym was.kind_is)));
}
  where
    level : depth d ≡ depth e → r.depth ≡ q.depth
    level s = deep ∙ (s ∙ sym deeper)

    marked : is_guarded d ≡ is_guarded e → r.guarded ≡ q.guarded
    marked g = is.guarded_is ∙ (g ∙ sym was.guarded_is)

    alone : (IsAlone f d.block ↔ IsAlone f e.block) → r.alone ≡ q.alone
    alone a = same_flag r.alone q.alone (λ s. was.alone_is.1 (a.0 (is.alone_is.0 s))) (λ s. is.alone_is.1 (a.1 (was.alone_is.0 s)))

-- ---- the ranks of some entries, one after the other

-- one for each of the first k entries that are meant, in their order
pub record AreGathered (f : Fixed) (is : Entry → Bool) (depth : Entry → ℕ) (es : List Entry) (k : ℕ) (ranks : List CallRank) : Type 0 where
  pub each : All (IsRankIn f depth es) ranks
  pub same : (d : Entry) → map (λ (r : CallRank). get_or es r.at d) ranks ≡ filter is (take k es)
  pub below : All (λ (r : CallRank). r.at < k) ranks
  pub rising : AllPairs (λ (r q : CallRank). r.at < q.at) ranks

pub none_gathered : (f : Fixed) (is : Entry → Bool) (depth : Entry → ℕ) (es : List Entry) → AreGathered f is depth es 0 []
none_gathered f is depth es = record {
  each = λ k d h. absurd (omega (arith, h));
  same = λ d. refl;
  below = λ k d h. absurd (omega (arith, h));
  rising = λ i j d l h. absurd (omega (arith, h));
}

below_next : (k : ℕ) (ranks : List CallRank) → All (λ (r : CallRank). r.at < k) ranks → All (λ (r : CallRank). r.at < k + 1) ranks
below_next k ranks h i d l = let less : (get_or ranks i d).at < k = h i d l in omega (arith, less)

-- the next entry is meant
pub one_gathered : {f : Fixed} {is : Entry → Bool} {depth : Entry → ℕ} {es : List Entry} {k : ℕ} {ranks : List CallRank} (e : Entry) (r : CallRank) → AreGathered f is depth es k ranks
    → k < length es → e ≡ get_or es k e → is e ≡ true → IsRankOf f e r → r.depth ≡ depth e → r.at ≡ k → AreGathered f is depth es (k + 1) (ranks ++ r ∷ [])
one_gathered {f} {is} {depth} {es} {k} {ranks} e r h l read meant rank deep here = record {
  each = All-push (IsRankIn f depth es) ranks r h.each (record {
    within = subst (λ (i : ℕ). i < length es) (sym here) l;
    rank = λ d. subst (λ (x : Entry). IsRankOf f x r) (there d) rank;
    depth_is = λ d. deep ∙ ap depth (there d);
  });
  same = λ d.
      map_push (λ (q : CallRank). get_or es q.at d) ranks r
      ∙ (ap (λ (l : List Entry). l ++ get_or es r.at d ∷ []) (h.same d)
      ∙ (ap (λ (x : Entry). filter is (take k es) ++ x ∷ []) (sym (there d))
      ∙ (ap (λ (x : Entry). filter is (take k es) ++ x ∷ []) (at d)
      ∙ (ap (λ (t : Bool). filter is (take k es) ++ cond t (get_or es k d ∷ []) []) (sym meant ∙ ap is (at d)) ∙ sym (filter_more is es k d l)))));
  below = All-push (λ (q : CallRank). q.at < k + 1) ranks r (below_next k ranks h.below) (omega (arith, here));
  rising = all_pairs_push (λ (a b : CallRank). a.at < b.at) ranks r h.rising (λ i d m. let less : (get_or ranks i d).at < k = h.below i d m in omega (arith, less, here));
}
  where
    at : (d : Entry) → e ≡ get_or es k d
    at d = get_or_read es k e l read d

    there : (d : Entry) → e ≡ get_or es r.at d
    there d = at d ∙ ap (λ (i : ℕ). get_or es i d) (sym here)

-- the next entry is not meant
pub other_gathered : {f : Fixed} {is : Entry → Bool} {depth : Entry → ℕ} {es : List Entry} {k : ℕ} {ranks : List CallRank} (e : Entry) → AreGathered f is depth es k ranks
    → k < length es → e ≡ get_or es k e → is e ≡ false → AreGathered f is depth es (k + 1) ranks
other_gathered {f} {is} {depth} {es} {k} {ranks} e h l read off = record {
  each = h.each;
  same = λ d. h.same d
      ∙ (sym (append-none (filter is (take k es)))
      ∙ (ap (λ (t : Bool). filter is (take k es) ++ cond t (get_or es k d ∷ []) []) (sym off ∙ ap is (get_or_read es k e l read d)) ∙ sym (filter_more is es k d l)));
  below = below_next k ranks h.below;
  rising = h.rising;
}
  where
    append-none : (xs : List Entry) → xs ++ [] ≡ xs
    append-none [] = refl
    append-none (x ∷ xs) = ap (λ (l : List Entry). x ∷ l) (append-none xs)

-- ---- sorted

no_rank : CallRank
no_rank = record { depth = 0; guarded = false; alone = false; kind = 0; block = 0; at = 0 }

module _ (f : Fixed) (is : Entry → Bool) (depth : Entry → ℕ) (es : List Entry) (pushed ranks : List CallRank) (gathered : AreGathered f is depth es (length es) pushed)
    (moved : IsPermutation pushed ranks) (up : IsSorted rank_cmp ranks) where
  each : All (IsRankIn f depth es) ranks
  each = All-permutation (IsRankIn f depth es) pushed ranks moved gathered.each

  eqb-flips : (x y : ℕ) → eqb x y ≡ eqb y x
  eqb-flips x y = nat_eq_equiv.symm x y

  -- no two are of one place
  apart : AllPairs (λ (r q : CallRank). r.at ≢ q.at) ranks
  apart i j d l h =
      let at = λ (r : CallRank). r.at in
      let before : IsDistinct eqb (map (λ (r : CallRank). r.at) pushed) = IsDistinct-from_AllPairs Decides-eqb (map (λ (r : CallRank). r.at) pushed) rising_apart in
      let behind = IsDistinct-IsPermutation eqb eqb-flips (map (λ (r : CallRank). r.at) pushed) (map (λ (r : CallRank). r.at) ranks) (IsPermutation-map (λ (r : CallRank). r.at) pushed ranks moved) before in
      let long = length-map ranks (λ (r : CallRank). r.at) in
      let differ = AllPairs-from_IsDistinct Decides-eqb (map (λ (r : CallRank). r.at) ranks) behind i j 0 l (omega (arith, h, long)) in
      λ e. differ (get_or-map (λ (r : CallRank). r.at) ranks i d 0 (omega (arith, l, h)) ∙ (e ∙ sym (get_or-map (λ (r : CallRank). r.at) ranks j d 0 h)))
    where
      rising_apart : AllPairs (λ (x y : ℕ). x ≢ y) (map (λ (r : CallRank). r.at) pushed)
      rising_apart a b n m k e =
          let long = length-map pushed (λ (r : CallRank). r.at) in
          let within : b < length pushed = omega (arith, k, long) in
          let less : (get_or pushed a no_rank).at < (get_or pushed b no_rank).at = gathered.rising a b no_rank m within in
          let first = get_or-map (λ (r : CallRank). r.at) pushed a no_rank n (omega (arith, m, within)) in
          let second = get_or-map (λ (r : CallRank). r.at) pushed b no_rank n within in
          omega (arith, less, first, second, e)

  -- with an entry for places outside
  module _ (d : Entry) where
    abbrev sorted : List Entry
    sorted = map (λ (r : CallRank). get_or es r.at d) ranks

    at : (k : ℕ) (e : Entry) (r : CallRank) → k < length ranks → get_or sorted k e ≡ get_or es (get_or ranks k r).at d
    at k e r l = get_or-map (λ (q : CallRank). get_or es q.at d) ranks k r e l

    same : IsPermutation (filter is es) sorted
    same = subst (λ (l : List Entry). IsPermutation l sorted) (gathered.same d ∙ ap (filter is) (take_all (length es) es (omega arith)))
        (IsPermutation-map (λ (r : CallRank). get_or es r.at d) pushed ranks moved)

    ordered : AllPairs (StandsBefore f depth) sorted
    ordered i j e l h =
        let long = length-map ranks (λ (q : CallRank). get_or es q.at d) in
        let within : j < length ranks = omega (arith, h, long) in
        let earlier : i < length ranks = omega (arith, l, within) in
        let r = get_or ranks i no_rank in
        let q = get_or ranks j no_rank in
        let far = sorted_far (λ (x y : CallRank). is_lt (rank_cmp x y)) (ranks_by rank_total (λ (x : CallRank). x)) ranks up i j no_rank (omega (arith, l)) within in
        subst₂ (StandsBefore f depth) (sym (at i e no_rank earlier)) (sym (at j e no_rank within))
        (stands_before f depth (get_or es r.at d) (get_or es q.at d) r q ((each i no_rank earlier).rank d) ((each j no_rank within).rank d)
        ((each i no_rank earlier).depth_is d) ((each j no_rank within).depth_is d) (up_to r q far))

    depths_same : (rs : List CallRank) → All (IsRankIn f depth es) rs → map (λ (r : CallRank). r.depth) rs ≡ map depth (map (λ (r : CallRank). get_or es r.at d) rs)
    depths_same [] h = refl
    depths_same (r ∷ rs) h =
        ap (λ (n : ℕ). n ∷ map (λ (q : CallRank). q.depth) rs) ((All-head (IsRankIn f depth es) r rs h).depth_is d)
        ∙ ap (λ (l : List ℕ). depth (get_or es r.at d) ∷ l) (depths_same rs (All-tail (IsRankIn f depth es) r rs h))

    all_ranked : AreRanked f is depth es ranks
    all_ranked = record {
      sorted = sorted;
      same = same;
      ordered = ordered;
      ranks_of = record {
        one_each = sym (length-map ranks (λ (r : CallRank). get_or es r.at d));
        depths = depths_same ranks each;
        ranks_are = λ k e r h.
            let l : k < length ranks = subst (λ (n : ℕ). k < n) (length-map ranks (λ (q : CallRank). get_or es q.at d)) h in
            subst (λ (x : Entry). IsRankOf f x (get_or ranks k r)) (sym (at k e r l)) ((each k r l).rank d);
      };
      at_places = λ k e r h. ((each k r h).within, get_or_default es (get_or ranks k r).at e d (each k r h).within ∙ sym (at k e r h));
      apart = apart;
    }

-- the ranks of the entries that are meant, in their order
pub are_ranked : (f : Fixed) (is : Entry → Bool) (depth : Entry → ℕ) (es : List Entry) (pushed ranks : List CallRank) → AreGathered f is depth es (length es) pushed
    → IsPermutation pushed ranks → IsSorted rank_cmp ranks → AreRanked f is depth es ranks
are_ranked f is depth (e ∷ es) pushed ranks gathered moved up = all_ranked f is depth (e ∷ es) pushed ranks gathered moved up e
are_ranked f is depth [] pushed ranks gathered moved up = record {
  sorted = [];
  same = IsPermutation-refl [];
  ordered = λ i j d l h. absurd (omega (arith, h));
  ranks_of = record { one_each = ap length none; depths = ap (map (λ (r : CallRank). r.depth)) none; ranks_are = λ k e r h. absurd (omega (arith, h)) };
  at_places = λ k e r h. absurd (omega (arith, (each_is k r h).within));
  apart = apart f is depth [] pushed ranks gathered moved up;
}
  where
    each_is : All (IsRankIn f depth []) ranks
    each_is = each f is depth [] pushed ranks gathered moved up

    no_more : (rs : List CallRank) → All (IsRankIn f depth []) rs → rs ≡ []
    no_more [] h = refl
    no_more (r ∷ rs) h = absurd (omega (arith, (All-head (IsRankIn f depth []) r rs h).within))

    none : ranks ≡ []
    none = no_more ranks each_is
