-- How long the rows of a net are, from what is found before they are built.
use Rattle.std.proofs.Common.{◌≡◌, ℕ, zero, suc, ◌+◌, ◌-◌, ◌*◌, ◌^◌, ◌<◌, ◌≤◌, ⊎_elim, List, [], ◌∷◌, length, get_or, take, map, eqb, All, Contains, AllPairs, refl, sym, ap, ap₂, subst, ◌∙◌, arith}
use Rattle.std.specs.Prelude.{⊤}
use Rattle.std.specs.List.{sum_by, count_by, IsDistinct}
use Rattle.std.proofs.lemmas.Bool.{cases_order, cases_lt}
use Rattle.std.proofs.lemmas.List.{get_or_default, get_or_past, length-map, get_or-map, take_all}
use Rattle.std.proofs.lemmas.List.Elements.{All-contains}
use Rattle.std.proofs.lemmas.List.Sums.{sum_by-cons, sum_by-le, sum_by_more, sum_by-take-le, count_by-le-length}
use Rattle.std.proofs.lemmas.Map.Steps.{length-le_from_distinct_below}
use Rattle.sci_loop.proofs.Rounds.{distinct_by_places}
use Rattle.sci_net.specs.declared.Feed.{Feed}
use Rattle.sci_net.specs.declared.Source.{Source}
use Rattle.sci_net.specs.Parts.{Parts, numbered, spec_of, IsBlock, IsActivationOutput, AreRising}
use Rattle.sci_net.specs.Net.{IsNet}
use Rattle.sci_net.specs.Sources.{sources_of, source_of}
use Rattle.sci_reaction.specs.Links.{IsSource}
use Rattle.sci_reaction.specs.Active.{Reaches, seeded, passed}
use Rattle.sci_reaction.specs.Depends.{HasDepth, Precedes}
use Rattle.sci_reaction.specs.Schedule.{Entry as PlainEntry, blocks_of, IsEntry, IsRow, IsSchedule}
use Rattle.sci_reaction.proofs.Spreading.{Spread-block, from_guard}
use Rattle.sci_reaction.proofs.OneResult.{precedes_trans, irreflexive}
use Rattle.sci_reaction.proofs.OneRow.{same_lists}
use Rattle.sci_reaction.proofs.Rows.{block_in, has-Contains}
use Rattle.sci_inherit.specs.Origins.{Origins, AreOrigins}
use Rattle.sci_sched.specs.declared.outline.Outline.{Outline}
use Rattle.sci_sched.specs.Depths.{AreDepthsOf}
use Rattle.sci_sched.specs.Guards.{is_possible, is_of}
use Rattle.sci_sched.specs.Size.{guards_in, size_of}
use Rattle.sci_sched.specs.Outlines.{AreOrdered, IsOutline, AreOutlines, guards_at, guards_by, outline_size, AddsBranches, CountsTo, AreCounts}
use Rattle.sci_sched.proofs.Guarded.{before_of, guards_counted, marked}
use Rattle.sci_sched.proofs.Members.{pairs_map, head_in}
use Rattle.sci_sched.proofs.Exchange.{sum_by-plus, sum_by-same, counted_by_givers}
use Rattle.sci_sched.proofs.Ports.{evtout_few}
use Rattle.sci_reaction.proofs.Lists.{cons-Contains}

-- ---- sums

sum_by-members : {X Y : Type 0} (f : X → ℕ) (g : Y → ℕ) (h : X → Y) (xs : List X) → ((x : X) → Contains xs x → f x ≡ g (h x)) → sum_by f xs ≡ sum_by g (map h xs)
sum_by-members f g h [] same = refl
sum_by-members f g h (x ∷ xs) same =
    sum_by-cons f x xs
    ∙ (ap₂ (λ a b. a + b) (same x (head_in x xs)) (sum_by-members f g h xs (λ y has. same y (cons-Contains x xs y has)))
    ∙ sym (sum_by-cons g (h x) (map h xs)))

-- place by place
pub sum_by-places : {X Y : Type 0} (f : X → ℕ) (g : Y → ℕ) (xs : List X) (ys : List Y) → length xs ≡ length ys → ((i : ℕ) (d : X) (e : Y) → i < length xs → f (get_or xs i d) ≡ g (get_or ys i e)) → sum_by f xs ≡ sum_by g ys
sum_by-places f g [] [] long same = refl
sum_by-places f g [] (y ∷ ys) long same = absurd (omega (arith, long))
sum_by-places f g (x ∷ xs) [] long same = absurd (omega (arith, long))
sum_by-places f g (x ∷ xs) (y ∷ ys) long same =
    sum_by-cons f x xs
    ∙ (ap₂ (λ a b. a + b) (same 0 x y (omega arith)) (sum_by-places f g xs ys (omega (arith, long)) (λ i d e h. same (suc i) d e (omega (arith, h))))
    ∙ sym (sum_by-cons g y ys))

-- ---- few

-- numbers that rise are at least their places
at_least : (xs : List ℕ) → AllPairs (λ a b. a < b) xs → (k : ℕ) → k < length xs → k ≤ get_or xs k 0
at_least xs h zero l = omega arith
at_least xs h (suc k) l = let before = at_least xs h k (omega (arith, l)) in let less = h k (suc k) 0 (omega arith) l in omega (arith, before, less)

rising_short : (xs : List ℕ) (m : ℕ) → AllPairs (λ a b. a < b) xs → ((k : ℕ) → k < length xs → get_or xs k 0 < m) → length xs ≤ m
rising_short xs m h below =
    ⊎_elim
    (λ some. let last : length xs - 1 < length xs = omega (arith, some) in let a = at_least xs h (length xs - 1) last in let b = below (length xs - 1) last in omega (arith, a, b, some))
    (λ none. omega (arith, none))
    (cases_lt 0 (length xs))

abbrev code : Feed → ℕ
code q = q.block * 65 + q.port

-- the activation outputs of a net are few
rising_feeds : (n : Parts) → IsNet n → (fs : List Feed) → AreRising fs → ((q : Feed) → Contains fs q → IsActivationOutput n q.block q.port) → length fs ≤ 133185
rising_feeds n net fs rise lead =
    let long = length-map fs code in
    let port : (k : ℕ) (d : Feed) → k < length fs → (get_or fs k d).port ≤ 64 = λ k d h.
    let o = lead (get_or fs k d) (k, h, get_or_default fs k (get_or fs k d) d h) in
    let few = evtout_few (spec_of n (get_or fs k d).block) (net.typed_specs (get_or fs k d).block o.block) in let most = o.most in omega (arith, few, most) in
    let none : Feed = record { block = 0; port = 0 } in
    let short : length (map code fs) ≤ 133185 =
    rising_short (map code fs) 133185
    (pairs_map (λ a b. a < b) code fs (λ i j d l h.
    let p = port i d (omega (arith, l, h)) in
    ⊎_elim (λ less. omega (arith, less, p)) (λ same. omega (arith, same.0, same.1)) (before_of (get_or fs i d) (get_or fs j d) (rise i j d l h))))
    (λ k h.
    let l : k < length fs = omega (arith, long, h) in
    let o = lead (get_or fs k none) (k, l, get_or_default fs k (get_or fs k none) none l) in
    let most = o.block.most in let few = net.wired.few in let p = port k none l in
    let e : get_or (map code fs) k 0 ≡ code (get_or fs k none) = get_or-map code fs k none 0 l in
    omega (arith, most, few, p, e)) in
    omega (arith, short, long)

-- what reaches a block is an activation output
reach_output : (n : Parts) → IsNet n → (q : Feed) {b : ℕ} → Reaches n q b → IsActivationOutput n q.block q.port
reach_output n net q (seeded b f) = net.wired.feeds_lead b f.input q f.within f.fed
reach_output n net q (passed a b h i u) = reach_output n net q h

module _ (n : Parts) (net : IsNet n) (r : Origins) (origins : AreOrigins n r) where
  branch_output : (b : ℕ) (q : Feed) → Contains (numbered [] r.branches b) q → IsActivationOutput n q.block q.port
  branch_output b q has = reach_output n net q ((origins.branches_are b q).0 has).2

  -- the branches of a block are few, and are of blocks
  pub branches_few : (b : ℕ) → length (numbered [] r.branches b) ≤ 133185
  branches_few b = rising_feeds n net (numbered [] r.branches b) (origins.branches_rise b) (branch_output b)

  pub branches_known : (b count : ℕ) → count ≡ length n.specs + 1 → All (λ (q : Feed). q.block < count) (numbered [] r.branches b)
  branches_known b count long k d h =
      let q = get_or (numbered [] r.branches b) k d in
      let o = branch_output b q (k, h, get_or_default (numbered [] r.branches b) k q d h) in
      let most = o.block.most in
      omega (arith, most, long)

  -- what a block gives is little
  given_little : (c k : ℕ) → sum_by (λ qs. count_by (is_of c) qs) (take k r.branches) ≤ 2 ^ 29
  given_little c k =
      let part = sum_by-take-le (λ (qs : List Feed). count_by (is_of c) qs) r.branches k in
      let all = sum_by-le (λ (qs : List Feed). count_by (is_of c) qs) 133185 r.branches (λ j d h.
      let qs = get_or r.branches j d in
      let same : qs ≡ numbered [] r.branches (suc j) = get_or_default r.branches j d [] h in
      let long : length qs ≡ length (numbered [] r.branches (suc j)) = ap length same in
      let short = branches_few (suc j) in
      let fewer = count_by-le-length (is_of c) qs in
      omega (arith, long, short, fewer)) in
      let e = origins.one_each.branches in let few = net.wired.few in
      omega (arith, part, all, e, few)

  -- ---- what each block gives

  pub counts_begin : (counts : List ℕ) → length counts ≡ length n.specs + 1 → ((c : ℕ) → get_or counts c 0 ≡ 0) → CountsTo r 0 counts
  counts_begin counts long none = record { long = (let e = origins.one_each.branches in omega (arith, long, e)); counts_are = λ c h. none c }

  pub counts_small : (k : ℕ) (counts : List ℕ) (qs : List Feed) (b : ℕ) → CountsTo r k counts → qs ≡ numbered [] r.branches b → (c : ℕ) → get_or counts c 0 + length qs < 2 ^ 63
  counts_small k counts qs b are same c =
      let long : length qs ≡ length (numbered [] r.branches b) = ap length same in
      let short = branches_few b in
      ⊎_elim
      (λ l. let e = are.counts_are c l in let little = given_little c k in omega (arith, long, short, e, little))
      (λ g. let e = get_or_past counts c 0 g in omega (arith, long, short, e))
      (cases_lt c (length counts))

  pub counts_next : (k : ℕ) (old new : List ℕ) (qs : List Feed) → k < length r.branches → qs ≡ numbered [] r.branches (k + 1) → CountsTo r k old → AddsBranches qs old new → CountsTo r (k + 1) new
  counts_next k old new qs h same are adds =
      let next : k + 1 ≡ suc k = omega arith in
      let here : qs ≡ get_or r.branches k [] = same ∙ ap (numbered [] r.branches) next in
      record {
        long = adds.long ∙ are.long;
        counts_are = λ c l.
            let low : c < length old = (let e = adds.long in omega (arith, l, e)) in
            let a = adds.counts c low in let b = are.counts_are c low in
            let more = sum_by_more (λ (xs : List Feed). count_by (is_of c) xs) r.branches k [] h in
            let one : count_by (is_of c) qs ≡ count_by (is_of c) (get_or r.branches k []) = ap (λ xs. count_by (is_of c) xs) here in
            omega (arith, a, b, more, one);
      }

  pub counts_end : (k : ℕ) (counts : List ℕ) → length n.specs ≤ k → CountsTo r k counts → AreCounts r counts
  counts_end k counts all are = record {
    long = are.long;
    counts_are = λ c l. are.counts_are c l ∙ ap (λ ls. sum_by (λ qs. count_by (is_of c) qs) ls) (take_all k r.branches (let e = origins.one_each.branches in omega (arith, all, e)));
  }

-- ---- the possible blocks of a source

module _ (n : Parts) (net : IsNet n) (s : Source) (bs : List ℕ) (is : AreOrdered n s bs) where
  pub block_of : (b : ℕ) → Contains bs b → IsBlock n b
  block_of b has = Spread-block n s _ ((is.exactly b).0 has)

  distinct : IsDistinct eqb bs
  distinct =
      distinct_by_places bs (λ i j hi hj e.
      ⊎_elim (λ same. same)
      (λ apart. absurd (⊎_elim
      (λ less. irreflexive n s is.free (get_or bs i 0) (subst (Precedes n s (get_or bs i 0)) (sym e) (is.ordered i j 0 less hj)))
      (λ more. irreflexive n s is.free (get_or bs j 0) (subst (Precedes n s (get_or bs j 0)) e (is.ordered j i 0 more hi)))
      apart))
      (cases_order i j))

  few_blocks : length bs ≤ 2049
  few_blocks =
      length-le_from_distinct_below bs 2049 distinct
      (λ q has. let b = block_of q (has-Contains bs q has) in let most = b.most in let few = net.wired.few in omega (arith, most, few))

  row_blocks : (row : List PlainEntry) → IsRow n s row → blocks_of row ≡ bs
  row_blocks row ok =
      same_lists (Precedes n s) (irreflexive n s is.free) (precedes_trans n s is.free) (blocks_of row) bs
      (pairs_map (Precedes n s) (λ (e : PlainEntry). e.block) row ok.ordered) is.ordered
      (λ b. (λ h. (is.exactly b).1 ((ok.exactly b).0 h), λ h. (ok.exactly b).1 ((is.exactly b).0 h)))

  pub row_long : (row : List PlainEntry) → IsRow n s row → length row ≡ length bs
  row_long row ok = sym (length-map row (λ (e : PlainEntry). e.block)) ∙ ap length (row_blocks row ok)

  module _ (source : IsSource n s) (r : Origins) (origins : AreOrigins n r) where
    guards_few : (b : ℕ) → guards_at r bs b ≤ 133185
    guards_few b =
        let short = branches_few n net r origins b in
        let fewer = count_by-le-length (is_possible bs) (numbered [] r.branches b) in
        omega (arith, short, fewer)

    guards_small : length bs + sum_by (guards_at r bs) bs ≤ 2 ^ 29
    guards_small =
        let all = sum_by-le (guards_at r bs) 133185 bs (λ k d h. guards_few (get_or bs k d)) in
        let few = few_blocks in
        omega (arith, all, few)

    -- what a branch of a possible block reaches is possible
    closed : (b : ℕ) (q : Feed) → Contains (numbered [] r.branches b) q → Contains bs q.block → Contains bs b
    closed b q has on =
        let o = (origins.branches_are b q).0 has in
        (is.exactly b).1 (from_guard n s (λ c p. ⊤) q.block q.port ((is.exactly q.block).0 on) o.1 tt o.2)

    -- what the possible blocks give, and what they have
    given : (counts : List ℕ) → AreCounts r counts → sum_by (λ c. get_or counts c 0) bs ≡ sum_by (guards_at r bs) bs
    given counts are =
        sum_by-same (λ (c : ℕ). get_or counts c 0) (guards_by r) bs (λ c has. are.counts_are c (let k = block_of c has in let most = k.most in let e = origins.one_each.branches in let l = are.long in omega (arith, most, e, l)))
        ∙ counted_by_givers r.branches bs distinct (λ b has. let k = block_of b has in let e = origins.one_each.branches in let most = k.most in (k.least, omega (arith, most, e))) closed

    pub blocks_counted : (counts : List ℕ) → AreCounts r counts → All (λ c. c < length counts) bs
    blocks_counted counts are k d h =
        let b = get_or bs k d in
        let inside = block_of b (k, h, get_or_default bs k b d h) in
        let most = inside.most in let e = origins.one_each.branches in let l = are.long in omega (arith, most, e, l)

    pub given_few : (counts : List ℕ) → AreCounts r counts → sum_by (λ c. get_or counts c 0) bs < 2 ^ 63
    given_few counts are = let same = given counts are in let small = guards_small in omega (arith, same, small)

    row_guards : (row : List PlainEntry) → IsRow n s row → guards_in row ≡ sum_by (guards_at r bs) bs
    row_guards row ok =
        sum_by-members (λ (e : PlainEntry). length e.guards) (guards_at r bs) (λ (e : PlainEntry). e.block) row
        (λ e has.
        guards_counted n s source e.block bs (numbered [] r.branches e.block) (origins.branches_rise e.block) (origins.branches_are e.block) (λ q sync reaches. marked n s bs is.exactly q.block) net.wired
        (block_of e.block (subst (λ xs. Contains xs e.block) (row_blocks row ok) (block_in row e has))) e refl (All-contains (IsEntry n s) row e ok.entries has))
        ∙ ap (λ xs. sum_by (guards_at r bs) xs) (row_blocks row ok)

    -- the outline of the source
    pub outline_is : (counts : List ℕ) (o : Outline) → AreCounts r counts → o.blocks.items ≡ bs → AreDepthsOf (HasDepth n s) bs o.depths.items → o.guards ≡ sum_by (λ c. get_or counts c 0) bs → IsOutline n s o
    outline_is counts o are same deep count =
        let sum = count ∙ given counts are in
        record {
          blocks = subst (AreOrdered n s) (sym same) is;
          depths = subst (λ xs. AreDepthsOf (HasDepth n s) xs o.depths.items) (sym same) deep;
          guards = λ row ok. row_guards row ok ∙ sym sum;
          few = let small = guards_small in let long : length o.blocks.items ≡ length bs = ap length same in omega (arith, small, long, sum);
        }

-- ---- all sources

module _ (n : Parts) (net : IsNet n) where
  -- the size of the schedule
  pub schedule_sized : (os : List Outline) (rows : List (List PlainEntry)) → AreOutlines n (length (sources_of n)) os → IsSchedule n rows → size_of rows ≡ sum_by outline_size os
  schedule_sized os rows are ok =
      let long : length rows ≡ length os = ok.enough ∙ sym are.long in
      sum_by-plus (λ (row : List PlainEntry). length row) guards_in rows
      ∙ sum_by-places (λ (row : List PlainEntry). length row + guards_in row) outline_size rows os long
      (λ i d e h.
      let inside : i < length (sources_of n) = omega (arith, ok.enough, h) in
      let o = are.each i e inside in
      let row = subst (IsRow n (source_of n i)) (get_or_default rows i [] d h) (ok.each i h) in
      ap₂ (λ a b. a + b) (row_long n net (source_of n i) (get_or os i e).blocks.items o.blocks (get_or rows i d) row) (o.guards (get_or rows i d) row))

  pub total_small : (os : List Outline) → AreOutlines n (length (sources_of n)) os → length (sources_of n) < 2 ^ 32 → sum_by outline_size os < 2 ^ 63
  total_small os are few =
      let all = sum_by-le outline_size (2 ^ 29) os (λ k d h. let o = are.each k d (let e = are.long in omega (arith, e, h)) in o.few) in
      let e = are.long in
      omega (arith, all, few, e)
