-- The rounds of a source: what a stage says of its blocks, and the order that rounds come to.
use Rattle.std.proofs.Common.{◌≡◌, ℕ, zero, suc, ◌+◌, ◌-◌, ◌<◌, ◌≤◌, ◌==◌, Bool, true, false, inl, inr, ⊎_elim, List, [], ◌∷◌, ◌++◌, length, take, drop, get_or, Contains, All, eqb, nat_eq, refl, sym, ap, subst, subst₂, ◌∙◌, arith, append_assoc, length-append, true≢false}
use Rattle.std.specs.Prelude.{⊤}
use Rattle.std.specs.List.{IsDistinct, filter}
use Rattle.std.specs.List.Sorted.{IsPermutation, IsNonDecreasing}
use Rattle.std.proofs.lemmas.Bool.{cases_lt, eqb-true, eq-eqb}
use Rattle.std.proofs.lemmas.Cmp.{nat_eq_equiv}
use Rattle.std.proofs.lemmas.List.{take-append-le, take_all, drop_all, append-nil}
use Rattle.std.proofs.lemmas.List.Sorted.{IsPermutation-append_right, IsPermutation-sym, Contains-permutation}
use Rattle.std.proofs.lemmas.List.Elements.{Contains-append_left, Contains-append_right, Contains-append_cases, Contains-get_or}
use Rattle.std.proofs.lemmas.Map.Keys.{IsDistinct-IsPermutation}
use Rattle.std.proofs.lemmas.Map.Made.{length-le_from_is_member}
use Rattle.sci_loop.specs.declared.table.DepTable.{DepTable}
use Rattle.sci_loop.specs.Table.{Needs, IsTable}
use Rattle.sci_loop.proofs.Depth.{depth_level}
use Rattle.sci_net.specs.declared.Source.{Source}
use Rattle.sci_net.specs.Parts.{Parts}
use Rattle.sci_reaction.specs.Active.{Possible}
use Rattle.sci_reaction.specs.Depends.{Depends, HasDepth, IsLoopFree, Precedes}
use Rattle.sci_reaction.proofs.OneResult.{depth_of}
use Rattle.sci_reaction.proofs.Lists.{Has-split, once, cons-Contains}
use Rattle.sci_reaction.proofs.Rows.{Contains-has, has-Contains}
use Rattle.sci_reaction.proofs.Spreading.{Spread-block}
use Rattle.sci_dep.specs.Tables.{IsTableOf}
use Rattle.sci_rounds.specs.Rounds.{IsReady, IsBehindRounds, IsInRound}
use Rattle.sci_rounds.proofs.Levels.{rounds_go_on, earlier_are_done, some_is_ready}
use Rattle.sci_judge.specs.Rounds.{AreByRounds, AreCounts, IsStage, needs_at, count_at}
use Rattle.sci_judge.proofs.Members.{fresh_at, tail_distinct, filter_distinct, filter_from, filter_to, distinct_rising, needs_of_place, place}
use Rattle.sci_judge.proofs.Releasing.{none_open, all_done}

nothing : (c : ℕ) → Contains [] c → ⊥
nothing c h = omega (arith, h.1)

-- what stands in the front of a list without repeats doesn't stand behind
apart : (xs ys : List ℕ) (q : ℕ) → IsDistinct eqb (xs ++ ys) → Contains xs q → Contains ys q → ⊥
apart xs ys q distinct front back =
    let split = Has-split ys q (Contains-has ys q back) in
    once (xs ++ split.0) split.1 q
    (subst (IsDistinct eqb) (ap (λ zs. xs ++ zs) split.2 ∙ sym (append_assoc xs split.0 (q ∷ split.1))) distinct)
    (Contains-has (xs ++ split.0) q (Contains-append_left xs split.0 q front))

behind_distinct : (xs ys : List ℕ) → IsDistinct eqb (xs ++ ys) → IsDistinct eqb ys
behind_distinct [] ys d = d
behind_distinct (x ∷ xs) ys d = behind_distinct xs ys (tail_distinct x (xs ++ ys) d)

pub in_take : (xs : List ℕ) (i p c : ℕ) → p < i → i < length xs → get_or xs p 0 ≡ c → Contains (take i xs) c
in_take [] i p c early less same = absurd (omega (arith, less))
in_take (x ∷ xs) zero p c early less same = absurd (omega (arith, early))
in_take (x ∷ xs) (suc i) zero c early less same = (0, omega arith, same)
in_take (x ∷ xs) (suc i) (suc p) c early less same = cons-Contains x (take i xs) c (in_take xs i p c (omega (arith, early)) (omega (arith, less)) same)

get_or-front : (xs ys : List ℕ) (j d : ℕ) → j < length xs → get_or (xs ++ ys) j d ≡ get_or xs j d
get_or-front [] ys j d l = absurd (omega (arith, l))
get_or-front (x ∷ xs) ys zero d l = refl
get_or-front (x ∷ xs) ys (suc j) d l = get_or-front xs ys j d (omega (arith, l))

plus_zero : (i : ℕ) → 0 + i ≡ i
plus_zero i = omega arith

plus_suc : (k i : ℕ) → suc k + i ≡ suc (k + i)
plus_suc k i = omega arith

get_or-behind : (xs ys : List ℕ) (i d : ℕ) → get_or (xs ++ ys) (length xs + i) d ≡ get_or ys i d
get_or-behind [] ys i d = ap (λ j. get_or ys j d) (plus_zero i)
get_or-behind (x ∷ xs) ys i d = ap (λ j. get_or (x ∷ (xs ++ ys)) j d) (plus_suc (length xs) i) ∙ get_or-behind xs ys i d

take-behind : (xs ys : List ℕ) (i : ℕ) → take (length xs + i) (xs ++ ys) ≡ xs ++ take i ys
take-behind [] ys i = ap (λ j. take j ys) (plus_zero i)
take-behind (x ∷ xs) ys i = ap (λ j. take j (x ∷ (xs ++ ys))) (plus_suc (length xs) i) ∙ ap (λ zs. x ∷ zs) (take-behind xs ys i)

-- the blocks so far are in the order of the rounds
pub record AreInRounds (n : Parts) (s : Source) (blocks : List ℕ) : Type 0 where
  pub ready : (k : ℕ) → k < length blocks → IsReady n s (take k blocks) (get_or blocks k 0)
  pub earlier : (k c : ℕ) → k < length blocks → Possible n s c → Precedes n s c (get_or blocks k 0) → Contains (take k blocks) c

pub none_in_rounds : (n : Parts) (s : Source) → AreInRounds n s []
none_in_rounds n s = record { ready = λ k l. absurd (omega (arith, l)); earlier = λ k c l. absurd (omega (arith, l)) }

-- more than that many blocks without repeats don't stand in a list
pub few : (xs ys : List ℕ) → IsDistinct nat_eq xs → ((q : ℕ) → Contains xs q → Contains ys q) → length xs ≤ length ys
few xs ys distinct among =
    length-le_from_is_member nat_eq_equiv xs ys distinct (λ q h. Contains-has ys q (among q (has-Contains xs q h)))

-- ---- stages

module _ (t : DepTable) (ok : IsTable t) where
  pub first_stage : (counts first : List ℕ) → AreCounts t [] counts → first ≡ filter (λ b. count_at counts b == 0) t.members.items → IsStage t [] first counts
  first_stage counts first are same =
      subst (λ bs. IsStage t [] bs counts) (sym same)
      (record {
        counts_are = are;
        members = λ b h. (filter_from (λ c. count_at counts c == 0) t.members.items b h).0;
        ready_are = λ b member. (
          (λ h. eqb-true (count_at counts b) 0 (filter_from (λ c. count_at counts c == 0) t.members.items b h).1),
          λ none. filter_to (λ c. count_at counts c == 0) t.members.items b member (eq-eqb (count_at counts b) 0 none),
        );
        once = filter_distinct (λ c. count_at counts c == 0) t.members.items (distinct_rising t.members.items ok.rising);
      })

  pub sorted_stage : (done ready sorted counts : List ℕ) → IsPermutation ready sorted → IsStage t done ready counts → IsStage t done sorted counts
  sorted_stage done ready sorted counts moved stage =
      let whole = IsPermutation-append_right done ready sorted moved in
      let back = IsPermutation-sym (done ++ ready) (done ++ sorted) whole in
      record {
        counts_are = stage.counts_are;
        members = λ b h. stage.members b (Contains-permutation (done ++ sorted) (done ++ ready) b back h);
        ready_are = λ b member. (
          (λ h. (stage.ready_are b member).0 (Contains-permutation (done ++ sorted) (done ++ ready) b back h)),
          λ none. Contains-permutation (done ++ ready) (done ++ sorted) b whole ((stage.ready_are b member).1 none),
        );
        once = IsDistinct-IsPermutation eqb nat_eq_equiv.symm (done ++ ready) (done ++ sorted) whole stage.once;
      }

  pub stage_few : (done ready counts : List ℕ) → IsStage t done ready counts → length (done ++ ready) ≤ length t.members.items
  stage_few done ready counts stage = few (done ++ ready) t.members.items stage.once stage.members

-- ---- what is ready

module _ (n : Parts) (s : Source) (t : DepTable) (of : IsTableOf n s t) (done ready counts : List ℕ) (stage : IsStage t done ready counts) where
  ready_to : (c : ℕ) → Contains ready c → IsReady n s done c
  ready_to c h =
      let within = Contains-append_right done ready c h in
      let member = stage.members c within in
      record {
        possible = (of.members c).0 member;
        fresh = λ old. apart done ready c stage.once old h;
        needs = λ d dep. needs_done (place t.members.items c member) ((stage.ready_are c member).0 within) d ((of.needs c d).1 dep);
      }
    where
      needs_done : (i : ℕ) × (i < length t.members.items) × (get_or t.members.items i 0 ≡ c) → count_at counts c ≡ 0 → (d : ℕ) → Needs t c d → Contains done d
      needs_done p none d need =
          none_open done (needs_at t p.0) (sym (stage.counts_are p.0 p.1) ∙ (ap (count_at counts) p.2 ∙ none)) d ((needs_of_place t of.well_formed p.0 p.1 c d p.2).1 need)

  ready_from : (c : ℕ) → IsReady n s done c → Contains ready c
  ready_from c is =
      let member = (of.members c).1 is.possible in
      ⊎_elim (λ old. absurd (is.fresh old)) (λ there. there)
      (Contains-append_cases done ready c ((stage.ready_are c member).1 (none_left (place t.members.items c member))))
    where
      none_left : (i : ℕ) × (i < length t.members.items) × (get_or t.members.items i 0 ≡ c) → count_at counts c ≡ 0
      none_left p =
          ap (count_at counts) (sym p.2)
          ∙ (stage.counts_are p.0 p.1
          ∙ all_done done (needs_at t p.0) (λ d h. is.needs d ((of.needs c d).0 ((needs_of_place t of.well_formed p.0 p.1 c d p.2).0 h))))

  pub next_behind : (k : ℕ) → IsBehindRounds n s k done → IsBehindRounds n s (k + 1) (done ++ ready)
  next_behind k behind =
      rounds_go_on n s k done behind (done ++ ready)
      (λ c. (
        (λ h. ⊎_elim (λ old. inl old) (λ new. inr (ready_to c new)) (Contains-append_cases done ready c h)),
        λ h. ⊎_elim (λ old. Contains-append_left done ready c old) (λ new. Contains-append_right done ready c (ready_from c new)) h,
      ))

  -- the number of a round is the depth of its blocks
  pub ready_depth : IsLoopFree n s → (k : ℕ) → IsBehindRounds n s k done → (c : ℕ) → Contains ready c → HasDepth n s c (k + 1)
  ready_depth free k behind c h =
      let is = ready_to c h in
      let d = depth_of n s free c is.possible in
      let low : d.0 ≤ k + 1 = (depth_level (Depends n s) c d.0 (k + 1) d.1).0 (((next_behind k behind).within c is.possible).0 (Contains-append_right done ready c h)) in
      let high : k < d.0 =
      ⊎_elim (λ deep. deep) (λ shallow. absurd (is.fresh ((behind.within c is.possible).1 ((depth_level (Depends n s) c d.0 k d.1).1 shallow)))) (cases_lt k d.0) in
      let same : d.0 ≡ k + 1 = omega (arith, low, high) in
      subst (HasDepth n s c) same d.1

  -- a round by number
  module _ (k : ℕ) (behind : IsBehindRounds n s k done) (sorted : IsNonDecreasing ready) (before : AreInRounds n s done) where
    module _ (i : ℕ) (less : i < length ready) where
      abbrev b : ℕ
      b = get_or ready i 0

      here : IsReady n s done b
      here = ready_to b (Contains-get_or ready i 0 less)

      pub ready_in_round : IsReady n s (done ++ take i ready) b
      ready_in_round = record {
        possible = here.possible;
        fresh = λ h. ⊎_elim here.fresh (λ new. fresh_at ready i ready_distinct less new) (Contains-append_cases done (take i ready) b h);
        needs = λ d dep. Contains-append_left done (take i ready) d (here.needs d dep);
      }
        where
          ready_distinct : IsDistinct eqb ready
          ready_distinct = behind_distinct done ready stage.once

      in_round : IsInRound n s done b (done ++ take i ready)
      in_round = record {
        kept = λ c h. Contains-append_left done (take i ready) c h;
        earlier = λ c is low. Contains-append_right done (take i ready) c (before_here c low (place ready c (ready_from c is)));
      }
        where
          before_here : (c : ℕ) → c < b → (p : ℕ) × (p < length ready) × (get_or ready p 0 ≡ c) → Contains (take i ready) c
          before_here c low p =
              ⊎_elim
              (λ early. in_take ready i p.0 c early less p.2)
              (λ late. absurd (let up = sorted i p.0 0 late p.1 in let is = p.2 in omega (arith, up, is, low)))
              (cases_lt p.0 i)

      pub earlier_in_round : (c : ℕ) → Possible n s c → Precedes n s c b → Contains (done ++ take i ready) c
      earlier_in_round c may precedes = earlier_are_done n s k done behind (done ++ take i ready) b here in_round c may precedes

    pub rounds_more : AreInRounds n s (done ++ ready)
    rounds_more = record {
      ready = λ j l. ⊎_elim
          (λ old. subst₂ (λ (bs : List ℕ) c. IsReady n s bs c) (sym (front j old)) (sym (front_at j old)) (before.ready j old))
          (λ new. let at = behind_place j new l in
          subst₂ (λ (bs : List ℕ) c. IsReady n s bs c) (sym (at_front j at.0 at.2)) (sym (at_here j at.0 at.2)) (ready_in_round at.0 at.1))
          (cases_lt j (length done));
      earlier = λ j c l may precedes. ⊎_elim
          (λ old. subst (λ (bs : List ℕ). Contains bs c) (sym (front j old)) (before.earlier j c old may (subst (Precedes n s c) (front_at j old) precedes)))
          (λ new. let at = behind_place j new l in
          subst (λ (bs : List ℕ). Contains bs c) (sym (at_front j at.0 at.2)) (earlier_in_round at.0 at.1 c may (subst (Precedes n s c) (at_here j at.0 at.2) precedes)))
          (cases_lt j (length done));
    }
      where
        front : (j : ℕ) → j < length done → take j (done ++ ready) ≡ take j done
        front j l = take-append-le j done ready (omega (arith, l))

        front_at : (j : ℕ) → j < length done → get_or (done ++ ready) j 0 ≡ get_or done j 0
        front_at j l = get_or-front done ready j 0 l

        behind_place : (j : ℕ) → length done ≤ j → j < length (done ++ ready) → (i : ℕ) × (i < length ready) × (j ≡ length done + i)
        behind_place j low l = let both = length-append done ready in (j - length done, omega (arith, low, l, both), omega (arith, low))

        at_front : (j i : ℕ) → j ≡ length done + i → take j (done ++ ready) ≡ done ++ take i ready
        at_front j i same = ap (λ m. take m (done ++ ready)) same ∙ take-behind done ready i

        at_here : (j i : ℕ) → j ≡ length done + i → get_or (done ++ ready) j 0 ≡ get_or ready i 0
        at_here j i same = ap (λ m. get_or (done ++ ready) m 0) same ∙ get_or-behind done ready i 0

-- ---- at the end

pub all_rounds : (n : Parts) (s : Source) (t : DepTable) (done ready counts : List ℕ) → IsTableOf n s t → IsLoopFree n s → IsStage t done ready counts → length ready ≡ 0
    → AreInRounds n s done → AreByRounds n s done
all_rounds n s t done ready counts of free stage none rounds = record {
  exactly = λ b. (
    (λ h. (of.members b).0 (stage.members b (Contains-append_left done ready b h))),
    λ may. some_is_ready n s done (λ c is. let h = ready_from n s t of done ready counts stage c is in let l = h.1 in omega (arith, l, none)) free b may,
  );
  ready = rounds.ready;
  earlier = rounds.earlier;
}

-- the members of the table are blocks
pub members_below : (n : Parts) (s : Source) (t : DepTable) → IsTableOf n s t → All (λ b. b < length n.specs + 1) t.members.items
members_below n s t of k d l =
    let may = (of.members (get_or t.members.items k d)).0 (Contains-get_or t.members.items k d l) in
    let most = (Spread-block n s (λ c p. ⊤) may).most in omega (arith, most)

-- a round that has blocks leaves fewer that aren't done
pub fewer_left : (t : DepTable) (ok : IsTable t) (done ready next after counts : List ℕ) → 0 < length ready → after ≡ done ++ ready → IsStage t after next counts
    → length t.members.items - length after < length t.members.items - length done
fewer_left t ok done ready next after counts some is stage =
    let most = stage_few t ok after next counts stage in
    let whole = length-append after next in
    let grown : length after ≡ length done + length ready = ap length is ∙ length-append done ready in
    omega (arith, most, whole, grown, some)

-- a slice that is written back into its vector
pub written_back : (len : ℕ) (new old : List ℕ) → length new ≡ length old → len ≡ length old → take len (new ++ drop (length new) old) ≡ new
written_back len new old same whole =
    ap (λ (xs : List ℕ). take len (new ++ xs)) (drop_all (length new) old (omega (arith, same)))
    ∙ (ap (take len) (append-nil new) ∙ take_all len new (omega (arith, same, whole)))

pub some_there : (empty : Bool) (k : ℕ) → empty ≡ nat_eq k 0 → empty ≡ false → 0 < k
some_there empty zero is off = absurd (true≢false (sym is ∙ off))
some_there empty (suc k) is off = omega arith

pub none_there : (empty : Bool) (k : ℕ) → empty ≡ nat_eq k 0 → empty ≡ true → k ≡ 0
none_there empty k is on = eqb-true k 0 (sym is ∙ on)
