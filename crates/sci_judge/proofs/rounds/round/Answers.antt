use Rattle.std.proofs.Common.{◌≡◌, ℕ, suc, ◌+◌, ◌<◌, ◌==◌, ◌++◌, ◌∷◌, [], ◌∙◌, List, All, length, drop, get_or, sym, ap, subst, subst₂, arith, eqb, add-one, append_assoc, append-nil, Vec}
use Rattle.std.specs.declared.alloc.Global.{Global}
use Rattle.std.specs.List.{IsDistinct, filter}
use Rattle.std.proofs.Math.Seq.{drop-cons}
use Rattle.std.proofs.lemmas.List.{length-map, take_all, drop_all}
use Rattle.sci_loop.specs.Lists.{plain, list_at}
use Rattle.sci_loop.proofs.Adding.{list_at-plain}
use Rattle.std.proofs.lemmas.List.Elements.{All-contains}
use Rattle.sci_loop.specs.declared.table.DepTable.{DepTable}
use Rattle.sci_reaction.proofs.Rows.{Contains-mid}
use Rattle.sci_judge.proofs.Ranking.{in_round, ranked_push, in_round_more}
use Rattle.sci_judge.specs.declared.rounds.BlockRound.{BlockRound}
use Rattle.sci_judge.specs.Rounds.{ranked, IsStage, IsReleased, count_at}
use Rattle.sci_judge.proofs.Staging.{release_some, release_within, stage_more}
use Rattle.sci_judge.proofs.rounds.round.Goals as goal

-- the block at this place is the first that is ready
first : (t : DepTable) (done round next counts : List ℕ) (i : ℕ) → i < length round → IsStage t done (drop i round ++ next) counts
    → IsStage t done (get_or round i 0 ∷ (drop (suc i) round ++ next)) counts
first t done round next counts i less stage = subst (λ (xs : List ℕ). IsStage t done (xs ++ next) counts) (drop-cons round i 0 less) stage

listed : (vs : List (Vec ℕ Global)) (i count : ℕ) (v : Vec ℕ Global) (ws : List ℕ) → i < count → length (plain vs) ≡ count → v ≡ get_or vs i v → ws ≡ v.items → list_at (plain vs) i ≡ ws
listed vs i count v ws less long is same = list_at-plain vs i v (let map_long = length-map vs (λ (u : Vec ℕ Global). u.items) in omega (arith, less, long, map_long)) is ∙ sym same

pub loop-block-init : goal.loop-block-init
loop-block-init c = record {
  done = sym (append-nil c.args.done.now.items);
  stage = λ t of. subst (λ (xs : List ℕ). IsStage t (ranked c.args.done.now.items) xs c.args.counts.now)
      (sym (append-nil c.args.round.now) ∙ ap (λ (xs : List ℕ). c.args.round.now ++ xs) (sym c.new-next.ensures.items)) of.stage;
}

inside : (t : DepTable) (done round next counts : List ℕ) (i count : ℕ) → i < length round → All (λ b. b < count) t.members.items → IsStage t done (drop i round ++ next) counts
    → get_or round i 0 < count
inside t done round next counts i count less below stage =
    All-contains (λ b. b < count) t.members.items (get_or round i 0) below
    ((first t done round next counts i less stage).members (get_or round i 0) (Contains-mid done (drop (suc i) round ++ next) (get_or round i 0)))

pub bounds-waiting-block : goal.bounds-waiting-block
bounds-waiting-block c =
    let t = c.requires.0 in
    let of = c.requires.1 in
    let l = inside t (ranked c.loop-block.done.items) c.args.round.now c.loop-block.next.items c.loop-block.counts c.loop-block.block-index (length c.args.counts.now) c.loop-block-test.true
    of.below (c.loop-block.invariant.stage t of) in
    let map_long = length-map c.args.waiting.now (λ (u : Vec ℕ Global). u.items) in
    omega (arith, l, of.waiting.long, map_long)

pub release-requires-clause-distinct : goal.release-requires-clause-distinct
release-requires-clause-distinct c =
    let i = c.loop-block.block-index in
    let rs = c.args.round.now in
    let t = c.requires.0 in
    let of = c.requires.1 in
    let n = length c.args.counts.now in
    let l = inside t (ranked c.loop-block.done.items) rs c.loop-block.next.items c.loop-block.counts i n c.loop-block-test.true of.below (c.loop-block.invariant.stage t of) in
    subst (IsDistinct eqb)
    (listed c.args.waiting.now (get_or rs i 0) n c.index-waiting-block.result c.deref.result.now l of.waiting.long c.index-waiting-block.is c.deref.ensures.value)
    (of.waiting.once (get_or rs i 0))

pub release-requires-clause-within : goal.release-requires-clause-within
release-requires-clause-within c =
    let i = c.loop-block.block-index in
    let rs = c.args.round.now in
    let t = c.requires.0 in
    let of = c.requires.1 in
    let n = length c.args.counts.now in
    let done = ranked c.loop-block.done.items in
    let next = c.loop-block.next.items in
    let stage = c.loop-block.invariant.stage t of in
    let l = inside t done rs next c.loop-block.counts i n c.loop-block-test.true of.below stage in
    subst₂ (λ (ws : List ℕ) m. All (λ b. b < m) ws)
    (listed c.args.waiting.now (get_or rs i 0) n c.index-waiting-block.result c.deref.result.now l of.waiting.long c.index-waiting-block.is c.deref.ensures.value)
    (sym c.loop-block.auto.counts)
    (release_within t of.table n of.below (plain c.args.waiting.now) of.waiting done (drop (suc i) rs ++ next) c.loop-block.counts (get_or rs i 0)
    (first t done rs next c.loop-block.counts i c.loop-block-test.true stage))

pub release-requires-clause-some : goal.release-requires-clause-some
release-requires-clause-some c =
    let i = c.loop-block.block-index in
    let rs = c.args.round.now in
    let t = c.requires.0 in
    let of = c.requires.1 in
    let n = length c.args.counts.now in
    let done = ranked c.loop-block.done.items in
    let next = c.loop-block.next.items in
    let stage = c.loop-block.invariant.stage t of in
    let l = inside t done rs next c.loop-block.counts i n c.loop-block-test.true of.below stage in
    subst (All (λ b. 0 < count_at c.loop-block.counts b))
    (listed c.args.waiting.now (get_or rs i 0) n c.index-waiting-block.result c.deref.result.now l of.waiting.long c.index-waiting-block.is c.deref.ensures.value)
    (release_some t of.table n of.below (plain c.args.waiting.now) of.waiting done (drop (suc i) rs ++ next) c.loop-block.counts (get_or rs i 0)
    (first t done rs next c.loop-block.counts i c.loop-block-test.true stage))

pub loop-block-preserved : goal.loop-block-preserved
loop-block-preserved c =
    let i = c.loop-block.block-index in
    let rs = c.args.round.now in
    let n = length c.args.counts.now in
    let done = ranked c.loop-block.done.items in
    let next = c.loop-block.next.items in
    let counts = c.loop-block.counts in
    let b = get_or rs i 0 in
    let some = c.requires.1 in
    let l = inside c.requires.0 done rs next counts i n c.loop-block-test.true some.below (c.loop-block.invariant.stage c.requires.0 some) in
    let ws = listed c.args.waiting.now b n c.index-waiting-block.result c.deref.result.now l some.waiting.long c.index-waiting-block.is c.deref.ensures.value in
    let released : IsReleased (list_at (plain c.args.waiting.now) b) counts c.release.new.counts =
    subst (λ (xs : List ℕ). IsReleased xs counts c.release.new.counts) (sym ws) c.in_ok-release.ensures.counts in
    let put : c.release.new.ready.items ≡ next ++ filter (λ w. count_at counts w == 1) (list_at (plain c.args.waiting.now) b) =
    c.in_ok-release.ensures.ready ∙ ap (λ (xs : List ℕ). next ++ filter (λ w. count_at counts w == 1) xs) (sym ws) in
    let queue : (drop (suc i) rs ++ next) ++ filter (λ w. count_at counts w == 1) (list_at (plain c.args.waiting.now) b) ≡ drop (i + 1) rs ++ c.release.new.ready.items =
    append_assoc (drop (suc i) rs) next (filter (λ w. count_at counts w == 1) (list_at (plain c.args.waiting.now) b))
    ∙ (ap (λ (xs : List ℕ). drop (suc i) rs ++ xs) (sym put) ∙ ap (λ j. drop j rs ++ c.release.new.ready.items) (sym (add-one i))) in
    let rank : BlockRound = record { block = b; depth = c.args.depth } in
    record {
      done = c.in_ok-push.ensures.items
          ∙ (ap (λ (xs : List BlockRound). xs ++ rank ∷ []) c.loop-block.invariant.done ∙ in_round_more c.args.done.now.items c.args.depth rs i c.loop-block-test.true);
      stage = λ t of. subst₂ (λ (ds xs : List ℕ). IsStage t ds xs c.release.new.counts)
          (sym (ap (λ (rs : List BlockRound). ranked rs) c.in_ok-push.ensures.items ∙ ranked_push c.loop-block.done.items rank)) queue
          (stage_more t of.table n of.below (plain c.args.waiting.now) of.waiting done (drop (suc i) rs ++ next) counts b
          (first t done rs next counts i c.loop-block-test.true (c.loop-block.invariant.stage t of)) c.release.new.counts released);
    }

pub returns-clause-done : goal.returns-clause-done
returns-clause-done c =
    c.loop-block.invariant.done
    ∙ ap (λ (xs : List ℕ). c.args.done.now.items ++ in_round c.args.depth xs) (take_all c.loop-block.block-index c.args.round.now c.loop-block-test.false)

pub returns-clause-stage : goal.returns-clause-stage
returns-clause-stage c =
    λ t of. subst (λ (xs : List ℕ). IsStage t (ranked c.loop-block.done.items) (xs ++ c.loop-block.next.items) c.loop-block.counts)
    (drop_all c.loop-block.block-index c.args.round.now c.loop-block-test.false) (c.loop-block.invariant.stage t of)
