use Rattle.std.proofs.Common.{◌≡◌, ℕ, ◌-◌, ◌++◌, ◌∷◌, [], ◌==◌, ◌∙◌, List, cond, take, get_or, set, get_or-set_same, ap, sym, append_assoc, append-nil}
use Rattle.std.specs.List.{filter}
use Rattle.std.proofs.lemmas.List.Elements.{filter_more}
use Rattle.std.proofs.lemmas.Bool.Decides.{Decides-eqb, Decides-like, same_from_decides}
use Rattle.sci_judge.specs.Rounds.{count_at}
use Rattle.sci_judge.proofs.Releasing.{at_within, some_left, was_one, released_more, released_none}
use Rattle.sci_judge.proofs.rounds.release.Goals as goal

pub loop-block-init : goal.loop-block-init
loop-block-init c = record { counts = released_none c.args.counts.now; ready = sym (append-nil c.args.ready.now.items) }

pub overflow_sub-counts : goal.overflow_sub-counts
overflow_sub-counts c =
    some_left c.args.waiting.now c.args.counts.now c.loop-block.counts c.loop-block.block-index c.requires.distinct c.loop-block-test.true c.loop-block.invariant.counts c.requires.within
    c.requires.some

pub loop-block-preserved : goal.loop-block-preserved
loop-block-preserved c =
    let ws = c.args.waiting.now in
    let old = c.args.counts.now in
    let mid = c.loop-block.counts in
    let i = c.loop-block.block-index in
    let at = get_or ws i 0 in
    let one = was_one ws old mid i c.requires.distinct c.loop-block-test.true c.loop-block.invariant.counts c.requires.within c.requires.some in
    let read : count_at (set mid at (count_at mid at - 1)) at ≡ count_at mid at - 1 =
    get_or-set_same mid at (count_at mid at - 1) 0 (at_within ws old mid i c.requires.distinct c.loop-block-test.true c.loop-block.invariant.counts c.requires.within c.requires.some) in
    let same : (count_at mid at - 1 == 0) ≡ (count_at old at == 1) =
    same_from_decides (count_at mid at - 1 == 0) (count_at old at == 1) (Decides-like (count_at mid at - 1 == 0) one.0 one.1 (Decides-eqb (count_at mid at - 1) 0)) (Decides-eqb (count_at old at) 1) in
    record {
      counts = released_more ws old mid i c.requires.distinct c.loop-block-test.true c.loop-block.invariant.counts c.requires.within c.requires.some;
      ready = c.in_ok-put_ready.ensures
          ∙ (ap (λ k. c.loop-block.ready.items ++ cond (k == 0) (at ∷ []) []) read
          ∙ (ap (λ (xs : List ℕ). xs ++ cond (count_at mid at - 1 == 0) (at ∷ []) []) c.loop-block.invariant.ready
          ∙ (append_assoc c.args.ready.now.items (filter (λ b. count_at old b == 1) (take i ws)) (cond (count_at mid at - 1 == 0) (at ∷ []) [])
          ∙ (ap (λ t. c.args.ready.now.items ++ (filter (λ b. count_at old b == 1) (take i ws) ++ cond t (at ∷ []) [])) same
          ∙ ap (λ xs. c.args.ready.now.items ++ xs) (sym (filter_more (λ b. count_at old b == 1) ws i 0 c.loop-block-test.true))))));
    }
