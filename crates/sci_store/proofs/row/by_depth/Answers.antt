use Rattle.std.proofs.Common.{◌≡◌, ◌+◌, ℕ, true, List, length, refl, sym, subst, arith}
use Rattle.sci_reaction.specs.declared.entry.Entry.{Entry}
use Rattle.sci_store.specs.declared.row.CallRank.{CallRank}
use Rattle.sci_store.proofs.Ranking.{AreGathered, one_gathered, are_ranked}
use Rattle.sci_store.proofs.row.by_depth.Goals as goal

pub loop-at-preserved : goal.loop-at-preserved
loop-at-preserved c =
    subst (λ (rs : List CallRank). AreGathered c.args.frame.now (λ (e : Entry). true) (λ (e : Entry). e.depth) c.args.entries.now (c.loop-at.at + 1) rs) (sym c.in_ok-push.ensures.items)
    (one_gathered c.index-entries-at.result c.rank_of.result c.loop-at.invariant c.loop-at-test.true c.index-entries-at.is refl c.rank_of.ensures.rank c.rank_of.ensures.depth
    c.rank_of.ensures.at)

pub returns : goal.returns
returns c =
    let all : c.loop-at.at ≡ length c.args.entries.now = omega arith in
    are_ranked c.args.frame.now (λ (e : Entry). true) (λ (e : Entry). e.depth) c.args.entries.now c.loop-at.ranks.items c.sort_unstable.new.self.items
    (subst (λ (k : ℕ). AreGathered c.args.frame.now (λ (e : Entry). true) (λ (e : Entry). e.depth) c.args.entries.now k c.loop-at.ranks.items) all c.loop-at.invariant)
    c.sort_unstable.ensures.permutation c.sort_unstable.ensures.sorted
