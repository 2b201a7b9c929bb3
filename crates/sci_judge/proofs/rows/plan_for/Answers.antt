use Rattle.std.proofs.Common.{◌≡◌, ◌<◌, ◌↔◌, All, Contains, map, ap, subst, sym, ◌∙◌, List, ℕ}
use Rattle.std.specs.List.{IsDistinct}
use Rattle.std.specs.Prelude.{nat_eq}
use Rattle.sci_net.specs.Parts.{Parts, IsBlock}
use Rattle.sci_reaction.specs.Active.{IsAlways}
use Rattle.sci_reaction.specs.Depends.{IsLoopFree}
use Rattle.sci_reaction.specs.declared.entry.Entry.{Entry as Kept}
use Rattle.sci_store.specs.Rows.{AreEntriesOf}
use Rattle.sci_judge.specs.Programming.{AreSourcesOf}
use Rattle.sci_net.specs.Sources.{source_of}
use Rattle.sci_reaction.proofs.Spreading.{Spread-block}
use Rattle.sci_reaction.specs.Schedule.{blocks_of}
use Rattle.sci_reaction.specs.Kept.{entries_of}
use Rattle.sci_loop.specs.Lists.{list_at}
use Rattle.sci_dep.proofs.Walked.{always_inside}
use Rattle.sci_judge.specs.declared.rounds.BlockRound.{BlockRound}
use Rattle.sci_judge.specs.Rounds.{ranked}
use Rattle.sci_judge.proofs.Delayed.{sources_same}
use Rattle.sci_judge.proofs.Ranking.{rounds_once, entries_are, blocks_in, ranks_in}
use Rattle.sci_judge.proofs.Rounding.{members_below}
use Rattle.sci_judge.proofs.rows.plan_for.Goals as goal

-- the blocks that the walk has found are the possible blocks of the source
pub by_rounds-requires-clause-table : goal.by_rounds-requires-clause-table
by_rounds-requires-clause-table c = (c.in_ok-table.ensures (source_of c.net-net.result.now c.args.source) c.in_ok-possible.ensures.possible).well_formed

pub by_rounds-requires-clause-below : goal.by_rounds-requires-clause-below
by_rounds-requires-clause-below c =
    let n = c.net-net.result.now in
    let s = source_of n c.args.source in
    members_below n s c.in_ok-table.table (c.in_ok-table.ensures s c.in_ok-possible.ensures.possible)

pub take-requires : goal.take-requires
take-requires c =
    let n = c.args.kept.now.fixed.net in
    let k = c.args.source in
    let bs = list_at c.args.reach.now.always k in
    subst (All (λ q. q < c.args.always.now.count)) (sym c.always.ensures)
    (always_inside n (source_of n k) bs c.args.always.now.count (λ b. c.requires.reach.always_are k b c.requires.source) c.requires.always_count)

pub entries-requires-clause-always : goal.entries-requires-clause-always
entries-requires-clause-always c b =
    let always = c.requires.reach.always_are in
    let same : c.net-net.result.now ≡ c.args.kept.now.fixed.net = c.net-net.ensures in
    subst (λ (n : Parts). Contains c.take.new.self.found b ↔ IsAlways n (source_of n c.args.source) b) (sym same) (
      (λ h. (always c.args.source b c.requires.source).0 (subst (λ xs. Contains xs b) c.always.ensures ((c.in_ok-take.ensures.found b).0 h))),
      λ a. (c.in_ok-take.ensures.found b).1 (subst (λ xs. Contains xs b) (sym c.always.ensures) ((always c.args.source b c.requires.source).1 a)),
    )

pub entries-requires-clause-blocks : goal.entries-requires-clause-blocks
entries-requires-clause-blocks c =
    let n = c.net-net.result.now in
    let s = source_of n c.args.source in
    let same : n ≡ c.args.kept.now.fixed.net = c.net-net.ensures in
    let free : IsLoopFree n s = subst (λ (m : Parts). IsLoopFree m (source_of m c.args.source)) (sym same) c.requires.free in
    let rounds = c.in_ok-order.ensures.rounds s (c.in_ok-table.ensures s c.in_ok-possible.ensures.possible) free in
    subst (λ (rs : List BlockRound). All (λ (r : BlockRound). IsBlock n r.block) rs) (sym c.deref.ensures.value)
    (ranks_in n c.in_ok-order.order.items (λ b h. Spread-block n s _ ((rounds.exactly b).0 h)))

pub row_of-requires-clause-blocks : goal.row_of-requires-clause-blocks
row_of-requires-clause-blocks c =
    let n = c.net-net.result.now in
    let s = source_of n c.args.source in
    let es = c.in_ok-entries.entries.items in
    let blocks : blocks_of (entries_of es) ≡ ranked c.in_ok-order.order.items = c.in_ok-entries.ensures.blocks ∙ ap (λ (rs : List BlockRound). ranked rs) c.deref.ensures.value in
    let same : n ≡ c.args.kept.now.fixed.net = c.net-net.ensures in
    let free : IsLoopFree n s = subst (λ (m : Parts). IsLoopFree m (source_of m c.args.source)) (sym same) c.requires.free in
    let rounds = c.in_ok-order.ensures.rounds s (c.in_ok-table.ensures s c.in_ok-possible.ensures.possible) free in
    subst (λ (m : Parts). All (λ (e : Kept). IsBlock m e.block) es) same
    (blocks_in n s c.in_ok-order.order.items es blocks (λ b h. Spread-block n s _ ((rounds.exactly b).0 h)))

pub row_of-requires-clause-once : goal.row_of-requires-clause-once
row_of-requires-clause-once c =
    let n = c.net-net.result.now in
    let s = source_of n c.args.source in
    let same : n ≡ c.args.kept.now.fixed.net = c.net-net.ensures in
    let free : IsLoopFree n s = subst (λ (m : Parts). IsLoopFree m (source_of m c.args.source)) (sym same) c.requires.free in
    let rounds = c.in_ok-order.ensures.rounds s (c.in_ok-table.ensures s c.in_ok-possible.ensures.possible) free in
    let blocks : blocks_of (entries_of c.in_ok-entries.entries.items) ≡ ranked c.in_ok-order.order.items =
    c.in_ok-entries.ensures.blocks ∙ ap (λ (rs : List BlockRound). ranked rs) c.deref.ensures.value in
    subst (λ (bs : List ℕ). IsDistinct nat_eq bs) (sym blocks) (rounds_once n s (ranked c.in_ok-order.order.items) rounds)

pub returns-clause-plan : goal.returns-clause-plan
returns-clause-plan c =
    let n = c.net-net.result.now in
    let s = source_of n c.args.source in
    let ranks = c.in_ok-order.order.items in
    let es = c.in_ok-entries.entries.items in
    let same : n ≡ c.args.kept.now.fixed.net = c.net-net.ensures in
    let blocks : blocks_of (entries_of es) ≡ ranked ranks = c.in_ok-entries.ensures.blocks ∙ ap (λ (rs : List BlockRound). ranked rs) c.deref.ensures.value in
    let depths : map (λ (e : Kept). e.depth) es ≡ map (λ (r : BlockRound). r.depth) ranks =
    c.in_ok-entries.ensures.depths ∙ ap (λ (rs : List BlockRound). map (λ (r : BlockRound). r.depth) rs) c.deref.ensures.value in
    let of = c.in_ok-table.ensures s c.in_ok-possible.ensures.possible in
    let free : IsLoopFree n s = subst (λ (m : Parts). IsLoopFree m (source_of m c.args.source)) (sym same) c.requires.free in
    let are = entries_are n s ranks es blocks depths (c.in_ok-order.ensures.rounds s of free) (c.in_ok-order.ensures.depths s of free) c.in_ok-entries.ensures.tells in
    let row = c.in_ok-row_of.ensures in
    let sources = sources_same n c.in_ok-row_of.field-0.blocks c.possible.new.walk.found c.in_ok-sources.sources.items
    (λ b h. (c.in_ok-possible.ensures.possible b).1 ((are.exactly b).0 ((row.blocks_are.same b).0 h))) c.in_ok-sources.ensures in
    record {
      row = record { made_of = es; entries = subst (λ (m : Parts). AreEntriesOf m (source_of m c.args.source) es) same are; row = row };
      sources = subst (λ (m : Parts). AreSourcesOf m c.in_ok-row_of.field-0.blocks c.in_ok-sources.sources.items) same sources;
    }
