use Rattle.std.proofs.Common.{◌≡◌, ◌<◌, ℕ, List, Contains, length, ap, sym, subst, ◌∙◌}
use Rattle.sci_net.specs.Parts.{IsBlock}
use Rattle.sci_net.specs.Sources.{source_of}
use Rattle.sci_store.specs.Blocks.{AreBlocksByNumber}
use Rattle.sci_store.specs.Frame.{Fixed}
use Rattle.sci_store.specs.Marks.{mark_at, idle}
use Rattle.sci_store.specs.Rows.{ReadyRow, IsRowOf, IsReadyRow, HasBegun}
use Rattle.sci_store.specs.Store.{AreIdle}
use Rattle.sci_store.proofs.Covering.{row_blocks}
use Rattle.sci_sim.specs.Rows.{row_in}
use Rattle.sci_sim.specs.At.{Running}
use Rattle.sci_sim.proofs.Cleared.{all_idle, begun_keeps, ready_behind, ready_entered, ready_on}
use Rattle.sci_sim.proofs.Reacting.{row_ready, row_read}
use Rattle.sci_sim.proofs.ready.Ready.enter_row.Goals.{After-index-row, After-deref, After-begin_row}
use Rattle.sci_sim.proofs.ready.Ready.enter_row.Goals as goal

module _ (c : After-index-row) where
  abbrev view : Running
  view = record {
    fixed = c.self.inside.kept.fixed;
    rows = c.self.inside.rows.items;
    store = c.self.inside.kept.store;
    wheel = c.self.inside.wheel;
    offset = c.self.inside.offset;
    now = c.self.inside.now;
    fired = c.self.inside.fired;
    row = c.self.inside.row;
    has_row = c.self.inside.has_row;
    started = c.self.inside.started;
    halted = c.self.inside.halted;
  }

  within : c.args.source < length c.self.inside.rows.items
  within = subst (λ (x : Running). c.args.source < length x.rows) (sym c.self.view_is) c.requires

  row_is : c.index-row.result.now ≡ row_in c.self.inside.rows.items c.args.source
  row_is = row_read c.self.inside.rows.items c.args.source c.index-row.result.now within c.index-row.ensures

  row_of_source : IsRowOf c.self.inside.kept.fixed (source_of c.self.inside.kept.fixed.net c.args.source) c.index-row.result.now
  row_of_source = subst (IsRowOf c.self.inside.kept.fixed (source_of c.self.inside.kept.fixed.net c.args.source)) (sym row_is) (c.self.invariant.rows.each c.args.source within)

  ready_row : IsReadyRow c.self.inside.kept.fixed c.index-row.result.now
  ready_row = (source_of c.self.inside.kept.fixed.net c.args.source, row_of_source)

-- the blocks of the row before
last_is : (c : After-deref) → c.deref.result.now ≡ (row_in c.self.inside.rows.items c.self.inside.row).blocks
last_is c =
    let row = row_read c.self.inside.rows.items c.self.inside.row c.index-last.result.now c.self.invariant.row c.index-last.ensures in
    c.deref.ensures.value ∙ ap (λ (r : ReadyRow). r.blocks) (c.last.view_is ∙ row)

pub begin_again-requires-clause-row : goal.begin_again-requires-clause-row
begin_again-requires-clause-row c = ready_row (goal.at.begin_again-requires-clause-row c).After-index-row

pub invariant_of-self : goal.invariant_of-self
invariant_of-self c =
    let at = (goal.at.invariant_of-self c).After-index-row in
    let f = c.self.inside.kept.fixed in
    let k = c.begin_again.new.self in
    let row = c.index-row.result.now in
    let begun = begun_keeps f c.self.invariant.frame (source_of f.net c.args.source) row k.store (row_of_source at) c.begin_again.ensures.begun in
    ready_on _ k.fixed c.begin_again.ensures.fixed
    (ready_behind (view at) c.args.source row k.store c.self.inside.wheel c.self.inside.halted c.self.invariant c.if-self-source.true (within at) (row_is at) begun)

pub clear-requires : goal.clear-requires
clear-requires c =
    let f = c.self.inside.kept.fixed in
    let row = row_in c.self.inside.rows.items c.self.inside.row in
    subst (AreBlocksByNumber f.net) (sym (last_is (goal.at.clear-requires c).After-deref)) (row_blocks f row (row_ready f c.self.inside.rows.items c.self.inside.row c.self.invariant.rows c.self.invariant.row))

pub begin_row-requires-clause-idle : goal.begin_row-requires-clause-idle
begin_row-requires-clause-idle c =
    let f = c.self.inside.kept.fixed in
    let cleared = c.clear.new.self in
    let marked = subst (λ (bs : List ℕ). (b : ℕ) → IsBlock f.net b → (Contains bs b → ⊥) → mark_at c.self.inside.kept.store.marks b ≡ idle)
    (sym (last_is (goal.at.begin_row-requires-clause-idle c).After-deref)) c.self.invariant.marked in
    subst (λ (x : Fixed). AreIdle x cleared.store) (sym c.clear.ensures.fixed)
    (all_idle f c.deref.result.now c.self.inside.kept.store cleared.store c.clear.ensures.cleared c.clear.ensures.others marked)

pub begin_row-requires-clause-row : goal.begin_row-requires-clause-row
begin_row-requires-clause-row c =
    subst (λ (x : Fixed). IsReadyRow x c.index-row.result.now) (sym c.clear.ensures.fixed) (ready_row (goal.at.begin_row-requires-clause-row c).After-index-row)

-- the row is begun over the tables that stayed
begun_here : (c : After-begin_row) → HasBegun c.self.inside.kept.fixed c.index-row.result.now c.begin_row.new.self.store
begun_here c = subst (λ (x : Fixed). HasBegun x c.index-row.result.now c.begin_row.new.self.store) c.clear.ensures.fixed c.begin_row.ensures.begun

pub invariant_of-self-2 : goal.invariant_of-self-2
invariant_of-self-2 c =
    let at = (goal.at.invariant_of-self-2 c).After-index-row in
    let f = c.self.inside.kept.fixed in
    let k = c.begin_row.new.self in
    let row = c.index-row.result.now in
    let begun = begun_keeps f c.self.invariant.frame (source_of f.net c.args.source) row k.store (row_of_source at) (begun_here (goal.at.invariant_of-self-2 c).After-begin_row) in
    ready_on _ k.fixed (c.begin_row.ensures.fixed ∙ c.clear.ensures.fixed) (ready_entered (view at) c.args.source row k.store c.self.invariant (within at) (row_is at) begun)
