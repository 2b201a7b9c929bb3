use Rattle.std.proofs.Common.{◌≡◌, ◌≤◌, ◌<◌, ◌∙◌, List, ◌-◌, length, get_or, set, ap, sym, subst, refl, arith}
use Rattle.sci_net.specs.Parts.{IsBlock}
use Rattle.sci_reaction.specs.declared.entry.Entry.{Entry}
use Rattle.sci_store.specs.declared.marks.Mark.{Mark}
use Rattle.sci_store.specs.Marks.{idle}
use Rattle.sci_store.specs.Store.{Standing}
use Rattle.sci_store.specs.Rows.{ReadyRow}
use Rattle.sci_store.specs.contracts.store.Store.{the_view}
use Rattle.sci_store.proofs.Marking.{guarded_block, begun_again}
use Rattle.sci_store.proofs.TakenBack.{IsTakenBack, back_more, back_all, back_others}
use Rattle.sci_store.proofs.store.Store.begin_again.Goals as goal
use Rattle.sci_store.proofs.store.Store.begin_again.Goals.{After-entry-item, At-loop-entry}

-- the entries that are gone through
entries_are : (c : At-loop-entry) → c.deref-entry-items.result.now ≡ c.args.row.now.guarded
entries_are c = c.deref-entry-items.ensures.value ∙ ap (λ (r : ReadyRow). r.guarded) c.row.view_is

module _ (c : After-entry-item) where
  items_are : c.deref-entry-items.result.now ≡ c.args.row.now.guarded
  items_are = c.deref-entry-items.ensures.value ∙ ap (λ (r : ReadyRow). r.guarded) c.row.view_is

  read : c.entry-item.result ≡ get_or c.args.row.now.guarded c.loop-entry.entry-index c.entry-item.result
  read = c.entry-item.is ∙ ap (λ (es : List Entry). get_or es c.loop-entry.entry-index c.entry-item.result) items_are

  less : c.loop-entry.entry-index < length c.args.row.now.guarded
  less = subst (λ (es : List Entry). c.loop-entry.entry-index < length es) items_are c.loop-entry-test.true

block : (c : After-entry-item) → IsBlock c.args.frame.now.net c.entry-item.result.block
block c = guarded_block c.args.frame.now c.well_formed-2.ensures c.requires.row.0 c.args.row.now c.requires.row.1 c.entry-item.result (c.loop-entry.entry-index, less c, sym (read c))

pub overflow_sub-entry : goal.overflow_sub-entry
overflow_sub-entry c = (block (goal.at.overflow_sub-entry c).After-entry-item).least

pub index_mut-requires : goal.index_mut-requires
index_mut-requires c =
    let b = block (goal.at.index_mut-requires c).After-entry-item in
    let most = b.most in
    let least = b.least in
    let long = c.loop-entry.invariant.back.long in
    let same = ap (λ (s : Standing). length s.marks) c.self.view_is in
    let all = c.requires.store.marks in
    omega (arith, least, most, long, same, all)

pub loop-entry-preserved : goal.loop-entry-preserved
loop-entry-preserved c =
    let at = (goal.at.loop-entry-preserved c).After-entry-item in
    let b = block at in
    let most = b.most in
    let long = c.loop-entry.invariant.back.long in
    let same = ap (λ (s : Standing). length s.marks) c.self.view_is in
    let all = c.requires.store.marks in
    record {
      back = back_more (the_view c.self.inside).marks c.args.row.now.guarded c.loop-entry.entry-index (the_view c.loop-entry.self-inside).marks c.entry-item.result
          c.loop-entry.invariant.back (less at) (read at) b.least (omega (arith, most, long, same, all));
      same = ap (λ (t : Standing). record t { marks = set c.loop-entry.self-inside.marks.items (c.entry-item.result.block - 1) idle }) c.loop-entry.invariant.same;
    }

pub returns-clause-begun : goal.returns-clause-begun
returns-clause-begun c =
    let items = entries_are (goal.at.returns-clause-begun c).At-loop-entry in
    let marks = (the_view c.loop-entry.self-inside).marks in
    let back : IsTakenBack c.args.self.now.marks c.args.row.now.guarded c.loop-entry.entry-index (the_view c.loop-entry.self-inside).marks =
    subst (λ (ms : List Mark). IsTakenBack ms c.args.row.now.guarded c.loop-entry.entry-index (the_view c.loop-entry.self-inside).marks)
    (ap (λ (s : Standing). s.marks) c.self.view_is) c.loop-entry.invariant.back in
    let all : length c.args.row.now.guarded ≤ c.loop-entry.entry-index =
    subst (λ (es : List Entry). length es ≤ c.loop-entry.entry-index) items c.loop-entry-test.false in
    begun_again c.args.frame.now c.well_formed-2.ensures c.requires.row.0 c.args.row.now c.requires.row.1 c.args.self.now c.requires.passed (the_view c.loop-entry.self-inside).marks
    (back_all c.args.self.now.marks c.args.row.now.guarded c.loop-entry.entry-index (the_view c.loop-entry.self-inside).marks back all)
    back.stays (back_others c.args.self.now.marks c.args.row.now.guarded c.loop-entry.entry-index (the_view c.loop-entry.self-inside).marks back)
    (the_view c.loop-entry.self-inside) refl
