use Rattle.std.proofs.Common.{◌∙◌, ◌-◌, List, length, take, set, get_or, ap, arith}
use Rattle.sci_bank.specs.declared.runs.Call.{Call}
use Rattle.sci_store.specs.declared.marks.Mark.{Mark}
use Rattle.sci_store.specs.Store.{Standing}
use Rattle.sci_store.specs.Rows.{mark_by}
use Rattle.sci_store.specs.contracts.store.Store.{the_view}
use Rattle.sci_store.proofs.Marking.{marked_long, marked_more}
use Rattle.sci_store.proofs.store.Store.mark_active.Goals as goal

abbrev no_call : Call
no_call = record { slot = 0; block = 0; mask = 0 }

pub index_mut-requires : goal.index_mut-requires
index_mut-requires c =
    let k = c.loop-call.call-index in
    let known = c.requires k no_call c.loop-call-test.true in
    let long = ap (λ (s : Standing). length s.marks) c.loop-call.invariant ∙ marked_long (the_view c.self.inside).marks (take c.loop-call.call-index c.args.calls.now) in
    let same = ap (λ (s : Standing). length s.marks) c.self.view_is in
    omega (arith, known, long, same)

pub loop-call-preserved : goal.loop-call-preserved
loop-call-preserved c =
    let s = the_view c.self.inside in
    ap (λ (t : Standing). record t { marks = set t.marks ((get_or c.args.calls.now c.loop-call.call-index no_call).block - 1) (mark_by (get_or c.args.calls.now c.loop-call.call-index no_call)) })
    c.loop-call.invariant
    ∙ ap (λ (ms : List Mark). record s { marks = ms }) (marked_more (the_view c.self.inside).marks c.args.calls.now c.loop-call.call-index no_call c.loop-call-test.true)
