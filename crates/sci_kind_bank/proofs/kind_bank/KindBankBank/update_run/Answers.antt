use Rattle.std.proofs.Common.{arith}
use Rattle.sci_bank.specs.Bank.{Meaning}
use Rattle.sci_kind_bank.proofs.RunLemmas.{may_update, stepped_next}
use Rattle.sci_kind_bank.proofs.kind_bank.KindBankBank.update_run.Goals as goal

pub entering-ins-requires-clause-within : goal.entering-ins-requires-clause-within
entering-ins-requires-clause-within g c =
    let b : Meaning = record { kind = g.R.Rule.kind; rows = c.args.self.now.rows; outs = c.args.self.now.outs } in
    let now : Meaning = record { kind = g.R.Rule.kind; rows = c.loop-call.self-inside.rows.items; outs = c.loop-call.self-inside.outs } in
    let may = may_update b c.args.places.now c.args.calls.now c.args.values.now c.loop-call.call-index now c.index_mut-row.result.now c.index-places-call.result (omega arith) c.requires c.loop-call.invariant c.index_mut-row.ensures.value
    c.index-places-call.is in
    may.1.within

pub advance-requires-clause-typed : goal.advance-requires-clause-typed
advance-requires-clause-typed g c =
    let b : Meaning = record { kind = g.R.Rule.kind; rows = c.args.self.now.rows; outs = c.args.self.now.outs } in
    let now : Meaning = record { kind = g.R.Rule.kind; rows = c.loop-call.self-inside.rows.items; outs = c.loop-call.self-inside.outs } in
    let may = may_update b c.args.places.now c.args.calls.now c.args.values.now c.loop-call.call-index now c.index_mut-row.result.now c.index-places-call.result (omega arith) c.requires c.loop-call.invariant c.index_mut-row.ensures.value
    c.index-places-call.is in
    may.1.typed

pub advance-requires-clause-ins : goal.advance-requires-clause-ins
advance-requires-clause-ins g c =
    let b : Meaning = record { kind = g.R.Rule.kind; rows = c.args.self.now.rows; outs = c.args.self.now.outs } in
    let now : Meaning = record { kind = g.R.Rule.kind; rows = c.loop-call.self-inside.rows.items; outs = c.loop-call.self-inside.outs } in
    let may = may_update b c.args.places.now c.args.calls.now c.args.values.now c.loop-call.call-index now c.index_mut-row.result.now c.index-places-call.result (omega arith) c.requires c.loop-call.invariant c.index_mut-row.ensures.value
    c.index-places-call.is in
    rw (c.entering-ins.ensures) may.1.ins

pub loop-call-preserved : goal.loop-call-preserved
loop-call-preserved g c =
    let b : Meaning = record { kind = g.R.Rule.kind; rows = c.args.self.now.rows; outs = c.args.self.now.outs } in
    let now : Meaning = record { kind = g.R.Rule.kind; rows = c.loop-call.self-inside.rows.items; outs = c.loop-call.self-inside.outs } in
    let may = may_update b c.args.places.now c.args.calls.now c.args.values.now c.loop-call.call-index now c.index_mut-row.result.now c.index-places-call.result (omega arith) c.requires c.loop-call.invariant c.index_mut-row.ensures.value
    c.index-places-call.is in
    stepped_next b c.args.places.now c.args.calls.now c.args.values.now c.loop-call.call-index now c.index_mut-row.result.now c.index-places-call.result c.advance.new.state (omega arith) c.requires c.loop-call.invariant may.0
    (rw (c.entering-ins.ensures) at c.advance.ensures)
