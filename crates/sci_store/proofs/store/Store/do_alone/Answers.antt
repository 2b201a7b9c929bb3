use Rattle.std.proofs.Common.{◌≡◌, get_or}
use Rattle.std.proofs.lemmas.List.{get_or_default}
use Rattle.sci_bank.specs.declared.runs.Call.{Call}
use Rattle.sci_store.proofs.Alone.{done_valued, done_stuck, done_all}
use Rattle.sci_store.proofs.store.Store.do_alone.Goals as goal

no_call : Call
no_call = record { slot = 0; block = 0; mask = 0 }

pub loop-call-preserved : goal.loop-call-preserved
unfolding no_call
loop-call-preserved g c =
    let calls = c.args.calls.now in
    let k = c.loop-call.call-index in
    let call = get_or calls k no_call in
    let read : call ≡ get_or calls k call = get_or_default calls k no_call call c.loop-call-test.true in
    record {
      store = c.in_default.ensures.store;
      seated = c.in_default.ensures.seated;
      in_range = c.in_default.ensures.values;
      done = done_valued c.args.frame.now c.well_formed-2.ensures c.args.inputs.now calls c.requires.calls c.requires.apart k c.args.self.now c.loop-call.self _ _
          c.loop-call.invariant.done call c.loop-call-test.true read c.loop-call.invariant.store c.loop-call.invariant.seated c.evaluate.new.self _ c.in_default.ensures.answer;
    }

pub returns-in-Some-clause-done : goal.returns-in-Some-clause-done
unfolding no_call
returns-in-Some-clause-done g c kind of =
    let calls = c.args.calls.now in
    let k = c.loop-call.call-index in
    let call = get_or calls k no_call in
    let read : call ≡ get_or calls k call = get_or_default calls k no_call call c.loop-call-test.true in
    done_stuck c.args.frame.now c.well_formed-2.ensures c.args.inputs.now calls c.requires.calls c.requires.apart k c.args.self.now c.loop-call.self _ _
    c.loop-call.invariant.done call c.loop-call-test.true read c.loop-call.invariant.store c.loop-call.invariant.seated c.evaluate.new.self _ c.in-Some.word
    c.in-Some.ensures.answer kind of

pub returns-clause-done : goal.returns-clause-done
returns-clause-done g c kind of =
    done_all c.args.frame.now c.args.inputs.now c.args.calls.now c.loop-call.call-index c.args.self.now c.loop-call.self _ _ c.loop-call.invariant.done c.loop-call-test.false kind of
