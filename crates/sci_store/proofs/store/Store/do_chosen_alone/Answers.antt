use Rattle.std.proofs.Common.{◌≡◌, ◌∙◌, ◌<◌, ◌≤◌, List, get_or, take, length, ap, sym, arith}
use Rattle.std.proofs.lemmas.List.{get_or-take, length-take-le}
use Rattle.sci_bank.specs.declared.runs.Call.{Call}
use Rattle.sci_store.specs.Store.{Standing}
use Rattle.sci_store.proofs.Alone.{call_of_net, done_valued, done_stuck, done_all}
use Rattle.sci_store.proofs.store.Store.do_chosen_alone.Given.{Over}
use Rattle.sci_store.proofs.store.Store.do_chosen_alone.Goals as goal
use Rattle.sci_store.proofs.store.Store.do_chosen_alone.Goals.{After-index-call}

module _ (g : Over) (c : After-index-call g) where
  chosen_now : c.self.inside.chosen.items ≡ c.args.self.now.chosen
  chosen_now = ap (λ (s : Standing). s.chosen) c.self.view_is ∙ c.loop-at.invariant.done.chosen

  read : c.index-call.result.now ≡ get_or (take c.args.count c.args.self.now.chosen) c.loop-at.at c.index-call.result.now
  read =
      c.index-call.ensures
      ∙ (ap (λ (cs : List Call). get_or cs c.loop-at.at c.index-call.result.now) chosen_now
      ∙ sym (get_or-take c.args.count c.args.self.now.chosen c.loop-at.at c.index-call.result.now c.loop-at-test.true))

  less : c.loop-at.at < length (take c.args.count c.args.self.now.chosen)
  less = let long = length-take-le c.args.count c.args.self.now.chosen c.requires.count in omega (arith, long, c.loop-at-test.true)

pub evaluate-requires-clause-mask : goal.evaluate-requires-clause-mask
evaluate-requires-clause-mask g c =
    let at = (goal.at.evaluate-requires-clause-mask g c).After-index-call in
    (call_of_net c.args.frame.now c.well_formed-2.ensures c.args.inputs.now (take c.args.count c.args.self.now.chosen) c.requires.calls c.requires.apart c.loop-at.at c.args.self.now c.loop-at.self _ _
    c.loop-at.invariant.done c.index-call.result.now (less g at) (read g at) c.loop-at.invariant.store c.loop-at.invariant.seated).mask

pub loop-at-preserved : goal.loop-at-preserved
loop-at-preserved g c =
    let at = (goal.at.loop-at-preserved g c).After-index-call in
    record {
      store = c.in_default.ensures.store;
      seated = c.in_default.ensures.seated;
      in_range = c.in_default.ensures.values;
      done = done_valued c.args.frame.now c.well_formed-2.ensures c.args.inputs.now (take c.args.count c.args.self.now.chosen) c.requires.calls c.requires.apart c.loop-at.at c.args.self.now c.loop-at.self _ _
          c.loop-at.invariant.done c.index-call.result.now (less g at) (read g at) c.loop-at.invariant.store c.loop-at.invariant.seated c.evaluate.new.self _ c.in_default.ensures.answer;
    }

pub returns-in-Some-clause-done : goal.returns-in-Some-clause-done
returns-in-Some-clause-done g c kind of =
    let at = (goal.at.returns-in-Some-clause-done g c).After-index-call in
    done_stuck c.args.frame.now c.well_formed-2.ensures c.args.inputs.now (take c.args.count c.args.self.now.chosen) c.requires.calls c.requires.apart c.loop-at.at c.args.self.now c.loop-at.self _ _
    c.loop-at.invariant.done c.index-call.result.now (less g at) (read g at) c.loop-at.invariant.store c.loop-at.invariant.seated c.evaluate.new.self _ c.in-Some.word
    c.in-Some.ensures.answer kind of

pub returns-clause-done : goal.returns-clause-done
returns-clause-done g c kind of =
    let long = length-take-le c.args.count c.args.self.now.chosen c.requires.count in
    let all : length (take c.args.count c.args.self.now.chosen) ≤ c.loop-at.at = omega (arith, long, c.loop-at-test.false) in
    done_all c.args.frame.now c.args.inputs.now (take c.args.count c.args.self.now.chosen) c.loop-at.at c.args.self.now c.loop-at.self _ _ c.loop-at.invariant.done all kind of
