use Rattle.std.proofs.Common.{ap, sym, subst, ◌∙◌, ◌∷◌, [], append-nil}
use Rattle.std.proofs.lemmas.Result.{err_from_is_err_and}
use Rattle.sci_base.specs.declared.observation.Obs.TheVariants.{End}
use Rattle.sci_io.proofs.Advance.{same_text}
use Rattle.sci_trace.specs.Lines.{text, line}
use Rattle.sci_reaction.specs.Memory.{AreColumns}
use Rattle.sci_store.specs.Frame.{Fixed}
use Rattle.sci_sim.specs.At.{Running, AreTallied}
use Rattle.sci_store.specs.Written.{tallied}
use Rattle.sci_sim.specs.Reacting.{seen_in}
use Rattle.sci_sim.proofs.Steps.{within_until, shows_taken, outcome_of, fixed_stays, stands, stops_at, is_tallied, tallied_more, tallied_is, at_tallied, leads_to, leads_to_in, goes_on, is_over, none_of, ok_as, err_as, no_ok, step_cut, step_written, ready_kept, all_seen}
use Rattle.sci_sim.proofs.Resting.{ready_tallied}
use Rattle.sci_sim.proofs.ready.Ready.step.Goals as goal

pub react-requires-clause-date : goal.react-requires-clause-date
react-requires-clause-date g c =
    let b = c.requires.before in
    let set = c.next_source-source.ensures.fires c.args.until c.args.limit _ b.0 b.1 b.2 b.3 b.4 b.5 in
    within_until b.2 c.next_source-source.new.self.now c.args.until set.now set.in_time c.requires.until

pub react-requires-clause-columns : goal.react-requires-clause-columns
react-requires-clause-columns g c = subst (λ (x : Fixed). AreColumns x.net c.args.ins.now) (sym (ap (λ (x : Running). x.fixed) c.next_source-source.ensures.rest)) c.requires.columns

pub react-requires-clause-shown : goal.react-requires-clause-shown
react-requires-clause-shown g c =
    let b = c.requires.before in
    let set = c.next_source-source.ensures.fires c.args.until c.args.limit _ b.0 b.1 b.2 b.3 b.4 b.5 in
    (b.1, shows_taken c.args.until c.args.self.now c.next_source-source.new.self _ b.2 b.3 b.1 c.next_source-source.result c.next_source-source.ensures.rest set)

pub returns-in_err-word-clause-reacted : goal.returns-in_err-word-clause-reacted
returns-in_err-word-clause-reacted g c st from date source at fires =
    let a = c.next_source-source.new.self in
    let k = c.next_source-source.result in
    let r = c.args.self.now in
    let until = c.args.until in
    let set = c.next_source-source.ensures.fires until c.args.limit _ st from date source at fires in
    let q = c.react.ensures.reacted from (shows_taken until r a _ date source from k c.next_source-source.ensures.rest set) in
    let err = err_from_is_err_and c.from_residual.result c.from_residual.ensures.1 in (
      q.0,
      outcome_of until r a _ date source from k c.next_source-source.ensures.rest set c.args.ins.now q.0 q.1,
      step_cut r.fixed.net until c.args.limit q.0 c.react.result c.from_residual.result _ err.0 c.in_err-word.was err.1 q.2,
      no_ok _ c.from_residual.result err.0 err.1,
    )

pub returns-in-Some-clause-reacted : goal.returns-in-Some-clause-reacted
returns-in-Some-clause-reacted g c st from date source at fires =
    let a = c.next_source-source.new.self in
    let k = c.next_source-source.result in
    let r = c.args.self.now in
    let until = c.args.until in
    let set = c.next_source-source.ensures.fires until c.args.limit _ st from date source at fires in
    let q = c.in_ok-word.ensures.reacted from (shows_taken until r a _ date source from k c.next_source-source.ensures.rest set) in
    let o = outcome_of until r a _ date source from k c.next_source-source.ensures.rest set c.args.ins.now q.0 q.1 in
    let stop = stops_at until r a _ date source from k c.next_source-source.ensures.rest set c.args.ins.now c.react.new.self _ c.in_ok-word.ensures.rest q.0 o _ q.3 c.args.limit c.in-Some.word c.in-Some.is set.shown.counts in
    let all = all_seen r.fixed.net until c.args.limit q.0 _ c.in-Some.word q.3.stops c.in-Some.is in (
      q.0,
      o,
      same_text (ap text (sym all)) (ok_as _ _ q.2),
      (stop, subst (AreTallied r.store c.react.new.self.store) (sym all) (is_tallied until r a _ date source from k c.next_source-source.ensures.rest set c.args.ins.now c.react.new.self _ c.in_ok-word.ensures.rest q.0 o _ q.3)),
    )

pub returns-in-None-clause-reacted : goal.returns-in-None-clause-reacted
returns-in-None-clause-reacted g c st from date source at fires =
    let a = c.next_source-source.new.self in
    let k = c.next_source-source.result in
    let r = c.args.self.now in
    let b = c.react.new.self in
    let until = c.args.until in
    let rest = c.next_source-source.ensures.rest in
    let none = none_of _ c.in_default.not-Some in
    let set = c.next_source-source.ensures.fires until c.args.limit _ st from date source at fires in
    let q = c.in_ok-word.ensures.reacted from (shows_taken until r a _ date source from k rest set) in
    let o = outcome_of until r a _ date source from k rest set c.args.ins.now q.0 q.1 in
    let s = stands until r a _ date source from k rest set c.args.ins.now b _ c.in_ok-word.ensures.rest q.0 o _ q.3 none (c.in_ok-word.ensures.halted none) in
    let net = ap (λ (x : Fixed). x.net) (fixed_stays until r a _ date source from k rest set c.args.ins.now b _ c.in_ok-word.ensures.rest q.0 o _ q.3) in
    let l = leads_to c.args.ins.now until c.args.limit date source from r.fixed.net b _ q.0 s.seen s.after _ [] net s.leads s.at s.row (goes_on _ (c.in-None.ensures _ s.after s.at)) in
    let all = l.1 ∙ append-nil (seen_in q.0) in (
      q.0,
      o,
      same_text (ap text (sym all)) (ok_as _ _ q.2),
      (l.0, subst (AreTallied r.store b.store) (sym all) (is_tallied until r a _ date source from k rest set c.args.ins.now b _ c.in_ok-word.ensures.rest q.0 o _ q.3)),
    )

pub returns-in_ok-observe-in-Some-due_end-clause-reacted : goal.returns-in_ok-observe-in-Some-due_end-clause-reacted
returns-in_ok-observe-in-Some-due_end-clause-reacted g c st from date source at fires =
    let a = c.next_source-source.new.self in
    let k = c.next_source-source.result in
    let r = c.args.self.now in
    let b = c.react.new.self in
    let until = c.args.until in
    let rest = c.next_source-source.ensures.rest in
    let none = none_of _ c.in_default.not-Some in
    let word = c.in-Some-due_end.word in
    let set = c.next_source-source.ensures.fires until c.args.limit _ st from date source at fires in
    let q = c.in_ok-word.ensures.reacted from (shows_taken until r a _ date source from k rest set) in
    let o = outcome_of until r a _ date source from k rest set c.args.ins.now q.0 q.1 in
    let s = stands until r a _ date source from k rest set c.args.ins.now b _ c.in_ok-word.ensures.rest q.0 o _ q.3 none (c.in_ok-word.ensures.halted none) in
    let net = ap (λ (x : Fixed). x.net) (fixed_stays until r a _ date source from k rest set c.args.ins.now b _ c.in_ok-word.ensures.rest q.0 o _ q.3) in
    let view = c.self.view_is in
    let counted = c.in_ok-observe-in-Some-due_end.ensures.counted in
    let fixed = c.in_ok-observe-in-Some-due_end.ensures.fixed in
    let last = at_tallied b _ _ s.after (End word ∷ []) c.observe.new.self view s.at fixed counted in
    let stays = ap (λ (x : Running). x.fixed) view in
    let over = is_over _ word (c.in-Some-due_end.ensures _ s.after s.at) in
    let l = leads_to_in c.args.ins.now until c.args.limit date source from r.fixed.net b _ c.observe.new.self _ q.0 s.seen s.after _ (End word ∷ []) view fixed net s.leads last s.row over in
    let reaction = is_tallied until r a _ date source from k rest set c.args.ins.now b _ c.in_ok-word.ensures.rest q.0 o _ q.3 in
    let end = tallied_is b.store c.observe.new.self.store (End word ∷ []) (counted ∙ ap (λ (x : Running). tallied x.store (End word ∷ [])) view) in
    let wrote = same_text (sym (append-nil (line (End word)))) (ok_as _ _ c.in_ok-observe-in-Some-due_end.ensures.written) in (
      q.0,
      o,
      step_written q.0 _ (End word ∷ []) _ _ l.1 q.2 wrote,
      (l.0, subst (AreTallied r.store c.observe.new.self.store) (sym l.1) (tallied_more r.store b.store c.observe.new.self.store (seen_in q.0) (End word ∷ []) reaction end)),
    )

pub returns-in_err-observe-in-Some-due_end-clause-reacted : goal.returns-in_err-observe-in-Some-due_end-clause-reacted
returns-in_err-observe-in-Some-due_end-clause-reacted g c st from date source at fires =
    let a = c.next_source-source.new.self in
    let k = c.next_source-source.result in
    let r = c.args.self.now in
    let b = c.react.new.self in
    let until = c.args.until in
    let rest = c.next_source-source.ensures.rest in
    let none = none_of _ c.in_default.not-Some in
    let word = c.in-Some-due_end.word in
    let set = c.next_source-source.ensures.fires until c.args.limit _ st from date source at fires in
    let q = c.in_ok-word.ensures.reacted from (shows_taken until r a _ date source from k rest set) in
    let o = outcome_of until r a _ date source from k rest set c.args.ins.now q.0 q.1 in
    let s = stands until r a _ date source from k rest set c.args.ins.now b _ c.in_ok-word.ensures.rest q.0 o _ q.3 none (c.in_ok-word.ensures.halted none) in
    let net = ap (λ (x : Fixed). x.net) (fixed_stays until r a _ date source from k rest set c.args.ins.now b _ c.in_ok-word.ensures.rest q.0 o _ q.3) in
    let l = leads_to c.args.ins.now until c.args.limit date source from r.fixed.net b _ q.0 s.seen s.after _ (End word ∷ []) net s.leads s.at s.row (is_over _ word (c.in-Some-due_end.ensures _ s.after s.at)) in
    let failed = c.from_residual-in_err-observe-in-Some-due_end.result in
    let err = err_from_is_err_and failed c.from_residual-in_err-observe-in-Some-due_end.ensures.1 in
    let wrote = same_text (sym (append-nil (line (End word)))) (err_as c.observe.result failed _ err.0 c.in_err-observe-in-Some-due_end.was err.1 c.observe.ensures.written) in (
      q.0,
      o,
      step_written q.0 _ (End word ∷ []) _ _ l.1 q.2 wrote,
      no_ok _ failed err.0 err.1,
    )

pub invariant_of-self : goal.invariant_of-self
invariant_of-self g c = ready_kept _ c.observe.new.self c.in_err-observe-in-Some-due_end.ensures.fixed c.in_err-observe-in-Some-due_end.ensures.kept c.self.invariant

pub invariant_of-self-in-Some-due_end : goal.invariant_of-self-in-Some-due_end
invariant_of-self-in-Some-due_end g c = ready_tallied _ c.observe.new.self (End c.in-Some-due_end.word ∷ []) c.in_ok-observe-in-Some-due_end.ensures.fixed c.in_ok-observe-in-Some-due_end.ensures.counted c.self.invariant
