use Rattle.std.proofs.Common.{◌∙◌, [], ◌∷◌, ap, sym, subst, append-nil}
use Rattle.std.proofs.lemmas.Result.{err_from_is_err_and}
use Rattle.sci_base.specs.declared.observation.Obs.TheVariants.{End}
use Rattle.sci_io.proofs.Advance.{same_text}
use Rattle.sci_trace.specs.Lines.{line, text}
use Rattle.sci_run.specs.Run.{taken}
use Rattle.sci_store.specs.Frame.{Fixed, IsFrame}
use Rattle.sci_store.specs.Written.{tallied}
use Rattle.sci_sim.specs.At.{Running}
use Rattle.sci_sim.proofs.Steps.{at_tallied, tallied_is, ok_as, err_as, ready_kept}
use Rattle.sci_sim.proofs.Runs.{not_over}
use Rattle.sci_sim.proofs.Resting.{rest_begins, fires_now, goes_further, finished_by, all_tallied, rest_cut, rest_written, rest_is, due_rest, due_only, due_at_once, ready_tallied}
use Rattle.sci_sim.proofs.ready.Ready.run_on.Goals as goal

pub returns-in_err-observe-clause-written : goal.returns-in_err-observe-clause-written
returns-in_err-observe-clause-written g c st os at rest =
    let word = c.in-Some.word in
    let err = err_from_is_err_and c.from_residual.result c.from_residual.ensures.1 in
    let frame = subst (λ (x : Running). IsFrame x.fixed) c.self.view_is c.well_formed-2.ensures.frame in
    same_text (sym (append-nil (line (End word))) ∙ ap text (due_only c.args.ins.now c.args.until c.args.limit st c.args.self.now word (c.in-Some.ensures _ st at) frame os rest))
    (err_as c.observe.result c.from_residual.result _ err.0 c.in_err-observe.was err.1 c.observe.ensures.written)

pub invariant_of-self : goal.invariant_of-self
invariant_of-self g c = ready_kept _ c.observe.new.self c.in_err-observe.ensures.fixed c.in_err-observe.ensures.kept c.self.invariant

pub invariant_of-self-in-Some : goal.invariant_of-self-in-Some
invariant_of-self-in-Some g c = ready_tallied _ c.observe.new.self (End c.in-Some.word ∷ []) c.in_ok-observe.ensures.fixed c.in_ok-observe.ensures.counted c.self.invariant

pub returns-in-Some-clause-written : goal.returns-in-Some-clause-written
returns-in-Some-clause-written g c st os at rest =
    let word = c.in-Some.word in
    let frame = subst (λ (x : Running). IsFrame x.fixed) c.self.view_is c.well_formed-2.ensures.frame in
    same_text (sym (append-nil (line (End word))) ∙ ap text (due_only c.args.ins.now c.args.until c.args.limit st c.args.self.now word (c.in-Some.ensures _ st at) frame os rest))
    (ok_as _ _ c.in_ok-observe.ensures.written)

pub returns-in-Some-clause-finished : goal.returns-in-Some-clause-finished
returns-in-Some-clause-finished g c st at =
    let word = c.in-Some.word in
    let view = c.self.view_is in
    let due = c.in-Some.ensures _ st at in
    let fixed = c.in_ok-observe.ensures.fixed in
    let counted = c.in_ok-observe.ensures.counted in
    let last = at_tallied c.args.self.now _ _ st (End word ∷ []) c.observe.new.self view at fixed counted in (
      End word ∷ [],
      due_rest c.args.ins.now c.args.until c.args.limit st c.args.self.now word due,
      due_at_once c.args.ins.now c.args.until c.args.limit st c.args.self.now word due _ _ (fixed ∙ ap (λ (x : Running). x.fixed) view) last,
      tallied_is c.args.self.now.store c.observe.new.self.store (End word ∷ []) (counted ∙ ap (λ (x : Running). tallied x.store (End word ∷ [])) view),
    )

pub loop-reaction-init : goal.loop-reaction-init
loop-reaction-init g c first at =
    rest_begins c.args.ins.now c.args.until c.args.limit first c.args.self.now _ _ c.requires.started at (c.in_default.ensures _ first at)

pub step-requires-clause-before : goal.step-requires-clause-before
step-requires-clause-before g c =
    let w = c.loop-reaction.invariant c.requires.at.0 c.requires.at.1 in
    (w.st, taken w.st w.e, w.e.date, w.e.source, w.at, fires_now c.args.ins.now c.args.until c.args.limit c.requires.at.0 c.args.self.now c.loop-reaction.self _ _ _ c.loop-reaction._reaction w)

pub returns-in_err-end-clause-written : goal.returns-in_err-end-clause-written
returns-in_err-end-clause-written g c st os at rest =
    let w = c.loop-reaction.invariant st at in
    let s = c.step.ensures.reacted w.st (taken w.st w.e) w.e.date w.e.source w.at (fires_now c.args.ins.now c.args.until c.args.limit st c.args.self.now c.loop-reaction.self _ _ _ c.loop-reaction._reaction w) in
    let err = err_from_is_err_and c.from_residual-in_err-end.result c.from_residual-in_err-end.ensures.1 in
    let frame = subst (λ (x : Running). IsFrame x.fixed) c.self.view_is c.well_formed-2.ensures.frame in
    rest_cut c.args.ins.now c.args.until c.args.limit st c.args.self.now c.loop-reaction.self _ _ _ c.loop-reaction._reaction w s.0 s.1 frame
    c.step.result c.from_residual-in_err-end.result _ err.0 _ os c.in_err-end.was err.1 rest s.2

pub returns-in-Over-clause-written : goal.returns-in-Over-clause-written
returns-in-Over-clause-written g c st os at rest =
    let w = c.loop-reaction.invariant st at in
    let s = c.in_ok-end.ensures.reacted w.st (taken w.st w.e) w.e.date w.e.source w.at (fires_now c.args.ins.now c.args.until c.args.limit st c.args.self.now c.loop-reaction.self _ _ _ c.loop-reaction._reaction w) in
    let f = finished_by c.args.ins.now c.args.until c.args.limit st c.args.self.now c.loop-reaction.self _ _ _ c.loop-reaction._reaction w s.0 s.1 c.step.new.self _
    c.step.ensures.net s.3.1 _ c.in-Over.end c.in-Over.is s.3.0 in
    let run = rest_is c.args.ins.now c.args.until c.args.limit st c.args.self.now.fixed.net c.step.new.self _ _ c.in-Over.end (ap (λ (x : Fixed). x.net) (c.step.ensures.net ∙ w.fixed)) f in
    let frame = subst (λ (x : Running). IsFrame x.fixed) c.self.view_is c.well_formed-2.ensures.frame in
    rest_written c.args.ins.now c.args.until c.args.limit st c.args.self.now c.loop-reaction.self _ _ _ c.loop-reaction._reaction w s.0 s.1 frame _ _ _ os run rest s.2

pub returns-in-Over-clause-finished : goal.returns-in-Over-clause-finished
returns-in-Over-clause-finished g c st at =
    let w = c.loop-reaction.invariant st at in
    let s = c.in_ok-end.ensures.reacted w.st (taken w.st w.e) w.e.date w.e.source w.at (fires_now c.args.ins.now c.args.until c.args.limit st c.args.self.now c.loop-reaction.self _ _ _ c.loop-reaction._reaction w) in
    let f = finished_by c.args.ins.now c.args.until c.args.limit st c.args.self.now c.loop-reaction.self _ _ _ c.loop-reaction._reaction w s.0 s.1 c.step.new.self _
    c.step.ensures.net s.3.1 _ c.in-Over.end c.in-Over.is s.3.0 in (
      _,
      rest_is c.args.ins.now c.args.until c.args.limit st c.args.self.now.fixed.net c.step.new.self _ _ c.in-Over.end (ap (λ (x : Fixed). x.net) (c.step.ensures.net ∙ w.fixed)) f,
      f,
      all_tallied c.args.ins.now c.args.until c.args.limit st c.args.self.now c.loop-reaction.self _ _ _ c.loop-reaction._reaction w s.0 s.1 c.step.new.self s.3.1,
    )

pub loop-reaction-preserved : goal.loop-reaction-preserved
loop-reaction-preserved g c first at =
    let w = c.loop-reaction.invariant first at in
    let s = c.in_ok-end.ensures.reacted w.st (taken w.st w.e) w.e.date w.e.source w.at (fires_now c.args.ins.now c.args.until c.args.limit first c.args.self.now c.loop-reaction.self _ _ _ c.loop-reaction._reaction w) in
    goes_further c.args.ins.now c.args.until c.args.limit first c.args.self.now c.loop-reaction.self _ _ _ c.loop-reaction._reaction w s.0 s.1 c.step.new.self _
    c.step.ensures.net s.3.1 _ _ s.2 _ (not_over _ c.in_default-2.not-Over) s.3.0 c.step.ensures.offset c.step.ensures.started
