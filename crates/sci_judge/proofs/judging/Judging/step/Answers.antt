use Rattle.std.specs.declared.alloc.Global.{Global}
use Rattle.std.proofs.Common.{Vec, ◌≡◌, ◌<◌, ℕ, List, Contains, length, ap, sym, subst, ◌∙◌, refl}
use Rattle.std.specs.Prelude.{Ok, Some, None}
use Rattle.sci_base.specs.declared.observation.Obs.TheVariants.{End}
use Rattle.sci_trace.specs.Lines.{line}
use Rattle.sci_net.specs.Sources.{sources_of, source_of}
use Rattle.sci_events.specs.Events.{Waiting}
use Rattle.sci_store.specs.Blocks.{AreBlocksByNumber}
use Rattle.sci_store.specs.Frame.{Fixed}
use Rattle.sci_judge.specs.declared.rows.SourcePlan.{SourcePlan}
use Rattle.sci_judge.specs.declared.judging.Due.{Due}
use Rattle.sci_judge.specs.Reacting.{decision_of, blocks_at}
use Rattle.sci_judge.proofs.Reacting.{IsPlanned, planned, blocks_by_number, sound_on}
use Rattle.sci_judge.proofs.Sinking.{err_of, if_err, err_writes, ok_writes}
use Rattle.sci_judge.proofs.Stepping.{step_cut, has_led, end_written, ends_step, went_written, fires_step, all_idle, decided}
use Rattle.sci_judge.proofs.judging.Judging.step.Given.{Over}
use Rattle.sci_judge.proofs.judging.Judging.step.Goals as goal
use Rattle.sci_judge.proofs.judging.Judging.step.Goals.{After-index}

pub returns-in_err-react-clause-reacted : goal.returns-in_err-react-clause-reacted
returns-in_err-react-clause-reacted g c st shows =
    let q = c.react.ensures.reacted st shows in (
      q.0,
      q.1,
      step_cut c.args.self.now.kept.fixed.net c.args.until c.args.left q.0 c.react.result c.from_residual.result _ _ c.in_err-react.was (err_of c.from_residual.result c.from_residual.ensures.0).1 q.2,
      if_err c.from_residual.result _ c.from_residual.ensures.0,
    )

pub returns-in_err-observe-in-Over-clause-reacted : goal.returns-in_err-observe-in-Over-clause-reacted
returns-in_err-observe-in-Over-clause-reacted g c st shows =
    let f = c.args.self.now.kept.fixed in
    let s = source_of f.net c.args.firing.source in
    let q = c.in_ok-react.ensures.reacted st shows in
    let led = has_led f s (blocks_at c.args.self.now.plans.items c.args.firing.source) c.react.new.self.kept.store _ c.react.new.self.events.pending q.0 _ q.3 c.if-branch.false in
    let due = decided f c.react.new.self.kept.fixed c.args.self.now.plans c.react.new.self.plans c.args.firing.source s c.args.until c.args.left c.react.new.self.kept.store c.react.new.self.events.pending
    c.comes_behind.result led.after c.react.ensures.same.0 c.react.ensures.same.1 c.comes_behind.ensures led.shows.pending_is led.marks in
    let ends = sym due ∙ ap (λ (d : Due). decision_of d) c.in-Over.is in
    let r = c.from_residual-in_err-observe-in-Over.result in
    let err = err_of r c.from_residual-in_err-observe-in-Over.ensures.0 in (
      q.0,
      q.1,
      end_written f c.args.until c.args.left q.0 led.seen led.after led.is c.in-Over.word ends (Ok c.in_ok-react.field-0) r c.in_ok-react.field-0 refl q.2
          (err_writes (line (End c.in-Over.word)) c.observe.result r _ err.0 c.in_err-observe-in-Over.was err.1 c.observe.ensures.written),
      if_err r _ c.from_residual-in_err-observe-in-Over.ensures.0,
    )

pub returns-in_ok-observe-in-Over-clause-reacted : goal.returns-in_ok-observe-in-Over-clause-reacted
returns-in_ok-observe-in-Over-clause-reacted g c st shows =
    let f = c.args.self.now.kept.fixed in
    let s = source_of f.net c.args.firing.source in
    let q = c.in_ok-react.ensures.reacted st shows in
    let led = has_led f s (blocks_at c.args.self.now.plans.items c.args.firing.source) c.react.new.self.kept.store _ c.react.new.self.events.pending q.0 _ q.3 c.if-branch.false in
    let due = decided f c.react.new.self.kept.fixed c.args.self.now.plans c.react.new.self.plans c.args.firing.source s c.args.until c.args.left c.react.new.self.kept.store c.react.new.self.events.pending
    c.comes_behind.result led.after c.react.ensures.same.0 c.react.ensures.same.1 c.comes_behind.ensures led.shows.pending_is led.marks in
    let ends = sym due ∙ ap (λ (d : Due). decision_of d) c.in-Over.is in (
      q.0,
      q.1,
      end_written f c.args.until c.args.left q.0 led.seen led.after led.is c.in-Over.word ends (Ok c.in_ok-react.field-0) (Ok None) c.in_ok-react.field-0 refl q.2
          (ok_writes (line (End c.in-Over.word)) c.observe.result c.in_ok-observe-in-Over.field-0 None c.in_ok-observe-in-Over.was c.observe.ensures.written),
      ends_step f c.args.until c.args.left q.0 led.seen led.after led.is c.in-Over.word ends c.observe.new.self.store _ c.react.new.self.events.pending,
    )

pub returns-in-Fires-clause-reacted : goal.returns-in-Fires-clause-reacted
returns-in-Fires-clause-reacted g c st shows =
    let f = c.args.self.now.kept.fixed in
    let s = source_of f.net c.args.firing.source in
    let q = c.in_ok-react.ensures.reacted st shows in
    let led = has_led f s (blocks_at c.args.self.now.plans.items c.args.firing.source) c.react.new.self.kept.store _ c.react.new.self.events.pending q.0 _ q.3 c.if-branch.false in
    let due = decided f c.react.new.self.kept.fixed c.args.self.now.plans c.react.new.self.plans c.args.firing.source s c.args.until c.args.left c.react.new.self.kept.store c.react.new.self.events.pending
    c.comes_behind.result led.after c.react.ensures.same.0 c.react.ensures.same.1 c.comes_behind.ensures led.shows.pending_is led.marks in
    let fires = sym due ∙ ap (λ (d : Due). decision_of d) c.in-Fires.is in (
      q.0,
      q.1,
      went_written f c.args.until c.args.left q.0 led.seen led.after led.is c.in-Fires.event fires (Ok c.in_ok-react.field-0) c.in_ok-react.field-0 (Some c.in-Fires.event) refl q.2,
      fires_step f c.args.until c.args.left q.0 led.seen led.after led.is c.in-Fires.event fires c.react.new.self.kept.store c.clear.new.self.store _ c.react.new.self.events c.remove.new.self led.shows
          c.clear.ensures.rest c.remove.ensures,
    )

-- the plan of the source
plan_read : (g : Over) (c : After-index g) → IsPlanned c.react.new.self.kept.fixed c.react.new.self.plans.items c.args.firing.source c.index.result.now
plan_read g c =
    planned c.react.new.self.kept.fixed c.react.new.self.plans.items c.react.ensures.sound.plans_are c.args.firing.source
    (subst (λ (x : Fixed). c.args.firing.source < length (sources_of x.net)) (sym c.react.ensures.same.0) c.requires.source) c.index.result.now c.index.ensures

pub clear-requires : goal.clear-requires
clear-requires g c =
    subst (AreBlocksByNumber c.react.new.self.kept.fixed.net) (sym (c.deref.ensures.value ∙ ap (λ (p : SourcePlan). p.row.blocks) c.behind-self.view_is))
    (blocks_by_number c.react.new.self.kept.fixed c.react.new.self.plans.items c.args.firing.source c.index.result.now (plan_read g (goal.at.clear-requires g c).After-index))

pub returns-in-Fires-clause-cleared : goal.returns-in-Fires-clause-cleared
returns-in-Fires-clause-cleared g c some =
    let p = plan_read g (goal.at.returns-in-Fires-clause-cleared g c).After-index in
    let blocks = c.index.result.now.row.blocks in
    let here : c.deref.result.now ≡ blocks = c.deref.ensures.value ∙ ap (λ (p : SourcePlan). p.row.blocks) c.behind-self.view_is in
    let named : blocks_at c.args.self.now.plans.items c.args.firing.source ≡ blocks =
    ap (λ (ps : Vec SourcePlan Global). blocks_at ps.items c.args.firing.source) (sym c.react.ensures.same.1) ∙ p.blocks_are in
    all_idle c.args.self.now.kept.fixed blocks c.react.new.self.kept.store c.clear.new.self.store
    (λ b h. c.clear.ensures.cleared b (subst (λ (bs : List ℕ). Contains bs b) (sym here) h))
    (λ b out. c.clear.ensures.others b (λ h. out (subst (λ (bs : List ℕ). Contains bs b) here h)))
    (λ b block out. c.react.ensures.marked b block (λ h. out (subst (λ (bs : List ℕ). Contains bs b) named h)))

pub returns-in_err-observe-in-Over-clause-sound : goal.returns-in_err-observe-in-Over-clause-sound
returns-in_err-observe-in-Over-clause-sound g c = sound_on c.react.new.self _ c.observe.ensures.fixed refl refl c.react.ensures.sound

pub returns-in_ok-observe-in-Over-clause-sound : goal.returns-in_ok-observe-in-Over-clause-sound
returns-in_ok-observe-in-Over-clause-sound g c = sound_on c.react.new.self _ c.observe.ensures.fixed refl refl c.react.ensures.sound

pub returns-in-Fires-clause-sound : goal.returns-in-Fires-clause-sound
returns-in-Fires-clause-sound g c = sound_on c.react.new.self _ c.clear.ensures.fixed refl (ap (λ (w : Waiting). w.sources) c.remove.ensures) c.react.ensures.sound
