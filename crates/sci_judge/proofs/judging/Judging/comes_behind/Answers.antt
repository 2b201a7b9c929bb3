use Rattle.std.proofs.Common.{◌≡◌, ap, sym, subst, ◌∙◌, arith}
use Rattle.sci_net.specs.declared.Source.{Source}
use Rattle.sci_pending.specs.Pending.{Pending, next}
use Rattle.sci_run.specs.Activity.{halts}
use Rattle.sci_run.specs.Run.{State}
use Rattle.sci_events.specs.Events.{event_of}
use Rattle.sci_store.specs.Blocks.{AreBlocksByNumber}
use Rattle.sci_judge.specs.declared.rows.SourcePlan.{SourcePlan}
use Rattle.sci_judge.specs.Reacting.{AreMarksOf, blocks_at}
use Rattle.sci_judge.proofs.Coming.{halts_by_number, halts_told, halt_next, limit_next, none_next, late_next, fires_next}
use Rattle.sci_judge.proofs.Reacting.{IsPlanned, planned}
use Rattle.sci_judge.proofs.judging.Judging.comes_behind.Goals.{After-index, After-halts}
use Rattle.sci_judge.proofs.judging.Judging.comes_behind.Goals as goal

plan_read : (c : After-index) → IsPlanned c.args.self.now.kept.fixed c.args.self.now.plans.items c.args.source c.index.result.now
plan_read c = planned c.args.self.now.kept.fixed c.args.self.now.plans.items c.requires.sound.plans_are c.args.source c.requires.source c.index.result.now c.index.ensures

pub halts-requires : goal.halts-requires
halts-requires c =
    let r = c.index.result.now.row in
    subst (AreBlocksByNumber c.args.self.now.kept.fixed.net) (sym (c.deref.ensures.value ∙ ap (λ (p : SourcePlan). p.row.halts) c.behind-self.view_is))
    (halts_by_number c.args.self.now.kept.fixed r (plan_read (goal.at.halts-requires c).After-index).ready)

-- whether the run ends, by the marks
told : (c : After-halts) (s : Source) (st : State) → AreMarksOf c.args.self.now.kept.fixed s (blocks_at c.args.self.now.plans.items c.args.source) c.args.self.now.kept.store st
    → halts c.args.self.now.kept.fixed.net st.active ≡ c.halts.result
told c s st marks =
    let f = c.args.self.now.kept.fixed in
    let plans = c.args.self.now.plans.items in
    let p = planned f plans c.requires.sound.plans_are c.args.source c.requires.source c.index.result.now c.index.ensures in
    halts_told f c.index.result.now.row p.ready plans c.args.source p.blocks_are c.deref.result.now (c.deref.ensures.value ∙ ap (λ (p : SourcePlan). p.row.halts) c.behind-self.view_is)
    c.args.self.now.kept.store c.halts.result c.halts.ensures s st marks

pub returns-then-halts : goal.returns-then-halts
returns-then-halts c s st is marks =
    halt_next c.args.self.now.kept.fixed.net c.args.until c.args.left st (told (goal.at.returns-then-halts c).After-halts s st marks ∙ c.if-halts.true)

pub returns-then-left-eq0 : goal.returns-then-left-eq0
returns-then-left-eq0 c s st is marks =
    limit_next c.args.self.now.kept.fixed.net c.args.until c.args.left st (told (goal.at.returns-then-left-eq0 c).After-halts s st marks ∙ c.if-halts.false) c.if-left-eq0.true

pub returns-in-None : goal.returns-in-None
returns-in-None c s st is marks =
    none_next c.args.self.now.kept.fixed.net c.args.until c.args.left st (told (goal.at.returns-in-None c).After-halts s st marks ∙ c.if-halts.false)
    (λ none. omega (arith, none, c.if-left-eq0.false)) (c.in-None.ensures ∙ ap (λ (p : Pending). next p.events) is)

pub returns-then-until-event : goal.returns-then-until-event
returns-then-until-event c s st is marks =
    late_next c.args.self.now.kept.fixed.net c.args.until c.args.left st (told (goal.at.returns-then-until-event c).After-halts s st marks ∙ c.if-halts.false)
    (λ none. omega (arith, none, c.if-left-eq0.false)) (event_of c.in-Some.event) (c.in-Some.ensures ∙ ap (λ (p : Pending). next p.events) is) c.if-until-event.true

pub returns-else-until-event : goal.returns-else-until-event
returns-else-until-event c s st is marks =
    fires_next c.args.self.now.kept.fixed.net c.args.until c.args.left st (told (goal.at.returns-else-until-event c).After-halts s st marks ∙ c.if-halts.false)
    (λ none. omega (arith, none, c.if-left-eq0.false)) (event_of c.in-Some.event) (c.in-Some.ensures ∙ ap (λ (p : Pending). next p.events) is) c.if-until-event.false
