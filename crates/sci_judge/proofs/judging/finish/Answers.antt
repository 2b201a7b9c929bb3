use Rattle.std.proofs.Common.{◌∙◌, ℕ, List, All, length, ap, sym, subst, arith}
use Rattle.sci_events.specs.Events.{Waiting}
use Rattle.sci_store.specs.Delays.{delays_in}
use Rattle.sci_store.specs.Frame.{Fixed, AreSeated}
use Rattle.sci_store.specs.Rows.{IsReadyRow, KeepsBegun}
use Rattle.sci_store.specs.Runs.{MayStep}
use Rattle.sci_store.proofs.Reacting.{AreKept, kept_room, shown_alike, before_alike}
use Rattle.sci_store.proofs.StateRuns.{begun_behind}
use Rattle.sci_store.specs.Reaction.{Steps}
use Rattle.sci_judge.specs.Programming.{IsDelayed, with_sources}
use Rattle.sci_judge.proofs.Reacting.{programmed_is, may_step_alike}
use Rattle.sci_judge.proofs.judging.finish.Given.{Over}
use Rattle.sci_judge.proofs.judging.finish.Goals as goal
use Rattle.sci_judge.proofs.judging.finish.Goals.{After-program_all}

-- behind the programming
programmed : (g : Over) (c : After-program_all g) → AreKept c.args.kept.now.store c.program_all.new.kept.store
programmed g c = kept_room c.args.kept.now.store c.program_all.new.kept.store c.program_all.ensures.same c.program_all.ensures.room

pub program_all-requires-clause-delayed : goal.program_all-requires-clause-delayed
program_all-requires-clause-delayed g c = subst (All (IsDelayed c.args.kept.now.fixed.net)) (sym c.deref.ensures.value) c.requires.delayed.delayed

pub program_all-requires-clause-values : goal.program_all-requires-clause-values
program_all-requires-clause-values g c = c.requires.may_step.values

pub program_all-requires-clause-few : goal.program_all-requires-clause-few
program_all-requires-clause-few g c =
    let long = ap length c.deref.ensures.value in
    let few = c.requires.delayed.few in
    omega (arith, long, few, c.requires.few)

pub update_all-requires-clause-seated : goal.update_all-requires-clause-seated
update_all-requires-clause-seated g c = subst (λ (x : Fixed). AreSeated x c.args.lib.now) (sym c.program_all.ensures.fixed) c.requires.seated

pub update_all-requires-clause-row : goal.update_all-requires-clause-row
update_all-requires-clause-row g c = subst (λ (x : Fixed). IsReadyRow x c.args.plan.now.row) (sym c.program_all.ensures.fixed) c.requires.row

pub update_all-requires-clause-begun : goal.update_all-requires-clause-begun
update_all-requires-clause-begun g c =
    let kept = programmed g (goal.at.update_all-requires-clause-begun g c).After-program_all in
    subst (λ (x : Fixed). KeepsBegun x c.args.plan.now.row c.program_all.new.kept.store) (sym c.program_all.ensures.fixed)
    (begun_behind c.args.kept.now.fixed c.args.plan.now.row c.args.kept.now.store c.program_all.new.kept.store kept.marks c.requires.begun)

pub update_all-requires-clause-may_step : goal.update_all-requires-clause-may_step
update_all-requires-clause-may_step g c =
    let t = c.program_all.new.kept.store in
    subst (λ (x : Fixed). MayStep x c.args.inputs.now t c.args.lib.now) (sym c.program_all.ensures.fixed)
    (may_step_alike c.args.kept.now.fixed c.args.inputs.now c.args.kept.now.store t _ (programmed g (goal.at.update_all-requires-clause-may_step g c).After-program_all)
    c.requires.may_step)

pub returns-clause-programmed : goal.returns-clause-programmed
returns-clause-programmed g c source y active shown among =
    let f = c.args.kept.now.fixed in
    let s = c.args.kept.now.store in
    let p = c.args.plan.now in
    ap (λ (w : Waiting). w.pending) c.program_all.ensures.programmed
    ∙ (ap (λ (ks : List ℕ). with_sources f.net c.args.date (delays_in f s) ks c.args.events.now.pending) c.deref.ensures.value
    ∙ programmed_is f c.well_formed-2.ensures.frame source s y active shown c.args.date p.row.blocks p.sources.items c.args.events.now.pending c.requires.delayed among)

pub returns-clause-stepped : goal.returns-clause-stepped
returns-clause-stepped g c source m y active is shown among before memory =
    let f = c.args.kept.now.fixed in
    let s = c.args.kept.now.store in
    let t = c.program_all.new.kept.store in
    let kept = programmed g (goal.at.returns-clause-stepped g c).After-program_all in
    let steps = subst (λ (x : Fixed). Steps x c.args.plan.now.row c.program_all.new.kept.store c.update_all.new.self.store c.args.lib.now c.update_all.new.lib)
    c.program_all.ensures.fixed c.update_all.ensures.stepped in
    steps source m y active is (shown_alike f s t kept source y active shown) among (before_alike f s t kept _ m before) memory

pub returns-clause-marks : goal.returns-clause-marks
returns-clause-marks g c =
    let kept = programmed g (goal.at.returns-clause-marks g c).After-program_all in
    (c.update_all.ensures.values.values ∙ kept.values, c.update_all.ensures.values.marks ∙ kept.marks)

pub returns-clause-seated : goal.returns-clause-seated
returns-clause-seated g c = subst (λ (x : Fixed). AreSeated x c.update_all.new.lib) c.program_all.ensures.fixed c.update_all.ensures.seated
