use Rattle.std.proofs.Common.{◌≡◌, All, ap, sym, subst, ◌∙◌}
use Rattle.std.specs.Prelude.{true}
use Rattle.sci_forms.specs.Form.{has_delay}
use Rattle.sci_net.specs.Parts.{spec_of}
use Rattle.sci_store.specs.Blocks.{AreBlocksByNumber}
use Rattle.sci_store.specs.Written.{AreAmong}
use Rattle.sci_store.specs.Chosen.{active_of_kinds}
use Rattle.sci_store.specs.Frame.{Fixed, AreSeated}
use Rattle.sci_store.specs.Rows.{ReadyRow, IsReadyRow, KeepsBegun}
use Rattle.sci_store.specs.Runs.{MayStep}
use Rattle.sci_store.specs.Store.{Standing}
use Rattle.sci_store.proofs.Reacting.{AreKept, kept_room, range_alike, masks_alike, sensed_alike, shown_alike, before_alike}
use Rattle.sci_store.proofs.StateRuns.{begun_behind}
use Rattle.sci_store.specs.Reaction.{Steps}
use Rattle.sci_sim.proofs.Reacting.{delays_by_number, delays_delay, delays_among}
use Rattle.sci_sim.proofs.reaction.finish.Given.{Over}
use Rattle.sci_sim.proofs.reaction.finish.Goals as goal
use Rattle.sci_sim.proofs.reaction.finish.Goals.{After-deref, After-program_all}

-- the blocks with delays
delays_are : (g : Over) (c : After-deref g) → c.deref.result.now ≡ c.args.row.now.delays
delays_are g c = c.deref.ensures.value ∙ ap (λ (r : ReadyRow). r.delays) c.row.view_is

-- behind the programming
programmed : (g : Over) (c : After-program_all g) → AreKept c.args.kept.now.store c.program_all.new.kept.store
programmed g c = kept_room c.args.kept.now.store c.program_all.new.kept.store c.program_all.ensures.same c.program_all.ensures.room

pub program_all-requires-clause-blocks : goal.program_all-requires-clause-blocks
program_all-requires-clause-blocks g c =
    subst (AreBlocksByNumber c.args.kept.now.fixed.net) (sym (delays_are g (goal.at.program_all-requires-clause-blocks g c).After-deref)) (delays_by_number c.args.kept.now.fixed c.args.row.now c.requires.row)

pub program_all-requires-clause-delays : goal.program_all-requires-clause-delays
program_all-requires-clause-delays g c =
    subst (All (λ b. has_delay (spec_of c.args.kept.now.fixed.net b).kind ≡ true)) (sym (delays_are g (goal.at.program_all-requires-clause-delays g c).After-deref))
    (delays_delay c.args.kept.now.fixed c.args.row.now c.requires.row)

pub update_all-requires-clause-seated : goal.update_all-requires-clause-seated
update_all-requires-clause-seated g c = subst (λ (x : Fixed). AreSeated x c.args.lib.now) (sym c.program_all.ensures.fixed) c.requires.seated

pub update_all-requires-clause-row : goal.update_all-requires-clause-row
update_all-requires-clause-row g c = subst (λ (x : Fixed). IsReadyRow x c.args.row.now) (sym c.program_all.ensures.fixed) c.requires.row

pub update_all-requires-clause-begun : goal.update_all-requires-clause-begun
update_all-requires-clause-begun g c =
    let kept = programmed g (goal.at.update_all-requires-clause-begun g c).After-program_all in
    subst (λ (x : Fixed). KeepsBegun x c.args.row.now c.program_all.new.kept.store) (sym c.program_all.ensures.fixed)
    (begun_behind c.args.kept.now.fixed c.args.row.now c.args.kept.now.store c.program_all.new.kept.store kept.marks c.requires.begun)

pub update_all-requires-clause-may_step : goal.update_all-requires-clause-may_step
update_all-requires-clause-may_step g c =
    let kept = programmed g (goal.at.update_all-requires-clause-may_step g c).After-program_all in
    let f = c.args.kept.now.fixed in
    let s = c.args.kept.now.store in
    let t = c.program_all.new.kept.store in
    subst (λ (x : Fixed). MayStep x c.args.inputs.now t c.args.lib.now) (sym c.program_all.ensures.fixed) (record {
      values = range_alike f s t kept c.requires.may_step.values;
      masks = masks_alike f s t kept c.requires.may_step.masks;
      sensed = sensed_alike f s t kept c.args.inputs.now c.requires.may_step.sensed;
      states = c.requires.may_step.states;
    })

pub returns-clause-programmed : goal.returns-clause-programmed
returns-clause-programmed g c source y active shown among offset p keeps =
    c.program_all.ensures.programmed source y active shown
    (subst (AreAmong c.args.kept.now.fixed.net (active_of_kinds c.args.kept.now.fixed.net has_delay active)) (sym (delays_are g (goal.at.returns-clause-programmed g c).After-deref))
    (delays_among c.args.kept.now.fixed c.args.row.now c.requires.row active among)) offset p keeps

pub returns-clause-stepped : goal.returns-clause-stepped
returns-clause-stepped g c source m y active is shown among before memory =
    let kept = programmed g (goal.at.returns-clause-stepped g c).After-program_all in
    let steps = subst (λ (x : Fixed). Steps x c.args.row.now c.program_all.new.kept.store c.update_all.new.self.store c.args.lib.now c.update_all.new.lib)
    c.program_all.ensures.fixed c.update_all.ensures.stepped in
    steps source m y active is (shown_alike c.args.kept.now.fixed c.args.kept.now.store c.program_all.new.kept.store kept source y active shown) among
    (before_alike c.args.kept.now.fixed c.args.kept.now.store c.program_all.new.kept.store kept _ m before) memory

pub returns-clause-values : goal.returns-clause-values
returns-clause-values g c =
    let kept = programmed g (goal.at.returns-clause-values g c).After-program_all in
    let same = c.program_all.ensures.same in
    let stepped = c.update_all.ensures.values in
    record {
      values = stepped.values ∙ kept.values;
      marks = stepped.marks ∙ kept.marks;
      lines = stepped.lines ∙ ap (λ (s : Standing). s.lines) same;
      sum = stepped.sum ∙ ap (λ (s : Standing). s.sum) same;
    }

pub returns-clause-seated : goal.returns-clause-seated
returns-clause-seated g c = subst (λ (x : Fixed). AreSeated x c.update_all.new.lib) c.program_all.ensures.fixed c.update_all.ensures.seated
