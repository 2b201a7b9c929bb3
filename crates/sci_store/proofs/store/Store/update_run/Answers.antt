use Rattle.std.proofs.Common.{◌≡◌, ◌≤◌, ◌∙◌, ℕ, List, length, take, All, refl, sym, ap, subst, arith}
use Rattle.sci_bank.specs.declared.runs.Call.{Call}
use Rattle.sci_store.specs.Frame.{Fixed}
use Rattle.sci_store.specs.Store.{Standing}
use Rattle.sci_store.specs.Rows.{ReadyRow, between, active_calls, state_calls_in}
use Rattle.sci_store.specs.Runs.{AreCalledOnce, called_blocks, AreStepped}
use Rattle.sci_store.proofs.Few.{few_calls}
use Rattle.sci_store.proofs.Stepping.{stepped_with_choice}
use Rattle.sci_store.proofs.StateRuns.{run_called_once, may_active, active_stepped, none_stepped, whole_active}
use Rattle.sci_store.proofs.store.Store.update_run.Given.{Over}
use Rattle.sci_store.proofs.store.Store.update_run.Goals as goal
use Rattle.sci_store.proofs.store.Store.update_run.Goals.{After-deref, After-choose_active-count, then-count-gt0, else-count-gt0}

-- the calls that are taken out of the row
calls_are : (g : Over) (c : After-deref g) → between c.deref.result.now c.args.run.now.start c.args.run.now.end ≡ state_calls_in c.args.row.now c.args.run.now
calls_are g c = ap (λ (cs : List Call). between cs c.args.run.now.start c.args.run.now.end) (c.deref.ensures.value ∙ ap (λ (r : ReadyRow). r.state_calls) c.row.view_is)

pub update_alone-requires-clause-calls : goal.update_alone-requires-clause-calls
update_alone-requires-clause-calls g c =
    subst (AreCalledOnce c.args.frame.now) (sym (calls_are g (goal.at.update_alone-requires-clause-calls g c).After-deref))
    (run_called_once c.args.frame.now c.args.row.now c.well_formed-2.ensures c.requires.row c.args.run.now c.requires.run)

pub update_run-requires-clause-calls : goal.update_run-requires-clause-calls
update_run-requires-clause-calls g c =
    let at = (goal.at.update_run-requires-clause-calls g c).After-deref in
    may_active c.args.frame.now c.args.row.now c.well_formed-2.ensures c.requires.row c.args.run.now c.requires.run c.args.self.now c.requires.store c.args.inputs.now c.args.lib.now c.requires.seated
    c.requires.may_step c.if-not-run.false c.blocks-places.result.now c.deref-then-not-run-2.result.now _
    (c.blocks-places.ensures ∙ ap (λ (f : Fixed). f.layout.blocks) c.frame.view_is) (c.deref-then-not-run-2.ensures.value ∙ ap (λ (s : Standing). s.values) c.self.view_is)
    (calls_are g at ∙ sym (whole_active c.args.frame.now c.args.row.now c.well_formed-2.ensures c.requires.row c.args.run.now c.requires.run c.args.self.now c.requires.store c.args.inputs.now c.args.lib.now
    c.requires.seated c.requires.may_step c.if-not-run.false c.requires.begun c.if-not-run-2.true))

pub returns-then-not-run-2 : goal.returns-then-not-run-2
returns-then-not-run-2 g c =
    let at = (goal.at.returns-then-not-run-2 g c).After-deref in
    active_stepped c.args.frame.now c.args.row.now c.well_formed-2.ensures c.requires.row c.args.run.now c.requires.run c.args.self.now c.requires.store c.args.inputs.now c.args.lib.now c.requires.seated
    c.requires.may_step c.if-not-run.false c.blocks-places.result.now c.deref-then-not-run-2.result.now _
    (c.blocks-places.ensures ∙ ap (λ (f : Fixed). f.layout.blocks) c.frame.view_is) (c.deref-then-not-run-2.ensures.value ∙ ap (λ (s : Standing). s.values) c.self.view_is)
    (calls_are g at ∙ sym (whole_active c.args.frame.now c.args.row.now c.well_formed-2.ensures c.requires.row c.args.run.now c.requires.run c.args.self.now c.requires.store c.args.inputs.now c.args.lib.now
    c.requires.seated c.requires.may_step c.if-not-run.false c.requires.begun c.if-not-run-2.true))
    c.update_run.new.self c.update_run.ensures.changed

-- the calls are of blocks that have marks
marked : (f : Fixed) (s : Standing) (calls : List Call) → AreCalledOnce f calls → length s.marks ≡ length f.net.specs → All (λ (c : Call). (1 ≤ c.block) × (c.block ≤ length s.marks)) calls
marked f s calls once long k d l = let block = once.blocks k d l in (block.least, omega (arith, block.most, long))

pub choose_active-count-requires-clause-blocks : goal.choose_active-count-requires-clause-blocks
choose_active-count-requires-clause-blocks g c =
    let at = (goal.at.choose_active-count-requires-clause-blocks g c).After-deref in
    subst (All (λ (d : Call). (1 ≤ d.block) × (d.block ≤ length c.args.self.now.marks))) (sym (calls_are g at))
    (marked c.args.frame.now c.args.self.now (state_calls_in c.args.row.now c.args.run.now)
    (run_called_once c.args.frame.now c.args.row.now c.well_formed-2.ensures c.requires.row c.args.run.now c.requires.run) c.requires.store.marks)

pub choose_active-count-requires-clause-room : goal.choose_active-count-requires-clause-room
choose_active-count-requires-clause-room g c =
    let at = (goal.at.choose_active-count-requires-clause-room g c).After-deref in
    let once = run_called_once c.args.frame.now c.args.row.now c.well_formed-2.ensures c.requires.row c.args.run.now c.requires.run in
    let few = few_calls (length c.args.self.now.marks) (state_calls_in c.args.row.now c.args.run.now) once.once
    (marked c.args.frame.now c.args.self.now (state_calls_in c.args.row.now c.args.run.now) once c.requires.store.marks) in
    let long = ap (λ (cs : List Call). length cs) (calls_are g at) in
    omega (arith, few, long, c.requires.store.marks, c.requires.store.chosen)

-- what was chosen
chosen_are : (g : Over) (c : After-choose_active-count g) (room : List Call) → room ≡ c.choose_active-count.new.self.chosen
    → take c.choose_active-count.result room ≡ active_calls c.args.self.now.marks (state_calls_in c.args.row.now c.args.run.now)
chosen_are g c room e =
    ap (take c.choose_active-count.result) e
    ∙ (c.choose_active-count.ensures.chosen
    ∙ ap (λ (cs : List Call). active_calls c.args.self.now.marks (between cs c.args.run.now.start c.args.run.now.end)) (c.deref.ensures.value ∙ ap (λ (r : ReadyRow). r.state_calls) c.row.view_is))

pub update_run-requires-then-count-gt0-clause-calls : goal.update_run-requires-then-count-gt0-clause-calls
update_run-requires-then-count-gt0-clause-calls g c =
    let at = (goal.at.update_run-requires-then-count-gt0-clause-calls g c).After-choose_active-count in
    may_active c.args.frame.now c.args.row.now c.well_formed-2.ensures c.requires.row c.args.run.now c.requires.run c.args.self.now c.requires.store c.args.inputs.now c.args.lib.now c.requires.seated
    c.requires.may_step c.if-not-run.false c.blocks-places.result.now c.deref-then-count-gt0-2.result.now _
    (c.blocks-places.ensures ∙ ap (λ (f : Fixed). f.layout.blocks) c.frame.view_is)
    (c.deref-then-count-gt0-2.ensures.value ∙ (ap (λ (s : Standing). s.values) c.self-2.view_is ∙ ap (λ (s : Standing). s.values) c.choose_active-count.ensures.rest))
    (chosen_are g at c.deref-then-count-gt0.result.now (c.deref-then-count-gt0.ensures.value ∙ ap (λ (s : Standing). s.chosen) c.self-2.view_is))

pub returns : goal.returns
returns g c =
    let at = (goal.at.returns g c).After-choose_active-count in
    let f = c.args.frame.now in
    let blocks = called_blocks (state_calls_in c.args.row.now c.args.run.now) in
    stepped_with_choice c.args.frame.now (called_blocks (state_calls_in c.args.row.now c.args.run.now)) c.args.self.now c.args.self.now c.choose_active-count.new.self c.args.lib.now c.if-count-gt0.lib
    c.choose_active-count.ensures.rest c.choose_active-count.ensures.long
    (elim c.if-count-gt0.branch [
      | then-count-gt0 w ↦ subst (AreStepped c.args.frame.now (called_blocks (state_calls_in c.args.row.now c.args.run.now)) c.args.self.now c.args.self.now c.args.lib.now) (sym w.lib-is)
          (active_stepped c.args.frame.now c.args.row.now c.well_formed-2.ensures c.requires.row c.args.run.now c.requires.run c.args.self.now c.requires.store c.args.inputs.now c.args.lib.now c.requires.seated
          c.requires.may_step c.if-not-run.false c.blocks-places.result.now w.deref-then-count-gt0-2.result.now _
          (c.blocks-places.ensures ∙ ap (λ (f : Fixed). f.layout.blocks) c.frame.view_is)
          (w.deref-then-count-gt0-2.ensures.value ∙ (ap (λ (s : Standing). s.values) c.self-2.view_is ∙ ap (λ (s : Standing). s.values) c.choose_active-count.ensures.rest))
          (chosen_are g at w.deref-then-count-gt0.result.now (w.deref-then-count-gt0.ensures.value ∙ ap (λ (s : Standing). s.chosen) c.self-2.view_is))
          w.update_run-then-count-gt0.new.self w.update_run-then-count-gt0.ensures.changed)
      | else-count-gt0 w ↦ subst (AreStepped c.args.frame.now (called_blocks (state_calls_in c.args.row.now c.args.run.now)) c.args.self.now c.args.self.now c.args.lib.now) (sym w.lib-is)
          (none_stepped c.args.frame.now c.args.row.now c.well_formed-2.ensures c.requires.row c.args.run.now c.requires.run c.args.self.now c.requires.store c.args.inputs.now c.args.lib.now c.requires.seated
          c.requires.may_step c.if-not-run.false
          (let none : c.choose_active-count.result ≡ 0 = omega (arith, w.if-count-gt0.false) in
          sym (chosen_are g at c.choose_active-count.new.self.chosen refl) ∙ ap (λ (n : ℕ). take n c.choose_active-count.new.self.chosen) none))
    ])
