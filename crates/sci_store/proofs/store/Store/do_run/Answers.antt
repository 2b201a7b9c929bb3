use Rattle.std.proofs.Common.{◌≡◌, ◌∙◌, ◌++◌, List, All, None, Some, length, take, drop, ap, sym, subst}
use Rattle.sci_bank.specs.declared.runs.Call.{Call}
use Rattle.sci_store.specs.declared.row.Run.{Run}
use Rattle.sci_store.specs.Frame.{Fixed}
use Rattle.sci_store.specs.Store.{Standing}
use Rattle.sci_store.specs.Rows.{ReadyRow, IsAlone, IsMarked, between, run_calls}
use Rattle.sci_store.specs.Runs.{IsCallIn, AreApart, AreOfKind, IsRunDone}
use Rattle.sci_store.specs.contracts.store.Store.{the_view}
use Rattle.sci_store.proofs.Calling.{run_call_in, run_apart, run_kind}
use Rattle.sci_store.proofs.Evaluating.{written_back}
use Rattle.sci_store.proofs.Doing.{whole_are, none_alone, may_call, called_done, called_sound, called_in_range}
use Rattle.sci_store.proofs.store.Store.do_run.Given.{Over}
use Rattle.sci_store.proofs.store.Store.do_run.Goals as goal
use Rattle.sci_store.proofs.store.Store.do_run.Goals.{After-deref, After-deref_mut, After-out_run}

-- the calls that are handed on are those that the run makes
calls_are : (g : Over) (c : After-deref g) → between c.deref.result.now c.args.run.now.start c.args.run.now.end ≡ run_calls c.args.row.now c.args.run.now c.args.self.now.marks
calls_are g c =
    ap (λ (cs : List Call). between cs c.args.run.now.start c.args.run.now.end) (c.deref.ensures.value ∙ ap (λ (r : ReadyRow). r.calls) c.row.view_is)
    ∙ whole_are c.args.frame.now c.well_formed-2.ensures c.requires.row.0 c.args.row.now c.requires.row.1 c.args.run.now c.requires.run c.args.self.now.marks c.if-run.false

pub do_alone-requires-clause-calls : goal.do_alone-requires-clause-calls
do_alone-requires-clause-calls g c =
    subst (All (IsCallIn c.args.frame.now)) (sym (calls_are g (goal.at.do_alone-requires-clause-calls g c).After-deref))
    (run_call_in c.args.frame.now c.well_formed-2.ensures c.requires.row.0 c.args.row.now c.requires.row.1 c.args.run.now c.requires.run c.args.self.now.marks)

pub do_alone-requires-clause-apart : goal.do_alone-requires-clause-apart
do_alone-requires-clause-apart g c =
    subst (AreApart c.args.frame.now) (sym (calls_are g (goal.at.do_alone-requires-clause-apart g c).After-deref))
    (run_apart c.args.frame.now c.well_formed-2.ensures c.requires.row.0 c.args.row.now c.requires.row.1 c.args.run.now c.requires.run c.args.self.now.marks)

pub returns-then-not-run-clause-done : goal.returns-then-not-run-clause-done
returns-then-not-run-clause-done g c =
    let calls = calls_are g (goal.at.returns-then-not-run-clause-done g c).After-deref in
    subst (λ (cs : List Call). IsRunDone c.args.frame.now c.args.inputs.now c.args.run.now.kind cs c.args.self.now c.do_alone.new.self c.args.lib.now c.do_alone.new.lib c.do_alone.result) calls
    (c.do_alone.ensures.done c.args.run.now.kind
    (subst (AreOfKind c.args.frame.now c.args.run.now.kind) (sym calls)
    (run_kind c.args.frame.now c.well_formed-2.ensures c.requires.row.0 c.args.row.now c.requires.row.1 c.args.run.now c.requires.run c.args.self.now.marks)))

-- what the calls of the run are, where they are made together
module _ (g : Over) (c : After-deref_mut g) where
  abbrev row : ReadyRow
  row = c.args.row.now

  abbrev run : Run
  run = c.args.run.now

  abbrev s : Standing
  s = c.args.self.now

  abbrev calls : List Call
  calls = run_calls c.args.row.now c.args.run.now c.args.self.now.marks

  in_net : All (IsCallIn c.args.frame.now) calls
  in_net = run_call_in c.args.frame.now c.well_formed-2.ensures c.requires.row.0 row c.requires.row.1 run c.requires.run s.marks

  of_kind : AreOfKind c.args.frame.now run.kind calls
  of_kind = run_kind c.args.frame.now c.well_formed-2.ensures c.requires.row.0 row c.requires.row.1 run c.requires.run s.marks

  together : All (λ (x : Call). IsAlone c.args.frame.now x.block → ⊥) calls
  together = none_alone c.args.frame.now c.well_formed-2.ensures c.requires.row.0 row c.requires.row.1 run c.requires.run s.marks c.if-not-run.false

  apart : AreApart c.args.frame.now calls
  apart = run_apart c.args.frame.now c.well_formed-2.ensures c.requires.row.0 row c.requires.row.1 run c.requires.run s.marks

  places_are : c.blocks-places.result.now ≡ c.args.frame.now.layout.blocks
  places_are = c.blocks-places.ensures ∙ ap (λ (f : Fixed). f.layout.blocks) c.frame.view_is

  values_are : c.deref_mut.result.now ≡ s.values
  values_are = c.deref_mut.ensures.value ∙ ap (λ (x : Standing). x.values) c.self.view_is

  made : between c.deref.result.now run.start run.end ≡ calls
  made =
      ap (λ (cs : List Call). between cs c.args.run.now.start c.args.run.now.end) (c.deref.ensures.value ∙ ap (λ (r : ReadyRow). r.calls) c.row.view_is)
      ∙ whole_are c.args.frame.now c.well_formed-2.ensures c.requires.row.0 row c.requires.row.1 run c.requires.run s.marks c.if-run.false

  marked : All (IsMarked s.marks) calls
  marked =
      subst (All (IsMarked s.marks)) (whole_are c.args.frame.now c.well_formed-2.ensures c.requires.row.0 row c.requires.row.1 run c.requires.run s.marks c.if-run.false)
      (c.requires.begun c.if-run.false)

back : (g : Over) (c : After-out_run g) → take c.self.inside.values.len (c.out_run.new.values ++ drop (length c.out_run.new.values) c.self.inside.values.items) ≡ c.out_run.new.values
back g c =
    written_back c.self.inside.values.items c.out_run.new.values c.self.inside.values.len c.self.inside.values.ok.0 (c.out_run.auto.values ∙ ap length c.deref_mut.ensures.value)

pub out_run-requires-clause-calls : goal.out_run-requires-clause-calls
out_run-requires-clause-calls g c =
    let at = (goal.at.out_run-requires-clause-calls g c).After-deref_mut in
    may_call c.args.frame.now c.well_formed-2.ensures c.args.lib.now c.requires.seated c.args.run.now.kind (calls g at) (in_net g at) (of_kind g at) (together g at) (apart g at)
    c.args.self.now c.requires.store c.requires.values c.blocks-places.result.now c.deref_mut.result.now _ (places_are g at) (values_are g at) (made g at)

pub returns-in_err-out_run-clause-done : goal.returns-in_err-out_run-clause-done
returns-in_err-out_run-clause-done g c =
    let at = (goal.at.returns-in_err-out_run-clause-done g c).After-out_run in
    let at_mut = (goal.at.returns-in_err-out_run-clause-done g c).After-deref_mut in
    called_done c.args.frame.now c.well_formed-2.ensures c.args.lib.now c.requires.seated c.args.run.now.kind (calls g at_mut) (in_net g at_mut) (of_kind g at_mut) (together g at_mut) (apart g at_mut)
    c.args.self.now c.requires.store c.requires.values c.blocks-places.result.now c.deref_mut.result.now _ (places_are g at_mut) (values_are g at_mut) (made g at_mut)
    (the_view c.self.inside) c.self.view_is _ c.out_run.new.values (back g at) c.out_run.ensures.in_range c.args.inputs.now c.out_run.new.self None (marked g at_mut) c.out_run.ensures.changed
    _ (sym c.from_residual.ensures) c.in_err-out_run.ensures.ended

pub returns-in_err-out_run-clause-sound : goal.returns-in_err-out_run-clause-sound
returns-in_err-out_run-clause-sound g c =
    let at = (goal.at.returns-in_err-out_run-clause-sound g c).After-out_run in
    let at_mut = (goal.at.returns-in_err-out_run-clause-sound g c).After-deref_mut in
    called_sound c.args.frame.now c.well_formed-2.ensures c.args.lib.now c.requires.seated c.args.run.now.kind (calls g at_mut) (in_net g at_mut) (of_kind g at_mut) (together g at_mut) (apart g at_mut)
    c.args.self.now c.requires.store c.requires.values c.blocks-places.result.now c.deref_mut.result.now _ (places_are g at_mut) (values_are g at_mut) (made g at_mut)
    (the_view c.self.inside) c.self.view_is _ c.out_run.new.values (back g at) c.out_run.ensures.in_range c.args.inputs.now c.out_run.new.self None (marked g at_mut) c.out_run.ensures.changed

pub returns-in_err-out_run-clause-values : goal.returns-in_err-out_run-clause-values
returns-in_err-out_run-clause-values g c =
    let at = (goal.at.returns-in_err-out_run-clause-values g c).After-out_run in
    let at_mut = (goal.at.returns-in_err-out_run-clause-values g c).After-deref_mut in
    called_in_range c.args.frame.now c.well_formed-2.ensures c.args.lib.now c.requires.seated c.args.run.now.kind (calls g at_mut) (in_net g at_mut) (of_kind g at_mut) (together g at_mut) (apart g at_mut)
    c.args.self.now c.requires.store c.requires.values c.blocks-places.result.now c.deref_mut.result.now _ (places_are g at_mut) (values_are g at_mut) (made g at_mut)
    (the_view c.self.inside) c.self.view_is _ c.out_run.new.values (back g at) c.out_run.ensures.in_range

pub returns-clause-done : goal.returns-clause-done
returns-clause-done g c =
    let at = (goal.at.returns-clause-done g c).After-out_run in
    let at_mut = (goal.at.returns-clause-done g c).After-deref_mut in
    called_done c.args.frame.now c.well_formed-2.ensures c.args.lib.now c.requires.seated c.args.run.now.kind (calls g at_mut) (in_net g at_mut) (of_kind g at_mut) (together g at_mut) (apart g at_mut)
    c.args.self.now c.requires.store c.requires.values c.blocks-places.result.now c.deref_mut.result.now _ (places_are g at_mut) (values_are g at_mut) (made g at_mut)
    (the_view c.self.inside) c.self.view_is _ c.out_run.new.values (back g at) c.out_run.ensures.in_range c.args.inputs.now c.out_run.new.self (Some c.in_ok-out_run.field-0) (marked g at_mut)
    c.out_run.ensures.changed _ (sym c.stop_at.ensures) c.in_ok-out_run.ensures.ended

pub returns-clause-sound : goal.returns-clause-sound
returns-clause-sound g c =
    let at = (goal.at.returns-clause-sound g c).After-out_run in
    let at_mut = (goal.at.returns-clause-sound g c).After-deref_mut in
    called_sound c.args.frame.now c.well_formed-2.ensures c.args.lib.now c.requires.seated c.args.run.now.kind (calls g at_mut) (in_net g at_mut) (of_kind g at_mut) (together g at_mut) (apart g at_mut)
    c.args.self.now c.requires.store c.requires.values c.blocks-places.result.now c.deref_mut.result.now _ (places_are g at_mut) (values_are g at_mut) (made g at_mut)
    (the_view c.self.inside) c.self.view_is _ c.out_run.new.values (back g at) c.out_run.ensures.in_range c.args.inputs.now c.out_run.new.self None (marked g at_mut) c.out_run.ensures.changed

pub returns-clause-values : goal.returns-clause-values
returns-clause-values g c =
    let at = (goal.at.returns-clause-values g c).After-out_run in
    let at_mut = (goal.at.returns-clause-values g c).After-deref_mut in
    called_in_range c.args.frame.now c.well_formed-2.ensures c.args.lib.now c.requires.seated c.args.run.now.kind (calls g at_mut) (in_net g at_mut) (of_kind g at_mut) (together g at_mut) (apart g at_mut)
    c.args.self.now c.requires.store c.requires.values c.blocks-places.result.now c.deref_mut.result.now _ (places_are g at_mut) (values_are g at_mut) (made g at_mut)
    (the_view c.self.inside) c.self.view_is _ c.out_run.new.values (back g at) c.out_run.ensures.in_range
