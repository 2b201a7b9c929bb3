use Rattle.std.proofs.Common.{◌≡◌, ◌≤◌, ◌<◌, ◌∙◌, ◌+◌, ◌-◌, ◌++◌, ℕ, List, Option, None, Some, All, Contains, length, map, take, drop, ap, sym, subst, arith}
use Rattle.sci_base.specs.declared.observation.StopWord.{StopWord}
use Rattle.sci_reaction.specs.declared.entry.Entry.{Entry}
use Rattle.sci_reaction.specs.Equations.{AreInRange}
use Rattle.sci_reaction.specs.Kept.{entry_of, entries_of}
use Rattle.sci_reaction.specs.Schedule.{Guard}
use Rattle.sci_places.specs.Flat.{values_at}
use Rattle.sci_bank.specs.declared.runs.Call.{Call}
use Rattle.sci_bank.specs.Bank.{Meaning}
use Rattle.sci_store.specs.declared.row.Run.{Run}
use Rattle.sci_store.specs.Entries.{HasMark}
use Rattle.sci_store.specs.Frame.{Fixed}
use Rattle.sci_store.specs.Store.{Standing, IsStore}
use Rattle.sci_store.specs.Rows.{ReadyRow, IsAlone, IsMarked, between, calls_in, chosen_calls}
use Rattle.sci_store.specs.Runs.{IsCallIn, AreApart, AreOfKind, IsRunDone}
use Rattle.sci_store.specs.contracts.store.Store.{the_view}
use Rattle.sci_store.proofs.Calling.{calls_blocks, guards_elsewhere, guards_marked}
use Rattle.sci_store.proofs.Evaluating.{written_back}
use Rattle.sci_store.proofs.Doing.{few_here, chosen_from, calls_long, entries_within, run_some, few_in, few_apart, few_kind, few_together, mid_store, mid_in_range, mid_marked, guarded_done, may_call, called_done, called_sound, called_in_range}
use Rattle.sci_store.proofs.store.Store.do_guarded.Given.{Over}
use Rattle.sci_store.proofs.store.Store.do_guarded.Goals as goal
use Rattle.sci_store.proofs.store.Store.do_guarded.Goals.{After-deref, After-deref-2, After-choose-count, After-deref_mut, After-out_run}

calls_are : (g : Over) (c : After-deref g) → between c.deref.result.now c.args.run.now.start c.args.run.now.end ≡ calls_in c.args.row.now c.args.run.now
calls_are g c = ap (λ (cs : List Call). between cs c.args.run.now.start c.args.run.now.end) (c.deref.ensures.value ∙ ap (λ (r : ReadyRow). r.calls) c.row.view_is)

chosen : (g : Over) (c : After-choose-count g) → take c.choose-count.result c.choose-count.new.self.chosen
    ≡ chosen_calls c.args.self.now.marks (calls_in c.args.row.now c.args.run.now)
    (entries_of (between c.args.row.now.guarded c.args.run.now.entries (c.args.run.now.entries + (c.args.run.now.end - c.args.run.now.start))))
chosen g c =
    chosen_from c.args.frame.now c.well_formed-2.ensures c.requires.row.0 c.args.row.now c.requires.row.1 c.args.run.now c.requires.run c.args.self.now.marks c.deref.result.now c.deref-2.result.now _
    (c.deref.ensures.value ∙ ap (λ (r : ReadyRow). r.calls) c.row.view_is) (c.deref-2.ensures.value ∙ ap (λ (r : ReadyRow). r.guarded) c.row.view_is) c.choose-count.ensures.chosen

-- the entries of the run lie in the row
module _ (g : Over) (c : After-deref-2 g) where
  calls_here : between c.deref.result.now c.args.run.now.start c.args.run.now.end ≡ calls_in c.args.row.now c.args.run.now
  calls_here = ap (λ (cs : List Call). between cs c.args.run.now.start c.args.run.now.end) (c.deref.ensures.value ∙ ap (λ (r : ReadyRow). r.calls) c.row.view_is)

  long_here : length (between c.deref.result.now c.args.run.now.start c.args.run.now.end) ≡ c.args.run.now.end - c.args.run.now.start
  long_here = ap length calls_here ∙ calls_long c.args.frame.now c.well_formed-2.ensures c.requires.row.0 c.args.row.now c.requires.row.1 c.args.run.now c.requires.run

  guarded_are : c.deref-2.result.now ≡ c.args.row.now.guarded
  guarded_are = c.deref-2.ensures.value ∙ ap (λ (r : ReadyRow). r.guarded) c.row.view_is

  within : c.args.run.now.entries + length (between c.deref.result.now c.args.run.now.start c.args.run.now.end) ≤ length c.deref-2.result.now
  within =
      let a = entries_within c.args.frame.now c.well_formed-2.ensures c.requires.row.0 c.args.row.now c.requires.row.1 c.args.run.now c.requires.run c.requires.guarded in
      let b = long_here in
      let d = ap length guarded_are in
      omega (arith, a, b, d)

  some : c.args.run.now.entries < length c.deref-2.result.now
  some =
      let a = within in
      let b = long_here in
      let d = run_some c.args.frame.now c.well_formed-2.ensures c.requires.row.0 c.args.row.now c.requires.row.1 c.args.run.now c.requires.run in
      omega (arith, a, b, d)

  entries_are : between c.deref-2.result.now c.args.run.now.entries (c.args.run.now.entries + length (between c.deref.result.now c.args.run.now.start c.args.run.now.end))
      ≡ between c.args.row.now.guarded c.args.run.now.entries (c.args.run.now.entries + (c.args.run.now.end - c.args.run.now.start))
  entries_are =
      ap (λ (n : ℕ). between c.deref-2.result.now c.args.run.now.entries (c.args.run.now.entries + n)) long_here
      ∙ ap (λ (es : List Entry). between es c.args.run.now.entries (c.args.run.now.entries + (c.args.run.now.end - c.args.run.now.start))) guarded_are

pub overflow_add-run : goal.overflow_add-run
overflow_add-run g c =
    let a = within g (goal.at.overflow_add-run g c).After-deref-2 in
    omega (arith, a)

pub offset_bounds-deref-run-2 : goal.offset_bounds-deref-run-2
offset_bounds-deref-run-2 g c =
    let a = some g (goal.at.offset_bounds-deref-run-2 g c).After-deref-2 in
    omega (arith, a)

pub slice_bounds-choose-end : goal.slice_bounds-choose-end
slice_bounds-choose-end g c = within g (goal.at.slice_bounds-choose-end g c).After-deref-2

pub choose-count-requires-clause-blocks : goal.choose-count-requires-clause-blocks
choose-count-requires-clause-blocks g c =
    subst (All (λ (x : Call). (1 ≤ x.block) × (x.block ≤ length c.args.self.now.marks))) (sym (calls_are g (goal.at.choose-count-requires-clause-blocks g c).After-deref))
    (calls_blocks c.args.frame.now c.well_formed-2.ensures c.requires.row.0 c.args.row.now c.requires.row.1 c.args.run.now c.requires.run c.args.self.now c.requires.store)

pub choose-count-requires-clause-apart : goal.choose-count-requires-clause-apart
choose-count-requires-clause-apart g c =
    let at = (goal.at.choose-count-requires-clause-apart g c).After-deref-2 in
    let elsewhere = guards_elsewhere c.args.frame.now c.well_formed-2.ensures c.requires.row.0 c.args.row.now c.requires.row.1 c.args.run.now c.requires.run c.requires.guarded in
    subst (λ (es : List Entry).
    All (λ (e : Entry). All (λ (x : Guard). Contains (map (λ (d : Call). d.block) (between c.deref.result.now c.args.run.now.start c.args.run.now.end)) x.block → ⊥) (entry_of e).guards) es)
    (sym (entries_are g at))
    (subst (λ (cs : List Call).
    All (λ (e : Entry). All (λ (x : Guard). Contains (map (λ (d : Call). d.block) cs) x.block → ⊥) (entry_of e).guards)
    (between c.args.row.now.guarded c.args.run.now.entries (c.args.run.now.entries + (c.args.run.now.end - c.args.run.now.start))))
    (sym (calls_here g at)) elsewhere)

pub choose-count-requires-clause-guards : goal.choose-count-requires-clause-guards
choose-count-requires-clause-guards g c =
    subst (λ (es : List Entry). All (λ (e : Entry). All (HasMark c.args.self.now.marks) (entry_of e).guards) es)
    (sym (entries_are g (goal.at.choose-count-requires-clause-guards g c).After-deref-2))
    (guards_marked c.args.frame.now c.well_formed-2.ensures c.requires.row.0 c.args.row.now c.requires.row.1 c.args.run.now c.requires.run c.requires.guarded c.args.self.now c.requires.store)

pub choose-count-requires-clause-room : goal.choose-count-requires-clause-room
choose-count-requires-clause-room g c =
    subst (λ (cs : List Call). length cs ≤ length c.args.self.now.chosen) (sym (calls_are g (goal.at.choose-count-requires-clause-room g c).After-deref))
    (few_here c.args.frame.now c.well_formed-2.ensures c.requires.row.0 c.args.row.now c.requires.row.1 c.args.run.now c.requires.run c.args.self.now c.requires.store)

pub do_chosen_alone-requires-clause-store : goal.do_chosen_alone-requires-clause-store
do_chosen_alone-requires-clause-store g c =
    mid_store c.args.frame.now c.well_formed-2.ensures c.requires.row.0 c.args.row.now c.requires.row.1 c.args.run.now c.requires.run c.requires.guarded c.args.self.now c.choose-count.new.self
    c.requires.store c.choose-count.result c.choose-count.ensures.rest c.choose-count.ensures.long c.choose-count.ensures.marks
    (chosen g (goal.at.do_chosen_alone-requires-clause-store g c).After-choose-count)

pub do_chosen_alone-requires-clause-calls : goal.do_chosen_alone-requires-clause-calls
do_chosen_alone-requires-clause-calls g c =
    few_in c.args.frame.now c.well_formed-2.ensures c.requires.row.0 c.args.row.now c.requires.row.1 c.args.run.now c.requires.run c.requires.guarded c.args.self.now c.choose-count.new.self
    c.requires.store c.choose-count.result c.choose-count.ensures.rest c.choose-count.ensures.long c.choose-count.ensures.marks
    (chosen g (goal.at.do_chosen_alone-requires-clause-calls g c).After-choose-count)

pub do_chosen_alone-requires-clause-apart : goal.do_chosen_alone-requires-clause-apart
do_chosen_alone-requires-clause-apart g c =
    few_apart c.args.frame.now c.well_formed-2.ensures c.requires.row.0 c.args.row.now c.requires.row.1 c.args.run.now c.requires.run c.requires.guarded c.args.self.now c.choose-count.new.self
    c.requires.store c.choose-count.result c.choose-count.ensures.rest c.choose-count.ensures.long c.choose-count.ensures.marks
    (chosen g (goal.at.do_chosen_alone-requires-clause-apart g c).After-choose-count)

pub returns-then-not-run-clause-done : goal.returns-then-not-run-clause-done
returns-then-not-run-clause-done g c =
    let few = chosen g (goal.at.returns-then-not-run-clause-done g c).After-choose-count in
    guarded_done c.args.frame.now c.well_formed-2.ensures c.requires.row.0 c.args.row.now c.requires.row.1 c.args.run.now c.requires.run c.requires.guarded c.args.self.now c.choose-count.new.self
    c.requires.store c.choose-count.result c.choose-count.ensures.rest c.choose-count.ensures.long c.choose-count.ensures.marks few c.args.inputs.now c.do_chosen_alone.new.self c.args.lib.now
    c.do_chosen_alone.new.lib c.do_chosen_alone.result
    (c.do_chosen_alone.ensures.done c.args.run.now.kind
    (few_kind c.args.frame.now c.well_formed-2.ensures c.requires.row.0 c.args.row.now c.requires.row.1 c.args.run.now c.requires.run c.requires.guarded c.args.self.now c.choose-count.new.self
    c.requires.store c.choose-count.result c.choose-count.ensures.rest c.choose-count.ensures.long c.choose-count.ensures.marks few))

-- what the chosen calls are, where they are made together
module _ (g : Over) (c : After-deref_mut g) where
  abbrev run : Run
  run = c.args.run.now

  abbrev mid : Standing
  mid = c.choose-count.new.self

  abbrev few : List Call
  few = take c.choose-count.result c.choose-count.new.self.chosen

  chosen_here : take c.choose-count.result c.choose-count.new.self.chosen
      ≡ chosen_calls c.args.self.now.marks (calls_in c.args.row.now c.args.run.now)
      (entries_of (between c.args.row.now.guarded c.args.run.now.entries (c.args.run.now.entries + (c.args.run.now.end - c.args.run.now.start))))
  chosen_here =
      chosen_from c.args.frame.now c.well_formed-2.ensures c.requires.row.0 c.args.row.now c.requires.row.1 c.args.run.now c.requires.run c.args.self.now.marks c.deref.result.now c.deref-2.result.now _
      (c.deref.ensures.value ∙ ap (λ (r : ReadyRow). r.calls) c.row.view_is) (c.deref-2.ensures.value ∙ ap (λ (r : ReadyRow). r.guarded) c.row.view_is) c.choose-count.ensures.chosen

  few_called : All (IsCallIn c.args.frame.now) few
  few_called = few_in c.args.frame.now c.well_formed-2.ensures c.requires.row.0 c.args.row.now c.requires.row.1 c.args.run.now c.requires.run c.requires.guarded c.args.self.now c.choose-count.new.self
      c.requires.store c.choose-count.result c.choose-count.ensures.rest c.choose-count.ensures.long c.choose-count.ensures.marks chosen_here

  of_kind : AreOfKind c.args.frame.now run.kind few
  of_kind = few_kind c.args.frame.now c.well_formed-2.ensures c.requires.row.0 c.args.row.now c.requires.row.1 c.args.run.now c.requires.run c.requires.guarded c.args.self.now c.choose-count.new.self
      c.requires.store c.choose-count.result c.choose-count.ensures.rest c.choose-count.ensures.long c.choose-count.ensures.marks chosen_here

  together : All (λ (x : Call). IsAlone c.args.frame.now x.block → ⊥) few
  together =
      few_together c.args.frame.now c.well_formed-2.ensures c.requires.row.0 c.args.row.now c.requires.row.1 c.args.run.now c.requires.run c.requires.guarded c.args.self.now c.choose-count.new.self
      c.requires.store c.choose-count.result c.choose-count.ensures.rest c.choose-count.ensures.long c.choose-count.ensures.marks chosen_here c.if-not-run.false

  apart : AreApart c.args.frame.now few
  apart = few_apart c.args.frame.now c.well_formed-2.ensures c.requires.row.0 c.args.row.now c.requires.row.1 c.args.run.now c.requires.run c.requires.guarded c.args.self.now c.choose-count.new.self
      c.requires.store c.choose-count.result c.choose-count.ensures.rest c.choose-count.ensures.long c.choose-count.ensures.marks chosen_here

  store : IsStore c.args.frame.now mid
  store = mid_store c.args.frame.now c.well_formed-2.ensures c.requires.row.0 c.args.row.now c.requires.row.1 c.args.run.now c.requires.run c.requires.guarded c.args.self.now c.choose-count.new.self
      c.requires.store c.choose-count.result c.choose-count.ensures.rest c.choose-count.ensures.long c.choose-count.ensures.marks chosen_here

  in_range : AreInRange c.args.frame.now.net (values_at c.args.frame.now.net mid.values)
  in_range =
      mid_in_range c.args.frame.now c.well_formed-2.ensures c.requires.row.0 c.args.row.now c.requires.row.1 c.args.run.now c.requires.run c.requires.guarded c.args.self.now c.choose-count.new.self
      c.requires.store c.choose-count.result c.choose-count.ensures.rest c.choose-count.ensures.long c.choose-count.ensures.marks chosen_here c.requires.values

  marked : All (IsMarked mid.marks) few
  marked = mid_marked c.args.frame.now c.well_formed-2.ensures c.requires.row.0 c.args.row.now c.requires.row.1 c.args.run.now c.requires.run c.requires.guarded c.args.self.now c.choose-count.new.self
      c.requires.store c.choose-count.result c.choose-count.ensures.rest c.choose-count.ensures.long c.choose-count.ensures.marks chosen_here

  places_are : c.blocks-places.result.now ≡ c.args.frame.now.layout.blocks
  places_are = c.blocks-places.ensures ∙ ap (λ (f : Fixed). f.layout.blocks) c.frame.view_is

  values_are : c.deref_mut.result.now ≡ mid.values
  values_are = c.deref_mut.ensures.value ∙ ap (λ (x : Standing). x.values) c.self.view_is

  made : take c.choose-count.result c.deref-3.result.now ≡ few
  made = ap (take c.choose-count.result) (c.deref-3.ensures.value ∙ ap (λ (x : Standing). x.chosen) c.self.view_is)

back : (g : Over) (c : After-out_run g) → take c.self.inside.values.len (c.out_run.new.values ++ drop (length c.out_run.new.values) c.self.inside.values.items) ≡ c.out_run.new.values
back g c =
    written_back c.self.inside.values.items c.out_run.new.values c.self.inside.values.len c.self.inside.values.ok.0 (c.out_run.auto.values ∙ ap length c.deref_mut.ensures.value)

-- done on the store behind the choice, it is done on the store before
from_mid : (g : Over) (c : After-choose-count g) (t : Standing) (after : List Meaning) (stop : Option (ℕ × StopWord))
    → IsRunDone c.args.frame.now c.args.inputs.now c.args.run.now.kind (take c.choose-count.result c.choose-count.new.self.chosen) c.choose-count.new.self t c.args.lib.now after stop
    → IsRunDone c.args.frame.now c.args.inputs.now c.args.run.now.kind
    (chosen_calls c.args.self.now.marks (calls_in c.args.row.now c.args.run.now)
    (entries_of (between c.args.row.now.guarded c.args.run.now.entries (c.args.run.now.entries + (c.args.run.now.end - c.args.run.now.start)))))
    c.args.self.now t c.args.lib.now after stop
from_mid g c t after stop =
    guarded_done c.args.frame.now c.well_formed-2.ensures c.requires.row.0 c.args.row.now c.requires.row.1 c.args.run.now c.requires.run c.requires.guarded c.args.self.now c.choose-count.new.self
    c.requires.store c.choose-count.result c.choose-count.ensures.rest c.choose-count.ensures.long c.choose-count.ensures.marks (chosen g c) c.args.inputs.now t c.args.lib.now after stop

pub out_run-requires-clause-calls : goal.out_run-requires-clause-calls
out_run-requires-clause-calls g c =
    let at_mut = (goal.at.out_run-requires-clause-calls g c).After-deref_mut in
    may_call c.args.frame.now c.well_formed-2.ensures c.args.lib.now c.requires.seated c.args.run.now.kind (few g at_mut) (few_called g at_mut) (of_kind g at_mut) (together g at_mut) (apart g at_mut)
    c.choose-count.new.self (store g at_mut) (in_range g at_mut) c.blocks-places.result.now c.deref_mut.result.now _ (places_are g at_mut) (values_are g at_mut) (made g at_mut)

pub returns-in_err-out_run-clause-done : goal.returns-in_err-out_run-clause-done
returns-in_err-out_run-clause-done g c =
    let at = (goal.at.returns-in_err-out_run-clause-done g c).After-out_run in
    let at_mut = (goal.at.returns-in_err-out_run-clause-done g c).After-deref_mut in
    from_mid g (goal.at.returns-in_err-out_run-clause-done g c).After-choose-count _ _ _
    (called_done c.args.frame.now c.well_formed-2.ensures c.args.lib.now c.requires.seated c.args.run.now.kind (few g at_mut) (few_called g at_mut) (of_kind g at_mut) (together g at_mut) (apart g at_mut)
    c.choose-count.new.self (store g at_mut) (in_range g at_mut) c.blocks-places.result.now c.deref_mut.result.now _ (places_are g at_mut) (values_are g at_mut) (made g at_mut)
    (the_view c.self.inside) c.self.view_is _ c.out_run.new.values (back g at) c.out_run.ensures.in_range c.args.inputs.now c.out_run.new.self None (marked g at_mut)
    c.out_run.ensures.changed _ (sym c.from_residual.ensures) c.in_err-out_run.ensures.ended)

pub returns-in_err-out_run-clause-sound : goal.returns-in_err-out_run-clause-sound
returns-in_err-out_run-clause-sound g c =
    let at = (goal.at.returns-in_err-out_run-clause-sound g c).After-out_run in
    let at_mut = (goal.at.returns-in_err-out_run-clause-sound g c).After-deref_mut in
    called_sound c.args.frame.now c.well_formed-2.ensures c.args.lib.now c.requires.seated c.args.run.now.kind (few g at_mut) (few_called g at_mut) (of_kind g at_mut) (together g at_mut) (apart g at_mut)
    c.choose-count.new.self (store g at_mut) (in_range g at_mut) c.blocks-places.result.now c.deref_mut.result.now _ (places_are g at_mut) (values_are g at_mut) (made g at_mut)
    (the_view c.self.inside) c.self.view_is _ c.out_run.new.values (back g at) c.out_run.ensures.in_range c.args.inputs.now c.out_run.new.self None (marked g at_mut)
    c.out_run.ensures.changed

pub returns-in_err-out_run-clause-values : goal.returns-in_err-out_run-clause-values
returns-in_err-out_run-clause-values g c =
    let at = (goal.at.returns-in_err-out_run-clause-values g c).After-out_run in
    let at_mut = (goal.at.returns-in_err-out_run-clause-values g c).After-deref_mut in
    called_in_range c.args.frame.now c.well_formed-2.ensures c.args.lib.now c.requires.seated c.args.run.now.kind (few g at_mut) (few_called g at_mut) (of_kind g at_mut) (together g at_mut) (apart g at_mut)
    c.choose-count.new.self (store g at_mut) (in_range g at_mut) c.blocks-places.result.now c.deref_mut.result.now _ (places_are g at_mut) (values_are g at_mut) (made g at_mut)
    (the_view c.self.inside) c.self.view_is _ c.out_run.new.values (back g at) c.out_run.ensures.in_range

pub returns-clause-done : goal.returns-clause-done
returns-clause-done g c =
    let at = (goal.at.returns-clause-done g c).After-out_run in
    let at_mut = (goal.at.returns-clause-done g c).After-deref_mut in
    from_mid g (goal.at.returns-clause-done g c).After-choose-count _ _ _
    (called_done c.args.frame.now c.well_formed-2.ensures c.args.lib.now c.requires.seated c.args.run.now.kind (few g at_mut) (few_called g at_mut) (of_kind g at_mut) (together g at_mut) (apart g at_mut)
    c.choose-count.new.self (store g at_mut) (in_range g at_mut) c.blocks-places.result.now c.deref_mut.result.now _ (places_are g at_mut) (values_are g at_mut) (made g at_mut)
    (the_view c.self.inside) c.self.view_is _ c.out_run.new.values (back g at) c.out_run.ensures.in_range c.args.inputs.now c.out_run.new.self (Some c.in_ok-out_run.field-0) (marked g at_mut)
    c.out_run.ensures.changed _ (sym c.stop_at.ensures) c.in_ok-out_run.ensures.ended)

pub returns-clause-sound : goal.returns-clause-sound
returns-clause-sound g c =
    let at = (goal.at.returns-clause-sound g c).After-out_run in
    let at_mut = (goal.at.returns-clause-sound g c).After-deref_mut in
    called_sound c.args.frame.now c.well_formed-2.ensures c.args.lib.now c.requires.seated c.args.run.now.kind (few g at_mut) (few_called g at_mut) (of_kind g at_mut) (together g at_mut) (apart g at_mut)
    c.choose-count.new.self (store g at_mut) (in_range g at_mut) c.blocks-places.result.now c.deref_mut.result.now _ (places_are g at_mut) (values_are g at_mut) (made g at_mut)
    (the_view c.self.inside) c.self.view_is _ c.out_run.new.values (back g at) c.out_run.ensures.in_range c.args.inputs.now c.out_run.new.self (Some c.in_ok-out_run.field-0) (marked g at_mut)
    c.out_run.ensures.changed

pub returns-clause-values : goal.returns-clause-values
returns-clause-values g c =
    let at = (goal.at.returns-clause-values g c).After-out_run in
    let at_mut = (goal.at.returns-clause-values g c).After-deref_mut in
    called_in_range c.args.frame.now c.well_formed-2.ensures c.args.lib.now c.requires.seated c.args.run.now.kind (few g at_mut) (few_called g at_mut) (of_kind g at_mut) (together g at_mut) (apart g at_mut)
    c.choose-count.new.self (store g at_mut) (in_range g at_mut) c.blocks-places.result.now c.deref_mut.result.now _ (places_are g at_mut) (values_are g at_mut) (made g at_mut)
    (the_view c.self.inside) c.self.view_is _ c.out_run.new.values (back g at) c.out_run.ensures.in_range
