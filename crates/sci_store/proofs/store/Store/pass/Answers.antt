use Rattle.std.proofs.Common.{◌≡◌, ◌∙◌, ℕ, ◌+◌, ◌<◌, ◌≤◌, true, false, List, Option, Some, None, length, get_or, ap, sym, subst, true≢false}
use Rattle.std.specs.Prelude.{is_some}
use Rattle.sci_base.specs.declared.observation.StopWord.{StopWord}
use Rattle.sci_forms.specs.declared.Kind.TheVariants.{Const}
use Rattle.sci_net.specs.declared.Source.{Source}
use Rattle.sci_reaction.specs.Depends.{IsLoopFree}
use Rattle.sci_reaction.specs.Memory.{Memory, IsMemory}
use Rattle.sci_store.specs.declared.row.Run.{Run}
use Rattle.sci_store.specs.Frame.{IsFrame}
use Rattle.sci_store.specs.Store.{ShowsMemory}
use Rattle.sci_store.specs.Passed.{IsPassed}
use Rattle.sci_store.specs.Rows.{ReadyRow, IsRowOf, KeepsBegun}
use Rattle.sci_store.specs.Runs.{lesser}
use Rattle.sci_store.proofs.InPass.{IsInPass, pass_before, run_read, pass_next, pass_quiet, pass_behind, kept_behind, kept_last, stops_by}
use Rattle.sci_store.proofs.store.Store.pass.Given.{Over}
use Rattle.sci_store.proofs.store.Store.pass.Goals as goal
use Rattle.sci_store.proofs.store.Store.pass.Goals.{After-do_run-found, then-is_some-via-then-is_some, then-is_some-via-else-is_some+then-is_some-2, then-is_some+else-run, else-is_some+else-is_some-2}

abbrev no_run : Run
no_run = record { kind = Const; together = false; guarded = false; last = false; start = 0; end = 0; entries = 0 }

none_of : (o : Option (ℕ × StopWord)) → is_some o ≡ false → o ≡ None
none_of None h = cc
none_of (Some st) h = absurd (true≢false h)

pub loop-run-init : goal.loop-run-init
loop-run-init g c = λ frame.
    pass_before c.args.frame.now frame c.args.inputs.now c.args.row.now c.args.self.now c.args.lib.now c.requires.row.0 c.requires.row.2 c.requires.memory.0 c.requires.store c.requires.seated
    c.requires.begun c.requires.memory.1 c.requires.memory.2 c.requires.counts

pub do_run-found-requires-clause-store : goal.do_run-found-requires-clause-store
do_run-found-requires-clause-store g c = (c.loop-run.invariant c.well_formed-2.ensures).store

pub do_run-found-requires-clause-seated : goal.do_run-found-requires-clause-seated
do_run-found-requires-clause-seated g c = (c.loop-run.invariant c.well_formed-2.ensures).seated

pub do_run-found-requires-clause-values : goal.do_run-found-requires-clause-values
do_run-found-requires-clause-values g c = (c.loop-run.invariant c.well_formed-2.ensures).in_range

pub do_run-found-requires-clause-begun : goal.do_run-found-requires-clause-begun
do_run-found-requires-clause-begun g c off =
    let items : c.deref-run-items.result.now ≡ c.args.row.now.runs = c.deref-run-items.ensures.value ∙ ap (λ (r : ReadyRow). r.runs) c.row.view_is in
    let k = c.loop-run.run-index in
    let run = get_or c.deref-run-items.result.now c.loop-run.run-index no_run in
    let less = subst (λ (rs : List Run). c.loop-run.run-index < length rs) items c.loop-run-test.true in
    let read = run_read c.args.row.now c.deref-run-items.result.now c.loop-run.run-index no_run items c.loop-run-test.true in
    (c.loop-run.invariant c.well_formed-2.ensures).whole run (k, less, sym read) off

-- behind one more run
module _ (g : Over) (c : After-do_run-found g) where
  items : c.deref-run-items.result.now ≡ c.args.row.now.runs
  items = c.deref-run-items.ensures.value ∙ ap (λ (r : ReadyRow). r.runs) c.row.view_is

  abbrev run : Run
  run = get_or c.deref-run-items.result.now c.loop-run.run-index no_run

  less : c.loop-run.run-index < length c.args.row.now.runs
  less = subst (λ (rs : List Run). c.loop-run.run-index < length rs) items c.loop-run-test.true

  read : run ≡ get_or c.args.row.now.runs c.loop-run.run-index run
  read = run_read c.args.row.now c.deref-run-items.result.now c.loop-run.run-index no_run items c.loop-run-test.true

  next : (frame : IsFrame c.args.frame.now) → ((st : ℕ × StopWord) → lesser c.loop-run.stop c.do_run-found.result ≡ Some st → run.last ≡ false)
      → IsInPass c.args.frame.now frame c.args.inputs.now c.args.row.now (c.loop-run.run-index + 1) c.args.self.now c.do_run-found.new.self c.args.lib.now c.do_run-found.new.lib
      (lesser c.loop-run.stop c.do_run-found.result)
  next frame on =
      pass_next c.args.frame.now frame c.args.inputs.now c.args.row.now c.loop-run.run-index c.args.self.now c.loop-run.self c.do_run-found.new.self c.args.lib.now c.loop-run.lib c.do_run-found.new.lib
      c.loop-run.stop c.do_run-found.result (c.loop-run.invariant frame) run less read c.requires.begun c.do_run-found.ensures.done c.requires.row.0 c.requires.memory.0 c.requires.row.1 c.requires.row.2
      c.requires.memory.1 c.requires.memory.2 c.do_run-found.ensures.sound c.do_run-found.ensures.values on

  quiet : (frame : IsFrame c.args.frame.now) → c.loop-run.stop ≡ None → c.do_run-found.result ≡ None
      → IsInPass c.args.frame.now frame c.args.inputs.now c.args.row.now (c.loop-run.run-index + 1) c.args.self.now c.do_run-found.new.self c.args.lib.now c.do_run-found.new.lib c.loop-run.stop
  quiet frame none none_here =
      pass_quiet c.args.frame.now frame c.args.inputs.now c.args.row.now c.loop-run.run-index c.args.self.now c.loop-run.self c.do_run-found.new.self c.args.lib.now c.loop-run.lib c.do_run-found.new.lib
      c.loop-run.stop c.do_run-found.result (c.loop-run.invariant frame) run less read c.requires.begun c.do_run-found.ensures.done c.requires.row.0 c.requires.memory.0 c.requires.row.1 c.requires.row.2
      c.requires.memory.1 c.requires.memory.2 c.do_run-found.ensures.sound c.do_run-found.ensures.values none none_here

  stops : (source : Source) (m : Memory) → IsLoopFree c.args.frame.now.net source → IsRowOf c.args.frame.now source c.args.row.now → ShowsMemory c.args.frame.now c.args.self.now c.args.lib.now m
      → IsMemory c.args.frame.now.net m → (o : Option (ℕ × StopWord)) → lesser c.loop-run.stop c.do_run-found.result ≡ o → (c.loop-run.stop ≡ None → c.do_run-found.result ≡ None → ⊥)
      → run.last ≡ true → IsPassed c.args.frame.now c.args.inputs.now source m c.args.self.now c.do_run-found.new.self c.args.lib.now c.do_run-found.new.lib o
  stops source m free is shows memory o told some last =
      stops_by c.args.frame.now c.well_formed-2.ensures c.args.inputs.now c.args.row.now c.loop-run.run-index c.args.self.now c.loop-run.self c.do_run-found.new.self c.args.lib.now c.loop-run.lib
      c.do_run-found.new.lib c.loop-run.stop c.do_run-found.result (c.loop-run.invariant c.well_formed-2.ensures) run less read c.requires.begun c.do_run-found.ensures.done source m free is shows memory
      o told some last c.requires.counts

  kept : KeepsBegun c.args.frame.now c.args.row.now c.do_run-found.new.self
  kept =
      kept_behind c.args.frame.now c.well_formed-2.ensures c.args.inputs.now c.args.row.now c.loop-run.run-index c.args.self.now c.loop-run.self c.do_run-found.new.self c.args.lib.now c.loop-run.lib
      c.do_run-found.new.lib c.loop-run.stop c.do_run-found.result (c.loop-run.invariant c.well_formed-2.ensures) run less read c.requires.begun c.do_run-found.ensures.done c.requires.row.0
      c.requires.memory.0 c.requires.row.1 c.requires.row.2 c.requires.memory.1 c.requires.memory.2

pub returns-then-run-clause-passed : goal.returns-then-run-clause-passed
returns-then-run-clause-passed g c source m free is shows memory =
    stops g (goal.at.returns-then-run-clause-passed g c).After-do_run-found source m free is shows memory c.lesser-stop.result (sym c.lesser-stop.ensures)
    (elim c.then-is_some.branch [
      | then-is_some-via-then-is_some w ↦ λ none none_here. true≢false (sym w.if-is_some.true ∙ (c.is_some.ensures ∙ ap (λ (o : Option (ℕ × StopWord)). is_some o) none_here))
      | then-is_some-via-else-is_some+then-is_some-2 w ↦ λ none none_here. true≢false (sym w.if-is_some-2.true ∙ (w.is_some-else-is_some.ensures ∙ ap (λ (o : Option (ℕ × StopWord)). is_some o) none))
    ])
    c.if-run.true

pub returns-then-run-clause-kept : goal.returns-then-run-clause-kept
returns-then-run-clause-kept g c = kept g (goal.at.returns-then-run-clause-kept g c).After-do_run-found

pub returns-then-run-clause-lines : goal.returns-then-run-clause-lines
returns-then-run-clause-lines g c = c.do_run-found.ensures.done.kept.1 ∙ (c.loop-run.invariant c.well_formed-2.ensures).lines

pub returns-then-run-clause-sum : goal.returns-then-run-clause-sum
returns-then-run-clause-sum g c = c.do_run-found.ensures.done.kept.2 ∙ (c.loop-run.invariant c.well_formed-2.ensures).sum

pub loop-run-preserved : goal.loop-run-preserved
loop-run-preserved g c = λ frame.
    let at = (goal.at.loop-run-preserved g c).After-do_run-found in
    elim c.if-is_some.branch [
      | then-is_some+else-run w ↦
          subst (IsInPass c.args.frame.now frame c.args.inputs.now c.args.row.now (c.loop-run.run-index + 1) c.args.self.now c.do_run-found.new.self c.args.lib.now c.do_run-found.new.lib)
          (sym (w.stop-is ∙ w.lesser-stop.ensures)) (next g at frame (λ st told. w.if-run.false))
      | else-is_some+else-is_some-2 w ↦
          subst (IsInPass c.args.frame.now frame c.args.inputs.now c.args.row.now (c.loop-run.run-index + 1) c.args.self.now c.do_run-found.new.self c.args.lib.now c.do_run-found.new.lib)
          (sym w.stop-is)
          (quiet g at frame (none_of c.loop-run.stop (sym w.is_some-else-is_some.ensures ∙ w.if-is_some-2.false)) (none_of c.do_run-found.result (sym c.is_some.ensures ∙ w.if-is_some.false)))
    ]

pub returns-clause-passed : goal.returns-clause-passed
returns-clause-passed g c source m free is shows memory =
    let items : c.deref-run-items.result.now ≡ c.args.row.now.runs = c.deref-run-items.ensures.value ∙ ap (λ (r : ReadyRow). r.runs) c.row.view_is in
    let all = subst (λ (rs : List Run). length rs ≤ c.loop-run.run-index) items c.loop-run-test.false in
    pass_behind c.args.frame.now c.well_formed-2.ensures c.args.inputs.now c.args.row.now c.loop-run.run-index c.args.self.now c.loop-run.self c.args.lib.now c.loop-run.lib c.loop-run.stop
    (c.loop-run.invariant c.well_formed-2.ensures) all c.requires.begun source m free is shows memory

pub returns-clause-sound : goal.returns-clause-sound
returns-clause-sound g c =
    record { store = (c.loop-run.invariant c.well_formed-2.ensures).store; seated = (c.loop-run.invariant c.well_formed-2.ensures).seated }

pub returns-clause-values : goal.returns-clause-values
returns-clause-values g c = (c.loop-run.invariant c.well_formed-2.ensures).in_range

pub returns-clause-kept : goal.returns-clause-kept
returns-clause-kept g c =
    kept_last c.args.frame.now c.well_formed-2.ensures c.args.inputs.now c.args.row.now c.loop-run.run-index c.args.self.now c.loop-run.self c.args.lib.now c.loop-run.lib c.loop-run.stop
    (c.loop-run.invariant c.well_formed-2.ensures)

pub returns-clause-lines : goal.returns-clause-lines
returns-clause-lines g c = (c.loop-run.invariant c.well_formed-2.ensures).lines

pub returns-clause-sum : goal.returns-clause-sum
returns-clause-sum g c = (c.loop-run.invariant c.well_formed-2.ensures).sum
