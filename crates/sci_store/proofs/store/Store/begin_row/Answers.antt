use Rattle.std.proofs.Common.{◌≡◌, ◌∙◌, ◌<◌, ◌+◌, false, List, get_or, length, ap, sym, subst}
use Rattle.sci_bank.specs.declared.runs.Call.{Call}
use Rattle.sci_forms.specs.declared.Kind.TheVariants.{Const}
use Rattle.sci_store.specs.declared.marks.Mark.{Mark}
use Rattle.sci_store.specs.declared.row.Run.{Run}
use Rattle.sci_store.specs.Store.{Standing}
use Rattle.sci_store.specs.Rows.{ReadyRow, between, marked, calls_in}
use Rattle.sci_store.proofs.InPass.{run_read}
use Rattle.sci_store.proofs.Marking.{HasBegunTo, AreKnown, known, begun_skip, begun_more}
use Rattle.sci_store.proofs.store.Store.begin_row.Goals as goal
use Rattle.sci_store.proofs.store.Store.begin_row.Goals.{At-loop-run, then-not-run, else-not-run}

abbrev no_run : Run
no_run = record { kind = Const; together = false; guarded = false; last = false; start = 0; end = 0; entries = 0 }

-- the runs that are gone through
runs_are : (c : At-loop-run) → c.deref-run-items.result.now ≡ c.args.row.now.runs
runs_are c = c.deref-run-items.ensures.value ∙ ap (λ (r : ReadyRow). r.runs) c.row.view_is

pub mark_active-requires : goal.mark_active-requires
mark_active-requires c =
    let items = runs_are (goal.at.mark_active-requires c).At-loop-run in
    let run = get_or c.deref-run-items.result.now c.loop-run.run-index no_run in
    let calls : c.deref.result.now ≡ c.args.row.now.calls = c.deref.ensures.value ∙ ap (λ (r : ReadyRow). r.calls) c.row.view_is in
    subst (λ (cs : List Call). AreKnown c.loop-run.self.marks (between cs run.start run.end)) (sym calls)
    (known c.args.frame.now c.well_formed-2.ensures c.requires.row.0 c.args.row.now c.requires.row.1 c.loop-run.run-index c.loop-run.self.marks run c.loop-run.invariant.begun
    (run_read c.args.row.now c.deref-run-items.result.now c.loop-run.run-index no_run items c.loop-run-test.true) c.if-not-run.true
    (subst (λ (rs : List Run). c.loop-run.run-index < length rs) items c.loop-run-test.true))

pub loop-run-preserved : goal.loop-run-preserved
loop-run-preserved c =
    let items = runs_are (goal.at.loop-run-preserved c).At-loop-run in
    let k = c.loop-run.run-index in
    let run = get_or c.deref-run-items.result.now c.loop-run.run-index no_run in
    let r = c.args.row.now in
    let read = run_read c.args.row.now c.deref-run-items.result.now c.loop-run.run-index no_run items c.loop-run-test.true in
    let less = subst (λ (rs : List Run). c.loop-run.run-index < length rs) items c.loop-run-test.true in
    let before = c.args.self.now in
    elim c.if-not-run.branch [
      | then-not-run w ↦
          let calls : w.deref.result.now ≡ c.args.row.now.calls = w.deref.ensures.value ∙ ap (λ (x : ReadyRow). x.calls) c.row.view_is in
          let now : c.if-not-run.self ≡ record c.loop-run.self { marks = marked c.loop-run.self.marks (calls_in c.args.row.now run) } =
          w.self-is ∙ (w.mark_active.ensures
          ∙ ap (λ (cs : List Call). record c.loop-run.self { marks = marked c.loop-run.self.marks (between cs run.start run.end) }) calls) in
          let marks = ap (λ (s : Standing). s.marks) now in
          record {
            begun = subst (HasBegunTo c.args.frame.now c.args.row.now (c.loop-run.run-index + 1)) (sym marks)
                (begun_more c.args.frame.now c.well_formed-2.ensures c.requires.row.0 c.args.row.now c.requires.row.1 c.loop-run.run-index c.loop-run.self.marks run
                c.loop-run.invariant.begun read w.if-not-run.true less);
            same = now
                ∙ (ap (λ (s : Standing). record s { marks = marked c.loop-run.self.marks (calls_in c.args.row.now run) }) c.loop-run.invariant.same
                ∙ ap (λ (ms : List Mark). record before { marks = ms }) (sym marks));
          }
      | else-not-run w ↦
          let marks = ap (λ (s : Standing). s.marks) w.self-is in
          record {
            begun = subst (HasBegunTo c.args.frame.now c.args.row.now (c.loop-run.run-index + 1)) (sym marks)
                (begun_skip c.args.frame.now c.args.row.now c.loop-run.run-index c.loop-run.self.marks run c.loop-run.invariant.begun read w.if-not-run.false less);
            same = w.self-is ∙ (c.loop-run.invariant.same ∙ ap (λ (ms : List Mark). record before { marks = ms }) (sym marks));
          }
    ]
