use Rattle.std.proofs.Common.{◌≡◌, ℕ, ◌+◌, ◌-◌, ℤ, pos, List, [], ◌∷◌, ◌++◌, length, refl, ap, sym, ◌∙◌, arith, subst, Option, Some, None, Ok, Err, true≢false}
use Rattle.std.specs.Prelude.{Result, IfOk}
use Rattle.std.specs.Result.{IsErr}
use Rattle.std.proofs.lemmas.List.{append-nil}
use Rattle.std.proofs.lemmas.Int.{ints}
use mir.Val.{to_z, of_z}
use mir.Syntax.{w64}
use Rattle.sci_base.specs.declared.observation.Obs.{Obs}
use Rattle.sci_base.specs.declared.observation.Obs.TheVariants.{Stop}
use Rattle.sci_base.specs.declared.observation.StopWord.{StopWord}
use Rattle.sci_io.specs.Taken.{SinkState, Writes}
use Rattle.sci_io.proofs.Advance.{stopped, then_writes, begins, next_front, finished, same_text}
use Rattle.sci_trace.specs.Lines.{line, text}
use Rattle.sci_net.specs.Sources.{source_of}
use Rattle.sci_reaction.specs.Memory.{AreColumns}
use Rattle.sci_reaction.proofs.Next.{some_next}
use Rattle.sci_run.specs.Observed.{header, stop_seen, values_seen, blocks_seen}
use Rattle.sci_run.specs.Programs.{next_pending}
use Rattle.sci_run.specs.Run.{StopsWith, Leads, after_reaction}
use Rattle.sci_store.specs.Blocks.{AreBlocksByNumber}
use Rattle.sci_store.specs.Frame.{Fixed, AreSeated}
use Rattle.sci_store.specs.Passed.{IsPassed, IsValued}
use Rattle.sci_store.specs.Rows.{ReadyRow, IsReadyRow, KeepsBegun}
use Rattle.sci_store.specs.Runs.{MayStep}
use Rattle.sci_store.specs.Store.{Standing}
use Rattle.sci_store.specs.Tally.{lines_after}
use Rattle.sci_store.specs.Written.{sum_of, tallied}
use Rattle.sci_lines.specs.Lines.{IsHeader}
use Rattle.sci_store.proofs.Writing.{tallied_twice}
use Rattle.sci_store.proofs.Reacting.{kept_counts, range_alike, masks_alike, sensed_alike, shown_alike, before_alike, before_here, outcome_here, shown_marks}
use Rattle.sci_store.proofs.StateRuns.{begun_behind}
use Rattle.sci_store.specs.Reaction.{IfSeen, Steps, TellsHalt}
use Rattle.sci_sim.specs.At.{Running}
use Rattle.sci_sim.specs.Rows.{row_in}
use Rattle.sci_sim.specs.Programming.{Keeps, ProgramsNext}
use Rattle.sci_sim.proofs.Cleared.{outcome_in, reacted_cleared, halted_in}
use Rattle.sci_sim.proofs.Reacting.{source_within, among_row, shows_after, header_is, halts_by_number}
use Rattle.sci_sim.proofs.Entered.{IsEntered, entered_by, stood, stood_is, source_free, row_of_source, ready_row, shown_entered, counts_small, may_step, rest_stays, ready_reacted}
use Rattle.sci_sim.proofs.Steps.{none_of}
use Rattle.sci_sim.proofs.ready.Ready.react.Given.{Over}
use Rattle.sci_sim.proofs.ready.Ready.react.Goals.{After-index-row, After-header-header, After-observe, After-write_reaction}
use Rattle.sci_sim.proofs.ready.Ready.react.Goals as goal

abbrev view : (g : Over) → After-index-row g → Running
view g c = record {
  fixed = c.self.inside.kept.fixed;
  rows = c.self.inside.rows.items;
  store = c.self.inside.kept.store;
  wheel = c.self.inside.wheel;
  offset = c.self.inside.offset;
  now = c.self.inside.now;
  fired = c.self.inside.fired;
  row = c.self.inside.row;
  has_row = c.self.inside.has_row;
  started = c.self.inside.started;
  halted = c.self.inside.halted;
}

-- the row of the source is begun
entered : (g : Over) (c : After-index-row g) → IsEntered c.args.self.now (view g c) c.args.source c.index-row.result.now
entered g c =
    entered_by c.args.self.now c.enter_row.new.self (view g c) c.args.source c.index-row.result.now c.self.view_is c.enter_row.ensures.rest c.enter_row.ensures.marks c.enter_row.ensures.begun c.requires.source c.self.invariant
    c.index-row.ensures

row_now : (g : Over) (c : After-index-row g) → c.index-row.result.now ≡ row_in c.args.self.now.rows c.args.source
row_now g c = (entered g c).row_is ∙ ap (λ (x : Running). row_in x.rows c.args.source) (entered g c).is

same_now : (g : Over) (c : After-index-row g) → c.self.inside.now ≡ c.args.self.now.now
same_now g c = ap (λ (x : Running). x.now) (entered g c).is

pub header-header-requires-clause-source : goal.header-header-requires-clause-source
header-header-requires-clause-source g c =
    let at = (goal.at.header-header-requires-clause-source g c).After-index-row in
    source_within c.self.inside.kept.fixed c.self.inside.rows.items c.args.source c.self.invariant.rows (entered g at).within

pub header-header-requires-clause-date : goal.header-header-requires-clause-date
header-header-requires-clause-date g c =
    let same = same_now g (goal.at.header-header-requires-clause-date g c).After-index-row in omega (arith, same, c.requires.date)

pub pass-requires-clause-begun : goal.pass-requires-clause-begun
pass-requires-clause-begun g c = (entered g (goal.at.pass-requires-clause-begun g c).After-index-row).begun

pub pass-requires-clause-seated : goal.pass-requires-clause-seated
pass-requires-clause-seated g c =
    let at = (goal.at.pass-requires-clause-seated g c).After-index-row in
    (shown_entered c.args.self.now (view g at) c.args.source c.index-row.result.now (entered g at) _ c.requires.shown.0 c.requires.shown.1).seated

pub pass-requires-clause-columns : goal.pass-requires-clause-columns
pass-requires-clause-columns g c =
    subst (λ (x : Running). AreColumns x.fixed.net c.args.ins.now) (sym (entered g (goal.at.pass-requires-clause-columns g c).After-index-row).is) c.requires.columns

pub pass-requires-clause-row : goal.pass-requires-clause-row
pass-requires-clause-row g c =
    let at = (goal.at.pass-requires-clause-row g c).After-index-row in
    let h = entered g at in
    (source_of c.self.inside.kept.fixed.net c.args.source, source_free c.args.self.now (view g at) c.args.source c.index-row.result.now h, row_of_source c.args.self.now (view g at) c.args.source c.index-row.result.now h)

pub pass-requires-clause-counts : goal.pass-requires-clause-counts
pass-requires-clause-counts g c =
    let at = (goal.at.pass-requires-clause-counts g c).After-index-row in
    counts_small c.args.self.now (view g at) c.args.source c.index-row.result.now (entered g at) _ c.requires.shown.0 c.requires.shown.1

pub pass-requires-clause-memory : goal.pass-requires-clause-memory
pass-requires-clause-memory g c =
    let at = (goal.at.pass-requires-clause-memory g c).After-index-row in
    let s = shown_entered c.args.self.now (view g at) c.args.source c.index-row.result.now (entered g at) _ c.requires.shown.0 c.requires.shown.1 in
    (c.requires.shown.0.memory, s.memory, s.in_range)

-- ---- a reaction that stops

err_of : {T E : Type 0} (r : Result T E) → IsErr r → (e : E) × (r ≡ Err e)
err_of (Ok x) h = absurd (true≢false (sym h))
err_of (Err e) h = (e, refl)

if_err : {T E : Type 0} (r : Result T E) (P : T → Type 0) → IsErr r → IfOk r P
if_err (Ok x) P h = absurd (true≢false (sym h))
if_err (Err e) P h = tt

ok_writes : {T E U F : Type 0} {a b : SinkState} (t : List ℕ) (r : Result T E) (x : T) (y : U) → r ≡ Ok x → Writes a b t r → Writes {T = U} {E = F} a b t (Ok y)
ok_writes {a = a} t r x y is w =
    same_text (append-nil t) (finished y (next_front t [] r x is (begins a (t ++ [])) w))

err_writes : {T E U F : Type 0} {a b : SinkState} (t : List ℕ) (r : Result T E) (q : Result U F) (e : E) (f : F) → r ≡ Err e → q ≡ Err f → Writes a b t r → Writes a b t q
err_writes t r q e f is was w = same_text (append-nil t) (stopped t [] r q e f is was w)

header_written : (g : Over) (c : After-observe g) → Writes (g.S.Sink.state c.args.out.now) (g.S.Sink.state c.observe.new.out)
    (line (header c.self.inside.now (source_of c.self.inside.kept.fixed.net c.args.source))) c.observe.result
header_written g c =
    subst (λ (o : Obs). Writes (g.S.Sink.state c.args.out.now) (g.S.Sink.state c.observe.new.out) (line o) c.observe.result)
    c.header-header.ensures c.observe.ensures.written

header_counted : (g : Over) (c : After-observe g) → c.observe.new.self.store ≡ tallied c.pass.new.self.store (c.header-header.result ∷ [])
    → c.observe.new.self.store ≡ tallied c.pass.new.self.store (header c.self.inside.now (source_of c.self.inside.kept.fixed.net c.args.source) ∷ [])
header_counted g c counted =
    subst (λ (o : Obs). c.observe.new.self.store ≡ tallied c.pass.new.self.store (o ∷ [])) c.header-header.ensures counted

pub returns-in_err-observe-clause-reacted : goal.returns-in_err-observe-clause-reacted
returns-in_err-observe-clause-reacted g c st shows =
    let at = goal.at.returns-in_err-observe-clause-reacted g c in
    let r = c.args.self.now in
    let v = view g at.After-index-row in
    let k = c.args.source in
    let row = c.index-row.result.now in
    let h = entered g at.After-index-row in
    let s = shown_entered r v k row h _ st shows in
    let f = v.fixed in
    let passed = c.in-Some.ensures.passed (source_of f.net k) st.memory (source_free r v k row h) (row_of_source r v k row h) s.memory s.in_range in
    let stop = Stop c.in-Some.word (pos c.in-Some.block) (pos 0) in
    let o = StopsWith (stop_seen v.now (source_of f.net k) c.in-Some.block c.in-Some.word) in (
      o,
      outcome_in r (stood r v k row h) (stood_is r v k row h) c.args.ins.now k st o (record { block = c.in-Some.block; word = c.in-Some.word; result = passed.0; observed = refl }),
      stopped (line (header v.now (source_of f.net k))) (line stop ++ []) c.observe.result c.from_residual.result _ _ c.in_err-observe.was (err_of c.from_residual.result c.from_residual.ensures.0).1 (header_written g at.After-observe),
      if_err c.from_residual.result _ c.from_residual.ensures.0,
    )

pub returns-in_err-observe-2-clause-reacted : goal.returns-in_err-observe-2-clause-reacted
returns-in_err-observe-2-clause-reacted g c st shows =
    let at = goal.at.returns-in_err-observe-2-clause-reacted g c in
    let r = c.args.self.now in
    let v = view g at.After-index-row in
    let k = c.args.source in
    let row = c.index-row.result.now in
    let h = entered g at.After-index-row in
    let s = shown_entered r v k row h _ st shows in
    let f = v.fixed in
    let passed = c.in-Some.ensures.passed (source_of f.net k) st.memory (source_free r v k row h) (row_of_source r v k row h) s.memory s.in_range in
    let q = c.from_residual-in_err-observe-2.result in
    let stop = Stop c.in-Some.word (pos c.in-Some.block) (pos 0) in
    let z_is : to_z w64 (of_z w64 c.from.result) ≡ pos c.in-Some.block = omega (arith, ints) in
    let wrote = subst (λ (z : ℤ). Writes (g.S.Sink.state c.observe.new.out) (g.S.Sink.state c.observe-in-Some.new.out) (line (Stop c.in-Some.word z (pos 0))) c.observe-in-Some.result) z_is c.observe-in-Some.ensures.written in
    let o = StopsWith (stop_seen v.now (source_of f.net k) c.in-Some.block c.in-Some.word) in (
      o,
      outcome_in r (stood r v k row h) (stood_is r v k row h) c.args.ins.now k st o (record { block = c.in-Some.block; word = c.in-Some.word; result = passed.0; observed = refl }),
      then_writes (line (header v.now (source_of f.net k))) (line stop ++ []) c.observe.result q c.in_ok-observe.field-0 c.in_ok-observe.was (header_written g at.After-observe)
          (stopped (line stop) [] c.observe-in-Some.result q _ _ c.in_err-observe-2.was (err_of q c.from_residual-in_err-observe-2.ensures.0).1 wrote),
      if_err q _ c.from_residual-in_err-observe-2.ensures.0,
    )

pub returns-in-Some-clause-reacted : goal.returns-in-Some-clause-reacted
returns-in-Some-clause-reacted g c st shows =
    let at = goal.at.returns-in-Some-clause-reacted g c in
    let r = c.args.self.now in
    let v = view g at.After-index-row in
    let k = c.args.source in
    let row = c.index-row.result.now in
    let e = entered g at.After-index-row in
    let s = shown_entered r v k row e _ st shows in
    let f = v.fixed in
    let passed = c.in-Some.ensures.passed (source_of f.net k) st.memory (source_free r v k row e) (row_of_source r v k row e) s.memory s.in_range in
    let h = header v.now (source_of f.net k) in
    let stop = Stop c.in-Some.word (pos c.in-Some.block) (pos 0) in
    let z_is : to_z w64 (of_z w64 c.from.result) ≡ pos c.in-Some.block = omega (arith, ints) in
    let wrote = subst (λ (z : ℤ). Writes (g.S.Sink.state c.observe.new.out) (g.S.Sink.state c.observe-in-Some.new.out) (line (Stop c.in-Some.word z (pos 0))) c.observe-in-Some.result) z_is c.observe-in-Some.ensures.written in
    let counted = subst (λ (z : ℤ). c.observe-in-Some.new.self.store ≡ tallied c.observe.new.self.store (Stop c.in-Some.word z (pos 0) ∷ [])) z_is c.in_ok-observe-2.ensures.counted in
    let both = counted ∙ (ap (λ (x : Standing). tallied x (stop ∷ [])) (header_counted g at.After-observe c.in_ok-observe.ensures.counted) ∙ tallied_twice c.pass.new.self.store (h ∷ []) (stop ∷ [])) in
    let o = StopsWith (stop_seen v.now (source_of f.net k) c.in-Some.block c.in-Some.word) in (
      o,
      outcome_in r (stood r v k row e) (stood_is r v k row e) c.args.ins.now k st o (record { block = c.in-Some.block; word = c.in-Some.word; result = passed.0; observed = refl }),
      then_writes (line h) (line stop ++ []) c.observe.result (Ok (Some c.in-Some.word)) c.in_ok-observe.field-0 c.in_ok-observe.was (header_written g at.After-observe)
          (same_text (sym (append-nil (line stop))) (ok_writes (line stop) c.observe-in-Some.result c.in_ok-observe-2.field-0 (Some c.in-Some.word) c.in_ok-observe-2.was wrote)),
      reacted_cleared r (stood r v k row e) v.store (stood_is r v k row e) e.marks _ k row (row_now g at.After-index-row) c.observe-in-Some.new.self.store _ v.wheel.meaning v.wheel.puts o (Some c.in-Some.word) (record {
        stops = (h, c.in-Some.block, refl);
        leads = passed.1;
        tallied = record {
          lines = ap (λ (x : Standing). x.lines) both ∙ ap (λ (n : ℕ). lines_after n (length (h ∷ stop ∷ []))) c.pass.ensures.lines;
          sum = ap (λ (x : Standing). x.sum) both ∙ ap (λ (n : ℕ). sum_of n (h ∷ stop ∷ [])) c.pass.ensures.sum;
        };
      }),
    )

-- ---- a reaction with values

header_first : (g : Over) (c : After-header-header g) → IsHeader c.header-header.result
header_first g c = subst IsHeader (sym c.header-header.ensures) (header_is c.self.inside.now (source_of c.self.inside.kept.fixed.net c.args.source))

-- the values behind the header are written
values_written : (g : Over) (c : After-write_reaction g) (seen : List Obs) → Writes (g.S.Sink.state c.args.out.now) (g.S.Sink.state c.write_reaction.new.out) (text (c.header-header.result ∷ seen)) c.write_reaction.result
    → Writes (g.S.Sink.state c.args.out.now) (g.S.Sink.state c.write_reaction.new.out) (text (header c.self.inside.now (source_of c.self.inside.kept.fixed.net c.args.source) ∷ seen)) c.write_reaction.result
values_written g c seen = subst (λ (o : Obs). Writes (g.S.Sink.state c.args.out.now) (g.S.Sink.state c.write_reaction.new.out) (text (o ∷ seen)) c.write_reaction.result) c.header-header.ensures

pub write_reaction-requires-clause-row : goal.write_reaction-requires-clause-row
write_reaction-requires-clause-row g c =
    let at = goal.at.write_reaction-requires-clause-row g c in
    let row = c.index-row.result.now in
    subst (λ (x : Fixed). IsReadyRow x row) (sym c.pass.ensures.fixed) (ready_row c.args.self.now (view g at.After-index-row) c.args.source row (entered g at.After-index-row))

pub write_reaction-requires-clause-begun : goal.write_reaction-requires-clause-begun
write_reaction-requires-clause-begun g c =
    subst (λ (x : Fixed). KeepsBegun x c.index-row.result.now c.pass.new.self.store) (sym c.pass.ensures.fixed) c.pass.ensures.kept

pub write_reaction-requires-clause-header : goal.write_reaction-requires-clause-header
write_reaction-requires-clause-header g c = header_first g (goal.at.write_reaction-requires-clause-header g c).After-header-header

-- the tables that are kept stay
stays : (g : Over) (c : After-write_reaction g) → c.write_reaction.new.self.fixed ≡ c.self.inside.kept.fixed
stays g c = c.write_reaction.ensures.fixed ∙ c.pass.ensures.fixed

-- what is written and counted of the values, over the tables before the pass
abbrev is_written : (g : Over) → After-write_reaction g → List Obs → Type 0
is_written g c seen = Writes (g.S.Sink.state c.args.out.now) (g.S.Sink.state c.write_reaction.new.out) (text (c.header-header.result ∷ seen)) c.write_reaction.result

abbrev is_counted : (g : Over) → After-write_reaction g → List Obs → Type 0
is_counted g c seen = c.write_reaction.new.self.store ≡ tallied c.pass.new.self.store (c.header-header.result ∷ seen)

written_here : (g : Over) (c : After-write_reaction g) → IfSeen c.self.inside.kept.fixed c.pass.new.self.store c.index-row.result.now (is_written g c)
written_here g c = subst (λ (x : Fixed). IfSeen x c.pass.new.self.store c.index-row.result.now (is_written g c)) c.pass.ensures.fixed c.write_reaction.ensures.written

counted_here : (g : Over) (c : After-write_reaction g) → IfSeen c.pass.new.self.fixed c.pass.new.self.store c.index-row.result.now (is_counted g c)
    → IfSeen c.self.inside.kept.fixed c.pass.new.self.store c.index-row.result.now (is_counted g c)
counted_here g c h = subst (λ (x : Fixed). IfSeen x c.pass.new.self.store c.index-row.result.now (is_counted g c)) c.pass.ensures.fixed h

pub finish-requires-clause-seated : goal.finish-requires-clause-seated
finish-requires-clause-seated g c =
    subst (λ (x : Fixed). AreSeated x c.pass.new.lib) (sym (stays g (goal.at.finish-requires-clause-seated g c).After-write_reaction)) c.pass.ensures.seated

pub finish-requires-clause-row : goal.finish-requires-clause-row
finish-requires-clause-row g c =
    let at = goal.at.finish-requires-clause-row g c in
    let row = c.index-row.result.now in
    subst (λ (x : Fixed). IsReadyRow x row) (sym (stays g at.After-write_reaction)) (ready_row c.args.self.now (view g at.After-index-row) c.args.source row (entered g at.After-index-row))

pub finish-requires-clause-begun : goal.finish-requires-clause-begun
finish-requires-clause-begun g c =
    let f = c.self.inside.kept.fixed in
    let t = c.pass.new.self.store in
    let u = c.write_reaction.new.self.store in
    let row = c.index-row.result.now in
    subst (λ (x : Fixed). KeepsBegun x row u) (sym (stays g (goal.at.finish-requires-clause-begun g c).After-write_reaction))
    (begun_behind f row t u (kept_counts t u c.write_reaction.ensures.same).marks c.pass.ensures.kept)

pub finish-requires-clause-may_step : goal.finish-requires-clause-may_step
finish-requires-clause-may_step g c =
    let at = goal.at.finish-requires-clause-may_step g c in
    let r = c.args.self.now in
    let v = view g at.After-index-row in
    let k = c.args.source in
    let row = c.index-row.result.now in
    let e = entered g at.After-index-row in
    let st = c.requires.shown.0 in
    let shows = c.requires.shown.1 in
    let s = shown_entered r v k row e _ st shows in
    let f = v.fixed in
    let from = source_of f.net k in
    let t = c.pass.new.self.store in
    let none = none_of c.pass.result c.in_default.not-Some in
    let passed = c.pass.ensures.passed from st.memory (source_free r v k row e) (row_of_source r v k row e) s.memory s.in_range in
    let valued : IsValued f c.args.ins.now from st.memory v.store t c.args.lib.now c.pass.new.lib =
    subst (λ (x : Option (ℕ × StopWord)). IsPassed f c.args.ins.now from st.memory v.store t c.args.lib.now c.pass.new.lib x) none passed in
    let u = c.write_reaction.new.self.store in
    let kept = kept_counts t u c.write_reaction.ensures.same in
    let may = may_step r v k row e c.args.ins.now st t _ _ shows valued in
    subst (λ (x : Fixed). MayStep x c.args.ins.now u c.pass.new.lib) (sym (stays g at.After-write_reaction)) (record {
      values = range_alike f t u kept may.values;
      masks = masks_alike f t u kept may.masks;
      sensed = sensed_alike f t u kept c.args.ins.now may.sensed;
      states = may.states;
    })

pub finish-requires-clause-date : goal.finish-requires-clause-date
finish-requires-clause-date g c =
    let same = same_now g (goal.at.finish-requires-clause-date g c).After-index-row in omega (arith, same, c.requires.date)

pub finish-requires-clause-keeps : goal.finish-requires-clause-keeps
finish-requires-clause-keeps g c =
    let at = goal.at.finish-requires-clause-keeps g c in
    let r = c.args.self.now in
    let v = view g at.After-index-row in
    let k = c.args.source in
    let row = c.index-row.result.now in
    let e = entered g at.After-index-row in
    let st = c.requires.shown.0 in
    let shows = c.requires.shown.1 in
    let s = shown_entered r v k row e _ st shows in
    let back : v.now ≡ v.now - v.offset + v.offset = omega (arith, s.pending.past) in
    let keeps = subst (λ (d : ℕ). Keeps v.fixed.net v.offset d v.wheel.meaning v.wheel.puts st.pending) back s.pending in
    let stayed = sym (stays g at.After-write_reaction) in
    (v.offset, st.pending, subst (λ (x : Fixed). Keeps x.net v.offset (v.now - v.offset + v.offset) v.wheel.meaning v.wheel.puts st.pending) stayed keeps)

pub returns-in_err-write_reaction-clause-reacted : goal.returns-in_err-write_reaction-clause-reacted
returns-in_err-write_reaction-clause-reacted g c st shows =
    let at = goal.at.returns-in_err-write_reaction-clause-reacted g c in
    let r = c.args.self.now in
    let v = view g at.After-index-row in
    let k = c.args.source in
    let row = c.index-row.result.now in
    let e = entered g at.After-index-row in
    let s = shown_entered r v k row e _ st shows in
    let f = v.fixed in
    let from = source_of f.net k in
    let t = c.pass.new.self.store in
    let none = none_of c.pass.result c.in_default.not-Some in
    let passed = c.pass.ensures.passed from st.memory (source_free r v k row e) (row_of_source r v k row e) s.memory s.in_range in
    let valued : IsValued f c.args.ins.now from st.memory v.store t c.args.lib.now c.pass.new.lib =
    subst (λ (x : Option (ℕ × StopWord)). IsPassed f c.args.ins.now from st.memory v.store t c.args.lib.now c.pass.new.lib x) none passed in
    let next = some_next f.net st.memory from valued.y in
    let among = among_row f from row (row_of_source r v k row e) c.args.ins.now st v.store t _ _ valued in
    let seen = values_seen f.net v.now from valued.y valued.active in
    let wrote = values_written g at.After-write_reaction (blocks_seen 1 f.net.specs valued.y valued.active) (written_here g at.After-write_reaction from valued.y valued.active valued.shown among) in
    let q = c.from_residual-in_err-write_reaction.result in
    let o = Leads seen (after_reaction f.net v.now st valued.y valued.active next.0) in (
      o,
      outcome_in r (stood r v k row e) (stood_is r v k row e) c.args.ins.now k st o (outcome_here f from c.args.ins.now st v.store t _ _ valued v.now next.0 next.1),
      err_writes (text seen) c.write_reaction.result q _ _ c.in_err-write_reaction.was (err_of q c.from_residual-in_err-write_reaction.ensures.0).1 wrote,
      if_err q _ c.from_residual-in_err-write_reaction.ensures.0,
    )

pub returns-clause-reacted : goal.returns-clause-reacted
returns-clause-reacted g c st shows =
    let at = goal.at.returns-clause-reacted g c in
    let r = c.args.self.now in
    let v = view g at.After-index-row in
    let k = c.args.source in
    let row = c.index-row.result.now in
    let e = entered g at.After-index-row in
    let s = shown_entered r v k row e _ st shows in
    let f = v.fixed in
    let from = source_of f.net k in
    let t = c.pass.new.self.store in
    let none = none_of c.pass.result c.in_default.not-Some in
    let passed = c.pass.ensures.passed from st.memory (source_free r v k row e) (row_of_source r v k row e) s.memory s.in_range in
    let valued : IsValued f c.args.ins.now from st.memory v.store t c.args.lib.now c.pass.new.lib =
    subst (λ (x : Option (ℕ × StopWord)). IsPassed f c.args.ins.now from st.memory v.store t c.args.lib.now c.pass.new.lib x) none passed in
    let u = c.write_reaction.new.self.store in
    let w = c.finish.new.kept.store in
    let among = among_row f from row (row_of_source r v k row e) c.args.ins.now st v.store t _ _ valued in
    let kept = kept_counts t u c.write_reaction.ensures.same in
    let shown = shown_alike f t u kept from valued.y valued.active valued.shown in
    let before = before_alike f t u kept _ st.memory (before_here f from e.ready.frame c.args.ins.now st.memory v.store t _ _ valued s.memory) in
    let mid = c.write_reaction.new.self in
    let stayed = stays g at.After-write_reaction in
    let steps = subst (λ (x : Fixed). Steps x row u w c.pass.new.lib c.finish.new.lib) stayed c.finish.ensures.stepped in
    let step = steps from st.memory valued.y valued.active valued.active_are shown among before s.in_range in
    let programs = subst (λ (x : Fixed). ProgramsNext (record mid { fixed = x }) row.blocks (v.now - v.offset) v.wheel.meaning v.wheel.puts c.finish.new.agenda.meaning c.finish.new.agenda.puts)
    stayed c.finish.ensures.programmed in
    let back : v.now ≡ v.now - v.offset + v.offset = omega (arith, s.pending.past) in
    let due = programs from valued.y valued.active shown among v.offset st.pending (subst (λ (d : ℕ). Keeps f.net v.offset d v.wheel.meaning v.wheel.puts st.pending) back s.pending) in
    let keeps = subst (λ (d : ℕ). Keeps f.net v.offset d c.finish.new.agenda.meaning c.finish.new.agenda.puts (next_pending f.net d valued.y valued.active st.pending)) (sym back) due in
    let blocks = blocks_seen 1 f.net.specs valued.y valued.active in
    let seen = values_seen f.net v.now from valued.y valued.active in
    let wrote = values_written g at.After-write_reaction blocks (written_here g at.After-write_reaction from valued.y valued.active valued.shown among) in
    let counted = subst (λ (x : Obs). u ≡ tallied t (x ∷ blocks)) c.header-header.ensures (counted_here g at.After-write_reaction c.in_ok-write_reaction.ensures.counted from valued.y valued.active valued.shown among) in
    let o = Leads seen (after_reaction f.net v.now st valued.y valued.active step.memory) in (
      o,
      outcome_in r (stood r v k row e) (stood_is r v k row e) c.args.ins.now k st o (outcome_here f from c.args.ins.now st v.store t _ _ valued v.now step.memory step.next),
      ok_writes (text seen) c.write_reaction.result c.in_ok-write_reaction.field-0 None c.in_ok-write_reaction.was wrote,
      reacted_cleared r (stood r v k row e) v.store (stood_is r v k row e) e.marks _ k row (row_now g at.After-index-row) w _ c.finish.new.agenda.meaning c.finish.new.agenda.puts o None (record {
        stops = refl;
        leads = (
          shows_after f from c.args.ins.now st v.store t w _ _ _ _ _ _ _ v.offset v.now valued s step (subst (λ (x : Fixed). AreSeated x c.finish.new.lib) stayed c.finish.ensures.seated) c.finish.ensures.counts keeps,
          record { y = valued.y; shown = shown_marks f from u w valued.y valued.active c.finish.ensures.values.values c.finish.ensures.values.marks shown; among = among },
        );
        tallied = record {
          lines = c.finish.ensures.values.lines ∙ ap (λ (x : Standing). x.lines) counted ∙ ap (λ (n : ℕ). lines_after n (length seen)) c.pass.ensures.lines;
          sum = c.finish.ensures.values.sum ∙ ap (λ (x : Standing). x.sum) counted ∙ ap (λ (n : ℕ). sum_of n seen) c.pass.ensures.sum;
        };
      }),
    )

pub returns-clause-halted : goal.returns-clause-halted
returns-clause-halted g c none after marks =
    let at = goal.at.returns-clause-halted g c in
    let r = c.args.self.now in
    let v = view g at.After-index-row in
    let k = c.args.source in
    let row = c.index-row.result.now in
    let e = entered g at.After-index-row in
    halted_in r (stood r v k row e) (stood_is r v k row e) k row e.row_is (ready_row r v k row e) c.finish.new.kept.store after c.halts-self-inside.result marks
    (subst (λ (bs : List ℕ). TellsHalt v.fixed c.finish.new.kept.store bs c.halts-self-inside.result) (c.deref.ensures.value ∙ ap (λ (r : ReadyRow). r.halts) c.row.view_is)
    (subst (λ (x : Fixed). TellsHalt x c.finish.new.kept.store c.deref.result.now c.halts-self-inside.result)
    (c.finish.ensures.fixed ∙ stays g at.After-write_reaction) c.halts-self-inside.ensures))

pub halts-self-inside-requires : goal.halts-self-inside-requires
halts-self-inside-requires g c =
    let at = goal.at.halts-self-inside-requires g c in
    let f = c.self.inside.kept.fixed in
    let row = c.index-row.result.now in
    let ready = ready_row c.args.self.now (view g at.After-index-row) c.args.source row (entered g at.After-index-row) in
    subst (λ (x : Fixed). AreBlocksByNumber x.net c.deref.result.now) (sym (c.finish.ensures.fixed ∙ stays g at.After-write_reaction))
    (subst (AreBlocksByNumber f.net) (sym (c.deref.ensures.value ∙ ap (λ (r : ReadyRow). r.halts) c.row.view_is)) (halts_by_number f row ready))

-- ---- what stays

pub returns-in_err-observe-clause-rest : goal.returns-in_err-observe-clause-rest
returns-in_err-observe-clause-rest g c =
    let at = (goal.at.returns-in_err-observe-clause-rest g c).After-index-row in
    let k = c.observe.new.self in
    rest_stays c.args.self.now (view g at) c.args.source c.index-row.result.now (entered g at) k.fixed k.store _ _ (c.observe.ensures.fixed ∙ c.pass.ensures.fixed)

pub returns-in_err-observe-2-clause-rest : goal.returns-in_err-observe-2-clause-rest
returns-in_err-observe-2-clause-rest g c =
    let at = (goal.at.returns-in_err-observe-2-clause-rest g c).After-index-row in
    let k = c.observe-in-Some.new.self in
    rest_stays c.args.self.now (view g at) c.args.source c.index-row.result.now (entered g at) k.fixed k.store _ _
    (c.observe-in-Some.ensures.fixed ∙ (c.observe.ensures.fixed ∙ c.pass.ensures.fixed))

pub returns-in-Some-clause-rest : goal.returns-in-Some-clause-rest
returns-in-Some-clause-rest g c =
    let at = (goal.at.returns-in-Some-clause-rest g c).After-index-row in
    let k = c.observe-in-Some.new.self in
    rest_stays c.args.self.now (view g at) c.args.source c.index-row.result.now (entered g at) k.fixed k.store _ _
    (c.observe-in-Some.ensures.fixed ∙ (c.observe.ensures.fixed ∙ c.pass.ensures.fixed))

pub returns-in_err-write_reaction-clause-rest : goal.returns-in_err-write_reaction-clause-rest
returns-in_err-write_reaction-clause-rest g c =
    let at = goal.at.returns-in_err-write_reaction-clause-rest g c in
    let k = c.write_reaction.new.self in
    rest_stays c.args.self.now (view g at.After-index-row) c.args.source c.index-row.result.now (entered g at.After-index-row) k.fixed k.store _ _ (stays g at.After-write_reaction)

pub returns-clause-rest : goal.returns-clause-rest
returns-clause-rest g c =
    let at = goal.at.returns-clause-rest g c in
    let k = c.finish.new.kept in
    rest_stays c.args.self.now (view g at.After-index-row) c.args.source c.index-row.result.now (entered g at.After-index-row) k.fixed k.store _ _
    (c.finish.ensures.fixed ∙ stays g at.After-write_reaction)

pub invariant_of-self : goal.invariant_of-self
invariant_of-self g c =
    let at = (goal.at.invariant_of-self g c).After-index-row in
    let k = c.observe.new.self in
    let marks = ap (λ (s : Standing). s.marks) c.in_err-observe.ensures.kept in
    ready_reacted c.args.self.now (view g at) c.args.source c.index-row.result.now (entered g at) k.fixed k.store c.self.inside.wheel c.self.inside.halted (c.observe.ensures.fixed ∙ c.pass.ensures.fixed)
    (begun_behind c.self.inside.kept.fixed c.index-row.result.now c.pass.new.self.store k.store marks c.pass.ensures.kept)

pub invariant_of-self-in_err-observe-2 : goal.invariant_of-self-in_err-observe-2
invariant_of-self-in_err-observe-2 g c =
    let at = (goal.at.invariant_of-self-in_err-observe-2 g c).After-index-row in
    let k = c.observe-in-Some.new.self in
    let marks = ap (λ (s : Standing). s.marks) c.in_err-observe-2.ensures.kept ∙ ap (λ (s : Standing). s.marks) c.in_ok-observe.ensures.counted in
    ready_reacted c.args.self.now (view g at) c.args.source c.index-row.result.now (entered g at) k.fixed k.store c.self.inside.wheel c.self.inside.halted
    (c.observe-in-Some.ensures.fixed ∙ (c.observe.ensures.fixed ∙ c.pass.ensures.fixed))
    (begun_behind c.self.inside.kept.fixed c.index-row.result.now c.pass.new.self.store k.store marks c.pass.ensures.kept)

pub invariant_of-self-in-Some : goal.invariant_of-self-in-Some
invariant_of-self-in-Some g c =
    let at = (goal.at.invariant_of-self-in-Some g c).After-index-row in
    let k = c.observe-in-Some.new.self in
    let marks = ap (λ (s : Standing). s.marks) c.in_ok-observe-2.ensures.counted ∙ ap (λ (s : Standing). s.marks) c.in_ok-observe.ensures.counted in
    ready_reacted c.args.self.now (view g at) c.args.source c.index-row.result.now (entered g at) k.fixed k.store c.self.inside.wheel c.self.inside.halted
    (c.observe-in-Some.ensures.fixed ∙ (c.observe.ensures.fixed ∙ c.pass.ensures.fixed))
    (begun_behind c.self.inside.kept.fixed c.index-row.result.now c.pass.new.self.store k.store marks c.pass.ensures.kept)

pub invariant_of-self-in_err-write_reaction : goal.invariant_of-self-in_err-write_reaction
invariant_of-self-in_err-write_reaction g c =
    let at = goal.at.invariant_of-self-in_err-write_reaction g c in
    let k = c.write_reaction.new.self in
    let t = c.pass.new.self.store in
    ready_reacted c.args.self.now (view g at.After-index-row) c.args.source c.index-row.result.now (entered g at.After-index-row) k.fixed k.store c.self.inside.wheel c.self.inside.halted
    (stays g at.After-write_reaction)
    (begun_behind c.self.inside.kept.fixed c.index-row.result.now t k.store (kept_counts t k.store c.write_reaction.ensures.same).marks c.pass.ensures.kept)

pub invariant_of-self-2 : goal.invariant_of-self-2
invariant_of-self-2 g c =
    let at = goal.at.invariant_of-self-2 g c in
    let k = c.finish.new.kept in
    let t = c.pass.new.self.store in
    let u = c.write_reaction.new.self.store in
    ready_reacted c.args.self.now (view g at.After-index-row) c.args.source c.index-row.result.now (entered g at.After-index-row) k.fixed k.store c.finish.new.agenda c.halts-self-inside.result
    (c.finish.ensures.fixed ∙ stays g at.After-write_reaction)
    (begun_behind c.self.inside.kept.fixed c.index-row.result.now t k.store (c.finish.ensures.values.marks ∙ (kept_counts t u c.write_reaction.ensures.same).marks) c.pass.ensures.kept)
