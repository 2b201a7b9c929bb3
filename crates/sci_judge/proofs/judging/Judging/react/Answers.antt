use Rattle.std.proofs.Common.{◌≡◌, ◌<◌, ◌+◌, ◌^◌, ℕ, length, Option, Some, None, true, false, ℤ, pos, List, [], ◌∷◌, ◌++◌, refl, ap, sym, ◌∙◌, arith, subst, Contains, Ok, append-nil}
use Rattle.std.proofs.lemmas.Int.{ints}
use mir.Val.{to_z, of_z}
use mir.Syntax.{w64}
use Rattle.sci_base.specs.declared.observation.Obs.{Obs}
use Rattle.sci_base.specs.declared.observation.Obs.TheVariants.{Stop}
use Rattle.sci_net.specs.Parts.{IsBlock}
use Rattle.sci_base.specs.declared.observation.StopWord.{StopWord}
use Rattle.sci_net.specs.declared.Source.{Source}
use Rattle.sci_net.specs.Sources.{sources_of, source_of}
use Rattle.sci_reaction.specs.Depends.{IsLoopFree}
use Rattle.sci_reaction.specs.Memory.{Memory, IsMemory, AreColumns}
use Rattle.sci_trace.specs.Lines.{line, text}
use Rattle.sci_io.specs.Taken.{Writes}
use Rattle.sci_io.proofs.Advance.{stopped, then_writes, same_text}
use Rattle.sci_reaction.proofs.Next.{some_next}
use Rattle.sci_run.specs.Observed.{header, stop_seen, values_seen, blocks_seen}
use Rattle.sci_run.specs.Run.{State, StopsWith, Leads, after_reaction}
use Rattle.sci_store.specs.Frame.{Fixed, AreSeated}
use Rattle.sci_store.specs.Marks.{mark_at, idle}
use Rattle.sci_store.specs.Rows.{IsRowOf, IsReadyRow, HasBegun, KeepsBegun}
use Rattle.sci_store.specs.Runs.{MayStep}
use Rattle.sci_store.specs.Store.{Standing, ShowsMemory}
use Rattle.sci_store.specs.Written.{IsPlain}
use Rattle.sci_lines.specs.Lines.{IsHeader}
use Rattle.sci_store.proofs.Reacting.{kept_counts, shown_alike, before_alike, before_here, outcome_here, shown_marks}
use Rattle.sci_store.proofs.StateRuns.{begun_behind}
use Rattle.sci_store.specs.Reaction.{Passes, IfSeen, Steps}
use Rattle.sci_judge.specs.Programming.{AreSourcesOf, ProgramsNext}
use Rattle.sci_judge.specs.Reacting.{Shows, AreMarksOf, blocks_at}
use Rattle.sci_judge.proofs.Reacting.{IsPlanned, planned, shows_marked, some_outcome, among_row, may_step, may_step_alike, shows_after, header_is, plain_is, sound_on}
use Rattle.sci_judge.proofs.Sinking.{err_of, if_err, ok_writes, err_writes}
use Rattle.sci_judge.proofs.judging.Judging.react.Given.{Over}
use Rattle.sci_judge.proofs.judging.Judging.react.Goals as goal
use Rattle.sci_judge.proofs.judging.Judging.react.Goals.{After-index-plan, After-begin_row, After-header-header, After-pass, After-observe, After-write_reaction}

-- the plan of the source
plan_read : (g : Over) (c : After-index-plan g) → IsPlanned c.args.self.now.kept.fixed c.args.self.now.plans.items c.args.firing.source c.index-plan.result.now
plan_read g c =
    planned c.args.self.now.kept.fixed c.args.self.now.plans.items c.requires.sound.plans_are c.args.firing.source c.requires.source c.index-plan.result.now c.index-plan.ensures

-- its row is begun
begun : (g : Over) (c : After-begin_row g) (st : State) → Shows c.args.self.now.kept.fixed c.args.self.now.kept.store c.args.lib.now c.args.self.now.events.pending st
    → Shows c.args.self.now.kept.fixed c.begin_row.new.self.store c.args.lib.now c.args.self.now.events.pending st
begun g c st shows = shows_marked c.args.self.now.kept.fixed c.args.self.now.kept.store c.begin_row.new.self.store _ c.args.self.now.events.pending st c.begin_row.ensures.rest shows

pub begin_row-requires-clause-row : goal.begin_row-requires-clause-row
begin_row-requires-clause-row g c = (plan_read g (goal.at.begin_row-requires-clause-row g c).After-index-plan).ready

pub header-header-requires-clause-source : goal.header-header-requires-clause-source
header-header-requires-clause-source g c =
    subst (λ (x : Fixed). c.args.firing.source < length (sources_of x.net)) (sym c.begin_row.ensures.fixed) c.requires.source

-- the header over the tables that stayed
header_here : (g : Over) (c : After-header-header g) → c.header-header.result ≡ header c.args.firing.date (source_of c.args.self.now.kept.fixed.net c.args.firing.source)
header_here g c = c.header-header.ensures ∙ ap (λ (x : Fixed). header c.args.firing.date (source_of x.net c.args.firing.source)) c.begin_row.ensures.fixed

pub pass-requires-clause-seated : goal.pass-requires-clause-seated
pass-requires-clause-seated g c = subst (λ (x : Fixed). AreSeated x c.args.lib.now) (sym c.begin_row.ensures.fixed) c.requires.shown.1.seated

pub pass-requires-clause-begun : goal.pass-requires-clause-begun
pass-requires-clause-begun g c =
    subst (λ (x : Fixed). HasBegun x c.index-plan.result.now.row c.begin_row.new.self.store) (sym c.begin_row.ensures.fixed) c.begin_row.ensures.begun

pub pass-requires-clause-columns : goal.pass-requires-clause-columns
pass-requires-clause-columns g c = subst (λ (x : Fixed). AreColumns x.net c.args.inputs.now) (sym c.begin_row.ensures.fixed) c.requires.columns

pub pass-requires-clause-row : goal.pass-requires-clause-row
pass-requires-clause-row g c =
    let f = c.args.self.now.kept.fixed in
    let row = c.index-plan.result.now.row in
    let p = plan_read g (goal.at.pass-requires-clause-row g c).After-index-plan in
    subst (λ (x : Fixed). (s : Source) × IsLoopFree x.net s × IsRowOf x s row) (sym c.begin_row.ensures.fixed)
    (source_of f.net c.args.firing.source, (c.well_formed-2.ensures.frame.free c.args.firing.source c.requires.source), p.plan.row)

pub pass-requires-clause-memory : goal.pass-requires-clause-memory
pass-requires-clause-memory g c =
    let s = begun g (goal.at.pass-requires-clause-memory g c).After-begin_row c.requires.shown.0 c.requires.shown.1 in
    subst (λ (x : Fixed). (m : Memory) × ShowsMemory x c.begin_row.new.self.store c.args.lib.now m × IsMemory x.net m) (sym c.begin_row.ensures.fixed)
    (c.requires.shown.0.memory, s.memory, s.in_range)

-- what the pass comes to over the tables that stayed
passed_here : (g : Over) (c : After-pass g) (stop : Option (ℕ × StopWord))
    → Passes c.begin_row.new.self.fixed c.args.inputs.now c.index-plan.result.now.row c.begin_row.new.self.store c.pass.new.self.store c.args.lib.now c.pass.new.lib stop
    → Passes c.args.self.now.kept.fixed c.args.inputs.now c.index-plan.result.now.row c.begin_row.new.self.store c.pass.new.self.store c.args.lib.now c.pass.new.lib stop
passed_here g c stop h =
    subst (λ (x : Fixed). Passes x c.args.inputs.now c.index-plan.result.now.row c.begin_row.new.self.store c.pass.new.self.store c.args.lib.now c.pass.new.lib stop)
    c.begin_row.ensures.fixed h

pub observe-requires : goal.observe-requires
observe-requires g c = subst IsPlain (sym (header_here g (goal.at.observe-requires g c).After-header-header)) (plain_is c.args.firing.date (source_of c.args.self.now.kept.fixed.net c.args.firing.source))

-- ---- marks

pass_marked : (g : Over) (c : After-pass g) (b : ℕ) → IsBlock c.args.self.now.kept.fixed.net b → (Contains (blocks_at c.args.self.now.plans.items c.args.firing.source) b → ⊥)
    → mark_at c.pass.new.self.store.marks b ≡ idle
pass_marked g c b block out =
    let p = planned c.args.self.now.kept.fixed c.args.self.now.plans.items c.requires.sound.plans_are c.args.firing.source c.requires.source c.index-plan.result.now c.index-plan.ensures in
    c.pass.ensures.kept.others b (subst (λ (x : Fixed). IsBlock x.net b) (sym c.begin_row.ensures.fixed) block)
    (λ h. out (subst (λ (bs : List ℕ). Contains bs b) (sym p.blocks_are) h))

pub returns-in_err-observe-in-Some-clause-marked : goal.returns-in_err-observe-in-Some-clause-marked
returns-in_err-observe-in-Some-clause-marked g c b block out =
    let at = goal.at.returns-in_err-observe-in-Some-clause-marked g c in
    ap (λ (s : Standing). mark_at s.marks b) c.in_err-observe-in-Some.ensures.kept ∙ pass_marked g at.After-pass b block out

pub returns-in_err-observe-in-Some-2-clause-marked : goal.returns-in_err-observe-in-Some-2-clause-marked
returns-in_err-observe-in-Some-2-clause-marked g c b block out =
    let at = goal.at.returns-in_err-observe-in-Some-2-clause-marked g c in
    ap (λ (s : Standing). mark_at s.marks b) c.in_err-observe-in-Some-2.ensures.kept ∙ (ap (λ (s : Standing). mark_at s.marks b) c.in_ok-observe-in-Some.ensures.counted
    ∙ pass_marked g at.After-pass b block out)

pub returns-in_ok-observe-in-Some-2-clause-marked : goal.returns-in_ok-observe-in-Some-2-clause-marked
returns-in_ok-observe-in-Some-2-clause-marked g c b block out =
    let at = goal.at.returns-in_ok-observe-in-Some-2-clause-marked g c in
    ap (λ (s : Standing). mark_at s.marks b) c.in_ok-observe-in-Some-2.ensures.counted ∙ (ap (λ (s : Standing). mark_at s.marks b) c.in_ok-observe-in-Some.ensures.counted
    ∙ pass_marked g at.After-pass b block out)

pub returns-in_err-write_reaction-in-None-clause-marked : goal.returns-in_err-write_reaction-in-None-clause-marked
returns-in_err-write_reaction-in-None-clause-marked g c b block out =
    let at = goal.at.returns-in_err-write_reaction-in-None-clause-marked g c in
    ap (λ (s : Standing). mark_at s.marks b) c.write_reaction.ensures.same ∙ pass_marked g at.After-pass b block out

pub returns-in_ok-write_reaction-in-None-clause-marked : goal.returns-in_ok-write_reaction-in-None-clause-marked
returns-in_ok-write_reaction-in-None-clause-marked g c b block out =
    let at = goal.at.returns-in_ok-write_reaction-in-None-clause-marked g c in
    ap (λ ms. mark_at ms b) c.finish.ensures.marks.1 ∙ (ap (λ (s : Standing). mark_at s.marks b) c.write_reaction.ensures.same
    ∙ pass_marked g at.After-pass b block out)

-- ---- a reaction that stops

header_written : (g : Over) (c : After-observe g) → Writes (g.S.Sink.state c.args.out.now) (g.S.Sink.state c.observe.new.out)
    (line (header c.args.firing.date (source_of c.args.self.now.kept.fixed.net c.args.firing.source))) c.observe.result
header_written g c =
    subst (λ (o : Obs). Writes (g.S.Sink.state c.args.out.now) (g.S.Sink.state c.observe.new.out) (line o) c.observe.result)
    (c.header-header.ensures ∙ ap (λ (x : Fixed). header c.args.firing.date (source_of x.net c.args.firing.source)) c.begin_row.ensures.fixed) c.observe.ensures.written

pub returns-in_err-observe-in-Some-clause-reacted : goal.returns-in_err-observe-in-Some-clause-reacted
returns-in_err-observe-in-Some-clause-reacted g c st shows =
    let at = goal.at.returns-in_err-observe-in-Some-clause-reacted g c in
    let f = c.args.self.now.kept.fixed in
    let date = c.args.firing.date in
    let source = source_of f.net c.args.firing.source in
    let p = plan_read g at.After-index-plan in
    let s = begun g at.After-begin_row st shows in
    let passed = passed_here g at.After-pass c.pass.result c.pass.ensures.passed source st.memory (c.well_formed-2.ensures.frame.free c.args.firing.source c.requires.source) p.plan.row s.memory s.in_range in
    let o = some_outcome f source c.args.inputs.now st c.begin_row.new.self.store c.pass.new.self.store _ _ date c.pass.result passed in (
      o.0,
      o.1,
      subst (λ (os : List Obs). Writes (g.S.Sink.state c.args.out.now) (g.S.Sink.state c.observe.new.out) (text os) c.from_residual.result) (sym o.2.1)
          (stopped (line (header date source)) (text o.2.0) c.observe.result c.from_residual.result _ _ c.in_err-observe-in-Some.was (err_of c.from_residual.result c.from_residual.ensures.0).1 (header_written g at.After-observe)),
      if_err c.from_residual.result _ c.from_residual.ensures.0,
    )

pub returns-in_err-observe-in-Some-2-clause-reacted : goal.returns-in_err-observe-in-Some-2-clause-reacted
returns-in_err-observe-in-Some-2-clause-reacted g c st shows =
    let at = goal.at.returns-in_err-observe-in-Some-2-clause-reacted g c in
    let f = c.args.self.now.kept.fixed in
    let date = c.args.firing.date in
    let source = source_of f.net c.args.firing.source in
    let p = plan_read g at.After-index-plan in
    let s = begun g at.After-begin_row st shows in
    let passed = passed_here g at.After-pass (Some (c.in-Some.block, c.in-Some.word)) c.in-Some.ensures.passed source st.memory (c.well_formed-2.ensures.frame.free c.args.firing.source c.requires.source) p.plan.row s.memory s.in_range in
    let q = c.from_residual-in_err-observe-in-Some-2.result in
    let stop = Stop c.in-Some.word (pos c.in-Some.block) (pos 0) in
    let z_is : to_z w64 (of_z w64 c.from.result) ≡ pos c.in-Some.block = omega (arith, ints) in
    let wrote = subst (λ (z : ℤ). Writes (g.S.Sink.state c.observe.new.out) (g.S.Sink.state c.observe-in-Some.new.out) (line (Stop c.in-Some.word z (pos 0))) c.observe-in-Some.result) z_is c.observe-in-Some.ensures.written in (
      StopsWith (stop_seen date source c.in-Some.block c.in-Some.word),
      record { block = c.in-Some.block; word = c.in-Some.word; result = passed.0; observed = refl },
      then_writes (line (header date source)) (line stop ++ []) c.observe.result q c.in_ok-observe-in-Some.field-0 c.in_ok-observe-in-Some.was (header_written g at.After-observe)
          (stopped (line stop) [] c.observe-in-Some.result q _ _ c.in_err-observe-in-Some-2.was (err_of q c.from_residual-in_err-observe-in-Some-2.ensures.0).1 wrote),
      if_err q _ c.from_residual-in_err-observe-in-Some-2.ensures.0,
    )

pub returns-in_ok-observe-in-Some-2-clause-reacted : goal.returns-in_ok-observe-in-Some-2-clause-reacted
returns-in_ok-observe-in-Some-2-clause-reacted g c st shows =
    let at = goal.at.returns-in_ok-observe-in-Some-2-clause-reacted g c in
    let f = c.args.self.now.kept.fixed in
    let date = c.args.firing.date in
    let source = source_of f.net c.args.firing.source in
    let p = plan_read g at.After-index-plan in
    let s = begun g at.After-begin_row st shows in
    let passed = passed_here g at.After-pass (Some (c.in-Some.block, c.in-Some.word)) c.in-Some.ensures.passed source st.memory (c.well_formed-2.ensures.frame.free c.args.firing.source c.requires.source) p.plan.row s.memory s.in_range in
    let h = header date source in
    let stop = Stop c.in-Some.word (pos c.in-Some.block) (pos 0) in
    let z_is : to_z w64 (of_z w64 c.from.result) ≡ pos c.in-Some.block = omega (arith, ints) in
    let wrote = subst (λ (z : ℤ). Writes (g.S.Sink.state c.observe.new.out) (g.S.Sink.state c.observe-in-Some.new.out) (line (Stop c.in-Some.word z (pos 0))) c.observe-in-Some.result) z_is c.observe-in-Some.ensures.written in (
      StopsWith (stop_seen date source c.in-Some.block c.in-Some.word),
      record { block = c.in-Some.block; word = c.in-Some.word; result = passed.0; observed = refl },
      then_writes (line h) (line stop ++ []) c.observe.result (Ok true) c.in_ok-observe-in-Some.field-0 c.in_ok-observe-in-Some.was (header_written g at.After-observe)
          (same_text (sym (append-nil (line stop))) (ok_writes (line stop) c.observe-in-Some.result c.in_ok-observe-in-Some-2.field-0 true c.in_ok-observe-in-Some-2.was wrote)),
      refl,
    )

-- ---- a reaction with values

pub write_reaction-requires-clause-row : goal.write_reaction-requires-clause-row
write_reaction-requires-clause-row g c =
    subst (λ (x : Fixed). IsReadyRow x c.index-plan.result.now.row) (sym (c.pass.ensures.fixed ∙ c.begin_row.ensures.fixed))
    (plan_read g (goal.at.write_reaction-requires-clause-row g c).After-index-plan).ready

pub write_reaction-requires-clause-begun : goal.write_reaction-requires-clause-begun
write_reaction-requires-clause-begun g c =
    subst (λ (x : Fixed). KeepsBegun x c.index-plan.result.now.row c.pass.new.self.store) (sym c.pass.ensures.fixed) c.pass.ensures.kept

pub write_reaction-requires-clause-header : goal.write_reaction-requires-clause-header
write_reaction-requires-clause-header g c =
    subst IsHeader (sym (header_here g (goal.at.write_reaction-requires-clause-header g c).After-header-header)) (header_is c.args.firing.date (source_of c.args.self.now.kept.fixed.net c.args.firing.source))

-- the tables stay
stays : (g : Over) (c : After-write_reaction g) → c.write_reaction.new.self.fixed ≡ c.args.self.now.kept.fixed
stays g c = c.write_reaction.ensures.fixed ∙ (c.pass.ensures.fixed ∙ c.begin_row.ensures.fixed)

-- what is written of the values, over the tables that stayed
abbrev is_written : (g : Over) → After-write_reaction g → List Obs → Type 0
is_written g c seen = Writes (g.S.Sink.state c.args.out.now) (g.S.Sink.state c.write_reaction.new.out) (text (c.header-header.result ∷ seen)) c.write_reaction.result

written_here : (g : Over) (c : After-write_reaction g) → IfSeen c.args.self.now.kept.fixed c.pass.new.self.store c.index-plan.result.now.row (is_written g c)
written_here g c =
    subst (λ (x : Fixed). IfSeen x c.pass.new.self.store c.index-plan.result.now.row (is_written g c)) (c.pass.ensures.fixed ∙ c.begin_row.ensures.fixed) c.write_reaction.ensures.written

pub finish-requires-clause-seated : goal.finish-requires-clause-seated
finish-requires-clause-seated g c =
    subst (λ (x : Fixed). AreSeated x c.pass.new.lib) (sym (c.write_reaction.ensures.fixed ∙ c.pass.ensures.fixed)) c.pass.ensures.seated

pub finish-requires-clause-row : goal.finish-requires-clause-row
finish-requires-clause-row g c =
    let at = goal.at.finish-requires-clause-row g c in
    subst (λ (x : Fixed). IsReadyRow x c.index-plan.result.now.row) (sym (stays g at.After-write_reaction)) (plan_read g at.After-index-plan).ready

pub finish-requires-clause-begun : goal.finish-requires-clause-begun
finish-requires-clause-begun g c =
    let f = c.begin_row.new.self.fixed in
    let t = c.pass.new.self.store in
    let u = c.write_reaction.new.self.store in
    let row = c.index-plan.result.now.row in
    subst (λ (x : Fixed). KeepsBegun x row u) (sym (c.write_reaction.ensures.fixed ∙ c.pass.ensures.fixed))
    (begun_behind f row t u (kept_counts t u c.write_reaction.ensures.same).marks c.pass.ensures.kept)

pub finish-requires-clause-delayed : goal.finish-requires-clause-delayed
finish-requires-clause-delayed g c =
    let at = goal.at.finish-requires-clause-delayed g c in
    let plan = c.index-plan.result.now in
    subst (λ (x : Fixed). AreSourcesOf x.net plan.row.blocks plan.sources.items) (sym (stays g at.After-write_reaction)) (plan_read g at.After-index-plan).plan.sources

pub finish-requires-clause-sources : goal.finish-requires-clause-sources
finish-requires-clause-sources g c =
    subst (λ (x : Fixed). c.args.self.now.events.sources ≡ length (sources_of x.net)) (sym (stays g (goal.at.finish-requires-clause-sources g c).After-write_reaction)) c.requires.sound.sources_are

pub finish-requires-clause-few : goal.finish-requires-clause-few
finish-requires-clause-few g c =
    subst (λ (x : Fixed). c.args.self.now.events.pending.programmed + length (sources_of x.net) < 2 ^ 63)
    (sym (stays g (goal.at.finish-requires-clause-few g c).After-write_reaction)) c.requires.few

pub finish-requires-clause-may_step : goal.finish-requires-clause-may_step
finish-requires-clause-may_step g c =
    let at = goal.at.finish-requires-clause-may_step g c in
    let f = c.args.self.now.kept.fixed in
    let source = source_of f.net c.args.firing.source in
    let st = c.requires.shown.0 in
    let p = plan_read g at.After-index-plan in
    let s = begun g at.After-begin_row st c.requires.shown.1 in
    let t = c.pass.new.self.store in
    let u = c.write_reaction.new.self.store in
    let v = passed_here g at.After-pass None c.in-None.ensures.passed source st.memory (c.well_formed-2.ensures.frame.free c.args.firing.source c.requires.source) p.plan.row s.memory s.in_range in
    subst (λ (x : Fixed). MayStep x c.args.inputs.now u c.pass.new.lib) (sym (stays g at.After-write_reaction))
    (may_step_alike f c.args.inputs.now t u _ (kept_counts t u c.write_reaction.ensures.same)
    (may_step f c.well_formed-2.ensures.frame source c.args.inputs.now st c.begin_row.new.self.store t _ _ c.args.self.now.events.pending s v))

-- the values behind the header are written
values_written : (g : Over) (c : After-write_reaction g) (seen : List Obs) → Writes (g.S.Sink.state c.args.out.now) (g.S.Sink.state c.write_reaction.new.out) (text (c.header-header.result ∷ seen)) c.write_reaction.result
    → Writes (g.S.Sink.state c.args.out.now) (g.S.Sink.state c.write_reaction.new.out)
    (text (header c.args.firing.date (source_of c.args.self.now.kept.fixed.net c.args.firing.source) ∷ seen)) c.write_reaction.result
values_written g c seen = subst (λ (o : Obs). Writes (g.S.Sink.state c.args.out.now) (g.S.Sink.state c.write_reaction.new.out) (text (o ∷ seen)) c.write_reaction.result)
    (c.header-header.ensures ∙ ap (λ (x : Fixed). header c.args.firing.date (source_of x.net c.args.firing.source)) c.begin_row.ensures.fixed)

pub returns-in_err-write_reaction-in-None-clause-reacted : goal.returns-in_err-write_reaction-in-None-clause-reacted
returns-in_err-write_reaction-in-None-clause-reacted g c st shows =
    let at = goal.at.returns-in_err-write_reaction-in-None-clause-reacted g c in
    let f = c.args.self.now.kept.fixed in
    let date = c.args.firing.date in
    let source = source_of f.net c.args.firing.source in
    let p = plan_read g at.After-index-plan in
    let s = begun g at.After-begin_row st shows in
    let t = c.pass.new.self.store in
    let v = passed_here g at.After-pass None c.in-None.ensures.passed source st.memory (c.well_formed-2.ensures.frame.free c.args.firing.source c.requires.source) p.plan.row s.memory s.in_range in
    let q = c.from_residual-in_err-write_reaction-in-None.result in
    let next = some_next f.net st.memory source v.y in
    let among = among_row f source c.index-plan.result.now.row p.plan.row c.args.inputs.now st c.begin_row.new.self.store t _ _ v in
    let seen = values_seen f.net date source v.y v.active in (
      Leads seen (after_reaction f.net date st v.y v.active next.0),
      outcome_here f source c.args.inputs.now st c.begin_row.new.self.store t _ _ v date next.0 next.1,
      err_writes (text seen) c.write_reaction.result q _ _ c.in_err-write_reaction-in-None.was (err_of q c.from_residual-in_err-write_reaction-in-None.ensures.0).1
          (values_written g at.After-write_reaction (blocks_seen 1 f.net.specs v.y v.active) (written_here g at.After-write_reaction source v.y v.active v.shown among)),
      if_err q _ c.from_residual-in_err-write_reaction-in-None.ensures.0,
    )

pub returns-in_ok-write_reaction-in-None-clause-reacted : goal.returns-in_ok-write_reaction-in-None-clause-reacted
returns-in_ok-write_reaction-in-None-clause-reacted g c st shows =
    let at = goal.at.returns-in_ok-write_reaction-in-None-clause-reacted g c in
    let f = c.args.self.now.kept.fixed in
    let i = c.args.inputs.now in
    let date = c.args.firing.date in
    let source = source_of f.net c.args.firing.source in
    let p = plan_read g at.After-index-plan in
    let s = begun g at.After-begin_row st shows in
    let r = c.begin_row.new.self.store in
    let t = c.pass.new.self.store in
    let u = c.write_reaction.new.self.store in
    let w = c.finish.new.kept.store in
    let v = passed_here g at.After-pass None c.in-None.ensures.passed source st.memory (c.well_formed-2.ensures.frame.free c.args.firing.source c.requires.source) p.plan.row s.memory s.in_range in
    let kept = kept_counts t u c.write_reaction.ensures.same in
    let shown = shown_alike f t u kept source v.y v.active v.shown in
    let among = among_row f source c.index-plan.result.now.row p.plan.row i st r t _ _ v in
    let before = before_alike f t u kept _ st.memory (before_here f source c.well_formed-2.ensures.frame i st.memory r t _ _ v s.memory) in
    let mid = c.write_reaction.new.self in
    let stayed = stays g at.After-write_reaction in
    let steps = subst (λ (x : Fixed). Steps x c.index-plan.result.now.row u w c.pass.new.lib c.finish.new.lib) stayed c.finish.ensures.stepped in
    let step = steps source st.memory v.y v.active v.active_are shown among before s.in_range in
    let programs = subst (λ (x : Fixed). ProgramsNext (record mid { fixed = x }) c.index-plan.result.now.row.blocks date c.args.self.now.events.pending c.finish.new.events.pending)
    stayed c.finish.ensures.programmed in
    let due = programs source v.y v.active shown among in
    let seen = values_seen f.net date source v.y v.active in
    let marks : AreMarksOf f source c.index-plan.result.now.row.blocks w (after_reaction f.net date st v.y v.active step.memory) =
    record { y = v.y; shown = shown_marks f source u w v.y v.active c.finish.ensures.marks.0 c.finish.ensures.marks.1 shown; among = among } in (
      Leads seen (after_reaction f.net date st v.y v.active step.memory),
      outcome_here f source i st r t _ _ v date step.memory step.next,
      ok_writes (text seen) c.write_reaction.result c.in_ok-write_reaction-in-None.field-0 false c.in_ok-write_reaction-in-None.was
          (values_written g at.After-write_reaction (blocks_seen 1 f.net.specs v.y v.active) (written_here g at.After-write_reaction source v.y v.active v.shown among)),
      (
        refl,
        shows_after f source i st r t w _ _ _ c.args.self.now.events.pending c.finish.new.events.pending date v s step (subst (λ (x : Fixed). AreSeated x c.finish.new.lib) stayed c.finish.ensures.seated) c.finish.ensures.counts due,
        subst (λ (bs : List ℕ). AreMarksOf f source bs w (after_reaction f.net date st v.y v.active step.memory)) (sym p.blocks_are) marks,
      ),
    )

-- ---- what is kept

pub returns-in_err-observe-in-Some-clause-seated : goal.returns-in_err-observe-in-Some-clause-seated
returns-in_err-observe-in-Some-clause-seated g c = subst (λ (x : Fixed). AreSeated x c.pass.new.lib) c.begin_row.ensures.fixed c.pass.ensures.seated

pub returns-in_err-observe-in-Some-2-clause-seated : goal.returns-in_err-observe-in-Some-2-clause-seated
returns-in_err-observe-in-Some-2-clause-seated g c = subst (λ (x : Fixed). AreSeated x c.pass.new.lib) c.begin_row.ensures.fixed c.pass.ensures.seated

pub returns-in_ok-observe-in-Some-2-clause-seated : goal.returns-in_ok-observe-in-Some-2-clause-seated
returns-in_ok-observe-in-Some-2-clause-seated g c = subst (λ (x : Fixed). AreSeated x c.pass.new.lib) c.begin_row.ensures.fixed c.pass.ensures.seated

pub returns-in_err-write_reaction-in-None-clause-seated : goal.returns-in_err-write_reaction-in-None-clause-seated
returns-in_err-write_reaction-in-None-clause-seated g c = subst (λ (x : Fixed). AreSeated x c.pass.new.lib) c.begin_row.ensures.fixed c.pass.ensures.seated

pub returns-in_ok-write_reaction-in-None-clause-seated : goal.returns-in_ok-write_reaction-in-None-clause-seated
returns-in_ok-write_reaction-in-None-clause-seated g c =
    subst (λ (x : Fixed). AreSeated x c.finish.new.lib) (stays g (goal.at.returns-in_ok-write_reaction-in-None-clause-seated g c).After-write_reaction) c.finish.ensures.seated

pub returns-in_err-observe-in-Some-clause-sound : goal.returns-in_err-observe-in-Some-clause-sound
returns-in_err-observe-in-Some-clause-sound g c =
    sound_on c.args.self.now _ (c.observe.ensures.fixed ∙ (c.pass.ensures.fixed ∙ c.begin_row.ensures.fixed)) refl refl c.requires.sound

pub returns-in_err-observe-in-Some-2-clause-sound : goal.returns-in_err-observe-in-Some-2-clause-sound
returns-in_err-observe-in-Some-2-clause-sound g c =
    sound_on c.args.self.now _ (c.observe-in-Some.ensures.fixed ∙ (c.observe.ensures.fixed ∙ (c.pass.ensures.fixed ∙ c.begin_row.ensures.fixed))) refl refl c.requires.sound

pub returns-in_ok-observe-in-Some-2-clause-sound : goal.returns-in_ok-observe-in-Some-2-clause-sound
returns-in_ok-observe-in-Some-2-clause-sound g c =
    sound_on c.args.self.now _ (c.observe-in-Some.ensures.fixed ∙ (c.observe.ensures.fixed ∙ (c.pass.ensures.fixed ∙ c.begin_row.ensures.fixed))) refl refl c.requires.sound

pub returns-in_err-write_reaction-in-None-clause-sound : goal.returns-in_err-write_reaction-in-None-clause-sound
returns-in_err-write_reaction-in-None-clause-sound g c =
    sound_on c.args.self.now _ (stays g (goal.at.returns-in_err-write_reaction-in-None-clause-sound g c).After-write_reaction) refl refl c.requires.sound

pub returns-in_ok-write_reaction-in-None-clause-sound : goal.returns-in_ok-write_reaction-in-None-clause-sound
returns-in_ok-write_reaction-in-None-clause-sound g c =
    sound_on c.args.self.now _ (c.finish.ensures.fixed ∙ stays g (goal.at.returns-in_ok-write_reaction-in-None-clause-sound g c).After-write_reaction) refl c.finish.ensures.same_sources
    c.requires.sound
