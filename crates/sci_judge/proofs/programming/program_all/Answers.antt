use Rattle.std.proofs.Common.{◌≡◌, ℕ, List, length, take, get_or, ◌∙◌, ap, subst, sym, arith, take_all, refl}
use Rattle.sci_pending.specs.Pending.{Pending}
use Rattle.sci_net.specs.Sources.{sources_of}
use Rattle.sci_reaction.specs.Equations.{AreInRange}
use Rattle.sci_places.specs.Flat.{values_at}
use Rattle.sci_events.specs.Events.{Waiting}
use Rattle.sci_store.specs.Frame.{Fixed, AreSeated}
use Rattle.sci_store.specs.Store.{Standing}
use Rattle.sci_store.specs.Delays.{delays_in}
use Rattle.sci_judge.specs.Programming.{IsDelayed, with_source, with_sources}
use Rattle.sci_judge.proofs.Programs.{source_few, sources_more}
use Rattle.sci_judge.proofs.programming.program_all.Goals as goal

pub loop-source-init : goal.loop-source-init
loop-source-init g c = record { kept = refl; few = omega arith; same = refl; room = refl; fixed = refl }

pub program_source-requires-clause-seated : goal.program_source-requires-clause-seated
program_source-requires-clause-seated g c = subst (λ (x : Fixed). AreSeated x c.args.lib.now) (sym c.loop-source.invariant.fixed) c.requires.seated

pub program_source-requires-clause-source : goal.program_source-requires-clause-source
program_source-requires-clause-source g c =
    subst (λ (x : Fixed). IsDelayed x.net (get_or c.args.sources.now c.loop-source.source-index 0)) (sym c.loop-source.invariant.fixed)
    (c.requires.delayed c.loop-source.source-index 0 c.loop-source-test.true)

pub program_source-requires-clause-values : goal.program_source-requires-clause-values
program_source-requires-clause-values g c =
    subst (λ (x : Fixed). AreInRange x.net (values_at x.net c.loop-source.kept.store.values)) (sym c.loop-source.invariant.fixed)
    (subst (λ (s : Standing). AreInRange c.args.kept.now.fixed.net (values_at c.args.kept.now.fixed.net s.values)) (sym c.loop-source.invariant.same) c.requires.values)

pub program_source-requires-clause-sources : goal.program_source-requires-clause-sources
program_source-requires-clause-sources g c =
    ap (λ (w : Waiting). w.sources) c.loop-source.invariant.kept ∙ (c.requires.sources ∙ ap (λ (x : Fixed). length (sources_of x.net)) (sym c.loop-source.invariant.fixed))

pub program_source-requires-clause-few : goal.program_source-requires-clause-few
program_source-requires-clause-few g c = omega (arith, c.loop-source.invariant.few, c.loop-source-test.true, c.requires.few)

pub loop-source-preserved : goal.loop-source-preserved
loop-source-preserved g c =
    let n = c.args.kept.now.fixed.net in
    let f = c.args.kept.now.fixed in
    let ks = c.args.sources.now in
    let i = c.loop-source.source-index in
    let k = get_or ks i 0 in
    let old = c.args.kept.now.store in
    let mid = c.loop-source.kept.store in
    let p = c.args.events.now.pending in
    let before : Pending = with_sources n c.args.date (delays_in f old) (take i ks) p in
    let moved : c.program_source.new.events ≡ record c.loop-source.events { pending = with_source n c.args.date (delays_in f old) k c.loop-source.events.pending } =
    c.program_source.ensures.programmed
    ∙ ap (λ (x : Fixed). let y : Waiting = record c.loop-source.events { pending = with_source x.net c.args.date (delays_in x mid) k c.loop-source.events.pending } in y) c.loop-source.invariant.fixed
    ∙ ap (λ (s : Standing). let x : Waiting = record c.loop-source.events { pending = with_source n c.args.date (delays_in f s) k c.loop-source.events.pending } in x) c.loop-source.invariant.same in
    record {
      kept = moved
          ∙ (ap (λ (w : Waiting). let x : Waiting = record w { pending = with_source n c.args.date (delays_in f old) k w.pending } in x) c.loop-source.invariant.kept
          ∙ ap (λ (q : Pending). let x : Waiting = record c.args.events.now { pending = q } in x) (sources_more n c.args.date (delays_in f old) ks i p c.loop-source-test.true));
      few = (let step = source_few n c.args.date k (delays_in f old) c.loop-source.events.pending in
          let same = ap (λ (w : Waiting). w.pending.programmed) moved in
          let low = c.loop-source.invariant.few in omega (arith, step, same, low));
      same = c.program_source.ensures.same
          ∙ ap (λ (s : Standing). let x : Standing = record s { room = c.program_source.new.kept.store.room } in x) c.loop-source.invariant.same;
      room = c.program_source.ensures.room ∙ c.loop-source.invariant.room;
      fixed = c.program_source.ensures.fixed ∙ c.loop-source.invariant.fixed;
    }

pub returns-clause-programmed : goal.returns-clause-programmed
returns-clause-programmed g c =
    c.loop-source.invariant.kept
    ∙ ap (λ (ks : List ℕ). let x : Waiting = record c.args.events.now { pending = with_sources c.args.kept.now.fixed.net c.args.date (delays_in c.args.kept.now.fixed c.args.kept.now.store) ks c.args.events.now.pending } in x)
    (take_all c.loop-source.source-index c.args.sources.now c.loop-source-test.false)

pub returns-clause-same : goal.returns-clause-same
returns-clause-same g c = c.loop-source.invariant.same

pub returns-clause-room : goal.returns-clause-room
returns-clause-room g c = c.loop-source.invariant.room

pub returns-clause-fixed : goal.returns-clause-fixed
returns-clause-fixed g c = c.loop-source.invariant.fixed
