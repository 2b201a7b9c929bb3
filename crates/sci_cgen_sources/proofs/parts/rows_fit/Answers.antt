use Rattle.std.proofs.Common.{arith, ◌<◌, ◌≤◌, length, refl}
use Rattle.sci_sched.specs.Plain.{rows_of}
use Rattle.sci_cgen_sources.proofs.PartLemmas.{fit_more, all_fit}
use Rattle.sci_cgen_sources.proofs.parts.rows_fit.Goals as goal

pub loop-source-init : goal.loop-source-init
loop-source-init c = record { fits = refl; within = omega arith }

pub loop-source-preserved : goal.loop-source-preserved
loop-source-preserved c =
    let within : c.loop-source.source < length (rows_of c.args.schedule.now) = omega (arith, c.requires, c.loop-source-test.true) in
    record {
      fits = fit_more (rows_of c.args.schedule.now) c.loop-source.source _ _ _ _ _ _ _ within c.row.ensures c.entry_count-entries.ensures c.still_fits-fits.ensures
          c.lessened-left.ensures c.loop-source.invariant.fits;
      within = omega (arith, within);
    }

pub returns : goal.returns
returns c =
    let most : length (rows_of c.args.schedule.now) ≤ c.loop-source.source = omega (arith, c.requires, c.loop-source-test.false) in
    all_fit (rows_of c.args.schedule.now) c.loop-source.source _ _ _ most c.loop-source.invariant.fits
