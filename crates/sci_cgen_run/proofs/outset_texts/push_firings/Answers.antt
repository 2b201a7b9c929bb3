use Rattle.std.proofs.Common.{arith, rules, w64, to_z, of_z, ◌≡◌, ◌<◌, ◌-◌, ℤ, suc, length, refl, sym, ap, ◌∙◌}
use Rattle.std.proofs.lemmas.Int.{to_z-of_z}
use Rattle.sci_net.specs.Sources.{sources_of, source_of}
use Rattle.sci_cgen_blocks.proofs.Written.{joined_done}
use Rattle.sci_program.specs.Program.{source_begun, port_count, programmed_before, firing_at}
use Rattle.sci_cgen_run.proofs.OutsetLemmas.{behind_all, count_more, source_more, count_few}
use Rattle.sci_cgen_run.proofs.outset_texts.push_firings.Goals as goal

pub loop-source-init : goal.loop-source-init
loop-source-init c = record { least = omega arith; most = omega arith; counted = refl; text = sym (joined_done _) }

pub counted-count-requires : goal.counted-count-requires
counted-count-requires c =
    let within : c.loop-source.source < length (sources_of c.args.net.now) = omega (arith, c.loop-source-test.true) in
    count_few c.args.net.now c.well_formed-2.ensures c.loop-source.source c.loop-source.count within c.loop-source.invariant.counted

pub loop-source-preserved : goal.loop-source-preserved
loop-source-preserved c =
    let z : ℤ = to_z w64 (of_z w64 c.firing-firing.result) in
    let is : to_z w64 (of_z w64 c.firing-firing.result) ≡ firing_at c.args.net.now (source_of c.args.net.now c.loop-source.source) =
    to_z-of_z w64 c.firing-firing.result (search rules) ∙ c.firing-firing.ensures in
    record {
      least = omega arith;
      most = omega (arith, c.loop-source-test.true);
      counted = count_more c.args.net.now c.loop-source.source c.loop-source.count _ z c.loop-source.invariant.counted is c.counted-count.ensures;
      text = source_more c.args.net.now c.loop-source.source c.loop-source.count z _ _ _ c.loop-source.invariant.least c.loop-source.invariant.counted is
          c.in_ok-push_firing.ensures c.loop-source.invariant.text;
    }

pub returns-clause-count : goal.returns-clause-count
returns-clause-count c =
    let same : c.loop-source.source ≡ length (sources_of c.args.net.now) = omega (arith, c.loop-source.invariant.most) in
    c.loop-source.invariant.counted ∙ ap (programmed_before c.args.net.now) same

pub returns-clause-text : goal.returns-clause-text
returns-clause-text c =
    let same : c.loop-source.source - 1 ≡ port_count c.args.net.now = omega (arith, c.loop-source.invariant.most) in
    behind_all (λ k. source_begun c.args.net.now (suc k)) (c.loop-source.source - 1) (port_count c.args.net.now) _ _ _ c.loop-source.invariant.text same refl
