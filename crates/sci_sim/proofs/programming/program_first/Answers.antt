use Rattle.std.proofs.Common.{ℤ, ◌<◌, length, w64, ◌∙◌, ap, subst, rules, arith}
use Rattle.std.proofs.lemmas.Int.{to_z-of_z}
use Rattle.sci_net.specs.Sources.{sources_of}
use Rattle.sci_pending.specs.Pending.{Pending}
use Rattle.sci_run.specs.Programs.{with_delay}
use Rattle.sci_sim.specs.Programming.{Keeps}
use Rattle.sci_sim.proofs.Programs.{first_to, first_more}
use Rattle.sci_sim.proofs.programming.program_first.Goals as goal

pub loop-source-preserved : goal.loop-source-preserved
loop-source-preserved g c =
    let n = c.args.net.now in
    let k = c.loop-source.source in
    let within : k < length (sources_of n) = let e = c.loop-source.invariant.end in let t = c.loop-source-test.true in omega arith in
    let is = ap (λ (d : ℤ). with_delay 0 k d (first_to n k)) (to_z-of_z w64 c.firing.result (search rules) ∙ c.firing.ensures.value) ∙ first_more n k within in
    record {
      end = c.loop-source.invariant.end;
      kept = subst (λ (p : Pending). Keeps n 0 0 (g.A.Agenda.meaning c.program.new.agenda) (g.A.Agenda.puts c.program.new.agenda) p) is
          (c.program.ensures n 0 (first_to n k) c.loop-source.invariant.kept);
    }
