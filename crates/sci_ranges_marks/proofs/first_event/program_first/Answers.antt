use Rattle.std.proofs.Common.{◌≡◌, ℤ, ◌<◌, ◌+◌, length, w64, of_z, to_z, ◌∙◌, ap, rules, arith}
use Rattle.std.proofs.lemmas.Int.{to_z-of_z}
use Rattle.sci_net.specs.Sources.{sources_of}
use Rattle.sci_pending.specs.Pending.{Pending}
use Rattle.sci_run.specs.Programs.{with_delay}
use Rattle.sci_events.specs.Events.{Waiting}
use Rattle.sci_ranges_marks.proofs.FirstEvents.{first_to, first_more, first_few}
use Rattle.sci_ranges_marks.proofs.first_event.program_first.Goals as goal

pub loop-source-preserved : goal.loop-source-preserved
loop-source-preserved c =
    let n = c.args.net.now in
    let k = c.loop-source.source in
    let within : k < length (sources_of n) = let e = c.loop-source.invariant.end in let t = c.loop-source-test.true in omega (arith, e, t) in
    let d : ℤ = to_z w64 (of_z w64 c.firing.result) in
    let is : with_delay 0 k d (first_to n k) ≡ first_to n (k + 1) =
    ap (λ (x : ℤ). with_delay 0 k x (first_to n k)) (to_z-of_z w64 c.firing.result (search rules) ∙ c.firing.ensures.value) ∙ first_more n k within in
    record {
      end = c.loop-source.invariant.end;
      kept = c.program.ensures
          ∙ (ap (λ (w : Waiting). let x : Waiting = record w { pending = with_delay 0 k d w.pending } in x) c.loop-source.invariant.kept
          ∙ ap (λ (p : Pending). let x : Waiting = record c.args.events.now { pending = p } in x) is);
      few = first_few n k within c.loop-source.invariant.few;
    }
