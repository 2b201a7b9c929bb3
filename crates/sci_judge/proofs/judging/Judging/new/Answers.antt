use Rattle.std.proofs.Common.{ap, ◌∙◌, arith}
use Rattle.sci_net.specs.Parts.{Parts}
use Rattle.sci_reaction.proofs.Next.{first_in_range}
use Rattle.sci_run.specs.Programs.{first_pending}
use Rattle.sci_bank.specs.declared.instance.Instance.{Instance}
use Rattle.sci_events.specs.Events.{Waiting}
use Rattle.sci_store.proofs.Starting.{seats_are}
use Rattle.sci_judge.proofs.judging.Judging.new.Goals as goal

pub returns-clause-start : goal.returns-clause-start
returns-clause-start g c =
    let k = c.in_ok-kept.kept in
    let is = c.in_ok-kept.ensures in (
      is.untold.idle,
      record {
        seated = seats_are k.fixed _ is.full c.well_formed-3.ensures is.seated;
        memory = record {
          held = is.first.held;
          cursor = is.first.cursors;
          state = λ b block. ap (λ (r : Instance). r.state) (is.seated.rows b block);
        };
        in_range = first_in_range k.fixed.net c.well_formed-2.ensures.frame.net;
        pending_is = ap (λ (w : Waiting). w.pending) c.program_first.ensures ∙ ap (λ (n : Parts). first_pending n) c.net-2.ensures;
        counts = λ k. let none = is.seated.counts k in omega (arith, none);
      },
    )
