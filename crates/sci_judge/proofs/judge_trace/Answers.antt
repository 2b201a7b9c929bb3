use Rattle.std.proofs.Common.{ℕ, List, ap, sym, subst, ◌∙◌}
use Rattle.sci_trace.specs.Lines.{text}
use Rattle.sci_net.specs.Parts.{Parts}
use Rattle.sci_run.specs.Run.{IsRun}
use Rattle.sci_run.proofs.Traces.{some_trace}
use Rattle.sci_agree.specs.Compared.{Compared, taken_by}
use Rattle.sci_agree.specs.Verdict.{IsVerdict}
use Rattle.sci_judge.proofs.Told.{was_given}
use Rattle.sci_judge.proofs.judge_trace.Goals as goal

pub returns-clause-each_run : goal.returns-clause-each_run
returns-clause-each_run g c os run =
    let here = subst (λ (n : Parts). IsRun n c.args.inputs.now c.args.until c.args.limit os) (sym c.in_ok-judging.ensures.net) run in
    let fresh = c.new-out.ensures.compared in
    let given = was_given c.new-out.result c.run-whole.new.out (text os) c.run-whole.result (ap taken_by fresh) (ap (λ (x : Compared). x.faults) fresh) (c.run-whole.ensures.written os here) in
    subst (λ (t : List ℕ). IsVerdict (text os) t c.verdict.result) (given.0 ∙ ap (λ (x : Compared). x.text) fresh) (c.verdict.ensures (text os) given.1)

pub returns-clause-verdict : goal.returns-clause-verdict
returns-clause-verdict g c =
    let trace = some_trace c.args.n c.args.inputs.now c.well_formed-2.ensures c.requires.free c.args.until c.args.limit in
    (trace.0, trace.1, returns-clause-each_run g c trace.0 trace.1)
