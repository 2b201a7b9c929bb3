use Rattle.std.proofs.Common.{ap, ◌∙◌}
use Rattle.sci_sched.specs.Plain.{row_of}
use Rattle.c_mean.specs.Texts.{joined}
use Rattle.sci_program.specs.Program.{following_text}
use Rattle.sci_cgen_sources.proofs.row_texts.row_text.Goals as goal

pub returns : goal.returns
returns c =
    c.in_ok-push_following.ensures
    ∙ ap (λ t. joined t (following_text c.args.own c.args.net.now (row_of c.args.row.now))) c.in_ok-out.ensures
