use Rattle.std.proofs.Common.{◌≡◌, codes, refl, ◌∙◌, rules}
use Rattle.sci_trace.specs.Lines.{line}
use Rattle.sci_base.specs.declared.observation.Obs.TheVariants.{Start}
use Rattle.sci_lines.proofs.lines.start_line.Goals as goal

start_is : codes "start\n" ≡ line Start
unfolding line
start_is = refl

pub returns-clause-text : goal.returns-clause-text
returns-clause-text c = search rules ∙ start_is
