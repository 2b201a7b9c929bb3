-- The choice between the inputs from this one on.
use Rattle.std.proofs.Common.{◌≡◌, ◌-◌, ◌≤◌}
use Rattle.c_ast.specs.View.{statements_of}
use Rattle.sci_cgen_blocks.specs.Recipes.{first_activated}
use Rattle.sci_cgen_blocks.specs.Texts.{way_text}
use Rattle.sci_cgen_blocks.specs.Plain.{plain_places}
use Rattle.sci_cgen_blocks.proofs.choice_texts.first_of.Given as goal

abbrev pub invariant-loop-port : goal.invariant-loop-port
invariant-loop-port l = (statements_of l.chosen.items ≡ way_text (plain_places l.at) l.count (first_activated l.port (l.n - l.port))) × (l.port ≤ l.n)
