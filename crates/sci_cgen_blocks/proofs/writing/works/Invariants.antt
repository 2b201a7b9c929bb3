-- The statements so far, and those of the changes to come.
use Rattle.std.proofs.Common.{◌≡◌, drop}
use Rattle.c_ast.specs.View.{statements_of}
use Rattle.c_mean.specs.Texts.{joined}
use Rattle.sci_cgen_blocks.specs.Texts.{written, works_text}
use Rattle.sci_cgen_blocks.specs.Plain.{works_of, which_of, plain_places, AreWorksSpelled}
use Rattle.sci_cgen_blocks.proofs.writing.works.Given as goal

abbrev pub invariant-loop-one : goal.invariant-loop-one
invariant-loop-one l =
    (joined (statements_of l.out.items) (works_text (written (plain_places l.at) (which_of l.which)) (works_of (drop l.one-index l.works))) ≡ works_text (written (plain_places l.at) (which_of l.which)) (works_of l.works))
    × AreWorksSpelled (works_of (drop l.one-index l.works))
