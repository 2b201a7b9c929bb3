-- Texts under a test.
use Rattle.std.proofs.Common.{◌≡◌, Bool, true, false, sym, ap, ◌∙◌}
use Rattle.c_ast.specs.Syntax.{Block}
use Rattle.c_mean.specs.Texts.{joined}
use Rattle.sci_cgen_blocks.proofs.Written.{joined_done}
use Rattle.sci_program.specs.Program.{text_where}

-- a text under a test
pub where_true : (old new t : Block) (test : Bool) → test ≡ true → new ≡ joined old t → new ≡ joined old (text_where test t)
where_true old new t test holds e = e ∙ ap (λ b. joined old (text_where b t)) (sym holds)

pub where_false : (old t : Block) (test : Bool) → test ≡ false → old ≡ joined old (text_where test t)
where_false old t test fails = sym (joined_done old) ∙ ap (λ b. joined old (text_where b t)) (sym fails)
