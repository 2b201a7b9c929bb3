-- What the builder of a program goes by.
use Rattle.std.specs.Prelude.{ℕ, Bool}
use Rattle.sci_net.specs.Parts.{Parts, spec_of}
use Rattle.sci_cgen_blocks.specs.Texts.{body_text}
use Rattle.c_ast.specs.Syntax.{Function}
use Rattle.sci_program.specs.Names.{block_name}
use Rattle.sci_program.specs.Program.{text_where, places_of}

-- the function of a block, with a body where the schedule has an entry of it
abbrev pub marked_function : Parts → Bool → ℕ → Function
marked_function n scheduled b = record { name = block_name b; body = text_where scheduled (body_text (spec_of n b) (places_of n b)) }
