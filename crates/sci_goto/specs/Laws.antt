-- What the definitions say of each other.
use Rattle.std.specs.Prelude.{◌≡◌, ℕ, List, [], is_some, Ok}
use Rattle.sci_base.specs.Plain.{Fields}
use Rattle.sci_diagram.specs.Objects.{Objects}
use Rattle.sci_diagram.specs.Tree.{is_tag}
use Rattle.sci_blocks.specs.Rows.{pass_through}
use Rattle.sci_goto.specs.Forms.{form_of}
use Rattle.sci_goto.specs.Phase.{standing, no_tags, tags_of}

-- the tag objects are those that the reader takes for such
abbrev pub NamesLaw : Type 0
NamesLaw = (gui : List ℕ) (f : Fields) → is_some (form_of (pass_through gui) f) ≡ is_tag gui

-- a diagram without tag objects keeps the rules on tags
abbrev pub UntaggedLaw : Type 0
UntaggedLaw = (d : Objects) → standing d ≡ [] → tags_of d ≡ Ok no_tags
