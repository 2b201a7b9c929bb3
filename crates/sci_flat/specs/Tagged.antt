-- What a tag stands for: a link that isn't drawn. The steps of a tree with those of its tags.
use Rattle.std.specs.Prelude.{◌≡◌, pos, List, [], ◌∷◌, ◌++◌, flat_map, Option, Some, None, Ok, Err}
use Rattle.sci_base.specs.Outcome.{Outcome}
use Rattle.sci_diagram.specs.Objects.{Objects}
use Rattle.sci_blocks.specs.Wiring.{source_class, target_class}
use Rattle.sci_goto.specs.Phase.{standing, Giving, Taking, Tags, server, tags_of}
use Rattle.sci_flat.specs.Ports.{port, PortStep, tree_steps}

-- from the input of what gives a tag to the output of what takes it
abbrev pub tag_step : Taking → Option Giving → List PortStep
tag_step t None = []
tag_step t (Some g) = (port g.place (target_class t.tag.link) (pos 1), port t.place (source_class t.tag.link) (pos 1)) ∷ []

-- from what serves each taker to it
abbrev pub served_steps : Tags → List PortStep
served_steps tags = flat_map (λ t. tag_step t (server tags.givers t)) tags.takers

abbrev pub tag_steps : Outcome Tags → List PortStep
tag_steps (Ok tags) = served_steps tags
tag_steps (Err v) = []

-- the steps that are drawn, and then those of the tags
abbrev pub all_steps : Objects → List PortStep
all_steps d = tree_steps d ++ tag_steps (tags_of d)

-- a diagram in which no object is a tag has the steps of its drawing alone
abbrev pub DrawnAlone : Type 0
DrawnAlone = (d : Objects) → standing d ≡ [] → all_steps d ≡ tree_steps d
