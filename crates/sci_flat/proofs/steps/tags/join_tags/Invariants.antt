use Rattle.std.proofs.Common.{◌≡◌, ◌++◌, map, take}
use Rattle.sci_flat.specs.Numbered.{serving_step}
use Rattle.sci_flat.proofs.steps.tags.join_tags.Given as goal

abbrev pub invariant-loop-serving : goal.invariant-loop-serving
invariant-loop-serving l = l.steps.items ≡ l.fn.steps.items ++ map (serving_step l.tags) (take l.serving-index l.servings)
