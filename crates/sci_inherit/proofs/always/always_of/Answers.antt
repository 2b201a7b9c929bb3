use Rattle.std.proofs.Common.{◌∙◌}
use Rattle.sci_inherit.proofs.Sourced.{always_once}
use Rattle.sci_inherit.proofs.always.always_of.Goals as goal

pub returns-clause-always : goal.returns-clause-always
returns-clause-always c =
    let n = c.args.net.now in
    let s = c.args.source in
    always_once n s c.find_always.new.walk.found c.in_ok-from_slice.field-0.items c.in_ok-find_always.ensures.always c.found.ensures.distinct (c.in_ok-from_slice.ensures.items ∙ c.found.ensures.value)
