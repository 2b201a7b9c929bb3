use Rattle.std.proofs.Common.{◌≡◌, ◌+◌, ◌-◌, subst, arith}
use Rattle.sci_net.specs.Parts.{IsInput}
use Rattle.sci_ranges_find.proofs.reads.reading_of.Goals as goal

pub is_shown-shown-requires-clause-input : goal.is_shown-shown-requires-clause-input
is_shown-shown-requires-clause-input c =
    let one : c.args.port ≡ c.args.port - 1 + 1 = let least = c.requires.input.least in omega (arith, least) in
    subst (IsInput c.args.net.now c.args.block) one c.requires.input

pub returns : goal.returns
returns c = record { shown = c.is_shown-shown.ensures; taken = c.taken-numbers.ensures }
