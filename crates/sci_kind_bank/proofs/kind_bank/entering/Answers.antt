use Rattle.std.proofs.Common.{◌∙◌, sym}
use Rattle.sci_span.proofs.Singles.{places_within, values_gathered}
use Rattle.sci_kind_bank.proofs.kind_bank.entering.Goals as goal

pub placed-requires : goal.placed-requires
placed-requires c = places_within c.args.values.now c.args.place.now.ins c.in-Some.singles.now c.in-Some.ensures.some c.requires.within

pub returns : goal.returns
returns c = c.placed.ensures ∙ sym (values_gathered c.args.values.now c.args.place.now.ins c.in-Some.singles.now c.in-Some.ensures.some c.requires.within)
