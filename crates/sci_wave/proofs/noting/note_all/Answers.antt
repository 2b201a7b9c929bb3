use Rattle.std.proofs.Common.{◌≡◌, ◌+◌, ◌∙◌, ℤ, List, length, ap, arith}
use Rattle.sci_net.specs.Net.{all_elements}
use Rattle.sci_places.specs.Flat.{values_at}
use Rattle.sci_vcd.specs.Writing.{Writing}
use Rattle.sci_base.specs.Lists.{at}
use Rattle.sci_wave.proofs.Blockwise.{whole_there, value_fits, all_placed, only_noted}
use Rattle.sci_wave.proofs.noting.note_all.Goals as goal

pub note_values-requires-clause-within : goal.note_values-requires-clause-within
note_values-requires-clause-within c =
    let noted = whole_there c.args.ready.now.fixed.net c.args.dump.now c.requires.net c.requires.of c.well_formed-2.ensures in
    let one_each = c.well_formed-2.ensures.noted.one_each in
    omega (arith, noted, one_each, c.values.ensures.whole)

pub note_values-requires-clause-fits : goal.note_values-requires-clause-fits
note_values-requires-clause-fits c = λ k h.
    value_fits c.args.ready.now c.args.dump.now k _ _ c.requires.of c.requires.fits (omega (arith, h, c.values.ensures.whole)) (omega arith) (ap (λ (vs : List ℤ). at vs k) c.values.ensures.values)

pub returns-clause-rest : goal.returns-clause-rest
returns-clause-rest c = only_noted c.args.dump.now c.note_values.new.self _ c.note_values.ensures

pub returns-clause-noted : goal.returns-clause-noted
returns-clause-noted c = λ b block.
    let n = c.args.ready.now.fixed.net in
    let noted = whole_there n c.args.dump.now c.requires.net c.requires.of c.well_formed-2.ensures in
    let long : length c.values.result.now ≡ length c.args.dump.now.noted = omega (arith, noted, c.values.ensures.whole) in
    ap (λ (vs : List ℤ). values_at n vs b) (ap (λ (o : Writing). o.noted) c.note_values.ensures ∙ all_placed c.values.result.now c.args.dump.now.noted long ∙ c.values.ensures.values)
