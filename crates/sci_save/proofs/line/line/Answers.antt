use Rattle.std.proofs.Common.{refl, length}
use Rattle.sci_save.specs.Reading.{told, line_at}
use Rattle.sci_save.specs.Numbers.{numbers_at}
use Rattle.sci_save.proofs.Lines.{given_same, line_within, line_behind}
use Rattle.sci_save.proofs.line.line.Goals as goal

pub returns-in-Some-clause-gives : goal.returns-in-Some-clause-gives
returns-in-Some-clause-gives c =
    let rs = c.args.bounds.now in
    given_same _ c.numbers.result (told (length c.args.bytes.now) (numbers_at rs c.in-Some.rest.now)) (line_at c.args.start.now rs c.args.bytes.now)
    (line_behind c.args.start.now rs c.args.bytes.now c.in-Some.rest.now (length c.args.bytes.now) refl c.in-Some.ensures) c.numbers.ensures

pub returns-in-Some-clause-within : goal.returns-in-Some-clause-within
returns-in-Some-clause-within c = line_within c.numbers.result (length c.args.bytes.now) c.args.bounds.now c.in-Some.rest.now c.numbers.ensures
