use Rattle.std.proofs.Common.{arith}
use Rattle.sci_lines.proofs.Digits.{digits_of_block, digits_of_port, digits_of_element}
use Rattle.sci_lines.proofs.head.Head.new.Goals as goal

pub spaced_number_at-at-requires : goal.spaced_number_at-at-requires
spaced_number_at-at-requires c = let block = digits_of_block c.args.block c.requires.block in omega (arith, block, c.word-at.ensures.end)

pub spaced_number_at-at-requires-2 : goal.spaced_number_at-at-requires-2
spaced_number_at-at-requires-2 c =
    let block = digits_of_block c.args.block c.requires.block in
    let port = digits_of_port c.args.port c.requires.port in
    omega (arith, block, port, c.word-at.ensures.end, c.spaced_number_at-at.ensures.end)

pub spaced_number_at-at-requires-3 : goal.spaced_number_at-at-requires-3
spaced_number_at-at-requires-3 c =
    let block = digits_of_block c.args.block c.requires.block in
    let port = digits_of_port c.args.port c.requires.port in
    let element = digits_of_element c.args.element c.requires.element in
    omega (arith, block, port, element, c.word-at.ensures.end, c.spaced_number_at-at.ensures.end, c.spaced_number_at-at-2.ensures.end)

pub byte_at-len-requires : goal.byte_at-len-requires
byte_at-len-requires c =
    let block = digits_of_block c.args.block c.requires.block in
    let port = digits_of_port c.args.port c.requires.port in
    let element = digits_of_element c.args.element c.requires.element in
    omega (
      arith,
      block,
      port,
      element,
      c.word-at.ensures.end,
      c.spaced_number_at-at.ensures.end,
      c.spaced_number_at-at-2.ensures.end,
      c.spaced_number_at-at-3.ensures.end,
      c.spaced_number_at-at-3.array_long,
    )
