use Rattle.std.proofs.Common.{◌-◌, ◌<◌, length, ◌∙◌, arith}
use Rattle.sci_net.specs.Parts.{rows_of}
use Rattle.sci_net.proofs.ReadRows.{rows_length, numbers_length, number_within, list_read}
use Rattle.sci_net.proofs.feeds.Feeds.of.Goals as goal

pub index-number-requires : goal.index-number-requires
index-number-requires c =
    let l = numbers_length (rows_of c.self.inside.lists.items) c.self.inside.numbers.items c.args.self.now c.self.view_is
    c.args.block c.index.result.now c.requires.block_least c.requires.block_most c.index.ensures in
    omega (arith, c.requires.input_most, c.requires.input_least, l, c.index.result.now.ok.0)

pub index-requires-2 : goal.index-requires-2
index-requires-2 c =
    let l = numbers_length (rows_of c.self.inside.lists.items) c.self.inside.numbers.items c.args.self.now c.self.view_is
    c.args.block c.index.result.now c.requires.block_least c.requires.block_most c.index.ensures in
    let long = rows_length (rows_of c.self.inside.lists.items) c.self.inside.numbers.items c.args.self.now c.self.view_is in
    let within : c.index-number.result.now < length c.self.inside.lists.items =
    number_within (length c.self.inside.lists.items) c.self.inside.numbers.items c.self.invariant (c.args.block - 1) (c.args.input - 1) c.index.result.now c.index-number.result.now
    (omega (arith, long, c.requires.block_least, c.requires.block_most)) (omega (arith, c.requires.input_most, c.requires.input_least, l)) c.index.ensures c.index-number.ensures in
    omega (arith, within, c.self.inside.lists.ok.0)

pub returns : goal.returns
returns c =
    let l = numbers_length (rows_of c.self.inside.lists.items) c.self.inside.numbers.items c.args.self.now c.self.view_is
    c.args.block c.index.result.now c.requires.block_least c.requires.block_most c.index.ensures in
    let long = rows_length (rows_of c.self.inside.lists.items) c.self.inside.numbers.items c.args.self.now c.self.view_is in
    let within : c.index-number.result.now < length c.self.inside.lists.items =
    number_within (length c.self.inside.lists.items) c.self.inside.numbers.items c.self.invariant (c.args.block - 1) (c.args.input - 1) c.index.result.now c.index-number.result.now
    (omega (arith, long, c.requires.block_least, c.requires.block_most)) (omega (arith, c.requires.input_most, c.requires.input_least, l)) c.index.ensures c.index-number.ensures in
    c.as_slice.ensures.value
    ∙ list_read c.self.inside.lists.items c.self.inside.numbers.items c.args.self.now c.self.view_is c.args.block c.args.input c.index.result.now c.index-number.result.now c.index-2.result.now
    c.requires.block_least c.requires.block_most c.requires.input_least c.requires.input_most within c.index.ensures c.index-number.ensures c.index-2.ensures
