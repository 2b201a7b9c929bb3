use Rattle.std.proofs.Common.{arith, ◌≤◌, length}
use Rattle.sci_reaction.specs.Kept.{entry_of}
use Rattle.sci_cgen_blocks.proofs.Written.{drop_item}
use Rattle.sci_program.specs.Program.{entry_text}
use Rattle.sci_cgen_base.specs.Layouts.{IsNamed}
use Rattle.sci_cgen_sources.proofs.RowLemmas.{of_entry, texts_pushed, all_pushed}
use Rattle.sci_cgen_sources.proofs.row_texts.push_entries.Goals as goal

pub push_entry-requires-clause-named : goal.push_entry-requires-clause-named
push_entry-requires-clause-named c =
    of_entry (IsNamed c.args.net.now) c.args.row.now c.loop-entry.entry-index _ c.requires.named c.loop-entry-test.true c.entry-item.is

pub loop-entry-preserved : goal.loop-entry-preserved
loop-entry-preserved c =
    texts_pushed (entry_text c.args.own c.args.net.now) entry_of c.args.row.now c.loop-entry.entry-index _ _ _ _
    (drop_item c.args.row.now c.loop-entry.entry-index c.entry-item.result c.loop-entry-test.true c.entry-item.is) c.in_ok-push_entry.ensures c.loop-entry.invariant

pub returns : goal.returns
returns c =
    let most : length c.args.row.now ≤ c.loop-entry.entry-index = omega arith in
    all_pushed (entry_text c.args.own c.args.net.now) entry_of c.args.row.now c.loop-entry.entry-index _ _ most c.loop-entry.invariant
