use Rattle.std.proofs.Common.{rules, codes, ◌++◌, ap}
use Rattle.sci_io.proofs.Advance.{then_writes, stopped, same_text}
use Rattle.sci_reaction.specs.Kept.{guards_of}
use Rattle.sci_sched.specs.Text.{block_text, guards_text, entry_text}
use Rattle.sci_sched.proofs.write.put_entry.Goals as goal

pub returns-in_err-put_block : goal.returns-in_err-put_block
unfolding entry_text
returns-in_err-put_block g c =
    stopped (block_text c.args.entry.now.block c.args.entry.now.always) (guards_text (guards_of c.args.entry.now.guards.items) ++ codes "\n") c.put_block.result c.from_residual.result _ _ c.in_err-put_block.was (search rules) c.put_block.ensures

pub returns : goal.returns
unfolding entry_text
returns g c =
    then_writes (block_text c.args.entry.now.block c.args.entry.now.always) (guards_text (guards_of c.args.entry.now.guards.items) ++ codes "\n") c.put_block.result c.put_end.result _ c.in_ok-put_block.was c.put_block.ensures
    (same_text (ap (λ xs. guards_text (guards_of xs) ++ codes "\n") c.deref.ensures.value) c.put_end.ensures)
