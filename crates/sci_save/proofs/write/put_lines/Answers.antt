use Rattle.std.proofs.Common.{rules, ap, ◌++◌, List, ℕ}
use Rattle.std.specs.Prelude.{codes}
use Rattle.sci_io.proofs.Advance.{then_writes, stopped, same_text}
use Rattle.sci_save.specs.Saved.{saved_of}
use Rattle.sci_save.specs.Text.{blocks_text, events_text}
use Rattle.sci_save.proofs.write.put_lines.Goals as goal

pub returns-in_err-put_blocks : goal.returns-in_err-put_blocks
returns-in_err-put_blocks g c =
    let n = c.args.net.now in
    let m = c.args.image.now in
    stopped (blocks_text n (saved_of m)) (events_text n m.pending.items ++ codes "done\n") c.put_blocks.result c.from_residual.result _ _ c.in_err-put_blocks.was (search rules) c.put_blocks.ensures

pub returns : goal.returns
returns g c =
    let n = c.args.net.now in
    let m = c.args.image.now in
    then_writes (blocks_text n (saved_of m)) (events_text n m.pending.items ++ codes "done\n") c.put_blocks.result c.put_pending.result _ c.in_ok-put_blocks.was c.put_blocks.ensures
    (same_text (ap (λ (ds : List (ℕ × ℕ)). events_text n ds ++ codes "done\n") c.deref.ensures.value) c.put_pending.ensures)
