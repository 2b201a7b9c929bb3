use Rattle.std.proofs.Common.{length}
use Rattle.sci_text_table.proofs.fields.show_list.Given as goal

abbrev pub decreases-loop-item : goal.decreases-loop-item
decreases-loop-item g l = length l.items
