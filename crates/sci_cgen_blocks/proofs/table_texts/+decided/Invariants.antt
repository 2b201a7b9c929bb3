use Rattle.sci_cgen_blocks.proofs.table_texts.+decided.Given as goal

abbrev pub decreases-decided : goal.decreases-decided
decreases-decided l = l.n
