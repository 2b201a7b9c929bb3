use Rattle.sci_cgen_run.proofs.run_texts.+react.Given as goal

abbrev pub decreases-react : goal.decreases-react
decreases-react l = l.depth
