use Rattle.sci_kept.proofs.kept.Kept.new.Goals as goal

pub returns-clause-first : goal.returns-clause-first
returns-clause-first g c = let is = c.in_ok-store.ensures in record { held = is.held; cursors = is.cursors }

pub returns-clause-untold : goal.returns-clause-untold
returns-clause-untold g c = let is = c.in_ok-store.ensures in record { idle = is.idle; lines = is.lines; sum = is.sum }
