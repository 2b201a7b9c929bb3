use Rattle.sci_ranges_find.proofs.following.choice_in.Goals as goal

pub returns : goal.returns
returns c = record { compared = c.compared_in.ensures; first = c.added_in.ensures; third = c.added_in-2.ensures }
