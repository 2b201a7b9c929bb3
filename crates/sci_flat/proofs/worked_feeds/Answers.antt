use Rattle.std.proofs.Common.{inl, inr, refl}
use Rattle.sci_goto.specs.Phase.{standing_in, object_standing, gathered, all_served, tags_of}
use Rattle.sci_flat.specs.Chain.{stay, onward}
use Rattle.sci_flat.specs.Ports.{steps_of, object_steps}
use Rattle.sci_flat.proofs.worked_feeds.Goals as goal

-- the steps of the drawing stand before those of the tags; to the union: the link to its second input, the union, the link back are the
-- fourth, the second and the fifth of five steps
pub returns : goal.returns
unfolding steps_of object_steps standing_in object_standing gathered all_served tags_of
returns c = record {
  union = onward (onward (onward stay (inr (inr (inr (inl (refl, refl)))))) (inr (inl (refl, refl)))) (inr (inr (inr (inr (inl (refl, refl))))));
  delay_fed = onward (onward (onward stay (inr (inr (inr (inl (refl, refl)))))) (inr (inr (inr (inr (inr (inl (refl, refl)))))))) (inr (inr (inr (inr (inl (refl, refl))))));
  gain_fed = onward (onward (onward stay (inl (refl, refl))) (inr (inr (inl (refl, refl))))) (inr (inl (refl, refl)));
  preferred = refl;
  clock = refl;
  round = onward stay (inr (inl (refl, refl)));
  back = onward stay (inl (refl, refl));
}
