use Rattle.std.proofs.Common.{refl}
use Rattle.sci_goto.specs.Phase.{standing_in, object_standing, gathered, all_served, tags_of}
use Rattle.sci_goto.specs.Worked.{WorkedRefusals, WorkedServers}
use Rattle.sci_goto.proofs.worked_tags.Goals as goal

refusals : WorkedRefusals
unfolding standing_in object_standing gathered all_served tags_of
refusals = record {
  two_ports = refl;
  no_port = refl;
  no_tag = refl;
  three = refl;
  scope_taken = refl;
  tag_0 = refl;
  tag_below = refl;
  tag_above = refl;
  scope_2 = refl;
  twice = refl;
  everywhere = refl;
  row_first = refl;
  above = refl;
  below = refl;
  beside = refl;
  clock_alone = refl;
  signal_alone = refl;
  apart = (_, refl);
}

servers : WorkedServers
unfolding standing_in object_standing gathered all_served tags_of
servers = record {
  delay_served = (_, refl, refl);
  delay_unserved = refl;
  gain_served = (_, refl, refl);
  gain_unserved = refl;
  preferred = (_, refl, refl);
  activation = (_, refl, refl);
}

pub returns : goal.returns
returns c = record { refusals = refusals; served = servers }
