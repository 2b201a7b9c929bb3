use Rattle.std.proofs.Common.{Bool, List, subst}
use Rattle.sci_inherit.specs.Followers.{plain_rows, AreRows}
use Rattle.sci_inherit.proofs.rows.FedRows.of.Goals as goal

pub returns-clause-rows : goal.returns-clause-rows
returns-clause-rows c = record {
  wanted_long = c.requires;
  have_rows = c.in_ok-fed.ensures.shape;
  rows = subst (λ (w : List Bool). AreRows c.args.net.now w (plain_rows c.in_ok-fed.fed.items)) c.deref.ensures.value c.in_ok-fed.ensures.rows;
  in_order = c.in_ok-fed.ensures.in_order;
}
