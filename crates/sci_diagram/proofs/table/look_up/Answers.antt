use Rattle.serde_json.specs.Data.{no_members}
use Rattle.sci_json.specs.View.{view, members_view, put_all}
use Rattle.sci_diagram.proofs.Placing.{of_object, of_another}
use Rattle.sci_diagram.proofs.table.look_up.Goals as goal

pub returns-in_default : goal.returns-in_default
returns-in_default c = of_another _ (view c.args.value.now) c.in_default.ensures c.requires

pub returns : goal.returns
returns c = of_object _ (view c.args.value.now) (put_all (members_view c.in-Some.members) no_members) c.in-Some.ensures (c.fill.ensures no_members c.requires)
