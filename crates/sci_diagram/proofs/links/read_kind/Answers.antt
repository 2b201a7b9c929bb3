use Rattle.std.proofs.Common.{sym, rules}
use Rattle.sci_json.specs.View.{view}
use Rattle.sci_diagram.proofs.Standing.{kind_found}
use Rattle.sci_diagram.proofs.Told.{tells_violation}
use Rattle.sci_diagram.proofs.links.read_kind.Goals as goal

pub returns-in-None-kind_of-clause-stop : goal.returns-in-None-kind_of-clause-stop
returns-in-None-kind_of-clause-stop c =
    let found = kind_found c.args.at.now (view c.args.v.now) (view c.in-Some.found.now) (sym c.in-Some.ensures) in
    search (rules, found, tells_violation)

pub returns-in-Some-kind_of-clause-ok : goal.returns-in-Some-kind_of-clause-ok
returns-in-Some-kind_of-clause-ok c =
    let found = kind_found c.args.at.now (view c.args.v.now) (view c.in-Some.found.now) (sym c.in-Some.ensures) in
    search (rules, found)
