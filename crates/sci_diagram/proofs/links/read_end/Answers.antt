use Rattle.std.proofs.Common.{pos, sym, rules}
use Rattle.sci_json.specs.View.{view}
use Rattle.sci_diagram.specs.Names.{name_of}
use Rattle.sci_diagram.proofs.Standing.{end_found}
use Rattle.sci_diagram.proofs.Told.{tells_violation}
use Rattle.sci_diagram.proofs.links.read_end.Goals as goal

pub returns-in-None-end_of-clause-stop : goal.returns-in-None-end_of-clause-stop
returns-in-None-end_of-clause-stop c =
    let found = end_found c.args.at.now (pos c.args.code) c.args.side (name_of c.args.code) (view c.args.v.now) (view c.in-Some.found.now) (sym c.in-Some.ensures) in
    search (rules, found, tells_violation)
