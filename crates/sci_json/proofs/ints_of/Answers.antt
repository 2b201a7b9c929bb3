use Rattle.std.proofs.Common.{[], ◌∷◌, rules}
use Rattle.sci_json.specs.View.{view}
use Rattle.sci_json.specs.Field.{formed, as_ints}
use Rattle.sci_json.proofs.Wholes.{wanted}
use Rattle.sci_json.proofs.ints_of.Goals as goal

pub returns-in-Some-as_i64-clause-stop : goal.returns-in-Some-as_i64-clause-stop
returns-in-Some-as_i64-clause-stop c = wanted c.one.result (formed (as_ints (view c.args.found.now))) (c.in-Some-as_i64.n ∷ []) (search rules) c.one.ensures.stop
