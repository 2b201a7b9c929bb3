use Rattle.c_rules.proofs.Numbering.{number_inserted}
use Rattle.c_rules.proofs.names.Names.add.Goals as goal

pub returns-clause-number : goal.returns-clause-number
returns-clause-number c = number_inserted c.args.name c.self.inside.set.keys c.insert_full.new.self.keys c.in_ok-number.number c.in_ok-number.ensures.keys c.in_ok-number.ensures.index c.in_ok-number.ensures.within
