use Rattle.std.proofs.Common.{◌∷◌}
use Rattle.c_ast.specs.declared.events.NameKind.TheVariants as kinds
use Rattle.c_rules.proofs.rules.Knowledge.begin_function.Goals as goal

pub returns : goal.returns
returns c = λ s a. c.begin_body.ensures (record s { declared = (c.args.f, kinds.Function) ∷ s.declared }) (c.in_ok-give.ensures s a)
