use Rattle.std.proofs.Common.{rules, ◌≡◌, arith, subst, true, nat_lt, IfOk}
use Rattle.c_ast.specs.Syntax.{Block}
use Rattle.c_ast.specs.View.{statements_of}
use Rattle.sci_program.proofs.Sizes.{few_ports}
use Rattle.sci_cgen_run.proofs.RunLemmas.{several_chosen}
use Rattle.sci_cgen_run.proofs.run_texts.choose_text.Goals as goal

pub scan_text-requires-clause-few : goal.scan_text-requires-clause-few
scan_text-requires-clause-few c = let few = few_ports c.args.net.now c.well_formed-2.ensures in omega (arith, few, c.port_count-ports.ensures)

pub returns-then-ports-gt1 : goal.returns-then-ports-gt1
returns-then-ports-gt1 c =
    let more : nat_lt 1 c.port_count-ports.result ≡ true = search rules in
    subst (λ (b : Block). IfOk c.scan_text.result (λ v. statements_of v.items ≡ b)) (several_chosen c.args.net.now c.port_count-ports.result c.port_count-ports.ensures more)
    c.scan_text.ensures
