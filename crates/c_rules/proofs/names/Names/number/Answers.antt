use Rattle.std.proofs.Common.{◌≡◌, ◌∙◌, List, [], map, ap}
use Rattle.indexmap.specs.IndexSet.{insert_all}
use Rattle.c_ast.specs.declared.Decl.{Decl}
use Rattle.c_ast.specs.declared.Func.{Func}
use Rattle.c_ast.specs.declared.Name.{Name}
use Rattle.c_ast.specs.Rules.{same_name}
use Rattle.c_ast.specs.View.{declared_of, function_of, whole_of}
use Rattle.c_rules.specs.Naming.{declared_name, function_name, declared_names, once}
use Rattle.c_rules.proofs.Numbering.{numbered_once, numbered_exactly, shorter_exactly}
use Rattle.c_rules.proofs.names.Names.number.Goals as goal

pub returns : goal.returns
returns c =
    let vs = map declared_name (map declared_of c.args.p.now.decls.items) in
    let fs = map function_name (map function_of c.args.p.now.funcs.items) in
    let first : c.add_variables.new.self ≡ insert_all same_name [] vs = c.in_ok-add_variables.ensures ∙ ap (λ (l : List Name). insert_all same_name l (map declared_name (map declared_of c.deref.result.now))) c.new-names.ensures ∙ ap (λ (l : List Decl). insert_all same_name [] (map declared_name (map declared_of l))) c.deref.ensures.value in
    let next : c.add_functions.new.self ≡ insert_all same_name c.add_variables.new.self fs = c.in_ok-add_functions.ensures ∙ ap (λ (l : List Func). insert_all same_name c.add_variables.new.self (map function_name (map function_of l))) c.deref-2.ensures.value in
    let is = numbered_once vs fs c.add_variables.new.self c.add_functions.new.self first next in
    record {
      names = is;
      declared = numbered_exactly (declared_names (whole_of c.args.p.now)) c.add_functions.new.self is;
      twice = shorter_exactly (declared_names (whole_of c.args.p.now)) c.add_functions.new.self is;
    }
