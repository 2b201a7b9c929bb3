use Rattle.std.proofs.Common.{◌∙◌, arith, ap, cond, Option, Some}
use Rattle.std.proofs.lemmas.Result.{on_ok_weaker}
use Rattle.c_ast.specs.declared.events.NameKind.{NameKind}
use Rattle.c_ast.specs.Rules.{same_name, routine_in}
use Rattle.c_rules.specs.Naming.{by_name}
use Rattle.c_rules.proofs.Numbering.{put_new}
use Rattle.c_rules.proofs.Knowing.{routine_same, routine_named, assigned_last}
use Rattle.c_rules.proofs.rules.Knowledge.give.Goals as goal

pub invariant_of-self-2 : goal.invariant_of-self-2
invariant_of-self-2 c =
    let self = c.args.self.now in
    record {
      earlier = λ n past e. let low = self.earlier n past e in omega (arith, c.number.ensures.same.last);
      kinds_named = omega (arith, c.put.ensures.most, self.kinds_named, c.in_ok-number.ensures.within, c.number.ensures.more);
      routines_named = omega (arith, self.routines_named, c.number.ensures.more);
    }

pub returns : goal.returns
returns c = λ s a.
    let self = c.args.self.now in
    let grows = c.in_ok-number.ensures.names in
    on_ok_weaker c.put.result
    (λ there. record {
      kinds = λ q. put_new self.kinds.items c.put.new.values.items self.bodies.names c.number.new.self.names c.args.x c.in_ok-number.number c.args.kind grows self.kinds_named c.in_ok-number.ensures.number there c.put.ensures.others q
          ∙ ap (λ (o : Option NameKind). cond (same_name c.args.x q) (Some c.args.kind) o) (a.kinds q);
      elements = a.elements;
      routines = λ q. routine_named c.number.new.self self.bodies.names c.number.new.self.names c.args.x self.routines.items q (routine_in s.routines q) grows self.routines_named (routine_same self.bodies c.number.new.self c.number.ensures.same (by_name self.bodies.names self.routines.items q) (routine_in s.routines q) (a.routines q));
      blocks = a.blocks;
      owner = a.owner;
      assigns = assigned_last self.bodies c.number.new.self s.assigns c.number.ensures.same a.assigns;
      depth = a.depth;
    })
    c.put.ensures.there
