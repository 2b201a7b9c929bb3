use Rattle.std.proofs.Common.{arith, ◌≡◌, ◌∙◌, ◌++◌, ◌∷◌, []}
use Rattle.c_ast.specs.declared.events.Opened.TheVariants as opened
use Rattle.c_ast.specs.Rules.{routine_in}
use Rattle.c_rules.specs.Naming.{by_name}
use Rattle.c_rules.proofs.Knowing.{routine_assigned, routine_named, kind_named, assigned_more}
use Rattle.c_rules.proofs.rules.Knowledge.begin_loop.Goals as goal

pub invariant_of-self : goal.invariant_of-self
invariant_of-self c =
    let self = c.args.self.now in
    record {
      earlier = λ n past e. let low = self.earlier n past e in omega (arith, c.assign.ensures.last);
      kinds_named = omega (arith, self.kinds_named, c.assign.ensures.more);
      routines_named = omega (arith, self.routines_named, c.assign.ensures.more);
    }

pub returns : goal.returns
returns c = λ i s a.
    let self = c.args.self.now in
    let grows = c.in_ok-assign.ensures.names in
    let blocks : c.push.new.self.items ≡ s.blocks ++ opened.Turn c.args.x c.args.bound ∷ [] = rw (← a.blocks) c.in_ok-push.ensures.items in
    record {
      kinds = λ q. kind_named self.bodies.names c.assign.new.self.names c.args.x self.kinds.items q grows self.kinds_named ∙ a.kinds q;
      elements = a.elements;
      routines = λ q. routine_named c.assign.new.self self.bodies.names c.assign.new.self.names c.args.x self.routines.items q (routine_in s.routines q) grows self.routines_named (routine_assigned self.bodies c.assign.new.self c.args.x c.in_ok-assign.ensures.ok (by_name self.bodies.names self.routines.items q) (routine_in s.routines q) (a.routines q));
      blocks = blocks;
      owner = a.owner;
      assigns = assigned_more self.bodies c.assign.new.self c.args.x c.in_ok-assign.ensures.ok s.assigns a.assigns;
      depth = a.depth;
    }
