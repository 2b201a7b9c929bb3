use Rattle.std.proofs.Common.{arith, ap, length, refl, ◌≡◌, ◌∙◌, ◌++◌, ◌∷◌, []}
use Rattle.c_ast.specs.declared.events.Opened.TheVariants as opened
use Rattle.c_ast.specs.Rules.{routine_in}
use Rattle.c_rules.specs.Naming.{by_name}
use Rattle.c_rules.proofs.Knowing.{routine_begun, routine_renamed, kind_renamed, assigned_none}
use Rattle.c_rules.proofs.rules.Knowledge.begin_body.Goals as goal

pub invariant_of-self : goal.invariant_of-self
invariant_of-self c =
    let self = c.args.self.now in
    record {
      earlier = λ n past e. let low = self.earlier n past e in omega (arith, c.begin.ensures.last);
      kinds_named = omega (arith, self.kinds_named, ap length c.begin.ensures.names);
      routines_named = omega (arith, self.routines_named, ap length c.begin.ensures.names);
    }

pub returns : goal.returns
returns c = λ s a.
    let self = c.args.self.now in
    let blocks : c.push.new.self.items ≡ s.blocks ++ opened.Branch ∷ [] = rw (← a.blocks) c.in_ok-push.ensures.items in
    record {
      kinds = λ q. kind_renamed self.bodies.names c.begin.new.self.names self.kinds.items q c.begin.ensures.names ∙ a.kinds q;
      elements = a.elements;
      routines = λ q. routine_renamed c.begin.new.self self.bodies.names c.begin.new.self.names self.routines.items q (routine_in s.routines q) c.begin.ensures.names (routine_begun self.bodies c.begin.new.self c.in_ok-begin.ensures.ok (by_name self.bodies.names self.routines.items q) (routine_in s.routines q) (a.routines q));
      blocks = blocks;
      owner = refl;
      assigns = assigned_none self.bodies c.begin.new.self c.in_ok-begin.ensures.ok;
      depth = refl;
    }
