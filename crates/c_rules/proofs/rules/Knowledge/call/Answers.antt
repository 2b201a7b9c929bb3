use Rattle.std.proofs.Common.{arith, ap, length, sym, ◌≡◌, ◌∙◌, ◌<◌, ◌+◌, Some}
use Rattle.std.specs.Prelude.{min, max}
use Rattle.std.proofs.lemmas.Result.{on_ok_weaker}
use Rattle.c_ast.specs.Rules.{routine_in}
use Rattle.c_rules.specs.Naming.{by_name}
use Rattle.c_rules.proofs.Knowing.{routine_calls, routine_renamed, kind_renamed, called_known, depth_known}
use Rattle.c_rules.proofs.rules.Knowledge.call.Goals as goal

pub call-requires : goal.call-requires
call-requires c = c.in-Some.ensures.earlier

pub invariant_of-self-in-Some : goal.invariant_of-self-in-Some
invariant_of-self-in-Some c =
    let self = c.args.self.now in
    record {
      earlier = λ n past e. let low = self.earlier n past e in omega (arith, c.call.ensures.last);
      kinds_named = omega (arith, self.kinds_named, ap length c.call.ensures.names);
      routines_named = omega (arith, self.routines_named, ap length c.call.ensures.names);
    }

pub returns-in-Some : goal.returns-in-Some
returns-in-Some c = λ i s a.
    let self = c.args.self.now in
    let there : by_name self.bodies.names self.routines.items c.args.f ≡ Some c.in-Some.past = sym c.routine_of.ensures.value ∙ c.in-Some.is in
    let low : c.in-Some.past.body < self.bodies.last = c.in-Some.ensures.earlier in
    let deep : c.max-self-in-Some.result ≡ max self.depth (min (c.in-Some.past.depth + 1) 65) = omega arith in
    on_ok_weaker c.call.result (λ called. record {
      kinds = λ q. kind_renamed self.bodies.names c.call.new.self.names self.kinds.items q c.call.ensures.names ∙ a.kinds q;
      elements = a.elements;
      routines = λ q. routine_renamed c.call.new.self self.bodies.names c.call.new.self.names self.routines.items q (routine_in s.routines q) c.call.ensures.names (routine_calls self.bodies c.call.new.self c.in-Some.past.body low called (by_name self.bodies.names self.routines.items q) (routine_in s.routines q) (a.routines q));
      blocks = a.blocks;
      owner = a.owner;
      assigns = called_known self.bodies c.call.new.self c.in-Some.past (by_name self.bodies.names self.routines.items c.args.f) (routine_in s.routines c.args.f) s.assigns there low called (a.routines c.args.f) a.assigns;
      depth = depth_known self.bodies c.in-Some.past (by_name self.bodies.names self.routines.items c.args.f) (routine_in s.routines c.args.f) self.depth c.max-self-in-Some.result s.depth there (a.routines c.args.f) a.depth deep;
    }) c.call.ensures.ok
