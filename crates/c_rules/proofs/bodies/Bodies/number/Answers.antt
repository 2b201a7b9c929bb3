use Rattle.std.proofs.Common.{refl, arith, ap, length, List, ◌≡◌, ◌≤◌}
use Rattle.c_ast.specs.declared.Name.{Name}
use Rattle.c_rules.specs.Assigning.{assigners_of}
use Rattle.c_rules.specs.Bodies.{callees_in, assigners_in}
use Rattle.c_rules.proofs.Numbering.{longer}
use Rattle.c_rules.proofs.Assigning.{on_either, noted_none, sound_same}
use Rattle.c_rules.proofs.bodies.Bodies.number.Goals as goal

pub invariant_of-self : goal.invariant_of-self
invariant_of-self c =
    let self = c.args.self.now in
    let old = self.assigners.items in
    let kept : (q : Name) → assigners_of c.add.new.self old q ≡ assigners_in self q = on_either c.add.result c.add.ensures.names c.add.ensures.err (λ grows. noted_none old old self.names c.add.new.self c.args.x grows self.long (λ m. refl)) (λ same q. ap (λ (l : List Name). assigners_of l old q) same) in
    let more : length self.names ≤ length c.add.new.self = on_either c.add.result c.add.ensures.names c.add.ensures.err (λ grows. omega (arith, longer self.names c.args.x, ap length grows)) (λ same. omega (arith, ap length same)) in
    record {
      sound = sound_same (callees_in self) (callees_in self) (assigners_in self) (assigners_of c.add.new.self old) self.last self.walk.count refl kept self.sound;
      long = omega (arith, self.long, more);
      called = self.called;
    }

pub returns-clause-same : goal.returns-clause-same
returns-clause-same c =
    let self = c.args.self.now in
    let old = self.assigners.items in
    record {
      callees = refl;
      assigners = on_either c.add.result c.add.ensures.names c.add.ensures.err (λ grows. noted_none old old self.names c.add.new.self c.args.x grows self.long (λ m. refl)) (λ same q. ap (λ (l : List Name). assigners_of l old q) same);
      last = refl;
    }
