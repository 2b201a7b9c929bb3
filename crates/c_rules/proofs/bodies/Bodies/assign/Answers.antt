use Rattle.std.proofs.Common.{refl, arith, ap, length}
use Rattle.std.proofs.lemmas.Result.{on_ok_weaker}
use Rattle.c_rules.specs.Assigning.{assigners_of}
use Rattle.c_rules.specs.Bodies.{callees_in, assigners_in}
use Rattle.c_rules.proofs.Numbering.{longer}
use Rattle.c_rules.proofs.Assigning.{on_either, noted, noted_at, noted_none, sound_noted, sound_same}
use Rattle.c_rules.proofs.bodies.Bodies.assign.Goals as goal

pub invariant_of-self-2 : goal.invariant_of-self-2
invariant_of-self-2 c =
    let self = c.args.self.now in
    let old = self.assigners.items in
    let new = c.note.new.assigners.items in
    let after = assigners_of c.add.new.self new in
    let grows = c.in_ok-number.ensures.names in
    record {
      sound = on_either c.note.result c.note.ensures.ok c.note.ensures.err
          (λ has. sound_noted (callees_in self) (assigners_in self) after c.args.x self.last self.walk.count (noted_at old new self.names c.add.new.self c.args.x grows self.long c.in_ok-number.number self.last c.in_ok-number.ensures.number has c.note.ensures.others) self.sound)
          (λ same. sound_same (callees_in self) (callees_in self) (assigners_in self) after self.last self.walk.count refl (noted_none old new self.names c.add.new.self c.args.x grows self.long same) self.sound);
      long = omega (arith, c.note.ensures.most, self.long, c.in_ok-number.ensures.within, longer self.names c.args.x, ap length grows);
      called = self.called;
    }

pub returns-clause-ok : goal.returns-clause-ok
returns-clause-ok c =
    let self = c.args.self.now in
    let old = self.assigners.items in
    let new = c.note.new.assigners.items in
    on_ok_weaker c.note.result
    (λ has. record {
      callees = refl;
      assigners = noted (assigners_in self) (assigners_of c.add.new.self new) c.args.x self.last (noted_at old new self.names c.add.new.self c.args.x c.in_ok-number.ensures.names self.long c.in_ok-number.number self.last c.in_ok-number.ensures.number has c.note.ensures.others);
      last = refl;
    })
    c.note.ensures.ok
