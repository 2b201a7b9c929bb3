use Rattle.std.proofs.Common.{◌≡◌, ◌∙◌, ◌+◌, ◌++◌, ◌∷◌, [], ℕ, List, Vec, ap, rules}
use Rattle.std.specs.declared.alloc.Global.{Global}
use Rattle.std.proofs.lemmas.List.{map-append}
use Rattle.sci_loop.specs.Lists.{plain}
use Rattle.c_rules.specs.Bodies.{callees_in, assigners_in}
use Rattle.c_rules.proofs.Assigning.{sound_begun, callers_begun}
use Rattle.c_rules.proofs.bodies.Bodies.begin.Goals as goal

pub invariant_of-self-2 : goal.invariant_of-self-2
invariant_of-self-2 c =
    let self = c.args.self.now in
    let more : plain c.push.new.self.items ≡ callees_in self ++ [] ∷ [] =
    ap (plain {X = ℕ}) (c.in_ok-push.ensures.items ∙ ap (λ (l : List (Vec ℕ Global)). l ++ c.new.result ∷ []) c.reserve.ensures.items)
    ∙ map-append (λ (v : Vec ℕ Global). v.items) self.callees.items (c.new.result ∷ [])
    ∙ ap (λ (l : List ℕ). callees_in self ++ l ∷ []) c.new.ensures.items in
    let next : c.in-Some.next ≡ self.last + 1 = search rules in
    let grown : c.grow.new.self.count ≡ self.walk.count + 1 = search rules in
    record {
      sound = sound_begun (callees_in self) (plain c.push.new.self.items) (assigners_in self) self.last c.in-Some.next self.walk.count c.grow.new.self.count more next grown self.sound;
      long = self.long;
      called = callers_begun (callees_in self) (plain c.push.new.self.items) self.callers.items more self.called;
    }
