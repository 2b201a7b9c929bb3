use Rattle.std.proofs.Common.{◌≡◌, ◌<◌, ◌∙◌, List, ℕ, ap, sym, subst, arith}
use Rattle.std.specs.Prelude.{All}
use Rattle.c_rules.specs.Bodies.{assigners_in}
use Rattle.c_rules.proofs.bodies.Bodies.is_found.Goals as goal

pub has_any-requires : goal.has_any-requires
has_any-requires c =
    let Within : List ℕ → Type 0 = All (λ p. p < c.args.self.now.walk.count) in
    let all : Within (assigners_in c.args.self.now c.args.x) = λ k d h. let low = c.args.self.now.sound.there c.args.x k d h in omega (arith, low, c.args.self.now.sound.bodies, c.args.self.now.sound.walked) in
    subst Within (sym (c.deref.ensures.value ∙ c.in-Some.ensures.some)) all
