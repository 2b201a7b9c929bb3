use Rattle.std.proofs.Common.{◌≡◌, ◌≤◌, ◌∙◌, List, ℕ, ap, sym, subst, arith}
use Rattle.std.specs.Prelude.{All, slice_index_or}
use Rattle.c_rules.specs.Bodies.{assigners_in}
use Rattle.c_rules.proofs.bodies.Bodies.is_early.Goals as goal

pub first_is-requires : goal.first_is-requires
first_is-requires c =
    let First : List ℕ → Type 0 = λ l. All (λ p. slice_index_or l 0 0 ≤ p) l in
    subst First (sym (c.deref.ensures.value ∙ c.in-Some.ensures.some)) (c.args.self.now.sound.first c.args.x)
