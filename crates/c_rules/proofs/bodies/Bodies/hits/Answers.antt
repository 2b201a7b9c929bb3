use Rattle.std.proofs.Common.{◌≡◌, ◌∙◌, rules, false, [], ◌∷◌, ℕ, List, Vec, subst}
use Rattle.std.specs.declared.alloc.Global.{Global}
use Rattle.std.specs.Prelude.{Contains, ◌↔◌}
use Rattle.std.specs.List.{list_any}
use Rattle.sci_loop.specs.Lists.{plain}
use Rattle.sci_loop.specs.Reached.{IsReached}
use Rattle.c_ast.specs.Rules.{is_hit}
use Rattle.c_rules.specs.Assigning.{is_early, is_found}
use Rattle.c_rules.specs.Bodies.{callees_in, assigners_in}
use Rattle.c_rules.proofs.Assigning.{hits_none, hits_found}
use Rattle.c_rules.proofs.bodies.Bodies.hits.Goals as goal

pub returns-then-not-any_early-clause-value : goal.returns-then-not-any_early-clause-value
returns-then-not-any_early-clause-value c = λ test tells.
    let none : list_any (is_hit (is_early (assigners_in c.args.self.now) c.args.body)) c.args.blocks.now ≡ false = search rules in
    hits_none (callees_in c.args.self.now) (assigners_in c.args.self.now) c.args.body c.args.blocks.now test c.args.self.now.sound.earlier tells none

pub returns-clause-value : goal.returns-clause-value
returns-clause-value c = λ test tells.
    let hit : c.any_found.result ≡ list_any (is_hit (is_found (assigners_in c.args.self.now) c.walk.new.self.found)) c.args.blocks.now = c.any_found.ensures in
    let All : List (Vec ℕ Global) → Type 0 = λ l. (q : ℕ) → Contains c.walk.new.self.found q ↔ IsReached (plain l) (c.args.body ∷ []) q in
    let all = subst All c.deref.ensures.value c.in_ok-walk.ensures.found in
    hit ∙ hits_found (callees_in c.args.self.now) (assigners_in c.args.self.now) c.args.body c.walk.new.self.found c.args.blocks.now test all tells
