use Rattle.std.proofs.Common.{ℕ, List, [], ◌∷◌, ◌≡◌, ◌∙◌, ◌<◌, ◌≤◌, length, refl, subst, sym, arith}
use Rattle.std.proofs.lemmas.Bool.{eqb-true}
use Rattle.sci_net.specs.declared.Feed.{Feed}
use Rattle.sci_reaction.specs.declared.entry.Guard.{Guard}
use Rattle.sci_net.specs.Parts.{AreRising, numbered}
use Rattle.sci_sched.specs.Guards.{AreGuards}
use Rattle.sci_sched.proofs.Guarded.{guards_alike}
use Rattle.sci_sched.proofs.Runs.{no_guards}
use Rattle.sci_sched.proofs.rows.guards_for.Goals as goal

pub guards-requires-clause-rising : goal.guards-requires-clause-rising
guards-requires-clause-rising c = subst AreRising (sym c.branches.ensures) (c.requires.reach.branches_rise c.args.block)

-- a list without elements
none_of : (xs : List ℕ) → length xs ≡ 0 → xs ≡ []
none_of [] e = refl
none_of (x ∷ xs) e = absurd (omega (arith, e))

pub returns-then-is_empty : goal.returns-then-is_empty
returns-then-is_empty c =
    let n = c.args.net.now in let b = c.args.block in
    let qs = numbered [] c.args.reach.now.branches b in
    let none = none_of c.args.conditions.now (eqb-true (length c.args.conditions.now) 0 (sym c.is_empty.ensures ∙ c.if-is_empty.true)) in
    subst (λ (cs : List ℕ). AreGuards n cs qs b c.new.result.items) (sym none) (subst (λ (gs : List Guard). AreGuards n [] qs b gs) (sym c.new.ensures.items) (no_guards n qs b (c.requires.reach.branches_rise b)))

pub returns : goal.returns
returns c =
    let n = c.args.net.now in let b = c.args.block in
    let qs = numbered [] c.args.reach.now.branches b in
    let cs = c.in_ok-sorted.sorted.items in
    let gs = c.in_ok-guards.guards.items in
    let here : AreGuards n cs qs b gs =
    subst (λ (ps : List Feed). AreGuards n cs ps b gs) c.branches.ensures (subst (λ (xs : List ℕ). AreGuards n xs c.branches.result.now b gs) c.deref.ensures.value c.in_ok-guards.ensures) in
    guards_alike n cs c.args.conditions.now qs b gs c.in_ok-sorted.ensures.exactly here
