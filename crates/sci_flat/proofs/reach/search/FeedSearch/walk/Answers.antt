use Rattle.std.proofs.Common.{◌≡◌, ℕ, [], ◌∷◌, ◌++◌, length, ap, refl, arith, length-append}
use Rattle.std.proofs.lemmas.List.{nil_from_length}
use Rattle.sci_flat.specs.Successors.{targets}
use Rattle.sci_flat.proofs.Searching.{walking_begins, walking_more, walking_ends, popped_inside, nothing_left}
use Rattle.sci_flat.proofs.reach.search.FeedSearch.walk.Goals as goal

pub loop-port-init : goal.loop-port-init
loop-port-init c =
    walking_begins (targets c.args.steps.now) c.args.wanted.now c.args.source c.args.start c.args.self.now c.visit.new.self c.requires.start c.requires.ready
    (c.in_ok-visit.ensures.first (λ s. absurd (omega (arith, s, c.requires.ready.below c.args.start))))

pub visit_all-requires-clause-port : goal.visit_all-requires-clause-port
visit_all-requires-clause-port c =
    let last : c.loop-port.self.pending.items ≡ c.pop.new.self.items ++ c.in-Some.port ∷ [] = c.in-Some.ensures.items in
    popped_inside (targets c.args.steps.now) c.args.wanted.now c.args.source c.args.start c.in-Some.port (length c.args.wanted.now) c.args.self.now c.loop-port.self c.pop.new.self.items last c.loop-port.invariant c.requires.ready refl

pub loop-port-preserved : goal.loop-port-preserved
loop-port-preserved c =
    let last : c.loop-port.self.pending.items ≡ c.pop.new.self.items ++ c.in-Some.port ∷ [] = c.in-Some.ensures.items in
    walking_more (targets c.args.steps.now) c.args.wanted.now c.args.source c.args.start c.in-Some.port c.args.self.now c.loop-port.self c.visit_all.new.self c.pop.new.self last c.loop-port.invariant
    c.in_ok-visit_all.ensures

pub loop-port-smaller : goal.loop-port-smaller
loop-port-smaller c =
    let last : c.loop-port.self.pending.items ≡ c.pop.new.self.items ++ c.in-Some.port ∷ [] = c.in-Some.ensures.items in
    let count = c.in_ok-visit_all.ensures.count in
    let long = ap length last in
    omega (arith, count, long, length-append {A = ℕ})

pub returns : goal.returns
returns c =
    let none = nothing_left c.pop.result _ _ c.in_default.not-Some c.pop.ensures.cases in
    let before : c.loop-port.self.pending.items ≡ [] = nil_from_length c.loop-port.self.pending.items (omega (arith, none.0, c.loop-port.self.pending.ok)) in
    let after : c.pop.new.self.items ≡ [] = nil_from_length c.pop.new.self.items (omega (arith, none.1, c.pop.new.self.ok)) in
    walking_ends (targets c.args.steps.now) c.args.wanted.now c.args.source c.args.start c.args.self.now c.loop-port.self _ before after refl refl c.loop-port.invariant
