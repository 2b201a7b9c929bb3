use Rattle.std.proofs.Common.{◌≡◌, ◌∙◌, ℕ, ◌<◌, List, length, ap, sym, subst}
use Rattle.std.specs.Prelude.{All}
use Rattle.sci_flat.specs.Successors.{AreSuccessors}
use Rattle.sci_flat.proofs.Reaching.{numbers_within, are_feeding, marks_at}
use Rattle.sci_flat.proofs.ends.feeding_of.Goals as goal

pub marked-requires : goal.marked-requires
marked-requires c =
    let is = c.deref.ensures.value ∙ c.in_ok-targets.ensures.numbers in
    let P : List ℕ → Type 0 = All (λ n. n < c.args.ports) in
    subst P (sym is) (numbers_within c.args.ports c.args.to c.args.seats.now c.requires.inside)

pub reached-requires-clause-sources : goal.reached-requires-clause-sources
reached-requires-clause-sources c =
    let is = c.deref-2.ensures.value ∙ c.in_ok-sources.ensures.numbers in
    let long : length c.deref-3.result.now ≡ c.args.ports = ap length c.deref-3.ensures.value ∙ c.in_ok-wanted.ensures.long in
    let P : List ℕ → Type 0 = All (λ n. n < c.args.ports) in
    let Q : ℕ → Type 0 = λ m. All (λ n. n < m) c.deref-2.result.now in
    subst Q (sym long) (subst P (sym is) (numbers_within c.args.ports c.args.from c.args.seats.now c.requires.inside))

pub reached-requires-clause-successors : goal.reached-requires-clause-successors
reached-requires-clause-successors c =
    let long : length c.deref-3.result.now ≡ c.args.ports = ap length c.deref-3.ensures.value ∙ c.in_ok-wanted.ensures.long in
    let P : ℕ → Type 0 = λ m. AreSuccessors c.args.steps.now m c.args.successors.now in
    subst P (sym long) c.requires.successors

pub returns : goal.returns
returns c =
    are_feeding c.args.seats.now c.args.steps.now c.args.ports c.args.from c.args.to c.in_ok-sources.sources.feeds.items _ c.deref-2.result.now c.deref-3.result.now c.deref.result.now
    c.in_ok-sources.ensures.feeds (c.deref-2.ensures.value ∙ c.in_ok-sources.ensures.numbers) (c.deref.ensures.value ∙ c.in_ok-targets.ensures.numbers)
    (ap length c.deref-3.ensures.value ∙ c.in_ok-wanted.ensures.long)
    (λ q has. marks_at _ _ q c.deref-3.ensures.value (c.in_ok-wanted.ensures.marks q has)) c.in_ok-lists.ensures
