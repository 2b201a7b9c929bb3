use Rattle.std.proofs.Common.{ℕ, Bool, ◌++◌, ◌∷◌, [], ◌==◌, ◌∙◌, List, cond, get_or, ap, sym}
use Rattle.std.specs.List.{filter}
use Rattle.std.proofs.lemmas.List.{take_all}
use Rattle.std.proofs.lemmas.List.Elements.{filter_more}
use Rattle.sci_judge.specs.Rounds.{count_at}
use Rattle.sci_judge.proofs.rounds.first_round.Goals as goal

pub loop-member-preserved : goal.loop-member-preserved
loop-member-preserved c =
    let p : ℕ → Bool = λ b. count_at c.args.counts.now b == 0 in
    let at = get_or c.args.members.now c.loop-member.member-index 0 in
    c.in_ok-put_ready.ensures
    ∙ (ap (λ (xs : List ℕ). xs ++ cond (p at) (at ∷ []) []) c.loop-member.invariant
    ∙ sym (filter_more p c.args.members.now c.loop-member.member-index 0 c.loop-member-test.true))

pub returns : goal.returns
returns c =
    c.loop-member.invariant
    ∙ ap (filter (λ b. count_at c.args.counts.now b == 0)) (take_all c.loop-member.member-index c.args.members.now c.loop-member-test.false)
