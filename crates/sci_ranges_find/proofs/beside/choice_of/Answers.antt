use Rattle.std.proofs.Common.{ℕ, Option, subst}
use Rattle.sci_ranges_marks.specs.View.{marks_of}
use Rattle.sci_ranges_choices.specs.View.{IsCompared, IsAdded}
use Rattle.sci_ranges_find.specs.View.{ranges_of}
use Rattle.sci_ranges_find.specs.Beside.{Follows}
use Rattle.sci_ranges_find.proofs.Choices.{follows_such, compared_block, added_block}
use Rattle.sci_ranges_find.proofs.beside.choice_of.Goals as goal

pub followed_of-requires-clause-block : goal.followed_of-requires-clause-block
followed_of-requires-clause-block c = compared_block c.args.net.now c.comparison-looked.result c.comparison-looked.ensures.lead

pub followed_of-requires-2-clause-block : goal.followed_of-requires-2-clause-block
followed_of-requires-2-clause-block c = added_block c.args.net.now c.addition-upper.result c.addition-upper.ensures.lead

pub followed_of-requires-3-clause-block : goal.followed_of-requires-3-clause-block
followed_of-requires-3-clause-block c = added_block c.args.net.now c.addition-lower.result c.addition-lower.ensures.lead

pub returns-clause-before : goal.returns-clause-before
returns-clause-before c =
    let n = c.args.net.now in
    let i = c.args.inputs.now in
    let m = marks_of c.args.marks.now in
    let r = ranges_of c.args.table.now in
    record {
      compared = subst (λ (o : Option ℕ). Follows n i m r o c.in_ok-compared.compared) c.comparison-looked.ensures.value c.in_ok-compared.ensures;
      first = subst (λ (o : Option ℕ). Follows n i m r o c.in_ok-first.first) c.addition-upper.ensures.value c.in_ok-first.ensures;
      third = subst (λ (o : Option ℕ). Follows n i m r o c.in_ok-third.third) c.addition-lower.ensures.value c.in_ok-third.ensures;
    }

pub returns-clause-followed : goal.returns-clause-followed
returns-clause-followed c =
    let n = c.args.net.now in
    let i = c.args.inputs.now in
    let m = marks_of c.args.marks.now in
    let r = ranges_of c.args.table.now in
    record {
      compared = follows_such n i m r (λ g. IsCompared n g) c.comparison-looked.result c.in_ok-compared.compared c.in_ok-compared.ensures c.comparison-looked.ensures.lead;
      first = follows_such n i m r (λ g. IsAdded n g) c.addition-upper.result c.in_ok-first.first c.in_ok-first.ensures c.addition-upper.ensures.lead;
      third = follows_such n i m r (λ g. IsAdded n g) c.addition-lower.result c.in_ok-third.third c.in_ok-third.ensures c.addition-lower.ensures.lead;
    }
