use Rattle.std.proofs.Common.{rules, ℕ, ◌+◌, ◌++◌, ap, ◌∙◌}
use Rattle.std.proofs.lemmas.Bool.Decides.{Decides-eqb}
use Rattle.std.proofs.lemmas.Slice.Eq.{starts_is}
use Rattle.sci_agree.specs.Compared.{Compared, taken_by}
use Rattle.sci_agree.proofs.Lines.{lines-within}
use Rattle.sci_agree.proofs.Taking.{few_lines, piece_on, piece_taken}
use Rattle.sci_agree.proofs.comparing.Comparing.take_whole.Goals as goal

pub overflow_add-self-2 : goal.overflow_add-self-2
overflow_add-self-2 c = let few = few_lines _ c.self.invariant in let more = lines-within c.args.piece.now in search (rules, few, more)

pub invariant_of-self : goal.invariant_of-self
invariant_of-self c =
    let begins = (starts_is Decides-eqb _ c.args.piece.now _ c.starts_with.ensures.value).0 c.if-not-starts_with.false in
    piece_on _ c.args.piece.now _ c.self.invariant (ap (λ (s : Compared). s.wrong) c.self.view_is ∙ c.requires) begins _
    (ap (λ (n : ℕ). c.self.inside.lines + n) c.lines_within.ensures)

pub returns-clause-all : goal.returns-clause-all
returns-clause-all c = λ _.
    let begins = (starts_is Decides-eqb _ c.args.piece.now _ c.starts_with.ensures.value).0 c.if-not-starts_with.false in
    let none = ap (λ (s : Compared). s.wrong) c.self.view_is ∙ c.requires in
    piece_taken _ c.args.piece.now _ c.self.invariant none begins _ none ∙ ap (λ (s : Compared). taken_by s ++ c.args.piece.now) c.self.view_is
