use Rattle.std.proofs.Common.{ℕ, ◌+◌, List, [], ◌∷◌, ◌++◌, get_or, ap, ◌∙◌}
use Rattle.std.proofs.lemmas.List.{get_or_default}
use Rattle.sci_agree.specs.Compared.{taken_by}
use Rattle.sci_agree.proofs.Taking.{next_byte, front_of}
use Rattle.sci_agree.proofs.comparing.Comparing.compare_bytes.Goals as goal

pub returns-then-not-take-clause-front : goal.returns-then-not-take-clause-front
returns-then-not-take-clause-front c = λ _.
    let piece = c.args.piece.now in
    let i = c.loop-byte.byte-index in
    let b : ℕ = get_or piece i 0 in
    front_of (taken_by c.args.self.now) (taken_by c.take.new.self) piece (i + 1)
    (c.take.ensures.taken ∙ (ap (λ (l : List ℕ). l ++ b ∷ []) c.loop-byte.invariant.taken
    ∙ next_byte (taken_by c.args.self.now) piece i b c.loop-byte-test.true (get_or_default piece i 0 b c.loop-byte-test.true)))
