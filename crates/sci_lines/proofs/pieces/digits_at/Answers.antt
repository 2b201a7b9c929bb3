use Rattle.std.proofs.Common.{◌≡◌, ℕ, ◌+◌, drop, take, ap, sym, ◌∙◌, rules, arith}
use Rattle.std.specs.Fmt.{decimal}
use Rattle.sci_lines.proofs.Digits.{at_most_20}
use Rattle.sci_lines.proofs.Paging.{put_behind}
use Rattle.sci_lines.proofs.pieces.digits_at.Goals as goal

pub overflow_add-end : goal.overflow_add-end
overflow_add-end c = let most = at_most_20 c.args.n c.ranges.n.fits in search (rules, most, c.digits.ensures, c.requires)

pub write_digits-requires : goal.write_digits-requires
write_digits-requires c =
    let most = at_most_20 c.args.n c.ranges.n.fits in (omega (arith, c.digits.ensures), omega (arith, most, c.digits.ensures, c.requires))

pub returns-clause-text : goal.returns-clause-text
returns-clause-text c =
    let start : c.write_digits.result ≡ c.args.at = omega (arith, c.write_digits.ensures.start, c.digits.ensures) in
    let new = c.write_digits.new.buf in
    let before = sym (ap (λ (k : ℕ). take k new) start) ∙ (c.write_digits.ensures.before ∙ ap (λ (k : ℕ). take k c.args.text.now) start) in
    let written = sym (ap (λ (k : ℕ). drop k new) start) ∙ c.write_digits.ensures.written in
    ap (λ (k : ℕ). take (c.args.at + k) new) c.digits.ensures
    ∙ put_behind c.args.text.now new (decimal c.args.n) (drop (c.args.at + c.digits.result) c.args.text.now) c.args.at (omega (arith, c.requires)) before written

pub returns-clause-end : goal.returns-clause-end
returns-clause-end c = let most = at_most_20 c.args.n c.ranges.n.fits in omega (arith, most, c.digits.ensures)
