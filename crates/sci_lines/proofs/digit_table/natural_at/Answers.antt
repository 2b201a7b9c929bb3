use Rattle.std.proofs.Common.{◌++◌, take, ap, ◌∙◌, arith}
use Rattle.sci_lines.proofs.Digits.{at_most_20}
use Rattle.sci_lines.proofs.Threes.{two_pieces, three_pieces, four_pieces}
use Rattle.sci_lines.specs.Threes.{Spelled}
use Rattle.sci_lines.proofs.digit_table.natural_at.Goals as goal

pub returns-then-n-lt-MILLION-clause-text : goal.returns-then-n-lt-MILLION-clause-text
returns-then-n-lt-MILLION-clause-text c =
    two_pieces c.args.n (take c.args.at c.args.text.now) _ _ (omega (arith, c.if-n-lt-THOUSAND.false)) c.ranges.n.fits
    (c.short_at-second.ensures.text ∙ ap (λ (s : Spelled). take c.args.at c.args.text.now ++ s.short) c.number-then-n-lt-MILLION.ensures)
    (c.whole_at.ensures.text ∙ ap (λ (s : Spelled). take c.short_at-second.result c.short_at-second.new.text ++ s.whole) c.number-then-n-lt-MILLION-2.ensures)

pub returns-then-n-lt-BILLION-clause-text : goal.returns-then-n-lt-BILLION-clause-text
returns-then-n-lt-BILLION-clause-text c =
    let second = take c.short_at-second-then-n-lt-BILLION.result c.short_at-second-then-n-lt-BILLION.new.text in
    let third = take c.whole_at-third.result c.whole_at-third.new.text in
    three_pieces c.args.n (take c.args.at c.args.text.now) second third _ (omega (arith, c.if-n-lt-MILLION.false)) c.ranges.n.fits
    (c.short_at-second-then-n-lt-BILLION.ensures.text ∙ ap (λ (s : Spelled). take c.args.at c.args.text.now ++ s.short) c.number-then-n-lt-BILLION.ensures)
    (c.whole_at-third.ensures.text ∙ ap (λ (s : Spelled). second ++ s.whole) c.number-then-n-lt-BILLION-2.ensures)
    (c.whole_at-then-n-lt-BILLION.ensures.text ∙ ap (λ (s : Spelled). third ++ s.whole) c.number-then-n-lt-BILLION-3.ensures)

pub digits_at-requires : goal.digits_at-requires
digits_at-requires c = let most = at_most_20 c.args.n c.ranges.n.fits in omega (arith, most, c.requires.room)

pub returns-clause-end : goal.returns-clause-end
returns-clause-end c = let most = at_most_20 c.args.n c.ranges.n.fits in omega (arith, most, c.digits_at.ensures.end)

pub returns-then-n-lt-TRILLION-clause-text : goal.returns-then-n-lt-TRILLION-clause-text
returns-then-n-lt-TRILLION-clause-text c =
    let second = take c.short_at-second-then-n-lt-TRILLION.result c.short_at-second-then-n-lt-TRILLION.new.text in
    let third = take c.whole_at-third-then-n-lt-TRILLION.result c.whole_at-third-then-n-lt-TRILLION.new.text in
    let fourth = take c.whole_at-fourth.result c.whole_at-fourth.new.text in
    four_pieces c.args.n (take c.args.at c.args.text.now) second third fourth _ (omega (arith, c.if-n-lt-BILLION.false)) c.ranges.n.fits
    (c.short_at-second-then-n-lt-TRILLION.ensures.text ∙ ap (λ (s : Spelled). take c.args.at c.args.text.now ++ s.short) c.number-then-n-lt-TRILLION.ensures)
    (c.whole_at-third-then-n-lt-TRILLION.ensures.text ∙ ap (λ (s : Spelled). second ++ s.whole) c.number-then-n-lt-TRILLION-2.ensures)
    (c.whole_at-fourth.ensures.text ∙ ap (λ (s : Spelled). third ++ s.whole) c.number-then-n-lt-TRILLION-3.ensures)
    (c.whole_at-then-n-lt-TRILLION.ensures.text ∙ ap (λ (s : Spelled). fourth ++ s.whole) c.number-then-n-lt-TRILLION-4.ensures)
