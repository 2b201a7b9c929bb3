use Rattle.std.proofs.Common.{◌≡◌, ◌%◌, ◌∙◌, ap, sym, arith}
use Rattle.sci_vcd.specs.Spelling.{binary}
use Rattle.sci_vcd.proofs.Bits.{binary_last}
use Rattle.sci_vcd.proofs.spell.four_digits.Goals as goal

pub returns-in-0 : goal.returns-in-0
unfolding binary
returns-in-0 c = ap (binary 4) (sym c.in-0.is) ∙ binary_last c.args.n

pub returns-in-1 : goal.returns-in-1
unfolding binary
returns-in-1 c = ap (binary 4) (sym c.in-1.is) ∙ binary_last c.args.n

pub returns-in-2 : goal.returns-in-2
unfolding binary
returns-in-2 c = ap (binary 4) (sym c.in-2.is) ∙ binary_last c.args.n

pub returns-in-3 : goal.returns-in-3
unfolding binary
returns-in-3 c = ap (binary 4) (sym c.in-3.is) ∙ binary_last c.args.n

pub returns-in-4 : goal.returns-in-4
unfolding binary
returns-in-4 c = ap (binary 4) (sym c.in-4.is) ∙ binary_last c.args.n

pub returns-in-5 : goal.returns-in-5
unfolding binary
returns-in-5 c = ap (binary 4) (sym c.in-5.is) ∙ binary_last c.args.n

pub returns-in-6 : goal.returns-in-6
unfolding binary
returns-in-6 c = ap (binary 4) (sym c.in-6.is) ∙ binary_last c.args.n

pub returns-in-7 : goal.returns-in-7
unfolding binary
returns-in-7 c = ap (binary 4) (sym c.in-7.is) ∙ binary_last c.args.n

pub returns-in-8 : goal.returns-in-8
unfolding binary
returns-in-8 c = ap (binary 4) (sym c.in-8.is) ∙ binary_last c.args.n

pub returns-in-9 : goal.returns-in-9
unfolding binary
returns-in-9 c = ap (binary 4) (sym c.in-9.is) ∙ binary_last c.args.n

pub returns-in-10 : goal.returns-in-10
unfolding binary
returns-in-10 c = ap (binary 4) (sym c.in-10.is) ∙ binary_last c.args.n

pub returns-in-11 : goal.returns-in-11
unfolding binary
returns-in-11 c = ap (binary 4) (sym c.in-11.is) ∙ binary_last c.args.n

pub returns-in-12 : goal.returns-in-12
unfolding binary
returns-in-12 c = ap (binary 4) (sym c.in-12.is) ∙ binary_last c.args.n

pub returns-in-13 : goal.returns-in-13
unfolding binary
returns-in-13 c = ap (binary 4) (sym c.in-13.is) ∙ binary_last c.args.n

pub returns-in-14 : goal.returns-in-14
unfolding binary
returns-in-14 c = ap (binary 4) (sym c.in-14.is) ∙ binary_last c.args.n

pub returns-in_default : goal.returns-in_default
unfolding binary
returns-in_default c =
    let last : 15 ≡ c.args.n % 16 = omega (arith, c.in_default) in
    ap (binary 4) last ∙ binary_last c.args.n
