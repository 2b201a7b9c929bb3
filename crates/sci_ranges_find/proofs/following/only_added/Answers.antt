use Rattle.std.proofs.Common.{nat_eq, sym, ◌∙◌}
use Rattle.sci_forms.specs.Words.{size}
use Rattle.sci_forms.proofs.TestLemmas.{nat_same}
use Rattle.sci_net.specs.Parts.{spec_of}
use Rattle.sci_reaction.proofs.Lists.{and_both}
use Rattle.sci_ranges_refined.specs.Sums.{is_sum}
use Rattle.sci_ranges_find.proofs.following.only_added.Goals as goal

pub returns-then-is_single_sum : goal.returns-then-is_single_sum
returns-then-is_single_sum c =
    let s = spec_of c.args.net.now c.args.followed.block in
    let p = and_both (is_sum s.kind) (nat_eq (size s) 1) (sym c.is_single_sum.ensures ∙ c.if-is_single_sum.true) in
    record { block = c.requires; sum = p.0; single = nat_same (size s) 1 p.1 }
