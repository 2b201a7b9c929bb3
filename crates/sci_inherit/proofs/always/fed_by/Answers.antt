use Rattle.std.proofs.Common.{◌∙◌, [], sym, subst, arith, true≢false}
use Rattle.sci_net.specs.declared.Source.{Source}
use Rattle.sci_inherit.specs.Followers.{plain_rows, AreFedBy, AreInOrder}
use Rattle.sci_inherit.specs.Gather.{AreFeeding}
use Rattle.sci_inherit.proofs.Living.{row_of_wanted}
use Rattle.sci_inherit.proofs.Sourced.{output_at, start_feeds}
use Rattle.sci_inherit.proofs.always.fed_by.Goals as goal

pub of_output-requires : goal.of_output-requires
of_output-requires c =
    let q = c.in-Port.feed in
    let o = (output_at c.args.net.now c.args.at q c.requires.source c.in-Port.ensures).0 in
    let long = c.requires.rows.have_rows.long in
    let wide = c.requires.rows.have_rows.wide q.block o.block in
    record { block = let most = o.block.most in omega (arith, long, most); port = let most = o.most in omega (arith, wide, most) }

pub returns-in-Start-clause-feeding : goal.returns-in-Start-clause-feeding
returns-in-Start-clause-feeding c = subst (λ (s : Source). AreFeeding c.args.net.now s []) c.in-Start.ensures (start_feeds c.args.net.now)

pub returns-in-Port-clause-feeding : goal.returns-in-Port-clause-feeding
returns-in-Port-clause-feeding c =
    let n = c.args.net.now in
    let q = c.in-Port.feed in
    let both = output_at n c.args.at q c.requires.source c.in-Port.ensures in
    subst (λ (s : Source). AreFeeding n s c.of_output.result.now) c.in-Port.ensures (subst (AreFedBy n q) (sym c.of_output.ensures) (row_of_wanted n c.args.rows.now.wanted.items (plain_rows c.args.rows.now.fed.items) q c.requires.rows.rows
    (c.requires.wanted q.block both.0.block (λ t. true≢false (sym t ∙ both.1)))))

pub returns-in-Port-clause-in_order : goal.returns-in-Port-clause-in_order
returns-in-Port-clause-in_order c = subst AreInOrder (sym c.of_output.ensures) (c.requires.rows.in_order c.in-Port.feed)
