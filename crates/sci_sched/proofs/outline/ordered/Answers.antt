use Rattle.std.proofs.Common.{ℕ, ◌≡◌, length, arith, rules, sym, ap, ◌∙◌, true≢false}
use Rattle.std.specs.Prelude.{replicate}
use Rattle.sci_sched.proofs.Outlining.{members_are, all_one_deep}
use Rattle.sci_sched.proofs.outline.ordered.Goals as goal

pub returns-in_ok-depths-clause-ok : goal.returns-in_ok-depths-clause-ok
returns-in_ok-depths-clause-ok c =
    members_are c.args.net.now c.args.source c.args.table c.requires.table (λ h. true≢false (sym (c.has_needs.ensures.1 h) ∙ c.if-has_needs.false))

pub returns-in_ok-depths-clause-depths : goal.returns-in_ok-depths-clause-depths
returns-in_ok-depths-clause-depths c =
    let members = c.args.table.members in
    let long : c.len.result ≡ length members.items = omega (arith, c.len.ensures, members.ok.0) in
    all_one_deep c.args.net.now c.args.source c.args.table c.in_ok-depths.depths.items c.requires.table (λ h. true≢false (sym (c.has_needs.ensures.1 h) ∙ c.if-has_needs.false))
    (c.in_ok-depths.ensures.items_if_clones_equal (search rules) ∙ ap (λ (k : ℕ). replicate {A = ℕ} k 1) long)
