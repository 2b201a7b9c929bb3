use Rattle.std.proofs.Common.{◌≡◌, ℕ, None, sym, ◌∙◌, ap, subst, arith}
use Rattle.std.specs.Option.{is_some}
use Rattle.sci_links.specs.Table.{chain, first as first_node}
use Rattle.sci_agenda.specs.Wheel.{list_at}
use Rattle.sci_agenda.proofs.Least.{has_first, none_more, none_of, some_of}
use Rattle.sci_agenda.proofs.Ranks.{low_list}
use Rattle.sci_agenda.proofs.wheel.first_list.Goals as goal

pub loop-list-preserved : goal.loop-list-preserved
loop-list-preserved c =
    let near : list_at c.args.now c.loop-list.list ≡ c.loop-list.list = low_list c.args.now c.loop-list.list (omega arith) in
    let none = none_of (first_node (chain c.args.links.now c.loop-list.list)) (sym (ap is_some c.front.ensures.first) ∙ (sym c.is_some.ensures ∙ c.if-is_some.false)) in
    none_more c.args.links.now c.args.now c.loop-list.list c.loop-list.invariant
    (subst (λ (l : ℕ). first_node (chain c.args.links.now l) ≡ None) (sym near) none)

pub returns-then-is_some : goal.returns-then-is_some
returns-then-is_some c =
    let xs = chain c.args.links.now c.loop-list.list in
    let e = some_of (first_node xs) (sym (ap is_some c.front.ensures.first) ∙ (sym c.is_some.ensures ∙ c.if-is_some.true)) in (
      c.loop-list.list,
      record {
        list_is = sym (low_list c.args.now c.loop-list.list (omega arith));
        in_range = omega arith;
        some = (e.0, has_first e.0 xs e.1);
        before = c.loop-list.invariant;
      },
    )

pub first_far-requires-clause-near : goal.first_far-requires-clause-near
first_far-requires-clause-near c = λ q x low high h. c.loop-list.invariant q x low (omega (arith, high)) h
