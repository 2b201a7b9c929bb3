use Rattle.std.proofs.Common.{sym, ◌∙◌, ap, arith}
use Rattle.std.specs.Option.{is_some}
use Rattle.sci_links.specs.Table.{chain, first as first_node}
use Rattle.sci_agenda.proofs.Least.{has_first, some_of}
use Rattle.sci_agenda.proofs.wheel.first_far.Goals as goal

pub loop-rank-init : goal.loop-rank-init
loop-rank-init c = c.requires.near

pub returns-then-is_some : goal.returns-then-is_some
returns-then-is_some c =
    let xs = chain c.args.links.now c.list_at-list.result in
    let e = some_of (first_node xs) (sym (ap is_some c.front.ensures.first) ∙ (sym c.is_some.ensures ∙ c.if-is_some.true)) in (
      c.loop-rank.rank,
      record {
        list_is = c.list_at-list.ensures;
        in_range = omega arith;
        some = (e.0, has_first e.0 xs e.1);
        before = c.loop-rank.invariant;
      },
    )
