use Rattle.std.proofs.Common.{◌≡◌, ◌+◌, ℕ, length, sym, ap, subst, ◌∙◌, arith}
use Rattle.sci_forms.specs.declared.spec.Spec.{Spec}
use Rattle.sci_forms.specs.Ports.{total}
use Rattle.sci_net.specs.Parts.{rows_of}
use Rattle.sci_ranges_find.specs.Widest.{whole_ports, AreWholeShowsTo}
use Rattle.sci_ranges_find.proofs.Counted.{outs_small}
use Rattle.sci_ranges_find.proofs.Wholes.{shows_begin, shows_more}
use Rattle.sci_ranges_find.proofs.widest.whole_shows.Goals as goal

pub loop-block-init : goal.loop-block-init
loop-block-init c = shows_begin c.args.net.now c.new-shows.result.items c.push.new.self.items c.new.result c.new-shows.ensures.items c.in_ok-push.ensures.items

pub whole_ports-requires : goal.whole_ports-requires
whole_ports-requires c =
    let small = outs_small c.args.net.now (c.loop-block.block + 1) c.well_formed-2.ensures (record { least = omega arith; most = omega (arith, c.loop-block-test.true, c.len-block-end.ensures) }) in
    let same = ap (λ (s : Spec). total s.outs) c.spec.ensures.value in
    omega (arith, small, same)

pub loop-block-preserved : goal.loop-block-preserved
loop-block-preserved c =
    subst (λ rows. AreWholeShowsTo c.args.net.now (c.loop-block.block + 1) (rows_of rows)) (sym c.in_ok-push-2.ensures.items)
    (shows_more c.args.net.now c.loop-block.block c.loop-block.shows.items c.in_ok-ports.ports c.loop-block.invariant
    (c.in_ok-ports.ensures ∙ ap (λ (s : Spec). whole_ports s.outs) c.spec.ensures.value))

pub returns : goal.returns
returns c =
    let most = c.loop-block.auto.block-end in
    let all : c.loop-block.block ≡ length c.args.net.now.specs = omega (arith, c.loop-block-test.false, most, c.len-block-end.ensures) in
    subst (λ (k : ℕ). AreWholeShowsTo c.args.net.now k (rows_of c.loop-block.shows.items)) all c.loop-block.invariant
