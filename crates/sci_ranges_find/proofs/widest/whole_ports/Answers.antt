use Rattle.std.proofs.Common.{ap, arith}
use Rattle.sci_forms.specs.Ports.{elements}
use Rattle.sci_ranges_find.proofs.Counted.{up_to}
use Rattle.sci_ranges_find.proofs.Wholes.{ports_more, ports_done}
use Rattle.sci_ranges_find.proofs.widest.whole_ports.Goals as goal

pub push_whole-requires : goal.push_whole-requires
push_whole-requires c =
    let fits = up_to c.args.ports.now c.loop-k.k (omega (arith, c.loop-k-test.true, c.len-k-end.ensures.value)) in
    let same = ap elements c.port.ensures in
    omega (arith, fits, same, c.requires)

pub loop-k-preserved : goal.loop-k-preserved
loop-k-preserved c =
    ports_more c.args.ports.now c.loop-k.k c.port.result c.loop-k.all.items c.push_whole.new.all.items (omega (arith, c.loop-k-test.true, c.len-k-end.ensures.value)) c.port.ensures
    c.loop-k.invariant c.in_ok-push_whole.ensures

pub returns : goal.returns
returns c = ports_done c.args.ports.now c.loop-k.k c.loop-k.all.items (omega (arith, c.loop-k-test.false, c.len-k-end.ensures.value)) c.loop-k.invariant
