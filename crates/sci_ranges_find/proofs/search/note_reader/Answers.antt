use Rattle.std.proofs.Common.{length, ap, arith}
use Rattle.sci_forms.specs.declared.spec.Spec.{Spec}
use Rattle.sci_ranges_find.proofs.Counted.{ins_few}
use Rattle.sci_ranges_find.proofs.search.note_reader.Goals as goal

pub overflow_cast-port : goal.overflow_cast-port
overflow_cast-port c = let few = ins_few c.spec-spec.result.now c.spec-spec.ensures.is_typed in omega (arith, few, c.loop-k-test.true, c.len-k-end.ensures.value)

pub overflow_add-port : goal.overflow_add-port
overflow_add-port c = let few = ins_few c.spec-spec.result.now c.spec-spec.ensures.is_typed in omega (arith, few, c.loop-k-test.true, c.len-k-end.ensures.value)

pub wire-wire-requires-clause-port_most : goal.wire-wire-requires-clause-port_most
wire-wire-requires-clause-port_most c =
    let same = ap (λ (s : Spec). length s.ins) c.spec-spec.ensures.value in
    omega (arith, same, c.loop-k-test.true, c.len-k-end.ensures.value)
