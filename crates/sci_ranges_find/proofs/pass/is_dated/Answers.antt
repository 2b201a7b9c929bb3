use Rattle.std.proofs.Common.{pos, length, sym, ap, ◌∙◌, arith, rules, w64}
use Rattle.std.proofs.lemmas.Int.{to_z-of_z}
use Rattle.std.specs.Prelude.{negsuc, int_le}
use Rattle.sci_forms.specs.declared.spec.Spec.{Spec}
use Rattle.sci_net.specs.Parts.{numbered, spec_of}
use Rattle.sci_ranges_marks.proofs.FirstEvents.{numbered_is}
use Rattle.sci_ranges_find.proofs.Passing.{undated}
use Rattle.sci_ranges_find.proofs.pass.is_dated.Goals as goal

pub returns-then-port-eq0 : goal.returns-then-port-eq0
returns-then-port-eq0 c =
    let none = c.if-port-eq0.true in
    sym (undated (spec_of c.args.net.now c.args.port.block).firing c.args.port.port (λ least most. omega (arith, least, none)))

pub returns-then-port-len : goal.returns-then-port-len
returns-then-port-len c =
    let past = c.if-port-len.true in
    let same = ap (λ (s : Spec). length s.firing) c.spec.ensures.value in
    sym (undated (spec_of c.args.net.now c.args.port.block).firing c.args.port.port (λ least most. omega (arith, most, past, same, c.len.ensures.value)))

pub returns : goal.returns
returns c =
    let some = c.if-port-eq0.false in
    let within = c.if-port-len.false in
    ap (int_le (pos 0))
    (to_z-of_z w64 c.get.result (search rules)
    ∙ (c.get.ensures
    ∙ (numbered_is (pos 0) (negsuc 0) c.spec.result.now.firing c.args.port.port (omega (arith, some)) (omega (arith, within, c.len.ensures.value))
    ∙ ap (λ (s : Spec). numbered (negsuc 0) s.firing c.args.port.port) c.spec.ensures.value)))
