use Rattle.std.proofs.Common.{◌≡◌, ◌<◌, length, arith, rules, FitsSigned, w64}
use Rattle.std.proofs.lemmas.Int.{to_z-of_z}
use Rattle.sci_forms.specs.Ports.{total}
use Rattle.sci_span.specs.Values.{gathered}
use Rattle.sci_kind_bank.proofs.RunLemmas.{none_written, one_written, overflow_written, zero_written}
use Rattle.sci_kind_bank.proofs.kind_bank.fill_at.Goals as goal

pub returns-then-place-eq0 : goal.returns-then-place-eq0
returns-then-place-eq0 g c = record {
  answer = none_written c.args.row.now.spec c.args.row.now.state c.args.mask (gathered c.args.values.now c.args.place.now.ins) c.args.place.now.outs.start c.args.values.now (omega (arith, c.requires.room, c.if-place-eq0.true));
}

pub bounds-values-place : goal.bounds-values-place
bounds-values-place g c = c.requires.there (omega (arith, c.if-place-eq0.false))

pub offset_bounds-values-place : goal.offset_bounds-values-place
offset_bounds-values-place g c =
    let there : c.args.place.now.outs.start < length c.args.values.now = c.requires.there (omega (arith, c.if-place-eq0.false)) in
    omega (arith, there)

pub returns-in-Overflow : goal.returns-in-Overflow
returns-in-Overflow g c =
    let one : total c.args.row.now.spec.outs ≡ 1 = omega (arith, c.requires.room, c.requires.lone.outs, c.if-place-eq0.false) in
    record {
      answer = overflow_written g.R.Rule.kind c.args.row.now.spec c.args.row.now.state c.args.mask (gathered c.args.values.now c.args.place.now.ins) c.args.place.now.outs.start c.args.values.now c.requires.typed.kind_is one
          (rw c.entering.ensures at c.in-Overflow.ensures);
    }

pub returns-in-Zero : goal.returns-in-Zero
returns-in-Zero g c =
    let one : total c.args.row.now.spec.outs ≡ 1 = omega (arith, c.requires.room, c.requires.lone.outs, c.if-place-eq0.false) in
    record {
      answer = zero_written g.R.Rule.kind c.args.row.now.spec c.args.row.now.state c.args.mask (gathered c.args.values.now c.args.place.now.ins) c.args.place.now.outs.start c.args.values.now c.requires.typed.kind_is one
          (rw c.entering.ensures at c.in-Zero.ensures);
    }

pub returns : goal.returns
returns g c =
    let one : total c.args.row.now.spec.outs ≡ 1 = omega (arith, c.requires.room, c.requires.lone.outs, c.if-place-eq0.false) in
    let there : c.args.place.now.outs.start < length c.args.values.now = c.requires.there (omega (arith, c.if-place-eq0.false)) in
    let fits : FitsSigned w64 c.in-Value.v = search rules in
    rw (to_z-of_z w64 c.in-Value.v fits) (record {
      answer = one_written g.R.Rule.kind c.args.row.now.spec c.args.row.now.state c.args.mask (gathered c.args.values.now c.args.place.now.ins) c.args.place.now.outs.start c.args.values.now c.in-Value.v c.requires.typed.kind_is one
          (rw c.entering.ensures at c.in-Value.ensures) there;
    })
