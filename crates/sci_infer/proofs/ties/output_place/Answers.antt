use Rattle.std.proofs.Common.{◌≡◌, ◌-◌, ◌<◌, ap, ◌∙◌, arith, length}
use Rattle.std.proofs.lemmas.List.{get_or_read}
use Rattle.sci_forms.specs.declared.spec.Spec.{Spec}
use Rattle.sci_net.specs.Parts.{spec_of}
use Rattle.sci_infer.specs.PortParts.{parts_in}
use Rattle.sci_infer.specs.Layout.{start_of}
use Rattle.sci_infer.proofs.Places.{output_bound, output_at}
use Rattle.sci_infer.proofs.ties.output_place.Goals as goal

pub overflow_mul-result : goal.overflow_mul-result
overflow_mul-result c =
    let full : c.len-total.result ≡ length (parts_in c.args.flat.now) = c.len-total.ensures ∙ (c.args.layout.now.parts.ok.0 ∙ ap length c.requires.layout.parts) in
    let ins : c.len-inputs.result ≡ length (spec_of c.args.flat.now c.args.wire.block).ins = c.len-inputs.ensures.value ∙ ap (λ (s : Spec). length s.ins) c.spec.ensures in
    let b = output_bound c.args.flat.now c.args.wire c.args.what c.requires.wire in
    omega (arith, b, ins)

pub overflow_add-result-2 : goal.overflow_add-result-2
overflow_add-result-2 c =
    let full : c.len-total.result ≡ length (parts_in c.args.flat.now) = c.len-total.ensures ∙ (c.args.layout.now.parts.ok.0 ∙ ap length c.requires.layout.parts) in
    let ins : c.len-inputs.result ≡ length (spec_of c.args.flat.now c.args.wire.block).ins = c.len-inputs.ensures.value ∙ ap (λ (s : Spec). length s.ins) c.spec.ensures in
    let b = output_bound c.args.flat.now c.args.wire c.args.what c.requires.wire in
    omega (arith, b, ins, c.offset.ensures)

pub overflow_add-result-3 : goal.overflow_add-result-3
overflow_add-result-3 c =
    let full : c.len-total.result ≡ length (parts_in c.args.flat.now) = c.len-total.ensures ∙ (c.args.layout.now.parts.ok.0 ∙ ap length c.requires.layout.parts) in
    let ins : c.len-inputs.result ≡ length (spec_of c.args.flat.now c.args.wire.block).ins = c.len-inputs.ensures.value ∙ ap (λ (s : Spec). length s.ins) c.spec.ensures in
    let b = output_bound c.args.flat.now c.args.wire c.args.what c.requires.wire in
    let least = c.requires.wire.block.least in let most = c.requires.wire.block.most in
    let inside : c.args.wire.block - 1 < length c.args.flat.now.specs = omega (arith, least, most) in
    let st : c.index.result.now ≡ start_of c.args.flat.now.specs (c.args.wire.block - 1) =
    get_or_read c.args.layout.now.starts.items (c.args.wire.block - 1) c.index.result.now (let n = c.requires.layout.enough in omega (arith, inside, n)) c.index.ensures 0 ∙ c.requires.layout.starts (c.args.wire.block - 1) inside in
    omega (arith, b, ins, c.offset.ensures, st)

pub returns : goal.returns
returns c =
    let ins : c.len-inputs.result ≡ length (spec_of c.args.flat.now c.args.wire.block).ins = c.len-inputs.ensures.value ∙ ap (λ (s : Spec). length s.ins) c.spec.ensures in
    let least = c.requires.wire.block.least in let most = c.requires.wire.block.most in
    let inside : c.args.wire.block - 1 < length c.args.flat.now.specs = omega (arith, least, most) in
    let st : c.index.result.now ≡ start_of c.args.flat.now.specs (c.args.wire.block - 1) =
    get_or_read c.args.layout.now.starts.items (c.args.wire.block - 1) c.index.result.now (let n = c.requires.layout.enough in omega (arith, inside, n)) c.index.ensures 0 ∙ c.requires.layout.starts (c.args.wire.block - 1) inside in
    output_at c.args.flat.now c.args.wire c.args.what _ c.requires.wire (omega (arith, st, ins, c.offset.ensures))
