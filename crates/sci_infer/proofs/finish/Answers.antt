use Rattle.std.proofs.Common.{◌≡◌, ◌≤◌, ◌<◌, ◌^◌, None, List, length, All, arith, subst, sym, ap, ◌∙◌}
use Rattle.sci_forms.specs.declared.ports.Port.{Port}
use Rattle.sci_forms.specs.declared.spec.Spec.{Spec}
use Rattle.sci_forms.specs.Ports.{elements}
use Rattle.sci_net.specs.Parts.{Parts, with_specs}
use Rattle.sci_net.specs.Net.{IsNet}
use Rattle.sci_infer.specs.Typed.{typed_specs}
use Rattle.sci_infer.specs.Broken.{net_broken}
use Rattle.sci_infer.proofs.Few.{all_few_ins, all_few_outs}
use Rattle.sci_infer.proofs.TypedNet.{specs_few, outs_few, outs_below, well_formed, typed_specs_length}
use Rattle.sci_infer.proofs.finish.Goals as goal

pub fill_specs-requires-clause-few_ins : goal.fill_specs-requires-clause-few_ins
fill_specs-requires-clause-few_ins c = subst (λ (ss : List Spec). All (λ (s : Spec). length s.ins ≤ 64) ss) (sym c.apart-specs.ensures.specs) (all_few_ins c.args.flat c.well_formed-2.ensures)

pub fill_specs-requires-clause-few_outs : goal.fill_specs-requires-clause-few_outs
fill_specs-requires-clause-few_outs c = subst (λ (ss : List Spec). All (λ (s : Spec). length s.outs ≤ 64) ss) (sym c.apart-specs.ensures.specs) (all_few_outs c.args.flat c.well_formed-2.ensures)

pub net_broken-requires-clause-few : goal.net_broken-requires-clause-few
net_broken-requires-clause-few c =
    let all : c.fill_specs.new.specs.items ≡ typed_specs c.args.values.now 0 c.args.flat.specs = c.in_ok-fill_specs.ensures ∙ ap (typed_specs c.args.values.now 0) c.apart-specs.ensures.specs in
    subst (λ (ss : List Spec). length ss ≤ 2048) (sym (c.deref.ensures.value ∙ all))
    (specs_few c.args.flat c.well_formed-2.ensures c.args.values.now c.requires.typing)

pub net_broken-requires-clause-few_outs : goal.net_broken-requires-clause-few_outs
net_broken-requires-clause-few_outs c =
    let all : c.fill_specs.new.specs.items ≡ typed_specs c.args.values.now 0 c.args.flat.specs = c.in_ok-fill_specs.ensures ∙ ap (typed_specs c.args.values.now 0) c.apart-specs.ensures.specs in
    subst (λ (ss : List Spec). All (λ (s : Spec). length s.outs ≤ 64) ss) (sym (c.deref.ensures.value ∙ all))
    (outs_few c.args.flat c.well_formed-2.ensures c.args.values.now c.requires.typing)

pub net_broken-requires-clause-small : goal.net_broken-requires-clause-small
net_broken-requires-clause-small c =
    let all : c.fill_specs.new.specs.items ≡ typed_specs c.args.values.now 0 c.args.flat.specs = c.in_ok-fill_specs.ensures ∙ ap (typed_specs c.args.values.now 0) c.apart-specs.ensures.specs in
    subst (λ (ss : List Spec). All (λ (s : Spec). All (λ (p : Port). elements p < 2 ^ 63) s.outs) ss) (sym (c.deref.ensures.value ∙ all))
    (outs_below c.args.flat c.well_formed-2.ensures c.args.values.now c.requires.typing)

pub blame-requires : goal.blame-requires
blame-requires c =
    let all : c.fill_specs.new.specs.items ≡ typed_specs c.args.values.now 0 c.args.flat.specs = c.in_ok-fill_specs.ensures ∙ ap (typed_specs c.args.values.now 0) c.apart-specs.ensures.specs in
    let same : length c.deref.result.now ≡ length (typed_specs c.args.values.now 0 c.args.flat.specs) = ap length (c.deref.ensures.value ∙ all) in
    let long = typed_specs_length c.args.values.now 0 c.args.flat.specs in
    let paths : length c.apart-specs.result.1.paths ≡ length c.args.flat.paths = ap (λ (n : Parts). length n.paths) c.apart-specs.ensures.rest in
    omega (arith, same, long, paths, c.in-Some.ensures.block, c.well_formed-2.ensures.wired.one_path_each)

pub assemble-requires : goal.assemble-requires
assemble-requires c =
    let filled : c.fill_specs.new.specs.items ≡ typed_specs c.args.values.now 0 c.args.flat.specs = c.in_ok-fill_specs.ensures ∙ ap (typed_specs c.args.values.now 0) c.apart-specs.ensures.specs in
    let all = c.deref.ensures.value ∙ filled in
    let none : net_broken (typed_specs c.args.values.now 0 c.args.flat.specs) ≡ None = ap net_broken (sym all) ∙ (sym c.net_broken.ensures.value ∙ c.in-None.is) in
    let wiring : with_specs c.args.flat c.fill_specs.new.specs.items ≡ with_specs c.apart-specs.result.1 c.fill_specs.new.specs.items = ap (λ (n : Parts). with_specs n c.fill_specs.new.specs.items) (sym c.apart-specs.ensures.rest) in
    subst IsNet wiring (subst (λ (ss : List Spec). IsNet (with_specs c.args.flat ss)) (sym filled)
    (well_formed c.args.flat c.well_formed-2.ensures c.args.values.now c.requires.typing none))
