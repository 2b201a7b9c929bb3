use Rattle.std.proofs.Common.{◌<◌, List, [], ℕ, ◌+◌, ◌++◌, ◌∙◌, ap, sym, map, length, arith}
use Rattle.std.proofs.lemmas.List.{drop_all}
use Rattle.sci_forms.specs.declared.ports.Port.{Port}
use Rattle.sci_forms.specs.declared.spec.Spec.{Spec}
use Rattle.sci_forms.specs.Ports.{total}
use Rattle.sci_net.specs.Parts.{IsBlock, spec_of, no_spec}
use Rattle.sci_net.proofs.Numbered.{numbered_next}
use Rattle.sci_places.proofs.Outputs.{outs_small}
use Rattle.sci_store.specs.Heads.{named_blocks, named_outputs}
use Rattle.sci_lines.specs.Lines.{start_text}
use Rattle.sci_store.proofs.LineStarts.{put_more, put_all, blocks_next, few_outs}
use Rattle.sci_store.proofs.heads.heads.Goals as goal
use Rattle.sci_store.proofs.heads.heads.Goals.{After-spec}

module _ (c : After-spec) where
  there : c.loop-block.block < length c.args.net.now.specs
  there = omega (arith, c.loop-block-test.true, c.len-block-end.ensures)

  block : IsBlock c.args.net.now (c.loop-block.block + 1)
  block = record { least = omega arith; most = omega (arith, there) }

pub push_outputs-requires-clause-block : goal.push_outputs-requires-clause-block
push_outputs-requires-clause-block c =
    let at = (goal.at.push_outputs-requires-clause-block c).After-spec in
    let most = there at in omega (arith, most, c.well_formed-2.ensures.wired.few)

pub push_outputs-requires-clause-few : goal.push_outputs-requires-clause-few
push_outputs-requires-clause-few c =
    let at = (goal.at.push_outputs-requires-clause-few c).After-spec in
    let few = few_outs (spec_of c.args.net.now (c.loop-block.block + 1)) (c.well_formed-2.ensures.typed_specs _ (block at)) in
    omega (arith, few, ap (λ (s : Spec). length s.outs) c.spec.ensures.value)

pub push_outputs-requires-clause-small : goal.push_outputs-requires-clause-small
push_outputs-requires-clause-small c =
    let at = (goal.at.push_outputs-requires-clause-small c).After-spec in
    let small = outs_small c.args.net.now (c.loop-block.block + 1) c.well_formed-2.ensures (block at) in
    omega (arith, small, ap (λ (s : Spec). total s.outs) c.spec.ensures.value)

pub loop-block-preserved : goal.loop-block-preserved
loop-block-preserved c =
    let at = (goal.at.loop-block-preserved c).After-spec in
    let k = c.loop-block.block in
    let ss = c.args.net.now.specs in
    let same = ap (λ (s : Spec). s.outs) (c.spec.ensures.value ∙ numbered_next no_spec ss k) in
    let next = blocks_next k ss (there at) in
    put_more [] c.loop-block.heads.items c.push_outputs.new.heads.items _ _ _
    (c.in_ok-push_outputs.ensures ∙ ap (λ (os : List Port). c.loop-block.heads.items ++ map start_text (named_outputs (k + 1) 1 os)) same)
    (ap (λ (l : List (List ℕ)). c.loop-block.heads.items ++ l) (sym next) ∙ c.loop-block.invariant)

pub returns : goal.returns
returns c =
    let ss = c.args.net.now.specs in
    put_all [] c.loop-block.heads.items _ _
    (ap (λ (us : List Spec). map start_text (named_blocks (c.loop-block.block + 1) us))
    (drop_all c.loop-block.block ss (omega (arith, c.loop-block-test.false, c.len-block-end.ensures))))
    c.loop-block.invariant
