use Rattle.std.proofs.Common.{ℕ, ◌≡◌, ◌+◌, ◌++◌, ◌∷◌, [], ◌<◌, List, length, get_or, drop, sym, ap, ◌∙◌, arith, length-append}
use Rattle.std.proofs.lemmas.List.{get_or_append_left, get_or_push, length_push}
use borrow.Author.Count.{below_more}
use Rattle.sci_forms.specs.declared.spec.Spec.{Spec}
use Rattle.sci_infer.specs.declared.parts.PortPart.{PortPart}
use Rattle.sci_infer.specs.PortParts.{block_parts, parts_from, parts_in}
use Rattle.sci_infer.specs.Layout.{start_of}
use Rattle.sci_infer.proofs.Few.{few_ins, few_outs, formed_read}
use Rattle.sci_infer.proofs.Places.{start_zero, start_more, rest_more, rest_all, block_length, spec_read}
use Rattle.sci_infer.proofs.parts.lay_out.Goals as goal

pub push_block-requires-clause-ins : goal.push_block-requires-clause-ins
push_block-requires-clause-ins c =
    few_ins c.spec.result.now
    (formed_read c.args.flat.now (c.loop-at.at + 1) c.spec.result.now c.well_formed-2.ensures (omega arith) (omega (arith, c.loop-at-test.true, c.len-at-end.ensures)) c.spec.ensures)

pub push_block-requires-clause-outs : goal.push_block-requires-clause-outs
push_block-requires-clause-outs c =
    few_outs c.spec.result.now
    (formed_read c.args.flat.now (c.loop-at.at + 1) c.spec.result.now c.well_formed-2.ensures (omega arith) (omega (arith, c.loop-at-test.true, c.len-at-end.ensures)) c.spec.ensures)

pub loop-at-init : goal.loop-at-init
loop-at-init c =
    let xs = c.args.flat.now.specs in
    record {
      rest = ap (λ (ps : List PortPart). ps ++ parts_from 1 xs) c.new-parts.ensures.items;
      long = ap length c.new-parts.ensures.items ∙ sym (start_zero xs);
      enough = ap length c.new-starts.ensures.items;
      starts = λ b h. absurd (omega (arith, h));
    }

pub loop-at-preserved : goal.loop-at-preserved
loop-at-preserved c =
    let xs : List Spec = c.args.flat.now.specs in
    let inv = c.loop-at.invariant in
    let i = c.loop-at.at in
    let x : Spec = c.spec.result.now in
    let inside : i < length xs = omega (arith, c.loop-at-test.true, c.len-at-end.ensures) in
    let e : x ≡ get_or xs i x = spec_read c.args.flat.now i x c.spec.ensures inside in
    let p : c.push_block.new.parts.items ≡ c.loop-at.parts.items ++ block_parts (i + 1) x = c.in_ok-push_block.ensures in
    let s : c.push.new.self.items ≡ c.loop-at.starts.items ++ c.len.result ∷ [] = c.in_ok-push.ensures.items in
    let here : c.len.result ≡ start_of xs i = c.len.ensures ∙ (c.loop-at.parts.ok.0 ∙ inv.long) in
    let enough : length c.loop-at.starts.items ≡ i = inv.enough in
    let more = start_more xs i x inside e in
    let joined = length-append c.loop-at.parts.items (block_parts (i + 1) x) in
    let own = block_length (i + 1) x in
    let total : length c.push_block.new.parts.items ≡ length (c.loop-at.parts.items ++ block_parts (i + 1) x) = ap length p in
    let before : length c.loop-at.parts.items ≡ start_of xs i = inv.long in
    record {
      rest = ap (λ (ps : List PortPart). ps ++ parts_from ((i + 1) + 1) (drop (i + 1) xs)) p ∙ rest_more (i + 1) c.loop-at.parts.items (parts_in c.args.flat.now) xs i x inside e inv.rest;
      long = omega (arith, total, joined, own, before, more);
      enough = ap length s ∙ (length_push c.loop-at.starts.items c.len.result ∙ ap (λ n. n + 1) enough);
      starts = below_more _ _
          (λ b h. ap (λ (ys : List ℕ). get_or ys b 0) s ∙ (get_or_append_left c.loop-at.starts.items (c.len.result ∷ []) 0 b (omega (arith, h, enough)) ∙ inv.starts b h))
          (ap (λ (ys : List ℕ). get_or ys i 0) s ∙ (get_or_push c.loop-at.starts.items c.len.result 0 i enough ∙ here));
    }

pub returns : goal.returns
returns c =
    let xs : List Spec = c.args.flat.now.specs in
    let inv = c.loop-at.invariant in
    let full : c.loop-at.at ≡ length xs = omega (arith, c.loop-at-test.false, c.loop-at.auto.at-end, c.len-at-end.ensures) in
    let last = rest_all (c.loop-at.at + 1) c.loop-at.parts.items xs c.loop-at.at (omega (arith, full)) in
    record {
      parts = sym last ∙ inv.rest;
      enough = inv.enough ∙ full;
      starts = λ b h. inv.starts b (omega (arith, h, full));
    }
