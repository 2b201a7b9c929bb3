use Rattle.std.proofs.Common.{◌≡◌, arith, length, refl, subst, sym, ◌∙◌, List, true≢false, ◌<ℤ◌, pos}
use Rattle.std.proofs.lemmas.Option.{same_Some, slice_get_read}
use Rattle.sci_infer.specs.declared.parts.PortPart.{PortPart}
use Rattle.sci_infer.specs.Typing.{IsAt}
use Rattle.sci_infer.specs.PortParts.{parts_in}
use Rattle.sci_infer.specs.Ties.{BeginsAt, IsFirstLike}
use Rattle.sci_infer.proofs.Wires.{part_at}
use Rattle.sci_infer.proofs.Places.{placed}
use Rattle.sci_infer.proofs.Numbers.{shared_here, shared_tie_is}
use Rattle.sci_infer.proofs.ties.shared_tie.Goals as goal

pub overflow_cast-part : goal.overflow_cast-part
overflow_cast-part c =
    let p = c.index.result.now in
    let d = c.requires.layout.0 in
    let ok = c.requires.layout.1 in
    let at : IsAt (parts_in d) c.args.at p = part_at d c.args.layout.now c.args.at p ok c.requires.within c.index.ensures in
    let w = placed d c.args.at p at in let most = w.block.most in let l = ok.enough in
    omega (arith, most, l, c.args.layout.now.starts.ok.0)

pub overflow_sub-part : goal.overflow_sub-part
overflow_sub-part c =
    let p = c.index.result.now in
    let d = c.requires.layout.0 in
    let ok = c.requires.layout.1 in
    let at : IsAt (parts_in d) c.args.at p = part_at d c.args.layout.now c.args.at p ok c.requires.within c.index.ensures in
    (placed d c.args.at p at).block.least

pub index-start-requires : goal.index-start-requires
index-start-requires c =
    let p = c.index.result.now in
    let d = c.requires.layout.0 in
    let ok = c.requires.layout.1 in
    let at : IsAt (parts_in d) c.args.at p = part_at d c.args.layout.now c.args.at p ok c.requires.within c.index.ensures in
    let w = placed d c.args.at p at in let least = w.block.least in let most = w.block.most in
    omega (arith, least, most, ok.enough, c.args.layout.now.starts.ok.0)

pub first_like-right-requires-clause-start : goal.first_like-right-requires-clause-start
first_like-right-requires-clause-start c =
    let p = c.index.result.now in
    let d = c.requires.layout.0 in
    let ok = c.requires.layout.1 in
    let at : IsAt (parts_in d) c.args.at p = part_at d c.args.layout.now c.args.at p ok c.requires.within c.index.ensures in
    let h = shared_here d c.args.layout.now c.args.at p c.index-start.result.now ok at c.index-start.ensures in h.low

pub first_like-right-requires-clause-begins : goal.first_like-right-requires-clause-begins
first_like-right-requires-clause-begins c =
    let p = c.index.result.now in
    let d = c.requires.layout.0 in
    let ok = c.requires.layout.1 in
    let at : IsAt (parts_in d) c.args.at p = part_at d c.args.layout.now c.args.at p ok c.requires.within c.index.ensures in
    let h = shared_here d c.args.layout.now c.args.at p c.index-start.result.now ok at c.index-start.ensures in
    subst (λ (ps : List PortPart). BeginsAt ps c.index-start.result.now c.args.at) (sym c.as_slice.ensures.value) h.begins

pub returns-then-is_negative-clause-some : goal.returns-then-is_negative-clause-some
returns-then-is_negative-clause-some c =
    let p = c.index.result.now in
    let ps = c.args.layout.now.parts.items in
    let here : IsAt ps c.args.at p = slice_get_read ps (length ps) c.args.at p refl c.requires.within c.index.ensures in
    shared_tie_is ps c.args.at c.first_like-right.result p here (c.is_negative.ensures.0 c.if-is_negative.true)
    (subst (λ (qs : List PortPart). IsFirstLike qs c.args.at c.first_like-right.result) c.as_slice.ensures.value c.first_like-right.ensures)

pub returns-else-is_negative-clause-none : goal.returns-else-is_negative-clause-none
returns-else-is_negative-clause-none c q at_q negative =
    let p = c.index.result.now in
    let ps = c.args.layout.now.parts.items in
    let here : IsAt ps c.args.at p = slice_get_read ps (length ps) c.args.at p refl c.requires.within c.index.ensures in
    let same : q ≡ p = same_Some q p (sym at_q ∙ here) in
    true≢false (sym (c.is_negative.ensures.1 (subst (λ (r : PortPart). r.declared <ℤ pos 0) same negative)) ∙ c.if-is_negative.false)
