use Rattle.std.proofs.Common.{arith, ◌≡◌, ◌≤◌, ◌-◌, ℕ, zero, suc, List, length, get_or, sym, ap, ◌∙◌}
use Rattle.std.proofs.lemmas.List.{get_or-map}
use Rattle.sci_cgen_blocks.specs.declared.block_layout.BlockLayout.{BlockLayout}
use Rattle.sci_cgen_blocks.specs.Plain.{plain_places}
use Rattle.sci_cgen_base.specs.Layouts.{no_places, laid_at}
use Rattle.sci_cgen_base.proofs.block_layouts.layout.Goals as goal

numbered_at : (ls : List BlockLayout) (b : ℕ) (x : BlockLayout) → 1 ≤ b → b ≤ length ls → x ≡ get_or ls (b - 1) x → plain_places x ≡ laid_at ls b
numbered_at ls zero x l m e = absurd (omega arith)
numbered_at ls (suc b) x l m e =
    let before : suc b - 1 ≡ b = omega arith in
    ap plain_places (e ∙ ap (λ k. get_or ls k x) before) ∙ sym (get_or-map plain_places ls b x no_places (omega arith))

pub returns : goal.returns
returns c = numbered_at c.args.layouts.now c.args.block c.index-layouts-block.result c.requires.least c.requires.most c.index-layouts-block.is
