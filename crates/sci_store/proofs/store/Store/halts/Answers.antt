use Rattle.std.proofs.Common.{ℕ, get_or, ap, sym, ◌∙◌, arith}
use Rattle.std.proofs.lemmas.List.{get_or_default}
use Rattle.sci_net.specs.Parts.{spec_of}
use Rattle.sci_forms.specs.Form.{is_halt}
use Rattle.sci_store.specs.Marks.{mark_at}
use Rattle.sci_store.proofs.Writing.{block_at}
use Rattle.sci_store.proofs.Reacting.{halts_here, never_halts}
use Rattle.sci_store.proofs.store.Store.halts.Goals as goal

pub is_halt-requires-clause-least : goal.is_halt-requires-clause-least
is_halt-requires-clause-least c = (block_at c.requires.blocks c.loop-block.block-index (omega arith)).least

pub is_halt-requires-clause-most : goal.is_halt-requires-clause-most
is_halt-requires-clause-most c = (block_at c.requires.blocks c.loop-block.block-index (omega arith)).most

pub is_active-requires-clause-least : goal.is_active-requires-clause-least
is_active-requires-clause-least c = (block_at c.requires.blocks c.loop-block.block-index (omega arith)).least

pub is_active-requires-clause-most : goal.is_active-requires-clause-most
is_active-requires-clause-most c =
    let block = block_at c.requires.blocks c.loop-block.block-index (omega arith) in
    omega (arith, block.most, c.requires.store.marks)

pub returns-then-is_active : goal.returns-then-is_active
returns-then-is_active c source y active shown among =
    let b = get_or c.args.blocks.now c.loop-block.block-index 0 in
    let block = block_at c.requires.blocks c.loop-block.block-index (omega arith) in
    sym (halts_here c.args.frame.now source c.args.self.now y active b block shown (sym c.is_halt.ensures ∙ c.if-is_halt.true) (sym c.is_active.ensures ∙ c.if-is_active.true))

pub returns : goal.returns
returns c source y active shown among =
    let net = c.args.frame.now.net in
    let marks = c.args.self.now.marks in
    let items = c.args.blocks.now in
    sym (never_halts c.args.frame.now source c.args.self.now y active items shown among
    (λ b h halt on. let e = get_or_default items h.0 0 b h.1 ∙ h.2 in
    c.loop-block.invariant h.0 (omega (arith, h.1)) (ap (λ (v : ℕ). is_halt (spec_of net v).kind) e ∙ halt) (ap (λ (v : ℕ). (mark_at marks v).active) e ∙ on)))
