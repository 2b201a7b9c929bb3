use Rattle.std.proofs.Common.{◌≡◌, ◌<◌, All, List, length, get_or, take, cond, Some, None, ap, sym, subst, ◌∙◌, arith}
use Rattle.std.specs.Int.Bits.{bit_or}
use Rattle.sci_reaction.specs.declared.entry.Guard.{Guard}
use Rattle.sci_reaction.specs.Kept.{guard_of, guards_of}
use Rattle.sci_store.specs.Entries.{HasMark, is_taken, with_guards}
use Rattle.sci_store.proofs.Marked.{guard_has, taken_active, other_active, taken_mask, other_mask, activation_is}
use Rattle.sci_store.proofs.entries.activation.Goals as goal
use Rattle.sci_store.proofs.entries.activation.Goals.{then-is_taken, else-is_taken}

no_guard : Guard
no_guard = record { block = 0; port = 0; mask = 0 }

pub is_taken-requires : goal.is_taken-requires
is_taken-requires c =
    guard_has c.args.marks.now c.deref-guard-items.result.now c.loop-guard.guard-index _
    (subst (λ (gs : List Guard). All (HasMark c.args.marks.now) (guards_of gs)) (sym c.deref-guard-items.ensures.value) c.requires) c.loop-guard-test.true

pub loop-guard-preserved : goal.loop-guard-preserved
unfolding no_guard
loop-guard-preserved c =
    let marks = c.args.marks.now in
    let gs = c.args.entry.now.guards.items in
    let k = c.loop-guard.guard-index in
    let value = c.deref-guard-items.ensures.value in
    let l : k < length gs = subst (λ (xs : List Guard). k < length xs) value c.loop-guard-test.true in
    let same = ap (λ (xs : List Guard). get_or xs k no_guard) value in
    let test : c.is_taken.result ≡ is_taken marks (guard_of (get_or gs k no_guard)) = c.is_taken.ensures ∙ ap (λ (g : Guard). is_taken marks (guard_of g)) same in
    let old = c.loop-guard.invariant in
    elim c.if-is_taken.branch [
      | then-is_taken w ↦
          let e = sym test ∙ w.if-is_taken.true in
          record {
            active = w.active-is ∙ taken_active marks gs k no_guard c.args.entry.now.always c.args.entry.now.mask l e;
            mask = w.mask-is
                ∙ (ap (λ m. bit_or m (get_or c.deref-guard-items.result.now k no_guard).mask) old.mask
                ∙ (ap (λ (g : Guard). bit_or (with_guards marks c.args.entry.now.mask (guards_of (take k gs))) g.mask) same
                ∙ taken_mask marks gs k no_guard c.args.entry.now.always c.args.entry.now.mask l e));
          }
      | else-is_taken w ↦
          let e = sym test ∙ w.if-is_taken.false in
          record {
            active = w.active-is ∙ (old.active ∙ other_active marks gs k no_guard c.args.entry.now.always c.args.entry.now.mask l e);
            mask = w.mask-is ∙ (old.mask ∙ other_mask marks gs k no_guard c.args.entry.now.always c.args.entry.now.mask l e);
          }
    ]

pub returns-then-active : goal.returns-then-active
returns-then-active c =
    let long = ap length c.deref-guard-items.ensures.value in
    ap (λ b. cond b (Some c.loop-guard.mask) None) (sym c.if-active.true)
    ∙ activation_is c.args.marks.now c.args.entry.now c.loop-guard.guard-index c.loop-guard.active c.loop-guard.mask (omega (arith, long, c.loop-guard-test.false))
    c.loop-guard.invariant.active c.loop-guard.invariant.mask

pub returns-else-active : goal.returns-else-active
returns-else-active c =
    let long = ap length c.deref-guard-items.ensures.value in
    ap (λ b. cond b (Some c.loop-guard.mask) None) (sym c.if-active.false)
    ∙ activation_is c.args.marks.now c.args.entry.now c.loop-guard.guard-index c.loop-guard.active c.loop-guard.mask (omega (arith, long, c.loop-guard-test.false))
    c.loop-guard.invariant.active c.loop-guard.invariant.mask
