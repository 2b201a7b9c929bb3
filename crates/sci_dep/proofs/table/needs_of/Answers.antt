use Rattle.std.proofs.Common.{◌∙◌, ℕ, ◌+◌, sym, subst, take, true≢false, Vec}
use Rattle.std.specs.declared.alloc.Global.{Global}
use Rattle.sci_dep.specs.Building.{KeepsFound}
use Rattle.sci_dep.proofs.Tabled.{keeps_more, keeps_other}
use Rattle.sci_dep.proofs.table.needs_of.Goals as goal
use Rattle.sci_dep.proofs.table.needs_of.Goals.{then-has+in_ok-push, else-has}

pub loop-block-preserved : goal.loop-block-preserved
loop-block-preserved c =
    let found = c.args.walk.now.found in
    let blocks = c.args.blocks.now in
    let i = c.loop-block.block-index in
    elim c.if-has.branch [
      | then-has+in_ok-push w ↦
          subst (λ (v : Vec ℕ Global). KeepsFound found (take (i + 1) blocks) v.items) (sym w.needs-is)
          (keeps_more found blocks c.loop-block.needs.items w.push.new.self.items i c.requires.rising c.loop-block-test.true (c.has.ensures.0 w.if-has.true) w.in_ok-push.ensures.items c.loop-block.invariant)
      | else-has w ↦
          subst (λ (v : Vec ℕ Global). KeepsFound found (take (i + 1) blocks) v.items) (sym w.needs-is)
          (keeps_other found blocks c.loop-block.needs.items i c.loop-block-test.true (λ h. true≢false (sym (c.has.ensures.1 h) ∙ w.if-has.false)) c.loop-block.invariant)
    ]
