use Rattle.std.proofs.Common.{◌≡◌, ℕ, Vec, get_or, ap, sym, ◌∙◌}
use Rattle.std.specs.declared.alloc.Global.{Global}
use Rattle.sci_forms.specs.Form.{has_delay}
use Rattle.sci_net.specs.Parts.{spec_of}
use Rattle.sci_store.specs.declared.seats.Seat.{Seat}
use Rattle.sci_store.proofs.Listing.{block_there, kind_more, kind_less}
use Rattle.sci_store.proofs.row.delays.Goals as goal
use Rattle.sci_store.proofs.row.delays.Goals.{then-has_delay+in_ok-push, else-has_delay, After-has_delay}

pub seat-requires-clause-least : goal.seat-requires-clause-least
seat-requires-clause-least c = (block_there c.requires c.loop-block.block-index c.loop-block-test.true).least

pub seat-requires-clause-most : goal.seat-requires-clause-most
seat-requires-clause-most c = (block_there c.requires c.loop-block.block-index c.loop-block-test.true).most

test : (c : After-has_delay) → c.has_delay.result ≡ has_delay (spec_of c.args.frame.now.net (get_or c.args.blocks.now c.loop-block.block-index 0)).kind
test c =
    let block = block_there c.requires c.loop-block.block-index c.loop-block-test.true in
    c.has_delay.ensures ∙ ap has_delay (ap (λ (s : Seat). s.kind) c.seat.ensures ∙ (c.well_formed-2.ensures.seated _ block).kind)

pub loop-block-preserved : goal.loop-block-preserved
loop-block-preserved c =
    let at = (goal.at.loop-block-preserved c).After-has_delay in
    let n = c.args.frame.now.net in
    let xs = c.args.blocks.now in
    let k = c.loop-block.block-index in
    elim c.if-has_delay.branch [
      | then-has_delay+in_ok-push w ↦ ap (λ (v : Vec ℕ Global). v.items) w.some-is
          ∙ kind_more n has_delay xs c.loop-block.some.items w.push.new.self.items k c.loop-block-test.true (sym (test at) ∙ w.if-has_delay.true) c.loop-block.invariant w.in_ok-push.ensures.items
      | else-has_delay w ↦ ap (λ (v : Vec ℕ Global). v.items) w.some-is
          ∙ kind_less n has_delay xs c.loop-block.some.items k c.loop-block-test.true (sym (test at) ∙ w.if-has_delay.false) c.loop-block.invariant
    ]
