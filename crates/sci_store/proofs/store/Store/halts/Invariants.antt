use Rattle.std.proofs.Common.{◌≡◌, ℕ, ◌<◌, true, get_or}
use Rattle.sci_net.specs.Parts.{spec_of}
use Rattle.sci_forms.specs.Form.{is_halt}
use Rattle.sci_store.specs.Marks.{mark_at}
use Rattle.sci_store.proofs.store.Store.halts.Given as goal

-- none of the blocks so far is active and ends the run
abbrev pub invariant-loop-block : goal.invariant-loop-block
invariant-loop-block l =
    (k : ℕ) → k < l.block-index → is_halt (spec_of l.frame.net (get_or l.blocks k 0)).kind ≡ true → (mark_at l.self.marks (get_or l.blocks k 0)).active ≡ true → ⊥
