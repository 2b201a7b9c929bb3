use Rattle.std.proofs.Common.{rules, ℕ}
use Rattle.std.specs.Prelude.{Contains}
use Rattle.sci_loop.specs.Walk.{IsMarked}
use Rattle.sci_loop.proofs.Walking.{all_inside, are_marks_forgotten}
use Rattle.sci_loop.proofs.walk.walk.Walk.forget.Goals as goal

pub unmark-requires : goal.unmark-requires
unmark-requires c = rw (c.deref.ensures.value, c.deref_mut.ensures.value) (all_inside c.self.inside.marks.items c.self.inside.found.items c.self.invariant)

pub invariant_of-self : goal.invariant_of-self
invariant_of-self c =
    let kept : (q : ℕ) → IsMarked c.unmark.new.marks q → IsMarked c.self.inside.marks.items q = rw (← c.deref_mut.ensures.value) c.unmark.ensures.kept in
    let taken : (q : ℕ) → IsMarked c.unmark.new.marks q → Contains c.self.inside.found.items q → ⊥ = rw (← c.deref.ensures.value) c.unmark.ensures.taken in
    are_marks_forgotten c.self.inside.marks.len c.self.inside.marks.items c.unmark.new.marks c.self.inside.found.items c.clear.new.self.items c.self.inside.marks.ok.0 (search rules) (search rules) c.self.invariant kept taken
