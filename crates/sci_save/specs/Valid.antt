-- What may be saved of a run of a net.
use Rattle.std.specs.Prelude.{◌≡◌, ◌≢◌, ℕ, ◌+◌, ◌<◌, ◌≤◌, false, List, [], ◌∷◌, length}
use Rattle.std.specs.List.{AllByRecursion}
use Rattle.sci_base.specs.declared.limits.TheConstants.{TICKS, EVENTS}
use Rattle.sci_forms.specs.declared.spec.Spec.{Spec}
use Rattle.sci_net.specs.Parts.{Parts}
use Rattle.sci_forms.specs.Form.{is_sensor}
use Rattle.sci_net.specs.Sources.{sources_of}
use Rattle.sci_reaction.specs.Memory.{Columns}
use Rattle.sci_run.specs.Anew.{Rises}
use Rattle.sci_save.specs.Saved.{Saved}
use Rattle.sci_save.specs.Bounds.{AreByBlock, state_bounds, held_bounds, cursor_bounds}
use Rattle.sci_save.specs.Text.{cursor_rows}

-- one number for each block, which is 0 where the block is no sensor
abbrev pub AreCursors : List Spec → List ℕ → Type 0
AreCursors [] [] = Unit {0}
AreCursors (s ∷ ss) (c ∷ cs) = (is_sensor s.kind ≡ false → c ≡ 0) × AreCursors ss cs
AreCursors [] (c ∷ cs) = ⊥
AreCursors (s ∷ ss) [] = ⊥

-- date and source of an event of an activation output, which is due within 2^31 ticks
pub record IsNear (n : Parts) (now : ℕ) (d : ℕ × ℕ) : Type 0 where
  pub not_start : 1 ≤ d.1
  pub source : d.1 < length (sources_of n)
  pub near : d.0 < now + 2147483648

-- no source stands twice
abbrev pub AreOnce : List (ℕ × ℕ) → Type 0
AreOnce [] = Unit {0}
AreOnce (d ∷ ds) = AllByRecursion (λ (e : ℕ × ℕ). e.1 ≢ d.1) ds × AreOnce ds

-- pending events in the order in which they fire: from now on, dates never fall
pub record ArePending (n : Parts) (now : ℕ) (ds : List (ℕ × ℕ)) : Type 0 where
  pub rises : Rises now ds
  pub near : AllByRecursion (IsNear n now) ds
  pub once : AreOnce ds

-- all is as the net asks
pub record IsShaped (n : Parts) (m : Saved) : Type 0 where
  pub fired : m.fired ≤ EVENTS
  pub now : m.now ≤ TICKS
  pub states : AreByBlock state_bounds n.specs m.states
  pub held : AreByBlock held_bounds n.specs m.held
  pub cursors : AreCursors n.specs m.cursors
  pub pending : ArePending n m.now m.pending

-- and as the columns of the input file do
pub record IsValid (n : Parts) (i : Columns) (m : Saved) : Type 0 where
  pub shaped : IsShaped n m
  pub taken : AreByBlock (cursor_bounds i) n.specs (cursor_rows n.specs m.cursors)
