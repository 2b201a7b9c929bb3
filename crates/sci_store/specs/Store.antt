-- What changes from one reaction to the next, and the memory that it stands for.
use Rattle.std.specs.Prelude.{◌≡◌, ◌==◌, ℕ, ◌+◌, ◌≤◌, ◌↔◌, Bool, true, if◌then◌else◌, min, ℤ, List, length}
use Rattle.sci_forms.specs.declared.Kind.{Kind}
use Rattle.sci_forms.specs.declared.spec.Spec.{Spec}
use Rattle.sci_forms.specs.Numbers.{number_of}
use Rattle.sci_net.specs.declared.Source.{Source}
use Rattle.sci_net.specs.Parts.{Parts, IsBlock, numbered, spec_of}
use Rattle.sci_reaction.specs.Active.{IsSync, Possible}
use Rattle.sci_reaction.specs.Memory.{Memory}
use Rattle.sci_reaction.specs.Equations.{Signals, input_in, branch_on, IsMaskOf}
use Rattle.sci_reaction.specs.Pass.{Progress}
use Rattle.sci_run.specs.Activity.{Activity}
use Rattle.sci_run.specs.Counts.{activations_from}
use Rattle.sci_places.specs.Flat.{values_at, IsWhole}
use Rattle.sci_bank.specs.declared.runs.Call.{Call}
use Rattle.sci_bank.specs.Bank.{Meaning}
use Rattle.sci_bank.specs.Library.{bank_of}
use Rattle.sci_store.specs.declared.marks.Mark.{Mark}
use Rattle.sci_store.specs.Marks.{mark_at, idle}
use Rattle.sci_store.specs.Frame.{Fixed, instance_of}

-- the values of all outputs, the cursors of the sensors, the marks of the last reaction, room for what goes into a block and for the calls of
-- a run, and what was counted
pub record Standing : Type 0 where
  pub values : List ℤ
  pub cursors : List ℕ
  pub marks : List Mark
  pub room : List ℤ
  pub chosen : List Call
  pub lines : ℕ
  pub sum : ℕ

abbrev pub cursor_at : Standing → ℕ → ℕ
cursor_at s b = numbered 0 s.cursors b

-- as long as the net asks
pub record IsStore (f : Fixed) (s : Standing) : Type 0 where
  pub values : IsWhole f.net s.values
  pub cursors : length s.cursors ≡ length f.net.specs
  pub marks : length s.marks ≡ length f.net.specs
  pub room : f.layout.longest ≤ length s.room
  pub chosen : length s.chosen ≡ length f.net.specs

-- ---- between two reactions

abbrev pub state_of : Fixed → List Meaning → ℕ → List ℤ
state_of f banks b = (instance_of f banks b).state

-- the memory that the values, the cursors and the banks stand for
pub record ShowsMemory (f : Fixed) (s : Standing) (banks : List Meaning) (m : Memory) : Type 0 where
  pub held : (b : ℕ) → IsBlock f.net b → values_at f.net s.values b ≡ m.held b
  pub cursor : (b : ℕ) → IsBlock f.net b → cursor_at s b ≡ m.cursor b
  pub state : (b : ℕ) → IsBlock f.net b → state_of f banks b ≡ m.state b

-- no block is marked
abbrev pub AreIdle : Fixed → Standing → Type 0
AreIdle f s = (b : ℕ) → IsBlock f.net b → mark_at s.marks b ≡ idle

-- ---- within a reaction

-- what a pass has found so far
pub record ShowsProgress (f : Fixed) (source : Source) (s : Standing) (w : Progress) : Type 0 where
  pub values : (b : ℕ) → IsBlock f.net b → values_at f.net s.values b ≡ w.values b
  pub applied : (b : ℕ) → IsBlock f.net b → (mark_at s.marks b).active ≡ w.applied b
  pub branches : (b : ℕ) → IsBlock f.net b → w.applied b ≡ true → IsSync f.net b
      → branch_on (spec_of f.net b) (input_in f.net w.values b) ≡ (mark_at s.marks b).branch
  pub masks : (b : ℕ) → IsBlock f.net b → w.applied b ≡ true → IsMaskOf f.net source w.values b (mark_at s.marks b).mask

-- ---- the values of a reaction

-- the values of all blocks, and which are active, on which activation inputs
pub record ShowsValues (f : Fixed) (source : Source) (s : Standing) (y : Signals) (active : Activity) : Type 0 where
  pub values : (b : ℕ) → IsBlock f.net b → values_at f.net s.values b ≡ y b
  pub active_are : (b : ℕ) → IsBlock f.net b → (mark_at s.marks b).active ≡ active b
  pub masks : (b : ℕ) → IsBlock f.net b → active b ≡ true → IsMaskOf f.net source y b (mark_at s.marks b).mask

-- ---- counts

abbrev pub is_kind : Kind → Spec → Bool
is_kind k s = number_of s.kind == number_of k

-- how many active blocks are of a kind
abbrev pub active_of : Parts → Activity → Kind → ℕ
active_of n active k = activations_from (is_kind k) 1 n.specs (λ b. if active b then 1 else 0)

-- each bank counts a call more for each active block of its kind, as far as 64 bits go
abbrev pub AreCounted : Parts → Activity → List Meaning → List Meaning → Type 0
AreCounted n active old new = (k : Kind) → (bank_of new k).outs ≡ min ((bank_of old k).outs + active_of n active k) 18446744073709551615

-- the source may activate these blocks and no other
abbrev pub MayActivate : Parts → Source → Activity → Type 0
MayActivate n s possible = (b : ℕ) → IsBlock n b → (possible b ≡ true) ↔ Possible n s b

-- no bank counts less, or more than a call for each block of its kind that the source may activate
pub record AreCountedWithin (n : Parts) (s : Source) (old new : List Meaning) : Type 0 where
  pub least : (k : Kind) → (bank_of old k).outs ≤ (bank_of new k).outs
  pub most : (possible : Activity) → MayActivate n s possible → (k : Kind)
      → (bank_of new k).outs ≤ min ((bank_of old k).outs + active_of n possible k) 18446744073709551615
