-- What the memory of the generated program with all variables (full_program) shows of a net's run: between two reactions, and in the midst of one.
-- Variables that no text names aren't there in the program that is written.
use Rattle.std.specs.Prelude.{◌≡◌, ℕ, ◌+◌, ◌-◌, ◌<◌, ◌≤◌, ℤ, pos, ◌||◌, List, [], drop, Bool, true, false, not, nat_eq, Some, if◌then◌else◌}
use Rattle.std.specs.List.{list_any}
use Rattle.sci_base.specs.Lists.{at}
use Rattle.sci_forms.specs.Ports.{total}
use Rattle.sci_forms.specs.Form.{is_sync}
use Rattle.sci_forms.specs.Words.{state_len_of}
use Rattle.sci_net.specs.declared.Feed.{Feed}
use Rattle.sci_net.specs.Parts.{Parts, IsBlock, IsSensor, numbered, spec_of, column_of}
use Rattle.sci_reaction.specs.Memory.{Columns}
use Rattle.sci_reaction.specs.Equations.{Signals, input_in, branch_on}
use Rattle.sci_reaction.specs.Pass.{Progress}
use Rattle.sci_reaction.specs.Schedule.{Entry, blocks_of}
use Rattle.sci_run.specs.Activity.{Activity, halts}
use Rattle.sci_run.specs.Run.{State}
use Rattle.sci_places.specs.Flat.{start_of}
use Rattle.c_ast.specs.declared.Name.{Name}
use Rattle.c_mean.specs.Meaning.{World, same_name, truth}
use Rattle.c_mean.specs.Places.{get, Has, is_scratch}
use Rattle.sci_cgen_blocks.specs.Texts.{values, states, masks, scratch_name}
use Rattle.sci_due.specs.Due.{best as chosen_name, scan as scan_name, now as now_name, delay as delay_name}
use Rattle.sci_due.specs.Laws.{ShowsPending}
use Rattle.sci_program.specs.Names.{actives, branches, limit_name, until_name, halt_name}
use Rattle.sci_program.specs.declared.part.Part.{Part}
use Rattle.sci_program.specs.declared.part.Part.TheVariants.{Absent, Sure, Marked, Taken}
use Rattle.sci_program.specs.Program.{places_of, has_sync, has_halt, port_count, part_of, is_marked}

-- the values of all outputs
pub record ShowsValues (n : Parts) (y : Signals) (w : World) : Type 0 where
  pub each : (b e : ℕ) → IsBlock n b → e < total (spec_of n b).outs → get w values (start_of n b + e) ≡ Some (at (y b) e)

-- the states of all blocks
pub record ShowsStates (n : Parts) (x : ℕ → List ℤ) (w : World) : Type 0 where
  pub each : (b i : ℕ) → IsBlock n b → i < state_len_of (spec_of n b).kind (spec_of n b) → get w states ((places_of n b).state + i) ≡ Some (at (x b) i)

-- of each sensor's column what its cursor leaves; a column that isn't there is empty
pub record ShowsColumns (n : Parts) (i : Columns) (cursor : ℕ → ℕ) (w : World) : Type 0 where
  pub each : (b : ℕ) → IsSensor n b → numbered [] w.left (column_of (spec_of n b)) ≡ drop (cursor b) (numbered [] i (column_of (spec_of n b)))

-- Whether this branch is the one that its block has taken.
pub record TellsBranch (q : Feed) (a : Bool) (w : World) : Type 0 where
  pub taken : ℕ
  pub is : get w branches (q.block - 1) ≡ Some (pos taken)
  pub same : nat_eq taken q.port ≡ a

-- of a block that takes part so, whether it is active: one that is marked by its mark, one under a branch by the branch that was taken
abbrev pub Acts : Part → Bool → World → ℕ → Type 0
Acts Absent a w b = a ≡ false
Acts Sure a w b = a ≡ true
Acts Marked a w b = get w actives (b - 1) ≡ Some (truth a)
Acts (Taken q) a w b = TellsBranch q a w

-- which blocks are active
pub record ShowsActive (n : Parts) (part : ℕ → Part) (active : Activity) (w : World) : Type 0 where
  pub each : (b : ℕ) → IsBlock n b → Acts (part b) (active b) w b

-- the marks of these blocks
pub record ShowsMarks (n : Parts) (asked : ℕ → Bool) (active : Activity) (w : World) : Type 0 where
  pub each : (b : ℕ) → IsBlock n b → asked b ≡ true → get w actives (b - 1) ≡ Some (truth (active b))

-- the branch that a synchronous block has taken in a pass so far, 0 where its entry didn't apply
abbrev pub branch_so_far : Parts → Progress → ℕ → ℕ
branch_so_far n g b = if g.applied b then branch_on (spec_of n b) (input_in n g.values b) else 0

-- of these blocks
pub record ShowsBranches (n : Parts) (told : ℕ → Bool) (g : Progress) (w : World) : Type 0 where
  pub each : (b : ℕ) → IsBlock n b → told b ≡ true → is_sync (spec_of n b).kind ≡ true → get w branches (b - 1) ≡ Some (pos (branch_so_far n g b))

-- no block is marked as active, and none has taken a branch
pub record IsIdle (n : Parts) (w : World) : Type 0 where
  pub actives : (b : ℕ) → IsBlock n b → get w actives (b - 1) ≡ Some (pos 0)
  pub branches : (b : ℕ) → IsBlock n b → is_sync (spec_of n b).kind ≡ true → get w branches (b - 1) ≡ Some (pos 0)

-- The places that each reaction writes before it reads them: masks and scratch, branches where there are synchronous blocks, and three scalars where there are
-- sources beside start.
pub record HasRoom (n : Parts) (scratch : ℕ) (w : World) : Type 0 where
  pub masks : (b : ℕ) → IsBlock n b → Has w masks (b - 1)
  pub scratch_names : (k : ℕ) → 1 ≤ k → k ≤ scratch → Has w (scratch_name k) 0
  pub actives : (b : ℕ) → IsBlock n b → Has w actives (b - 1)
  pub branches : has_sync n ≡ true → (b : ℕ) → IsBlock n b → Has w branches (b - 1)
  pub scan : 1 ≤ port_count n → Has w scan_name 0
  pub chosen : 1 ≤ port_count n → Has w chosen_name 0
  pub delay : 1 ≤ port_count n → Has w delay_name 0

-- the bounds of the run
pub record ShowsBounds (n : Parts) (until limit : ℕ) (w : World) : Type 0 where
  pub events : get w limit_name 0 ≡ Some (pos limit)
  pub time : 1 ≤ port_count n → get w until_name 0 ≡ Some (pos until)

-- Between two reactions: the memory of the net, the pending events, the date, and whether the last reaction halts the run.
pub record ShowsState (n : Parts) (scratch : ℕ) (i : Columns) (until limit : ℕ) (st : State) (w : World) : Type 0 where
  pub held : ShowsValues n st.memory.held w
  pub states : ShowsStates n st.memory.state w
  pub columns : ShowsColumns n i st.memory.cursor w
  pub pending : 1 ≤ port_count n → ShowsPending (port_count n) st.pending w
  pub now : 1 ≤ port_count n → get w now_name 0 ≡ Some (pos st.now)
  pub halt : has_halt n ≡ true → get w halt_name 0 ≡ Some (truth (halts n st.active))
  pub bounds : ShowsBounds n until limit w
  pub room : HasRoom n scratch w

-- the blocks whose marks the texts of a source ask about, and those whose branches they do
abbrev pub is_asked : Bool → Parts → List Entry → ℕ → Bool
is_asked own n row b = is_marked (part_of own n row b)

abbrev pub is_told : Bool → List Entry → ℕ → Bool
is_told own row b = not own || list_any (nat_eq b) (blocks_of row)

-- the names that a pass assigns
abbrev pub is_worked : Name → Bool
is_worked x = is_scratch x || (same_name values x || (same_name masks x || (same_name actives x || same_name branches x)))

-- In the midst of the pass over a source's row: what it has found, and how far sensors have come; what a reaction leaves alone until its values are known is as
-- it was in the memory before. Marks and branches are those of the blocks that the source's texts ask about.
pub record ShowsPass (n : Parts) (scratch : ℕ) (i : Columns) (asked told : ℕ → Bool) (cursor : ℕ → ℕ) (g : Progress) (before w : World) : Type 0 where
  pub values : ShowsValues n g.values w
  pub marks : ShowsMarks n asked g.applied w
  pub branches : ShowsBranches n told g w
  pub columns : ShowsColumns n i cursor w
  pub room : HasRoom n scratch w
  pub kept : (x : Name) (k : ℕ) → is_worked x ≡ false → get w x k ≡ get before x k
