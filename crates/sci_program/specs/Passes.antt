-- What a call of a block's function does, and what the text of a source's row does.
use Rattle.std.specs.Prelude.{◌≡◌, ℕ, ◌+◌, ◌-◌, ◌<◌, ◌⊎◌, ℤ, pos, List, [], ◌∷◌, ◌++◌, Bool, true, Contains, Some, Result, Ok, Err, if◌then◌else◌}
use Rattle.sci_base.specs.declared.observation.Obs.{Obs}
use Rattle.sci_base.specs.declared.observation.Obs.TheVariants.{Stop}
use Rattle.sci_base.specs.declared.observation.StopWord.{StopWord}
use Rattle.sci_base.specs.Lists.{at}
use Rattle.sci_forms.specs.Ports.{total}
use Rattle.sci_kinds.specs.Asks.{IsMask}
use Rattle.sci_net.specs.declared.Source.{Source}
use Rattle.sci_net.specs.declared.Source.TheVariants.{Start, Port}
use Rattle.sci_net.specs.Parts.{Parts, spec_of}
use Rattle.sci_forms.specs.Form.{is_sensor}
use Rattle.sci_reaction.specs.Memory.{Memory, Columns}
use Rattle.sci_reaction.specs.Equations.{Signals, AreInRange, input_in, answer}
use Rattle.sci_reaction.specs.Result.{Stopped, IsResult}
use Rattle.sci_reaction.specs.Schedule.{Entry, blocks_of}
use Rattle.sci_reaction.specs.Pass.{Progress, put, IsFront}
use Rattle.sci_places.specs.Flat.{start_of}
use Rattle.c_mean.specs.Meaning.{World, Ran, going, halted, Around, run_block}
use Rattle.c_mean.specs.Places.{get, KeepsPlaces, is_scratch}
use Rattle.c_mean.specs.Runs.{Leads, Stops}
use Rattle.sci_cgen_blocks.specs.Texts.{values, masks, body_text}
use Rattle.sci_due.specs.Due.{now as now_name}
use Rattle.sci_program.specs.Names.{block_name}
use Rattle.sci_program.specs.Program.{places_of}
use Rattle.sci_forms.specs.Form.{reads_mask}
use Rattle.sci_program.specs.Shows.{ShowsValues, ShowsStates, ShowsColumns, HasRoom, ShowsPass}

-- ---- a call of a block's function

-- What it stands on: the values, states and columns of the net, the block's mask where its kind reads it, and room.
pub record ShowsNet (n : Parts) (scratch : ℕ) (i : Columns) (m : Memory) (cursor : ℕ → ℕ) (y : Signals) (b mask : ℕ) (w : World) : Type 0 where
  pub values : ShowsValues n y w
  pub states : ShowsStates n m.state w
  pub columns : ShowsColumns n i cursor w
  pub cursor_is : cursor b ≡ m.cursor b
  pub mask_is : reads_mask (spec_of n b).kind ≡ true → get w masks (b - 1) ≡ Some (pos mask)
  pub room : HasRoom n scratch w

-- These values are at the block's places; a sensor has taken one value more of its column; and nothing else changed but scratch.
pub record HasCalled (n : Parts) (i : Columns) (b : ℕ) (vs : List ℤ) (cursor : ℕ → ℕ) (w w' : World) : Type 0 where
  pub keeps : KeepsPlaces is_scratch values (start_of n b) (total (spec_of n b).outs) w w'
  pub values : (e : ℕ) → e < total (spec_of n b).outs → get w' values (start_of n b + e) ≡ Some (at vs e)
  pub columns : ShowsColumns n i (put cursor b (cursor b + 1)) w'

-- The run leads there, or ends by the stop of a block that has no values.
abbrev pub Gives : Parts → Columns → ℕ → (ℕ → ℕ) → World → Result (List ℤ) StopWord → Ran → Type 0
Gives n i b cursor w (Ok vs) r = Leads r (HasCalled n i b vs cursor w)
Gives n i b cursor w (Err word) r = Stops r word b

-- the function of b gives what the block answers
pub record IsCalled (env : Around) (n : Parts) (scratch : ℕ) (i : Columns) (m : Memory) (b : ℕ) : Type 0 where
  pub run : World → Ran
  pub is : env.calls (block_name b) ≡ Some run
  pub gives : (y : Signals) (cursor : ℕ → ℕ) (mask : ℕ) (w : World) → ShowsNet n scratch i m cursor y b mask w → AreInRange n y → IsMask (spec_of n b) mask
      → Gives n i b cursor w (answer n m i b mask (input_in n y b)) (run w)

-- a call of it runs the text of the block's values
pub record RunsBody (env : Around) (n : Parts) (b : ℕ) : Type 0 where
  pub inner : Around
  pub number : ℕ
  pub is : env.calls (block_name b) ≡ Some (run_block inner number (body_text (spec_of n b) (places_of n b)))

-- the functions of all blocks of a row
abbrev pub AreCalled : Around → Parts → ℕ → Columns → Memory → List Entry → Type 0
AreCalled env n scratch i m row = (b : ℕ) → Contains (blocks_of row) b → IsCalled env n scratch i m b

-- ---- the pass over a row

-- how far sensors have come where these blocks were active
abbrev pub cursors : Parts → Memory → (ℕ → Bool) → ℕ → ℕ
cursors n m active b = if active b then (if is_sensor (spec_of n b).kind then m.cursor b + 1 else m.cursor b) else m.cursor b

-- What a memory shows of a pass in which these entries are done.
pub record HasPassed (n : Parts) (scratch : ℕ) (i : Columns) (asked told : ℕ → Bool) (m : Memory) (s : Source) (done : List Entry)
    (before w : World) : Type 0 where
  pub found : Progress
  pub front : IsFront n m i s (blocks_of done) found
  pub in_range : AreInRange n found.values
  pub shows : ShowsPass n scratch i asked told (cursors n m found.applied) found before w

-- the date of an event is shown, where the source isn't start
abbrev pub IsDated : Source → ℕ → World → Type 0
IsDated Start date w = Unit {0}
IsDated (Port q) date w = get w now_name 0 ≡ Some (pos date)

-- Behind these observations a run goes on from the pass's end.
pub record PassEnds (n : Parts) (scratch : ℕ) (i : Columns) (asked told : ℕ → Bool) (m : Memory) (s : Source) (row : List Entry) (before : World)
    (seen : List Obs) (r : Ran) : Type 0 where
  pub to : World
  pub is : r ≡ record { seen = seen; how = going to }
  pub holds : HasPassed n scratch i asked told m s row before to

-- Behind these observations a run ends by the stop of the pass.
pub record PassStops (n : Parts) (i : Columns) (m : Memory) (s : Source) (seen : List Obs) (r : Ran) : Type 0 where
  pub block : ℕ
  pub word : StopWord
  pub result : IsResult n m i s (Stopped block word)
  pub is : r ≡ record { seen = seen ++ Stop word (pos block) (pos 0) ∷ []; how = halted }

-- A run does the pass over a row.
abbrev pub Passes : Parts → ℕ → Columns → (asked told : ℕ → Bool) → Memory → Source → List Entry → World → List Obs → Ran → Type 0
Passes n scratch i asked told m s row before seen r = PassEnds n scratch i asked told m s row before seen r ⊎ PassStops n i m s seen r
