-- Rows: the blocks that a source may activate, made ready for its reactions.
use Rattle.std.specs.Prelude.{◌≡◌, ◌≢◌, ◌⊎◌, ◌↔◌, ℕ, ◌+◌, ◌-◌, ◌<◌, ◌≤◌, Bool, true, false, not, ◌||◌, ◌&&◌, if◌then◌else◌, List, [], ◌∷◌, ◌++◌, length, map, take, drop, slice_index_or, All, AllPairs, Contains, Option, Some, None, nat_eq, is_none, slice_set, ℤ, IfSome}
use Rattle.std.specs.List.{IsDistinct, filter}
use Rattle.std.specs.List.Sorted.{IsPermutation}
use Rattle.std.specs.Set.{is_member}
use Rattle.sci_forms.specs.Form.{is_sync, is_sensor, is_halt, has_delay, remembers}
use Rattle.sci_forms.specs.Numbers.{number_of}
use Rattle.sci_net.specs.declared.Source.{Source}
use Rattle.sci_net.specs.Parts.{Parts, IsBlock}
use Rattle.sci_reaction.specs.Active.{Possible}
use Rattle.sci_reaction.specs.Schedule.{Entry as PlainEntry, blocks_of}
use Rattle.sci_reaction.specs.Kept.{entries_of, HaveDepths}
use Rattle.sci_reaction.specs.declared.entry.Entry.{Entry}
use Rattle.sci_rounds.specs.Rounds.{TellsActivation}
use Rattle.sci_span.specs.Values.{IsLone}
use Rattle.sci_places.specs.Layout.{place_at}
use Rattle.sci_bank.specs.declared.runs.Call.{Call}
use Rattle.sci_store.specs.declared.marks.Mark.{Mark}
use Rattle.sci_store.specs.declared.row.Run.{Run}
use Rattle.sci_store.specs.declared.row.Show.{Show}
use Rattle.sci_store.specs.Marks.{mark_at, idle}
use Rattle.sci_store.specs.Entries.{activation}
use Rattle.sci_store.specs.Frame.{Fixed, seat_of}
use Rattle.sci_store.specs.Store.{Standing}
use Rattle.sci_store.specs.Chosen.{of_kinds}

-- ---- what a row is made of

-- one entry for each block that the source may activate, with its depth: it tells when the block is active, and on which activation inputs
pub record AreEntriesOf (n : Parts) (s : Source) (es : List Entry) : Type 0 where
  pub exactly : (b : ℕ) → Contains (blocks_of (entries_of es)) b ↔ Possible n s b
  pub once : IsDistinct nat_eq (blocks_of (entries_of es))
  pub depths : HaveDepths n s (entries_of es)
  pub tells : All (TellsActivation n s) (entries_of es)

-- guards may leave the block idle, or activate it on more activation inputs
abbrev pub is_guarded : Entry → Bool
is_guarded e = not e.always || not (nat_eq (length e.guards.items) 0)

-- the block is done by itself: some input has not one element, the outputs have more than one, or it does more than give values
pub record IsAlone (f : Fixed) (b : ℕ) : Type 0 where
  pub reason : (is_sync (seat_of f b).kind ≡ true) ⊎ (is_sensor (seat_of f b).kind ≡ true) ⊎ (IsLone (place_at f.layout b) → ⊥)

-- ---- the order of the calls

-- d stands before e, where the depths are these: by depth, those without guards first, those first that their bank does in one call, by kind, by number
pub record StandsBefore (f : Fixed) (depth : Entry → ℕ) (d e : Entry) : Type 0 where
  pub depths : depth d ≤ depth e
  pub guards : depth d ≡ depth e → is_guarded d ≡ true → is_guarded e ≡ true
  pub alone : depth d ≡ depth e → is_guarded d ≡ is_guarded e → IsAlone f d.block → IsAlone f e.block
  pub kinds : depth d ≡ depth e → is_guarded d ≡ is_guarded e → (IsAlone f d.block ↔ IsAlone f e.block)
      → number_of (seat_of f d.block).kind ≤ number_of (seat_of f e.block).kind
  pub numbers : depth d ≡ depth e → is_guarded d ≡ is_guarded e → (IsAlone f d.block ↔ IsAlone f e.block)
      → (seat_of f d.block).kind ≡ (seat_of f e.block).kind → d.block ≤ e.block

-- the call of a block on the activation inputs that the source feeds
abbrev pub call_of : Fixed → Entry → Call
call_of f e = record { slot = (seat_of f e.block).slot; block = e.block; mask = e.mask }

-- ---- runs

-- what stands from one place to before another
abbrev pub between : {A : Type 0} → List A → ℕ → ℕ → List A
between xs start end = take (end - start) (drop start xs)

-- the depth of the entry at a place
abbrev pub depth_at : (Entry → ℕ) → List Entry → ℕ → ℕ
depth_at depth es k = slice_index_or (map depth es) k 0

-- entries that follow one another are of one depth, one kind and alike in what is done with them
pub record IsRun (f : Fixed) (depth : Entry → ℕ) (es : List Entry) (r : Run) : Type 0 where
  pub some : r.start < r.end
  pub within : r.end ≤ length es
  pub of_kind : All (λ e. (seat_of f e.block).kind ≡ r.kind) (between es r.start r.end)
  pub guarded_is : All (λ e. is_guarded e ≡ r.guarded) (between es r.start r.end)
  pub alone_is : All (λ e. (r.together ≡ false) ↔ IsAlone f e.block) (between es r.start r.end)
  pub one_depth : All (λ e. depth e ≡ depth_at depth es r.start) (between es r.start r.end)
  pub last_is : (r.last ≡ true) ↔ ((r.end ≡ length es) ⊎ (depth_at depth es r.start ≢ depth_at depth es r.end))
  pub entries_are : r.entries ≡ length (filter is_guarded (take r.start es))

-- runs from a place to the end, one behind the other
abbrev pub Join : ℕ → ℕ → List Run → Type 0
Join at end [] = at ≡ end
Join at end (r ∷ rs) = (r.start ≡ at) × Join r.end end rs

-- the runs of some entries, and their calls, in an order of their own
pub record AreRunsOf (f : Fixed) (depth : Entry → ℕ) (es : List Entry) (runs : List Run) (calls : List Call) : Type 0 where
  pub sorted : List Entry
  pub same : IsPermutation es sorted
  pub ordered : AllPairs (StandsBefore f depth) sorted
  pub calls_are : calls ≡ map (call_of f) sorted
  pub runs_are : All (IsRun f depth sorted) runs
  pub joined : Join 0 (length sorted) runs

-- ---- values that are shown

-- the values of a block, where it has some: a piece of its own, or the end of the piece before
abbrev pub then_block : List Show → Show → List Show
then_block [] s = if nat_eq s.start s.end then [] else s ∷ []
then_block (t ∷ []) s =
    if nat_eq s.start s.end then t ∷ [] else
    if nat_eq t.end s.start && (is_none t.asked && is_none s.asked) then record t { end = s.end } ∷ [] else t ∷ s ∷ []
then_block (t ∷ u ∷ us) s = t ∷ then_block (u ∷ us) s

abbrev pub show_of : Fixed → List ℕ → ℕ → Show
show_of f guarded b = record {
  start = (place_at f.layout b).outs.start;
  end = (place_at f.layout b).outs.start + (place_at f.layout b).outs.len;
  asked = if is_member nat_eq guarded b then Some b else None;
}

-- the values of these blocks, which are guarded where they are among those
abbrev pub shows_from : Fixed → List ℕ → List Show → List ℕ → List Show
shows_from f guarded before [] = before
shows_from f guarded before (b ∷ bs) = shows_from f guarded (then_block before (show_of f guarded b)) bs

-- ---- the row

-- the runs of outputs and of next states, with their calls; the entries of the guarded blocks, in the order of their calls; what is shown; all blocks,
-- those with delays and those that end the run, by number
pub record ReadyRow : Type 0 where
  pub runs : List Run
  pub calls : List Call
  pub guarded : List Entry
  pub state_runs : List Run
  pub state_calls : List Call
  pub shows : List Show
  pub blocks : List ℕ
  pub delays : List ℕ
  pub halts : List ℕ

abbrev pub no_row : ReadyRow
no_row = record { runs = []; calls = []; guarded = []; state_runs = []; state_calls = []; shows = []; blocks = []; delays = []; halts = [] }

-- these blocks by number
pub record AreByNumber (blocks sorted : List ℕ) : Type 0 where
  pub rising : AllPairs (λ b c. b < c) sorted
  pub same : (b : ℕ) → Contains sorted b ↔ Contains blocks b

-- the guarded ones of some entries, by number of block
abbrev pub guarded_blocks : List Entry → List ℕ
guarded_blocks es = map (λ (e : Entry). e.block) (filter is_guarded es)

-- the row of these entries
pub record IsRowFor (f : Fixed) (es : List Entry) (r : ReadyRow) : Type 0 where
  pub values : AreRunsOf f (λ e. e.depth) es r.runs r.calls
  pub guarded_are : entries_of r.guarded ≡ entries_of (filter is_guarded values.sorted)
  pub states : AreRunsOf f (λ e. 0) (filter (λ e. remembers (seat_of f e.block).kind) es) r.state_runs r.state_calls
  pub blocks_are : AreByNumber (blocks_of (entries_of es)) r.blocks
  pub shows_are : r.shows ≡ shows_from f (guarded_blocks es) [] r.blocks
  pub delays_are : r.delays ≡ of_kinds f.net has_delay r.blocks
  pub halts_are : r.halts ≡ of_kinds f.net is_halt r.blocks

-- the row of a source
pub record IsRowOf (f : Fixed) (s : Source) (r : ReadyRow) : Type 0 where
  pub made_of : List Entry
  pub entries : AreEntriesOf f.net s made_of
  pub row : IsRowFor f made_of r

-- the row of some source
abbrev pub IsReadyRow : Fixed → ReadyRow → Type 0
IsReadyRow f r = (s : Source) × IsRowOf f s r

-- ---- marks before the pass

-- the calls of a run
abbrev pub calls_in : ReadyRow → Run → List Call
calls_in r run = between r.calls run.start run.end

-- the block of a call is active, on the activation inputs of the call
pub record IsMarked (marks : List Mark) (c : Call) : Type 0 where
  pub active : (mark_at marks c.block).active ≡ true
  pub mask : (mark_at marks c.block).mask ≡ c.mask

-- a block of a run that the source activates whatever the values are, on the same activation inputs
pub record IsOfWhole (r : ReadyRow) (b : ℕ) : Type 0 where
  pub run : Run
  pub there : Contains r.runs run
  pub whole : run.guarded ≡ false
  pub called : Contains (map (λ (c : Call). c.block) (calls_in r run)) b

-- the blocks of those runs are marked as their calls say
abbrev pub AreWholeMarked : ReadyRow → List Mark → Type 0
AreWholeMarked r marks = (run : Run) → Contains r.runs run → run.guarded ≡ false → All (IsMarked marks) (calls_in r run)

-- the blocks that are active whatever the values are are marked, and no other
pub record HasBegun (f : Fixed) (r : ReadyRow) (s : Standing) : Type 0 where
  pub whole : AreWholeMarked r s.marks
  pub others : (b : ℕ) → IsBlock f.net b → (IsOfWhole r b → ⊥) → mark_at s.marks b ≡ idle

-- the same behind a reaction over the row, when guarded blocks of it may be marked too
pub record KeepsBegun (f : Fixed) (r : ReadyRow) (s : Standing) : Type 0 where
  pub whole : AreWholeMarked r s.marks
  pub others : (b : ℕ) → IsBlock f.net b → (Contains r.blocks b → ⊥) → mark_at s.marks b ≡ idle

-- ---- calls by the marks

-- marked as active on what each call says
abbrev pub mark_by : Call → Mark
mark_by c = record { active = true; branch = 0; mask = c.mask }

abbrev pub marked : List Mark → List Call → List Mark
marked marks [] = marks
marked marks (c ∷ cs) = marked (slice_set marks (c.block - 1) (mark_by c)) cs

-- the call of a block that is active, on the activation inputs that are activated
abbrev pub call_by : List Mark → Call → List Call
call_by marks c = if (mark_at marks c.block).active then record c { mask = (mark_at marks c.block).mask } ∷ [] else []

abbrev pub active_calls : List Mark → List Call → List Call
active_calls marks [] = []
active_calls marks (c ∷ cs) = call_by marks c ++ active_calls marks cs

abbrev pub call_on : Call → Option ℕ → List Call
call_on c None = []
call_on c (Some mask) = record c { mask = mask } ∷ []

-- the calls of the blocks whose entries apply
abbrev pub chosen_calls : List Mark → List Call → List PlainEntry → List Call
chosen_calls marks [] es = []
chosen_calls marks (c ∷ cs) [] = []
chosen_calls marks (c ∷ cs) (e ∷ es) = call_on c (activation marks e) ++ chosen_calls marks cs es

-- ---- what is shown by the marks

abbrev pub is_shown_by : List Mark → Option ℕ → Bool
is_shown_by marks None = true
is_shown_by marks (Some b) = (mark_at marks b).active

abbrev pub is_shown : List Mark → Show → Bool
is_shown marks s = is_shown_by marks s.asked

-- values of a store that are shown, from places within it
pub record IsShowOf (s : Standing) (w : Show) : Type 0 where
  pub order : w.start ≤ w.end
  pub within : w.end ≤ length s.values
  pub asked : IfSome w.asked (λ b. (1 ≤ b) × (b ≤ length s.marks))

abbrev pub shown_values : Standing → List Show → List ℤ
shown_values s [] = []
shown_values s (w ∷ ws) = (if is_shown s.marks w then between s.values w.start w.end else []) ++ shown_values s ws

-- the calls of a run of next states
abbrev pub state_calls_in : ReadyRow → Run → List Call
state_calls_in r run = between r.state_calls run.start run.end

-- the calls of a run with guards, by the marks: those of the entries that apply
abbrev pub guarded_calls : ReadyRow → Run → List Mark → List Call
guarded_calls r run marks =
    chosen_calls marks (calls_in r run) (entries_of (between r.guarded run.entries (run.entries + (run.end - run.start))))

-- the calls that a run makes by the marks: all, or those of the entries that apply
abbrev pub run_calls : ReadyRow → Run → List Mark → List Call
run_calls r run marks =
    if run.guarded then guarded_calls r run marks else calls_in r run
