-- Reading what was saved, line by line: a value and the bytes behind it; or how many bytes are left where the line begins that isn't as it has to be.
use Rattle.std.specs.Prelude.{◌≡◌, ℕ, zero, suc, ◌+◌, ◌-◌, ℤ, pos, List, [], ◌∷◌, length, take, replicate, slice_index_or, slice_set, codes, Bool, true, false, ◌&&◌, not, nat_eq, Option, Some, None, option_map, Result, Ok, Err, unsigned_abs, if◌then◌else◌}
use Rattle.sci_base.specs.declared.limits.TheConstants.{TICKS, EVENTS}
use Rattle.sci_base.specs.Lists.{at}
use Rattle.sci_forms.specs.declared.spec.Spec.{Spec}
use Rattle.sci_net.specs.declared.Source.{Source}
use Rattle.sci_net.specs.declared.Source.TheVariants.{Start, Port}
use Rattle.sci_net.specs.Parts.{Parts}
use Rattle.sci_net.specs.Sources.{block_sources, sources_from, sources_of, source_of}
use Rattle.sci_reaction.specs.Memory.{Columns}
use Rattle.sci_text.specs.Reading.{after}
use Rattle.sci_save.specs.declared.bounds.Bounds.{Bounds}
use Rattle.sci_save.specs.declared.stop.LineStop.{LineStop}
use Rattle.sci_save.specs.declared.stop.LineStop.TheVariants as stops
use Rattle.sci_save.specs.Saved.{Saved}
use Rattle.sci_save.specs.declared.bounds.BlockLine.{BlockLine}
use Rattle.sci_save.specs.declared.bounds.BlockLine.TheVariants.{State, Held, Cursor}
use Rattle.sci_save.specs.Bounds.{from_to, word_of, bounds_of}
use Rattle.sci_save.specs.Numbers.{behind, start_text}

abbrev pub Read : Type 0 → Type 0
Read A = Result (A × List ℕ) ℕ

infixl 10 ◌>>=◌
abbrev pub ◌>>=◌ : {A B : Type 0} → Result A ℕ → (A → Result B ℕ) → Result B ℕ
(Ok x) >>= f = f x
(Err left) >>= f = Err left

-- What a function returned, seen by view, is what reading gives, unless memory ran out.
abbrev pub Fails : {Y : Type 0} → LineStop → Result Y ℕ → Type 0
Fails stops.Memory read = Unit {0}
Fails (stops.Broken left) read = read ≡ Err left

abbrev pub Gives : {X Y : Type 0} → (X → Y) → Result X LineStop → Result Y ℕ → Type 0
Gives view (Ok x) read = read ≡ Ok (view x)
Gives view (Err e) read = Fails e read

-- of a line that begins where so many bytes are left
abbrev pub told : {A : Type 0} → ℕ → Option A → Result A ℕ
told left (Some x) = Ok x
told left None = Err left

-- a line that begins so, and has a number within each of the bounds
abbrev pub line_at : List ℕ → List Bounds → List ℕ → Read (List ℤ)
line_at start bounds bytes = told (length bytes) (behind start bounds bytes)

-- ---- a line for each block

-- where a block has no numbers it has no line
abbrev pub row_at : List ℕ → ℕ → List Bounds → List ℕ → Read (List ℤ)
row_at word b [] bytes = Ok ([], bytes)
row_at word b (r ∷ rs) bytes = line_at (start_text word b) (r ∷ rs) bytes

-- of all blocks, counted from b on
unfoldable pub rows_at : BlockLine → Columns → ℕ → List Spec → List ℕ → Read (List (List ℤ))
rows_at part i b [] bytes = Ok ([], bytes)
rows_at part i b (s ∷ ss) bytes = row_at (word_of part) b (bounds_of part i s) bytes >>= λ x. rows_at part i (b + 1) ss x.1 >>= λ xs. Ok (x.0 ∷ xs.0, xs.1)

-- the number of a row, or 0
abbrev pub first_of : List ℤ → ℕ
first_of [] = 0
first_of (v ∷ vs) = unsigned_abs v

abbrev pub firsts_of : List (List ℤ) → List ℕ
firsts_of [] = []
firsts_of (row ∷ rows) = first_of row ∷ firsts_of rows

-- ---- pending events

-- how many activation outputs of earlier blocks are sources
abbrev pub sources_before : Parts → ℕ → ℕ
sources_before n b = length (sources_from 1 (take (b - 1) n.specs))

-- the same of each block from b on, where so many stand before it
abbrev pub befores : (count b : ℕ) → List Spec → List ℕ
befores count b [] = []
befores count b (s ∷ ss) = count ∷ befores (count + length (block_sources b s)) (b + 1) ss

-- the place of such an output among the sources
abbrev pub place_of : Parts → ℕ → ℕ → ℕ
place_of n block port = sources_before n block + port

abbrev pub is_port : ℕ → ℕ → Source → Bool
is_port block port Start = false
is_port block port (Port q) = nat_eq q.block block && nat_eq q.port port

-- the output is a source, which isn't marked
abbrev pub is_free : Parts → List Bool → ℕ → ℕ → Bool
is_free n marks block port = not (slice_index_or marks (place_of n block port) true) && is_port block port (source_of n (place_of n block port))

abbrev pub free_place : Parts → List Bool → ℕ → ℕ → Option ℕ
free_place n marks block port = if is_free n marks block port then Some (place_of n block port) else None

-- the event of a date, a block and a port
abbrev pub event_of : Parts → List Bool → List ℤ → Option (ℕ × ℕ)
event_of n marks ns = option_map (λ k. (unsigned_abs (at ns 0), k)) (free_place n marks (unsigned_abs (at ns 1)) (unsigned_abs (at ns 2)))

-- dates don't fall, and none is later than the last that is near
abbrev pub event_bounds : Parts → (near last : ℕ) → List Bounds
event_bounds n near last = from_to (pos last) (pos near) ∷ from_to (pos 1) (pos (length n.specs)) ∷ from_to (pos 1) (pos 4294967295) ∷ []

unfoldable pub event_at : Parts → (near last : ℕ) → List Bool → List ℕ → Read (ℕ × ℕ)
event_at n near last marks bytes =
    line_at (codes "pend") (event_bounds n near last) bytes >>= λ x. told (length bytes) (event_of n marks x.0) >>= λ e. Ok (e, x.1)

-- what stands behind the last event, or what else is read
abbrev pub or_over : Option (List ℕ) → Read (List (ℕ × ℕ)) → Read (List (ℕ × ℕ))
or_over (Some rest) other = Ok ([], rest)
or_over None other = other

-- at most so many pending events, and the end
unfoldable pub events_at : Parts → (near : ℕ) → (most : ℕ) → (last : ℕ) → List Bool → List ℕ → Read (List (ℕ × ℕ))
events_at n near zero last marks bytes = Err (length bytes)
events_at n near (suc most) last marks bytes =
    or_over (after (codes "done\n") bytes)
    (event_at n near last marks bytes >>= λ x. events_at n near most x.0.0 (slice_set marks x.0.1 true) x.1 >>= λ xs. Ok (x.0 ∷ xs.0, xs.1))

-- ---- all

-- how many events have fired, and the date
abbrev pub at_bounds : List Bounds
at_bounds = from_to (pos 0) (pos EVENTS) ∷ from_to (pos 0) (pos TICKS) ∷ []

abbrev pub unmarked : Parts → List Bool
unmarked n = replicate (length (sources_of n)) false

-- what is read of the lines about blocks, and of those about pending events
abbrev pub made : (stands : List ℤ) → (states held cursors : List (List ℤ)) → List (ℕ × ℕ) → Saved
made stands states held cursors pending =
    record { fired = unsigned_abs (at stands 0); now = unsigned_abs (at stands 1); states = states; held = held; cursors = firsts_of cursors; pending = pending }

unfoldable pub pending_at : Parts → (now : ℕ) → List ℕ → Read (List (ℕ × ℕ))
pending_at n now bytes = events_at n (now + 2147483647) (length bytes) now (unmarked n) bytes

unfoldable pub saved_at : Parts → Columns → List ℕ → Read Saved
saved_at n i bytes =
    line_at (codes "save 1") [] bytes >>= λ version.
    line_at (codes "at") at_bounds version.1 >>= λ stands.
    rows_at State i 1 n.specs stands.1 >>= λ states.
    rows_at Held i 1 n.specs states.1 >>= λ held.
    rows_at Cursor i 1 n.specs held.1 >>= λ cursors.
    pending_at n (unsigned_abs (at stands.0 1)) cursors.1 >>= λ pending.
    Ok (made stands.0 states.0 held.0 cursors.0 pending.0, pending.1)
