-- A dump as it lies in memory, while it is read and afterwards.
use Rattle.std.specs.Prelude.{◌≡◌, ℕ, zero, suc, ◌-◌, ◌<◌, ◌≤◌, List, length, map, nat_eq, if◌then◌else◌, slice_index_or}
use Rattle.sci_vcd.specs.declared.signal.Change.{Change}
use Rattle.sci_vcd.specs.declared.draft.Linked.{Linked}
use Rattle.sci_vcd.specs.declared.draft.Draft.{Draft}
use Rattle.sci_vcd.specs.Waveforms.{Waveforms, outset_of, IsDump}

abbrev pub changes_of : List Linked → List Change
changes_of entries = map (λ e. e.change) entries

-- the dump so far
abbrev pub waveforms_of : Draft → Waveforms
waveforms_of d = record { signals = d.signals.items; first = d.first.items; changes = changes_of d.entries.items }

-- change i, counted from 0
abbrev pub change_no : List Change → ℕ → Change
change_no cs i = slice_index_or cs i (outset_of 0)

-- the number of the last of the first k changes that is one of signal n, counted from 1; 0 where there is none
abbrev pub latest_to : List Change → ℕ → ℕ → ℕ
latest_to cs n zero = 0
latest_to cs n (suc k) = if nat_eq (change_no cs k).signal n then suc k else latest_to cs n k

-- Of so many signals each knows its last change, and each change the one before it of its signal.
pub record AreLinked (count : ℕ) (latest : List ℕ) (entries : List Linked) : Type 0 where
  pub sizes : length latest ≡ count
  pub latest_is : (n : ℕ) → 1 ≤ n → n ≤ count → slice_index_or latest (n - 1) 0 ≡ latest_to (changes_of entries) n (length entries)
  pub earlier_is : (i : ℕ) (e : Linked) → i < length entries → e ≡ slice_index_or entries i e → e.earlier ≡ latest_to (changes_of entries) e.change.signal i

abbrev pub IsLinked : Draft → Type 0
IsLinked d = AreLinked (length d.signals.items) d.latest.items d.entries.items

-- a dump that is kept with its links
pub record IsKept (d : Draft) : Type 0 where
  pub dump : IsDump (waveforms_of d)
  pub linked : IsLinked d
