-- When a folder or a sink in memory fails: at the calls that it was told, counted from 1, at a name that it hasn't, and where the room is too small.
use Rattle.std.specs.Prelude.{Some, ℕ, ◌-◌, List, length, map, Bool, ◌||◌, nat_eq, nat_lt, string_bytes, is_none}
use Rattle.std.specs.List.{list_any}
use Rattle.sci_io.specs.Causes.{counted}
use Rattle.sci_io.specs.Files.{file_named, FolderState, folder_state}
use Rattle.sci_io.specs.Taken.{SinkState, direct}
use Rattle.sci_io.specs.declared.memory_folder.MemFolder.{MemFolder}
use Rattle.sci_io.specs.declared.memory_sink.MemSink.{MemSink}

-- the call of this number is told to fail
abbrev pub is_told : List ℕ → ℕ → Bool
is_told fails call = list_any (λ k. nat_eq k call) fails

abbrev pub state_of : MemSink → SinkState
state_of s = direct (Some s.bytes.items) s.faults s.failing

-- the next call fails, for a piece of this size
abbrev pub sink_fails : MemSink → ℕ → Bool
sink_fails s size = is_told s.fails.items (counted s.calls) || nat_lt (s.room - length s.bytes.items) size

abbrev pub files_of : MemFolder → List (List ℕ × List ℕ)
files_of f = map (λ e. (string_bytes e.0, e.1.items)) f.files.items

abbrev pub folder_of : MemFolder → FolderState
folder_of f = folder_state (Some (files_of f)) (map string_bytes f.asked.items) f.faults

-- the next call fails, for this name
abbrev pub folder_fails : MemFolder → List ℕ → Bool
folder_fails f name = is_told f.fails.items (counted f.calls) || is_none (file_named (files_of f) name)
