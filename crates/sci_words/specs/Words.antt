-- The words of the command line.
use Rattle.std.specs.Prelude.{ℕ, ◌≡◌, ◌+◌, ◌≤◌, List, [], ◌∷◌, Option, Some, None, codes, decimal}
use Rattle.sci_base.specs.declared.limits.TheConstants.{TICKS, EVENTS}
use Rattle.sci_words.specs.declared.command.Report.{Report}
use Rattle.sci_words.specs.declared.command.Report.TheVariants.{Check, Map, Schedule}
use Rattle.sci_words.specs.declared.command.Command.{Command}
use Rattle.sci_words.specs.declared.command.Command.TheVariants.{Report as Tell, Simulate, Judge, Save, Resume, Code, RunC, Host, Bulk, Dump, DumpAt}
use Rattle.sci_words.specs.declared.words.Runs.{Runs}
use Rattle.sci_words.specs.declared.words.Runs.TheVariants.{Simulate as Simulating, RunC as RunningC, Dump as Dumping}

-- what a command line asks for: to tell something of the diagram of a file; to simulate it, with an input file, the last date and the
-- most events; to judge whether a file is its trace; to save its run behind a reaction; to go on with it from what a file saves; for the C of
-- a diagram's file; to run a C file by the meaning of the subset, with an input file and the same bounds; for the
-- host file; for the counts of a bulk diagram and of its run, by its seed and its size; for the dump of a run, with the words of a simulation; or
-- for the values of a dump's file at a tick
pub data Request : Type 0 where
  report : Report → List ℕ → Request
  simulate : List ℕ → List ℕ → ℕ → ℕ → Request
  judge : List ℕ → List ℕ → List ℕ → ℕ → ℕ → Request
  save : List ℕ → List ℕ → ℕ → ℕ → ℕ → Request
  resume : List ℕ → List ℕ → List ℕ → ℕ → ℕ → Request
  code : List ℕ → Request
  run_c : List ℕ → List ℕ → ℕ → ℕ → Request
  host : Request
  bulk : ℕ → ℕ → Request
  dump : List ℕ → List ℕ → ℕ → ℕ → Request
  dump_at : List ℕ → ℕ → Request

abbrev pub report_word : Report → List ℕ
report_word Check = codes "check"
report_word Map = codes "map"
report_word Schedule = codes "schedule"

-- what is told where the words are no command
unfoldable pub usage_line : List ℕ
usage_line = codes "usage: scicos check D | map D | schedule D | simulate D I T N | ccode D | crun C I T N | host | bulk SEED SIZE | judge D I V T N | save D I T N K | resume D I S T N | vcd D I T N | vcdat V K\n"

-- the words that spell a command; a number has its decimal digits alone
abbrev pub spelled : Request → List (List ℕ)
spelled (report r d) = report_word r ∷ d ∷ []
spelled (simulate d i until limit) = codes "simulate" ∷ d ∷ i ∷ decimal until ∷ decimal limit ∷ []
spelled (judge d i v until limit) = codes "judge" ∷ d ∷ i ∷ v ∷ decimal until ∷ decimal limit ∷ []
spelled (save d i until limit k) = codes "save" ∷ d ∷ i ∷ decimal until ∷ decimal limit ∷ decimal k ∷ []
spelled (resume d i s until limit) = codes "resume" ∷ d ∷ i ∷ s ∷ decimal until ∷ decimal limit ∷ []
spelled (code d) = codes "ccode" ∷ d ∷ []
spelled (run_c c i until limit) = codes "crun" ∷ c ∷ i ∷ decimal until ∷ decimal limit ∷ []
spelled host = codes "host" ∷ []
spelled (bulk seed size) = codes "bulk" ∷ decimal seed ∷ decimal size ∷ []
spelled (dump d i until limit) = codes "vcd" ∷ d ∷ i ∷ decimal until ∷ decimal limit ∷ []
spelled (dump_at v tick) = codes "vcdat" ∷ v ∷ decimal tick ∷ []

-- its numbers are in their bounds
abbrev pub InBounds : Request → Type 0
InBounds (report r d) = Unit {0}
InBounds (simulate d i until limit) = (until ≤ TICKS) × (limit ≤ EVENTS)
InBounds (judge d i v until limit) = (until ≤ TICKS) × (limit ≤ EVENTS)
InBounds (save d i until limit k) = (until ≤ TICKS) × (limit ≤ EVENTS) × (1 ≤ k) × (k ≤ EVENTS + 1)
InBounds (resume d i s until limit) = (until ≤ TICKS) × (limit ≤ EVENTS)
InBounds (code d) = Unit {0}
InBounds (run_c c i until limit) = (until ≤ TICKS) × (limit ≤ EVENTS)
InBounds host = Unit {0}
InBounds (bulk seed size) = (seed ≤ 4294967295) × (1 ≤ size) × (size ≤ 2000)
InBounds (dump d i until limit) = (until ≤ TICKS) × (limit ≤ EVENTS)
InBounds (dump_at v tick) = tick ≤ TICKS

-- these words are this command
abbrev pub Spells : List (List ℕ) → Request → Type 0
Spells words c = (words ≡ spelled c) × InBounds c

-- these words are no command
abbrev pub NoCommand : List (List ℕ) → Type 0
NoCommand words = (c : Request) → Spells words c → ⊥

-- the files that a command names, in the order in which they are read
abbrev pub files_of : Request → List (List ℕ)
files_of (report r d) = d ∷ []
files_of (simulate d i until limit) = d ∷ i ∷ []
files_of (judge d i v until limit) = d ∷ i ∷ v ∷ []
files_of (save d i until limit k) = d ∷ i ∷ []
files_of (resume d i s until limit) = d ∷ i ∷ s ∷ []
files_of (code d) = d ∷ []
files_of (run_c c i until limit) = c ∷ i ∷ []
files_of host = []
files_of (bulk seed size) = []
files_of (dump d i until limit) = d ∷ i ∷ []
files_of (dump_at v tick) = v ∷ []

-- ---- what the code makes of the words

abbrev pub run_word : Runs → List ℕ
run_word Simulating = codes "simulate"
run_word RunningC = codes "crun"
run_word Dumping = codes "vcd"

-- what the code's command asks for
abbrev pub asked_by : Command → Request
asked_by (Tell r d) = report r d.now
asked_by (Simulate r) = simulate r.file.now r.inputs_file.now r.until r.limit
asked_by (Judge r v) = judge r.file.now r.inputs_file.now v.now r.until r.limit
asked_by (Save r k) = save r.file.now r.inputs_file.now r.until r.limit k
asked_by (Resume r s) = resume r.file.now r.inputs_file.now s.now r.until r.limit
asked_by (Code d) = code d.now
asked_by (RunC r) = run_c r.file.now r.inputs_file.now r.until r.limit
asked_by Host = host
asked_by (Bulk seed size) = bulk seed size
asked_by (Dump r) = dump r.file.now r.inputs_file.now r.until r.limit
asked_by (DumpAt v tick) = dump_at v.now tick

abbrev pub Parses : List (List ℕ) → Option Command → Type 0
Parses words None = NoCommand words
Parses words (Some c) = Spells words (asked_by c)
