-- The plain forms of entries: each `Vec` as its list.
use Rattle.std.specs.Prelude.{ℕ, List, map, All}
use Rattle.sci_net.specs.declared.Source.{Source}
use Rattle.sci_net.specs.Parts.{Parts}
use Rattle.sci_reaction.specs.Depends.{HasDepth}
use Rattle.sci_reaction.specs.Schedule.{Guard as PlainGuard, Entry as PlainEntry}
use Rattle.sci_reaction.specs.declared.entry.Guard.{Guard}
use Rattle.sci_reaction.specs.declared.entry.Entry.{Entry}

abbrev pub guard_of : Guard → PlainGuard
guard_of g = record { block = g.block; port = g.port; mask = g.mask }

abbrev pub guards_of : List Guard → List PlainGuard
guards_of gs = map guard_of gs

abbrev pub entry_of : Entry → PlainEntry
entry_of e = record { block = e.block; depth = e.depth; always = e.always; mask = e.mask; guards = guards_of e.guards.items }

abbrev pub entries_of : List Entry → List PlainEntry
entries_of es = map entry_of es

-- each tells the depth of its block
abbrev pub HaveDepths : Parts → Source → List PlainEntry → Type 0
HaveDepths n s es = All (λ (e : PlainEntry). HasDepth n s e.block e.depth) es
