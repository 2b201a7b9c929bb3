-- A run has a dump.
use Rattle.std.proofs.Common.{[], refl, arith}
use Rattle.std.specs.Prelude.{None}
use Rattle.sci_net.specs.declared.Source.TheVariants.{Start}
use Rattle.sci_net.specs.Parts.{Parts}
use Rattle.sci_net.specs.Net.{IsNet}
use Rattle.sci_reaction.specs.Memory.{first_memory}
use Rattle.sci_reaction.proofs.Next.{first_in_range}
use Rattle.sci_run.specs.Run.{first_state, ReactionOutcome, Leads, StopsWith, IsOutcome}
use Rattle.sci_run.proofs.Traces.{some_trace}
use Rattle.sci_vcd.specs.Waveforms.{Waveforms}
use Rattle.sci_vcd.specs.Signals.{signals_of, starts_from}
use Rattle.sci_vcd.specs.Writing.{Writing, IsWriting, told_at}
use Rattle.sci_vcd.proofs.OfNet.{net_signals}
use Rattle.sci_vcd.proofs.Outset.{starts_are}
use Rattle.sci_wave.specs.History.{start, stopped_at_start}
use Rattle.sci_wave.specs.RunDump.{IsRunDump}
use Rattle.sci_wave.specs.Laws.{SomeRunDump}
use Rattle.sci_wave.specs.Following.{IsFollowed}
use Rattle.sci_wave.proofs.Followed.{whole_dump, followed_outset}
use Rattle.sci_wave.proofs.Completed.{all_held, all_held_at, all_held_fit, completed_behind}

-- ---- before the run

-- nothing is written, and what all outputs hold is noted
at_outset : Parts → Writing
at_outset n = let vs = all_held n (first_memory n) in record { signals = signals_of n; starts = starts_from 0 n.specs; written = vs; noted = vs; closed = None }

outset_writing : (n : Parts) → IsNet n → IsWriting (at_outset n)
unfolding at_outset
outset_writing n net =
    let fit = all_held_fit n (first_memory n) net (first_in_range n net) in
    let long = (starts_are n).long in
    let few = net.wired.few in
    record { signals = (net_signals n net).0; some = omega (arith, long); few = omega (arith, long, few); written = fit.one_each; noted = fit }

outset_followed : (n : Parts) → IsNet n → IsFollowed n [] (first_state n) None (at_outset n)
unfolding at_outset
outset_followed n net = followed_outset n (at_outset n) (record { signals = refl; starts = starts_are n }) refl (all_held_at n (first_memory n) (first_in_range n net))

-- ---- the run

pub some_run_dump : SomeRunDump
some_run_dump n i until limit net free columns early = let run = some_trace n i net free until limit in by_outcome run.1.outcome run.1.is
  where
    by_outcome : (p : ReactionOutcome) → IsOutcome n i 0 Start (first_state n) p → (w : Waveforms) × IsRunDump n i until limit w
    by_outcome (Leads seen after) is =
        let behind =
        completed_behind n i until limit net free columns early [] (first_state n) after None (at_outset n) (start after seen is) (outset_followed n net) (outset_writing n net) (omega arith) (omega arith) in
        (behind.0, behind.2)
    by_outcome (StopsWith seen) is =
        let dump = whole_dump n [] (first_state n) None (at_outset n) net (outset_followed n net) (outset_writing n net) (omega arith) in
        (told_at None (at_outset n) 0, ([], stopped_at_start is.block is.word is.result, dump.0))
