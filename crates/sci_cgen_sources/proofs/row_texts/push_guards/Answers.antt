use Rattle.std.proofs.Common.{arith, ◌≤◌, length}
use Rattle.std.proofs.lemmas.List.{drop_more}
use Rattle.sci_net.specs.Parts.{IsBlock}
use Rattle.sci_reaction.specs.Schedule.{Guard}
use Rattle.sci_reaction.specs.declared.entry.Guard.{Guard as KeptGuard}
use Rattle.sci_reaction.specs.Kept.{guard_of, entry_of}
use Rattle.sci_program.specs.Program.{guard_text}
use Rattle.sci_cgen_sources.proofs.RowLemmas.{of_guard, texts_pushed, all_pushed}
use Rattle.sci_cgen_sources.proofs.row_texts.push_guards.Goals as goal

no_guard : KeptGuard
no_guard = record { block = 0; port = 0; mask = 0 }

pub push_guard-requires-clause-guard : goal.push_guard-requires-clause-guard
push_guard-requires-clause-guard c =
    of_guard (λ (g : Guard). IsBlock c.args.net.now g.block) c.args.guards.now c.loop-guard.guard-index _ c.requires.guards c.loop-guard-test.true

pub loop-guard-preserved : goal.loop-guard-preserved
unfolding no_guard
loop-guard-preserved c =
    texts_pushed (guard_text c.args.net.now (entry_of c.args.entry.now)) guard_of c.args.guards.now c.loop-guard.guard-index _ _ _ _
    (drop_more c.args.guards.now c.loop-guard.guard-index no_guard c.loop-guard-test.true) c.in_ok-push_guard.ensures c.loop-guard.invariant

pub returns : goal.returns
returns c =
    let most : length c.args.guards.now ≤ c.loop-guard.guard-index = omega arith in
    all_pushed (guard_text c.args.net.now (entry_of c.args.entry.now)) guard_of c.args.guards.now c.loop-guard.guard-index _ _ most c.loop-guard.invariant
