use Rattle.std.proofs.Common.{◌≡◌, ◌-◌, ℕ, drop, length, ap, sym, ◌∙◌, arith}
use Rattle.std.proofs.lemmas.List.{drop_all}
use Rattle.sci_reaction.specs.declared.entry.Entry.{Entry}
use Rattle.sci_sched.specs.Plain.{row_of}
use Rattle.sci_sched.specs.Text.{entries_text}
use Rattle.sci_sched.proofs.Together.{none_left, line_more}
use Rattle.sci_sched.proofs.write.lines_before.Goals as goal

pub loop-turn-init : goal.loop-turn-init
loop-turn-init c = record {
  lines = drop_all 512 c.args.text.now (omega arith) ∙ sym (none_left c.args.entries.now);
  room = omega arith;
  within = omega arith;
  some = λ h. absurd (omega (arith, h));
}

pub alone_before-at-requires-clause-alone : goal.alone_before-at-requires-clause-alone
alone_before-at-requires-clause-alone c =
    let es = c.args.entries.now in
    let e = c.index-entries-place.result in
    ap (λ (x : Entry). x.guards.items) c.index-entries-place.is ∙ c.requires.alone (length es - 1 - c.loop-turn.turn) e (omega (arith, c.loop-turn-test.true))

pub loop-turn-preserved : goal.loop-turn-preserved
loop-turn-preserved c = record {
  lines = line_more c.args.entries.now c.loop-turn.turn c.index-entries-place.result _ (drop c.loop-turn.at c.loop-turn.text) c.loop-turn-test.true c.index-entries-place.is c.alone_before-at.ensures.text c.loop-turn.invariant.lines;
  room = omega (arith, c.alone_before-at.ensures.room, c.loop-turn.invariant.room);
  within = omega (arith, c.alone_before-at.ensures.start, c.loop-turn.invariant.within);
  some = λ h. omega (arith, c.alone_before-at.ensures.start, c.loop-turn.invariant.within);
}

pub returns-clause-text : goal.returns-clause-text
returns-clause-text c =
    let es = c.args.entries.now in
    let all : length es - c.loop-turn.turn ≡ 0 = omega (arith, c.loop-turn-test.false) in
    c.loop-turn.invariant.lines ∙ ap (λ (n : ℕ). entries_text (row_of (drop n es))) all

pub returns-clause-start : goal.returns-clause-start
returns-clause-start c = c.loop-turn.invariant.some (omega (arith, c.requires.some, c.loop-turn-test.false))
