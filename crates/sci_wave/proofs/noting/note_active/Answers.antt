use Rattle.std.proofs.Common.{◌≡◌, ◌∙◌, ℕ, ℤ, List, refl, sym, ap, subst, arith}
use Rattle.std.proofs.lemmas.List.Elements.{Contains-get_or}
use Rattle.sci_net.specs.Sources.{source_of}
use Rattle.sci_vcd.specs.Writing.{Writing}
use Rattle.sci_wave.proofs.Blockwise.{whole_there, possible_blocks, noted_none, active_noted}
use Rattle.sci_wave.proofs.noting.note_active.Goals as goal

pub loop-at-init : goal.loop-at-init
loop-at-init c = record {
  rest = refl;
  noted = noted_none c.args.ready.now c.args.dump.now.noted c.possible-blocks.result.now (whole_there c.args.ready.now.fixed.net c.args.dump.now c.requires.net c.requires.of c.well_formed-2.ensures);
}

pub note_from-at-requires-clause-blocks : goal.note_from-at-requires-clause-blocks
note_from-at-requires-clause-blocks c =
    let r = c.args.ready.now in
    let bs = c.possible-blocks.result.now in
    λ k d h. possible_blocks r.fixed.net (source_of r.fixed.net r.row) bs c.possible-blocks.ensures.possible _ (Contains-get_or bs k d h)

pub loop-at-preserved : goal.loop-at-preserved
loop-at-preserved c = record {
  rest = c.note_from-at.ensures.rest ∙ ap (λ (o : Writing). record o { noted = c.note_from-at.new.dump.noted }) c.loop-at.invariant.rest;
  noted = c.note_from-at.ensures.noted c.args.dump.now.noted c.loop-at.invariant.noted;
}

pub returns-clause-noted : goal.returns-clause-noted
returns-clause-noted c banks st at =
    active_noted c.args.ready.now banks st c.args.dump.now.noted c.loop-at.dump.noted c.possible-blocks.result.now c.loop-at.at at
    (omega (arith, c.loop-at-test.false)) (c.possible-blocks.ensures.active banks st at) c.loop-at.invariant.noted
