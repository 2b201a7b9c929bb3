-- A text that is being read.
use Rattle.std.proofs.Common.{◌≡◌, ℕ, ◌+◌, ◌≤◌, List, [], ◌∷◌, ◌++◌, length, Some, None, false, refl, sym, ap, ◌∙◌, subst, arith, append_assoc, append-nil, length-append}
use Rattle.std.specs.Prelude.{Result, Ok, Err, IfOk, IfErr}
use Rattle.std.proofs.lemmas.List.{length_push}
use Rattle.sci_vcd.specs.declared.machine.Stage.TheVariants.{Ticks}
use Rattle.sci_vcd.specs.declared.machine.DumpReader.{DumpReader}
use Rattle.sci_text.specs.declared.stop.TextStop.{TextStop}
use Rattle.sci_text.specs.declared.stop.TextStop.TheVariants as stops
use Rattle.sci_vcd.specs.declared.read.VcdStop.{VcdStop}
use Rattle.sci_vcd.specs.declared.read.VcdStop.TheVariants.{NotVcd}
use Rattle.sci_vcd.specs.Waveforms.{Waveforms}
use Rattle.sci_text.specs.Lines.{with_lf, joined, has_lf}
use Rattle.sci_text.specs.Stops.{Fails}
use Rattle.sci_text.proofs.Splits.{joined_push, first_line, line_has_lf}
use Rattle.sci_vcd.specs.Draft.{IsLinked}
use Rattle.sci_vcd.specs.Machine.{at_stage, state_of, outset, pass}
use Rattle.sci_vcd.specs.Blame.{Spells, BeginsSpelling, IsFirstWrong, Answers, blame_of}
use Rattle.sci_vcd.proofs.Completing.{led_begins}
use Rattle.sci_vcd.proofs.Blaming.{Reached, reached_none, reached_more, stops_there, spelled_ends, reached_spells}

-- So many lines of the text were read, and this is left.
pub record IsAt (bytes rest : List ℕ) (reader : DumpReader) (count : ℕ) : Type 0 where
  pub lines : List (List ℕ)
  pub split : bytes ≡ joined lines ++ rest
  pub reached : Reached lines (state_of reader)
  pub linked : IsLinked reader.draft
  pub number : count ≡ length lines
  pub room : count + length rest ≤ length bytes

pub at_start : (bytes : List ℕ) (reader : DumpReader) → state_of reader ≡ outset → IsLinked reader.draft → IsAt bytes bytes reader 0
at_start bytes reader s l = record { lines = []; split = refl; reached = subst (Reached []) (sym s) reached_none; linked = l; number = refl; room = omega arith }

-- a line has a byte at least
line_room : (rest line more : List ℕ) → rest ≡ with_lf line ++ more → length more + 1 ≤ length rest
line_room rest line more is = omega (arith, ap (λ (l : List ℕ). length l) is, length-append (with_lf line) more, length_push line 10)

pub next_room : (bytes rest line more : List ℕ) (reader : DumpReader) (count : ℕ) → IsAt bytes rest reader count → rest ≡ with_lf line ++ more → count + 1 ≤ length bytes
next_room bytes rest line more reader count i is = let room = i.room in omega (arith, line_room rest line more is)

pub at_next : (bytes rest line more : List ℕ) (reader new : DumpReader) (count : ℕ) → IsAt bytes rest reader count → has_lf line ≡ false → rest ≡ with_lf line ++ more → pass line (state_of reader) ≡ Some (state_of new) → IsLinked new.draft
    → IsAt bytes more new (count + 1)
at_next bytes rest line more reader new count i c is e l =
    let n = i.number in
    let room = i.room in
    let longer = length_push i.lines line in
    record {
      lines = i.lines ++ line ∷ [];
      split = i.split ∙ ap (λ (t : List ℕ). joined i.lines ++ t) is ∙ sym (append_assoc (joined i.lines) (with_lf line) more) ∙ ap (λ (t : List ℕ). t ++ more) (sym (joined_push i.lines line));
      reached = reached_more i.lines line (state_of reader) (state_of new) i.reached c e;
      linked = l;
      number = omega arith;
      room = omega (arith, line_room rest line more is);
    }

-- what is blamed where reading stops
wrong_at : (bytes rest : List ℕ) (reader : DumpReader) (count : ℕ) (i : IsAt bytes rest reader count) → ((line more : List ℕ) → has_lf line ≡ false → rest ≡ with_lf line ++ more → BeginsSpelling (joined i.lines ++ with_lf line) → ⊥)
    → ((w : Waveforms) → Spells bytes w → ⊥) → IsFirstWrong bytes (count + 1)
wrong_at bytes rest reader count i wrong none = record {
  before = i.lines;
  rest = rest;
  clear = i.reached.clear;
  split = i.split;
  number = ap (λ (k : ℕ). k + 1) i.number;
  begins = led_begins i.lines (state_of reader) i.reached.led;
  wrong = wrong;
  none = none;
}

wrong_line : (bytes rest line more : List ℕ) (reader : DumpReader) (count : ℕ) → IsAt bytes rest reader count → has_lf line ≡ false → rest ≡ with_lf line ++ more → pass line (state_of reader) ≡ None → IsFirstWrong bytes (count + 1)
wrong_line bytes rest line more reader count i c is e =
    let stops = stops_there i.lines line (state_of reader) i.reached c e in
    let split : bytes ≡ (joined i.lines ++ with_lf line) ++ more = i.split ∙ ap (λ (t : List ℕ). joined i.lines ++ t) is ∙ sym (append_assoc (joined i.lines) (with_lf line) more) in
    wrong_at bytes rest reader count i
    (λ other back d h front. stops (subst (λ (l : List ℕ). BeginsSpelling (joined i.lines ++ with_lf l)) (first_line other line back more d c (sym h ∙ is)).0 front))
    (λ w s. stops (w, more, s.0, sym s.1 ∙ split))

clash : (rest line more : List ℕ) → has_lf rest ≡ false → rest ≡ with_lf line ++ more → ⊥
clash rest line more c is = let t = line_has_lf line more in let k : has_lf rest ≡ has_lf (with_lf line ++ more) = ap has_lf is in cc

wrong_end : (bytes rest : List ℕ) (reader : DumpReader) (count : ℕ) → IsAt bytes rest reader count → has_lf rest ≡ false → ((w : Waveforms) → rest ≡ [] → state_of reader ≡ at_stage Ticks w → ⊥) → IsFirstWrong bytes (count + 1)
wrong_end bytes rest reader count i c missing =
    wrong_at bytes rest reader count i
    (λ line more d h front. clash rest line more c h)
    (λ w s. let k = spelled_ends bytes rest i.lines (state_of reader) w i.split i.reached c s in missing w k.0 k.1)

whole_end : (bytes rest : List ℕ) (reader : DumpReader) (count : ℕ) (w : Waveforms) → IsAt bytes rest reader count → rest ≡ [] → state_of reader ≡ at_stage Ticks w → Spells bytes w
whole_end bytes rest reader count w i none over =
    let all : joined i.lines ≡ bytes = sym (i.split ∙ ap (λ (t : List ℕ). joined i.lines ++ t) none ∙ append-nil (joined i.lines)) in
    subst (λ (t : List ℕ). Spells t w) all (reached_spells i.lines w (subst (Reached i.lines) over i.reached))

-- the answers
pub blamed_line : (bytes rest line more : List ℕ) (reader : DumpReader) (count : ℕ) (s : TextStop) (result : VcdStop) → IsAt bytes rest reader count → has_lf line ≡ false → rest ≡ with_lf line ++ more → Fails s (pass line (state_of reader))
    → result ≡ blame_of s (count + 1) → Answers bytes (Err result)
blamed_line bytes rest line more reader count stops.Memory result i c is f e = subst (λ (r : VcdStop). Answers bytes (Err r)) (sym e) tt
blamed_line bytes rest line more reader count stops.Other result i c is f e = subst (λ (r : VcdStop). Answers bytes (Err r)) (sym e) (wrong_line bytes rest line more reader count i c is f)

pub finished : (bytes rest : List ℕ) (reader : DumpReader) (count : ℕ) (result : Result Waveforms VcdStop) → IsAt bytes rest reader count → has_lf rest ≡ false → IfOk result (λ d. rest ≡ []) → IfOk result (λ d. state_of reader ≡ at_stage Ticks d)
    → IfErr result (λ e. e ≡ NotVcd (count + 1)) → IfErr result (λ e. (w : Waveforms) → rest ≡ [] → state_of reader ≡ at_stage Ticks w → ⊥) → Answers bytes result
finished bytes rest reader count (Ok d) i c none is b m = whole_end bytes rest reader count d i none is
finished bytes rest reader count (Err x) i c none is b m = subst (λ (r : VcdStop). Answers bytes (Err r)) (sym b) (wrong_end bytes rest reader count i c m)
