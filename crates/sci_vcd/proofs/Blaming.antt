-- Texts that were read line by line, and the line that is blamed.
use Rattle.std.proofs.Common.{◌≡◌, ℕ, ◌+◌, List, [], ◌∷◌, ◌++◌, Option, Some, None, false, refl, sym, ap, ◌∙◌, append_assoc, append-nil}
use Rattle.std.specs.Prelude.{Result, Ok, Err}
use Rattle.sci_vcd.specs.declared.machine.Stage.TheVariants.{Ticks}
use Rattle.sci_vcd.specs.declared.read.VcdStop.{VcdStop}
use Rattle.sci_vcd.specs.declared.read.VcdStop.TheVariants.{NotVcd, Memory}
use Rattle.sci_vcd.specs.Waveforms.{Waveforms, IsDump}
use Rattle.sci_text.specs.Reading.{◌>>=◌}
use Rattle.sci_text.specs.Lines.{with_lf, joined, has_lf, AllClear}
use Rattle.sci_text.proofs.Parts.{bind_some, some_is}
use Rattle.sci_text.proofs.Splits.{through-append, through_front, joined_push, clear_append, split_lines, no_line}
use Rattle.sci_vcd.specs.Spelling.{lines_of, spelling}
use Rattle.sci_vcd.specs.Machine.{State, at_stage, outset, pass, passes}
use Rattle.sci_vcd.specs.Blame.{Spells, BeginsSpelling, IsFirstWrong, Answers, Accepts, Blames}
use Rattle.sci_text.proofs.FirstWrong as wrong
use Rattle.sci_vcd.proofs.Clear.{lines_clear}
use Rattle.sci_vcd.proofs.Leading.{Led, led_more}
use Rattle.sci_vcd.proofs.Passing.{dump_passes}

-- Lines that were read.
pub record Reached (lines : List (List ℕ)) (s : State) : Type 0 where
  pub clear : AllClear lines
  pub ran : passes lines outset ≡ Some s
  pub led : Led lines s

pub reached_none : Reached [] outset
reached_none = record { clear = tt; ran = refl; led = record { are = refl; stands = refl } }

pub reached_more : (lines : List (List ℕ)) (line : List ℕ) (s u : State) → Reached lines s → has_lf line ≡ false → pass line s ≡ Some u → Reached (lines ++ line ∷ []) u
reached_more lines line s u r c e = record {
  clear = clear_append lines (line ∷ []) r.clear (c, tt);
  ran = through-append pass lines (line ∷ []) outset s r.ran ∙ ap (λ (q : Option State). q >>= passes []) e;
  led = led_more lines line s u r.led e;
}

no_some : (t : State) → None ≡ Some t → ⊥
no_some t e = cc

-- a line that doesn't pass
pub stops_there : (lines : List (List ℕ)) (line : List ℕ) (s : State) → Reached lines s → has_lf line ≡ false → pass line s ≡ None → BeginsSpelling (joined lines ++ with_lf line) → ⊥
stops_there lines line s r c e f =
    let w = f.0 in
    let all = lines ++ line ∷ [] in
    let whole : joined (lines_of w) ≡ joined all ++ f.1 = f.3 ∙ ap (λ (t : List ℕ). t ++ f.1) (sym (joined_push lines line)) in
    let k = split_lines all (lines_of w) f.1 (clear_append lines (line ∷ []) r.clear (c, tt)) (lines_clear w f.2) whole in
    let ran : passes (all ++ k.0) outset ≡ Some (at_stage Ticks w) = ap (λ (ls : List (List ℕ)). passes ls outset) (sym k.1) ∙ dump_passes w f.2 in
    let front = through_front pass all k.0 outset (at_stage Ticks w) ran in
    let here : passes (line ∷ []) s ≡ Some front.0 = sym (through-append pass lines (line ∷ []) outset s r.ran) ∙ front.1 in
    let one = bind_some (pass line s) (passes []) front.0 here in
    no_some one.0 (sym e ∙ one.1)

-- behind the last whole line of a dump's text stands nothing, and it has led to the dump
pub spelled_ends : (bytes rest : List ℕ) (lines : List (List ℕ)) (s : State) (w : Waveforms) → bytes ≡ joined lines ++ rest → Reached lines s → has_lf rest ≡ false → Spells bytes w → (rest ≡ []) × (s ≡ at_stage Ticks w)
spelled_ends bytes rest lines s w is r c f =
    let k = split_lines lines (lines_of w) rest r.clear (lines_clear w f.0) (sym f.1 ∙ is) in
    let none = no_line k.0 rest k.2 c in
    let same : lines ≡ lines_of w = sym (append-nil lines) ∙ ap (λ (ks : List (List ℕ)). lines ++ ks) (sym none.0) ∙ sym k.1 in
    (none.1, some_is (sym r.ran ∙ ap (λ (ls : List (List ℕ)). passes ls outset) same ∙ dump_passes w f.0))

-- lines that have led to a dump are its lines
pub reached_spells : (lines : List (List ℕ)) (w : Waveforms) → Reached lines (at_stage Ticks w) → Spells (joined lines) w
reached_spells lines w r = (r.led.stands, ap joined r.led.are)

dump_reached : (w : Waveforms) → IsDump w → Reached (lines_of w) (at_stage Ticks w)
dump_reached w d = record { clear = lines_clear w d; ran = dump_passes w d; led = record { are = refl; stands = d } }

-- ---- one answer

same_dump : (v w : Waveforms) → at_stage Ticks v ≡ at_stage Ticks w → v ≡ w
same_dump v w e = ap (λ (s : State). s.so_far) e

pub one_spelled : (bytes : List ℕ) (v w : Waveforms) → Spells bytes v → Spells bytes w → v ≡ w
one_spelled bytes v w e f = same_dump v w (spelled_ends bytes [] (lines_of v) (at_stage Ticks v) w (e.1 ∙ sym (append-nil (spelling v))) (dump_reached v e.0) refl f).1

pub one_dump : (v w : Waveforms) → IsDump v → IsDump w → spelling v ≡ spelling w → v ≡ w
one_dump v w d e same = one_spelled (spelling v) v w (d, refl) (e, same)

pub not_both : (bytes : List ℕ) (w : Waveforms) (k : ℕ) → Spells bytes w → IsFirstWrong bytes k → ⊥
not_both bytes w k s f = f.none w s

front_begins : (a b : List ℕ) → BeginsSpelling (a ++ b) → BeginsSpelling a
front_begins a b f = (f.0, b ++ f.1, f.2, f.3 ∙ append_assoc a b f.1)

pub one_first_wrong : (bytes : List ℕ) (j k : ℕ) → IsFirstWrong bytes j → IsFirstWrong bytes k → j ≡ k
one_first_wrong bytes j k u v =
    u.number ∙ ap (λ (n : ℕ). n + 1) (wrong.one_first_wrong BeginsSpelling front_begins u.before v.before u.rest v.rest u.clear v.clear (sym u.split ∙ v.split) u.begins v.begins u.wrong v.wrong) ∙ sym v.number

pub accepts : (bytes : List ℕ) (r : Result Waveforms VcdStop) → Answers bytes r → (w : Waveforms) → Spells bytes w → Accepts r w
accepts bytes (Ok d) a w s = one_spelled bytes d w a s
accepts bytes (Err (NotVcd k)) a w s = not_both bytes w k s a
accepts bytes (Err Memory) a w s = tt

pub blames : (bytes : List ℕ) (r : Result Waveforms VcdStop) → Answers bytes r → (k : ℕ) → IsFirstWrong bytes k → Blames r k
blames bytes (Ok d) a k f = not_both bytes d k a f
blames bytes (Err (NotVcd j)) a k f = one_first_wrong bytes j k a f
blames bytes (Err Memory) a k f = tt
