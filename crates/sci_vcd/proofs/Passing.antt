-- The lines of a dump pass, one after another, and lead to the dump.
use Rattle.std.proofs.Common.{◌≡◌, ℕ, ◌+◌, ◌^◌, ◌<◌, ◌≤◌, ℤ, List, [], ◌∷◌, ◌++◌, length, Option, Some, None, Bool, true, false, ⊎_elim, refl, sym, ap, ◌∙◌, subst, arith, append_assoc, append-nil}
use Rattle.std.specs.Prelude.{codes, not, nat_eq, nat_lt, ◌&&◌}
use Rattle.std.proofs.lemmas.Bool.{and_parts, and_from, or_cases, ltb-true, lt-ltb, le-ltb, eqb-true, eqb-false, eq-eqb, cond-true, cond-false}
use Rattle.std.proofs.lemmas.List.{length_push}
use Rattle.sci_base.specs.Fit.{in_range, int_eq}
use Rattle.sci_vcd.specs.declared.signal.Signal.{Signal}
use Rattle.sci_vcd.specs.declared.signal.Change.{Change}
use Rattle.sci_vcd.specs.declared.machine.Stage.TheVariants.{Signals, First, Ticks, Tick}
use Rattle.sci_vcd.specs.Waveforms.{Waveforms, Each, type_of, counts, is_within, rises, Joins, Begins, Follows, IsDump, is_later, outset_of}
use Rattle.sci_vcd.specs.Spelling.{bits, signal_line, value_line, tick_line, signal_lines, value_lines, next_tick, change_lines, opening, signals_part, values_part, head_part, lines_of}
use Rattle.sci_text.specs.Reading.{◌>>=◌}
use Rattle.sci_text.proofs.Splits.{through-append}
use Rattle.sci_vcd.specs.Reading.{decoded, change_at}
use Rattle.sci_vcd.specs.Machine.{State, at_stage, nothing, outset, with_signal, with_first, with_change, fixed, may_join, joining, beginning, value_now, last_change, may_change, changing, change_by, turning, may_tick, ticking, pass, passes}
use Rattle.sci_vcd.proofs.Bits.{decoded_again}
use Rattle.sci_vcd.proofs.Lines.{signal_again, change_again, tick_again}
use Rattle.sci_vcd.proofs.Differing.{differ_from}
use Rattle.sci_vcd.proofs.Eachs.{signals_few, last_push}
use Rattle.sci_vcd.proofs.Clear.{signal_most}
use Rattle.sci_vcd.proofs.Leading.{told_tick, new_tick}

-- ---- signals

signal_passes : (w : Waveforms) (n : ℕ) (g : Signal) → n ≡ length w.signals + 1 → Joins w.signals g → pass (signal_line n g) (at_stage Signals w) ≡ Some (at_stage Signals (with_signal w g))
signal_passes w n g is j =
    let few = j.few in
    let small : n < 2 ^ 32 = omega arith in
    let may : may_join w.signals n g ≡ true = and_from (nat_eq n (length w.signals + 1)) (nat_lt (length w.signals) 65536 && (is_within g && rises w.signals g)) (eq-eqb n (length w.signals + 1) is)
    (and_from (nat_lt (length w.signals) 65536) (is_within g && rises w.signals g) (lt-ltb (length w.signals) 65536 few) (and_from (is_within g) (rises w.signals g) j.within j.behind)) in
    ap (λ (o : Option (ℕ × Signal)). o >>= joining w) (signal_again n g small j.within) ∙ cond-true (may_join w.signals n g) (Some (at_stage Signals (with_signal w g))) None may

signals_pass : (gs : List Signal) (w : Waveforms) (n : ℕ) → n ≡ length w.signals + 1 → Each Joins w.signals gs → passes (signal_lines n gs) (at_stage Signals w) ≡ Some (at_stage Signals (record w { signals = w.signals ++ gs }))
signals_pass [] w n is e = ap (λ (l : List Signal). Some (at_stage Signals (record w { signals = l }))) (sym (append-nil w.signals))
signals_pass (g ∷ gs) w n is e =
    let more = length_push w.signals g in
    ap (λ (q : Option State). q >>= passes (signal_lines (n + 1) gs)) (signal_passes w n g is e.0)
    ∙ signals_pass gs (with_signal w g) (n + 1) (omega arith) e.1
    ∙ ap (λ (l : List Signal). Some (at_stage Signals (record w { signals = l }))) (append_assoc w.signals (g ∷ []) gs)

-- ---- first values

first_passes : (w : Waveforms) (n : ℕ) (v : ℤ) → n ≡ length w.first + 1 → length w.first < length w.signals → n < 2 ^ 32 → Begins w.signals w.first v
    → pass (value_line (type_of w.signals n) n v) (at_stage First w) ≡ Some (at_stage First (with_first w v))
first_passes w n v is less small b =
    let t = type_of w.signals n in
    let fits : in_range t v ≡ true = subst (λ (m : ℕ). in_range (type_of w.signals m) v ≡ true) (sym is) b in
    cond-true (nat_lt (length w.first) (length w.signals)) (change_at (value_line t n v) >>= beginning w) (fixed (codes "$end") (value_line t n v) Ticks w) (lt-ltb (length w.first) (length w.signals) less)
    ∙ ap (λ (o : Option (List ℕ × ℕ)). o >>= beginning w) (change_again t n v small)
    ∙ cond-true (nat_eq n (length w.first + 1)) (decoded t (bits t v) >>= λ u. Some (at_stage First (with_first w u))) None (eq-eqb n (length w.first + 1) is)
    ∙ ap (λ (o : Option ℤ). o >>= λ u. Some (at_stage First (with_first w u))) (decoded_again t v fits)

values_pass : (vs : List ℤ) (w : Waveforms) (n : ℕ) → n ≡ length w.first + 1 → length w.first + length vs ≤ length w.signals → length w.signals ≤ 65536 → Each (Begins w.signals) w.first vs
    → passes (value_lines w.signals n vs) (at_stage First w) ≡ Some (at_stage First (record w { first = w.first ++ vs }))
values_pass [] w n is h few e = ap (λ (l : List ℤ). Some (at_stage First (record w { first = l }))) (sym (append-nil w.first))
values_pass (v ∷ vs) w n is h few e =
    let more = length_push w.first v in
    let less : length w.first < length w.signals = omega arith in
    ap (λ (q : Option State). q >>= passes (value_lines w.signals (n + 1) vs)) (first_passes w n v is less (omega arith) e.0)
    ∙ values_pass vs (with_first w v) (n + 1) (omega arith) (omega arith) few e.1
    ∙ ap (λ (l : List ℤ). Some (at_stage First (record w { first = l }))) (append_assoc w.first (v ∷ []) vs)

end_passes : (w : Waveforms) → length w.first ≡ length w.signals → pass (codes "$end") (at_stage First w) ≡ Some (at_stage Ticks w)
end_passes w e = cond-false (nat_lt (length w.first) (length w.signals)) (change_at (codes "$end") >>= beginning w) (Some (at_stage Ticks w)) (le-ltb (length w.first) (length w.signals) (omega arith))

-- ---- changes

-- a change at this tick
turn_passes : (w : Waveforms) (c : Change) → length w.signals ≤ 65536 → Follows w.signals w.first w.changes c
    → (change_at (value_line (type_of w.signals c.signal) c.signal c.value) >>= turning w c.tick) ≡ Some (at_stage Ticks (with_change w c))
turn_passes w c few f =
    let t = type_of w.signals c.signal in
    let most = (signal_most w.signals w.first w.changes c f).1 in
    let may : may_change w c ≡ true = and_from (is_later (last_change w) c) (not (int_eq c.value (value_now w c.signal))) f.later (differ_from c.value (value_now w c.signal) f.another) in
    ap (λ (o : Option (List ℕ × ℕ)). o >>= turning w c.tick) (change_again t c.signal c.value (omega (arith, most)))
    ∙ cond-true (counts (length w.signals) c.signal) (decoded t (bits t c.value) >>= λ v. changing w (change_by c.tick c.signal v)) None f.known
    ∙ ap (λ (o : Option ℤ). o >>= λ v. changing w (change_by c.tick c.signal v)) (decoded_again t c.value f.fits)
    ∙ cond-true (may_change w c) (Some (at_stage Ticks (with_change w c))) None may

tick_passes : (w : Waveforms) (t : ℕ) → t ≤ 2 ^ 62 → 0 < length w.signals → (last_change w).tick < t → pass (tick_line t) (at_stage Ticks w) ≡ Some (at_stage (Tick t) w)
tick_passes w t early some later =
    ap (λ (o : Option ℕ). o >>= ticking w) (tick_again t early)
    ∙ cond-true (may_tick w t) (Some (at_stage (Tick t) w)) None (and_from (nat_lt 0 (length w.signals)) (nat_lt (last_change w).tick t) (lt-ltb 0 (length w.signals) some) (lt-ltb (last_change w).tick t later))

-- a change is at the last tick or at a later one
tick_later : (w : Waveforms) (c : Change) → Follows w.signals w.first w.changes c → (c.tick ≡ (last_change w).tick → ⊥) → (last_change w).tick < c.tick
tick_later w c f differs =
    ⊎_elim
    (λ e. ltb-true (last_change w).tick c.tick e)
    (λ e. absurd (differs (sym (eqb-true (last_change w).tick c.tick (and_parts (nat_eq (last_change w).tick c.tick) (nat_lt (last_change w).signal c.signal) e).0))))
    (or_cases (nat_lt (last_change w).tick c.tick) (nat_eq (last_change w).tick c.tick && nat_lt (last_change w).signal c.signal) f.later)

-- the lines of one change
change_passes : (w : Waveforms) (c : Change) → length w.signals ≤ 65536 → Follows w.signals w.first w.changes c
    → passes (next_tick (last_change w).tick c.tick ++ (value_line (type_of w.signals c.signal) c.signal c.value ∷ [])) (at_stage Ticks w) ≡ Some (at_stage Ticks (with_change w c))
change_passes w c few f = by_test (nat_eq c.tick (last_change w).tick) refl
  where
    by_test : (b : Bool) → nat_eq c.tick (last_change w).tick ≡ b
        → passes (next_tick (last_change w).tick c.tick ++ (value_line (type_of w.signals c.signal) c.signal c.value ∷ [])) (at_stage Ticks w) ≡ Some (at_stage Ticks (with_change w c))
    by_test true e =
        let same : c.tick ≡ (last_change w).tick = eqb-true c.tick (last_change w).tick e in
        ap (λ (l : List (List ℕ)). passes (l ++ (value_line (type_of w.signals c.signal) c.signal c.value ∷ [])) (at_stage Ticks w)) (told_tick (last_change w).tick c.tick same)
        ∙ ap (λ (t : ℕ). (change_at (value_line (type_of w.signals c.signal) c.signal c.value) >>= turning w t) >>= passes []) (sym same)
        ∙ ap (λ (q : Option State). q >>= passes []) (turn_passes w c few f)
    by_test false e =
        let differs = eqb-false c.tick (last_change w).tick e in
        let most = signal_most w.signals w.first w.changes c f in
        let least = most.0 in
        let greatest = most.1 in
        ap (λ (l : List (List ℕ)). passes (l ++ (value_line (type_of w.signals c.signal) c.signal c.value ∷ [])) (at_stage Ticks w)) (new_tick (last_change w).tick c.tick differs)
        ∙ ap (λ (q : Option State). q >>= passes (value_line (type_of w.signals c.signal) c.signal c.value ∷ [])) (tick_passes w c.tick f.early (omega arith) (tick_later w c f differs))
        ∙ ap (λ (q : Option State). q >>= passes []) (turn_passes w c few f)

changes_pass : (cs : List Change) (w : Waveforms) → length w.signals ≤ 65536 → Each (Follows w.signals w.first) w.changes cs
    → passes (change_lines w.signals (last_change w).tick cs) (at_stage Ticks w) ≡ Some (at_stage Ticks (record w { changes = w.changes ++ cs }))
changes_pass [] w few e = ap (λ (l : List Change). Some (at_stage Ticks (record w { changes = l }))) (sym (append-nil w.changes))
changes_pass (c ∷ cs) w few e =
    let v = with_change w c in
    let told = (last_change w).tick in
    let line = value_line (type_of w.signals c.signal) c.signal c.value in
    let last : (last_change v).tick ≡ c.tick = ap (λ (d : Change). d.tick) (last_push (outset_of (length w.signals)) w.changes c) in
    ap (λ (l : List (List ℕ)). passes l (at_stage Ticks w)) (sym (append_assoc (next_tick told c.tick) (line ∷ []) (change_lines w.signals c.tick cs)))
    ∙ through-append pass (next_tick told c.tick ++ (line ∷ [])) (change_lines w.signals c.tick cs) (at_stage Ticks w) (at_stage Ticks v) (change_passes w c few e.0)
    ∙ ap (λ (t : ℕ). passes (change_lines w.signals t cs) (at_stage Ticks v)) (sym last)
    ∙ changes_pass cs v few e.1
    ∙ ap (λ (l : List Change). Some (at_stage Ticks (record w { changes = l }))) (append_assoc w.changes (c ∷ []) cs)

-- ---- whole dumps

first_lines_pass : passes (codes "$timescale 1 ns $end" ∷ codes "$scope module scicos $end" ∷ []) outset ≡ Some (at_stage Signals nothing)
first_lines_pass = refl

opening_passes : (w : Waveforms) → passes opening (at_stage Signals w) ≡ Some (at_stage First w)
opening_passes w = refl

head_passes : (w : Waveforms) → IsDump w → passes (head_part w.signals w.first) outset ≡ Some (at_stage Ticks (record w { changes = [] }))
head_passes w d =
    let gs = w.signals in
    let a : Waveforms = record { signals = gs; first = []; changes = [] } in
    let b : Waveforms = record { signals = gs; first = w.first; changes = [] } in
    let few = signals_few gs d.signals in
    let each = d.one_each in
    let first : passes (signals_part gs) outset ≡ Some (at_stage Signals a) =
    through-append pass (codes "$timescale 1 ns $end" ∷ codes "$scope module scicos $end" ∷ []) (signal_lines 1 gs) outset (at_stage Signals nothing) first_lines_pass ∙ signals_pass gs nothing 1 refl d.signals in
    let second : passes (values_part gs w.first) outset ≡ Some (at_stage First b) =
    through-append pass (signals_part gs) (opening ++ value_lines gs 1 w.first) outset (at_stage Signals a) first
    ∙ through-append pass opening (value_lines gs 1 w.first) (at_stage Signals a) (at_stage First a) (opening_passes a)
    ∙ values_pass w.first a 1 refl (omega arith) few d.first in
    through-append pass (values_part gs w.first) (codes "$end" ∷ []) outset (at_stage First b) second ∙ ap (λ (q : Option State). q >>= passes []) (end_passes b d.one_each)

pub dump_passes : (w : Waveforms) → IsDump w → passes (lines_of w) outset ≡ Some (at_stage Ticks w)
dump_passes w d =
    let a : Waveforms = record w { changes = [] } in
    through-append pass (head_part w.signals w.first) (change_lines w.signals 0 w.changes) outset (at_stage Ticks a) (head_passes w d)
    ∙ changes_pass w.changes a (signals_few w.signals d.signals) d.changes
