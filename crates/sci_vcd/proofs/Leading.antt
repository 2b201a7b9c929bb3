-- What the lines so far are, and what holds behind a line that passes.
use Rattle.std.proofs.Common.{◌≡◌, ℕ, ◌+◌, ◌^◌, ◌<◌, ◌≤◌, ℤ, List, [], ◌∷◌, ◌++◌, length, Option, Some, true, ⊎_elim, refl, sym, ap, ◌∙◌, subst, arith, append_assoc, append-nil}
use Rattle.std.specs.Prelude.{codes, not, nat_eq, nat_lt, ◌&&◌}
use Rattle.std.proofs.lemmas.Bool.{and_parts, ltb-true, ltb-false, eqb-true, eq-eqb, ne_eqb, cond-true, cond-false}
use Rattle.std.proofs.lemmas.List.{length_push}
use Rattle.sci_base.specs.Fit.{in_range, int_eq}
use Rattle.sci_vcd.specs.declared.signal.Signal.{Signal}
use Rattle.sci_vcd.specs.declared.signal.Change.{Change}
use Rattle.sci_vcd.specs.declared.machine.Stage.{Stage}
use Rattle.sci_vcd.specs.declared.machine.Stage.TheVariants.{Timescale, Scope, Signals, Definitions, Origin, Dumpvars, First, Ticks, Tick}
use Rattle.sci_vcd.specs.Waveforms.{Waveforms, type_of, counts, is_within, rises, Joins, Begins, AreValues, Follows, AreChanges, IsDump, is_later, outset_of}
use Rattle.sci_vcd.specs.Spelling.{signal_line, value_line, tick_line, signal_lines, value_lines, next_tick, change_lines, opening, signals_part, values_part, head_part, lines_of}
use Rattle.sci_text.specs.Reading.{◌>>=◌, after, ended}
use Rattle.sci_text.proofs.Parts.{bind_some, else_cases, chosen, guarded, some_is, after_takes, ended_takes}
use Rattle.sci_vcd.specs.Reading.{decoded, signal_at, change_at, tick_at}
use Rattle.sci_vcd.specs.Machine.{State, at_stage, nothing, with_signal, with_first, with_change, fixed, may_join, joining, beginning, value_now, last_change, may_change, changing, change_by, turning, may_tick, ticking, pass_at, pass, HasSignals, HasValues, HasTick, Stands}
use Rattle.sci_vcd.proofs.Bits.{decoded_takes}
use Rattle.sci_vcd.proofs.Lines.{digits_line, signal_takes, change_takes, tick_takes}
use Rattle.sci_vcd.proofs.Differing.{differ_by}
use Rattle.sci_vcd.proofs.Eachs.{each_push, last_early, signal_lines-push, value_lines-push, change_lines-push}

-- the lines that lead to a stage
abbrev pub lines_at : Stage → Waveforms → List (List ℕ)
lines_at Timescale w = []
lines_at Scope w = codes "$timescale 1 ns $end" ∷ []
lines_at Signals w = signals_part w.signals
lines_at Definitions w = signals_part w.signals ++ (codes "$upscope $end" ∷ [])
lines_at Origin w = signals_part w.signals ++ (codes "$upscope $end" ∷ codes "$enddefinitions $end" ∷ [])
lines_at Dumpvars w = signals_part w.signals ++ (codes "$upscope $end" ∷ codes "$enddefinitions $end" ∷ codes "#0" ∷ [])
lines_at First w = values_part w.signals w.first
lines_at Ticks w = lines_of w
lines_at (Tick t) w = lines_of w ++ tick_line t ∷ []

-- One line more has led from this stage to the state.
pub record Moves (s : Stage) (w : Waveforms) (line : List ℕ) (u : State) : Type 0 where
  pub lines : lines_at u.stage u.so_far ≡ lines_at s w ++ line ∷ []
  pub stands : Stands u.stage u.so_far

fixed_moves : (s next : Stage) (w : Waveforms) (text line : List ℕ) (u : State) → fixed text line next w ≡ Some u → lines_at next w ≡ lines_at s w ++ text ∷ [] → Stands next w → Moves s w line u
fixed_moves s next w text line u e lines stands =
    let a = bind_some (after text line) (ended (at_stage next w)) u e in
    let d = ended_takes (at_stage next w) a.0 u a.2 in
    let is : line ≡ text = after_takes text line a.0 a.1 ∙ ap (λ (q : List ℕ). text ++ q) d.0 ∙ append-nil text in
    subst (Moves s w line) d.1 (record { lines = lines ∙ ap (λ (q : List ℕ). lines_at s w ++ q ∷ []) (sym is); stands = stands })

-- ---- signals

signal_moves : (w : Waveforms) (line : List ℕ) (x : ℕ × Signal) (u : State) → HasSignals w → signal_at line ≡ Some x → joining w x ≡ Some u → Moves Signals w line u
signal_moves w line x u h e f =
    let g = guarded (may_join w.signals x.0 x.1) (Some (at_stage Signals (with_signal w x.1))) u f in
    let a = and_parts (nat_eq x.0 (length w.signals + 1)) (nat_lt (length w.signals) 65536 && (is_within x.1 && rises w.signals x.1)) g.0 in
    let b = and_parts (nat_lt (length w.signals) 65536) (is_within x.1 && rises w.signals x.1) a.1 in
    let c = and_parts (is_within x.1) (rises w.signals x.1) b.1 in
    let n : x.0 ≡ 1 + length w.signals = let k = eqb-true x.0 (length w.signals + 1) a.0 in omega arith in
    let joins : Joins w.signals x.1 = record { few = ltb-true (length w.signals) 65536 b.0; within = c.0; behind = c.1 } in
    let is : line ≡ signal_line (1 + length w.signals) x.1 = signal_takes line x e ∙ ap (λ (k : ℕ). signal_line k x.1) n in
    subst (Moves Signals w line) (some_is g.1) (record {
      lines = ap (λ (l : List (List ℕ)). codes "$timescale 1 ns $end" ∷ codes "$scope module scicos $end" ∷ l) (signal_lines-push 1 w.signals x.1 ∙ ap (λ (l : List ℕ). signal_lines 1 w.signals ++ l ∷ []) (sym is));
      stands = record { signals = each_push Joins [] w.signals x.1 h.signals joins; none = h.none; unchanged = h.unchanged };
    })

signals_move : (w : Waveforms) (line : List ℕ) (u : State) → HasSignals w → pass_at Signals w line ≡ Some u → Moves Signals w line u
signals_move w line u h e =
    ⊎_elim
    (λ r. fixed_moves Signals Definitions w (codes "$upscope $end") line u (ap (λ (o : Option (List ℕ)). o >>= ended (at_stage Definitions w)) r.1 ∙ r.2) refl h)
    (λ r. let x = bind_some (signal_at line) (joining w) u r.1 in signal_moves w line x.0 u h x.1 x.2)
    (else_cases (after (codes "$upscope $end") line) (ended (at_stage Definitions w)) (signal_at line >>= joining w) (Some u) e)

-- ---- first values

first_moves : (w : Waveforms) (line : List ℕ) (x : List ℕ × ℕ) (u : State) → HasValues w → length w.first < length w.signals → change_at line ≡ Some x → beginning w x ≡ Some u → Moves First w line u
first_moves w line x u h less e f =
    let g = guarded (nat_eq x.1 (length w.first + 1)) (decoded (type_of w.signals x.1) x.0 >>= λ v. Some (at_stage First (with_first w v))) u f in
    let b = bind_some (decoded (type_of w.signals x.1) x.0) (λ v. Some (at_stage First (with_first w v))) u g.1 in
    let d = decoded_takes (type_of w.signals x.1) x.0 b.0 b.1 in
    let k : x.1 ≡ length w.first + 1 = eqb-true x.1 (length w.first + 1) g.0 in
    let n : x.1 ≡ 1 + length w.first = omega arith in
    let is : line ≡ value_line (type_of w.signals (1 + length w.first)) (1 + length w.first) b.0 =
    change_takes line x e ∙ ap (λ (ds : List ℕ). digits_line ds x.1) d.0 ∙ ap (λ (m : ℕ). value_line (type_of w.signals m) m b.0) n in
    let fits : Begins w.signals w.first b.0 = subst (λ (m : ℕ). in_range (type_of w.signals m) b.0 ≡ true) k d.1 in
    let more = length_push w.first b.0 in
    let values = value_lines w.signals 1 w.first in
    subst (Moves First w line) (some_is b.2) (record {
      lines = ap (λ (l : List (List ℕ)). signals_part w.signals ++ (opening ++ l)) (value_lines-push w.signals 1 w.first b.0 ∙ ap (λ (l : List ℕ). values ++ l ∷ []) (sym is)) ∙ regroup (signals_part w.signals) opening values (line ∷ []);
      stands = record { signals = h.signals; first = each_push (Begins w.signals) [] w.first b.0 h.first fits; few = omega arith; unchanged = h.unchanged };
    })
  where
    regroup : (a b c d : List (List ℕ)) → a ++ (b ++ (c ++ d)) ≡ (a ++ (b ++ c)) ++ d
    regroup a b c d = simp append_assoc

-- what stands behind the first values, where there are no changes
pub unchanged_lines : (w : Waveforms) → w.changes ≡ [] → lines_of w ≡ values_part w.signals w.first ++ codes "$end" ∷ []
unchanged_lines w e = ap (λ (cs : List Change). head_part w.signals w.first ++ change_lines w.signals 0 cs) e ∙ append-nil (head_part w.signals w.first)

pub values_dump : (w : Waveforms) → HasValues w → length w.first ≡ length w.signals → IsDump w
values_dump w h all = record { signals = h.signals; first = h.first; one_each = all; changes = subst (AreChanges w.signals w.first) (sym h.unchanged) tt }

values_move : (w : Waveforms) (line : List ℕ) (u : State) → HasValues w → pass_at First w line ≡ Some u → Moves First w line u
values_move w line u h e =
    ⊎_elim
    (λ r. let x = bind_some (change_at line) (beginning w) u r.1 in first_moves w line x.0 u h (ltb-true (length w.first) (length w.signals) r.0) x.1 x.2)
    (λ r.
    let few = h.few in
    let over = ltb-false (length w.first) (length w.signals) r.0 in
    fixed_moves First Ticks w (codes "$end") line u r.1 (unchanged_lines w h.unchanged) (values_dump w h (omega arith)))
    (chosen (nat_lt (length w.first) (length w.signals)) (change_at line >>= beginning w) (fixed (codes "$end") line Ticks w) (Some u) e)

-- ---- changes

-- A line has told a change at tick t.
record Turned (w : Waveforms) (t : ℕ) (line : List ℕ) (u : State) : Type 0 where
  change : Change
  tick : change.tick ≡ t
  follows : Follows w.signals w.first w.changes change
  line_is : line ≡ value_line (type_of w.signals change.signal) change.signal change.value
  state : at_stage Ticks (with_change w change) ≡ u

turned : (w : Waveforms) (t : ℕ) (line : List ℕ) (u : State) → t ≤ 2 ^ 62 → (change_at line >>= turning w t) ≡ Some u → Turned w t line u
turned w t line u early e =
    let x = bind_some (change_at line) (turning w t) u e in
    let k = guarded (counts (length w.signals) x.0.1) (decoded (type_of w.signals x.0.1) x.0.0 >>= λ v. changing w (change_by t x.0.1 v)) u x.2 in
    let b = bind_some (decoded (type_of w.signals x.0.1) x.0.0) (λ v. changing w (change_by t x.0.1 v)) u k.1 in
    let d = decoded_takes (type_of w.signals x.0.1) x.0.0 b.0 b.1 in
    let c = change_by t x.0.1 b.0 in
    let g = guarded (may_change w c) (Some (at_stage Ticks (with_change w c))) u b.2 in
    let p = and_parts (is_later (last_change w) c) (not (int_eq c.value (value_now w c.signal))) g.0 in
    record {
      change = c;
      tick = refl;
      follows = record { known = k.0; early = early; later = p.0; fits = d.1; another = differ_by c.value (value_now w c.signal) p.1 };
      line_is = change_takes line x.0 x.1 ∙ ap (λ (ds : List ℕ). digits_line ds x.0.1) d.0;
      state = some_is g.1;
    }

pub changed_dump : (w : Waveforms) (c : Change) → IsDump w → Follows w.signals w.first w.changes c → IsDump (with_change w c)
changed_dump w c d f = record { signals = d.signals; first = d.first; one_each = d.one_each; changes = each_push (Follows w.signals w.first) [] w.changes c d.changes f }

pub changed_lines : (w : Waveforms) (c : Change) → lines_of (with_change w c) ≡ lines_of w ++ (next_tick (last_change w).tick c.tick ++ (value_line (type_of w.signals c.signal) c.signal c.value ∷ []))
changed_lines w c =
    let more = next_tick (last_change w).tick c.tick ++ (value_line (type_of w.signals c.signal) c.signal c.value ∷ []) in
    ap (λ (l : List (List ℕ)). head_part w.signals w.first ++ l) (change_lines-push w.signals (outset_of (length w.signals)) w.changes c)
    ∙ sym (append_assoc (head_part w.signals w.first) (change_lines w.signals 0 w.changes) more)

-- at a tick that is told already, and at one that isn't
pub told_tick : (told t : ℕ) → t ≡ told → next_tick told t ≡ []
told_tick told t e = cond-true (nat_eq t told) [] (tick_line t ∷ []) (eq-eqb t told e)

pub new_tick : (told t : ℕ) → (t ≡ told → ⊥) → next_tick told t ≡ tick_line t ∷ []
new_tick told t e = cond-false (nat_eq t told) [] (tick_line t ∷ []) (ne_eqb t told e)

further_moves : (w : Waveforms) (line : List ℕ) (u : State) → IsDump w → Turned w (last_change w).tick line u → Moves Ticks w line u
further_moves w line u d t =
    let c = t.change in
    let same = told_tick (last_change w).tick c.tick t.tick in
    subst (Moves Ticks w line) t.state (record {
      lines = changed_lines w c ∙ ap (λ (l : List (List ℕ)). lines_of w ++ (l ++ (value_line (type_of w.signals c.signal) c.signal c.value ∷ []))) same ∙ ap (λ (l : List ℕ). lines_of w ++ l ∷ []) (sym t.line_is);
      stands = changed_dump w c d t.follows;
    })

begun_moves : (w : Waveforms) (t : ℕ) (line : List ℕ) (u : State) → HasTick w t → Turned w t line u → Moves (Tick t) w line u
begun_moves w t line u h r =
    let c = r.change in
    let at = r.tick in
    let later = h.later in
    let fresh = new_tick (last_change w).tick c.tick (λ e. omega arith) ∙ ap (λ (k : ℕ). tick_line k ∷ []) at in
    subst (Moves (Tick t) w line) r.state (record {
      lines = changed_lines w c ∙ ap (λ (l : List (List ℕ)). lines_of w ++ (l ++ (value_line (type_of w.signals c.signal) c.signal c.value ∷ []))) fresh
          ∙ ap (λ (l : List ℕ). lines_of w ++ (tick_line t ∷ l ∷ [])) (sym r.line_is) ∙ sym (append_assoc (lines_of w) (tick_line t ∷ []) (line ∷ []));
      stands = changed_dump w c h.dump r.follows;
    })

pub last_tick_early : (w : Waveforms) → IsDump w → (last_change w).tick ≤ 2 ^ 62
last_tick_early w d = last_early w.signals w.first [] w.changes (outset_of (length w.signals)) d.changes (omega arith)

tick_moves : (w : Waveforms) (rest line : List ℕ) (u : State) → IsDump w → line ≡ codes "#" ++ rest → (tick_at rest >>= ticking w) ≡ Some u → Moves Ticks w line u
tick_moves w rest line u d is e =
    let x = bind_some (tick_at rest) (ticking w) u e in
    let t = tick_takes rest x.0 x.1 in
    let g = guarded (may_tick w x.0) (Some (at_stage (Tick x.0) w)) u x.2 in
    let p = and_parts (nat_lt 0 (length w.signals)) (nat_lt (last_change w).tick x.0) g.0 in
    let line_is : line ≡ tick_line x.0 = is ∙ ap (λ (q : List ℕ). codes "#" ++ q) t.0 in
    subst (Moves Ticks w line) (some_is g.1) (record {
      lines = ap (λ (q : List ℕ). lines_of w ++ q ∷ []) (sym line_is);
      stands = record { dump = d; some = ltb-true 0 (length w.signals) p.0; later = ltb-true (last_change w).tick x.0 p.1; early = t.1 };
    })

ticks_move : (w : Waveforms) (line : List ℕ) (u : State) → IsDump w → pass_at Ticks w line ≡ Some u → Moves Ticks w line u
ticks_move w line u d e =
    ⊎_elim
    (λ r. tick_moves w r.0 line u d (after_takes (codes "#") line r.0 r.1) r.2)
    (λ r. further_moves w line u d (turned w (last_change w).tick line u (last_tick_early w d) r.1))
    (else_cases (after (codes "#") line) (λ rest. tick_at rest >>= ticking w) (change_at line >>= turning w (last_change w).tick) (Some u) e)

-- ---- any line

no_signals : HasSignals nothing
no_signals = record { signals = tt; none = refl; unchanged = refl }

values_open : (w : Waveforms) → HasSignals w → HasValues w
values_open w h =
    let none = ap (λ (vs : List ℤ). length vs) h.none in
    record { signals = h.signals; first = subst (AreValues w.signals) (sym h.none) tt; few = omega arith; unchanged = h.unchanged }

first_lines : (w : Waveforms) → w.first ≡ [] → values_part w.signals w.first ≡ lines_at Dumpvars w ++ codes "$dumpvars" ∷ []
first_lines w e =
    ap (λ (vs : List ℤ). signals_part w.signals ++ (opening ++ value_lines w.signals 1 vs)) e
    ∙ sym (append_assoc (signals_part w.signals) (codes "$upscope $end" ∷ codes "$enddefinitions $end" ∷ codes "#0" ∷ []) (codes "$dumpvars" ∷ []))

moved : (s : Stage) (w : Waveforms) (line : List ℕ) (u : State) → Stands s w → pass_at s w line ≡ Some u → Moves s w line u
moved Timescale w line u h e = fixed_moves Timescale Scope w (codes "$timescale 1 ns $end") line u e refl h
moved Scope w line u h e =
    fixed_moves Scope Signals w (codes "$scope module scicos $end") line u e (ap (λ (q : Waveforms). signals_part q.signals) h) (subst HasSignals (sym h) no_signals)
moved Signals w line u h e = signals_move w line u h e
moved Definitions w line u h e =
    fixed_moves Definitions Origin w (codes "$enddefinitions $end") line u e (sym (append_assoc (signals_part w.signals) (codes "$upscope $end" ∷ []) (codes "$enddefinitions $end" ∷ []))) h
moved Origin w line u h e =
    fixed_moves Origin Dumpvars w (codes "#0") line u e (sym (append_assoc (signals_part w.signals) (codes "$upscope $end" ∷ codes "$enddefinitions $end" ∷ []) (codes "#0" ∷ []))) h
moved Dumpvars w line u h e = fixed_moves Dumpvars First w (codes "$dumpvars") line u e (first_lines w h.none) (values_open w h)
moved First w line u h e = values_move w line u h e
moved Ticks w line u h e = ticks_move w line u h e
moved (Tick t) w line u h e = begun_moves w t line u h (turned w t line u h.early e)

-- These lines have led to the state.
pub record Led (lines : List (List ℕ)) (s : State) : Type 0 where
  pub are : lines ≡ lines_at s.stage s.so_far
  pub stands : Stands s.stage s.so_far

pub led_more : (lines : List (List ℕ)) (line : List ℕ) (s u : State) → Led lines s → pass line s ≡ Some u → Led (lines ++ line ∷ []) u
led_more lines line s u l e =
    let m = moved s.stage s.so_far line u l.stands e in
    record { are = ap (λ (ls : List (List ℕ)). ls ++ line ∷ []) l.are ∙ sym m.lines; stands = m.stands }
