-- Whatever lines have passed, they are the beginning of some dump's lines.
use Rattle.std.proofs.Common.{◌≡◌, ℕ, zero, suc, ◌+◌, ◌-◌, ℤ, pos, List, [], ◌∷◌, ◌++◌, length, Bool, true, false, refl, sym, ap, ◌∙◌, subst, arith, append_assoc, append-nil}
use Rattle.std.specs.Prelude.{codes, nat_eq, nat_lt, nat_le, ◌&&◌, if◌then◌else◌}
use Rattle.std.proofs.lemmas.Bool.{and_from, lt-ltb, le-leb, or_left, cond-true, cond-false}
use Rattle.std.proofs.lemmas.List.{length_push}
use Rattle.sci_base.specs.declared.Ty.{Ty}
use Rattle.sci_base.specs.declared.Ty.TheVariants.{I32, I16, I8, U32, U16, U8}
use Rattle.sci_base.specs.Fit.{in_range, int_eq}
use Rattle.sci_vcd.specs.declared.machine.Stage.{Stage}
use Rattle.sci_vcd.specs.declared.machine.Stage.TheVariants.{Timescale, Scope, Signals, Definitions, Origin, Dumpvars, First, Ticks, Tick}
use Rattle.sci_vcd.specs.Waveforms.{Waveforms, type_of, Begins, Follows, IsDump}
use Rattle.sci_text.specs.Lines.{joined}
use Rattle.sci_text.proofs.Splits.{joined-append}
use Rattle.sci_vcd.specs.Spelling.{value_line, tick_line, value_lines, opening, signals_part, values_part, lines_of}
use Rattle.sci_vcd.specs.Blame.{BeginsSpelling}
use Rattle.sci_vcd.specs.Machine.{State, nothing, with_first, with_change, value_now, last_change, change_by, HasSignals, HasValues, HasTick, Stands}
use Rattle.sci_vcd.proofs.Eachs.{each_push, value_lines-push}
use Rattle.sci_vcd.proofs.Leading.{lines_at, unchanged_lines, values_dump, changed_dump, changed_lines, new_tick, Led}

-- Some dump's lines begin with these.
record Completed (lines : List (List ℕ)) : Type 0 where
  whole : Waveforms
  more : List (List ℕ)
  dump : IsDump whole
  split : lines_of whole ≡ lines ++ more

zero_fits : (t : Ty) → in_range t (pos 0) ≡ true
zero_fits I32 = refl
zero_fits I16 = refl
zero_fits I8 = refl
zero_fits U32 = refl
zero_fits U16 = refl
zero_fits U8 = refl

one_fits : (t : Ty) → in_range t (pos 1) ≡ true
one_fits I32 = refl
one_fits I16 = refl
one_fits I8 = refl
one_fits U32 = refl
one_fits U16 = refl
one_fits U8 = refl

-- the first values that are missing may be 0, and no signal changes
filled : (k : ℕ) (w : Waveforms) → HasValues w → length w.first + k ≡ length w.signals → Completed (values_part w.signals w.first)
filled zero w h e = record { whole = w; more = codes "$end" ∷ []; dump = values_dump w h (omega arith); split = unchanged_lines w h.unchanged }
filled (suc k) w h e =
    let v = with_first w (pos 0) in
    let longer = length_push w.first (pos 0) in
    let fits : Begins w.signals w.first (pos 0) = zero_fits (type_of w.signals (length w.first + 1)) in
    let has : HasValues v = record { signals = h.signals; first = each_push (Begins w.signals) [] w.first (pos 0) h.first fits; few = omega arith; unchanged = h.unchanged } in
    let i = filled k v has (omega arith) in
    let line = value_line (type_of w.signals (1 + length w.first)) (1 + length w.first) (pos 0) in
    record {
      whole = i.whole;
      more = line ∷ i.more;
      dump = i.dump;
      split = i.split ∙ ap (λ (l : List (List ℕ)). (signals_part w.signals ++ (opening ++ l)) ++ i.more) (value_lines-push w.signals 1 w.first (pos 0))
          ∙ regroup (signals_part w.signals) opening (value_lines w.signals 1 w.first) line i.more;
    }
  where
    regroup : (a b c : List (List ℕ)) (d : List ℕ) (m : List (List ℕ)) → (a ++ (b ++ (c ++ d ∷ []))) ++ m ≡ (a ++ (b ++ c)) ++ (d ∷ m)
    regroup a b c d m = simp append_assoc

values_complete : (w : Waveforms) → HasValues w → Completed (values_part w.signals w.first)
values_complete w h = let few = h.few in filled (length w.signals - length w.first) w h (omega arith)

-- the signals, and a part of what opens the first values
opened : (w : Waveforms) (a b : List (List ℕ)) → opening ≡ a ++ b → HasSignals w → Completed (signals_part w.signals ++ a)
opened w a b is h =
    let none = ap (λ (vs : List ℤ). length vs) h.none in
    let v : Waveforms = record { signals = w.signals; first = []; changes = [] } in
    let i = values_complete v (record { signals = h.signals; first = tt; few = omega arith; unchanged = refl }) in
    record {
      whole = i.whole;
      more = b ++ i.more;
      dump = i.dump;
      split = i.split ∙ ap (λ (l : List (List ℕ)). (signals_part w.signals ++ l) ++ i.more) is ∙ regroup (signals_part w.signals) a b i.more;
    }
  where
    regroup : (s a b m : List (List ℕ)) → (s ++ (a ++ b)) ++ m ≡ (s ++ a) ++ (b ++ m)
    regroup s a b m = simp append_assoc

no_signals : HasSignals nothing
no_signals = record { signals = tt; none = refl; unchanged = refl }

-- the signals alone
closed : (lines : List (List ℕ)) → Completed (lines ++ []) → Completed lines
closed lines c = subst Completed (append-nil lines) c

-- less than the first two lines
at_begin : (a b : List (List ℕ)) → signals_part [] ≡ a ++ b → Completed a
at_begin a b is =
    let i = closed (signals_part []) (opened nothing [] opening refl no_signals) in
    record { whole = i.whole; more = b ++ i.more; dump = i.dump; split = i.split ∙ ap (λ (l : List (List ℕ)). l ++ i.more) is ∙ append_assoc a b i.more }

-- a value other than this one
abbrev other : ℤ → ℤ
other v = if int_eq v (pos 0) then pos 1 else pos 0

other_fits : (t : Ty) (v : ℤ) → in_range t (other v) ≡ true
other_fits t v = by_test (int_eq v (pos 0))
  where
    by_test : (b : Bool) → in_range t (if b then pos 1 else pos 0) ≡ true
    by_test true = one_fits t
    by_test false = zero_fits t

other_differs : (v : ℤ) → other v ≡ v → ⊥
other_differs v e = by_test (int_eq v (pos 0)) refl
  where
    by_test : (b : Bool) → int_eq v (pos 0) ≡ b → ⊥
    by_test true f = no_zero (sym e ∙ cond-true (int_eq v (pos 0)) (pos 1) (pos 0) f) f
      where
        no_zero : v ≡ pos 1 → int_eq v (pos 0) ≡ true → ⊥
        no_zero is g = let h : int_eq (pos 1) (pos 0) ≡ true = subst (λ (z : ℤ). int_eq z (pos 0) ≡ true) is g in cc
    by_test false f = no_other (sym e ∙ cond-false (int_eq v (pos 0)) (pos 1) (pos 0) f) f
      where
        no_other : v ≡ pos 0 → int_eq v (pos 0) ≡ false → ⊥
        no_other is g = let h : int_eq (pos 0) (pos 0) ≡ false = subst (λ (z : ℤ). int_eq z (pos 0) ≡ false) is g in cc

-- at a tick that was begun the first signal may change
tick_complete : (w : Waveforms) (t : ℕ) → HasTick w t → Completed (lines_at (Tick t) w)
tick_complete w t h =
    let some = h.some in
    let later = h.later in
    let v = other (value_now w 1) in
    let c = change_by t 1 v in
    let line = value_line (type_of w.signals 1) 1 v in
    let follows : Follows w.signals w.first w.changes c = record {
      known = and_from (nat_le 1 1) (nat_le 1 (length w.signals)) refl (le-leb 1 (length w.signals) (omega arith));
      early = h.early;
      later = or_left (nat_lt (last_change w).tick t) (nat_eq (last_change w).tick t && nat_lt (last_change w).signal 1) (lt-ltb (last_change w).tick t later);
      fits = other_fits (type_of w.signals 1) (value_now w 1);
      another = other_differs (value_now w 1);
    } in
    record {
      whole = with_change w c;
      more = line ∷ [];
      dump = changed_dump w c h.dump follows;
      split = changed_lines w c ∙ ap (λ (l : List (List ℕ)). lines_of w ++ (l ++ line ∷ [])) (new_tick (last_change w).tick t (λ e. omega arith)) ∙ sym (append_assoc (lines_of w) (tick_line t ∷ []) (line ∷ []));
    }

complete : (s : Stage) (w : Waveforms) → Stands s w → Completed (lines_at s w)
complete Timescale w h = at_begin [] (signals_part []) refl
complete Scope w h = at_begin (codes "$timescale 1 ns $end" ∷ []) (codes "$scope module scicos $end" ∷ []) refl
complete Signals w h = closed (signals_part w.signals) (opened w [] opening refl h)
complete Definitions w h = opened w (codes "$upscope $end" ∷ []) (codes "$enddefinitions $end" ∷ codes "#0" ∷ codes "$dumpvars" ∷ []) refl h
complete Origin w h = opened w (codes "$upscope $end" ∷ codes "$enddefinitions $end" ∷ []) (codes "#0" ∷ codes "$dumpvars" ∷ []) refl h
complete Dumpvars w h = opened w (codes "$upscope $end" ∷ codes "$enddefinitions $end" ∷ codes "#0" ∷ []) (codes "$dumpvars" ∷ []) refl h
complete First w h = values_complete w h
complete Ticks w h = record { whole = w; more = []; dump = h; split = sym (append-nil (lines_of w)) }
complete (Tick t) w h = tick_complete w t h

pub led_begins : (lines : List (List ℕ)) (s : State) → Led lines s → BeginsSpelling (joined lines)
led_begins lines s l =
    let c = complete s.stage s.so_far l.stands in
    let split : lines_of c.whole ≡ lines ++ c.more = c.split ∙ ap (λ (ls : List (List ℕ)). ls ++ c.more) (sym l.are) in
    (c.whole, joined c.more, c.dump, ap joined split ∙ joined-append lines c.more)
