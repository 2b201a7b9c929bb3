-- The values of a dump at a tick, line by line.
use Rattle.std.proofs.Common.{◌≡◌, ◌≢◌, ◌<◌, ◌+◌, ℕ, List, [], ◌∷◌, ◌++◌, drop, get_or, length, refl, sym, ◌∙◌, ap, add-one, arith}
use Rattle.std.proofs.Math.Seq.{drop-cons}
use Rattle.sci_vcd.specs.declared.signal.Signal.{Signal}
use Rattle.sci_vcd.specs.Waveforms.{Waveforms, no_signal, value_at}
use Rattle.sci_print.specs.Values.{signal_text, texts_from, values_text}

pub next_text : (w : Waveforms) (tick at : ℕ) → at < length w.signals
    → texts_from w tick (at + 1) (drop at w.signals) ≡ signal_text (get_or w.signals at no_signal) (value_at w (at + 1) tick) ++ texts_from w tick (at + 1 + 1) (drop (at + 1) w.signals)
next_text w tick at h =
    ap (texts_from w tick (at + 1)) (drop-cons w.signals at no_signal h)
    ∙ ap (λ (n : ℕ). signal_text (get_or w.signals at no_signal) (value_at w (at + 1) tick) ++ texts_from w tick (at + 1 + 1) (drop n w.signals)) (sym (add-one at))

texts_none : (w : Waveforms) (tick n : ℕ) (gs : List Signal) → length gs ≡ 0 → texts_from w tick n gs ≡ []
texts_none w tick n [] none = refl
texts_none w tick n (g ∷ gs) none = absurd (omega (arith, none))

texts_some : (w : Waveforms) (tick n : ℕ) (gs : List Signal) → length gs ≢ 0 → texts_from w tick n gs ≢ []
unfolding signal_text
texts_some w tick n [] some = absurd (some refl)
texts_some w tick n (g ∷ gs) some = λ e. absurd (cc e)

pub no_values : (w : Waveforms) (tick : ℕ) → length w.signals ≡ 0 → values_text w tick ≡ []
no_values w tick none = texts_none w tick 1 w.signals none

pub some_values : (w : Waveforms) (tick : ℕ) → length w.signals ≢ 0 → values_text w tick ≢ []
some_values w tick some = texts_some w tick 1 w.signals some
