use Rattle.std.proofs.Common.{◌≡◌, ℕ, ◌+◌, ◌/◌, List, pos, length, false, refl, subst, sym, ap, ◌∙◌, rules, arith}
use Rattle.std.specs.Prelude.{replicate}
use Rattle.sci_vcd.specs.declared.signal.Signal.{Signal}
use Rattle.sci_vcd.specs.Waveforms.{AreSignals}
use Rattle.sci_vcd.proofs.OfNet.{net_signals}
use Rattle.sci_vcd.specs.Signals.{signals_of}
use Rattle.sci_vcd.proofs.Kept.{kept_outset}
use Rattle.sci_vcd.proofs.Outset.{is_unwritten}
use Rattle.sci_vcd.proofs.writer.VcdOut.new.Goals as goal

pub invariant_of-result : goal.invariant_of-result
invariant_of-result c =
    let written = c.in_ok-vec.ensures.items_if_clones_equal (search rules) in
    let noted = c.in_ok-vec-2.ensures.items_if_clones_equal (search rules) in
    let marked = c.in_ok-vec-3.ensures.items_if_clones_equal (search rules) in
    let found : c.len-count.result ≡ length c.in_ok-found.found.signals.items = omega (arith, c.len-count.ensures, c.in_ok-found.found.signals.ok.0) in
    let is : c.in_ok-signals.signals ≡ signals_of c.args.net.now = c.in_ok-signals.ensures ∙ c.in_ok-found.ensures.signals in
    let count : c.len-count.result ≡ length c.in_ok-signals.signals = found ∙ ap (λ (gs : List Signal). length gs) (sym c.in_ok-signals.ensures) in
    let signals : AreSignals c.in_ok-signals.signals = subst (λ (gs : List Signal). AreSignals gs) (sym is) (net_signals c.args.net.now c.well_formed-2.ensures).0 in
    let long = c.in_ok-found.ensures.starts.long in
    let most = c.well_formed-2.ensures.wired.few in
    kept_outset _ _ signals (omega (arith, long)) (omega (arith, long, most)) (written ∙ ap (λ (n : ℕ). replicate n (pos 0)) count) (noted ∙ ap (λ (n : ℕ). replicate n (pos 0)) count) (marked ∙ ap (λ (n : ℕ). replicate (n / 32 + 1) false) count)

pub returns-clause-first : goal.returns-clause-first
returns-clause-first c =
    let written = c.in_ok-vec.ensures.items_if_clones_equal (search rules) in
    let noted = c.in_ok-vec-2.ensures.items_if_clones_equal (search rules) in
    let count : c.len-count.result ≡ length c.in_ok-found.found.signals.items = omega (arith, c.len-count.ensures, c.in_ok-found.found.signals.ok.0) in
    let all : c.len-count.result ≡ length (signals_of c.args.net.now) = count ∙ ap (λ (gs : List Signal). length gs) c.in_ok-found.ensures.signals in
    is_unwritten c.args.net.now _ (c.in_ok-signals.ensures ∙ c.in_ok-found.ensures.signals) c.in_ok-found.ensures.starts (written ∙ ap (λ (n : ℕ). replicate n (pos 0)) all)
    (noted ∙ ap (λ (n : ℕ). replicate n (pos 0)) all) refl
