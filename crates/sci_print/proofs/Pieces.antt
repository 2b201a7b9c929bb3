-- Texts that are written piece by piece.
use Rattle.std.proofs.Common.{◌≡◌, ◌<◌, ◌+◌, ◌-◌, ℕ, suc, List, ◌++◌, drop, get_or, length, sym, ◌∙◌, ap, add-one, arith}
use Rattle.std.proofs.Math.Seq.{drop-cons}
use Rattle.sci_forms.specs.declared.ports.Port.{Port}
use Rattle.sci_net.specs.Parts.{Parts, spec_of, path_of}
use Rattle.sci_print.specs.Map.{output_text, outputs_text, block_line, lines_from}

pub outputs-drop : (ps : List Port) (i : ℕ) (d : Port) → i < length ps → outputs_text (drop i ps) ≡ output_text (get_or ps i d) ++ outputs_text (drop (i + 1) ps)
outputs-drop ps i d h = ap outputs_text (drop-cons ps i d h) ∙ ap (λ (n : ℕ). output_text (get_or ps i d) ++ outputs_text (drop n ps)) (sym (add-one i))

pub next_line : (n : Parts) (i count : ℕ) → i < count → lines_from n (i + 1) (count - i) ≡ block_line (i + 1) (path_of n (i + 1)) (spec_of n (i + 1)) ++ lines_from n (i + 1 + 1) (count - (i + 1))
next_line n i count h =
    let e : count - i ≡ suc (count - (i + 1)) = omega (arith, h) in
    ap (lines_from n (i + 1)) e ∙ ap (λ (b : ℕ). block_line (i + 1) (path_of n (i + 1)) (spec_of n (i + 1)) ++ lines_from n b (count - (i + 1))) (sym (add-one (i + 1)))
