-- The declarations that stay, one after the other.
use Rattle.std.proofs.Common.{◌≡◌, ℕ, ◌+◌, ◌≤◌, List, ◌∷◌, ◌++◌, length, drop, sym, ap, ◌∙◌, append_assoc, append-nil}
use Rattle.std.proofs.lemmas.List.{drop_all}
use Rattle.c_ast.specs.Syntax.{Declared}
use Rattle.c_trim.specs.declared.texts.Candidate.{Candidate}
use Rattle.c_trim.specs.Candidates.{kept_part, kept_of}

pub kept_more : (cs : List Candidate) (i : ℕ) (c : Candidate) (old new all : List Declared) → drop i cs ≡ c ∷ drop (i + 1) cs → new ≡ old ++ kept_part c
    → old ++ kept_of (drop i cs) ≡ all → new ++ kept_of (drop (i + 1) cs) ≡ all
kept_more cs i c old new all cut e so_far =
    ap (λ (l : List Declared). l ++ kept_of (drop (i + 1) cs)) e
    ∙ (append_assoc old (kept_part c) (kept_of (drop (i + 1) cs)) ∙ (ap (λ (l : List Candidate). old ++ kept_of l) (sym cut) ∙ so_far))

pub kept_done : (cs : List Candidate) (i : ℕ) (out all : List Declared) → length cs ≤ i → out ++ kept_of (drop i cs) ≡ all → out ≡ all
kept_done cs i out all most so_far = sym (append-nil out) ∙ (ap (λ (l : List Candidate). out ++ kept_of l) (sym (drop_all i cs most)) ∙ so_far)
