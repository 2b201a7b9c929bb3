-- Texts pushed one behind another.
use Rattle.std.proofs.Common.{◌≡◌, ℕ, Bool, true, if◌then◌else◌, nat_lt, sym, ap, ◌∙◌}
use Rattle.c_ast.specs.Syntax.{Block, scalar, set}
use Rattle.c_mean.specs.Texts.{joined, place}
use Rattle.sci_net.specs.Parts.{Parts}
use Rattle.sci_cgen_blocks.proofs.Written.{joined_assoc}
use Rattle.sci_due.specs.Due.{dates}
use Rattle.sci_due.specs.Texts.{choose_text as choose_of}
use Rattle.sci_program.specs.Names.{next_date}
use Rattle.sci_program.specs.Program.{one, port_count, choose_text}

-- a text was put behind another
pub record Follows (old a new : Block) : Type 0 where
  pub is : new ≡ joined old a

pub follows : (old a : Block) {new : Block} → new ≡ joined old a → Follows old a new
follows old a e = record { is = e }

-- and one more
pub behind : {old mid new a b : Block} → Follows old a mid → Follows mid b new → Follows old (joined a b) new
behind {old} {mid} {new} {a} {b} e f = record { is = f.is ∙ ap (λ x. joined x b) e.is ∙ joined_assoc old a b }

-- Of several sources the text of the choice is that of so many.
pub several_chosen : (n : Parts) (k : ℕ) → k ≡ port_count n → nat_lt 1 k ≡ true → choose_of k ≡ choose_text n
several_chosen n k is more =
    ap choose_of is
    ∙ sym (ap (λ (t : Bool). if t then choose_of (port_count n) else one (set (scalar next_date) (place dates 0))) (sym (ap (nat_lt 1) is) ∙ more))
