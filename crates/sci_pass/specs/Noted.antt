-- What is noted of the blocks in the midst of a pass.
use Rattle.std.specs.Prelude.{◌≡◌, ℕ, true}
use Rattle.sci_net.specs.declared.Source.{Source}
use Rattle.sci_net.specs.Parts.{Parts, spec_of}
use Rattle.sci_reaction.specs.Active.{IsSync}
use Rattle.sci_reaction.specs.Equations.{input_in, branch_on, IsMaskOf}
use Rattle.sci_reaction.specs.Pass.{Progress}

-- of each block whose entry applied the mask, and the branch where it is synchronous
pub record IsNoted (n : Parts) (s : Source) (w : Progress) (branch mask : ℕ → ℕ) : Type 0 where
  pub branches : (b : ℕ) → w.applied b ≡ true → IsSync n b → branch_on (spec_of n b) (input_in n w.values b) ≡ branch b
  pub masks : (b : ℕ) → w.applied b ≡ true → IsMaskOf n s w.values b (mask b)
