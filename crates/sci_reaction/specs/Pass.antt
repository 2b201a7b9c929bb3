-- One reaction in one pass over a row.
use Rattle.std.specs.Prelude.{◌≡◌, ℕ, ◌↔◌, Bool, true, false, ◌||◌, ◌&&◌, eqb, if◌then◌else◌, cond, ℤ, List, [], ◌∷◌, ◌++◌, Contains, Result, Ok, Err}
use Rattle.std.specs.List.{list_any}
use Rattle.std.specs.Int.Bits.{bit_or}
use Rattle.sci_base.specs.declared.observation.StopWord.{StopWord}
use Rattle.sci_net.specs.declared.Source.{Source}
use Rattle.sci_net.specs.Parts.{Parts, IsBlock, spec_of}
use Rattle.sci_reaction.specs.Active.{Possible}
use Rattle.sci_reaction.specs.Memory.{Memory, Columns}
use Rattle.sci_reaction.specs.Equations.{Signals, input_in, branch_on, answer, Active, IsMaskOf, Meets}
use Rattle.sci_reaction.specs.Result.{Reaction, Whole, Stopped, IsResult}
use Rattle.sci_reaction.specs.Schedule.{Guard, Entry}

-- what is found so far: the values, and of which blocks the entry applies
pub record Progress : Type 0 where
  pub values : Signals
  pub applied : ℕ → Bool

abbrev pub put : {A : Type 0} → (ℕ → A) → ℕ → A → ℕ → A
put f b v a = if eqb a b then v else f a

-- the entry of the guard's block applies, and the block takes the guard's port
abbrev pub is_taken : Parts → Progress → Guard → Bool
is_taken n w g = w.applied g.block && eqb (branch_on (spec_of n g.block) (input_in n w.values g.block)) g.port

-- the entry applies
abbrev pub applies : Parts → Progress → Entry → Bool
applies n w e = e.always || list_any (is_taken n w) e.guards

-- the mask with those of the guards that are taken
abbrev pub with_guards : Parts → Progress → ℕ → List Guard → ℕ
with_guards n w mask [] = mask
with_guards n w mask (g ∷ gs) = with_guards n w (if is_taken n w g then bit_or mask g.mask else mask) gs

abbrev pub mask_in : Parts → Progress → Entry → ℕ
mask_in n w e = with_guards n w e.mask e.guards

-- with the values that the block gives; where it has none the reaction stops
abbrev pub with_answer : ℕ → Progress → Result (List ℤ) StopWord → (Progress → Reaction) → Reaction
with_answer b w (Ok vs) more = more (record { values = put w.values b vs; applied = put w.applied b true })
with_answer b w (Err word) more = Stopped b word

-- one entry, and what comes after it
abbrev pub step : Parts → Memory → Columns → Progress → Entry → (Progress → Reaction) → Reaction
step n m i w e more =
    cond (applies n w e) (with_answer e.block w (answer n m i e.block (mask_in n w e) (input_in n w.values e.block)) more) (more w)

abbrev pub pass : Parts → Memory → Columns → List Entry → Progress → Reaction
pass n m i [] w = Whole w.values
pass n m i (e ∷ es) w = step n m i w e (λ v. pass n m i es v)

-- the held values, and no entry yet
abbrev pub at_rest : Memory → Progress
at_rest m = record { values = m.held; applied = λ b. false }

-- ---- in the midst of a pass

-- these blocks are done: they have their values, and the entries that apply are known. The other blocks are at rest.
pub record IsFront (n : Parts) (m : Memory) (i : Columns) (s : Source) (done : List ℕ) (w : Progress) : Type 0 where
  pub meets : (c : ℕ) → IsBlock n c → (Possible n s c → Contains done c) → Meets n m i s w.values c
  pub tells : (c : ℕ) → Contains done c → (w.applied c ≡ true) ↔ Active n s w.values c
  pub rests : (c : ℕ) → (Contains done c → ⊥) → (w.applied c ≡ false) × (w.values c ≡ m.held c)

-- what an entry comes to
abbrev pub answer_in : Parts → Memory → Columns → Progress → Entry → Result (List ℤ) StopWord
answer_in n m i w e = answer n m i e.block (mask_in n w e) (input_in n w.values e.block)

abbrev pub with_values : Progress → ℕ → List ℤ → Progress
with_values w b vs = record { values = put w.values b vs; applied = put w.applied b true }

-- the next entry: its block is active exactly where the entry applies, and its mask is the pass's. Then it has its values, or the reaction
-- stops there.
pub record IsNext (n : Parts) (m : Memory) (i : Columns) (s : Source) (done : List ℕ) (w : Progress) (e : Entry) : Type 0 where
  pub applies_is : (applies n w e ≡ true) ↔ Active n s w.values e.block
  pub mask_is : IsMaskOf n s w.values e.block (mask_in n w e)
  pub idle : applies n w e ≡ false → IsFront n m i s (done ++ e.block ∷ []) w
  pub valued : (vs : List ℤ) → applies n w e ≡ true → answer_in n m i w e ≡ Ok vs → IsFront n m i s (done ++ e.block ∷ []) (with_values w e.block vs)
  pub stops : (word : StopWord) → applies n w e ≡ true → answer_in n m i w e ≡ Err word → IsResult n m i s (Stopped e.block word)
