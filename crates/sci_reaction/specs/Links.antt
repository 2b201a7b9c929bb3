-- How the blocks of a net are linked. Blocks and ports are counted from 1.
use Rattle.std.specs.Prelude.{◌≡◌, ℕ, ◌<◌, Bool, true, false, length, Contains}
use Rattle.sci_forms.specs.declared.spec.Spec.{Spec}
use Rattle.sci_forms.specs.Form.{is_sync}
use Rattle.sci_net.specs.declared.Feed.{Feed}
use Rattle.sci_net.specs.declared.Source.{Source}
use Rattle.sci_net.specs.declared.Source.TheVariants.{Start, Port}
use Rattle.sci_net.specs.Parts.{Parts, numbered, IsBlock, IsInput, IsActivationInput, IsActivationOutput, spec_of, wire_of, feeds_of}

-- within a reaction the block's outputs or its branch depend on its input k, counted from 1
abbrev pub has_feedthrough : Spec → ℕ → Bool
has_feedthrough s k = numbered false s.feed k

-- a is the source block of an input of b
pub record Supplies (n : Parts) (a b : ℕ) : Type 0 where
  pub input : ℕ
  pub within : IsInput n b input
  pub from : (wire_of n b input).block ≡ a

-- a is the source block of an input of b that has feedthrough
pub record SuppliesThrough (n : Parts) (a b : ℕ) : Type 0 where
  pub input : ℕ
  pub within : IsInput n b input
  pub from : (wire_of n b input).block ≡ a
  pub through : has_feedthrough (spec_of n b) input ≡ true

-- activation output q feeds an activation input of b
pub record Feeds (n : Parts) (q : Feed) (b : ℕ) : Type 0 where
  pub input : ℕ
  pub within : IsActivationInput n b input
  pub fed : Contains (feeds_of n b input) q

-- b has neither inputs nor activation inputs
pub record IsConstant (n : Parts) (b : ℕ) : Type 0 where
  pub block : IsBlock n b
  pub no_input : length (spec_of n b).ins ≡ 0
  pub no_activation_input : (spec_of n b).evtin ≡ 0

-- b has inputs and no activation inputs
pub record Inherits (n : Parts) (b : ℕ) : Type 0 where
  pub some_input : 0 < length (spec_of n b).ins
  pub no_activation_input : (spec_of n b).evtin ≡ 0

-- the source activates b by itself: start the constant blocks, an activation output the blocks that it feeds
abbrev pub SetOff : Parts → Source → ℕ → Type 0
SetOff n Start b = IsConstant n b
SetOff n (Port q) b = Feeds n q b

-- start is a source, and so is each activation output of a block that isn't synchronous
abbrev pub IsSource : Parts → Source → Type 0
IsSource n Start = Unit {0}
IsSource n (Port q) = IsActivationOutput n q.block q.port × (is_sync (spec_of n q.block).kind ≡ false)

-- the source feeds activation input p of b
abbrev pub SourceFeeds : Parts → Source → ℕ → ℕ → Type 0
SourceFeeds n Start b p = ⊥
SourceFeeds n (Port q) b p = Contains (feeds_of n b p) q
