-- The laws of the one list of values.
use Rattle.std.specs.Prelude.{◌≡◌, ◌≢◌, ℕ, ◌+◌, ◌≤◌, ℤ, List, length}
use Rattle.sci_forms.specs.Ports.{total}
use Rattle.sci_net.specs.Parts.{Parts, IsBlock, spec_of}
use Rattle.sci_net.specs.Net.{IsNet}
use Rattle.sci_reaction.specs.Equations.{input_in, all_inputs}
use Rattle.sci_places.specs.Flat.{start_of, values_at, IsWhole}
use Rattle.sci_span.specs.Values.{overwritten}
use Rattle.sci_places.specs.Layout.{input_spans}
use Rattle.sci_span.specs.Values.{gathered, AreWithin, spans_length}

-- the values at the places of a block's inputs are those of its inputs, and there are as many as its inputs have elements
pub record InputsAreGathered : Type 0 where
  pub within : (n : Parts) (values : List ℤ) (b : ℕ) → IsNet n → IsWhole n values → IsBlock n b → AreWithin values (input_spans n b)
  pub long : (n : Parts) (b : ℕ) → IsNet n → IsBlock n b → spans_length (input_spans n b) ≡ total (spec_of n b).ins
  pub same : (n : Parts) (values : List ℤ) (b : ℕ) → IsNet n → IsWhole n values → IsBlock n b
      → gathered values (input_spans n b) ≡ all_inputs (spec_of n b) (input_in n (values_at n values) b)

-- values that are written at a block's place are those of this block, and the other blocks keep theirs
pub record OutputsAreWritten : Type 0 where
  pub within : (n : Parts) (values : List ℤ) (b : ℕ) → IsWhole n values → IsBlock n b → start_of n b + total (spec_of n b).outs ≤ length values
  pub whole : (n : Parts) (values vs : List ℤ) (b : ℕ) → IsWhole n values → IsBlock n b → length vs ≡ total (spec_of n b).outs
      → IsWhole n (overwritten values (start_of n b) vs)
  pub written : (n : Parts) (values vs : List ℤ) (b : ℕ) → IsWhole n values → IsBlock n b → length vs ≡ total (spec_of n b).outs
      → values_at n (overwritten values (start_of n b) vs) b ≡ vs
  pub kept : (n : Parts) (values vs : List ℤ) (b c : ℕ) → IsWhole n values → IsBlock n b → IsBlock n c → b ≢ c → length vs ≡ total (spec_of n b).outs
      → values_at n (overwritten values (start_of n b) vs) c ≡ values_at n values c
