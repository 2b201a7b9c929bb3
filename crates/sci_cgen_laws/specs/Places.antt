-- Where the values of blocks lie in a generated program, and what the functions of blocks do there.
use Rattle.std.specs.Prelude.{◌≡◌, ◌≢◌, ℕ, suc, ◌+◌, ◌-◌, ◌<◌, ◌≤◌, ◌⊎◌, ℤ, pos, true, List, [], length, Contains, Some}
use Rattle.sci_base.specs.Lists.{at, truth_at}
use Rattle.sci_forms.specs.declared.Kind.TheVariants.{Sensor}
use Rattle.sci_forms.specs.Form.{reads_mask}
use Rattle.sci_forms.specs.Ports.{total, elements, before, port_at, Fills}
use Rattle.sci_forms.specs.Words.{state_len_of}
use Rattle.sci_kinds.specs.Asks.{IsState, IsMask}
use Rattle.sci_kinds.specs.Table.{out}
use Rattle.sci_net.specs.Parts.{Parts, IsBlock, spec_of, wire_of, column_of}
use Rattle.sci_net.specs.Net.{all_elements}
use Rattle.sci_reaction.specs.Schedule.{Entry}
use Rattle.c_ast.specs.declared.Name.{Name}
use Rattle.c_ast.specs.Syntax.{Block, Function, Whole}
use Rattle.c_ast.specs.Events.{program_events}
use Rattle.c_mean.specs.Meaning.{World, Around, run_block, first_world}
use Rattle.c_mean.specs.Places.{get, Has}
use Rattle.c_trim.specs.Trim.{is_named}
use Rattle.sci_cgen_blocks.specs.Texts.{values, states, masks, input_place}
use Rattle.sci_cgen_blocks.specs.Meant.{Answers, Senses}
use Rattle.sci_program.specs.Names.{block_name}
use Rattle.sci_program.specs.Program.{places_of, is_scheduled, states_before, array}
use Rattle.sci_program.specs.Laws.{named_so}

-- ---- what the function of a block does

-- what is there when the program begins is there
pub record HasVariables (p : Whole) (w : World) : Type 0 where
  pub there : (x : Name) (i : ℕ) → Has (first_world p []) x i → Has w x i

-- A memory of the program has the values on block b's inputs with feedthrough, its state, and its mask where its kind looks at it: no text of another kind's
-- block names the masks, and its values are the same on all of them. All are in range.
pub record IsGiven (n : Parts) (p : Whole) (b : ℕ) (x : List ℤ) (m : ℕ) (u : List ℤ) (w : World) : Type 0 where
  pub variables : HasVariables p w
  pub ins : (k e : ℕ) → k < length (spec_of n b).ins → e < elements (port_at (spec_of n b).ins k) → truth_at (spec_of n b).feed k ≡ true
      → get w values (input_place (places_of n b) k e) ≡ Some (at u (before (spec_of n b).ins k + e))
  pub ins_in_range : Fills (spec_of n b).ins u
  pub state : (i : ℕ) → i < state_len_of (spec_of n b).kind (spec_of n b) → get w states ((places_of n b).state + i) ≡ Some (at x i)
  pub state_in_range : IsState (spec_of n b) x
  pub mask : reads_mask (spec_of n b).kind ≡ true → get w masks (places_of n b).mask ≡ Some (pos m)
  pub mask_in_range : IsMask (spec_of n b) m

-- The body of block b's function, wherever it is called: from such a memory it leaves what the table of kinds gives at the places of the block's outputs and
-- changes nothing else but scratch, or ends the run by the block's stop. That of a SENSOR takes the next value of its column; columns are counted from 1, and
-- c from 0.
pub record DoesBlock (n : Parts) (p : Whole) (b : ℕ) (body : Block) : Type 0 where
  pub computes : (env : Around) (number : ℕ) (x : List ℤ) (m : ℕ) (u : List ℤ) (w : World) → (spec_of n b).kind ≢ Sensor → IsGiven n p b x m u w
      → Answers (spec_of n b) (places_of n b) w (out (spec_of n b) x m u) (run_block env number body w)
  pub senses : (env : Around) (number c : ℕ) (w : World) → (spec_of n b).kind ≡ Sensor → column_of (spec_of n b) ≡ suc c → HasVariables p w
      → Senses (places_of n b) c w (run_block env number body w)

-- ---- places

-- so many places from one on, and so many from another, are apart
abbrev pub AreApart : (a k b m : ℕ) → Type 0
AreApart a k b m = (a + k ≤ b) ⊎ (b + m ≤ a)

-- Where a text of the program names an array, it is declared, with this size. One that no text names isn't there: nothing is read or assigned in it.
abbrev pub HasArray : Whole → Name → ℕ → Type 0
HasArray p x size = is_named (program_events p) x ≡ true → Contains p.decls (array x size)

-- its texts name the arrays in which a block has values, a state, or a mask that it looks at
pub record NamesArrays (n : Parts) (p : Whole) (b : ℕ) : Type 0 where
  pub values : 1 ≤ total (spec_of n b).outs → is_named (program_events p) values ≡ true
  pub states : 1 ≤ state_len_of (spec_of n b).kind (spec_of n b) → is_named (program_events p) states ≡ true
  pub masks : reads_mask (spec_of n b).kind ≡ true → is_named (program_events p) masks ≡ true

-- The functions of the blocks that the schedule has do what the blocks do, over these places: within the arrays, those of two blocks apart, each input where
-- the output lies that feeds it, and an input with feedthrough of such a block apart from the block's own outputs. What such a block uses is declared.
pub record HasPlaces (n : Parts) (rows : List (List Entry)) (p : Whole) : Type 0 where
  pub bodies : (b : ℕ) (f : Function) → IsBlock n b → is_scheduled rows b ≡ true → Contains (named_so (block_name b) p.funcs) f → DoesBlock n p b f.body
  pub in_values : (b : ℕ) → IsBlock n b → (places_of n b).outs + total (spec_of n b).outs ≤ all_elements n.specs
  pub in_states : (b : ℕ) → IsBlock n b → (places_of n b).state + state_len_of (spec_of n b).kind (spec_of n b) ≤ states_before n.specs (length n.specs)
  pub in_masks : (b : ℕ) → IsBlock n b → (places_of n b).mask < length n.specs
  pub in_ins : (b k e : ℕ) → IsBlock n b → k < length (spec_of n b).ins → e < elements (port_at (spec_of n b).ins k)
      → input_place (places_of n b) k e < all_elements n.specs
  pub arrays : HasArray p values (all_elements n.specs) × HasArray p states (states_before n.specs (length n.specs)) × HasArray p masks (length n.specs)
  pub named : (b : ℕ) → IsBlock n b → is_scheduled rows b ≡ true → NamesArrays n p b
  pub out_places : (b c : ℕ) → IsBlock n b → IsBlock n c → b ≢ c
      → AreApart (places_of n b).outs (total (spec_of n b).outs) (places_of n c).outs (total (spec_of n c).outs)
  pub state_places : (b c : ℕ) → IsBlock n b → IsBlock n c → b ≢ c
      → AreApart (places_of n b).state (state_len_of (spec_of n b).kind (spec_of n b)) (places_of n c).state (state_len_of (spec_of n c).kind (spec_of n c))
  pub mask_places : (b c : ℕ) → IsBlock n b → IsBlock n c → b ≢ c → (places_of n b).mask ≢ (places_of n c).mask
  pub ins : (b k e : ℕ) → IsBlock n b → k < length (spec_of n b).ins → e < elements (port_at (spec_of n b).ins k)
      → input_place (places_of n b) k e
      ≡ (places_of n (wire_of n b (suc k)).block).outs + before (spec_of n (wire_of n b (suc k)).block).outs ((wire_of n b (suc k)).port - 1) + e
  pub fed : (b k : ℕ) → IsBlock n b → is_scheduled rows b ≡ true → k < length (spec_of n b).ins → truth_at (spec_of n b).feed k ≡ true
      → (wire_of n b (suc k)).block ≢ b
