-- States from which the run goes on alike.
use Rattle.std.specs.Prelude.{◌≡◌, ℕ}
use Rattle.sci_net.specs.Parts.{Parts, IsBlock}
use Rattle.sci_reaction.specs.Memory.{Memory}
use Rattle.sci_run.specs.Activity.{halts}
use Rattle.sci_pending.specs.Order.{Falls, in_order}
use Rattle.sci_run.specs.Run.{State}

pub record SameMemory (n : Parts) (m other : Memory) : Type 0 where
  pub state : (b : ℕ) → IsBlock n b → m.state b ≡ other.state b
  pub held : (b : ℕ) → IsBlock n b → m.held b ≡ other.held b
  pub cursor : (b : ℕ) → IsBlock n b → m.cursor b ≡ other.cursor b

-- the same at the blocks of the net
pub record AreAlike (n : Parts) (st other : State) : Type 0 where
  pub memory : SameMemory n st.memory other.memory
  pub pending : st.pending ≡ other.pending
  pub now : st.now ≡ other.now
  pub fired : st.fired ≡ other.fired
  pub active : (b : ℕ) → IsBlock n b → st.active b ≡ other.active b
  pub activations : (b : ℕ) → IsBlock n b → st.activations b ≡ other.activations b

-- The same but for the orders of what is pending, which fires in the same order, and but for what the rest of the run doesn't ask for: the date of the
-- last reaction, which blocks it activated apart from a HALT_f, and how often they were active.
pub record GoOnAlike (n : Parts) (st other : State) : Type 0 where
  pub memory : SameMemory n st.memory other.memory
  pub numbered : Falls st.pending.programmed st.pending.events
  pub other_numbered : Falls other.pending.programmed other.pending.events
  pub pending : in_order st.pending.events ≡ in_order other.pending.events
  pub fired : st.fired ≡ other.fired
  pub halts : halts n st.active ≡ halts n other.active
