-- What holds of the rules, for every typed spec of every kind.
use Rattle.std.specs.Prelude.{◌≡◌, ℕ, ◌+◌, ◌<◌, ◌≤◌, ℤ, List, length, Bool, true, Option, Some}
use Rattle.std.specs.Int.{bit_at}
use Rattle.sci_base.specs.declared.Ty.{Ty}
use Rattle.sci_base.specs.Fit.{InRange}
use Rattle.sci_base.specs.Lists.{at, truth_at}
use Rattle.sci_forms.specs.declared.Kind.TheVariants.{Select, RelationalOp}
use Rattle.sci_forms.specs.declared.spec.Spec.{Spec}
use Rattle.sci_forms.specs.Ports.{total, before, type_at, Fills}
use Rattle.sci_forms.specs.Words.{param, in_type, out_type}
use Rattle.sci_forms.specs.Typed.{typed}
use Rattle.sci_forms.specs.Form.{is_sync}
use Rattle.sci_kinds.specs.Asks.{IsState, IsMask, entering}
use Rattle.sci_kinds.specs.Table.{relation, cell, next, branch, state_len}
use Rattle.sci_ranges_base.specs.declared.interval.Interval.{Interval}
use Rattle.sci_ranges_base.specs.declared.masks.Masks.{Masks}
use Rattle.sci_ranges_base.specs.Intervals.{IsIn, IsInSome, range_at}
use Rattle.sci_ranges_base.specs.Cells.{MayBe}
use Rattle.sci_ranges_base.specs.Masks.{AreMasks}
use Rattle.sci_ranges_rules.specs.Rules.{compared, state_range, cells, next_range, taking}

-- each value of a state is in its interval
abbrev pub AreStates : Spec → List Interval → List ℤ → Type 0
AreStates s xs x = (i : ℕ) → i < state_len s → IsIn (state_range xs i) (at x i)

-- each value that goes in is in its interval
abbrev pub AreInside : Spec → List (Option Interval) → List ℤ → Type 0
AreInside s us u = (e : ℕ) → e < total (entering s) → IsInSome (range_at us e) (at u e)

-- Where the mask is m, the outputs depend on input k, counted from 0: it has feedthrough, and a SELECT_m looks at an input only where its port is activated.
pub record Matters (s : Spec) (m k : ℕ) : Type 0 where
  pub within : k < length s.ins
  pub through : truth_at s.feed k ≡ true
  pub chosen : s.kind ≡ Select → bit_at m k ≡ 1

-- the values on which the outputs depend are in their intervals; of a sensor, the one that it takes
pub record AreFed (s : Spec) (m : ℕ) (us : List (Option Interval)) (u : List ℤ) : Type 0 where
  pub inputs : (k e : ℕ) → Matters s m k → before s.ins k ≤ e → e < before s.ins (k + 1) → IsInSome (range_at us e) (at u e)
  pub sensed : (e : ℕ) → length s.ins ≡ 0 → e < total (entering s) → IsInSome (range_at us e) (at u e)

-- the rule of each kind covers its meaning: whatever states, masks and inputs within the intervals there are, each element of the outputs is one of the cells
abbrev pub RuleCovers : Type 0
RuleCovers =
    (s : Spec) (xs : List Interval) (x : List ℤ) (ms : List Masks) (m : ℕ) (us : List (Option Interval)) (u : List ℤ) (e : ℕ) →
    typed s ≡ true → IsState s x → IsMask s m → Fills (entering s) u → AreStates s xs x → AreMasks ms m → AreFed s m us u → e < total s.outs →
    MayBe (cells s xs ms us e) (cell s x m u e)

-- and so the next state
abbrev pub NextCovers : Type 0
NextCovers =
    (s : Spec) (xs : List Interval) (x : List ℤ) (m : ℕ) (us : List (Option Interval)) (u : List ℤ) (i : ℕ) →
    typed s ≡ true → IsState s x → AreStates s xs x → AreInside s us u → i < state_len s → IsInSome (next_range s xs us i) (at (next s x m u) i)

-- a branch is taken on the numbers that take it
abbrev pub BranchCovers : Type 0
BranchCovers = (s : Spec) (u : List ℤ) → typed s ≡ true → is_sync s.kind ≡ true → Fills s.ins u → IsIn (taking s (branch s u)) (at u 0)

-- where it is known how a comparison comes out, its inputs are numbers that may compare so
abbrev pub ComparedCovers : Type 0
ComparedCovers =
    (s : Spec) (holds : Bool) (a b : ℤ) (i j : Interval) → typed s ≡ true → s.kind ≡ RelationalOp → InRange (in_type s) a → InRange (in_type s) b →
    relation (param s 0) a b ≡ holds → (IsIn j b → IsInSome (compared s 0 holds j) a) × (IsIn i a → IsInSome (compared s 1 holds i) b)

-- intervals of numbers of the types give intervals of numbers of the types
pub record IsOfType (t : Ty) (i : Interval) : Type 0 where
  pub least : InRange t i.least
  pub greatest : InRange t i.greatest

abbrev pub IsSomeOfType : Ty → Option Interval → Type 0
IsSomeOfType t o = (i : Interval) → o ≡ Some i → IsOfType t i

abbrev pub RuleInType : Type 0
RuleInType =
    (s : Spec) (xs : List Interval) (ms : List Masks) (us : List (Option Interval)) (e : ℕ) →
    typed s ≡ true → ((i : ℕ) → i < state_len s → IsOfType (out_type s) (state_range xs i)) → ((d : ℕ) → IsSomeOfType (type_at (entering s) d) (range_at us d)) →
    e < total s.outs → IsSomeOfType (type_at s.outs e) ((cells s xs ms us e).values)

-- and so the next state
abbrev pub NextInType : Type 0
NextInType =
    (s : Spec) (xs : List Interval) (us : List (Option Interval)) (i : ℕ) →
    typed s ≡ true → ((j : ℕ) → IsOfType (out_type s) (state_range xs j)) → ((d : ℕ) → IsSomeOfType (type_at (entering s) d) (range_at us d)) →
    i < state_len s → IsSomeOfType (out_type s) (next_range s xs us i)
