-- What a bank means: the instances of one kind, each with its spec and its state, and the calls of `out`.
use Rattle.std.specs.Prelude.{◌≡◌, ℕ, ◌+◌, ◌<◌, ◌≤◌, min, true, Option, Some, None, List, ℤ, length, slice_index_or, slice_set, [], ◌∷◌, ◌++◌}
use Rattle.sci_base.specs.declared.limits.TheConstants.{PORT_ELEMENTS}
use Rattle.sci_base.specs.declared.Ty.{Ty}
use Rattle.sci_base.specs.declared.observation.StopWord.{StopWord}
use Rattle.sci_base.specs.declared.observation.StopWord.TheVariants.{Overflow as OverflowWord, Zero as ZeroWord}
use Rattle.sci_base.specs.Fit.{InRange}
use Rattle.sci_base.specs.Lists.{at}
use Rattle.sci_forms.specs.declared.Kind.{Kind}
use Rattle.sci_forms.specs.declared.Kind.TheVariants.{Const}
use Rattle.sci_forms.specs.declared.spec.Spec.{Spec}
use Rattle.sci_forms.specs.Ports.{Fills}
use Rattle.sci_forms.specs.Typed.{typed}
use Rattle.sci_forms.specs.Words.{size}
use Rattle.sci_kinds.specs.Asks.{Asks, IsState, IsMask, entering}
use Rattle.sci_kinds.specs.Table.{Answer, Values, NoFit, NoQuotient, next, first_state}
use Rattle.sci_bank.specs.declared.instance.Instance.{Instance}
use Rattle.sci_bank.specs.declared.Fate.{Fate}
use Rattle.sci_bank.specs.declared.Fate.TheVariants.{Done, Overflow, Zero}

-- a row that nobody added
abbrev pub no_spec : Spec
no_spec = record { kind = Const; params = []; state = []; firing = []; ins = []; outs = []; evtin = 0; evtout = 0; feed = [] }

abbrev pub no_row : Instance
no_row = record { spec = no_spec; state = [] }

-- a bank's kind, its instances in the order of their slots, and the calls of `out` since the last reset
pub record Meaning : Type 0 where
  pub kind : Kind
  pub rows : List Instance
  pub outs : ℕ

abbrev pub no_bank : Meaning
no_bank = record { kind = Const; rows = []; outs = 0 }

abbrev pub row_in : List Instance → ℕ → Instance
row_in rows slot = slice_index_or rows slot no_row

abbrev pub row_at : Meaning → ℕ → Instance
row_at b slot = row_in b.rows slot

abbrev pub spec_at : Meaning → ℕ → Spec
spec_at b slot = (row_at b slot).spec

-- one call more; a full count stays
abbrev pub counted : ℕ → ℕ
counted n = min (n + 1) 18446744073709551615

-- an instance in its first state
abbrev pub first_row : Spec → Instance
first_row s = record { spec = s; state = first_state s }

-- what each call leaves
abbrev pub after_reset : Meaning → Meaning
after_reset b = record b { rows = []; outs = 0 }

abbrev pub after_add : Meaning → Spec → Meaning
after_add b s = record b { rows = b.rows ++ first_row s ∷ [] }

abbrev pub after_out : Meaning → Meaning
after_out b = record b { outs = counted b.outs }

abbrev pub row_after_update : Instance → ℕ → List ℤ → Instance
row_after_update r mask ins = record r { state = next r.spec r.state mask ins }

abbrev pub after_update : Meaning → ℕ → ℕ → List ℤ → Meaning
after_update b slot mask ins = record b { rows = slice_set b.rows slot (row_after_update (row_at b slot) mask ins) }

-- an instance, a mask and inputs that a call may be made with
pub record IsCall (rows : List Instance) (slot mask : ℕ) (ins : List ℤ) : Type 0 where
  pub known : slot < length rows
  pub masked : IsMask (row_in rows slot).spec mask
  pub filled : Fills (entering (row_in rows slot).spec) ins

-- the word of the stop, where there is one
abbrev pub word_of : Fate → Option StopWord
word_of Done = None
word_of Overflow = Some OverflowWord
word_of Zero = Some ZeroWord

-- what a call of `out` answers and writes
abbrev pub Tells : Answer → Fate → List ℤ → Type 0
Tells (Values vs) f outs = (f ≡ Done) × (outs ≡ vs)
Tells NoFit f outs = f ≡ Overflow
Tells NoQuotient f outs = f ≡ Zero

-- the instances of a bank of this kind
pub record AreRows (kind : Kind) (rows : List Instance) : Type 0 where
  pub typed_specs : (k : ℕ) → k < length rows → typed (row_in rows k).spec ≡ true
  pub of_kind : (k : ℕ) → k < length rows → (row_in rows k).spec.kind ≡ kind
  pub states : (k : ℕ) → k < length rows → IsState (row_in rows k).spec (row_in rows k).state

-- what a bank of one kind holds
pub record Held : Type 0 where
  pub rows : List Instance
  pub outs : ℕ

-- a bank of this kind that holds this
abbrev pub bank_with : Kind → Held → Meaning
bank_with kind h = record { kind = kind; rows = h.rows; outs = h.outs }

-- a typed spec of this kind
pub record IsOfKind (kind : Kind) (s : Spec) : Type 0 where
  pub kind_is : s.kind ≡ kind
  pub is_typed : typed s ≡ true
  pub asks : Asks kind s
  pub small : size s ≤ PORT_ELEMENTS

-- n values from start on are there, and in range of the type
pub record RunFits (t : Ty) (vs : List ℤ) (start n : ℕ) : Type 0 where
  pub within : start + n ≤ length vs
  pub in_range : (i : ℕ) → i < n → InRange t (at vs (start + i))
