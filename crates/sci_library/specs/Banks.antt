-- What the bank of any kind means; and banks without instances and calls.
use Rattle.std.specs.Prelude.{◌≡◌, ℕ, ◌<◌, ◌≤◌, List, [], length, slice_index_or}
use Rattle.sci_forms.specs.declared.Kind.{Kind}
use Rattle.sci_forms.specs.declared.Kind.TheVariants as kind
use Rattle.sci_bank.specs.Bank.{Meaning, no_bank}
use Rattle.sci_bank.specs.Library.{AreInOrder}
use Rattle.sci_forms.specs.Numbers.{kinds}
use Rattle.sci_library.specs.declared.any_bank.AnyBank.{AnyBank}
use Rattle.sci_library.specs.declared.any_bank.AnyBank.TheVariants as bank

abbrev pub meaning_of : AnyBank → Meaning
meaning_of (bank.Const b) = record { kind = kind.Const; rows = b.rows; outs = b.outs }
meaning_of (bank.Summation b) = record { kind = kind.Summation; rows = b.rows; outs = b.outs }
meaning_of (bank.GainBlk b) = record { kind = kind.GainBlk; rows = b.rows; outs = b.outs }
meaning_of (bank.Product b) = record { kind = kind.Product; rows = b.rows; outs = b.outs }
meaning_of (bank.AbsValue b) = record { kind = kind.AbsValue; rows = b.rows; outs = b.outs }
meaning_of (bank.Signum b) = record { kind = kind.Signum; rows = b.rows; outs = b.outs }
meaning_of (bank.MaxMin b) = record { kind = kind.MaxMin; rows = b.rows; outs = b.outs }
meaning_of (bank.Saturation b) = record { kind = kind.Saturation; rows = b.rows; outs = b.outs }
meaning_of (bank.DeadBand b) = record { kind = kind.DeadBand; rows = b.rows; outs = b.outs }
meaning_of (bank.Convert b) = record { kind = kind.Convert; rows = b.rows; outs = b.outs }
meaning_of (bank.Mux b) = record { kind = kind.Mux; rows = b.rows; outs = b.outs }
meaning_of (bank.Demux b) = record { kind = kind.Demux; rows = b.rows; outs = b.outs }
meaning_of (bank.Extractor b) = record { kind = kind.Extractor; rows = b.rows; outs = b.outs }
meaning_of (bank.LogicalOp b) = record { kind = kind.LogicalOp; rows = b.rows; outs = b.outs }
meaning_of (bank.RelationalOp b) = record { kind = kind.RelationalOp; rows = b.rows; outs = b.outs }
meaning_of (bank.Shift b) = record { kind = kind.Shift; rows = b.rows; outs = b.outs }
meaning_of (bank.BitSet b) = record { kind = kind.BitSet; rows = b.rows; outs = b.outs }
meaning_of (bank.BitClear b) = record { kind = kind.BitClear; rows = b.rows; outs = b.outs }
meaning_of (bank.ExtractBits b) = record { kind = kind.ExtractBits; rows = b.rows; outs = b.outs }
meaning_of (bank.Switch2 b) = record { kind = kind.Switch2; rows = b.rows; outs = b.outs }
meaning_of (bank.Select b) = record { kind = kind.Select; rows = b.rows; outs = b.outs }
meaning_of (bank.Logic b) = record { kind = kind.Logic; rows = b.rows; outs = b.outs }
meaning_of (bank.AndLog b) = record { kind = kind.AndLog; rows = b.rows; outs = b.outs }
meaning_of (bank.Dollar b) = record { kind = kind.Dollar; rows = b.rows; outs = b.outs }
meaning_of (bank.SampHold b) = record { kind = kind.SampHold; rows = b.rows; outs = b.outs }
meaning_of (bank.Register b) = record { kind = kind.Register; rows = b.rows; outs = b.outs }
meaning_of (bank.ModuloCount b) = record { kind = kind.ModuloCount; rows = b.rows; outs = b.outs }
meaning_of (bank.GatedDelay b) = record { kind = kind.GatedDelay; rows = b.rows; outs = b.outs }
meaning_of (bank.Sensor b) = record { kind = kind.Sensor; rows = b.rows; outs = b.outs }
meaning_of (bank.EvtDly b) = record { kind = kind.EvtDly; rows = b.rows; outs = b.outs }
meaning_of (bank.EvtVarDly b) = record { kind = kind.EvtVarDly; rows = b.rows; outs = b.outs }
meaning_of (bank.IfThEl b) = record { kind = kind.IfThEl; rows = b.rows; outs = b.outs }
meaning_of (bank.ESelect b) = record { kind = kind.ESelect; rows = b.rows; outs = b.outs }
meaning_of (bank.Halt b) = record { kind = kind.Halt; rows = b.rows; outs = b.outs }

-- the bank of a kind, without instances and calls
abbrev pub fresh : Kind → Meaning
fresh k = record { kind = k; rows = []; outs = 0 }

-- no bank has instances or calls
abbrev pub AreFresh : List Meaning → Type 0
AreFresh banks = (i : ℕ) → i < length banks → ((slice_index_or banks i no_bank).rows ≡ []) × ((slice_index_or banks i no_bank).outs ≡ 0)

-- the banks of the first kinds, in order, without instances and calls
pub record IsBegun (banks : List Meaning) : Type 0 where
  pub few : length banks ≤ kinds
  pub in_order : AreInOrder banks
  pub fresh : AreFresh banks
