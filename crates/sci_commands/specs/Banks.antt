-- The banks that a call is lent.
use Rattle.std.specs.Prelude.{List}
use Rattle.sci_bank.specs.Bank.{Meaning}
use Rattle.sci_bank.specs.Library.{IsFull, AreInOrder}

-- one of each kind, in the order of kinds
abbrev pub AreAllBanks : List Meaning → Type 0
AreAllBanks banks = IsFull banks × AreInOrder banks
