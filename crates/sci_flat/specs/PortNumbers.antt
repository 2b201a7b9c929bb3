-- The numbers of one object's ports.
use Rattle.std.specs.Prelude.{ℕ, zero, suc, ◌+◌, ℤ, pos, negsuc, length, nat_lt, if◌then◌else◌, Option, Some, None}
use Rattle.sci_base.specs.Plain.{Fields}
use Rattle.sci_blocks.specs.declared.class.PortClass.{PortClass}
use Rattle.sci_blocks.specs.declared.class.PortClass.TheVariants.{Input, Output, ActivationInput, ActivationOutput}
use Rattle.sci_flat.specs.declared.steps.port_numbers.PortNumbers.{PortNumbers}

abbrev pub seat_at : ℕ → Fields → PortNumbers
seat_at n f = record { first = n; ins = length f.ins; outs = length f.outs; evtin = f.evtin; evtout = f.evtout }

abbrev pub no_seat : ℕ → PortNumbers
no_seat n = record { first = n; ins = 0; outs = 0; evtin = 0; evtout = 0 }

-- one more than the number of the last port
abbrev pub past : PortNumbers → ℕ
past s = s.first + s.ins + s.outs + s.evtin + s.evtout

abbrev pub count : PortNumbers → PortClass → ℕ
count s Input = s.ins
count s Output = s.outs
count s ActivationInput = s.evtin
count s ActivationOutput = s.evtout

-- the number of the first port of a class
abbrev pub start : PortNumbers → PortClass → ℕ
start s Input = s.first
start s Output = s.first + s.ins
start s ActivationInput = s.first + s.ins + s.outs
start s ActivationOutput = s.first + s.ins + s.outs + s.evtin

-- the number of the port, which is counted from 1 in its class
abbrev pub port_number : PortNumbers → PortClass → ℤ → Option ℕ
port_number s c (pos zero) = None
port_number s c (pos (suc k)) = if nat_lt k (count s c) then Some (start s c + k) else None
port_number s c (negsuc k) = None
