use Rattle.std.proofs.Common.{◌≡◌, ◌^◌, ◌<◌, drop}
use Rattle.sci_vcd.specs.Reading.{bits_of}
use Rattle.sci_vcd.proofs.line.bits_value.Given as goal

abbrev pub invariant-loop-digit : goal.invariant-loop-digit
invariant-loop-digit l = record {
  going_on : bits_of l.bits (drop l.digit-index l.digits) ≡ bits_of 0 l.digits;
  below : l.bits < 2 ^ l.digit-index;
}
