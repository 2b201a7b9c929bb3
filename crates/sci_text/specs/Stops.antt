-- What a function that reads returns.
use Rattle.std.specs.Prelude.{◌≡◌, Option, Some, None, Result, Ok, Err}
use Rattle.sci_text.specs.declared.stop.TextStop.{TextStop}
use Rattle.sci_text.specs.declared.stop.TextStop.TheVariants as stops

-- nothing was read, unless memory ran out
abbrev pub Fails : {Y : Type 0} → TextStop → Option Y → Type 0
Fails stops.Memory read = Unit {0}
Fails stops.Other read = read ≡ None

-- What a function returned, seen by view, is what reading gives, unless memory ran out.
abbrev pub Gives : {X Y : Type 0} → (X → Y) → Result X TextStop → Option Y → Type 0
Gives view (Ok x) read = read ≡ Some (view x)
Gives view (Err e) read = Fails e read
