-- What a read of bytes says of the value that they are.
use Rattle.std.proofs.Common.{◌≡◌, ℕ, List, Bool, true, false, cond, Some, None, refl}
use Rattle.std.specs.Str.{IsUtf8, is_utf8}
use Rattle.std.proofs.lemmas.Str.{IsUtf8-from_is_utf8, is_utf8-from_IsUtf8}
use Rattle.serde_json.specs.Data.{Data}
use Rattle.serde_json.specs.Read.{read}
use Rattle.sci_diagram.specs.Reading.{value_of}

pub value_read : (bs : List ℕ) (d : Data) → IsUtf8 bs → read bs ≡ Some d → value_of bs ≡ Some d
value_read bs d u e = rw (is_utf8-from_IsUtf8 bs u) e

refused : (bs : List ℕ) (b : Bool) → is_utf8 bs ≡ b → (IsUtf8 bs → read bs ≡ None) → cond b (read bs) None ≡ None
refused bs true e h = h (IsUtf8-from_is_utf8 bs e)
refused bs false e h = refl

pub value_refused : (bs : List ℕ) → (IsUtf8 bs → read bs ≡ None) → value_of bs ≡ None
value_refused bs h = refused bs (is_utf8 bs) refl h
