-- A read of a file that is there.
use Rattle.std.proofs.Common.{◌≡◌, refl, ℕ, ◌+◌, List, [], ◌∷◌, ◌++◌, Some, ap, ◌∙◌, inr}
use Rattle.std.specs.Prelude.{Result, Ok, Err, Vec, option_map, take, is_none}
use Rattle.std.specs.declared.alloc.Global.{Global}
use Rattle.sci_io.specs.declared.folder.ReadEnd.{ReadEnd}
use Rattle.sci_io.specs.declared.folder.ReadEnd.TheVariants.{Failed, Memory}
use Rattle.sci_io.specs.Files.{folder_state, file_named, HasFront, Reads}

pub reads_front : (all : List (List ℕ × List ℕ)) (asked now : List (List ℕ)) (faults : ℕ) (name : List ℕ) (limit : ℕ) (bytes : List ℕ) (r : Result (Vec ℕ Global) ReadEnd)
    → file_named all name ≡ Some bytes → now ≡ asked ++ name ∷ [] → HasFront bytes limit r → Reads (folder_state (Some all) asked faults) (folder_state (Some all) now faults) name limit r
reads_front all asked now faults name limit bytes (Ok front) found said h = (ap (option_map (λ b. take (limit + 1) b)) found ∙ ap Some h.0, h.1, said, refl)
reads_front all asked now faults name limit bytes (Err Failed) found said h = absurd h
reads_front all asked now faults name limit bytes (Err Memory) found said h = (inr (said, ap is_none found), refl)
