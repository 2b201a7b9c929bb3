-- The bounds of the subset are kept.
use Rattle.std.proofs.Common.{◌≡◌, List, [], ◌∷◌, filter, Bool, true, false, if◌then◌else◌, All}
use Rattle.std.proofs.lemmas.List.Elements.{All-nil, All-cons, All-head, All-tail}
use Rattle.c_ast.specs.Syntax.{Declared, Whole}
use Rattle.c_ast.specs.Bounds.{IsDeclared, IsWhole}
use Rattle.c_trim.specs.Trim.{is_kept, trimmed}
use Rattle.c_trim.specs.Laws.{WholeStays}

some_of : (test : Declared → Bool) (ds : List Declared) → All IsDeclared ds → All IsDeclared (filter test ds)
some_of test [] h = All-nil IsDeclared
some_of test (d ∷ ds) h = by_test (some_of test ds (All-tail IsDeclared d ds h)) (test d)
  where
    by_test : All IsDeclared (filter test ds) → (t : Bool) → All IsDeclared (if t then d ∷ filter test ds else filter test ds)
    by_test go true = All-cons IsDeclared d (filter test ds) (All-head IsDeclared d ds h) go
    by_test go false = go

pub whole_stays : WholeStays
whole_stays p whole = record {
  decls = some_of (λ (d : Declared). is_kept p d.name) p.decls whole.decls;
  funcs = whole.funcs;
  main = whole.main;
}
