-- Rows as they are read.
use Rattle.std.proofs.Common.{◌≡◌, ℕ, ◌<◌, List, [], length, slice_index_or, get_or, Vec, sym, ap, ◌∙◌}
use Rattle.std.specs.declared.alloc.Global.{Global}
use Rattle.std.proofs.lemmas.List.{get_or-map}
use Rattle.sci_reaction.specs.declared.entry.Entry.{Entry as Kept}
use Rattle.sci_sched.specs.Plain.{row_of, lists_of}

pub row_at : (rows : List (Vec Kept Global)) (i : ℕ) (v d : Vec Kept Global) → i < length rows → v ≡ get_or rows i d → row_of v.items ≡ slice_index_or (lists_of rows) i []
row_at rows i v d l e = ap (λ (u : Vec Kept Global). row_of u.items) e ∙ sym (get_or-map (λ (u : Vec Kept Global). row_of u.items) rows i d [] l)
