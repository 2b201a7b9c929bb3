-- What tables of lists and agendas keep of their sizes.
use Rattle.std.proofs.Common.{◌≡◌, ℕ, zero, suc, List, [], ◌∷◌, Option, Some, None, length, refl, ap, sym, ◌∙◌, subst, arith}
use Rattle.std.specs.Prelude.{unwrap_or}
use Rattle.std.proofs.lemmas.List.{length-append, length-set}
use Rattle.sci_agenda.specs.Firing.{Meaning, first, taken_from, after_take, after_put}
use Rattle.sci_links.specs.Table.{Table, chain, changed, pushed, put_before, without, inserted, inserted_in, removed, removed_in, list_of, nothing, empty}
use Rattle.sci_graph_table.specs.Sized.{IsSized, IsAt}

-- ---- tables of lists

sized_changed : (t : Table) (lists nodes l : ℕ) (xs : List ℕ) → IsSized t lists nodes → IsSized (changed t l xs) lists nodes
sized_changed t lists nodes l xs s = record { lists_are = length-set t.lists l xs ∙ s.lists_are; nodes_are = s.nodes_are }

sized_inserted_in : (t : Table) (lists nodes : ℕ) (o : Option ℕ) (at x : ℕ) → IsSized t lists nodes → IsSized (inserted_in t o at x) lists nodes
sized_inserted_in t lists nodes None at x s = s
sized_inserted_in t lists nodes (Some l) at x s = sized_changed t lists nodes l (put_before at x (chain t l)) s

sized_removed_in : (t : Table) (lists nodes : ℕ) (o : Option ℕ) (x : ℕ) → IsSized t lists nodes → IsSized (removed_in t o x) lists nodes
sized_removed_in t lists nodes None x s = s
sized_removed_in t lists nodes (Some l) x s = sized_changed t lists nodes l (without x (chain t l)) s

length-nothing : (n : ℕ) → length (nothing n) ≡ n
length-nothing zero = refl
length-nothing (suc n) = omega (arith, length-append (nothing n) ([] ∷ []), length-nothing n)

pub sized_empty : (t : Table) (lists nodes : ℕ) → t ≡ empty lists nodes → IsSized t lists nodes
sized_empty t lists nodes e = rw e (record { lists_are = length-nothing lists; nodes_are = refl })

pub sized_pushed : (t u : Table) (lists nodes l x : ℕ) → IsSized t lists nodes → u ≡ pushed t l x → IsSized u lists nodes
sized_pushed t u lists nodes l x s e = subst (λ v. IsSized v lists nodes) (sym e) (sized_changed t lists nodes l _ s)

pub sized_inserted : (t u : Table) (lists nodes at x : ℕ) → IsSized t lists nodes → u ≡ inserted t at x → IsSized u lists nodes
sized_inserted t u lists nodes at x s e = subst (λ v. IsSized v lists nodes) (sym e) (sized_inserted_in t lists nodes (list_of t at) at x s)

pub sized_removed : (t u : Table) (lists nodes x : ℕ) → IsSized t lists nodes → u ≡ removed t x → IsSized u lists nodes
sized_removed t u lists nodes x s e = subst (λ v. IsSized v lists nodes) (sym e) (sized_removed_in t lists nodes (list_of t x) x s)

-- ---- agendas

taken_date : (m : Meaning) (es : List (ℕ × ℕ)) (date source : ℕ) → Some (date, source) ≡ first es → (taken_from m es).now ≡ date
taken_date m [] date source e = cc
taken_date m (x ∷ es) date source e = let none : ℕ × ℕ = (0, 0) in sym (ap (λ (o : Option (ℕ × ℕ)). (unwrap_or o none).0) e)

taken_none : (m : Meaning) (es : List (ℕ × ℕ)) → None ≡ first es → (taken_from m es).now ≡ m.now
taken_none m [] e = refl
taken_none m (x ∷ es) e = cc

taken_ports : (m : Meaning) (es : List (ℕ × ℕ)) → (taken_from m es).ports ≡ m.ports
taken_ports m [] = refl
taken_ports m (x ∷ es) = refl

pub at_event : (m n : Meaning) (date source now ports : ℕ) → IsAt m now ports → Some (date, source) ≡ first m.events → n ≡ after_take m → IsAt n date ports
at_event m n date source now ports a t e = rw e (record { now_is = taken_date m m.events date source t; ports_are = taken_ports m m.events ∙ a.ports_are })

pub at_none : (m n : Meaning) (now ports : ℕ) → IsAt m now ports → None ≡ first m.events → n ≡ after_take m → IsAt n now ports
at_none m n now ports a t e = rw e (record { now_is = taken_none m m.events t ∙ a.now_is; ports_are = taken_ports m m.events ∙ a.ports_are })

pub at_put : (m n : Meaning) (date source now ports : ℕ) → IsAt m now ports → n ≡ after_put m date source → IsAt n now ports
at_put m n date source now ports a e = rw e (record { now_is = a.now_is; ports_are = a.ports_are })
