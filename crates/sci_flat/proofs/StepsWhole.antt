-- The numbers of a whole diagram.
use Rattle.std.proofs.Common.{◌≡◌, ◌<◌, ℕ, zero, suc, List, [], ◌∷◌, length, Ok, refl, sym, ap, ◌∙◌, subst, get_or, map, length-append, arith}
use Rattle.std.specs.List.{AllZip}
use Rattle.sci_diagram.specs.Objects.{Objects}
use Rattle.sci_blocks.specs.Blocks.{Placed, parts_of}
use Rattle.sci_blocks.specs.Wiring.{links_of}
use Rattle.sci_goto.specs.Phase.{standing}
use Rattle.sci_flat.specs.declared.steps.port_numbers.PortNumbers.{PortNumbers}
use Rattle.sci_flat.specs.declared.steps.numbered.Numbered.{Numbered}
use Rattle.sci_flat.specs.PortNumbers.{no_seat}
use Rattle.sci_flat.specs.Chain.{AllWithin}
use Rattle.sci_flat.specs.Ports.{tree_steps}
use Rattle.sci_flat.specs.Numbers.{Steps, seats, own_past, insides_past, steps_by, blocks_by, tags_by}
use Rattle.sci_flat.specs.Numbered.{IsSeat, IsStandingNumber, IsNumbered, named_step}
use Rattle.sci_flat.proofs.Listing.{own_names, inside_names, tree_names, past_own, past_insides}
use Rattle.sci_flat.proofs.Valid.{tree_ok}
use Rattle.sci_flat.proofs.Naming.{tree_named}
use Rattle.sci_flat.proofs.Finding.{distinct}
use Rattle.sci_flat.proofs.Placing.{tree_seats}
use Rattle.sci_flat.proofs.Tagging.{tree_tags}

pub zip_length : {A B : Type 0} (R : A → B → Type 0) (xs : List A) (ys : List B) → AllZip R xs ys → length xs ≡ length ys
zip_length R [] [] a = refl
zip_length R [] (y ∷ ys) a = absurd a
zip_length R (x ∷ xs) [] a = absurd a
zip_length R (x ∷ xs) (y ∷ ys) a = ap suc (zip_length R xs ys a.1)

pub zip_get : {A B : Type 0} (R : A → B → Type 0) (xs : List A) (ys : List B) (i : ℕ) (d : A) (e : B) → AllZip R xs ys → i < length xs → R (get_or xs i d) (get_or ys i e)
zip_get R [] ys i d e a h = absurd (omega arith)
zip_get R (x ∷ xs) [] i d e a h = absurd a
zip_get R (x ∷ xs) (y ∷ ys) zero d e a h = a.0
zip_get R (x ∷ xs) (y ∷ ys) (suc i) d e a h = zip_get R xs ys i d e a.1 (omega arith)

-- all the ports
ports_past : (t : Objects) → insides_past (own_past 0 t) t ≡ length (tree_names t)
ports_past t =
    let own = past_own [] 1 0 t in
    let inside = past_insides [] 1 (own_past 0 t) t in
    let both = length-append (own_names [] 1 t) (inside_names [] 1 t) in
    omega (arith, own, inside, both)

pub whole_numbered : (t : Objects) (ps : List Placed) (n : Numbered) → parts_of t ≡ Ok ps → links_of t ≡ Ok tt → n.ports ≡ insides_past (own_past 0 t) t → n.steps.items ≡ steps_by (seats 0 t) (no_seat 0) (seats 0 t) (own_past 0 t) t
    → n.blocks.items ≡ blocks_by (seats 0 t) (own_past 0 t) t → n.tags.items ≡ tags_by (seats 0 t) (own_past 0 t) t → IsNumbered t ps (tree_steps t) n
whole_numbered t ps n h l ports steps blocks tags =
    let ok = tree_ok t ps tt h l in
    let named = tree_named t ok.0 in
    let zip = tree_seats t ps ok.1 in
    let long : n.ports ≡ length (tree_names t) = ports ∙ ports_past t in
    let Within : ℕ → Type 0 = λ k. AllWithin k n.steps.items in
    let Tags : List ℕ → Type 0 = λ ns. AllZip (IsStandingNumber (tree_names t)) (standing t) ns in
    let Steps' : Steps → Type 0 = λ es. AllWithin (length (tree_names t)) es in
    record {
      names = tree_names t;
      long = sym long;
      distinct = λ i j h k e. distinct t i j (omega (arith, h, long)) (omega (arith, k, long)) e;
      within = subst Within (sym long) (subst Steps' (sym steps) named.within);
      steps = ap (map (named_step (tree_names t))) steps ∙ named.same;
      one_seat_each = ap length blocks ∙ sym (zip_length (IsSeat (tree_names t)) ps (blocks_by (seats 0 t) (own_past 0 t) t) zip);
      seats = λ b p s low is_p is_s.
          let P : List PortNumbers → Type 0 = λ xs. s ≡ get_or xs b s in
          let is : s ≡ get_or (blocks_by (seats 0 t) (own_past 0 t) t) b s = subst P blocks is_s in
          let r = zip_get (IsSeat (tree_names t)) ps (blocks_by (seats 0 t) (own_past 0 t) t) b p s zip low in
          let Q : Placed → Type 0 = λ x. IsSeat (tree_names t) x (get_or (blocks_by (seats 0 t) (own_past 0 t) t) b s) in
          let R : PortNumbers → Type 0 = λ x. IsSeat (tree_names t) p x in
          subst R (sym is) (subst Q (sym is_p) r);
      tags = subst Tags (sym tags) (tree_tags t);
    }
