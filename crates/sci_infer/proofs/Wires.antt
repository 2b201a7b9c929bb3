-- The ties along wires.
use Rattle.std.proofs.Common.{ℕ, ◌≡◌, ◌+◌, ◌<◌, inl, inr, ⊎_elim, List, [], ◌∷◌, ◌++◌, length, Some, slice_get, get_or, subst, sym, refl, ap, ◌∙◌, arith, Contains}
use Rattle.std.proofs.lemmas.Option.{same_Some, slice_get_read}
use Rattle.std.proofs.lemmas.Bool.{cases_eq}
use Rattle.std.proofs.lemmas.List.Elements.{Contains-push, Contains-push_cases, Contains-append_left}
use Rattle.sci_infer.specs.Classes.{Joins}
use Rattle.sci_infer.specs.declared.classes.Tie.{Tie}
use Rattle.sci_net.specs.declared.Wire.{Wire}
use Rattle.sci_net.specs.Parts.{Parts, wire_of}
use Rattle.sci_infer.specs.declared.parts.PortPart.{PortPart}
use Rattle.sci_infer.specs.declared.parts.PartLayout.{PartLayout}
use Rattle.sci_infer.specs.declared.parts.Side.TheVariants.{Input, Output}
use Rattle.sci_infer.specs.Typing.{IsAt}
use Rattle.sci_infer.specs.PortParts.{parts_in, AreWired}
use Rattle.sci_infer.specs.Layout.{IsLayout, IsOutputAt}
use Rattle.sci_infer.specs.Ties.{IsWireTie, HasNoWireTie, WiresTied}

pub part_at : (n : Parts) (l : PartLayout) (i : ℕ) (p : PortPart) → IsLayout n l → i < length l.parts.items → p ≡ get_or l.parts.items i p → IsAt (parts_in n) i p
part_at n l i p ok inside is = subst (λ (ps : List PortPart). slice_get ps i ≡ Some p) ok.parts (slice_get_read l.parts.items (length l.parts.items) i p refl inside is)

pub wire_tie_is : (n : Parts) (i : ℕ) (p : PortPart) (w : Wire) (place : ℕ) → IsAt (parts_in n) i p → p.side ≡ Input → w ≡ wire_of n p.block p.port → IsOutputAt n w p.what place →
    IsWireTie n i (record { left = i; right = place })
wire_tie_is n i p w place at side wired o =
    record {
      from = refl;
      wired = record {
        input = p;
        output = record { block = w.block; side = Output; port = w.port; what = p.what; declared = o.declared };
        at_input = at;
        at_output = o.at;
        is_input = side;
        is_output = refl;
        wired = sym wired;
        same_part = refl;
      };
      only = λ j h.
          let same : h.input ≡ p = same_Some h.input p (sym h.at_input ∙ at) in
          let end : record { block = h.output.block; port = h.output.port } ≡ w =
          sym h.wired ∙ (ap (λ (q : PortPart). wire_of n q.block q.port) same ∙ sym wired) in
          o.only j h.output h.at_output (ap (λ (v : Wire). v.block) end) h.is_output (ap (λ (v : Wire). v.port) end) (sym h.same_part ∙ ap (λ (q : PortPart). q.what) same);
    }

pub no_wire_tie : (n : Parts) (i : ℕ) (p : PortPart) → IsAt (parts_in n) i p → p.side ≡ Output → HasNoWireTie n i
no_wire_tie n i p at side j h =
    let same : h.input ≡ p = same_Some h.input p (sym h.at_input ∙ at) in
    let clash : Input ≡ Output = sym h.is_input ∙ (ap (λ (q : PortPart). q.side) same ∙ side) in cc

pub wires_none : (n : Parts) (ties : List Tie) → WiresTied n 0 ties ties
wires_none n ties = record { kept = λ i j h. h; sound = λ i j h. inl h; complete = λ i j h w. absurd (omega (arith, h)) }

pub tie_is : (tie : Tie) (i j : ℕ) → tie.left ≡ i → tie.right ≡ j → tie ≡ record { left = i; right = j }
tie_is tie i j e f = let make : ℕ → ℕ → Tie = λ a b. record { left = a; right = b } in ap (λ a. make a tie.right) e ∙ ap (make i) f

pub wires_more : (n : Parts) (old now new : List Tie) (k : ℕ) (tie : Tie) → WiresTied n k old now → IsWireTie n k tie → new ≡ now ++ tie ∷ [] → WiresTied n (k + 1) old new
wires_more n old now new k tie before one is =
    record {
      kept = λ i j h. subst (λ (ts : List Tie). Joins ts i j) (sym is) (Contains-append_left now (tie ∷ []) (record { left = i; right = j }) (before.kept i j h));
      sound = λ i j h. ⊎_elim (λ old_one. before.sound i j old_one)
          (λ e. inr (subst (λ m. AreWired n m j) (sym one.from ∙ ap (λ (t : Tie). t.left) e) (subst (AreWired n k) (ap (λ (t : Tie). t.right) e) one.wired)))
          (Contains-push_cases now tie (record { left = i; right = j }) (subst (λ (ts : List Tie). Joins ts i j) is h));
      complete = λ i j h w. subst (λ (ts : List Tie). Joins ts i j) (sym is) (⊎_elim
          (λ e. let w' : AreWired n k j = subst (λ m. AreWired n m j) e w in
          subst (Contains (now ++ tie ∷ [])) (tie_is tie i j (one.from ∙ sym e) (sym (one.only j w'))) (Contains-push now tie))
          (λ other. Contains-append_left now (tie ∷ []) (record { left = i; right = j }) (before.complete i j (omega (arith, h, other)) w))
          (cases_eq i k));
    }

pub wires_kept : (n : Parts) (old now : List Tie) (k : ℕ) → WiresTied n k old now → HasNoWireTie n k → WiresTied n (k + 1) old now
wires_kept n old now k before none =
    record {
      kept = before.kept;
      sound = before.sound;
      complete = λ i j h w. ⊎_elim (λ e. absurd (none j (subst (λ m. AreWired n m j) e w))) (λ other. before.complete i j (omega (arith, h, other)) w) (cases_eq i k);
    }
