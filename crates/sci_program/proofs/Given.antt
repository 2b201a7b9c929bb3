-- What a block is given stands in memory where its text reads it.
use Rattle.std.proofs.Common.{◌≡◌, ℕ, zero, suc, ◌+◌, ◌-◌, ◌<◌, List, [], ◌∷◌, length, map, Some, true, false, refl, sym, ap, ◌∙◌, subst, arith, ℤ, pos, true≢false, slice_index_or}
use Rattle.std.proofs.Math.ListN.{get_or-append}
use Rattle.std.proofs.lemmas.List.{get_or-map, length-map, get_or-take, get_or-drop, get_or-append_right}
use Rattle.sci_base.specs.Lists.{at, listed}
use Rattle.sci_forms.specs.declared.Kind.{Kind}
use Rattle.sci_forms.specs.declared.Kind.TheVariants.{Dollar, Register, ModuloCount, GatedDelay, EvtDly, EvtVarDly}
use Rattle.sci_forms.specs.declared.ports.Port.{Port}
use Rattle.sci_forms.specs.Ports.{port_at, elements, total, before}
use Rattle.sci_forms.specs.Form.{has_state, has_delay}
use Rattle.sci_forms.specs.Words.{state_len_of}
use Rattle.sci_kinds.specs.Asks.{laid}
use Rattle.sci_kinds.proofs.Elements.{listed_at}
use Rattle.sci_net.specs.Parts.{Parts, IsBlock, IsInput, IsOutput, numbered, no_wire, spec_of, wire_of, output_of}
use Rattle.sci_net.specs.Net.{IsNet}
use Rattle.sci_reaction.specs.Equations.{Signals, input_in, output_among, all_inputs}
use Rattle.sci_span.specs.declared.span.Span.{Span}
use Rattle.sci_places.specs.Flat.{start_of}
use Rattle.sci_places.specs.Layout.{output_span}
use Rattle.sci_span.specs.Values.{no_span}
use Rattle.sci_places.proofs.Lists.{up_to}
use Rattle.c_mean.specs.Meaning.{World}
use Rattle.c_mean.specs.Places.{get}
use Rattle.sci_cgen_blocks.specs.Texts.{values, states, input_place}
use Rattle.sci_cgen_blocks.specs.Meant.{Holds, IsAny}
use Rattle.sci_program.specs.Program.{places_of}
use Rattle.sci_forms.specs.Form.{reads_mask}
use Rattle.sci_program.specs.Shows.{ShowsValues}

-- ---- the values on all inputs

-- element e of input k among them
pub laid_at : (ps : List Port) (xs : ℕ → List ℤ) (k e : ℕ) → k < length ps → e < elements (port_at ps k) → at (laid ps xs) (before ps k + e) ≡ at (xs (suc k)) e
laid_at [] xs k e h l = absurd (omega (arith, h))
laid_at (p ∷ ps) xs zero e h l =
    let g = listed_at (at (xs 1)) (elements p) in
    let z : 0 + e ≡ e = omega arith in
    ap (at (laid (p ∷ ps) xs)) z
    ∙ (get_or-append (listed (at (xs 1)) (elements p)) (laid ps (λ k. xs (suc k))) (pos 0) e (omega (arith, l, g.0)) ∙ g.1 e l)
laid_at (p ∷ ps) xs (suc k) e h l =
    let g = (listed_at (at (xs 1)) (elements p)).0 in
    let behind : elements p + before ps k + e - elements p ≡ before ps k + e = omega arith in
    get_or-append_right (listed (at (xs 1)) (elements p)) (laid ps (λ k. xs (suc k))) (elements p) (elements p + before ps k + e) (pos 0) g (omega arith)
    ∙ (ap (at (laid ps (λ k. xs (suc k)))) behind ∙ laid_at ps (λ k. xs (suc k)) k e (omega (arith, h)) l)

module _ (n : Parts) (net : IsNet n) (y : Signals) (long : (c : ℕ) → IsBlock n c → length (y c) ≡ total (spec_of n c).outs) (w : World)
    (shows : ShowsValues n y w) where
  -- element e of an output
  output_shown : (c p e : ℕ) → IsOutput n c p → e < elements (output_of n c p)
      → get w values (start_of n c + before (spec_of n c).outs (p - 1) + e) ≡ Some (at (output_among (spec_of n c).outs (y c) p) e)
  output_shown c zero e out l = absurd (omega (arith, out.least))
  output_shown c (suc q) e out l =
      let f : suc q - 1 ≡ q = omega arith in
      let fits = up_to (spec_of n c).outs q (omega (arith, out.most)) in
      let size = elements (port_at (spec_of n c).outs q) in
      let from = before (spec_of n c).outs q in
      subst (λ (j : ℕ). get w values (start_of n c + before (spec_of n c).outs j + e) ≡ Some (at (output_among (spec_of n c).outs (y c) (suc q)) e)) (sym f)
      (subst (λ (j : ℕ). get w values j ≡ Some (at (output_among (spec_of n c).outs (y c) (suc q)) e)) (omega arith)
      (shows.each c (from + e) out.block (omega (arith, l, fits))
      ∙ ap Some (sym (get_or-take size _ e (pos 0) l ∙ get_or-drop from (y c) e (pos 0)))))

  -- where the text of a block reads input k
  pub input_start : (b k : ℕ) → IsBlock n b → k < length (spec_of n b).ins → slice_index_or (places_of n b).ins k 0 ≡ (output_span n (wire_of n b (suc k))).start
  input_start b k block l =
      let ws = numbered [] n.wires b in
      let each = net.wired.one_wire_each b block in
      let all = length-map ws (output_span n) in
      get_or-map (λ (p : Span). p.start) (map (output_span n) ws) k no_span 0 (omega (arith, l, each, all))
      ∙ ap (λ (p : Span). p.start) (get_or-map (output_span n) ws k no_wire no_span (omega (arith, l, each)))

  pub input_shown : (b k e : ℕ) → IsBlock n b → k < length (spec_of n b).ins → e < elements (port_at (spec_of n b).ins k)
      → get w values (input_place (places_of n b) k e) ≡ Some (at (all_inputs (spec_of n b) (input_in n y b)) (before (spec_of n b).ins k + e))
  input_shown b k e block l r =
      let within : IsInput n b (suc k) = record { block = block; least = omega arith; most = omega (arith, l) } in
      let same : elements (output_of n (wire_of n b (suc k)).block (wire_of n b (suc k)).port) ≡ elements (port_at (spec_of n b).ins k) =
      ap elements (net.joined b (suc k) within) in
      ap (λ (j : ℕ). get w values (j + e)) (input_start b k block l)
      ∙ (output_shown (wire_of n b (suc k)).block (wire_of n b (suc k)).port e (net.wired.wires_lead b (suc k) within) (omega (arith, r, same))
      ∙ ap Some (sym (laid_at (spec_of n b).ins (input_in n y b) k e l r)))

  -- Memory holds what a block is given that doesn't read its mask.
  pub holds_unread : (b : ℕ) (x : List ℤ) → IsBlock n b → reads_mask (spec_of n b).kind ≡ false
      → ((i : ℕ) → i < state_len_of (spec_of n b).kind (spec_of n b) → get w states ((places_of n b).state + i) ≡ Some (at x i))
      → Holds (spec_of n b) (places_of n b) IsAny x 0 (all_inputs (spec_of n b) (input_in n y b)) w
  holds_unread b x block unread held = record {
    ins = λ k e l r wanted. input_shown b k e block l r;
    state = held;
    mask = λ looks. absurd (true≢false (sym looks ∙ unread));
    outs = λ e l. record { holds = at (y b) e; is = shows.each b e block l };
  }

-- ---- kinds with a state, kinds with delays

pub state_unread : (c : Kind) → has_state c ≡ true → reads_mask c ≡ false
state_unread Dollar h = refl
state_unread Register h = refl
state_unread ModuloCount h = refl
state_unread GatedDelay h = refl
state_unread _ h = absurd (true≢false (sym h))

pub delay_unread : (c : Kind) → has_delay c ≡ true → reads_mask c ≡ false
delay_unread EvtDly h = refl
delay_unread EvtVarDly h = refl
delay_unread _ h = absurd (true≢false (sym h))
