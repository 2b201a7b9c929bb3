-- From the answers of the calls to the flat net.
use Rattle.std.proofs.Common.{◌≡◌, ◌<◌, ◌≤◌, ◌+◌, ℕ, List, [], ◌∷◌, ◌++◌, length, map, get_or, Vec, inr, refl, sym, ap, ◌∙◌, subst, arith, Ok, Err}
use Rattle.std.specs.Prelude.{All}
use Rattle.std.specs.declared.alloc.Global.{Global}
use Rattle.std.proofs.lemmas.List.{length-map, get_or_default}
use Rattle.std.proofs.lemmas.List.Elements.{Contains-get_or}
use Rattle.sci_base.specs.Plain.{Violation, violation_of}
use Rattle.sci_base.specs.Outcome.{◌>>=◌}
use Rattle.sci_base.specs.declared.refusal.Place.{Place}
use Rattle.sci_diagram.specs.Objects.{Objects}
use Rattle.sci_forms.specs.declared.spec.Spec.{Spec}
use Rattle.sci_check.specs.Laws.{CheckedLaw}
use Rattle.sci_net.specs.declared.Wire.{Wire}
use Rattle.sci_net.specs.declared.Feed.{Feed}
use Rattle.sci_net.specs.Parts.{no_spec, paths_of, rows_of, parts_of as net_parts}
use Rattle.sci_blocks.specs.declared.class.PortClass.{PortClass}
use Rattle.sci_blocks.specs.declared.class.PortClass.TheVariants.{Input, Output, ActivationInput, ActivationOutput}
use Rattle.sci_blocks.specs.Blocks.{Placed, placed, parts_in, parts_of}
use Rattle.sci_blocks.specs.Wiring.{links_of}
use Rattle.sci_goto.specs.Phase.{tags_of}
use Rattle.sci_flat.specs.Lists.{list_at}
use Rattle.sci_flat.specs.declared.steps.port_numbers.PortNumbers.{PortNumbers}
use Rattle.sci_flat.specs.declared.steps.numbered.Numbered.{Numbered}
use Rattle.sci_flat.specs.PortNumbers.{start, count, no_seat}
use Rattle.sci_flat.specs.Numbered.{IsNumbered}
use Rattle.sci_flat.specs.Tagged.{all_steps}
use Rattle.sci_flat.proofs.Valid.{then_ok, tree_ok}
use Rattle.sci_base.specs.declared.stop.Stop.{Stop}
use Rattle.sci_base.specs.declared.stop.Stop.TheVariants.{Refused, Memory}
use Rattle.sci_flat.specs.Ends.{IsInside, AreFeeding}
use Rattle.sci_flat.specs.Wired.{seat_of, AllWired, AllFed, BreaksAt}
use Rattle.sci_flat.specs.Placed.{placed_all}
use Rattle.sci_flat.specs.Ready.{IsReady}
use Rattle.sci_base.specs.Stops.{StopsBy}
use Rattle.sci_flat.specs.Answer.{IsFlattened}
use Rattle.sci_flat.specs.Refused.{Breaks}
use Rattle.sci_flat.specs.Flat.{blocks}
use Rattle.sci_flat.proofs.Meaning.{number_listed}
use Rattle.sci_flat.proofs.Net.{broken}
use Rattle.sci_flat.proofs.Formed.{all_good, parts_few}
use Rattle.sci_flat.proofs.Whole.{Made}

-- the blocks, where no tag, no object and no link breaks a rule
pub blocks_found : (t : Objects) (ps : List Placed) → blocks t ≡ Ok ps → (parts_of t ≡ Ok ps) × (links_of t ≡ Ok tt)
blocks_found t ps h =
    let g = then_ok (tags_of t) (λ _. parts_of t >>= λ ps. links_of t >>= λ _. Ok ps) ps h in
    let a = then_ok (parts_of t) (λ ps. links_of t >>= λ _. Ok ps) ps g.2 in
    let b = then_ok (links_of t) (λ _. Ok a.0) ps a.2 in
    let is : a.0 ≡ ps = cc in
    (a.1 ∙ ap Ok is, b.1)

in_tree : (t : Objects) (ps : List Placed) → blocks t ≡ Ok ps → parts_in [] 1 t ≡ Ok ps
in_tree t ps h = let a = blocks_found t ps h in (tree_ok t ps tt a.0 a.1).1

pub blocks_few : (t : Objects) (ps : List Placed) → IsReady t → blocks t ≡ Ok ps → length ps ≤ 2048
blocks_few t ps r h = let few = parts_few [] 1 t ps (in_tree t ps h) in omega (arith, few, r.few)

-- ---- specs and places apart

pub placed_specs : (ss : List Spec) (qs : List Place) → length qs ≡ length ss → ss ≡ map (λ p. p.spec) (placed_all ss qs)
placed_specs [] qs h = refl
placed_specs (s ∷ ss) [] h = absurd (omega arith)
placed_specs (s ∷ ss) (q ∷ qs) h = ap (λ (l : List Spec). s ∷ l) (placed_specs ss qs (omega arith))

pub placed_paths : (ss : List Spec) (qs : List Place) → length qs ≡ length ss → paths_of qs ≡ map (λ p. p.place) (placed_all ss qs)
placed_paths [] [] h = refl
placed_paths [] (q ∷ qs) h = absurd (omega arith)
placed_paths (s ∷ ss) [] h = absurd (omega arith)
placed_paths (s ∷ ss) (q ∷ qs) h = ap (λ (l : List (List ℕ)). q.path.items ∷ l) (placed_paths ss qs (omega arith))

pub placed_long : (ss : List Spec) (qs : List Place) → length qs ≡ length ss → length (placed_all ss qs) ≡ length ss
placed_long ss qs h = sym (ap length (placed_specs ss qs h) ∙ length-map (placed_all ss qs) _)

pub placed_push : (ss : List Spec) (qs : List Place) (s : Spec) (q : Place) → length qs ≡ length ss → placed_all (ss ++ s ∷ []) (qs ++ q ∷ []) ≡ placed_all ss qs ++ placed q.path.items s ∷ []
placed_push [] [] s q h = refl
placed_push [] (p ∷ qs) s q h = absurd (omega arith)
placed_push (r ∷ ss) [] s q h = absurd (omega arith)
placed_push (r ∷ ss) (p ∷ qs) s q h = ap (λ (l : List Placed). placed p.path.items r ∷ l) (placed_push ss qs s q (omega arith))

-- ---- what the calls want

module _ (t : Objects) (ps : List Placed) (n : Numbered) (num : IsNumbered t ps (all_steps t) n) where
  seats_inside : All (IsInside n.ports) n.blocks.items
  seats_inside b d h c k l =
      let low : b < length ps = omega (arith, h, num.one_seat_each) in
      let p : Placed = get_or ps b (placed [] no_spec) in
      let s = num.seats b (get_or ps b (placed [] no_spec)) (get_or n.blocks.items b d) low (get_or_default ps b (placed [] no_spec) (get_or ps b (placed [] no_spec)) low) (get_or_default n.blocks.items b d (get_or n.blocks.items b d) h) in
      omega (arith, s.inside c k l, num.long)

  pub inside_for : (ss : List PortNumbers) → ss ≡ n.blocks.items → All (IsInside n.ports) ss
  inside_for ss e = let P : List PortNumbers → Type 0 = All (IsInside n.ports) in subst P (sym e) seats_inside

  pub few_for : (ss : List PortNumbers) → ss ≡ n.blocks.items → length ps ≤ 2048 → length ss ≤ 2048
  few_for ss e h = let long = ap length e in omega (arith, long, h, num.one_seat_each)

  pub long_for : (ss : List PortNumbers) → ss ≡ n.blocks.items → length ss ≡ length ps
  long_for ss e = ap length e ∙ num.one_seat_each

pub there_for : (ss : List PortNumbers) (es : List (ℕ × ℕ)) (ports : ℕ) (from to : PortClass) (feeds : List Feed) (lists : List (List ℕ)) → AreFeeding ss es ports from to feeds lists
    → (b k : ℕ) → b < length ss → k < count (seat_of ss b) to → All (λ i. i < length feeds) (list_at lists (start (seat_of ss b) to + k))
there_for ss es ports from to feeds lists f b k h l j d m =
    let q = start (seat_of ss b) to + k in
    ((f.exactly q (get_or (list_at lists q) j d) (number_listed to ss b k h l)).0 (Contains-get_or (list_at lists q) j d m)).0

pub inside_lists : (ss : List PortNumbers) (ports m : ℕ) (c : PortClass) → All (IsInside ports) ss → m ≡ ports → (b k : ℕ) → b < length ss → k < count (seat_of ss b) c → start (seat_of ss b) c + k < m
inside_lists ss ports m c all e b k h l = let low = all b (no_seat 0) h c k l in omega (arith, low)

-- ---- the answers

pub stop_flattened : (t : Objects) (P : Violation → Type 0) (e : Stop) → ((v : Violation) → P v → Breaks t v) → StopsBy P e → IsFlattened t (Err e)
stop_flattened t P (Refused r) f s = f (violation_of r) s
stop_flattened t P Memory f s = tt

pub wires_stop : (t : Objects) (specs : List Spec) (places : List Place) (n : Numbered) (num : IsNumbered t (placed_all specs places) (all_steps t) n) → blocks t ≡ Ok (placed_all specs places) → length places ≡ length specs → (ss : List PortNumbers) (es : List (ℕ × ℕ)) → ss ≡ n.blocks.items → es ≡ n.steps.items
    → (feeds : List Feed) (lists : List (List ℕ)) → AreFeeding ss es n.ports Output Input feeds lists → (specs' : List Spec) (places' : List Place) → specs' ≡ specs → places' ≡ places → (e : Stop) → StopsBy (BreaksAt lists ss specs' (paths_of places')) e → IsFlattened t (Err e)
wires_stop t specs places n num found long ss es ss_is es_is feeds lists fed specs' places' specs_is places_is e s =
    let ps = placed_all specs places in
    let P : List PortNumbers → Type 0 = λ x. AreFeeding x es n.ports Output Input feeds lists in
    let Q : List (ℕ × ℕ) → Type 0 = λ x. AreFeeding n.blocks.items x n.ports Output Input feeds lists in
    let A : List PortNumbers → Type 0 = λ x. StopsBy (BreaksAt lists x specs' (paths_of places')) e in
    let B : List Spec → Type 0 = λ x. StopsBy (BreaksAt lists n.blocks.items x (paths_of places')) e in
    let C : List Place → Type 0 = λ x. StopsBy (BreaksAt lists n.blocks.items specs (paths_of x)) e in
    stop_flattened t (BreaksAt lists n.blocks.items specs (paths_of places)) e
    (λ v b. inr (ps, found, broken t ps n num specs (placed_specs specs places long) feeds lists (subst Q es_is (subst P ss_is fed)) (paths_of places) (placed_paths specs places long) v b))
    (subst C places_is (subst B specs_is (subst A ss_is s)))

pub made : CheckedLaw → (t : Objects) (specs : List Spec) (places : List Place) (n : Numbered) → IsReady t → IsNumbered t (placed_all specs places) (all_steps t) n → blocks t ≡ Ok (placed_all specs places) → length places ≡ length specs → (ss : List PortNumbers) (es : List (ℕ × ℕ)) → ss ≡ n.blocks.items → es ≡ n.steps.items
    → (feeds : List Feed) (lists : List (List ℕ)) → AreFeeding ss es n.ports Output Input feeds lists → (specs' : List Spec) → specs' ≡ specs → (wires : List (Vec Wire Global)) → AllWired feeds lists ss specs' (length ss) (rows_of wires)
    → (acts : List Feed) (act_lists : List (List ℕ)) → AreFeeding ss es n.ports ActivationOutput ActivationInput acts act_lists → (rows : List (List (List Feed))) → AllFed acts act_lists ss (length ss) rows
    → Made t (placed_all specs places) n (net_parts specs places wires rows)
made law t specs places n ready num found long ss es ss_is es_is feeds lists fed specs' specs_is wires wired acts act_lists act_fed rows all =
    let P : List PortNumbers → Type 0 = λ x. AreFeeding x es n.ports Output Input feeds lists in
    let Q : List (ℕ × ℕ) → Type 0 = λ x. AreFeeding n.blocks.items x n.ports Output Input feeds lists in
    let R : List PortNumbers → Type 0 = λ x. AreFeeding x es n.ports ActivationOutput ActivationInput acts act_lists in
    let S : List (ℕ × ℕ) → Type 0 = λ x. AreFeeding n.blocks.items x n.ports ActivationOutput ActivationInput acts act_lists in
    let A : List PortNumbers → Type 0 = λ x. AllWired feeds lists x specs' (length x) (rows_of wires) in
    let B : List Spec → Type 0 = λ x. AllWired feeds lists n.blocks.items x (length n.blocks.items) (rows_of wires) in
    let C : List PortNumbers → Type 0 = λ x. AllFed acts act_lists x (length x) rows in
    record {
      num = num;
      blocks = found;
      few = blocks_few t (placed_all specs places) ready found;
      good = all_good law [] 1 t (placed_all specs places) (in_tree t (placed_all specs places) found) ready.small;
      specs = placed_specs specs places long;
      paths = placed_paths specs places long;
      ends = feeds;
      lists = lists;
      fed = subst Q es_is (subst P ss_is fed);
      wired = subst B specs_is (subst A ss_is wired);
      acts = acts;
      act_lists = act_lists;
      act_fed = subst S es_is (subst R ss_is act_fed);
      all = subst C ss_is all;
    }
