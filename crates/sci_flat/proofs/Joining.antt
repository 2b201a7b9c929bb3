-- The steps of the tags by the numbers of the tag objects' ports.
use Rattle.std.proofs.Common.{◌≡◌, ◌<◌, ℕ, suc, pos, List, [], ◌∷◌, ◌++◌, length, map, Bool, true, false, cond, Option, Some, None, Ok, refl, sym, ap, ◌∙◌, subst, arith, get_or}
use Rattle.std.specs.Prelude.{All, find, flat_map}
use Rattle.std.specs.List.{AllZip}
use Rattle.std.proofs.lemmas.List.{get_or_default}
use Rattle.sci_diagram.specs.Objects.{Objects}
use Rattle.sci_blocks.specs.declared.class.LinkType.{LinkType}
use Rattle.sci_blocks.specs.declared.class.LinkType.TheVariants.{Regular, Activation}
use Rattle.sci_blocks.specs.Blocks.{Placed}
use Rattle.sci_blocks.specs.Wiring.{source_class, target_class}
use Rattle.sci_forms.specs.Forms.{or_else}
use Rattle.sci_goto.specs.declared.serving.Serving.{Serving}
use Rattle.sci_goto.specs.declared.tag.Tag.{Tag}
use Rattle.sci_goto.specs.declared.tag.TagForm.{TagForm}
use Rattle.sci_goto.specs.declared.tag.TagForm.TheVariants.{Gives, Takes}
use Rattle.sci_goto.specs.Phase.{Standing, standing, Giving, Taking, Tags, same_link, gives, server, tags_of}
use Rattle.sci_goto.specs.Serving.{no_standing, standing_at, taking_at, no_serving, serving_at, IsServing, AreServings}
use Rattle.sci_flat.specs.declared.steps.numbered.Numbered.{Numbered}
use Rattle.sci_flat.specs.Chain.{AllWithin}
use Rattle.sci_flat.specs.Ports.{Port, port, PortStep, tree_steps}
use Rattle.sci_flat.specs.Tagged.{tag_step, served_steps, tag_steps, all_steps}
use Rattle.sci_flat.specs.Numbered.{named_step, serving_step, IsTagNumber, IsStandingNumber, IsNumbered}
use Rattle.sci_flat.proofs.Naming.{Named, named_nil, named_append, named_one, both_true}
use Rattle.sci_flat.proofs.StepsWhole.{zip_get, zip_length}

-- ---- a tag and what serves it carry the same

alike : (a b : LinkType) → same_link a b ≡ true → a ≡ b
alike Regular Regular e = refl
alike Regular Activation e = cc
alike Activation Regular e = cc
alike Activation Activation e = refl

found : (f : Giving → Bool) (gs : List Giving) (g : Giving) → find f gs ≡ Some g → f g ≡ true
found f [] g e = cc
found f (x ∷ xs) g e = first (f x) refl e (found f xs g)
  where
    first : (b : Bool) → f x ≡ b → cond b (Some x) (find f xs) ≡ Some g → (find f xs ≡ Some g → f g ≡ true) → f g ≡ true
    first true p q ih = let is : x ≡ g = cc in subst (λ (y : Giving). f y ≡ true) is p
    first false p q ih = ih q

either_found : (a b : Option Giving) (g : Giving) (P : Type 0) → or_else a b ≡ Some g → (a ≡ Some g → P) → (b ≡ Some g → P) → P
either_found (Some x) b g P e f h = f e
either_found None b g P e f h = h e

gives_alike : (t : Tag) (w : Option (List ℕ)) (gs : List Giving) (g : Giving) → find (gives t w) gs ≡ Some g → g.tag.link ≡ t.link
gives_alike t w gs g e = alike g.tag.link t.link (both_true _ _ ((both_true _ _ (found (gives t w) gs g e)).0)).0

pub server_alike : (gs : List Giving) (t : Taking) (g : Giving) → server gs t ≡ Some g → g.tag.link ≡ t.tag.link
server_alike gs t g e = either_found (find (gives t.tag (Some t.around)) gs) (find (gives t.tag None) gs) g (g.tag.link ≡ t.tag.link) e (gives_alike t.tag (Some t.around) gs g) (gives_alike t.tag None gs g)

-- ---- the steps

-- the port of a tag object that says this
form_port : (names : List Port) (s : Standing) (form : TagForm) (n : ℕ) → s.form ≡ form → IsStandingNumber names s n → IsTagNumber names s.place form n
form_port names s form n e i = subst (λ (x : TagForm). IsTagNumber names s.place x n) e i

one_step : (names : List Port) (ss : List Standing) (numbers : List ℕ) → AllZip (IsStandingNumber names) ss numbers → (gs : List Giving) (t : Taking) (s : Serving) → IsServing ss gs t s → Named names (serving_step numbers s ∷ []) (tag_step t (server gs t))
one_step names ss numbers zip gs t s x =
    let g = x.giver.0 in
    let here = x.giver.2 in
    let from = form_port names (standing_at ss s.giver) (Gives g.tag here.1.0) (get_or numbers s.giver 0) here.1.1 (zip_get (IsStandingNumber names) ss numbers s.giver no_standing 0 zip x.giver_there) in
    let to = form_port names (standing_at ss s.taker) (Takes t.tag) (get_or numbers s.taker 0) x.taker.1 (zip_get (IsStandingNumber names) ss numbers s.taker no_standing 0 zip x.taker_there) in
    let source : port (standing_at ss s.giver).place (target_class g.tag.link) (pos 1) ≡ port g.place (target_class t.tag.link) (pos 1) =
    ap (λ (p : List ℕ). port p (target_class g.tag.link) (pos 1)) here.0 ∙ ap (λ (l : LinkType). port g.place (target_class l) (pos 1)) (server_alike gs t g x.giver.1) in
    let target : port (standing_at ss s.taker).place (source_class t.tag.link) (pos 1) ≡ port t.place (source_class t.tag.link) (pos 1) = ap (λ (p : List ℕ). port p (source_class t.tag.link) (pos 1)) x.taker.0 in
    subst (λ (o : Option Giving). Named names (serving_step numbers s ∷ []) (tag_step t o)) (sym x.giver.1)
    (named_one names _ _ _ _ from.inside to.inside (from.named ∙ source) (to.named ∙ target))

served_named : (names : List Port) (ss : List Standing) (numbers : List ℕ) → AllZip (IsStandingNumber names) ss numbers → (gs : List Giving) (ts : List Taking) (v : List Serving) → length v ≡ length ts
    → ((k : ℕ) → k < length ts → IsServing ss gs (taking_at ts k) (serving_at v k)) → Named names (map (serving_step numbers) v) (flat_map (λ t. tag_step t (server gs t)) ts)
served_named names ss numbers zip gs [] [] e each = named_nil names
served_named names ss numbers zip gs [] (s ∷ v) e each = absurd (omega (arith, e))
served_named names ss numbers zip gs (t ∷ ts) [] e each = absurd (omega (arith, e))
served_named names ss numbers zip gs (t ∷ ts) (s ∷ v) e each =
    named_append names (serving_step numbers s ∷ []) (map (serving_step numbers) v) (tag_step t (server gs t)) (flat_map (λ t. tag_step t (server gs t)) ts)
    (one_step names ss numbers zip gs t s (each 0 (omega arith)))
    (served_named names ss numbers zip gs ts v (omega (arith, e)) (λ k h. each (suc k) (omega arith)))

-- ---- the numbers with the steps of the tags

pub joined : (t : Objects) (ps : List Placed) (tags : Tags) (v : List Serving) (n m : Numbered) → IsNumbered t ps (tree_steps t) n → tags_of t ≡ Ok tags → AreServings (standing t) tags v
    → m.ports ≡ n.ports → m.steps.items ≡ n.steps.items ++ map (serving_step n.tags.items) v → m.blocks ≡ n.blocks → m.tags ≡ n.tags → IsNumbered t ps (all_steps t) m
joined t ps tags v n m num is served ports steps blocks same =
    let drawn : Named num.names n.steps.items (tree_steps t) = record { same = num.steps; within = subst (λ (k : ℕ). AllWithin k n.steps.items) (sym num.long) num.within } in
    let tagged = served_named num.names (standing t) n.tags.items num.tags tags.givers tags.takers v served.long served.each in
    let both = named_append num.names n.steps.items (map (serving_step n.tags.items) v) (tree_steps t) (served_steps tags) drawn tagged in
    let all : tree_steps t ++ served_steps tags ≡ all_steps t = ap (λ o. tree_steps t ++ tag_steps o) (sym is) in
    record {
      names = num.names;
      long = num.long ∙ sym ports;
      distinct = λ i j h k e. num.distinct i j (omega (arith, h, ports)) (omega (arith, k, ports)) e;
      within = subst (λ (es : List (ℕ × ℕ)). AllWithin m.ports es) (sym steps) (subst (λ (k : ℕ). AllWithin k (n.steps.items ++ map (serving_step n.tags.items) v)) (num.long ∙ sym ports) both.within);
      steps = ap (map (named_step num.names)) steps ∙ (both.same ∙ all);
      one_seat_each = ap (λ x. length x.items) blocks ∙ num.one_seat_each;
      seats = λ b p s low is_p is_s. num.seats b p s low is_p (is_s ∙ ap (λ x. get_or x.items b s) blocks);
      tags = subst (λ x. AllZip (IsStandingNumber num.names) (standing t) x.items) (sym same) num.tags;
    }

-- ---- each serving names tag objects that are there

pub givers_there : (t : Objects) (ps : List Placed) (es : List PortStep) (tags : Tags) (v : List Serving) (n : Numbered) → IsNumbered t ps es n → AreServings (standing t) tags v → All (λ s. s.giver < length n.tags.items) v
givers_there t ps es tags v n num served k d h =
    let x = served.each k (omega (arith, served.long)) in
    let long = zip_length (IsStandingNumber num.names) (standing t) n.tags.items num.tags in
    subst (λ (s : Serving). s.giver < length n.tags.items) (get_or_default v k no_serving d h) (omega (arith, long, x.giver_there))

pub takers_there : (t : Objects) (ps : List Placed) (es : List PortStep) (tags : Tags) (v : List Serving) (n : Numbered) → IsNumbered t ps es n → AreServings (standing t) tags v → All (λ s. s.taker < length n.tags.items) v
takers_there t ps es tags v n num served k d h =
    let x = served.each k (omega (arith, served.long)) in
    let long = zip_length (IsStandingNumber num.names) (standing t) n.tags.items num.tags in
    subst (λ (s : Serving). s.taker < length n.tags.items) (get_or_default v k no_serving d h) (omega (arith, long, x.taker_there))
