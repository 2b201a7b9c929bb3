-- The ties by equal negative numbers, and all ties together.
use Rattle.std.proofs.Common.{ℕ, ℤ, pos, ◌≡◌, ◌+◌, ◌-◌, ◌<◌, ◌≤◌, ◌<ℤ◌, inl, inr, ⊎_elim, List, [], ◌∷◌, ◌++◌, length, slice_get, get_or, subst, sym, refl, ap, ◌∙◌, arith, Contains}
use Rattle.std.proofs.lemmas.Option.{slice_get_within, same_Some}
use Rattle.std.proofs.lemmas.Bool.{cases_eq, cases_order}
use Rattle.std.proofs.lemmas.List.{get_or_read}
use Rattle.std.proofs.lemmas.List.Elements.{Contains-push, Contains-push_cases, Contains-append_left}
use Rattle.sci_infer.specs.Classes.{Joins, Tied, back}
use Rattle.sci_infer.specs.declared.classes.Tie.{Tie}
use Rattle.sci_infer.proofs.Trees.{Tied-by, Tied-one, Tied-equal}
use Rattle.sci_infer.specs.Values.{Has}
use Rattle.sci_infer.specs.declared.values.Resolution.{Resolution}
use Rattle.sci_infer.specs.declared.values.Resolution.TheVariants.{Conflict, Open, Values}
use Rattle.sci_net.specs.Parts.{Parts}
use Rattle.sci_infer.specs.declared.parts.PortPart.{PortPart}
use Rattle.sci_infer.specs.declared.parts.PartLayout.{PartLayout}
use Rattle.sci_infer.specs.Typing.{IsAt, IsAlike, is_type, Fits, Decides, declared_of}
use Rattle.sci_infer.specs.PortParts.{parts_in, AreShared, AreTied}
use Rattle.sci_infer.specs.Layout.{start_of, IsLayout}
use Rattle.sci_infer.specs.Ties.{IsLike, IsFirstLike, IsSharedTie, HasNoSharedTie, SharedTied, WiresTied, BeginsAt}
use Rattle.sci_infer.proofs.Places.{placed}
use Rattle.sci_infer.proofs.Wires.{tie_is}

like_refl : (p : PortPart) → IsLike p p
like_refl p = record { same_block = refl; same_kind = refl; same_number = refl }

like_sym : (p q : PortPart) → IsLike p q → IsLike q p
like_sym p q l = record { same_block = sym l.same_block; same_kind = sym l.same_kind; same_number = sym l.same_number }

like_trans : (p q r : PortPart) → IsLike p q → IsLike q r → IsLike p r
like_trans p q r l m = record { same_block = l.same_block ∙ m.same_block; same_kind = l.same_kind ∙ m.same_kind; same_number = l.same_number ∙ m.same_number }

-- a block's parts begin where its start says
pub begins : (n : Parts) (i : ℕ) (q : PortPart) → IsAt (parts_in n) i q → start_of n.specs (q.block - 1) ≤ i
begins n i q at = let a = placed n i q at in let e = a.at in omega (arith, e)

pub begins_at : (n : Parts) (i : ℕ) (q : PortPart) → IsAt (parts_in n) i q → BeginsAt (parts_in n) (start_of n.specs (q.block - 1)) i
begins_at n i q at k p r low at_k at_i like =
    let same : r ≡ q = same_Some r q (sym at_i ∙ at) in
    let block : p.block ≡ q.block = like.same_block ∙ ap (λ (x : PortPart). x.block) same in
    let b = begins n k p at_k in
    let s : start_of n.specs (p.block - 1) ≡ start_of n.specs (q.block - 1) = ap (λ (c : ℕ). start_of n.specs (c - 1)) block in
    omega (arith, low, b, s)

pub first_itself : (parts : List PortPart) (i : ℕ) (q : PortPart) → IsAt parts i q → ((k : ℕ) (p r : PortPart) → k < i → IsAt parts k p → IsAt parts i r → IsLike p r → ⊥) → IsFirstLike parts i i
first_itself parts i q at none = record { left = q; right = q; at_left = at; at_right = at; like = like_refl q; before = λ k p l a m. none k p q l a at m }

pub first_other : (parts : List PortPart) (i k : ℕ) (p q : PortPart) → IsAt parts k p → IsAt parts i q → IsLike p q → ((j : ℕ) (r s : PortPart) → j < k → IsAt parts j r → IsAt parts i s → IsLike r s → ⊥) → IsFirstLike parts i k
first_other parts i k p q at_k at_i like none = record { left = p; right = q; at_left = at_k; at_right = at_i; like = like; before = λ j r l a m. none j r q l a at_i m }

pub none_more : (parts : List PortPart) (i k : ℕ) (p q : PortPart) → IsAt parts k p → IsAt parts i q → (IsLike p q → ⊥) →
    ((j : ℕ) (r s : PortPart) → j < k → IsAt parts j r → IsAt parts i s → IsLike r s → ⊥) → (j : ℕ) (r s : PortPart) → j < k + 1 → IsAt parts j r → IsAt parts i s → IsLike r s → ⊥
none_more parts i k p q at_k at_i unlike none j r s h at_j at_s like =
    ⊎_elim
    (λ e. let rp : r ≡ p = same_Some r p (sym at_j ∙ (ap (slice_get parts) e ∙ at_k)) in
    let sq : s ≡ q = same_Some s q (sym at_s ∙ at_i) in
    unlike (subst (λ x. IsLike x q) rp (subst (λ x. IsLike r x) sq like)))
    (λ other. none j r s (omega (arith, h, other)) at_j at_s like)
    (cases_eq j k)

pub shared_none : (ps : List PortPart) (ties : List Tie) → SharedTied ps 0 ties ties
shared_none ps ties = record { kept = λ i j h. h; sound = λ i j h. inl h; firsts = λ i p h at neg. absurd (omega (arith, h)) }

shared_from : (ps : List PortPart) (k : ℕ) (tie : Tie) → IsSharedTie ps k tie → AreShared ps k tie.right
shared_from ps k tie one =
    let f = one.first in
    record {
      left = f.right;
      right = f.left;
      at_left = f.at_right;
      at_right = f.at_left;
      same_block = sym f.like.same_block;
      same_kind = sym f.like.same_kind;
      same_number = sym f.like.same_number;
      negative = one.negative;
    }

pub shared_more : (ps : List PortPart) (old now new : List Tie) (k : ℕ) (tie : Tie) → SharedTied ps k old now → IsSharedTie ps k tie → new ≡ now ++ tie ∷ [] → SharedTied ps (k + 1) old new
shared_more ps old now new k tie before one is =
    let more : (i j : ℕ) → Joins now i j → Joins new i j = λ i j h.
    subst (λ (ts : List Tie). Joins ts i j) (sym is) (Contains-append_left now (tie ∷ []) (record { left = i; right = j }) h) in
    record {
      kept = λ i j h. more i j (before.kept i j h);
      sound = λ i j h. ⊎_elim (λ old_one. before.sound i j old_one)
          (λ e. inr (subst (λ m. AreShared ps m j) (sym one.from ∙ ap (λ (t : Tie). t.left) e) (subst (AreShared ps k) (ap (λ (t : Tie). t.right) e) (shared_from ps k tie one))))
          (Contains-push_cases now tie (record { left = i; right = j }) (subst (λ (ts : List Tie). Joins ts i j) is h));
      firsts = λ i p h at neg. ⊎_elim
          (λ e. (
            tie.right,
            subst (λ m. IsFirstLike ps m tie.right) (sym e) one.first,
            subst (λ (ts : List Tie). Joins ts i tie.right) (sym is) (subst (Contains (now ++ tie ∷ [])) (tie_is tie i tie.right (one.from ∙ sym e) refl) (Contains-push now tie)),
          ))
          (λ other. let f = before.firsts i p (omega (arith, h, other)) at neg in (f.0, f.1, more i f.0 f.2))
          (cases_eq i k);
    }

pub shared_kept : (ps : List PortPart) (old now : List Tie) (k : ℕ) → SharedTied ps k old now → HasNoSharedTie ps k → SharedTied ps (k + 1) old now
shared_kept ps old now k before none =
    record {
      kept = before.kept;
      sound = before.sound;
      firsts = λ i p h at neg. ⊎_elim (λ e. absurd (none p (subst (λ m. IsAt ps m p) e at) neg)) (λ other. before.firsts i p (omega (arith, h, other)) at neg) (cases_eq i k);
    }

-- parts with one number have one first part
first_same : (parts : List PortPart) (i j f g : ℕ) → AreShared parts i j → IsFirstLike parts i f → IsFirstLike parts j g → f ≡ g
first_same parts i j f g s a b =
    let left : a.right ≡ s.left = same_Some a.right s.left (sym a.at_right ∙ s.at_left) in
    let right : s.right ≡ b.right = same_Some s.right b.right (sym s.at_right ∙ b.at_right) in
    let across : IsLike s.left s.right = record { same_block = s.same_block; same_kind = s.same_kind; same_number = s.same_number } in
    let both : IsLike a.right b.right = subst (λ x. IsLike x b.right) (sym left) (subst (IsLike s.left) right across) in
    ⊎_elim (λ e. e)
    (λ apart. absurd (⊎_elim
    (λ low. b.before f a.left low a.at_left (like_trans a.left a.right b.right a.like both))
    (λ high. a.before g b.left high b.at_left (like_trans b.left b.right a.right b.like (like_sym a.right b.right both))) apart))
    (cases_order f g)

-- a typing fits by joins exactly where it fits by others that tie the same
fits_by : (parts : List PortPart) (P Q : ℕ → ℕ → Type 0) → ((i j : ℕ) → Q i j → Tied P i j) → (t : ℕ → ℤ) → Fits parts P t → Fits parts Q t
fits_by parts P Q down t f = record { allowed = f.allowed; kept = f.kept; agree = λ i j s. Tied-equal P t f.agree (down i j s) }

has_by : (P Q : ℕ → ℕ → Type 0) → ((i j : ℕ) → P i j → Tied Q i j) → (ds : List ℤ) (i : ℕ) (v : ℤ) → Has P ds i v → Has Q ds i v
has_by P Q down ds i v h = record { at = h.at; within = h.within; tied = Tied-by P Q down h.tied; declares = h.declares; positive = h.positive }

pub inferred_by : (parts : List PortPart) (P Q : ℕ → ℕ → Type 0) → ((i j : ℕ) → P i j → Tied Q i j) → ((i j : ℕ) → Q i j → Tied P i j) → (v : Resolution) → Decides parts P v → Decides parts Q v
inferred_by parts P Q pq qp (Conflict at s) h = (
  (λ t f. h.0 t (fits_by parts Q P pq t f)),
  h.1,
  record {
    least = has_by P Q pq (declared_of parts) at s.least h.2.least;
    greatest = has_by P Q pq (declared_of parts) at s.greatest h.2.greatest;
    above = λ v k. h.2.above v (has_by Q P qp (declared_of parts) at v k);
    below = λ v k. h.2.below v (has_by Q P qp (declared_of parts) at v k);
    differ = h.2.differ;
  },
  λ i l v w a b. h.3 i l v w (has_by Q P qp (declared_of parts) i v a) (has_by Q P qp (declared_of parts) i w b),
)
inferred_by parts P Q pq qp (Open at) h = (
  h.0,
  record { one = h.1.one; other = h.1.other; one_fits = fits_by parts P Q qp h.1.one h.1.one_fits; other_fits = fits_by parts P Q qp h.1.other h.1.other_fits; differ = h.1.differ },
  λ i l t u f g. h.2 i l t u (fits_by parts Q P pq t f) (fits_by parts Q P pq u g),
)
inferred_by parts P Q pq qp (Values vs) h = (
  h.0,
  record { fits = fits_by parts P Q qp _ h.1.fits; only = λ u f i l. h.1.only u (fits_by parts Q P pq u f) i l },
)

-- the two lists of ties together
module _ (n : Parts) (none wired all : List Tie) (empty : (i j : ℕ) → Joins none i j → ⊥)
    (w : WiresTied n (length (parts_in n)) none wired) (s : SharedTied (parts_in n) (length (parts_in n)) wired all) where
  pub ties_sound : (i j : ℕ) → Joins all i j → AreTied n i j
  ties_sound i j h = ⊎_elim (λ a. ⊎_elim (λ b. absurd (empty i j b)) (λ b. inl b) (w.sound i j a)) (λ a. inr a) (s.sound i j h)

  pub ties_complete : (i j : ℕ) → AreTied n i j → Tied (Joins all) i j
  ties_complete i j (inl h) = Tied-one (Joins all) (s.kept i j (w.complete i j (slice_get_within (parts_in n) i h.input h.at_input) h))
  ties_complete i j (inr h) =
      let negative_right : h.right.declared <ℤ pos 0 = subst (λ v. v <ℤ pos 0) h.same_number h.negative in
      let f = s.firsts i h.left (slice_get_within (parts_in n) i h.left h.at_left) h.at_left h.negative in
      let g = s.firsts j h.right (slice_get_within (parts_in n) j h.right h.at_right) h.at_right negative_right in
      let one : f.0 ≡ g.0 = first_same (parts_in n) i j f.0 g.0 h f.1 g.1 in
      back (subst (Tied (Joins all) i) one (Tied-one (Joins all) f.2)) g.2

pub tied_alike : (n : Parts) (i j : ℕ) → AreTied n i j → IsAlike (parts_in n) i j
tied_alike n i j (inl h) = record { left = h.input; right = h.output; at_left = h.at_input; at_right = h.at_output; same_kind = ap is_type h.same_part }
tied_alike n i j (inr h) = record { left = h.left; right = h.right; at_left = h.at_left; at_right = h.at_right; same_kind = h.same_kind }

-- what the tie of a place needs, in the code's terms
pub record SharedHere (n : Parts) (l : PartLayout) (i : ℕ) (p : PortPart) (s : ℕ) : Type 0 where
  pub low : s ≤ i
  pub begins : BeginsAt l.parts.items s i

pub shared_here : (n : Parts) (l : PartLayout) (i : ℕ) (p : PortPart) (s : ℕ) → IsLayout n l → IsAt (parts_in n) i p → s ≡ get_or l.starts.items (p.block - 1) s → SharedHere n l i p s
shared_here n l i p s ok at is =
    let a = placed n i p at in
    let least = a.block.least in let most = a.block.most in
    let inside : p.block - 1 < length n.specs = omega (arith, least, most) in
    let m = ok.enough in
    let e : s ≡ start_of n.specs (p.block - 1) = get_or_read l.starts.items (p.block - 1) s (omega (arith, inside, m)) is 0 ∙ ok.starts (p.block - 1) inside in
    let b = begins n i p at in
    record {
      low = omega (arith, b, e);
      begins = subst (λ (ps : List PortPart). BeginsAt ps s i) (sym ok.parts) (subst (λ k. BeginsAt (parts_in n) k i) (sym e) (begins_at n i p at));
    }

pub shared_tie_is : (ps : List PortPart) (i k : ℕ) (p : PortPart) → IsAt ps i p → p.declared <ℤ pos 0 → IsFirstLike ps i k → IsSharedTie ps i (record { left = i; right = k })
shared_tie_is ps i k p at negative first =
    let same : first.right ≡ p = same_Some first.right p (sym first.at_right ∙ at) in
    record { from = refl; first = first; negative = subst (λ (q : PortPart). q.declared <ℤ pos 0) (sym same) negative }
