-- What changes at a tick, part by part.
use Rattle.std.proofs.Common.{◌≡◌, ℕ, suc, ◌+◌, ◌-◌, ◌<◌, ◌≤◌, ℤ, List, [], ◌∷◌, ◌++◌, take, drop, length, get_or, true, false, inl, inr, refl, sym, ap, ◌∙◌, subst, arith, append_assoc, append-nil, length-drop}
use Rattle.std.proofs.Math.Seq.{take-add, take-length}
use Rattle.std.proofs.lemmas.List.{get_or-take, get_or-drop, drop_more, length-take, drop-drop}
use Rattle.std.proofs.lemmas.Bool.{cases_Bool}
use Rattle.sci_base.specs.Fit.{int_eq}
use Rattle.sci_vcd.specs.declared.signal.Signal.{Signal}
use Rattle.sci_vcd.specs.declared.signal.Change.{Change}
use Rattle.sci_vcd.specs.Waveforms.{type_of}
use Rattle.sci_vcd.specs.Spelling.{change_lines, next_tick, value_line}
use Rattle.sci_vcd.specs.Machine.{change_by}
use Rattle.sci_vcd.specs.Writing.{change_here, changes_at, changes_within, told_behind}
use Rattle.sci_vcd.proofs.Differing.{same_self}

-- ---- one signal

pub unchanged_here : (t k : ℕ) (v w : ℤ) → int_eq v w ≡ true → change_here t k v w ≡ []
unchanged_here t k v w e = rw e refl

pub changed_here : (t k : ℕ) (v w : ℤ) → int_eq v w ≡ false → change_here t k v w ≡ change_by t k w ∷ []
changed_here t k v w e = rw e refl

-- the tick is told behind it, where it was told before
pub told_here : (t k : ℕ) (v w : ℤ) → told_behind t (change_here t k v w) ≡ t
told_here t k v w =
    elim (cases_Bool (int_eq v w)) [
      | inl e ↦ ap (told_behind t) (unchanged_here t k v w e)
      | inr e ↦ ap (told_behind t) (changed_here t k v w e)
    ]

-- ---- parts

pub changes_at-append : (t k : ℕ) (vs ws us xs : List ℤ) → length vs ≡ length ws → changes_at t k (vs ++ us) (ws ++ xs) ≡ changes_at t k vs ws ++ changes_at t (k + length vs) us xs
changes_at-append t k [] [] us xs e = let z : k ≡ k + 0 = omega arith in ap (λ (j : ℕ). changes_at t j us xs) z
changes_at-append t k [] (w ∷ ws) us xs e = absurd (omega (arith, e))
changes_at-append t k (v ∷ vs) [] us xs e = absurd (omega (arith, e))
changes_at-append t k (v ∷ vs) (w ∷ ws) us xs e =
    let s : (k + 1) + length vs ≡ k + length (v ∷ vs) = omega arith in
    ap (λ (cs : List Change). change_here t k v w ++ cs) (changes_at-append t (k + 1) vs ws us xs (omega (arith, e)) ∙ ap (λ (j : ℕ). changes_at t (k + 1) vs ws ++ changes_at t j us xs) s)
    ∙ sym (append_assoc (change_here t k v w) (changes_at t (k + 1) vs ws) (changes_at t (k + length (v ∷ vs)) us xs))

-- what is the same doesn't change
pub changes_at_same : (t k : ℕ) (vs ws : List ℤ) (d : ℤ) → ((j : ℕ) → j < length vs → get_or vs j d ≡ get_or ws j d) → changes_at t k vs ws ≡ []
changes_at_same t k [] ws d h = refl
changes_at_same t k (v ∷ vs) [] d h = refl
changes_at_same t k (v ∷ vs) (w ∷ ws) d h =
    let z : v ≡ w = h 0 (omega arith) in
    let e : int_eq v w ≡ true = subst (λ (x : ℤ). int_eq v x ≡ true) z (same_self v) in
    ap (λ (cs : List Change). cs ++ changes_at t (k + 1) vs ws) (unchanged_here t k v w e) ∙ changes_at_same t (k + 1) vs ws d (λ j b. h (suc j) (omega (arith, b)))

part_split : (a b c : ℕ) (vs : List ℤ) → a ≤ b → b ≤ c → take (c - a) (drop a vs) ≡ take (b - a) (drop a vs) ++ take (c - b) (drop b vs)
part_split a b c vs h g =
    let e : c - a ≡ (b - a) + (c - b) = omega (arith, h, g) in
    let f : a + (b - a) ≡ b = omega (arith, h) in
    ap (λ (n : ℕ). take n (drop a vs)) e ∙ take-add (b - a) (c - b) (drop a vs)
    ∙ ap (λ (l : List ℤ). take (b - a) (drop a vs) ++ take (c - b) l) (drop-drop (b - a) a vs ∙ ap (λ (n : ℕ). drop n vs) f)

part_length : (a b : ℕ) (vs : List ℤ) → a ≤ b → b ≤ length vs → length (take (b - a) (drop a vs)) ≡ b - a
part_length a b vs h g = let l = length-drop a vs in let t = length-take (b - a) (drop a vs) in omega (arith, t, l, h, g)

pub within_split : (t a b c : ℕ) (vs ws : List ℤ) → a ≤ b → b ≤ c → c ≤ length vs → length ws ≡ length vs
    → changes_within t a c vs ws ≡ changes_within t a b vs ws ++ changes_within t b c vs ws
within_split t a b c vs ws h g f e =
    let lv = part_length a b vs h (omega (arith, g, f)) in
    let lw = part_length a b ws h (omega (arith, g, f, e)) in
    let n : (a + 1) + length (take (b - a) (drop a vs)) ≡ b + 1 = omega (arith, lv, h) in
    ap (λ (l : List ℤ). changes_at t (a + 1) l (take (c - a) (drop a ws))) (part_split a b c vs h g)
    ∙ ap (λ (l : List ℤ). changes_at t (a + 1) (take (b - a) (drop a vs) ++ take (c - b) (drop b vs)) l) (part_split a b c ws h g)
    ∙ changes_at-append t (a + 1) (take (b - a) (drop a vs)) (take (b - a) (drop a ws)) (take (c - b) (drop b vs)) (take (c - b) (drop b ws)) (lv ∙ sym lw)
    ∙ ap (λ (j : ℕ). changes_within t a b vs ws ++ changes_at t j (take (c - b) (drop b vs)) (take (c - b) (drop b ws))) n

pub within_one : (t a : ℕ) (vs ws : List ℤ) (v w d : ℤ) → a < length vs → length ws ≡ length vs → v ≡ get_or vs a d → w ≡ get_or ws a d
    → changes_within t a (a + 1) vs ws ≡ change_here t (a + 1) v w
within_one t a vs ws v w d h e is js =
    let one : (a + 1) - a ≡ 1 = omega arith in
    ap (λ (n : ℕ). changes_at t (a + 1) (take n (drop a vs)) (take n (drop a ws))) one
    ∙ ap (λ (l : List ℤ). changes_at t (a + 1) (take 1 l) (take 1 (drop a ws))) (drop_more vs a d h)
    ∙ ap (λ (l : List ℤ). changes_at t (a + 1) (get_or vs a d ∷ []) (take 1 l)) (drop_more ws a d (omega (arith, h, e)))
    ∙ append-nil (change_here t (a + 1) (get_or vs a d) (get_or ws a d))
    ∙ ap (λ (x : ℤ). change_here t (a + 1) x (get_or ws a d)) (sym is)
    ∙ ap (λ (x : ℤ). change_here t (a + 1) v x) (sym js)

pub within_none : (t a b : ℕ) (vs ws : List ℤ) → b ≤ a → changes_within t a b vs ws ≡ []
within_none t a b vs ws h = let z : b - a ≡ 0 = omega (arith, h) in ap (λ (n : ℕ). changes_at t (a + 1) (take n (drop a vs)) (take n (drop a ws))) z

pub within_all : (t c : ℕ) (vs ws : List ℤ) → length vs ≡ c → length ws ≡ c → changes_within t 0 c vs ws ≡ changes_at t 1 vs ws
within_all t c vs ws e f =
    let z : c - 0 ≡ c = omega arith in
    ap (λ (n : ℕ). changes_at t 1 (take n vs) (take n ws)) z
    ∙ ap (λ (l : List ℤ). changes_at t 1 l (take c ws)) (ap (λ (n : ℕ). take n vs) (sym e) ∙ take-length vs) ∙ ap (λ (l : List ℤ). changes_at t 1 vs l) (ap (λ (n : ℕ). take n ws) (sym f) ∙ take-length ws)

pub within_same : (t a b : ℕ) (vs ws : List ℤ) (d : ℤ) → a ≤ b → b ≤ length vs → ((k : ℕ) → a ≤ k → k < b → get_or vs k d ≡ get_or ws k d) → changes_within t a b vs ws ≡ []
within_same t a b vs ws d h g same =
    let l = part_length a b vs h g in
    changes_at_same t (a + 1) (take (b - a) (drop a vs)) (take (b - a) (drop a ws)) d (λ j below.
    let few : j < b - a = omega (arith, below, l) in
    get_or-take (b - a) (drop a vs) j d few ∙ get_or-drop a vs j d ∙ same (a + j) (omega arith) (omega (arith, few)) ∙ sym (get_or-drop a ws j d) ∙ sym (get_or-take (b - a) (drop a ws) j d few))

-- ---- lines

pub change_lines-append : (gs : List Signal) (told : ℕ) (cs ds : List Change) → change_lines gs told (cs ++ ds) ≡ change_lines gs told cs ++ change_lines gs (told_behind told cs) ds
change_lines-append gs told [] ds = refl
change_lines-append gs told (c ∷ cs) ds =
    let line = value_line (type_of gs c.signal) c.signal c.value in
    ap (λ (l : List (List ℕ)). next_tick told c.tick ++ (line ∷ l)) (change_lines-append gs c.tick cs ds)
    ∙ sym (append_assoc (next_tick told c.tick) (line ∷ change_lines gs c.tick cs) (change_lines gs (told_behind c.tick cs) ds))

pub told_behind-append : (told : ℕ) (cs ds : List Change) → told_behind told (cs ++ ds) ≡ told_behind (told_behind told cs) ds
told_behind-append told [] ds = refl
told_behind-append told (c ∷ cs) ds = told_behind-append c.tick cs ds
