-- Lists whose items are put in one by one.
use Rattle.std.proofs.Common.{◌≡◌, ℕ, ◌+◌, ◌^◌, ◌≤◌, ℤ, List, [], ◌∷◌, ◌++◌, length, refl, sym, ap, ◌∙◌, subst, arith, append_assoc, append-nil}
use Rattle.std.specs.Prelude.{nat_eq, if◌then◌else◌}
use Rattle.std.proofs.lemmas.List.{length_push}
use Rattle.sci_vcd.specs.declared.signal.Signal.{Signal}
use Rattle.sci_vcd.specs.declared.signal.Change.{Change}
use Rattle.sci_vcd.specs.Waveforms.{Each, type_of, Joins, AreSignals, Follows, last_from, value_behind}
use Rattle.sci_vcd.specs.Spelling.{signal_line, value_line, signal_lines, value_lines, next_tick, change_lines}

-- one item more
pub each_push : {A : Type 0} (P : List A → A → Type 0) (before xs : List A) (x : A) → Each P before xs → P (before ++ xs) x → Each P before (xs ++ x ∷ [])
each_push {A} P before [] x e p = (subst (λ (l : List A). P l x) (append-nil before) p, tt)
each_push {A} P before (y ∷ xs) x e p = (e.0, each_push P (before ++ y ∷ []) xs x e.1 (subst (λ (l : List A). P l x) (sym (append_assoc before (y ∷ []) xs)) p))

-- and some items more
pub each-append : {A : Type 0} (P : List A → A → Type 0) (before xs ys : List A) → Each P before xs → Each P (before ++ xs) ys → Each P before (xs ++ ys)
each-append {A} P before [] ys e f = subst (λ (l : List A). Each P l ys) (append-nil before) f
each-append {A} P before (x ∷ xs) ys e f = (e.0, each-append P (before ++ x ∷ []) xs ys e.1 (subst (λ (l : List A). Each P l ys) (sym (append_assoc before (x ∷ []) xs)) f))

-- ---- how many signals there are

signals_most : (before gs : List Signal) → Each Joins before gs → length before ≤ 65536 → length before + length gs ≤ 65536
signals_most before [] e h = omega arith
signals_most before (g ∷ gs) e h =
    let few = e.0.few in
    let more = length_push before g in
    let i = signals_most (before ++ g ∷ []) gs e.1 (omega arith) in
    omega arith

pub signals_few : (gs : List Signal) → AreSignals gs → length gs ≤ 65536
signals_few gs e = let i = signals_most [] gs e (omega arith) in omega arith

-- ---- the last change

pub last_push : (c : Change) (cs : List Change) (d : Change) → last_from c (cs ++ d ∷ []) ≡ d
last_push c [] d = refl
last_push c (e ∷ cs) d = last_push e cs d

-- no tick is later than 2^62
pub last_early : (gs : List Signal) (first : List ℤ) (before cs : List Change) (c : Change) → Each (Follows gs first) before cs → c.tick ≤ 2 ^ 62 → (last_from c cs).tick ≤ 2 ^ 62
last_early gs first before [] c e h = h
last_early gs first before (d ∷ cs) c e h = last_early gs first (before ++ d ∷ []) cs d e.1 e.0.early

pub value_push : (v : ℤ) (n : ℕ) (cs : List Change) (c : Change) → value_behind v n (cs ++ c ∷ []) ≡ (if nat_eq c.signal n then c.value else value_behind v n cs)
value_push v n [] c = refl
value_push v n (d ∷ cs) c = value_push (if nat_eq d.signal n then d.value else v) n cs c

-- ---- lines

pub signal_lines-push : (n : ℕ) (gs : List Signal) (g : Signal) → signal_lines n (gs ++ g ∷ []) ≡ signal_lines n gs ++ signal_line (n + length gs) g ∷ []
signal_lines-push n [] g = let e : n ≡ n + 0 = omega arith in ap (λ (k : ℕ). signal_line k g ∷ []) e
signal_lines-push n (h ∷ gs) g =
    let e : (n + 1) + length gs ≡ n + length (h ∷ gs) = omega arith in
    ap (λ (l : List (List ℕ)). signal_line n h ∷ l) (signal_lines-push (n + 1) gs g) ∙ ap (λ (k : ℕ). signal_line n h ∷ (signal_lines (n + 1) gs ++ signal_line k g ∷ [])) e

pub value_lines-push : (gs : List Signal) (n : ℕ) (vs : List ℤ) (v : ℤ) → value_lines gs n (vs ++ v ∷ []) ≡ value_lines gs n vs ++ value_line (type_of gs (n + length vs)) (n + length vs) v ∷ []
value_lines-push gs n [] v = let e : n ≡ n + 0 = omega arith in ap (λ (k : ℕ). value_line (type_of gs k) k v ∷ []) e
value_lines-push gs n (u ∷ vs) v =
    let e : (n + 1) + length vs ≡ n + length (u ∷ vs) = omega arith in
    ap (λ (l : List (List ℕ)). value_line (type_of gs n) n u ∷ l) (value_lines-push gs (n + 1) vs v)
    ∙ ap (λ (k : ℕ). value_line (type_of gs n) n u ∷ (value_lines gs (n + 1) vs ++ value_line (type_of gs k) k v ∷ [])) e

pub change_lines-push : (gs : List Signal) (c : Change) (cs : List Change) (d : Change)
    → change_lines gs c.tick (cs ++ d ∷ []) ≡ change_lines gs c.tick cs ++ (next_tick (last_from c cs).tick d.tick ++ (value_line (type_of gs d.signal) d.signal d.value ∷ []))
change_lines-push gs c [] d = refl
change_lines-push gs c (e ∷ cs) d =
    let line = value_line (type_of gs e.signal) e.signal e.value in
    let more = next_tick (last_from e cs).tick d.tick ++ (value_line (type_of gs d.signal) d.signal d.value ∷ []) in
    ap (λ (l : List (List ℕ)). next_tick c.tick e.tick ++ (line ∷ l)) (change_lines-push gs e cs d) ∙ sym (append_assoc (next_tick c.tick e.tick) (line ∷ change_lines gs e.tick cs) more)
