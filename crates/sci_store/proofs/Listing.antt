-- Lists of a row that are made one after the other.
use Rattle.std.proofs.Common.{◌≡◌, ℕ, ◌+◌, ◌-◌, ◌<◌, Bool, true, false, not, cond, ◌↔◌, ⊎_elim, inr, List, [], ◌∷◌, ◌++◌, length, get_or, set, take, drop, map, refl, sym, ap, ◌∙◌, arith, true≢false}
use Rattle.std.proofs.lemmas.List.{append-nil, get_or_default, map_more, take-append-drop, drop_more, drop_all, set_at, length-take-le}
use Rattle.std.proofs.lemmas.List.Elements.{filter_more}
use Rattle.sci_forms.specs.declared.Kind.{Kind}
use Rattle.sci_forms.specs.Form.{is_sync, is_sensor}
use Rattle.sci_net.specs.Parts.{Parts, IsBlock, spec_of}
use Rattle.sci_reaction.specs.declared.entry.Entry.{Entry}
use Rattle.sci_span.specs.Values.{IsLone}
use Rattle.sci_places.specs.Layout.{place_at}
use Rattle.sci_bank.specs.declared.runs.Call.{Call}
use Rattle.sci_store.specs.declared.row.CallRank.{CallRank}
use Rattle.sci_store.specs.declared.seats.Seat.{Seat}
use Rattle.sci_store.specs.Blocks.{AreBlocksByNumber}
use Rattle.sci_store.specs.Chosen.{of_kinds}
use Rattle.sci_store.specs.Frame.{Fixed, seat_of}
use Rattle.sci_store.specs.Rows.{IsAlone, call_of}
use Rattle.sci_store.specs.Ranks.{AreRanksOf, AreAt}

-- ---- calls

-- one call more
pub call_next : (f : Fixed) (entries : List Entry) (order : List CallRank) (k : ℕ) (d : CallRank) (e : Entry) (s : Seat) (calls new : List Call) → k < length order
    → s ≡ seat_of f (get_or order k d).block
    → ((depth : Entry → ℕ) (sorted : List Entry) → AreRanksOf f depth sorted order → AreAt entries order sorted → calls ≡ map (call_of f) (take k sorted))
    → new ≡ calls ++ record { slot = s.slot; block = (get_or order k d).block; mask = (get_or entries (get_or order k d).at e).mask } ∷ []
    → (depth : Entry → ℕ) (sorted : List Entry) → AreRanksOf f depth sorted order → AreAt entries order sorted → new ≡ map (call_of f) (take (k + 1) sorted)
call_next f entries order k d e s calls new l seat before is depth sorted ranks at =
    let within : k < length sorted = omega (arith, l, ranks.one_each) in
    let here : get_or entries (get_or order k d).at e ≡ get_or sorted k e = (at k e d l).1 in
    let block : (get_or order k d).block ≡ (get_or sorted k e).block = (ranks.ranks_are k e d within).block_is in
    is ∙ (ap (λ (cs : List Call). cs ++ record { slot = s.slot; block = (get_or order k d).block; mask = (get_or entries (get_or order k d).at e).mask } ∷ []) (before depth sorted ranks at)
    ∙ (ap (λ (t : Seat). map (call_of f) (take k sorted) ++ record { slot = t.slot; block = (get_or order k d).block; mask = (get_or entries (get_or order k d).at e).mask } ∷ []) seat
    ∙ (ap (λ (b : ℕ). map (call_of f) (take k sorted) ++ record { slot = (seat_of f b).slot; block = b; mask = (get_or entries (get_or order k d).at e).mask } ∷ []) block
    ∙ (ap (λ (x : Entry). map (call_of f) (take k sorted) ++ record { slot = (seat_of f (get_or sorted k e).block).slot; block = (get_or sorted k e).block; mask = x.mask } ∷ []) here
    ∙ sym (map_more (call_of f) sorted k e within)))))

-- ---- blocks of some kinds

pub block_there : {n : Parts} {xs : List ℕ} → AreBlocksByNumber n xs → (k : ℕ) → k < length xs → IsBlock n (get_or xs k 0)
block_there {xs = xs} h k l = h.blocks (get_or xs k 0) (k, l, get_or_default xs k (get_or xs k 0) 0 l)

pub kind_more : (n : Parts) (is : Kind → Bool) (xs some new : List ℕ) (k : ℕ) → k < length xs → is (spec_of n (get_or xs k 0)).kind ≡ true → some ≡ of_kinds n is (take k xs)
    → new ≡ some ++ get_or xs k 0 ∷ [] → new ≡ of_kinds n is (take (k + 1) xs)
kind_more n is xs some new k l on before e =
    e ∙ (ap (λ (bs : List ℕ). bs ++ get_or xs k 0 ∷ []) before
    ∙ (ap (λ (t : Bool). of_kinds n is (take k xs) ++ cond t (get_or xs k 0 ∷ []) []) (sym on) ∙ sym (filter_more (λ b. is (spec_of n b).kind) xs k 0 l)))

pub kind_less : (n : Parts) (is : Kind → Bool) (xs some : List ℕ) (k : ℕ) → k < length xs → is (spec_of n (get_or xs k 0)).kind ≡ false → some ≡ of_kinds n is (take k xs)
    → some ≡ of_kinds n is (take (k + 1) xs)
kind_less n is xs some k l off before =
    before ∙ (sym (append-nil (of_kinds n is (take k xs)))
    ∙ (ap (λ (t : Bool). of_kinds n is (take k xs) ++ cond t (get_or xs k 0 ∷ []) []) (sym off) ∙ sym (filter_more (λ b. is (spec_of n b).kind) xs k 0 l)))

-- ---- a block that is done by itself

not_lone : (lone : Bool) → not lone ≡ true → lone ≡ false
not_lone false h = refl
not_lone true h = absurd (true≢false (sym h))

pub alone_else : (f : Fixed) (b : ℕ) (lone : Bool) → is_sync (seat_of f b).kind ≡ false → is_sensor (seat_of f b).kind ≡ false → (lone ≡ true) ↔ IsLone (place_at f.layout b)
    → (not lone ≡ true → IsAlone f b) × (IsAlone f b → not lone ≡ true)
alone_else f b lone sync sensor h = (
  λ off. record { reason = inr (inr (λ is. true≢false (sym (h.1 is) ∙ not_lone lone off))) },
  λ alone. ⊎_elim (λ on. absurd (true≢false (sym on ∙ sync)))
      (λ other. ⊎_elim (λ on. absurd (true≢false (sym on ∙ sensor))) (λ out. by_flag lone (λ on. out (h.0 on))) other) alone.reason,
)
  where
    by_flag : (t : Bool) → (t ≡ true → ⊥) → not t ≡ true
    by_flag false g = refl
    by_flag true g = absurd (g refl)

-- ---- the last of a list

pub last_of : {A : Type 0} (xs : List A) (n : ℕ) (x : A) → n ≡ length xs → 0 < n → x ≡ get_or xs (n - 1) x → xs ≡ take (n - 1) xs ++ x ∷ []
last_of {A} xs n x e some is =
    let less : n - 1 < length xs = omega (arith, e, some) in
    let behind : n - 1 + 1 ≡ length xs = omega (arith, e, some) in
    sym (take-append-drop (n - 1) xs)
    ∙ ap (λ (l : List A). take (n - 1) xs ++ l)
    (drop_more xs (n - 1) x less ∙ (ap (λ (y : A). y ∷ drop (n - 1 + 1) xs) (sym is) ∙ ap (λ (l : List A). x ∷ l) (drop_all (n - 1 + 1) xs (omega (arith, behind)))))

-- the last one is changed
pub last_set : {A : Type 0} (xs : List A) (n : ℕ) (x y : A) → n ≡ length xs → 0 < n → x ≡ get_or xs (n - 1) x → set xs (n - 1) y ≡ take (n - 1) xs ++ y ∷ []
last_set {A} xs n x y e some is =
    ap (λ (l : List A). set l (n - 1) y) (last_of xs n x e some is) ∙ set_at (take (n - 1) xs) x [] y (n - 1) (length-take-le (n - 1) xs (omega (arith, e, some)))
