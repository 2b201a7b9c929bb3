-- The calls of active blocks, put in front of the room for calls.
use Rattle.std.proofs.Common.{◌≡◌, ℕ, ◌+◌, ◌<◌, ◌≤◌, true, false, List, [], ◌∷◌, ◌++◌, length, get_or, set, take, refl, sym, ap, ◌∙◌, append_assoc, arith}
use Rattle.std.proofs.lemmas.List.{append-nil, length-set, take_more, take_more_set, take_all}
use Rattle.sci_bank.specs.declared.runs.Call.{Call}
use Rattle.sci_store.specs.declared.marks.Mark.{Mark}
use Rattle.sci_store.specs.Marks.{mark_at}
use Rattle.sci_store.specs.Store.{Standing}
use Rattle.sci_store.specs.Rows.{call_by, active_calls}
use Rattle.sci_store.proofs.Choices.{seen_if, seen_unless}

active-append : (marks : List Mark) (xs ys : List Call) → active_calls marks (xs ++ ys) ≡ active_calls marks xs ++ active_calls marks ys
active-append marks [] ys = refl
active-append marks (x ∷ xs) ys =
    ap (λ (l : List Call). call_by marks x ++ l) (active-append marks xs ys) ∙ sym (append_assoc (call_by marks x) (active_calls marks xs) (active_calls marks ys))

active_next : (marks : List Mark) (calls : List Call) (k : ℕ) (d : Call) → k < length calls
    → active_calls marks (take (k + 1) calls) ≡ active_calls marks (take k calls) ++ call_by marks (get_or calls k d)
active_next marks calls k d l =
    ap (active_calls marks) (take_more calls k d l)
    ∙ (active-append marks (take k calls) (get_or calls k d ∷ [])
    ∙ ap (λ (l : List Call). active_calls marks (take k calls) ++ l) (append-nil (call_by marks (get_or calls k d))))

-- the active ones of the first k calls are the first of those that are chosen
pub record HasChosen (calls : List Call) (s t : Standing) (count k : ℕ) : Type 0 where
  pub most : count ≤ k
  pub chosen : take count t.chosen ≡ active_calls s.marks (take k calls)
  pub same : t ≡ record s { chosen = t.chosen }
  pub long : length t.chosen ≡ length s.chosen

pub none_chosen : (calls : List Call) (s : Standing) → HasChosen calls s s 0 0
none_chosen calls s = record { most = omega arith; chosen = refl; same = refl; long = refl }

module _ {calls : List Call} {s t : Standing} {count k : ℕ} (d : Call) (h : HasChosen calls s t count k) (l : k < length calls) where
  -- the next one is active
  pub one_chosen : (u : Standing) (c : Call) → (mark_at s.marks (get_or calls k d).block).active ≡ true
      → c ≡ record (get_or calls k d) { mask = (mark_at s.marks (get_or calls k d).block).mask } → length calls ≤ length s.chosen
      → u ≡ record t { chosen = set t.chosen count c } → HasChosen calls s u (count + 1) (k + 1)
  one_chosen u c on is room e = record {
    most = omega (arith, h.most);
    chosen =
        ap (λ (v : Standing). take (count + 1) v.chosen) e
        ∙ (take_more_set t.chosen count c (omega (arith, h.most, h.long, room, l))
        ∙ (ap (λ (xs : List Call). xs ++ c ∷ []) h.chosen
        ∙ (ap (λ (x : Call). active_calls s.marks (take k calls) ++ x ∷ []) is
        ∙ (ap (λ (xs : List Call). active_calls s.marks (take k calls) ++ xs)
        (sym (seen_if (mark_at s.marks (get_or calls k d).block).active (record (get_or calls k d) { mask = (mark_at s.marks (get_or calls k d).block).mask } ∷ []) [] on))
        ∙ sym (active_next s.marks calls k d l)))));
    same = e ∙ (ap (λ (v : Standing). record v { chosen = set t.chosen count c }) h.same ∙ ap (λ (cs : List Call). record s { chosen = cs }) (sym (ap (λ (v : Standing). v.chosen) e)));
    long = ap (λ (v : Standing). length v.chosen) e ∙ (length-set t.chosen count c ∙ h.long);
  }

  pub other_passed : (mark_at s.marks (get_or calls k d).block).active ≡ false → HasChosen calls s t count (k + 1)
  other_passed off = record {
    most = omega (arith, h.most);
    chosen =
        h.chosen
        ∙ (sym (append-nil (active_calls s.marks (take k calls)))
        ∙ (ap (λ (xs : List Call). active_calls s.marks (take k calls) ++ xs)
        (sym (seen_unless (mark_at s.marks (get_or calls k d).block).active (record (get_or calls k d) { mask = (mark_at s.marks (get_or calls k d).block).mask } ∷ []) [] off))
        ∙ sym (active_next s.marks calls k d l)));
    same = h.same;
    long = h.long;
  }

pub all_chosen : {calls : List Call} {s t : Standing} {count k : ℕ} → HasChosen calls s t count k → length calls ≤ k → take count t.chosen ≡ active_calls s.marks calls
all_chosen {calls} {s} {k = k} h l = h.chosen ∙ ap (active_calls s.marks) (take_all k calls l)
