-- The calls of the entries that apply, put in front of the chosen one after another.
use Rattle.std.proofs.Common.{◌≡◌, ℕ, ◌+◌, ◌-◌, ◌<◌, ◌≤◌, List, [], ◌∷◌, ◌++◌, length, map, get_or, set, take, Contains, All, Some, None, sym, ap, ◌∙◌, append-nil, arith}
use Rattle.std.proofs.lemmas.List.{take_more_set}
use Rattle.sci_reaction.specs.Kept.{entry_of, entries_of}
use Rattle.sci_reaction.specs.Schedule.{Guard}
use Rattle.sci_reaction.specs.declared.entry.Entry.{Entry}
use Rattle.sci_bank.specs.declared.runs.Call.{Call}
use Rattle.sci_store.specs.declared.marks.Mark.{Mark}
use Rattle.sci_store.specs.Entries.{activation}
use Rattle.sci_store.specs.Rows.{marked, mark_by, chosen_calls, call_on}
use Rattle.sci_store.proofs.Marking.{AreKnown, marked_push, chosen_more, activation_kept}

-- those of the first entries stand in front, and are marked
pub record IsChosenTo (marks : List Mark) (calls : List Call) (es : List Entry) (k count : ℕ) (chosen : List Call) (now : List Mark) : Type 0 where
  pub few : count ≤ k
  pub chosen_is : take count chosen ≡ chosen_calls marks (take k calls) (entries_of (take k es))
  pub marks_are : now ≡ marked marks (take count chosen)

module _ (marks : List Mark) (calls : List Call) (es : List Entry) (one_each : length es ≡ length calls) (known : AreKnown marks calls)
    (apart : All (λ (x : Entry). All (λ (g : Guard). Contains (map (λ (c : Call). c.block) calls) g.block → ⊥) (entry_of x).guards) es)
    (k count : ℕ) (chosen : List Call) (now : List Mark) (h : IsChosenTo marks calls es k count chosen now) (less : k < length es) (e : Entry) (read : e ≡ get_or es k e) where
  on_now : activation now (entry_of e) ≡ activation marks (entry_of e)
  on_now = ap (λ ms. activation ms (entry_of e)) (h.marks_are ∙ ap (marked marks) h.chosen_is) ∙ activation_kept marks calls es k e known apart less read

  pub chosen_none : activation now (entry_of e) ≡ None → IsChosenTo marks calls es (k + 1) count chosen now
  chosen_none none =
      let few = h.few in
      let c : Call = record { slot = 0; block = 0; mask = 0 } in
      let off : activation marks (entry_of (get_or es k e)) ≡ None = ap (λ (x : Entry). activation marks (entry_of x)) (sym read) ∙ (sym on_now ∙ none) in
      record {
        few = omega (arith, few);
        chosen_is = h.chosen_is
            ∙ (sym (append-nil (chosen_calls marks (take k calls) (entries_of (take k es))))
            ∙ (ap (λ o. chosen_calls marks (take k calls) (entries_of (take k es)) ++ call_on (get_or calls k c) o) (sym off)
            ∙ sym (chosen_more marks calls es k c e one_each (omega (arith, less, one_each)))));
        marks_are = h.marks_are;
      }

  pub chosen_some : (mask : ℕ) (c : Call) → length calls ≤ length chosen → Some mask ≡ activation now (entry_of e)
      → IsChosenTo marks calls es (k + 1) (count + 1) (set chosen count (record (get_or calls k c) { mask = mask }))
      (set now ((get_or calls k c).block - 1) (mark_by (record (get_or calls k c) { mask = mask })))
  chosen_some mask c room some =
      let few = h.few in
      let call : Call = record (get_or calls k c) { mask = mask } in
      let on : activation marks (entry_of (get_or es k e)) ≡ Some mask = ap (λ (x : Entry). activation marks (entry_of x)) (sym read) ∙ (sym on_now ∙ sym some) in
      let more : take (count + 1) (set chosen count call) ≡ take count chosen ++ call ∷ [] = take_more_set chosen count call (omega (arith, few, less, one_each, room)) in
      record {
        few = omega (arith, few);
        chosen_is = more
            ∙ (ap (λ cs. cs ++ call ∷ []) h.chosen_is
            ∙ (ap (λ o. chosen_calls marks (take k calls) (entries_of (take k es)) ++ call_on (get_or calls k c) o) (sym on)
            ∙ sym (chosen_more marks calls es k c e one_each (omega (arith, less, one_each)))));
        marks_are = ap (λ ms. set ms (call.block - 1) (mark_by call)) h.marks_are
            ∙ (sym (marked_push marks (take count chosen) call) ∙ ap (marked marks) (sym more));
      }
