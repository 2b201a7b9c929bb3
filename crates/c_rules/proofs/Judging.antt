-- The events of a text judged one by one.
use Rattle.std.proofs.Common.{◌≡◌, ℕ, ◌+◌, ◌≤◌, List, ◌∷◌, length, drop, Option, Some, None, refl, sym, ap, ◌∙◌, arith}
use Rattle.std.specs.Prelude.{min}
use Rattle.std.proofs.lemmas.List.{drop_all}
use Rattle.c_ast.specs.declared.events.TextEvent.{TextEvent}
use Rattle.c_rules.specs.declared.rules.Knowledge.{Knowledge}
use Rattle.c_ast.specs.Rules.{Scope, outset, blamed_at, behind, earlier, first_blamed, blamed_event}
use Rattle.c_rules.specs.Knowing.{Agrees}

earlier_assoc : (a b c : Option ℕ) → earlier (earlier a b) c ≡ earlier a (earlier b c)
earlier_assoc None b c = refl
earlier_assoc (Some i) None c = refl
earlier_assoc (Some i) (Some j) None = refl
earlier_assoc (Some i) (Some j) (Some k) = let e : min (min i j) k ≡ min i (min j k) = omega arith in ap Some e

earlier-none : (a : Option ℕ) → earlier a None ≡ a
earlier-none None = refl
earlier-none (Some i) = refl

-- The first events were judged, and what they blame first is found.
pub record Judged (events : List TextEvent) (k : ℕ) (know : Knowledge) (found : Option ℕ) : Type 0 where
  pub scope : Scope
  pub agrees : Agrees know scope
  pub rest : earlier found (first_blamed k scope (drop k events)) ≡ blamed_event events

pub judged_none : (events : List TextEvent) (know : Knowledge) → Agrees know outset → Judged events 0 know None
judged_none events know a = record { scope = outset; agrees = a; rest = refl }

pub judged_more : (events : List TextEvent) (k : ℕ) (e : TextEvent) (know new : Knowledge) (found fault next : Option ℕ) → drop k events ≡ e ∷ drop (k + 1) events → Judged events k know found
    → ((s : Scope) → Agrees know s → fault ≡ blamed_at k s e) → next ≡ earlier found fault → ((s : Scope) → Agrees know s → Agrees new (behind k s e)) → Judged events (k + 1) new next
judged_more events k e know new found fault next here j blames is goes =
    let s = j.scope in
    let r = first_blamed (k + 1) (behind k s e) (drop (k + 1) events) in
    record {
      scope = behind k s e;
      agrees = goes s j.agrees;
      rest = ap (λ (o : Option ℕ). earlier o r) (is ∙ ap (earlier found) (blames s j.agrees)) ∙ earlier_assoc found (blamed_at k s e) r ∙ ap (λ (l : List TextEvent). earlier found (first_blamed k s l)) (sym here) ∙ j.rest;
    }

pub judged_all : (events : List TextEvent) (k : ℕ) (know : Knowledge) (found : Option ℕ) → length events ≤ k → Judged events k know found → found ≡ blamed_event events
judged_all events k know found all j = sym (earlier-none found) ∙ ap (λ (l : List TextEvent). earlier found (first_blamed k j.scope l)) (sym (drop_all k events all)) ∙ j.rest
