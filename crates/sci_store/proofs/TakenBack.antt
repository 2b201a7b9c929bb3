-- The marks of some entries' blocks, taken back one after another.
use Rattle.std.proofs.Common.{◌≡◌, ◌≢◌, ℕ, ◌+◌, ◌-◌, ◌<◌, ◌≤◌, ⊎_elim, List, length, get_or, set, Contains, sym, ap, subst, ◌∙◌, arith}
use Rattle.std.proofs.lemmas.Bool.{cases_lt}
use Rattle.std.proofs.lemmas.List.{length-set, get_or_default}
use Rattle.sci_reaction.specs.declared.entry.Entry.{Entry}
use Rattle.sci_store.specs.declared.marks.Mark.{Mark}
use Rattle.sci_store.specs.Marks.{mark_at, idle}
use Rattle.sci_store.proofs.Evaluating.{mark_here, mark_other, stays_idle}

-- the blocks of the first entries are not marked, and the others as before
pub record IsTakenBack (old : List Mark) (es : List Entry) (k : ℕ) (marks : List Mark) : Type 0 where
  pub idle_now : (j : ℕ) (d : Entry) → j < k → j < length es → mark_at marks (get_or es j d).block ≡ idle
  pub stays : (b : ℕ) → mark_at old b ≡ idle → mark_at marks b ≡ idle
  pub others : (b : ℕ) → ((j : ℕ) (d : Entry) → j < k → j < length es → b ≢ (get_or es j d).block) → mark_at marks b ≡ mark_at old b
  pub long : length marks ≡ length old

pub back_more : (old : List Mark) (es : List Entry) (k : ℕ) (marks : List Mark) (e : Entry) → IsTakenBack old es k marks → k < length es → e ≡ get_or es k e → 1 ≤ e.block
    → e.block ≤ length marks → IsTakenBack old es (k + 1) (set marks (e.block - 1) idle)
back_more old es k marks e h l read least most = record {
  idle_now = λ j d less m. ⊎_elim
      (λ before. stays_idle marks e.block (get_or es j d).block least most (h.idle_now j d before m))
      (λ more.
      let same : j ≡ k = omega (arith, less, more) in
      let is : e ≡ get_or es j d = read ∙ (get_or_default es k e d l ∙ ap (λ i. get_or es i d) (sym same)) in
      subst (λ (x : Entry). mark_at (set marks (e.block - 1) idle) x.block ≡ idle) is (mark_here marks e.block idle least most))
      (cases_lt j k);
  stays = λ b old_idle. stays_idle marks e.block b least most (h.stays b old_idle);
  others = λ b out.
      mark_other marks e.block b idle least (λ same. out k e (omega arith) l (same ∙ ap (λ (x : Entry). x.block) read))
      ∙ h.others b (λ j d less m. out j d (omega (arith, less)) m);
  long = length-set marks (e.block - 1) idle ∙ h.long;
}

pub back_all : (old : List Mark) (es : List Entry) (k : ℕ) (marks : List Mark) → IsTakenBack old es k marks → length es ≤ k → (e : Entry) → Contains es e → mark_at marks e.block ≡ idle
back_all old es k marks h all e there =
    let l = there.1 in
    subst (λ (x : Entry). mark_at marks x.block ≡ idle) there.2 (h.idle_now there.0 e (omega (arith, l, all)) there.1)

pub back_others : (old : List Mark) (es : List Entry) (k : ℕ) (marks : List Mark) → IsTakenBack old es k marks → (b : ℕ) → ((e : Entry) → Contains es e → b ≢ e.block)
    → mark_at marks b ≡ mark_at old b
back_others old es k marks h b out = h.others b (λ j d less m. out (get_or es j d) (j, m, get_or_default es j (get_or es j d) d m))
