-- The store and the banks between two runs of a pass.
use Rattle.std.proofs.Common.{◌≡◌, ℕ, zero, suc, ◌+◌, ◌<◌, ◌≤◌, Bool, true, false, cond, List, [], ◌∷◌, length, get_or, Contains, Option, Some, None, refl, sym, ap, ap₂, subst, ◌∙◌, arith}
use Rattle.std.specs.Prelude.{nat_lt}
use Rattle.sci_base.specs.declared.observation.StopWord.{StopWord}
use Rattle.sci_forms.specs.declared.Kind.{Kind}
use Rattle.sci_forms.specs.Ports.{Fills}
use Rattle.sci_net.specs.declared.Source.{Source}
use Rattle.sci_net.specs.Parts.{IsBlock, spec_of, numbered}
use Rattle.sci_reaction.specs.Depends.{IsLoopFree}
use Rattle.sci_reaction.specs.Memory.{Memory, Columns, IsMemory}
use Rattle.sci_reaction.specs.Equations.{AreInRange}
use Rattle.sci_reaction.specs.Active.{Possible}
use Rattle.sci_reaction.specs.Kept.{entry_of}
use Rattle.std.proofs.lemmas.List.{length-map, get_or_default}
use Rattle.sci_places.specs.Flat.{values_at}
use Rattle.sci_rounds.proofs.ByDepth.{block_in_row, block_at_place}
use Rattle.sci_bank.specs.Bank.{Meaning}
use Rattle.sci_bank.specs.Library.{bank_of}
use Rattle.sci_store.specs.declared.row.Run.{Run}
use Rattle.sci_store.specs.Marks.{mark_at, idle}
use Rattle.sci_store.specs.Frame.{Fixed, IsFrame, AreSeated}
use Rattle.sci_store.specs.Store.{Standing, IsStore, state_of, cursor_at, ShowsMemory}
use Rattle.sci_store.specs.Passed.{IsPassed}
use Rattle.sci_store.specs.Rows.{ReadyRow, IsRowOf, IsOfWhole, AreWholeMarked, HasBegun, KeepsBegun, Join, run_calls}
use Rattle.sci_store.specs.Runs.{IsRunDone, IsSoundBehind, lesser}
use Rattle.sci_store.proofs.Leveled.{by_depth, kept, plain}
use Rattle.sci_store.proofs.Calling.{called_stands}
use Rattle.sci_store.proofs.Passing.{IsPassing, passing_first, passing_last, passing_on, stopped_then, whole_then, others_then}

-- ---- where a run begins

-- the end of the run before, or the place from which they go on
abbrev pub reached : ℕ → List Run → ℕ → ℕ
reached at runs zero = at
reached at [] (suc k) = at
reached at (r ∷ rs) (suc k) = reached r.end rs k

start_reached : (at end : ℕ) (runs : List Run) (k : ℕ) (d : Run) → Join at end runs → k < length runs → (get_or runs k d).start ≡ reached at runs k
start_reached at end [] k d h l = absurd (omega (arith, l))
start_reached at end (r ∷ rs) zero d h l = h.0
start_reached at end (r ∷ rs) (suc k) d h l = start_reached r.end end rs k d h.1 (omega (arith, l))

end_reached : (at : ℕ) (runs : List Run) (k : ℕ) (d : Run) → k < length runs → reached at runs (suc k) ≡ (get_or runs k d).end
end_reached at [] k d l = absurd (omega (arith, l))
end_reached at (r ∷ rs) zero d l = first rs
  where
    first : (rest : List Run) → reached r.end rest 0 ≡ r.end
    first rest = refl
end_reached at (r ∷ rs) (suc k) d l = end_reached r.end rs k d (omega (arith, l))

all_reached : (at end : ℕ) (runs : List Run) (k : ℕ) → Join at end runs → length runs ≤ k → reached at runs k ≡ end
all_reached at end [] zero h l = h
all_reached at end [] (suc k) h l = h
all_reached at end (r ∷ rs) zero h l = absurd (omega (arith, l))
all_reached at end (r ∷ rs) (suc k) h l = all_reached r.end end rs k h.1 (omega (arith, l))

-- ---- between two runs

pub record IsInPass (f : Fixed) (frame : IsFrame f) (i : Columns) (r : ReadyRow) (k : ℕ) (s t : Standing) (old banks : List Meaning) (stop : Option (ℕ × StopWord)) : Type 0 where
  pub store : IsStore f t
  pub seated : AreSeated f banks
  pub in_range : AreInRange f.net (values_at f.net t.values)
  pub cursors : t.cursors ≡ s.cursors
  pub states : (b : ℕ) → IsBlock f.net b → state_of f banks b ≡ state_of f old b
  pub lines : t.lines ≡ s.lines
  pub sum : t.sum ≡ s.sum
  pub whole : AreWholeMarked r t.marks
  pub others : (b : ℕ) → IsBlock f.net b → (Contains r.blocks b → ⊥) → mark_at t.marks b ≡ idle
  pub found : (source : Source) (m : Memory) (free : IsLoopFree f.net source) (is : IsRowOf f source r) → ShowsMemory f s old m → IsMemory f.net m
      → IsPassing f frame i source m free r is s t old banks (reached 0 r.runs k) stop

-- a block of a whole run is one of the row
pub whole_in_row : (f : Fixed) (frame : IsFrame f) (source : Source) (r : ReadyRow) → IsRowOf f source r → (b : ℕ) → IsOfWhole r b → Contains r.blocks b
whole_in_row f frame source r is b whole =
    let p = called_stands f frame source r is whole.run whole.there b whole.called in
    let by = by_depth f source r is in
    let es = plain f source r is in
    (is.row.blocks_are.same b).1 ((is.entries.exactly b).1 (subst (Possible f.net source) p.block_is ((by.exactly (block_in_row es p.place)).0 (block_at_place es p.place p.within))))

pub pass_before : (f : Fixed) (frame : IsFrame f) (i : Columns) (r : ReadyRow) (s : Standing) (old : List Meaning) (source : Source) (is : IsRowOf f source r) (memory : Memory)
    → IsStore f s → AreSeated f old → HasBegun f r s → ShowsMemory f s old memory → IsMemory f.net memory → ((k : Kind) → (bank_of old k).outs ≤ 18446744073709551615)
    → IsInPass f frame i r 0 s s old old None
pass_before f frame i r s old source is memory store seated begun shows in_range small = record {
  store = store;
  seated = seated;
  in_range = λ b h. subst (Fills (spec_of f.net b).outs) (sym (shows.held b h)) (in_range.held b h);
  cursors = refl;
  states = λ b h. refl;
  lines = refl;
  sum = refl;
  whole = begun.whole;
  others = λ b block out. begun.others b block (λ whole. out (whole_in_row f frame source r is b whole));
  found = λ src m free row shown is_memory. passing_first f frame i src m free r row s old seated shown small;
}

none_both : (a b : Option (ℕ × StopWord)) → lesser a b ≡ None → (a ≡ None) × (b ≡ None)
none_both None b h = (refl, h)
none_both (Some x) None h = cc
none_both (Some x) (Some z) h = by_test (nat_lt x.0 z.0) h
  where
    by_test : (t : Bool) → cond t (Some x) (Some z) ≡ None → (Some x ≡ None) × (Some z ≡ None)
    by_test true e = cc
    by_test false e = cc

module _ (f : Fixed) (frame : IsFrame f) (i : Columns) (r : ReadyRow) (k : ℕ) (s t u : Standing) (old banks after : List Meaning) (stop found_stop : Option (ℕ × StopWord))
    (inv : IsInPass f frame i r k s t old banks stop) (run : Run) (less : k < length r.runs) (read : run ≡ get_or r.runs k run) (begun : HasBegun f r s)
    (ran : IsRunDone f i run.kind (run_calls r run t.marks) t u banks after found_stop) where
  pub run_there : Contains r.runs run
  run_there = (k, less, sym read)

  at_start : (source : Source) (is : IsRowOf f source r) → reached 0 r.runs k ≡ run.start
  at_start source is = sym (start_reached 0 _ r.runs k run is.row.values.joined less) ∙ ap (λ (x : Run). x.start) (sym read)

  at_end : reached 0 r.runs (k + 1) ≡ run.end
  at_end = let next : k + 1 ≡ suc k = omega arith in ap (reached 0 r.runs) next ∙ (end_reached 0 r.runs k run less ∙ ap (λ (x : Run). x.end) (sym read))

  module _ (source : Source) (m : Memory) (free : IsLoopFree f.net source) (is : IsRowOf f source r) (shows : ShowsMemory f s old m) (memory : IsMemory f.net m) where
    state : IsPassing f frame i source m free r is s t old banks run.start stop
    state = subst (λ at. IsPassing f frame i source m free r is s t old banks at stop) (at_start source is) (inv.found source m free is shows memory)

    states : (b : ℕ) → IsBlock f.net b → state_of f banks b ≡ m.state b
    states b block = inv.states b block ∙ shows.state b block

    cursors : (b : ℕ) → IsBlock f.net b → cursor_at t b ≡ m.cursor b
    cursors b block = ap (λ (cs : List ℕ). numbered 0 cs b) inv.cursors ∙ shows.cursor b block

    pub goes_on : ((st : ℕ × StopWord) → lesser stop found_stop ≡ Some st → run.last ≡ false)
        → IsPassing f frame i source m free r is s u old after (reached 0 r.runs (k + 1)) (lesser stop found_stop)
    goes_on on =
        subst (λ at. IsPassing f frame i source m free r is s u old after at (lesser stop found_stop)) (sym at_end)
        (passing_on f frame i source m free r is s t u old banks after run run_there stop found_stop state begun inv.seated states cursors ran on)

    pub stops_at : (st : ℕ × StopWord) → lesser stop found_stop ≡ Some st → run.last ≡ true → ((l : Kind) → (bank_of old l).outs ≤ 18446744073709551615)
        → IsPassed f i source m s u old after (Some st)
    stops_at st is' last small =
        stopped_then f frame i source m free r is s t u old banks after run run_there stop found_stop state begun inv.seated states cursors ran st is' last small

    -- a stop was found, in this run or before it
    pub stops_by : (o : Option (ℕ × StopWord)) → lesser stop found_stop ≡ o → (stop ≡ None → found_stop ≡ None → ⊥) → run.last ≡ true
        → ((l : Kind) → (bank_of old l).outs ≤ 18446744073709551615) → IsPassed f i source m s u old after o
    stops_by None e some last small = absurd (let b = none_both stop found_stop e in some b.0 b.1)
    stops_by (Some st) e some last small = stops_at st e last small

  -- of any source and memory of this row
  module _ (source : Source) (m : Memory) (free : IsLoopFree f.net source) (is : IsRowOf f source r) (shows : ShowsMemory f s old m) (memory : IsMemory f.net m) where
    abbrev here : IsPassing f frame i source m free r is s t old banks run.start stop
    here = state source m free is shows memory

    pub whole_behind : AreWholeMarked r u.marks
    whole_behind =
        whole_then f frame i source m free r is s t u old banks after run run_there stop found_stop here begun inv.seated (states source m free is shows memory)
        (cursors source m free is shows memory) ran inv.whole

    pub others_behind : (b : ℕ) → IsBlock f.net b → (Contains r.blocks b → ⊥) → mark_at u.marks b ≡ idle
    others_behind =
        others_then f frame i source m free r is s t u old banks after run run_there stop found_stop here begun inv.seated (states source m free is shows memory)
        (cursors source m free is shows memory) ran inv.others

    pub kept_behind : KeepsBegun f r u
    kept_behind = record { whole = whole_behind; others = others_behind }

    pub pass_next : IsSoundBehind f u after → AreInRange f.net (values_at f.net u.values) → ((st : ℕ × StopWord) → lesser stop found_stop ≡ Some st → run.last ≡ false)
        → IsInPass f frame i r (k + 1) s u old after (lesser stop found_stop)
    pass_next sound in_range on = record {
      store = sound.store;
      seated = sound.seated;
      in_range = in_range;
      cursors = ran.kept.0 ∙ inv.cursors;
      states = λ b block. ran.states b block ∙ inv.states b block;
      lines = ran.kept.1 ∙ inv.lines;
      sum = ran.kept.2 ∙ inv.sum;
      whole = whole_behind;
      others = others_behind;
      found = λ src mem fr row shown is_memory. goes_on src mem fr row shown is_memory on;
    }

    -- no block has been without values so far
    pub pass_quiet : IsSoundBehind f u after → AreInRange f.net (values_at f.net u.values) → stop ≡ None → found_stop ≡ None
        → IsInPass f frame i r (k + 1) s u old after stop
    pass_quiet sound in_range none none_here =
        let both : lesser stop found_stop ≡ None = ap₂ lesser none none_here in
        subst (λ (o : Option (ℕ × StopWord)). IsInPass f frame i r (k + 1) s u old after o) (both ∙ sym none)
        (pass_next sound in_range (λ st e. none_some st (sym both ∙ e)))
      where
        none_some : (st : ℕ × StopWord) → None ≡ Some st → run.last ≡ false
        none_some st e = cc

-- the run that is gone through, where these are those of the row
pub run_read : (r : ReadyRow) (items : List Run) (k : ℕ) (d : Run) → items ≡ r.runs → k < length items → get_or items k d ≡ get_or r.runs k (get_or items k d)
run_read r items k d same l =
    ap (λ (xs : List Run). get_or xs k d) same ∙ get_or_default r.runs k d (get_or items k d) (subst (λ (xs : List Run). k < length xs) same l)

pub pass_behind : (f : Fixed) (frame : IsFrame f) (i : Columns) (r : ReadyRow) (k : ℕ) (s t : Standing) (old banks : List Meaning) (stop : Option (ℕ × StopWord))
    → IsInPass f frame i r k s t old banks stop → length r.runs ≤ k → HasBegun f r s → (source : Source) (m : Memory) → IsLoopFree f.net source → IsRowOf f source r
    → ShowsMemory f s old m → IsMemory f.net m → IsPassed f i source m s t old banks None
pass_behind f frame i r k s t old banks stop inv all begun source m free is shows memory =
    let es = plain f source r is in
    let long = length-map (kept f source r is) entry_of in
    let at : reached 0 r.runs k ≡ length es = all_reached 0 _ r.runs k is.row.values.joined all ∙ sym long in
    passing_last f frame i source m free r is s t old banks stop
    (subst (λ x. IsPassing f frame i source m free r is s t old banks x stop) at (inv.found source m free is shows memory)) begun inv.in_range inv.cursors inv.states

pub kept_last : (f : Fixed) (frame : IsFrame f) (i : Columns) (r : ReadyRow) (k : ℕ) (s t : Standing) (old banks : List Meaning) (stop : Option (ℕ × StopWord))
    → IsInPass f frame i r k s t old banks stop → KeepsBegun f r t
kept_last f frame i r k s t old banks stop inv = record { whole = inv.whole; others = inv.others }
