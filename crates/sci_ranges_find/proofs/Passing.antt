-- The pass over a table, as code does it.
use Rattle.std.proofs.Common.{◌≡◌, ℕ, zero, suc, ◌<◌, ◌≤◌, Bool, true, false, not, ◌&&◌, ◌||◌, cond, ℤ, pos, List, [], ◌∷◌, length, Option, Some, None, refl, sym, ap, subst, ◌∙◌, arith, nat_le, true≢false}
use Rattle.std.proofs.lemmas.Bool.Decides.{nat_tests}
use Rattle.std.proofs.lemmas.List.{get_or_past, get_or_default}
use Rattle.std.specs.Prelude.{negsuc, int_le, slice_index_or, option_map, IfSome}
use Rattle.sci_forms.specs.declared.spec.Spec.{Spec}
use Rattle.sci_forms.specs.declared.Kind.{Kind}
use Rattle.sci_forms.specs.declared.Kind.TheVariants.{IfThEl, ESelect}
use Rattle.sci_forms.specs.Form.{is_sync, is_sensor}
use Rattle.sci_forms.proofs.TestLemmas.{nat_le_told}
use Rattle.sci_forms.specs.Ports.{port_at, elements, total}
use Rattle.sci_kinds.specs.Asks.{Asks}
use Rattle.sci_kinds.proofs.LawProofs.{asks}
use Rattle.sci_kinds.proofs.TypedLemmas.{Tests, tests, only_total}
use Rattle.sci_net.specs.declared.Feed.{Feed}
use Rattle.sci_net.specs.declared.Source.TheVariants.{Start, Port}
use Rattle.sci_net.specs.Net.{IsNet}
use Rattle.sci_net.specs.Parts.{Parts, IsBlock, numbered, no_spec, spec_of}
use Rattle.sci_net.specs.Sources.{sources_of, source_of}
use Rattle.sci_reaction.specs.Memory.{Columns}
use Rattle.sci_reaction.specs.Schedule.{Entry, IsSchedule}
use Rattle.sci_reaction.proofs.Sources.{sources_are}
use Rattle.sci_run.specs.Laws.{AreLoopFree}
use Rattle.sci_ranges.specs.Columns.{sensed_range}
use Rattle.sci_ranges_base.specs.declared.interval.Interval.{Interval}
use Rattle.sci_ranges_base.specs.Intervals.{range_at}
use Rattle.sci_ranges_rules.specs.Rules.{exact_sums}
use Rattle.sci_ranges_refined.specs.Sums.{is_sum, sum_cells}
use Rattle.sci_ranges_sums.specs.declared.parts.Followed.{Followed}
use Rattle.sci_ranges_sums.specs.declared.parts.Beside.{Beside}
use Rattle.sci_ranges_sums.specs.View.{leak_of, by_followed, by_leak, sum_told}
use Rattle.sci_ranges_rows.specs.Tests.{all_below}
use Rattle.sci_ranges_rows.specs.Marks.{Marks, AreMarks, dead_of}
use Rattle.sci_ranges_marks.specs.View.{AreMarked}
use Rattle.sci_ranges_marks.proofs.Marked.{all_marks}
use Rattle.sci_ranges_pass.specs.Ranges.{Ranges, read_range, read_ports, entered, masks_for}
use Rattle.sci_ranges_pass.specs.Pass.{holds_cells, holds_values, holds_sums, holds_told, holds_next, holds_first, are_dead, is_possible, holds_block, marks_live}
use Rattle.sci_ranges_pass.specs.Taken.{is_choice, taken_ranges, told_inputs}
use Rattle.sci_ranges_pass.specs.Told.{Leak, aim, leak, between_inputs, by_aim, by_leak as pass_leak, sum_range}
use Rattle.sci_ranges_pass.proofs.Entering.{ports_at_place}
use Rattle.sci_ranges_pass.proofs.Living.{live_by_test}
use Rattle.sci_ranges_find.specs.View.{dead_on, alive_on, rule_on, sums_on}
use Rattle.sci_ranges_find.specs.Beside.{Follows, IsBeside}

-- ---- what a condition reads

pub one_goes_in : (n : Parts) → IsNet n → (b : ℕ) → IsBlock n b → is_sync (spec_of n b).kind ≡ true → (length (spec_of n b).ins ≡ 1) × (elements (port_at (spec_of n b).ins 0) ≡ 1)
one_goes_in n net b block sync = by_kind (spec_of n b).kind sync (tests (spec_of n b).kind (spec_of n b) (net.typed_specs b block)) (asks (spec_of n b) (net.typed_specs b block))
  where
    by_kind : (c : Kind) → is_sync c ≡ true → Tests c (spec_of n b) → Asks c (spec_of n b) → (length (spec_of n b).ins ≡ 1) × (elements (port_at (spec_of n b).ins 0) ≡ 1)
    by_kind IfThEl h t a = let one : length (spec_of n b).ins ≡ 1 = omega (arith, t.ins_least, t.ins_most) in (one, sym (only_total (spec_of n b).ins one) ∙ a.1)
    by_kind ESelect h t a = let one : length (spec_of n b).ins ≡ 1 = omega (arith, t.ins_least, t.ins_most) in (one, sym (only_total (spec_of n b).ins one) ∙ a.1)
    by_kind _ h t a = cc

not_sensor : (c : Kind) → is_sync c ≡ true → is_sensor c ≡ false
not_sensor IfThEl h = refl
not_sensor ESelect h = refl
not_sensor _ h = cc

pub first_read : (n : Parts) (i : Columns) (m : Marks) (r : Ranges) (b : ℕ) → IsNet n → IsBlock n b → is_sync (spec_of n b).kind ≡ true →
    range_at (entered n i m r b) 0 ≡ read_range n m r b 1 0
first_read n i m r b net block sync =
    let one = one_goes_in n net b block sync in
    let ports : entered n i m r b ≡ read_ports n m r b 1 (spec_of n b).ins =
    ap (λ (t : Bool). cond t (Some (sensed_range i (spec_of n b)) ∷ []) (read_ports n m r b 1 (spec_of n b).ins)) (not_sensor (spec_of n b).kind sync) in
    ap (λ (us : List (Option Interval)). range_at us 0) ports ∙ ports_at_place n m r b 1 (spec_of n b).ins 0 0 (omega (arith, one.0)) (omega (arith, one.1))

pub dead_is : (n : Parts) (m : Marks) (r : Ranges) (b : ℕ) (o : Option Interval) → o ≡ read_range n m r b 1 0 → dead_on n m b o ≡ are_dead n m r b
dead_is n m r b o e = ap (dead_on n m b) e

-- ---- the parts of the test of a block

pub alive_is : (n : Parts) (i : Columns) (m : Marks) (r : Ranges) (b : ℕ) (us : List (Option Interval)) → IsNet n → IsBlock n b → us ≡ entered n i m r b →
    alive_on n m b us ≡ (not (is_sync (spec_of n b).kind) || are_dead n m r b)
alive_is n i m r b us net block e = by_sync (is_sync (spec_of n b).kind) refl
  where
    by_sync : (t : Bool) → is_sync (spec_of n b).kind ≡ t → (not t || dead_on n m b (range_at us 0)) ≡ (not t || are_dead n m r b)
    by_sync true sync = dead_is n m r b (range_at us 0) (ap (λ (vs : List (Option Interval)). range_at vs 0) e ∙ first_read n i m r b net block sync)
    by_sync false other = refl

pub block_is : (n : Parts) (i : Columns) (m : Marks) (r : Ranges) (b : ℕ) (us : List (Option Interval)) (first alive rule : Bool) → IsNet n → IsBlock n b → us ≡ entered n i m r b →
    first ≡ holds_first (spec_of n b) r b → alive ≡ alive_on n m b us → rule ≡ (not (is_possible m b) || rule_on n i m r b us) → (first && (alive && rule)) ≡ holds_block n i m r b
block_is n i m r b us first alive rule net block e f a g =
    ap (λ (t : Bool). t && (alive && rule)) f
    ∙ (ap (λ (t : Bool). holds_first (spec_of n b) r b && (t && rule)) (a ∙ alive_is n i m r b us net block e)
    ∙ ap (λ (t : Bool). holds_first (spec_of n b) r b && ((not (is_sync (spec_of n b).kind) || are_dead n m r b) && t))
    (g ∙ ap (λ (vs : List (Option Interval)). not (is_possible m b) || rule_on n i m r b vs) e))

-- the rule of a block that may act, where the test of what is told of its values came out so
pub rule_holds : (n : Parts) (i : Columns) (m : Marks) (r : Ranges) (b : ℕ) (us : List (Option Interval)) {values : Bool} → is_possible m b ≡ true →
    holds_told n i m r b us ≡ values → (next : Bool) → next ≡ holds_next (spec_of n b) r b us → (values && next) ≡ (not (is_possible m b) || rule_on n i m r b us)
rule_holds n i m r b us {values} may are next is =
    ap (λ (t : Bool). t && next) (sym are)
    ∙ (ap (λ (t : Bool). holds_told n i m r b us && t) is ∙ ap (λ (t : Bool). not t || rule_on n i m r b us) (sym may))

-- what is told of a sum, of a switch of one element, and of another block
pub told_sums : (n : Parts) (i : Columns) (m : Marks) (r : Ranges) (b : ℕ) (us : List (Option Interval)) (t : Bool) → is_sum (spec_of n b).kind ≡ true → t ≡ holds_sums n i m r b us →
    t ≡ holds_told n i m r b us
told_sums n i m r b us t sum is =
    is ∙ ap (λ (s : Bool). cond s (holds_sums n i m r b us) (holds_values (spec_of n b) r b (masks_for n m b) (told_inputs n i m r b us))) (sym sum)

pub told_choices : (n : Parts) (i : Columns) (m : Marks) (r : Ranges) (b : ℕ) (us : List (Option Interval)) (t : Bool) → is_sum (spec_of n b).kind ≡ false →
    is_choice (spec_of n b) ≡ true → t ≡ holds_values (spec_of n b) r b (masks_for n m b) (taken_ranges n i m r b us) → t ≡ holds_told n i m r b us
told_choices n i m r b us t other choice is =
    is
    ∙ (ap (λ (s : Bool). holds_values (spec_of n b) r b (masks_for n m b) (cond s (taken_ranges n i m r b us) us)) (sym choice)
    ∙ ap (λ (s : Bool). cond s (holds_sums n i m r b us) (holds_values (spec_of n b) r b (masks_for n m b) (told_inputs n i m r b us))) (sym other))

pub told_values : (n : Parts) (i : Columns) (m : Marks) (r : Ranges) (b : ℕ) (us : List (Option Interval)) (t : Bool) → is_sum (spec_of n b).kind ≡ false →
    is_choice (spec_of n b) ≡ false → t ≡ holds_values (spec_of n b) r b (masks_for n m b) us → t ≡ holds_told n i m r b us
told_values n i m r b us t other plain is =
    is
    ∙ (ap (λ (s : Bool). holds_values (spec_of n b) r b (masks_for n m b) (cond s (taken_ranges n i m r b us) us)) (sym plain)
    ∙ ap (λ (s : Bool). cond s (holds_sums n i m r b us) (holds_values (spec_of n b) r b (masks_for n m b) (told_inputs n i m r b us))) (sym other))

-- what goes in beside a sum is what the pass has
followed_is : (n : Parts) (i : Columns) (m : Marks) (r : Ranges) (e : ℕ) (a : Option ℕ) (f : Option Followed) (o : Option Interval) → Follows n i m r a f →
    by_followed n e f o ≡ by_aim n i m r e a o
followed_is n i m r e None None o h = refl
followed_is n i m r e None (Some f) o h = absurd h
followed_is n i m r e (Some b) None o h = absurd h
followed_is n i m r e (Some b) (Some f) o h =
    ap (λ (k : ℕ). between_inputs (spec_of n k) f.ins.items e o) h.1 ∙ ap (λ (vs : List (Option Interval)). between_inputs (spec_of n b) vs e o) h.2

same_all : (f g : ℕ → Bool) → ((e : ℕ) → f e ≡ g e) → (count : ℕ) → all_below f count ≡ all_below g count
same_all f g h zero = refl
same_all f g h (suc count) = ap (λ (t : Bool). t && f count) (same_all f g h count) ∙ ap (λ (t : Bool). all_below g count && t) (h count)

pub sum_is : (n : Parts) (i : Columns) (m : Marks) (r : Ranges) (c : ℕ) (us : List (Option Interval)) (b : Beside) → IsBeside n i m r c b →
    sums_on n r c us b ≡ holds_sums n i m r c us
sum_is n i m r c us b h =
    same_all (λ e. holds_cells r c e (sum_told n c us b e)) (λ e. holds_cells r c e (sum_cells (spec_of n c) (sum_range n i m r c us e))) (λ e. ap (holds_cells r c e) (same e))
    (total (spec_of n c).outs)
  where
    same_leak : (e : ℕ) (o : Option Interval) (l : Option Leak) → by_leak (spec_of n c) us e l o ≡ pass_leak n c us e l o
    same_leak e o None = refl
    same_leak e o (Some l) = refl

    same : (e : ℕ) → sum_told n c us b e ≡ sum_cells (spec_of n c) (sum_range n i m r c us e)
    same e =
        ap (λ (o : Option Interval). sum_cells (spec_of n c) (by_leak (spec_of n c) us e (option_map leak_of b.leak) o))
        (followed_is n i m r e (aim n m c) b.followed (exact_sums (spec_of n c) us e) h.followed)
        ∙ (ap (λ (l : Option Leak). sum_cells (spec_of n c) (by_leak (spec_of n c) us e l (by_aim n i m r e (aim n m c) (exact_sums (spec_of n c) us e)))) h.leak
        ∙ ap (sum_cells (spec_of n c)) (same_leak e (by_aim n i m r e (aim n m c) (exact_sums (spec_of n c) us e)) (leak n m c)))

-- the block that is followed is one of the net
pub follows_block : (n : Parts) (i : Columns) (m : Marks) (r : Ranges) (a : Option ℕ) (f : Option Followed) → Follows n i m r a f → IfSome f (λ (x : Followed). IsBlock n x.block)
follows_block n i m r None None h = tt
follows_block n i m r None (Some f) h = absurd h
follows_block n i m r (Some b) None h = absurd h
follows_block n i m r (Some b) (Some f) h = subst (IsBlock n) (sym h.1) h.0

-- what isn't a block isn't synchronous
sync_within : (ss : List Spec) (k : ℕ) → is_sync (slice_index_or ss k no_spec).kind ≡ true → k < length ss
sync_within [] k h = absurd (true≢false (sym h))
sync_within (s ∷ ss) zero h = omega arith
sync_within (s ∷ ss) (suc k) h = let l = sync_within ss k h in omega (arith, l)

pub sync_block : (n : Parts) (c : ℕ) → is_sync (spec_of n c).kind ≡ true → IsBlock n c
sync_block n zero h = absurd (true≢false (sym h))
sync_block n (suc k) h = let l = sync_within n.specs k h in record { least = omega arith; most = omega (arith, l) }

-- ---- first events

pub port_block : (n : Parts) (k : ℕ) (q : Feed) → k < length (sources_of n) → Port q ≡ source_of n k → IsBlock n q.block
port_block n k q h e = ((sources_are n (Port q)).0 (k, h, get_or_default (sources_of n) k (Port q) Start h ∙ sym e)).0.block

pub undated : (xs : List ℤ) (p : ℕ) → (1 ≤ p → p ≤ length xs → ⊥) → int_le (pos 0) (numbered (negsuc 0) xs p) ≡ false
undated xs zero h = refl
undated xs (suc p) h =
    ap (int_le (pos 0)) (get_or_past xs p (negsuc 0) (by_order (nat_le (suc p) (length xs)) refl))
  where
    by_order : (b : Bool) → nat_le (suc p) (length xs) ≡ b → length xs ≤ p
    by_order true e = absurd (h (omega arith) (nat_le_told (suc p) (length xs) e))
    by_order false e = grind (arith, nat_tests, e)

-- ---- marks that are whole

pub many_rows : (n : Parts) (rows lists : List (List Entry)) → rows ≡ lists → IsSchedule n lists → length rows ≡ length (sources_of n)
many_rows n rows lists e is = ap length e ∙ is.enough

pub none_dead : (m : Marks) → m.dead ≡ [] → (c p : ℕ) → dead_of m.dead c p ≡ false
none_dead m e c p = ap (λ (ds : List (List Bool)). dead_of ds c p) e

-- where they were tested
pub live_marks : (n : Parts) (m : Marks) → IsNet n → AreLoopFree n → AreMarked n m → marks_live n m ≡ true → AreMarks n m
live_marks n m net free marked live = all_marks n m marked (live_by_test n m net free marked.acts live)
