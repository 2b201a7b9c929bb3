-- Tests over marks, as code does them.
use Rattle.std.proofs.Common.{◌≡◌, ℕ, suc, ◌+◌, ◌<◌, ◌≤◌, ◌^◌, nat_eq, nat_lt, Bool, true, false, not, ◌&&◌, ◌||◌, cond, Bor, List, [], ◌++◌, length, drop, map, get_or, Option, Some, None, refl, sym, ap, ◌∙◌, arith, lit≤}
use Rattle.std.specs.Prelude.{bit_or, option_map, option_to_list}
use Rattle.std.specs.List.{list_all}
use Rattle.std.specs.Int.{bit_at}
use Rattle.std.proofs.lemmas.Bool.Decides.{nat_tests}
use Rattle.std.proofs.lemmas.List.Folds.{list_all-map}
use Rattle.std.proofs.lemmas.Nat.Bits.{bit_at_above}
use Rattle.std.proofs.lemmas.List.{get_or_past, get_or-map, length-map, at_drop_more}
use Rattle.sci_forms.specs.declared.Kind.{Kind}
use Rattle.sci_forms.specs.declared.Kind.TheVariants.{Const, Select}
use Rattle.sci_forms.specs.declared.spec.Spec.{Spec}
use Rattle.sci_forms.specs.Forms.{counts_of}
use Rattle.sci_forms.specs.Typed.{typed}
use Rattle.sci_kinds.proofs.TypedLemmas.{tests}
use Rattle.sci_net.specs.declared.Feed.{Feed}
use Rattle.sci_net.specs.declared.Source.TheVariants.{Start}
use Rattle.sci_net.specs.Parts.{Parts}
use Rattle.sci_net.specs.Sources.{sources_of, source_of}
use Rattle.sci_reaction.specs.Kept.{guard_of, guards_of, entry_of as plain_entry}
use Rattle.sci_reaction.specs.Schedule.{Guard as PlainGuard, Entry as PlainEntry}
use Rattle.sci_reaction.specs.declared.entry.Guard.{Guard}
use Rattle.sci_reaction.specs.declared.entry.Entry.{Entry}
use Rattle.sci_ranges_base.specs.declared.masks.Masks.{Masks}
use Rattle.sci_ranges_rows.specs.Marks.{Marks, dead_of, lets, acts_at, entry_of, entry_at, may_act}
use Rattle.sci_ranges_rows.specs.Tests.{covers, feeds_port, acts_too, fed_too, acts_with, acts_by_entries, along_at, is_branch, under_by_entry, under_at, fed_by, masks_below}
use Rattle.sci_ranges_marks.specs.declared.indexed_row.IndexedRow.{IndexedRow}
use Rattle.sci_ranges_marks.specs.View.{row_of, masks_here}

-- ---- rows

pub row_read : (rows : List IndexedRow) (k : ℕ) (r : IndexedRow) → k < length rows → r ≡ get_or rows k r → get_or (map row_of rows) k [] ≡ row_of r
row_read rows k r h s = get_or-map row_of rows k r [] h ∙ ap row_of (sym s)

pub no_row : (rows : List IndexedRow) (k b : ℕ) → length rows ≤ k → entry_of (get_or (map row_of rows) k []) b ≡ None
no_row rows k b h = let len = length-map rows row_of in ap (λ (es : List PlainEntry). entry_of es b) (get_or_past (map row_of rows) k [] (omega (arith, h, len)))

-- ---- kinds but SELECT_m

pub acts_with_other : (kind : Kind) (m : Marks) (k : ℕ) (a : Option PlainEntry) (c : PlainEntry) (p : ℕ) → (kind ≡ Select → ⊥) → acts_with kind m k a c p ≡ acts_too m k a c
acts_with_other Select m k a c p h = absurd (h refl)
acts_with_other _ m k a c p h = refl

-- ---- sources

pub source_past : (n : Parts) (k : ℕ) → length (sources_of n) ≤ k → Start ≡ source_of n k
source_past n k h = sym (get_or_past (sources_of n) k Start h)

-- ---- guards from the last one on

pub fed_more : (m : Marks) (k : ℕ) (gs : List Guard) (i : ℕ) (g : Guard) (on : Bool) → i < length gs → g ≡ get_or gs i g → on ≡ lets (dead_of m.dead) (acts_at m k) (guard_of g) →
    cond on (bit_or g.mask (fed_by m k (guards_of (drop (i + 1) gs)))) (fed_by m k (guards_of (drop (i + 1) gs))) ≡ fed_by m k (guards_of (drop i gs))
fed_more m k gs i g on h s is =
    let rest : ℕ = fed_by m k (guards_of (drop (i + 1) gs)) in
    ap (λ (b : Bool). cond b (bit_or g.mask rest) rest) is
    ∙ (ap (λ (x : Guard). cond (lets (dead_of m.dead) (acts_at m k) (guard_of x)) (bit_or x.mask rest) rest) s
    ∙ sym (at_drop_more (λ (xs : List Guard). fed_by m k (guards_of xs)) gs i g h))

-- ---- bits

pub bits_past : (mask p : ℕ) → mask < 2 ^ 64 → 64 ≤ p → nat_lt p 64 ≡ nat_eq (bit_at mask p) 1
bits_past mask p small h = let none : bit_at mask p ≡ 0 = bit_at_above mask 64 p small h in grind (arith, nat_tests, none)

-- ---- entries that are there

abbrev pub plain_of : Option (Bor Entry) → Option PlainEntry
plain_of o = option_map (λ (e : Bor Entry). plain_entry e.now) o

pub acts_too_is : (m : Marks) (k : ℕ) (o : Option PlainEntry) (a r : Entry) (fs rs : List Guard) (b : Bool) → o ≡ Some (plain_entry a) → a.always ≡ false → r.always ≡ false →
    fs ≡ a.guards.items → rs ≡ r.guards.items → b ≡ list_all (λ g. covers m k (guards_of fs) (guard_of g)) rs → b ≡ acts_too m k o (plain_entry r)
acts_too_is m k o a r fs rs b there fa ra fe re is =
    is
    ∙ (ap (λ (gs : List Guard). list_all (λ g. covers m k (guards_of gs) (guard_of g)) rs) fe
    ∙ (ap (list_all (λ g. covers m k (guards_of a.guards.items) (guard_of g))) re
    ∙ (sym (list_all-map (covers m k (guards_of a.guards.items)) guard_of r.guards.items)
    ∙ (ap (λ (t : Bool). not t && list_all (covers m k (guards_of a.guards.items)) (guards_of r.guards.items)) (sym ra)
    ∙ (ap (λ (t : Bool). t || (not r.always && list_all (covers m k (guards_of a.guards.items)) (guards_of r.guards.items))) (sym fa)
    ∙ ap (λ (e : Option PlainEntry). acts_too m k e (plain_entry r)) (sym there))))))

abbrev covers_fed : Marks → ℕ → List Guard → ℕ → PlainGuard → Bool
covers_fed m k fs p g = not (feeds_port p g) || covers m k (guards_of fs) g

pub fed_too_is : (m : Marks) (k : ℕ) (o : Option PlainEntry) (a r : Entry) (p : ℕ) (fs rs : List Guard) (b : Bool) → o ≡ Some (plain_entry a) → a.always ≡ false →
    false ≡ nat_eq (bit_at r.mask p) 1 → fs ≡ a.guards.items → rs ≡ r.guards.items →
    b ≡ list_all (λ g. not (feeds_port p (guard_of g)) || covers m k (guards_of fs) (guard_of g)) rs → b ≡ fed_too m k o (plain_entry r) p
fed_too_is m k o a r p fs rs b there fa ra fe re is =
    let all = list_all (covers_fed m k a.guards.items p) (guards_of r.guards.items) in
    is
    ∙ (ap (λ (gs : List Guard). list_all (λ g. not (feeds_port p (guard_of g)) || covers m k (guards_of gs) (guard_of g)) rs) fe
    ∙ (ap (list_all (λ g. not (feeds_port p (guard_of g)) || covers m k (guards_of a.guards.items) (guard_of g))) re
    ∙ (sym (list_all-map (covers_fed m k a.guards.items p) guard_of r.guards.items)
    ∙ (ap (λ (t : Bool). not t && all) ra
    ∙ (ap (λ (t : Bool). t || (not (nat_eq (bit_at r.mask p) 1) && all)) (sym fa)
    ∙ ap (λ (e : Option PlainEntry). fed_too m k e (plain_entry r) p) (sym there))))))

pub under_is : (m : Marks) (q : Feed) (k c : ℕ) (e : Entry) (gs : List Guard) (b : Bool) → may_act m k c ≡ true → entry_at m k c ≡ Some (plain_entry e) → e.always ≡ false → gs ≡ e.guards.items →
    b ≡ list_all (λ g. is_branch m k q (guard_of g)) gs → b ≡ under_at m q k c
under_is m q k c e gs b may there always ge is =
    is
    ∙ (ap (list_all (λ g. is_branch m k q (guard_of g))) ge
    ∙ (sym (list_all-map (is_branch m k q) guard_of e.guards.items)
    ∙ (ap (λ (t : Bool). not t && list_all (is_branch m k q) (guards_of e.guards.items)) (sym always)
    ∙ (ap (under_by_entry m k q) (sym there) ∙ ap (λ (t : Bool). not t || under_by_entry m k q (entry_at m k c)) (sym may)))))

pub along_is : (m : Marks) (k a c : ℕ) (e : Entry) (o : Option PlainEntry) (b : Bool) → may_act m k c ≡ true → entry_at m k c ≡ Some (plain_entry e) → o ≡ entry_at m k a
    → b ≡ acts_too m k o (plain_entry e) → b ≡ along_at m k a c
along_is m k a c e o b may there feeder is =
    is
    ∙ (ap (λ (p : Option PlainEntry). acts_too m k p (plain_entry e)) feeder
    ∙ (ap (acts_by_entries m k (entry_at m k a)) (sym there) ∙ ap (λ (t : Bool). not t || acts_by_entries m k (entry_at m k a) (entry_at m k c)) (sym may)))

pub along_none : (m : Marks) (k a c : ℕ) → may_act m k c ≡ true → entry_at m k c ≡ None → false ≡ along_at m k a c
along_none m k a c may there =
    ap (acts_by_entries m k (entry_at m k a)) (sym there) ∙ ap (λ (t : Bool). not t || acts_by_entries m k (entry_at m k a) (entry_at m k c)) (sym may)

-- ---- masks, place by place

pub masks_more : (m : Marks) (c k : ℕ) (all new : List Masks) (o : Option Masks) → all ≡ masks_below m c k → option_to_list o ≡ masks_here m k c → new ≡ all ++ option_to_list o → new ≡ masks_below m c (k + 1)
masks_more m c k all new o so_far here is =
    let one : suc k ≡ k + 1 = omega arith in
    is ∙ (ap (λ (xs : List Masks). xs ++ option_to_list o) so_far ∙ (ap (λ (ys : List Masks). masks_below m c k ++ ys) here ∙ ap (masks_below m c) one))

-- ---- inputs

ins_most : (c : Kind) (n : ℕ) → (counts_of c n).ins_most ≤ 64
ins_most Const n = lit≤ tt
ins_most _ n = lit≤ tt

pub ins_few : (s : Spec) → typed s ≡ true → length s.ins ≤ 64
ins_few s h = let t = tests s.kind s h in let most = t.ins_most in let few = ins_most s.kind (length s.ins) in omega (arith, most, few)
