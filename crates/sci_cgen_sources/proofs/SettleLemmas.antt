-- What the code of the text that follows a reaction's values goes by.
use Rattle.std.proofs.Common.{arith, ◌≡◌, ℕ, zero, suc, ◌+◌, ◌-◌, ◌<◌, ◌≤◌, ◌^◌, List, length, drop, Bool, true, false, true≢false, refl, sym, ap, ◌∙◌, subst}
use Rattle.std.specs.Prelude.{nat_lt}
use Rattle.std.proofs.lemmas.List.{drop_more}
use Rattle.sci_forms.specs.declared.Kind.{Kind}
use Rattle.sci_forms.specs.declared.Kind.TheVariants.{Const}
use Rattle.sci_forms.specs.declared.ports.Port.{Port as Output}
use Rattle.sci_forms.specs.declared.spec.Spec.{Spec}
use Rattle.sci_forms.specs.Forms.{counts_of}
use Rattle.sci_forms.specs.Ports.{no_port, port_at, elements, total}
use Rattle.sci_forms.specs.Typed.{typed}
use Rattle.sci_kinds.proofs.TypedLemmas.{tests}
use Rattle.sci_net.specs.declared.Feed.{Feed}
use Rattle.sci_net.specs.declared.Source.{Source}
use Rattle.sci_net.specs.declared.Source.TheVariants.{Start, Port}
use Rattle.sci_net.specs.Parts.{Parts, IsBlock, spec_of}
use Rattle.sci_net.specs.Net.{IsNet}
use Rattle.sci_net.specs.Sources.{sources_of, source_of}
use Rattle.sci_places.proofs.Outputs.{block_within}
use Rattle.sci_reaction.specs.Links.{IsSource}
use Rattle.c_ast.specs.Syntax.{tell, value, Statement, Block, done}
use Rattle.c_mean.specs.Texts.{place, joined, upto}
use Rattle.sci_cgen_blocks.specs.Texts.{Places, values}
use Rattle.sci_cgen_blocks.proofs.Written.{joined_assoc, joined_done, all_dropped}
use Rattle.sci_program.specs.declared.part.Part.{Part}
use Rattle.sci_program.specs.declared.part.Part.TheVariants.{Absent, Sure, Marked, Taken}
use Rattle.sci_program.specs.Program.{natural, one, text_where, where_part, elements_shown, outputs_shown, delay_text, places_of, output_shown}
use Rattle.sci_program.proofs.Sizes.{port_is}
use Rattle.sci_cgen_sources.specs.Taking.{is_absent}

-- ---- texts behind one another

-- the first part of what is to come was pushed
pub part_done : (old new part rest all : Block) → new ≡ joined old part → joined old (joined part rest) ≡ all → joined new rest ≡ all
part_done old new part rest all e so_far = ap (λ (b : Block). joined b rest) e ∙ joined_assoc old part rest ∙ so_far

-- nothing is to come
pub all_done : (old rest all : Block) → rest ≡ done → joined old rest ≡ all → old ≡ all
all_done old rest all e so_far = sym (joined_done old) ∙ ap (joined old) (sym e) ∙ so_far

pub where_absent : (test : Bool) (b x : Block) → test ≡ false → b ≡ joined b (text_where test x)
where_absent test b x is = sym (joined_done b) ∙ ap (λ (t : Bool). joined b (text_where t x)) (sym is)

-- a block that takes no part has no text
absent_text : (p : Part) (b : ℕ) (t : Block) → is_absent p ≡ true → where_part p b t ≡ done
absent_text Absent b t h = refl
absent_text Sure b t h = absurd (true≢false (sym h))
absent_text Marked b t h = absurd (true≢false (sym h))
absent_text (Taken q) b t h = absurd (true≢false (sym h))

pub absent_behind : (p : Part) (b : ℕ) (x t : Block) → is_absent p ≡ true → x ≡ joined x (where_part p b t)
absent_behind p b x t is = sym (joined_done x) ∙ ap (joined x) (sym (absent_text p b t is))

pub absent_where : (test : Bool) (p : Part) (b : ℕ) (x t : Block) → is_absent p ≡ true → x ≡ joined x (text_where test (where_part p b t))
absent_where test p b x t is = sym (joined_done x) ∙ ap (joined x) (sym (by_test test))
  where
    by_test : (on : Bool) → text_where on (where_part p b t) ≡ done
    by_test true = absent_text p b t is
    by_test false = refl

-- the text of one more, counted from 1
pub each_turn : (f : ℕ → Block) (k : ℕ) (old mid new : Block) → mid ≡ joined old (upto (λ j. f (suc j)) k) → new ≡ joined mid (f (k + 1))
    → new ≡ joined old (upto (λ j. f (suc j)) (k + 1))
each_turn f k old mid new so_far e =
    let up : k + 1 ≡ suc k = omega arith in
    let g = λ (j : ℕ). f (suc j) in
    e ∙ ap (λ (b : Block). joined b (f (k + 1))) so_far ∙ joined_assoc old (upto g k) (f (k + 1))
    ∙ ap (λ (j : ℕ). joined old (joined (upto g k) (f j))) up ∙ ap (λ (j : ℕ). joined old (upto g j)) (sym up)

-- four texts, one behind the other
pub four_done : (a b c d : Block) (u v w x y : Block) → u ≡ done → v ≡ joined u a → w ≡ joined v b → x ≡ joined w c → y ≡ joined x d
    → y ≡ joined a (joined b (joined c d))
four_done a b c d u v w x y e f g h i =
    let first : v ≡ a = f ∙ ap (λ (z : Block). joined z a) e in
    let second : w ≡ joined a b = g ∙ ap (λ (z : Block). joined z b) first in
    let third : x ≡ joined (joined a b) c = h ∙ ap (λ (z : Block). joined z c) second in
    i ∙ ap (λ (z : Block). joined z d) third ∙ joined_assoc (joined a b) c d ∙ joined_assoc a b (joined c d)

-- ---- the values of a block

-- element k + 1 of m was pushed
pub element_done : (b p o k m : ℕ) (old new all : Block) (s : Statement) → k < m → new ≡ joined old (one s)
    → s ≡ tell (value (natural b) (natural p) (natural (k + 1)) (place values (o + k)))
    → joined old (elements_shown b p (k + 1) (o + k) (m - k)) ≡ all
    → joined new (elements_shown b p (k + 1 + 1) (o + (k + 1)) (m - (k + 1))) ≡ all
element_done b p o k m old new all s l e is so_far =
    let left : m - k ≡ suc (m - (k + 1)) = omega (arith, l) in
    let far : o + (k + 1) ≡ o + k + 1 = omega arith in
    let first : Block = one (tell (value (natural b) (natural p) (natural (k + 1)) (place values (o + k)))) in
    ap (λ (j : ℕ). joined new (elements_shown b p (k + 1 + 1) j (m - (k + 1)))) far
    ∙ part_done old new first (elements_shown b p (k + 1 + 1) (o + k + 1) (m - (k + 1))) all (e ∙ ap (λ (x : Statement). joined old (one x)) is)
    (ap (λ (j : ℕ). joined old (elements_shown b p (k + 1) (o + k) j)) (sym left) ∙ so_far)

pub elements_none : (b p e o m k : ℕ) → m ≤ k → elements_shown b p e o (m - k) ≡ done
elements_none b p e o m k h = let none : m - k ≡ 0 = omega (arith, h) in ap (elements_shown b p e o) none

-- output k + 1 was pushed
pub output_done : (b o k m : ℕ) (qs : List Output) (old new all : Block) → k < length qs → m ≡ elements (port_at qs k)
    → new ≡ joined old (output_shown b (k + 1) o m) → joined old (outputs_shown b (k + 1) o (drop k qs)) ≡ all
    → joined new (outputs_shown b (k + 1 + 1) (o + m) (drop (k + 1) qs)) ≡ all
output_done b o k m qs old new all l is e so_far =
    let rest = λ (j : ℕ). outputs_shown b (k + 1 + 1) (o + j) (drop (k + 1) qs) in
    part_done old new (output_shown b (k + 1) o m) (rest m) all e
    (ap (λ (j : ℕ). joined old (joined (output_shown b (k + 1) o j) (rest j))) is
    ∙ ap (λ (ps : List Output). joined old (outputs_shown b (k + 1) o ps)) (sym (drop_more qs k no_port l)) ∙ so_far)

pub outputs_none : (b p o k : ℕ) (qs : List Output) → length qs ≤ k → outputs_shown b p o (drop k qs) ≡ done
outputs_none b p o k qs h = ap (outputs_shown b p o) (all_dropped qs k h)

outs_most : (c : Kind) (k : ℕ) → (counts_of c k).outs_most ≤ 64
outs_most Const k = omega arith
outs_most _ k = omega arith

-- a block has few outputs
pub few_outs : (s : Spec) → typed s ≡ true → length s.outs ≤ 64
few_outs s h = omega (arith, outs_most s.kind (length s.ins), (tests s.kind s h).outs_most)

-- where a block's outputs lie, as its spec and its places are read
pub outs_within : (n : Parts) (b : ℕ) (s : Spec) (p : Places) → IsNet n → IsBlock n b → s ≡ spec_of n b → p ≡ places_of n b → p.outs + total s.outs ≤ 2 ^ 20
outs_within n b s p net is e f =
    let within = block_within n b is in
    subst (λ (t : Spec). p.outs + total t.outs ≤ 2 ^ 20) (sym e)
    (subst (λ (q : Places). q.outs + total (spec_of n b).outs ≤ 2 ^ 20) (sym f) (omega (arith, within, net.small)))

pub none_shown : (m : ℕ) → m ≡ 0 → nat_lt 0 m ≡ false
none_shown zero e = refl
none_shown (suc m) e = absurd (omega (arith, e))

-- ---- sources

pub port_source : (n : Parts) (q : Feed) (i : ℕ) → 1 ≤ i → i < length (sources_of n) → source_of n i ≡ Port q → IsSource n (Port q)
port_source n q zero l m e = absurd (omega (arith, l))
port_source n q (suc j) l m e = port_is n q j (omega (arith, m)) e

-- start isn't programmed
pub start_absent : (n : Parts) (part : ℕ → Part) (i : ℕ) (s : Source) (b : Block) → s ≡ Start → b ≡ joined b (delay_text n part i s)
start_absent n part i s b is = sym (joined_done b) ∙ ap (λ (t : Source). joined b (delay_text n part i t)) (sym is)
