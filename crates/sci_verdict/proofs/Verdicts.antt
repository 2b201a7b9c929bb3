-- Of each diagram at most one verdict holds, and so of its file.
use Rattle.std.proofs.Common.{◌≡◌, inl, refl, ◌∙◌, ap, subst, ℕ, List}
use Rattle.std.specs.Prelude.{Result, Ok, Err, Option, Some, None}
use Rattle.sci_base.specs.Plain.{Violation}
use Rattle.sci_diagram.specs.Objects.{Objects}
use Rattle.sci_diagram.specs.Reading.{Accepts as IsDiagram, Breaks as IsNoDiagram}
use Rattle.sci_net.specs.Parts.{Parts}
use Rattle.sci_flat.proofs.Verdicts.{verdict, violation}
use Rattle.sci_verdict.proofs.OneFlat.{one_flat}
use Rattle.sci_infer.specs.declared.values.Resolution.{Resolution}
use Rattle.sci_infer.specs.declared.values.Resolution.TheVariants.{Conflict, Open, Values}
use Rattle.sci_net.specs.Flat.{IsFlat}
use Rattle.sci_net.specs.Net.{IsNet}
use Rattle.sci_infer.specs.Typing.{Decides}
use Rattle.sci_infer.specs.PortParts.{parts_in, AreTied}
use Rattle.sci_infer.specs.Typed.{typed_parts}
use Rattle.sci_infer.specs.Broken.{Blamed, net_broken}
use Rattle.sci_infer.specs.Answer.{IsAnswer, judged, answered}
use Rattle.sci_infer.proofs.Alone.{one_answer}
use Rattle.sci_infer.proofs.TypedNet.{well_formed}
use Rattle.sci_reaction.specs.Schedule.{Entry}
use Rattle.sci_sched.specs.Answer.{IsPlan, IsPlanBreak}
use Rattle.sci_verdict.proofs.OnePlan.{one_plan, one_plan_break, plan_or_not}
use Rattle.sci_verdict.specs.Verdict.{GivesNet, BreaksNet, unread, not_flat, not_typed, Plan, Accepts, Breaks, no_net, no_plan}
use Rattle.sci_verdict.specs.Verdict.{TreeGivesNet, TreeBreaksNet, tree_not_flat, tree_not_typed, TreeAccepts, TreeBreaks, tree_no_net, tree_no_plan}
use Rattle.sci_verdict.specs.Laws.{AreAlike, OneVerdict, OneTreeVerdict}

-- ---- of a diagram in memory, its net

same_answer : (m n : Parts) (o q : Result Parts Violation) → m ≡ n → IsAnswer m o → IsAnswer n q → o ≡ q
same_answer m n o q same a b = one_answer n o q (subst (λ (x : Parts). IsAnswer x o) same a) b

tree_same_net : (t : Objects) (m n : Parts) → TreeGivesNet t m → TreeGivesNet t n → m ≡ n
tree_same_net t m n h k = let e = same_answer h.declared k.declared (Ok m) (Ok n) (one_flat t h.declared k.declared h.flat k.flat) h.inferred k.inferred in cc e

tree_net_or_not : (t : Objects) (n : Parts) (v : Violation) → TreeGivesNet t n → TreeBreaksNet t v → ⊥
tree_net_or_not t n v h (tree_not_flat k) = verdict t h.declared v h.flat k
tree_net_or_not t n v h (tree_not_typed m flat k) = let e = same_answer h.declared m (Ok n) (Err v) (one_flat t h.declared m h.flat flat) h.inferred k in absurd (cc e)

tree_one_net_violation : (t : Objects) (v w : Violation) → TreeBreaksNet t v → TreeBreaksNet t w → v ≡ w
tree_one_net_violation t v w (tree_not_flat h) (tree_not_flat k) = violation t v w h k
tree_one_net_violation t v w (tree_not_flat h) (tree_not_typed n flat k) = absurd (verdict t n v flat h)
tree_one_net_violation t v w (tree_not_typed n flat h) (tree_not_flat k) = absurd (verdict t n w flat k)
tree_one_net_violation t v w (tree_not_typed m flat h) (tree_not_typed n flat2 k) = let e = same_answer m n (Err v) (Err w) (one_flat t m n flat flat2) h k in cc e

judged_ok : (n m : Parts) (b : Option Blamed) → judged n b ≡ Ok m → (b ≡ None) × (n ≡ m)
judged_ok n m None e = (refl, cc e)
judged_ok n m (Some x) e = absurd (cc e)

answer_is_net : (n m : Parts) (v : Resolution) → IsFlat n → Decides (parts_in n) (AreTied n) v → answered n v ≡ Ok m → IsNet m
answer_is_net n m (Conflict at span) flat d e = absurd (cc e)
answer_is_net n m (Open at) flat d e = absurd (cc e)
answer_is_net n m (Values vs) flat d e =
    let j = judged_ok (typed_parts vs.items n) m (net_broken (typed_parts vs.items n).specs) e in
    subst IsNet j.1 (well_formed n flat vs.items d.1 j.0)

pub tree_given_is_net : (t : Objects) (n : Parts) → TreeGivesNet t n → IsNet n
tree_given_is_net t n h = answer_is_net h.declared n h.inferred.verdict h.flat.flat h.inferred.decided h.inferred.given

-- ---- and with its schedules

abbrev made_plan : Parts → List (List Entry) → Plan
made_plan n rows = record { net = n; rows = rows }

tree_one_made : (t : Objects) (p q : Plan) → TreeAccepts t p → TreeAccepts t q → p ≡ q
tree_one_made t p q h k =
    let net : p.net ≡ q.net = tree_same_net t p.net q.net h.given k.given in
    let rows : p.rows ≡ q.rows = one_plan q.net p.rows q.rows (tree_given_is_net t q.net k.given) (subst (λ (n : Parts). IsPlan n p.rows) net h.planned) k.planned in
    ap (λ (n : Parts). made_plan n p.rows) net ∙ ap (made_plan q.net) rows

tree_one_break : (t : Objects) (v w : Violation) → TreeBreaks t v → TreeBreaks t w → AreAlike v w
tree_one_break t v w (tree_no_net h) (tree_no_net k) = inl (tree_one_net_violation t v w h k)
tree_one_break t v w (tree_no_net h) (tree_no_plan n given k) = absurd (tree_net_or_not t n v given h)
tree_one_break t v w (tree_no_plan n given h) (tree_no_net k) = absurd (tree_net_or_not t n w given k)
tree_one_break t v w (tree_no_plan m given h) (tree_no_plan n given2 k) =
    one_plan_break n v w (tree_given_is_net t n given2) (subst (λ (x : Parts). IsPlanBreak x v) (tree_same_net t m n given given2) h) k

tree_not_both : (t : Objects) (p : Plan) (v : Violation) → TreeAccepts t p → TreeBreaks t v → ⊥
tree_not_both t p v h (tree_no_net k) = tree_net_or_not t p.net v h.given k
tree_not_both t p v h (tree_no_plan n given k) =
    plan_or_not n p.rows v (tree_given_is_net t n given) (subst (λ (x : Parts). IsPlan x p.rows) (tree_same_net t p.net n h.given given) h.planned) k

pub one_tree_verdict : OneTreeVerdict
one_tree_verdict = record { one_made = tree_one_made; one_break = tree_one_break; not_both = tree_not_both }

-- ---- of a file: what is read of it, and its verdict

same_tree : (bytes : List ℕ) (t u : Objects) → IsDiagram bytes t → IsDiagram bytes u → t ≡ u
same_tree bytes t u h k = cc (h, k)

net_of_tree : (bytes : List ℕ) (n : Parts) (h : GivesNet bytes n) → TreeGivesNet h.given.tree n
net_of_tree bytes n h = record { declared = h.declared; flat = h.given.flat; inferred = h.inferred }

pub given_is_net : (bytes : List ℕ) (n : Parts) → GivesNet bytes n → IsNet n
given_is_net bytes n h = tree_given_is_net h.given.tree n (net_of_tree bytes n h)

-- the bytes are no diagram, or the diagram breaks a rule
data FileBreaks (bytes : List ℕ) (v : Violation) : Type 0 where
  no_diagram : IsNoDiagram bytes v → FileBreaks bytes v
  tree_breaks : (t : Objects) → IsDiagram bytes t → TreeBreaks t v → FileBreaks bytes v

net_breaks : (bytes : List ℕ) (v : Violation) → BreaksNet bytes v → FileBreaks bytes v
net_breaks bytes v (unread h) = no_diagram h
net_breaks bytes v (not_flat t read h) = tree_breaks t read (tree_no_net (tree_not_flat h))
net_breaks bytes v (not_typed n given h) = tree_breaks given.tree given.read (tree_no_net (tree_not_typed n given.flat h))

file_breaks : (bytes : List ℕ) (v : Violation) → Breaks bytes v → FileBreaks bytes v
file_breaks bytes v (no_net h) = net_breaks bytes v h
file_breaks bytes v (no_plan n given h) = tree_breaks given.given.tree given.given.read (tree_no_plan n (net_of_tree bytes n given) h)

plan_of_tree : (bytes : List ℕ) (p : Plan) (h : Accepts bytes p) → TreeAccepts h.given.given.tree p
plan_of_tree bytes p h = record { given = net_of_tree bytes p.net h.given; planned = h.planned }

one_made : (bytes : List ℕ) (p q : Plan) → Accepts bytes p → Accepts bytes q → p ≡ q
one_made bytes p q h k =
    let same = same_tree bytes h.given.given.tree k.given.given.tree h.given.given.read k.given.given.read in
    tree_one_made k.given.given.tree p q (subst (λ (t : Objects). TreeAccepts t p) same (plan_of_tree bytes p h)) (plan_of_tree bytes q k)

one_file_break : (bytes : List ℕ) (v w : Violation) → FileBreaks bytes v → FileBreaks bytes w → AreAlike v w
one_file_break bytes v w (no_diagram h) (no_diagram k) = inl (cc (h, k))
one_file_break bytes v w (no_diagram h) (tree_breaks u read k) = absurd (cc (h, read))
one_file_break bytes v w (tree_breaks t read h) (no_diagram k) = absurd (cc (read, k))
one_file_break bytes v w (tree_breaks t read h) (tree_breaks u read2 k) = tree_one_break u v w (subst (λ (x : Objects). TreeBreaks x v) (same_tree bytes t u read read2) h) k

one_break : (bytes : List ℕ) (v w : Violation) → Breaks bytes v → Breaks bytes w → AreAlike v w
one_break bytes v w h k = one_file_break bytes v w (file_breaks bytes v h) (file_breaks bytes w k)

file_not_both : (bytes : List ℕ) (p : Plan) (v : Violation) → Accepts bytes p → FileBreaks bytes v → ⊥
file_not_both bytes p v h (no_diagram k) = absurd (cc (h.given.given.read, k))
file_not_both bytes p v h (tree_breaks t read k) =
    tree_not_both t p v (subst (λ (x : Objects). TreeAccepts x p) (same_tree bytes h.given.given.tree t h.given.given.read read) (plan_of_tree bytes p h)) k

not_both : (bytes : List ℕ) (p : Plan) (v : Violation) → Accepts bytes p → Breaks bytes v → ⊥
not_both bytes p v h k = file_not_both bytes p v h (file_breaks bytes v k)

pub one_verdict : OneVerdict
one_verdict = record { one_made = one_made; one_break = one_break; not_both = not_both }
