-- A stop of one phase is the verdict on a diagram and on its file.
use Rattle.std.proofs.Common.{◌≡◌, refl, sym, subst, ℕ, List}
use Rattle.std.specs.Prelude.{Result, Ok, Err, IfOk, IfErr, ◌≤◌, length}
use Rattle.sci_base.specs.Plain.{Violation, violation_of}
use Rattle.sci_diagram.specs.Objects.{Objects, diagram_view}
use Rattle.sci_diagram.specs.declared.diagram.Diagram.{Diagram}
use Rattle.sci_base.specs.declared.stop.Stop.{Stop}
use Rattle.sci_diagram.specs.Reading.{IsRead, Accepts as IsDiagram}
use Rattle.sci_net.specs.Parts.{Parts}
use Rattle.sci_flat.specs.Ready.{IsReady}
use Rattle.sci_flat.specs.Flat.{IsFlatNet}
use Rattle.sci_flat.specs.Answer.{IsFlattened}
use Rattle.sci_infer.specs.Answer.{IsAnswer, IsStop}
use Rattle.sci_sched.specs.Plain.{rows_of}
use Rattle.sci_sched.specs.Answer.{IsPlan, IsPlanStop}
use Rattle.sci_sched.specs.Measured.{IsMeasured as HasSize}
use Rattle.sci_verdict.specs.declared.checked.Checked.{Checked}
use Rattle.sci_verdict.specs.declared.checked.Measured.{Measured}
use Rattle.sci_base.specs.declared.stop.Stop.TheVariants.{Refused, Memory}
use Rattle.sci_verdict.specs.Verdict.{GivesNet, BreaksNet, unread, not_flat, not_typed, Accepts, AcceptsSize, no_net, no_plan, plan_of, IsTyped, IsChecked, IsMeasured}
use Rattle.sci_verdict.specs.Verdict.{TreeGivesNet, TreeBreaksNet, tree_not_flat, tree_not_typed, TreeAccepts, tree_no_net, tree_no_plan, IsTreeTyped, IsTreeChecked}
use Rattle.sci_flat.proofs.Reading.{accepted_ready}

-- a diagram that was read
pub was_read : (bytes : List ℕ) (d : Diagram) (r : Result Diagram Stop) → r ≡ Ok d → IsRead bytes r → IsDiagram bytes (diagram_view d)
was_read bytes d r is h = subst (λ q. IsRead bytes q) is h

pub fit_to_flatten : (bytes : List ℕ) (d : Diagram) (r : Result Diagram Stop) → length bytes ≤ 16777216 → r ≡ Ok d → IsRead bytes r → IsReady (diagram_view d)
fit_to_flatten bytes d r short is h = accepted_ready bytes (diagram_view d) short (was_read bytes d r is h)

read_stops : (bytes : List ℕ) (e : Stop) → IsRead bytes (Err e) → IsTyped bytes (Err e)
read_stops bytes (Refused r) h = unread h
read_stops bytes Memory h = tt

pub stopped_reading : (bytes : List ℕ) (e : Stop) (r : Result Diagram Stop) (s : Result Parts Stop) → r ≡ Err e → s ≡ Err e → IsRead bytes r → IsTyped bytes s
stopped_reading bytes e r s is was h = subst (λ q. IsTyped bytes q) (sym was) (read_stops bytes e (subst (λ q. IsRead bytes q) is h))

-- ---- from the diagram to its net

flat_stops : (t : Objects) (e : Stop) → IsFlattened t (Err e) → IsTreeTyped t (Err e)
flat_stops t (Refused r) h = tree_not_flat h
flat_stops t Memory h = tt

pub stopped_flattening : (t : Objects) (e : Stop) (r : Result Parts Stop) (s : Result Parts Stop) → r ≡ Err e → s ≡ Err e → IsFlattened t r → IsTreeTyped t s
stopped_flattening t e r s is was h = subst (λ q. IsTreeTyped t q) (sym was) (flat_stops t e (subst (λ q. IsFlattened t q) is h))

pub flattened : (t : Objects) (n : Parts) (r : Result Parts Stop) → r ≡ Ok n → IsFlattened t r → IsFlatNet t n
flattened t n r is h = subst (λ q. IsFlattened t q) is h

infer_stops : (t : Objects) (n : Parts) (e : Stop) → IsFlatNet t n → IsStop n e → IsTreeTyped t (Err e)
infer_stops t n (Refused r) flat h = tree_not_typed n flat h
infer_stops t n Memory flat h = tt

pub inferred : (t : Objects) (n : Parts) (r : Result Parts Stop) → IsFlatNet t n → IfOk r (λ m. IsAnswer n (Ok m)) → IfErr r (λ e. IsStop n e) → IsTreeTyped t r
inferred t n (Ok m) flat ok stop = record { declared = n; flat = flat; inferred = ok }
inferred t n (Err e) flat ok stop = infer_stops t n e flat stop

-- ---- of the file that the diagram was read from

broken_net : (bytes : List ℕ) (t : Objects) (v : Violation) → IsDiagram bytes t → TreeBreaksNet t v → BreaksNet bytes v
broken_net bytes t v read (tree_not_flat h) = not_flat t read h
broken_net bytes t v read (tree_not_typed n flat h) = not_typed n (record { tree = t; read = read; flat = flat }) h

net_judged : (bytes : List ℕ) (t : Objects) (r : Result Parts Stop) → IsDiagram bytes t → IsTreeTyped t r → IsTyped bytes r
net_judged bytes t (Ok n) read h = record { declared = h.declared; given = record { tree = t; read = read; flat = h.flat }; inferred = h.inferred }
net_judged bytes t (Err (Refused r)) read h = broken_net bytes t (violation_of r) read h
net_judged bytes t (Err Memory) read h = tt

pub of_file : (bytes : List ℕ) (d : Diagram) (r : Result Diagram Stop) (s : Result Parts Stop) → r ≡ Ok d → IsRead bytes r → IsTreeTyped (diagram_view d) s → IsTyped bytes s
of_file bytes d r s is read h = net_judged bytes (diagram_view d) s (was_read bytes d r is read) h

-- ---- the schedules of a diagram

tree_net_stops : (t : Objects) (e : Stop) → IsTreeTyped t (Err e) → IsTreeChecked t (Err e)
tree_net_stops t (Refused r) h = tree_no_net h
tree_net_stops t Memory h = tt

pub tree_stopped_before : (t : Objects) (e : Stop) (r : Result Parts Stop) (s : Result Checked Stop) → r ≡ Err e → s ≡ Err e → IsTreeTyped t r → IsTreeChecked t s
tree_stopped_before t e r s is was h = subst (λ q. IsTreeChecked t q) (sym was) (tree_net_stops t e (subst (λ q. IsTreeTyped t q) is h))

pub tree_net_given : (t : Objects) (n : Parts) (r : Result Parts Stop) → r ≡ Ok n → IsTreeTyped t r → TreeGivesNet t n
tree_net_given t n r is h = subst (λ q. IsTreeTyped t q) is h

tree_plan_stops : (t : Objects) (n : Parts) (e : Stop) → TreeGivesNet t n → IsPlanStop n e → IsTreeChecked t (Err e)
tree_plan_stops t n (Refused r) given h = tree_no_plan n given h
tree_plan_stops t n Memory given h = tt

pub tree_stopped_planning : (t : Objects) (n : Parts) (e : Stop) (s : Result Checked Stop) → s ≡ Err e → TreeGivesNet t n → IsPlanStop n e → IsTreeChecked t s
tree_stopped_planning t n e s was given h = subst (λ q. IsTreeChecked t q) (sym was) (tree_plan_stops t n e given h)

pub tree_checked : (t : Objects) (c : Checked) → TreeGivesNet t c.net → IsPlan c.net (rows_of c.schedule) → TreeAccepts t (plan_of c)
tree_checked t c given h = record { given = given; planned = h }

-- ---- the schedules of a file

net_stops : (bytes : List ℕ) (e : Stop) → IsTyped bytes (Err e) → IsChecked bytes (Err e)
net_stops bytes (Refused r) h = no_net h
net_stops bytes Memory h = tt

pub stopped_before : (bytes : List ℕ) (e : Stop) (r : Result Parts Stop) (s : Result Checked Stop) → r ≡ Err e → s ≡ Err e → IsTyped bytes r → IsChecked bytes s
stopped_before bytes e r s is was h = subst (λ q. IsChecked bytes q) (sym was) (net_stops bytes e (subst (λ q. IsTyped bytes q) is h))

pub net_given : (bytes : List ℕ) (n : Parts) (r : Result Parts Stop) → r ≡ Ok n → IsTyped bytes r → GivesNet bytes n
net_given bytes n r is h = subst (λ q. IsTyped bytes q) is h

plan_stops : (bytes : List ℕ) (n : Parts) (e : Stop) → GivesNet bytes n → IsPlanStop n e → IsChecked bytes (Err e)
plan_stops bytes n (Refused r) given h = no_plan n given h
plan_stops bytes n Memory given h = tt

pub stopped_planning : (bytes : List ℕ) (n : Parts) (e : Stop) (s : Result Checked Stop) → s ≡ Err e → GivesNet bytes n → IsPlanStop n e → IsChecked bytes s
stopped_planning bytes n e s was given h = subst (λ q. IsChecked bytes q) (sym was) (plan_stops bytes n e given h)

pub checked : (bytes : List ℕ) (c : Checked) → GivesNet bytes c.net → IsPlan c.net (rows_of c.schedule) → Accepts bytes (plan_of c)
checked bytes c given h = record { given = given; planned = h }

-- ---- the same without the schedules

same_stops : (bytes : List ℕ) (e : Stop) → IsChecked bytes (Err e) → IsMeasured bytes (Err e)
same_stops bytes (Refused r) h = h
same_stops bytes Memory h = tt

pub unmeasured_before : (bytes : List ℕ) (e : Stop) (r : Result Parts Stop) (s : Result Measured Stop) → r ≡ Err e → s ≡ Err e → IsTyped bytes r → IsMeasured bytes s
unmeasured_before bytes e r s is was h = subst (λ q. IsMeasured bytes q) (sym was) (same_stops bytes e (net_stops bytes e (subst (λ q. IsTyped bytes q) is h)))

pub stopped_measuring : (bytes : List ℕ) (n : Parts) (e : Stop) (s : Result Measured Stop) → s ≡ Err e → GivesNet bytes n → IsPlanStop n e → IsMeasured bytes s
stopped_measuring bytes n e s was given h = subst (λ q. IsMeasured bytes q) (sym was) (same_stops bytes e (plan_stops bytes n e given h))

pub measured : (bytes : List ℕ) (m : Measured) → GivesNet bytes m.net → HasSize m.net m.size → AcceptsSize bytes m
measured bytes m given h =
    record { plan = record { net = m.net; rows = h.rows }; given = record { given = given; planned = h.planned }; net = refl; entries = h.entries; guards = h.guards }
