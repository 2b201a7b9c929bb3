-- The first block that breaks a rule.
use Rattle.std.proofs.Common.{◌≡◌, ◌<◌, ℕ, List, [], ◌++◌, ◌∷◌, get_or, Vec, sym, ap, ◌∙◌, subst, inl, inr, length}
use Rattle.std.specs.declared.alloc.Global.{Global}
use Rattle.std.proofs.lemmas.List.{get_or-map, get_or_default, map_push}
use Rattle.sci_base.specs.declared.refusal.Place.{Place}
use Rattle.sci_forms.specs.declared.spec.Spec.{Spec}
use Rattle.sci_net.specs.declared.Wire.{Wire}
use Rattle.sci_net.specs.declared.Feed.{Feed}
use Rattle.sci_net.specs.Parts.{no_spec, paths_of, rows_of}
use Rattle.sci_blocks.specs.declared.class.PortClass.TheVariants.{Input}
use Rattle.sci_flat.specs.Lists.{plain}
use Rattle.sci_flat.specs.declared.steps.port_numbers.PortNumbers.{PortNumbers}
use Rattle.sci_flat.specs.PortNumbers.{count}
use Rattle.sci_base.specs.declared.stop.Stop.{Stop}
use Rattle.sci_base.specs.Stops.{IsViolation, StopsBy}
use Rattle.sci_base.proofs.Stopping.{stops_by}
use Rattle.sci_flat.specs.Wired.{AreWires, IsFirstUnfed, seat_of, spec_at, IsTakenAt, AllWired, source_missing, column_shared, BreaksAt}

pub row_wired : (feeds feeds' : List Feed) (lists lists' : List (Vec ℕ Global)) (s : PortNumbers) (n : ℕ) (row : List Wire) → feeds' ≡ feeds → lists' ≡ lists → AreWires feeds' (plain lists') s n row → AreWires feeds (plain lists) s n row
row_wired feeds feeds' lists lists' s n row e f w =
    let P : List Feed → Type 0 = λ x. AreWires x (plain lists') s n row in
    let Q : List (Vec ℕ Global) → Type 0 = λ x. AreWires feeds (plain x) s n row in
    subst Q f (subst P e w)

pub rows_push : (rows new : List (Vec Wire Global)) (row : Vec Wire Global) → new ≡ rows ++ row ∷ [] → rows_of new ≡ rows_of rows ++ row.items ∷ []
rows_push rows new row e = ap (rows_of {A = Wire}) e ∙ map_push (λ (v : Vec Wire Global). v.items) rows row

pub path_at : (ps : List Place) (b : ℕ) (p : Place) → b < length ps → p ≡ get_or ps b p → get_or (paths_of ps) b [] ≡ p.path.items
path_at ps b p h is = get_or-map (λ (x : Place). x.path.items) ps b p [] h ∙ ap (λ (x : Place). x.path.items) (sym is)

pub breaks_unfed : (feeds : List Feed) (lists lists' : List (Vec ℕ Global)) (ss : List PortNumbers) (specs : List Spec) (ps : List Place) (b k : ℕ) (p : Place) (rows : List (List Wire)) (e : Stop) → b < length ss → b < length ps → p ≡ get_or ps b p → lists' ≡ lists
    → AllWired feeds (plain lists) ss specs b rows → IsFirstUnfed (plain lists') (seat_of ss b) k → IsViolation (source_missing p.path.items k) e → StopsBy (BreaksAt (plain lists) ss specs (paths_of ps)) e
breaks_unfed feeds lists lists' ss specs ps b k p rows e h l is f w u v =
    let Q : List (Vec ℕ Global) → Type 0 = λ x. IsFirstUnfed (plain x) (seat_of ss b) k in
    stops_by (BreaksAt (plain lists) ss specs (paths_of ps)) (source_missing p.path.items k) e v
    (inl (b, k, record { there = h; sound = w.sound; unfed = subst Q f u }, ap (λ (x : List ℕ). source_missing x k) (sym (path_at ps b p l is))))

pub breaks_taken : (feeds : List Feed) (lists : List (Vec ℕ Global)) (ss : List PortNumbers) (specs : List Spec) (ps : List Place) (b : ℕ) (p : Place) (s : Spec) (rows : List (List Wire)) (row : List Wire) (e : Stop) → b < length ss → b < length ps → b < length specs
    → p ≡ get_or ps b p → s ≡ get_or specs b s → AllWired feeds (plain lists) ss specs b rows → AreWires feeds (plain lists) (seat_of ss b) (count (seat_of ss b) Input) row → IsTakenAt specs b → IsViolation (column_shared p.path.items s) e → StopsBy (BreaksAt (plain lists) ss specs (paths_of ps)) e
breaks_taken feeds lists ss specs ps b p s rows row e h l m is is_s w r t v =
    let spec : spec_at specs b ≡ s = get_or_default specs b no_spec s m ∙ sym is_s in
    stops_by (BreaksAt (plain lists) ss specs (paths_of ps)) (column_shared p.path.items s) e v
    (inr (
      b,
      record { there = h; sound = w.sound; reached = λ k i. let one = r.each k i in (one.0, one.1); taken = t },
      ap (λ (x : List ℕ). column_shared x s) (sym (path_at ps b p l is)) ∙ ap (λ (x : Spec). column_shared (get_or (paths_of ps) b []) x) (sym spec),
    ))
