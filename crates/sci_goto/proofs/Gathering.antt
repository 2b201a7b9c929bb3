-- The tag objects in turn: what they give.
use Rattle.std.proofs.Common.{◌≡◌, ℕ, zero, suc, ◌+◌, ◌<◌, List, [], ◌∷◌, ◌++◌, length, get_or, take, drop, map, Bool, true, false, cond, Ok, Err, refl, sym, ap, ◌∙◌, subst, append-nil, append_assoc, arith}
use Rattle.std.specs.List.{list_any}
use Rattle.std.proofs.lemmas.List.{take_more, drop_more, map-append, length-map, length-take-le, take-append-drop}
use Rattle.sci_base.specs.Plain.{Violation}
use Rattle.sci_base.specs.Outcome.{Outcome, ◌>>=◌}
use Rattle.sci_base.specs.declared.stop.Stop.{Stop}
use Rattle.sci_base.specs.Stops.{Stops}
use Rattle.sci_base.proofs.Stopping.{stops_then, stops_after}
use Rattle.sci_goto.specs.declared.placed.PlacedTag.{PlacedTag}
use Rattle.sci_goto.specs.declared.givers.Givers.{Givers}
use Rattle.sci_goto.specs.declared.tag.TagForm.{TagForm}
use Rattle.sci_goto.specs.declared.tag.TagForm.TheVariants.{WrongPorts, WrongParameters, Gives, Takes}
use Rattle.sci_goto.specs.Phase.{Standing, Giving, Tags, no_tags, within, giving, taking, gives, joined, gathered}
use Rattle.sci_goto.specs.Serving.{standing_at}
use Rattle.sci_goto.specs.Placed.{standing_of}
use Rattle.sci_goto.specs.Givers.{HoldsGivers, IsJoined, takings_as, takings}

-- ---- one behind others

on : (o : Outcome Tags) (xs ys : List Standing) → ((m : Tags) → gathered m (xs ++ ys) ≡ (gathered m xs >>= λ n. gathered n ys))
    → (o >>= λ m. gathered m (xs ++ ys)) ≡ ((o >>= λ m. gathered m xs) >>= λ n. gathered n ys)
on (Err e) xs ys f = refl
on (Ok m) xs ys f = f m

pub gathered-append : (tags : Tags) (xs ys : List Standing) → gathered tags (xs ++ ys) ≡ (gathered tags xs >>= λ m. gathered m ys)
unfolding gathered
gathered-append tags [] ys = refl
gathered-append tags (x ∷ xs) ys = on (joined tags x x.form) xs ys (λ m. gathered-append m xs ys)

alone : (o : Outcome Tags) → (o >>= λ m. gathered m []) ≡ o
unfolding gathered
alone (Ok m) = refl
alone (Err e) = refl

one_gathered : (tags : Tags) (s : Standing) → gathered tags (s ∷ []) ≡ joined tags s s.form
unfolding gathered
one_gathered tags s = alone (joined tags s s.form)

pub none_joined : (m : Givers) → HoldsGivers m [] [] → IsJoined m [] (gathered no_tags [])
unfolding gathered
none_joined m h = record { more = no_tags; kept = refl; holds = h }

-- ---- the code's list, as far as it has come

pub take_standing : (ts : List PlacedTag) (n : ℕ) (t : PlacedTag) → n < length ts → t ≡ get_or ts n t
    → map standing_of (take (n + 1) ts) ≡ map standing_of (take n ts) ++ standing_of t ∷ []
take_standing ts n t h is = ap (map standing_of) (take_more ts n t h) ∙ map-append standing_of (take n ts) (get_or ts n t ∷ []) ∙ ap (λ x. map standing_of (take n ts) ++ standing_of x ∷ []) (sym is)

pub long_standing : (ts : List PlacedTag) (n : ℕ) → n < length ts → length (map standing_of (take n ts)) ≡ n
long_standing ts n h = length-map (take n ts) standing_of ∙ length-take-le n ts (omega arith)

pub one_standing : (ts : List PlacedTag) (n : ℕ) (t : PlacedTag) → n < length ts → t ≡ get_or ts n t → standing_at (map standing_of ts) n ≡ standing_of t
one_standing [] n t h is = absurd (omega arith)
one_standing (x ∷ xs) zero t h is = ap standing_of (sym is)
one_standing (x ∷ xs) (suc n) t h is = one_standing xs n t (omega arith) is

pub rest_standing : (ts : List PlacedTag) (n : ℕ) (t : PlacedTag) → n < length ts → t ≡ get_or ts n t
    → map standing_of ts ≡ map standing_of (take n ts) ++ standing_of t ∷ map standing_of (drop (n + 1) ts)
rest_standing ts n t h is =
    let rest : drop n ts ≡ t ∷ drop (n + 1) ts = drop_more ts n t h ∙ ap (λ x. x ∷ drop (n + 1) ts) (sym is) in
    ap (map standing_of) (sym (take-append-drop n ts)) ∙ map-append standing_of (take n ts) (drop n ts) ∙ ap (λ xs. map standing_of (take n ts) ++ map standing_of xs) rest

pub gathered_more : (m new : Givers) (ss : List Standing) (s : Standing) → (so : IsJoined m ss (gathered no_tags ss))
    → IsJoined new (ss ++ s ∷ []) (joined so.more s s.form) → IsJoined new (ss ++ s ∷ []) (gathered no_tags (ss ++ s ∷ []))
gathered_more m new ss s so k =
    let here : gathered no_tags (ss ++ s ∷ []) ≡ joined so.more s s.form = gathered-append no_tags ss (s ∷ []) ∙ (rw so.kept (one_gathered so.more s)) in
    record { more = k.more; kept = here ∙ k.kept; holds = k.holds }

pub gathered_stop : (m : Givers) (ss rest : List Standing) (s : Standing) (e : Stop) → (so : IsJoined m ss (gathered no_tags ss))
    → Stops (joined so.more s s.form) e → Stops (gathered no_tags (ss ++ s ∷ rest)) e
unfolding gathered
gathered_stop m ss rest s e so h =
    let P : Outcome Tags → Type 0 = λ o. Stops o e in
    subst P (sym (gathered-append no_tags ss (s ∷ rest))) (stops_after (gathered no_tags ss) so.more (λ m. gathered m (s ∷ rest)) e so.kept (stops_then (joined so.more s s.form) _ e h))

-- ---- takers

pub takings-append : (xs ys : List Standing) → takings (xs ++ ys) ≡ takings xs ++ takings ys
takings-append [] ys = refl
takings-append (x ∷ xs) ys = ap (λ zs. takings_as x x.form ++ zs) (takings-append xs ys) ∙ sym (append_assoc (takings_as x x.form) (takings xs) (takings ys))

once_takers : (tags more : Tags) (g : Giving) (b : Bool) (v : Violation) → cond b (Err v) (Ok (record { givers = tags.givers ++ g ∷ []; takers = tags.takers })) ≡ Ok more → more.takers ≡ tags.takers
once_takers tags more g true v h = cc
once_takers tags more g false v h = let same : record { givers = tags.givers ++ g ∷ []; takers = tags.takers } ≡ more = cc in sym (ap (λ (t : Tags). t.takers) same)

joined_takers : (tags more : Tags) (s : Standing) (f : TagForm) → joined tags s f ≡ Ok more → more.takers ≡ tags.takers ++ takings_as s f
joined_takers tags more s WrongPorts h = cc
joined_takers tags more s WrongParameters h = cc
joined_takers tags more s (Gives t scope) h =
    once_takers tags more (giving s t scope) (list_any (gives t (within scope s.around)) tags.givers) _ h ∙ sym (append-nil tags.takers)
joined_takers tags more s (Takes t) h = let same : record { givers = tags.givers; takers = tags.takers ++ taking s t ∷ [] } ≡ more = cc in sym (ap (λ (t : Tags). t.takers) same)

before : (o : Outcome Tags) (f : Tags → Outcome Tags) (more : Tags) → (o >>= f) ≡ Ok more → (m : Tags) × (o ≡ Ok m) × (f m ≡ Ok more)
before (Ok m) f more h = (m, refl, h)
before (Err v) f more h = cc

-- what was gathered has the takers in their order
pub gathered_takers : (tags more : Tags) (ss : List Standing) → gathered tags ss ≡ Ok more → more.takers ≡ tags.takers ++ takings ss
unfolding gathered
gathered_takers tags more [] h = let same : tags ≡ more = cc in sym (ap (λ (t : Tags). t.takers) same) ∙ sym (append-nil tags.takers)
gathered_takers tags more (s ∷ ss) h =
    let first = before (joined tags s s.form) (λ m. gathered m ss) more h in
    gathered_takers first.0 more ss first.2 ∙ ap (λ ts. ts ++ takings ss) (joined_takers tags first.0 s s.form first.1) ∙ append_assoc tags.takers (takings_as s s.form) (takings ss)
