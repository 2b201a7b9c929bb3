-- What is numbered anew fires in the order in which it was listed.
use Rattle.std.proofs.Common.{◌≡◌, ℕ, ◌≤◌, nat_lt, Bool, false, List, [], ◌∷◌, ◌++◌, if◌then◌else◌, refl, sym, ap, subst, ◌∙◌, append_assoc, append-nil, arith}
use Rattle.std.proofs.lemmas.Bool.Decides.{nat_tests}
use Rattle.sci_pending.specs.Pending.{Pending, programmed}
use Rattle.sci_pending.specs.Order.{Falls, in_order}
use Rattle.sci_run.specs.Anew.{programmed_in_order, Rises, NumberedAnewLaw}
use Rattle.sci_run.proofs.Sorting.{put_behind, programmed_behind}

-- none is later than this date
UpTo : ℕ → List (ℕ × ℕ) → Type 0
UpTo date [] = Unit {0}
UpTo date (d ∷ ds) = (d.0 ≤ date) × UpTo date ds

behind_all : (d : ℕ × ℕ) (ds : List (ℕ × ℕ)) → UpTo d.0 ds → put_behind d ds ≡ ds ++ d ∷ []
unfolding UpTo
behind_all d [] h = refl
behind_all d (x ∷ xs) h =
    let not_before : nat_lt d.0 x.0 ≡ false = (let l = h.0 in grind (arith, nat_tests)) in
    ap (λ (t : Bool). if t then d ∷ x ∷ xs else x ∷ put_behind d xs) not_before ∙ ap (λ l. x ∷ l) (behind_all d xs h.1)

up_to_more : (date later : ℕ) (ds : List (ℕ × ℕ)) → date ≤ later → UpTo date ds → UpTo later ds
unfolding UpTo
up_to_more date later [] l h = tt
up_to_more date later (d ∷ ds) l h = (let w = h.0 in omega (arith, w, l), up_to_more date later ds l h.1)

up_to_joined : (date : ℕ) (ds : List (ℕ × ℕ)) (d : ℕ × ℕ) → UpTo date ds → d.0 ≤ date → UpTo date (ds ++ d ∷ [])
unfolding UpTo
up_to_joined date [] d h l = (l, tt)
up_to_joined date (x ∷ xs) d h l = (h.0, up_to_joined date xs d h.1 l)

listed_behind : (date : ℕ) (ds : List (ℕ × ℕ)) (p : Pending) → Falls p.programmed p.events → UpTo date (in_order p.events) → Rises date ds
    → in_order (programmed_in_order ds p).events ≡ in_order p.events ++ ds
listed_behind date [] p f u r = sym (append-nil (in_order p.events))
listed_behind date (d ∷ ds) p f u r =
    let below = up_to_more date d.0 (in_order p.events) r.0 u in
    let here : in_order (programmed p d.0 d.1).events ≡ in_order p.events ++ d ∷ [] = programmed_behind p d.0 d.1 f ∙ behind_all d (in_order p.events) below in
    listed_behind d.0 ds (programmed p d.0 d.1) (omega arith, f) (subst (UpTo d.0) (sym here) (up_to_joined d.0 (in_order p.events) d below (omega arith))) r.1
    ∙ (ap (λ l. l ++ ds) here ∙ append_assoc (in_order p.events) (d ∷ []) ds)

falls_listed : (ds : List (ℕ × ℕ)) (p : Pending) → Falls p.programmed p.events → Falls (programmed_in_order ds p).programmed (programmed_in_order ds p).events
falls_listed [] p f = f
falls_listed (d ∷ ds) p f = falls_listed ds (programmed p d.0 d.1) (omega arith, f)

pub anew : NumberedAnewLaw
unfolding UpTo
anew = record {
  in_order_again = λ ds r. listed_behind 0 ds (record { events = []; programmed = 0 }) tt tt r;
  numbered = λ ds. falls_listed ds (record { events = []; programmed = 0 }) tt;
}
