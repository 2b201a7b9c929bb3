-- How a sink that gave on fronts of what was due goes on.
use Rattle.std.proofs.Common.{◌≡◌, ◌≤◌, ◌+◌, ℕ, List, [], ◌++◌, Option, Some, None, refl, sym, ◌∙◌, ap, subst, append_assoc, arith, ◌<◌, length, drop, get_or, add-one}
use Rattle.std.proofs.Math.Seq.{drop-cons}
use Rattle.std.specs.Borrow.{Bor}
use Rattle.std.proofs.lemmas.List.{append-nil}
use Rattle.std.specs.Prelude.{Result, Ok, Err, OnOk, OnErr, Bool, true, false}
use Rattle.sci_io.specs.Causes.{counted}
use Rattle.std.specs.Io.KnownBytes.{Appends}
use Rattle.sci_io.specs.Taken.{SinkState, direct, Advances, TakesFront, Writes, UnderWay, joined}

pub appends-nil : (old : Option (List ℕ)) → Appends old old []
appends-nil None = tt
appends-nil (Some bytes) = sym (append-nil bytes)

pub appends-append : (old mid new : Option (List ℕ)) (a b : List ℕ) → Appends old mid a → Appends mid new b → Appends old new (a ++ b)
appends-append None mid new a b first second = tt
appends-append (Some xs) None new a b first second = absurd first
appends-append (Some xs) (Some ys) None a b first second = absurd second
appends-append (Some xs) (Some ys) (Some zs) a b first second = second ∙ (ap (λ (l : List ℕ). l ++ b) first ∙ append_assoc xs a b)

-- nothing was given on
pub stays : (old : Option (List ℕ)) (due : List ℕ) → Advances old old due due
stays old due = record { front = []; split = refl; taken = appends-nil old }

pub took_nothing : (old : Option (List ℕ)) (due : List ℕ) → TakesFront old old due
took_nothing old due = (due, stays old due)

-- all was given on
pub gave_all : {old new : Option (List ℕ)} (due : List ℕ) → Appends old new due → Advances old new due []
gave_all due taken = record { front = due; split = sym (append-nil due); taken = taken }

pub all_taken : {old new : Option (List ℕ)} {due : List ℕ} → Advances old new due [] → Appends old new due
all_taken {old} {new} {due} a = subst (λ (l : List ℕ). Appends old new l) (sym (a.split ∙ append-nil a.front)) a.taken

-- a front, and then a front of the rest
pub goes_on : {old mid new : Option (List ℕ)} {due rest last : List ℕ} → Advances old mid due rest → Advances mid new rest last → Advances old new due last
goes_on {old} {mid} {new} {due} {rest} {last} a b = record {
  front = a.front ++ b.front;
  split = a.split ∙ (ap (λ (l : List ℕ). a.front ++ l) b.split ∙ sym (append_assoc a.front b.front last));
  taken = appends-append old mid new a.front b.front a.taken b.taken;
}

-- something more is due behind
pub carry : {old new : Option (List ℕ)} {due rest : List ℕ} (more : List ℕ) → Advances old new due rest → Advances old new (due ++ more) (rest ++ more)
carry {old} {new} {due} {rest} more a = record {
  front = a.front;
  split = ap (λ (l : List ℕ). l ++ more) a.split ∙ append_assoc a.front rest more;
  taken = a.taken;
}

pub cut_short : {old new : Option (List ℕ)} {due : List ℕ} (more : List ℕ) → TakesFront old new due → TakesFront old new (due ++ more)
cut_short more cut = (cut.0 ++ more, carry more cut.1)

-- the same with what is due put together otherwise
pub due_is : {old new : Option (List ℕ)} {rest : List ℕ} (a b : List ℕ) → a ≡ b → Advances old new a rest → Advances old new b rest
due_is {old} {new} {rest} a b is h = subst (λ (l : List ℕ). Advances old new l rest) is h

pub front_is : {old new : Option (List ℕ)} (a b : List ℕ) → a ≡ b → TakesFront old new a → TakesFront old new b
front_is {old} {new} a b is h = subst (λ (l : List ℕ). TakesFront old new l) is h

-- A text is under way from its beginning.
pub begins : (s : SinkState) (text : List ℕ) → UnderWay s s text text
begins s text = record { advances = stays s.taken (s.held ++ text); quiet = refl; works = λ h. h }

-- the next piece of a text under way, taken
pub piece_taken : {old mid new : SinkState} {text : List ℕ} (piece rest : List ℕ) → UnderWay old mid text (piece ++ rest)
    → Advances mid.taken new.taken (mid.held ++ piece) new.held → new.faults ≡ mid.faults → (mid.failing ≡ false → new.failing ≡ false) → UnderWay old new text rest
piece_taken {old} {mid} {new} {text} piece rest w a quiet works = record {
  advances = goes_on w.advances (due_is _ _ (append_assoc mid.held piece rest) (carry rest a));
  quiet = quiet ∙ w.quiet;
  works = λ h. works (w.works h);
}

-- the next piece of a text under way, cut
pub piece_cut : {old mid : SinkState} {text : List ℕ} (new : SinkState) (piece rest : List ℕ) → UnderWay old mid text (piece ++ rest)
    → TakesFront mid.taken new.taken (mid.held ++ piece) → TakesFront old.taken new.taken (old.held ++ text)
piece_cut {old} {mid} {text} new piece rest w cut =
    let longer = front_is _ _ (append_assoc mid.held piece rest) (cut_short rest cut) in
    (longer.0, goes_on w.advances longer.1)

-- a step of a loop that writes piece by piece
pub next_front : {T E : Type 0} {old mid new : SinkState} {text : List ℕ} (piece rest : List ℕ) (r : Result T E) (x : T) → r ≡ Ok x
    → UnderWay old mid text (piece ++ rest) → Writes mid new piece r → UnderWay old new text rest
next_front {mid = mid} {new = new} piece rest r x is w h =
    piece_taken piece rest w (subst (λ q. OnOk q (Advances mid.taken new.taken (mid.held ++ piece) new.held)) is h.ok) (subst (λ q. OnOk q (new.faults ≡ mid.faults)) is h.quiet) (subst (λ q. OnOk q (mid.failing ≡ false → new.failing ≡ false)) is h.works)

-- such a step that failed
pub cut_off : {T E U F : Type 0} {old mid new : SinkState} {text : List ℕ} (piece rest : List ℕ) (r : Result T E) (s : Result U F) (e : E) (f : F) → r ≡ Err e → s ≡ Err f
    → UnderWay old mid text (piece ++ rest) → Writes mid new piece r → Writes old new text s
cut_off {old = old} {mid = mid} {new = new} {text = text} piece rest r s e f is was w h =
    let cut = piece_cut new piece rest w (subst (λ q. OnErr q (TakesFront mid.taken new.taken (mid.held ++ piece))) is h.cut) in
    let one_more = subst (λ q. OnErr q (new.faults ≡ counted mid.faults)) is h.cause in
    subst (λ q. Writes old new text q) (sym was) (record {
      ok = tt;
      quiet = tt;
      works = tt;
      cut = cut;
      dropped = subst (λ q. OnErr q (new.held ≡ [])) is h.dropped;
      cause = one_more ∙ ap counted w.quiet;
      fails = subst (λ q. OnErr q (new.failing ≡ true)) is h.fails;
      later = subst (λ (n : ℕ). n ≤ new.faults) w.quiet h.later;
    })

-- the end of such a loop
pub finished : {T E : Type 0} {old new : SinkState} {text : List ℕ} (x : T) → UnderWay old new text [] → Writes {T = T} {E = E} old new text (Ok x)
finished {old = old} {new = new} {text = text} x w = record {
  ok = subst (λ (l : List ℕ). Advances old.taken new.taken (old.held ++ text) l) (append-nil new.held) w.advances;
  quiet = w.quiet;
  works = w.works;
  cut = tt;
  dropped = tt;
  cause = tt;
  fails = tt;
  later = subst (λ (n : ℕ). n ≤ new.faults) w.quiet (omega arith);
}

pub same_text : {T E : Type 0} {old new : SinkState} {a b : List ℕ} {r : Result T E} → a ≡ b → Writes old new a r → Writes old new b r
same_text {old = old} {new = new} {r = r} is w = subst (λ (l : List ℕ). Writes old new l r) is w

-- one text was written, so another is under way behind it
pub written_first : {T E : Type 0} {old mid : SinkState} (a b : List ℕ) (r : Result T E) (x : T) → r ≡ Ok x → Writes old mid a r → UnderWay old mid (a ++ b) b
written_first {old = old} a b r x is w = next_front a b r x is (begins old (a ++ b)) w

pub goes_behind : {U F : Type 0} {old mid new : SinkState} (a b : List ℕ) (s : Result U F) → UnderWay old mid (a ++ b) (b ++ []) → Writes mid new b s → Writes old new (a ++ b) s
goes_behind a b (Ok y) w h = finished y (next_front b [] (Ok y) y refl w h)
goes_behind a b (Err f) w h = cut_off b [] (Err f) (Err f) f f refl refl w h

-- one text and then another
pub then_writes : {T E U F : Type 0} {old mid new : SinkState} (a b : List ℕ) (r : Result T E) (s : Result U F) (x : T) → r ≡ Ok x → Writes old mid a r → Writes mid new b s → Writes old new (a ++ b) s
then_writes {old = old} {mid = mid} a b r s x is first second =
    goes_behind a b s (subst (λ (l : List ℕ). UnderWay old mid (a ++ b) l) (sym (append-nil b)) (written_first a b r x is first)) second

-- the first failed, so the second was not tried
pub stopped : {T E U F : Type 0} {old new : SinkState} (a b : List ℕ) (r : Result T E) (s : Result U F) (e : E) (f : F) → r ≡ Err e → s ≡ Err f → Writes old new a r → Writes old new (a ++ b) s
stopped {old = old} a b r s e f is was first = cut_off a b r s e f is was (begins old (a ++ b)) first

pub joined-drop : (ps : List (Bor (List ℕ))) (i : ℕ) (d : Bor (List ℕ)) → i < length ps → joined (drop i ps) ≡ (get_or ps i d).now ++ joined (drop (i + 1) ps)
joined-drop ps i d h = ap joined (drop-cons ps i d h) ∙ ap (λ (n : ℕ). (get_or ps i d).now ++ joined (drop n ps)) (sym (add-one i))

-- a sink that holds nothing back took a piece, or a front of it
pub direct_took : {T E : Type 0} (old new : Option (List ℕ)) (faults : ℕ) (failing : Bool) (piece : List ℕ) (x : T) → Appends old new piece
    → Writes {T = T} {E = E} (direct old faults failing) (direct new faults false) piece (Ok x)
direct_took old new faults failing piece x taken =
    record { ok = gave_all piece taken; quiet = refl; works = λ _. refl; cut = tt; dropped = tt; cause = tt; fails = tt; later = omega arith }

pub direct_cut : {T E : Type 0} (old new : Option (List ℕ)) (before now : ℕ) (failing : Bool) (piece : List ℕ) (e : E) → TakesFront old new piece → now ≡ counted before → before ≤ now
    → Writes {T = T} {E = E} (direct old before failing) (direct new now true) piece (Err e)
direct_cut old new before now failing piece e front one_more later =
    record { ok = tt; quiet = tt; works = tt; cut = front; dropped = refl; cause = one_more; fails = refl; later = later }

-- a flush of a sink that holds nothing
pub nothing_due : {T E : Type 0} (s : SinkState) (x : T) → Writes {T = T} {E = E} s s [] (Ok x)
nothing_due s x = finished x (begins s [])
