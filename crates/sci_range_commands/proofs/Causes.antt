-- The cause of each status, from what a call comes to and what it writes.
use Rattle.std.proofs.Common.{◌≡◌, ◌≤◌, ◌<◌, ◌++◌, ℕ, List, [], ◌∷◌, ◌⊎◌, inl, inr, refl, sym, ◌∙◌, ap, arith}
use Rattle.std.proofs.lemmas.List.{append-nil}
use Rattle.sci_io.specs.Causes.{Rose, counted}
use Rattle.sci_io.specs.Files.{FolderState}
use Rattle.sci_io.specs.Taken.{SinkState}
use Rattle.sci_answers.specs.Answer.{Answer, IsDone}
use Rattle.sci_answers.specs.Course.{AsksFront}
use Rattle.sci_answers.specs.Reached.{ReachesOf}
use Rattle.sci_answers.specs.Written.{Given, Written}
use Rattle.sci_answers.proofs.Ends.{status-is, out-is, done_by, Ends, EndKind, printed, turned_down, kind_of, front_of, front_files}
use Rattle.sci_range_commands.specs.Due.{course_of, files_of, Due, Spells, NoCommand, ReachesBy, AsksFrontOf}
use Rattle.sci_range_commands.specs.Meets.{Quiet, GivesDue, NamesFiles, AsksInOrder, AsksAll, MeetsRanges}

-- both files are read, and a table is told
ends_of : (d i : List ℕ) → Ends (course_of d i) (files_of d i)
ends_of d i = (refl, λ p. (refl, λ columns. (refl, λ a is. inl (status-is is.told))))

-- what a call came to, with what its status tells
pub data Came (words : List (List ℕ)) (bytes : List (List ℕ)) (old new : FolderState) (a : Answer) : Type 0 where
  used : NoCommand words → Due old.files words bytes [] a → new.asked ≡ old.asked → a.status ≡ 2 → a.out ≡ [] → Came words bytes old new a
  gave : (d i : List ℕ) (names : List (List ℕ)) → Spells words d i → Due old.files words bytes names a → new.asked ≡ old.asked ++ names → EndKind (files_of d i) names a → Came words bytes old new a
  faulted : Rose old.faults new.faults → a.status ≡ 3 → a.out ≡ [] → Came words bytes old new a
  lacked : NamesFiles words → a.status ≡ 5 → a.out ≡ [] → Came words bytes old new a

came_of : (words bytes : List (List ℕ)) (old new : FolderState) (a : Answer) (d i : List ℕ) → Spells words d i → ReachesOf old new (course_of d i) bytes a → Came words bytes old new a
came_of words bytes old new a d i spells (inl h) = gave d i h.0 spells (inr (d, i, spells, h.1)) h.2 (kind_of old.files (course_of d i) bytes (files_of d i) h.0 a (ends_of d i) h.1)
came_of words bytes old new a d i spells (inr (inl f)) = faulted f.0 (status-is f.5) (out-is f.5)
came_of words bytes old new a d i spells (inr (inr m)) = lacked (d, i, spells) (status-is m.1.4) (out-is m.1.4)

came : (words bytes : List (List ℕ)) (old new : FolderState) (a : Answer) → ReachesBy words old new bytes a → Came words bytes old new a
came words bytes old new a (inl h) = used h.0 (inl (h.0, h.1, refl)) h.2 (status-is h.1) (out-is h.1)
came words bytes old new a (inr h) = came_of words bytes old new a h.0 h.1 h.2 h.3

in_front : (bytes : List (List ℕ)) (old new : FolderState) (d i : List ℕ) (names : List (List ℕ)) → AsksFront old.files (course_of d i) bytes names → new.asked ≡ old.asked ++ names → AsksFrontOf old new bytes d i
in_front bytes old new d i names front asked =
    let rest = front_files old.files (course_of d i) bytes (files_of d i) names (ends_of d i) front in
    record { names = names; rest = rest.0; split = rest.1; asked = asked; in_order = front }

order_of : (words bytes : List (List ℕ)) (old new : FolderState) (a : Answer) (d i : List ℕ) → Spells words d i → ReachesOf old new (course_of d i) bytes a → AsksInOrder words bytes old new
order_of words bytes old new a d i spells (inl h) = inr (d, i, spells, in_front bytes old new d i h.0 (front_of old.files (course_of d i) bytes h.0 a h.1) h.2)
order_of words bytes old new a d i spells (inr (inl f)) = inr (d, i, spells, in_front bytes old new d i (f.1 ∷ f.2) f.3 f.4)
order_of words bytes old new a d i spells (inr (inr m)) = inr (d, i, spells, in_front bytes old new d i m.1.1 m.1.2 m.1.3)

asked_in_order : (words bytes : List (List ℕ)) (old new : FolderState) (a : Answer) → ReachesBy words old new bytes a → AsksInOrder words bytes old new
asked_in_order words bytes old new a (inl h) = inl h.2
asked_in_order words bytes old new a (inr h) = order_of words bytes old new a h.0 h.1 h.2 h.3

-- both texts were given, or a sink failed
abbrev pub Split : Answer → SinkState → SinkState → SinkState → SinkState → ℕ → Type 0
Split a out out' err err' s = ((s ≡ a.status) × Given out out' a.out × Given err err' a.err) ⊎ ((s ≡ 4) × (Rose out.faults out'.faults ⊎ Rose err.faults err'.faults))

one_more_rose : (before now : ℕ) → now ≡ counted before → Rose before now
one_more_rose before now is = omega (arith, is)

pub split : (a : Answer) (out out' err err' : SinkState) (s : ℕ) → Written a out out' err err' s → Split a out out' err err' s
split a out out' err err' s (inl h) = inl h
split a out out' err err' s (inr (inl (is, h, told))) = inr (is, inl (one_more_rose out.faults out'.faults h.1.2))
split a out out' err err' s (inr (inr h)) = inr (h.0, inr (one_more_rose err.faults err'.faults h.2.1.2))

pub untouched : (old new : SinkState) (t : List ℕ) → t ≡ [] → Given old new t → new ≡ old
untouched old new t none (inl h) = h.1
untouched old new t none (inr h) = absurd (h.0 none)

pub same_faults : (old new : SinkState) (t : List ℕ) → Given old new t → new.faults ≡ old.faults
same_faults old new t (inl h) = ap (λ (s : SinkState). s.faults) h.1
same_faults old new t (inr h) = h.1.2

-- a status that is not of a printed or refused answer
abbrev pub IsOther : ℕ → Type 0
IsOther s = (IsDone s → ⊥) × (s ≡ 1 → ⊥)

not_done : (s : ℕ) → (s ≡ 0 → ⊥) → (s ≡ 6 → ⊥) → (s ≡ 7 → ⊥) → (s ≡ 8 → ⊥) → IsDone s → ⊥
not_done s not0 not6 not7 not8 (inl h) = not0 h
not_done s not0 not6 not7 not8 (inr (inl h)) = not6 h
not_done s not0 not6 not7 not8 (inr (inr (inl h))) = not7 h
not_done s not0 not6 not7 not8 (inr (inr (inr h))) = not8 h

-- 2, 3, 4 and 5
is_other : (s : ℕ) → 2 ≤ s → s ≤ 5 → IsOther s
is_other s least most = (not_done s (λ e. omega (arith, e, least)) (λ e. omega (arith, e, most)) (λ e. omega (arith, e, most)) (λ e. omega (arith, e, most)), λ e. omega (arith, e, least))

pub no_kind : (files names : List (List ℕ)) (a : Answer) → EndKind files names a → IsOther a.status → ⊥
no_kind files names a (printed h all) other = other.0 h
no_kind files names a (turned_down h o) other = other.1 h

pub usage_cause : (words bytes : List (List ℕ)) (old new : FolderState) (a : Answer) → Came words bytes old new a → a.status ≡ 2 → NoCommand words
usage_cause words bytes old new a (used n d k s o) is = n
usage_cause words bytes old new a (gave d i names w due k kind) is = absurd (no_kind (files_of d i) names a kind (is_other a.status (omega (arith, is)) (omega (arith, is))))
usage_cause words bytes old new a (faulted r s o) is = absurd (omega (arith, s, is))
usage_cause words bytes old new a (lacked f s o) is = absurd (omega (arith, s, is))

pub read_cause : (words bytes : List (List ℕ)) (old new : FolderState) (a : Answer) → Came words bytes old new a → a.status ≡ 3 → Rose old.faults new.faults
read_cause words bytes old new a (used n d k s o) is = absurd (omega (arith, s, is))
read_cause words bytes old new a (gave d i names w due k kind) is = absurd (no_kind (files_of d i) names a kind (is_other a.status (omega (arith, is)) (omega (arith, is))))
read_cause words bytes old new a (faulted r s o) is = r
read_cause words bytes old new a (lacked f s o) is = absurd (omega (arith, s, is))

pub memory_cause : (words bytes : List (List ℕ)) (old new : FolderState) (a : Answer) → Came words bytes old new a → a.status ≡ 5 → NamesFiles words
memory_cause words bytes old new a (used n d k s o) is = absurd (omega (arith, s, is))
memory_cause words bytes old new a (gave d i names w due k kind) is = absurd (no_kind (files_of d i) names a kind (is_other a.status (omega (arith, is)) (omega (arith, is))))
memory_cause words bytes old new a (faulted r s o) is = absurd (omega (arith, s, is))
memory_cause words bytes old new a (lacked f s o) is = f

pub not_four : (words bytes : List (List ℕ)) (old new : FolderState) (a : Answer) → Came words bytes old new a → a.status ≡ 4 → ⊥
not_four words bytes old new a (used n d k s o) is = omega (arith, s, is)
not_four words bytes old new a (gave d i names w due k kind) is = no_kind (files_of d i) names a kind (is_other a.status (omega (arith, is)) (omega (arith, is)))
not_four words bytes old new a (faulted r s o) is = omega (arith, s, is)
not_four words bytes old new a (lacked f s o) is = omega (arith, s, is)

-- a refusal gives what is due
pub gives_refusal : (words bytes : List (List ℕ)) (old new : FolderState) (a : Answer) (out out' err err' : SinkState) (s : ℕ) → Came words bytes old new a → Split a out out' err err' s → s ≡ 1 → GivesDue words bytes old new out out' err err' s
gives_refusal words bytes old new a out out' err err' s (used n d k t o) (inl w) is = absurd (omega (arith, w.0, t, is))
gives_refusal words bytes old new a out out' err err' s (gave d i names sp due k kind) (inl w) is = (a, names, due, k, w.0, w.1, w.2)
gives_refusal words bytes old new a out out' err err' s (faulted r t o) (inl w) is = absurd (omega (arith, w.0, t, is))
gives_refusal words bytes old new a out out' err err' s (lacked f t o) (inl w) is = absurd (omega (arith, w.0, t, is))
gives_refusal words bytes old new a out out' err err' s cm (inr w) is = absurd (omega (arith, w.0, is))

done_not_one : (s : ℕ) → IsDone s → s ≡ 1 → ⊥
done_not_one s (inl h) e = omega (arith, h, e)
done_not_one s (inr (inl h)) e = omega (arith, h, e)
done_not_one s (inr (inr (inl h))) e = omega (arith, h, e)
done_not_one s (inr (inr (inr h))) e = omega (arith, h, e)

pub all_of : (words : List (List ℕ)) (old new : FolderState) (a : Answer) (d i : List ℕ) (names : List (List ℕ)) → Spells words d i → new.asked ≡ old.asked ++ names → EndKind (files_of d i) names a → (a.status ≡ 1 → ⊥) → AsksAll words old new
all_of words old new a d i names spells is (printed h all) not1 = (d, i, spells, is ∙ ap (λ (l : List (List ℕ)). old.asked ++ l) all)
all_of words old new a d i names spells is (turned_down h o) not1 = absurd (not1 h)

pub gives_done : (words bytes : List (List ℕ)) (old new : FolderState) (a : Answer) (out out' err err' : SinkState) (s : ℕ) → Came words bytes old new a → Split a out out' err err' s → IsDone s → GivesDue words bytes old new out out' err err' s × AsksAll words old new
gives_done words bytes old new a out out' err err' s (gave d i names sp due k kind) (inl w) is = ((a, names, due, k, w.0, w.1, w.2), all_of words old new a d i names sp k kind (λ e. done_not_one s is (w.0 ∙ e)))
gives_done words bytes old new a out out' err err' s (used n d k t o) (inl w) is = absurd ((is_other s (omega (arith, w.0, t)) (omega (arith, w.0, t))).0 is)
gives_done words bytes old new a out out' err err' s (faulted r t o) (inl w) is = absurd ((is_other s (omega (arith, w.0, t)) (omega (arith, w.0, t))).0 is)
gives_done words bytes old new a out out' err err' s (lacked f t o) (inl w) is = absurd ((is_other s (omega (arith, w.0, t)) (omega (arith, w.0, t))).0 is)
gives_done words bytes old new a out out' err err' s cm (inr w) is = absurd ((is_other s (omega (arith, w.0)) (omega (arith, w.0))).0 is)

pub complete_of : (words bytes : List (List ℕ)) (old new : FolderState) (a : Answer) (out out' err err' : SinkState) (s : ℕ) → Came words bytes old new a → Split a out out' err err' s → Quiet old.faults new.faults → Quiet out.faults out'.faults → Quiet err.faults err'.faults → GivesDue words bytes old new out out' err err' s ⊎ (s ≡ 5)
complete_of words bytes old new a out out' err err' s (used n d k t o) (inl w) q r u = inl (a, [], d, k ∙ sym (append-nil old.asked), w.0, w.1, w.2)
complete_of words bytes old new a out out' err err' s (gave d i names sp due k kind) (inl w) q r u = inl (a, names, due, k, w.0, w.1, w.2)
complete_of words bytes old new a out out' err err' s (faulted rose t o) (inl w) q r u = absurd (q rose)
complete_of words bytes old new a out out' err err' s (lacked f t o) (inl w) q r u = inr (w.0 ∙ t)
complete_of words bytes old new a out out' err err' s cm (inr (w, inl x)) q r u = absurd (r x)
complete_of words bytes old new a out out' err err' s cm (inr (w, inr x)) q r u = absurd (u x)

pub no_command_of : (words bytes : List (List ℕ)) (old new : FolderState) (a : Answer) → ReachesBy words old new bytes a → NoCommand words → a.status ≡ 2
no_command_of words bytes old new a (inl h) never = status-is h.1
no_command_of words bytes old new a (inr h) never = absurd (never h.0 h.1 h.2)

failed_reads : (d i : List ℕ) (bytes : List (List ℕ)) (old new : FolderState) (a : Answer) → ReachesOf old new (course_of d i) bytes a → old.faults < new.faults → a.status ≡ 3
failed_reads d i bytes old new a (inl h) rose = absurd (omega (arith, h.3, rose))
failed_reads d i bytes old new a (inr (inl f)) rose = status-is f.5
failed_reads d i bytes old new a (inr (inr m)) rose = absurd (omega (arith, m.1.0, rose))

failed_read : (words bytes : List (List ℕ)) (old new : FolderState) (a : Answer) → ReachesBy words old new bytes a → old.faults < new.faults → a.status ≡ 3
failed_read words bytes old new a (inl h) rose = absurd (omega (arith, h.3, rose))
failed_read words bytes old new a (inr h) rose = failed_reads h.0 h.1 bytes old new a h.3 rose

pub failed_write : (a : Answer) (out out' err err' : SinkState) (s : ℕ) → Split a out out' err err' s → (out.faults < out'.faults) ⊎ (err.faults < err'.faults) → s ≡ 4
failed_write a out out' err err' s (inl w) (inl rose) = absurd (omega (arith, same_faults out out' a.out w.1, rose))
failed_write a out out' err err' s (inl w) (inr rose) = absurd (omega (arith, same_faults err err' a.err w.2, rose))
failed_write a out out' err err' s (inr w) rose = w.0

abbrev pub Silent : ℕ → Type 0
Silent s = ((s ≡ 1) ⊎ (s ≡ 2)) ⊎ ((s ≡ 3) ⊎ (s ≡ 5))

silent : (s : ℕ) → Silent s → (IsDone s → ⊥) × (s ≡ 4 → ⊥)
silent s (inl (inl h)) = (not_done s (λ e. omega (arith, e, h)) (λ e. omega (arith, e, h)) (λ e. omega (arith, e, h)) (λ e. omega (arith, e, h)), λ e. omega (arith, e, h))
silent s (inl (inr h)) = (not_done s (λ e. omega (arith, e, h)) (λ e. omega (arith, e, h)) (λ e. omega (arith, e, h)) (λ e. omega (arith, e, h)), λ e. omega (arith, e, h))
silent s (inr (inl h)) = (not_done s (λ e. omega (arith, e, h)) (λ e. omega (arith, e, h)) (λ e. omega (arith, e, h)) (λ e. omega (arith, e, h)), λ e. omega (arith, e, h))
silent s (inr (inr h)) = (not_done s (λ e. omega (arith, e, h)) (λ e. omega (arith, e, h)) (λ e. omega (arith, e, h)) (λ e. omega (arith, e, h)), λ e. omega (arith, e, h))

quiet_out : (words bytes : List (List ℕ)) (old new : FolderState) (a : Answer) → Came words bytes old new a → (IsDone a.status → ⊥) → a.out ≡ []
quiet_out words bytes old new a (used n d k s o) not = o
quiet_out words bytes old new a (gave d i names sp due k (printed h all)) not = absurd (not h)
quiet_out words bytes old new a (gave d i names sp due k (turned_down h o)) not = o
quiet_out words bytes old new a (faulted r s o) not = o
quiet_out words bytes old new a (lacked f s o) not = o

-- with the bytes of the files that it came to
pub met_by : (words : List (List ℕ)) (old new : FolderState) (out out' err err' : SinkState) (s : ℕ) (bytes : List (List ℕ)) (a : Answer) → ReachesBy words old new bytes a → Written a out out' err err' s
    → MeetsRanges words old new out out' err err' s
met_by words old new out out' err err' s bytes a reached written =
    let cm = came words bytes old new a reached in
    let w = split a out out' err err' s written in
    let whole : (s ≡ 4 → ⊥) → (s ≡ a.status) × Given out out' a.out × Given err err' a.err = λ not4. elim w [ inl x ↦ x | inr x ↦ absurd (not4 x.0) ] in
    let at : (t : ℕ) → s ≡ t → (t ≡ 4 → ⊥) → a.status ≡ t = λ t is not4. sym (whole (λ e. not4 (sym is ∙ e))).0 ∙ is in
    record {
      bytes = bytes;
      answer = (a, reached, written);
      complete = complete_of words bytes old new a out out' err err' s cm w;
      done = λ is. gives_done words bytes old new a out out' err err' s cm w (inl is);
      refused = gives_refusal words bytes old new a out out' err err' s cm w;
      usage = λ is. usage_cause words bytes old new a cm (at 2 is (λ e. omega (arith, e)));
      no_command = λ never. elim w [ inl x ↦ inl (x.0 ∙ no_command_of words bytes old new a reached never) | inr x ↦ inr x.0 ];
      read_fault = λ is. read_cause words bytes old new a cm (at 3 is (λ e. omega (arith, e)));
      write_fault = λ is. elim w [ inl x ↦ absurd (not_four words bytes old new a cm (sym x.0 ∙ is)) | inr x ↦ x.1 ];
      a_read_failed = λ rose. elim w [ inl x ↦ inl (x.0 ∙ failed_read words bytes old new a reached rose) | inr x ↦ inr x.0 ];
      a_write_failed = λ rose. failed_write a out out' err err' s w rose;
      no_memory = λ is. memory_cause words bytes old new a cm (at 5 is (λ e. omega (arith, e)));
      nothing_out = λ h.
          let n = silent s h in
          let x = whole n.1 in
          let not : IsDone a.status → ⊥ = λ h. n.0 (done_by x.0 h) in
          untouched out out' a.out (quiet_out words bytes old new a cm not) x.1;
      in_order = asked_in_order words bytes old new a reached;
    }
