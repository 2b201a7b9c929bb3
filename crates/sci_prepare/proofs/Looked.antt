-- From looks at files to what a whole command comes to.
use Rattle.std.proofs.Common.{◌≡◌, inl, inr, ℕ, List, [], refl, sym, subst, Result, Ok, Err, arith}
use Rattle.sci_io.specs.Files.{FolderState}
use Rattle.sci_bank.specs.Bank.{Meaning}
use Rattle.sci_words.specs.Words.{Request, host, Spells, NoCommand}
use Rattle.sci_answers.specs.Answer.{Answer, IsDone, usage, prints}
use Rattle.sci_answers.specs.Due.{course_of}
use Rattle.sci_answers.specs.Host.{host_text}
use Rattle.sci_answers.specs.Counts.{CountsRunOf}
use Rattle.sci_answers.specs.Coming.{ReachesTo, Reaches, ReachesCounting, ReachesCounted}
use Rattle.sci_answers.specs.Prepared.{IsAnswerOf, IsPrepared, MayLack}
use Rattle.sci_prepare.specs.Prepare.{LooksLeave, LooksAt, LooksWithoutBanks}
use Rattle.sci_files.specs.Look.{stop_answer}
use Rattle.sci_files.specs.declared.look.LookStop.{LookStop}
use Rattle.sci_files.specs.declared.look.LookStop.TheVariants.{Refused, Fault, Memory}
use Rattle.sci_answers.specs.declared.prepared.Prepared.{Prepared}
use Rattle.sci_files.proofs.Courses.{of_none}
use Rattle.sci_answers.proofs.Ends.{undone}

-- a command that stops before it is prepared, and isn't done
stop_undone : (e : LookStop) → IsDone (stop_answer e).status → ⊥
stop_undone (Refused r) done = undone 1 (omega arith) (omega arith) done
stop_undone Fault done = undone 3 (omega arith) (omega arith) done
stop_undone Memory done = undone 5 (omega arith) (omega arith) done

pub stopped_looks : (old new : FolderState) (banks : List Meaning) (c : Request) (s : Result Prepared LookStop) (e : LookStop) → s ≡ Err e → ReachesTo old new (course_of c) (stop_answer e) → LooksAt old new banks c s
stopped_looks old new banks c s e is h =
    subst (λ (q : Result Prepared LookStop). LooksAt old new banks c q) (sym is)
    (record {
      reaches = λ a same. subst (λ (b : Answer). ReachesCounting old new c b (LooksLeave (Err e) banks)) (sym same) (h.0, h.1, λ after done left. absurd (stop_undone e done));
      prepared = tt;
      lacks = λ x. absurd x;
    })

-- the same of one that asks no bank
pub stopped_without : (old new : FolderState) (c : Request) (s : Result Prepared LookStop) (e : LookStop) → s ≡ Err e → ReachesTo old new (course_of c) (stop_answer e) → LooksWithoutBanks old new c s
stopped_without old new c s e is h = record { each = λ banks. stopped_looks old new banks c s e is h }

-- a command that has no run to count
pub without_run : (old new : FolderState) (c : Request) (a : Answer) (Left : List Meaning → Type 0) → ((bytes : List (List ℕ)) (banks : List Meaning) → CountsRunOf c bytes banks) → ReachesTo old new (course_of c) a
    → ReachesCounting old new c a Left
without_run old new c a Left none h = (h.0, h.1, λ banks done left. none h.0 banks)

-- one that asks no bank, whose files pass, and for which memory can't lack when it begins
pub passed_without : (old new : FolderState) (c : Request) (p : Prepared) → ((bytes : List (List ℕ)) (banks : List Meaning) → CountsRunOf c bytes banks)
    → ((a : Answer) → IsAnswerOf p a → ReachesTo old new (course_of c) a) → ((banks : List Meaning) → IsPrepared banks p) → (MayLack p → ⊥) → LooksWithoutBanks old new c (Ok p)
passed_without old new c p none reaches prepared never = record {
  each = λ banks. record {
    reaches = λ a is. without_run old new c a (LooksLeave (Ok p) banks) none (reaches a is);
    prepared = prepared banks;
    lacks = λ may. absurd (never may);
  };
}

-- a whole command
pub spelled_reaches : (words : List (List ℕ)) (old new : FolderState) (c : Request) (a : Answer) → Spells words c → ReachesTo old new (course_of c) a → Reaches words old new a
spelled_reaches words old new c a spells h = (h.0, inr (c, spells, h.1))

pub spelled_counts : (words : List (List ℕ)) (old new : FolderState) (c : Request) (a : Answer) (Left : List Meaning → Type 0) → Spells words c → ReachesCounting old new c a Left → ReachesCounted words old new a Left
spelled_counts words old new c a Left spells h = (h.0, inr (c, spells, h.1), λ banks done left. (c, spells, h.2 banks done left))

-- no command
pub usage_counts : (words : List (List ℕ)) (s : FolderState) (a : Answer) (Left : List Meaning → Type 0) → NoCommand words → a ≡ usage → ReachesCounted words s s a Left
usage_counts words s a Left never is =
    subst (λ (b : Answer). ReachesCounted words s s b Left) (sym is)
    ([], inl (never, refl, refl, refl), λ banks done left. absurd (undone 2 (omega arith) (omega arith) done))

-- the host file
pub host_looks : (s : FolderState) (banks : List Meaning) (p : Prepared) → ((a : Answer) → IsAnswerOf p a → a ≡ prints host_text) → IsPrepared banks p → (MayLack p → ⊥) → LooksAt s s banks host (Ok p)
host_looks s banks p is prepared never =
    record {
      reaches = λ a of. without_run s s host a (LooksLeave (Ok p) banks) (λ bytes after. tt) (of_none s (λ a. a ≡ prints host_text) a (is a of));
      prepared = prepared;
      lacks = λ may. absurd (never may);
    }
