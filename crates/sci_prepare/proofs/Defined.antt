-- The text of `ccode` is that of the program that is defined, from the look at the diagram on.
use Rattle.std.proofs.Common.{◌≡◌, ◌∙◌, ℕ, List, sym, subst, Result, Ok, Err}
use Rattle.sci_io.specs.Files.{FolderState}
use Rattle.sci_words.specs.Words.{Request, code, spelled, Spells, NoCommand}
use Rattle.sci_answers.specs.Answer.{Answer}
use Rattle.sci_answers.specs.Coming.{ReachesTo}
use Rattle.sci_answers.specs.Prepared.{IsAnswerOf, MayLack}
use Rattle.sci_files.specs.Look.{stop_answer}
use Rattle.sci_answers.specs.Defined.{defined_course}
use Rattle.sci_prepare.specs.Defined.{LooksAtCode, LooksDefined, PreparesDefined}
use Rattle.sci_files.specs.declared.look.LookStop.{LookStop}
use Rattle.sci_answers.specs.declared.prepared.Prepared.{Prepared}
use Rattle.sci_words.proofs.Spoken.{same_command}

-- the diagram's file gives nothing, or memory lacks behind it
pub stopped_code : (old new : FolderState) (d : List ℕ) (s : Result Prepared LookStop) (e : LookStop) → s ≡ Err e
    → ReachesTo old new (defined_course d) (stop_answer e) → LooksAtCode old new d s
stopped_code old new d s e is h =
    subst (λ (q : Result Prepared LookStop). LooksAtCode old new d q) (sym is)
    (record {
      reaches = λ a same. subst (λ (b : Answer). ReachesTo old new (defined_course d) b) (sym same) h;
      lacks = λ x. absurd x;
    })

-- what was looked at for `ccode`, by another name of its command
looks_at : (words : List (List ℕ)) (old new : FolderState) (c : Request) (r : Result Prepared LookStop) → Spells words c → LooksDefined old new c r
    → (d : List ℕ) → words ≡ spelled (code d) → LooksAtCode old new d r
looks_at words old new c r spells looks d is =
    let same : c ≡ code d = same_command c (code d) spells.1 tt (sym spells.0 ∙ is) in
    subst (λ (q : Request). LooksDefined old new q r) same looks

-- the words are a command whose files pass
pub prepared_code : (words : List (List ℕ)) (old new : FolderState) (c : Request) (p : Prepared) → Spells words c → LooksDefined old new c (Ok p)
    → PreparesDefined words old new p
prepared_code words old new c p spells looks = record {
  each = λ d is.
      let coded = looks_at words old new c (Ok p) spells looks d is in
      record { reaches = λ a of. coded.reaches a of; lacks = λ may. coded.lacks may };
}

-- or one that stops there
pub stopped_prepares : (words : List (List ℕ)) (old new : FolderState) (c : Request) (e : LookStop) (p : Prepared) → Spells words c
    → LooksDefined old new c (Err e) → ((a : Answer) → IsAnswerOf p a → a ≡ stop_answer e) → (MayLack p → ⊥) → PreparesDefined words old new p
stopped_prepares words old new c e p spells looks answers never = record {
  each = λ d is.
      let coded = looks_at words old new c (Err e) spells looks d is in
      record { reaches = λ a of. coded.reaches a (answers a of); lacks = λ may. absurd (never may) };
}

-- or no command
pub unspelled_prepares : (words : List (List ℕ)) (old new : FolderState) (p : Prepared) → NoCommand words → PreparesDefined words old new p
unspelled_prepares words old new p never = record { each = λ d is. absurd (never (code d) (is, tt)) }
