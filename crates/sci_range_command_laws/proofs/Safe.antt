-- A safe table tells no overflow and no division by 0.
use Rattle.std.proofs.Common.{◌≡◌, ℕ, Bool, true, false, pos, List, [], ◌∷◌, ◌++◌, length, drop, get_or, refl, sym, ap, ◌∙◌, append_assoc, arith, true≢false}
use Rattle.std.specs.Prelude.{codes}
use Rattle.std.proofs.lemmas.List.{drop_at, length-append}
use Rattle.sci_base.specs.declared.observation.Obs.{Obs}
use Rattle.sci_base.specs.declared.observation.Obs.TheVariants.{Start, Event, Val, End, Stop}
use Rattle.sci_base.specs.declared.observation.StopWord.{StopWord}
use Rattle.sci_base.specs.declared.observation.StopWord.TheVariants.{Overflow, Zero, Input, Conflict}
use Rattle.sci_net.specs.Parts.{Parts, IsBlock}
use Rattle.sci_reaction.proofs.Lists.{or_left, or_right}
use Rattle.sci_reaction.specs.Memory.{Columns}
use Rattle.sci_run.specs.Observed.{is_header}
use Rattle.sci_answers.specs.Answer.{Answer}
use Rattle.sci_answers.proofs.Ends.{out-is}
use Rattle.sci_ranges.specs.Table.{Table}
use Rattle.sci_ranges_text.specs.Text.{is_open, last_word, ranges_text, states_text, stops_text, idle_text, table_text}
use Rattle.sci_ranges_text.proofs.Safe.{found}
use Rattle.sci_range_commands.specs.Due.{IsRangesOf}
use Rattle.sci_range_command_laws.specs.Told.{IsTold, told_header, told_value, told_end, told_stop, AreTold, IsNoFault, AreNoFaults}
use Rattle.sci_range_command_laws.specs.Runs.{SafeHasNoFaults}
use Rattle.sci_range_command_laws.specs.Answers.{IsSafe}

-- ---- no fault

header_no_fault : (o : Obs) → is_header o ≡ true → IsNoFault o
header_no_fault Start h = tt
header_no_fault (Event date block port) h = tt
header_no_fault (Val block port element value) h = tt
header_no_fault (End word) h = tt
header_no_fault (Stop word block port) h = absurd (true≢false (sym h))

module _ (n : Parts) (t : Table) (safe : is_open n t ≡ false) where
  listed_no_fault : (b : ℕ) (word : StopWord) → IsBlock n b → t.stops b word ≡ true → IsNoFault (Stop word (pos b) (pos 0))
  listed_no_fault b Overflow block h =
      true≢false (sym (found t (length n.specs) b block.least block.most (or_left (t.stops b Overflow) (t.stops b Zero) h)) ∙ safe)
  listed_no_fault b Zero block h =
      true≢false (sym (found t (length n.specs) b block.least block.most (or_right (t.stops b Overflow) (t.stops b Zero) h)) ∙ safe)
  listed_no_fault b Input block h = tt
  listed_no_fault b Conflict block h = tt

  one_no_fault : {o : Obs} → IsTold n t o → IsNoFault o
  one_no_fault (told_header o h) = header_no_fault o h
  one_no_fault (told_value b p e v possible h) = tt
  one_no_fault (told_end word) = tt
  one_no_fault (told_stop b word block h) = listed_no_fault b word block h

  each_no_fault : (os : List Obs) → AreTold n t os → AreNoFaults os
  each_no_fault [] h = tt
  each_no_fault (o ∷ os) h = (one_no_fault h.0, each_no_fault os h.1)

pub safe_has_no_faults : SafeHasNoFaults
safe_has_no_faults n t os safe told = each_no_fault n t safe os told

-- ---- the last line

-- two texts that are equal have ends that are equal where these are as long
same_end : (xs ys a b : List ℕ) → xs ++ a ≡ ys ++ b → length a ≡ length b → a ≡ b
same_end xs ys a b h same =
    let long : length xs ≡ length ys = omega (arith, ap length h, length-append xs a, length-append ys b, same) in
    sym (drop_at xs a (length xs) refl) ∙ (ap (λ (k : ℕ). drop k (xs ++ a)) long ∙ (ap (drop (length ys)) h ∙ drop_at ys b (length ys) refl))

in_front : (p q r s w : List ℕ) → p ++ (q ++ (r ++ (s ++ w))) ≡ p ++ q ++ r ++ s ++ w
in_front p q r s w = sym (append_assoc (p ++ q ++ r) s w ∙ (append_assoc (p ++ q) r (s ++ w) ∙ append_assoc p q (r ++ (s ++ w))))

not_open_by : (n : Parts) (t : Table) (acts : ℕ → Bool) (front out : List ℕ) (open_so : Bool) → is_open n t ≡ open_so → out ≡ table_text n t acts → out ≡ front ++ codes "safe\n" → is_open n t ≡ false
not_open_by n t acts front out false is told split = is
not_open_by n t acts front out true is told split =
    let p = ranges_text n t in
    let q = states_text n t in
    let r = stops_text n t in
    let s = idle_text n acts in
    let whole : front ++ codes "safe\n" ≡ p ++ q ++ r ++ s ++ codes "open\n" = sym split ∙ (told ∙ (in_front p q r s (last_word (is_open n t)) ∙ ap (λ (b : Bool). p ++ q ++ r ++ s ++ last_word b) is)) in
    let last : codes "safe\n" ≡ codes "open\n" = same_end front (p ++ q ++ r ++ s) (codes "safe\n") (codes "open\n") whole refl in
    let first : 115 ≡ 111 = ap (λ (l : List ℕ). get_or l 0 0) last in
    absurd (omega (arith, first))

-- a table that is told with `safe` as its last line isn't open
pub told_safe : (n : Parts) (i : Columns) (a : Answer) (r : IsRangesOf n i a) → IsSafe a → is_open n r.table ≡ false
told_safe n i a r s = not_open_by n r.table r.acts s.front a.out (is_open n r.table) refl (out-is r.told) s.split
