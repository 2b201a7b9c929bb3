use Rattle.std.proofs.Common.{rules, List, ℕ, ◌≡◌, ◌∷◌, [], map, string_bytes, subst, sym}
use Rattle.sci_words.specs.Words.{Parses}
use Rattle.sci_words.proofs.Spoken.{five_words, six_words}
use Rattle.sci_words.proofs.words.parse.Goals as goal

pub returns-in-len5 : goal.returns-in-len5
returns-in-len5 c =
    let spoken = five_words c.args.words.now _ _ _ _ _ c.name-item-then-words-lt6.is c.diagram-item-then-words-lt6.is c.inputs-item.is c.until-item.is c.limit-item.is c.in-len5.len_at_least c.in-len5.len_below in
    let P : List (List ℕ) → Type 0 = λ l. Parses l c.of_five.result in
    let same : c.as_str-in-len5.result.now ∷ c.as_str-in-len5-2.result.now ∷ c.as_str-in-len5-3.result.now ∷ c.as_str-in-len5-4.result.now ∷ c.as_str-in-len5-5.result.now ∷ [] ≡ map string_bytes c.args.words.now =
    cc (spoken, c.as_str-in-len5.ensures.value, c.as_str-in-len5-2.ensures.value, c.as_str-in-len5-3.ensures.value, c.as_str-in-len5-4.ensures.value, c.as_str-in-len5-5.ensures.value) in
    subst P same c.of_five.ensures

pub returns-in-len6 : goal.returns-in-len6
returns-in-len6 c =
    let spoken = six_words c.args.words.now _ _ _ _ _ _ c.name-item-then-words-lt7.is c.diagram-item-then-words-lt7.is c.inputs-item-then-words-lt7.is c.fourth-item.is c.fifth-item.is c.sixth-item.is c.in-len6.len_at_least c.in-len6.len_below in
    let P : List (List ℕ) → Type 0 = λ l. Parses l c.of_six.result in
    let same : c.as_str-in-len6.result.now ∷ c.as_str-in-len6-2.result.now ∷ c.as_str-in-len6-3.result.now ∷ c.as_str-in-len6-4.result.now ∷ c.as_str-in-len6-5.result.now ∷ c.as_str-in-len6-6.result.now ∷ [] ≡ map string_bytes c.args.words.now =
    cc (spoken, c.as_str-in-len6.ensures.value, c.as_str-in-len6-2.ensures.value, c.as_str-in-len6-3.ensures.value, c.as_str-in-len6-4.ensures.value, c.as_str-in-len6-5.ensures.value, c.as_str-in-len6-6.ensures.value) in
    subst P same c.of_six.ensures
