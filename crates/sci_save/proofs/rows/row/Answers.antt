use Rattle.std.proofs.Common.{refl, sym, ap, ◌∙◌, List, ℤ, ℕ, ◌≡◌, Ok, Some, None, length}
use Rattle.std.specs.Prelude.{vec_len}
use Rattle.std.proofs.lemmas.Bool.{eqb-true, eqb-false}
use Rattle.sci_save.specs.declared.bounds.Bounds.{Bounds}
use Rattle.sci_save.specs.Bounds.{word_of, bounds_of}
use Rattle.sci_save.specs.Numbers.{numbers_at, start_text, behind_start}
use Rattle.sci_save.specs.Reading.{told, row_at}
use Rattle.sci_trace.specs.Columns.{columns_view}
use Rattle.sci_save.proofs.Lines.{row_nothing, row_line, given_same, line_behind, line_nothing, behind_start_is}
use Rattle.sci_save.proofs.rows.row.Goals as goal

pub returns-then-is_empty : goal.returns-then-is_empty
returns-then-is_empty c =
    let rs = bounds_of c.args.part (columns_view c.args.columns.now) c.args.spec.now in
    row_nothing (word_of c.args.part) c.args.block rs c.args.bytes.now (ap length (sym c.in_ok-bounds.ensures) ∙ (sym c.in_ok-bounds.bounds.ok.0 ∙ eqb-true (vec_len c.in_ok-bounds.bounds) 0 (sym c.is_empty.ensures ∙ c.if-is_empty.true)))
    ∙ ap (λ (xs : List ℤ). Ok (xs, c.args.bytes.now)) (sym c.new.ensures.items)

pub returns-in-Some : goal.returns-in-Some
returns-in-Some c =
    let word = word_of c.args.part in
    let b = c.args.block in
    let bytes = c.args.bytes.now in
    let rest = c.in-Some.rest.now in
    let rs = bounds_of c.args.part (columns_view c.args.columns.now) c.args.spec.now in
    let same = c.deref.ensures.value ∙ c.in_ok-bounds.ensures in
    let started : Some rest ≡ behind_start word b bytes = c.in-Some.ensures ∙ ap (λ (w : List ℕ). behind_start w b bytes) c.word.ensures in
    let some : length rs ≡ 0 → ⊥ = λ z. eqb-false (vec_len c.in_ok-bounds.bounds) 0 (sym c.is_empty.ensures ∙ c.if-is_empty.false) (c.in_ok-bounds.bounds.ok.0 ∙ ap length c.in_ok-bounds.ensures ∙ z) in
    given_same _ c.numbers.result (told (length bytes) (numbers_at c.deref.result.now rest)) (row_at word b rs bytes)
    (ap (λ (q : List Bounds). told (length bytes) (numbers_at q rest)) same
    ∙ line_behind (start_text word b) rs bytes rest (length bytes) refl (started ∙ behind_start_is word b bytes) ∙ row_line word b rs bytes some) c.numbers.ensures

pub returns : goal.returns
returns c =
    let word = word_of c.args.part in
    let b = c.args.block in
    let bytes = c.args.bytes.now in
    let rs = bounds_of c.args.part (columns_view c.args.columns.now) c.args.spec.now in
    let none : None ≡ behind_start word b bytes = c.in-None.ensures ∙ ap (λ (w : List ℕ). behind_start w b bytes) c.word.ensures in
    let some : length rs ≡ 0 → ⊥ = λ z. eqb-false (vec_len c.in_ok-bounds.bounds) 0 (sym c.is_empty.ensures ∙ c.if-is_empty.false) (c.in_ok-bounds.bounds.ok.0 ∙ ap length c.in_ok-bounds.ensures ∙ z) in
    sym (row_line word b rs bytes some) ∙ line_nothing (start_text word b) rs bytes (none ∙ behind_start_is word b bytes)
