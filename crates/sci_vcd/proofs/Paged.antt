-- Changes, page by page.
use Rattle.std.proofs.Common.{◌≡◌, ℕ, ◌+◌, ◌*◌, ◌/◌, ◌<◌, ◌≤◌, ℤ, pos, List, [], ◌++◌, length, get_or, Bool, false, sym, ap, ◌∙◌, arith}
use Rattle.std.specs.Prelude.{min}
use Rattle.sci_vcd.specs.declared.signal.Signal.{Signal}
use Rattle.sci_text.specs.Lines.{joined}
use Rattle.sci_vcd.specs.Spelling.{change_lines}
use Rattle.sci_vcd.specs.Writing.{changes_at, changes_within, told_behind, page_end, AreMarked}
use Rattle.sci_vcd.proofs.Changed.{within_same, within_all}
use Rattle.sci_vcd.proofs.Putting.{parts_text}

pub in_page : (k page : ℕ) → page * 32 ≤ k → k < page * 32 + 32 → k / 32 ≡ page
in_page k page h g = omega (arith, h, g)

pub page_starts : (page count : ℕ) → page < count / 32 + 1 → page * 32 ≤ count
page_starts page count h = omega (arith, h)

pub past_pages : (page count : ℕ) → count / 32 + 1 ≤ page → count ≤ page * 32
past_pages page count h = omega (arith, h)

-- a page that isn't marked has no changes
pub unmarked_page : (t page : ℕ) (vs ws : List ℤ) (marked : List Bool) → AreMarked vs ws marked → page < length marked → get_or marked page false ≡ false
    → changes_within t (page * 32) (page_end page (length vs)) vs ws ≡ []
unmarked_page t page vs ws marked m h e =
    let pages = m.pages in
    let starts = page_starts page (length vs) (omega (arith, h, pages)) in
    within_same t (page * 32) (page_end page (length vs)) vs ws (pos 0) (omega (arith, starts)) (omega arith) (λ k a b.
    let within : k < length vs = omega (arith, b) in
    m.same k within (ap (λ (j : ℕ). get_or marked j false) (in_page k page a (omega (arith, b))) ∙ e))

-- the changes from a page on are those within it, and those from the next page on
pub page_text : (gs : List Signal) (told t page count : ℕ) (vs ws : List ℤ) → length vs ≡ count → length ws ≡ count → page * 32 ≤ count
    → joined (change_lines gs told (changes_within t (min count (page * 32)) count vs ws))
    ≡ joined (change_lines gs told (changes_within t (page * 32) (page_end page count) vs ws))
    ++ joined (change_lines gs (told_behind told (changes_within t (page * 32) (page_end page count) vs ws)) (changes_within t (min count ((page + 1) * 32)) count vs ws))
page_text gs told t page count vs ws lv lw h =
    let here : min count (page * 32) ≡ page * 32 = omega (arith, h) in
    let next : page_end page count ≡ min count ((page + 1) * 32) = omega arith in
    ap (λ (a : ℕ). joined (change_lines gs told (changes_within t a count vs ws))) here
    ∙ parts_text gs told t (page * 32) (page_end page count) count vs ws (omega (arith, h)) (omega arith) (omega (arith, lv)) (lw ∙ sym lv)
    ∙ ap (λ (b : ℕ). joined (change_lines gs told (changes_within t (page * 32) (page_end page count) vs ws))
    ++ joined (change_lines gs (told_behind told (changes_within t (page * 32) (page_end page count) vs ws)) (changes_within t b count vs ws))) next

pub all_pages : (gs : List Signal) (told t count : ℕ) (vs ws : List ℤ) → length vs ≡ count → length ws ≡ count
    → joined (change_lines gs told (changes_at t 1 vs ws)) ≡ joined (change_lines gs told (changes_within t (min count 0) count vs ws))
all_pages gs told t count vs ws lv lw =
    let none : min count 0 ≡ 0 = omega arith in
    sym (ap (λ (a : ℕ). joined (change_lines gs told (changes_within t a count vs ws))) none ∙ ap (λ cs. joined (change_lines gs told cs)) (within_all t count vs ws lv lw))
