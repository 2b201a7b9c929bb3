-- Two tags in scopes tie exactly where they are the same.
use Rattle.std.proofs.Common.{◌≡◌, ℕ, List, Bool, true, false, eqb, ◌&&◌, Option, Some, None, refl, sym, ap, ◌∙◌}
use Rattle.std.specs.Map.{lookup}
use Rattle.std.specs.Option.{option_eq, option_cmp, option_map}
use Rattle.std.specs.Str.{bytes_eq}
use Rattle.std.specs.BTreeMap.{get}
use Rattle.std.specs.Ordering.{is_eq, nat_cmp, ordering_then}
use Rattle.std.specs.Cmp.{tied_then, unsigned_tied, unsigned_Decides}
use Rattle.std.specs.Cmp.Lexicographic.{slice_cmp}
use Rattle.std.proofs.lemmas.Map.Text.{is_eq-slice_cmp}
use Rattle.std.proofs.lemmas.Slice.Eq.{bytes_eq-Decides}
use Rattle.std.specs.declared.cmp.Ordering.{Ordering}
use Rattle.std.specs.declared.alloc.Global.{Global}
use Rattle.smallvec.specs.declared.small_vec.SmallVec.{SmallVec}
use Rattle.sci_blocks.specs.declared.class.LinkType.{LinkType}
use Rattle.sci_blocks.specs.declared.class.LinkType.TheVariants.{Regular, Activation}
use Rattle.sci_blocks.specs.contracts.class.LinkTypeOrd.TheImpl as link_ord
use Rattle.sci_goto.specs.contracts.givers.ScopedTagOrd.TheImpl as scoped_ord
use Rattle.sci_goto.specs.declared.givers.ScopedTag.{ScopedTag}
use Rattle.sci_goto.specs.declared.givers.Givers.{Givers}
use Rattle.sci_goto.specs.declared.tag.Tag.{Tag}
use Rattle.sci_goto.specs.Phase.{same_link, same_tag}
use Rattle.sci_goto.specs.Givers.{within_of, same_scoped, position_in}

-- how the map compares its keys
abbrev pub scoped_cmp : ScopedTag → ScopedTag → Ordering
scoped_cmp = (scoped_ord.ghosts).cmp

link_tied : (a b : LinkType) → is_eq ((link_ord.ghosts).cmp a b) ≡ same_link a b
link_tied Regular Regular = refl
link_tied Regular Activation = refl
link_tied Activation Regular = refl
link_tied Activation Activation = refl

abbrev Path : Type 0
Path = SmallVec ℕ 16 Global

abbrev path_cmp : Path → Path → Ordering
path_cmp p q = slice_cmp nat_cmp p.items q.items

abbrev items : Path → List ℕ
items p = p.items

within_tied : (a b : Option Path) → is_eq (option_cmp path_cmp a b) ≡ option_eq bytes_eq (option_map items a) (option_map items b)
within_tied None None = refl
within_tied None (Some q) = refl
within_tied (Some p) None = refl
within_tied (Some p) (Some q) = is_eq-slice_cmp p.items q.items

pub scoped_tied : (a b : ScopedTag) → is_eq (scoped_cmp a b) ≡ same_scoped a b
scoped_tied a b =
    let link = (link_ord.ghosts).cmp a.tag.link b.tag.link in
    let number = nat_cmp a.tag.number b.tag.number in
    let within = option_cmp path_cmp a.within b.within in
    sym (tied_then (ordering_then link number) within) ∙ ap (λ t. t && is_eq within) (sym (tied_then link number))
    ∙ (rw (link_tied a.tag.link b.tag.link, unsigned_tied a.tag.number b.tag.number, within_tied a.within b.within) refl)

pub position_is : (m : Givers) (q : ScopedTag) → get scoped_cmp m.positions q ≡ position_in m q
position_is m q = ap (λ (test : ScopedTag → Bool). lookup test m.positions.entries) (λ i. λ k. scoped_tied q k i)

-- ---- the same

same_links : (a b : LinkType) → same_link a b ≡ true → a ≡ b
same_links Regular Regular h = refl
same_links Regular Activation h = cc
same_links Activation Regular h = cc
same_links Activation Activation h = refl

both : (s t : Bool) → (s && t) ≡ true → (s ≡ true) × (t ≡ true)
both true true h = (refl, refl)
both true false h = cc
both false t h = cc

pub same_tags : (a b : Tag) → same_tag a b ≡ true → a ≡ b
same_tags a b h =
    let parts = both (same_link a.link b.link) (eqb a.number b.number) h in
    let link = same_links a.link b.link parts.0 in
    let number = (unsigned_Decides a.number b.number).0 parts.1 in
    λ i. record { link = link i; number = number i }

pub same_withins : (a b : Option (List ℕ)) → option_eq bytes_eq a b ≡ true → a ≡ b
same_withins None None h = refl
same_withins None (Some ys) h = cc
same_withins (Some xs) None h = cc
same_withins (Some xs) (Some ys) h = ap Some ((bytes_eq-Decides xs ys).0 h)

pub same_scopes : (a b : ScopedTag) → same_scoped a b ≡ true → (a.tag ≡ b.tag) × (within_of a ≡ within_of b)
same_scopes a b h =
    let parts = both (same_tag a.tag b.tag) (option_eq bytes_eq (within_of a) (within_of b)) h in
    (same_tags a.tag b.tag parts.0, same_withins (within_of a) (within_of b) parts.1)
