-- What functions that read lines return.
use Rattle.std.proofs.Common.{◌≡◌, ℕ, ◌+◌, ◌-◌, ◌<◌, ◌≤◌, ℤ, List, [], ◌∷◌, ◌++◌, length, get_or, Option, Some, None, Result, Ok, Err, refl, sym, ap, ap₂, ◌∙◌, subst, arith, Vec, Bool, true, false, cond, not, ◌&&◌}
use Rattle.std.specs.Prelude.{IfOk, nat_eq, codes, decimal}
use Rattle.std.specs.declared.alloc.Global.{Global}
use denote.Bor.{Bor}
use Rattle.std.proofs.lemmas.Bool.{and_from}
use Rattle.sci_net.specs.Parts.{Parts}
use Rattle.sci_net.specs.Sources.{source_of}
use Rattle.sci_text.specs.Reading.{◌>>=◌, after}
use Rattle.sci_save.specs.declared.bounds.Bounds.{Bounds}
use Rattle.sci_save.specs.declared.stop.LineStop.{LineStop}
use Rattle.sci_save.specs.Bounds.{AreWithin}
use Rattle.sci_save.specs.Numbers.{numbers_at, start_text, behind_start}
use Rattle.sci_save.specs.Reading.{Gives, told, line_at, row_at, befores, place_of, is_port, is_free, free_place}
use Rattle.sci_save.proofs.Numbers.{numbers_take}
use Rattle.sci_save.proofs.BlockLines.{told_ok}
use Rattle.sci_save.proofs.Sources.{befores_length, befores_read}

-- the same is read
pub given_same : {X Y : Type 0} (view : X → Y) (r : Result X LineStop) (a b : Result Y ℕ) → a ≡ b → Gives view r a → Gives view r b
given_same {Y = Y} view r a b e g = subst (λ (q : Result Y ℕ). Gives view r q) e g

pub line_within : (r : Result (Vec ℤ Global × Bor (List ℕ)) LineStop) (left : ℕ) (rs : List Bounds) (bytes : List ℕ)
    → Gives (λ (x : Vec ℤ Global × Bor (List ℕ)). (x.0.items, x.1.now)) r (told left (numbers_at rs bytes)) → IfOk r (λ (x : Vec ℤ Global × Bor (List ℕ)). AreWithin rs x.0.items)
line_within (Ok x) left rs bytes g = (numbers_take rs bytes (x.0.items, x.1.now) (told_ok left (numbers_at rs bytes) (x.0.items, x.1.now) g)).1
line_within (Err e) left rs bytes g = tt

-- a line that begins so
pub line_behind : (start : List ℕ) (rs : List Bounds) (bytes rest : List ℕ) (left : ℕ) → left ≡ length bytes → Some rest ≡ after start bytes → told left (numbers_at rs rest) ≡ line_at start rs bytes
line_behind start rs bytes rest left l e = ap₂ (λ (k : ℕ) (o : Option (List ℕ)). told k (o >>= λ behind. numbers_at rs behind)) l e

pub line_nothing : (start : List ℕ) (rs : List Bounds) (bytes : List ℕ) → None ≡ after start bytes → line_at start rs bytes ≡ Err (length bytes)
line_nothing start rs bytes e = ap (λ (o : Option (List ℕ)). told (length bytes) (o >>= λ behind. numbers_at rs behind)) (sym e)

pub row_line : (word : List ℕ) (b : ℕ) (rs : List Bounds) (bytes : List ℕ) → (length rs ≡ 0 → ⊥) → line_at (start_text word b) rs bytes ≡ row_at word b rs bytes
row_line word b [] bytes h = absurd (h refl)
row_line word b (r ∷ rs) bytes h = refl

pub row_nothing : (word : List ℕ) (b : ℕ) (rs : List Bounds) (bytes : List ℕ) → length rs ≡ 0 → row_at word b rs bytes ≡ Ok ([], bytes)
row_nothing word b [] bytes h = refl
row_nothing word b (r ∷ rs) bytes h = absurd (omega (arith, h))

after_step : (t : Bool) (o p : Option (List ℕ)) (b : List ℕ) → o ≡ (p >>= λ rest. after b rest) → cond t o None ≡ (cond t p None >>= λ rest. after b rest)
after_step true o p b e = e
after_step false o p b e = refl

after_append : (a b bytes : List ℕ) → after (a ++ b) bytes ≡ (after a bytes >>= λ rest. after b rest)
after_append [] b bytes = refl
after_append (x ∷ xs) b [] = refl
after_append (x ∷ xs) b (y ∷ ys) = after_step (nat_eq y x) (after (xs ++ b) ys) (after xs ys) b (after_append xs b ys)

behind_each : (o : Option (List ℕ)) (f g : List ℕ → Option (List ℕ)) → ((rest : List ℕ) → f rest ≡ g rest) → (o >>= f) ≡ (o >>= g)
behind_each (Some rest) f g e = e rest
behind_each None f g e = refl

-- behind the beginning of a block's line
pub behind_start_is : (word : List ℕ) (b : ℕ) (bytes : List ℕ) → behind_start word b bytes ≡ after (start_text word b) bytes
unfolding behind_start
behind_start_is word b bytes =
    behind_each (after word bytes) (λ (rest : List ℕ). after (codes " ") rest >>= λ r. after (decimal b) r) (λ (rest : List ℕ). after (codes " " ++ decimal b) rest)
    (λ rest. sym (after_append (codes " ") (decimal b) rest))
    ∙ sym (after_append word (codes " " ++ decimal b) bytes)

-- ---- events

and_none : (t : Bool) → (t && false) ≡ false
and_none true = refl
and_none false = refl

-- the place that is worked out
pub place_is : (n : Parts) (before : List ℕ) (block port count : ℕ) → before ≡ befores 0 1 n.specs → 1 ≤ block → block ≤ length n.specs → count ≡ get_or before (block - 1) 0 → count + port ≡ place_of n block port
place_is n before block port count e least most c =
    let read = befores_read 0 1 n.specs (block - 1) (omega (arith, least, most)) in
    let same : get_or before (block - 1) 0 ≡ get_or (befores 0 1 n.specs) (block - 1) 0 = ap (λ (l : List ℕ). get_or l (block - 1) 0) e in
    omega (arith, read, same, c)

pub before_within : (n : Parts) (before : List ℕ) (block : ℕ) → before ≡ befores 0 1 n.specs → 1 ≤ block → block ≤ length n.specs → block - 1 < length before
before_within n before block e least most = omega (arith, least, most, ap length e, befores_length 0 1 n.specs)

-- whether it is free
module _ (n : Parts) (marks : List Bool) (block port place : ℕ) (e : place ≡ place_of n block port) where
  pub place_free : get_or marks place true ≡ false → is_port block port (source_of n place) ≡ true → Some place ≡ free_place n marks block port
  place_free f g =
      let u : not (get_or marks (place_of n block port) true) ≡ true = ap (λ (k : ℕ). not (get_or marks k true)) (sym e) ∙ ap not f in
      let p : is_port block port (source_of n (place_of n block port)) ≡ true = ap (λ (k : ℕ). is_port block port (source_of n k)) (sym e) ∙ g in
      let free : is_free n marks block port ≡ true = and_from _ _ u p in
      ap (λ (k : ℕ). Some k) e ∙ ap (λ (t : Bool). cond t (Some (place_of n block port)) None) (sym free)

  pub place_taken : get_or marks place true ≡ true → None ≡ free_place n marks block port
  place_taken f =
      let u : not (get_or marks (place_of n block port) true) ≡ false = ap (λ (k : ℕ). not (get_or marks k true)) (sym e) ∙ ap not f in
      ap (λ (t : Bool). cond (t && is_port block port (source_of n (place_of n block port))) (Some (place_of n block port)) None) (sym u)

  pub place_other : is_port block port (source_of n place) ≡ false → None ≡ free_place n marks block port
  place_other g =
      let p : is_port block port (source_of n (place_of n block port)) ≡ false = ap (λ (k : ℕ). is_port block port (source_of n k)) (sym e) ∙ g in
      let free : is_free n marks block port ≡ false = ap (λ (t : Bool). not (get_or marks (place_of n block port) true) && t) p ∙ and_none (not (get_or marks (place_of n block port) true)) in
      ap (λ (t : Bool). cond t (Some (place_of n block port)) None) (sym free)
