-- What the numbers of a field say where they stand is what the list of them says.
use Rattle.std.proofs.Common.{◌≡◌, ℕ, ◌+◌, ℤ, pos, codes, List, [], ◌∷◌, length, Bool, true, false, cond, ◌&&◌, Option, Some, None, option_map, option_and_then, Ok, Err, refl}
use Rattle.std.specs.Prelude.{is_some}
use Rattle.std.specs.List.{list_all}
use Rattle.serde_json.specs.Data.{Data, null, boolean, number, string, array, object, Items, no_items, item}
use Rattle.serde_json.specs.Find.{get, as_array, as_i64}
use Rattle.sci_base.specs.Outcome.{◌>>=◌}
use Rattle.sci_json.specs.Field.{whole, wholes, as_ints, formed}
use Rattle.sci_diagram.specs.Tree.{required, optional, if_small, is_small, count_of, end_from, link_end, second, missing, wrong}
use Rattle.sci_diagram.specs.Numbers.{all_whole, count_small, small_count, side_in, end_in, as_end, kind_in, as_kind, link_kind}

-- ---- counts

-- so many numbers, and then those of the items
abbrev pub counted_on : ℕ → Items → Option ℕ
counted_on k ds = option_map (λ n. k + n) (count_small (wholes ds))

counted : (at : List ℕ) (code : ℤ) (o : Option (List ℤ)) → (optional at code (formed o) >>= if_small at code >>= λ xs. Ok (length xs)) ≡ required at code (formed (count_small o))
counted at code None = refl
counted at code (Some zs) = tested (list_all is_small zs)
  where
    tested : (b : Bool) → (cond b (Ok zs) (Err (wrong at code)) >>= λ xs. Ok (length xs)) ≡ required at code (formed (cond b (Some (length zs)) None))
    tested true = refl
    tested false = refl

pub count_absent : (at : List ℕ) (code : ℤ) (name : List ℕ) (m : Data) → get name m ≡ None → count_of at code name m ≡ Ok 0
count_absent at code name m h = rw h refl

pub count_found : (at : List ℕ) (code : ℤ) (name : List ℕ) (m d : Data) → get name m ≡ Some d → count_of at code name m ≡ required at code (formed (small_count d))
count_found at code name m d h = rw h (counted at code (as_ints d))

-- ---- ends of links

module _ (at : List ℕ) (code side : ℤ) where
  two : (x y : Option ℤ) → (required at code (formed (option_and_then (λ a. option_map (λ zs. a ∷ zs) (option_and_then (λ b. option_map (λ zs. b ∷ zs) (Some [])) y)) x)) >>= end_from at code side) ≡ required at code (formed (option_and_then (λ a. option_and_then (λ b. Some (record { block = a; port = b; side = side })) y) x))
  two None y = refl
  two (Some a) None = refl
  two (Some a) (Some b) = refl

  three : (x y z : Option ℤ) → (required at code (formed (option_and_then (λ a. option_map (λ zs. a ∷ zs) (option_and_then (λ b. option_map (λ zs. b ∷ zs) (option_and_then (λ c. option_map (λ zs. c ∷ zs) (Some [])) z)) y)) x)) >>= end_from at code side) ≡ required at code (formed (option_and_then (λ a. option_and_then (λ b. option_map (λ c. record { block = a; port = b; side = c }) z) y) x))
  three None y z = refl
  three (Some a) None z = refl
  three (Some a) (Some b) None = refl
  three (Some a) (Some b) (Some c) = refl

  more : (x y z w : Option ℤ) (r : Option (List ℤ)) → (required at code (formed (option_and_then (λ a. option_map (λ zs. a ∷ zs) (option_and_then (λ b. option_map (λ zs. b ∷ zs) (option_and_then (λ c. option_map (λ zs. c ∷ zs) (option_and_then (λ d. option_map (λ zs. d ∷ zs) r) w)) z)) y)) x)) >>= end_from at code side) ≡ required at code (formed (option_and_then (λ a. option_and_then (λ b. None) y) x))
  more None y z w r = refl
  more (Some a) None z w r = refl
  more (Some a) (Some b) None w r = refl
  more (Some a) (Some b) (Some c) None r = refl
  more (Some a) (Some b) (Some c) (Some d) None = refl
  more (Some a) (Some b) (Some c) (Some d) (Some zs) = refl

  one : (x : Option ℤ) → (required at code (formed (option_map (λ z. z ∷ []) x)) >>= end_from at code side) ≡ Err (wrong at code)
  one None = refl
  one (Some a) = refl

  first : (x : Option ℤ) → (required at code (formed (option_and_then (λ a. option_map (λ zs. a ∷ zs) (Some [])) x)) >>= end_from at code side) ≡ Err (wrong at code)
  first None = refl
  first (Some a) = refl

  end_items : (ds : Items) → (required at code (formed (wholes ds)) >>= end_from at code side) ≡ required at code (formed (end_in side ds))
  end_items no_items = refl
  end_items (item a no_items) = first (whole a)
  end_items (item a (item b no_items)) = two (whole a) (whole b)
  end_items (item a (item b (item c no_items))) = three (whole a) (whole b) (whole c)
  end_items (item a (item b (item c (item d ds)))) = more (whole a) (whole b) (whole c) (whole d) (wholes ds)

  end_data : (d : Data) → (required at code (formed (as_ints d)) >>= end_from at code side) ≡ required at code (formed (as_end side d))
  end_data null = refl
  end_data (boolean b) = refl
  end_data (number n) = one (as_i64 n)
  end_data (string s) = refl
  end_data (array ds) = end_items ds
  end_data (object ms) = refl

  pub end_absent : (name : List ℕ) (d : Data) → get name d ≡ None → link_end at code side name d ≡ Err (missing at code)
  end_absent name d h = rw h refl

  pub end_found : (name : List ℕ) (d e : Data) → get name d ≡ Some e → link_end at code side name d ≡ required at code (formed (as_end side e))
  end_found name d e h = rw h (end_data e)

pub end_taken : (side : ℤ) (d : Data) (ds es fs : Items) (a b : Data) (x y z : ℤ) → as_array d ≡ Some ds → ds ≡ item a es → es ≡ item b fs → whole a ≡ Some x → whole b ≡ Some y → side_in side fs ≡ Some z → as_end side d ≡ Some (record { block = x; port = y; side = z })
end_taken side d ds es fs a b x y z h i j k l m = rw (h, i, j, k, l, m) refl

-- ---- types of links

all_of : (ds : Items) → is_some (wholes ds) ≡ all_whole ds
all_of no_items = refl
all_of (item d ds) = here (whole d) (wholes ds) (all_whole ds) (all_of ds)
  where
    here : (o : Option ℤ) (r : Option (List ℤ)) (b : Bool) → is_some r ≡ b → is_some (option_and_then (λ z. option_map (λ zs. z ∷ zs) r) o) ≡ (is_some o && b)
    here None r b h = refl
    here (Some z) None b h = h
    here (Some z) (Some zs) b h = h

module _ (at : List ℕ) where
  kind_from : (x y : Option ℤ) (r : Option (List ℤ)) → (required at (pos 21) (formed (option_and_then (λ a. option_map (λ zs. a ∷ zs) (option_and_then (λ b. option_map (λ zs. b ∷ zs) r) y)) x)) >>= second at) ≡ required at (pos 21) (formed (cond (is_some (option_and_then (λ a. option_map (λ zs. a ∷ zs) (option_and_then (λ b. option_map (λ zs. b ∷ zs) r) y)) x)) y None))
  kind_from None y r = refl
  kind_from (Some a) None r = refl
  kind_from (Some a) (Some b) None = refl
  kind_from (Some a) (Some b) (Some zs) = refl

  alone : (x : Option ℤ) (b : Bool) → (required at (pos 21) (formed (option_and_then (λ a. option_map (λ zs. a ∷ zs) (Some [])) x)) >>= second at) ≡ required at (pos 21) (formed (cond b None None))
  alone None true = refl
  alone None false = refl
  alone (Some a) true = refl
  alone (Some a) false = refl

  kind_items : (ds : Items) → (required at (pos 21) (formed (wholes ds)) >>= second at) ≡ required at (pos 21) (formed (kind_in ds))
  kind_items no_items = refl
  kind_items (item a no_items) = alone (whole a) (all_whole (item a no_items))
  kind_items (item a (item b ds)) = rw (← all_of (item a (item b ds))) (kind_from (whole a) (whole b) (wholes ds))

  single : (x : Option ℤ) → (required at (pos 21) (formed (option_map (λ z. z ∷ []) x)) >>= second at) ≡ Err (wrong at (pos 21))
  single None = refl
  single (Some a) = refl

  kind_data : (d : Data) → (required at (pos 21) (formed (as_ints d)) >>= second at) ≡ required at (pos 21) (formed (as_kind d))
  kind_data null = refl
  kind_data (boolean b) = refl
  kind_data (number n) = single (as_i64 n)
  kind_data (string s) = refl
  kind_data (array ds) = kind_items ds
  kind_data (object ms) = refl

  pub kind_absent : (d : Data) → get (codes "ct") d ≡ None → link_kind at d ≡ Err (missing at (pos 21))
  kind_absent d h = rw h refl

  pub kind_found : (d e : Data) → get (codes "ct") d ≡ Some e → link_kind at d ≡ required at (pos 21) (formed (as_kind e))
  kind_found d e h = rw h (kind_data e)
