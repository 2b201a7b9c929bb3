-- Where the parts of a net's ports stand.
use Rattle.std.proofs.Common.{ℕ, ℤ, ◌≡◌, ◌+◌, ◌-◌, ◌*◌, ◌<◌, ◌≤◌, ◌⊎◌, inl, inr, ⊎_elim, zero, suc, List, [], ◌∷◌, ◌++◌, length, Some, slice_get, get_or, drop, subst, sym, refl, ap, ◌∙◌, arith, length-append, append_assoc}
use Rattle.std.proofs.lemmas.List.{drop_more, drop_all, append-nil, get_or_default}
use Rattle.std.proofs.lemmas.Option.{slice_get_within, same_Some, slice_get-get_or}
use Rattle.sci_forms.specs.declared.ports.Port.{Port}
use Rattle.sci_forms.specs.declared.spec.Spec.{Spec}
use Rattle.sci_net.specs.declared.Wire.{Wire}
use Rattle.sci_net.specs.Parts.{Parts, IsBlock, IsInput, IsOutput, spec_of, no_spec}
use Rattle.sci_infer.specs.declared.parts.PortPart.{PortPart}
use Rattle.sci_infer.specs.declared.parts.Side.{Side}
use Rattle.sci_infer.specs.declared.parts.Side.TheVariants.{Input, Output}
use Rattle.sci_infer.specs.declared.parts.What.{What}
use Rattle.sci_infer.specs.declared.parts.What.TheVariants.{DataType, Rows, Columns}
use Rattle.sci_infer.specs.Typing.{IsAt}
use Rattle.sci_infer.specs.PortParts.{side_parts, block_parts, parts_from, parts_in}
use Rattle.sci_infer.specs.Layout.{count, offset, side_start, start_of, IsOutputAt}

pub at_cases : (xs ys : List PortPart) (i : ℕ) (p : PortPart) → IsAt (xs ++ ys) i p → IsAt xs i p ⊎ ((j : ℕ) × (i ≡ length xs + j) × IsAt ys j p)
at_cases [] ys i p h = inr (i, omega arith, h)
at_cases (x ∷ xs) ys zero p h = inl h
at_cases (x ∷ xs) ys (suc i) p h = ⊎_elim (λ l. inl l) (λ r. inr (r.0, (let e = r.1 in omega (arith, e)), r.2)) (at_cases xs ys i p h)

at_left : (xs ys : List PortPart) (i : ℕ) (p : PortPart) → IsAt xs i p → IsAt (xs ++ ys) i p
at_left [] ys i p h = absurd (let w = slice_get_within [] i p h in omega (arith, w))
at_left (x ∷ xs) ys zero p h = h
at_left (x ∷ xs) ys (suc i) p h = at_left xs ys i p h

at_right : (xs ys : List PortPart) (i j : ℕ) (p : PortPart) → i ≡ length xs + j → IsAt ys j p → IsAt (xs ++ ys) i p
at_right [] ys i j p e h = subst (λ k. IsAt ys k p) (let f : j ≡ i = omega (arith, e) in f) h
at_right (x ∷ xs) ys zero j p e h = absurd (omega (arith, e))
at_right (x ∷ xs) ys (suc i) j p e h = at_right xs ys i j p (omega (arith, e)) h

side_length : (b : ℕ) (s : Side) (k : ℕ) (ps : List Port) → length (side_parts b s k ps) ≡ 3 * length ps
side_length b s k [] = refl
side_length b s k (p ∷ ps) = let e = side_length b s (k + 1) ps in omega (arith, e)

pub block_length : (b : ℕ) (x : Spec) → length (block_parts b x) ≡ 3 * length x.ins + 3 * length x.outs
block_length b x =
    let e = length-append (side_parts b Input 1 x.ins) (side_parts b Output 1 x.outs) in
    let l = side_length b Input 1 x.ins in let r = side_length b Output 1 x.outs in omega (arith, e, l, r)

-- a part of one side
pub record InSide (b : ℕ) (s : Side) (k n i : ℕ) (p : PortPart) : Type 0 where
  pub place : ℕ
  pub within : place < n
  pub block : p.block ≡ b
  pub side : p.side ≡ s
  pub port : p.port ≡ k + place
  pub at : i ≡ 3 * place + offset p.what

in_side_first : (b : ℕ) (s : Side) (k n i : ℕ) (x p : PortPart) → x ≡ p → x.block ≡ b → x.side ≡ s → x.port ≡ k → i ≡ offset x.what → InSide b s k (suc n) i p
in_side_first b s k n i x p e xb xs xp xo =
    record {
      place = 0;
      within = omega arith;
      block = ap (λ (q : PortPart). q.block) (sym e) ∙ xb;
      side = ap (λ (q : PortPart). q.side) (sym e) ∙ xs;
      port = (let f : p.port ≡ x.port = ap (λ (q : PortPart). q.port) (sym e) in omega (arith, f, xp));
      at = (let f : offset x.what ≡ offset p.what = ap (λ (q : PortPart). offset q.what) e in omega (arith, f, xo));
    }

side_placed : (b : ℕ) (s : Side) (k : ℕ) (ps : List Port) (i : ℕ) (p : PortPart) → IsAt (side_parts b s k ps) i p → InSide b s k (length ps) i p
side_placed b s k [] i p h = absurd (let w = slice_get_within [] i p h in omega (arith, w))
side_placed b s k (q ∷ ps) zero p h = in_side_first b s k (length ps) 0 (record { block = b; side = s; port = k; what = DataType; declared = q.ty }) p (same_Some _ _ h) refl refl refl refl
side_placed b s k (q ∷ ps) (suc zero) p h = in_side_first b s k (length ps) 1 (record { block = b; side = s; port = k; what = Rows; declared = q.rows }) p (same_Some _ _ h) refl refl refl refl
side_placed b s k (q ∷ ps) (suc (suc zero)) p h = in_side_first b s k (length ps) 2 (record { block = b; side = s; port = k; what = Columns; declared = q.cols }) p (same_Some _ _ h) refl refl refl refl
side_placed b s k (q ∷ ps) (suc (suc (suc i))) p h =
    let r = side_placed b s (k + 1) ps i p h in
    let w = r.within in let o = r.port in let a = r.at in
    record { place = suc r.place; within = omega (arith, w); block = r.block; side = r.side; port = omega (arith, o); at = omega (arith, a) }

side_named : (b : ℕ) (s : Side) (k : ℕ) (ps : List Port) (m i : ℕ) (o : What) → m < length ps → i ≡ 3 * m + offset o →
    (v : ℤ) × IsAt (side_parts b s k ps) i (record { block = b; side = s; port = k + m; what = o; declared = v })
side_named b s k [] m i o h e = absurd (omega (arith, h))
side_named b s k (q ∷ ps) zero i DataType h e = (q.ty, subst (λ j. IsAt (side_parts b s k (q ∷ ps)) j (record { block = b; side = s; port = k + 0; what = DataType; declared = q.ty })) (sym e) (ap (λ n. Some (record { block = b; side = s; port = n; what = DataType; declared = q.ty })) (omega arith)))
side_named b s k (q ∷ ps) zero i Rows h e = (q.rows, subst (λ j. IsAt (side_parts b s k (q ∷ ps)) j (record { block = b; side = s; port = k + 0; what = Rows; declared = q.rows })) (sym e) (ap (λ n. Some (record { block = b; side = s; port = n; what = Rows; declared = q.rows })) (omega arith)))
side_named b s k (q ∷ ps) zero i Columns h e = (q.cols, subst (λ j. IsAt (side_parts b s k (q ∷ ps)) j (record { block = b; side = s; port = k + 0; what = Columns; declared = q.cols })) (sym e) (ap (λ n. Some (record { block = b; side = s; port = n; what = Columns; declared = q.cols })) (omega arith)))
side_named b s k (q ∷ ps) (suc m) i o h e =
    let r = side_named b s (k + 1) ps m (3 * m + offset o) o (omega (arith, h)) refl in
    let far : suc (suc (suc (3 * m + offset o))) ≡ i = omega (arith, e) in
    let same_port : (k + 1) + m ≡ k + suc m = omega arith in (
      r.0,
      subst (λ j. IsAt (side_parts b s k (q ∷ ps)) j (record { block = b; side = s; port = k + suc m; what = o; declared = r.0 })) far
          (subst (λ n. IsAt (side_parts b s (k + 1) ps) (3 * m + offset o) (record { block = b; side = s; port = n; what = o; declared = r.0 })) same_port r.1),
    )

-- a part of a block
pub record InBlock (b : ℕ) (x : Spec) (i : ℕ) (p : PortPart) : Type 0 where
  pub place : ℕ
  pub block : p.block ≡ b
  pub port : p.port ≡ 1 + place
  pub within : place < count x p.side
  pub at : i ≡ side_start x p.side + (3 * place + offset p.what)

in_side_block : (b : ℕ) (x : Spec) (s : Side) (n i j : ℕ) (p : PortPart) → count x s ≡ n → InSide b s 1 n i p → j ≡ side_start x s + i → InBlock b x j p
in_side_block b x s n i j p full r e =
    let w = r.within in let a = r.at in
    let c : count x p.side ≡ count x s = ap (count x) r.side in
    let d : side_start x p.side ≡ side_start x s = ap (side_start x) r.side in
    record { place = r.place; block = r.block; port = r.port; within = omega (arith, w, c, full); at = omega (arith, a, d, e) }

block_placed : (b : ℕ) (x : Spec) (i : ℕ) (p : PortPart) → IsAt (block_parts b x) i p → InBlock b x i p
block_placed b x i p h =
    ⊎_elim (λ l. in_side_block b x Input (length x.ins) i i p refl (side_placed b Input 1 x.ins i p l) (omega arith))
    (λ r. in_side_block b x Output (length x.outs) r.0 i p refl (side_placed b Output 1 x.outs r.0 p r.2)
    (let e = r.1 in let l = side_length b Input 1 x.ins in omega (arith, e, l)))
    (at_cases (side_parts b Input 1 x.ins) (side_parts b Output 1 x.outs) i p h)

block_named : (b : ℕ) (x : Spec) (s : Side) (m i : ℕ) (o : What) → m < count x s → i ≡ side_start x s + (3 * m + offset o) →
    (v : ℤ) × IsAt (block_parts b x) i (record { block = b; side = s; port = 1 + m; what = o; declared = v })
block_named b x Input m i o h e =
    let r = side_named b Input 1 x.ins m i o h (omega (arith, e)) in (
      r.0,
      at_left (side_parts b Input 1 x.ins) (side_parts b Output 1 x.outs) i (record { block = b; side = Input; port = 1 + m; what = o; declared = r.0 }) r.1,
    )
block_named b x Output m i o h e =
    let r = side_named b Output 1 x.outs m (3 * m + offset o) o h refl in (
      r.0,
      at_right (side_parts b Input 1 x.ins) (side_parts b Output 1 x.outs) i (3 * m + offset o) (record { block = b; side = Output; port = 1 + m; what = o; declared = r.0 })
          (let l = side_length b Input 1 x.ins in omega (arith, e, l)) r.1,
    )

-- a part of a list of blocks
pub record InAll (b : ℕ) (xs : List Spec) (i : ℕ) (p : PortPart) : Type 0 where
  pub number : ℕ
  pub place : ℕ
  pub block : p.block ≡ b + number
  pub port : p.port ≡ 1 + place
  pub here : Spec
  pub is : slice_get xs number ≡ Some here
  pub within : place < count here p.side
  pub at : i ≡ start_of xs number + (side_start here p.side + (3 * place + offset p.what))

pub all_placed : (b : ℕ) (xs : List Spec) (i : ℕ) (p : PortPart) → IsAt (parts_from b xs) i p → InAll b xs i p
all_placed b [] i p h = absurd (let w = slice_get_within [] i p h in omega (arith, w))
all_placed b (x ∷ xs) i p h =
    ⊎_elim
    (λ l. let r = block_placed b x i p l in
    record { number = 0; place = r.place; block = (let e = r.block in omega (arith, e)); port = r.port; here = x; is = refl; within = r.within; at = (let a = r.at in omega (arith, a)) })
    (λ q. let r = all_placed (b + 1) xs q.0 p q.2 in
    record {
      number = suc r.number;
      place = r.place;
      block = (let e = r.block in omega (arith, e));
      port = r.port;
      here = r.here;
      is = r.is;
      within = r.within;
      at = (let a = r.at in let e = q.1 in let l = block_length b x in omega (arith, a, e, l));
    })
    (at_cases (block_parts b x) (parts_from (b + 1) xs) i p h)

pub all_named : (b : ℕ) (xs : List Spec) (n : ℕ) (x : Spec) (s : Side) (m : ℕ) (o : What) (i : ℕ) → slice_get xs n ≡ Some x → m < count x s →
    i ≡ start_of xs n + (side_start x s + (3 * m + offset o)) → (v : ℤ) × IsAt (parts_from b xs) i (record { block = b + n; side = s; port = 1 + m; what = o; declared = v })
all_named b [] n x s m o i is h e = absurd (let w = slice_get_within [] n x is in omega (arith, w))
all_named b (y ∷ xs) zero x s m o i is h e =
    let r = block_named b x s m i o h (omega (arith, e)) in (
      r.0,
      at_left (block_parts b y) (parts_from (b + 1) xs) i (record { block = b + 0; side = s; port = 1 + m; what = o; declared = r.0 })
          (subst (λ (z : Spec). IsAt (block_parts b z) i (record { block = b + 0; side = s; port = 1 + m; what = o; declared = r.0 })) (sym (same_Some y x is))
          (subst (λ c. IsAt (block_parts b x) i (record { block = c; side = s; port = 1 + m; what = o; declared = r.0 })) (let f : b ≡ b + 0 = omega arith in f) r.1)),
    )
all_named b (y ∷ xs) (suc n) x s m o i is h e =
    let r = all_named (b + 1) xs n x s m o (start_of xs n + (side_start x s + (3 * m + offset o))) is h refl in (
      r.0,
      at_right (block_parts b y) (parts_from (b + 1) xs) i (start_of xs n + (side_start x s + (3 * m + offset o))) (record { block = b + suc n; side = s; port = 1 + m; what = o; declared = r.0 })
          (let l = block_length b y in omega (arith, e, l))
          (subst (λ c. IsAt (parts_from (b + 1) xs) (start_of xs n + (side_start x s + (3 * m + offset o))) (record { block = c; side = s; port = 1 + m; what = o; declared = r.0 })) (let f : (b + 1) + n ≡ b + suc n = omega arith in f) r.1),
    )

pub start_zero : (xs : List Spec) → start_of xs 0 ≡ 0
start_zero [] = refl
start_zero (x ∷ xs) = refl

pub start_more : (xs : List Spec) (i : ℕ) (x : Spec) → i < length xs → x ≡ get_or xs i x → start_of xs (i + 1) ≡ start_of xs i + (3 * length x.ins + 3 * length x.outs)
start_more xs i x h e = subst (λ k. start_of xs k ≡ start_of xs i + (3 * length x.ins + 3 * length x.outs)) (let f : suc i ≡ i + 1 = omega arith in f) (start_suc xs i x h e)
  where
    start_suc : (xs : List Spec) (i : ℕ) (x : Spec) → i < length xs → x ≡ get_or xs i x → start_of xs (suc i) ≡ start_of xs i + (3 * length x.ins + 3 * length x.outs)
    start_suc [] i x h e = absurd (omega (arith, h))
    start_suc (y ∷ ys) zero x h e =
        let a : length x.ins ≡ length y.ins = ap (λ (z : Spec). length z.ins) e in
        let b : length x.outs ≡ length y.outs = ap (λ (z : Spec). length z.outs) e in
        let z = start_zero ys in omega (arith, a, b, z)
    start_suc (y ∷ ys) (suc i) x h e = let r = start_suc ys i x (omega (arith, h)) e in omega (arith, r)

pub rest_more : (b : ℕ) (ps whole : List PortPart) (xs : List Spec) (i : ℕ) (x : Spec) → i < length xs → x ≡ get_or xs i x → ps ++ parts_from b (drop i xs) ≡ whole →
    (ps ++ block_parts b x) ++ parts_from (b + 1) (drop (i + 1) xs) ≡ whole
rest_more b ps whole xs i x h e is =
    let more : drop i xs ≡ x ∷ drop (i + 1) xs = drop_more xs i x h ∙ ap (λ (y : Spec). y ∷ drop (i + 1) xs) (sym e) in
    append_assoc ps (block_parts b x) (parts_from (b + 1) (drop (i + 1) xs)) ∙ (sym (ap (λ ys. ps ++ parts_from b ys) more) ∙ is)

pub rest_all : (b : ℕ) (ps : List PortPart) (xs : List Spec) (i : ℕ) → length xs ≤ i → ps ++ parts_from b (drop i xs) ≡ ps
rest_all b ps xs i h = ap (λ ys. ps ++ parts_from b ys) (drop_all i xs h) ∙ append-nil ps

-- ---- in a net, whose blocks are counted from 1

pub spec_at : (n : Parts) (b m : ℕ) → b ≡ 1 + m → m < length n.specs → slice_get n.specs m ≡ Some (spec_of n b)
spec_at n b m e h =
    let f : suc m ≡ b = omega (arith, e) in
    subst (λ (c : ℕ). slice_get n.specs m ≡ Some (spec_of n c)) f (slice_get-get_or n.specs m no_spec h)

-- what is known of the part at a place
pub record Placed (n : Parts) (i : ℕ) (p : PortPart) : Type 0 where
  pub block : IsBlock n p.block
  pub least : 1 ≤ p.port
  pub most : p.port ≤ count (spec_of n p.block) p.side
  pub at : i ≡ start_of n.specs (p.block - 1) + (side_start (spec_of n p.block) p.side + (3 * (p.port - 1) + offset p.what))

pub placed : (n : Parts) (i : ℕ) (p : PortPart) → IsAt (parts_in n) i p → Placed n i p
placed n i p h =
    let a = all_placed 1 n.specs i p h in
    let inside = slice_get_within n.specs a.number a.here a.is in
    let same : a.here ≡ spec_of n p.block = same_Some a.here (spec_of n p.block) (sym a.is ∙ spec_at n p.block a.number a.block inside) in
    let number : a.number ≡ p.block - 1 = (let b = a.block in omega (arith, b)) in
    let place : a.place ≡ p.port - 1 = (let b = a.port in omega (arith, b)) in
    let full : count a.here p.side ≡ count (spec_of n p.block) p.side = ap (λ (s : Spec). count s p.side) same in
    let side : side_start a.here p.side ≡ side_start (spec_of n p.block) p.side = ap (λ (s : Spec). side_start s p.side) same in
    let start : start_of n.specs a.number ≡ start_of n.specs (p.block - 1) = ap (start_of n.specs) number in
    let b = a.block in let o = a.port in let w = a.within in let e = a.at in
    record {
      block = record { least = omega (arith, b); most = omega (arith, b, inside) };
      least = omega (arith, o);
      most = omega (arith, o, w, full);
      at = omega (arith, e, start, side, place);
    }

-- the part of a port that there is
pub named : (n : Parts) (b : ℕ) (s : Side) (k : ℕ) (o : What) (i : ℕ) → IsBlock n b → 1 ≤ k → k ≤ count (spec_of n b) s →
    i ≡ start_of n.specs (b - 1) + (side_start (spec_of n b) s + (3 * (k - 1) + offset o)) → (v : ℤ) × IsAt (parts_in n) i (record { block = b; side = s; port = k; what = o; declared = v })
named n b s k o i block least most e =
    let bl = block.least in let bm = block.most in
    let inside : b - 1 < length n.specs = omega (arith, bl, bm) in
    let from : b ≡ 1 + (b - 1) = omega (arith, bl) in
    let port : k ≡ 1 + (k - 1) = omega (arith, least) in
    let r = all_named 1 n.specs (b - 1) (spec_of n b) s (k - 1) o i (spec_at n b (b - 1) from inside) (omega (arith, least, most)) e in (
      r.0,
      subst (λ (q : ℕ). IsAt (parts_in n) i (record { block = q; side = s; port = k; what = o; declared = r.0 })) (sym from)
          (subst (λ (q : ℕ). IsAt (parts_in n) i (record { block = 1 + (b - 1); side = s; port = q; what = o; declared = r.0 })) (sym port) r.1),
    )

-- an output's part
pub output_at : (n : Parts) (w : Wire) (what : What) (place : ℕ) → IsOutput n w.block w.port →
    place ≡ start_of n.specs (w.block - 1) + (3 * length (spec_of n w.block).ins + (3 * (w.port - 1) + offset what)) → IsOutputAt n w what place
output_at n w what place is e =
    let r = named n w.block Output w.port what place is.block is.least is.most e in
    record {
      declared = r.0;
      at = r.1;
      only = λ j p q b s k o.
          let a = placed n j p q in
          let st : start_of n.specs (p.block - 1) ≡ start_of n.specs (w.block - 1) = ap (λ (c : ℕ). start_of n.specs (c - 1)) b in
          let sd : side_start (spec_of n p.block) p.side ≡ 3 * length (spec_of n w.block).ins = ap (side_start (spec_of n p.block)) s ∙ ap (λ (c : ℕ). 3 * length (spec_of n c).ins) b in
          let of : offset p.what ≡ offset what = ap offset o in
          let at = a.at in omega (arith, at, st, sd, of, k, e);
    }

pub output_bound : (n : Parts) (w : Wire) (what : What) → IsOutput n w.block w.port →
    start_of n.specs (w.block - 1) + (3 * length (spec_of n w.block).ins + (3 * (w.port - 1) + offset what)) < length (parts_in n)
output_bound n w what is =
    let a = output_at n w what (start_of n.specs (w.block - 1) + (3 * length (spec_of n w.block).ins + (3 * (w.port - 1) + offset what))) is refl in
    slice_get_within (parts_in n) (start_of n.specs (w.block - 1) + (3 * length (spec_of n w.block).ins + (3 * (w.port - 1) + offset what))) _ a.at

-- an input's part
pub input_here : (n : Parts) (i : ℕ) (p : PortPart) → IsAt (parts_in n) i p → p.side ≡ Input → IsInput n p.block p.port
input_here n i p h s =
    let a = placed n i p h in
    record { block = a.block; least = a.least; most = subst (λ (t : Side). p.port ≤ count (spec_of n p.block) t) s a.most }

-- the spec that is read of the net at i, counted from 0
pub spec_read : (n : Parts) (i : ℕ) (x : Spec) → x ≡ spec_of n (i + 1) → i < length n.specs → x ≡ get_or n.specs i x
spec_read n i x e h =
    let f : i + 1 ≡ suc i = omega arith in
    e ∙ (ap (spec_of n) f ∙ get_or_default n.specs i no_spec x h)
