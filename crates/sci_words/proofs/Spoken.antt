-- Words that spell no command, and words that spell one, which spell no other.
use Rattle.std.proofs.Common.{◌≡◌, ◌≢◌, ◌≤◌, ◌<◌, ◌^◌, ℕ, List, [], ◌∷◌, map, get_or, length, arith, codes, decimal, refl, ap}
use Rattle.std.proofs.lemmas.Fmt.{decimal_injective}
use Rattle.std.specs.Prelude.{String, string_bytes}
use Rattle.std.specs.declared.alloc.Global.{Global}
use Rattle.sci_words.specs.declared.command.Report.{Report}
use Rattle.sci_words.specs.declared.words.Runs.{Runs}
use Rattle.sci_words.specs.declared.words.Runs.TheVariants.{Simulate, RunC, Dump}
use Rattle.sci_words.specs.Words.{report, simulate, judge, save, resume, code, run_c, host, bulk, dump, dump_at, report_word, run_word, NoCommand, Request, spelled, InBounds}
use Rattle.sci_words.specs.declared.command.Report.TheVariants.{Check, Map, Schedule}

pub five_words : (ws : List (String Global)) (a b c d e : String Global) → a ≡ get_or ws 0 a → b ≡ get_or ws 1 b → c ≡ get_or ws 2 c → d ≡ get_or ws 3 d → e ≡ get_or ws 4 e
    → 5 ≤ length ws → length ws < 6 → map string_bytes ws ≡ string_bytes a ∷ string_bytes b ∷ string_bytes c ∷ string_bytes d ∷ string_bytes e ∷ []
five_words [] a b c d e ha hb hc hd he low high = absurd (omega (arith, low))
five_words (v ∷ []) a b c d e ha hb hc hd he low high = absurd (omega (arith, low))
five_words (v ∷ w ∷ []) a b c d e ha hb hc hd he low high = absurd (omega (arith, low))
five_words (v ∷ w ∷ x ∷ []) a b c d e ha hb hc hd he low high = absurd (omega (arith, low))
five_words (v ∷ w ∷ x ∷ y ∷ []) a b c d e ha hb hc hd he low high = absurd (omega (arith, low))
five_words (v ∷ w ∷ x ∷ y ∷ z ∷ []) a b c d e ha hb hc hd he low high = cc (ha, hb, hc, hd, he)
five_words (v ∷ w ∷ x ∷ y ∷ z ∷ q ∷ ws) a b c d e ha hb hc hd he low high = absurd (omega (arith, high))

pub six_words : (ws : List (String Global)) (a b c d e f : String Global) → a ≡ get_or ws 0 a → b ≡ get_or ws 1 b → c ≡ get_or ws 2 c → d ≡ get_or ws 3 d → e ≡ get_or ws 4 e → f ≡ get_or ws 5 f
    → 6 ≤ length ws → length ws < 7 → map string_bytes ws ≡ string_bytes a ∷ string_bytes b ∷ string_bytes c ∷ string_bytes d ∷ string_bytes e ∷ string_bytes f ∷ []
six_words [] a b c d e f ha hb hc hd he hf low high = absurd (omega (arith, low))
six_words (v ∷ []) a b c d e f ha hb hc hd he hf low high = absurd (omega (arith, low))
six_words (v ∷ w ∷ []) a b c d e f ha hb hc hd he hf low high = absurd (omega (arith, low))
six_words (v ∷ w ∷ x ∷ []) a b c d e f ha hb hc hd he hf low high = absurd (omega (arith, low))
six_words (v ∷ w ∷ x ∷ y ∷ []) a b c d e f ha hb hc hd he hf low high = absurd (omega (arith, low))
six_words (v ∷ w ∷ x ∷ y ∷ z ∷ []) a b c d e f ha hb hc hd he hf low high = absurd (omega (arith, low))
six_words (v ∷ w ∷ x ∷ y ∷ z ∷ q ∷ []) a b c d e f ha hb hc hd he hf low high = cc (ha, hb, hc, hd, he, hf)
six_words (v ∷ w ∷ x ∷ y ∷ z ∷ q ∷ r ∷ ws) a b c d e f ha hb hc hd he hf low high = absurd (omega (arith, high))

pub two_words : (ws : List (String Global)) (a b : String Global) → a ≡ get_or ws 0 a → b ≡ get_or ws 1 b
    → 2 ≤ length ws → length ws < 3 → map string_bytes ws ≡ string_bytes a ∷ string_bytes b ∷ []
two_words [] a b ha hb low high = absurd (omega (arith, low))
two_words (v ∷ []) a b ha hb low high = absurd (omega (arith, low))
two_words (v ∷ w ∷ []) a b ha hb low high = cc (ha, hb)
two_words (v ∷ w ∷ x ∷ ws) a b ha hb low high = absurd (omega (arith, high))

pub three_words : (ws : List (String Global)) (a b c : String Global) → a ≡ get_or ws 0 a → b ≡ get_or ws 1 b → c ≡ get_or ws 2 c
    → 3 ≤ length ws → length ws < 4 → map string_bytes ws ≡ string_bytes a ∷ string_bytes b ∷ string_bytes c ∷ []
three_words [] a b c ha hb hc low high = absurd (omega (arith, low))
three_words (v ∷ []) a b c ha hb hc low high = absurd (omega (arith, low))
three_words (v ∷ w ∷ []) a b c ha hb hc low high = absurd (omega (arith, low))
three_words (v ∷ w ∷ x ∷ []) a b c ha hb hc low high = cc (ha, hb, hc)
three_words (v ∷ w ∷ x ∷ y ∷ ws) a b c ha hb hc low high = absurd (omega (arith, high))

-- five words with another first word are no command
pub no_run : (name file inputs until limit : List ℕ) → ((r : Runs) → name ≢ run_word r) → NoCommand (name ∷ file ∷ inputs ∷ until ∷ limit ∷ [])
no_run name file inputs until limit none (simulate d i t n) s = none Simulate (cc s.0)
no_run name file inputs until limit none (run_c d i t n) s = none RunC (cc s.0)
no_run name file inputs until limit none (dump d i t n) s = none Dump (cc s.0)
no_run name file inputs until limit none c s = absurd (cc s.0)

-- two words with another first word are no command
pub no_report : (name diagram : List ℕ) → ((r : Report) → name ≢ report_word r) → name ≢ codes "ccode" → NoCommand (name ∷ diagram ∷ [])
no_report name diagram none other (report r d) s = none r (cc s.0)
no_report name diagram none other (code d) s = other (cc s.0)
no_report name diagram none other c s = absurd (cc s.0)

-- three words with another first word are none
pub other_name : (name second third : List ℕ) → name ≢ codes "bulk" → name ≢ codes "vcdat" → NoCommand (name ∷ second ∷ third ∷ [])
other_name name second third bulk_not vcdat_not (bulk x z) s = bulk_not (cc s.0)
other_name name second third bulk_not vcdat_not (dump_at v k) s = vcdat_not (cc s.0)
other_name name second third bulk_not vcdat_not c s = absurd (cc s.0)

-- nor with a word that is no seed
pub no_seed : (seed size : List ℕ) → ((n : ℕ) → n ≤ 4294967295 → seed ≢ decimal n) → NoCommand (codes "bulk" ∷ seed ∷ size ∷ [])
no_seed seed size none (bulk x z) s = none x s.1.0 (cc s.0)
no_seed seed size none c s = absurd (cc s.0)

-- nor with one that is no size
pub no_size : (seed size : List ℕ) → ((n : ℕ) → n ≤ 2000 → size ≢ decimal n) → NoCommand (codes "bulk" ∷ seed ∷ size ∷ [])
no_size seed size none (bulk x z) s = none z s.1.2 (cc s.0)
no_size seed size none c s = absurd (cc s.0)

-- which 0 is none
pub size_zero : (seed size : List ℕ) (n : ℕ) → size ≡ decimal n → n ≡ 0 → NoCommand (codes "bulk" ∷ seed ∷ size ∷ [])
size_zero seed size n is none (bulk x z) s =
    let same : decimal n ≡ decimal z = cc (is, s.0) in
    let number : n ≡ z = decimal_injective n z (omega (arith, none)) (omega (arith, s.1.2)) same in
    absurd (omega (arith, number, none, s.1.1))
size_zero seed size n is none c s = absurd (cc s.0)

-- nor with one that is no tick
pub no_tick : (file tick : List ℕ) → ((n : ℕ) → n ≤ 2 ^ 62 → tick ≢ decimal n) → NoCommand (codes "vcdat" ∷ file ∷ tick ∷ [])
no_tick file tick none (dump_at v k) s = none k s.1 (cc s.0)
no_tick file tick none c s = absurd (cc s.0)

-- a reaction is counted from 1
pub reaction_zero : (d i until limit reaction : List ℕ) (k : ℕ) → reaction ≡ decimal k → k ≡ 0 → NoCommand (codes "save" ∷ d ∷ i ∷ until ∷ limit ∷ reaction ∷ [])
reaction_zero d i until limit reaction k is none (save e j t n l) s =
    let same : decimal k ≡ decimal l = cc (is, s.0) in
    let number : k ≡ l = decimal_injective k l (omega (arith, none)) (omega (arith, s.1.3)) same in
    absurd (omega (arith, number, none, s.1.2))
reaction_zero d i until limit reaction k is none c s = absurd (cc s.0)

-- ---- one command

same_report : (r q : Report) → report_word r ≡ report_word q → r ≡ q
same_report Check Check h = refl
same_report Map Map h = refl
same_report Schedule Schedule h = refl
same_report Check Map h = absurd (cc h)
same_report Check Schedule h = absurd (cc h)
same_report Map Check h = absurd (cc h)
same_report Map Schedule h = absurd (cc h)
same_report Schedule Check h = absurd (cc h)
same_report Schedule Map h = absurd (cc h)

report_not_code : (r : Report) → report_word r ≡ codes "ccode" → ⊥
report_not_code Check h =
    let second : 104 ≡ 99 = ap (λ (l : List ℕ). get_or l 1 0) h in
    absurd (omega (arith, second))
report_not_code Map h = absurd (cc h)
report_not_code Schedule h = absurd (cc h)

same_numbers : (t t' n n' : ℕ) → t < 2 ^ 64 → t' < 2 ^ 64 → n < 2 ^ 64 → n' < 2 ^ 64 → decimal t ≡ decimal t' → decimal n ≡ decimal n' → (t ≡ t') × (n ≡ n')
same_numbers t t' n n' ht ht' hn hn' dates counts = (decimal_injective t t' ht ht' dates, decimal_injective n n' hn hn' counts)

pub same_command : (c d : Request) → InBounds c → InBounds d → spelled c ≡ spelled d → c ≡ d
same_command (report r d) (report q e) p o h =
    let words : report_word r ≡ report_word q = cc h in
    let files : d ≡ e = cc h in
    cc (same_report r q words, files)
same_command (simulate d i t n) (simulate d' i' t' n') p q h =
    let numbers = same_numbers t t' n n' (omega (arith, p.0)) (omega (arith, q.0)) (omega (arith, p.1)) (omega (arith, q.1)) (cc h) (cc h) in
    cc (h, numbers.0, numbers.1)
same_command (judge d i v t n) (judge d' i' v' t' n') p q h =
    let numbers = same_numbers t t' n n' (omega (arith, p.0)) (omega (arith, q.0)) (omega (arith, p.1)) (omega (arith, q.1)) (cc h) (cc h) in
    cc (h, numbers.0, numbers.1)
same_command (save d i t n k) (save d' i' t' n' k') p q h =
    let numbers = same_numbers t t' n n' (omega (arith, p.0)) (omega (arith, q.0)) (omega (arith, p.1)) (omega (arith, q.1)) (cc h) (cc h) in
    let reaction = decimal_injective k k' (omega (arith, p.3)) (omega (arith, q.3)) (cc h) in
    cc (h, numbers.0, numbers.1, reaction)
same_command (resume d i s t n) (resume d' i' s' t' n') p q h =
    let numbers = same_numbers t t' n n' (omega (arith, p.0)) (omega (arith, q.0)) (omega (arith, p.1)) (omega (arith, q.1)) (cc h) (cc h) in
    cc (h, numbers.0, numbers.1)
same_command (run_c d i t n) (run_c d' i' t' n') p q h =
    let numbers = same_numbers t t' n n' (omega (arith, p.0)) (omega (arith, q.0)) (omega (arith, p.1)) (omega (arith, q.1)) (cc h) (cc h) in
    cc (h, numbers.0, numbers.1)
same_command (code d) (code e) p q h = cc h
same_command (report r d) (code e) p q h =
    let word : report_word r ≡ codes "ccode" = cc h in
    absurd (report_not_code r word)
same_command (code d) (report r e) p q h =
    let word : report_word r ≡ codes "ccode" = cc h in
    absurd (report_not_code r word)
same_command host host p q h = refl
same_command (bulk x n) (bulk y m) p q h =
    let numbers = same_numbers x y n m (omega (arith, p.0)) (omega (arith, q.0)) (omega (arith, p.2)) (omega (arith, q.2)) (cc h) (cc h) in
    cc (numbers.0, numbers.1)
same_command (dump d i t n) (dump d' i' t' n') p q h =
    let numbers = same_numbers t t' n n' (omega (arith, p.0)) (omega (arith, q.0)) (omega (arith, p.1)) (omega (arith, q.1)) (cc h) (cc h) in
    cc (h, numbers.0, numbers.1)
same_command (dump_at v t) (dump_at w u) p q h =
    let tick = decimal_injective t u (omega (arith, p)) (omega (arith, q)) (cc h) in
    cc (h, tick)
same_command c d p q h = absurd (cc h)
