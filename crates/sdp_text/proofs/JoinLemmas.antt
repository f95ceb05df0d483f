-- Texts joined by a byte, and how long they are.
use Rattle.std.proofs.Common.{◌≡◌, ℕ, ◌+◌, ◌-◌, ◌*◌, ◌<◌, ◌≤◌, eqb, ltb, leb, cond, true, false, Bool, inl, inr, ◌/◌, ◌%◌, List, [], ◌∷◌, ◌++◌, length, take, drop, get_or, map, sym, ap, ◌∙◌, subst, arith, append_assoc, append-nil, length-append, length-take, length-drop}
use Rattle.std.specs.List.{join_with_byte, flat_map, prefix_len}
use Rattle.std.proofs.lemmas.List.{drop_more, take_all}
use Rattle.std.proofs.lemmas.List.Sums.{prefix_len-le-length}
use Rattle.std.proofs.lemmas.Bool.{cases_lt, le-ltb, lt-ltb}
use Rattle.sdp_text.specs.Hosts.{joined_groups, group_text, octet_text, digit_from, digit_byte, groups_of_bytes, longest_run, longer, around_run}
use Rattle.sdp_text.specs.declared.written.Run.{Run}

-- the texts after the first one, each after the byte
abbrev pub tail_of : ℕ → (ℕ → List ℕ) → List ℕ → List ℕ
tail_of stop text xs = flat_map (λ x. stop ∷ text x) xs

pub joined_is : (stop : ℕ) (text : ℕ → List ℕ) (x : ℕ) (xs : List ℕ) → join_with_byte stop (map text (x ∷ xs)) ≡ text x ++ tail_of stop text xs
joined_is stop text x [] = sym (append-nil (text x))
joined_is stop text x (y ∷ ys) = ap (λ more. text x ++ (stop ∷ more)) (joined_is stop text y ys)

-- each text has at most `most` bytes: with the byte before it, one more
pub tail_short : (stop most : ℕ) (text : ℕ → List ℕ) → ((x : ℕ) → length (text x) ≤ most) → (xs : List ℕ) → length (tail_of stop text xs) ≤ (most + 1) * length xs
tail_short stop most text short [] = omega arith
tail_short stop most text short (x ∷ xs) =
    let rest = tail_short stop most text short xs in
    let this = short x in
    omega (arith, length-append (stop ∷ text x) (tail_of stop text xs))

pub joined_short : (stop most : ℕ) (text : ℕ → List ℕ) → ((x : ℕ) → length (text x) ≤ most) → (xs : List ℕ) → length (join_with_byte stop (map text xs)) ≤ (most + 1) * length xs - 1
joined_short stop most text short [] = omega arith
joined_short stop most text short (x ∷ xs) =
    let rest = tail_short stop most text short xs in
    let this = short x in
    omega (arith, ap length (joined_is stop text x xs), length-append (text x) (tail_of stop text xs))

digit_short_by : (b : Bool) (byte : ℕ) → length (cond b (byte ∷ []) []) ≤ 1
digit_short_by true byte = omega arith
digit_short_by false byte = omega arith

digit_short : (least n digit : ℕ) → length (digit_from least n digit) ≤ 1
digit_short least n digit = digit_short_by (leb least n) (digit_byte digit)

four_short : (a b c d : List ℕ) → length a ≤ 1 → length b ≤ 1 → length c ≤ 1 → length d ≤ 1 → length (a ++ b ++ c ++ d) ≤ 4
four_short a b c d ha hb hc hd = simp length-append (omega arith)

three_short : (a b c : List ℕ) → length a ≤ 1 → length b ≤ 1 → length c ≤ 1 → length (a ++ b ++ c) ≤ 3
three_short a b c ha hb hc = simp length-append (omega arith)

pub group_short : (n : ℕ) → length (group_text n) ≤ 4
group_short n = four_short (digit_from 4096 n (n / 4096)) (digit_from 256 n (n / 256 % 16)) (digit_from 16 n (n / 16 % 16)) (digit_byte (n % 16) ∷ []) (digit_short 4096 n (n / 4096)) (digit_short 256 n (n / 256 % 16)) (digit_short 16 n (n / 16 % 16)) (let one : 1 ≤ 1 = omega arith in one)

pub octet_short : (n : ℕ) → length (octet_text n) ≤ 3
octet_short n = three_short (digit_from 100 n (n / 100)) (digit_from 10 n (n / 10 % 10)) (digit_byte (n % 10) ∷ []) (digit_short 100 n (n / 100)) (digit_short 10 n (n / 10 % 10)) (let one : 1 ≤ 1 = omega arith in one)

pub octets_short : (bytes : List ℕ) → length bytes ≡ 4 → length (join_with_byte 46 (map octet_text bytes)) ≤ 15
octets_short bytes e = omega (arith, joined_short 46 3 octet_text octet_short bytes)

groups_short : (gs : List ℕ) → length (joined_groups gs) ≤ 5 * length gs - 1
groups_short gs = joined_short 58 4 group_text group_short gs

-- an IPv6 text has at most 39 bytes
pub around_short : (gs : List ℕ) (run : Run) → length gs ≡ 8 → run.start + run.count ≤ 8 → length (around_run gs run) ≤ 39
around_short gs run e within = elim (cases_lt 1 run.count) [
  | inl h ↦ rw (lt-ltb 1 run.count h) (
      let a = groups_short (take run.start gs) in
      let b = groups_short (drop (run.start + run.count) gs) in
      simp length-append (omega (arith, length-take run.start gs, length-drop (run.start + run.count) gs)))
  | inr h ↦ rw (le-ltb 1 run.count h) (omega (arith, groups_short gs))
]

-- one more pair of bytes
pub pair_more : (bytes : List ℕ) (i : ℕ) → 2 * i + 1 < length bytes → groups_of_bytes (drop (2 * i) bytes) ≡ (256 * get_or bytes (2 * i) 0 + get_or bytes (2 * i + 1) 0) ∷ groups_of_bytes (drop (2 * (i + 1)) bytes)
pair_more bytes i h =
    let first = drop_more bytes (2 * i) 0 (omega arith) in
    let second = drop_more bytes (2 * i + 1) 0 h in
    let same : (2 * i + 1) + 1 ≡ 2 * (i + 1) = omega arith in
    ap groups_of_bytes (first ∙ ap (λ x. get_or bytes (2 * i) 0 ∷ x) (second ∙ ap (λ n. get_or bytes (2 * i + 1) 0 ∷ drop n bytes) same))

pub pairs_are : (bytes gs : List ℕ) (i : ℕ) → 2 * i + 1 < length bytes → gs ++ groups_of_bytes (drop (2 * i) bytes) ≡ groups_of_bytes bytes → (gs ++ (256 * get_or bytes (2 * i) 0 + get_or bytes (2 * i + 1) 0) ∷ []) ++ groups_of_bytes (drop (2 * (i + 1)) bytes) ≡ groups_of_bytes bytes
pairs_are bytes gs i h known = append_assoc gs (_ ∷ []) (groups_of_bytes (drop (2 * (i + 1)) bytes)) ∙ ap (λ x. gs ++ x) (sym (pair_more bytes i h)) ∙ known

-- one more group from the end on
back_one : (gs : List ℕ) (i : ℕ) → 0 < i → i ≤ length gs → drop (i - 1) gs ≡ get_or gs (i - 1) 0 ∷ drop i gs
back_one gs i some within = drop_more gs (i - 1) 0 (omega arith) ∙ ap (λ n. get_or gs (i - 1) 0 ∷ drop n gs) (let e : (i - 1) + 1 ≡ i = omega arith in e)

pub zeros_more : (gs : List ℕ) (i behind z : ℕ) → 0 < i → i ≤ length gs → behind ≡ prefix_len (λ x. eqb x 0) (drop i gs) → z ≡ cond (eqb (get_or gs (i - 1) 0) 0) (1 + behind) 0 → z ≡ prefix_len (λ x. eqb x 0) (drop (i - 1) gs)
zeros_more gs i behind z some within e ez = ez ∙ ap (λ n. cond (eqb (get_or gs (i - 1) 0) 0) (1 + n) 0) e ∙ ap (prefix_len (λ x. eqb x 0)) (sym (back_one gs i some within))

pub longest_more : (gs : List ℕ) (i z : ℕ) (longest : Run) → 0 < i → i ≤ length gs → z ≡ prefix_len (λ x. eqb x 0) (drop (i - 1) gs) → longest ≡ longest_run i (drop i gs) → longer (record { start = i - 1; count = z }) longest ≡ longest_run (i - 1) (drop (i - 1) gs)
longest_more gs i z longest some within ez e =
    let back = back_one gs i some within in
    let zs : z ≡ prefix_len (λ x. eqb x 0) (get_or gs (i - 1) 0 ∷ drop i gs) = ez ∙ ap (prefix_len (λ x. eqb x 0)) back in
    let place : longest ≡ longest_run ((i - 1) + 1) (drop i gs) = e ∙ ap (λ n. longest_run n (drop i gs)) (let f : i ≡ (i - 1) + 1 = omega arith in f) in
    ap (λ n. longer (record { start = i - 1; count = n }) longest) zs
    ∙ ap (longer (record { start = i - 1; count = prefix_len (λ x. eqb x 0) (get_or gs (i - 1) 0 ∷ drop i gs) })) place
    ∙ ap (longest_run (i - 1)) (sym back)

longer_within : (a b : Run) (n : ℕ) → a.start + a.count ≤ n → b.start + b.count ≤ n → (longer a b).start + (longer a b).count ≤ n
longer_within a b n ha hb = elim (ltb a.count b.count) as (λ t. (cond t b a).start + (cond t b a).count ≤ n) [ true ↦ hb | false ↦ ha ]

-- the longest run lies within the groups
pub longest_within : (place : ℕ) (gs : List ℕ) → (longest_run place gs).start + (longest_run place gs).count ≤ place + length gs
longest_within place [] = omega arith
longest_within place (g ∷ gs) =
    let here = prefix_len-le-length (λ x. eqb x 0) (g ∷ gs) in
    let rest = longest_within (place + 1) gs in
    longer_within (record { start = place; count = prefix_len (λ x. eqb x 0) (g ∷ gs) }) (longest_run (place + 1) gs) (place + length (g ∷ gs)) (omega arith) (omega arith)

pub zeros_within : (gs : List ℕ) (i z : ℕ) → i ≤ length gs → z ≡ prefix_len (λ x. eqb x 0) (drop i gs) → i + z ≤ length gs
zeros_within gs i z within e = omega (arith, prefix_len-le-length (λ x. eqb x 0) (drop i gs), length-drop i gs)

pub run_within : (gs : List ℕ) (i : ℕ) (run : Run) → i ≤ length gs → run ≡ longest_run i (drop i gs) → run.start + run.count ≤ length gs
run_within gs i run within e = subst (λ (r : Run). r.start + r.count ≤ length gs) (sym e) (omega (arith, longest_within i (drop i gs), length-drop i gs))

pub joined_end : (stop : ℕ) (text : ℕ → List ℕ) (old first out : List ℕ) (x : ℕ) (xs all : List ℕ) (n : ℕ) → all ≡ x ∷ xs → first ≡ old ++ text x → out ≡ first ++ tail_of stop text (take n xs) → length xs ≤ n → out ≡ old ++ join_with_byte stop (map text all)
joined_end stop text old first out x xs all n whole begun written done =
    written ∙ ap (λ k. first ++ tail_of stop text k) (take_all n xs done) ∙ ap (λ f. f ++ tail_of stop text xs) begun ∙ append_assoc old (text x) (tail_of stop text xs) ∙ ap (λ t. old ++ t) (sym (joined_is stop text x xs)) ∙ ap (λ a. old ++ join_with_byte stop (map text a)) (sym whole)
