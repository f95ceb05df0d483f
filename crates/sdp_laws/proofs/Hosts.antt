-- An address that is written is read as itself.
use Rattle.std.proofs.Common.{◌≡◌, ℕ, ◌+◌, ◌-◌, ◌*◌, ◌/◌, ◌%◌, ◌<◌, cond, true, List, [], ◌∷◌, ◌++◌, length, take, drop, replicate, map, All, Some, codes, refl, sym, ap, ◌∙◌, arith, append_assoc, inl, inr, length-append, length-take, length-drop, take-append-drop, drop-drop, ◌≢◌}
use Rattle.std.specs.Option.{option_map}
use Rattle.std.proofs.lemmas.Bool.{cases_lt, lt-ltb, le-ltb}
use Rattle.std.proofs.lemmas.List.Elements.{All-take, All-drop}
use Rattle.sdp_text.proofs.GroupLists.{groups_of_pieces}
use Rattle.sdp_text.proofs.JoinLemmas.{joined_is, tail_of, longest_within}
use Rattle.sdp_text.specs.Hosts.{host_of, text_of, all_some, exactly, octet, octet_text, group, group_text, groups, joined_groups, groups_of_bytes, bytes_of_groups, filled_up, eight_groups, eight_groups_around, around_run, longest_run}
use Rattle.sdp_text.specs.declared.host.Host.{Host}
use Rattle.sdp_text.specs.declared.host.Host.TheVariants.{V4, V6}
use Rattle.sdp_laws.specs.Addresses.{AreZeros, IsAddress, family_word}
use Rattle.sdp_laws.proofs.Colons.{found_between, none_in_groups}
use Rattle.sdp_laws.proofs.Digits.{free, octet_read, octet_free, group_read, group_free, group_some}
use Rattle.sdp_laws.proofs.Each.{Each, each, each_weaker, all}
use Rattle.sdp_laws.proofs.Joined.{pieces_of_joined, all_free, all_read, exactly_whole}
use Rattle.sdp_laws.proofs.Runs.{longest_is}

v4_read : (bytes : List ℕ) → length bytes ≡ 4 → Each (λ b. b < 256) bytes → host_of (codes "IP4") (text_of (V4 bytes)) ≡ Some (V4 bytes)
v4_read [] four small = absurd (let no : 0 ≡ 4 = four in omega arith)
v4_read (b ∷ bs) four small =
    let frees = all_free 46 octet_text (b ∷ bs) (each_weaker (λ x. x < 256) (λ x. free 46 (octet_text x) ≡ true) octet_free (b ∷ bs) small) in
    let reads = all_read octet octet_text (b ∷ bs) (each_weaker (λ x. x < 256) (λ x. octet (octet_text x) ≡ Some x) octet_read (b ∷ bs) small) in
    ap (λ ps. option_map V4 (exactly 4 (all_some (map octet ps)))) (pieces_of_joined 46 (octet_text b) (map octet_text bs) frees)
    ∙ ap (λ o. option_map V4 (exactly 4 o)) reads
    ∙ ap (option_map V4) (exactly_whole 4 (b ∷ bs) four)

not_empty : (g : ℕ) (gs : List ℕ) → g < 65536 → length (joined_groups (g ∷ gs)) ≢ 0
not_empty g gs small none =
    omega (arith, ap length (joined_is 58 group_text g gs), length-append (group_text g) (tail_of 58 group_text gs), group_some g small, none)

groups_read : (gs : List ℕ) → Each (λ g. g < 65536) gs → groups (joined_groups gs) ≡ Some gs
groups_read [] small = refl
groups_read (g ∷ gs) small =
    let frees = all_free 58 group_text (g ∷ gs) (each_weaker (λ x. x < 65536) (λ x. free 58 (group_text x) ≡ true) group_free (g ∷ gs) small) in
    let reads = all_read group group_text (g ∷ gs) (each_weaker (λ x. x < 65536) (λ x. group (group_text x) ≡ Some x) group_read (g ∷ gs) small) in
    groups_of_pieces (joined_groups (g ∷ gs)) (not_empty g gs small.0)
    ∙ ap (λ ps. all_some (map group ps)) (pieces_of_joined 58 (group_text g) (map group_text gs) frees)
    ∙ reads

-- a list is what stands before a run of zeros, the run, and what stands after it
around_zeros : (gs : List ℕ) (start count : ℕ) → AreZeros gs start count → take start gs ++ replicate count 0 ++ drop (start + count) gs ≡ gs
around_zeros gs start count run =
    ap (λ z. take start gs ++ z ++ drop (start + count) gs) (sym run)
    ∙ ap (λ t. take start gs ++ take count (drop start gs) ++ t) (sym (drop-drop count start gs))
    ∙ append_assoc (take start gs) (take count (drop start gs)) (drop count (drop start gs))
    ∙ ap (λ t. take start gs ++ t) (take-append-drop count (drop start gs))
    ∙ take-append-drop start gs

filled_run : (left right gs : List ℕ) (count : ℕ) → 0 < count → length left + length right + count ≡ 8 → left ++ replicate count 0 ++ right ≡ gs → filled_up (Some left) (Some right) ≡ Some gs
filled_run left right gs count some whole e =
    let n : 8 - (length left + length right) ≡ count = omega arith in
    rw (lt-ltb (length left + length right) 8 (omega arith)) (ap (λ k. Some (left ++ replicate k 0 ++ right)) n ∙ ap Some e)

eight_read : (gs : List ℕ) → length gs ≡ 8 → All (λ g. g < 65536) gs → eight_groups (around_run gs (longest_run 0 gs)) ≡ Some gs
eight_read gs eight small =
    let run = longest_run 0 gs in
    let zeros = (longest_is gs).zeros in
    let within = longest_within 0 gs in
    let left = take run.start gs in
    let right = drop (run.start + run.count) gs in
    elim (cases_lt 1 run.count) [
      | inl long ↦
          let text = joined_groups left ++ (58 ∷ 58 ∷ []) ++ joined_groups right in
          let smaller = each (λ g. g < 65536) left (All-take (λ g. g < 65536) run.start gs small) in
          let smaller2 = each (λ g. g < 65536) right (All-drop (λ g. g < 65536) (run.start + run.count) gs small) in
          ap (λ t. eight_groups (cond t text (joined_groups gs))) (lt-ltb 1 run.count long)
          ∙ ap (eight_groups_around text) (found_between left right smaller)
          ∙ ap (λ o. filled_up o (groups (joined_groups right))) (groups_read left smaller)
          ∙ ap (filled_up (Some left)) (groups_read right smaller2)
          ∙ filled_run left right gs run.count (omega arith) (omega (arith, length-take run.start gs, length-drop (run.start + run.count) gs)) (around_zeros gs run.start run.count zeros)
      | inr short ↦
          let smaller = each (λ g. g < 65536) gs small in
          ap (λ t. eight_groups (cond t (joined_groups left ++ (58 ∷ 58 ∷ []) ++ joined_groups right) (joined_groups gs))) (le-ltb 1 run.count short)
          ∙ ap (eight_groups_around (joined_groups gs)) (none_in_groups gs smaller)
          ∙ ap (exactly 8) (groups_read gs smaller)
          ∙ exactly_whole 8 gs eight
    ]

bytes_back : (bytes : List ℕ) (n : ℕ) → length bytes ≡ 2 * n → Each (λ b. b < 256) bytes → bytes_of_groups (groups_of_bytes bytes) ≡ bytes
bytes_back [] n e small = refl
bytes_back (a ∷ []) n e small = absurd (let no : 1 ≡ 2 * n = e in omega arith)
bytes_back (a ∷ b ∷ more) n e small =
    let low : b < 256 = small.1.0 in
    let rest = bytes_back more (n - 1) (let m : length more ≡ 2 * (n - 1) = omega (arith, e) in m) small.1.1 in
    ap (λ x. x ∷ (256 * a + b) % 256 ∷ bytes_of_groups (groups_of_bytes more)) (let h : (256 * a + b) / 256 ≡ a = omega arith in h)
    ∙ ap (λ x. a ∷ x ∷ bytes_of_groups (groups_of_bytes more)) (let l : (256 * a + b) % 256 ≡ b = omega arith in l)
    ∙ ap (λ l. a ∷ b ∷ l) rest

groups_small : (bytes : List ℕ) → Each (λ b. b < 256) bytes → Each (λ g. g < 65536) (groups_of_bytes bytes)
groups_small [] small = tt
groups_small (a ∷ []) small = tt
groups_small (a ∷ b ∷ more) small =
    let high : a < 256 = small.0 in
    let low : b < 256 = small.1.0 in
    (omega arith, groups_small more small.1.1)

groups_count : (bytes : List ℕ) (n : ℕ) → length bytes ≡ 2 * n → length (groups_of_bytes bytes) ≡ n
groups_count [] n e = let none : 0 ≡ 2 * n = e in omega arith
groups_count (a ∷ []) n e = absurd (let no : 1 ≡ 2 * n = e in omega arith)
groups_count (a ∷ b ∷ more) n e =
    let rest = groups_count more (n - 1) (let m : length more ≡ 2 * (n - 1) = omega (arith, e) in m) in
    omega (arith, e)

v6_read : (bytes : List ℕ) → length bytes ≡ 16 → Each (λ b. b < 256) bytes → host_of (codes "IP6") (text_of (V6 bytes)) ≡ Some (V6 bytes)
v6_read bytes whole small =
    let gs = groups_of_bytes bytes in
    let read = eight_read gs (groups_count bytes 8 whole) (all (λ g. g < 65536) gs (groups_small bytes small)) in
    ap (option_map (λ x. V6 (bytes_of_groups x))) read ∙ ap (λ b. Some (V6 b)) (bytes_back bytes 8 whole small)

pub address_read : (h : Host) → IsAddress h → host_of (family_word h) (text_of h) ≡ Some h
address_read (V4 bytes) a = v4_read bytes a.count (each (λ b. b < 256) bytes a.each)
address_read (V6 bytes) a = v6_read bytes a.count (each (λ b. b < 256) bytes a.each)
