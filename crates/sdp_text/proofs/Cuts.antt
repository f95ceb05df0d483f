-- A text cut at its first stop.
use Rattle.std.proofs.Common.{◌≡◌, ℕ, ◌+◌, ◌-◌, ◌<◌, ◌≤◌, eqb, cond, true, List, [], ◌∷◌, length, take, drop, Option, Some, None, refl, sym, ap, ◌∙◌, arith}
use Rattle.std.proofs.lemmas.List.{take_rest}
use Rattle.std.proofs.lemmas.List.Splits.{slice_split_first, slice_split_none, length-slice_split}
use Rattle.std.proofs.lemmas.List.Sums.{fails_before_first}
use Rattle.std.specs.List.{position_or_len}
use Rattle.std.specs.Option.{option_copied, option_map, IfSome}
use Rattle.std.specs.Borrow.{Bor}
use Rattle.std.proofs.lemmas.Bool.{ne_eqb, false≢true}
use Rattle.sdp_text.specs.Pieces.{pieces, pieces_after, fields, are_filled, port_number}
use Rattle.sdp_text.specs.Hosts.{all_some, exactly, octet, ipv4_bytes}
use Rattle.sdp_text.specs.Roles.{three, media_port, media_port_pieces, rtcp, rtcp_fields, with_port, with_rest, with_address}
use Rattle.std.proofs.Common.{map, is_some}

pub cut_here : (stop : ℕ) (text : List ℕ) (at : ℕ) → at ≡ position_or_len (λ b. eqb b stop) text → at < length text → pieces stop text ≡ take at text ∷ pieces stop (take (length text - (at + 1)) (drop (at + 1) text))
cut_here stop text at e h =
    let within : position_or_len (λ b. eqb b stop) text < length text = omega arith in
    rw (take_rest text (at + 1), e) (slice_split_first (λ b. eqb b stop) text 0 within)

pub cut_nowhere : (stop : ℕ) (text : List ℕ) (at : ℕ) → at ≡ position_or_len (λ b. eqb b stop) text → length text ≤ at → pieces stop text ≡ text ∷ []
cut_nowhere stop text at e h = slice_split_none (λ b. eqb b stop) text (λ k d inside. fails_before_first (λ b. eqb b stop) text k d (omega arith))

-- how many fields there are after n others, where none is empty
abbrev pub counted : ℕ → List (List ℕ) → Option ℕ
counted n texts = cond (are_filled texts) (Some (n + length texts)) None

-- there is always a first piece
pieces_open_at : (ps : List (List ℕ)) → 0 < length ps → (first : List ℕ) × (more : List (List ℕ)) × (ps ≡ first ∷ more)
pieces_open_at [] h = absurd (omega arith)
pieces_open_at (first ∷ more) h = (first, more, refl)

pub pieces_open : (stop : ℕ) (text : List ℕ) → (first : List ℕ) × (more : List (List ℕ)) × (pieces stop text ≡ first ∷ more)
pieces_open stop text = pieces_open_at (pieces stop text) (omega (arith, length-slice_split (λ b. eqb b stop) text))

-- what a cut says where something follows, and where nothing does
pub cut_on : (stop : ℕ) (text first : List ℕ) (after : Option (Bor (List ℕ))) (rest : Bor (List ℕ)) → pieces stop text ≡ first ∷ pieces_after stop (option_copied after) → after ≡ Some rest → pieces stop text ≡ first ∷ pieces stop rest.now
cut_on stop text first after rest e s = e ∙ ap (λ o. first ∷ pieces_after stop (option_copied o)) s

pub three_long : (a b c rest : List ℕ) → three (a ∷ b ∷ c ∷ pieces 32 rest) ≡ None
three_long a b c rest = let o = pieces_open 32 rest in ap (λ ps. three (a ∷ b ∷ c ∷ ps)) o.2

pub count_long : (a b rest : List ℕ) → media_port_pieces (a ∷ b ∷ pieces 47 rest) ≡ None
count_long a b rest = let o = pieces_open 47 rest in ap (λ ps. media_port_pieces (a ∷ b ∷ ps)) o.2

some_filled : (x : ℕ) (o : Option (List ℕ)) → IfSome (option_map (λ xs. x ∷ xs) o) (λ ys. 0 < length ys)
some_filled x None = tt
some_filled x (Some ys) = omega arith

all_some_filled : (o : Option ℕ) (os : List (Option ℕ)) → IfSome (all_some (o ∷ os)) (λ ys. 0 < length ys)
all_some_filled None os = tt
all_some_filled (Some x) os = some_filled x (all_some os)

after_four : (a b c d : ℕ) (o : Option (List ℕ)) → IfSome o (λ ys. 0 < length ys) → exactly 4 (option_map (λ xs. a ∷ xs) (option_map (λ xs. b ∷ xs) (option_map (λ xs. c ∷ xs) (option_map (λ xs. d ∷ xs) o)))) ≡ None
after_four a b c d None h = refl
after_four a b c d (Some ys) h = rw (ne_eqb (length (a ∷ b ∷ c ∷ d ∷ ys)) 4 (λ e. omega arith)) refl

pub ipv4_long : (text p1 p2 p3 p4 rest : List ℕ) (a b c d : ℕ) → pieces 46 text ≡ p1 ∷ p2 ∷ p3 ∷ p4 ∷ pieces 46 rest → octet p1 ≡ Some a → octet p2 ≡ Some b → octet p3 ≡ Some c → octet p4 ≡ Some d → ipv4_bytes text ≡ None
ipv4_long text p1 p2 p3 p4 rest a b c d e oa ob oc od =
    let o = pieces_open 46 rest in
    let all : pieces 46 text ≡ p1 ∷ p2 ∷ p3 ∷ p4 ∷ o.0 ∷ o.1 = e ∙ ap (λ ps. p1 ∷ p2 ∷ p3 ∷ p4 ∷ ps) o.2 in
    ap (λ ps. exactly 4 (all_some (map octet ps))) all
    ∙ ap (λ x. exactly 4 (all_some (x ∷ octet p2 ∷ octet p3 ∷ octet p4 ∷ octet o.0 ∷ map octet o.1))) oa
    ∙ ap (λ x. exactly 4 (option_map (λ xs. a ∷ xs) (all_some (x ∷ octet p3 ∷ octet p4 ∷ octet o.0 ∷ map octet o.1)))) ob
    ∙ ap (λ x. exactly 4 (option_map (λ xs. a ∷ xs) (option_map (λ xs. b ∷ xs) (all_some (x ∷ octet p4 ∷ octet o.0 ∷ map octet o.1))))) oc
    ∙ ap (λ x. exactly 4 (option_map (λ xs. a ∷ xs) (option_map (λ xs. b ∷ xs) (option_map (λ xs. c ∷ xs) (all_some (x ∷ octet o.0 ∷ map octet o.1)))))) od
    ∙ after_four a b c d (all_some (octet o.0 ∷ map octet o.1)) (all_some_filled (octet o.0) (map octet o.1))

is_some_open : (r : Option (Bor (List ℕ))) → is_some r ≡ true → (x : Bor (List ℕ)) × (r ≡ Some x)
is_some_open None e = absurd (false≢true e)
is_some_open (Some x) e = (x, refl)

-- a fourth field
pub three_cut : (text a b c : List ℕ) (r1 r2 r3 : Option (Bor (List ℕ))) (x y : Bor (List ℕ)) → pieces 32 text ≡ a ∷ pieces_after 32 (option_copied r1) → r1 ≡ Some x → pieces 32 x.now ≡ b ∷ pieces_after 32 (option_copied r2) → r2 ≡ Some y → pieces 32 y.now ≡ c ∷ pieces_after 32 (option_copied r3) → is_some r3 ≡ true → three (fields text) ≡ None
three_cut text a b c r1 r2 r3 x y e1 s1 e2 s2 e3 more =
    let z = is_some_open r3 more in
    let first = cut_on 32 text a r1 x e1 s1 in
    let second = cut_on 32 x.now b r2 y e2 s2 in
    let third = cut_on 32 y.now c r3 z.0 e3 z.1 in
    ap three (first ∙ ap (λ ps. a ∷ ps) (second ∙ ap (λ ps. b ∷ ps) third)) ∙ three_long a b c z.0.now

-- a third piece
pub count_cut : (field a b : List ℕ) (r1 r2 : Option (Bor (List ℕ))) (x : Bor (List ℕ)) → pieces 47 field ≡ a ∷ pieces_after 47 (option_copied r1) → r1 ≡ Some x → pieces 47 x.now ≡ b ∷ pieces_after 47 (option_copied r2) → is_some r2 ≡ true → media_port field ≡ None
count_cut field a b r1 r2 x e1 s1 e2 more =
    let z = is_some_open r2 more in
    let first = cut_on 47 field a r1 x e1 s1 in
    let second = cut_on 47 x.now b r2 z.0 e2 z.1 in
    ap media_port_pieces (first ∙ ap (λ ps. a ∷ ps) second) ∙ count_long a b z.0.now

-- what follows the port of an `a=rtcp` line
pub rtcp_cut : (text first : List ℕ) (r : Option (Bor (List ℕ))) (x : Bor (List ℕ)) (port : ℕ) → pieces 32 text ≡ first ∷ pieces_after 32 (option_copied r) → r ≡ Some x → port_number first ≡ Some port → (port ≡ 0 → ⊥) → rtcp text ≡ with_address port (three (fields x.now))
rtcp_cut text first r x port e s number some =
    let o = pieces_open 32 x.now in
    ap rtcp_fields (cut_on 32 text first r x e s) ∙ ap (λ n. with_port n (fields x.now)) number ∙ ap (λ b. cond b None (with_rest port (fields x.now))) (ne_eqb port 0 some) ∙ ap (with_rest port) o.2 ∙ ap (λ ps. with_address port (three ps)) (sym o.2)
