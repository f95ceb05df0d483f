-- The keys that come to the legs of a cell.
use Rattle.std.proofs.Common.{◌≡◌, ◌∙◌, refl, sym, ap, subst, ℕ, Bool, true, false, cond, ◌&&◌, ◌==◌, List, [], ◌∷◌, map, filter, Option, Some, option_map, arith}
use Rattle.std.proofs.lemmas.Bool.{and_parts}
use Rattle.histories.specs.Words.{In, here, there, or_else}
use Rattle.histories.proofs.Lists.{equal, equal_if, filtered}
use Rattle.relay_outside.specs.declared.settings.Config.{Config}
use Rattle.sdes_lines.specs.declared.crypto_line.Suite.{Suite}
use Rattle.sdes_lines.specs.declared.crypto_line.Suite.TheVariants.{Tag80, Tag32}
use Rattle.port_pool.specs.declared.holder.Holder.{Holder}
use Rattle.port_pool.specs.declared.holder.Side.{Side}
use Rattle.port_pool.specs.declared.holder.Side.TheVariants.{A, B}
use Rattle.port_pool.specs.Signals.{NewKey, side_eq}
use Rattle.offer_answer.specs.Keys.{is_for, key_among}
use Rattle.call_cell.specs.Shapes.{CellLegShape, with_key_number, key_number_at, with_key_numbers}
use Rattle.call_shapes.specs.Agreement.{IsLegOf, stands_on}

-- Places.

pub side_itself : (side : Side) → side_eq side side ≡ true
side_itself A = refl
side_itself B = refl

pub side_turned : (a b : Side) → side_eq a b ≡ side_eq b a
side_turned A A = refl
side_turned A B = refl
side_turned B A = refl
side_turned B B = refl

pub side_if : (a b : Side) → side_eq a b ≡ true → a ≡ b
side_if A A e = refl
side_if B B e = refl
side_if A B e = absurd (let f = e in cc)
side_if B A e = absurd (let f = e in cc)

section_turned : (a b : ℕ) → (a == b) ≡ (b == a)
section_turned a b = by (a == b) refl
  where
    by : (c : Bool) → (a == b) ≡ c → (a == b) ≡ (b == a)
    by true e = e ∙ sym (equal b a (sym (equal_if a b e)))
    by false e = grind arith

-- the leg stands where the key is for
abbrev takes : ℕ → Side → CellLegShape → Bool
takes section side leg = (section == leg.holder.section) && side_eq side leg.holder.side

takes_on : (section : ℕ) (side : Side) (leg : CellLegShape) → takes section side leg ≡ stands_on section side leg
takes_on section side leg =
    ap (λ b. b && side_eq side leg.holder.side) (section_turned section leg.holder.section)
    ∙ ap (λ b. (leg.holder.section == section) && b) (side_turned side leg.holder.side)

-- A key changes nothing else of a leg.

holder_stays : (suite : Suite) (number : Option ℕ) (leg : CellLegShape) → (with_key_number suite number leg).holder ≡ leg.holder
holder_stays Tag80 number leg = refl
holder_stays Tag32 number leg = refl

on_stays : (section : ℕ) (side : Side) (suite : Suite) (number : Option ℕ) (leg : CellLegShape)
    → stands_on section side (with_key_number suite number leg) ≡ stands_on section side leg
on_stays section side suite number leg = ap (λ (h : Holder). (h.section == section) && side_eq h.side side) (holder_stays suite number leg)

leg_stays : (config : Config) (cell call : ℕ) (suite : Suite) (number : Option ℕ) (leg : CellLegShape)
    → IsLegOf config cell call leg → IsLegOf config cell call (with_key_number suite number leg)
leg_stays config cell call Tag80 number leg is =
    record { cell_is = is.cell_is; call_is = is.call_is; section = is.section; pair = is.pair; lease_is = is.lease_is; has_ends = is.has_ends }
leg_stays config cell call Tag32 number leg is =
    record { cell_is = is.cell_is; call_is = is.call_is; section = is.section; pair = is.pair; lease_is = is.lease_is; has_ends = is.has_ends }

-- Nor of the list.

one_holders : (section : ℕ) (side : Side) (suite : Suite) (number : Option ℕ) (legs : List CellLegShape)
    → map (λ (leg : CellLegShape). leg.holder) (key_number_at section side suite number legs) ≡ map (λ (leg : CellLegShape). leg.holder) legs
one_holders section side suite number [] = refl
one_holders section side suite number (leg ∷ legs) = by (one_holders section side suite number legs) (takes section side leg)
  where
    by : map (λ (leg : CellLegShape). leg.holder) (key_number_at section side suite number legs) ≡ map (λ (leg : CellLegShape). leg.holder) legs
        → (b : Bool) → map (λ (leg : CellLegShape). leg.holder) (cond b (with_key_number suite number leg ∷ legs) (leg ∷ key_number_at section side suite number legs))
        ≡ leg.holder ∷ map (λ (leg : CellLegShape). leg.holder) legs
    by rest true = ap (λ (h : Holder). h ∷ map (λ (leg : CellLegShape). leg.holder) legs) (holder_stays suite number leg)
    by rest false = ap (λ (l : List Holder). leg.holder ∷ l) rest

pub same_holders : (keys : List NewKey) (legs : List CellLegShape)
    → map (λ (leg : CellLegShape). leg.holder) (with_key_numbers keys legs) ≡ map (λ (leg : CellLegShape). leg.holder) legs
same_holders [] legs = refl
same_holders (key ∷ keys) legs = one_holders key.section key.side key.suite (Some key.number) (with_key_numbers keys legs) ∙ same_holders keys legs

one_legs : (config : Config) (cell call section : ℕ) (side : Side) (suite : Suite) (number : Option ℕ) (legs : List CellLegShape)
    → ((leg : CellLegShape) → In leg legs → IsLegOf config cell call leg)
    → (leg : CellLegShape) → In leg (key_number_at section side suite number legs) → IsLegOf config cell call leg
one_legs config cell call section side suite number [] are x i = elim i [ ]
one_legs config cell call section side suite number (leg ∷ legs) are x i =
    by (one_legs config cell call section side suite number legs (λ y j. are y (there j)) x) (takes section side leg) i
  where
    by : (In x (key_number_at section side suite number legs) → IsLegOf config cell call x)
        → (b : Bool) → In x (cond b (with_key_number suite number leg ∷ legs) (leg ∷ key_number_at section side suite number legs)) → IsLegOf config cell call x
    by rest true (here e) = subst (λ (l : CellLegShape). IsLegOf config cell call l) (sym e) (leg_stays config cell call suite number leg (are leg (here refl)))
    by rest true (there j) = are x (there j)
    by rest false (here e) = are x (here e)
    by rest false (there j) = rest j

pub same_legs : (config : Config) (cell call : ℕ) (keys : List NewKey) (legs : List CellLegShape)
    → ((leg : CellLegShape) → In leg legs → IsLegOf config cell call leg)
    → (leg : CellLegShape) → In leg (with_key_numbers keys legs) → IsLegOf config cell call leg
same_legs config cell call [] legs are = are
same_legs config cell call (key ∷ keys) legs are =
    one_legs config cell call key.section key.side key.suite (Some key.number) (with_key_numbers keys legs) (same_legs config cell call keys legs are)

-- The leg of a place.

-- a key that is for the place comes to the first leg there
at_place : (section : ℕ) (side : Side) (suite : Suite) (number : Option ℕ) (legs : List CellLegShape)
    → filter (stands_on section side) (key_number_at section side suite number legs) ≡ key_number_at section side suite number (filter (stands_on section side) legs)
at_place section side suite number [] = refl
at_place section side suite number (leg ∷ legs) = by (at_place section side suite number legs) (stands_on section side leg) refl
  where
    new : CellLegShape
    new = with_key_number suite number leg

    others : List CellLegShape
    others = filter (stands_on section side) legs

    by : filter (stands_on section side) (key_number_at section side suite number legs) ≡ key_number_at section side suite number others
        → (b : Bool) → stands_on section side leg ≡ b
        → filter (stands_on section side) (cond (takes section side leg) (new ∷ legs) (leg ∷ key_number_at section side suite number legs))
        ≡ key_number_at section side suite number (cond (stands_on section side leg) (leg ∷ others) others)
    by rest true e =
        ap (λ b. filter (stands_on section side) (cond b (new ∷ legs) (leg ∷ key_number_at section side suite number legs))) (takes_on section side leg ∙ e)
        ∙ ap (λ b. cond b (new ∷ others) others) (on_stays section side suite number leg ∙ e)
        ∙ sym (ap (λ b. cond b (new ∷ others) (leg ∷ key_number_at section side suite number others)) (takes_on section side leg ∙ e))
        ∙ sym (ap (λ b. key_number_at section side suite number (cond b (leg ∷ others) others)) e)
    by rest false e =
        ap (λ b. filter (stands_on section side) (cond b (new ∷ legs) (leg ∷ key_number_at section side suite number legs))) (takes_on section side leg ∙ e)
        ∙ ap (λ b. cond b (leg ∷ filter (stands_on section side) (key_number_at section side suite number legs)) (filter (stands_on section side) (key_number_at section side suite number legs))) e
        ∙ rest
        ∙ sym (ap (λ b. key_number_at section side suite number (cond b (leg ∷ others) others)) e)

-- one that is for another leaves it
elsewhere : (section section_there : ℕ) (side side_there : Side) (suite : Suite) (number : Option ℕ) (legs : List CellLegShape)
    → ((section == section_there) && side_eq side side_there) ≡ false
    → filter (stands_on section_there side_there) (key_number_at section side suite number legs) ≡ filter (stands_on section_there side_there) legs
elsewhere section section_there side side_there suite number [] other = refl
elsewhere section section_there side side_there suite number (leg ∷ legs) other =
    by (elsewhere section section_there side side_there suite number legs other) (takes section side leg) refl
  where
    new : CellLegShape
    new = with_key_number suite number leg

    others : List CellLegShape
    others = filter (stands_on section_there side_there) legs

    apart : takes section side leg ≡ true → stands_on section_there side_there leg ≡ false
    apart e =
        let both = and_parts (section == leg.holder.section) (side_eq side leg.holder.side) e in
        ap (λ n. (n == section_there) && side_eq leg.holder.side side_there) (sym (equal_if section leg.holder.section both.0))
        ∙ ap (λ s. (section == section_there) && side_eq s side_there) (sym (side_if side leg.holder.side both.1))
        ∙ other

    by : filter (stands_on section_there side_there) (key_number_at section side suite number legs) ≡ others → (b : Bool) → takes section side leg ≡ b
        → filter (stands_on section_there side_there) (cond b (new ∷ legs) (leg ∷ key_number_at section side suite number legs))
        ≡ cond (stands_on section_there side_there leg) (leg ∷ others) others
    by rest true e =
        ap (λ b. cond b (new ∷ others) others) (on_stays section_there side_there suite number leg ∙ apart e)
        ∙ sym (ap (λ b. cond b (leg ∷ others) others) (apart e))
    by rest false e = ap (λ l. cond (stands_on section_there side_there leg) (leg ∷ l) l) rest

-- the leg with those of these keys that are its own, of two for one suite the former
abbrev pub numbered : List NewKey → CellLegShape → CellLegShape
numbered keys leg = record leg {
  tag80 = or_else (option_map (λ (key : NewKey). key.number) (key_among keys Tag80)) leg.tag80;
  tag32 = or_else (option_map (λ (key : NewKey). key.number) (key_among keys Tag32)) leg.tag32;
}

one_more : (suite : Suite) (key : NewKey) (keys : List NewKey) (leg : CellLegShape) → key.suite ≡ suite
    → with_key_number suite (Some key.number) (numbered keys leg) ≡ numbered (key ∷ keys) leg
one_more Tag80 key keys leg e = rw e refl
one_more Tag32 key keys leg e = rw e refl

abbrev its : ℕ → Side → List NewKey → List NewKey
its section side keys = filter (is_for section side) keys

-- where just one leg stands, the keys that are for it come to it
pub found_one : (section : ℕ) (side : Side) (keys : List NewKey) (legs : List CellLegShape) (leg : CellLegShape)
    → filter (stands_on section side) legs ≡ leg ∷ []
    → filter (stands_on section side) (with_key_numbers keys legs) ≡ numbered (filter (is_for section side) keys) leg ∷ []
found_one section side [] legs leg is = is
found_one section side (key ∷ keys) legs leg is = by (found_one section side keys legs leg is) (is_for section side key) refl
  where
    before : List CellLegShape
    before = with_key_numbers keys legs

    stands : stands_on section side leg ≡ true
    stands = (filtered (stands_on section side) legs (subst (λ (l : List CellLegShape). In leg l) (sym is) (here refl))).1

    by : filter (stands_on section side) before ≡ numbered (its section side keys) leg ∷ [] → (b : Bool) → is_for section side key ≡ b
        → filter (stands_on section side) (key_number_at key.section key.side key.suite (Some key.number) before)
        ≡ numbered (cond b (key ∷ its section side keys) (its section side keys)) leg ∷ []
    by rest true e =
        let both = and_parts (key.section == section) (side_eq key.side side) e in
        let after = numbered (its section side keys) leg in
        ap (λ n. filter (stands_on section side) (key_number_at n key.side key.suite (Some key.number) before)) (equal_if key.section section both.0)
        ∙ ap (λ s. filter (stands_on section side) (key_number_at section s key.suite (Some key.number) before)) (side_if key.side side both.1)
        ∙ at_place section side key.suite (Some key.number) before
        ∙ ap (key_number_at section side key.suite (Some key.number)) rest
        ∙ ap (λ b. cond b (with_key_number key.suite (Some key.number) after ∷ []) (after ∷ [])) (takes_on section side after ∙ stands)
        ∙ ap (λ l. l ∷ []) (one_more key.suite key (its section side keys) leg refl)
    by rest false e = elsewhere key.section section key.side side key.suite (Some key.number) before e ∙ rest

-- where none stands, none comes
pub found_none : (section : ℕ) (side : Side) (keys : List NewKey) (legs : List CellLegShape)
    → filter (stands_on section side) legs ≡ [] → filter (stands_on section side) (with_key_numbers keys legs) ≡ []
found_none section side [] legs is = is
found_none section side (key ∷ keys) legs is = by (found_none section side keys legs is) (is_for section side key) refl
  where
    before : List CellLegShape
    before = with_key_numbers keys legs

    by : filter (stands_on section side) before ≡ [] → (b : Bool) → is_for section side key ≡ b
        → filter (stands_on section side) (key_number_at key.section key.side key.suite (Some key.number) before) ≡ []
    by rest true e =
        let both = and_parts (key.section == section) (side_eq key.side side) e in
        ap (λ n. filter (stands_on section side) (key_number_at n key.side key.suite (Some key.number) before)) (equal_if key.section section both.0)
        ∙ ap (λ s. filter (stands_on section side) (key_number_at section s key.suite (Some key.number) before)) (side_if key.side side both.1)
        ∙ at_place section side key.suite (Some key.number) before
        ∙ ap (key_number_at section side key.suite (Some key.number)) rest
    by rest false e = elsewhere key.section section key.side side key.suite (Some key.number) before e ∙ rest
