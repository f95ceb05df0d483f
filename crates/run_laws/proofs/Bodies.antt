-- What the datagrams of a load ask: each is an offer or an answer by its text, and so none is a delete.
use Rattle.std.proofs.Common.{◌≡◌, ◌∙◌, refl, sym, ap, subst, ℕ, zero, suc, ◌+◌, ◌/◌, ◌%◌, ◌<◌, ◌^◌, ◌==◌, true, false, cond, Bool, List, [], ◌∷◌, ◌++◌, Option, None, Some, length, get_or, decimal, codes, Result, Ok, Err, arith}
use Rattle.std.specs.Option.{option_map}
use Rattle.std.specs.Fmt.{digits, digits_onto, digit_glyph}
use Rattle.relay_outside.specs.declared.settings.Config.{Config}
use Rattle.ng_bencode.specs.Fits.{IsFreeOf}
use Rattle.ng_bencode.specs.Spells.{Spells, spelling, IntsFit}
use Rattle.ng_bencode.specs.Tree.{Tree, Int, Bytes, Items, Dict, Entries, depth}
use Rattle.ng_bencode.proofs.Fitting.{spells_fits, tree_fits}
use Rattle.ng_bencode.proofs.Numbers.{same_front, free_append}
use Rattle.ng_bencode.proofs.OneWay.{one_way}
use Rattle.ng_frame.specs.Frame.{frame}
use Rattle.ng_frame.proofs.Framed.{frame_real}
use Rattle.ng_command.specs.Effects.{command_kind}
use Rattle.ng_command.specs.Faults.{fault_of}
use Rattle.ng_command.specs.Bodies.{kind_or_fault, kind_named, or_fault, said_of_kind, said_or_fault}
use Rattle.ng_command.specs.Meanings.{Said, Delete, meaning}
use Rattle.ng_command.specs.Values.{text_at}
use Rattle.ng_command.specs.declared.fault.CommandFault.{CommandFault}
use Rattle.ng_reply.specs.declared.code.ErrorCode.{ErrorCode}
use Rattle.call_board.specs.Requests.{ReadsIn, ReadsBody, or_code, command_in, description_error, unless, asked_by, asked}
use Rattle.call_board.specs.Dialects.{is_json}
use Rattle.load_maker.specs.Calls.{offer_body}
use Rattle.load_maker.specs.Datagrams.{call_at, is_offer_turn, is_protected_call, mark_of, cookie_of, body_by, body_of, datagram_with}

-- No cookie of a load has a space.

not_glyph : (low : Bool) (d : ℕ) → cond low (48 + d) (87 + d) ≡ 32 → ⊥
not_glyph true d e = omega (arith, e)
not_glyph false d e = omega (arith, e)

either_free : (last : Bool) (front more : List ℕ) → IsFreeOf 32 front → IsFreeOf 32 more → IsFreeOf 32 (cond last front more)
either_free true front more one other = one
either_free false front more one other = other

free_onto : (k n : ℕ) (front : List ℕ) → IsFreeOf 32 front → IsFreeOf 32 (digits_onto k 10 false n front)
free_onto zero n front free = free
free_onto (suc k) n front free =
    let more : IsFreeOf 32 (digit_glyph false (n % 10) ∷ front) = (not_glyph _ (n % 10), free) in
    either_free (n / 10 == 0) (digit_glyph false (n % 10) ∷ front) _ more (free_onto k (n / 10) (digit_glyph false (n % 10) ∷ front) more)

free_decimal : (n : ℕ) → IsFreeOf 32 (decimal n)
unfolding digits
free_decimal n = free_onto 64 n [] tt

free_mark : (offer : Bool) → IsFreeOf 32 (mark_of offer)
free_mark true = (λ e. omega (arith, e), tt)
free_mark false = (λ e. omega (arith, e), tt)

free_cookie : (number : ℕ) → IsFreeOf 32 (cookie_of number)
free_cookie number =
    free_append 32 (mark_of (is_offer_turn number)) (decimal (call_at number)) (free_mark (is_offer_turn number)) (free_decimal (call_at number))

free_all : (bytes : List ℕ) → ((k d : ℕ) → k < length bytes → get_or bytes k d ≡ 32 → ⊥) → IsFreeOf 32 bytes
free_all [] none = tt
free_all (byte ∷ bytes) none = (λ e. none 0 0 (omega arith) e, free_all bytes (λ k d below e. none (suc k) d (omega arith) e))

-- so its frame is the one that it is made of
pub framed_body : (number : ℕ) (parts : List ℕ × List ℕ) → frame (datagram_with number) ≡ Some parts → parts.1 ≡ spelling (body_of number)
framed_body number parts is =
    let real = frame_real (datagram_with number) parts.0 parts.1 is in
    (same_front 32 parts.0 (cookie_of number) parts.1 (spelling (body_of number)) (free_all parts.0 real.no_space) (free_cookie number) (sym real.bytes)).1

-- The tree of a body.

offer_ints : (call : ℕ) (protected : Bool) → IntsFit (offer_body call protected)
offer_ints call true = (tt, (tt, (tt, (tt, (tt, tt)))))
offer_ints call false = (tt, (tt, (tt, (tt, tt))))

ints_by : (offer : Bool) (call : ℕ) → IntsFit (body_by offer call)
ints_by true call = offer_ints call (is_protected_call call)
ints_by false call = (tt, (tt, (tt, (tt, (tt, tt)))))

offer_depth : (call : ℕ) (protected : Bool) → depth (offer_body call protected) ≡ 1
offer_depth call true = refl
offer_depth call false = refl

depth_by : (offer : Bool) (call : ℕ) → depth (body_by offer call) ≡ 1
depth_by true call = offer_depth call (is_protected_call call)
depth_by false call = refl

read_body : (number : ℕ) (pairs : Entries) → length (spelling (body_of number)) < 2 ^ 64 → Spells (spelling (body_of number)) (Dict pairs) → Dict pairs ≡ body_of number
read_body number pairs short spells =
    (one_way 16 16 (Dict pairs) (body_of number) [] [] (spells_fits (spelling (body_of number)) (Dict pairs) spells short)
    (tree_fits 16 (body_of number) (ints_by (is_offer_turn number) (call_at number)) (omega (arith, depth_by (is_offer_turn number) (call_at number))) short)
    (ap (λ (text : List ℕ). text ++ []) (sym spells.spelled))).0

-- The command of a body.

-- a command that ends no call, at once or later
abbrev pub EndsNothing : Said → Type 0
EndsNothing (Delete id tag fatal seconds) = ⊥
EndsNothing _ = Unit {0}

-- and what asks none, or is refused
abbrev pub AsksNoEnd : {E : Type 0} → Result Said E → Type 0
AsksNoEnd (Ok says) = EndsNothing says
AsksNoEnd (Err cause) = Unit {0}

-- the command that a tree names
abbrev named_in : Tree → Option (List ℕ)
named_in (Dict pairs) = text_at pairs (codes "command")
named_in (Int z) = None
named_in (Bytes text) = None
named_in (Items items) = None

offer_named : (call : ℕ) (protected : Bool) → named_in (offer_body call protected) ≡ Some (codes "offer")
offer_named call true = refl
offer_named call false = refl

-- what a command of a kind that may be none would say
abbrev SaysNoEnd : Option Said → Type 0
SaysNoEnd None = Unit {0}
SaysNoEnd (Some says) = EndsNothing says

fault_so : (fault : Option CommandFault) (says : Said) → EndsNothing says → AsksNoEnd (or_fault fault says)
fault_so (Some fault) says none = tt
fault_so None says none = none

kind_so : (kind : _) (pairs : Entries) → SaysNoEnd (option_map (λ k. meaning k pairs) kind) → AsksNoEnd (said_of_kind (kind_or_fault kind) pairs)
kind_so None pairs none = tt
kind_so (Some kind) pairs none = fault_so (fault_of kind pairs) (meaning kind pairs) none

told_so : (name : List ℕ) (pairs : Entries) → named_in (Dict pairs) ≡ Some name → SaysNoEnd (option_map (λ k. meaning k pairs) (command_kind name)) → AsksNoEnd (said_or_fault pairs)
told_so name pairs is none =
    subst (λ (named : Option (List ℕ)). AsksNoEnd (said_of_kind (kind_named named) pairs)) (sym is) (kind_so (command_kind name) pairs none)

told_by_body : (offer : Bool) (call : ℕ) (pairs : Entries) → Dict pairs ≡ body_by offer call → AsksNoEnd (said_or_fault pairs)
told_by_body true call pairs is = told_so (codes "offer") pairs (ap named_in is ∙ offer_named call (is_protected_call call)) tt
told_by_body false call pairs is = told_so (codes "answer") pairs (ap named_in is) tt

unless_so : (error : Option ErrorCode) (says : Said) → EndsNothing says → AsksNoEnd (unless error says)
unless_so None says none = none
unless_so (Some code) says none = tt

asked_so : (config : Config) (named : Result Said ErrorCode) → AsksNoEnd named → AsksNoEnd (asked_by config named)
asked_so config (Err code) none = tt
asked_so config (Ok says) none = unless_so (description_error config says) says none

or_code_so : (read : Result Said CommandFault) → AsksNoEnd read → AsksNoEnd (or_code read)
or_code_so (Ok says) none = none
or_code_so (Err cause) none = tt

command_so : (long : Bool) (pairs : Option Entries) → (long ≡ false → (some : Entries) → pairs ≡ Some some → AsksNoEnd (said_or_fault some)) → AsksNoEnd (command_in long pairs)
command_so true pairs none = tt
command_so false None none = tt
command_so false (Some pairs) none = or_code_so (said_or_fault pairs) (none refl pairs refl)

asked_none : (config : Config) (long : Bool) (pairs : Option Entries) → (long ≡ false → (some : Entries) → pairs ≡ Some some → AsksNoEnd (said_or_fault some))
    → AsksNoEnd (asked config long pairs)
unfolding asked
asked_none config long pairs none = asked_so config (command_in long pairs) (command_so long pairs none)

in_bencode : (offer : Bool) (call : ℕ) → is_json (spelling (body_by offer call)) ≡ false
in_bencode true call = refl
in_bencode false call = refl

-- what is read of a body of a load asks for no end of a call
pub asks_no_end : (config : Config) (number : ℕ) (body : List ℕ) (long : Bool) (pairs : Option Entries) → body ≡ spelling (body_of number)
    → (long ≡ false → length body < 2 ^ 64) → (long ≡ false → ReadsBody body pairs) → AsksNoEnd (asked config long pairs)
asks_no_end config number body long pairs is short reads = asked_none config long pairs by_pairs
  where
    by_pairs : long ≡ false → (some : Entries) → pairs ≡ Some some → AsksNoEnd (said_or_fault some)
    by_pairs fits some of_pairs =
        let read : ReadsBody body (Some some) = subst (λ (p : Option Entries). ReadsBody body p) of_pairs (reads fits) in
        let spelled : ReadsBody (spelling (body_of number)) (Some some) = subst (λ (text : List ℕ). ReadsBody text (Some some)) is read in
        let spells : Spells (spelling (body_of number)) (Dict some) =
        subst (λ (json : Bool). ReadsIn json (spelling (body_of number)) (Some some)) (in_bencode (is_offer_turn number) (call_at number)) spelled in
        let small : length (spelling (body_of number)) < 2 ^ 64 = subst (λ (text : List ℕ). length text < 2 ^ 64) is (short fits) in
        told_by_body (is_offer_turn number) (call_at number) some (read_body number some small spells)
