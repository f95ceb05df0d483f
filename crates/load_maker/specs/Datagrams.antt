-- The datagrams of the control protocol that make the calls of a load, by their numbers from 0: of each call its offer, and then its answer.
use Rattle.std.specs.Prelude.{ℕ, zero, suc, ◌+◌, ◌%◌, ◌/◌, ◌==◌, nat_eq, Bool, true, false, Option, Some, None, List, [], ◌∷◌, ◌++◌, codes, decimal}
use Rattle.std.specs.List.{starts_with}
use Rattle.relay_outside.specs.declared.address.Addr.{Addr}
use Rattle.relay_outside.specs.declared.address.Ip.TheVariants as ip
use Rattle.ng_bencode.specs.Tree.{Tree}
use Rattle.ng_bencode.specs.Spells.{spelling}
use Rattle.ng_frame.specs.Frame.{frame}
use Rattle.load_maker.specs.Calls.{offer_body, answer_body}

-- the call that the datagram is of
abbrev pub call_at : ℕ → ℕ
call_at number = number / 2 + 1

abbrev pub is_offer_turn : ℕ → Bool
is_offer_turn number = number % 2 == 0

-- of the calls with an even number, side B's media are protected
abbrev pub is_protected_call : ℕ → Bool
is_protected_call call = call % 2 == 0

-- an offer's begins with an o, an answer's with an a
abbrev pub mark_of : Bool → List ℕ
mark_of true = codes "o"
mark_of false = codes "a"

abbrev pub cookie_of : ℕ → List ℕ
cookie_of number = mark_of (is_offer_turn number) ++ decimal (call_at number)

abbrev pub body_by : Bool → ℕ → Tree
body_by true call = offer_body call (is_protected_call call)
body_by false call = answer_body call (is_protected_call call)

abbrev pub body_of : ℕ → Tree
body_of number = body_by (is_offer_turn number) (call_at number)

-- the cookie, a space, the body
abbrev pub datagram_with : ℕ → List ℕ
datagram_with number = cookie_of number ++ 32 ∷ spelling (body_of number)

-- where they all come from
abbrev pub controller : Addr
controller = record { ip = ip.V4 (127 ∷ 0 ∷ 0 ∷ 1 ∷ []); port = 2224 }

-- the first so many, in order, each with its source
unfoldable pub first_datagrams : ℕ → List (Addr × List ℕ)
first_datagrams zero = []
first_datagrams (suc number) = first_datagrams number ++ (controller, datagram_with number) ∷ []

-- a reply, by its frame, whose body begins as that of a success does
abbrev pub has_succeeded : Option (List ℕ × List ℕ) → Bool
has_succeeded None = false
has_succeeded (Some parts) = starts_with nat_eq parts.1 (codes "d6:result2:ok")

abbrev pub is_success : List ℕ → Bool
is_success reply = has_succeeded (frame reply)
