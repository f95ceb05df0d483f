-- The description of a command is no longer than the body that says it.
use Rattle.std.proofs.Common.{◌≡◌, ◌≤◌, ℕ, Bool, true, false, List, [], ◌∷◌, length, Option, Some, None, Result, Ok, Err, ap, arith}
use Rattle.std.proofs.lemmas.List.{length-append}
use Rattle.ng_bencode.specs.Tree.{Dict, Entries}
use Rattle.ng_bencode.specs.Spells.{spelling, entry_spellings}
use Rattle.ng_command.specs.Meanings.{Said, Ping, Offer, Answer, Delete, Query, Listing}
use Rattle.ng_command.specs.Bodies.{said_or_fault}
use Rattle.ng_command.specs.declared.fault.CommandFault.{CommandFault}
use Rattle.ng_command.proofs.Sizes.{told_within, PairsAreShort, told_at_most}
use Rattle.call_board.specs.Dialects.{is_json, SaysIn}
use Rattle.call_board.specs.Requests.{ReadsBody, or_code, command_in}
use Rattle.control_messages.specs.Bodies.{description_in}
use Rattle.control_messages.proofs.Strings.{says_short}

described : (pairs : Entries) (says : Said) → said_or_fault pairs ≡ Ok says → length (description_in says) ≤ length (entry_spellings pairs)
described pairs Ping e = omega arith
described pairs (Offer call_id from_tag sdp options) e = told_within pairs (Offer call_id from_tag sdp options) e
described pairs (Answer call_id from_tag to_tag sdp options) e = told_within pairs (Answer call_id from_tag to_tag sdp options) e
described pairs (Delete call_id from_tag fatal seconds) e = omega arith
described pairs (Query call_id) e = omega arith
described pairs (Listing limit) e = omega arith

told_back : (r : Result Said CommandFault) (says : Said) → or_code r ≡ Ok says → r ≡ Ok says
told_back (Ok other) says e = let f = e in cc
told_back (Err fault) says e = absurd (let f = e in cc)

described_at_most : (n : ℕ) (pairs : Entries) (says : Said) → PairsAreShort n pairs → said_or_fault pairs ≡ Ok says → length (description_in says) ≤ n
described_at_most n pairs Ping h e = omega arith
described_at_most n pairs (Offer call_id from_tag sdp options) h e = told_at_most n pairs (Offer call_id from_tag sdp options) h e
described_at_most n pairs (Answer call_id from_tag to_tag sdp options) h e = told_at_most n pairs (Answer call_id from_tag to_tag sdp options) h e
described_at_most n pairs (Delete call_id from_tag fatal seconds) h e = omega arith
described_at_most n pairs (Query call_id) h e = omega arith
described_at_most n pairs (Listing limit) h e = omega arith

-- the description of a body's command is no longer than the body
pub description_small : (body : List ℕ) (pairs : Option Entries) (says : Said) → ReadsBody body pairs → command_in false pairs ≡ Ok says →
    length (description_in says) ≤ length body
description_small body None says reads e = absurd (let f = e in cc)
description_small body (Some pairs) says reads e = by (is_json body) reads
  where
    is_told : said_or_fault pairs ≡ Ok says
    is_told = told_back (said_or_fault pairs) says e

    by : (in_json : Bool) → SaysIn in_json body (Dict pairs) → length (description_in says) ≤ length body
    by false spells =
        let whole : length body ≡ length (spelling (Dict pairs)) = ap (λ (b : List ℕ). length b) spells.spelled in
        omega (arith, whole, length-append (entry_spellings pairs) (101 ∷ []), described pairs says is_told)
    by true is = described_at_most (length body) pairs says (says_short body (Dict pairs) is) is_told
