-- The bodies of offer and answer, as the pairs that were put one after the other.
use Rattle.std.proofs.Common.{◌≡◌, ℕ, Bool, List, codes, refl}
use Rattle.ng_bencode.specs.Tree.{Tree, Bytes, Entries, Dict, no_entries}
use Rattle.ng_reply.specs.Pairs.{with_pair}
use Rattle.load_maker.specs.Calls.{call_id, side_a_sdp, answered_sdp, with_profile, offer_body, answer_body}

pub offer_is : (none first second third fourth all : Entries) (tree : Tree) (id sdp : List ℕ) (call : ℕ) (protected : Bool)
    → none ≡ no_entries → id ≡ call_id call → sdp ≡ side_a_sdp call
    → first ≡ with_pair none (codes "call-id") (Bytes id) → second ≡ with_pair first (codes "command") (Bytes (codes "offer"))
    → third ≡ with_pair second (codes "from-tag") (Bytes (codes "a")) → fourth ≡ with_pair third (codes "sdp") (Bytes sdp)
    → all ≡ with_profile fourth protected → tree ≡ Dict all → tree ≡ offer_body call protected
offer_is none first second third fourth all tree id sdp call protected z i s a b c d e t = rw (t, e, d, c, b, a, z, i, s) refl

pub answer_is : (none first second third fourth all : Entries) (tree : Tree) (id sdp : List ℕ) (call : ℕ) (protected : Bool)
    → none ≡ no_entries → id ≡ call_id call → sdp ≡ answered_sdp call protected
    → first ≡ with_pair none (codes "call-id") (Bytes id) → second ≡ with_pair first (codes "command") (Bytes (codes "answer"))
    → third ≡ with_pair second (codes "from-tag") (Bytes (codes "a")) → fourth ≡ with_pair third (codes "sdp") (Bytes sdp)
    → all ≡ with_pair fourth (codes "to-tag") (Bytes (codes "b")) → tree ≡ Dict all → tree ≡ answer_body call protected
answer_is none first second third fourth all tree id sdp call protected z i s a b c d e t = rw (t, e, d, c, b, a, z, i, s) refl
