-- The description of a command is no longer than the dictionary that says it, nor than its longest byte string.
use Rattle.std.proofs.Common.{◌≡◌, ◌+◌, ◌≤◌, ℕ, Bool, true, false, List, [], ◌∷◌, ◌++◌, length, Option, Some, None, Result, Ok, Err, refl, ap, subst, if◌then◌else◌, unwrap_or, decimal, arith}
use Rattle.std.specs.Prelude.{codes, ⊤}
use Rattle.std.proofs.lemmas.List.{length-append}
use Rattle.ng_bencode.specs.Tree.{Tree, Int, Bytes, Items, Dict, Trees, no_items, item, Entries, no_entries, entry}
use Rattle.ng_bencode.specs.Lookup.{value_at, is_same_key}
use Rattle.ng_bencode.specs.Spells.{string, spelling, entry_spellings}
use Rattle.ng_command.specs.Values.{string_of, text_at}
use Rattle.ng_command.specs.Meanings.{Said, Ping, Offer, Answer, Delete, Query, Listing, text_in, meaning}
use Rattle.ng_command.specs.Faults.{fault_of}
use Rattle.ng_command.specs.Bodies.{kind_named, or_fault, said_of_kind, said_or_fault}
use Rattle.ng_command.specs.declared.kind.Kind.{Kind}
use Rattle.ng_command.specs.declared.kind.Kind.TheVariants as kinds
use Rattle.ng_command.specs.declared.fault.CommandFault.{CommandFault}

-- the description of an offer or an answer
abbrev pub sdp_in : Said → List ℕ
sdp_in Ping = []
sdp_in (Offer call_id from_tag sdp options) = sdp
sdp_in (Answer call_id from_tag to_tag sdp options) = sdp
sdp_in (Delete call_id from_tag fatal delay) = []
sdp_in (Query call_id) = []
sdp_in (Listing limit) = []

text_short : (tree : Tree) (text : List ℕ) → string_of (Some tree) ≡ Some text → length text ≤ length (spelling tree)
text_short (Int z) text e = absurd (cc)
text_short (Bytes bytes) text e =
    let same : bytes ≡ text = cc in
    omega (arith, ap (λ (t : List ℕ). length t) same, length-append (decimal (length bytes)) (58 ∷ bytes))
text_short (Items items) text e = absurd (cc)
text_short (Dict pairs) text e = absurd (cc)

entry_length : (name : List ℕ) (tree : Tree) (rest : Entries) →
    length (entry_spellings (entry name tree rest)) ≡ length (string name) + (length (spelling tree) + length (entry_spellings rest))
entry_length name tree rest =
    omega (arith, length-append (string name) (spelling tree ++ entry_spellings rest), length-append (spelling tree) (entry_spellings rest))

-- a byte string under a key is no longer than the pairs
pub text_within : (pairs : Entries) (key text : List ℕ) → text_at pairs key ≡ Some text → length text ≤ length (entry_spellings pairs)
text_within no_entries key text e = absurd (cc)
text_within (entry name tree rest) key text e =
    elim (is_same_key name key) as (λ (b : Bool). string_of (if b then Some tree else value_at rest key) ≡ Some text → length text ≤ length (entry_spellings (entry name tree rest))) [
      | true ↦ λ h. omega (arith, text_short tree text h, entry_length name tree rest)
      | false ↦ λ h. omega (arith, text_within rest key text h, entry_length name tree rest)
    ] e

within : (pairs : Entries) (key : List ℕ) → length (text_in pairs key) ≤ length (entry_spellings pairs)
within pairs key = go (text_at pairs key) refl
  where
    go : (o : Option (List ℕ)) → text_at pairs key ≡ o → length (unwrap_or o []) ≤ length (entry_spellings pairs)
    go None e = omega arith
    go (Some text) e = text_within pairs key text e

meant : (kind : Kind) (pairs : Entries) → length (sdp_in (meaning kind pairs)) ≤ length (entry_spellings pairs)
meant kinds.Ping pairs = omega arith
meant kinds.Offer pairs = within pairs (codes "sdp")
meant kinds.Answer pairs = within pairs (codes "sdp")
meant kinds.Delete pairs = omega arith
meant kinds.Query pairs = omega arith
meant kinds.List pairs = omega arith

-- the description that a dictionary tells is no longer than its pairs
pub told_within : (pairs : Entries) (says : Said) → said_or_fault pairs ≡ Ok says → length (sdp_in says) ≤ length (entry_spellings pairs)
told_within pairs says e = go (kind_named (text_at pairs (codes "command"))) e
  where
    on : (kind : Kind) (fault : Option CommandFault) → or_fault fault (meaning kind pairs) ≡ Ok says → length (sdp_in says) ≤ length (entry_spellings pairs)
    on kind (Some fault) h = absurd (cc)
    on kind None h = let same : meaning kind pairs ≡ says = cc in subst (λ (s : Said). length (sdp_in s) ≤ length (entry_spellings pairs)) same (meant kind pairs)

    go : (named : Result Kind CommandFault) → said_of_kind named pairs ≡ Ok says → length (sdp_in says) ≤ length (entry_spellings pairs)
    go (Err fault) h = absurd (cc)
    go (Ok kind) h = on kind (fault_of kind pairs) h

-- each byte string of the value, its keys apart, has at most n bytes
abbrev mutual
  pub TreeIsShort : ℕ → Tree → Type 0
  TreeIsShort n (Int z) = ⊤
  TreeIsShort n (Bytes bytes) = length bytes ≤ n
  TreeIsShort n (Items ts) = TreesAreShort n ts
  TreeIsShort n (Dict pairs) = PairsAreShort n pairs

  pub TreesAreShort : ℕ → Trees → Type 0
  TreesAreShort n no_items = ⊤
  TreesAreShort n (item t ts) = TreeIsShort n t × TreesAreShort n ts

  pub PairsAreShort : ℕ → Entries → Type 0
  PairsAreShort n no_entries = ⊤
  PairsAreShort n (entry key t rest) = TreeIsShort n t × PairsAreShort n rest

text_at_most : (n : ℕ) (tree : Tree) (text : List ℕ) → TreeIsShort n tree → string_of (Some tree) ≡ Some text → length text ≤ n
text_at_most n (Int z) text h e = absurd (cc)
text_at_most n (Bytes bytes) text h e =
    let same : bytes ≡ text = cc in
    omega (arith, h, ap (λ (t : List ℕ). length t) same)
text_at_most n (Items items) text h e = absurd (cc)
text_at_most n (Dict pairs) text h e = absurd (cc)

found_at_most : (n : ℕ) (pairs : Entries) (key text : List ℕ) → PairsAreShort n pairs → text_at pairs key ≡ Some text → length text ≤ n
found_at_most n no_entries key text h e = absurd (cc)
found_at_most n (entry name tree rest) key text h e =
    elim (is_same_key name key) as (λ (b : Bool). string_of (if b then Some tree else value_at rest key) ≡ Some text → length text ≤ n) [
      | true ↦ λ k. text_at_most n tree text h.0 k
      | false ↦ λ k. found_at_most n rest key text h.1 k
    ] e

at_most : (n : ℕ) (pairs : Entries) (key : List ℕ) → PairsAreShort n pairs → length (text_in pairs key) ≤ n
at_most n pairs key h = go (text_at pairs key) refl
  where
    go : (o : Option (List ℕ)) → text_at pairs key ≡ o → length (unwrap_or o []) ≤ n
    go None e = omega arith
    go (Some text) e = found_at_most n pairs key text h e

meant_at_most : (n : ℕ) (kind : Kind) (pairs : Entries) → PairsAreShort n pairs → length (sdp_in (meaning kind pairs)) ≤ n
meant_at_most n kinds.Ping pairs h = omega arith
meant_at_most n kinds.Offer pairs h = at_most n pairs (codes "sdp") h
meant_at_most n kinds.Answer pairs h = at_most n pairs (codes "sdp") h
meant_at_most n kinds.Delete pairs h = omega arith
meant_at_most n kinds.Query pairs h = omega arith
meant_at_most n kinds.List pairs h = omega arith

-- nor than the longest byte string of the dictionary
pub told_at_most : (n : ℕ) (pairs : Entries) (says : Said) → PairsAreShort n pairs → said_or_fault pairs ≡ Ok says → length (sdp_in says) ≤ n
told_at_most n pairs says h e = go (kind_named (text_at pairs (codes "command"))) e
  where
    on : (kind : Kind) (fault : Option CommandFault) → or_fault fault (meaning kind pairs) ≡ Ok says → length (sdp_in says) ≤ n
    on kind (Some fault) k = absurd (cc)
    on kind None k = let same : meaning kind pairs ≡ says = cc in subst (λ (s : Said). length (sdp_in s) ≤ n) same (meant_at_most n kind pairs h)

    go : (named : Result Kind CommandFault) → said_of_kind named pairs ≡ Ok says → length (sdp_in says) ≤ n
    go (Err fault) k = absurd (cc)
    go (Ok kind) k = on kind (fault_of kind pairs) k
