-- Dictionaries, put together field by field; lists of records, put in one by one.
use Rattle.std.proofs.Common.{◌≡◌, ℕ, List, [], ◌∷◌, ◌++◌, map, sym, ap, ◌∙◌, append-nil}
use Rattle.std.proofs.lemmas.List.{append_assoc, map-append}
use Rattle.ng_bencode.specs.declared.value.Value.{Value}
use Rattle.ng_bencode.specs.Tree.{Tree, Dict, Entries, entry, tree_of}

-- the dictionary of these entries
pub whole : {t : Tree} {p q : Entries} → t ≡ Dict p → p ≡ q → t ≡ Dict q
whole is same = is ∙ ap Dict same

-- one field in front of the others
pub field : {p q r : Entries} {k : List ℕ} {t u : Tree} → p ≡ entry k t q → t ≡ u → q ≡ r → p ≡ entry k u r
field is value rest = cc

-- one more record was put in
pub one_put : {T : Type 0} (written : T → Tree) (put more : List Value) (left rest : List T) (all : List Tree) (value : Value) (one : T)
    → map tree_of put ++ map written left ≡ all → more ≡ put ++ value ∷ [] → left ≡ one ∷ rest → tree_of value ≡ written one
    → map tree_of more ++ map written rest ≡ all
one_put {T} written put more left rest all value one is puts takes same =
    ap (λ (l : List Value). map tree_of l ++ map written rest) puts
    ∙ ap (λ (l : List Tree). l ++ map written rest) (map-append tree_of put (value ∷ []))
    ∙ append_assoc (map tree_of put) (tree_of value ∷ []) (map written rest)
    ∙ ap (λ (t : Tree). map tree_of put ++ (t ∷ map written rest)) same
    ∙ ap (λ (l : List T). map tree_of put ++ map written l) (sym takes)
    ∙ is

-- all were put in
pub all_put : {T : Type 0} (written : T → Tree) (put : List Value) (left : List T) (all : List Tree) → left ≡ []
    → map tree_of put ++ map written left ≡ all → map tree_of put ≡ all
all_put {T} written put left all none is =
    sym (append-nil (map tree_of put)) ∙ sym (ap (λ (l : List T). map tree_of put ++ map written l) none) ∙ is
