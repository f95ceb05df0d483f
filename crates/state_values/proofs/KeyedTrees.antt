-- Dictionaries, read again.
use Rattle.std.proofs.Common.{rules, tests, ◌≡◌, ◌==◌, ℕ, false, List, [], ◌∷◌, length, Option, None, IfNone, sym, ◌∙◌}
use Rattle.ng_bencode.specs.Room.{Room}
use Rattle.ng_bencode.specs.declared.value.Value.{Value}
use Rattle.ng_bencode.specs.Tree.{Tree, Dict, Entries, entry, no_entries, pairs_of, tree_of}

-- dictionaries that are one have the same entries
pub same_entries : {p q : Entries} → Dict p ≡ Dict q → p ≡ q
same_entries e = cc

pub same_value : {p q : Entries} {k l : List ℕ} {t u : Tree} → entry k t p ≡ entry l u q → t ≡ u
same_value e = cc

pub same_rest : {p q : Entries} {k l : List ℕ} {t u : Tree} → entry k t p ≡ entry l u q → p ≡ q
same_rest e = cc

-- the entries of a dictionary, by its pairs and by what it is written as
pub opened : {whole : Tree} {p q : Entries} → whole ≡ Dict p → whole ≡ Dict q → p ≡ q
opened is same = same_entries (sym is ∙ same)

-- and those that follow the first
pub after : {p q r : Entries} {k l : List ℕ} {t u : Tree} → p ≡ entry k t q → p ≡ entry l u r → q ≡ r
after is same = same_rest (sym is ∙ same)

-- what is said of a read that gives none
pub refused : {T : Type 0} {read : Option T} {Said : Type 0} → read ≡ None → Said → IfNone read Said
refused is said = rw is said

-- some pairs are some entries
pub some_left : (pairs : List (Room ℕ × Value)) → (length pairs == 0) ≡ false → pairs_of pairs ≡ no_entries → ⊥
some_left [] long e = absurd (search (rules, tests))
some_left (pair ∷ pairs) long e = let f : entry pair.0.list (tree_of pair.1) (pairs_of pairs) ≡ no_entries = e in absurd (cc)
