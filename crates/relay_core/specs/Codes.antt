-- How the logic stores a dictionary: as the list of the tokens that make it, each of which takes what it needs from a stack.
use Rattle.std.specs.Prelude.{◌≡◌, refl, ℕ, ℤ, ◌⊎◌, ◌==◌, List, [], ◌∷◌, if◌then◌else◌}
use Rattle.std.proofs.Common.{◌∙◌, ap, inl, inr}
use Rattle.std.specs.Coded.{Coded, code_by, coded_ℕ, coded_ℤ, coded_list, coded⊎}
use Rattle.ng_bencode.specs.Tree.{Tree, Int, Bytes, Items, Dict, Trees, no_items, item, Entries, no_entries, entry}

pub data Token : Type 0 where
  IntToken : ℤ → Token
  BytesToken : List ℕ → Token
  EntryToken : List ℕ → Token
  NoItems : Token
  ItemToken : Token
  ItemsToken : Token
  NoEntries : Token
  DictToken : Token

abbrev pub Numbers : Type 0
Numbers = ℤ ⊎ (List ℕ ⊎ (List ℕ ⊎ ℕ))

abbrev pub number_of : Token → Numbers
number_of (IntToken z) = inl z
number_of (BytesToken bytes) = inr (inl bytes)
number_of (EntryToken key) = inr (inr (inl key))
number_of NoItems = inr (inr (inr 0))
number_of ItemToken = inr (inr (inr 1))
number_of ItemsToken = inr (inr (inr 2))
number_of NoEntries = inr (inr (inr 3))
number_of DictToken = inr (inr (inr 4))

abbrev pub numbered : ℕ → Token
numbered n =
    if n == 0 then NoItems else if n == 1 then ItemToken else if n == 2 then ItemsToken else if n == 3 then NoEntries else DictToken

abbrev pub token_of : Numbers → Token
token_of (inl z) = IntToken z
token_of (inr (inl bytes)) = BytesToken bytes
token_of (inr (inr (inl key))) = EntryToken key
token_of (inr (inr (inr n))) = numbered n

pub token_back : (t : Token) → token_of (number_of t) ≡ t
token_back (IntToken z) = refl
token_back (BytesToken bytes) = refl
token_back (EntryToken key) = refl
token_back NoItems = refl
token_back ItemToken = refl
token_back ItemsToken = refl
token_back NoEntries = refl
token_back DictToken = refl

abbrev pub token_code : Coded Token
token_code =
    code_by Numbers (coded⊎ coded_ℤ (coded⊎ (coded_list coded_ℕ) (coded⊎ (coded_list coded_ℕ) coded_ℕ))) number_of token_of token_back

-- what stands on the stack
pub data Stacked : Type 0 where
  tree : Tree → Stacked
  trees : Trees → Stacked
  entries : Entries → Stacked

-- what a token makes of the stack
abbrev pub apply_token : Token → List Stacked → List Stacked
apply_token (IntToken z) stack = tree (Int z) ∷ stack
apply_token (BytesToken bytes) stack = tree (Bytes bytes) ∷ stack
apply_token NoItems stack = trees no_items ∷ stack
apply_token NoEntries stack = entries no_entries ∷ stack
apply_token ItemToken (tree t ∷ trees rest ∷ stack) = trees (item t rest) ∷ stack
apply_token ItemsToken (trees all ∷ stack) = tree (Items all) ∷ stack
apply_token (EntryToken key) (tree t ∷ entries rest ∷ stack) = entries (entry key t rest) ∷ stack
apply_token DictToken (entries all ∷ stack) = tree (Dict all) ∷ stack
apply_token _ stack = stack

abbrev pub act_all : List Token → List Stacked → List Stacked
act_all [] stack = stack
act_all (t ∷ ts) stack = act_all ts (apply_token t stack)

-- the tokens of a value, and then these
abbrev mutual
  pub of_tree : Tree → List Token → List Token
  of_tree (Int z) more = IntToken z ∷ more
  of_tree (Bytes bytes) more = BytesToken bytes ∷ more
  of_tree (Items all) more = of_trees all (ItemsToken ∷ more)
  of_tree (Dict all) more = of_entries all (DictToken ∷ more)

  pub of_trees : Trees → List Token → List Token
  of_trees no_items more = NoItems ∷ more
  of_trees (item t rest) more = of_trees rest (of_tree t (ItemToken ∷ more))

  pub of_entries : Entries → List Token → List Token
  of_entries no_entries more = NoEntries ∷ more
  of_entries (entry key t rest) more = of_entries rest (of_tree t (EntryToken key ∷ more))

mutual
  pub tree_made : (t : Tree) (more : List Token) (stack : List Stacked) → act_all (of_tree t more) stack ≡ act_all more (tree t ∷ stack)
  tree_made (Int z) more stack = refl
  tree_made (Bytes bytes) more stack = refl
  tree_made (Items all) more stack = trees_made all (ItemsToken ∷ more) stack
  tree_made (Dict all) more stack = entries_made all (DictToken ∷ more) stack

  pub trees_made : (all : Trees) (more : List Token) (stack : List Stacked) → act_all (of_trees all more) stack ≡ act_all more (trees all ∷ stack)
  trees_made no_items more stack = refl
  trees_made (item t rest) more stack =
      trees_made rest (of_tree t (ItemToken ∷ more)) stack ∙ tree_made t (ItemToken ∷ more) (trees rest ∷ stack)

  pub entries_made : (all : Entries) (more : List Token) (stack : List Stacked) → act_all (of_entries all more) stack ≡ act_all more (entries all ∷ stack)
  entries_made no_entries more stack = refl
  entries_made (entry key t rest) more stack =
      entries_made rest (of_tree t (EntryToken key ∷ more)) stack ∙ tree_made t (EntryToken key ∷ more) (entries rest ∷ stack)

abbrev pub top : List Stacked → Entries
top (entries all ∷ stack) = all
top _ = no_entries

abbrev pub tokens_of : Entries → List Token
tokens_of all = of_entries all []

abbrev pub coded_entries : List Token → Entries
coded_entries tokens = top (act_all tokens [])

pub entries_back : (all : Entries) → coded_entries (tokens_of all) ≡ all
entries_back all = ap top (entries_made all [] [])

abbrev pub entries_code : Coded Entries
entries_code = code_by (List Token) (coded_list token_code) tokens_of coded_entries entries_back
