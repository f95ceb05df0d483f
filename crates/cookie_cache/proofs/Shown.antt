-- The entries of a map, as they are shown: a look-up, and what goes and what comes.
use Rattle.std.proofs.Common.{◌≡◌, ◌∙◌, refl, sym, ap, ℕ, ◌-◌, List, [], ◌∷◌, ◌++◌, find, filter, drop, remove, Bool, true, false, cond, not, nat_lt, nat_eq, Option, Some, None, Vec, slice_get, if◌then◌else◌}
use Rattle.std.specs.Cmp.Lexicographic.{pointwise}
use Rattle.std.specs.Map.{lookup, remove_entry}
use Rattle.cookie_cache.specs.declared.kept_reply.KeptReply.{KeptReply}
use Rattle.cookie_cache.specs.Entries.{CacheEntry, shown, all_shown}
use Rattle.cookie_cache.specs.Oldest.{age, without_gone}
use Rattle.cookie_cache.proofs.InOrder.{is_under}
use Rattle.cookie_cache.proofs.Kept.{reply_at}

-- the reply that was found, where it is young enough
abbrev pub answer_at : ℕ → Option KeptReply → Option (List ℕ)
answer_at at None = None
answer_at at (Some kept) = cond (nat_lt (at - kept.moment) 60000) (Some kept.reply.list) None

-- the entry has another key
abbrev pub is_other : List ℕ → CacheEntry → Bool
is_other key e = not (is_under key e)

module _ {A : Type 0} (key : List ℕ) where
  -- the key has these bytes
  abbrev pub has_bytes : Vec ℕ A → Bool
  has_bytes k = pointwise nat_eq key k.items

  lookup_case : (at : ℕ) (e : Vec ℕ A × KeptReply) (es : List (Vec ℕ A × KeptReply)) → answer_at at (lookup has_bytes es) ≡ reply_at at (find (is_under key) (all_shown es))
      → (b : Bool) → answer_at at (cond b (Some e.1) (lookup has_bytes es)) ≡ reply_at at (cond b (Some (shown e)) (find (is_under key) (all_shown es)))
  lookup_case at e es rest true = refl
  lookup_case at e es rest false = rest

  pub lookup-shown : (at : ℕ) (es : List (Vec ℕ A × KeptReply)) → answer_at at (lookup has_bytes es) ≡ reply_at at (find (is_under key) (all_shown es))
  lookup-shown at [] = refl
  lookup-shown at (e ∷ es) = lookup_case at e es (lookup-shown at es) (has_bytes e.0)

  whole_case : (e : Vec ℕ A × KeptReply) (es : List (Vec ℕ A × KeptReply)) → (lookup has_bytes es ≡ None → filter (is_other key) (all_shown es) ≡ all_shown es)
      → (b : Bool) → cond b (Some e.1) (lookup has_bytes es) ≡ None → cond (not b) (shown e ∷ filter (is_other key) (all_shown es)) (filter (is_other key) (all_shown es)) ≡ shown e ∷ all_shown es
  whole_case e es rest true none = cc
  whole_case e es rest false none = ap (λ xs. shown e ∷ xs) (rest none)

  filter-none : (es : List (Vec ℕ A × KeptReply)) → lookup has_bytes es ≡ None → filter (is_other key) (all_shown es) ≡ all_shown es
  filter-none [] none = refl
  filter-none (e ∷ es) none = whole_case e es (filter-none es) (has_bytes e.0) none

  remove_case : (e : Vec ℕ A × KeptReply) (es : List (Vec ℕ A × KeptReply)) → (lookup has_bytes (remove_entry has_bytes es) ≡ None → all_shown (remove_entry has_bytes es) ≡ filter (is_other key) (all_shown es))
      → (b : Bool) → has_bytes e.0 ≡ b → lookup has_bytes (cond b es (e ∷ remove_entry has_bytes es)) ≡ None
      → all_shown (cond b es (e ∷ remove_entry has_bytes es)) ≡ cond (not b) (shown e ∷ filter (is_other key) (all_shown es)) (filter (is_other key) (all_shown es))
  remove_case e es rest true is none = sym (filter-none es none)
  remove_case e es rest false is none =
      ap (λ xs. shown e ∷ xs) (rest (sym (ap (λ b. cond b (Some e.1) (lookup has_bytes (remove_entry has_bytes es))) is) ∙ none))

  -- where the key is not found any more, its one entry has gone
  pub remove-shown : (es : List (Vec ℕ A × KeptReply)) → lookup has_bytes (remove_entry has_bytes es) ≡ None → all_shown (remove_entry has_bytes es) ≡ filter (is_other key) (all_shown es)
  remove-shown [] none = refl
  remove-shown (e ∷ es) none = remove_case e es (remove-shown es) (has_bytes e.0) refl none

-- one entry more at the end
pub push-shown : {A : Type 0} (es : List (Vec ℕ A × KeptReply)) (e : Vec ℕ A × KeptReply) → all_shown (es ++ e ∷ []) ≡ all_shown es ++ shown e ∷ []
push-shown [] e = refl
push-shown (x ∷ es) e = ap (λ xs. shown x ∷ xs) (push-shown es e)

-- without the first
pub drop-shown : {A : Type 0} (es : List (Vec ℕ A × KeptReply)) → all_shown (remove es 0) ≡ drop 1 (all_shown es)
drop-shown [] = refl
drop-shown (e ∷ es) = refl

-- the first entry, and whether it goes
pub first_gone : {A : Type 0} (count : ℕ) (es : List (Vec ℕ A × KeptReply)) (e : Vec ℕ A × KeptReply) → Some e ≡ slice_get es 0
    → without_gone count (all_shown es) ≡ (if nat_lt 4096 (age count (shown e)) then drop 1 (all_shown es) else all_shown es)
first_gone count [] e is = cc
first_gone count (x ∷ es) e is =
    let same : x ≡ e = cc in
    ap (λ y. if nat_lt 4096 (age count (shown y)) then all_shown es else shown x ∷ all_shown es) same
