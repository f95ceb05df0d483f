-- The rows of options that were not used, and that a command whose options are all as they have to be is refused for nothing.
use Rattle.std.proofs.Common.{◌≡◌, ◌∙◌, ap, sym, Bool, true, false, List, [], ◌∷◌, ◌++◌, Option, Some, None, length, refl, subst, arith}
use Rattle.std.proofs.lemmas.Bool.{eqb-true, ne_eqb}
use Rattle.std.specs.Prelude.{◌&&◌, ◌||◌, not, fold, find, if◌then◌else◌}
use Rattle.std.specs.List.{list_all, list_any}
use Rattle.std.specs.Str.{bytes_eq}
use Rattle.std.proofs.lemmas.Slice.Eq.{bytes_eq-Decides}
use Rattle.clap.specs.Kinds.{Kinds}
use Rattle.clap.specs.Walk.{Row, Rule, Text, finished, has_row, is_empty, more_values, nothing_held, reading_by, walk, with_default}
use Rattle.clap.specs.Simple.{Shape}
use Rattle.clap.specs.Faults.{check_fault, default_fault, defaults_fault, given_default_fault, level_fault}
use Rattle.clap.specs.declared.parser.matches.ValueSource.TheVariants.{DefaultValue}
use Rattle.clap.proofs.WalkLemmas.{both}
use Rattle.command_line.proofs.Allowed.{IsWalked, IsOneValued, found_last, found_or, fresh}

-- the row of an option with its default
abbrev pub default_row : Rule → Row
default_row rule = record { id = rule.id; values = rule.defaults; count = None; source = Some DefaultValue; reading = reading_by rule }

-- the row of an option, or that of its default
abbrev pub or_default : Text → Option Row → List Rule → Option Row
or_default name (Some row) rules = Some row
or_default name None [] = None
or_default name None (rule ∷ rules) = if bytes_eq rule.id name && not (is_empty rule.defaults) then Some (default_row rule) else or_default name None rules

no_rules : (name : Text) (o : Option Row) → o ≡ or_default name o []
no_rules name None = refl
no_rules name (Some row) = refl

-- a row that is not found is not there
missing : (name : Text) (rows : List Row) → find (λ r. bytes_eq r.id name) rows ≡ None → has_row name rows ≡ false
missing name [] none = refl
missing name (row ∷ rows) none = go (bytes_eq row.id name) refl (λ absent. missing name rows absent)
  where
    go : (b : Bool) → bytes_eq row.id name ≡ b → (find (λ r. bytes_eq r.id name) rows ≡ None → has_row name rows ≡ false) → has_row name (row ∷ rows) ≡ false
    go true is rest =
        let bad : Some row ≡ None = rw is at none in
        cc
    go false is rest = rw is (rest (rw is at none))

-- an option without a default, or with a row, leaves the rows
kept : (name : Text) (rule : Rule) (rules : List Rule) (rows : List Row) → (has_row rule.id rows ≡ true) → or_default name (find (λ r. bytes_eq r.id name) rows) rules ≡ or_default name (find (λ r. bytes_eq r.id name) rows) (rule ∷ rules)
kept name rule rules rows has = go (find (λ r. bytes_eq r.id name) rows) refl
  where
    other : find (λ r. bytes_eq r.id name) rows ≡ None → (b : Bool) → bytes_eq rule.id name ≡ b → or_default name None rules ≡ or_default name None (rule ∷ rules)
    other none true is =
        let bad : true ≡ false = sym has ∙ subst (λ (n : Text). has_row n rows ≡ false) (sym ((bytes_eq-Decides rule.id name).0 is)) (missing name rows none) in
        cc
    other none false is = rw is refl

    go : (o : Option Row) → find (λ r. bytes_eq r.id name) rows ≡ o → or_default name o rules ≡ or_default name o (rule ∷ rules)
    go (Some row) is = refl
    go None is = other is (bytes_eq rule.id name) refl

bare : (name : Text) (rule : Rule) (rules : List Rule) (o : Option Row) → rule.defaults ≡ [] → or_default name o rules ≡ or_default name o (rule ∷ rules)
bare name rule rules (Some row) none = refl
bare name rule rules None none = go (bytes_eq rule.id name) refl
  where
    go : (b : Bool) → bytes_eq rule.id name ≡ b → or_default name None rules ≡ or_default name None (rule ∷ rules)
    go true is = rw (is, none) refl
    go false is = rw is refl

given : (name : Text) (rule : Rule) (rules : List Rule) (o : Option Row) → is_empty rule.defaults ≡ false → or_default name (found_or o name (default_row rule)) rules ≡ or_default name o (rule ∷ rules)
given name rule rules (Some row) some = refl
given name rule rules None some = go (bytes_eq rule.id name) refl
  where
    go : (b : Bool) → bytes_eq rule.id name ≡ b → or_default name (found_or None name (default_row rule)) rules ≡ or_default name None (rule ∷ rules)
    go true is = rw (is, some) refl
    go false is = rw is refl

-- the rows with the default of one option more
one_default : (name : Text) (rule : Rule) (rules : List Rule) (rows : List Row)
    → or_default name (find (λ r. bytes_eq r.id name) (with_default rows rule)) rules ≡ or_default name (find (λ r. bytes_eq r.id name) rows) (rule ∷ rules)
one_default name rule rules rows = go (has_row rule.id rows) refl
  where
    lacking : has_row rule.id rows ≡ false → (d : List Text) → rule.defaults ≡ d
        → or_default name (find (λ r. bytes_eq r.id name) (with_default rows rule)) rules ≡ or_default name (find (λ r. bytes_eq r.id name) rows) (rule ∷ rules)
    lacking none [] is =
        let same : with_default rows rule ≡ rows = rw (none, is) refl in
        ap (λ (rs : List Row). or_default name (find (λ r. bytes_eq r.id name) rs) rules) same ∙ bare name rule rules (find (λ r. bytes_eq r.id name) rows) is
    lacking none (v ∷ vs) is =
        let added : with_default rows rule ≡ rows ++ default_row rule ∷ [] = rw (none, is) (fresh rule.id (more_values DefaultValue (v ∷ vs))
        (record { id = rule.id; values = v ∷ vs; count = None; source = Some DefaultValue; reading = reading_by rule } ∷ []) rows none) in
        let some : is_empty rule.defaults ≡ false = ap is_empty is ∙ ne_eqb (length (v ∷ vs)) 0 (λ e. omega (arith, e)) in
        ap (λ (o : Option Row). or_default name o rules) (ap (λ (rs : List Row). find (λ r. bytes_eq r.id name) rs) added ∙ found_last name rows (default_row rule))
        ∙ given name rule rules (find (λ r. bytes_eq r.id name) rows) some

    go : (b : Bool) → has_row rule.id rows ≡ b
        → or_default name (find (λ r. bytes_eq r.id name) (with_default rows rule)) rules ≡ or_default name (find (λ r. bytes_eq r.id name) rows) (rule ∷ rules)
    go true is = rw is (kept name rule rules rows is)
    go false is = lacking is rule.defaults refl

pub find_default : (name : Text) (rules : List Rule) (rows : List Row)
    → find (λ r. bytes_eq r.id name) (fold with_default rows rules) ≡ or_default name (find (λ r. bytes_eq r.id name) rows) rules
find_default name [] rows = no_rules name (find (λ r. bytes_eq r.id name) rows)
find_default name (rule ∷ rules) rows = find_default name rules (with_default rows rule) ∙ one_default name rule rules rows

-- the default of the option is taken
abbrev pub has_good_default : Rule → Bool
has_good_default rule = is_empty rule.defaults || is_empty (given_default_fault rule rule.defaults)

pub none_of : (kinds : Kinds) → is_empty kinds ≡ true → kinds ≡ []
none_of [] is = refl
none_of (k ∷ ks) is = absurd (omega (arith, eqb-true (length (k ∷ ks)) 0 is))

one_good : (rule : Rule) (rows : List Row) → has_good_default rule ≡ true → default_fault rows rule ≡ []
one_good rule rows good = go (has_row rule.id rows) refl (is_empty rule.defaults) refl
  where
    go : (b : Bool) → has_row rule.id rows ≡ b → (c : Bool) → is_empty rule.defaults ≡ c → default_fault rows rule ≡ []
    go true is c e = rw is refl
    go false is true e = rw (is, e) refl
    go false is false e = rw (is, e) (none_of _ (rw e at good))

pub good_defaults : (rules : List Rule) (rows : List Row) → list_all has_good_default rules ≡ true → defaults_fault rows rules ≡ []
unfolding defaults_fault
good_defaults [] rows good = refl
good_defaults (rule ∷ rules) rows good =
    let parts = both _ _ good in
    rw (one_good rule rows parts.0) (good_defaults rules (with_default rows rule) parts.1)

-- a command with these rows is refused for nothing
pub no_fault : (s : Shape) (again : s.args_override_self ≡ false) (names : List Text) (facts : (name : Text) → list_any (bytes_eq name) names ≡ true → IsOneValued s.rules name) (words : List Text)
    → (w : IsWalked s again names facts [] words) → list_all has_good_default s.rules ≡ true → check_fault s (fold with_default w.last s.rules) false ≡ []
    → level_fault s [] nothing_held words false [] ≡ []
no_fault s again names facts words w good checked = rw (w.faultless, w.walks, good_defaults s.rules w.last good, checked) refl

-- and these are its rows
pub rows_are : (s : Shape) (again : s.args_override_self ≡ false) (names : List Text) (facts : (name : Text) → list_any (bytes_eq name) names ≡ true → IsOneValued s.rules name) (words : List Text)
    → (w : IsWalked s again names facts [] words) → finished s.rules (walk s.rules [] nothing_held words).held ≡ fold with_default w.last s.rules
rows_are s again names facts words w = rw w.walks refl
