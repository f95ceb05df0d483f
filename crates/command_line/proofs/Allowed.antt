-- What `clap` makes of words in the form `--name=value`, each name once at most: it refuses none, and each option has its value.
use Rattle.std.proofs.Common.{◌≡◌, ◌∙◌, ◌⊎◌, ap, sym, ◌==◌, Bool, true, false, List, [], ◌∷◌, ◌++◌, drop, Option, Some, None, inl, inr, refl, subst}
use Rattle.std.specs.Prelude.{◌&&◌, fold, find, option_map, if◌then◌else◌, unwrap_or}
use Rattle.std.specs.List.{list_all, list_any, cons_option}
use Rattle.std.specs.Str.{bytes_eq}
use Rattle.std.proofs.lemmas.Slice.Eq.{bytes_eq-Decides}
use Rattle.clap.specs.Lexer.{long_of}
use Rattle.clap.specs.Facts.{parser_of_value, unwrap_or_range}
use Rattle.clap.specs.Kinds.{range_kinds}
use Rattle.clap.specs.ValueTests.{accepts}
use Rattle.clap.specs.Walk.{Held, Row, Rule, Text, Walk, action_of, arg_by_long, at_row, has_row, idle, most_values, next, reading_by, takes_values, walk_from, walked, word_met}
use Rattle.clap.specs.Simple.{Shape}
use Rattle.clap.specs.Faults.{turn_fault, walk_fault}
use Rattle.clap.specs.declared.builder.action.ArgAction.TheVariants.{Set}
use Rattle.clap.specs.declared.parser.matches.ValueSource.TheVariants.{CommandLine}
use Rattle.clap.proofs.WalkLemmas.{both}
use Rattle.command_line.specs.Grammar.{option_named, values_of, is_option}

-- The form of a word.

cut : {X : Type 0} (x y z : Bool) (p q : X) → (if x && (y && z) then Some p else None) ≡ Some q → (x ≡ true) × (y ≡ true) × (z ≡ true) × (p ≡ q)
cut true true true p q e = (refl, refl, refl, ap (λ (o : Option _). unwrap_or o p) e)
cut true true false p q e = cc
cut true false z p q e = cc
cut false y z p q e = cc

-- `clap` cuts the word as the grammar does
pub long : (word name value : Text) → option_named word ≡ Some (name, value) → long_of word ≡ Some (name, Some value)
long [] name value e = cc
long (a ∷ []) name value e = cc
long (a ∷ b ∷ []) name value e =
    let parts = cut (a == 45) (b == 45) false _ _ e in
    let bad : false ≡ true = parts.2 in
    cc
long (a ∷ b ∷ x ∷ xs) name value e =
    let parts = cut (a == 45) (b == 45) (list_any (λ byte. byte == 61) (x ∷ xs)) _ _ e in
    rw (parts.0, parts.1, parts.2) (ap (λ (p : Text × Text). Some (p.0, Some p.1)) parts.3)

-- it is not `--` alone
pub no_dashes : (word name value : Text) → option_named word ≡ Some (name, value) → bytes_eq word (45 ∷ 45 ∷ []) ≡ false
no_dashes word name value e = go (bytes_eq word (45 ∷ 45 ∷ [])) refl
  where
    go : (b : Bool) → bytes_eq word (45 ∷ 45 ∷ []) ≡ b → bytes_eq word (45 ∷ 45 ∷ []) ≡ false
    go false is = is
    go true is =
        let same : word ≡ 45 ∷ 45 ∷ [] = (bytes_eq-Decides word (45 ∷ 45 ∷ [])).0 is in
        let none : None ≡ Some (name, value) = ap option_named (sym same) ∙ e in
        cc

-- Rows.

pub fresh : (id : Text) (change : Row → List Row) (missing rows : List Row) → has_row id rows ≡ false → at_row id change missing rows ≡ rows ++ missing
fresh id change missing [] e = refl
fresh id change missing (row ∷ rows) e = go (bytes_eq row.id id) refl (λ none. fresh id change missing rows none)
  where
    go : (b : Bool) → bytes_eq row.id id ≡ b → (has_row id rows ≡ false → at_row id change missing rows ≡ rows ++ missing)
        → at_row id change missing (row ∷ rows) ≡ (row ∷ rows) ++ missing
    go true is rest =
        let bad : true ≡ false = rw is at e in
        cc
    go false is rest = rw is (ap (λ (more : List Row). row ∷ more) (rest (rw is at e)))

same_rows : (id : Text) (rows : List Row) → has_row id rows ≡ false → at_row id (λ _. []) [] rows ≡ rows
same_rows id [] e = refl
same_rows id (row ∷ rows) e = go (bytes_eq row.id id) refl (λ none. same_rows id rows none)
  where
    go : (b : Bool) → bytes_eq row.id id ≡ b → (has_row id rows ≡ false → at_row id (λ _. []) [] rows ≡ rows) → at_row id (λ _. []) [] (row ∷ rows) ≡ row ∷ rows
    go true is rest =
        let bad : true ≡ false = rw is at e in
        cc
    go false is rest = rw is (ap (λ (more : List Row). row ∷ more) (rest (rw is at e)))

-- a row at the end
abbrev pub found_or : Option Row → Text → Row → Option Row
found_or (Some row) name last = Some row
found_or None name last = if bytes_eq last.id name then Some last else None

pub found_last : (name : Text) (rows : List Row) (last : Row) → find (λ r. bytes_eq r.id name) (rows ++ last ∷ []) ≡ found_or (find (λ r. bytes_eq r.id name) rows) name last
found_last name [] last = go (bytes_eq last.id name) refl
  where
    go : (b : Bool) → bytes_eq last.id name ≡ b → find (λ r. bytes_eq r.id name) (last ∷ []) ≡ (if bytes_eq last.id name then Some last else None)
    go true is = rw is refl
    go false is = rw is refl
found_last name (row ∷ rows) last = go (bytes_eq row.id name) refl (found_last name rows last)
  where
    go : (b : Bool) → bytes_eq row.id name ≡ b
        → find (λ r. bytes_eq r.id name) (rows ++ last ∷ []) ≡ found_or (find (λ r. bytes_eq r.id name) rows) name last
        → find (λ r. bytes_eq r.id name) ((row ∷ rows) ++ last ∷ []) ≡ found_or (find (λ r. bytes_eq r.id name) (row ∷ rows)) name last
    go true is rest = rw is refl
    go false is rest = rw is rest

has_last : (name : Text) (rows : List Row) (last : Row) → has_row name rows ≡ false → bytes_eq last.id name ≡ false → has_row name (rows ++ last ∷ []) ≡ false
has_last name [] last none other = rw other refl
has_last name (row ∷ rows) last none other = go (bytes_eq row.id name) refl (λ absent. has_last name rows last absent other)
  where
    go : (b : Bool) → bytes_eq row.id name ≡ b → (has_row name rows ≡ false → has_row name (rows ++ last ∷ []) ≡ false) → has_row name ((row ∷ rows) ++ last ∷ []) ≡ false
    go true is rest =
        let bad : true ≡ false = rw is at none in
        cc
    go false is rest = rw is (rest (rw is at none))

unfound : (name : Text) (rows : List Row) → has_row name rows ≡ false → find (λ r. bytes_eq r.id name) rows ≡ None
unfound name [] none = refl
unfound name (row ∷ rows) none = go (bytes_eq row.id name) refl (λ absent. unfound name rows absent)
  where
    go : (b : Bool) → bytes_eq row.id name ≡ b → (has_row name rows ≡ false → find (λ r. bytes_eq r.id name) rows ≡ None) → find (λ r. bytes_eq r.id name) (row ∷ rows) ≡ None
    go true is rest =
        let bad : true ≡ false = rw is at none in
        cc
    go false is rest = rw is (rest (rw is at none))

-- The walk over the words.

-- an option of the command with one value a use
pub record IsOneValued (rules : List Rule) (name : Text) : Type 0 where
  pub rule : Rule
  pub found : arg_by_long rules name ≡ Some rule
  pub id : rule.id ≡ name
  pub takes : takes_values rule ≡ true
  pub sets : action_of rule ≡ Set
  pub one : range_kinds (unwrap_or_range rule.range).start_inclusive (most_values rule) 1 ≡ []

-- the row of one use
abbrev pub use_row : Rule → Text → Row
use_row rule value = record { id = rule.id; values = value ∷ []; count = None; source = Some CommandLine; reading = reading_by rule }

abbrev pub held : List Row → Held
held rows = record { rows = rows; pending = None; skip = 0 }

module _ (rules : List Rule) where
  -- the word adds a row
  pub met : (word name value : Text) (o : IsOneValued rules name) (rows : List Row) → option_named word ≡ Some (name, value) → has_row name rows ≡ false
      → word_met rules [] false idle 1 word (held rows) ≡ (held (rows ++ use_row o.rule value ∷ []), next idle)
  met word name value o rows is none =
      let new : has_row o.rule.id rows ≡ false = rw o.id none in
      rw (no_dashes word name value is, long word name value is, o.found, o.takes, o.sets, same_rows o.rule.id rows new, fresh o.rule.id _ _ rows new) refl

  pub step : (word name value : Text) (o : IsOneValued rules name) (rows : List Row) → option_named word ≡ Some (name, value) → has_row name rows ≡ false
      → walked rules [] (walk_from (held rows)) word ≡ walk_from (held (rows ++ use_row o.rule value ∷ []))
  unfolding walked
  step word name value o rows is none = rw (met word name value o rows is none) refl

module _ (s : Shape) (again : s.args_override_self ≡ false) where
  pub turn : (word name value : Text) (o : IsOneValued s.rules name) (rows : List Row) → option_named word ≡ Some (name, value) → has_row name rows ≡ false
      → accepts o.rule.ignore_case (parser_of_value o.rule.parser) value ≡ true → turn_fault s [] (walk_from (held rows)) word ≡ []
  turn word name value o rows is none good =
      let new : has_row o.rule.id rows ≡ false = rw o.id none in
      rw (met s.rules word name value o rows is none, no_dashes word name value is, long word name value is, o.found, o.takes, o.one, o.sets, new, good) refl

-- a word of an option
option_said : (names : List Text) (word : Text) → is_option names word ≡ true
    → (name : Text) × (value : Text) × (option_named word ≡ Some (name, value)) × (list_any (bytes_eq name) names ≡ true)
option_said names word is = go (option_named word) refl
  where
    go : (o : Option (Text × Text)) → option_named word ≡ o
        → (name : Text) × (value : Text) × (option_named word ≡ Some (name, value)) × (list_any (bytes_eq name) names ≡ true)
    go None e =
        let bad : false ≡ true = rw e at is in
        cc
    go (Some said) e = (said.0, said.1, e, rw e at is)

pub values_before : (other word name value : Text) (words : List Text) → option_named word ≡ Some (name, value)
    → values_of other (word ∷ words) ≡ cons_option (if bytes_eq name other then Some value else None) (values_of other words)
values_before other word name value words is = rw is refl

found_other : (o : Option Row) (name : Text) (last : Row) → bytes_eq last.id name ≡ false → found_or o name last ≡ o
found_other (Some row) name last other = refl
found_other None name last other = rw other refl

module _ (s : Shape) (again : s.args_override_self ≡ false) (names : List Text) (facts : (name : Text) → list_any (bytes_eq name) names ≡ true → IsOneValued s.rules name) where
  -- its option takes the value
  abbrev pub IsAccepted : Text → Text → Type 0
  IsAccepted name value = (o : IsOneValued s.rules name) → accepts o.rule.ignore_case (parser_of_value o.rule.parser) value ≡ true

  -- the words give the option nothing, or one value that it takes, and it has no row yet
  abbrev pub IsReady : Text → List Row → List Text → Type 0
  IsReady name rows words = (values_of name words ≡ []) ⊎ ((value : Text) × (values_of name words ≡ value ∷ []) × (has_row name rows ≡ false) × IsAccepted name value)

  -- the row of an option, where it had one or the words give it a value
  abbrev pub merged : Text → Option Row → List Text → Option Row
  merged name (Some row) values = Some row
  merged name None [] = None
  merged name None (value ∷ values) = option_map (λ rule. use_row rule value) (arg_by_long s.rules name)

  pub record IsWalked (rows : List Row) (words : List Text) : Type 0 where
    pub last : List Row
    pub walks : fold (walked s.rules []) (walk_from (held rows)) words ≡ walk_from (held last)
    pub faultless : walk_fault s [] (walk_from (held rows)) words ≡ []
    pub has : (name : Text) → list_any (bytes_eq name) names ≡ true
        → find (λ r. bytes_eq r.id name) last ≡ merged name (find (λ r. bytes_eq r.id name) rows) (values_of name words)

  merged_none : (name : Text) (o : Option Row) → o ≡ merged name o []
  merged_none name None = refl
  merged_none name (Some row) = refl

  -- the first word gives its option the one value
  readied : (word name value : Text) (words : List Text) (rows : List Row) → option_named word ≡ Some (name, value) → IsReady name rows (word ∷ words)
      → (values_of name words ≡ []) × (has_row name rows ≡ false) × IsAccepted name value
  readied word name value words rows is ready =
      let here : values_of name (word ∷ words) ≡ value ∷ values_of name words = values_before name word name value words is
      ∙ rw ((bytes_eq-Decides name name).1 refl) refl in
      elim ready [
        | inl none ↦
            let bad : value ∷ values_of name words ≡ [] = sym here ∙ none in
            cc
        | inr one ↦
            let same : value ∷ values_of name words ≡ one.0 ∷ [] = sym here ∙ one.1 in
            let first : value ≡ one.0 = ap (λ (l : List Text). unwrap_or (find (λ _. true) l) value) same in
            (ap (λ (l : List Text). drop 1 l) same, one.2, subst (IsAccepted name) (sym first) one.3)
      ]

  go_on : (word name value other : Text) (words : List Text) (rows : List Row) (row : Row) → option_named word ≡ Some (name, value) → row.id ≡ name
      → values_of name words ≡ [] → IsReady other rows (word ∷ words) → IsReady other (rows ++ row ∷ []) words
  go_on word name value other words rows row is id none ready = go (bytes_eq name other) refl
    where
      go : (b : Bool) → bytes_eq name other ≡ b → IsReady other (rows ++ row ∷ []) words
      go true e = inl (subst (λ (n : Text). values_of n words ≡ []) ((bytes_eq-Decides name other).0 e) none)
      go false e =
          let same : values_of other (word ∷ words) ≡ values_of other words = values_before other word name value words is ∙ rw e refl in
          elim ready [
            | inl nothing ↦ inl (sym same ∙ nothing)
            | inr one ↦ inr (one.0, sym same ∙ one.1, has_last other rows row one.2 (rw id e), one.3)
          ]

  has_after : (word name value other : Text) (words : List Text) (rows last : List Row) (o : IsOneValued s.rules name) → option_named word ≡ Some (name, value)
      → has_row name rows ≡ false
      → find (λ r. bytes_eq r.id other) last ≡ merged other (find (λ r. bytes_eq r.id other) (rows ++ use_row o.rule value ∷ [])) (values_of other words)
      → find (λ r. bytes_eq r.id other) last ≡ merged other (find (λ r. bytes_eq r.id other) rows) (values_of other (word ∷ words))
  has_after word name value other words rows last o is none has = go (bytes_eq name other) refl
    where
      row : Row
      row = use_row o.rule value

      go : (b : Bool) → bytes_eq name other ≡ b → find (λ r. bytes_eq r.id other) last ≡ merged other (find (λ r. bytes_eq r.id other) rows) (values_of other (word ∷ words))
      go true e =
          let same : name ≡ other = (bytes_eq-Decides name other).0 e in
          let here : values_of other (word ∷ words) ≡ value ∷ values_of other words = values_before other word name value words is ∙ rw e refl in
          let absent : find (λ r. bytes_eq r.id other) rows ≡ None = unfound other rows (subst (λ (n : Text). has_row n rows ≡ false) same none) in
          let rule : arg_by_long s.rules other ≡ Some o.rule = subst (λ (n : Text). arg_by_long s.rules n ≡ Some o.rule) same o.found in
          let id : bytes_eq o.rule.id other ≡ true = rw o.id e in
          let added : find (λ r. bytes_eq r.id other) (rows ++ row ∷ []) ≡ Some row = found_last other rows row ∙ rw (absent, id) refl in
          let before : merged other (find (λ r. bytes_eq r.id other) rows) (values_of other (word ∷ words)) ≡ Some row = rw (absent, here, rule) refl in
          has ∙ ap (λ (r : Option Row). merged other r (values_of other words)) added ∙ sym before
      go false e =
          let same : values_of other (word ∷ words) ≡ values_of other words = values_before other word name value words is ∙ rw e refl in
          let kept : find (λ r. bytes_eq r.id other) (rows ++ row ∷ []) ≡ find (λ r. bytes_eq r.id other) rows = found_last other rows row ∙ found_other _ other row (rw o.id e) in
          has ∙ ap (λ (r : Option Row). merged other r (values_of other words)) kept ∙ ap (λ (v : List Text). merged other (find (λ r. bytes_eq r.id other) rows) v) (sym same)

  pub walk_over : (words : List Text) (rows : List Row) → list_all (is_option names) words ≡ true
      → ((name : Text) → list_any (bytes_eq name) names ≡ true → IsReady name rows words) → IsWalked rows words
  unfolding walk_fault
  walk_over [] rows all ready = record { last = rows; walks = refl; faultless = refl; has = λ name h. merged_none name (find (λ r. bytes_eq r.id name) rows) }
  walk_over (word ∷ words) rows all ready =
      let parts = both _ _ all in
      let said = option_said names word parts.0 in
      let o = facts said.0 said.3 in
      let first = readied word said.0 said.1 words rows said.2 (ready said.0 said.3) in
      let stepped = step s.rules word said.0 said.1 o rows said.2 first.1 in
      let rest = walk_over words (rows ++ use_row o.rule said.1 ∷ []) parts.1
      (λ name h. go_on word said.0 said.1 name words rows (use_row o.rule said.1) said.2 o.id first.0 (ready name h)) in
      record {
        last = rest.last;
        walks = ap (λ (w : Walk). fold (walked s.rules []) w words) stepped ∙ rest.walks;
        faultless = rw (turn s again word said.0 said.1 o rows said.2 first.1 (first.2 o), stepped) rest.faultless;
        has = λ name h. has_after word said.0 said.1 name words rows rest.last o said.2 first.1 (rest.has name h);
      }
