-- Words in the form `--name=value` that `clap` refuses for nothing: each is that of an option, none stands twice, and each option takes its value.
use Rattle.std.proofs.Common.{◌≡◌, ◌∙◌, ◌<◌, ap, sym, ℕ, Bool, true, false, List, [], ◌∷◌, ◌++◌, Option, Some, None, length, inl, inr, refl, subst, arith}
use Rattle.std.proofs.lemmas.Bool.{eqb-true}
use Rattle.std.proofs.lemmas.Slice.Eq.{bytes_eq-Decides}
use Rattle.std.specs.Prelude.{◌&&◌, ◌||◌, is_some, not, find, if◌then◌else◌, option_and_then, option_map, slice_get}
use Rattle.std.specs.List.{cons_option, list_all, list_any}
use Rattle.std.specs.Option.{option_map_or}
use Rattle.std.specs.Str.{bytes_eq}
use Rattle.clap.specs.Facts.{parser_of_value}
use Rattle.clap.specs.Faults.{repeat_fault, set_fault, values_fault, turn_fault, walk_fault}
use Rattle.clap.specs.Kinds.{Kinds, or_else}
use Rattle.clap.specs.Simple.{Shape}
use Rattle.clap.specs.ValueTests.{accepts}
use Rattle.clap.specs.Values.{read_as, refused_kind}
use Rattle.clap.specs.Walk.{Row, Rule, Text, Walk, arg_by_long, first_of, has_long, has_row, is_empty, reading_by, row_text, takes_values, walk_from}
use Rattle.clap.specs.declared.builder.value_parser.Reading.{Reading}
use Rattle.clap.specs.declared.builder.value_parser.Reading.TheVariants.{AsWritten}
use Rattle.clap.specs.declared.error.kind.ErrorKind.TheVariants as kind
use Rattle.clap.proofs.WalkLemmas.{both}
use Rattle.command_line.specs.Grammar.{is_in_form, is_option, is_respelled, option_named, one_value, values_of}
use Rattle.command_line.specs.Numbers.{number_within}
use Rattle.command_line.specs.Words.{number_in, option_number, read_or}
use Rattle.command_line.proofs.Allowed.{IsAccepted, IsOneValued, IsReady, held, long, merged, no_dashes, step, use_row, values_before}
use Rattle.command_line.proofs.Defaults.{or_default}
use Rattle.command_line.proofs.Laws.{unused, used}
use Rattle.command_line.proofs.Numerals.{injected, reads_same}

pub clear : (p q : Kinds) → or_else p q ≡ [] → (p ≡ []) × (q ≡ [])
clear [] q e = (refl, e)
clear (k ∷ ks) q e = cc

-- an option that takes values has one of the names, and no other
abbrev pub is_named : List Text → Rule → Bool
is_named names rule = not (takes_values rule) || (is_empty rule.aliases && option_map_or (λ name. list_any (bytes_eq name) names) rule.long true)

long_is : (names aliases : List Text) (long : Option Text) (name : Text) → is_empty aliases ≡ true
    → (option_map_or (λ s. bytes_eq s name) long false || list_any (λ alias. bytes_eq alias name) aliases) ≡ true
    → option_map_or (λ n. list_any (bytes_eq n) names) long true ≡ true → list_any (bytes_eq name) names ≡ true
long_is names (a ∷ more) said name none has among = absurd (omega (arith, eqb-true (length (a ∷ more)) 0 none))
long_is names [] None name none has among = cc
long_is names [] (Some s) name none has among = go (bytes_eq s name) refl
  where
    go : (b : Bool) → bytes_eq s name ≡ b → list_any (bytes_eq name) names ≡ true
    go true is = subst (λ (n : Text). list_any (bytes_eq n) names ≡ true) ((bytes_eq-Decides s name).0 is) among
    go false is =
        let bad : false ≡ true = rw is at has in
        cc

named_option : (names : List Text) (rules : List Rule) (name : Text) (rule : Rule) → list_all (is_named names) rules ≡ true → arg_by_long rules name ≡ Some rule
    → takes_values rule ≡ true → list_any (bytes_eq name) names ≡ true
named_option names [] name rule all found takes = cc
named_option names (first ∷ rules) name rule all found takes = go (not (is_some first.index) && has_long first name) refl (λ later. named_option names rules name rule (both _ _ all).1 later takes)
  where
    of_first : (not (is_some first.index) && has_long first name) ≡ true → takes_values first ≡ true → list_any (bytes_eq name) names ≡ true
    of_first has takes =
        let option_named : (is_empty first.aliases && option_map_or (λ name. list_any (bytes_eq name) names) first.long true) ≡ true = rw takes at (both (is_named names first) (list_all (is_named names) rules) all).0 in
        let parts = both (is_empty first.aliases) (option_map_or (λ name. list_any (bytes_eq name) names) first.long true) option_named in
        long_is names first.aliases first.long name parts.0 (both (not (is_some first.index)) (has_long first name) has).1 parts.1

    go : (b : Bool) → (not (is_some first.index) && has_long first name) ≡ b → (arg_by_long rules name ≡ Some rule → list_any (bytes_eq name) names ≡ true) → list_any (bytes_eq name) names ≡ true
    go true e rest =
        let same : Some first ≡ Some rule = rw e at found in
        of_first e (subst (λ (r : Rule). takes_values r ≡ true) (sym (injected first rule same)) takes)
    go false e rest = rest (rw e at found)

plain_so : (b : Bool) → not b ≡ true → b ≡ false
plain_so false e = refl
plain_so true e = cc

-- the text of a word in the form
form_said : (word : Text) → is_in_form word ≡ true → (name : Text) × (value : Text) × (option_named word ≡ Some (name, value)) × (is_respelled value ≡ false)
form_said word is = go (option_named word) refl
  where
    go : (o : Option (Text × Text)) → option_named word ≡ o → (name : Text) × (value : Text) × (option_named word ≡ Some (name, value)) × (is_respelled value ≡ false)
    go None e =
        let bad : false ≡ true = rw e at is in
        cc
    go (Some said) e = (said.0, said.1, e, plain_so (is_respelled said.1) (rw e at is))

had_none : (name : Text) (rows : List Row) (last : Row) → has_row name (rows ++ last ∷ []) ≡ false → has_row name rows ≡ false
had_none name [] last none = refl
had_none name (row ∷ rows) last none = go (bytes_eq row.id name) refl (λ absent. had_none name rows last absent)
  where
    go : (b : Bool) → bytes_eq row.id name ≡ b → (has_row name (rows ++ last ∷ []) ≡ false → has_row name rows ≡ false) → has_row name (row ∷ rows) ≡ false
    go true is rest =
        let bad : true ≡ false = rw is at none in
        cc
    go false is rest = rw is (rest (rw is at none))

has_new : (name : Text) (rows : List Row) (last : Row) → last.id ≡ name → has_row name (rows ++ last ∷ []) ≡ true
has_new name [] last id =
    let same : bytes_eq last.id name ≡ true = (bytes_eq-Decides last.id name).1 id in
    rw same refl
has_new name (row ∷ rows) last id = go (bytes_eq row.id name) refl (has_new name rows last id)
  where
    go : (b : Bool) → bytes_eq row.id name ≡ b → has_row name (rows ++ last ∷ []) ≡ true → has_row name ((row ∷ rows) ++ last ∷ []) ≡ true
    go true is rest = rw is refl
    go false is rest = rw is rest

module _ (s : Shape) (again : s.args_override_self ≡ false) (names : List Text) (facts : (name : Text) → list_any (bytes_eq name) names ≡ true → IsOneValued s.rules name)
    (only : list_all (is_named names) s.rules ≡ true) where
  -- the name of a word that is refused for nothing is that of an option
  met_name : (word name value : Text) (rows : List Row) → option_named word ≡ Some (name, value) → turn_fault s [] (walk_from (held rows)) word ≡ []
      → list_any (bytes_eq name) names ≡ true
  met_name word name value rows is none = go (arg_by_long s.rules name) refl
    where
      go : (o : Option Rule) → arg_by_long s.rules name ≡ o → list_any (bytes_eq name) names ≡ true
      go None e =
          let bad : kind.UnknownArgument ∷ [] ≡ [] = rw (no_dashes word name value is, long word name value is, e) at none in
          cc
      go (Some rule) e = takes (takes_values rule) refl
        where
          takes : (b : Bool) → takes_values rule ≡ b → list_any (bytes_eq name) names ≡ true
          takes true t = named_option names s.rules name rule only e t
          takes false t =
              let bad : kind.TooManyValues ∷ [] ≡ [] = rw (no_dashes word name value is, long word name value is, e, t) at none in
              cc

  -- and that option had no row, and takes the value
  met_use : (word name value : Text) (rows : List Row) (o : IsOneValued s.rules name) → option_named word ≡ Some (name, value) → turn_fault s [] (walk_from (held rows)) word ≡ []
      → (has_row name rows ≡ false) × (accepts o.rule.ignore_case (parser_of_value o.rule.parser) value ≡ true)
  met_use word name value rows o is none = (subst (λ (n : Text). has_row n rows ≡ false) o.id (fresh (has_row o.rule.id rows) refl), taken (accepts o.rule.ignore_case (parser_of_value o.rule.parser) value) refl)
    where
      set : set_fault false o.rule (value ∷ []) rows ≡ []
      set = (clear (set_fault false o.rule (value ∷ []) rows) [] (rw (no_dashes word name value is, long word name value is, o.found, o.takes, o.one, o.sets, again) at none)).0

      fresh : (b : Bool) → has_row o.rule.id rows ≡ b → has_row o.rule.id rows ≡ false
      fresh false e = e
      fresh true e =
          let bad : kind.ArgumentConflict ∷ [] ≡ [] = rw e at set in
          cc

      taken : (b : Bool) → accepts o.rule.ignore_case (parser_of_value o.rule.parser) value ≡ b → accepts o.rule.ignore_case (parser_of_value o.rule.parser) value ≡ true
      taken true e = e
      taken false e =
          let bad : refused_kind (parser_of_value o.rule.parser) ∷ [] ≡ [] = rw e at (clear (repeat_fault false o.rule.id rows) (values_fault o.rule (value ∷ [])) set).1 in
          cc

  -- words that are refused for nothing: each is that of an option, and gives an option that it is the first to name a value that this takes
  pub each_ready : (words : List Text) (rows : List Row) → list_all is_in_form words ≡ true → walk_fault s [] (walk_from (held rows)) words ≡ []
      → (list_all (is_option names) words ≡ true) × ((name : Text) → list_any (bytes_eq name) names ≡ true → IsReady s again names facts name rows words)
  unfolding walk_fault
  each_ready [] rows form none = (refl, λ name among. inl refl)
  each_ready (word ∷ words) rows form none =
      let forms = both _ _ form in
      let said = form_said word forms.0 in
      let faults = clear (turn_fault s [] (walk_from (held rows)) word) _ none in
      let among = met_name word said.0 said.1 rows said.2 faults.0 in
      let o = facts said.0 among in
      let used = met_use word said.0 said.1 rows o said.2 faults.0 in
      let row = use_row o.rule said.1 in
      let stepped = step s.rules word said.0 said.1 o rows said.2 used.0 in
      let after : walk_fault s [] (walk_from (held (rows ++ row ∷ []))) words ≡ [] = subst (λ (w : Walk). walk_fault s [] w words ≡ []) stepped faults.1 in
      let rest = each_ready words (rows ++ row ∷ []) forms.1 after in
      let named_so : is_option names word ≡ true = rw (said.2, among) refl in
      (rw named_so rest.0, λ other h. ready word said.0 said.1 other words rows o said.2 faults.0 used.0 (rest.1 other h))
    where
      ready : (word name value other : Text) (words : List Text) (rows : List Row) (o : IsOneValued s.rules name) → option_named word ≡ Some (name, value)
          → turn_fault s [] (walk_from (held rows)) word ≡ [] → has_row name rows ≡ false
          → IsReady s again names facts other (rows ++ use_row o.rule value ∷ []) words → IsReady s again names facts other rows (word ∷ words)
      ready word name value other words rows o is none new rest = go (bytes_eq name other) refl
        where
          row : Row
          row = use_row o.rule value

          before : values_of other (word ∷ words) ≡ cons_option (if bytes_eq name other then Some value else None) (values_of other words)
          before = values_before other word name value words is

          go : (b : Bool) → bytes_eq name other ≡ b → IsReady s again names facts other rows (word ∷ words)
          go true e =
              let same : name ≡ other = (bytes_eq-Decides name other).0 e in
              let here : values_of other (word ∷ words) ≡ value ∷ values_of other words = before ∙ rw e refl in
              elim rest [
                | inl nothing ↦ inr (
                  value,
                  here ∙ ap (λ (v : List Text). value ∷ v) nothing,
                  subst (λ (n : Text). has_row n rows ≡ false) same new,
                  subst (λ (n : Text). IsAccepted s again names facts n value) same (λ p. (met_use word name value rows p is none).1),
                )
                | inr one ↦
                    let bad : true ≡ false = sym (has_new other rows row (o.id ∙ same)) ∙ one.2 in
                    cc
              ]
          go false e =
              let same : values_of other (word ∷ words) ≡ values_of other words = before ∙ rw e refl in
              elim rest [
                | inl nothing ↦ inl (same ∙ nothing)
                | inr one ↦ inr (one.0, same ∙ one.1, had_none other rows row one.2, one.3)
              ]

-- no value that words in the form give is a number in another spelling
pub plain_values : (name : Text) (words : List Text) → list_all is_in_form words ≡ true → list_all (λ value. not (is_respelled value)) (values_of name words) ≡ true
plain_values name [] form = refl
plain_values name (word ∷ words) form = go (bytes_eq said.0 name) refl (plain_values name words (both _ _ form).1)
  where
    said : (n : Text) × (value : Text) × (option_named word ≡ Some (n, value)) × (is_respelled value ≡ false)
    said = form_said word (both (is_in_form word) (list_all is_in_form words) form).0

    before : values_of name (word ∷ words) ≡ cons_option (if bytes_eq said.0 name then Some said.1 else None) (values_of name words)
    before = values_before name word said.0 said.1 words said.2

    go : (b : Bool) → bytes_eq said.0 name ≡ b → list_all (λ value. not (is_respelled value)) (values_of name words) ≡ true
        → list_all (λ value. not (is_respelled value)) (values_of name (word ∷ words)) ≡ true
    go true e rest =
        let here : values_of name (word ∷ words) ≡ said.1 ∷ values_of name words = before ∙ rw e refl in
        rw (here, said.3) rest
    go false e rest =
        let here : values_of name (word ∷ words) ≡ values_of name words = before ∙ rw e refl in
        rw here rest

module _ (s : Shape) (again : s.args_override_self ≡ false) (names : List Text) (facts : (name : Text) → list_any (bytes_eq name) names ≡ true → IsOneValued s.rules name)
    (words : List Text) (rows : List Row) (name : Text) (among : list_any (bytes_eq name) names ≡ true)
    (found : find (λ r. bytes_eq r.id name) rows ≡ or_default name (merged s again names facts name None (values_of name words)) s.rules)
    (ready : IsReady s again names facts name [] words) where
  -- an option says what its one value does, or its default
  pub text_is : {X : Type 0} (read : Text → Option X) (default : Option X)
      → option_and_then read (option_and_then (λ r. slice_get r.values 0) (or_default name None s.rules)) ≡ default
      → option_and_then read (first_of name rows) ≡ one_value read default (values_of name words)
  text_is read default dflt =
      elim ready [
        | inl none ↦ rw (unused s again names facts words rows name among found none, none) dflt
        | inr one ↦ rw (used s again names facts words rows name among found one.0 one.1, one.1) refl
      ]

  pub optional_is : {X : Type 0} (read : Text → Option X) (default : X)
      → option_and_then (λ r. slice_get r.values 0) (or_default name None s.rules) ≡ None
      → read_or default read (first_of name rows) ≡ one_value read (Some default) (values_of name words)
  optional_is read default bare =
      elim ready [
        | inl none ↦ rw (unused s again names facts words rows name among found none, bare, none) refl
        | inr one ↦ rw (used s again names facts words rows name among found one.0 one.1, one.1) refl
      ]

  pub number_is : (least most default : ℕ) → most < 18446744073709551616 → list_all is_in_form words ≡ true
      → option_and_then (number_in least most) (option_and_then row_text (or_default name None s.rules)) ≡ Some default
      → option_map reading_by (arg_by_long s.rules name) ≡ Some AsWritten
      → option_number least most name rows ≡ one_value (number_within least most) (Some default) (values_of name words)
  number_is least most default fits form dflt reading =
      let written : Some (reading_by (facts name among).rule) ≡ Some AsWritten = sym (rw (facts name among).found refl) ∙ reading in
      elim ready [
        | inl none ↦ rw (unused s again names facts words rows name among found none, none) dflt
        | inr one ↦
            let all : list_all (λ value. not (is_respelled value)) (one.0 ∷ []) ≡ true = subst (λ (values : List Text). list_all (λ value. not (is_respelled value)) values ≡ true) one.1 (plain_values name words form) in
            let plain : not (is_respelled one.0) ≡ true = (both _ _ all).0 in
            let read : option_map (λ (how : Reading). read_as how one.0) (Some (reading_by (facts name among).rule)) ≡ Some one.0 = ap (option_map (λ (how : Reading). read_as how one.0)) written in
            rw (used s again names facts words rows name among found one.0 one.1, one.1)
            (ap (option_and_then (number_in least most)) read ∙ reads_same least most one.0 fits (plain_so (is_respelled one.0) plain))
      ]
