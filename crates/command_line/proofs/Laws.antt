-- The words that are allowed in the form `--name=value` are refused for nothing, and say what their values do.
use Rattle.std.proofs.Common.{◌≡◌, ◌∙◌, ◌<◌, ap, sym, ℕ, Bool, true, false, List, [], ◌∷◌, Option, Some, None, inl, inr, refl, subst}
use Rattle.std.specs.Prelude.{◌&&◌, find, if◌then◌else◌, option_and_then, option_map, slice_get, ⊤}
use Rattle.std.specs.List.{list_all, list_any}
use Rattle.std.specs.Option.{option_map_or}
use Rattle.std.specs.Str.{bytes_eq}
use Rattle.std.proofs.lemmas.Slice.Eq.{bytes_eq-Decides}
use Rattle.clap.specs.Facts.{parser_of_value, unwrap_or_range}
use Rattle.clap.specs.Kinds.{Kinds, range_kinds}
use Rattle.clap.specs.ValueTests.{accepts}
use Rattle.clap.specs.Walk.{Row, Rule, Text, action_of, arg_by_long, first_of, is_empty, most_values, takes_values}
use Rattle.clap.specs.Simple.{Shape}
use Rattle.clap.specs.declared.builder.action.ArgAction.{ArgAction}
use Rattle.clap.specs.declared.builder.action.ArgAction.TheVariants as action
use Rattle.clap.proofs.WalkLemmas.{both}
use Rattle.clap.specs.Values.{read_as}
use Rattle.clap.specs.Takes.{is_given}
use Rattle.clap.specs.Walk.{reading_by, row_text}
use Rattle.clap.specs.declared.builder.value_parser.Reading.{Reading}
use Rattle.clap.specs.declared.builder.value_parser.Reading.TheVariants.{AsWritten}
use Rattle.relay_outside.specs.declared.address.Addr.{Addr}
use Rattle.relay_outside.specs.declared.address.Ip.{Ip}
use Rattle.relay_outside.specs.declared.settings.Config.{Config}
use Rattle.command_line.specs.Grammar.{one_value, values_of}
use Rattle.command_line.specs.Numbers.{number_within}
use Rattle.command_line.specs.Values.{config_from, load_from, replay_from, settings_from}
use Rattle.command_line.specs.Words.{number_in, option_number, read_or, rows_if}
use Rattle.command_line.specs.declared.settings.LoadSettings.{LoadSettings}
use Rattle.command_line.specs.declared.settings.ReplaySettings.{ReplaySettings}
use Rattle.command_line.specs.declared.settings.Settings.{Settings}
use Rattle.command_line.proofs.Allowed.{IsOneValued, IsReady, merged, use_row}
use Rattle.command_line.proofs.Defaults.{none_of, or_default}
use Rattle.command_line.proofs.Numerals.{read_alike}

abbrev is_set : ArgAction → Bool
is_set action.Set = true
is_set _ = false

sets_by : (a : ArgAction) → is_set a ≡ true → a ≡ action.Set
sets_by action.Set e = refl
sets_by action.Append e = cc
sets_by action.SetTrue e = cc
sets_by action.SetFalse e = cc
sets_by action.Count e = cc
sets_by action.Help e = cc
sets_by action.HelpShort e = cc
sets_by action.HelpLong e = cc
sets_by action.Version e = cc

-- one value a use, as a test
abbrev pub is_one_valued : List Rule → Text → Bool
is_one_valued rules name = option_map_or (λ rule. bytes_eq rule.id name && (takes_values rule && (is_set (action_of rule)
    && is_empty (range_kinds (unwrap_or_range rule.range).start_inclusive (most_values rule) 1)))) (arg_by_long rules name) false

one_valued : (rules : List Rule) (name : Text) → is_one_valued rules name ≡ true → IsOneValued rules name
one_valued rules name test = go (arg_by_long rules name) refl
  where
    go : (o : Option Rule) → arg_by_long rules name ≡ o → IsOneValued rules name
    go None e =
        let bad : false ≡ true = rw e at test in
        cc
    go (Some rule) e =
        let parts = both (bytes_eq rule.id name) _ (rw e at test) in
        let more = both (takes_values rule) _ parts.1 in
        let last = both (is_set (action_of rule)) _ more.1 in
        record { rule = rule; found = e; id = (bytes_eq-Decides rule.id name).0 parts.0; takes = more.0; sets = sets_by (action_of rule) last.0; one = none_of _ last.1 }

-- what holds of each name of a list, of one of them
of_each : (test : Text → Bool) (names : List Text) (name : Text) → list_all test names ≡ true → list_any (bytes_eq name) names ≡ true → test name ≡ true
of_each test [] name all among = cc
of_each test (first ∷ names) name all among = go (bytes_eq name first) refl (λ rest. of_each test names name (both _ _ all).1 rest)
  where
    go : (b : Bool) → bytes_eq name first ≡ b → (list_any (bytes_eq name) names ≡ true → test name ≡ true) → test name ≡ true
    go true is rest = subst (λ (n : Text). test n ≡ true) (sym ((bytes_eq-Decides name first).0 is)) (both _ _ all).0
    go false is rest = rest (rw is at among)

pub facts_of : (rules : List Rule) (names : List Text) → list_all (is_one_valued rules) names ≡ true → (name : Text) → list_any (bytes_eq name) names ≡ true → IsOneValued rules name
facts_of rules names all name among = one_valued rules name (of_each (is_one_valued rules) names name all among)

abbrev pub Each : (Text → Type 0) → List Text → Type 0
Each P [] = ⊤
Each P (name ∷ names) = P name × Each P names

pub among_each : (P : Text → Type 0) (names : List Text) (name : Text) → Each P names → list_any (bytes_eq name) names ≡ true → P name
among_each P [] name all among = cc
among_each P (first ∷ names) name all among = go (bytes_eq name first) refl (λ rest. among_each P names name all.1 rest)
  where
    go : (b : Bool) → bytes_eq name first ≡ b → (list_any (bytes_eq name) names ≡ true → P name) → P name
    go true is rest = subst P (sym ((bytes_eq-Decides name first).0 is)) all.0
    go false is rest = rest (rw is at among)

-- the option of this name takes the value
abbrev pub passes : List Rule → Text → Text → Bool
passes rules name value = option_map_or (λ rule. accepts rule.ignore_case (parser_of_value rule.parser) value) (arg_by_long rules name) false

module _ (s : Shape) (again : s.args_override_self ≡ false) (names : List Text) (facts : (name : Text) → list_any (bytes_eq name) names ≡ true → IsOneValued s.rules name)
    (words : List Text) where
  pub ready : {X : Type 0} (name : Text) (read : Text → Option X) (default : Option X) (x : X) → one_value read default (values_of name words) ≡ Some x
      → ((value : Text) → read value ≡ Some x → passes s.rules name value ≡ true) → IsReady s again names facts name [] words
  ready name read default x is good = go (values_of name words) refl is
    where
      go : (values : List Text) → values_of name words ≡ values → one_value read default values ≡ Some x → IsReady s again names facts name [] words
      go [] e is = inl e
      go (value ∷ []) e is = inr (value, e, refl, λ o. rw o.found at good value is)
      go (value ∷ again ∷ values) e is = cc

  module _ (rows : List Row) (name : Text) (among : list_any (bytes_eq name) names ≡ true)
      (found : find (λ r. bytes_eq r.id name) rows ≡ or_default name (merged s again names facts name None (values_of name words)) s.rules) where
    pub used : (value : Text) → values_of name words ≡ value ∷ [] → find (λ r. bytes_eq r.id name) rows ≡ Some (use_row (facts name among).rule value)
    used value is = found ∙ rw (is, (facts name among).found) refl

    pub unused : values_of name words ≡ [] → find (λ r. bytes_eq r.id name) rows ≡ or_default name None s.rules
    unused is = found ∙ rw is refl

    pub says_text : {X : Type 0} (read : Text → Option X) (default : Option X) (x : X) → one_value read default (values_of name words) ≡ Some x
        → option_and_then read (option_and_then (λ r. slice_get r.values 0) (or_default name None s.rules)) ≡ default
        → option_and_then read (first_of name rows) ≡ Some x
    says_text read default x is dflt = go (values_of name words) refl is
      where
        go : (values : List Text) → values_of name words ≡ values → one_value read default values ≡ Some x → option_and_then read (first_of name rows) ≡ Some x
        go [] e is = rw (unused e) (dflt ∙ is)
        go (value ∷ []) e is = rw (used value e) is
        go (value ∷ again ∷ values) e is = cc

    -- an option without a default, for which no value is one too
    pub says_optional : {X : Type 0} (read : Text → Option X) (default x : X) → one_value read (Some default) (values_of name words) ≡ Some x
        → option_and_then (λ r. slice_get r.values 0) (or_default name None s.rules) ≡ None
        → read_or default read (first_of name rows) ≡ Some x
    says_optional read default x is bare = go (values_of name words) refl is
      where
        go : (values : List Text) → values_of name words ≡ values → one_value read (Some default) values ≡ Some x → read_or default read (first_of name rows) ≡ Some x
        go [] e is = rw (unused e, bare) is
        go (value ∷ []) e is = rw (used value e) is
        go (value ∷ again ∷ values) e is = cc

    pub says_number : (least most default x : ℕ) → most < 18446744073709551616 → one_value (number_within least most) (Some default) (values_of name words) ≡ Some x
        → option_and_then (number_in least most) (option_and_then row_text (or_default name None s.rules)) ≡ Some default
        → option_map reading_by (arg_by_long s.rules name) ≡ Some AsWritten
        → option_number least most name rows ≡ Some x
    says_number least most default x fits is dflt reading = go (values_of name words) refl is
      where
        written : Some (reading_by (facts name among).rule) ≡ Some AsWritten
        written = sym (rw (facts name among).found refl) ∙ reading

        go : (values : List Text) → values_of name words ≡ values → one_value (number_within least most) (Some default) values ≡ Some x → option_number least most name rows ≡ Some x
        go [] e is = rw (unused e) (dflt ∙ is)
        go (value ∷ []) e is =
            let written_as : option_map (λ (how : Reading). read_as how value) (Some (reading_by (facts name among).rule)) ≡ Some value = ap (option_map (λ (how : Reading). read_as how value)) written in
            rw (used value e) (ap (option_and_then (number_in least most)) written_as ∙ (read_alike least most x value fits is).1)
        go (value ∷ again ∷ values) e is = cc

    pub says_given : {X : Type 0} (read : Text → Option X) (x : X) → one_value read None (values_of name words) ≡ Some x → is_given name rows ≡ true
    says_given read x is = go (values_of name words) refl is
      where
        go : (values : List Text) → values_of name words ≡ values → one_value read None values ≡ Some x → is_given name rows ≡ true
        go [] e is = cc
        go (value ∷ []) e is = rw (used value e) refl
        go (value ∷ again ∷ values) e is = cc

-- what each option says, where they say a configuration
pub record SaysConfig (interface : Option Ip) (interface6 : Option (Option Ip)) (port_min port_max max_sessions timeout offer_timeout : Option ℕ) : Type 0 where
  pub i : Ip
  pub v : Option Ip
  pub p : ℕ
  pub q : ℕ
  pub m : ℕ
  pub t : ℕ
  pub o : ℕ
  pub i_is : interface ≡ Some i
  pub v_is : interface6 ≡ Some v
  pub p_is : port_min ≡ Some p
  pub q_is : port_max ≡ Some q
  pub m_is : max_sessions ≡ Some m
  pub t_is : timeout ≡ Some t
  pub o_is : offer_timeout ≡ Some o

pub says_config : (interface : Option Ip) (interface6 : Option (Option Ip)) (port_min port_max max_sessions timeout offer_timeout : Option ℕ) (config : Config)
    → config_from interface interface6 port_min port_max max_sessions timeout offer_timeout ≡ Some config
    → SaysConfig interface interface6 port_min port_max max_sessions timeout offer_timeout
says_config (Some i) (Some v) (Some p) (Some q) (Some m) (Some t) (Some o) config e =
    record { i = i; v = v; p = p; q = q; m = m; t = t; o = o; i_is = refl; v_is = refl; p_is = refl; q_is = refl; m_is = refl; t_is = refl; o_is = refl }
says_config None v b c d e f config is = cc
says_config (Some a) None b c d e f config is = cc
says_config (Some a) (Some v) None c d e f config is = cc
says_config (Some a) (Some v) (Some b) None d e f config is = cc
says_config (Some a) (Some v) (Some b) (Some c) None e f config is = cc
says_config (Some a) (Some v) (Some b) (Some c) (Some d) None f config is = cc
says_config (Some a) (Some v) (Some b) (Some c) (Some d) (Some e) None config is = cc

pub says_settings : (config : Option Config) (listen : Option Addr) (turns threads : Option ℕ) (s : Settings) → settings_from config listen turns threads ≡ Some s
    → (c : Config) × (l : Addr) × (n : ℕ) × (k : ℕ) × (config ≡ Some c) × (listen ≡ Some l) × (turns ≡ Some n) × (threads ≡ Some k)
says_settings (Some c) (Some l) (Some n) (Some k) s e = (c, l, n, k, refl, refl, refl, refl)
says_settings None l n k s e = cc
says_settings (Some c) None n k s e = cc
says_settings (Some c) (Some l) None k s e = cc
says_settings (Some c) (Some l) (Some n) None s e = cc

pub says_replay : (config : Option Config) (seed : Option ℕ) (s : ReplaySettings) → replay_from config seed ≡ Some s → (c : Config) × (n : ℕ) × (config ≡ Some c) × (seed ≡ Some n)
says_replay (Some c) (Some n) s e = (c, n, refl, refl)
says_replay None n s e = cc
says_replay (Some c) None s e = cc

pub says_load : (calls packets lanes seed : Option ℕ) (s : LoadSettings) → load_from calls packets lanes seed ≡ Some s
    → (n : ℕ) × (p : ℕ) × (l : ℕ) × (k : ℕ) × (calls ≡ Some n) × (packets ≡ Some p) × (lanes ≡ Some l) × (seed ≡ Some k)
says_load (Some n) (Some p) (Some l) (Some k) s e = (n, p, l, k, refl, refl, refl, refl)
says_load None p l k s e = cc
says_load (Some n) None l k s e = cc
says_load (Some n) (Some p) None k s e = cc
says_load (Some n) (Some p) (Some l) None s e = cc

-- the words of options, where they say something
pub allowed : {X : Type 0} (all : Bool) (said : Option X) (x : X) → (if all then said else None) ≡ Some x → (all ≡ true) × (said ≡ Some x)
allowed true said x e = (refl, e)
allowed false said x e = cc

-- The same from the same parts.

pub same_config : (i j : Option Ip) (v v2 : Option (Option Ip)) (p p2 q q2 m m2 t t2 o o2 : Option ℕ) (c : Option Config) → j ≡ i → v2 ≡ v → p2 ≡ p → q2 ≡ q → m2 ≡ m → t2 ≡ t → o2 ≡ o
    → config_from i v p q m t o ≡ c → config_from j v2 p2 q2 m2 t2 o2 ≡ c
same_config i j v v2 p p2 q q2 m m2 t t2 o o2 c ei ev ep eq em et eo is = rw (ei, ev, ep, eq, em, et, eo) is

pub same_settings : (c c2 : Option Config) (l l2 : Option Addr) (n n2 k k2 : Option ℕ) (s : Option Settings) → c2 ≡ c → l2 ≡ l → n2 ≡ n → k2 ≡ k
    → settings_from c l n k ≡ s → settings_from c2 l2 n2 k2 ≡ s
same_settings c c2 l l2 n n2 k k2 s ec el en ek is = rw (ec, el, en, ek) is

pub same_replay : (c c2 : Option Config) (n n2 : Option ℕ) (s : Option ReplaySettings) → c2 ≡ c → n2 ≡ n → replay_from c n ≡ s → replay_from c2 n2 ≡ s
same_replay c c2 n n2 s ec en is = rw (ec, en) is

pub same_load : (n n2 p p2 l l2 k k2 : Option ℕ) (s : Option LoadSettings) → n2 ≡ n → p2 ≡ p → l2 ≡ l → k2 ≡ k → load_from n p l k ≡ s → load_from n2 p2 l2 k2 ≡ s
same_load n n2 p p2 l l2 k k2 s en ep el ek is = rw (en, ep, el, ek) is

pub taken_by : (kinds : Kinds) (m rows : List Row) → kinds ≡ [] → m ≡ rows → rows_if kinds m ≡ Some rows
taken_by kinds m rows none is = rw (none, is) refl
