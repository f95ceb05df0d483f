-- The words that are allowed after `load` in the form `--name=value` are refused for nothing, and say what their values do.
use Rattle.std.proofs.Common.{◌≡◌, ◌∙◌, ap, sym, true, false, ℕ, List, [], ◌∷◌, Option, Some, None, refl, arith, codes}
use Rattle.std.specs.Prelude.{find, fold, option_and_then, option_map, unwrap_or}
use Rattle.std.specs.List.{list_all, list_any}
use Rattle.std.specs.Str.{bytes_eq}
use Rattle.clap.specs.Walk.{Row, Text, nothing_held, walk_from, with_default}
use Rattle.clap.specs.Simple.{App, Shape, built}
use Rattle.clap.specs.Faults.{check_fault, walk_fault}
use Rattle.clap.specs.Kinds.{Kinds}
use Rattle.clap.specs.Words.{fault_of, matches_of}
use Rattle.clap.proofs.FaultLemmas.{leaf_fault}
use Rattle.relay_outside.specs.Settings.{range_pairs}
use Rattle.command_line.specs.Commands.{app_of_rules, load_app, load_rules}
use Rattle.command_line.specs.Grammar.{allowed_load, call_count, is_in_form, is_option, lanes_value, load_names, one_value, packet_count, seed_number, values_of}
use Rattle.command_line.specs.Values.{default_config, load_from}
use Rattle.command_line.specs.Words.{load_of, load_words, loads_of, option_number, replay_words, taken, task_after}
use Rattle.command_line.specs.declared.settings.LoadSettings.{LoadSettings}
use Rattle.command_line.specs.declared.settings.Task.{Task}
use Rattle.command_line.specs.declared.settings.Task.TheVariants.{Load}
use Rattle.command_line.proofs.Allowed.{IsOneValued, IsReady, merged, walk_over}
use Rattle.command_line.proofs.Defaults.{find_default, no_fault, or_default, rows_are}
use Rattle.command_line.proofs.Exact.{clear, each_ready, number_is}
use Rattle.command_line.proofs.Laws.{allowed, among_each, facts_of, ready, same_load, says_load, says_number, taken_by}
use Rattle.command_line.proofs.Numerals.{read_alike}
use Rattle.command_line.proofs.ReplayLaw.{replay_law}
use Rattle.command_line.proofs.Tasks.{loads}

abbrev app : App
app = app_of_rules (codes "rtpengine load") load_rules

abbrev top : Shape
top = (built app).top

facts : (name : Text) → list_any (bytes_eq name) load_names ≡ true → IsOneValued top.rules name
facts = facts_of top.rules load_names refl

pub load_law : (words : List Text) (s : LoadSettings) → allowed_load words ≡ Some s → load_words words ≡ Some s
unfolding taken load_app
load_law words s is =
    let may = allowed (list_all (is_option load_names) words) _ s is in
    let parts = says_load _ _ _ _ s may.1 in
    let readies : (name : Text) → list_any (bytes_eq name) load_names ≡ true → IsReady top refl load_names facts name [] words =
    λ name among. among_each (λ (n : Text). IsReady top refl load_names facts n [] words) load_names name (
      ready top refl load_names facts words (codes "calls") call_count (Some 50) parts.0 parts.4 (λ value h. (read_alike 1 1000 parts.0 value (omega arith) h).0),
      (
        ready top refl load_names facts words (codes "packets") packet_count (Some 200) parts.1 parts.5 (λ value h. (read_alike 1 1000 parts.1 value (omega arith) h).0),
        (
          ready top refl load_names facts words (codes "lanes") lanes_value (Some 4) parts.2 parts.6 (λ value h. (read_alike 1 16 parts.2 value (omega arith) h).0),
          (
            ready top refl load_names facts words (codes "seed") seed_number (Some 1) parts.3 parts.7 (λ value h. (read_alike 0 18446744073709551615 parts.3 value (omega arith) h).0),
            tt,
          ),
        ),
      ),
    ) among in
    let walk = walk_over top refl load_names facts words [] may.0 readies in
    let rows : List Row = fold with_default walk.last top.rules in
    let found : (name : Text) → list_any (bytes_eq name) load_names ≡ true → find (λ r. bytes_eq r.id name) rows ≡ or_default name (merged top refl load_names facts name None (values_of name words)) top.rules =
    λ name among. find_default name top.rules walk.last ∙ ap (λ (o : Option Row). or_default name o top.rules) (walk.has name among) in
    let checked : check_fault top rows false ≡ [] = refl in
    let faultless : fault_of app words ≡ [] = leaf_fault (built app) nothing_held words refl ∙ no_fault top refl load_names facts words walk refl checked in
    let rows_is : matches_of app words ≡ rows = rows_are top refl load_names facts words walk in
    let calls : option_number 1 1000 (codes "calls") rows ≡ Some parts.0 = says_number top refl load_names facts words rows (codes "calls") refl (found (codes "calls") refl) 1 1000 50 parts.0 (omega arith) parts.4 refl refl in
    let packets : option_number 1 1000 (codes "packets") rows ≡ Some parts.1 = says_number top refl load_names facts words rows (codes "packets") refl (found (codes "packets") refl) 1 1000 200 parts.1 (omega arith) parts.5 refl refl in
    let lanes : option_number 1 16 (codes "lanes") rows ≡ Some parts.2 = says_number top refl load_names facts words rows (codes "lanes") refl (found (codes "lanes") refl) 1 16 4 parts.2 (omega arith) parts.6 refl refl in
    let seed : option_number 0 18446744073709551615 (codes "seed") rows ≡ Some parts.3 = says_number top refl load_names facts words rows (codes "seed") refl (found (codes "seed") refl) 0 18446744073709551615 1 parts.3 (omega arith) parts.7 refl refl in
    let all : load_of rows ≡ Some s = same_load _ _ _ _ _ _ _ _ _ (calls ∙ sym parts.4) (packets ∙ sym parts.5) (lanes ∙ sym parts.6) (seed ∙ sym parts.7) may.1 in
    ap (option_and_then load_of) (taken_by _ _ rows faultless rows_is) ∙ all

-- other words in that form are refused
pub load_else : (words : List Text) → list_all is_in_form words ≡ true → allowed_load words ≡ None → load_words words ≡ None
unfolding taken load_app
load_else words form none = go (fault_of app words) refl
  where
    go : (kinds : Kinds) → fault_of app words ≡ kinds → load_words words ≡ None
    go (k ∷ ks) e = rw e refl
    go [] e =
        let faultless : walk_fault top [] (walk_from nothing_held) words ≡ [] = (clear (walk_fault top [] (walk_from nothing_held) words) _ (sym (leaf_fault (built app) nothing_held words refl) ∙ e)).0 in
        let each = each_ready top refl load_names facts refl words [] form faultless in
        let walk = walk_over top refl load_names facts words [] each.0 each.1 in
        let rows : List Row = fold with_default walk.last top.rules in
        let found : (name : Text) → list_any (bytes_eq name) load_names ≡ true → find (λ r. bytes_eq r.id name) rows ≡ or_default name (merged top refl load_names facts name None (values_of name words)) top.rules =
        λ name among. find_default name top.rules walk.last ∙ ap (λ (o : Option Row). or_default name o top.rules) (walk.has name among) in
        let rows_is : matches_of app words ≡ rows = rows_are top refl load_names facts words walk in
        let calls : option_number 1 1000 (codes "calls") rows ≡ one_value call_count (Some 50) (values_of (codes "calls") words) = number_is top refl load_names facts words rows (codes "calls") refl (found (codes "calls") refl) (each.1 (codes "calls") refl) 1 1000 50 (omega arith) form refl refl in
        let packets : option_number 1 1000 (codes "packets") rows ≡ one_value packet_count (Some 200) (values_of (codes "packets") words) = number_is top refl load_names facts words rows (codes "packets") refl (found (codes "packets") refl) (each.1 (codes "packets") refl) 1 1000 200 (omega arith) form refl refl in
        let lanes : option_number 1 16 (codes "lanes") rows ≡ one_value lanes_value (Some 4) (values_of (codes "lanes") words) = number_is top refl load_names facts words rows (codes "lanes") refl (found (codes "lanes") refl) (each.1 (codes "lanes") refl) 1 16 4 (omega arith) form refl refl in
        let seed : option_number 0 18446744073709551615 (codes "seed") rows ≡ one_value seed_number (Some 1) (values_of (codes "seed") words) = number_is top refl load_names facts words rows (codes "seed") refl (found (codes "seed") refl) (each.1 (codes "seed") refl) 0 18446744073709551615 1 (omega arith) form refl refl in
        let all : load_of rows ≡ allowed_load words = same_load _ _ _ _ _ _ _ _ _ calls packets lanes seed (sym (rw each.0 refl)) in
        ap (option_and_then load_of) (taken_by _ _ rows e rows_is) ∙ all ∙ none

-- the configuration of `load` is the one that `replay` has without words
pub replay_alone : replay_words [] ≡ Some (record { config = default_config; seed = 1 })
unfolding range_pairs
replay_alone = replay_law [] (record { config = default_config; seed = 1 }) refl

taken_config : (said : Option LoadSettings) (load : LoadSettings) → ((s : LoadSettings) → said ≡ Some s → s.config ≡ default_config) → option_map Load said ≡ Some (Load load) → load.config ≡ default_config
taken_config None load each is = cc
taken_config (Some s) load each is =
    let same : s ≡ load = ap (λ (t : Option Task). unwrap_or (loads_of t) s) is in
    sym (ap (λ (l : LoadSettings). l.config) same) ∙ each s refl

from_config : (calls packets lanes seed : Option ℕ) (s : LoadSettings) → load_from calls packets lanes seed ≡ Some s → s.config ≡ default_config
from_config (Some n) (Some p) (Some l) (Some k) s is = sym (ap (λ (o : Option LoadSettings). unwrap_or (option_map (λ (x : LoadSettings). x.config) o) s.config) is)
from_config None p l k s is = cc
from_config (Some n) None l k s is = cc
from_config (Some n) (Some p) None k s is = cc
from_config (Some n) (Some p) (Some l) None s is = cc

words_config : (rows : Option (List Row)) (s : LoadSettings) → option_and_then load_of rows ≡ Some s → s.config ≡ default_config
words_config None s is = cc
words_config (Some rows) s is =
    from_config (option_number 1 1000 (codes "calls") rows) (option_number 1 1000 (codes "packets") rows) (option_number 1 16 (codes "lanes") rows) (option_number 0 18446744073709551615 (codes "seed") rows) s is

-- whatever the words of `load`, its configuration is that one
pub load_config : (words : List Text) (load : LoadSettings) → task_after (codes "load") words ≡ Some (Load load) → load.config ≡ default_config
load_config words load is =
    taken_config (load_words words) load (λ s. words_config (taken load_app words) s) (sym (loads (codes "load") words (load_words words) refl refl refl refl) ∙ is)
