-- The words that are allowed after `replay` in the form `--name=value` are refused for nothing, and say what their values do.
use Rattle.std.proofs.Common.{◌≡◌, ◌∙◌, ap, sym, true, false, List, [], ◌∷◌, Option, Some, None, refl, arith, codes}
use Rattle.std.specs.Prelude.{find, fold, option_and_then}
use Rattle.std.specs.List.{list_all, list_any}
use Rattle.std.specs.Str.{bytes_eq}
use Rattle.clap.specs.Walk.{Row, Text, nothing_held, walk_from, with_default}
use Rattle.clap.specs.Simple.{App, Shape, built}
use Rattle.clap.specs.Faults.{check_fault, walk_fault}
use Rattle.clap.specs.Kinds.{Kinds}
use Rattle.clap.specs.Words.{fault_of, first_of, matches_of}
use Rattle.clap.proofs.FaultLemmas.{leaf_fault}
use Rattle.command_line.specs.Commands.{app_of_rules, replay_app, replay_rules}
use Rattle.command_line.specs.Grammar.{allowed_replay, configuration, is_in_form, is_option, media_port_value, one_value, second_count, replay_names, seed_number, session_count, values_of}
use Rattle.command_line.specs.Values.{ipv4_address, replay_interface, other_interface}
use Rattle.command_line.specs.Words.{config_of, option_number, read_or, replay_of, replay_words, taken}
use Rattle.command_line.specs.declared.settings.ReplaySettings.{ReplaySettings}
use Rattle.command_line.proofs.Allowed.{IsOneValued, IsReady, merged, walk_over}
use Rattle.command_line.proofs.Defaults.{find_default, no_fault, or_default, rows_are}
use Rattle.command_line.proofs.Exact.{clear, each_ready, number_is, optional_is, text_is}
use Rattle.command_line.proofs.Laws.{allowed, among_each, facts_of, ready, says_config, says_number, says_optional, says_replay, says_text, same_config, same_replay, taken_by}
use Rattle.command_line.proofs.Numerals.{read_alike}

abbrev app : App
app = app_of_rules (codes "rtpengine replay") replay_rules

abbrev top : Shape
top = (built app).top

facts : (name : Text) → list_any (bytes_eq name) replay_names ≡ true → IsOneValued top.rules name
facts = facts_of top.rules replay_names refl

pub replay_law : (words : List Text) (s : ReplaySettings) → allowed_replay words ≡ Some s → replay_words words ≡ Some s
unfolding taken replay_app
replay_law words s is =
    let may = allowed (list_all (is_option replay_names) words) _ s is in
    let parts = says_replay _ _ s may.1 in
    let config = says_config _ _ _ _ _ _ _ parts.0 parts.2 in
    let readies : (name : Text) → list_any (bytes_eq name) replay_names ≡ true → IsReady top refl replay_names facts name [] words =
    λ name among. among_each (λ (n : Text). IsReady top refl replay_names facts n [] words) replay_names name (
      ready top refl replay_names facts words (codes "interface") ipv4_address (Some replay_interface) config.i config.i_is (λ value h. refl),
      (
        ready top refl replay_names facts words (codes "interface6") other_interface (Some None) config.v config.v_is (λ value h. refl),
        (
          ready top refl replay_names facts words (codes "seed") seed_number (Some 1) parts.1 parts.3 (λ value h. (read_alike 0 18446744073709551615 parts.1 value (omega arith) h).0),
          (
            ready top refl replay_names facts words (codes "port-min") media_port_value (Some 30000) config.p config.p_is (λ value h. (read_alike 1024 65535 config.p value (omega arith) h).0),
            (
              ready top refl replay_names facts words (codes "port-max") media_port_value (Some 40000) config.q config.q_is (λ value h. (read_alike 1024 65535 config.q value (omega arith) h).0),
              (
                ready top refl replay_names facts words (codes "max-sessions") session_count (Some 2048) config.m config.m_is (λ value h. (read_alike 1 2048 config.m value (omega arith) h).0),
                (
                  ready top refl replay_names facts words (codes "timeout") second_count (Some 60) config.t config.t_is (λ value h. (read_alike 1 86400 config.t value (omega arith) h).0),
                  (
                    ready top refl replay_names facts words (codes "offer-timeout") second_count (Some 3600) config.o config.o_is (λ value h. (read_alike 1 86400 config.o value (omega arith) h).0),
                    tt,
                  ),
                ),
              ),
            ),
          ),
        ),
      ),
    ) among in
    let walk = walk_over top refl replay_names facts words [] may.0 readies in
    let rows : List Row = fold with_default walk.last top.rules in
    let found : (name : Text) → list_any (bytes_eq name) replay_names ≡ true → find (λ r. bytes_eq r.id name) rows ≡ or_default name (merged top refl replay_names facts name None (values_of name words)) top.rules =
    λ name among. find_default name top.rules walk.last ∙ ap (λ (o : Option Row). or_default name o top.rules) (walk.has name among) in
    let checked : check_fault top rows false ≡ [] = refl in
    let faultless : fault_of app words ≡ [] = leaf_fault (built app) nothing_held words refl ∙ no_fault top refl replay_names facts words walk refl checked in
    let rows_is : matches_of app words ≡ rows = rows_are top refl replay_names facts words walk in
    let interface : option_and_then ipv4_address (first_of (codes "interface") rows) ≡ Some config.i = says_text top refl replay_names facts words rows (codes "interface") refl (found (codes "interface") refl) ipv4_address (Some replay_interface) config.i config.i_is refl in
    let interface6 : read_or None other_interface (first_of (codes "interface6") rows) ≡ Some config.v = says_optional top refl replay_names facts words rows (codes "interface6") refl (found (codes "interface6") refl) other_interface None config.v config.v_is refl in
    let port_min : option_number 1024 65535 (codes "port-min") rows ≡ Some config.p = says_number top refl replay_names facts words rows (codes "port-min") refl (found (codes "port-min") refl) 1024 65535 30000 config.p (omega arith) config.p_is refl refl in
    let port_max : option_number 1024 65535 (codes "port-max") rows ≡ Some config.q = says_number top refl replay_names facts words rows (codes "port-max") refl (found (codes "port-max") refl) 1024 65535 40000 config.q (omega arith) config.q_is refl refl in
    let max_sessions : option_number 1 2048 (codes "max-sessions") rows ≡ Some config.m = says_number top refl replay_names facts words rows (codes "max-sessions") refl (found (codes "max-sessions") refl) 1 2048 2048 config.m (omega arith) config.m_is refl refl in
    let timeout : option_number 1 86400 (codes "timeout") rows ≡ Some config.t = says_number top refl replay_names facts words rows (codes "timeout") refl (found (codes "timeout") refl) 1 86400 60 config.t (omega arith) config.t_is refl refl in
    let offer_timeout : option_number 1 86400 (codes "offer-timeout") rows ≡ Some config.o = says_number top refl replay_names facts words rows (codes "offer-timeout") refl (found (codes "offer-timeout") refl) 1 86400 3600 config.o (omega arith) config.o_is refl refl in
    let seed : option_number 0 18446744073709551615 (codes "seed") rows ≡ Some parts.1 = says_number top refl replay_names facts words rows (codes "seed") refl (found (codes "seed") refl) 0 18446744073709551615 1 parts.1 (omega arith) parts.3 refl refl in
    let config_is : config_of rows ≡ Some parts.0 = same_config _ _ _ _ _ _ _ _ _ _ _ _ _ _ _ (interface ∙ sym config.i_is) (interface6 ∙ sym config.v_is) (port_min ∙ sym config.p_is) (port_max ∙ sym config.q_is)
    (max_sessions ∙ sym config.m_is) (timeout ∙ sym config.t_is) (offer_timeout ∙ sym config.o_is) parts.2 in
    let all : replay_of rows ≡ Some s = same_replay _ _ _ _ _ (config_is ∙ sym parts.2) (seed ∙ sym parts.3) may.1 in
    ap (option_and_then replay_of) (taken_by _ _ rows faultless rows_is) ∙ all

-- other words in that form are refused
pub replay_else : (words : List Text) → list_all is_in_form words ≡ true → allowed_replay words ≡ None → replay_words words ≡ None
unfolding taken replay_app
replay_else words form none = go (fault_of app words) refl
  where
    go : (kinds : Kinds) → fault_of app words ≡ kinds → replay_words words ≡ None
    go (k ∷ ks) e = rw e refl
    go [] e =
        let faultless : walk_fault top [] (walk_from nothing_held) words ≡ [] = (clear (walk_fault top [] (walk_from nothing_held) words) _ (sym (leaf_fault (built app) nothing_held words refl) ∙ e)).0 in
        let each = each_ready top refl replay_names facts refl words [] form faultless in
        let walk = walk_over top refl replay_names facts words [] each.0 each.1 in
        let rows : List Row = fold with_default walk.last top.rules in
        let found : (name : Text) → list_any (bytes_eq name) replay_names ≡ true → find (λ r. bytes_eq r.id name) rows ≡ or_default name (merged top refl replay_names facts name None (values_of name words)) top.rules =
        λ name among. find_default name top.rules walk.last ∙ ap (λ (o : Option Row). or_default name o top.rules) (walk.has name among) in
        let rows_is : matches_of app words ≡ rows = rows_are top refl replay_names facts words walk in
        let interface : option_and_then ipv4_address (first_of (codes "interface") rows) ≡ one_value ipv4_address (Some replay_interface) (values_of (codes "interface") words) = text_is top refl replay_names facts words rows (codes "interface") refl (found (codes "interface") refl) (each.1 (codes "interface") refl) ipv4_address (Some replay_interface) refl in
        let interface6 : read_or None other_interface (first_of (codes "interface6") rows) ≡ one_value other_interface (Some None) (values_of (codes "interface6") words) = optional_is top refl replay_names facts words rows (codes "interface6") refl (found (codes "interface6") refl) (each.1 (codes "interface6") refl) other_interface None refl in
        let port_min : option_number 1024 65535 (codes "port-min") rows ≡ one_value media_port_value (Some 30000) (values_of (codes "port-min") words) = number_is top refl replay_names facts words rows (codes "port-min") refl (found (codes "port-min") refl) (each.1 (codes "port-min") refl) 1024 65535 30000 (omega arith) form refl refl in
        let port_max : option_number 1024 65535 (codes "port-max") rows ≡ one_value media_port_value (Some 40000) (values_of (codes "port-max") words) = number_is top refl replay_names facts words rows (codes "port-max") refl (found (codes "port-max") refl) (each.1 (codes "port-max") refl) 1024 65535 40000 (omega arith) form refl refl in
        let max_sessions : option_number 1 2048 (codes "max-sessions") rows ≡ one_value session_count (Some 2048) (values_of (codes "max-sessions") words) = number_is top refl replay_names facts words rows (codes "max-sessions") refl (found (codes "max-sessions") refl) (each.1 (codes "max-sessions") refl) 1 2048 2048 (omega arith) form refl refl in
        let timeout : option_number 1 86400 (codes "timeout") rows ≡ one_value second_count (Some 60) (values_of (codes "timeout") words) = number_is top refl replay_names facts words rows (codes "timeout") refl (found (codes "timeout") refl) (each.1 (codes "timeout") refl) 1 86400 60 (omega arith) form refl refl in
        let offer_timeout : option_number 1 86400 (codes "offer-timeout") rows ≡ one_value second_count (Some 3600) (values_of (codes "offer-timeout") words) = number_is top refl replay_names facts words rows (codes "offer-timeout") refl (found (codes "offer-timeout") refl) (each.1 (codes "offer-timeout") refl) 1 86400 3600 (omega arith) form refl refl in
        let seed : option_number 0 18446744073709551615 (codes "seed") rows ≡ one_value seed_number (Some 1) (values_of (codes "seed") words) = number_is top refl replay_names facts words rows (codes "seed") refl (found (codes "seed") refl) (each.1 (codes "seed") refl) 0 18446744073709551615 1 (omega arith) form refl refl in
        let config_is : config_of rows ≡ configuration (Some replay_interface) words = same_config _ _ _ _ _ _ _ _ _ _ _ _ _ _ _ interface interface6 port_min port_max max_sessions timeout offer_timeout refl in
        let all : replay_of rows ≡ allowed_replay words = same_replay _ _ _ _ _ config_is seed (sym (rw each.0 refl)) in
        ap (option_and_then replay_of) (taken_by _ _ rows e rows_is) ∙ all ∙ none
