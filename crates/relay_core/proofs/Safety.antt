-- A legal list is safe.
use Rattle.std.proofs.Common.{sym, subst, refl, List, Option}
use Rattle.std.specs.Prelude.{IsSome}
use Rattle.relay_outside.specs.declared.settings.Config.{Config}
use Rattle.port_pool.specs.declared.holder.Holder.{Holder}
use Rattle.call_board.proofs.Free.{held_once}
use Rattle.relay_core.specs.Entries.{Entry, board_history}
use Rattle.relay_core.specs.Legal.{Orderly, Legal}
use Rattle.relay_core.specs.Safe.{BoardSafe, Safe}
use Rattle.relay_core.proofs.Histories.{good_history}
use Rattle.relay_core.proofs.Holders.{pairs_apart, box_is_held, held_is_box}
use Rattle.relay_core.proofs.Shutting.{opens_shut, closes_open}
use Rattle.relay_core.proofs.Keys.{keys_apart}
use Rattle.relay_core.proofs.KeyLives.{has_key}
use Rattle.relay_core.proofs.OneLeg.{one_leg}
use Rattle.relay_core.proofs.Shields.{deed_is, shields_apart}
use Rattle.relay_core.proofs.Clear.{clear}
use Rattle.relay_core.proofs.Sends.{sent_right, sent_sends, protected_by}
use Rattle.relay_core.proofs.Replies.{bodies_are, lines_are, replies_are, repeated, offers_answered}

pub board_is_safe : (config : Config) (l : List Entry) → Orderly config l → BoardSafe config l
board_is_safe config l o = record {
  pairs_once = λ n. held_once config (board_history l n) (good_history config l o n);
  pairs_apart = pairs_apart config l o;
  box_is_held = box_is_held config l o;
  held_is_box = held_is_box config l o;
  opens_shut = opens_shut config l o;
  closes_open = λ e i q. let h = closes_open config l o e i q in subst (λ (x : Option Holder). IsSome x) (sym h.1) refl;
  keys_apart = keys_apart config l o;
  one_leg = λ e f a b number i j. one_leg config l o e f a b number;
  bodies_are = bodies_are config l o;
  lines_are = lines_are config l o;
  replies_are = replies_are config l o;
  repeated = repeated config l o;
  offers_answered = offers_answered config l o;
}

pub legal_safe : (config : Config) (l : List Entry) → Legal config l → Safe config l
legal_safe config l g = record {
  board = board_is_safe config l g.orderly;
  deeds_are = deed_is config l g;
  sent_right = sent_right config l g;
  sent_sends = sent_sends config l g;
  shields_apart = shields_apart config l g;
  protected_by = protected_by config l g;
  clear = clear config l g;
  keys_are_there = λ e leg s number i j q out. has_key config l g.orderly e.place e.number leg s number j q out;
}
