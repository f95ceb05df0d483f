-- Two turns of the board of one datagram, or of two that say the same in two dialects, in which the devices returned the same.
use Rattle.std.specs.Prelude.{◌≡◌, ℕ, ◌+◌, ◌++◌, Bool, true, false, List, [], ◌∷◌, Some, None}
use Rattle.relay_outside.specs.declared.keys.KeyCall.{KeyCall}
use Rattle.relay_outside.specs.declared.settings.Config.{Config}
use Rattle.ng_bencode.specs.Tree.{Dict, Entries}
use Rattle.ng_bencode.specs.Spells.{Spells, spelling}
use Rattle.ng_json.specs.Twins.{SaysInJson}
use Rattle.ng_json.specs.JsonText.{json_text}
use Rattle.port_pool.specs.declared.reports.LegReport.{LegReport}
use Rattle.call_board.specs.Acts.{Call, Queried, Given, Control, Turn, BoardEntry}
use Rattle.call_board.specs.Dialects.{is_json}
use Rattle.call_board.specs.KeptReplies.{kept_reply}
use Rattle.call_board.specs.Replies.{Reply, tree_of_reply}
use Rattle.relay_core.specs.Scripts.{script}
use Rattle.board_turns.specs.DeviceAnswers.{draws_of}

-- the same datagram, from the same source
pub record AreOfOne (c d : Control) : Type 0 where
  pub source : c.source ≡ d.source
  pub cookie : c.cookie ≡ d.cookie
  pub body : c.body ≡ d.body

-- memory did not run out
abbrev pub HasMemory : Control → Type 0
HasMemory c = c.given.out_of_memory ≡ false

-- as far as both lists go, they are the same: one begins with the other
abbrev pub Agree : {A : Type 0} → List A → List A → Type 0
Agree [] ys = Unit {0}
Agree (x ∷ xs) [] = Unit {0}
Agree (x ∷ xs) (y ∷ ys) = (x ≡ y) × Agree xs ys

-- The devices returned the same in two turns: as far as both opened ports, the results were the same; if these are the same, so were those of the
-- draws, each a key or a failure, as far as both drew; and if both asked after one call, its report was the same
pub record GiveAlike (c d : Control) : Type 0 where
  pub opens : Agree c.given.opens d.given.opens
  pub draws : c.given.opens ≡ d.given.opens → Agree (draws_of c.given) (draws_of d.given)
  pub reports : (of : Call) (x y : List LegReport) → c.act ≡ Queried of → d.act ≡ Queried of → c.given.report ≡ Some x → d.given.report ≡ Some y → x ≡ y

-- each is what the rule says for its place, from this one on
abbrev pub Follows : {A : Type 0} → (ℕ → A) → ℕ → List A → Type 0
Follows rule n [] = Unit {0}
Follows rule n (x ∷ xs) = (x ≡ rule n) × Follows rule (n + 1) xs

-- the results of openings and of draws follow two rules, and a report is this one
pub record GivenBy (opening : ℕ → Bool) (drawing : ℕ → KeyCall) (report : List LegReport) (given : Given) : Type 0 where
  pub opens : Follows opening 0 given.opens
  pub draws : Follows drawing 0 (draws_of given)
  pub reports : (x : List LegReport) → given.report ≡ Some x → x ≡ report

-- the devices returned the same, the reply is the same, and the same was done
pub record AreOne (c d : Control) : Type 0 where
  pub given : c.given ≡ d.given
  pub reply : c.reply ≡ d.reply
  pub act : c.act ≡ d.act

-- A bencode datagram and a JSON datagram say the same: the one's body spells this dictionary, and the other's is JSON that says it. They
-- come from one source, neither is longer than 16,384 bytes, and no reply is kept for either at this moment
pub record SayAlike (h : List BoardEntry) (now : ℕ) (pairs : Entries) (c d : Control) : Type 0 where
  pub source : c.source ≡ d.source
  pub spells : Spells c.body (Dict pairs)
  pub in_json : is_json d.body ≡ true
  pub says : SaysInJson d.body (Dict pairs)
  pub short_c : c.too_long ≡ false
  pub short_d : d.too_long ≡ false
  pub none_kept_c : kept_reply h c.source c.cookie now ≡ None
  pub none_kept_d : kept_reply h d.source d.cookie now ≡ None

-- the board's entry of a turn
abbrev pub turn_entry : ℕ → Control → BoardEntry
turn_entry now c = record { moment = now; event = Turn c }

-- After this history, at this moment, the devices returned the same, the same was done, the same nested entries are owed, in the same order, and
-- one value was replied: spelled in bencode to the one, written as JSON to the other, each after its own cookie
pub record AreOneInBoth (config : Config) (h : List BoardEntry) (now : ℕ) (c d : Control) : Type 0 where
  pub given : c.given ≡ d.given
  pub act : c.act ≡ d.act
  pub scripts : script config h (turn_entry now c) ≡ script config h (turn_entry now d)
  pub reply : Reply
  pub spelled : c.reply ≡ c.cookie ++ 32 ∷ spelling (tree_of_reply config reply)
  pub written : d.reply ≡ d.cookie ++ 32 ∷ json_text (tree_of_reply config reply)
