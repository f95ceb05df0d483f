-- A datagram in bencode and one in JSON that say the same get one reply.
use Rattle.std.proofs.Common.{◌≡◌, ◌∙◌, sym, ap, subst, ℕ, List, ◌∷◌, ◌++◌, Bool, true, false, Some, None, Result}
use Rattle.relay_outside.specs.declared.settings.Config.{Config}
use Rattle.ng_bencode.specs.Tree.{Dict, Entries}
use Rattle.ng_bencode.specs.Spells.{Spells}
use Rattle.ng_command.specs.Meanings.{Said}
use Rattle.ng_reply.specs.declared.code.ErrorCode.{ErrorCode}
use Rattle.call_board.specs.Acts.{Control, BoardEntry}
use Rattle.call_board.specs.Answers.{Answering, answering_asked}
use Rattle.call_board.specs.Requests.{ReadsBody, asked}
use Rattle.call_board.specs.Dialects.{is_json, SaysIn, written_in}
use Rattle.call_board.specs.Fits.{FitsControl}
use Rattle.call_board.specs.KeptReplies.{kept_reply}
use Rattle.call_board.specs.Replies.{Reply, reply_text, reply_datagram, tree_of_reply}
use Rattle.board_laws.specs.Alike.{HasMemory, GiveAlike, SayAlike, AreOneInBoth}
use Rattle.board_laws.proofs.Spelled.{read_once}
use Rattle.board_laws.proofs.Given.{Fed}
use Rattle.board_laws.proofs.Commands.{ToldAlike, asked_same}
use Rattle.board_laws.proofs.Owing.{scripts_same}
use Rattle.board_laws.proofs.Answered.{act_of, bytes_of, few, read, Answers, answers}

-- no dictionary in bencode begins as JSON does
bencode_is : (body : List ℕ) (pairs : Entries) → Spells body (Dict pairs) → is_json body ≡ false
bencode_is body pairs spells = ap is_json spells.spelled

reads_in : (body : List ℕ) (pairs : Entries) (in_json : Bool) → is_json body ≡ in_json → SaysIn in_json body (Dict pairs) → ReadsBody body (Some pairs)
reads_in body pairs in_json is says = subst (λ (b : Bool). SaysIn b body (Dict pairs)) (sym is) says

-- what such a datagram asks
asks : (config : Config) (h : List BoardEntry) (now : ℕ) (c : Control) (pairs : Entries) → FitsControl config h now c → HasMemory c → kept_reply h c.source c.cookie now ≡ None
    → c.too_long ≡ false → ReadsBody c.body (Some pairs) → asked config c.too_long c.pairs ≡ asked config false (Some pairs)
asks config h now c pairs fits fed none short reads =
    ap (λ (t : Bool). asked config t c.pairs) short
    ∙ ap (asked config false) (read_once c.body c.pairs (Some pairs) (few c.cookie c.body (sym fits.length_is ∙ short)) (read config h now c fits none fed short) reads)

-- the datagram of a reply in its dialect
datagram_in : (config : Config) (cookie body : List ℕ) (reply : Reply) (in_json : Bool) → is_json body ≡ in_json
    → reply_datagram config cookie body reply ≡ cookie ++ 32 ∷ written_in in_json (tree_of_reply config reply)
unfolding reply_text
datagram_in config cookie body reply in_json is = ap (λ (b : Bool). cookie ++ 32 ∷ written_in b (tree_of_reply config reply)) is

one_value : (config : Config) (h : List BoardEntry) (now : ℕ) (c d : Control) (r : Result Said ErrorCode) → is_json c.body ≡ false → is_json d.body ≡ true → Fed c.given d.given
    → ToldAlike c.given d.given c.act d.act → asked config c.too_long c.pairs ≡ r → asked config d.too_long d.pairs ≡ r → Answers config h c r → Answers config h d r → AreOneInBoth config h now c d
one_value config h now c d r in_bencode in_json fed log asks_c asks_d x y =
    let same = asked_same config h c d r fed (λ of m n is_c is_d. log of m n (ap act_of x.answer ∙ is_c) (ap act_of y.answer ∙ is_d)) x.hears y.hears x.gives y.gives in
    let reply = (answering_asked config h c r).reply in
    let act = ap act_of x.answer ∙ ap (λ (a : Answering). a.act) same.answer ∙ sym (ap act_of y.answer) in
    record {
      given = same.given;
      act = act;
      scripts = scripts_same config h now c d same.given act (asks_c ∙ sym asks_d);
      reply = reply;
      spelled = ap bytes_of x.answer ∙ datagram_in config c.cookie c.body reply false in_bencode;
      written = ap bytes_of y.answer ∙ sym (ap (λ (a : Answering). reply_datagram config d.cookie d.body a.reply) same.answer) ∙ datagram_in config d.cookie d.body reply true in_json;
    }

pub both_dialects : (config : Config) (h : List BoardEntry) (now : ℕ) (pairs : Entries) (c d : Control) → FitsControl config h now c → FitsControl config h now d → SayAlike h now pairs c d
    → HasMemory c → HasMemory d → GiveAlike c d → AreOneInBoth config h now c d
both_dialects config h now pairs c d f g say fed_c fed_d alike =
    let in_bencode = bencode_is c.body pairs say.spells in
    let asks_c = asks config h now c pairs f fed_c say.none_kept_c say.short_c (reads_in c.body pairs false in_bencode say.spells) in
    let asks_d = asks config h now d pairs g fed_d say.none_kept_d say.short_d (reads_in d.body pairs true say.in_json say.says) in
    one_value config h now c d (asked config false (Some pairs)) in_bencode say.in_json (record { left = fed_c; right = fed_d; opens = alike.opens; draws = alike.draws }) alike.reports asks_c asks_d
    (answers config h now c (asked config false (Some pairs)) f fed_c say.none_kept_c asks_c)
    (answers config h now d (asked config false (Some pairs)) g fed_d say.none_kept_d asks_d)
