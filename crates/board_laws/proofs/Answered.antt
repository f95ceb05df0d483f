-- Two turns of one datagram after one history are one.
use Rattle.std.proofs.Common.{◌≡◌, ◌∙◌, sym, ap, subst, refl, ℕ, ◌<◌, ◌^◌, List, ◌∷◌, ◌++◌, length, Bool, true, false, not, Option, Some, None, Result, length-append, ltb-false, arith}
use Rattle.std.specs.Prelude.{nat_lt, ◌&&◌, ◌||◌, is_some}
use Rattle.relay_outside.specs.declared.settings.Config.{Config}
use Rattle.ng_bencode.specs.Tree.{Entries}
use Rattle.ng_command.specs.Meanings.{Said}
use Rattle.ng_reply.specs.declared.code.ErrorCode.{ErrorCode}
use Rattle.call_board.specs.Acts as act
use Rattle.call_board.specs.Acts.{Act, Control, Turn, BoardEntry}
use Rattle.call_board.specs.KeptReplies.{kept_reply}
use Rattle.call_board.specs.Requests.{ReadsBody, asked}
use Rattle.call_board.specs.Answers.{Answered, answering, answering_asked, answering_unless, spelled}
use Rattle.call_board.specs.Fits.{FitsControl, GivesFor, ReadsRequest, answered_in, demanded, demanded_by, is_repeat, is_request_read}
use Rattle.call_board.proofs.Fixed.{unless_out_of_memory}
use Rattle.call_board.proofs.Told.{IsRepeat}
use Rattle.call_board.proofs.Tells.{tells_of}
use Rattle.board_laws.specs.Alike.{AreOfOne, HasMemory, GiveAlike, AreOne}
use Rattle.board_laws.proofs.Spelled.{read_once}
use Rattle.board_laws.proofs.Given.{Fed, nothing_same}
use Rattle.board_laws.proofs.Commands.{ToldAlike, asked_same}

abbrev pub act_of : Answered → Act
act_of a = a.act

abbrev pub bytes_of : Answered → List ℕ
bytes_of a = a.bytes

abbrev entry : ℕ → Control → BoardEntry
entry now c = record { moment = now; event = Turn c }

-- A datagram for which no reply is kept is read, unless it is too long.

no_repeat : (config : Config) (h : List BoardEntry) (now : ℕ) (c : Control) → FitsControl config h now c → kept_reply h c.source c.cookie now ≡ None → c.act ≡ act.Repeated → ⊥
no_repeat config h now c fits none is =
    let shown : IsRepeat h (entry now c) = tells_of config h (entry now c) act.Repeated fits is in
    let same : shown.turn.control ≡ c = (let e = shown.turn.is_turn in cc) in
    let there : kept_reply h c.source c.cookie now ≡ Some shown.turn.control.reply = subst (λ (x : Control). kept_reply h x.source x.cookie now ≡ Some shown.turn.control.reply) same shown.is_kept in
    let e = sym none ∙ there in cc

repeats_not : (a : Act) → (a ≡ act.Repeated → ⊥) → is_repeat a ≡ false
repeats_not act.Repeated other = absurd (other refl)
repeats_not a other = refl

read_by : (repeat long out_of_memory log : Bool) → repeat ≡ false → long ≡ false → out_of_memory ≡ false → (not repeat && not long && (not out_of_memory || log)) ≡ true
read_by repeat long out_of_memory log p q r = rw (p, q, r) refl

pub read : (config : Config) (h : List BoardEntry) (now : ℕ) (c : Control) → FitsControl config h now c → kept_reply h c.source c.cookie now ≡ None → HasMemory c → c.too_long ≡ false → ReadsBody c.body c.pairs
read config h now c fits none fed short =
    fits.reads (read_by (is_repeat c.act) c.too_long c.given.out_of_memory (is_some c.given.report) (repeats_not c.act (no_repeat config h now c fits none)) short fed)

pub few : (cookie body : List ℕ) → nat_lt 16384 (length (cookie ++ 32 ∷ body)) ≡ false → length body < 2 ^ 64
few cookie body is =
    let low = ltb-false 16384 (length (cookie ++ 32 ∷ body)) is in
    let all = length-append cookie (32 ∷ body) in
    omega (arith, low, all)

-- Both ask the same.

asked_long : (config : Config) (p q : Option Entries) → asked config true p ≡ asked config true q
unfolding asked
asked_long config p q = refl

asked_by : (config : Config) (m n t : Bool) (p q : Option Entries) → m ≡ t → n ≡ t → (t ≡ false → p ≡ q) → asked config m p ≡ asked config n q
asked_by config m n true p q is_m is_n same =
    ap (λ (t : Bool). asked config t p) is_m ∙ asked_long config p q ∙ sym (ap (λ (t : Bool). asked config t q) is_n)
asked_by config m n false p q is_m is_n same = ap (λ (t : Bool). asked config t p) (is_m ∙ sym is_n) ∙ ap (asked config n) (same refl)

same_length : (config : Config) (h : List BoardEntry) (now : ℕ) (c d : Control) → FitsControl config h now c → FitsControl config h now d → AreOfOne c d → c.too_long ≡ d.too_long
same_length config h now c d f g one =
    f.length_is ∙ ap (λ (k : List ℕ). nat_lt 16384 (length (k ++ 32 ∷ c.body))) one.cookie
    ∙ ap (λ (b : List ℕ). nat_lt 16384 (length (d.cookie ++ 32 ∷ b))) one.body ∙ sym g.length_is

pub same_asked : (config : Config) (h : List BoardEntry) (now : ℕ) (c d : Control) → FitsControl config h now c → FitsControl config h now d → AreOfOne c d → HasMemory c → HasMemory d
    → kept_reply h c.source c.cookie now ≡ None → kept_reply h d.source d.cookie now ≡ None → asked config c.too_long c.pairs ≡ asked config d.too_long d.pairs
same_asked config h now c d f g one fed_c fed_d none_c none_d =
    let long = same_length config h now c d f g one in
    asked_by config c.too_long d.too_long c.too_long c.pairs d.pairs refl (sym long)
    (λ short. read_once c.body c.pairs d.pairs (few c.cookie c.body (sym f.length_is ∙ short)) (read config h now c f none_c fed_c short)
    (subst (λ (b : List ℕ). ReadsBody b d.pairs) (sym one.body) (read config h now d g none_d fed_d (sym long ∙ short))))

-- One turn of a datagram for which nothing is kept, by what is asked.

pub record Answers (config : Config) (h : List BoardEntry) (c : Control) (r : Result Said ErrorCode) : Type 0 where
  pub answer : answered_in c ≡ spelled config c.cookie c.body (answering_asked config h c r)
  pub hears : is_request_read (answering_asked config h c r).act ≡ true → ReadsRequest h c r
  pub gives : GivesFor (demanded_by h c r) c.given (answering_asked config h c r).act

pub answers : (config : Config) (h : List BoardEntry) (now : ℕ) (c : Control) (r : Result Said ErrorCode) → FitsControl config h now c → HasMemory c
    → kept_reply h c.source c.cookie now ≡ None → asked config c.too_long c.pairs ≡ r → Answers config h c r
answers config h now c r fits fed none is =
    let due : answered_in c ≡ spelled config c.cookie c.body (answering config h c) =
    fits.answers ∙ ap (answering_unless config h c) none ∙ ap (λ (b : Bool). unless_out_of_memory config c.cookie c.body b (answering config h c)) fed in
    let answer : answered_in c ≡ spelled config c.cookie c.body (answering_asked config h c r) =
    due ∙ ap (λ (s : Result Said ErrorCode). spelled config c.cookie c.body (answering_asked config h c s)) is in
    record {
      answer = answer;
      hears = λ heard. subst (ReadsRequest h c) is (fits.hears (ap (λ (a : Answered). is_request_read a.act) answer ∙ heard));
      gives = subst (λ (s : Result Said ErrorCode). GivesFor (demanded_by h c s) c.given (answering_asked config h c r).act) is
          (subst (GivesFor (demanded config h c) c.given) (ap act_of answer) fits.gives);
    }

one_answer : (config : Config) (h : List BoardEntry) (c d : Control) (r : Result Said ErrorCode) → c.cookie ≡ d.cookie → c.body ≡ d.body → Fed c.given d.given → ToldAlike c.given d.given c.act d.act
    → Answers config h c r → Answers config h d r → AreOne c d
one_answer config h c d r cookie body fed log x y =
    let same = asked_same config h c d r fed (λ of m n is_c is_d. log of m n (ap act_of x.answer ∙ is_c) (ap act_of y.answer ∙ is_d)) x.hears y.hears x.gives y.gives in
    let both : answered_in c ≡ answered_in d =
    x.answer ∙ ap (λ (k : List ℕ). spelled config k c.body (answering_asked config h c r)) cookie
    ∙ ap (λ (b : List ℕ). spelled config d.cookie b (answering_asked config h c r)) body
    ∙ ap (spelled config d.cookie d.body) same.answer ∙ sym y.answer in
    record { given = same.given; reply = ap bytes_of both; act = ap act_of both }

one_kept : (config : Config) (h : List BoardEntry) (now : ℕ) (c d : Control) → FitsControl config h now c → FitsControl config h now d → AreOfOne c d → Fed c.given d.given → ToldAlike c.given d.given c.act d.act
    → (o : Option (List ℕ)) → kept_reply h c.source c.cookie now ≡ o → kept_reply h d.source d.cookie now ≡ o → AreOne c d
one_kept config h now c d f g one fed log (Some bytes) is_c is_d =
    let left = f.answers ∙ ap (answering_unless config h c) is_c in
    let right = g.answers ∙ ap (answering_unless config h d) is_d in
    let m = subst (GivesFor (demanded config h c) c.given) (ap act_of left) f.gives in
    let n = subst (GivesFor (demanded config h d) d.given) (ap act_of right) g.gives in
    record {
      given = nothing_same c.given d.given fed.left fed.right m.0 n.0 (m.1 ∙ sym n.1);
      reply = ap bytes_of left ∙ sym (ap bytes_of right);
      act = ap act_of left ∙ sym (ap act_of right);
    }
one_kept config h now c d f g one fed log None is_c is_d =
    one_answer config h c d (asked config c.too_long c.pairs) one.cookie one.body fed log
    (answers config h now c (asked config c.too_long c.pairs) f fed.left is_c refl)
    (answers config h now d (asked config c.too_long c.pairs) g fed.right is_d (sym (same_asked config h now c d f g one fed.left fed.right is_c is_d)))

pub one_turn : (config : Config) (h : List BoardEntry) (now : ℕ) (c d : Control) → FitsControl config h now c → FitsControl config h now d → AreOfOne c d → HasMemory c → HasMemory d
    → GiveAlike c d → AreOne c d
one_turn config h now c d f g one fed_c fed_d alike =
    one_kept config h now c d f g one (record { left = fed_c; right = fed_d; opens = alike.opens; draws = alike.draws }) alike.reports (kept_reply h c.source c.cookie now) refl
    (sym (ap (λ s. kept_reply h s c.cookie now) one.source ∙ ap (λ (k : List ℕ). kept_reply h d.source k now) one.cookie))
