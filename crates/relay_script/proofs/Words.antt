-- Lines as words: what stands before the first space and after it says which step is asked for.
use Rattle.std.proofs.Common.{◌≡◌, ℕ, List, ◌∷◌, ◌++◌, ◌^◌, false, inl, refl, sym, ◌∙◌, ap, subst, arith, Ok, Err, Some, None, Option, Result, IfOk, IfErr}
use Rattle.std.specs.Prelude.{codes}
use Rattle.std.specs.Str.{bytes_eq}
use Rattle.std.proofs.lemmas.Slice.Eq.{bytes_eq-Decides}
use Rattle.ng_bencode.specs.Fits.{IsFreeOf}
use Rattle.ng_bencode.proofs.Numbers.{same_front, false_true}
use Rattle.relay_outside.specs.declared.address.Addr.{Addr}
use Rattle.relay_script.specs.declared.step.FailKind.{FailKind}
use Rattle.relay_script.specs.declared.step.FailKind.TheVariants as kind
use Rattle.relay_script.specs.declared.step.ParseFault.{ParseFault}
use Rattle.relay_script.specs.declared.step.ParseFault.TheVariants.{NotInGrammar, OutOfMemory}
use Rattle.relay_script.specs.declared.step.Step as coded
use Rattle.relay_script.specs.declared.parser.Keyword.{Keyword}
use Rattle.relay_script.specs.Steps.{Step, Skip, At, Key, Fail, FailSend, Ng, Take, Relay, Packet, Tick, step_meaning}
use Rattle.relay_script.specs.Fields.{IsNumber, IsCount, IsAddr, IsPayload}
use Rattle.relay_script.specs.Lines.{first_word, kind_word, IsFailure, IsSendFailure, IsDatagram, IsArrival, Behind, InWords}
use Rattle.relay_script.specs.LineParts.{RefusesText, NoStep, NoWords, FitsWord, ReadsRest, IsPortAndCount, ReadsSendFailure, fail_kind, keyword_of, keyword_text}
use Rattle.relay_script.proofs.Texts.{free_by_test}
use Rattle.relay_script.proofs.Digits.{free_in_number}

-- two texts that the test tells apart
pub clash : (a b : List ℕ) → bytes_eq a b ≡ false → a ≡ b → ⊥
clash a b differ e = false_true (sym differ ∙ (bytes_eq-Decides a b).1 e)

pub free_port : (text : List ℕ) (n : ℕ) → IsNumber (2 ^ 16) text n → IsFreeOf 32 text
free_port text n is = free_in_number 32 (inl (omega arith)) (2 ^ 16) (omega arith) text n is

-- Datagrams.

pub no_source : (text address payload : List ℕ) → text ≡ address ++ 32 ∷ payload → IsFreeOf 32 address → ((addr : Addr) → IsAddr address addr → ⊥) → (source : Addr) (bytes : List ℕ) → IsDatagram text source bytes → ⊥
no_source text address payload e free none source bytes is =
    let same = same_front 32 address is.address payload is.payload free is.from.one_word (sym e ∙ is.parts) in
    none source (subst (λ t. IsAddr t source) (sym same.0) is.from)

pub datagram_refused : (fault : ParseFault) (text address payload : List ℕ) → text ≡ address ++ 32 ∷ payload → IsFreeOf 32 address → RefusesText fault ((bytes : List ℕ) → IsPayload payload bytes → ⊥) → RefusesText fault ((source : Addr) (bytes : List ℕ) → IsDatagram text source bytes → ⊥)
datagram_refused NotInGrammar text address payload e free none =
    λ source bytes is.
    let same = same_front 32 address is.address payload is.payload free is.from.one_word (sym e ∙ is.parts) in
    none bytes (subst (λ t. IsPayload t bytes) (sym same.1) is.carried)
datagram_refused OutOfMemory text address payload e free none = tt

pub no_arrival : (text port_text datagram : List ℕ) → text ≡ port_text ++ 32 ∷ datagram → IsFreeOf 32 port_text → ((n : ℕ) → IsNumber (2 ^ 16) port_text n → ⊥) → (port : ℕ) (source : Addr) (bytes : List ℕ) → IsArrival text port source bytes → ⊥
no_arrival text port_text datagram e free none port source bytes is =
    let same = same_front 32 port_text is.port_text datagram is.datagram free (free_port is.port_text port is.port_number) (sym e ∙ is.parts) in
    none port (subst (λ t. IsNumber (2 ^ 16) t port) (sym same.0) is.port_number)

pub arrival_refused : (fault : ParseFault) (text port_text datagram : List ℕ) → text ≡ port_text ++ 32 ∷ datagram → IsFreeOf 32 port_text → RefusesText fault ((source : Addr) (bytes : List ℕ) → IsDatagram datagram source bytes → ⊥) → RefusesText fault ((port : ℕ) (source : Addr) (bytes : List ℕ) → IsArrival text port source bytes → ⊥)
arrival_refused NotInGrammar text port_text datagram e free none =
    λ port source bytes is.
    let same = same_front 32 port_text is.port_text datagram is.datagram free (free_port is.port_text port is.port_number) (sym e ∙ is.parts) in
    none source bytes (subst (λ t. IsDatagram t source bytes) (sym same.1) is.arrived)
arrival_refused OutOfMemory text port_text datagram e free none = tt

-- Failures.

pub no_send_port : (text port_text number : List ℕ) → text ≡ port_text ++ 32 ∷ number → IsFreeOf 32 port_text → ((n : ℕ) → IsNumber (2 ^ 16) port_text n → ⊥) → (port count : ℕ) → IsPortAndCount text port count → ⊥
no_send_port text port_text number e free none port count is =
    let same = same_front 32 port_text is.port_text number is.number free (free_port is.port_text port is.port_number) (sym e ∙ is.parts) in
    none port (subst (λ t. IsNumber (2 ^ 16) t port) (sym same.0) is.port_number)

pub no_send_count : (text port_text number : List ℕ) → text ≡ port_text ++ 32 ∷ number → IsFreeOf 32 port_text → ((n : ℕ) → IsCount number n → ⊥) → (port count : ℕ) → IsPortAndCount text port count → ⊥
no_send_count text port_text number e free none port count is =
    let same = same_front 32 port_text is.port_text number is.number free (free_port is.port_text port is.port_number) (sym e ∙ is.parts) in
    none count (subst (λ t. IsCount t count) (sym same.1) is.counted)

pub free_kind : (k : FailKind) → IsFreeOf 32 (kind_word k)
free_kind kind.Open = free_by_test 32 (codes "open") refl
free_kind kind.Draw = free_by_test 32 (codes "draw") refl
free_kind kind.Take = free_by_test 32 (codes "take") refl
free_kind kind.Read = free_by_test 32 (codes "read") refl
free_kind kind.Reply = free_by_test 32 (codes "reply") refl

pub no_send : (k : FailKind) → kind_word k ≡ codes "send" → ⊥
no_send kind.Open e = clash (codes "open") (codes "send") refl e
no_send kind.Draw e = clash (codes "draw") (codes "send") refl e
no_send kind.Take e = clash (codes "take") (codes "send") refl e
no_send kind.Read e = clash (codes "read") (codes "send") refl e
no_send kind.Reply e = clash (codes "reply") (codes "send") refl e

pub kind_known : (k : FailKind) → fail_kind (kind_word k) ≡ Some k
kind_known kind.Open = refl
kind_known kind.Draw = refl
kind_known kind.Take = refl
kind_known kind.Read = refl
kind_known kind.Reply = refl

-- a step of a line `fail` is one of two
pub fail_steps : (rest : List ℕ) → ((k : FailKind) (count : ℕ) → IsFailure rest k count → ⊥) → ((port count : ℕ) → IsSendFailure rest port count → ⊥) → NoStep (codes "fail") rest
fail_steps rest plain send (Fail k count) w is = plain k count is
fail_steps rest plain send (FailSend port count) w is = send port count is
fail_steps rest plain send Skip w is = is
fail_steps rest plain send (At moment) w is = clash (codes "at") (codes "fail") refl w
fail_steps rest plain send (Key bytes) w is = clash (codes "key") (codes "fail") refl w
fail_steps rest plain send (Ng source bytes) w is = clash (codes "ng") (codes "fail") refl w
fail_steps rest plain send (Take port source bytes) w is = clash (codes "take") (codes "fail") refl w
fail_steps rest plain send (Relay receipt) w is = clash (codes "relay") (codes "fail") refl w
fail_steps rest plain send (Packet port source bytes) w is = clash (codes "packet") (codes "fail") refl w
fail_steps rest plain send Tick w is = is

pub no_fail : (rest : List ℕ) → ((front more : List ℕ) → rest ≡ front ++ 32 ∷ more → ⊥) → NoStep (codes "fail") rest
no_fail rest none =
    fail_steps rest (λ k count is. none (kind_word k) is.number is.parts)
    (λ port count is. none (codes "send") (is.port_text ++ 32 ∷ is.number) is.parts)

send_parts : (rest more : List ℕ) → rest ≡ codes "send" ++ 32 ∷ more → (port count : ℕ) → IsSendFailure rest port count → IsPortAndCount more port count
send_parts rest more e port count is =
    let same = same_front 32 (codes "send") (codes "send") more (is.port_text ++ 32 ∷ is.number) (free_by_test 32 (codes "send") refl) (free_by_test 32 (codes "send") refl) (sym e ∙ is.parts) in
    record { port_text = is.port_text; number = is.number; parts = same.1; port_number = is.port_number; counted = is.counted }

no_kind : (rest more : List ℕ) → rest ≡ codes "send" ++ 32 ∷ more → (k : FailKind) (count : ℕ) → IsFailure rest k count → ⊥
no_kind rest more e k count is =
    no_send k (sym (same_front 32 (codes "send") (kind_word k) more is.number (free_by_test 32 (codes "send") refl) (free_kind k) (sym e ∙ is.parts)).0)

send_read : (rest more : List ℕ) → rest ≡ codes "send" ++ 32 ∷ more → (r : Result coded.Step ParseFault) → ReadsSendFailure more r → ReadsRest (codes "fail") rest r
send_read rest more e (Ok step) (port, count, same, is) =
    subst (FitsWord (codes "fail") rest) (sym same) (record {
      word = refl;
      behind = record { port_text = is.port_text; number = is.number; parts = e ∙ ap (λ t. codes "send" ++ 32 ∷ t) is.parts; port_number = is.port_number; counted = is.counted };
    })
send_read rest more e (Err NotInGrammar) none =
    fail_steps rest (no_kind rest more e) (λ port count is. none port count (send_parts rest more e port count is))
send_read rest more e (Err OutOfMemory) none = tt

pub fail_send : (rest name more : List ℕ) → rest ≡ name ++ 32 ∷ more → name ≡ codes "send" → (r : Result coded.Step ParseFault) → ReadsSendFailure more r → ReadsRest (codes "fail") rest r
fail_send rest name more e s r reads = send_read rest more (e ∙ ap (λ t. t ++ 32 ∷ more) s) r reads

pub fail_unknown : (rest name more : List ℕ) → rest ≡ name ++ 32 ∷ more → IsFreeOf 32 name → (name ≡ codes "send" → ⊥) → fail_kind name ≡ None → NoStep (codes "fail") rest
fail_unknown rest name more e free other unknown =
    fail_steps rest
    (λ k count is.
    let same = same_front 32 name (kind_word k) more is.number free (free_kind k) (sym e ∙ is.parts) in
    let known = kind_known k in
    let shown = ap fail_kind same.0 in
    let both : ◌≡◌ {A = Option FailKind} None (Some k) = sym unknown ∙ shown ∙ known in
    (cc))
    (λ port count is. other (same_front 32 name (codes "send") more (is.port_text ++ 32 ∷ is.number) free (free_by_test 32 (codes "send") refl) (sym e ∙ is.parts)).0)

pub fail_uncounted : (rest name more : List ℕ) (k : FailKind) → rest ≡ name ++ 32 ∷ more → name ≡ kind_word k → ((n : ℕ) → IsCount more n → ⊥) → NoStep (codes "fail") rest
fail_uncounted rest name more k e known none =
    let front : rest ≡ kind_word k ++ 32 ∷ more = e ∙ ap (λ t. t ++ 32 ∷ more) known in
    fail_steps rest
    (λ other count is. none count (subst (λ t. IsCount t count) (sym (same_front 32 (kind_word k) (kind_word other) more is.number (free_kind k) (free_kind other) (sym front ∙ is.parts)).1) is.counted))
    (λ port count is. no_send k (same_front 32 (kind_word k) (codes "send") more (is.port_text ++ 32 ∷ is.number) (free_kind k) (free_by_test 32 (codes "send") refl) (sym front ∙ is.parts)).0)

-- Lines.

pub free_word : (step : Step) → IsFreeOf 32 (first_word step)
free_word Skip = tt
free_word (At moment) = free_by_test 32 (codes "at") refl
free_word (Key bytes) = free_by_test 32 (codes "key") refl
free_word (Fail kind count) = free_by_test 32 (codes "fail") refl
free_word (FailSend port count) = free_by_test 32 (codes "fail") refl
free_word (Ng source bytes) = free_by_test 32 (codes "ng") refl
free_word (Take port source bytes) = free_by_test 32 (codes "take") refl
free_word (Relay receipt) = free_by_test 32 (codes "relay") refl
free_word (Packet port source bytes) = free_by_test 32 (codes "packet") refl
free_word Tick = free_by_test 32 (codes "tick") refl

-- the first word and what is after it are those of the line
pub words_same : (line name rest : List ℕ) → line ≡ name ++ 32 ∷ rest → IsFreeOf 32 name → (step : Step) → InWords line step → (first_word step ≡ name) × Behind step rest
words_same line name rest e free step is =
    let same = same_front 32 name (first_word step) rest is.rest free (free_word step) (sym e ∙ is.parts) in
    (sym same.0, subst (Behind step) (sym same.1) is.behind)

unknown_at : (step : Step) (name rest : List ℕ) → keyword_of name ≡ None → first_word step ≡ name → Behind step rest → ⊥
unknown_at Skip name rest none w is = is
unknown_at Tick name rest none w is = is
unknown_at step name rest none w is = (let both = ap keyword_of w ∙ none in cc both)

pub no_words : (line name rest : List ℕ) → line ≡ name ++ 32 ∷ rest → IsFreeOf 32 name → keyword_of name ≡ None → NoWords line
no_words line name rest e free none step is =
    let same = words_same line name rest e free step is in
    unknown_at step name rest none same.0 same.1

pub words_read : (line name rest : List ℕ) (k : Keyword) (r : Result coded.Step ParseFault) → line ≡ name ++ 32 ∷ rest → name ≡ keyword_text k → ReadsRest (keyword_text k) rest r → IfOk r (λ step. InWords line (step_meaning step))
words_read line name rest k (Ok step) e known fits = record {
  rest = rest;
  parts = e ∙ ap (λ t. t ++ 32 ∷ rest) (known ∙ sym fits.word);
  behind = fits.behind;
}
words_read line name rest k (Err fault) e known fits = tt

words_refused_at : (line name rest : List ℕ) (fault : ParseFault) → line ≡ name ++ 32 ∷ rest → IsFreeOf 32 name → RefusesText fault (NoStep name rest) → RefusesText fault (NoWords line)
words_refused_at line name rest NotInGrammar e free none =
    λ step is. (let same = words_same line name rest e free step is in none step same.0 same.1)
words_refused_at line name rest OutOfMemory e free none = tt

pub words_refused : (line name rest : List ℕ) (k : Keyword) (r : Result coded.Step ParseFault) → line ≡ name ++ 32 ∷ rest → IsFreeOf 32 name → name ≡ keyword_text k → ReadsRest (keyword_text k) rest r → IfErr r (λ fault. RefusesText fault (NoWords line))
words_refused line name rest k (Ok step) e free known reads = tt
words_refused line name rest k (Err fault) e free known reads =
    words_refused_at line name rest fault e free (subst (λ t. RefusesText fault (NoStep t rest)) (sym known) reads)
