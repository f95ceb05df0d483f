-- A line spells at most one step: its words, numbers, addresses and bytes are each said once.
use Rattle.std.proofs.Common.{◌≡◌, ℕ, List, [], ◌∷◌, ◌++◌, ◌≤◌, ◌^◌, ◌&&◌, Bool, true, false, cond, inl, inr, map, refl, sym, ◌∙◌, ap, subst, arith, Option, Some, None}
use Rattle.std.specs.Prelude.{codes}
use Rattle.std.specs.List.{slice_split, onto_first, list_all}
use Rattle.std.proofs.lemmas.Fmt.{decimal_injective}
use Rattle.ng_bencode.specs.Fits.{IsFreeOf}
use Rattle.ng_bencode.proofs.Numbers.{same_front}
use Rattle.relay_outside.specs.declared.address.Addr.{Addr}
use Rattle.relay_outside.specs.declared.address.Ip.{Ip}
use Rattle.relay_outside.specs.declared.address.Ip.TheVariants.{V4, V6}
use Rattle.sdp_text.specs.Pieces.{pieces, at_most, is_filled, is_digit, decimal_value}
use Rattle.sdp_text.specs.Hosts.{ipv4, ipv6, exactly, all_some, octet}
use Rattle.sdp_text.specs.declared.host.Host.{Host}
use Rattle.sdp_text.specs.declared.host.Host.TheVariants as host
use Rattle.sdp_text.proofs.Cuts.{pieces_open}
use Rattle.relay_script.specs.declared.step.FailKind.{FailKind}
use Rattle.relay_script.specs.Steps.{Step, Skip, At, Key, Fail, FailSend, Ng, Take, Relay, Packet, Tick}
use Rattle.relay_script.specs.Fields.{IsNumber, IsCount, InBrackets, IsHostText, IsAddr, IsText, IsPayload}
use Rattle.relay_script.specs.Lines.{first_word, kind_word, IsFailure, IsSendFailure, IsDatagram, IsArrival, Behind, IsSkipped, SpellsStep, SpellsLine}
use Rattle.relay_script.specs.LineParts.{fail_kind}
use Rattle.relay_script.proofs.Texts.{same_back, free_by_test, free_not}
use Rattle.relay_script.proofs.Payloads.{heads, tails, same_hex, same_text}
use Rattle.relay_script.proofs.Digits.{free_in_number}
use Rattle.relay_script.proofs.Words.{clash, free_kind, free_port, free_word, kind_known, no_send, words_same}

-- Numbers.

one_number : (limit : ℕ) → limit ≤ 2 ^ 64 → (text : List ℕ) (m n : ℕ) → IsNumber limit text m → IsNumber limit text n → m ≡ n
one_number limit high text m n is other =
    decimal_injective m n (omega (arith, is.small)) (omega (arith, other.small)) (sym is.digits ∙ other.digits)

one_count : (text : List ℕ) (m n : ℕ) → IsCount text m → IsCount text n → m ≡ n
one_count text m n is other = one_number (2 ^ 32) (omega arith) text m n is.number other.number

-- Addresses.

and_none : (a b : Bool) (n : ℕ) → b ≡ false → cond (a && b) (Some n) None ≡ None
and_none true b n e = rw e refl
and_none false b n e = refl

-- no IPv4 address begins with a bracket
no_octet : (more : List ℕ) → octet (91 ∷ more) ≡ None
no_octet more = ap (at_most 255) (and_none (is_filled (91 ∷ more)) (list_all is_digit (91 ∷ more)) (decimal_value (91 ∷ more)) refl)

none_first : (first : List ℕ) (rest : List (List ℕ)) → octet first ≡ None → exactly 4 (all_some (map octet (first ∷ rest))) ≡ None
none_first first rest e = ap (λ (o : Option ℕ). exactly 4 (all_some (o ∷ map octet rest))) e

no_ipv4 : (more : List ℕ) → ipv4 (91 ∷ more) ≡ None
no_ipv4 more =
    let o = pieces_open 46 more in
    let cut : pieces 46 (91 ∷ more) ≡ (91 ∷ o.0) ∷ o.1 = ap (onto_first 91) o.2 in
    ap (λ ps. Rattle.std.specs.Option.option_map host.V4 (exactly 4 (all_some (map octet ps)))) cut
    ∙ ap (Rattle.std.specs.Option.option_map host.V4) (none_first (91 ∷ o.0) o.1 (no_octet o.0))

apart_hosts : (text four six : List ℕ) → ipv4 text ≡ Some (host.V4 four) → InBrackets text six → ⊥
apart_hosts text four six is other =
    let none = no_ipv4 (other.inside ++ 93 ∷ []) in
    let shown : ipv4 text ≡ None = ap ipv4 other.brackets ∙ none in
    let both : ◌≡◌ {A = Option Host} (Some (host.V4 four)) None = sym is ∙ shown in
    cc

one_v4 : (a b : List ℕ) (text : List ℕ) → ipv4 text ≡ Some (host.V4 a) → ipv4 text ≡ Some (host.V4 b) → a ≡ b
one_v4 a b text is other = let both : ◌≡◌ {A = Option Host} (Some (host.V4 a)) (Some (host.V4 b)) = sym is ∙ other in cc

one_v6 : (a b : List ℕ) (text : List ℕ) → ipv6 text ≡ Some (host.V6 a) → ipv6 text ≡ Some (host.V6 b) → a ≡ b
one_v6 a b text is other = let both : ◌≡◌ {A = Option Host} (Some (host.V6 a)) (Some (host.V6 b)) = sym is ∙ other in cc

one_host : (text : List ℕ) (a b : Ip) → IsHostText text a → IsHostText text b → a ≡ b
one_host text (V4 a) (V4 b) is other = ap V4 (one_v4 a b text is other)
one_host text (V4 a) (V6 b) is other = absurd (apart_hosts text a b is other)
one_host text (V6 a) (V4 b) is other = absurd (apart_hosts text b a other is)
one_host text (V6 a) (V6 b) is other =
    let same = same_back 93 (91 ∷ is.inside) (91 ∷ other.inside) [] [] tt tt (sym is.brackets ∙ other.brackets) in
    ap V6 (one_v6 a b is.inside is.address (subst (λ t. ipv6 t ≡ Some (host.V6 b)) (sym (tails _ _ _ _ same.0)) other.address))

free_of_colons : (text : List ℕ) (n : ℕ) → IsNumber (2 ^ 16) text n → IsFreeOf 58 text
free_of_colons text n is = free_in_number 58 (inr (omega arith)) (2 ^ 16) (omega arith) text n is

one_addr : (text : List ℕ) (a b : Addr) → IsAddr text a → IsAddr text b → a ≡ b
one_addr text a b is other =
    let same = same_back 58 is.host_text other.host_text is.port_text other.port_text (free_of_colons is.port_text a.port is.port) (free_of_colons other.port_text b.port other.port) (sym is.parts ∙ other.parts) in
    let ips : a.ip ≡ b.ip = one_host is.host_text a.ip b.ip is.host (subst (λ t. IsHostText t b.ip) (sym same.0) other.host) in
    let ports : a.port ≡ b.port = one_number (2 ^ 16) (omega arith) is.port_text a.port b.port is.port (subst (λ t. IsNumber (2 ^ 16) t b.port) (sym same.1) other.port) in
    let of : Ip → ℕ → Addr = λ ip port. record { ip = ip; port = port } in
    ap (λ ip. of ip a.port) ips ∙ ap (λ port. of b.ip port) ports

-- Bytes.

one_payload : (text a b : List ℕ) → IsPayload text a → IsPayload text b → a ≡ b
one_payload text a b (inl x) (inl y) =
    same_hex a b x.hex.fit y.hex.fit (sym x.hex.spelled ∙ tails _ _ _ _ (tails _ _ _ _ (sym x.parts ∙ y.parts)) ∙ y.hex.spelled)
one_payload text a b (inl x) (inr y) = absurd (omega (arith, heads _ _ _ _ (sym x.parts ∙ y.parts)))
one_payload text a b (inr x) (inl y) = absurd (omega (arith, heads _ _ _ _ (sym x.parts ∙ y.parts)))
one_payload text a b (inr x) (inr y) =
    same_text x.shown a b x.is_text (subst (λ t. IsText t b) (sym (tails _ _ _ _ (tails _ _ _ _ (sym x.parts ∙ y.parts)))) y.is_text)

-- Lines.

one_datagram : (text : List ℕ) (a b : Addr) (x y : List ℕ) → IsDatagram text a x → IsDatagram text b y → (a ≡ b) × (x ≡ y)
one_datagram text a b x y is other =
    let same = same_front 32 is.address other.address is.payload other.payload is.from.one_word other.from.one_word (sym is.parts ∙ other.parts) in (
      one_addr is.address a b is.from (subst (λ t. IsAddr t b) (sym same.0) other.from),
      one_payload is.payload x y is.carried (subst (λ t. IsPayload t y) (sym same.1) other.carried),
    )

one_arrival : (text : List ℕ) (m n : ℕ) (a b : Addr) (x y : List ℕ) → IsArrival text m a x → IsArrival text n b y → (m ≡ n) × (a ≡ b) × (x ≡ y)
one_arrival text m n a b x y is other =
    let same = same_front 32 is.port_text other.port_text is.datagram other.datagram (free_port is.port_text m is.port_number) (free_port other.port_text n other.port_number) (sym is.parts ∙ other.parts) in
    let rest = one_datagram is.datagram a b x y is.arrived (subst (λ t. IsDatagram t b y) (sym same.1) other.arrived) in
    (one_number (2 ^ 16) (omega arith) is.port_text m n is.port_number (subst (λ t. IsNumber (2 ^ 16) t n) (sym same.0) other.port_number), rest.0, rest.1)

one_kind : (k l : FailKind) → kind_word k ≡ kind_word l → k ≡ l
one_kind k l e =
    let both : ◌≡◌ {A = Option FailKind} (Some k) (Some l) = sym (kind_known k) ∙ ap fail_kind e ∙ kind_known l in
    cc

one_failure : (text : List ℕ) (k l : FailKind) (m n : ℕ) → IsFailure text k m → IsFailure text l n → (k ≡ l) × (m ≡ n)
one_failure text k l m n is other =
    let same = same_front 32 (kind_word k) (kind_word l) is.number other.number (free_kind k) (free_kind l) (sym is.parts ∙ other.parts) in
    (one_kind k l same.0, one_count is.number m n is.counted (subst (λ t. IsCount t n) (sym same.1) other.counted))

free_send : IsFreeOf 32 (codes "send")
free_send = free_by_test 32 (codes "send") refl

one_send_failure : (text : List ℕ) (p q m n : ℕ) → IsSendFailure text p m → IsSendFailure text q n → (p ≡ q) × (m ≡ n)
one_send_failure text p q m n is other =
    let behind = same_front 32 (codes "send") (codes "send") (is.port_text ++ 32 ∷ is.number) (other.port_text ++ 32 ∷ other.number) free_send free_send (sym is.parts ∙ other.parts) in
    let same = same_front 32 is.port_text other.port_text is.number other.number (free_port is.port_text p is.port_number) (free_port other.port_text q other.port_number) behind.1 in (
      one_number (2 ^ 16) (omega arith) is.port_text p q is.port_number (subst (λ t. IsNumber (2 ^ 16) t q) (sym same.0) other.port_number),
      one_count is.number m n is.counted (subst (λ t. IsCount t n) (sym same.1) other.counted),
    )

no_both : (text : List ℕ) (k : FailKind) (m p n : ℕ) → IsFailure text k m → IsSendFailure text p n → ⊥
no_both text k m p n is other =
    no_send k (same_front 32 (kind_word k) (codes "send") is.number (other.port_text ++ 32 ∷ other.number) (free_kind k) free_send (sym is.parts ∙ other.parts)).0

one_behind : (a b : Step) (rest : List ℕ) → first_word a ≡ first_word b → Behind a rest → Behind b rest → a ≡ b
one_behind Skip b rest w is other = absurd is
one_behind Tick b rest w is other = absurd is
one_behind a Skip rest w is other = absurd other
one_behind a Tick rest w is other = absurd other
one_behind (At m) (At n) rest w is other = ap At (one_number (2 ^ 64) (omega arith) rest m n is other)
one_behind (Key a) (Key b) rest w is other = ap Key (same_hex a b is.hex.fit other.hex.fit (sym is.hex.spelled ∙ other.hex.spelled))
one_behind (Fail k m) (Fail l n) rest w is other =
    let same = one_failure rest k l m n is other in
    ap (λ x. Fail x m) same.0 ∙ ap (Fail l) same.1
one_behind (Fail k m) (FailSend p n) rest w is other = absurd (no_both rest k m p n is other)
one_behind (FailSend p m) (Fail k n) rest w is other = absurd (no_both rest k n p m other is)
one_behind (FailSend p m) (FailSend q n) rest w is other =
    let same = one_send_failure rest p q m n is other in
    ap (λ x. FailSend x m) same.0 ∙ ap (FailSend q) same.1
one_behind (Ng a x) (Ng b y) rest w is other =
    let same = one_datagram rest a b x y is other in
    ap (λ s. Ng s x) same.0 ∙ ap (Ng b) same.1
one_behind (Take m a x) (Take n b y) rest w is other =
    let same = one_arrival rest m n a b x y is other in
    ap (λ p. Take p a x) same.0 ∙ ap (λ s. Take n s x) same.1 ∙ ap (Take n b) same.2
one_behind (Relay m) (Relay n) rest w is other = ap Relay (one_count rest m n is other)
one_behind (Packet m a x) (Packet n b y) rest w is other =
    let same = one_arrival rest m n a b x y is other in
    ap (λ p. Packet p a x) same.0 ∙ ap (λ s. Packet n s x) same.1 ∙ ap (Packet n b) same.2
one_behind a b rest w is other = absurd (clash (first_word a) (first_word b) refl w)

-- no line that begins with a word is skipped
no_skip_at : (step : Step) (line rest : List ℕ) → line ≡ first_word step ++ 32 ∷ rest → Behind step rest → IsSkipped line → ⊥
no_skip_at Skip line rest e is skipped = is
no_skip_at Tick line rest e is skipped = is
no_skip_at step line rest e is skipped = (let first = subst IsSkipped e skipped in omega (arith, first))

no_skipped_tick : (line : List ℕ) → line ≡ codes "tick" → IsSkipped line → ⊥
no_skipped_tick line e skipped = (let first = subst IsSkipped e skipped in omega (arith, first))

no_space_in_tick : (front more : List ℕ) → codes "tick" ≡ front ++ 32 ∷ more → ⊥
no_space_in_tick front more e = free_not 32 front more (subst (IsFreeOf 32) e (free_by_test 32 (codes "tick") refl))

one_spelled : (line : List ℕ) (a b : Step) → SpellsStep line a → SpellsStep line b → a ≡ b
one_spelled line Skip Skip is other = refl
one_spelled line Tick Tick is other = refl
one_spelled line Skip Tick is other = absurd (no_skipped_tick line other is)
one_spelled line Tick Skip is other = absurd (no_skipped_tick line is other)
one_spelled line Skip b is other = absurd (no_skip_at b line other.rest other.parts other.behind is)
one_spelled line a Skip is other = absurd (no_skip_at a line is.rest is.parts is.behind other)
one_spelled line Tick b is other = absurd (no_space_in_tick (first_word b) other.rest (sym is ∙ other.parts))
one_spelled line a Tick is other = absurd (no_space_in_tick (first_word a) is.rest (sym other ∙ is.parts))
one_spelled line a b is other =
    (let same = words_same line (first_word b) other.rest other.parts (free_word b) a is in
    one_behind a b other.rest same.0 same.1 other.behind)

pub one_step : (line : List ℕ) (a b : Step) → SpellsLine line a → SpellsLine line b → a ≡ b
one_step line a b is other = one_spelled line a b is.spelled other.spelled
