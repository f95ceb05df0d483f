-- The fault that is named is the first one, and so is the IPv6 line.
use Rattle.std.proofs.Common.{◌≡◌, ℕ, zero, suc, ◌<◌, ◌≤◌, true, false, cond, List, [], ◌∷◌, length, get_or, Option, Some, None, Contains, refl, sym, ap, ◌∙◌, subst, arith, inl, inr, ◌⊎◌}
use Rattle.std.proofs.lemmas.Bool.{true≢false}
use Rattle.sdp_text.specs.Hosts.{is_v6}
use Rattle.sdp_text.specs.Parts.{is_active_line, fault_line, earlier, count_fault, address_fault, connection_fault, given_fault, rtcp_fault, part_fault, served_fault, lower, v6_address, v6_connection, v6_given, v6_rtcp, v6_part, v6_line, known}
use Rattle.sdp_text.specs.declared.fault.SdpFault.{SdpFault}
use Rattle.sdp_text.specs.declared.fault.SdpFault.TheVariants as faults
use Rattle.sdp_text.specs.declared.host.Host.{Host}
use Rattle.sdp_text.specs.declared.part.Part.{Part}
use Rattle.sdp_text.specs.declared.role.Address.{Address}
use Rattle.sdp_text.specs.declared.role.Address.TheVariants.{Known, Unreadable}
use Rattle.sdp_text.specs.declared.role.RtcpLine.{RtcpLine}
use Rattle.sdp_text.specs.First.{HasFault, HasV6, IsAtFault, IsFirstFault, IsFirstV6, Names, by_count, by_address, by_connection, by_rtcp}
use Rattle.sdp_text.proofs.Firsts.{IsFirst, pick, same_first, first_of_both}

abbrev value_or : {X : Type 0} → X → Option X → X
value_or x None = x
value_or x (Some y) = y

same_value : {X : Type 0} (a b : X) → Some a ≡ Some b → a ≡ b
same_value a b e = ap (value_or a) e

none_some : {X : Type 0} (x : X) → None ≡ Some x → ⊥
none_some x e = cc

known_unreadable : (host : Host) → Known host ≡ Unreadable → ⊥
known_unreadable host e = cc

unreadable_known : (host : Host) → Unreadable ≡ Known host → ⊥
unreadable_known host e = cc

same_host : (a b : Host) → Known a ≡ Known b → a ≡ b
same_host a b e = same_value a b (ap known e)

-- one of the sections is the first one, or among the others
among_at : (p q : Part) (ps : List Part) (k : ℕ) → k < length (p ∷ ps) → get_or (p ∷ ps) k q ≡ q → (p ≡ q) ⊎ Contains ps q
among_at p q ps zero l e = inl e
among_at p q ps (suc k) l e = inr (k, (let m : k < length ps = omega (arith, l) in m), e)

among : (p q : Part) (ps : List Part) → Contains (p ∷ ps) q → (p ≡ q) ⊎ Contains ps q
among p q ps c = among_at p q ps c.0 c.1 c.2

in_front : (p : Part) (ps : List Part) → Contains (p ∷ ps) p
in_front p ps = (0, (let l : 0 < length (p ∷ ps) = omega arith in l), refl)

behind_front : (p q : Part) (ps : List Part) → Contains ps q → Contains (p ∷ ps) q
behind_front p q ps c = (suc c.0, (let l : suc c.0 < length (p ∷ ps) = omega (arith, c.1) in l), c.2)

not_among : (q : Part) → Contains [] q → ⊥
not_among q c = let l : c.0 < 0 = c.1 in omega arith

-- Faults.

abbrev CountAt : Part → SdpFault → Type 0
CountAt part x = (part.media.is_single ≡ false) × (x ≡ faults.PortCount part.line)

abbrev AddressAt : ℕ → Address → SdpFault → Type 0
AddressAt number address x = (address ≡ Unreadable) × (x ≡ faults.Address number)

abbrev GivenAt : ℕ → Option Address → SdpFault → Type 0
GivenAt number given x = (given ≡ Some Unreadable) × (x ≡ faults.Address number)

abbrev ConnectionAt : Option (ℕ × Address) → SdpFault → Type 0
ConnectionAt c x = (number : ℕ) × (c ≡ Some (number, Unreadable)) × (x ≡ faults.Address number)

abbrev RtcpAt : Option (ℕ × RtcpLine) → SdpFault → Type 0
RtcpAt r x = (number : ℕ) × (line : RtcpLine) × (r ≡ Some (number, line)) × (line.address ≡ Some Unreadable) × (x ≡ faults.Address number)

abbrev PartAt : Part → SdpFault → Type 0
PartAt part x = (is_active_line part.media ≡ true) × IsAtFault part x

at_line : (number : ℕ) (fault x : SdpFault) → fault_line fault ≡ number → x ≡ fault → number ≤ fault_line x
at_line number fault x e same = omega (arith, ap fault_line same, e)

count_first : (part : Part) → IsFirst fault_line (CountAt part) (count_fault part)
count_first part =
    elim part.media.is_single as (λ b. part.media.is_single ≡ b → IsFirst fault_line (CountAt part) (cond b None (Some (faults.PortCount part.line)))) [
      | true ↦ λ single. λ x h. true≢false (sym single ∙ h.0)
      | false ↦ λ counted. ((counted, refl), λ x h. at_line part.line (faults.PortCount part.line) x refl h.1)
    ] refl

address_first : (number : ℕ) (address : Address) → IsFirst fault_line (AddressAt number address) (address_fault number address)
address_first number (Known host) = λ x h. known_unreadable host h.0
address_first number Unreadable = ((refl, refl), λ x h. at_line number (faults.Address number) x refl h.1)

connection_first : (c : Option (ℕ × Address)) → IsFirst fault_line (ConnectionAt c) (connection_fault c)
connection_first None = λ x h. none_some (h.0, Unreadable) h.1
connection_first (Some c) =
    same_first fault_line (AddressAt c.0 c.1) (ConnectionAt (Some c)) (λ x h. (c.0, ap (λ a. Some (c.0, a)) h.0, h.1)) (λ x h.
    let same : c ≡ (h.0, Unreadable) = same_value c (h.0, Unreadable) h.1 in
    (ap (λ p. p.1) same, h.2 ∙ ap faults.Address (sym (ap (λ p. p.0) same)))) (address_fault c.0 c.1) (address_first c.0 c.1)

given_first : (number : ℕ) (given : Option Address) → IsFirst fault_line (GivenAt number given) (given_fault number given)
given_first number None = λ x h. none_some Unreadable h.0
given_first number (Some address) =
    same_first fault_line (AddressAt number address) (GivenAt number (Some address)) (λ x h. (ap Some h.0, h.1)) (λ x h. (same_value address Unreadable h.0, h.1)) (address_fault number address) (address_first number address)

rtcp_first : (r : Option (ℕ × RtcpLine)) → IsFirst fault_line (RtcpAt r) (rtcp_fault r)
rtcp_first None = λ x h. none_some (h.0, h.1) h.2
rtcp_first (Some r) =
    same_first fault_line (GivenAt r.0 r.1.address) (RtcpAt (Some r)) (λ x h. (r.0, r.1, refl, h.0, h.1)) (λ x h.
    let same : r ≡ (h.0, h.1) = same_value r (h.0, h.1) h.2 in
    (ap (λ p. p.1.address) same ∙ h.3, h.4 ∙ ap faults.Address (sym (ap (λ p. p.0) same)))) (given_fault r.0 r.1.address) (given_first r.0 r.1.address)

earlier_is : (a b : Option SdpFault) → earlier a b ≡ pick fault_line a b
earlier_is None b = refl
earlier_is (Some x) None = refl
earlier_is (Some x) (Some y) = refl

abbrev LinesAt : Part → SdpFault → Type 0
LinesAt part x = CountAt part x ⊎ (ConnectionAt part.connection x ⊎ RtcpAt part.rtcp x)

to_part : (part : Part) → is_active_line part.media ≡ true → (x : SdpFault) → LinesAt part x → PartAt part x
to_part part active x (inl h) = (active, by_count h.0 h.1)
to_part part active x (inr (inl h)) = (active, by_address h.0 (by_connection h.1) h.2)
to_part part active x (inr (inr h)) = (active, by_address h.0 (by_rtcp h.1 h.2 h.3) h.4)

from_names : (part : Part) (x : SdpFault) (number : ℕ) → Names part number Unreadable → x ≡ faults.Address number → LinesAt part x
from_names part x number (by_connection c) e = inr (inl (number, c, e))
from_names part x number (by_rtcp line r a) e = inr (inr (number, line, r, a, e))

from_fault : (part : Part) (x : SdpFault) → IsAtFault part x → LinesAt part x
from_fault part x (by_count single e) = inl (single, e)
from_fault part x (by_address number names e) = from_names part x number names e

part_first : (part : Part) → IsFirst fault_line (PartAt part) (part_fault part)
part_first part =
    let c = connection_fault part.connection in
    let r = rtcp_fault part.rtcp in
    let both = first_of_both fault_line (ConnectionAt part.connection) (RtcpAt part.rtcp) c r (connection_first part.connection) (rtcp_first part.rtcp) in
    let three = first_of_both fault_line (CountAt part) (λ x. ConnectionAt part.connection x ⊎ RtcpAt part.rtcp x) (count_fault part) (pick fault_line c r) (count_first part) both in
    let same : earlier (count_fault part) (earlier c r) ≡ pick fault_line (count_fault part) (pick fault_line c r) = earlier_is (count_fault part) (earlier c r) ∙ ap (pick fault_line (count_fault part)) (earlier_is c r) in
    elim (is_active_line part.media) as (λ b. is_active_line part.media ≡ b → IsFirst fault_line (PartAt part) (cond b (earlier (count_fault part) (earlier c r)) None)) [
      | true ↦ λ active. subst (IsFirst fault_line (PartAt part)) (sym same) (same_first fault_line (LinesAt part) (PartAt part) (to_part part active) (λ x h. from_fault part x h.1) (pick fault_line (count_fault part) (pick fault_line c r)) three)
      | false ↦ λ idle. λ x h. true≢false (sym h.0 ∙ idle)
    ] refl

to_sections : (p : Part) (ps : List Part) (x : SdpFault) → PartAt p x ⊎ HasFault ps x → HasFault (p ∷ ps) x
to_sections p ps x (inl h) = record { part = p; among = in_front p ps; active = h.0; at_fault = h.1 }
to_sections p ps x (inr h) = record { part = h.part; among = behind_front p h.part ps h.among; active = h.active; at_fault = h.at_fault }

from_sections : (p : Part) (ps : List Part) (x : SdpFault) → HasFault (p ∷ ps) x → PartAt p x ⊎ HasFault ps x
from_sections p ps x h = elim (among p h.part ps h.among) [
  | inl same ↦ inl (subst (λ q. is_active_line q.media ≡ true) (sym same) h.active, subst (λ q. IsAtFault q x) (sym same) h.at_fault)
  | inr later ↦ inr (record { part = h.part; among = later; active = h.active; at_fault = h.at_fault })
]

served_first : (ps : List Part) → IsFirst fault_line (HasFault ps) (served_fault ps)
served_first [] = λ x h. not_among h.part h.among
served_first (p ∷ ps) =
    subst (IsFirst fault_line (HasFault (p ∷ ps))) (sym (earlier_is (part_fault p) (served_fault ps))) (
    same_first fault_line (λ x. PartAt p x ⊎ HasFault ps x) (HasFault (p ∷ ps)) (to_sections p ps) (from_sections p ps) (pick fault_line (part_fault p) (served_fault ps))
    (first_of_both fault_line (PartAt p) (HasFault ps) (part_fault p) (served_fault ps) (part_first p) (served_first ps)))

pub first_fault : (ps : List Part) (fault : SdpFault) → served_fault ps ≡ Some fault → IsFirstFault ps fault
first_fault ps fault e =
    let first : IsFirst fault_line (HasFault ps) (Some fault) = subst (IsFirst fault_line (HasFault ps)) e (served_first ps) in
    record { there = first.0; lowest = first.1 }

pub no_fault : (ps : List Part) → served_fault ps ≡ None → (fault : SdpFault) → HasFault ps fault → ⊥
no_fault ps e =
    let none : IsFirst fault_line (HasFault ps) None = subst (IsFirst fault_line (HasFault ps)) e (served_first ps) in
    none

-- Lines with an IPv6 address.

abbrev itself : ℕ → ℕ
itself n = n

abbrev V6Address : ℕ → Address → ℕ → Type 0
V6Address number address x = (host : Host) × (address ≡ Known host) × (is_v6 host ≡ true) × (x ≡ number)

abbrev V6Given : ℕ → Option Address → ℕ → Type 0
V6Given number given x = (host : Host) × (given ≡ Some (Known host)) × (is_v6 host ≡ true) × (x ≡ number)

abbrev V6Connection : Option (ℕ × Address) → ℕ → Type 0
V6Connection c x = (host : Host) × (c ≡ Some (x, Known host)) × (is_v6 host ≡ true)

abbrev V6Rtcp : Option (ℕ × RtcpLine) → ℕ → Type 0
V6Rtcp r x = (host : Host) × (line : RtcpLine) × (r ≡ Some (x, line)) × (line.address ≡ Some (Known host)) × (is_v6 host ≡ true)

abbrev V6Part : Part → ℕ → Type 0
V6Part part x = (host : Host) × (is_active_line part.media ≡ true) × (is_v6 host ≡ true) × Names part x (Known host)

at_number : (number x : ℕ) → x ≡ number → number ≤ x
at_number number x e = omega arith

v6_address_first : (number : ℕ) (address : Address) → IsFirst itself (V6Address number address) (v6_address number address)
v6_address_first number (Known host) =
    elim (is_v6 host) as (λ b. is_v6 host ≡ b → IsFirst itself (V6Address number (Known host)) (cond b (Some number) None)) [
      | true ↦ λ six. ((host, refl, six, refl), λ x h. at_number number x h.3)
      | false ↦ λ four. λ x h. true≢false (sym h.2 ∙ ap is_v6 (sym (same_host host h.0 h.1)) ∙ four)
    ] refl
v6_address_first number Unreadable = λ x h. unreadable_known h.0 h.1

v6_connection_first : (c : Option (ℕ × Address)) → IsFirst itself (V6Connection c) (v6_connection c)
v6_connection_first None = λ x h. none_some (x, Known h.0) h.1
v6_connection_first (Some c) =
    same_first itself (V6Address c.0 c.1) (V6Connection (Some c)) (λ x h.
    let number : c.0 ≡ x = sym h.3 in
    (h.0, ap (λ n. Some (n, c.1)) number ∙ ap (λ a. Some (x, a)) h.1, h.2)) (λ x h.
    let same : c ≡ (x, Known h.0) = same_value c (x, Known h.0) h.1 in
    (h.0, ap (λ p. p.1) same, h.2, sym (ap (λ p. p.0) same))) (v6_address c.0 c.1) (v6_address_first c.0 c.1)

v6_given_first : (number : ℕ) (given : Option Address) → IsFirst itself (V6Given number given) (v6_given number given)
v6_given_first number None = λ x h. none_some (Known h.0) h.1
v6_given_first number (Some address) =
    same_first itself (V6Address number address) (V6Given number (Some address)) (λ x h. (h.0, ap Some h.1, h.2, h.3)) (λ x h. (h.0, same_value address (Known h.0) h.1, h.2, h.3)) (v6_address number address) (v6_address_first number address)

v6_rtcp_first : (r : Option (ℕ × RtcpLine)) → IsFirst itself (V6Rtcp r) (v6_rtcp r)
v6_rtcp_first None = λ x h. none_some (x, h.1) h.2
v6_rtcp_first (Some r) =
    same_first itself (V6Given r.0 r.1.address) (V6Rtcp (Some r)) (λ x h. (h.0, r.1, ap (λ n. Some (n, r.1)) (sym h.3), h.1, h.2)) (λ x h.
    let same : r ≡ (x, h.1) = same_value r (x, h.1) h.2 in
    (h.0, ap (λ p. p.1.address) same ∙ h.3, h.4, sym (ap (λ p. p.0) same))) (v6_given r.0 r.1.address) (v6_given_first r.0 r.1.address)

lower_is : (a b : Option ℕ) → lower a b ≡ pick itself a b
lower_is None b = refl
lower_is (Some x) None = refl
lower_is (Some x) (Some y) = refl

to_v6 : (part : Part) → is_active_line part.media ≡ true → (x : ℕ) → V6Connection part.connection x ⊎ V6Rtcp part.rtcp x → V6Part part x
to_v6 part active x (inl h) = (h.0, active, h.2, by_connection h.1)
to_v6 part active x (inr h) = (h.0, active, h.4, by_rtcp h.1 h.2 h.3)

from_v6 : (part : Part) (x : ℕ) (host : Host) → is_v6 host ≡ true → Names part x (Known host) → V6Connection part.connection x ⊎ V6Rtcp part.rtcp x
from_v6 part x host six (by_connection c) = inl (host, c, six)
from_v6 part x host six (by_rtcp line r a) = inr (host, line, r, a, six)

v6_part_first : (part : Part) → IsFirst itself (V6Part part) (v6_part part)
v6_part_first part =
    let c = v6_connection part.connection in
    let r = v6_rtcp part.rtcp in
    let both = first_of_both itself (V6Connection part.connection) (V6Rtcp part.rtcp) c r (v6_connection_first part.connection) (v6_rtcp_first part.rtcp) in
    elim (is_active_line part.media) as (λ b. is_active_line part.media ≡ b → IsFirst itself (V6Part part) (cond b (lower c r) None)) [
      | true ↦ λ active. subst (IsFirst itself (V6Part part)) (sym (lower_is c r)) (same_first itself (λ x. V6Connection part.connection x ⊎ V6Rtcp part.rtcp x) (V6Part part) (to_v6 part active) (λ x h. from_v6 part x h.0 h.2 h.3) (pick itself c r) both)
      | false ↦ λ idle. λ x h. true≢false (sym h.1 ∙ idle)
    ] refl

to_v6_sections : (p : Part) (ps : List Part) (x : ℕ) → V6Part p x ⊎ HasV6 ps x → HasV6 (p ∷ ps) x
to_v6_sections p ps x (inl h) = record { part = p; among = in_front p ps; active = h.1; host = h.0; v6 = h.2; names = h.3 }
to_v6_sections p ps x (inr h) = record { part = h.part; among = behind_front p h.part ps h.among; active = h.active; host = h.host; v6 = h.v6; names = h.names }

from_v6_sections : (p : Part) (ps : List Part) (x : ℕ) → HasV6 (p ∷ ps) x → V6Part p x ⊎ HasV6 ps x
from_v6_sections p ps x h = elim (among p h.part ps h.among) [
  | inl same ↦ inl (h.host, subst (λ q. is_active_line q.media ≡ true) (sym same) h.active, h.v6, subst (λ q. Names q x (Known h.host)) (sym same) h.names)
  | inr later ↦ inr (record { part = h.part; among = later; active = h.active; host = h.host; v6 = h.v6; names = h.names })
]

v6_first : (ps : List Part) → IsFirst itself (HasV6 ps) (v6_line ps)
v6_first [] = λ x h. not_among h.part h.among
v6_first (p ∷ ps) =
    subst (IsFirst itself (HasV6 (p ∷ ps))) (sym (lower_is (v6_part p) (v6_line ps))) (
    same_first itself (λ x. V6Part p x ⊎ HasV6 ps x) (HasV6 (p ∷ ps)) (to_v6_sections p ps) (from_v6_sections p ps) (pick itself (v6_part p) (v6_line ps))
    (first_of_both itself (V6Part p) (HasV6 ps) (v6_part p) (v6_line ps) (v6_part_first p) (v6_first ps)))

pub first_v6 : (ps : List Part) (number : ℕ) → v6_line ps ≡ Some number → IsFirstV6 ps number
first_v6 ps number e =
    let first : IsFirst itself (HasV6 ps) (Some number) = subst (IsFirst itself (HasV6 ps)) e (v6_first ps) in
    record { there = first.0; lowest = first.1 }

pub no_v6 : (ps : List Part) → v6_line ps ≡ None → (number : ℕ) → HasV6 ps number → ⊥
no_v6 ps e =
    let none : IsFirst itself (HasV6 ps) None = subst (IsFirst itself (HasV6 ps)) e (v6_first ps) in
    none
