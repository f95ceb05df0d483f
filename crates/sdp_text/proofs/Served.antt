-- Where a description has no fault, each of its active sections has its addresses, and there are at most eight.
use Rattle.std.proofs.Common.{◌≡◌, ℕ, zero, suc, ◌≤◌, ltb, cond, true, false, Bool, ◌||◌, List, [], ◌∷◌, length, map, Option, Some, None, refl, subst, slice_get, is_none, find, IsSome}
use Rattle.std.proofs.lemmas.Bool.{true≢false, ltb-false}
use Rattle.std.proofs.lemmas.List.{length-map}
use Rattle.std.specs.Option.{option_map}
use Rattle.sdp_text.specs.Parts.{first_of_two, media_parts, is_active_line, is_unplaced, earlier, fault_line, count_fault, address_fault, connection_fault, given_fault, rtcp_fault, part_fault, served_fault, known, connection_host, given_host, rtcp_host, section_of}
use Rattle.sdp_text.specs.Descriptions.{HasItsAddresses, fault_in, sections_in, sections_fault, unplaced_fault, dtls_fault, number_fault}
use Rattle.sdp_text.specs.LineFaults.{faulty_line}
use Rattle.sdp_text.specs.declared.host.Host.{Host}
use Rattle.sdp_text.specs.declared.role.Address.{Address}
use Rattle.sdp_text.specs.declared.role.Address.TheVariants.{Known, Unreadable}
use Rattle.sdp_text.specs.declared.role.RtcpLine.{RtcpLine}
use Rattle.sdp_text.specs.declared.part.Part.{Part}
use Rattle.sdp_text.specs.declared.section.Section.{Section}
use Rattle.sdp_text.specs.declared.fault.SdpFault.{SdpFault}
use Rattle.sdp_text.specs.declared.fault.SdpFault.TheVariants as faults

or_else_none : {X : Type 0} (a b : Option X) → first_of_two a b ≡ None → (a ≡ None) × (b ≡ None)
or_else_none None b e = (refl, e)
or_else_none (Some x) b e = absurd (cc)

earlier_none : (a b : Option SdpFault) → earlier a b ≡ None → (a ≡ None) × (b ≡ None)
earlier_none None b e = (refl, e)
earlier_none (Some x) None e = absurd (cc)
earlier_none (Some x) (Some y) e = absurd (elim (ltb (fault_line y) (fault_line x)) as (λ t. cond t (Some y) (Some x) ≡ None → ⊥) [ true ↦ λ h. cc | false ↦ λ h. cc ] e)

-- no element passes, where none is found
find_none : (p : Part → Bool) (x : Part) (xs : List Part) → find p (x ∷ xs) ≡ None → (p x ≡ false) × (find p xs ≡ None)
find_none p x xs = elim (p x) as (λ t. cond t (Some x) (find p xs) ≡ None → (t ≡ false) × (find p xs ≡ None)) [ true ↦ λ h. absurd (cc) | false ↦ λ h. (refl, h) ]

address_known : (number : ℕ) (address : Address) → address_fault number address ≡ None → IsSome (known address)
address_known number (Known host) e = refl
address_known number Unreadable e = absurd (cc)

connection_known : (c : Option (ℕ × Address)) → is_none c ≡ false → connection_fault c ≡ None → IsSome (connection_host c)
connection_known None some e = absurd (true≢false some)
connection_known (Some c) some e = address_known c.0 c.1 e

given_known : (host : Option Host) (number : ℕ) (address : Option Address) → IsSome host → given_fault number address ≡ None → IsSome (given_host host address)
given_known host number None h e = h
given_known host number (Some address) h e = address_known number address e

rtcp_known : (host : Option Host) (r : Option (ℕ × RtcpLine)) → IsSome host → rtcp_fault r ≡ None → IsSome (rtcp_host host r)
rtcp_known host None h e = h
rtcp_known host (Some r) h e = given_known host r.0 r.1.address h e

or_false : (a b : Bool) → (a || b) ≡ false → a ≡ false
or_false true b e = e
or_false false b e = refl

-- what an active section has
record Placed (part : Part) : Type 0 where
  address : IsSome (connection_host part.connection)
  rtcp_address : IsSome (rtcp_host (connection_host part.connection) part.rtcp)

placed : (part : Part) → is_active_line part.media ≡ true → is_unplaced part ≡ false → part_fault part ≡ None → Placed part
placed part active unplaced fault =
    let open_unplaced = rw active at unplaced in
    let open_fault = rw active at fault in
    let some : is_none part.connection ≡ false = or_false _ _ open_unplaced in
    let faults_none = earlier_none (count_fault part) (earlier (connection_fault part.connection) (rtcp_fault part.rtcp)) open_fault in
    let addresses_none = earlier_none (connection_fault part.connection) (rtcp_fault part.rtcp) faults_none.1 in
    let host = connection_known part.connection some addresses_none.0 in
    record { address = host; rtcp_address = rtcp_known (connection_host part.connection) part.rtcp host addresses_none.1 }

served_one : (part : Part) → is_unplaced part ≡ false → part_fault part ≡ None → HasItsAddresses (section_of part)
served_one part unplaced fault = record {
  address = λ active. (placed part active unplaced fault).address;
  rtcp_address = λ active. (placed part active unplaced fault).rtcp_address;
}

served_each : (ps : List Part) → find is_unplaced ps ≡ None → served_fault ps ≡ None → (i : ℕ) (s : Section) → slice_get (map section_of ps) i ≡ Some s → HasItsAddresses s
served_each [] f e i s at = absurd (cc)
served_each (p ∷ ps) f e zero s at =
    let this = find_none is_unplaced p ps f in
    let fault = earlier_none (part_fault p) (served_fault ps) e in
    let same : section_of p ≡ s = cc in
    subst HasItsAddresses same (served_one p this.0 fault.0)
served_each (p ∷ ps) f e (suc i) s at =
    let this = find_none is_unplaced p ps f in
    let fault = earlier_none (part_fault p) (served_fault ps) e in
    served_each ps this.1 fault.1 i s at

unplaced_none : (ps : List Part) → unplaced_fault ps ≡ None → find is_unplaced ps ≡ None
unplaced_none ps = elim (find is_unplaced ps) as (λ o. option_map (λ part. faults.Line part.line) o ≡ None → o ≡ None) [ None ↦ λ e. refl | Some x ↦ λ e. absurd (cc) ]

few_none : (ps : List Part) → number_fault ps ≡ None → length ps ≤ 8
few_none ps e = ltb-false 8 (length ps) (elim (ltb 8 (length ps)) as (λ t. cond t (Some (faults.TooManyMedia (length ps))) None ≡ None → t ≡ false) [ true ↦ λ h. absurd (cc) | false ↦ λ h. refl ] e)

record Whole (lines : List (List ℕ)) : Type 0 where
  placed : find is_unplaced (media_parts lines) ≡ None
  few : length (media_parts lines) ≤ 8
  served : served_fault (media_parts lines) ≡ None

whole : (lines : List (List ℕ)) → fault_in lines ≡ None → Whole lines
whole lines e =
    let all = or_else_none (option_map faults.Line (faulty_line lines)) (sections_fault (media_parts lines)) e in
    let first = or_else_none (unplaced_fault (media_parts lines)) (first_of_two (dtls_fault (media_parts lines)) (first_of_two (number_fault (media_parts lines)) (served_fault (media_parts lines)))) all.1 in
    let second = or_else_none (dtls_fault (media_parts lines)) (first_of_two (number_fault (media_parts lines)) (served_fault (media_parts lines))) first.1 in
    let third = or_else_none (number_fault (media_parts lines)) (served_fault (media_parts lines)) second.1 in
    record { placed = unplaced_none (media_parts lines) first.0; few = few_none (media_parts lines) third.0; served = third.1 }

pub sections_served : (lines : List (List ℕ)) → fault_in lines ≡ None → (i : ℕ) (s : Section) → slice_get (sections_in lines) i ≡ Some s → HasItsAddresses s
sections_served lines e i s at = let w = whole lines e in served_each (media_parts lines) w.placed w.served i s at

pub sections_few : (lines : List (List ℕ)) → fault_in lines ≡ None → length (sections_in lines) ≤ 8
sections_few lines e = let w = whole lines e in simp length-map w.few
