-- What reading a description gives: its first fault, and else its sections.
use Rattle.std.specs.Prelude.{◌≡◌, ◌≤◌, ◌^◌, ℕ, List, length, ◌&&◌, not, ◌==◌, Option, Some, None, nat_lt, if◌then◌else◌, find, map, IsTrue, IsSome}
use Rattle.std.specs.List.{list_any}
use Rattle.std.specs.Option.{option_map}
use Rattle.sdp_text.specs.Lines.{size_of}
use Rattle.sdp_text.specs.LineFaults.{faulty_line}
use Rattle.sdp_text.specs.Parts.{first_of_two, is_rtp_proto, media_parts, is_unplaced, is_dtls_part, served_fault, section_of, v6_line}
use Rattle.sdp_text.specs.declared.part.Part.{Part}
use Rattle.sdp_text.specs.declared.section.Section.{Section}
use Rattle.sdp_text.specs.declared.fault.SdpFault.{SdpFault}
use Rattle.sdp_text.specs.declared.fault.SdpFault.TheVariants as faults

-- the first active section without an address or without a port for RTCP
abbrev pub unplaced_fault : List Part → Option SdpFault
unplaced_fault media_parts = option_map (λ part. faults.Line part.line) (find is_unplaced media_parts)

abbrev pub dtls_fault : List Part → Option SdpFault
dtls_fault media_parts = if list_any is_dtls_part media_parts then Some faults.Dtls else None

-- more than eight sections
abbrev pub number_fault : List Part → Option SdpFault
number_fault media_parts = if nat_lt 8 (length media_parts) then Some (faults.TooManyMedia (length media_parts)) else None

-- the first fault of the sections, in the order of the causes
abbrev pub sections_fault : List Part → Option SdpFault
sections_fault media_parts = first_of_two (unplaced_fault media_parts) (first_of_two (dtls_fault media_parts) (first_of_two (number_fault media_parts) (served_fault media_parts)))

-- the first fault of a description
abbrev pub fault_in : List (List ℕ) → Option SdpFault
fault_in lines = first_of_two (option_map faults.Line (faulty_line lines)) (sections_fault (media_parts lines))

-- the sections of a description
abbrev pub sections_in : List (List ℕ) → List Section
sections_in lines = map section_of (media_parts lines)

-- the first `c=` or `a=rtcp` line with an IPv6 address in effect for an active section
abbrev pub v6_line_in : List (List ℕ) → Option ℕ
v6_line_in lines = v6_line (media_parts lines)

-- a section with one of the four protocols of RTP, and a port
abbrev pub IsActive : Section → Type 0
IsActive section = IsTrue (not (section.port == 0) && is_rtp_proto section.proto)

-- a section that is active has its addresses
pub record HasItsAddresses (section : Section) : Type 0 where
  pub address : IsActive section → IsSome section.address
  pub rtcp_address : IsActive section → IsSome section.rtcp_address

-- what is kept besides the lines of a description that was read
pub record IsRead (lines : List (List ℕ)) (found : List Section) (v6 : Option ℕ) : Type 0 where
  pub sound : fault_in lines ≡ None
  pub sections : found ≡ sections_in lines
  pub v6_line : v6 ≡ v6_line_in lines
  pub small : size_of lines ≤ 2 ^ 31
