-- The lines of active sections at which a description can't be served, and those with an IPv6 address; and which of them is the first.
use Rattle.std.specs.Prelude.{◌≡◌, ◌<◌, ◌≤◌, ◌-◌, ℕ, List, true, false, Some, map, slice_get, Contains}
use Rattle.std.specs.Bool.{Decides}
use Rattle.std.specs.Option.{IfSome}
use Rattle.sdp_text.specs.Hosts.{is_v6}
use Rattle.sdp_text.specs.Parts.{is_active_line, fault_line}
use Rattle.sdp_text.specs.Roles.{mux_line, role}
use Rattle.sdp_text.specs.declared.fault.SdpFault.{SdpFault}
use Rattle.sdp_text.specs.declared.fault.SdpFault.TheVariants as faults
use Rattle.sdp_text.specs.declared.host.Host.{Host}
use Rattle.sdp_text.specs.declared.part.Part.{Part}
use Rattle.sdp_text.specs.declared.role.Address.{Address}
use Rattle.sdp_text.specs.declared.role.Address.TheVariants.{Known, Unreadable}
use Rattle.sdp_text.specs.declared.role.MediaLine.{MediaLine}
use Rattle.sdp_text.specs.declared.role.RtcpLine.{RtcpLine}
use Rattle.sdp_text.specs.declared.role.Role.{Role}
use Rattle.sdp_text.specs.declared.role.Role.TheVariants.{Media, Connection, Rtcp}

-- the line with this number, from 1, says this
pub record LineSays (lines : List (List ℕ)) (number : ℕ) (what : Role) : Type 0 where
  pub numbered : 0 < number
  pub says : slice_get (map role lines) (number - 1) ≡ Some what

-- a section holds a line with this text: it stands after the section's `m=` line, with no other `m=` line between
pub record HoldsLine (lines : List (List ℕ)) (part : Part) (text : List ℕ) : Type 0 where
  pub number : ℕ
  pub after : part.line < number
  pub there : slice_get lines (number - 1) ≡ Some text
  pub own : (other : ℕ) (line : MediaLine) → part.line < other → other < number → LineSays lines other (Media line) → ⊥

-- the lines that a section keeps are lines of the description that say so: its `m=` line, the `c=` line in effect and its `a=rtcp` line; and it is known whether it holds a line `a=rtcp-mux`
pub record IsOfLines (lines : List (List ℕ)) (part : Part) : Type 0 where
  pub media : LineSays lines part.line (Media part.media)
  pub connection : IfSome part.connection (λ c. LineSays lines c.0 (Connection c.1))
  pub rtcp : IfSome part.rtcp (λ r. LineSays lines r.0 (Rtcp r.1))
  pub mux : Decides part.mux (HoldsLine lines part mux_line)

-- the line with this number has an address that is in effect for a section: its `c=` line, or its `a=rtcp` line
pub data Names (part : Part) (number : ℕ) (address : Address) : Type 0 where
  by_connection : part.connection ≡ Some (number, address) → Names part number address
  by_rtcp : (line : RtcpLine) → part.rtcp ≡ Some (number, line) → line.address ≡ Some address → Names part number address

-- a section can't be served for one of its lines: an `m=` line with a count of ports, or an address that can't be read
pub data IsAtFault (part : Part) (fault : SdpFault) : Type 0 where
  by_count : part.media.is_single ≡ false → fault ≡ faults.PortCount part.line → IsAtFault part fault
  by_address : (number : ℕ) → Names part number Unreadable → fault ≡ faults.Address number → IsAtFault part fault

-- one of the sections is active and at fault so
pub record HasFault (sections : List Part) (fault : SdpFault) : Type 0 where
  pub part : Part
  pub among : Contains sections part
  pub active : is_active_line part.media ≡ true
  pub at_fault : IsAtFault part fault

-- the fault with the lowest line
pub record IsFirstFault (sections : List Part) (fault : SdpFault) : Type 0 where
  pub there : HasFault sections fault
  pub lowest : (other : SdpFault) → HasFault sections other → fault_line fault ≤ fault_line other

-- one of the sections is active, and the line with this number has an IPv6 address that is in effect for it
pub record HasV6 (sections : List Part) (number : ℕ) : Type 0 where
  pub part : Part
  pub among : Contains sections part
  pub active : is_active_line part.media ≡ true
  pub host : Host
  pub v6 : is_v6 host ≡ true
  pub names : Names part number (Known host)

-- the lowest such line
pub record IsFirstV6 (sections : List Part) (number : ℕ) : Type 0 where
  pub there : HasV6 sections number
  pub lowest : (other : ℕ) → HasV6 sections other → number ≤ other
