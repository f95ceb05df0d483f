-- When one edit writes no more than another.
use Rattle.std.specs.Prelude.{◌≡◌, ◌≤◌, List, [], ◌∷◌, length, decimal, Option, Some, None}
use Rattle.sdes_lines.specs.declared.crypto_line.CryptoLine.{CryptoLine}
use Rattle.sdp_text.specs.Hosts.{text_of}
use Rattle.sdp_text.specs.declared.host.Host.{Host}
use Rattle.sdp_edit.specs.declared.edits.SectionEdit.{SectionEdit}
use Rattle.sdp_edit.specs.declared.edits.Edit.{Edit}

-- a crypto line that is there is there in the other edit too, where its tag has as many digits or more
abbrev pub IsLineWithin : Option CryptoLine → Option CryptoLine → Type 0
IsLineWithin None wide = Unit {0}
IsLineWithin (Some line) None = ⊥
IsLineWithin (Some line) (Some wide) =
    (length (decimal line.tag) ≤ length (decimal wide.tag)) × (length line.key ≡ length wide.key)

-- the same of each line, and there are no more of them
abbrev pub AreLinesWithin : List (Option CryptoLine) → List (Option CryptoLine) → Type 0
AreLinesWithin [] wide = Unit {0}
AreLinesWithin (line ∷ lines) [] = ⊥
AreLinesWithin (line ∷ lines) (wide ∷ more) = IsLineWithin line wide × AreLinesWithin lines more

-- the text of an address is no longer than that of the other one
abbrev pub IsHostWithin : Host → Host → Type 0
IsHostWithin host wide = length (text_of host) ≤ length (text_of wide)

-- a section that is written alike, but that its port and its address may be shorter and that it may have fewer crypto lines
pub record IsSectionWithin (section wide : SectionEdit) : Type 0 where
  pub port_within : length (decimal section.port) ≤ length (decimal wide.port)
  pub proto_is : section.proto ≡ wide.proto
  pub address_within : IsHostWithin section.address wide.address
  pub mux_is : section.mux ≡ wide.mux
  pub lines_within : AreLinesWithin section.crypto wide.crypto

-- the same of each section, and there are as many of them
abbrev pub AreSectionsWithin : List SectionEdit → List SectionEdit → Type 0
AreSectionsWithin [] [] = Unit {0}
AreSectionsWithin [] (wide ∷ more) = ⊥
AreSectionsWithin (section ∷ sections) [] = ⊥
AreSectionsWithin (section ∷ sections) (wide ∷ more) = IsSectionWithin section wide × AreSectionsWithin sections more

-- the edit is within a wide one, which writes at least as much of each description
pub record IsWithin (edit wide : Edit) : Type 0 where
  pub address_within : IsHostWithin edit.address wide.address
  pub origin_is : edit.replace_origin ≡ wide.replace_origin
  pub session_is : edit.replace_session ≡ wide.replace_session
  pub sections_within : AreSectionsWithin edit.sections.list wide.sections.list
