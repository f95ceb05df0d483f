-- The lines that sections keep are lines of the description.
use Rattle.std.proofs.Common.{◌≡◌, ℕ, suc, ◌+◌, ◌-◌, ◌<◌, true, List, [], ◌∷◌, map, slice_get, All, Option, Some, None, refl, ap, ◌∙◌, subst, arith}
use Rattle.std.specs.Bool.{Decides}
use Rattle.std.specs.Option.{IfSome}
use Rattle.sdp_text.specs.Parts.{first_connection, first_rtcp, first_of_two, holds_mux, media_parts, parts_from}
use Rattle.sdp_text.specs.Roles.{mux_line, role}
use Rattle.sdp_text.specs.declared.part.Part.{Part}
use Rattle.sdp_text.specs.declared.role.Address.{Address}
use Rattle.sdp_text.specs.declared.role.MediaLine.{MediaLine}
use Rattle.sdp_text.specs.declared.role.RtcpLine.{RtcpLine}
use Rattle.sdp_text.specs.declared.role.Role.{Role}
use Rattle.sdp_text.specs.declared.role.Role.TheVariants.{Media, Connection, Rtcp, Mux, Plain}
use Rattle.sdp_text.specs.First.{HoldsLine, IsOfLines, LineSays}
use Rattle.std.proofs.lemmas.List.Elements.{All-nil, All-cons}
use Rattle.sdp_text.proofs.MuxLines.{MuxAt, mux_there, mux_held, mux_text, text_mux}

-- these are what the lines from this number on say
abbrev From : List (List ℕ) → ℕ → List Role → Type 0
From lines number roles = (k : ℕ) (r : Role) → slice_get roles k ≡ Some r → LineSays lines (number + k) r

from_first : (lines : List (List ℕ)) → From lines 1 (map role lines)
from_first lines k r e = record {
  numbered = omega arith;
  says = ap (slice_get (map role lines)) (let n : (1 + k) - 1 ≡ k = omega arith in n) ∙ e;
}

here : (lines : List (List ℕ)) (number : ℕ) (r : Role) (more : List Role) → From lines number (r ∷ more) → LineSays lines number r
here lines number r more h = subst (λ n. LineSays lines n r) (let e : number + 0 ≡ number = omega arith in e) (h 0 r refl)

later : (lines : List (List ℕ)) (number : ℕ) (r : Role) (more : List Role) → From lines number (r ∷ more) → From lines (number + 1) more
later lines number r more h k x e = subst (λ n. LineSays lines n x) (let n : number + suc k ≡ (number + 1) + k = omega arith in n) (h (suc k) x e)

-- and these alone
abbrev pub To : List (List ℕ) → ℕ → List Role → Type 0
To lines number roles = (k : ℕ) (r : Role) → LineSays lines (number + k) r → slice_get roles k ≡ Some r

to_first : (lines : List (List ℕ)) → To lines 1 (map role lines)
to_first lines k r line = ap (slice_get (map role lines)) (let n : k ≡ (1 + k) - 1 = omega arith in n) ∙ line.says

to_later : (lines : List (List ℕ)) (number : ℕ) (r : Role) (more : List Role) → To lines number (r ∷ more) → To lines (number + 1) more
to_later lines number r more h k x line = h (suc k) x (subst (λ n. LineSays lines n x) (let n : (number + 1) + k ≡ number + suc k = omega arith in n) line)

-- the line `a=rtcp-mux` of a section that has one
held_line : (lines : List (List ℕ)) (part : Part) (more : List Role) → From lines (part.line + 1) more → To lines (part.line + 1) more
    → holds_mux more ≡ true → HoldsLine lines part mux_line
held_line lines part more from to holds =
    let found = mux_there more holds in
    let at : MuxAt more found.0 = found.1 in
    let n : ℕ = part.line + 1 in record {
      number = n + found.0;
      after = omega arith;
      there = mux_text lines ((n + found.0) - 1) (from found.0 Mux at.there).says;
      own = λ other line after before says.
          let k : ℕ = other - n in
          let same : other ≡ n + k = omega (arith, after) in
          at.own k line (omega (arith, after, before)) (to k (Media line) (subst (λ o. LineSays lines o (Media line)) same says));
    }

-- a section that has one is said to hold it
line_held : (lines : List (List ℕ)) (part : Part) (more : List Role) → From lines (part.line + 1) more → To lines (part.line + 1) more
    → HoldsLine lines part mux_line → holds_mux more ≡ true
line_held lines part more from to line =
    let n : ℕ = part.line + 1 in
    let k : ℕ = line.number - n in
    let same : line.number ≡ n + k = omega (arith, line.after) in
    let says : LineSays lines line.number Mux = record { numbered = omega (arith, line.after); says = text_mux lines (line.number - 1) line.there } in
    mux_held more k (record {
      there = to k Mux (subst (λ o. LineSays lines o Mux) same says);
      own = λ j media before says. line.own (n + j) media (omega arith) (omega (arith, same, before)) (from j (Media media) says);
    })

abbrev IsConnection : List (List ℕ) → ℕ × Address → Type 0
IsConnection lines c = LineSays lines c.0 (Connection c.1)

abbrev IsRtcp : List (List ℕ) → ℕ × RtcpLine → Type 0
IsRtcp lines r = LineSays lines r.0 (Rtcp r.1)

connection_is : (lines : List (List ℕ)) (number : ℕ) (roles : List Role) → From lines number roles → IfSome (first_connection number roles) (IsConnection lines)
connection_is lines number [] h = tt
connection_is lines number (Media line ∷ more) h = tt
connection_is lines number (Connection address ∷ more) h = here lines number (Connection address) more h
connection_is lines number (Rtcp line ∷ more) h = connection_is lines (number + 1) more (later lines number (Rtcp line) more h)
connection_is lines number (Mux ∷ more) h = connection_is lines (number + 1) more (later lines number Mux more h)
connection_is lines number (Plain ∷ more) h = connection_is lines (number + 1) more (later lines number Plain more h)

rtcp_is : (lines : List (List ℕ)) (number : ℕ) (roles : List Role) → From lines number roles → IfSome (first_rtcp number roles) (IsRtcp lines)
rtcp_is lines number [] h = tt
rtcp_is lines number (Media line ∷ more) h = tt
rtcp_is lines number (Connection address ∷ more) h = rtcp_is lines (number + 1) more (later lines number (Connection address) more h)
rtcp_is lines number (Rtcp line ∷ more) h = here lines number (Rtcp line) more h
rtcp_is lines number (Mux ∷ more) h = rtcp_is lines (number + 1) more (later lines number Mux more h)
rtcp_is lines number (Plain ∷ more) h = rtcp_is lines (number + 1) more (later lines number Plain more h)

either_is : {X : Type 0} (P : X → Type 0) (a b : Option X) → IfSome a P → IfSome b P → IfSome (first_of_two a b) P
either_is P None b ha hb = hb
either_is P (Some x) b ha hb = ha

parts_are : (lines : List (List ℕ)) (session : Option (ℕ × Address)) (number : ℕ) (roles : List Role) → IfSome session (IsConnection lines) → From lines number roles → To lines number roles → All (IsOfLines lines) (parts_from session number roles)
parts_are lines session number [] s h t = All-nil (IsOfLines lines)
parts_are lines session number (Media line ∷ more) s h t =
    let rest = later lines number (Media line) more h in
    let alone = to_later lines number (Media line) more t in
    let part : Part = record {
      line = number;
      media = line;
      connection = first_of_two (first_connection (number + 1) more) session;
      rtcp = first_rtcp (number + 1) more;
      mux = holds_mux more;
    } in
    All-cons (IsOfLines lines) part (parts_from session (number + 1) more) (record {
      media = here lines number (Media line) more h;
      connection = either_is (IsConnection lines) (first_connection (number + 1) more) session (connection_is lines (number + 1) more rest) s;
      rtcp = rtcp_is lines (number + 1) more rest;
      mux = (held_line lines part more rest alone, line_held lines part more rest alone);
    }) (parts_are lines session (number + 1) more s rest alone)
parts_are lines session number (Connection address ∷ more) s h t =
    parts_are lines session (number + 1) more s (later lines number (Connection address) more h) (to_later lines number (Connection address) more t)
parts_are lines session number (Rtcp line ∷ more) s h t =
    parts_are lines session (number + 1) more s (later lines number (Rtcp line) more h) (to_later lines number (Rtcp line) more t)
parts_are lines session number (Mux ∷ more) s h t = parts_are lines session (number + 1) more s (later lines number Mux more h) (to_later lines number Mux more t)
parts_are lines session number (Plain ∷ more) s h t = parts_are lines session (number + 1) more s (later lines number Plain more h) (to_later lines number Plain more t)

pub lines_are : (lines : List (List ℕ)) → All (IsOfLines lines) (media_parts lines)
lines_are lines =
    let first = from_first lines in
    parts_are lines (first_connection 1 (map role lines)) 1 (map role lines) (connection_is lines 1 (map role lines) first) first (to_first lines)
