-- A section is read as holding a line `a=rtcp-mux` exactly where one stands in it.
use Rattle.std.proofs.Common.{◌≡◌, ℕ, zero, suc, ◌+◌, ◌-◌, ◌<◌, Bool, true, false, cond, List, [], ◌∷◌, drop, map, slice_get, Option, Some, None, refl, sym, ap, arith}
use Rattle.std.proofs.lemmas.Bool.{true≢false}
use Rattle.std.proofs.lemmas.Slice.Eq.{bytes_eq-Decides}
use Rattle.std.specs.Str.{bytes_eq}
use Rattle.sdp_text.specs.Parts.{holds_mux}
use Rattle.sdp_text.specs.Roles.{is_connection, is_media, is_rtcp_attribute, media, connection, rtcp, media_role, connection_role, rtcp_role, mux_line, role}
use Rattle.sdp_text.specs.declared.role.Address.{Address}
use Rattle.sdp_text.specs.declared.role.MediaLine.{MediaLine}
use Rattle.sdp_text.specs.declared.role.RtcpLine.{RtcpLine}
use Rattle.sdp_text.specs.declared.role.Role.{Role}
use Rattle.sdp_text.specs.declared.role.Role.TheVariants.{Media, Connection, Rtcp, Mux, Plain}

-- the line at this place says so, and no line before it is an `m=` line
pub record MuxAt (roles : List Role) (k : ℕ) : Type 0 where
  pub there : slice_get roles k ≡ Some Mux
  pub own : (j : ℕ) (line : MediaLine) → j < k → slice_get roles j ≡ Some (Media line) → ⊥

behind : (r : Role) (more : List Role) (k : ℕ) → ((line : MediaLine) → Some r ≡ Some (Media line) → ⊥) → MuxAt more k → MuxAt (r ∷ more) (suc k)
behind r more k other at = record { there = at.there; own = none_before }
  where
    none_before : (j : ℕ) (line : MediaLine) → j < suc k → slice_get (r ∷ more) j ≡ Some (Media line) → ⊥
    none_before zero line before says = other line says
    none_before (suc j) line before says = at.own j line (omega (arith, before)) says

pub mux_there : (roles : List Role) → holds_mux roles ≡ true → (k : ℕ) × MuxAt roles k
mux_there [] holds = absurd (true≢false (sym holds))
mux_there (Media line ∷ more) holds = absurd (true≢false (sym holds))
mux_there (Connection address ∷ more) holds =
    let found = mux_there more holds in
    (suc found.0, behind (Connection address) more found.0 (λ line e. cc) found.1)
mux_there (Rtcp at ∷ more) holds =
    let found = mux_there more holds in
    (suc found.0, behind (Rtcp at) more found.0 (λ line e. cc) found.1)
mux_there (Mux ∷ more) holds = (0, record { there = refl; own = λ j line before says. omega (arith, before) })
mux_there (Plain ∷ more) holds =
    let found = mux_there more holds in
    (suc found.0, behind Plain more found.0 (λ line e. cc) found.1)

ahead : (r : Role) (more : List Role) (k : ℕ) → MuxAt (r ∷ more) (suc k) → MuxAt more k
ahead r more k at = record { there = at.there; own = λ j line before says. at.own (suc j) line (omega (arith, before)) says }

none_mux : None ≡ Some Mux → ⊥
none_mux e = cc

pub mux_held : (roles : List Role) (k : ℕ) → MuxAt roles k → holds_mux roles ≡ true
mux_held [] k at = absurd (none_mux at.there)
mux_held (Media line ∷ more) zero at = absurd (let e = at.there in cc)
mux_held (Media line ∷ more) (suc k) at = absurd (at.own 0 line (omega arith) refl)
mux_held (Connection address ∷ more) zero at = absurd (let e = at.there in cc)
mux_held (Connection address ∷ more) (suc k) at = mux_held more k (ahead (Connection address) more k at)
mux_held (Rtcp line ∷ more) zero at = absurd (let e = at.there in cc)
mux_held (Rtcp line ∷ more) (suc k) at = mux_held more k (ahead (Rtcp line) more k at)
mux_held (Mux ∷ more) k at = refl
mux_held (Plain ∷ more) zero at = absurd (let e = at.there in cc)
mux_held (Plain ∷ more) (suc k) at = mux_held more k (ahead Plain more k at)

-- Which text says so.

no_media : (o : Option MediaLine) → media_role o ≡ Mux → ⊥
no_media None e = cc
no_media (Some line) e = cc

no_connection : (o : Option Address) → connection_role o ≡ Mux → ⊥
no_connection None e = cc
no_connection (Some address) e = cc

no_rtcp : (o : Option RtcpLine) → rtcp_role o ≡ Mux → ⊥
no_rtcp None e = cc
no_rtcp (Some line) e = cc

says_mux : (line : List ℕ) → role line ≡ Mux → line ≡ mux_line
says_mux line e = go (is_media line) (is_connection line) (is_rtcp_attribute line) (bytes_eq line mux_line) refl e
  where
    go : (m c r b : Bool) → bytes_eq line mux_line ≡ b
        → cond m (media_role (media (drop 2 line))) (cond c (connection_role (connection (drop 2 line))) (cond r (rtcp_role (rtcp (drop 7 line))) (cond b Mux Plain))) ≡ Mux
        → line ≡ mux_line
    go true c r b same e = absurd (no_media (media (drop 2 line)) e)
    go false true r b same e = absurd (no_connection (connection (drop 2 line)) e)
    go false false true b same e = absurd (no_rtcp (rtcp (drop 7 line)) e)
    go false false false true same e = (bytes_eq-Decides line mux_line).0 same
    go false false false false same e = absurd (cc)

pub mux_text : (lines : List (List ℕ)) (i : ℕ) → slice_get (map role lines) i ≡ Some Mux → slice_get lines i ≡ Some mux_line
mux_text [] i e = absurd (cc)
mux_text (line ∷ more) zero e = ap Some (says_mux line (cc))
mux_text (line ∷ more) (suc i) e = mux_text more i e

pub text_mux : (lines : List (List ℕ)) (i : ℕ) → slice_get lines i ≡ Some mux_line → slice_get (map role lines) i ≡ Some Mux
text_mux [] i e = absurd (cc)
text_mux (line ∷ more) zero e = let same : line ≡ mux_line = cc in ap (λ l. Some (role l)) same
text_mux (line ∷ more) (suc i) e = text_mux more i e
