-- What is opened or closed at some addresses leaves the others.
use Rattle.std.proofs.Common.{◌≡◌, ap, sym, subst, refl, ℕ, Bool, true, false, cond, eq-eqb, List, [], ◌∷◌, ◌++◌, inl, inr, arith}
use Rattle.std.specs.List.{AllZip}
use Rattle.relay_outside.specs.declared.address.Addr.{Addr}
use Rattle.relay_outside.specs.declared.settings.Config.{Config}
use Rattle.relay_outside.specs.declared.ports.PortCall.{PortCall}
use Rattle.rtp_packet.specs.declared.head.Half.TheVariants.{Rtp, Rtcp}
use Rattle.histories.specs.Words.{In, here, there, has}
use Rattle.media_ports.specs.Addresses.{port_address, pair_addresses, AreDistinct}
use Rattle.media_ports.specs.Calls.{Closes, openings, NoneOpen, AllOpen}
use Rattle.media_ports.proofs.Closed.{open_among, open_beside, not_open, none_from}

pub has_first : (ports : List ℕ) (p q : ℕ) → p ≡ q → has (q ∷ ports) p ≡ true
has_first ports p q same = ap (λ (b : Bool). cond b true (has ports p)) (eq-eqb q p (sym same))

pub has_later : (b rest : Bool) → rest ≡ true → cond b true rest ≡ true
has_later true rest h = refl
has_later false rest h = h

pub in_behind : (front back : List Addr) (at : Addr) → In at back → In at (front ++ back)
in_behind [] back at among = among
in_behind (a ∷ front) back at among = there (in_behind front back at among)

pub in_before : (front back : List Addr) (at : Addr) → In at front → In at (front ++ back)
in_before [] back at among = elim among [ ]
in_before (a ∷ front) back at (here same) = here same
in_before (a ∷ front) back at (there more) = there (in_before front back at more)

-- no address stands in both parts
pub parts_apart : (front back : List Addr) → AreDistinct (front ++ back) → (at : Addr) → In at front → In at back → ⊥
parts_apart [] back are at among also = elim among [ ]
parts_apart (a ∷ front) back are at (here same) also = are.0 (in_behind front back a (subst (λ (b : Addr). In b back) same also))
parts_apart (a ∷ front) back are at (there more) also = parts_apart front back are.1 at more also

-- each part of distinct addresses is of distinct ones
pub distinct_behind : (front back : List Addr) → AreDistinct (front ++ back) → AreDistinct back
distinct_behind [] back are = are
distinct_behind (a ∷ front) back are = distinct_behind front back are.1

pub distinct_before : (front back : List Addr) → AreDistinct (front ++ back) → AreDistinct front
distinct_before [] back are = tt
distinct_before (a ∷ front) back are = (λ among. are.0 (in_before front back a among), distinct_before front back are.1)

-- what is opened at the first addresses opens none of the others
pub none_open_after : (front back : List Addr) (answers : List Bool) (calls : List PortCall) → AreDistinct (front ++ back) → NoneOpen back calls → NoneOpen back (calls ++ openings front answers)
none_open_after front back answers calls are none =
    none_from back (calls ++ openings front answers)
    (λ at among o. elim (open_among front answers calls at o) [ inl before ↦ not_open back calls at none among before | inr also ↦ parts_apart front back are at also among ])

all_kept : (ats back : List Addr) (closes calls : List PortCall) → AllZip Closes ats closes → ((at : Addr) → In at ats → In at back → ⊥) → AllOpen back calls → AllOpen back (calls ++ closes)
all_kept ats [] closes calls closed apart open_ = tt
all_kept ats (a ∷ back) closes calls closed apart open_ =
    (open_beside ats closes calls a closed (λ among. apart a among (here refl)) open_.0, all_kept ats back closes calls closed (λ at among also. apart at among (there also)) open_.1)

-- what is closed at the first addresses leaves the others open
pub all_open_after : (front back : List Addr) (closes calls : List PortCall) → AreDistinct (front ++ back) → AllZip Closes front closes → AllOpen back calls → AllOpen back (calls ++ closes)
all_open_after front back closes calls are closed open_ = all_kept front back closes calls closed (parts_apart front back are) open_

-- the two ports of a pair
pub are_two : (config : Config) (pair : ℕ) → AreDistinct (pair_addresses config (pair ∷ []))
are_two config pair = (different, (λ among. elim among [ ], tt))
  where
    different : In (port_address config pair Rtp) (port_address config pair Rtcp ∷ []) → ⊥
    different (here same) = let e = ap (λ (at : Addr). at.port) same in absurd (omega (arith, e))
    different (there more) = elim more [ ]
