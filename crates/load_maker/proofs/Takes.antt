-- What a call adds to what the in ends of a load gave.
use Rattle.std.proofs.Common.{◌≡◌, ◌∙◌, ap, refl, sym, subst, Bool, true, false, ℕ, ◌+◌, min, length, Some, None, Option, MatchOption, IfSome, IsSome, List, [], ◌∷◌, ◌++◌, take}
use Rattle.std.proofs.Math.Nat.{min_comm}
use Rattle.std.proofs.lemmas.List.{take_min}
use Rattle.relay_outside.specs.declared.address.Addr.{Addr}
use Rattle.relay_outside.specs.declared.ports.InCall.{InCall}
use Rattle.relay_outside.specs.declared.ports.InCall.TheVariants as into
use Rattle.relay_outside.specs.declared.ports.InGiven.TheVariants as given
use Rattle.relay_outside.specs.declared.ports.PortCall.{PortCall}
use Rattle.relay_outside.specs.declared.ports.PortCall.TheVariants as port
use Rattle.relay_outside.specs.DeviceLogs.{Gains, WhereLogged}
use Rattle.load_maker.specs.declared.stream.Stream.{Stream}
use Rattle.load_maker.specs.Packets.{side_source, packet}
use Rattle.load_maker.specs.declared.ports.ClosedEnd.{ClosedEnd}
use Rattle.load_maker.specs.Ports.{where_left}
use Rattle.load_maker.specs.Takes.{GivesOn, GaveFirst, AreClosed}

gives_nothing : (stream : Option Stream) (before after room : ℕ) (calls : List InCall) → GivesOn stream before calls after
    → GivesOn stream before (calls ++ into.Take room given.Nothing ∷ []) after
gives_nothing stream before after room [] gives = gives
gives_nothing stream before after room (into.Take r given.Nothing ∷ calls) gives = gives_nothing stream before after room calls gives
gives_nothing stream before after room (into.Take r given.Failed ∷ calls) gives = absurd gives
gives_nothing None before after room (into.Take r (given.Datagram from bytes) ∷ calls) gives = absurd gives
gives_nothing (Some stream) before after room (into.Take r (given.Datagram from bytes) ∷ calls) gives =
    (gives.0, gives.1, gives_nothing (Some stream) (before + 1) after room calls gives.2)

gives_packet : (stream : Stream) (before after room : ℕ) (calls : List InCall) → GivesOn (Some stream) before calls after
    → GivesOn (Some stream) before (calls ++ into.Take room (given.Datagram (side_source stream.call stream.side) (take room (packet stream.call stream.side (after + 1)))) ∷ []) (after + 1)
gives_packet stream before after room [] gives =
    subst (λ n. GivesOn (Some stream) n (into.Take room (given.Datagram (side_source stream.call stream.side) (take room (packet stream.call stream.side (after + 1)))) ∷ []) (after + 1)) gives (refl, refl, refl)
gives_packet stream before after room (into.Take r given.Nothing ∷ calls) gives = gives_packet stream before after room calls gives
gives_packet stream before after room (into.Take r given.Failed ∷ calls) gives = absurd gives
gives_packet stream before after room (into.Take r (given.Datagram from bytes) ∷ calls) gives =
    (gives.0, gives.1, gives_packet stream (before + 1) after room calls gives.2)

-- a list cut at a length is cut at no more than it has
pub take_least : (xs : List ℕ) (n : ℕ) → take (min (length xs) n) xs ≡ take n xs
take_least xs n = ap (λ k. take k xs) (min_comm (length xs) n) ∙ take_min n xs

-- whose packet is next, where one is left
pub left_stream : (more : Bool) (stream : Option Stream) (next : Stream) → Some next ≡ where_left more stream → stream ≡ Some next
left_stream true stream next is = sym is
left_stream false stream next is = let k : Some next ≡ None = is in cc

-- The same of what an end tells, where it still tells.

pub noted_nothing : (stream : Option Stream) (count room : ℕ) (old new : Option (List InCall)) → Gains old new (into.Take room given.Nothing)
    → WhereLogged old (λ takes. GivesOn stream 0 takes count) → WhereLogged new (λ takes. GivesOn stream 0 takes count)
noted_nothing stream count room old None gains log = tt
noted_nothing stream count room None (Some new) gains log = elim gains [ ]
noted_nothing stream count room (Some calls) (Some new) gains log = subst (λ l. GivesOn stream 0 l count) (sym gains) (gives_nothing stream 0 count room calls log)

pub noted_packet : (stream : Stream) (count room : ℕ) (old new : Option (List InCall))
    → Gains old new (into.Take room (given.Datagram (side_source stream.call stream.side) (take room (packet stream.call stream.side (count + 1)))))
    → WhereLogged old (λ takes. GivesOn (Some stream) 0 takes count) → WhereLogged new (λ takes. GivesOn (Some stream) 0 takes (count + 1))
noted_packet stream count room old None gains log = tt
noted_packet stream count room None (Some new) gains log = elim gains [ ]
noted_packet stream count room (Some calls) (Some new) gains log = subst (λ l. GivesOn (Some stream) 0 l (count + 1)) (sym gains) (gives_packet stream 0 count room calls log)

-- Ports.

opens_more : (at : Addr) (calls : List PortCall) (closings : List ClosedEnd) → AreClosed calls closings → AreClosed (calls ++ port.Open at true ∷ []) closings
opens_more at [] [] closed = tt
opens_more at [] (c ∷ closings) closed = absurd closed
opens_more at (port.Open there done ∷ calls) closings closed = opens_more at calls closings closed
opens_more at (port.Close there taken sent ∷ calls) [] closed = absurd closed
opens_more at (port.Close there taken sent ∷ calls) (c ∷ closings) closed = (closed.0, closed.1, opens_more at calls closings closed.2)

closes_more : (one : ClosedEnd) (taken : Option (List InCall)) (calls : List PortCall) (closings : List ClosedEnd) → GaveFirst one.stream taken one.given
    → AreClosed calls closings → AreClosed (calls ++ port.Close one.at taken None ∷ []) (closings ++ one ∷ [])
closes_more one taken [] [] gives closed = (refl, gives, tt)
closes_more one taken [] (c ∷ closings) gives closed = absurd closed
closes_more one taken (port.Open there done ∷ calls) closings gives closed = closes_more one taken calls closings gives closed
closes_more one taken (port.Close there t sent ∷ calls) [] gives closed = absurd closed
closes_more one taken (port.Close there t sent ∷ calls) (c ∷ closings) gives closed = (closed.0, closed.1, closes_more one taken calls closings gives closed.2)

pub noted_open : (at : Addr) (closings : List ClosedEnd) (old new : Option (List PortCall)) → Gains old new (port.Open at true)
    → WhereLogged old (λ calls. AreClosed calls closings) → WhereLogged new (λ calls. AreClosed calls closings)
noted_open at closings old None gains log = tt
noted_open at closings None (Some new) gains log = elim gains [ ]
noted_open at closings (Some calls) (Some new) gains log = subst (λ l. AreClosed l closings) (sym gains) (opens_more at calls closings log)

pub noted_close : (one : ClosedEnd) (taken : Option (List InCall)) (closings : List ClosedEnd) (old new : Option (List PortCall)) → Gains old new (port.Close one.at taken None)
    → GaveFirst one.stream taken one.given
    → WhereLogged old (λ calls. AreClosed calls closings) → WhereLogged new (λ calls. AreClosed calls (closings ++ one ∷ []))
noted_close one taken closings old None gains gives log = tt
noted_close one taken closings None (Some new) gains gives log = elim gains [ ]
noted_close one taken closings (Some calls) (Some new) gains gives log = subst (λ l. AreClosed l (closings ++ one ∷ [])) (sym gains) (closes_more one taken calls closings gives log)

-- an end that tells what it gave
gave_first : (stream : Option Stream) (taken : Option (List InCall)) (given : ℕ) → IsSome taken → WhereLogged taken (λ takes. GivesOn stream 0 takes given) → GaveFirst stream taken given
gave_first stream None given tells gives = let k : false ≡ true = tells in cc
gave_first stream (Some takes) given tells gives = (takes, refl, gives)

-- a closing was noted, where what the end gave was kept
pub noted_kept : (one : ClosedEnd) (taken : Option (List InCall)) (closings closings_now : List ClosedEnd) (old new : Option (List PortCall)) (noted call : Option PortCall) (kept : Bool)
    → MatchOption noted (new ≡ None) (λ c. Gains old new c)
    → IfSome noted (λ c. (kept ≡ true) × (call ≡ Some c))
    → IfSome call (λ c. c ≡ port.Close one.at taken None)
    → (IsSome call → IsSome taken)
    → (kept ≡ true → closings_now ≡ closings ++ one ∷ [])
    → WhereLogged taken (λ takes. GivesOn one.stream 0 takes one.given)
    → WhereLogged old (λ calls. AreClosed calls closings) → WhereLogged new (λ calls. AreClosed calls closings_now)
noted_kept one taken closings closings_now old new None call kept stops both is tells more gives log = subst (λ n. WhereLogged n (λ calls. AreClosed calls closings_now)) (sym stops) tt
noted_kept one taken closings closings_now old new (Some c) call kept gains both is tells more gives log =
    let same : c ≡ port.Close one.at taken None = subst (λ x. IfSome x (λ c. c ≡ port.Close one.at taken None)) both.1 is in
    subst (λ l. WhereLogged new (λ calls. AreClosed calls l)) (sym (more both.0))
    (noted_close one taken closings old new (subst (λ x. Gains old new x) same gains)
    (gave_first one.stream taken one.given (tells (subst (λ x. IsSome x) (sym both.1) refl)) gives) log)
