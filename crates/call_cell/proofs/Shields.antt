-- Under what a relay protects: the outbound key in force on the opposite leg, and an index that no packet had before.
use Rattle.std.proofs.Common.{◌≡◌, refl, ap, subst, sym, ◌∙◌, ℕ, ◌<◌, List, [], ◌∷◌, Bool, true, false, cond, Option, Some, None, length, arith}
use Rattle.relay_outside.specs.declared.settings.Config.{Config}
use Rattle.rtp_packet.specs.declared.head.Half.{Half}
use Rattle.rtp_packet.specs.declared.head.Half.TheVariants.{Rtp, Rtcp}
use Rattle.srtp_sources.specs.Notes.{Note, indices}
use Rattle.histories.specs.Words.{In}
use Rattle.port_pool.specs.declared.holder.Holder.{Holder}
use Rattle.port_pool.specs.declared.signal.LegSignal.{LegSignal}
use Rattle.port_pool.specs.Signals.{same_leg, NewKey}
use Rattle.call_cell.specs.declared.outcome.Lost.TheVariants as lost
use Rattle.call_cell.specs.Cells.{CellEvent, CellEntry, Prepare, Commit, Relay, Expire, Read, End, Relayed, Receipt, Shield, Sending, Deed, legs, opposite, in_force, key_numbered}
use Rattle.call_cell.specs.Protection.{Judged, shield_of, protected, Held, Leaves, wrapped_under, wrapped_with}
use Rattle.call_cell.specs.Deeds.{deed, found, kind, judged, plain_of, wrapped_numbered}
use Rattle.call_cell.specs.Good.{IsGood, GoodCell, begins, goes_on}
use Rattle.call_cell.proofs.Legs.{found_is}
use Rattle.call_cell.proofs.Keys.{key_found}
use Rattle.call_cell.proofs.Does.{Does, refuses, loses, leaves, Taken, Leaving, sending_of, does}
use Rattle.call_cell.proofs.Noted.{own}
use Rattle.call_cell.proofs.Next.{IsNextIndex, IsNext, wraps_next}
use Rattle.call_cell.proofs.Protected.{in_protected, Adds, adds, stays, adds_note, in_indices, Counts, more, same, counts_note, Below, below_more}

pub record Shields (h : List CellEntry) (p : Receipt) (s : Shield) : Type 0 where
  pub leg : Holder
  pub is_found : found h p ≡ Some leg
  pub is_leg : In leg (legs h)
  pub is_same : same_leg p.holder leg ≡ true
  -- what is in force on the leg that is found
  pub own : LegSignal
  pub own_in_force : in_force h leg ≡ Some own
  pub other : Holder
  pub is_opposite : opposite h leg ≡ Some other
  pub signal : LegSignal
  pub is_in_force : in_force h other ≡ Some signal
  -- the key in force on the opposite leg, which the cell got
  pub outbound : signal.outbound ≡ Some s.key
  pub key : NewKey
  pub is_there : key_numbered h s.key ≡ Some key
  pub number_is : key.number ≡ s.key
  pub half_is : s.note.half ≡ kind h p
  -- the packet, and what it is wrapped into
  pub plain : List ℕ
  pub opens : plain_of (judged h p leg) ≡ Some plain
  pub bytes : List ℕ
  pub wraps : wrapped_under key (protected h s.key) (kind h p) plain ≡ Leaves (Some s) bytes
  pub is_next : IsNext (protected h s.key) s.note

-- a packet that leaves under a shield leaves under a key that the cell got
record IsKeyed (h : List CellEntry) (outbound : Option ℕ) (half : Half) (plain : List ℕ) (s : Shield) (bytes : List ℕ) : Type 0 where
  is_outbound : outbound ≡ Some s.key
  key : NewKey
  is_there : key_numbered h s.key ≡ Some key
  number_is : key.number ≡ s.key
  half_is : s.note.half ≡ half
  wraps : wrapped_under key (protected h s.key) half plain ≡ Leaves (Some s) bytes
  is_next : IsNext (protected h s.key) s.note

with_case : (h : List CellEntry) (number : ℕ) (half : Half) (plain : List ℕ) (s : Shield) (bytes : List ℕ) (key : Option NewKey)
    → key_numbered h number ≡ key → wrapped_with key (protected h number) half plain ≡ Leaves (Some s) bytes
    → IsKeyed h (Some number) half plain s bytes
with_case h number half plain s bytes None e q = absurd (let f = q in cc)
with_case h number half plain s bytes (Some key) e q =
    let shield = wraps_next key (protected h number) half plain s bytes q in
    let in_h = key_found h number key e in
    let key_is : s.key ≡ key.number = shield.key_is in
    let number_is : key.number ≡ number = in_h.1 in
    let same : number ≡ s.key = cc in
    record {
      is_outbound = ap Some same;
      key = key;
      is_there = subst (λ (n : ℕ). key_numbered h n ≡ Some key) same e;
      number_is = sym key_is;
      half_is = shield.next.half_is;
      wraps = subst (λ (n : ℕ). wrapped_under key (protected h n) half plain ≡ Leaves (Some s) bytes) same q;
      is_next = subst (λ (n : ℕ). IsNext (protected h n) s.note) same shield.next.is_next;
    }

numbered_case : (h : List CellEntry) (outbound : Option ℕ) (half : Half) (plain : List ℕ) (s : Shield) (bytes : List ℕ)
    → wrapped_numbered h outbound half plain ≡ Leaves (Some s) bytes → IsKeyed h outbound half plain s bytes
numbered_case h None half plain s bytes q = absurd (let f = q in cc)
numbered_case h (Some number) half plain s bytes q = with_case h number half plain s bytes (key_numbered h number) refl q

hold_case : (h : List CellEntry) (outbound : Option ℕ) (half : Half) (plain : List ℕ) (s : Shield) (bytes : List ℕ) (hold : Bool)
    → cond hold (Held lost.Hold) (wrapped_numbered h outbound half plain) ≡ Leaves (Some s) bytes → IsKeyed h outbound half plain s bytes
hold_case h outbound half plain s bytes true q = absurd (let f = q in cc)
hold_case h outbound half plain s bytes false q = numbered_case h outbound half plain s bytes q

shields_by : (h : List CellEntry) (p : Receipt) (t : Taken h p) (l : Leaving h p t) (s : Shield) → l.shield ≡ Some s → Shields h p s
shields_by h p t l s q =
    let k = hold_case h l.signal.outbound (kind h p) t.plain s l.bytes l.signal.hold (l.is_wrapped ∙ ap (λ (o : Option Shield). Leaves o l.bytes) q) in
    let found_leg = found_is h p t.leg t.is_found in
    let o = own h p t in
    record {
      leg = t.leg;
      is_found = t.is_found;
      is_leg = found_leg.is_leg;
      is_same = found_leg.is_same;
      own = o.signal;
      own_in_force = o.is_in_force;
      other = l.other;
      is_opposite = l.is_opposite;
      signal = l.signal;
      is_in_force = l.is_in_force;
      outbound = k.is_outbound;
      key = k.key;
      is_there = k.is_there;
      number_is = k.number_is;
      half_is = k.half_is;
      plain = t.plain;
      opens = ap (λ (j : Judged). plain_of j) t.is_judged;
      bytes = l.bytes;
      wraps = k.wraps;
      is_next = k.is_next;
    }

shields_case : (config : Config) (h : List CellEntry) (p : Receipt) (ok : Bool) (s : Shield) (d : Deed) → Does config h p ok d
    → d.shield ≡ Some s → Shields h p s
shields_case config h p ok s d (refuses c e) q = absurd (let f = ap (λ (x : Deed). x.shield) e in cc)
shields_case config h p ok s d (loses t c n e) q = absurd (let f = ap (λ (x : Deed). x.shield) e in cc)
shields_case config h p ok s d (leaves t l e) q = shields_by h p t l s (sym (ap (λ (x : Deed). x.shield) e) ∙ q)

pub shields : (config : Config) (h : List CellEntry) (p : Receipt) (ok : Bool) (s : Shield) → (deed config h p ok).shield ≡ Some s → Shields h p s
shields config h p ok s q = shields_case config h p ok s (deed config h p ok) (does config h p ok) q

sends_case : (config : Config) (h : List CellEntry) (p : Receipt) (ok : Bool) (s : Shield) (d : Deed) → Does config h p ok d
    → d.shield ≡ Some s → (w : Sending) × (d.sending ≡ Some w)
sends_case config h p ok s d (refuses c e) q = absurd (let f = ap (λ (x : Deed). x.shield) e in cc)
sends_case config h p ok s d (loses t c n e) q = absurd (let f = ap (λ (x : Deed). x.shield) e in cc)
sends_case config h p ok s d (leaves t l e) q = (sending_of h p l.other l.signal l.bytes, ap (λ (x : Deed). x.sending) e)

-- the indices of RTCP packets under a key are below their count

next_control : (half : Half) (ssrc index : ℕ) (notes : List Note) → half ≡ Rtcp → IsNextIndex half ssrc notes index → index ≡ length (indices Rtcp ssrc notes)
next_control Rtp ssrc index notes q n = absurd (let e = q in cc)
next_control Rtcp ssrc index notes q n = n

count_one : (ssrc : ℕ) (note : Note) (notes : List Note) → IsNext notes note → Counts Rtcp ssrc note notes
    → Below (indices Rtcp ssrc notes) → Below (indices Rtcp ssrc (note ∷ notes))
count_one ssrc note notes n (same q) below = subst (λ (xs : List ℕ). Below xs) (sym q) below
count_one ssrc note notes n (more half_is ssrc_is q) below =
    subst (λ (xs : List ℕ). Below xs) (sym q)
    (below_more (indices Rtcp ssrc notes) note.index below
    (next_control note.half note.ssrc note.index notes half_is n ∙ ap (λ (x : ℕ). length (indices Rtcp x notes)) ssrc_is))

count_entry : (key ssrc : ℕ) (e : CellEntry) (h : List CellEntry) → ((s : Shield) → shield_of e ≡ Some s → IsNext (protected h s.key) s.note)
    → Adds e h key → Below (indices Rtcp ssrc (protected h key)) → Below (indices Rtcp ssrc (protected (e ∷ h) key))
count_entry key ssrc e h next (stays q) below = subst (λ (notes : List Note). Below (indices Rtcp ssrc notes)) (sym q) below
count_entry key ssrc e h next (adds s shield_is key_is q) below =
    subst (λ (notes : List Note). Below (indices Rtcp ssrc notes)) (sym q)
    (count_one ssrc s.note (protected h key) (subst (λ (k : ℕ). IsNext (protected h k) s.note) key_is (next s shield_is))
    (counts_note Rtcp ssrc s.note (protected h key)) below)

-- an entry that fits protects under the next index

next_by : (config : Config) (h : List CellEntry) (r : Relayed) (s : Shield) → r.deed ≡ deed config h r.packet r.sent_ok → r.deed.shield ≡ Some s
    → IsNext (protected h s.key) s.note
next_by config h r s good q =
    let x = shields config h r.packet r.sent_ok s (sym (ap (λ (d : Deed). d.shield) good) ∙ q) in
    x.is_next

next_in : (config : Config) (h : List CellEntry) (moment : ℕ) (event : CellEvent) → IsGood config h event
    → (s : Shield) → shield_of (record { moment = moment; event = event }) ≡ Some s → IsNext (protected h s.key) s.note
next_in config h moment (Relay r) good s q = next_by config h r s good q
next_in config h moment (Prepare call legs keys dropped) good s q = absurd (let f = q in cc)
next_in config h moment (Commit signal) good s q = absurd (let f = q in cc)
next_in config h moment (Expire due) good s q = absurd (let f = q in cc)
next_in config h moment (Read log) good s q = absurd (let f = q in cc)
next_in config h moment End good s q = absurd (let f = q in cc)

nothing_counted : (key ssrc index : ℕ) → In index (indices Rtcp ssrc (protected [] key)) → index < length (indices Rtcp ssrc (protected [] key))
unfolding indices
nothing_counted key ssrc index i = elim i [ ]

all_counted : (config : Config) (h : List CellEntry) (key ssrc : ℕ) → GoodCell config h → Below (indices Rtcp ssrc (protected h key))
all_counted config h key ssrc begins index i = nothing_counted key ssrc index i
all_counted config h key ssrc (goes_on {e} {h = k} good rest) index i =
    count_entry key ssrc e k (next_in config k e.moment e.event good) (adds_note e k key) (all_counted config k key ssrc rest) index i

pub counted : (config : Config) (h : List CellEntry) (key ssrc index : ℕ) → GoodCell config h
    → In index (indices Rtcp ssrc (protected h key)) → index < length (indices Rtcp ssrc (protected h key))
counted config h key ssrc index good i = all_counted config h key ssrc good index i

new_case : (config : Config) (h : List CellEntry) (key : ℕ) (half : Half) (ssrc index : ℕ) → GoodCell config h
    → IsNextIndex half ssrc (protected h key) index → In index (indices half ssrc (protected h key)) → ⊥
new_case config h key Rtp ssrc index good n i = n i
new_case config h key Rtcp ssrc index good n i =
    let below = counted config h key ssrc index good i in
    let count = n in
    omega (arith, below, count)

-- what a relay notes under an outbound key, no packet had before
pub is_fresh : (config : Config) (h : List CellEntry) (p : Receipt) (ok : Bool) (s : Shield) → GoodCell config h
    → (deed config h p ok).shield ≡ Some s → In s.note (protected h s.key) → ⊥
is_fresh config h p ok s good q i =
    let x = shields config h p ok s q in
    new_case config h s.key s.note.half s.note.ssrc s.note.index good x.is_next (in_indices (protected h s.key) s.note i)

-- so no earlier entry has the shield of a later relay
pub shield_is_new : (config : Config) (h : List CellEntry) (p : Receipt) (ok : Bool) (s : Shield) (e : CellEntry) → GoodCell config h
    → (deed config h p ok).shield ≡ Some s → In e h → shield_of e ≡ Some s → ⊥
shield_is_new config h p ok s e good q i r = is_fresh config h p ok s good q (in_protected h e s i r)
