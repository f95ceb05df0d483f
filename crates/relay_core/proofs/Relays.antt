-- The Prepares of a cell since its last End are of one call, which is that of each leg.
use Rattle.std.proofs.Common.{◌≡◌, ◌∙◌, sym, ap, subst, refl, ℕ, zero, suc, ◌<◌, ◌≤◌, ◌⊎◌, inl, inr, List, ◌∷◌, Some, map, arith}
use Rattle.relay_outside.specs.declared.settings.Config.{Config}
use Rattle.histories.specs.Words.{In, here}
use Rattle.histories.proofs.Lists.{in_right, mapped}
use Rattle.port_pool.specs.declared.holder.Holder.{Holder}
use Rattle.port_pool.specs.Signals.{NewKey}
use Rattle.call_cell.specs.Cells.{CellEvent, CellEntry, Prepare, Commit, Relay, Expire, Read, End, since_end, call, legs, call_prepared, prepared_call}
use Rattle.call_board.specs.Acts as act
use Rattle.call_board.specs.Acts.{Call, BoardEntry}
use Rattle.call_board.specs.Calls.{live, ended_by}
use Rattle.call_board.specs.Fits.{FitsBoard}
use Rattle.relay_core.specs.Entries.{Cell, Entry, is_nested, board_entry, board_history, cell_history}
use Rattle.relay_core.specs.Scripts.{Owed, in_cell}
use Rattle.relay_core.specs.Legal.{Orderly}
use Rattle.relay_core.proofs.Histories.{good_history, same_at, Since, since_entry, More, same, added, more}
use Rattle.relay_core.proofs.Scripts.{IsMade, is_made, has_end}
use Rattle.relay_core.proofs.Boards.{moment, less_or, le_or_eq}
use Rattle.relay_core.proofs.Keys.{IsPrepareOf, prepare_of}
use Rattle.relay_core.proofs.Commits.{event_of, entry_of}
use Rattle.relay_core.proofs.Lives.{not_after, no_end_of}
use Rattle.call_board.proofs.Tells.{ended_live}
use Rattle.call_board.proofs.Calls.{offered_live, ended_here, live_numbers}
use Rattle.call_board.proofs.Cells.{live_cells}
use Rattle.call_board.proofs.Held.{new_leg}
use Rattle.call_cell.proofs.Since.{call_is}
use Rattle.call_cell.proofs.Legs.{leg_added, adds_prepares}

-- A live call stays live, or an entry ends it.

pub record IsEnded (config : Config) (l : List Entry) (m n : ℕ) (c : Call) : Type 0 where
  pub board : Entry
  pub entry : BoardEntry
  pub is_in : In board l
  pub is : board_entry board ≡ Some entry
  pub from : m ≤ board.number
  pub below : board.number < n
  pub ends : In c (ended_by entry)

longer : (config : Config) (l : List Entry) (m n : ℕ) (c : Call) → IsEnded config l m n c → IsEnded config l m (suc n) c
longer config l m n c e = record {
  board = e.board;
  entry = e.entry;
  is_in = e.is_in;
  is = e.is;
  from = e.from;
  below = let h = e.below in omega (arith, h);
  ends = e.ends;
}

ended_at : (config : Config) (l : List Entry) → Orderly config l → (m n : ℕ) (c : Call) → m ≤ n → (e : Entry) (x : BoardEntry) → In e l → e.number ≡ n → board_entry e ≡ Some x
    → In c (live (board_history l n)) → In c (live (x ∷ board_history l n)) ⊎ In c.number (map (λ (d : Call). d.number) (ended_by x))
    → In c (live (x ∷ board_history l n)) ⊎ IsEnded config l m (suc n) c
ended_at config l o m n c h e x i k q alive (inl j) = inl j
ended_at config l o m n c h e x i k q alive (inr j) =
    let d = mapped (λ (y : Call). y.number) (ended_by x) j in
    let fits : FitsBoard config (board_history l n) x = subst (λ z. FitsBoard config (board_history l z) x) k (o.board_fits e x i q).1 in
    let was = ended_live config (board_history l n) x d.from fits d.is_in in
    let one : d.from ≡ c = live_numbers config (board_history l n) d.from c (good_history config l o n) was alive d.makes in
    inr (record { board = e; entry = x; is_in = i; is = q; from = let z = k in omega (arith, z, h); below = let z = k in omega (arith, z); ends = subst (λ y. In y (ended_by x)) one d.is_in })

ended_more : (config : Config) (l : List Entry) → Orderly config l → (m n : ℕ) (c : Call) → m ≤ n → More board_entry l 0 n
    → In c (live (board_history l n)) ⊎ IsEnded config l m n c → In c (live (board_history l (suc n))) ⊎ IsEnded config l m (suc n) c
ended_more config l o m n c h step (inr e) = inr (longer config l m n c e)
ended_more config l o m n c h (same q none) (inl i) = inl (subst (λ t. In c (live t)) (sym q) i)
ended_more config l o m n c h (added e x j p k b q) (inl i) =
    back (ended_at config l o m n c h e x j k b i (ended_here (board_history l n) x c i))
  where
    back : In c (live (x ∷ board_history l n)) ⊎ IsEnded config l m (suc n) c → In c (live (board_history l (suc n))) ⊎ IsEnded config l m (suc n) c
    back (inl z) = inl (subst (λ t. In c (live t)) (sym q) z)
    back (inr z) = inr z

ended_case : (config : Config) (l : List Entry) → Orderly config l → (m n : ℕ) (c : Call) → In c (live (board_history l m))
    → (m ≤ n → In c (live (board_history l n)) ⊎ IsEnded config l m n c) → (m < suc n) ⊎ (m ≡ suc n)
    → In c (live (board_history l (suc n))) ⊎ IsEnded config l m (suc n) c
ended_case config l o m n c i rest (inl h) = ended_more config l o m n c (omega (arith, h)) (more board_entry l o.numbered 0 n) (rest (omega (arith, h)))
ended_case config l o m n c i rest (inr q) = inl (subst (λ k. In c (live (board_history l k))) q i)

pub ended_between : (config : Config) (l : List Entry) → Orderly config l → (m n : ℕ) (c : Call) → m ≤ n → In c (live (board_history l m))
    → In c (live (board_history l n)) ⊎ IsEnded config l m n c
ended_between config l o m zero c h i = let is_zero : m ≡ 0 = omega (arith, h) in inl (subst (λ k. In c (live (board_history l k))) is_zero i)
ended_between config l o m (suc n) c h i = ended_case config l o m n c i (λ k. ended_between config l o m n c k i) (le_or_eq m n h)

-- an ended call has its End
pub end_owed : (config : Config) (l : List Entry) → Orderly config l → (m n : ℕ) (c : Call) → (e : IsEnded config l m n c) → IsMade l e.board (in_cell c End)
end_owed config l o m n c e =
    let fits = (o.board_fits e.board e.entry e.is_in e.is).1 in
    is_made config l o e.board e.entry e.is_in e.is (in_cell c End) (has_end config (board_history l e.board.number) e.entry c fits e.ends)

-- Two Prepares of a cell, without an End between, are of one call.

pub record IsPrepared (config : Config) (l : List Entry) (place n : ℕ) (c : CellEntry) (number : ℕ) : Type 0 where
  pub since : Since l place n c
  pub legs : List Holder
  pub keys : List NewKey
  pub dropped : List ℕ
  pub event : since.entry.event ≡ Cell (Prepare number legs keys dropped)
  pub of : IsPrepareOf config l since.entry number legs keys dropped

record IsPreparing (v : CellEvent) (number : ℕ) : Type 0 where
  legs : List Holder
  keys : List NewKey
  dropped : List ℕ
  is : v ≡ Prepare number legs keys dropped

preparing : (v : CellEvent) (number : ℕ) → call_prepared v ≡ Some number → IsPreparing v number
preparing (Prepare call legs keys dropped) number q =
    let h = q in let k : call ≡ number = cc in record { legs = legs; keys = keys; dropped = dropped; is = ap (λ c. Prepare c legs keys dropped) k }
preparing (Commit signal) number q = absurd (let h = q in cc)
preparing (Relay r) number q = absurd (let h = q in cc)
preparing (Expire due) number q = absurd (let h = q in cc)
preparing (Read log) number q = absurd (let h = q in cc)
preparing End number q = absurd (let h = q in cc)

pub prepared : (config : Config) (l : List Entry) → Orderly config l → (place n : ℕ) (c : CellEntry) (number : ℕ)
    → In c (since_end (cell_history l place n)) → prepared_call c ≡ Some number → IsPrepared config l place n c number
prepared config l o place n c number i q =
    let s = since_entry l o.numbered place n c i in
    let p = preparing c.event number q in
    let event : s.entry.event ≡ Cell (Prepare number p.legs p.keys p.dropped) = event_of s.entry c s.is ∙ ap Cell p.is in
    record { since = s; legs = p.legs; keys = p.keys; dropped = p.dropped; event = event; of = prepare_of config l o s.entry s.is_in number p.legs p.keys p.dropped event }

-- the offer's call is live after it
live_after : (config : Config) (l : List Entry) → Orderly config l → (place n : ℕ) (c : CellEntry) (number : ℕ) → (p : IsPrepared config l place n c number)
    → In p.of.offer.of (live (board_history l (suc p.of.nested.board.number)))
live_after config l o place n c number p =
    let b = p.of.nested in
    subst (λ h. In p.of.offer.of (live h)) (sym (moment config l o b.board b.entry b.is_in b.is))
    (offered_live config (board_history l b.board.number) b.entry p.of.offer (good_history config l o b.board.number) b.fits p.of.acts)

module _ (config : Config) (l : List Entry) (o : Orderly config l) (place n : ℕ) (c d : CellEntry) (x y : ℕ)
    (p : IsPrepared config l place n c x) (q : IsPrepared config l place n d y) (first : p.since.entry.number < q.since.entry.number) where
  in_order : p.of.nested.board.number ≤ q.of.nested.board.number
  in_order =
      let h = not_after config l o p.since.entry q.since.entry p.since.is_in q.since.is_in (ap is_nested p.event) (ap is_nested q.event) (p.since.at ∙ sym q.since.at) first in
      let a : p.of.nested.board.number ≡ p.since.entry.board = p.of.nested.number_is in
      let b : q.of.nested.board.number ≡ q.since.entry.board = q.of.nested.number_is in
      omega (arith, h, a, b)

  not_ended : IsEnded config l (suc p.of.nested.board.number) (suc q.of.nested.board.number) p.of.offer.of → ⊥
  not_ended e = placed (less_or g.entry.number p.since.entry.number) (less_or g.entry.number q.since.entry.number)
    where
      g : IsMade l e.board (in_cell p.of.offer.of End)
      g = end_owed config l o (suc p.of.nested.board.number) (suc q.of.nested.board.number) p.of.offer.of e

      event : g.entry.event ≡ Cell End
      event = ap (λ (w : Owed). w.event) g.is

      at : g.entry.place ≡ place
      at = ap (λ (w : Owed). w.place) g.is ∙ sym p.of.place_is ∙ p.since.at

      of_board : g.entry.board ≡ e.board.number
      of_board = g.board_is

      first_board : p.of.nested.board.number ≡ p.since.entry.board
      first_board = p.of.nested.number_is

      second_board : q.of.nested.board.number ≡ q.since.entry.board
      second_board = q.of.nested.number_is

      low : suc p.of.nested.board.number ≤ e.board.number
      low = e.from

      high : e.board.number < suc q.of.nested.board.number
      high = e.below

      too_early : g.entry.number < p.since.entry.number → ⊥
      too_early h =
          let k = not_after config l o g.entry p.since.entry g.is_in p.since.is_in g.nested (ap is_nested p.event) (at ∙ sym p.since.at) h in
          omega (arith, k, of_board, first_board, low)

      too_late : q.since.entry.number < g.entry.number → ⊥
      too_late h =
          let k = not_after config l o q.since.entry g.entry q.since.is_in g.is_in (ap is_nested q.event) g.nested (q.since.at ∙ sym at) h in
          no_end_of config l o q.of.nested.board q.of.nested.entry (act.Offered q.of.offer) q.of.nested.is_in q.of.nested.is q.of.acts refl (λ t. let z = t in cc)
          g.entry g.is_in event (omega (arith, k, of_board, second_board, high))

      is_first : g.entry.number ≡ p.since.entry.number → ⊥
      is_first h =
          let one = same_at l o.numbered g.entry p.since.entry g.is_in p.since.is_in (at ∙ sym p.since.at) h in
          let clash : Cell End ≡ Cell (Prepare x p.legs p.keys p.dropped) = sym event ∙ ap (λ (z : Entry). z.event) one ∙ p.event in cc

      is_second : g.entry.number ≡ q.since.entry.number → ⊥
      is_second h =
          let one = same_at l o.numbered g.entry q.since.entry g.is_in q.since.is_in (at ∙ sym q.since.at) h in
          let clash : Cell End ≡ Cell (Prepare y q.legs q.keys q.dropped) = sym event ∙ ap (λ (z : Entry). z.event) one ∙ q.event in cc

      placed : (g.entry.number < p.since.entry.number) ⊎ ((g.entry.number ≡ p.since.entry.number) ⊎ (p.since.entry.number < g.entry.number))
          → (g.entry.number < q.since.entry.number) ⊎ ((g.entry.number ≡ q.since.entry.number) ⊎ (q.since.entry.number < g.entry.number)) → ⊥
      placed (inl h) k = too_early h
      placed (inr (inl h)) k = is_first h
      placed (inr (inr h)) (inr (inl k)) = is_second k
      placed (inr (inr h)) (inr (inr k)) = too_late k
      placed (inr (inr h)) (inl k) =
          let below : q.since.entry.number < n = q.since.below in
          let alive = p.since.none_later g.entry (record { moment = g.entry.moment; event = End }) g.is_in at h (omega (arith, k, below)) (entry_of g.entry.moment g.entry.event End event) in
          cc

  one_call : In p.of.offer.of (live (board_history l (suc q.of.nested.board.number))) ⊎ IsEnded config l (suc p.of.nested.board.number) (suc q.of.nested.board.number) p.of.offer.of → x ≡ y
  one_call (inr e) = absurd (not_ended e)
  one_call (inl i) =
      let h = board_history l (suc q.of.nested.board.number) in
      let cells : p.of.offer.of.cell ≡ q.of.offer.of.cell = sym p.of.place_is ∙ p.since.at ∙ sym q.since.at ∙ q.of.place_is in
      let one = live_cells config h p.of.offer.of q.of.offer.of (good_history config l o (suc q.of.nested.board.number)) i (live_after config l o place n d y q) cells in
      p.of.call_is ∙ ap (λ (z : Call). z.number) one ∙ sym q.of.call_is

  pub agree_in_order : x ≡ y
  agree_in_order =
      one_call (ended_between config l o (suc p.of.nested.board.number) (suc q.of.nested.board.number) p.of.offer.of
      (let h = in_order in omega (arith, h)) (live_after config l o place n c x p))

agree_case : (config : Config) (l : List Entry) → Orderly config l → (place n : ℕ) (c d : CellEntry) (x y : ℕ)
    → (p : IsPrepared config l place n c x) → (q : IsPrepared config l place n d y)
    → (p.since.entry.number < q.since.entry.number) ⊎ ((p.since.entry.number ≡ q.since.entry.number) ⊎ (q.since.entry.number < p.since.entry.number)) → x ≡ y
agree_case config l o place n c d x y p q (inl h) = agree_in_order config l o place n c d x y p q h
agree_case config l o place n c d x y p q (inr (inl h)) =
    let one = same_at l o.numbered p.since.entry q.since.entry p.since.is_in q.since.is_in (p.since.at ∙ sym q.since.at) h in
    let events : Cell (Prepare x p.legs p.keys p.dropped) ≡ Cell (Prepare y q.legs q.keys q.dropped) = sym p.event ∙ ap (λ (z : Entry). z.event) one ∙ q.event in
    cc
agree_case config l o place n c d x y p q (inr (inr h)) = sym (agree_in_order config l o place n d c y x q p h)

pub calls_agree : (config : Config) (l : List Entry) → Orderly config l → (place n : ℕ) (c d : CellEntry) (x y : ℕ)
    → In c (since_end (cell_history l place n)) → In d (since_end (cell_history l place n)) → prepared_call c ≡ Some x → prepared_call d ≡ Some y → x ≡ y
calls_agree config l o place n c d x y i j q r =
    let p = prepared config l o place n c x i q in
    let s = prepared config l o place n d y j r in
    agree_case config l o place n c d x y p s (less_or p.since.entry.number s.since.entry.number)

-- The cell's call is that of each of its legs.
pub call_of_leg : (config : Config) (l : List Entry) → Orderly config l → (place n : ℕ) (leg : Holder)
    → In leg (legs (since_end (cell_history l place n))) → call (since_end (cell_history l place n)) ≡ Some leg.call
call_of_leg config l o place n leg i =
    let h = since_end (cell_history l place n) in
    let a = leg_added h leg i in
    let there : In a.entry h = subst (λ t. In a.entry t) (sym a.splits) (in_right a.newer (a.entry ∷ a.older) (here refl)) in
    let m = adds_prepares a.entry a.adds in
    let says : prepared_call a.entry ≡ Some m.0.call = ap call_prepared m.0.is_it in
    let p = prepared config l o place n a.entry m.0.call there says in
    let legs_are : m.0.legs ≡ p.legs =
    let events : Cell (Prepare m.0.call m.0.legs m.0.keys m.0.dropped) ≡ Cell (Prepare m.0.call p.legs p.keys p.dropped) =
    sym (ap Cell m.0.is_it) ∙ sym (event_of p.since.entry a.entry p.since.is) ∙ p.event in cc in
    let in_offer : In leg p.of.offer.legs = subst (λ ls. In leg ls) (legs_are ∙ p.of.legs_are) m.1 in
    let b = p.of.nested in
    let of = (new_leg config (board_history l b.board.number) b.entry p.of.offer leg b.fits p.of.acts in_offer).0 in
    let number : m.0.call ≡ leg.call = p.of.call_is ∙ sym of in
    let is : call h ≡ Some m.0.call = call_is h m.0.call a.entry there says
    (λ f z j q. calls_agree config l o place n f a.entry z m.0.call j there q says) in
    is ∙ ap Some number
