-- What a turn of the board finds at the cells: a cell that holds a call holds a live one, and a live call's cell holds that call.
use Rattle.std.proofs.Common.{◌≡◌, ◌∙◌, sym, ap, subst, refl, ℕ, zero, suc, ◌<◌, ◌⊎◌, inl, inr, List, [], ◌∷◌, Bool, true, false, cond, Some, map, arith}
use Rattle.relay_outside.specs.declared.settings.Config.{Config}
use Rattle.histories.specs.Words.{In, here, there, final, has}
use Rattle.call_cell.specs.Cells.{CellEntry, Prepare, End}
use Rattle.call_board.specs.Acts as act
use Rattle.call_board.specs.Acts.{Call, BoardEntry}
use Rattle.call_board.specs.Calls.{live, begun_by_act, ended_by}
use Rattle.call_board.proofs.Calls.{live_before, offered_live}
use Rattle.relay_core.specs.Entries.{Cell, Entry, is_nested, board_entry, board_history}
use Rattle.relay_core.specs.Scripts.{Owed}
use Rattle.relay_core.specs.Legal.{Orderly}
use Rattle.relay_core.proofs.Histories.{same_at, good_history, More, same, added, more}
use Rattle.relay_core.proofs.Boards.{moment, less_or}
use Rattle.relay_core.proofs.Commits.{entry_of}
use Rattle.relay_core.proofs.Lives.{not_after}
use Rattle.relay_core.proofs.Relays.{IsEnded, end_owed, IsPrepared}
use Rattle.relay_core.proofs.Turns.{IsAbove}

-- A cell that holds a call. In what follows n is the number of the board's next entry, k that of the cell's.

-- a live call, in the cell of that place
pub record IsLiveAt (h : List BoardEntry) (place number : ℕ) : Type 0 where
  pub of : Call
  pub is_live : In of (live h)
  pub number_is : of.number ≡ number
  pub cell_is : of.cell ≡ place

-- the call of an offer is live after it
pub offer_live : (config : Config) (l : List Entry) → Orderly config l → (b : Entry) (x : BoardEntry) (p : act.Offer) → In b l → board_entry b ≡ Some x
    → act.act x ≡ act.Offered p → In p.of (live (board_history l (suc b.number)))
offer_live config l o b x p i h q =
    subst (λ t. In p.of (live t)) (sym (moment config l o b x i h))
    (offered_live config (board_history l b.number) x p (good_history config l o b.number) (o.board_fits b x i h).1 q)

-- an End that belongs to a later entry of the board than the Prepare would stand after it
end_refuted : (config : Config) (l : List Entry) → Orderly config l → (place k : ℕ) → IsAbove l place k → (c : CellEntry) (number : ℕ)
    → (p : IsPrepared config l place k c number) → (g : Entry) → In g l → is_nested g.event ≡ true → g.place ≡ place → g.event ≡ Cell End
    → p.of.nested.board.number < g.board
    → (p.since.entry.number < g.number) ⊎ ((p.since.entry.number ≡ g.number) ⊎ (g.number < p.since.entry.number)) → ⊥
end_refuted config l o place k above c number p g i nested at event later (inl q) =
    let alive = p.since.none_later g (record { moment = g.moment; event = End }) i at q (above g i at) (entry_of g.moment g.event End event) in cc
end_refuted config l o place k above c number p g i nested at event later (inr (inl q)) =
    let one = same_at l o.numbered p.since.entry g p.since.is_in i (p.since.at ∙ sym at) q in
    let clash : Cell (Prepare number p.legs p.keys p.dropped) ≡ Cell End = sym p.event ∙ ap (λ (z : Entry). z.event) one ∙ event in cc
end_refuted config l o place k above c number p g i nested at event later (inr (inr q)) =
    let h = not_after config l o g p.since.entry i p.since.is_in nested (ap is_nested p.event) (at ∙ sym p.since.at) q in
    let b : p.of.nested.board.number ≡ p.since.entry.board = p.of.nested.number_is in
    omega (arith, h, b, later)

still_live : (config : Config) (l : List Entry) → Orderly config l → (n place k : ℕ) → IsAbove l place k → (c : CellEntry) (number : ℕ)
    → (p : IsPrepared config l place k c number)
    → In p.of.offer.of (live (board_history l n)) ⊎ IsEnded config l (suc p.of.nested.board.number) n p.of.offer.of
    → IsLiveAt (board_history l n) place number
still_live config l o n place k above c number p (inl i) =
    record { of = p.of.offer.of; is_live = i; number_is = sym p.of.call_is; cell_is = sym p.of.place_is ∙ p.since.at }
still_live config l o n place k above c number p (inr e) =
    let g = end_owed config l o (suc p.of.nested.board.number) n p.of.offer.of e in
    absurd (end_refuted config l o place k above c number p g.entry g.is_in g.nested
    (ap (λ (w : Owed). w.place) g.is ∙ sym p.of.place_is ∙ p.since.at) (ap (λ (w : Owed). w.event) g.is)
    (let q : g.entry.board ≡ e.board.number = g.board_is in let j = e.from in omega (arith, q, j))
    (less_or p.since.entry.number g.entry.number))

-- The cell of an offer that comes next.

none_ended : (x : BoardEntry) (number : ℕ) → ended_by x ≡ [] → has (map (λ (d : Call). d.number) (ended_by x)) number ≡ false
none_ended x number q = ap (λ (cs : List Call). has (map (λ (d : Call). d.number) cs) number) q

-- A live call's cell.

-- the offer that began a call
pub record Beginning (l : List Entry) (n : ℕ) (of : Call) : Type 0 where
  pub board : Entry
  pub is_in : In board l
  pub below : board.number < n
  pub entry : BoardEntry
  pub is : board_entry board ≡ Some entry
  pub offer : act.Offer
  pub acts : act.act entry ≡ act.Offered offer
  pub of_is : offer.of ≡ of

begins_offered : (of : Call) (a : act.Act) → In of (begun_by_act a) → (p : act.Offer) × (a ≡ act.Offered p) × (p.of ≡ of)
begins_offered of (act.Offered p) i = (p, refl, begun_case p.begins i)
  where
    begun_case : (t : Bool) → In of (cond t (p.of ∷ []) []) → p.of ≡ of
    begun_case true (here q) = sym q
    begun_case true (there j) = elim j [ ]
    begun_case false j = elim j [ ]
begins_offered of (act.Answered a) i = elim i [ ]
begins_offered of act.Repeated i = elim i [ ]
begins_offered of act.OutOfMemory i = elim i [ ]
begins_offered of (act.Failed code) i = elim i [ ]
begins_offered of (act.Undone code leases draws) i = elim i [ ]
begins_offered of (act.Deleted d) i = elim i [ ]
begins_offered of (act.Queried d) i = elim i [ ]
begins_offered of act.Told i = elim i [ ]
begins_offered of (act.Delayed d s) i = elim i [ ]

beginning_more : (l : List Entry) (n : ℕ) (of : Call) → Beginning l n of → Beginning l (suc n) of
beginning_more l n of b = record {
  board = b.board;
  is_in = b.is_in;
  below = let q = b.below in omega (arith, q);
  entry = b.entry;
  is = b.is;
  offer = b.offer;
  acts = b.acts;
  of_is = b.of_is;
}

beginning_case : (l : List Entry) (n : ℕ) (of : Call) → (In of (live (board_history l n)) → Beginning l n of) → More board_entry l 0 n
    → In of (live (board_history l (suc n))) → Beginning l (suc n) of
beginning_case l n of rest (same q none) i = beginning_more l n of (rest (subst (λ t. In of (live t)) q i))
beginning_case l n of rest (added b x j p m h q) i = begun_at (live_before (board_history l n) x of (subst (λ t. In of (live t)) q i)).0
  where
    begun_at : In of (live (board_history l n)) ⊎ In of (begun_by_act (act.act x)) → Beginning l (suc n) of
    begun_at (inl k) = beginning_more l n of (rest k)
    begun_at (inr k) =
        let s = begins_offered of (act.act x) k in
        record {
          board = b;
          is_in = j;
          below = let w = m in omega (arith, w);
          entry = x;
          is = h;
          offer = s.0;
          acts = s.1;
          of_is = s.2;
        }

pub live_begun_by : (config : Config) (l : List Entry) → Orderly config l → (n : ℕ) (of : Call) → In of (live (board_history l n)) → Beginning l n of
live_begun_by config l o zero of i = elim i [ ]
live_begun_by config l o (suc n) of i = beginning_case l n of (live_begun_by config l o n of) (more board_entry l o.numbered 0 n) i

final_some : {A : Type 0} {x : A} (xs : List A) → In x xs → (y : A) × (final xs ≡ Some y)
final_some [] i = elim i [ ]
final_some (z ∷ []) i = (z, refl)
final_some (z ∷ w ∷ zs) (here q) = final_some (w ∷ zs) (here refl)
final_some (z ∷ w ∷ zs) (there i) = final_some (w ∷ zs) i
