-- What the close of the table tells of the list of the hand that closes it.
use Rattle.std.proofs.Common.{◌≡◌, ◌∙◌, sym, ap, subst, refl, ℕ, zero, suc, ◌+◌, ◌<◌, ◌≤◌, ◌⊎◌, inl, inr, List, [], ◌∷◌, ◌++◌, Bool, true, false, cond, Option, Some, None, map, length, filter, arith, slice_get, take, get_or}
use Rattle.std.specs.Prelude.{◌&&◌, ◌==◌}
use Rattle.std.specs.List.{filter_map}
use Rattle.std.proofs.Math.Seq.{take-suc, take-length}
use Rattle.std.proofs.lemmas.Option.{slice_get_within, slice_get-get_or, get_or_from_slice_get}
use Rattle.relay_outside.specs.declared.ports.InCall.{InCall}
use Rattle.relay_outside.specs.declared.ports.OutCall.{OutCall}
use Rattle.relay_outside.specs.declared.settings.Config.{Config}
use Rattle.turn_table.specs.declared.machine.Entry as table
use Rattle.turn_table.specs.Histories.{Leaves, IsHistory, times, total, one_if, below}
use Rattle.turn_table.specs.Histories as table_lists
use Rattle.turn_table.proofs.Lists.{below_in}
use Rattle.histories.specs.Words.{In}
use Rattle.relay_outside.specs.declared.address.Addr.{Addr}
use Rattle.relay_outside.specs.DeviceLogs.{EndLog}
use Rattle.rtp_packet.specs.declared.head.Half.{Half}
use Rattle.port_pool.specs.declared.holder.Holder.{Holder}
use Rattle.port_pool.specs.Boxes.{Take, Datagram, FitsTaken, holder}
use Rattle.relay_core.specs.declared.part.Part.{Part}
use Rattle.relay_core.specs.Entries.{Event, Box, Entry, is_at, history, board_entry, cell_entry, box_event, box_history}
use Rattle.call_board.specs.Acts.{BoardEntry}
use Rattle.relay_core.specs.Legal.{is_handed_boards, Orderly, Legal}
use Rattle.relay_core.specs.Records.{Made, entry_of, list_of, as_logged}
use Rattle.relay_core.specs.ReturnedPairs.{AreReturned}
use Rattle.relay_core.specs.Safe.{Safe}
use Rattle.relay_core.specs.FirstPlaces.{AreParts}
use Rattle.relay_core.specs.PlaceHistories.{BringsNewKeys, Stands}
use Rattle.relay_core.specs.Turns.{Numbered, IsAbove, IsReceiving}
use Rattle.relay_core.specs.NestedMoments.{IsHanded}
use Rattle.relay_core.specs.RowMoments.{AreTimed}
use Rattle.relay_core.specs.Joins.{TakesOwnPairs, IsSound, IsAtPlace, AreStanding}
use Rattle.relay_core.proofs.Histories.{in_history, at_place}
use Rattle.relay_core.proofs.Safety.{legal_safe}
use Rattle.relay_core.proofs.Turns.{filter_every, filter_none, false_if}
use Rattle.relay_core.proofs.Boards.{le_or_eq}
use Rattle.relay_core.proofs.Generations.{holder_leased}
use Rattle.relay_core.proofs.Counts as counts
use Rattle.relay_core.proofs.Own.{own_history, rows_in, in_rows, onto_last}
use Rattle.relay_core.proofs.Recording.{gives_back}
use Rattle.relay_core.proofs.Stays.{Steps, onto, GivesBack, GiveBackOnto, give_back_from, give_back_taken, stands_onto}
use Rattle.relay_core.proofs.Given.{begins_as}
use Rattle.relay_core.proofs.KeysOnce.{keys_once}
use Rattle.relay_core.proofs.Filling.{filled_in}
use Rattle.relay_core.proofs.Filled as right
use Rattle.relay_core.proofs.Filled.{legal_filled, filled_tells}
use Rattle.relay_core.proofs.Placing.{step_at, begins_kind, begins_stands, kind_stays, IsPlaced, ArePlaced, IsRight, step_placed, step_right}

module _ {T I O : Type 0} (it : I → EndLog InCall) (ic : I → ℕ) (ot : O → EndLog OutCall) (oc : O → ℕ) where
  -- of the place with this number, which began so, the rows have the whole history
  pub record IsWhole (rows : List (table.Entry Made T)) (k : ℕ) (a : Part I O) : Type 0 where
    pub past : List (table.Entry Made T)
    pub last : Part I O
    pub leaves : Leaves (Steps it ic ot oc) a past last
    pub is : IsHistory rows k past

  -- of each place
  abbrev pub AreWhole : List (Part I O) → List (table.Entry Made T) → Type 0
  AreWhole starts rows = (k : ℕ) (a : Part I O) → slice_get starts k ≡ Some a → IsWhole rows k a

module _ {T I O : Type 0} where
  -- the rows stand at places that there are
  abbrev pub InRange : List (Part I O) → List (table.Entry Made T) → Type 0
  InRange starts rows = (e : table.Entry Made T) → table_lists.IsMemberOf e rows → e.place < length starts

-- Each place and number stands once.

count_case : {T : Type 0} (k i : ℕ) (row : table.Entry Made T) (rows : List (table.Entry Made T)) (n : ℕ) → length (filter (is_at k i) (list_of rows)) ≡ n
    → (t : Bool) → length (cond t (entry_of row ∷ filter (is_at k i) (list_of rows)) (filter (is_at k i) (list_of rows))) ≡ one_if t + n
count_case k i row rows n rest true = omega (arith, rest)
count_case k i row rows n rest false = omega (arith, rest)

pub count_is : {T : Type 0} (k i : ℕ) (rows : List (table.Entry Made T)) → length (filter (is_at k i) (list_of rows)) ≡ times k i rows
count_is k i [] = refl
count_is k i (row ∷ rows) = count_case k i row rows (times k i rows) (count_is k i rows) ((row.place == k) && (row.number == i))

pub in_range : {A : Type 0} (starts : List A) (k : ℕ) → k < length starts → (a : A) × (slice_get starts k ≡ Some a)
in_range [] k within = absurd (omega (arith, within))
in_range (a ∷ starts) zero within = (a, refl)
in_range (a ∷ starts) (suc k) within = in_range starts k (omega (arith, within))

-- A take that fits gave its datagram to the leg that held the box.
pub taken_fits : (config : Config) (past : List Entry) (moment : ℕ) (v : Event) (half : Half) (leg : Holder) (source : Addr) (bytes : List ℕ)
    → v ≡ Box (Take half (Datagram leg source bytes)) → right.FitsTold config past moment v → holder (filter_map box_event past) ≡ Some leg
taken_fits config past moment v half leg source bytes q fits =
    held (holder (filter_map box_event past)) refl (subst (λ (w : Event). right.FitsTold config past moment w) q fits)
  where
    held : (o : Option Holder) → holder (filter_map box_event past) ≡ o → FitsTaken o (Datagram leg source bytes) → holder (filter_map box_event past) ≡ Some leg
    held None is f = absurd (let k = f in cc)
    held (Some other) is f = is ∙ ap Some (sym f.0)

module _ {T I O : Type 0} (it : I → EndLog InCall) (ic : I → ℕ) (ot : O → EndLog OutCall) (oc : O → ℕ)
    (starts : List (Part I O)) (rows : List (table.Entry Made T)) (range : InRange starts rows) (whole : AreWhole it ic ot oc starts rows) where
  -- where a row stands in the history of its place
  pub record Place (row : table.Entry Made T) : Type 0 where
    pub start : Part I O
    pub starts_so : slice_get starts row.place ≡ Some start
    pub history_of : IsWhole it ic ot oc rows row.place start
    pub at : slice_get history_of.past row.number ≡ Some row
    pub within : row.number < length history_of.past

  pub place_of : (row : table.Entry Made T) → table_lists.IsMemberOf row rows → Place row
  place_of row i =
      let a = in_range starts row.place (range row i) in
      let w = whole row.place a.0 a.1 in
      let at = w.is.own row i refl in
      record { start = a.0; starts_so = a.1; history_of = w; at = at; within = slice_get_within w.past row.number row at }

  numbered_row : (row : table.Entry Made T) → table_lists.IsMemberOf row rows → length (filter (is_at row.place row.number) (list_of rows)) ≡ 1
  numbered_row row i =
      let p = place_of row i in
      count_is row.place row.number rows ∙ p.history_of.is.once row.number ∙ below_in row.number (length p.history_of.past) p.within

  -- at the close each place and number stands once in the list
  pub closed_numbered : Numbered (list_of rows)
  closed_numbered e i =
      let r = in_rows rows i in
      subst (λ (x : Entry). length (filter (is_at x.place x.number) (list_of rows)) ≡ 1) r.is (numbered_row r.row r.is_in)

  -- the history of a place, up to a number, is the list's
  pub own_past : (k : ℕ) (a : Part I O) → (w : IsWhole it ic ot oc rows k a) → (n : ℕ) → n ≤ length w.past
      → onto (take n w.past) [] ≡ history (list_of rows) k n
  own_past k a w n within =
      sym (filter_every (λ (e : Entry). true) (onto (take n w.past) []) (λ e i. refl))
      ∙ own_history (λ (e : Entry). true) k rows w.past
      (record { numbered = closed_numbered; named = w.is.named; own = w.is.own; all = λ i e q t. w.is.all i e q }) n within
      ∙ filter_every (λ (e : Entry). true) (history (list_of rows) k n) (λ e i. refl)

  -- followed by the row
  pub next_own : (row : table.Entry Made T) → (p : Place row)
      → onto (take (suc row.number) p.history_of.past) [] ≡ entry_of row ∷ history (list_of rows) row.place row.number
  next_own row p =
      let past = p.history_of.past in
      let within = p.within in
      let taken : take (suc row.number) past ≡ take row.number past ++ row ∷ []
      = take-suc past row.number row within ∙ ap (λ (x : table.Entry Made T). take row.number past ++ x ∷ []) (get_or_from_slice_get past row.number row row p.at) in
      ap (λ (xs : List (table.Entry Made T)). onto xs []) taken
      ∙ onto_last (take row.number past) row []
      ∙ ap (λ (h : List Entry). entry_of row ∷ h) (own_past row.place p.start p.history_of row.number (omega (arith, within)))

  -- above all that a place has, its history is whole
  pub own_whole : (k : ℕ) (a : Part I O) → (w : IsWhole it ic ot oc rows k a) → (n : ℕ) → IsAbove (list_of rows) k n
      → onto w.past [] ≡ history (list_of rows) k n
  own_whole k a w n above =
      ap (λ (xs : List (table.Entry Made T)). onto xs []) (sym (take-length w.past))
      ∙ own_past k a w (length w.past) (omega arith)
      ∙ up_to k a w n (long k a w n above (length w.past) refl)
    where
      long : (k : ℕ) (a : Part I O) → (w : IsWhole it ic ot oc rows k a) → (n : ℕ) → IsAbove (list_of rows) k n → (m : ℕ) → length w.past ≡ m → m ≤ n
      long k a w n above zero q = omega arith
      long k a w n above (suc m) q =
          let x = in_range w.past m (omega (arith, q)) in
          let named = w.is.named m x.0 x.1 in
          let low : x.0.number < n = above (entry_of x.0) (rows_in rows (w.is.all m x.0 x.1)) named.0 in
          let number = named.1 in
          omega (arith, low, number)

      not_there : (k : ℕ) (a : Part I O) → (w : IsWhole it ic ot oc rows k a) → (n : ℕ) → length w.past ≤ n → (e : Entry) → In e (list_of rows)
          → (e.place ≡ k) × (e.number ≡ n) → ⊥
      not_there k a w n long e i at =
          let r = in_rows rows i in
          let has = w.is.own r.row r.is_in (ap (λ (x : Entry). x.place) r.is ∙ at.0) in
          let low = slice_get_within w.past r.row.number r.row has in
          let number = ap (λ (x : Entry). x.number) r.is in
          let same = at.1 in
          omega (arith, low, number, same, long)

      nothing_at : (k : ℕ) (a : Part I O) → (w : IsWhole it ic ot oc rows k a) → (n : ℕ) → length w.past ≤ n
          → filter (is_at k n) (list_of rows) ≡ []
      nothing_at k a w n long =
          filter_none (is_at k n) (list_of rows) (λ e i. false_if (is_at k n e) (λ t. not_there k a w n long e i (at_place k n e t)))

      up_case : (k : ℕ) (a : Part I O) → (w : IsWhole it ic ot oc rows k a) → (n : ℕ)
          → (length w.past ≤ n → history (list_of rows) k (length w.past) ≡ history (list_of rows) k n)
          → (length w.past < suc n) ⊎ (length w.past ≡ suc n) → history (list_of rows) k (length w.past) ≡ history (list_of rows) k (suc n)
      up_case k a w n rest (inl low) =
          let within : length w.past ≤ n = omega (arith, low) in
          rest within ∙ ap (λ (xs : List Entry). xs ++ history (list_of rows) k n) (sym (nothing_at k a w n within))
      up_case k a w n rest (inr q) = ap (λ (m : ℕ). history (list_of rows) k m) q

      up_to : (k : ℕ) (a : Part I O) → (w : IsWhole it ic ot oc rows k a) → (n : ℕ) → length w.past ≤ n
          → history (list_of rows) k (length w.past) ≡ history (list_of rows) k n
      up_to k a w zero low = let q : length w.past ≡ zero = omega (arith, low) in ap (λ (m : ℕ). history (list_of rows) k m) q
      up_to k a w (suc n) low = up_case k a w n (up_to k a w n) (le_or_eq (length w.past) n low)

  -- below each row no number of its place is left out
  pub row_counted : (row : table.Entry Made T) → table_lists.IsMemberOf row rows → (i : ℕ) → i < row.number → counts.Stands (list_of rows) row.place i
  row_counted row r i low =
      let p = place_of row r in
      let w = p.history_of in
      let within = p.within in
      let x = get_or w.past i row in
      let at : slice_get w.past i ≡ Some x = slice_get-get_or w.past i row (omega (arith, within, low)) in
      let named = w.is.named i x at in
      record { entry = entry_of x; is_in = rows_in rows (w.is.all i x at); at = named.0; number_is = named.1 }

  module _ (config : Config) (are : AreParts config starts) (orderly : Orderly config (list_of rows)) (returned : AreReturned config rows) where
    -- the history of a place, up to a number, is the list's
    pub past_is : (k : ℕ) (a : Part I O) → (w : IsWhole it ic ot oc rows k a) → (n : ℕ) → n ≤ length w.past
        → onto (take n w.past) [] ≡ history (list_of rows) k n
    past_is k a w n within = own_past k a w n within

    -- its keys are new
    pub new_keys : (k : ℕ) (a : Part I O) → (w : IsWhole it ic ot oc rows k a) → (n : ℕ) → n ≤ length w.past
        → BringsNewKeys (filter_map cell_entry (onto (take n w.past) []))
    new_keys k a w n within =
        subst (λ (h : List Entry). BringsNewKeys (filter_map cell_entry h)) (sym (past_is k a w n within)) (keys_once config (list_of rows) orderly k n)

    -- each step of the board records the pairs of the legs that it closes
    give_back : (k : ℕ) (a : Part I O) → (w : IsWhole it ic ot oc rows k a) → GiveBackOnto w.past []
    give_back k a w =
        give_back_from w.past [] (λ i row at.
        let low = slice_get_within w.past i row at in
        let named = w.is.named i row at in
        subst (λ (h : List BoardEntry). GivesBack row.event row.event.event h)
        (ap (λ (m : ℕ). filter_map board_entry (history (list_of rows) row.place m)) named.1
        ∙ ap (λ (m : ℕ). filter_map board_entry (history (list_of rows) m i)) named.0
        ∙ ap (λ (h : List Entry). filter_map board_entry h) (sym (past_is k a w i (omega (arith, low)))))
        (gives_back config rows orderly returned row (w.is.all i row at)))

    begins : (row : table.Entry Made T) → (p : Place row) → IsAtPlace config row.place p.start × Stands config p.start []
    begins row p =
        let b = begins_as config starts are row.place p.start p.starts_so in
        (begins_kind config row.place p.start b, begins_stands config row.place p.start b)

    -- each row is of its place's kind
    pub row_placed : (row : table.Entry Made T) → table_lists.IsMemberOf row rows → IsPlaced config row.place row.event.moment row.event.event
    row_placed row i =
        let p = place_of row i in
        let w = p.history_of in
        let s = step_at (Steps it ic ot oc) p.start w.last w.past w.leaves row.number row p.at in
        step_placed it ic ot oc config row.place s.old s.new row.event row.outcome s.step
        (kind_stays it ic ot oc config row.place p.start s.old (take row.number w.past) s.before (begins row p).0)

    past_placed : (k n : ℕ) → ArePlaced config k (history (list_of rows) k n)
    past_placed k n e j =
        let h = in_history (list_of rows) k n j in
        let r = in_rows rows h.is_in in
        subst (λ (place : ℕ). IsPlaced config place e.moment e.event) h.at
        (subst (λ (x : Entry). IsPlaced config x.place x.moment x.event) r.is (row_placed r.row r.is_in))

    -- followed by the row
    pub next_is : (row : table.Entry Made T) → (p : Place row)
        → onto (take (suc row.number) p.history_of.past) [] ≡ entry_of row ∷ history (list_of rows) row.place row.number
    next_is row p = next_own row p

    -- each row is what its place's history demands, at the moment that it was handed
    row_right : (row : table.Entry Made T) → table_lists.IsMemberOf row rows
        → IsRight config (history (list_of rows) row.place row.number) row.event row.event.event
    row_right row i =
        let p = place_of row i in
        let w = p.history_of in
        let within = p.within in
        let b = begins row p in
        let s = step_at (Steps it ic ot oc) p.start w.last w.past w.leaves row.number row p.at in
        let low : row.number ≤ length w.past = omega (arith, within) in
        let high : suc row.number ≤ length w.past = omega (arith, within) in
        let old : Stands config s.old (history (list_of rows) row.place row.number)
        = subst (λ (h : List Entry). Stands config s.old h) (past_is row.place p.start w row.number low)
        (stands_onto it ic ot oc config p.start s.old (take row.number w.past) [] s.before (λ is. new_keys row.place p.start w row.number low)
        (λ is. give_back_taken row.number w.past [] (give_back row.place p.start w)) b.1) in
        let new : Stands config s.new (entry_of row ∷ history (list_of rows) row.place row.number)
        = subst (λ (h : List Entry). Stands config s.new h) (next_is row p)
        (stands_onto it ic ot oc config p.start s.new (take (suc row.number) w.past) [] s.after (λ is. new_keys row.place p.start w (suc row.number) high)
        (λ is. give_back_taken (suc row.number) w.past [] (give_back row.place p.start w)) b.1) in
        let keys : BringsNewKeys (filter_map cell_entry (entry_of row ∷ history (list_of rows) row.place row.number))
        = subst (λ (h : List Entry). BringsNewKeys (filter_map cell_entry h)) (next_is row p) (new_keys row.place p.start w (suc row.number) high) in
        step_right it ic ot oc config row.place s.old s.new row (history (list_of rows) row.place row.number) (λ is. keys)
        (gives_back config rows orderly returned row i) s.step old new
        (past_placed row.place row.number) (kind_stays it ic ot oc config row.place p.start s.old (take row.number w.past) s.before b.0)

    row_made : IsHanded rows → (row : table.Entry Made T) → table_lists.IsMemberOf row rows → right.Made config (list_of rows) (entry_of row)
    row_made handed row i =
        let r = row_right row i in
        record {
          handed = row.event.handed;
          right = record {
            placed = (row_placed row i).0;
            counted = row_counted row i;
            fits = r.0;
            timed = r.1;
            of_board = λ t b j p q. of_board row i t b j p q;
          };
        }
      where
        of_board : (row : table.Entry Made T) → table_lists.IsMemberOf row rows → is_handed_boards row.event.event ≡ true → (b : Entry) → In b (list_of rows)
            → b.place ≡ 0 → b.number ≡ row.event.board → row.event.handed ≡ b.moment
        of_board row i t b j p q =
            let x = in_rows rows j in
            handed row i t x.row x.is_in (ap (λ (y : Entry). y.place) x.is ∙ p) (ap (λ (y : Entry). y.number) x.is ∙ q)
            ∙ ap (λ (y : Entry). y.moment) x.is

    -- each take is of the box's own pair
    pub closed_takes : TakesOwnPairs config (list_of rows)
    closed_takes e half leg source bytes i q =
        let r = in_rows rows i in
        let fits = (row_right r.row r.is_in).0 in
        let held : holder (box_history (list_of rows) r.row.place r.row.number) ≡ Some leg
        = taken_fits config (history (list_of rows) r.row.place r.row.number) r.row.event.moment r.row.event.event half leg source bytes
        (ap (λ (x : Entry). x.event) r.is ∙ q) fits in
        sym (ap (λ (x : Entry). x.place) r.is) ∙ (holder_leased config (list_of rows) orderly r.row.place r.row.number leg held).1

    -- above all that a place has, its history is whole
    pub whole_past : (k : ℕ) (a : Part I O) → (w : IsWhole it ic ot oc rows k a) → (n : ℕ) → IsAbove (list_of rows) k n
        → onto w.past [] ≡ history (list_of rows) k n
    whole_past k a w n above = own_whole k a w n above

    -- what a place holds in the end is what its whole history leaves
    pub closed_stands : (k : ℕ) (a : Part I O) → slice_get starts k ≡ Some a → (w : IsWhole it ic ot oc rows k a) → (n : ℕ) → IsAbove (list_of rows) k n
        → IsAtPlace config k w.last × Stands config w.last (history (list_of rows) k n)
    closed_stands k a q w n above =
        let b = begins_as config starts are k a q in
        let same = whole_past k a w n above in (
          kind_stays it ic ot oc config k a w.last w.past w.leaves (begins_kind config k a b),
          subst (λ (h : List Entry). Stands config w.last h) same
              (stands_onto it ic ot oc config a w.last w.past [] w.leaves
              (λ is. subst (λ (h : List Entry). BringsNewKeys (filter_map cell_entry h)) (sym same) (keys_once config (list_of rows) orderly k n))
              (λ is. give_back k a w)
              (begins_stands config k a b)),
        )

    -- the list that is recorded, filled in, is legal, and so safe
    pub closed_legal : IsReceiving config (list_of rows) → IsHanded rows
        → (map as_logged (filled_in config (list_of rows)) ≡ list_of rows) × Legal config (filled_in config (list_of rows)) × Safe config (filled_in config (list_of rows))
    closed_legal receiving handed =
        let made : (e : Entry) → In e (list_of rows) → right.Made config (list_of rows) e
        = λ e i. let r = in_rows rows i in subst (λ (x : Entry). right.Made config (list_of rows) x) r.is (row_made handed r.row r.is_in) in
        let legal : Legal config (filled_in config (list_of rows)) = legal_filled config (list_of rows) orderly receiving made in
        (filled_tells config (list_of rows) made, legal, legal_safe config (filled_in config (list_of rows)) legal)

  -- so what is known of the main hand's rows, with those of lanes, makes them a legal list
  pub sound_legal : (config : Config) → AreParts config starts → IsSound config rows
      → (map as_logged (filled_in config (list_of rows)) ≡ list_of rows) × Legal config (filled_in config (list_of rows)) × Safe config (filled_in config (list_of rows))
  sound_legal config are sound =
      let orderly = sound.orderly closed_numbered in
      let returned = sound.returned closed_numbered in
      closed_legal config are orderly returned (sound.receiving closed_numbered (closed_takes config are orderly returned)) (sound.handed closed_numbered)

  -- and each row has the moment that its event makes of the one that it was handed
  pub sound_timed : (config : Config) → AreParts config starts → IsSound config rows → AreTimed rows
  sound_timed config are sound row i = (row_right config are (sound.orderly closed_numbered) (sound.returned closed_numbered) row i).1

-- What the close returns says so of the rows.
module _ {T I O : Type 0} (it : I → EndLog InCall) (ic : I → ℕ) (ot : O → EndLog OutCall) (oc : O → ℕ) where
  abbrev pub AreClosed : List (Part I O) → List (table.Entry Made T) → List (Part I O) → Type 0
  AreClosed starts rows states =
      (k : ℕ) (a : Part I O) → slice_get starts k ≡ Some a
      → (past : List (table.Entry Made T)) × (x : Part I O) × (slice_get states k ≡ Some x) × Leaves (Steps it ic ot oc) a past x × IsHistory rows k past

  pub whole_of : (starts : List (Part I O)) (rows : List (table.Entry Made T)) (states : List (Part I O)) → AreClosed starts rows states
      → AreWhole it ic ot oc starts rows
  whole_of starts rows states closed k a q =
      let w = closed k a q in
      record { past = w.0; last = w.1; leaves = w.3; is = w.4 }

  -- the parts that the close returns stand for all that the rows have of their places
  pub closed_parts : (config : Config) (starts : List (Part I O)) (rows : List (table.Entry Made T)) (states : List (Part I O)) → AreParts config starts
      → InRange starts rows → AreClosed starts rows states → length states ≡ length starts → Orderly config (list_of rows) → AreReturned config rows
      → AreStanding config states (list_of rows)
  closed_parts config starts rows states are range closed long orderly returned k n x q above =
      let low = slice_get_within states k x q in
      let a = in_range starts k (omega (arith, low, long)) in
      let h = closed k a.0 a.1 in
      let w : IsWhole it ic ot oc rows k a.0 = record { past = h.0; last = h.1; leaves = h.3; is = h.4 } in
      let same : h.1 ≡ x = let e : Some h.1 ≡ Some x = sym h.2 ∙ q in cc in
      subst (λ (y : Part I O). IsAtPlace config k y × Stands config y (history (list_of rows) k n)) same
      (closed_stands it ic ot oc starts rows range (whole_of starts rows states closed) config are orderly returned k a.0 a.1 w n above)
