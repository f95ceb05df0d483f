-- What the in ends of boxes told when they left is what the histories of their boxes say that they took.
use Rattle.std.proofs.Common.{◌≡◌, ◌∙◌, sym, ap, subst, refl, ℕ, ◌≤◌, List, [], ◌∷◌, ◌++◌, Bool, true, false, cond, Option, Some, None, append_assoc, append-nil}
use Rattle.std.specs.Prelude.{IfSome}
use Rattle.std.specs.Option.{option_map}
use Rattle.std.specs.List.{filter_map, cons_option}
use Rattle.relay_outside.specs.declared.address.Addr.{Addr}
use Rattle.relay_outside.specs.declared.ports.InCall.{InCall}
use Rattle.relay_outside.specs.declared.ports.InCall.TheVariants as into
use Rattle.relay_outside.specs.declared.ports.InGiven.{InGiven}
use Rattle.relay_outside.specs.declared.ports.OutCall.{OutCall}
use Rattle.relay_outside.specs.Ports.{joined}
use Rattle.relay_outside.specs.DeviceLogs.{EndLog, Gains, StartsEmpty}
use Rattle.rtp_packet.specs.declared.head.Half.{Half}
use Rattle.rtp_packet.specs.declared.head.Half.TheVariants.{Rtp, Rtcp}
use Rattle.turn_table.specs.declared.machine.Entry as table
use Rattle.turn_table.specs.Histories.{Leaves}
use Rattle.port_pool.specs.declared.boxes.Opened.{Opened}
use Rattle.port_pool.specs.declared.boxes.PairBox.{PairBox}
use Rattle.port_pool.specs.declared.holder.Holder.{Holder}
use Rattle.port_pool.specs.Boxes.{Taken, BoxEvent, Open, Take, Close, FitsTaken, holder}
use Rattle.port_pool.specs.Boxes as boxes
use Rattle.port_pool.specs.PairBoxes.{BoxFor, pair_ends, ends_in, holder_of, holder_in, at_of}
use Rattle.port_pool.specs.Takes.{given_of, GainsTake, IsTakenFrom, EndsTaken}
use Rattle.relay_core.specs.declared.part.Part.{Part}
use Rattle.relay_core.specs.declared.part.Part.TheVariants as part
use Rattle.relay_core.specs.Entries.{Event, Board, Cell, Box, Entry, box_in, box_event}
use Rattle.relay_core.specs.Records.{Left, Made, entry_of}
use Rattle.relay_core.specs.Steps.{GetsEnds, LeavesEnds, BoxSteps, Relates}
use Rattle.relay_core.specs.PlaceHistories.{IsBoxPart}
use Rattle.relay_core.specs.EndLogs.{is_closing, in_left, taken_by, with_call, takes_of}
use Rattle.relay_core.proofs.Stays.{onto, Steps, box_stays}

-- Joined lists.

pub record AreJoined {C : Type 0} (a b : Option (List C)) (calls : List C) : Type 0 where
  pub front : List C
  pub back : List C
  pub a_is : a ≡ Some front
  pub b_is : b ≡ Some back
  pub calls_are : calls ≡ front ++ back

pub joined_some : {C : Type 0} (a b : Option (List C)) (calls : List C) → joined a b ≡ Some calls → AreJoined a b calls
joined_some (Some front) (Some back) calls q =
    let k : Some (front ++ back) ≡ Some calls = q in
    let s : front ++ back ≡ calls = cc in
    record { front = front; back = back; a_is = refl; b_is = refl; calls_are = sym s }
joined_some (Some front) None calls q = absurd (let k : None ≡ Some calls = q in cc)
joined_some None b calls q = absurd (let k : None ≡ Some calls = q in cc)

pub joined_nothing : {C : Type 0} (a : Option (List C)) → joined (Some []) a ≡ a
joined_nothing (Some calls) = refl
joined_nothing None = refl

pub joined_more : {C : Type 0} (a b c : Option (List C)) → joined (joined a b) c ≡ joined a (joined b c)
joined_more (Some x) (Some y) (Some z) = ap Some (append_assoc x y z)
joined_more (Some x) (Some y) None = refl
joined_more (Some x) None c = refl
joined_more None b c = refl

pub behind_more : {C : Type 0} (calls : List C) (call : Option C) (more : List C) → with_call calls call ++ more ≡ calls ++ (with_call [] call ++ more)
behind_more calls None more = refl
behind_more calls (Some call) more = append_assoc calls (call ∷ []) more

-- the call that an event makes of the half's end
abbrev pub event_call : Half → Event → Option InCall
event_call half (Box event) = taken_by half event
event_call half _ = None

-- The end that a box has of a half, by what it told so far.

-- by a step the list of an end grew by this call
abbrev pub Grew : {C : Type 0} → Option (List C) → Option (List C) → Option C → Type 0
Grew {C} before now call = (calls : List C) → now ≡ Some calls → (earlier : List C) × (before ≡ Some earlier) × (calls ≡ with_call earlier call)

pub same_grew : {C : Type 0} (before now : Option (List C)) → now ≡ before → Grew before now None
same_grew before now same calls q = (calls, sym same ∙ q, refl)

pub gains_grew : {C : Type 0} (before now : Option (List C)) (call : C) → Gains before now call → Grew before now (Some call)
gains_grew (Some old) (Some new) call gains calls q =
    let k : new ≡ calls = (let e : Some new ≡ Some calls = q in cc) in
    (old, refl, sym k ∙ gains)
gains_grew None (Some new) call gains calls q = absurd gains
gains_grew before None call gains calls q = absurd (let k : None ≡ Some calls = q in cc)

module _ {I : Type 0} (log : I → EndLog InCall) (faults : I → ℕ) where
  abbrev end_of : Half → I × I → I
  end_of Rtp ends = ends.0
  end_of Rtcp ends = ends.1

  abbrev pub held : Half → Option (I × I) → Option (List InCall)
  held half None = Some []
  held half (Some ends) = (log (end_of half ends)).calls

  -- a take of an end
  taken_grew : (old new : I) (taken : Taken) → GainsTake log faults old new (given_of taken) → Grew (log old).calls (log new).calls (option_map (into.Take 2001) (given_of taken))
  taken_grew old new taken gains = by_given (given_of taken) gains
    where
      by_given : (g : Option InGiven) → GainsTake log faults old new g → Grew (log old).calls (log new).calls (option_map (into.Take 2001) g)
      by_given None gains = absurd gains
      by_given (Some gave) gains = gains_grew (log old).calls (log new).calls (into.Take 2001 gave) gains.gains

  taken_from : (half other : Half) (old new : I × I) (taken : Taken) → IsTakenFrom log faults other old new taken
      → Grew (log (end_of half old)).calls (log (end_of half new)).calls (taken_by half (Take other taken))
  taken_from Rtp Rtp old new taken is = taken_grew old.0 new.0 taken is.0.gains
  taken_from Rtp Rtcp old new taken is = same_grew (log old.0).calls (log new.0).calls (ap (λ (e : I). (log e).calls) is.0)
  taken_from Rtcp Rtp old new taken is = same_grew (log old.1).calls (log new.1).calls (ap (λ (e : I). (log e).calls) is.1)
  taken_from Rtcp Rtcp old new taken is = taken_grew old.1 new.1 taken is.1.gains

  closed_none : (half other : Half) → taken_by half (Take other boxes.Closed) ≡ None
  closed_none Rtp Rtp = refl
  closed_none Rtp Rtcp = refl
  closed_none Rtcp Rtp = refl
  closed_none Rtcp Rtcp = refl

  take_grew : (half other : Half) (old new : Option (I × I)) (taken : Taken) → (old ≡ None → taken ≡ boxes.Closed) → EndsTaken log faults other old new taken
      → Grew (held half old) (held half new) (taken_by half (Take other taken))
  take_grew half other None new taken closed is =
      subst (λ (call : Option InCall). Grew (Some []) (held half new) call) (sym (ap (λ (t : Taken). taken_by half (Take other t)) (closed refl) ∙ closed_none half other))
      (same_grew (Some []) (held half new) (ap (held half) is))
  take_grew half other (Some old) None taken closed is = absurd is
  take_grew half other (Some old) (Some new) taken closed is = taken_from half other old new taken is

  open_grew : (half : Half) (at : Addr) (old new : Option (I × I)) → old ≡ None → GetsEnds log at new → Grew (held half old) (held half new) None
  open_grew half at old new shut gets calls q =
      ([], ap (held half) shut, start half (subst (λ (n : Option (I × I)). held half n ≡ Some calls) gets.are_in q))
    where
      start : (h : Half) → held h (Some (gets.rtp, gets.rtcp)) ≡ Some calls → calls ≡ []
      start Rtp e = subst StartsEmpty e gets.rtp_is_new.uncalled
      start Rtcp e = subst StartsEmpty e gets.rtcp_is_new.uncalled

  leaves_held : (half : Half) (old : Option (I × I)) (left : Left) → LeavesEnds log old left → held half old ≡ in_left half left
  leaves_held Rtp None left is = sym is.0
  leaves_held Rtcp None left is = sym is.1
  leaves_held Rtp (Some ends) left is = sym is.0
  leaves_held Rtcp (Some ends) left is = sym is.1

  no_holder : (opened : Option (Opened I)) → pair_ends opened ≡ None → holder_of opened ≡ None
  no_holder None q = refl
  no_holder (Some o) q = absurd (let k : Some (o.rtp, o.rtcp) ≡ None = q in cc)

  -- a box without ends stands for no event
  stands_empty : (box : PairBox I) → ends_in box ≡ None → BoxFor box []
  stands_empty box q =
      let none : holder_in box ≡ None = no_holder box.opened q in
      record {
        holder_is = sym none;
        cell_is = subst (λ (o : Option Holder). IfSome o (λ leg. (1 ≤ leg.cell) × (leg.cell ≤ box.cells))) (sym none) tt;
      }

  -- a step of a box: it shuts it, and then the end left as it was, or the end's list grew by the event's call
  pub box_told : (half : Half) (old new : PairBox I) (made : Made) (event : Event) → BoxSteps log faults old made event new
      → (t : Bool) → is_closing event ≡ t
      → cond t ((held half (ends_in new) ≡ Some []) × (held half (ends_in old) ≡ in_left half made.left) × (event_call half event ≡ None))
      (Grew (held half (ends_in old)) (held half (ends_in new)) (event_call half event))
  box_told half old new made (Box (Open leg)) step false q = open_grew half (at_of old) (ends_in old) (ends_in new) step.ends.0 step.ends.1
  box_told half old new made (Box (Open leg)) step true q = absurd (let k : false ≡ true = q in cc)
  box_told half old new made (Box (Take other taken)) step false q =
      take_grew half other (ends_in old) (ends_in new) taken (λ none. (step.stands [] (stands_empty old none)).0) step.ends
  box_told half old new made (Box (Take other taken)) step true q = absurd (let k : false ≡ true = q in cc)
  box_told half old new made (Box Close) step true q =
      (ap (held half) step.ends.0, leaves_held half (ends_in old) made.left step.ends.1, refl)
  box_told half old new made (Box Close) step false q = absurd (let k : true ≡ false = q in cc)
  box_told half old new made (Cell c) step t q = absurd step
  box_told half old new made (Board b) step t q = absurd step

module _ {I O : Type 0} (it : I → EndLog InCall) (ic : I → ℕ) (ot : O → EndLog OutCall) (oc : O → ℕ) where
  abbrev pub held_in : Half → Part I O → Option (List InCall)
  held_in half (part.Pair box) = held it ic half (ends_in box)
  held_in half (part.Cell cell) = Some []
  held_in half (part.Board board) = Some []

  part_told : (half : Half) (cells : ℕ) (a m : Part I O) (made : Made) → IsBoxPart cells a → Relates it ic ot oc a made m
      → (t : Bool) → is_closing made.event ≡ t
      → cond t ((held_in half m ≡ Some []) × (held_in half a ≡ in_left half made.left) × (event_call half made.event ≡ None))
      (Grew (held_in half a) (held_in half m) (event_call half made.event))
  part_told half cells (part.Pair old) (part.Pair new) made is step t q = box_told it ic half old new made made.event step t q
  part_told half cells (part.Pair old) (part.Cell new) made is step t q = absurd step
  part_told half cells (part.Pair old) (part.Board new) made is step t q = absurd step
  part_told half cells (part.Cell old) m made is step t q = absurd is
  part_told half cells (part.Board old) m made is step t q = absurd is

-- the calls of the rows are those of the box's history
behind_both : (half : Half) (event : Event) (h : List BoxEvent) (more : List InCall)
    → takes_of half (cons_option (box_in event) h) ++ more ≡ takes_of half h ++ (with_call [] (event_call half event) ++ more)
behind_both half (Box e) h more = behind_more (takes_of half h) (taken_by half e) more
behind_both half (Cell e) h more = refl
behind_both half (Board e) h more = refl

-- The rows of one box, in the order of their numbers.
module _ {T : Type 0} where
  -- what its ends told when they left
  abbrev pub ins_of : Half → List (table.Entry Made T) → Option (List InCall)
  ins_of half [] = Some []
  ins_of half (row ∷ rows) = cond (is_closing row.event.event) (joined (in_left half row.event.left) (ins_of half rows)) (ins_of half rows)

  -- the calls that the rows say
  abbrev pub calls_of : Half → List (table.Entry Made T) → List InCall
  calls_of half [] = []
  calls_of half (row ∷ rows) = with_call [] (event_call half row.event.event) ++ calls_of half rows

  module _ {I O : Type 0} (it : I → EndLog InCall) (ic : I → ℕ) (ot : O → EndLog OutCall) (oc : O → ℕ) where
    -- the ends of the box told so much before these rows, and what they tell with them is that and the calls of the rows
    pub record Tells (half : Half) (a : Part I O) (rows : List (table.Entry Made T)) (calls : List InCall) : Type 0 where
      pub earlier : List InCall
      pub before : held_in it ic ot oc half a ≡ Some earlier
      pub are : calls ≡ earlier ++ calls_of half rows

    tells_more : (half : Half) (a m : Part I O) (row : table.Entry Made T) (rows : List (table.Entry Made T)) (calls : List InCall) (last : Option (List InCall))
        → ((cs : List InCall) → joined (ins_of half rows) last ≡ Some cs → Tells half m rows cs)
        → (t : Bool)
        → cond t ((held_in it ic ot oc half m ≡ Some []) × (held_in it ic ot oc half a ≡ in_left half row.event.left) × (event_call half row.event.event ≡ None))
        (Grew (held_in it ic ot oc half a) (held_in it ic ot oc half m) (event_call half row.event.event))
        → joined (cond t (joined (in_left half row.event.left) (ins_of half rows)) (ins_of half rows)) last ≡ Some calls → Tells half a (row ∷ rows) calls
    tells_more half a m row rows calls last rest false grew q =
        let r = rest calls q in
        let g = grew r.earlier r.before in
        record {
          earlier = g.0;
          before = g.1;
          are = r.are ∙ ap (λ (cs : List InCall). cs ++ calls_of half rows) g.2 ∙ behind_more g.0 (event_call half row.event.event) (calls_of half rows);
        }
    tells_more half a m row rows calls last rest true shut q =
        let j = joined_some (in_left half row.event.left) (joined (ins_of half rows) last) calls (sym (joined_more (in_left half row.event.left) (ins_of half rows) last) ∙ q) in
        let r = rest j.back j.b_is in
        let none : r.earlier ≡ [] = (let k : Some r.earlier ≡ Some [] = sym r.before ∙ shut.0 in cc) in
        record {
          earlier = j.front;
          before = shut.1 ∙ j.a_is;
          are = j.calls_are
              ∙ ap (λ (cs : List InCall). j.front ++ cs)
              (r.are ∙ ap (λ (cs : List InCall). cs ++ calls_of half rows) none ∙ ap (λ (c : Option InCall). with_call [] c ++ calls_of half rows) (sym shut.2));
        }

    -- from any state of a box to a later one
    pub rows_tell : (half : Half) (cells : ℕ) (a b : Part I O) (rows : List (table.Entry Made T)) (calls : List InCall) → IsBoxPart cells a
        → Leaves (Steps it ic ot oc) a rows b → joined (ins_of half rows) (held_in it ic ot oc half b) ≡ Some calls → Tells half a rows calls
    rows_tell half cells a b [] calls is same q =
        record { earlier = calls; before = ap (held_in it ic ot oc half) same ∙ sym (joined_nothing (held_in it ic ot oc half b)) ∙ q; are = sym (append-nil calls) }
    rows_tell half cells a b (row ∷ rows) calls is l q =
        tells_more half a l.0 row rows calls (held_in it ic ot oc half b)
        (λ cs r. rows_tell half cells l.0 b rows cs (box_stays it ic ot oc cells a l.0 (row ∷ []) (l.0, l.1, refl) is) l.2 r)
        (is_closing row.event.event) (part_told it ic ot oc half cells a l.0 row.event is l.1 (is_closing row.event.event) refl) q

  pub takes_are : (half : Half) (rows : List (table.Entry Made T)) (h : List Entry)
      → takes_of half (filter_map box_event (onto rows h)) ≡ takes_of half (filter_map box_event h) ++ calls_of half rows
  takes_are half [] h = sym (append-nil (takes_of half (filter_map box_event h)))
  takes_are half (row ∷ rows) h =
      takes_are half rows (entry_of row ∷ h) ∙ behind_both half row.event.event (filter_map box_event h) (calls_of half rows)
