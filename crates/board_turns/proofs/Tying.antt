-- How ties are made: what a port maker's calls give back is what rows say that left boxes and cells.
use Rattle.std.proofs.Common.{◌≡◌, ◌∙◌, refl, sym, ap, subst, ℕ, ◌<◌, Bool, true, false, cond, ◌==◌, List, [], ◌∷◌, ◌++◌, Option, Some, None, map, append_assoc, append-nil, arith}
use Rattle.std.specs.Prelude.{◌&&◌, All}
use Rattle.std.specs.Cmp.Lexicographic.{bytes_decides}
use Rattle.std.proofs.lemmas.List.{append_cancel_left}
use Rattle.std.proofs.lemmas.List.Elements.{All-nil, All-cons, All-append}
use Rattle.relay_outside.specs.declared.address.Addr.{Addr}
use Rattle.relay_outside.specs.declared.address.Ip.{Ip}
use Rattle.relay_outside.specs.declared.address.Ip.TheVariants as ip
use Rattle.relay_outside.specs.declared.ports.InCall.{InCall}
use Rattle.relay_outside.specs.declared.ports.OutCall.{OutCall}
use Rattle.relay_outside.specs.declared.ports.PortCall.{PortCall}
use Rattle.relay_outside.specs.declared.ports.PortCall.TheVariants as port
use Rattle.relay_outside.specs.declared.settings.Config.{Config}
use Rattle.relay_outside.specs.Ports.{joined, same_ip, same_addr, taken_at, sent_at}
use Rattle.relay_outside.specs.DeviceLogs.{EndLog, Gained}
use Rattle.relay_outside.specs.Settings.{AreFamilies}
use Rattle.relay_outside.proofs.Telling.{gained_none, gained_both, gained_less}
use Rattle.rtp_packet.specs.declared.head.Half.{Half}
use Rattle.rtp_packet.specs.declared.head.Half.TheVariants.{Rtp, Rtcp}
use Rattle.histories.specs.Words.{In, here, there}
use Rattle.histories.proofs.Lists.{equal, equal_if, maps, mapped}
use Rattle.turn_table.specs.declared.machine.Entry as table
use Rattle.turn_table.specs.declared.hands.Hand.{Hand}
use Rattle.turn_table.specs.Hands.{EndsTurn, entries}
use Rattle.turn_table.specs.Steps.{entry}
use Rattle.port_pool.specs.declared.pairs.Lease.{Lease}
use Rattle.port_pool.specs.declared.holder.Holder.{Holder}
use Rattle.port_pool.specs.Boxes.{Close}
use Rattle.port_pool.specs.Ports.{pair_count}
use Rattle.port_pool.specs.Pools.{AreFree}
use Rattle.port_pool.proofs.Addresses.{one_address}
use Rattle.relay_core.specs.Entries.{Event, Board, Cell, Box, Entry, box_of}
use Rattle.relay_core.specs.Records.{LegLeft, Left, Made, entry_of, list_of}
use Rattle.relay_core.specs.Scripts.{Owed, owed_by, open_owed}
use Rattle.relay_core.specs.Steps.{legs_left}
use Rattle.relay_core.specs.EndLogs.{is_closing, is_parting, in_left, out_left, ins_logged, legs_logged, outs_logged}
use Rattle.relay_core.specs.Turns.{GainsNested}
use Rattle.media_ports.specs.declared.ends.PairEnds.{PairEnds}
use Rattle.media_ports.specs.Addresses.{port_address, pairs_of_leases, AreLeased}
use Rattle.media_ports.specs.Calls.{ClosesPair}
use Rattle.media_ports.specs.Ends.{ends_told}
use Rattle.media_ports.specs.ReturnedEnds.{IsOfPair, SameWhereTold, GivesBackUncalled}
use Rattle.media_ports.proofs.Given.{joined_to_nothing, first_joined, taken_append, sent_append, agrees_both}
use Rattle.board_turns.specs.NestedSteps.{AddsRow, ends_left, gone_left}
use Rattle.board_turns.specs.Closings.{ClosesLegs, leases_of_legs}
use Rattle.board_turns.specs.Ties.{AreTakesTied, AreSendsTied, AreTied, PortsFollowRows, TiesTakes, LegsLeave}

-- Lists that are told, joined.

module _ {C : Type 0} where
  pub nothing_joined : (log : Option (List C)) → joined log (Some []) ≡ log
  nothing_joined None = refl
  nothing_joined (Some calls) = ap Some (append-nil calls)

  pub agrees_same : (log shown : Option (List C)) → shown ≡ log → SameWhereTold log shown
  agrees_same None shown same = tt
  agrees_same (Some calls) shown same = same

  -- of two tests the second fails, or the first
  first_alone : (a b : Bool) (x y rest : Option (List C)) → b ≡ false
      → cond a (joined x (cond b (joined y rest) rest)) (cond b (joined y rest) rest) ≡ cond a (joined x rest) rest
  first_alone a b x y rest fails = ap (λ (c : Bool). cond a (joined x (cond c (joined y rest) rest)) (cond c (joined y rest) rest)) fails

  second_alone : (a b : Bool) (x y rest : Option (List C)) → a ≡ false
      → cond a (joined x (cond b (joined y rest) rest)) (cond b (joined y rest) rest) ≡ cond b (joined y rest) rest
  second_alone a b x y rest fails = ap (λ (c : Bool). cond c (joined x (cond b (joined y rest) rest)) (cond b (joined y rest) rest)) fails

-- What rows say, one after the other.

module _ {T : Type 0} where
  pub ins_append : (rows more : List (table.Entry Made T)) (place : ℕ) (half : Half)
      → ins_logged (rows ++ more) place half ≡ joined (ins_logged rows place half) (ins_logged more place half)
  ins_append [] more place half = sym (joined_to_nothing (ins_logged more place half))
  ins_append (row ∷ rows) more place half =
      first_joined (is_closing row.event.event && (row.place == place)) (in_left half row.event.left) (ins_logged rows place half) (ins_logged more place half)
      (ins_logged (rows ++ more) place half) (ins_append rows more place half)

  pub outs_append : (rows more : List (table.Entry Made T)) (pair : ℕ) (half : Half)
      → outs_logged (rows ++ more) pair half ≡ joined (outs_logged rows pair half) (outs_logged more pair half)
  outs_append [] more pair half = sym (joined_to_nothing (outs_logged more pair half))
  outs_append (row ∷ rows) more pair half =
      first_joined (is_parting row.event.event) (legs_logged row.event.left.legs pair half) (outs_logged rows pair half) (outs_logged more pair half)
      (outs_logged (rows ++ more) pair half) (outs_append rows more pair half)

  takes_append : (config : Config) (rows more : List (table.Entry Made T)) (xs ys : List PortCall) → AreTakesTied config rows xs → AreTakesTied config more ys
      → AreTakesTied config (rows ++ more) (xs ++ ys)
  takes_append config rows more xs ys first second pair half low =
      let at = port_address config pair half in
      let place = box_of config pair in
      subst (λ (log : Option (List InCall)). SameWhereTold log (ins_logged (rows ++ more) place half)) (sym (taken_append xs ys at))
      (subst (λ (shown : Option (List InCall)). SameWhereTold (joined (taken_at xs at) (taken_at ys at)) shown) (sym (ins_append rows more place half))
      (agrees_both (taken_at xs at) (taken_at ys at) (ins_logged rows place half) (ins_logged more place half) (first pair half low) (second pair half low)))

  sends_append : (config : Config) (rows more : List (table.Entry Made T)) (xs ys : List PortCall) → AreSendsTied config rows xs → AreSendsTied config more ys
      → AreSendsTied config (rows ++ more) (xs ++ ys)
  sends_append config rows more xs ys first second pair half low =
      let at = port_address config pair half in
      subst (λ (log : Option (List OutCall)). SameWhereTold log (outs_logged (rows ++ more) pair half)) (sym (sent_append xs ys at))
      (subst (λ (shown : Option (List OutCall)). SameWhereTold (joined (sent_at xs at) (sent_at ys at)) shown) (sym (outs_append rows more pair half))
      (agrees_both (sent_at xs at) (sent_at ys at) (outs_logged rows pair half) (outs_logged more pair half) (first pair half low) (second pair half low)))

  pub tied_both : (config : Config) (rows more : List (table.Entry Made T)) (xs ys : List PortCall) → AreTied config rows xs → AreTied config more ys
      → AreTied config (rows ++ more) (xs ++ ys)
  tied_both config rows more xs ys first second = record {
    of_pairs = All-append (IsOfPair config) xs ys first.of_pairs second.of_pairs;
    takes = takes_append config rows more xs ys first.takes second.takes;
    sends = sends_append config rows more xs ys first.sends second.sends;
  }

  rows_both : (r0 r1 r2 a b : List (table.Entry Made T)) → r1 ≡ r0 ++ a → r2 ≡ r1 ++ b → r2 ≡ r0 ++ (a ++ b)
  rows_both r0 r1 r2 a b first second = second ∙ ap (λ (rows : List (table.Entry Made T)). rows ++ b) first ∙ append_assoc r0 a b

  -- first these ties, and then those
  pub ties_both : (config : Config) (t0 t1 t2 : Option (List PortCall)) (r0 r1 r2 : List (table.Entry Made T)) → PortsFollowRows config t0 t1 r0 r1 → PortsFollowRows config t1 t2 r1 r2
      → PortsFollowRows config t0 t2 r0 r2
  ties_both config t0 t1 t2 r0 r1 r2 first second = record {
    more = first.more ++ second.more;
    rows_are = rows_both r0 r1 r2 first.more second.more first.rows_are second.rows_are;
    calls = gained_both t0 t1 t2 (AreTied config first.more) (AreTied config second.more) (AreTied config (first.more ++ second.more))
        (λ xs ys a b. tied_both config first.more second.more xs ys a b) first.calls second.calls;
  }

  -- the same of in ends alone
  pub ties_takes_both : (config : Config) (t0 t1 t2 : Option (List PortCall)) (r0 r1 r2 : List (table.Entry Made T)) → TiesTakes config t0 t1 r0 r1
      → TiesTakes config t1 t2 r1 r2 → TiesTakes config t0 t2 r0 r2
  ties_takes_both config t0 t1 t2 r0 r1 r2 first second = record {
    more = first.more ++ second.more;
    rows_are = rows_both r0 r1 r2 first.more second.more first.rows_are second.rows_are;
    calls = gained_both t0 t1 t2 (λ calls. All (IsOfPair config) calls × AreTakesTied config first.more calls)
        (λ calls. All (IsOfPair config) calls × AreTakesTied config second.more calls)
        (λ calls. All (IsOfPair config) calls × AreTakesTied config (first.more ++ second.more) calls)
        (λ xs ys a b. (All-append (IsOfPair config) xs ys a.0 b.0, takes_append config first.more second.more xs ys a.1 b.1)) first.calls second.calls;
    no_legs = λ pair half. outs_append first.more second.more pair half
        ∙ ap (λ (x : Option (List OutCall)). joined x (outs_logged second.more pair half)) (first.no_legs pair half)
        ∙ joined_to_nothing (outs_logged second.more pair half) ∙ second.no_legs pair half;
  }

-- Rows by which nothing leaves.

-- nothing leaves a place by the event
pub record NothingLeaves (event : Event) : Type 0 where
  pub closing : is_closing event ≡ false
  pub parting : is_parting event ≡ false

-- nothing left by these rows
pub record NothingLeft {T : Type 0} (rows : List (table.Entry Made T)) : Type 0 where
  pub no_ends : (place : ℕ) (half : Half) → ins_logged rows place half ≡ Some []
  pub no_legs : (pair : ℕ) (half : Half) → outs_logged rows pair half ≡ Some []

module _ {T : Type 0} where
  pub none_left : NothingLeft {T = T} []
  none_left = record { no_ends = λ place half. refl; no_legs = λ pair half. refl }

  pub row_left : (row : table.Entry Made T) → NothingLeaves row.event.event → NothingLeft (row ∷ [])
  row_left row leaves = record {
    no_ends = λ place half. ap (λ (b : Bool). cond (b && (row.place == place)) (joined (in_left half row.event.left) (Some [])) (Some [])) leaves.closing;
    no_legs = λ pair half. ap (λ (b : Bool). cond b (joined (legs_logged row.event.left.legs pair half) (Some [])) (Some [])) leaves.parting;
  }

  pub both_left : (rows more : List (table.Entry Made T)) → NothingLeft rows → NothingLeft more → NothingLeft (rows ++ more)
  both_left rows more first second = record {
    no_ends = λ place half. ins_append rows more place half
        ∙ ap (λ (x : Option (List InCall)). joined x (ins_logged more place half)) (first.no_ends place half)
        ∙ joined_to_nothing (ins_logged more place half) ∙ second.no_ends place half;
    no_legs = λ pair half. outs_append rows more pair half
        ∙ ap (λ (x : Option (List OutCall)). joined x (outs_logged more pair half)) (first.no_legs pair half)
        ∙ joined_to_nothing (outs_logged more pair half) ∙ second.no_legs pair half;
  }

  rows_left : (rows : List (table.Entry Made T)) → ((e : Entry) → In e (list_of rows) → NothingLeaves e.event) → NothingLeft rows
  rows_left [] leaves = none_left
  rows_left (row ∷ rows) leaves = both_left (row ∷ []) rows (row_left row (leaves (entry_of row) (here refl))) (rows_left rows (λ e i. leaves e (there i)))

  -- the port maker was not called, and nothing left by the rows
  pub ties_left : (config : Config) (log : Option (List PortCall)) (r0 r1 more : List (table.Entry Made T)) → r1 ≡ r0 ++ more → NothingLeft more → PortsFollowRows config log log r0 r1
  ties_left config log r0 r1 more is left = record {
    more = more;
    rows_are = is;
    calls = gained_none log (AreTied config more)
        (record { of_pairs = All-nil (IsOfPair config); takes = λ pair half low. left.no_ends (box_of config pair) half; sends = λ pair half low. left.no_legs pair half });
  }

  -- nothing happened
  pub ties_none : (config : Config) (log : Option (List PortCall)) (rows : List (table.Entry Made T)) → PortsFollowRows config log log rows rows
  ties_none config log rows = ties_left config log rows rows [] (sym (append-nil rows)) none_left

  pub ties_takes_none : (config : Config) (log : Option (List PortCall)) (rows : List (table.Entry Made T)) → TiesTakes config log log rows rows
  ties_takes_none config log rows = record {
    more = [];
    rows_are = sym (append-nil rows);
    calls = gained_none log (λ calls. All (IsOfPair config) calls × AreTakesTied {T = T} config [] calls) (All-nil (IsOfPair config), λ pair half low. refl);
    no_legs = λ pair half. refl;
  }

  -- the rows are the same
  pub ties_same : (config : Config) (log : Option (List PortCall)) (r0 r1 : List (table.Entry Made T)) → r1 ≡ r0 → PortsFollowRows config log log r0 r1
  ties_same config log r0 r1 same = ties_left config log r0 r1 [] (same ∙ sym (append-nil r0)) none_left

  -- and then one more row, by which nothing leaves
  pub ties_row : (config : Config) (t0 t1 : Option (List PortCall)) (r0 r1 : List (table.Entry Made T)) (row : table.Entry Made T) → is_closing row.event.event ≡ false
      → is_parting row.event.event ≡ false → PortsFollowRows config t0 t1 r0 r1 → PortsFollowRows config t0 t1 r0 (r1 ++ row ∷ [])
  ties_row config t0 t1 r0 r1 row closing parting ties =
      ties_both config t0 t1 t1 r0 r1 (r1 ++ row ∷ []) ties
      (ties_left config t1 r1 (r1 ++ row ∷ []) (row ∷ []) refl (row_left row (record { closing = closing; parting = parting })))

  -- ends that were not called were given back, and no row came
  pub ties_uncalled : (config : Config) (t0 t1 : Option (List PortCall)) (rows : List (table.Entry Made T)) → Gained t0 t1 (GivesBackUncalled config)
      → PortsFollowRows config t0 t1 rows rows
  ties_uncalled config t0 t1 rows gives = record {
    more = [];
    rows_are = sym (append-nil rows);
    calls = gained_less t0 t1 (GivesBackUncalled config) (AreTied config [])
        (λ calls these. record {
          of_pairs = these.of_pairs;
          takes = λ pair half low. these.takes (port_address config pair half);
          sends = λ pair half low. these.sends (port_address config pair half);
        }) gives;
  }

module _ {M S T : Type 0} {g : _} where
  -- a turn ends with a step by which nothing leaves
  pub ties_ended : (config : Config) (t0 t1 : Option (List PortCall)) (r0 : List (table.Entry Made T)) (place number : ℕ) (made : Made) (outcome : T) (old new : Hand M S Made T g)
      → is_closing made.event ≡ false → is_parting made.event ≡ false → EndsTurn place number made outcome old new → PortsFollowRows config t0 t1 r0 (entries old)
      → PortsFollowRows config t0 t1 r0 (entries new)
  ties_ended config t0 t1 r0 place number made outcome old new closing parting ended ties =
      subst (λ (rows : List (table.Entry Made T)). PortsFollowRows config t0 t1 r0 rows) (sym ended.0)
      (ties_row config t0 t1 r0 (entries old) (entry place number made outcome) closing parting ties)

  -- nested steps by which nothing leaves
  pub ties_gained : (config : Config) (log : Option (List PortCall)) (number moment : ℕ) (events : List Owed) (old new : Hand M S Made T g)
      → GainsNested number moment events old new → ((owed : Owed) → In owed events → NothingLeaves owed.event) → PortsFollowRows config log log (entries old) (entries new)
  ties_gained config log number moment events old new gains leaves =
      ties_left config log (entries old) (entries new) gains.rows gains.list_is
      (rows_left gains.rows (λ e i. leaves (owed_by e) (subst (λ (l : List Owed). In (owed_by e) l) gains.gained.owes (maps owed_by (list_of gains.rows) i))))

  -- of which the openings of boxes are some
  pub ties_openings : (config : Config) (log : Option (List PortCall)) (number moment : ℕ) (legs : List Holder) (old new : Hand M S Made T g)
      → GainsNested number moment (map (open_owed config) legs) old new → PortsFollowRows config log log (entries old) (entries new)
  ties_openings config log number moment legs old new gains =
      ties_gained config log number moment (map (open_owed config) legs) old new gains
      (λ owed i.
      let m = mapped (open_owed config) legs i in
      subst (λ (w : Owed). NothingLeaves w.event) m.makes (record { closing = refl; parting = refl }))

-- Which closing is of which port.

same_bools : (a b : Bool) → (a ≡ true → b ≡ true) → (b ≡ true → a ≡ true) → a ≡ b
same_bools true true to from = refl
same_bools true false to from = sym (to refl)
same_bools false true to from = from refl
same_bools false false to from = refl

same_tests : (a b x y : ℕ) → (a ≡ b → x ≡ y) → (x ≡ y → a ≡ b) → (a == b) ≡ (x == y)
same_tests a b x y to from = same_bools (a == b) (x == y) (λ p. equal x y (to (equal_if a b p))) (λ q. equal a b (from (equal_if x y q)))

-- a pair has its own box
same_box : (config : Config) (a b : ℕ) → (box_of config a == box_of config b) ≡ (a == b)
same_box config a b = same_tests (box_of config a) (box_of config b) a b (λ p. omega (arith, p)) (λ q. omega (arith, q))

same_host : (host : Ip) → same_ip host host ≡ true
same_host (ip.V4 bytes) = (bytes_decides bytes bytes).1 refl
same_host (ip.V6 bytes) = (bytes_decides bytes bytes).1 refl

host_is : (a b : Ip) → same_ip a b ≡ true → a ≡ b
host_is (ip.V4 a) (ip.V4 b) same = ap ip.V4 ((bytes_decides a b).0 same)
host_is (ip.V4 a) (ip.V6 b) same = absurd (let e = same in cc)
host_is (ip.V6 a) (ip.V4 b) same = absurd (let e = same in cc)
host_is (ip.V6 a) (ip.V6 b) same = ap ip.V6 ((bytes_decides a b).0 same)

both_true : (a b : Bool) → (a && b) ≡ true → (a ≡ true) × (b ≡ true)
both_true true b h = (refl, h)
both_true false b h = absurd (let e = h in cc)

-- an address is that with which it tests as the same
address_is : (a b : Addr) → same_addr a b ≡ true → a ≡ b
address_is a b same =
    let parts = both_true (same_ip a.ip b.ip) (a.port == b.port) same in
    let host = host_is a.ip b.ip parts.0 in
    let port = equal_if a.port b.port parts.1 in
    λ i. record { ip = host i; port = port i }

address_itself : (a b : Addr) → a ≡ b → same_addr a b ≡ true
address_itself a b same = subst (λ (c : Addr). same_addr a c ≡ true) same (ap (λ (t : Bool). t && (a.port == a.port)) (same_host a.ip) ∙ equal a.port a.port refl)

-- of two, that of a half
abbrev of_half : {A : Type 0} → Half → A → A → A
of_half Rtp first second = first
of_half Rtcp first second = second

module _ (config : Config) (families : AreFamilies config) (one pair : ℕ) (within : one < pair_count config) (below : pair < pair_count config) where
  same_half : (half : Half) → same_addr (port_address config one half) (port_address config pair half) ≡ (one == pair)
  same_half half =
      same_bools (same_addr (port_address config one half) (port_address config pair half)) (one == pair)
      (λ p. equal one pair (one_address config one pair half half families within below (address_is (port_address config one half) (port_address config pair half) p)).0)
      (λ q. address_itself (port_address config one half) (port_address config pair half) (ap (λ (n : ℕ). port_address config n half) (equal_if one pair q)))

  other_half : (half other : Half) → (half ≡ other → ⊥) → same_addr (port_address config one half) (port_address config pair other) ≡ false
  other_half half other differ =
      same_bools (same_addr (port_address config one half) (port_address config pair other)) false
      (λ p. absurd (differ (one_address config one pair half other families within below (address_is (port_address config one half) (port_address config pair other) p)).1))
      (λ q. absurd (let e = q in cc))

  -- of the two ports of the pair, what is told at the address of a half
  pick_half : {C : Type 0} (half : Half) (rtp rtcp rest : Option (List C))
      → (let first : Bool = same_addr (port_address config one Rtp) (port_address config pair half) in
      let second : Bool = same_addr (port_address config one Rtcp) (port_address config pair half) in
      cond first (joined rtp (cond second (joined rtcp rest) rest)) (cond second (joined rtcp rest) rest)) ≡ cond (one == pair) (joined (of_half half rtp rtcp) rest) rest
  pick_half Rtp rtp rtcp rest =
      first_alone (same_addr (port_address config one Rtp) (port_address config pair Rtp))
      (same_addr (port_address config one Rtcp) (port_address config pair Rtp)) rtp rtcp rest (other_half Rtcp Rtp (λ e. let f = e in cc))
      ∙ ap (λ (b : Bool). cond b (joined rtp rest) rest) (same_half Rtp)
  pick_half Rtcp rtp rtcp rest =
      second_alone (same_addr (port_address config one Rtp) (port_address config pair Rtcp))
      (same_addr (port_address config one Rtcp) (port_address config pair Rtcp)) rtp rtcp rest (other_half Rtp Rtcp (λ e. let f = e in cc))
      ∙ ap (λ (b : Bool). cond b (joined rtcp rest) rest) (same_half Rtcp)

-- A box that is shut, and its pair's ports, which are closed.

in_of_half : (half : Half) (left : Left) → in_left half left ≡ of_half half left.rtp left.rtcp
in_of_half Rtp left = refl
in_of_half Rtcp left = refl

of_lease : (config : Config) (lease : Lease) (rtp rtcp : Option (List InCall)) (rtp_out rtcp_out : Option (List OutCall)) → lease.pair < pair_count config
    → All (IsOfPair config) (port.Close (port_address config lease.pair Rtp) rtp rtp_out ∷ port.Close (port_address config lease.pair Rtcp) rtcp rtcp_out ∷ [])
of_lease config lease rtp rtcp rtp_out rtcp_out low =
    let first = port.Close (port_address config lease.pair Rtp) rtp rtp_out in
    let second = port.Close (port_address config lease.pair Rtcp) rtcp rtcp_out in
    All-cons (IsOfPair config) first (second ∷ []) (record { pair = lease.pair; half = Rtp; within = low; at = refl })
    (All-cons (IsOfPair config) second [] (record { pair = lease.pair; half = Rtcp; within = low; at = refl })
    (All-nil (IsOfPair config)))

module _ {T : Type 0} where
  -- what the row of a closing says at the box of a pair
  ins_of_row : (config : Config) (row : table.Entry Made T) (one : ℕ) (left : Left) → row.place ≡ box_of config one → row.event.event ≡ Box Close → row.event.left ≡ left
      → (pair : ℕ) (half : Half) → ins_logged (row ∷ []) (box_of config pair) half ≡ cond (one == pair) (joined (of_half half left.rtp left.rtcp) (Some [])) (Some [])
  ins_of_row config row one left place event is pair half =
      ap (λ (e : Event). cond (is_closing e && (row.place == box_of config pair)) (joined (in_left half row.event.left) (Some [])) (Some [])) event
      ∙ ap (λ (k : ℕ). cond (k == box_of config pair) (joined (in_left half row.event.left) (Some [])) (Some [])) place
      ∙ ap (λ (b : Bool). cond b (joined (in_left half row.event.left) (Some [])) (Some [])) (same_box config one pair)
      ∙ ap (λ (log : Option (List InCall)). cond (one == pair) (joined log (Some [])) (Some [])) (ap (in_left half) is ∙ in_of_half half left)

module _ {M S T I O : Type 0} {g : _} (taken : I → EndLog InCall) (sent : O → EndLog OutCall) where
  -- the box of a leased pair was shut, and its two ports were closed with the ends that it gave
  pub takes_closed : (config : Config) (t0 t1 : Option (List PortCall)) (old new : Hand M S Made T g) (lease : Lease) (ends : PairEnds I O) → AreFamilies config
      → lease.pair < pair_count config → AddsRow (box_of config lease.pair) (Box Close) (ends_left taken (ends.rtp_in, ends.rtcp_in)) old new
      → Gained t0 t1 (ClosesPair config lease (ends_told taken sent ends)) → TiesTakes config t0 t1 (entries old) (entries new)
  takes_closed config t0 t1 old new lease ends families low adds closes = record {
    more = adds.row ∷ [];
    rows_are = adds.list_is;
    calls = gained_less t0 t1 (ClosesPair config lease (ends_told taken sent ends)) (λ calls. All (IsOfPair config) calls × AreTakesTied config (adds.row ∷ []) calls)
        (λ calls are. subst (λ (cs : List PortCall). All (IsOfPair config) cs × AreTakesTied config (adds.row ∷ []) cs) (sym are)
        (of_lease config lease (taken ends.rtp_in).calls (taken ends.rtcp_in).calls (sent ends.rtp_out).calls (sent ends.rtcp_out).calls low, tied)) closes;
    no_legs = λ pair half. ap (λ (e : Event). cond (is_parting e) (joined (legs_logged adds.row.event.left.legs pair half) (Some [])) (Some [])) adds.event_is;
  }
    where
      these : List PortCall
      these = port.Close (port_address config lease.pair Rtp) (taken ends.rtp_in).calls (sent ends.rtp_out).calls
          ∷ port.Close (port_address config lease.pair Rtcp) (taken ends.rtcp_in).calls (sent ends.rtcp_out).calls ∷ []

      tied : AreTakesTied config (adds.row ∷ []) these
      tied pair half below =
          agrees_same (taken_at these (port_address config pair half)) (ins_logged (adds.row ∷ []) (box_of config pair) half)
          (ins_of_row config adds.row lease.pair (ends_left taken (ends.rtp_in, ends.rtcp_in)) adds.place_is adds.event_is adds.left_is pair half
          ∙ sym (pick_half config families lease.pair pair low below half (taken ends.rtp_in).calls (taken ends.rtcp_in).calls (Some [])))

-- Legs that go from a cell, and are closed.

parts_alone : (event : Event) → is_parting event ≡ true → is_closing event ≡ false
parts_alone (Board b) parts = refl
parts_alone (Cell c) parts = refl
parts_alone (Box b) parts = absurd (let e = parts in cc)

out_of_half : (half : Half) (leg : LegLeft) → out_left half leg ≡ of_half half leg.rtp leg.rtcp
out_of_half Rtp leg = refl
out_of_half Rtcp leg = refl

module _ {M S T O : Type 0} {g : _} (log : O → EndLog OutCall) where
  -- the row of a cell's step by which legs go
  pub legs_leave : (gone : List (Lease × O × O)) (place : ℕ) (event : Event) (old new : Hand M S Made T g) → is_parting event ≡ true
      → AddsRow place event (gone_left log gone) old new → LegsLeave log gone (entries old) (entries new)
  legs_leave gone place event old new parts adds =
      let row = adds.row in
      record {
        more = row ∷ [];
        rows_are = adds.list_is;
        no_ends = λ at half. ap (λ (b : Bool). cond (b && (row.place == at)) (joined (in_left half row.event.left) (Some [])) (Some []))
            (ap is_closing adds.event_is ∙ parts_alone event parts);
        legs = λ pair half. ap (λ (b : Bool). cond b (joined (legs_logged row.event.left.legs pair half) (Some [])) (Some [])) (ap is_parting adds.event_is ∙ parts)
            ∙ nothing_joined (legs_logged row.event.left.legs pair half) ∙ ap (λ (left : Left). legs_logged left.legs pair half) adds.left_is;
      }

module _ {O : Type 0} (sent : O → EndLog OutCall) where
  -- what the closings of legs give back is what the legs left with
  legs_closed : (config : Config) (gone : List (Lease × O × O)) (calls : List PortCall) (pair : ℕ) (half : Half) → AreFamilies config → AreFree (pair_count config) (pairs_of_leases (leases_of_legs gone))
      → pair < pair_count config → ClosesLegs sent config gone calls → sent_at calls (port_address config pair half) ≡ legs_logged (legs_left sent gone) pair half
  legs_closed config [] calls pair half families ranged below closes = ap (λ (cs : List PortCall). sent_at cs (port_address config pair half)) closes
  legs_closed config (leg ∷ gone) calls pair half families ranged below closes =
      ap (λ (cs : List PortCall). sent_at cs (port_address config pair half)) closes.3
      ∙ pick_half config families leg.0.pair pair ranged.0 below half (sent leg.1).calls (sent leg.2).calls (sent_at closes.2 (port_address config pair half))
      ∙ ap (λ (log : Option (List OutCall)). cond (leg.0.pair == pair) (joined log (sent_at closes.2 (port_address config pair half))) (sent_at closes.2 (port_address config pair half)))
      (sym (out_of_half half (record { lease = leg.0; rtp = (sent leg.1).calls; rtcp = (sent leg.2).calls })))
      ∙ ap (λ (rest : Option (List OutCall)). cond (leg.0.pair == pair) (joined (out_left half (record { lease = leg.0; rtp = (sent leg.1).calls; rtcp = (sent leg.2).calls })) rest) rest)
      (legs_closed config gone closes.2 pair half families ranged.2 below closes.4)

gained_and : {C : Type 0} (old new : Option (List C)) (P Q : List C → Type 0) → Gained old new P → Gained old new Q → Gained old new (λ calls. P calls × Q calls)
gained_and old None P Q first second = tt
gained_and None (Some new) P Q first second = absurd first
gained_and (Some old) (Some new) P Q first second =
    (first.0, first.1, (first.2, subst Q (append_cancel_left old second.0 first.0 (sym second.1 ∙ first.1)) second.2))

-- legs went from a cell, and then they were closed
pub ties_gone : {T O : Type 0} (sent : O → EndLog OutCall) (config : Config) (t0 t1 : Option (List PortCall)) (r0 r1 r2 : List (table.Entry Made T))
    (gone : List (Lease × O × O)) → AreFamilies config → AreLeased config (leases_of_legs gone) → LegsLeave sent gone r0 r1 → TiesTakes config t0 t1 r1 r2
    → Gained t0 t1 (ClosesLegs sent config gone) → PortsFollowRows config t0 t1 r0 r2
ties_gone {T} sent config t0 t1 r0 r1 r2 gone families leased leave takes closes = record {
  more = leave.more ++ takes.more;
  rows_are = takes.rows_are ∙ ap (λ (rows : List (table.Entry Made T)). rows ++ takes.more) leave.rows_are ∙ append_assoc r0 leave.more takes.more;
  calls = gained_less t0 t1 (λ calls. (All (IsOfPair config) calls × AreTakesTied config takes.more calls) × ClosesLegs sent config gone calls)
      (AreTied config (leave.more ++ takes.more)) tied
      (gained_and t0 t1 (λ calls. All (IsOfPair config) calls × AreTakesTied config takes.more calls) (ClosesLegs sent config gone) takes.calls closes);
}
  where
    tied : (calls : List PortCall) → (All (IsOfPair config) calls × AreTakesTied config takes.more calls) × ClosesLegs sent config gone calls
        → AreTied config (leave.more ++ takes.more) calls
    tied calls these = record {
      of_pairs = these.0.0;
      takes = λ pair half low.
          let place = box_of config pair in
          subst (λ (shown : Option (List InCall)). SameWhereTold (taken_at calls (port_address config pair half)) shown)
          (sym (ins_append leave.more takes.more place half
          ∙ ap (λ (x : Option (List InCall)). joined x (ins_logged takes.more place half)) (leave.no_ends place half)
          ∙ joined_to_nothing (ins_logged takes.more place half)))
          (these.0.1 pair half low);
      sends = λ pair half low. agrees_same (sent_at calls (port_address config pair half)) (outs_logged (leave.more ++ takes.more) pair half)
          (outs_append leave.more takes.more pair half
          ∙ ap (λ (x : Option (List OutCall)). joined x (outs_logged takes.more pair half)) (leave.legs pair half)
          ∙ ap (λ (x : Option (List OutCall)). joined (legs_logged (legs_left sent gone) pair half) x) (takes.no_legs pair half)
          ∙ nothing_joined (legs_logged (legs_left sent gone) pair half)
          ∙ sym (legs_closed sent config gone calls pair half families leased.differ low these.1));
    }
