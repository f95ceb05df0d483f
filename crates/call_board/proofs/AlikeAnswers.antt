-- Histories that one board stands for demand the same replies and acts.
use Rattle.std.proofs.Common.{◌≡◌, ◌∙◌, refl, ap, subst, ℕ, ◌+◌, ◌≤◌, ◌&&◌, nat_le, Bool, true, false, not, List, [], ◌∷◌, map, length, take, Option, Some, None, Result, Ok, Err, if◌then◌else◌, is_some, filter_map, codes, ◌++◌}
use Rattle.std.specs.List.{list_any}
use Rattle.relay_outside.specs.declared.settings.Config.{Config}
use Rattle.histories.specs.Words.{In, here, there, numbers, or_else}
use Rattle.ng_bencode.specs.Tree.{Tree, Dict, Bytes, Items, entry, no_entries, items_of}
use Rattle.ng_command.specs.Meanings as said
use Rattle.ng_command.specs.Meanings.{Said}
use Rattle.ng_reply.specs.declared.code.ErrorCode.{ErrorCode}
use Rattle.ng_reply.specs.declared.code.ErrorCode.TheVariants.{E10, E13, E14, E15, E16, E17}
use Rattle.sdp_text.specs.declared.proto.Proto.{Proto}
use Rattle.port_pool.specs.Ports.{pair_port}
use Rattle.port_pool.specs.declared.holder.Holder.{Holder}
use Rattle.port_pool.specs.declared.holder.Side.{Side}
use Rattle.port_pool.specs.declared.holder.Side.TheVariants.{A, B}
use Rattle.port_pool.specs.declared.reports.LegReport.{LegReport}
use Rattle.offer_answer.specs.Rounds.{Round, OfferAsk, AnswerAsk, Demand, NewLeg}
use Rattle.offer_answer.specs.Sections.{most_sections, section_count}
use Rattle.offer_answer.specs.Plan as plan
use Rattle.offer_answer.proofs.Demanded.{few_sections}
use Rattle.offer_answer.proofs.Alike.{Alike, alike_none}
use Rattle.offer_answer.proofs.AlikePlans.{tag_alike, side_alike, protocol_alike, offer_fault_alike, demand_alike, offer_text_alike, answer_fault_alike, signal_alike, answer_text_alike, heard_alike}
use Rattle.call_board.specs.Acts as act
use Rattle.call_board.specs.Acts.{Call, Act, Given, Control, Lease, BoardEntry}
use Rattle.call_board.specs.Calls.{live, find_call, new_call, rounds, rounds_of_call, is_ending, first_moment, latest_moment}
use Rattle.call_board.specs.Pairs.{free_in, fronts, is_short, next_lease, leased_new_legs, drawn_keys_from, next_generation, drawn}
use Rattle.call_board.specs.Replies.{Described, Reported, Listed, Done, Fault, reply_datagram, reply_text}
use Rattle.call_board.specs.Dialects.{is_json, written_in}
use Rattle.call_board.specs.Reports.{report_tree, whole, moment_value, counts_tree, endpoint_value, report_entry, leg_value, leg_report_at, tags_by, profile_text}
use Rattle.call_board.specs.Requests.{asked}
use Rattle.call_board.specs.Answers.{Answering, Answered, failing, telling, ending_error, deleting, offer_ask, answer_ask, leased_pairs, undoing, offering, offer_leased, offer_planned, offer_unless, offer_to, answer_unless, answer_to, names_side, nothing_to_end, delete_of, reported_legs, query_of, answering_asked, spelled, answering_unless}
use Rattle.call_board.specs.KeptReplies.{kept_reply}
use Rattle.call_board.specs.Fits.{IsFitting, demanded, demanded_by, ReadsAnswerOf, ReadsRequest, asks_after}
use Rattle.call_board.proofs.Calls.{found_live}
use Rattle.call_board.proofs.Bounds.{offer_sound}
use Rattle.call_board.proofs.CallsAfter.{map_alike}
use Rattle.call_board.proofs.Free.{front_free, free_below}
use Rattle.call_board.proofs.AlikeHistories.{AlikeHistories, found_alike, new_alike, rounds_alike, ending_alike}

-- Reports: they tell what the rounds come to.

abbrev leg_told : LegReport → Option Proto → Tree
leg_told report profile = Dict (
    entry (codes "RTCP") (counts_tree report.rtcp_accepted report.rtcp_sent) (
    entry (codes "RTP") (counts_tree report.rtp_accepted report.rtp_sent) (
    entry (codes "endpoint") (endpoint_value report.endpoint) (
    entry (codes "index") (whole (report.section + 1)) (
    entry (codes "local port") (whole report.port) (
    entry (codes "protocol") (Bytes (profile_text profile)) (report_entry report.report)))))))

abbrev side_told : List LegReport → Side → (LegReport → Tree) → Tree
side_told legs side value = Dict (entry (codes "medias") (Items (items_of (map value (filter_map (leg_report_at legs side) (numbers 0 8))))) no_entries)

abbrev report_told : ℕ → ℕ → List LegReport → Option (List ℕ) → Option (List ℕ) → (LegReport → Tree) → Tree
report_told created last legs a b value = Dict (
    entry (codes "created") (moment_value created) (
    entry (codes "last signal") (moment_value last) (
    entry (codes "result") (Bytes (codes "ok")) (
    entry (codes "tags") (Dict (tags_by a (side_told legs A value) b (side_told legs B value))) no_entries))))

report_alike : (config : Config) (created last : ℕ) (before others : List Round) (legs : List LegReport) → Alike config before others →
    report_tree config (record { created = created; last_signal = last; rounds = before; legs = legs })
    ≡ report_tree config (record { created = created; last_signal = last; rounds = others; legs = legs })
unfolding report_tree
report_alike config created last before others legs a =
    let of_a : plan.tag before A ≡ plan.tag others A = tag_alike config before others A a in
    let of_b : plan.tag before B ≡ plan.tag others B = tag_alike config before others B a in
    let value : (report : LegReport) → leg_value before report ≡ leg_value others report =
    (λ report. ap (leg_told report) (protocol_alike config before others report.section report.side a)) in
    λ i. report_told created last legs (of_a i) (of_b i) (λ report. value report i)

text_alike : (config : Config) (body : List ℕ) (created last : ℕ) (before others : List Round) (legs : List LegReport) → Alike config before others →
    reply_text config body (Reported (record { created = created; last_signal = last; rounds = before; legs = legs }))
    ≡ reply_text config body (Reported (record { created = created; last_signal = last; rounds = others; legs = legs }))
unfolding reply_text
text_alike config body created last before others legs a = ap (written_in (is_json body)) (report_alike config created last before others legs a)

-- Offers.

free_in_alike : (config : Config) (g h : List BoardEntry) → AlikeHistories config g h → free_in config g ≡ free_in config h
free_in_alike config g h s = λ i family. s.free_is family i

legs_alike : (g h : List BoardEntry) (of : Call) (pairs : List ℕ) (legs : List NewLeg) → ((p : ℕ) → In p pairs → next_generation g p ≡ next_generation h p) →
    leased_new_legs g of pairs legs ≡ leased_new_legs h of pairs legs
legs_alike g h of [] legs same = refl
legs_alike g h of (p ∷ pairs) [] same = refl
legs_alike g h of (p ∷ pairs) (leg ∷ legs) same =
    let generation = same p (here refl) in
    let more = legs_alike g h of pairs legs (λ q i. same q (there i)) in
    λ i. record { cell = of.cell; call = of.number; section = leg.section; side = leg.side; pair = p; generation = generation i } ∷ more i

module _ (config : Config) (g h : List BoardEntry) (s : AlikeHistories config g h) where
  -- what the pairs of an offer are leased for the next time
  generations : (old : IsFitting config g) (legs : List NewLeg) (p : ℕ) → In p (fronts (free_in config g) legs) → next_generation g p ≡ next_generation h p
  generations old legs p i = s.leases_are p (free_below config g p old (front_free config g legs p i))

  undoing_alike : (code : ErrorCode) (pairs : List ℕ) (draws : List (List ℕ)) → ((p : ℕ) → In p pairs → next_generation g p ≡ next_generation h p) →
      undoing g code pairs draws ≡ undoing h code pairs draws
  undoing_alike code pairs draws same =
      ap (λ (leases : List Lease). record { reply = Fault code; act = act.Undone code leases draws })
      (map_alike (next_lease g) (next_lease h) pairs (λ p i. ap (λ n. record { pair = p; generation = n }) (same p i)))

  leased_alike : (given : Given) (ask : OfferAsk) (of : Call) (begins : Bool) (before others : List Round) (pairs : List ℕ) → Alike config before others →
      section_count ask.sdp ≤ most_sections → ((p : ℕ) → In p pairs → next_generation g p ≡ next_generation h p) →
      offer_leased config g given ask of begins before pairs ≡ offer_leased config h given ask of begins others pairs
  leased_alike given ask of begins before others pairs a few same =
      ap (λ (x : Answering). if list_any not given.opens then x else if given.draw_failed then undoing g E16 pairs given.draws else offering config before (made g before)) (undoing_alike E15 pairs [] same)
      ∙ ap (λ (x : Answering). if list_any not given.opens then undoing h E15 pairs [] else if given.draw_failed then x else offering config before (made g before)) (undoing_alike E16 pairs given.draws same)
      ∙ ap (λ (x : Answering). if list_any not given.opens then undoing h E15 pairs [] else if given.draw_failed then undoing h E16 pairs given.draws else x)
      (ap (offering config before) made_same
      ∙ ap (λ (text : List ℕ). record { reply = Described text; act = act.Offered (made h others) })
      (offer_text_alike config before others ask a few (map (λ (leg : Holder). pair_port config leg.pair) (made h others).legs) (made h others).keys))
    where
      made : List BoardEntry → List Round → act.Offer
      made x rs = record {
        of = of;
        begins = begins;
        ask = ask;
        legs = leased_new_legs x of pairs (plan.demand rs ask).pairs;
        keys = drawn_keys_from (length (drawn x)) given.draws (plan.demand rs ask).keys;
        dropped = (plan.demand rs ask).dropped;
      }

      made_same : made g before ≡ made h others
      made_same =
          let demands : plan.demand before ask ≡ plan.demand others ask = demand_alike config before others ask a few in
          let legs : leased_new_legs g of pairs (plan.demand before ask).pairs ≡ leased_new_legs h of pairs (plan.demand others ask).pairs =
          ap (λ (d : Demand). leased_new_legs g of pairs d.pairs) demands ∙ legs_alike g h of pairs (plan.demand others ask).pairs same in
          let count : length (drawn g) ≡ length (drawn h) = s.drawn_is in
          λ i. record {
            of = of;
            begins = begins;
            ask = ask;
            legs = legs i;
            keys = drawn_keys_from (count i) given.draws (demands i).keys;
            dropped = (demands i).dropped;
          }

  planned_alike : (old : IsFitting config g) (given : Given) (ask : OfferAsk) (of : Call) (begins : Bool) (before others : List Round) → Alike config before others →
      section_count ask.sdp ≤ most_sections → offer_planned config g given ask of begins before ≡ offer_planned config h given ask of begins others
  planned_alike old given ask of begins before others a few =
      ap (λ (x : Answering). if begins && nat_le config.max_sessions (length (live g)) then failing E14 else if is_short (free_in config g) (plan.demand before ask).pairs then failing E13 else x)
      (leased_alike given ask of begins before others (leased_pairs config g (plan.demand before ask)) a few (generations old (plan.demand before ask).pairs))
      ∙ (λ i. if begins && nat_le config.max_sessions (length (s.live_is i)) then failing E14 else if is_short (free_in_alike config g h s i) (demands i).pairs then failing E13
      else offer_leased config h given ask of begins others (fronts (free_in_alike config g h s i) (demands i).pairs))
    where
      demands : plan.demand before ask ≡ plan.demand others ask
      demands = demand_alike config before others ask a few

  unless_alike : (old : IsFitting config g) (given : Given) (ask : OfferAsk) (of : Call) (begins : Bool) (before others : List Round) (fault : Option ErrorCode) → Alike config before others →
      section_count ask.sdp ≤ most_sections → offer_unless config g given ask of begins before fault ≡ offer_unless config h given ask of begins others fault
  unless_alike old given ask of begins before others (Some code) a few = refl
  unless_alike old given ask of begins before others None a few = planned_alike old given ask of begins before others a few

  offer_case : (old : IsFitting config g) (given : Given) (id : List ℕ) (ask : OfferAsk) (found : Option Call) → find_call h id ≡ found → section_count ask.sdp ≤ most_sections →
      Alike config [] [] → offer_to config g given id ask found ≡ offer_to config h given id ask found
  offer_case old given id ask None is few none =
      ap (λ (of : Call). offer_unless config g given ask of true [] (plan.offer_fault [] ask)) (new_alike config g h id s)
      ∙ unless_alike old given ask (new_call h id) true [] [] (plan.offer_fault [] ask) none few
  offer_case old given id ask (Some of) is few none =
      let a = rounds_alike config g h id of s is in
      let fault = or_else (ending_error (is_ending h of.number)) (plan.offer_fault (rounds h of.number) ask) in
      ap (λ (b : Bool). offer_unless config g given ask of false (rounds g of.number) (or_else (ending_error b) (plan.offer_fault (rounds g of.number) ask))) (ending_alike config g h id of s is)
      ∙ ap (λ (o : Option ErrorCode). offer_unless config g given ask of false (rounds g of.number) (or_else (ending_error (is_ending h of.number)) o))
      (offer_fault_alike config (rounds g of.number) (rounds h of.number) ask a few)
      ∙ unless_alike old given ask of false (rounds g of.number) (rounds h of.number) fault a few

  -- Answers and deletes.

  answer_case : (id : List ℕ) (ask : AnswerAsk) (found : Option Call) → find_call h id ≡ found → answer_to config g ask found ≡ answer_to config h ask found
  answer_case id ask None is = refl
  answer_case id ask (Some of) is =
      let a = rounds_alike config g h id of s is in
      ap (λ (b : Bool). answer_unless config ask of (rounds g of.number) (or_else (ending_error b) (plan.answer_fault (rounds g of.number) ask))) (ending_alike config g h id of s is)
      ∙ ap (λ (o : Option ErrorCode). answer_unless config ask of (rounds g of.number) (or_else (ending_error (is_ending h of.number)) o))
      (answer_fault_alike config (rounds g of.number) (rounds h of.number) ask a)
      ∙ go (or_else (ending_error (is_ending h of.number)) (plan.answer_fault (rounds h of.number) ask)) a
    where
      go : (fault : Option ErrorCode) → Alike config (rounds g of.number) (rounds h of.number) →
          answer_unless config ask of (rounds g of.number) fault ≡ answer_unless config ask of (rounds h of.number) fault
      go (Some code) a = refl
      go None a =
          let text : plan.answer_text config (rounds g of.number) ask ≡ plan.answer_text config (rounds h of.number) ask =
          answer_text_alike config (rounds g of.number) (rounds h of.number) ask a in
          let signal : plan.signal (rounds g of.number) ask ≡ plan.signal (rounds h of.number) ask = signal_alike config (rounds g of.number) (rounds h of.number) ask a in
          λ i. record { reply = Described (text i); act = act.Answered (record { of = of; ask = ask; signal = signal i }) }

  names_case : (before others : List Round) (tag : Option (List ℕ)) → Alike config before others → names_side before tag ≡ names_side others tag
  names_case before others None a = refl
  names_case before others (Some tag) a = side_alike config before others tag a

  delete_case : (id : List ℕ) (tag : Option (List ℕ)) (fatal : Bool) (seconds : ℕ) (found : Option Call) → find_call h id ≡ found →
      delete_of g tag fatal seconds found ≡ delete_of h tag fatal seconds found
  delete_case id tag fatal seconds None is = refl
  delete_case id tag fatal seconds (Some of) is =
      ap (λ (b : Bool). if b then record { reply = Done; act = deleting of seconds } else nothing_to_end fatal E10)
      (names_case (rounds g of.number) (rounds h of.number) tag (rounds_alike config g h id of s is))

  -- Queries.

  query_case : (given : Given) (id : List ℕ) (cookie body : List ℕ) (found : Option Call) → find_call h id ≡ found →
      spelled config cookie body (query_of g given found) ≡ spelled config cookie body (query_of h given found)
  query_case given id cookie body None is = refl
  query_case given id cookie body (Some of) is =
      let a = s.calls_are of (found_live g id of (found_alike config g h id s ∙ is)) in
      let begun : first_moment g of.number ≡ first_moment h of.number = a.first_is in
      let latest : latest_moment g of.number ≡ latest_moment h of.number = a.last_is in
      ap (λ (text : List ℕ). record { bytes = cookie ++ 32 ∷ text; act = act.Queried of })
      ((λ i. reply_text config body (Reported (record { created = begun i; last_signal = latest i; rounds = rounds g of.number; legs = reported_legs given.report })))
      ∙ text_alike config body (first_moment h of.number) (latest_moment h of.number) (rounds g of.number) (rounds h of.number) (reported_legs given.report) a.rounds_are)

  -- Any command.

  command_case : (old : IsFitting config g) (c : Control) (r : Result Said ErrorCode) → asked config c.too_long c.pairs ≡ r →
      spelled config c.cookie c.body (answering_asked config g c r) ≡ spelled config c.cookie c.body (answering_asked config h c r)
  command_case old c (Err code) is = refl
  command_case old c (Ok said.Ping) is = refl
  command_case old c (Ok (said.Offer id from_tag sdp options)) is =
      let ask : OfferAsk = offer_ask from_tag sdp options c.chosen in
      ap (spelled config c.cookie c.body)
      (ap (offer_to config g c.given id ask) (found_alike config g h id s)
      ∙ offer_case old c.given id ask (find_call h id) refl (few_sections sdp (offer_sound config c.too_long c.pairs id from_tag sdp options is)) (alike_none config))
  command_case old c (Ok (said.Answer id from_tag to_tag sdp options)) is =
      let ask : AnswerAsk = answer_ask from_tag to_tag sdp options c.chosen in
      ap (spelled config c.cookie c.body) (ap (answer_to config g ask) (found_alike config g h id s) ∙ answer_case id ask (find_call h id) refl)
  command_case old c (Ok (said.Delete id from_tag fatal seconds)) is =
      ap (spelled config c.cookie c.body) (ap (delete_of g from_tag fatal seconds) (found_alike config g h id s) ∙ delete_case id from_tag fatal seconds (find_call h id) refl)
  command_case old c (Ok (said.Query id)) is =
      ap (λ (found : Option Call). spelled config c.cookie c.body (query_of g c.given found)) (found_alike config g h id s)
      ∙ query_case c.given id c.cookie c.body (find_call h id) refl
  command_case old c (Ok (said.Listing limit)) is =
      ap (λ (calls : List Call). spelled config c.cookie c.body (telling (Listed (take limit (map (λ (call : Call). call.id) calls))))) s.live_is

  unless_kept : (old : IsFitting config g) (c : Control) (kept_reply : Option (List ℕ)) → answering_unless config g c kept_reply ≡ answering_unless config h c kept_reply
  unless_kept old c (Some bytes) = refl
  unless_kept old c None =
      ap (λ (x : Answered). if c.given.out_of_memory then record { bytes = reply_datagram config c.cookie c.body (Fault E17); act = act.OutOfMemory } else x)
      (command_case old c (asked config c.too_long c.pairs) refl)

  -- a datagram gets the same reply, and does the same
  pub answers_alike : (old : IsFitting config g) (now : ℕ) (c : Control) →
      answering_unless config g c (kept_reply g c.source c.cookie now) ≡ answering_unless config h c (kept_reply h c.source c.cookie now)
  answers_alike old now c = ap (answering_unless config g c) (s.kept_is c.source c.cookie now) ∙ unless_kept old c (kept_reply h c.source c.cookie now)

  -- What it demands.

  demand_case : (c : Control) (r : Result Said ErrorCode) → asked config c.too_long c.pairs ≡ r → demanded_by g c r ≡ demanded_by h c r
  demand_case c (Err code) is = refl
  demand_case c (Ok said.Ping) is = refl
  demand_case c (Ok (said.Offer id from_tag sdp options)) is =
      ap (λ (found : Option Call). plan.demand (rounds_of_call g found) (offer_ask from_tag sdp options c.chosen)) (found_alike config g h id s)
      ∙ go (find_call h id) refl
    where
      go : (found : Option Call) → find_call h id ≡ found →
          plan.demand (rounds_of_call g found) (offer_ask from_tag sdp options c.chosen) ≡ plan.demand (rounds_of_call h found) (offer_ask from_tag sdp options c.chosen)
      go None at = refl
      go (Some of) at =
          demand_alike config (rounds g of.number) (rounds h of.number) (offer_ask from_tag sdp options c.chosen) (rounds_alike config g h id of s at)
          (few_sections sdp (offer_sound config c.too_long c.pairs id from_tag sdp options is))
  demand_case c (Ok (said.Answer id from_tag to_tag sdp options)) is = refl
  demand_case c (Ok (said.Delete id from_tag fatal seconds)) is = refl
  demand_case c (Ok (said.Query id)) is = refl
  demand_case c (Ok (said.Listing limit)) is = refl

  pub demanded_alike : (c : Control) → demanded config g c ≡ demanded config h c
  demanded_alike c = demand_case c (asked config c.too_long c.pairs) refl

  -- The crypto lines that are chosen in it.

  hears_case : (id : List ℕ) (ask : AnswerAsk) (found : Option Call) → find_call h id ≡ found → ReadsAnswerOf g ask found → ReadsAnswerOf h ask found
  hears_case id ask None is heard = tt
  hears_case id ask (Some of) is heard = heard_alike config (rounds g of.number) (rounds h of.number) ask (rounds_alike config g h id of s is) heard

  pub hears_alike : (c : Control) (r : Result Said ErrorCode) → ReadsRequest g c r → ReadsRequest h c r
  hears_alike c (Err code) heard = tt
  hears_alike c (Ok said.Ping) heard = tt
  hears_alike c (Ok (said.Offer id from_tag sdp options)) heard = heard
  hears_alike c (Ok (said.Answer id from_tag to_tag sdp options)) heard =
      hears_case id (answer_ask from_tag to_tag sdp options c.chosen) (find_call h id) refl
      (subst (ReadsAnswerOf g (answer_ask from_tag to_tag sdp options c.chosen)) (found_alike config g h id s) heard)
  hears_alike c (Ok (said.Delete id from_tag fatal seconds)) heard = tt
  hears_alike c (Ok (said.Query id)) heard = tt
  hears_alike c (Ok (said.Listing limit)) heard = tt

  pub asks_alike : (r : Result Said ErrorCode) → asks_after g r ≡ asks_after h r
  asks_alike (Err code) = refl
  asks_alike (Ok said.Ping) = refl
  asks_alike (Ok (said.Offer id from_tag sdp options)) = refl
  asks_alike (Ok (said.Answer id from_tag to_tag sdp options)) = refl
  asks_alike (Ok (said.Delete id from_tag fatal seconds)) = refl
  asks_alike (Ok (said.Query id)) = ap is_some (found_alike config g h id s)
  asks_alike (Ok (said.Listing limit)) = refl
