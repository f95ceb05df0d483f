-- What is loaded stands for each history for which the saved cell stood.
use Rattle.std.proofs.Common.{◌≡◌, refl, ap, subst, sym, ◌∙◌, ℕ, ◌<◌, Bool, true, false, cond, List, [], ◌∷◌, map, filter, length, Option, Some, None, get_or, arith}
use Rattle.std.specs.Prelude.{◌||◌, IsSome, is_some}
use Rattle.std.proofs.lemmas.List.{length-map, get_or-map}
use Rattle.relay_outside.specs.declared.settings.Config.{Config}
use Rattle.rtp_packet.specs.declared.head.Half.{Half}
use Rattle.rtp_packet.specs.declared.head.Half.TheVariants.{Rtp, Rtcp}
use Rattle.sdes_lines.specs.declared.crypto_line.Suite.{Suite}
use Rattle.sdes_lines.specs.declared.crypto_line.Suite.TheVariants.{Tag80, Tag32}
use Rattle.relay_outside.specs.declared.address.Addr.{Addr}
use Rattle.histories.specs.Words.{In, final, first}
use Rattle.port_pool.specs.Ports.{pair_family, half_port}
use Rattle.call_cell.specs.declared.sender.Sending.{Sending}
use Rattle.call_cell.specs.declared.leg.Leg.{Leg}
use Rattle.call_cell.specs.declared.cell.Cell.{Cell}
use Rattle.call_cell.specs.declared.saved.CellSaved.{CellSaved}
use Rattle.call_cell.specs.declared.saved.LegSaved.{LegSaved}
use Rattle.call_cell.specs.Cells.{CellEntry, in_force, since_end, prepared_call, key_numbered}
use Rattle.call_cell.specs.Demands.{is_activity}
use Rattle.call_cell.specs.Protection.{accepted, protected}
use Rattle.call_cell.specs.Lessons.{learned}
use Rattle.call_cell.specs.Blocks.{last_report}
use Rattle.call_cell.specs.Counts.{IsCounted}
use Rattle.call_cell.specs.LegKeys.{keys_for, key_number_for, OnePerSuite}
use Rattle.call_cell.specs.Parts.{InboundIn, OutboundIn, HasIt, contexts_of, has_number, inbound_of, is_numbered, key_number_in, learner_in, learner_of}
use Rattle.call_cell.specs.LegHistories.{LegStandsFor, LegsStandFor, outbound_of, port_by}
use Rattle.call_cell.specs.CellHistories.{CellFor, WasAt}
use Rattle.call_cell.specs.SavedCells.{SavesCell, saved_leg}
use Rattle.call_cell.specs.TakenEnds.{TakesEnds, without_ends, without_first}
use Rattle.call_cell.proofs.Joined.{map_map}
use Rattle.call_cell.proofs.Few.{at_in}
use Rattle.call_cell.proofs.Answered.{apart_so}

-- A leg, by what it is saved as.

record IsSavedFor (config : Config) (h : List CellEntry) (s : LegSaved) : Type 0 where
  pub pair : s.lease.pair ≡ s.holder.pair
  pub generation : s.lease.generation ≡ s.holder.generation
  pub signal : s.signal ≡ in_force h s.holder
  pub family : s.lease.family ≡ pair_family config s.holder.pair
  pub port : (half : Half) → port_by half s.lease.rtp_port ≡ half_port config s.holder.pair half
  pub rtp : s.rtp ≡ learner_of Rtp s.signal (learned h s.holder Rtp)
  pub rtcp : s.rtcp ≡ learner_of Rtcp s.signal (learned h s.holder Rtcp)
  pub inbound : InboundIn (inbound_of s.signal) s.inbound (accepted h s.holder)
  pub tag80 : OutboundIn s.holder Tag80 (key_numbered h) (protected h) s.tag80
  pub tag32 : OutboundIn s.holder Tag32 (key_numbered h) (protected h) s.tag32
  pub named : (n : ℕ) → outbound_of s.signal ≡ Some n → (is_numbered s.tag80 n || is_numbered s.tag32 n) ≡ true
  pub section : s.holder.section < 8
  pub held80 : key_number_in s.tag80 ≡ key_number_for Tag80 (keys_for h s.holder)
  pub held32 : key_number_in s.tag32 ≡ key_number_for Tag32 (keys_for h s.holder)
  pub one_each : OnePerSuite (keys_for h s.holder)
  pub counted : IsCounted h s.holder s.counts
  pub reported : s.report ≡ last_report h s.holder

has_by : {O : Type 0} (o : Option ℕ) (sending : Sending O) → HasIt o sending → (n : ℕ) → o ≡ Some n → has_number sending n ≡ true
has_by None sending has n q = absurd (let f = q in cc)
has_by (Some m) sending has n q = subst (λ (k : ℕ). has_number sending k ≡ true) (let f : m ≡ n = (let g = q in cc) in f) has

has_from : {O : Type 0} (o : Option ℕ) (sending : Sending O) → ((n : ℕ) → o ≡ Some n → has_number sending n ≡ true) → HasIt o sending
has_from None sending has = tt
has_from (Some m) sending has = has m refl

saved_for : {O : Type 0} (config : Config) (h : List CellEntry) (leg : Leg O) → LegStandsFor config h leg → IsSavedFor config h (saved_leg leg)
saved_for config h leg for = record {
  pair = for.pair;
  generation = for.generation;
  signal = for.signal;
  family = for.family;
  port = for.port;
  rtp = for.receiving.learned Rtp;
  rtcp = for.receiving.learned Rtcp;
  inbound = for.receiving.inbound;
  tag80 = for.sending.tag80;
  tag32 = for.sending.tag32;
  named = has_by (outbound_of leg.signal) leg.sending for.named;
  section = for.section;
  held80 = for.held Tag80;
  held32 = for.held Tag32;
  one_each = for.one_each;
  counted = for.counted;
  reported = for.reported;
}

stands_for : {O : Type 0} (config : Config) (h : List CellEntry) (leg : Leg O) → IsSome leg.sending.ends → IsSavedFor config h (saved_leg leg) → LegStandsFor config h leg
stands_for {O} config h leg ends for = record {
  pair = for.pair;
  generation = for.generation;
  signal = for.signal;
  family = for.family;
  port = for.port;
  receiving = record { learned = learned_by; inbound = for.inbound };
  sending = record { ends = ends; tag80 = for.tag80; tag32 = for.tag32 };
  named = has_from (outbound_of leg.signal) leg.sending for.named;
  section = for.section;
  held = held_by;
  one_each = for.one_each;
  counted = for.counted;
  reported = for.reported;
}
  where
    learned_by : (half : Half) → learner_in half leg.receiving ≡ learner_of half leg.signal (learned h leg.holder half)
    learned_by Rtp = for.rtp
    learned_by Rtcp = for.rtcp

    held_by : (suite : Suite) → key_number_in (contexts_of suite leg.sending) ≡ key_number_for suite (keys_for h leg.holder)
    held_by Tag80 = for.held80
    held_by Tag32 = for.held32

-- The legs.

abbrev saved_legs : {O : Type 0} → List (Leg O) → List LegSaved
saved_legs {O} those = map (λ (leg : Leg O). saved_leg leg) those

holders_by : {O : Type 0} (those : List (Leg O)) → map (λ (leg : Leg O). leg.holder) those ≡ map (λ (s : LegSaved). s.holder) (saved_legs those)
holders_by {O} those = sym (map_map (λ (s : LegSaved). s.holder) (λ (leg : Leg O). saved_leg leg) those)

legs_move : {O : Type 0} (config : Config) (h : List CellEntry) (xs ys : List (Leg O)) → saved_legs ys ≡ saved_legs xs
    → ((leg : Leg O) → In leg ys → IsSome leg.sending.ends) → LegsStandFor config h xs → LegsStandFor config h ys
legs_move {O} config h xs ys same ends for =
    let f : Leg O → LegSaved = λ (leg : Leg O). saved_leg leg in
    let long : length ys ≡ length xs = sym (length-map ys f) ∙ ap length same ∙ length-map xs f in
    let each : (i : ℕ) (d : Leg O) → i < length xs → saved_leg (get_or ys i d) ≡ saved_leg (get_or xs i d) = λ i d below.
    sym (get_or-map f ys i d (saved_leg d) (omega (arith, below, long))) ∙ ap (λ (l : List LegSaved). get_or l i (saved_leg d)) same
    ∙ get_or-map f xs i d (saved_leg d) below in
    record {
      holders = holders_by ys ∙ ap (map (λ (s : LegSaved). s.holder)) same ∙ sym (holders_by xs) ∙ for.holders;
      apart = apart_so xs ys long (λ i d below. ap (λ (s : LegSaved). s.holder) (each i d below)) for.apart;
      each = λ i d below.
          let within : i < length xs = omega (arith, below, long) in
          stands_for config h (get_or ys i d) (ends (get_or ys i d) (at_in ys i d below))
          (subst (IsSavedFor config h) (sym (each i d within)) (saved_for config h (get_or xs i d) (for.each i d within)));
    }

-- The cell.

pub cell_moves : {O : Type 0} (config : Config) (a b : Cell O) (s : CellSaved) (h : List CellEntry) → SavesCell a s → SavesCell b s
    → ((leg : Leg O) → In leg b.legs.items → IsSome leg.sending.ends) → CellFor config a h → CellFor config b h
cell_moves {O} config a b s h one two ends for = record {
  config_is = sym two.config ∙ one.config ∙ for.config_is;
  moment = sym two.moment ∙ one.moment ∙ for.moment;
  call_is = sym two.call ∙ one.call ∙ for.call_is;
  began = subst (λ (n : ℕ). WasAt (final (filter (λ (e : CellEntry). is_some (prepared_call e)) (since_end h))) n) (sym one.began ∙ two.began) for.began;
  is_committed = sym two.is_committed ∙ one.is_committed ∙ for.is_committed;
  active = subst (λ (n : ℕ). WasAt (first (filter (λ (e : CellEntry). is_activity e.event) (since_end h))) n) (sym one.active ∙ two.active) for.active;
  unnoted = for.unnoted;
  legs_for = legs_move config (since_end h) a.legs.items b.legs.items (sym two.legs ∙ one.legs) ends for.legs_for;
}

-- Taken ends.

taken_case : {O : Type 0} (leg : Leg O) (rest : List (Leg O)) → saved_legs (without_first rest) ≡ saved_legs rest → (b : Bool)
    → saved_legs (cond b (without_ends leg ∷ rest) (leg ∷ without_first rest)) ≡ saved_legs (leg ∷ rest)
taken_case leg rest same true = refl
taken_case leg rest same false = ap (λ (l : List LegSaved). saved_leg leg ∷ l) same

taken_same : {O : Type 0} (those : List (Leg O)) → saved_legs (without_first those) ≡ saved_legs those
taken_same [] = refl
taken_same (leg ∷ rest) = taken_case leg rest (taken_same rest) (is_some leg.sending.ends)

-- a cell is saved as it is before ends are taken
pub saved_before : {O : Type 0} (old new : Cell O) (taken : Option (Addr × O × O)) (s : CellSaved) → TakesEnds old new taken → SavesCell new s → SavesCell old s
saved_before old new taken s takes saves = record {
  config = saves.config ∙ takes.config;
  moment = saves.moment ∙ takes.moment;
  call = saves.call ∙ takes.call;
  began = saves.began ∙ takes.began;
  is_committed = saves.is_committed ∙ takes.is_committed;
  active = saves.active ∙ takes.active;
  legs = saves.legs ∙ ap saved_legs takes.legs ∙ taken_same old.legs.items;
}
