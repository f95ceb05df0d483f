-- Lines that are found in a script: the one after which the keys go on, and the one that has a packet.
use Rattle.std.proofs.Common.{Bool, ◌≡◌, ◌∙◌, ap, sym, refl, subst, min, ℕ, ◌+◌, List, [], ◌∷◌, Option, Some, None, true, false, length, take, drop, get_or}
use Rattle.std.specs.Prelude.{filter_map, slice_get, MatchOption, IsSome, Result, Ok}
use Rattle.std.specs.List.{cons_option}
use Rattle.std.proofs.lemmas.Bool.{false≢true, true≢false}
use Rattle.std.proofs.lemmas.List.{drop_more, drop-drop}
use Rattle.std.proofs.lemmas.Option.{slice_get_read}
use Rattle.relay_outside.specs.declared.address.Addr.{Addr}
use Rattle.relay_outside.specs.declared.answers.Failed.{Failed}
use Rattle.relay_script.specs.declared.step.Step.{Step}
use Rattle.replay_devices.specs.Lines.{between, scripted_key}
use Rattle.replay_devices.specs.Keys.{BeginsAt, key_at}
use Rattle.replay_devices.specs.Ports.{ReplayInState, next_line, packet_in_line, take_fails, GivesLinePacket, GivesCutPacket, TakesFirstLine}

-- the keys of the lines, where the first line `key` is this one
keys_split : (lines : List Step) (place : ℕ) (found : Step) → BeginsAt place lines → found ≡ get_or lines place found →
    filter_map scripted_key lines ≡ cons_option (scripted_key found) (filter_map scripted_key (drop (place + 1) lines))
keys_split lines place found begins is =
    begins.keys
    ∙ ap (λ (xs : List Step). filter_map scripted_key xs) (drop_more lines place found begins.within)
    ∙ ap (λ (x : Step). cons_option (scripted_key x) (filter_map scripted_key (drop (place + 1) lines))) (sym is)

is_key : (lines : List Step) (place : ℕ) (found : Step) → BeginsAt place lines → found ≡ get_or lines place found → IsSome (scripted_key found)
is_key lines place found begins is = subst (λ (o : Option Step). IsSome (key_at o)) (slice_get_read lines (length lines) place found refl begins.within is) begins.is_key

key_first : (o : Option (List ℕ)) (all rest : List (List ℕ)) → IsSome o → all ≡ cons_option o rest →
    MatchOption o ((all ≡ []) × (rest ≡ [])) (λ key. all ≡ key ∷ rest)
key_first None all rest some is = absurd (false≢true some)
key_first (Some key) all rest some is = is

-- the oldest unused key is that of the first line `key`, and the others are those after it
pub key_used : (steps : List Step) (next step place : ℕ) (found : Step) → BeginsAt place (between steps next step) →
    found ≡ get_or (between steps next step) place found →
    MatchOption (scripted_key found)
    ((filter_map scripted_key (between steps next step) ≡ []) × (filter_map scripted_key (between steps (next + (place + 1)) step) ≡ []))
    (λ key. filter_map scripted_key (between steps next step) ≡ key ∷ filter_map scripted_key (between steps (next + (place + 1)) step))
key_used steps next step place found begins is =
    key_first (scripted_key found) _ _ (is_key _ place found begins is)
    (keys_split _ place found begins is
    ∙ ap (λ (xs : List Step). cons_option (scripted_key found) (filter_map scripted_key xs)) (drop-drop (place + 1) next (take step steps)))

takes_line : (before : ReplayInState) (answer : Result (Option (Addr × ℕ)) Failed) (buf : List ℕ) (index : ℕ) →
    Some index ≡ next_line before.steps before.log.at before.next →
    GivesLinePacket (take_fails before.steps index) (slice_get before.steps index) answer buf →
    TakesFirstLine before (record before { next = index + 1 }) answer buf
takes_line before answer buf index is gives =
    subst
    (λ (o : Option ℕ). MatchOption o
    ((answer ≡ Ok None) × (index + 1 ≡ before.next))
    (λ line. GivesLinePacket (take_fails before.steps line) (slice_get before.steps line) answer buf × (index + 1 ≡ line + 1)))
    is (gives, refl)

gives_whole : (o : Option (Addr × List ℕ)) (buf : List ℕ) (from : Addr) (bytes : List ℕ) (len : ℕ) → o ≡ Some (from, bytes) →
    len ≡ min (length bytes) (length buf) → take len buf ≡ take len bytes → GivesCutPacket o (Ok (Some (from, len))) buf
gives_whole o buf from bytes len is len_is front = rw (is, ← len_is) (refl, front)

gives_packet_of : (failing : Bool) (step : Option Step) (answer : Result (Option (Addr × ℕ)) Failed) (buf : List ℕ) → failing ≡ false →
    GivesCutPacket (packet_in_line step) answer buf → GivesLinePacket failing step answer buf
gives_packet_of true step answer buf is gives = absurd (true≢false is)
gives_packet_of false step answer buf is gives = gives

-- a take gives the packet of the line that was found
pub gives_packet : (before : ReplayInState) (buf : List ℕ) (index : ℕ) (from : Addr) (bytes : List ℕ) (len : ℕ) →
    Some index ≡ next_line before.steps before.log.at before.next → take_fails before.steps index ≡ false →
    packet_in_line (slice_get before.steps index) ≡ Some (from, bytes) → len ≡ min (length bytes) (length buf) →
    take len buf ≡ take len bytes → TakesFirstLine before (record before { next = index + 1 }) (Ok (Some (from, len))) buf
gives_packet before buf index from bytes len is passes packet len_is front =
    takes_line before _ buf index is
    (gives_packet_of _ (slice_get before.steps index) _ buf passes (gives_whole _ buf from bytes len packet len_is front))
