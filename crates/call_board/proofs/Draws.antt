-- The keys that an entry draws are those that its turn was given.
use Rattle.std.proofs.Common.{◌≡◌, ◌∙◌, sym, ap, subst, ℕ, ◌+◌, List, [], ◌∷◌, map, length, refl, arith}
use Rattle.relay_outside.specs.declared.settings.Config.{Config}
use Rattle.ng_reply.specs.declared.code.ErrorCode.{ErrorCode}
use Rattle.port_pool.specs.Signals.{NewKey}
use Rattle.offer_answer.specs.Rounds.{KeyPlace}
use Rattle.call_board.specs.Acts as act
use Rattle.call_board.specs.Acts.{Act, Control, BoardEvent, Turn, BoardEntry}
use Rattle.call_board.specs.Pairs.{draws_of_act, drawn_keys_from}
use Rattle.call_board.specs.Fits.{FitsControl, GivesFor, demanded}
use Rattle.call_board.proofs.Told.{IsTurn, IsOffer, IsUndone, IsFailure, of_ports, of_keys}
use Rattle.call_board.proofs.Tells.{tells_of}

abbrev bytes_of : NewKey → List ℕ
bytes_of k = k.bytes

new_bytes : (n : ℕ) (draws : List (List ℕ)) (places : List KeyPlace) → length draws ≡ length places → map bytes_of (drawn_keys_from n draws places) ≡ draws
new_bytes n [] places same = refl
new_bytes n (bytes ∷ draws) [] same = absurd (let e = same in omega (arith, e))
new_bytes n (bytes ∷ draws) (place ∷ places) same = ap (λ rest. bytes ∷ rest) (new_bytes (n + 1) draws places (let e = same in omega (arith, e)))

abbrev entry : ℕ → Control → BoardEntry
entry now c = record { moment = now; event = Turn c }

same_control : (now : ℕ) (c : Control) (a : Act) (t : IsTurn (entry now c) a) → t.control ≡ c
same_control now c a t = let e = t.is_turn in cc

failed_draws : (c d : Control) (code : ErrorCode) (draws : List (List ℕ)) → d ≡ c → IsFailure d code draws → draws ≡ c.given.draws
failed_draws c d code draws same (of_ports is none given_none failed) = none ∙ sym given_none ∙ ap (λ (x : Control). x.given.draws) same
failed_draws c d code draws same (of_keys is drawn failed) = drawn ∙ ap (λ (x : Control). x.given.draws) same

draws_case : (config : Config) (h : List BoardEntry) (now : ℕ) (c : Control) (a : Act) → FitsControl config h now c → c.act ≡ a → draws_of_act a ≡ c.given.draws
draws_case config h now c (act.Offered o) fits is =
    let shown : IsOffer config h (entry now c) o = tells_of config h (entry now c) (act.Offered o) fits is in
    ap (map bytes_of) shown.keys_are ∙ new_bytes _ shown.draws shown.demand.keys shown.as_many ∙ shown.drawn_are
    ∙ ap (λ (x : Control). x.given.draws) (same_control now c (act.Offered o) shown.turn)
draws_case config h now c (act.Undone code leases draws) fits is =
    let shown : IsUndone config h (entry now c) code leases draws = tells_of config h (entry now c) (act.Undone code leases draws) fits is in
    failed_draws c shown.turn.control code draws (same_control now c (act.Undone code leases draws) shown.turn) shown.failure
draws_case config h now c act.Repeated fits is = sym ((subst (GivesFor (demanded config h c) c.given) is fits.gives).0.no_draws)
draws_case config h now c act.OutOfMemory fits is = sym ((subst (GivesFor (demanded config h c) c.given) is fits.gives).no_draws)
draws_case config h now c (act.Failed code) fits is = sym ((subst (GivesFor (demanded config h c) c.given) is fits.gives).0.no_draws)
draws_case config h now c (act.Answered x) fits is = sym ((subst (GivesFor (demanded config h c) c.given) is fits.gives).0.no_draws)
draws_case config h now c (act.Deleted of) fits is = sym ((subst (GivesFor (demanded config h c) c.given) is fits.gives).0.no_draws)
draws_case config h now c (act.Queried of) fits is = sym ((subst (GivesFor (demanded config h c) c.given) is fits.gives).0.no_draws)
draws_case config h now c act.Told fits is = sym ((subst (GivesFor (demanded config h c) c.given) is fits.gives).0.no_draws)
draws_case config h now c (act.Delayed of s) fits is = sym ((subst (GivesFor (demanded config h c) c.given) is fits.gives).0.no_draws)

-- the keys that a turn draws are those that it was given
pub entry_draws : (config : Config) (h : List BoardEntry) (now : ℕ) (c : Control) → FitsControl config h now c → draws_of_act c.act ≡ c.given.draws
entry_draws config h now c fits = draws_case config h now c c.act fits refl
