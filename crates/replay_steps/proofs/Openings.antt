-- The box of a port that isn't open has no holder.
use Rattle.std.proofs.Common.{◌≡◌, ◌∙◌, ap, subst, ℕ, ◌<◌, Bool, true, false, not, ◌&&◌, ◌||◌, List, [], ◌∷◌, ◌++◌, Option, Some, ◌⊎◌, inl, inr, refl}
use Rattle.relay_outside.specs.declared.address.Addr.{Addr}
use Rattle.relay_outside.specs.declared.ports.InCall.{InCall}
use Rattle.relay_outside.specs.declared.ports.OutCall.{OutCall}
use Rattle.relay_outside.specs.declared.ports.PortCall.{PortCall}
use Rattle.relay_outside.specs.declared.ports.PortCall.TheVariants.{Open, Close}
use Rattle.relay_outside.specs.declared.settings.Config.{Config}
use Rattle.relay_outside.specs.Ports.{IsOpen}
use Rattle.rtp_packet.specs.declared.head.Half.{Half}
use Rattle.histories.specs.Words.{In, here, there, has}
use Rattle.histories.proofs.Lists.{it_has}
use Rattle.port_pool.specs.declared.holder.Holder.{Holder}
use Rattle.port_pool.specs.Ports.{pair_count, port_address}
use Rattle.call_board.specs.Pairs.{held}
use Rattle.media_ports.proofs.Opened.{open_before}
use Rattle.relay_core.specs.Entries.{Entry, box_of, front}
use Rattle.relay_core.specs.Legal.{Orderly}
use Rattle.relay_core.proofs.Boxes.{below_front}
use Rattle.relay_core.proofs.Holders.{held_is_box}
use Rattle.relay_core.proofs.Shut.{box_now, none_if}
use Rattle.board_turns.specs.Between.{board_of}
use Rattle.board_turns.specs.CallEnds.{leg_pairs}
use Rattle.ng_server.specs.Servers.{OpensJust}
use Rattle.replay_steps.specs.Arrivals.{IsShutUnless}

leg_in : (leg : Holder) (legs : List Holder) → In leg legs → In leg.pair (leg_pairs legs)
leg_in leg [] i = elim i [ ]
leg_in leg (x ∷ legs) (here q) = here (ap (λ (l : Holder). l.pair) q)
leg_in leg (x ∷ legs) (there i) = there (leg_in leg legs i)

pub shut_unless : (config : Config) (l : List Entry) → Orderly config l → (log : List PortCall) (pair : ℕ) (half : Half) → OpensJust config (board_of l) (Some log)
    → pair < pair_count config → IsShutUnless config l pair (IsOpen log (port_address config pair half))
shut_unless config l o log pair half opens in_range not_open n above =
    box_now config l o (box_of config pair) (front l 0) n (λ e i at. below_front l e 0 i at) above
    ∙ none_if _ (λ leg h.
    let s = held_is_box config l o (front l 0) pair leg h in
    not_open ((opens pair half in_range).1 (subst (λ (q : ℕ). has (leg_pairs (held (board_of l))) q ≡ true) s.0 (it_has leg.pair (leg_pairs (held (board_of l))) (leg_in leg (held (board_of l)) s.1)))))

-- after one more call
pub shut_opened : (calls : List PortCall) (here_at at : Addr) (done : Bool) → (IsOpen calls at → ⊥) → (here_at ≡ at → done ≡ true → ⊥) → IsOpen (calls ++ Open here_at done ∷ []) at → ⊥
shut_opened calls here_at at done shut other is_open = elim (open_before calls (Open here_at done) at is_open) [
  | inl is ↦ other (let k : Open here_at done ≡ Open at true = is in cc) (let k : Open here_at done ≡ Open at true = is in cc)
  | inr was ↦ shut was.0
]

pub shut_closed : (calls : List PortCall) (here_at at : Addr) (taken : Option (List InCall)) (sent : Option (List OutCall)) → ((here_at ≡ at → ⊥) → IsOpen calls at → ⊥)
    → IsOpen (calls ++ Close here_at taken sent ∷ []) at → ⊥
shut_closed calls here_at at taken sent shut is_open = elim (open_before calls (Close here_at taken sent) at is_open) [
  | inl is ↦ absurd (let k : Close here_at taken sent ≡ Open at true = is in cc)
  | inr was ↦ shut was.1 was.0
]

pub or_left : (a b : Bool) → (a || b) ≡ false → a ≡ false
or_left true b is = absurd (let k : true ≡ false = is in cc)
or_left false b is = refl

pub or_both : (a b c : Bool) → (a || (b && c)) ≡ false → b ≡ true → c ≡ true → ⊥
or_both true b c is p q = absurd (let k : true ≡ false = is in cc)
or_both false true true is p q = absurd (let k : true ≡ false = is in cc)
or_both false true false is p q = absurd (let k : false ≡ true = q in cc)
or_both false false c is p q = absurd (let k : false ≡ true = p in cc)

pub and_not : (a b : Bool) → (a && not b) ≡ false → (a ≡ false) ⊎ (b ≡ true)
and_not true true is = inr refl
and_not true false is = absurd (let k : true ≡ false = is in cc)
and_not false b is = inl refl
