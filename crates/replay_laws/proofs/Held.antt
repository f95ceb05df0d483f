-- Packets that are held, each under a number that is no other's.
use Rattle.std.proofs.Common.{◌≡◌, ◌∙◌, sym, ap, subst, refl, ℕ, List, [], ◌∷◌, ◌++◌, map}
use Rattle.histories.specs.Words.{In, here}
use Rattle.histories.proofs.Lists.{in_right, maps}
use Rattle.relay_outside.specs.declared.address.Addr.{Addr}
use Rattle.rtp_packet.specs.declared.head.Half.{Half}
use Rattle.port_pool.specs.declared.holder.Holder.{Holder}
use Rattle.call_board.specs.Pairs.{Once}
use Rattle.replay_steps.specs.Steps.{Packet}
use Rattle.replay_laws.specs.Alike.{but_for_take}
use Rattle.replay_laws.proofs.Takes.{SameTaken}

abbrev Numbered : Type 0
Numbered = ℕ × Packet

abbrev number_of : Numbered → ℕ
number_of h = h.0

heads : (x y : Numbered) (xs ys : List Numbered) → x ∷ xs ≡ y ∷ ys → x ≡ y
heads x y xs ys e = cc

tails : (x y : Numbered) (xs ys : List Numbered) → x ∷ xs ≡ y ∷ ys → xs ≡ ys
tails x y xs ys e = cc

-- both took out the same
pub record SameLeft (p q : Packet) (xs ys : List Numbered) : Type 0 where
  pub packet : p ≡ q
  pub left : xs ≡ ys

numbered_in : (before after : List Numbered) (n : ℕ) (p : Packet) → In n (map number_of (before ++ (n, p) ∷ after))
numbered_in before after n p = maps number_of (before ++ (n, p) ∷ after) (in_right before ((n, p) ∷ after) (here refl))

-- what is left without the packet of that number
pub left_once : (n : ℕ) (p q : Packet) (before after behind more : List Numbered) → Once (map number_of (before ++ (n, p) ∷ after))
    → before ++ (n, p) ∷ after ≡ behind ++ (n, q) ∷ more → SameLeft p q (before ++ after) (behind ++ more)
left_once n p q [] after [] more once is =
    record { packet = ap (λ (h : Numbered). h.1) (heads (n, p) (n, q) after more is); left = tails (n, p) (n, q) after more is }
left_once n p q [] after (z ∷ behind) more once is =
    let rest : after ≡ behind ++ (n, q) ∷ more = tails (n, p) z after (behind ++ (n, q) ∷ more) is in
    absurd (once.0 (subst (λ (xs : List Numbered). In n (map number_of xs)) (sym rest) (numbered_in behind more n q)))
left_once n p q (z ∷ before) after [] more once is =
    let first : z.0 ≡ n = ap number_of (heads z (n, q) (before ++ (n, p) ∷ after) more is) in
    absurd (once.0 (subst (λ (m : ℕ). In m (map number_of (before ++ (n, p) ∷ after))) (sym first) (numbered_in before after n p)))
left_once n p q (z ∷ before) after (y ∷ behind) more once is =
    let first : z ≡ y = heads z y (before ++ (n, p) ∷ after) (behind ++ (n, q) ∷ more) is in
    let rest = left_once n p q before after behind more once.1 (tails z y (before ++ (n, p) ∷ after) (behind ++ (n, q) ∷ more) is) in
    record { packet = rest.packet; left = ap (λ (x : Numbered). x ∷ (before ++ after)) first ∙ ap (λ (xs : List Numbered). y ∷ xs) rest.left }

-- one more is held, at the end
abbrev untaken : ℕ → ℕ → Half → Addr → List ℕ → Holder → Numbered
untaken n pair half source bytes holder = (n, (pair, record { take = 0; half = half; source = source; bytes = bytes; holder = holder }))

pub same_but : (n : ℕ) (p q : Packet) → SameTaken p q → but_for_take (n, p) ≡ but_for_take (n, q)
same_but n p q same =
    ap (λ (x : ℕ). untaken n x p.1.half p.1.source p.1.bytes p.1.holder) same.pair
    ∙ ap (λ (x : Half). untaken n q.0 x p.1.source p.1.bytes p.1.holder) same.packet.half
    ∙ ap (λ (x : Addr). untaken n q.0 q.1.half x p.1.bytes p.1.holder) same.packet.source
    ∙ ap (λ (x : List ℕ). untaken n q.0 q.1.half q.1.source x p.1.holder) same.packet.bytes
    ∙ ap (λ (x : Holder). untaken n q.0 q.1.half q.1.source q.1.bytes x) same.packet.holder

pub one_more : (held : List Numbered) (x y : Numbered) → but_for_take x ≡ but_for_take y → map but_for_take (held ++ x ∷ []) ≡ map but_for_take (held ++ y ∷ [])
one_more [] x y same = ap (λ (h : Numbered). h ∷ []) same
one_more (h ∷ held) x y same = ap (λ (hs : List Numbered). but_for_take h ∷ hs) (one_more held x y same)
