-- The sends that lines asked to fail say whether the next one by an end fails.
use Rattle.std.proofs.Common.{◌≡◌, ◌∙◌, refl, sym, ap, ℕ, ◌+◌, ◌-◌, Bool, true, false, ◌&&◌, ◌||◌, ◌==◌, List, [], ◌∷◌, ◌++◌, map, arith, eq-eqb, if◌then◌else◌, cond}
use Rattle.std.specs.Prelude.{count_by}
use Rattle.std.specs.List.{list_any}
use Rattle.std.proofs.lemmas.List.{append-nil}
use Rattle.std.proofs.lemmas.List.Sums.{sum_by-cons}
use Rattle.std.proofs.lemmas.Bool.{false≢true}
use Rattle.std.proofs.lemmas.Bool.Decides.{nat_tests}
use Rattle.relay_outside.specs.declared.address.Family.{Family}
use Rattle.relay_outside.specs.declared.address.Family.TheVariants.{V4, V6}
use Rattle.relay_outside.specs.declared.settings.Config.{Config}
use Rattle.rtp_packet.specs.declared.head.Half.{Half}
use Rattle.rtp_packet.specs.declared.head.Half.TheVariants.{Rtp, Rtcp}
use Rattle.srtp_sources.specs.Notes.{is_half}
use Rattle.histories.specs.Words.{until}
use Rattle.port_pool.specs.Ports.{family_eq, pair_family, half_port}
use Rattle.port_pool.proofs.Addresses.{one_port}
use Rattle.call_cell.specs.declared.outcome.LocalPort.{LocalPort}
use Rattle.call_cell.specs.LegHistories.{local_port}
use Rattle.replay_devices.specs.Steps as model
use Rattle.replay_devices.specs.Devices.{Happening, Made, Opened, Drew, Replied, Sent, behind, makes_end, makes_at, sends_by, fails_send, send_fails}
use Rattle.replay_devices.specs.declared.failures.Stage.{Stage}
use Rattle.replay_devices.specs.declared.failures.Stage.TheVariants.{Waiting, Counting}
use Rattle.replay_devices.specs.declared.failures.SendFailure.{SendFailure}
use Rattle.replay_devices.specs.Failures.{waiting_for, with_number, after_open_in, after_open_at, after_send_in, after_send_at, is_next_at, any_next_at}
use Rattle.replay_devices.specs.Watch.{sends_to_fail, send_asked}
use Rattle.replay_devices.proofs.Watches.{or_none, or_swap}

-- Lists.

any_both : {A : Type 0} (p : A → Bool) (xs ys : List A) → list_any p (xs ++ ys) ≡ (list_any p xs || list_any p ys)
any_both p [] ys = refl
any_both p (x ∷ xs) ys = ap (λ (b : Bool). p x || b) (any_both p xs ys) ∙ or_deep (p x) (list_any p xs) (list_any p ys)
  where
    or_deep : (a b c : Bool) → (a || (b || c)) ≡ ((a || b) || c)
    or_deep true b c = refl
    or_deep false b c = refl

any_over : {A : Type 0} (p q : A → Bool) (f : A → A) → ((x : A) → p (f x) ≡ q x) → (xs : List A) → list_any p (map f xs) ≡ list_any q xs
any_over p q f same [] = refl
any_over p q f same (x ∷ xs) = ap (λ (b : Bool). b || list_any p (map f xs)) (same x) ∙ ap (λ (b : Bool). q x || b) (any_over p q f same xs)

any_same : {A : Type 0} (p q : A → Bool) → ((x : A) → p x ≡ q x) → (xs : List A) → list_any p xs ≡ list_any q xs
any_same p q same [] = refl
any_same p q same (x ∷ xs) = ap (λ (b : Bool). b || list_any p xs) (same x) ∙ ap (λ (b : Bool). q x || b) (any_same p q same xs)

any_never : {A : Type 0} (p : A → Bool) → ((x : A) → p x ≡ false) → (xs : List A) → list_any p xs ≡ false
any_never p none [] = refl
any_never p none (x ∷ xs) = ap (λ (b : Bool). b || list_any p xs) (none x) ∙ any_never p none xs

-- One failing send.

-- it is the send of this number, from now, by an end at the port that was made
abbrev made_by : Stage → LocalPort → (number : ℕ) → SendFailure → Bool
made_by Waiting at number f = false
made_by (Counting family) at number f = family_eq family at.family && ((f.port == at.port) && (f.number == number))

-- the same by the end that the next opening of a port of this number makes
abbrev waits_by : Stage → (port number : ℕ) → SendFailure → Bool
waits_by Waiting port number f = (f.port == port) && (f.number == number)
waits_by (Counting family) port number f = false

abbrev is_made : LocalPort → (number : ℕ) → SendFailure → Bool
is_made at number f = made_by f.stage at number f

abbrev waits : (port number : ℕ) → SendFailure → Bool
waits port number f = waits_by f.stage port number f

abbrev failure : (port number : ℕ) → Stage → SendFailure
failure port number stage = record { port = port; number = number; stage = stage }

next_made : (at : LocalPort) (p n : ℕ) (stage : Stage) → is_next_at at (failure p n stage) ≡ is_made at 1 (failure p n stage)
next_made at p n Waiting = refl
next_made at p n (Counting family) = refl

and_none : (b : Bool) → (b && false) ≡ false
and_none true = refl
and_none false = refl

not_one : (p port : ℕ) (c : Bool) → (p == port) ≡ false → ((p == port) && c) ≡ false
not_one p port c q = ap (λ (b : Bool). b && c) q

-- the first two don't hold together
off : (a b c : Bool) → (a && b) ≡ false → (a && (b && c)) ≡ false
off true b c q = ap (λ (x : Bool). x && c) q
off false b c q = refl

zero_isnt : (n : ℕ) → (0 == n + 1) ≡ false
zero_isnt n = grind (arith, nat_tests)

same_number : (m n : ℕ) → (m == n) ≡ true → m ≡ n
same_number m n q = grind (arith, nat_tests)

same_itself : (family : Family) → family_eq family family ≡ true
same_itself V4 = refl
same_itself V6 = refl

one_family : (a b : Family) → family_eq a b ≡ true → a ≡ b
one_family V4 V4 q = refl
one_family V6 V6 q = refl
one_family V4 V6 q = absurd (let e = q in cc)
one_family V6 V4 q = absurd (let e = q in cc)

module _ (at : LocalPort) (number : ℕ) where
  ended_case : (p n : ℕ) (family : Family) (c : Bool) → family_eq family at.family ≡ c
      → is_made at (number + 1) (if c then with_number 0 (failure p n (Counting family)) else failure p n (Counting family)) ≡ false
  ended_case p n family true q =
      ap (λ (b : Bool). family_eq family at.family && ((p == at.port) && b)) (zero_isnt number)
      ∙ ap (λ (b : Bool). family_eq family at.family && b) (and_none (p == at.port)) ∙ and_none (family_eq family at.family)
  ended_case p n family false q = ap (λ (b : Bool). b && ((p == at.port) && (n == number + 1))) q

  opened_case : (p n : ℕ) (stage : Stage) (b : Bool) → (p == at.port) ≡ b
      → is_made at (number + 1) (if b then after_open_in stage at.family (failure p n stage) else failure p n stage) ≡ waits at.port (number + 1) (failure p n stage)
  opened_case p n Waiting true q = ap (λ (b : Bool). b && ((p == at.port) && (n == number + 1))) (same_itself at.family)
  opened_case p n (Counting family) true q = ended_case p n family (family_eq family at.family) refl
  opened_case p n Waiting false q = sym (not_one p at.port (n == number + 1) q)
  opened_case p n (Counting family) false q = ap (λ (b : Bool). family_eq family at.family && b) (not_one p at.port (n == number + 1) q) ∙ and_none (family_eq family at.family)

  opened_made : (f : SendFailure) → is_made at (number + 1) (after_open_at at f) ≡ waits at.port (number + 1) f
  opened_made f = opened_case f.port f.number f.stage (f.port == at.port) refl

  one_less : (n : ℕ) → (n - 1 == number + 1) ≡ (n == number + 1 + 1)
  one_less n = grind (arith, nat_tests)

  sent_by_it : (p n : ℕ) (family : Family) (c : Bool) → family_eq family at.family ≡ c
      → is_made at (number + 1) (if c then with_number (n - 1) (failure p n (Counting family)) else failure p n (Counting family))
      ≡ is_made at (number + 1 + 1) (failure p n (Counting family))
  sent_by_it p n family true q = ap (λ (b : Bool). family_eq family at.family && ((p == at.port) && b)) (one_less n)
  sent_by_it p n family false q =
      ap (λ (b : Bool). b && ((p == at.port) && (n == number + 1))) q ∙ sym (ap (λ (b : Bool). b && ((p == at.port) && (n == number + 1 + 1))) q)

  sent_case : (p n : ℕ) (stage : Stage) (b : Bool) → (p == at.port) ≡ b
      → is_made at (number + 1) (if b then after_send_in stage at.family (failure p n stage) else failure p n stage) ≡ is_made at (number + 1 + 1) (failure p n stage)
  sent_case p n Waiting true q = refl
  sent_case p n (Counting family) true q = sent_by_it p n family (family_eq family at.family) refl
  sent_case p n Waiting false q = refl
  sent_case p n (Counting family) false q =
      ap (λ (b : Bool). family_eq family at.family && b) (not_one p at.port (n == number + 1) q ∙ sym (not_one p at.port (n == number + 1 + 1) q))

  sent_made : (f : SendFailure) → is_made at (number + 1) (after_send_at at f) ≡ is_made at (number + 1 + 1) f
  sent_made f = sent_case f.port f.number f.stage (f.port == at.port) refl

  -- at another port, be it that of the other family
  module _ (other : LocalPort) (apart : (family_eq other.family at.family && (other.port == at.port)) ≡ false) where
    -- a failing send of the other end isn't one of this end
    not_its : (p : ℕ) (family : Family) (c : Bool) → (p == other.port) ≡ true → family_eq family other.family ≡ true → (family_eq family at.family && ((p == at.port) && c)) ≡ false
    not_its p family c is same =
        ap (λ (f : Family). family_eq f at.family && ((p == at.port) && c)) (one_family family other.family same)
        ∙ ap (λ (n : ℕ). family_eq other.family at.family && ((n == at.port) && c)) (same_number p other.port is)
        ∙ off (family_eq other.family at.family) (other.port == at.port) c apart

    ended_apart : (p n : ℕ) (family : Family) (c : Bool) → (p == other.port) ≡ true → family_eq family other.family ≡ c
        → is_made at number (if c then with_number 0 (failure p n (Counting family)) else failure p n (Counting family)) ≡ is_made at number (failure p n (Counting family))
    ended_apart p n family true is q = not_its p family (0 == number) is q ∙ sym (not_its p family (n == number) is q)
    ended_apart p n family false is q = refl

    opened_apart_case : (p n : ℕ) (stage : Stage) (b : Bool) → (p == other.port) ≡ b
        → is_made at number (if b then after_open_in stage other.family (failure p n stage) else failure p n stage) ≡ is_made at number (failure p n stage)
    opened_apart_case p n Waiting true q = not_its p other.family (n == number) q (same_itself other.family)
    opened_apart_case p n (Counting family) true q = ended_apart p n family (family_eq family other.family) q refl
    opened_apart_case p n stage false q = refl

    opened_apart : (f : SendFailure) → is_made at number (after_open_at other f) ≡ is_made at number f
    opened_apart f = opened_apart_case f.port f.number f.stage (f.port == other.port) refl

    sent_by_other : (p n : ℕ) (family : Family) (c : Bool) → (p == other.port) ≡ true → family_eq family other.family ≡ c
        → is_made at number (if c then with_number (n - 1) (failure p n (Counting family)) else failure p n (Counting family)) ≡ is_made at number (failure p n (Counting family))
    sent_by_other p n family true is q = not_its p family (n - 1 == number) is q ∙ sym (not_its p family (n == number) is q)
    sent_by_other p n family false is q = refl

    sent_apart_case : (p n : ℕ) (stage : Stage) (b : Bool) → (p == other.port) ≡ b
        → is_made at number (if b then after_send_in stage other.family (failure p n stage) else failure p n stage) ≡ is_made at number (failure p n stage)
    sent_apart_case p n Waiting true q = refl
    sent_apart_case p n (Counting family) true q = sent_by_other p n family (family_eq family other.family) q refl
    sent_apart_case p n stage false q = refl

    sent_apart : (f : SendFailure) → is_made at number (after_send_at other f) ≡ is_made at number f
    sent_apart f = sent_apart_case f.port f.number f.stage (f.port == other.port) refl

-- Those that wait: for the next opening of a port of this number, of whichever family.

still_counts : (port number p n m : ℕ) (family : Family) (c : Bool)
    → waits port number (if c then with_number m (failure p n (Counting family)) else failure p n (Counting family)) ≡ false
still_counts port number p n m family true = refl
still_counts port number p n m family false = refl

module _ (port number : ℕ) (other : LocalPort) where
  waits_case : (p n : ℕ) (stage : Stage) (b : Bool) → (p == port) ≡ b
      → waits port number (if b then after_open_in stage other.family (failure p n stage) else failure p n stage) ≡ false
  waits_case p n Waiting true q = refl
  waits_case p n (Counting family) true q = still_counts port number p n 0 family (family_eq family other.family)
  waits_case p n Waiting false q = not_one p port (n == number) q
  waits_case p n (Counting family) false q = refl

  -- after such an opening none waits
  opened_waits : other.port ≡ port → (f : SendFailure) → waits port number (after_open_at other f) ≡ false
  opened_waits here f =
      ap (λ (q : ℕ). waits port number (if f.port == q then after_open_in f.stage other.family f else f)) here
      ∙ waits_case f.port f.number f.stage (f.port == port) refl

  not_here : (p : ℕ) → (other.port == port) ≡ false → (p == other.port) ≡ true → (p == port) ≡ false
  not_here p apart q = ap (λ (n : ℕ). n == port) (same_number p other.port q) ∙ apart

  waits_apart_case : (p n : ℕ) (stage : Stage) (b : Bool) → (other.port == port) ≡ false → (p == other.port) ≡ b
      → waits port number (if b then after_open_in stage other.family (failure p n stage) else failure p n stage) ≡ waits port number (failure p n stage)
  waits_apart_case p n Waiting true apart q = sym (not_one p port (n == number) (not_here p apart q))
  waits_apart_case p n (Counting family) true apart q = still_counts port number p n 0 family (family_eq family other.family)
  waits_apart_case p n stage false apart q = refl

  waits_apart : (other.port == port) ≡ false → (f : SendFailure) → waits port number (after_open_at other f) ≡ waits port number f
  waits_apart apart f = waits_apart_case f.port f.number f.stage (f.port == other.port) apart refl

  sent_waits_case : (p n : ℕ) (stage : Stage) (b : Bool)
      → waits port number (if b then after_send_in stage other.family (failure p n stage) else failure p n stage) ≡ waits port number (failure p n stage)
  sent_waits_case p n Waiting true = refl
  sent_waits_case p n (Counting family) true = still_counts port number p n (n - 1) family (family_eq family other.family)
  sent_waits_case p n stage false = refl

  -- a send doesn't touch them
  sent_waits_on : (f : SendFailure) → waits port number (after_send_at other f) ≡ waits port number f
  sent_waits_on f = sent_waits_case f.port f.number f.stage (f.port == other.port)

-- All of what happened.

count_one : (p : Happening → Bool) (x : Happening) (xs : List Happening) → count_by p (x ∷ xs) ≡ cond (p x) 1 0 + count_by p xs
count_one p x xs = sum_by-cons (λ (y : Happening). cond (p y) 1 0) x xs

plus_none : (n : ℕ) → 0 + n ≡ n
plus_none n = grind arith

both_ways : (x y : Bool) → (x ≡ true → y ≡ true) → (y ≡ true → x ≡ true) → x ≡ y
both_ways true true to from = refl
both_ways true false to from = sym (to refl)
both_ways false true to from = from refl
both_ways false false to from = refl

and_first : (a b : Bool) → (a && b) ≡ true → a ≡ true
and_first true b q = refl
and_first false b q = q

and_second : (a b : Bool) → (a && b) ≡ true → b ≡ true
and_second true b q = q
and_second false b q = absurd (false≢true q)

half_itself : (half : Half) → is_half half half ≡ true
half_itself Rtp = refl
half_itself Rtcp = refl

one_half : (a b : Half) → is_half a b ≡ true → a ≡ b
one_half Rtp Rtp q = refl
one_half Rtcp Rtcp q = refl
one_half Rtp Rtcp q = absurd (false≢true q)
one_half Rtcp Rtp q = absurd (false≢true q)

-- the ports of two ends are the same, in the same family, where the ends are
same_port : (config : Config) (a : ℕ) (g : Half) (pair : ℕ) (half : Half)
    → (family_eq (pair_family config a) (pair_family config pair) && (half_port config a g == half_port config pair half)) ≡ ((a == pair) && is_half g half)
same_port config a g pair half =
    let fam = family_eq (pair_family config a) (pair_family config pair) in
    let num = half_port config a g == half_port config pair half in
    both_ways (fam && num) ((a == pair) && is_half g half)
    (λ q.
    let one = one_port config a pair g half (one_family (pair_family config a) (pair_family config pair) (and_first fam num q))
    (same_number (half_port config a g) (half_port config pair half) (and_second fam num q)) in
    ap (λ (n : ℕ). (n == pair) && is_half g half) one.0 ∙ ap (λ (b : Bool). b && is_half g half) (eq-eqb pair pair refl)
    ∙ ap (λ (h : Half). is_half h half) one.1 ∙ half_itself half)
    (λ q.
    let pair_is = same_number a pair (and_first (a == pair) (is_half g half) q) in
    let half_is = one_half g half (and_second (a == pair) (is_half g half) q) in
    ap (λ (n : ℕ). family_eq (pair_family config n) (pair_family config pair) && (half_port config n g == half_port config pair half)) pair_is
    ∙ ap (λ (b : Bool). b && (half_port config pair g == half_port config pair half)) (same_itself (pair_family config pair))
    ∙ ap (λ (h : Half). half_port config pair h == half_port config pair half) half_is
    ∙ eq-eqb (half_port config pair half) (half_port config pair half) refl)

module _ (config : Config) (pair : ℕ) (half : Half) where
  abbrev port : ℕ
  port = half_port config pair half

  abbrev at : LocalPort
  at = local_port config pair half

  abbrev makes : Happening → Bool
  makes x = makes_end pair half x

  -- an end is made at a port of this number, of whichever family
  abbrev makes_here : Happening → Bool
  makes_here x = makes_at config port x

  abbrev sends_it : Happening → Bool
  sends_it x = sends_by pair half x

  abbrev any_made : ℕ → List Happening → Bool
  any_made j past = list_any (is_made at (j + 1)) (sends_to_fail config past)

  abbrev any_waits : ℕ → List Happening → Bool
  any_waits j past = list_any (waits port (j + 1)) (sends_to_fail config past)

  -- how many sends came since the end was made
  abbrev sent_since : List Happening → ℕ
  sent_since past = count_by sends_it (until makes past)

  -- the failing sends of the end that was made are those of the lines before its opening, less the sends since
  abbrev MadeAre : List Happening → Type 0
  MadeAre past = (j : ℕ) → any_made j past ≡ list_any (fails_send port (sent_since past + (j + 1))) (until makes_here (behind makes past))

  -- and those that wait are those of the lines since the last opening of the number
  abbrev WaitsAre : List Happening → Type 0
  WaitsAre past = (j : ℕ) → any_waits j past ≡ list_any (fails_send port (j + 1)) (until makes_here past)

  -- a line that asks for no failing send
  quiet_made : (s : model.ReplayStep) (past : List Happening) → send_asked s ≡ [] → MadeAre past → MadeAre (Made s ∷ past)
  quiet_made s past none made j =
      ap (λ (xs : List SendFailure). list_any (is_made at (j + 1)) (sends_to_fail config past ++ xs)) none
      ∙ ap (λ (xs : List SendFailure). list_any (is_made at (j + 1)) xs) (append-nil (sends_to_fail config past)) ∙ made j

  quiet_waits : (s : model.ReplayStep) (past : List Happening) → send_asked s ≡ [] → ((n : ℕ) → fails_send port n (Made s) ≡ false) → WaitsAre past → WaitsAre (Made s ∷ past)
  quiet_waits s past none fails_none wait j =
      ap (λ (xs : List SendFailure). list_any (waits port (j + 1)) (sends_to_fail config past ++ xs)) none
      ∙ ap (λ (xs : List SendFailure). list_any (waits port (j + 1)) xs) (append-nil (sends_to_fail config past)) ∙ wait j
      ∙ sym (ap (λ (b : Bool). b || list_any (fails_send port (j + 1)) (until makes_here past)) (fails_none (j + 1)))

  quiet : (s : model.ReplayStep) (past : List Happening) → send_asked s ≡ [] → ((n : ℕ) → fails_send port n (Made s) ≡ false) → MadeAre past × WaitsAre past
      → MadeAre (Made s ∷ past) × WaitsAre (Made s ∷ past)
  quiet s past none fails_none (made, wait) = (quiet_made s past none made, quiet_waits s past none fails_none wait)

  one_made : (s : model.ReplayStep) (past : List Happening) → MadeAre past × WaitsAre past → MadeAre (Made s ∷ past) × WaitsAre (Made s ∷ past)
  one_made (model.FailSend q n) past (made, wait) = (
    λ j. any_both (is_made at (j + 1)) (sends_to_fail config past) (waiting_for q n ∷ []) ∙ sym (or_none (any_made j past)) ∙ made j,
    λ j. any_both (waits port (j + 1)) (sends_to_fail config past) (waiting_for q n ∷ [])
        ∙ or_swap (any_waits j past) (((q == port) && (n == j + 1)) || false)
        ∙ ap (λ (b : Bool). b || any_waits j past) (sym (or_none ((q == port) && (n == j + 1))))
        ∙ ap (λ (b : Bool). ((q == port) && (n == j + 1)) || b) (wait j),
  )
  one_made model.Skip past are = quiet model.Skip past refl (λ n. refl) are
  one_made (model.At moment) past are = quiet (model.At moment) past refl (λ n. refl) are
  one_made (model.Key bytes) past are = quiet (model.Key bytes) past refl (λ n. refl) are
  one_made (model.Fail kind n) past are = quiet (model.Fail kind n) past refl (λ n. refl) are
  one_made (model.Ng source bytes) past are = quiet (model.Ng source bytes) past refl (λ n. refl) are
  one_made (model.Take at source bytes) past are = quiet (model.Take at source bytes) past refl (λ n. refl) are
  one_made (model.Relay receipt) past are = quiet (model.Relay receipt) past refl (λ n. refl) are
  one_made (model.Packet at source bytes) past are = quiet (model.Packet at source bytes) past refl (λ n. refl) are
  one_made model.Tick past are = quiet model.Tick past refl (λ n. refl) are

  -- The end that was made, and another one.

  -- this end is at the same port
  at_it : (a : ℕ) (g : Half) → family_eq (pair_family config a) (pair_family config pair) ≡ true → (half_port config a g == port) ≡ true → local_port config a g ≡ at
  at_it a g fam num =
      ap (λ (f : Family). let x : LocalPort = record { family = f; port = half_port config a g } in x) (one_family (pair_family config a) (pair_family config pair) fam)
      ∙ ap (λ (n : ℕ). let x : LocalPort = record { family = pair_family config pair; port = n } in x) (same_number (half_port config a g) port num)

  -- An end was made.

  opened_here : (a : ℕ) (g : Half) (past : List Happening) → local_port config a g ≡ at → ((a == pair) && is_half g half) ≡ true → WaitsAre past → MadeAre (Opened a g true ∷ past)
  opened_here a g past here it wait j =
      ap (λ (q : LocalPort). list_any (is_made at (j + 1)) (map (after_open_at q) (sends_to_fail config past))) here
      ∙ any_over (is_made at (j + 1)) (waits port (j + 1)) (after_open_at at) (opened_made at j) (sends_to_fail config past) ∙ wait j
      ∙ ap (λ (n : ℕ). list_any (fails_send port n) (until makes_here past)) (sym (plus_none (j + 1)))
      ∙ sym (ap (λ (b : Bool). list_any (fails_send port (count_by sends_it (if b then [] else Opened a g true ∷ until makes past) + (j + 1))) (until makes_here (if b then past else behind makes past))) it)

  opened_there : (a : ℕ) (g : Half) (past : List Happening) → (family_eq (pair_family config a) (pair_family config pair) && (half_port config a g == port)) ≡ false
      → ((a == pair) && is_half g half) ≡ false → MadeAre past → MadeAre (Opened a g true ∷ past)
  opened_there a g past apart other made j =
      any_over (is_made at (j + 1)) (is_made at (j + 1)) (after_open_at (local_port config a g)) (opened_apart at (j + 1) (local_port config a g) apart) (sends_to_fail config past) ∙ made j
      ∙ sym (ap (λ (b : Bool). list_any (fails_send port (count_by sends_it (if b then [] else Opened a g true ∷ until makes past) + (j + 1))) (until makes_here (if b then past else behind makes past))) other)

  opened_waits_case : (a : ℕ) (g : Half) (past : List Happening) (b : Bool) → (half_port config a g == port) ≡ b → WaitsAre past → WaitsAre (Opened a g true ∷ past)
  opened_waits_case a g past true num wait j =
      any_over (waits port (j + 1)) (λ f. false) (after_open_at (local_port config a g))
      (opened_waits port (j + 1) (local_port config a g) (same_number (half_port config a g) port num)) (sends_to_fail config past)
      ∙ any_never (λ f. false) (λ f. refl) (sends_to_fail config past)
      ∙ sym (ap (λ (b : Bool). list_any (fails_send port (j + 1)) (if b then [] else Opened a g true ∷ until makes_here past)) num)
  opened_waits_case a g past false num wait j =
      any_over (waits port (j + 1)) (waits port (j + 1)) (after_open_at (local_port config a g)) (waits_apart port (j + 1) (local_port config a g) num) (sends_to_fail config past) ∙ wait j
      ∙ sym (ap (λ (b : Bool). list_any (fails_send port (j + 1)) (if b then [] else Opened a g true ∷ until makes_here past)) num)

  opened_case_of : (a : ℕ) (g : Half) (past : List Happening) (c b : Bool) → family_eq (pair_family config a) (pair_family config pair) ≡ c → (half_port config a g == port) ≡ b
      → MadeAre past × WaitsAre past → MadeAre (Opened a g true ∷ past)
  opened_case_of a g past true true fam num are =
      opened_here a g past (at_it a g fam num)
      (sym (same_port config a g pair half) ∙ ap (λ (x : Bool). x && (half_port config a g == port)) fam ∙ num) are.1
  opened_case_of a g past true false fam num are =
      let apart = ap (λ (x : Bool). x && (half_port config a g == port)) fam ∙ num in
      opened_there a g past apart (sym (same_port config a g pair half) ∙ apart) are.0
  opened_case_of a g past false b fam num are =
      let apart = ap (λ (x : Bool). x && (half_port config a g == port)) fam in
      opened_there a g past apart (sym (same_port config a g pair half) ∙ apart) are.0

  -- A packet was sent.

  sent_here : (a : ℕ) (g : Half) (ok : Bool) (past : List Happening) → local_port config a g ≡ at → ((a == pair) && is_half g half) ≡ true → MadeAre past → MadeAre (Sent a g ok ∷ past)
  sent_here a g ok past here it made j =
      ap (λ (q : LocalPort). list_any (is_made at (j + 1)) (map (after_send_at q) (sends_to_fail config past))) here
      ∙ any_over (is_made at (j + 1)) (is_made at (j + 1 + 1)) (after_send_at at) (sent_made at j) (sends_to_fail config past) ∙ made (j + 1)
      ∙ ap (λ (n : ℕ). list_any (fails_send port n) (until makes_here (behind makes past))) (one_on (sent_since past) j)
      ∙ sym (ap (λ (b : Bool). list_any (fails_send port (cond b 1 0 + sent_since past + (j + 1))) (until makes_here (behind makes past))) it)
      ∙ ap (λ (n : ℕ). list_any (fails_send port (n + (j + 1))) (until makes_here (behind makes past))) (sym (count_one sends_it (Sent a g ok) (until makes past)))
    where
      one_on : (m n : ℕ) → m + (n + 1 + 1) ≡ 1 + m + (n + 1)
      one_on m n = grind arith

  sent_there : (a : ℕ) (g : Half) (ok : Bool) (past : List Happening) → (family_eq (pair_family config a) (pair_family config pair) && (half_port config a g == port)) ≡ false
      → ((a == pair) && is_half g half) ≡ false → MadeAre past → MadeAre (Sent a g ok ∷ past)
  sent_there a g ok past apart other made j =
      any_over (is_made at (j + 1)) (is_made at (j + 1)) (after_send_at (local_port config a g)) (sent_apart at (j + 1) (local_port config a g) apart) (sends_to_fail config past) ∙ made j
      ∙ ap (λ (n : ℕ). list_any (fails_send port (n + (j + 1))) (until makes_here (behind makes past))) (sym (plus_none (sent_since past)))
      ∙ sym (ap (λ (b : Bool). list_any (fails_send port (cond b 1 0 + sent_since past + (j + 1))) (until makes_here (behind makes past))) other)
      ∙ ap (λ (n : ℕ). list_any (fails_send port (n + (j + 1))) (until makes_here (behind makes past))) (sym (count_one sends_it (Sent a g ok) (until makes past)))

  sent_waits : (a : ℕ) (g : Half) (ok : Bool) (past : List Happening) → WaitsAre past → WaitsAre (Sent a g ok ∷ past)
  sent_waits a g ok past wait j =
      any_over (waits port (j + 1)) (waits port (j + 1)) (after_send_at (local_port config a g)) (sent_waits_on port (j + 1) (local_port config a g)) (sends_to_fail config past) ∙ wait j

  sent_case_of : (a : ℕ) (g : Half) (ok : Bool) (past : List Happening) (c b : Bool) → family_eq (pair_family config a) (pair_family config pair) ≡ c → (half_port config a g == port) ≡ b
      → MadeAre past → MadeAre (Sent a g ok ∷ past)
  sent_case_of a g ok past true true fam num made =
      sent_here a g ok past (at_it a g fam num)
      (sym (same_port config a g pair half) ∙ ap (λ (x : Bool). x && (half_port config a g == port)) fam ∙ num) made
  sent_case_of a g ok past true false fam num made =
      let apart = ap (λ (x : Bool). x && (half_port config a g == port)) fam ∙ num in
      sent_there a g ok past apart (sym (same_port config a g pair half) ∙ apart) made
  sent_case_of a g ok past false b fam num made =
      let apart = ap (λ (x : Bool). x && (half_port config a g == port)) fam in
      sent_there a g ok past apart (sym (same_port config a g pair half) ∙ apart) made

  all_are : (past : List Happening) → MadeAre past × WaitsAre past
  all_are [] = (λ j. refl, λ j. refl)
  all_are (Made s ∷ past) = one_made s past (all_are past)
  all_are (Opened a g true ∷ past) = (
    opened_case_of a g past (family_eq (pair_family config a) (pair_family config pair)) (half_port config a g == port) refl refl (all_are past),
    opened_waits_case a g past (half_port config a g == port) refl (all_are past).1,
  )
  all_are (Opened a g false ∷ past) = all_are past
  all_are (Drew ok ∷ past) = all_are past
  all_are (Replied ok ∷ past) = all_are past
  all_are (Sent a g ok ∷ past) = (
    sent_case_of a g ok past (family_eq (pair_family config a) (pair_family config pair)) (half_port config a g == port) refl refl (all_are past).0,
    sent_waits a g ok past (all_are past).1,
  )

  -- the next send by the end fails where one of them is the next
  pub sends_fail : (past : List Happening) → any_next_at at (sends_to_fail config past) ≡ send_fails config past pair half
  sends_fail past =
      any_same (is_next_at at) (is_made at 1) (λ f. next_made at f.port f.number f.stage) (sends_to_fail config past) ∙ (all_are past).0 0
