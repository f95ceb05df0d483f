-- How often each half of each pair was visited.
use Rattle.std.proofs.Common.{◌≡◌, refl, sym, ◌∙◌, ap, subst, ℕ, ◌+◌, ◌*◌, ◌/◌, ◌%◌, ◌<◌, ◌≤◌, ◌⊎◌, inl, inr, ◌==◌, ◌&&◌, nat_lt, Bool, true, false, cond, List, [], ◌∷◌, ◌++◌, Option, filter, length, length-append, append_assoc, append-nil, arith}
use Rattle.std.proofs.Math.Nat.{mul-le-mul_left, div-add-mod, mod-eq_of_lt}
use Rattle.std.proofs.lemmas.Bool.{cases_lt, cases_order}
use Rattle.std.proofs.lemmas.Bool.Decides.{nat_tests}
use Rattle.relay_outside.specs.declared.settings.Config.{Config}
use Rattle.rtp_packet.specs.declared.head.Half.{Half}
use Rattle.rtp_packet.specs.declared.head.Half.TheVariants.{Rtp, Rtcp}
use Rattle.turn_table.specs.Hands.{entries}
use Rattle.port_pool.specs.Ports.{pair_count}
use Rattle.srtp_sources.specs.Notes.{is_half}
use Rattle.relay_core.proofs.Turns.{filter_append, nothing_more}
use Rattle.media_lane.specs.declared.answers.Totals.{Totals}
use Rattle.media_lane.specs.declared.lane.LaneHand.{LaneHand}
use Rattle.media_lane.specs.Lanes.{hand_in, lane_list, config_in, index_in, lanes_in, IsSameHandOf}
use Rattle.media_lane.specs.Receipts.{KeepsList}
use Rattle.media_lane.specs.Visits.{Row, Visit, rows_of, all_rows, ArePassed, is_of, visit_times, is_own, one_where, AreTotals}
use Rattle.media_lane.specs.Gates.{GainsGated}
use Rattle.media_lane.specs.Progress.{Covers}
use Rattle.media_lane.specs.Sweeps.{VisitsOnce, Sweeps}
use Rattle.media_lane.proofs.Gates.{gains_none, gains_both}
use Rattle.media_lane.proofs.Visiting.{keeps_more}

-- Numbers that are the same modulo another.

quotients : (lanes a b : ℕ) → a + 1 ≤ b → lanes * a + lanes ≤ lanes * b
quotients lanes a b h = let m = mul-le-mul_left lanes h in let e : lanes * (a + 1) ≡ lanes * a + lanes = omega arith in omega (arith, m, e)

apart : (lanes m n : ℕ) → m % lanes ≡ n % lanes → m < n → n < m + lanes → ⊥
apart lanes m n same above below =
    let p = div-add-mod m lanes in
    let q = div-add-mod n lanes in
    elim (cases_lt (m / lanes) (n / lanes)) [
      | inl h ↦ (let k = quotients lanes (m / lanes) (n / lanes) (omega (arith, h)) in omega (arith, k, p, q, same, below))
      | inr h ↦ (let k = mul-le-mul_left lanes h in omega (arith, k, p, q, same, above))
    ]

-- no own pair is below the first
pub none_before : (lanes index pair : ℕ) → index < lanes → pair % lanes ≡ index → pair < index → ⊥
none_before lanes index pair below own before = let k : pair < lanes → pair % lanes ≡ pair = λ h. mod-eq_of_lt h in omega (arith, k, below, own, before)

-- Tests.

is_below : (a b : ℕ) → a < b → nat_lt a b ≡ true
is_below a b h = grind (arith, nat_tests)

not_below : (a b : ℕ) → b ≤ a → nat_lt a b ≡ false
not_below a b h = grind (arith, nat_tests)

is_same : (a b : ℕ) → a ≡ b → (a == b) ≡ true
is_same a b h = grind (arith, nat_tests)

not_same : (a b : ℕ) → (a < b) ⊎ (b < a) → (a == b) ≡ false
not_same a b (inl h) = grind (arith, nat_tests)
not_same a b (inr h) = grind (arith, nat_tests)

-- the pair that is visited now is one below the next
at_pair : (x y z own : Bool) → x ≡ false → y ≡ true → z ≡ true → own ≡ true → one_where (x && own) + one_where y ≡ one_where (z && own)
at_pair false true true true p q r s = refl
at_pair false true true false p q r s = absurd (cc)
at_pair false true false own p q r s = absurd (cc)
at_pair false false z own p q r s = absurd (cc)
at_pair true y z own p q r s = absurd (cc)

-- one below it stays so
before_pair : (x y z own : Bool) → x ≡ true → y ≡ false → z ≡ true → one_where (x && own) + one_where y ≡ one_where (z && own)
before_pair true false true own p q r = omega arith
before_pair true false false own p q r = absurd (cc)
before_pair true true z own p q r = absurd (cc)
before_pair false y z own p q r = absurd (cc)

-- and no other is one
after_pair : (x y z own : Bool) → x ≡ false → y ≡ false → (z && own) ≡ false → one_where (x && own) + one_where y ≡ one_where (z && own)
after_pair false false z own p q r = ap (λ (b : Bool). one_where b) (sym r)
after_pair false true z own p q r = absurd (cc)
after_pair true y z own p q r = absurd (cc)

own_by : (pair count lanes index : ℕ) → pair < count → pair % lanes ≡ index → (nat_lt pair count && (pair % lanes == index)) ≡ true
own_by pair count lanes index below own = grind (arith, nat_tests)

none_of : (b own : Bool) → (own ≡ true → b ≡ false) → (b && own) ≡ false
none_of true true h = absurd (let k = h refl in cc)
none_of true false h = refl
none_of false own h = refl

own_rest : (pair count lanes index : ℕ) → (nat_lt pair count && (pair % lanes == index)) ≡ true → pair % lanes ≡ index
own_rest pair count lanes index q = grind (arith, nat_tests)

own_below : (pair count lanes index : ℕ) → (nat_lt pair count && (pair % lanes == index)) ≡ true → pair < count
own_below pair count lanes index q = grind (arith, nat_tests)

either : (b own : Bool) → (own ≡ true → b ≡ true) → (b && own) ≡ own
either true own h = refl
either false true h = absurd (let k = h refl in cc)
either false false h = refl

one_half : (b : Bool) (half : Half) → one_where (b && is_half Rtp half) + one_where (b && is_half Rtcp half) ≡ one_where b
one_half true Rtp = refl
one_half true Rtcp = refl
one_half false Rtp = refl
one_half false Rtcp = refl

-- the own pairs below the next one are those below this one, and this one
module _ (count lanes index : ℕ) (upto : ℕ) (below : upto < count) (own : upto % lanes ≡ index) (some : 0 < lanes) where
  next_below : (pair : ℕ)
      → one_where (nat_lt pair upto && (nat_lt pair count && (pair % lanes == index))) + one_where (upto == pair) ≡ one_where (nat_lt pair (upto + lanes) && (nat_lt pair count && (pair % lanes == index)))
  next_below pair =
      elim (cases_order pair upto) [
        | inl h ↦
            at_pair (nat_lt pair upto) (upto == pair) (nat_lt pair (upto + lanes)) (nat_lt pair count && (pair % lanes == index)) (not_below pair upto (omega (arith, h)))
            (is_same upto pair (sym h)) (is_below pair (upto + lanes) (omega (arith, h, some)))
            (own_by pair count lanes index (omega (arith, h, below)) (ap (λ (n : ℕ). n % lanes) h ∙ own))
        | inr (inl h) ↦
            before_pair (nat_lt pair upto) (upto == pair) (nat_lt pair (upto + lanes)) (nat_lt pair count && (pair % lanes == index)) (is_below pair upto h)
            (not_same upto pair (inr h)) (is_below pair (upto + lanes) (omega (arith, h)))
        | inr (inr h) ↦
            after_pair (nat_lt pair upto) (upto == pair) (nat_lt pair (upto + lanes)) (nat_lt pair count && (pair % lanes == index)) (not_below pair upto (omega (arith, h)))
            (not_same upto pair (inl h)) (none_of (nat_lt pair (upto + lanes)) (nat_lt pair count && (pair % lanes == index)) (λ q. too_far pair h (own_rest pair count lanes index q)))
      ]
    where
      too_far : (pair : ℕ) → upto < pair → pair % lanes ≡ index → nat_lt pair (upto + lanes) ≡ false
      too_far pair h mine =
          elim (cases_lt pair (upto + lanes)) [
            | inl low ↦ absurd (apart lanes upto pair (own ∙ sym mine) h low)
            | inr high ↦ not_below pair (upto + lanes) high
          ]

-- no own pair is below the first
none_below : (count lanes index pair : ℕ) → index < lanes → one_where (nat_lt pair index && (nat_lt pair count && (pair % lanes == index))) ≡ 0
none_below count lanes index pair one_of =
    ap (λ (b : Bool). one_where b) (none_of (nat_lt pair index) (nat_lt pair count && (pair % lanes == index)) (λ q. not_first (own_rest pair count lanes index q)))
  where
    not_first : pair % lanes ≡ index → nat_lt pair index ≡ false
    not_first mine =
        elim (cases_lt pair index) [
          | inl low ↦ absurd (none_before lanes index pair one_of mine low)
          | inr high ↦ not_below pair index high
        ]

-- and all are below the end
all_below : (count lanes index upto pair : ℕ) → count ≤ upto → one_where (nat_lt pair upto && (nat_lt pair count && (pair % lanes == index))) ≡ one_where (nat_lt pair count && (pair % lanes == index))
all_below count lanes index upto pair end =
    ap (λ (b : Bool). one_where b) (either (nat_lt pair upto) (nat_lt pair count && (pair % lanes == index))
    (λ q. (let low = own_below pair count lanes index q in is_below pair upto (omega (arith, low, end)))))

-- Lists of visits.

one_long : (b : Bool) (v : Visit) → length (cond b (v ∷ []) []) ≡ one_where b
one_long true v = refl
one_long false v = refl

times_one : (pair : ℕ) (half : Half) (v : Visit) (own : ℕ) (at : Half) → v.pair ≡ own → v.half ≡ at → visit_times pair half (v ∷ []) ≡ one_where ((own == pair) && is_half at half)
times_one pair half v own at p h =
    one_long (is_of pair half v) v
    ∙ ap (λ (n : ℕ). one_where ((n == pair) && is_half v.half half)) p ∙ ap (λ (x : Half). one_where ((own == pair) && is_half x half)) h

times_append : (pair : ℕ) (half : Half) (vs ws : List Visit) → visit_times pair half (vs ++ ws) ≡ visit_times pair half vs + visit_times pair half ws
times_append pair half vs ws =
    ap (λ (xs : List Visit). length xs) (filter_append (is_of pair half) vs ws) ∙ length-append (filter (is_of pair half) vs) (filter (is_of pair half) ws)

rows_append : (config : Config) (vs ws : List Visit) → all_rows config (vs ++ ws) ≡ all_rows config vs ++ all_rows config ws
rows_append config [] ws = refl
rows_append config (v ∷ vs) ws =
    ap (λ (rows : List Row). rows_of config v ++ rows) (rows_append config vs ws) ∙ sym (append_assoc (rows_of config v) (all_rows config vs) (all_rows config ws))

passed_append : (range : Option (ℕ × ℕ)) (vs ws : List Visit) → ArePassed range vs → ArePassed range ws → ArePassed range (vs ++ ws)
passed_append range [] ws a b = b
passed_append range (v ∷ vs) ws a b = (a.0, passed_append range vs ws a.1 b)

-- How far a sweep has come.

module _ {I O : Type 0} {gi : _} {go : _} {gm : _} where
  pub same_both : (a b c : LaneHand I O gi go gm) → IsSameHandOf a b → IsSameHandOf b c → IsSameHandOf a c
  same_both a b c p q = record {
    hand = (q.hand.0 ∙ p.hand.0, q.hand.1 ∙ p.hand.1, q.hand.2 ∙ p.hand.2, q.hand.3 ∙ p.hand.3);
    config_is = q.config_is ∙ p.config_is;
    index_is = q.index_is ∙ p.index_is;
    lanes_is = q.lanes_is ∙ p.lanes_is;
  }

  -- nothing was done: no own pair is below the first
  pub covers_nothing : (range : Option (ℕ × ℕ)) (gate : ℕ → Type 0) (lane : LaneHand I O gi go gm) (totals : Totals) → Covers range gate (index_in lane) lane lane totals totals
  covers_nothing range gate lane totals = record {
    same = record { hand = (refl, refl, refl, refl); config_is = refl; index_is = refl; lanes_is = refl };
    keeps = record { numbered = λ n. n; orderly = λ o. o; receiving = λ own r. r };
    visits = [];
    list_is = sym (append-nil (entries (hand_in lane)));
    passed = tt;
    gated = gains_none gate (lane_list lane);
    own_once = λ pair half. sym (none_below (pair_count (config_in lane)) (lanes_in lane) (index_in lane) pair lane.one_of);
    counted = λ earlier t. subst (λ (vs : List Visit). AreTotals vs totals) (sym (append-nil earlier)) t;
  }

  -- Both halves of the next own pair were visited as well.
  module _ (range : Option (ℕ × ℕ)) (gate : ℕ → Type 0) (upto : ℕ) (a b c d : LaneHand I O gi go gm) (x y z w : Totals) (so_far : Covers range gate upto a b x y)
      (same1 : IsSameHandOf b c) (keeps1 : KeepsList (config_in b) (lane_list b) (lane_list c)) (gated1 : GainsGated gate (lane_list b) (lane_list c))
      (one : VisitsOnce (config_in b) range upto Rtp (hand_in b) (hand_in c) y z)
      (same2 : IsSameHandOf c d) (keeps2 : KeepsList (config_in c) (lane_list c) (lane_list d)) (gated2 : GainsGated gate (lane_list c) (lane_list d))
      (two : VisitsOnce (config_in c) range upto Rtcp (hand_in c) (hand_in d) z w)
      (below : upto < pair_count (config_in a)) (own : upto % lanes_in a ≡ index_in a) (some : 0 < lanes_in a) where
    vs : List Visit
    vs = so_far.visits ++ one.visit ∷ two.visit ∷ []

    same_b : IsSameHandOf a c
    same_b = same_both a b c so_far.same same1

    config_c : config_in c ≡ config_in a
    config_c = same_b.config_is

    rows_b : entries (hand_in c) ≡ entries (hand_in b) ++ rows_of (config_in a) one.visit
    rows_b = one.list_is ∙ ap (λ (config : Config). entries (hand_in b) ++ rows_of config one.visit) so_far.same.config_is

    rows_c : entries (hand_in d) ≡ entries (hand_in c) ++ rows_of (config_in a) two.visit
    rows_c = two.list_is ∙ ap (λ (config : Config). entries (hand_in c) ++ rows_of config two.visit) config_c

    both_rows : all_rows (config_in a) (one.visit ∷ two.visit ∷ []) ≡ rows_of (config_in a) one.visit ++ rows_of (config_in a) two.visit
    both_rows = ap (λ (rows : List Row). rows_of (config_in a) one.visit ++ rows) (nothing_more (rows_of (config_in a) two.visit))

    times_both : (pair : ℕ) (half : Half) → visit_times pair half (one.visit ∷ two.visit ∷ []) ≡ one_where (upto == pair)
    times_both pair half =
        times_append pair half (one.visit ∷ []) (two.visit ∷ [])
        ∙ ap (λ (n : ℕ). n + visit_times pair half (two.visit ∷ [])) (times_one pair half one.visit upto Rtp one.pair_is one.half_is)
        ∙ ap (λ (n : ℕ). one_where ((upto == pair) && is_half Rtp half) + n) (times_one pair half two.visit upto Rtcp two.pair_is two.half_is)
        ∙ one_half (upto == pair) half

    pub covers_next : Covers range gate (upto + lanes_in a) a d x w
    unfolding vs
    covers_next = record {
      same = same_both a c d same_b same2;
      keeps = keeps_more (config_in a) (config_in c) (rows_of (config_in a) two.visit) (hand_in a) (hand_in c) (hand_in d) rows_c config_c
          (keeps_more (config_in a) (config_in b) (rows_of (config_in a) one.visit) (hand_in a) (hand_in b) (hand_in c) rows_b so_far.same.config_is so_far.keeps keeps1) keeps2;
      visits = vs;
      list_is = rows_c
          ∙ ap (λ (rows : List Row). rows ++ rows_of (config_in a) two.visit) (rows_b ∙ ap (λ (rows : List Row). rows ++ rows_of (config_in a) one.visit) so_far.list_is)
          ∙ append_assoc (entries (hand_in a) ++ all_rows (config_in a) so_far.visits) (rows_of (config_in a) one.visit) (rows_of (config_in a) two.visit)
          ∙ append_assoc (entries (hand_in a)) (all_rows (config_in a) so_far.visits) (rows_of (config_in a) one.visit ++ rows_of (config_in a) two.visit)
          ∙ ap (λ (rows : List Row). entries (hand_in a) ++ (all_rows (config_in a) so_far.visits ++ rows)) (sym both_rows)
          ∙ ap (λ (rows : List Row). entries (hand_in a) ++ rows) (sym (rows_append (config_in a) so_far.visits (one.visit ∷ two.visit ∷ [])));
      passed = passed_append range so_far.visits (one.visit ∷ two.visit ∷ []) so_far.passed (one.passed, (two.passed, tt));
      gated = gains_both gate (lane_list a) (lane_list c) (lane_list d) (gains_both gate (lane_list a) (lane_list b) (lane_list c) so_far.gated gated1) gated2;
      own_once = λ pair half.
          times_append pair half so_far.visits (one.visit ∷ two.visit ∷ [])
          ∙ ap (λ (n : ℕ). n + visit_times pair half (one.visit ∷ two.visit ∷ [])) (so_far.own_once pair half)
          ∙ ap (λ (n : ℕ). one_where (nat_lt pair upto && is_own (config_in a) (index_in a) (lanes_in a) pair) + n) (times_both pair half)
          ∙ next_below (pair_count (config_in a)) (lanes_in a) (index_in a) upto below own some pair;
      counted = λ earlier t.
          subst (λ (us : List Visit). AreTotals us w) (append_assoc (earlier ++ so_far.visits) (one.visit ∷ []) (two.visit ∷ []) ∙ append_assoc earlier so_far.visits (one.visit ∷ two.visit ∷ []))
          (two.counted ((earlier ++ so_far.visits) ++ one.visit ∷ []) (one.counted (earlier ++ so_far.visits) (so_far.counted earlier t)));
    }

  -- all own halves were visited
  pub covers_all : (range : Option (ℕ × ℕ)) (gate : ℕ → Type 0) (upto : ℕ) (old new : LaneHand I O gi go gm) (before after : Totals) → Covers range gate upto old new before after
      → pair_count (config_in old) ≤ upto → AreTotals [] before → Sweeps (config_in old) (index_in old) (lanes_in old) range (hand_in old) (hand_in new) after
  covers_all range gate upto old new before after c end nothing = record {
    visits = c.visits;
    list_is = c.list_is;
    passed = c.passed;
    own_once = λ pair half. c.own_once pair half ∙ all_below (pair_count (config_in old)) (lanes_in old) (index_in old) upto pair end;
    totals_are = c.counted [] nothing;
  }
