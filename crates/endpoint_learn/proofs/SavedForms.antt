-- What saved addresses and learners are made of, read again.
use Rattle.std.proofs.Common.{◌≡◌, ℕ, ◌+◌, ◌<◌, ◌^◌, Bool, true, false, cond, List, [], ◌∷◌, ◌++◌, length, map, get_or, take, drop, replicate, Option, Some, None, refl, sym, ap, subst, ◌∙◌, arith}
use Rattle.std.specs.Prelude.{IfSome, ◌==◌}
use Rattle.std.specs.Int.{w16, from_be_bytes}
use Rattle.std.specs.List.{range_with_len}
use Rattle.std.proofs.lemmas.Bool.Decides.{nat_tests}
use Rattle.std.proofs.lemmas.Nat.{from_be_bytes-to_be_bytes_2}
use Rattle.std.proofs.lemmas.List.{ext_get_or, take_at, take_all, drop_at, drop-drop, get_or-drop}
use Rattle.std.proofs.lemmas.List.FromFn.{length-map-range_with_len, get_or-map-range_with_len}
use Rattle.relay_outside.specs.declared.address.Addr.{Addr}
use Rattle.relay_outside.specs.declared.address.Ip.{Ip}
use Rattle.relay_outside.specs.declared.address.Ip.TheVariants as ip
use Rattle.endpoint_learn.specs.declared.learner.Learner.{Learner}
use Rattle.endpoint_learn.specs.SavedLearners.{FitsIp, FitsAddr, FitsLearner, saved_addr, saved_source, saved_flag, saved_learner}

-- ---- addresses

abbrev pub four : List ℕ → ℕ → List ℕ
four b k = get_or b k 0 ∷ get_or b (k + 1) 0 ∷ get_or b (k + 2) 0 ∷ get_or b (k + 3) 0 ∷ []

abbrev pub sixteen : List ℕ → ℕ → List ℕ
sixteen b k = four b k ++ (four b (k + 4) ++ (four b (k + 8) ++ four b (k + 12)))

-- the address in these bytes
abbrev pub ip_in : List ℕ → Ip
ip_in b = cond (get_or b 0 0 == 6) (ip.V6 (sixteen b 1)) (ip.V4 (four b 1))

abbrev pub addr_in : List ℕ → Addr
addr_in b = record { ip = ip_in b; port = from_be_bytes w16 (get_or b 17 0 ∷ get_or b 18 0 ∷ []) }

whole_4 : (s : List ℕ) → length s ≡ 4 → four s 0 ≡ s
whole_4 s long =
    let size : length (map (λ k. get_or s k 0) (range_with_len 0 4)) ≡ 4 = length-map-range_with_len (λ (k : ℕ). get_or s k 0) 0 4 in
    ext_get_or 0 _ _ (size ∙ sym long) (λ i h. get_or-map-range_with_len (λ (k : ℕ). get_or s k 0) 0 4 i i 0 (omega (arith, size)) (omega arith))

whole_16 : (s : List ℕ) → length s ≡ 16 → sixteen s 0 ≡ s
whole_16 s long =
    let size : length (map (λ k. get_or s k 0) (range_with_len 0 16)) ≡ 16 = length-map-range_with_len (λ (k : ℕ). get_or s k 0) 0 16 in
    ext_get_or 0 _ _ (size ∙ sym long) (λ i h. get_or-map-range_with_len (λ (k : ℕ). get_or s k 0) 0 16 i i 0 (omega (arith, size)) (omega arith))

abbrev made : Ip → ℕ → Addr
made a p = record { ip = a; port = p }

again_4 : (s : List ℕ) (p : ℕ) → p < 2 ^ 16 → addr_in (saved_addr (made (ip.V4 (four s 0)) p)) ≡ made (ip.V4 (four s 0)) p
again_4 s p within = ap (λ (n : ℕ). made (ip.V4 (four s 0)) n) (from_be_bytes-to_be_bytes_2 p within)

again_16 : (s : List ℕ) (p : ℕ) → p < 2 ^ 16 → addr_in (saved_addr (made (ip.V6 (sixteen s 0)) p)) ≡ made (ip.V6 (sixteen s 0)) p
again_16 s p within = ap (λ (n : ℕ). made (ip.V6 (sixteen s 0)) n) (from_be_bytes-to_be_bytes_2 p within)

pub addr_again : (addr : Addr) → FitsAddr addr → addr_in (saved_addr addr) ≡ addr
addr_again addr fits = by_ip addr.ip fits.ip
  where
    by_ip : (a : Ip) → FitsIp a → addr_in (saved_addr (made a addr.port)) ≡ made a addr.port
    by_ip (ip.V4 a) long = subst (λ (s : List ℕ). addr_in (saved_addr (made (ip.V4 s) addr.port)) ≡ made (ip.V4 s) addr.port) (whole_4 a long) (again_4 a addr.port fits.port)
    by_ip (ip.V6 a) long = subst (λ (s : List ℕ). addr_in (saved_addr (made (ip.V6 s) addr.port)) ≡ made (ip.V6 s) addr.port) (whole_16 a long) (again_16 a addr.port fits.port)

pub addr_long : (addr : Addr) → FitsAddr addr → length (saved_addr addr) ≡ 19
addr_long addr fits = by_ip addr.ip fits.ip
  where
    by_ip : (a : Ip) → FitsIp a → length (saved_addr (made a addr.port)) ≡ 19
    by_ip (ip.V4 a) long = subst (λ (s : List ℕ). length (saved_addr (made (ip.V4 s) addr.port)) ≡ 19) (whole_4 a long) refl
    by_ip (ip.V6 a) long = subst (λ (s : List ℕ). length (saved_addr (made (ip.V6 s) addr.port)) ≡ 19) (whole_16 a long) refl

-- ---- a source

abbrev pub source_in : List ℕ → Option Addr
source_in b = cond (get_or b 0 0 == 0) None (Some (addr_in b))

source_again : (source : Option Addr) → IfSome source FitsAddr → source_in (saved_source source) ≡ source
source_again None fits = refl
source_again (Some addr) fits = by_ip addr.ip (addr_again addr fits)
  where
    by_ip : (a : Ip) → addr_in (saved_addr (made a addr.port)) ≡ made a addr.port → source_in (saved_addr (made a addr.port)) ≡ Some (made a addr.port)
    by_ip (ip.V4 a) is = ap (λ (x : Addr). Some x) is
    by_ip (ip.V6 a) is = ap (λ (x : Addr). Some x) is

source_long : (source : Option Addr) → IfSome source FitsAddr → length (saved_source source) ≡ 19
source_long None fits = refl
source_long (Some addr) fits = addr_long addr fits

-- ---- a learner

abbrev pub flag_in : ℕ → Bool
flag_in n = n == 1

pub flag_again : (b : Bool) → flag_in (saved_flag b) ≡ b
flag_again true = refl
flag_again false = refl

abbrev pub learner_in : List ℕ → Learner
learner_in b = record {
  signalled = addr_in (take 19 (drop 0 b));
  flags = record { strict = flag_in (get_or b 19 0); handover = flag_in (get_or b 20 0); asymmetric = flag_in (get_or b 21 0) };
  learned = source_in (take 19 (drop 22 b));
}

-- the parts of a learner's bytes
abbrev flags_of : Learner → List ℕ
flags_of learner = saved_flag learner.flags.strict ∷ saved_flag learner.flags.handover ∷ saved_flag learner.flags.asymmetric ∷ []

pub signalled_part : (learner : Learner) → FitsLearner learner → take 19 (drop 0 (saved_learner learner)) ≡ saved_addr learner.signalled
unfolding saved_learner
signalled_part learner fits =
    take_at (saved_addr learner.signalled) (flags_of learner ++ saved_source learner.learned) 19 (addr_long learner.signalled fits.signalled)

pub flag_part : (learner : Learner) (k : ℕ) → FitsLearner learner
    → get_or (saved_learner learner) (19 + k) 0 ≡ get_or (flags_of learner ++ saved_source learner.learned) k 0
unfolding saved_learner
flag_part learner k fits =
    let s = saved_addr learner.signalled in
    let r = flags_of learner ++ saved_source learner.learned in
    sym (get_or-drop 19 (s ++ r) k 0) ∙ ap (λ (t : List ℕ). get_or t k 0) (drop_at s r 19 (addr_long learner.signalled fits.signalled))

pub source_part : (learner : Learner) → FitsLearner learner → take 19 (drop 22 (saved_learner learner)) ≡ saved_source learner.learned
unfolding saved_learner
source_part learner fits =
    let s = saved_addr learner.signalled in
    let r = saved_source learner.learned in
    let behind : drop 22 (s ++ (flags_of learner ++ r)) ≡ r =
    sym (drop-drop 3 19 (s ++ (flags_of learner ++ r))) ∙ ap (λ (t : List ℕ). drop 3 t) (drop_at s (flags_of learner ++ r) 19 (addr_long learner.signalled fits.signalled)) in
    ap (λ (t : List ℕ). take 19 t) behind ∙ take_all 19 r (omega (arith, source_long learner.learned fits.learned))

pub learner_again : (learner : Learner) → FitsLearner learner → learner_in (saved_learner learner) ≡ learner
learner_again learner fits =
    let f = learner.flags in
    let signalled = ap addr_in (signalled_part learner fits) ∙ addr_again learner.signalled fits.signalled in
    let strict = ap flag_in (flag_part learner 0 fits) ∙ flag_again f.strict in
    let handover = ap flag_in (flag_part learner 1 fits) ∙ flag_again f.handover in
    let asymmetric = ap flag_in (flag_part learner 2 fits) ∙ flag_again f.asymmetric in
    let learned = ap source_in (source_part learner fits) ∙ source_again learner.learned fits.learned in
    λ i. record {
      signalled = signalled i;
      flags = record { strict = strict i; handover = handover i; asymmetric = asymmetric i };
      learned = learned i;
    }

pub same_learner : (a b : Learner) → FitsLearner a → FitsLearner b → saved_learner a ≡ saved_learner b → a ≡ b
same_learner a b fits_a fits_b same = sym (learner_again a fits_a) ∙ ap learner_in same ∙ learner_again b fits_b

-- ---- what is written

abbrev pub nineteen : List ℕ → List ℕ
nineteen s = sixteen s 0 ++ (get_or s 16 0 ∷ get_or s 17 0 ∷ get_or s 18 0 ∷ [])

whole_19 : (s : List ℕ) → length s ≡ 19 → nineteen s ≡ s
whole_19 s long =
    let size : length (map (λ k. get_or s k 0) (range_with_len 0 19)) ≡ 19 = length-map-range_with_len (λ (k : ℕ). get_or s k 0) 0 19 in
    ext_get_or 0 _ _ (size ∙ sym long) (λ i h. get_or-map-range_with_len (λ (k : ℕ). get_or s k 0) 0 19 i i 0 (omega (arith, size)) (omega arith))

pub joined_whole : (s l : List ℕ) (a b c : ℕ) → length s ≡ 19 → length l ≡ 19 → nineteen s ++ (a ∷ b ∷ c ∷ nineteen l) ≡ s ++ (a ∷ b ∷ c ∷ l)
joined_whole s l a b c ls ll = λ i. whole_19 s ls i ++ (a ∷ b ∷ c ∷ whole_19 l ll i)

whole_2 : (p : List ℕ) → length p ≡ 2 → get_or p 0 0 ∷ get_or p 1 0 ∷ [] ≡ p
whole_2 p long =
    let size : length (map (λ k. get_or p k 0) (range_with_len 0 2)) ≡ 2 = length-map-range_with_len (λ (k : ℕ). get_or p k 0) 0 2 in
    ext_get_or 0 _ _ (size ∙ sym long) (λ i h. get_or-map-range_with_len (λ (k : ℕ). get_or p k 0) 0 2 i i 0 (omega (arith, size)) (omega arith))

pub v6_whole : (a p : List ℕ) → length a ≡ 16 → length p ≡ 2 → 6 ∷ (sixteen a 0 ++ (get_or p 0 0 ∷ get_or p 1 0 ∷ [])) ≡ 6 ∷ (a ++ p)
v6_whole a p la lp = λ i. 6 ∷ (whole_16 a la i ++ whole_2 p lp i)

pub none_written : (known : Option Addr) (s : List ℕ) → known ≡ None → s ≡ replicate 19 0 → IfSome known FitsAddr × (s ≡ saved_source known)
none_written known s is zeros = subst (λ (o : Option Addr). IfSome o FitsAddr × (s ≡ saved_source o)) (sym is) (tt, zeros)

pub some_written : (known : Option Addr) (s t : List ℕ) (source : Addr) → known ≡ Some source → s ≡ t → FitsAddr source × (t ≡ saved_addr source)
    → IfSome known FitsAddr × (s ≡ saved_source known)
some_written known s t source is same saved = subst (λ (o : Option Addr). IfSome o FitsAddr × (s ≡ saved_source o)) (sym is) (saved.0, same ∙ saved.1)

-- ---- what is read

as_addr : (b : List ℕ) (port : ℕ) (x : Ip) → ip_in b ≡ x → port ≡ from_be_bytes w16 (get_or b 17 0 ∷ get_or b 18 0 ∷ [])
    → (addr : Addr) → FitsAddr addr → saved_addr addr ≡ b → made x port ≡ addr
as_addr b port x is port_is addr fits same =
    (λ i. made (sym is i) (port_is i)) ∙ ap addr_in (sym same) ∙ addr_again addr fits

pub v6_read : (b : List ℕ) (port : ℕ) → get_or b 0 0 ≡ 6 → port ≡ from_be_bytes w16 (get_or b 17 0 ∷ get_or b 18 0 ∷ [])
    → (addr : Addr) → FitsAddr addr → saved_addr addr ≡ b → made (ip.V6 (sixteen b 1)) port ≡ addr
v6_read b port is = as_addr b port (ip.V6 (sixteen b 1)) (ap (λ (n : ℕ). cond (n == 6) (ip.V6 (sixteen b 1)) (ip.V4 (four b 1))) is)

pub v4_read : (b : List ℕ) (port : ℕ) → (get_or b 0 0 ≡ 6 → ⊥) → port ≡ from_be_bytes w16 (get_or b 17 0 ∷ get_or b 18 0 ∷ [])
    → (addr : Addr) → FitsAddr addr → saved_addr addr ≡ b → made (ip.V4 (four b 1)) port ≡ addr
v4_read b port apart = as_addr b port (ip.V4 (four b 1)) (ap (λ (t : Bool). cond t (ip.V6 (sixteen b 1)) (ip.V4 (four b 1))) (other (get_or b 0 0) apart))
  where
    other : (n : ℕ) → (n ≡ 6 → ⊥) → (n == 6) ≡ false
    other n apart = grind (arith, nat_tests)

pub none_read : (known : Option Addr) → get_or (saved_source known) 0 0 ≡ 0 → None ≡ known
none_read None zero_is = refl
none_read (Some addr) zero_is = by_ip addr.ip zero_is
  where
    by_ip : (a : Ip) → get_or (saved_addr (made a addr.port)) 0 0 ≡ 0 → None ≡ Some addr
    by_ip (ip.V4 a) is = absurd cc
    by_ip (ip.V6 a) is = absurd cc

pub some_read : (known : Option Addr) (read : Addr) → IfSome known FitsAddr → (get_or (saved_source known) 0 0 ≡ 0 → ⊥)
    → ((addr : Addr) → FitsAddr addr → saved_addr addr ≡ saved_source known → read ≡ addr) → Some read ≡ known
some_read None read fits apart does = absurd (apart refl)
some_read (Some addr) read fits apart does = ap (λ (x : Addr). Some x) (does addr fits refl)
