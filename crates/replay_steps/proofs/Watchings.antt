-- Several calls of the devices, each noted after the ones before it.
use Rattle.std.proofs.Common.{◌≡◌, refl, sym, subst, ℕ, Bool, true, false, not, List, [], ◌∷◌, ◌++◌, ◌⊎◌, inl, inr, Option, Some, None, is_some}
use Rattle.std.proofs.Math.Bool.{beq}
use Rattle.relay_outside.specs.declared.address.Ip.{Ip}
use Rattle.replay_steps.specs.Arrivals.{End, IsEndAt, HasEnd}
use Rattle.relay_outside.specs.declared.keys.KeyCall.{KeyCall}
use Rattle.relay_outside.specs.declared.keys.KeyCall.TheVariants as key
use Rattle.relay_outside.specs.declared.ports.PortCall.{PortCall}
use Rattle.relay_outside.specs.declared.ports.PortCall.TheVariants.{Open, Close}
use Rattle.relay_outside.specs.declared.settings.Config.{Config}
use Rattle.replay_devices.specs.Devices.{Happening}
use Rattle.replay_devices.specs.Watch.{WatchState, WatchStandsFor}
use Rattle.replay_steps.specs.declared.ended.Untold.{Untold}
use Rattle.replay_steps.specs.declared.step.Stepped.{Stepped}
use Rattle.replay_steps.specs.declared.step.Stepped.TheVariants as stepped
use Rattle.relay_script.specs.Steps.{Step}
use Rattle.replay_steps.specs.Steps.{Course, OpensAsked, DrawsAsked, OfStep}
use Rattle.replay_steps.specs.WatchNotes.{Watches, StepsSo}

opens_more : (config : Config) (xs : List PortCall) (x : PortCall) (a b c : List Happening) → OpensAsked config xs a b → OpensAsked config (x ∷ []) b c → OpensAsked config (xs ++ x ∷ []) a c
opens_more config [] x a b c same last = subst (λ (k : List Happening). OpensAsked config (x ∷ []) k c) same last
opens_more config (Open at done ∷ xs) x a b c (e, is, so, rest) last = (e, is, so, opens_more config xs x _ b c rest last)
opens_more config (Close at taken sent ∷ xs) x a b c rest last = opens_more config xs x a b c rest last

draws_more : (seed : ℕ) (xs : List KeyCall) (x : KeyCall) (a b c : List Happening) → DrawsAsked seed xs a b → DrawsAsked seed (x ∷ []) b c → DrawsAsked seed (xs ++ x ∷ []) a c
draws_more seed [] x a b c same last = subst (λ (k : List Happening). DrawsAsked seed (x ∷ []) k c) same last
draws_more seed (key.Drawn bytes ∷ xs) x a b c (so, due, rest) last = (so, due, draws_more seed xs x _ b c rest last)
draws_more seed (key.Failed ∷ xs) x a b c (so, rest) last = (so, draws_more seed xs x _ b c rest last)

pub openings_watched : (config : Config) (seed : ℕ) (xs : List PortCall) (x : PortCall) (first second third : WatchState) → Watches config seed first second (OpensAsked config xs)
    → Watches config seed second third (OpensAsked config (x ∷ [])) → Watches config seed first third (OpensAsked config (xs ++ x ∷ []))
openings_watched config seed xs x first second third before last past s =
    let b = before past s in let l = last b.0 b.2 in (l.0, opens_more config xs x past b.0 l.0 b.1 l.1, l.2)

pub draws_watched : (config : Config) (seed : ℕ) (xs : List KeyCall) (x : KeyCall) (first second third : WatchState) → Watches config seed first second (DrawsAsked seed xs)
    → Watches config seed second third (DrawsAsked seed (x ∷ [])) → Watches config seed first third (DrawsAsked seed (xs ++ x ∷ []))
draws_watched config seed xs x first second third before last past s =
    let b = before past s in let l = last b.0 b.2 in (l.0, draws_more seed xs x past b.0 l.0 b.1 l.1, l.2)

-- a step of which it is told what it did
pub stepped_so : (config : Config) (seed : ℕ) (did : Stepped) (old new : WatchState) (P : List Happening → List Happening → Type 0) → StepsSo config seed did old new P → (past : List Happening) → WatchStandsFor config seed past old
    → ((why : Untold) × (did ≡ stepped.Untold why)) ⊎ ((now : List Happening) × P past now × WatchStandsFor config seed now new)
stepped_so config seed stepped.Quiet old new P so past s = inr (so past s)
stepped_so config seed (stepped.Prints e) old new P so past s = inr (so past s)
stepped_so config seed stepped.Faulty old new P so past s = inr (so past s)
stepped_so config seed (stepped.Untold why) old new P so past s = inl (why, refl)

-- what a step did, said in another way
pub steps_less : (config : Config) (seed : ℕ) (did : Stepped) (old new : WatchState) (P Q : List Happening → List Happening → Type 0) → ((past now : List Happening) → P past now → Q past now) → StepsSo config seed did old new P → StepsSo config seed did old new Q
steps_less config seed stepped.Quiet old new P Q less so = λ past s. let f = so past s in (f.0, less past f.0 f.1, f.2)
steps_less config seed (stepped.Prints e) old new P Q less so = λ past s. let f = so past s in (f.0, less past f.0 f.1, f.2)
steps_less config seed stepped.Faulty old new P Q less so = λ past s. let f = so past s in (f.0, less past f.0 f.1, f.2)
steps_less config seed (stepped.Untold why) old new P Q less so = tt

-- a step that notes nothing
pub steps_unwatched : (config : Config) (seed : ℕ) (did : Stepped) (w : WatchState) (P : List Happening → List Happening → Type 0) → ((past : List Happening) → WatchStandsFor config seed past w → P past past) → StepsSo config seed did w w P
steps_unwatched config seed stepped.Quiet w P here = λ past s. (past, here past s, s)
steps_unwatched config seed (stepped.Prints e) w P here = λ past s. (past, here past s, s)
steps_unwatched config seed stepped.Faulty w P here = λ past s. (past, here past s, s)
steps_unwatched config seed (stepped.Untold why) w P here = tt

pub false_is : (b : Bool) → not b ≡ true → b ≡ false
false_is true is = absurd (let k : false ≡ true = is in cc)
false_is false is = refl

-- two results that differ
pub differ : (a b : Bool) → beq a b ≡ false → a ≡ not b
differ true true is = absurd (let k : true ≡ false = is in cc)
differ true false is = refl
differ false true is = refl
differ false false is = absurd (let k : true ≡ false = is in cc)

-- the end that was found
pub found_end : (config : Config) (port : ℕ) (ip : Ip) (o : Option End) → HasEnd config port ip o → is_some o ≡ true → (e : End) × IsEndAt config port ip e
found_end config port ip None has is = absurd (let k : false ≡ true = is in cc)
found_end config port ip (Some e) has is = (e, has)

module _ (config : Config) (seed : ℕ) (r : List Happening → Course) (s : Step) (did : Stepped) (new : List Happening → Course) (old now : WatchState)
    (so : StepsSo config seed did old now (λ past past_now. OfStep config seed (r past) s did (new past_now))) (past : List Happening) (stands : WatchStandsFor config seed past old) where
  -- what a step did, whether or not that is told
  pub some_step : (past_now : List Happening) × OfStep config seed (r past) s did (new past_now)
  some_step = elim (stepped_so config seed did old now (λ past past_now. OfStep config seed (r past) s did (new past_now)) so past stands) [
    | inl untold ↦ (past, subst (λ (d : Stepped). OfStep config seed (r past) s d (new past)) (sym untold.1) tt)
    | inr found ↦ (found.0, found.1)
  ]

  -- what one did of which that is told
  pub one_step : ((why : Untold) → did ≡ stepped.Untold why → ⊥) → (past_now : List Happening) × OfStep config seed (r past) s did (new past_now) × WatchStandsFor config seed past_now now
  one_step fed = elim (stepped_so config seed did old now (λ past past_now. OfStep config seed (r past) s did (new past_now)) so past stands) [
    | inl untold ↦ absurd (fed untold.0 untold.1)
    | inr found ↦ found
  ]
