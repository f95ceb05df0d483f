-- What a call of a load's control link adds to what the link tells.
use Rattle.std.proofs.Common.{arith, suc, ◌∙◌, ◌≡◌, ap, sym, subst, refl, ◌+◌, Bool, true, false, ◌&&◌, Some, None, Option, List, [], ◌∷◌, ◌++◌, ℕ}
use Rattle.std.specs.List.{list_all}
use Rattle.std.proofs.lemmas.List.{append-nil}
use Rattle.std.proofs.lemmas.List.Elements.{filter_map-append}
use Rattle.std.proofs.lemmas.List.Folds.{list_all-append}
use Rattle.relay_outside.specs.declared.address.Addr.{Addr}
use Rattle.relay_outside.specs.declared.link.LinkCall.{LinkCall}
use Rattle.relay_outside.specs.Link.{datagrams, sends, datagram_of, send_of}
use Rattle.relay_outside.specs.DeviceLogs.{Gains, WhereLogged}
use Rattle.load_maker.specs.Datagrams.{controller, datagram_with, first_datagrams, is_success}
use Rattle.load_maker.specs.Links.{LogsLoad}

-- a link that was not called yet tells no datagram and no reply
pub tells_nothing : LogsLoad 0 true []
unfolding first_datagrams
tells_nothing = record { taken = refl; replied = refl }

-- one more datagram
next_taken : (given : ℕ) → first_datagrams given ++ (controller, datagram_with given) ∷ [] ≡ first_datagrams (given + 1)
unfolding first_datagrams
next_taken given = let next : suc given ≡ given + 1 = omega arith in ap (λ n. first_datagrams n) next

-- of a call that is added the list has its datagram, where it gave one
add_datagrams : (calls : List LinkCall) (call : LinkCall) → datagrams (calls ++ call ∷ []) ≡ datagrams calls ++ datagrams (call ∷ [])
add_datagrams calls call = filter_map-append datagram_of calls (call ∷ [])

add_sends : (calls : List LinkCall) (call : LinkCall) → sends (calls ++ call ∷ []) ≡ sends calls ++ sends (call ∷ [])
add_sends calls call = filter_map-append send_of calls (call ∷ [])

-- a call that neither gave a datagram nor sent one
tells_other : (given : ℕ) (well : Bool) (calls : List LinkCall) (call : LinkCall) → datagrams (call ∷ []) ≡ [] → sends (call ∷ []) ≡ [] → LogsLoad given well calls → LogsLoad given well (calls ++ call ∷ [])
tells_other given well calls call no_datagram no_send tells = record {
  taken = add_datagrams calls call ∙ ap (λ xs. datagrams calls ++ xs) no_datagram ∙ append-nil (datagrams calls) ∙ tells.taken;
  replied = ap (λ xs. list_all (λ reply. is_success reply.1) xs) (add_sends calls call ∙ ap (λ xs. sends calls ++ xs) no_send ∙ append-nil (sends calls)) ∙ tells.replied;
}

-- a take that gave the next datagram
tells_datagram : (given : ℕ) (well : Bool) (calls : List LinkCall) (call : LinkCall) → datagrams (call ∷ []) ≡ (controller, datagram_with given) ∷ [] → sends (call ∷ []) ≡ [] → LogsLoad given well calls → LogsLoad (given + 1) well (calls ++ call ∷ [])
tells_datagram given well calls call one no_send tells = record {
  taken = add_datagrams calls call ∙ ap (λ xs. datagrams calls ++ xs) one ∙ ap (λ xs. xs ++ (controller, datagram_with given) ∷ []) tells.taken ∙ next_taken given;
  replied = ap (λ xs. list_all (λ reply. is_success reply.1) xs) (add_sends calls call ∙ ap (λ xs. sends calls ++ xs) no_send ∙ append-nil (sends calls)) ∙ tells.replied;
}

and_true : (one : Bool) → (one && true) ≡ one
and_true true = refl
and_true false = refl

both_hold : (well one before : Bool) → before ≡ well → (before && (one && true)) ≡ (well && one)
both_hold well one true is = and_true one ∙ ap (λ b. b && one) is
both_hold well one false is = ap (λ b. b && one) is

-- a send
tells_send : (given : ℕ) (well : Bool) (calls : List LinkCall) (to : Addr) (reply : List ℕ) (call : LinkCall) → datagrams (call ∷ []) ≡ [] → sends (call ∷ []) ≡ (to, reply) ∷ [] → LogsLoad given well calls → LogsLoad given (well && is_success reply) (calls ++ call ∷ [])
tells_send given well calls to reply call no_datagram one tells = record {
  taken = add_datagrams calls call ∙ ap (λ xs. datagrams calls ++ xs) no_datagram ∙ append-nil (datagrams calls) ∙ tells.taken;
  replied = ap (λ xs. list_all (λ reply. is_success reply.1) xs) (add_sends calls call ∙ ap (λ xs. sends calls ++ xs) one)
      ∙ list_all-append (λ reply. is_success reply.1) (sends calls) ((to, reply) ∷ []) ∙ both_hold well (is_success reply) (list_all (λ reply. is_success reply.1) (sends calls)) tells.replied;
}

-- The same of what the link tells after a call, where it still tells.

module _ (given : ℕ) (well : Bool) where
  pub noted_other : (old new : Option (List LinkCall)) (call : LinkCall) → datagrams (call ∷ []) ≡ [] → sends (call ∷ []) ≡ [] → Gains old new call → WhereLogged old (LogsLoad given well) → WhereLogged new (LogsLoad given well)
  noted_other old None call no_datagram no_send gains log = tt
  noted_other None (Some new) call no_datagram no_send gains log = elim gains [ ]
  noted_other (Some calls) (Some new) call no_datagram no_send gains log = subst (λ l. LogsLoad given well l) (sym gains) (tells_other given well calls call no_datagram no_send log)

  pub noted_datagram : (old new : Option (List LinkCall)) (call : LinkCall) → datagrams (call ∷ []) ≡ (controller, datagram_with given) ∷ [] → sends (call ∷ []) ≡ [] → Gains old new call → WhereLogged old (LogsLoad given well) → WhereLogged new (LogsLoad (given + 1) well)
  noted_datagram old None call one no_send gains log = tt
  noted_datagram None (Some new) call one no_send gains log = elim gains [ ]
  noted_datagram (Some calls) (Some new) call one no_send gains log = subst (λ l. LogsLoad (given + 1) well l) (sym gains) (tells_datagram given well calls call one no_send log)

  pub noted_send : (old new : Option (List LinkCall)) (to : Addr) (reply : List ℕ) (call : LinkCall) → datagrams (call ∷ []) ≡ [] → sends (call ∷ []) ≡ (to, reply) ∷ [] → Gains old new call → WhereLogged old (LogsLoad given well) → WhereLogged new (LogsLoad given (well && is_success reply))
  noted_send old None to reply call no_datagram one gains log = tt
  noted_send None (Some new) to reply call no_datagram one gains log = elim gains [ ]
  noted_send (Some calls) (Some new) to reply call no_datagram one gains log = subst (λ l. LogsLoad given (well && is_success reply) l) (sym gains) (tells_send given well calls to reply call no_datagram one log)
