-- A cell's history is one by what is recorded of it, and an end by its port.
use Rattle.std.proofs.Common.{◌≡◌, ◌∙◌, sym, ap, refl, ℕ, zero, suc, ◌+◌, ◌*◌, ◌≤◌, List, [], ◌∷◌, ◌++◌, map, filter, filter_map, Bool, true, false, cond, Option, None, arith}
use Rattle.std.specs.List.{cons_option}
use Rattle.std.proofs.lemmas.List.Elements.{filter_map-append}
use Rattle.histories.specs.Words.{In}
use Rattle.relay_outside.specs.declared.settings.Config.{Config}
use Rattle.relay_outside.specs.declared.address.Ip.{Ip}
use Rattle.rtp_packet.specs.declared.head.Half.{Half}
use Rattle.port_pool.proofs.Addresses.{one_port}
use Rattle.call_cell.specs.Cells.{CellEntry}
use Rattle.call_cell.specs.Good.{FittingCell}
use Rattle.relay_core.specs.Entries.{Entry, is_at, history, cell_entry, cell_history}
use Rattle.relay_core.specs.PlaceHistories.{logged_entry}
use Rattle.relay_core.proofs.Filling.{fill_history, refill}
use Rattle.relay_core.proofs.Histories.{at_place}
use Rattle.relay_core.proofs.Turns.{filter_append, filter_none, false_if, nothing_more}
use Rattle.replay_steps.specs.Arrivals.{End, IsEndAt}

-- the history below a number is the same, where none of the added entries is below it at that place
pub same_history : (l ns : List Entry) (place n : ℕ) → ((e : Entry) → In e ns → e.place ≡ place → n ≤ e.number) → history (l ++ ns) place n ≡ history l place n
same_history l ns place zero above = refl
same_history l ns place (suc n) above =
    ap (λ (xs : List Entry). xs ++ history (l ++ ns) place n) at_n
    ∙ ap (λ (xs : List Entry). filter (is_at place n) l ++ xs) (same_history l ns place n (λ e i p. let k = above e i p in omega (arith, k)))
  where
    none : filter (is_at place n) ns ≡ []
    none = filter_none (is_at place n) ns
        (λ e i. false_if (is_at place n e) (λ t. let a = at_place place n e t in let k = above e i a.0 in let q = a.1 in omega (arith, k, q)))

    at_n : filter (is_at place n) (l ++ ns) ≡ filter (is_at place n) l
    at_n = filter_append (is_at place n) l ns ∙ ap (λ (xs : List Entry). filter (is_at place n) l ++ xs) none ∙ nothing_more (filter (is_at place n) l)

-- an entry that is none of a cell adds nothing to a cell's history

sifted : (e : Entry) (b : Bool) → cell_entry e ≡ None → filter_map cell_entry (cond b (e ∷ []) []) ≡ []
sifted e true none = ap (λ (o : Option CellEntry). cons_option o []) none
sifted e false none = refl

others_at : (l : List Entry) (e : Entry) (place n : ℕ) → cell_entry e ≡ None → filter_map cell_entry (filter (is_at place n) (l ++ e ∷ [])) ≡ filter_map cell_entry (filter (is_at place n) l)
others_at l e place n none =
    ap (filter_map cell_entry) (filter_append (is_at place n) l (e ∷ []))
    ∙ filter_map-append cell_entry (filter (is_at place n) l) (filter (is_at place n) (e ∷ []))
    ∙ ap (λ (cs : List CellEntry). filter_map cell_entry (filter (is_at place n) l) ++ cs) (sifted e (is_at place n e) none)
    ∙ nothing_more (filter_map cell_entry (filter (is_at place n) l))

pub not_cell : (l : List Entry) (e : Entry) (place n : ℕ) → cell_entry e ≡ None → cell_history (l ++ e ∷ []) place n ≡ cell_history l place n
not_cell l e place zero none = refl
not_cell l e place (suc n) none =
    filter_map-append cell_entry (filter (is_at place n) (l ++ e ∷ [])) (history (l ++ e ∷ []) place n)
    ∙ ap (λ (cs : List CellEntry). cs ++ cell_history (l ++ e ∷ []) place n) (others_at l e place n none)
    ∙ ap (λ (cs : List CellEntry). filter_map cell_entry (filter (is_at place n) l) ++ cs) (not_cell l e place n none)
    ∙ sym (filter_map-append cell_entry (filter (is_at place n) l) (history l place n))

pub told_once : (config : Config) (h k : List CellEntry) → map logged_entry h ≡ map logged_entry k → FittingCell config h → FittingCell config k → h ≡ k
told_once config h k same f g =
    sym (refill config h f) ∙ ap (fill_history config) same ∙ refill config k g

abbrev end_of : ℕ → Half → End
end_of pair half = (pair, half)

pub end_once : (config : Config) (port : ℕ) (ip : Ip) (e f : End) → IsEndAt config port ip e → IsEndAt config port ip f → e ≡ f
end_once config port ip e f a b =
    let same = one_port config e.0 f.0 e.1 f.1 (a.family ∙ sym b.family) (a.port_is ∙ sym b.port_is) in
    ap (λ (p : ℕ). end_of p e.1) same.0 ∙ ap (end_of f.0) same.1
