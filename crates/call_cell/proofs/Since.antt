-- The entries since the last End, the call that a cell holds, and histories whose every entry fits.
use Rattle.std.proofs.Common.{◌≡◌, refl, ap, subst, sym, ◌∙◌, ℕ, List, [], ◌∷◌, ◌++◌, Bool, true, false, cond, Option, Some, None, filter_map}
use Rattle.std.specs.List.{cons_option}
use Rattle.relay_outside.specs.declared.settings.Config.{Config}
use Rattle.histories.specs.Words.{In, here, there, final}
use Rattle.histories.proofs.Lists.{picks, picked}
use Rattle.call_cell.specs.Cells.{CellEvent, CellEntry, Prepare, Commit, Relay, Expire, Read, End, Relayed, is_end, since_end, prepared_call, call}
use Rattle.call_cell.specs.Deeds.{deed}
use Rattle.call_cell.specs.Demands.{CellFitsAt}
use Rattle.call_cell.specs.Good.{FittingCell, empty, longer, GoodCell, begins, goes_on}
use Rattle.call_cell.proofs.Splits.{none_in, or_first}

-- since the last End

since_case : (e : CellEntry) (h : List CellEntry) (b : Bool) → is_end e ≡ b → since_end (e ∷ h) ≡ cond b [] (e ∷ since_end h)
since_case e h b q = ap (λ (c : Bool). cond c [] (e ∷ since_end h)) q

pub since_at_end : (e : CellEntry) (h : List CellEntry) → is_end e ≡ true → since_end (e ∷ h) ≡ []
since_at_end e h q = since_case e h true q

pub since_more : (e : CellEntry) (h : List CellEntry) → is_end e ≡ false → since_end (e ∷ h) ≡ e ∷ since_end h
since_more e h q = since_case e h false q

-- an entry since the last End is one of the history, and no End is from it on
pub record IsSince (h : List CellEntry) (e : CellEntry) : Type 0 where
  pub newer : List CellEntry
  pub older : List CellEntry
  pub splits : h ≡ newer ++ e ∷ older
  pub splits_since : since_end h ≡ newer ++ e ∷ since_end older
  pub none_ends : (x : CellEntry) → In x newer → is_end x ≡ false
  pub is_not_end : is_end e ≡ false

split_here : (x e : CellEntry) (h : List CellEntry) → e ≡ x → is_end x ≡ false → IsSince (x ∷ h) e
split_here x e h q no_end =
    subst (λ (y : CellEntry). IsSince (x ∷ h) y) (sym q)
    (record {
      newer = [];
      older = h;
      splits = refl;
      splits_since = since_more x h no_end;
      none_ends = none_in (λ (y : CellEntry). is_end y ≡ false);
      is_not_end = no_end;
    })

split_there : {e : CellEntry} (x : CellEntry) (h : List CellEntry) → is_end x ≡ false → IsSince h e → IsSince (x ∷ h) e
split_there x h no_end s = record {
  newer = x ∷ s.newer;
  older = s.older;
  splits = ap (λ (k : List CellEntry). x ∷ k) s.splits;
  splits_since = since_more x h no_end ∙ ap (λ (k : List CellEntry). x ∷ k) s.splits_since;
  none_ends = or_first (λ (y : CellEntry). is_end y ≡ false) no_end s.none_ends;
  is_not_end = s.is_not_end;
}

split_case : {e : CellEntry} (x : CellEntry) (h : List CellEntry) → (In e (since_end h) → IsSince h e) → (b : Bool) → is_end x ≡ b
    → In e (cond b [] (x ∷ since_end h)) → IsSince (x ∷ h) e
split_case x h rest true q i = elim i [ ]
split_case {e} x h rest false q (here r) = split_here x e h r q
split_case x h rest false q (there i) = split_there x h q (rest i)

pub since_split : {e : CellEntry} (h : List CellEntry) → In e (since_end h) → IsSince h e
since_split [] i = elim i [ ]
since_split (x ∷ h) i = split_case x h (since_split h) (is_end x) refl i

is_in_case : {e : CellEntry} (x : CellEntry) (h : List CellEntry) → (In e (since_end h) → In e h) → (b : Bool)
    → In e (cond b [] (x ∷ since_end h)) → In e (x ∷ h)
is_in_case x h rest true i = elim i [ ]
is_in_case x h rest false (here r) = here r
is_in_case x h rest false (there i) = there (rest i)

pub since_is_in : {e : CellEntry} (h : List CellEntry) → In e (since_end h) → In e h
since_is_in [] i = elim i [ ]
since_is_in (x ∷ h) i = is_in_case x h (since_is_in h) (is_end x) i

-- entries without an End stand before what stands since the last End
pub since_append : (newer older : List CellEntry) → ((x : CellEntry) → In x newer → is_end x ≡ false)
    → since_end (newer ++ older) ≡ newer ++ since_end older
since_append [] older none = refl
since_append (x ∷ newer) older none =
    since_more x (newer ++ older) (none x (here refl))
    ∙ ap (λ (k : List CellEntry). x ∷ k) (since_append newer older (λ y i. none y (there i)))

-- an entry is one since the last End, where no End is from it on
pub is_since : (newer older : List CellEntry) (e : CellEntry) → ((x : CellEntry) → In x newer → is_end x ≡ false)
    → is_end e ≡ false → In e (since_end (newer ++ e ∷ older))
is_since [] older e none q = subst (λ (k : List CellEntry). In e k) (sym (since_more e older q)) (here refl)
is_since (x ∷ newer) older e none q =
    subst (λ (k : List CellEntry). In e k) (sym (since_more x (newer ++ e ∷ older) (none x (here refl))))
    (there (is_since newer older e (λ y i. none y (there i)) q))

again_case : (x : CellEntry) (h : List CellEntry) → since_end (since_end h) ≡ since_end h → (b : Bool) → is_end x ≡ b
    → since_end (cond b [] (x ∷ since_end h)) ≡ cond b [] (x ∷ since_end h)
again_case x h rest true q = refl
again_case x h rest false q = since_more x (since_end h) q ∙ ap (λ (k : List CellEntry). x ∷ k) rest

pub since_again : (h : List CellEntry) → since_end (since_end h) ≡ since_end h
since_again [] = refl
since_again (x ∷ h) = again_case x h (since_again h) (is_end x) refl

-- the call

-- the first Prepare of a history, and what it prepares
pub record IsBegun (h : List CellEntry) (c : ℕ) : Type 0 where
  pub newer : List CellEntry
  pub entry : CellEntry
  pub older : List CellEntry
  pub splits : h ≡ newer ++ entry ∷ older
  pub prepares : prepared_call entry ≡ Some c
  pub is_first : (e : CellEntry) → In e older → prepared_call e ≡ None

begun_later : {c : ℕ} (x : CellEntry) (h : List CellEntry) → IsBegun h c → IsBegun (x ∷ h) c
begun_later x h b = record {
  newer = x ∷ b.newer;
  entry = b.entry;
  older = b.older;
  splits = ap (λ (k : List CellEntry). x ∷ k) b.splits;
  prepares = b.prepares;
  is_first = b.is_first;
}

-- no entry of the history is a Prepare
none_case : (x : CellEntry) (h : List CellEntry) → (filter_map prepared_call h ≡ [] → (e : CellEntry) → In e h → prepared_call e ≡ None)
    → (o : Option ℕ) → prepared_call x ≡ o → cons_option o (filter_map prepared_call h) ≡ [] → (e : CellEntry) → In e (x ∷ h) → prepared_call e ≡ None
none_case x h rest None q r e (here p) = ap prepared_call p ∙ q
none_case x h rest None q r e (there i) = rest r e i
none_case x h rest (Some n) q r e i = absurd (let f = r in cc)

none_prepared : (h : List CellEntry) → filter_map prepared_call h ≡ [] → (e : CellEntry) → In e h → prepared_call e ≡ None
none_prepared [] q e i = elim i [ ]
none_prepared (x ∷ h) q e i = none_case x h (none_prepared h) (prepared_call x) refl q e i

begun_list : (x : CellEntry) (h : List CellEntry) (c n : ℕ) → (call h ≡ Some c → IsBegun h c) → prepared_call x ≡ Some n
    → (ns : List ℕ) → filter_map prepared_call h ≡ ns → final (n ∷ ns) ≡ Some c → IsBegun (x ∷ h) c
begun_list x h c n rest q [] e f = record {
  newer = [];
  entry = x;
  older = h;
  splits = refl;
  prepares = q ∙ f;
  is_first = none_prepared h e;
}
begun_list x h c n rest q (m ∷ ns) e f = begun_later x h (rest (ap final e ∙ f))

begun_case : (x : CellEntry) (h : List CellEntry) (c : ℕ) → (call h ≡ Some c → IsBegun h c) → (o : Option ℕ) → prepared_call x ≡ o
    → final (cons_option o (filter_map prepared_call h)) ≡ Some c → IsBegun (x ∷ h) c
begun_case x h c rest None q f = begun_later x h (rest f)
begun_case x h c rest (Some n) q f = begun_list x h c n rest q (filter_map prepared_call h) refl f

pub call_begun : (h : List CellEntry) (c : ℕ) → call h ≡ Some c → IsBegun h c
call_begun [] c q = absurd (let e = q in cc)
call_begun (x ∷ h) c q = begun_case x h c (call_begun h c) (prepared_call x) refl q

-- where all Prepares name one call, and there is one, it is that call

is_at_least : (ns : List ℕ) (n c : ℕ) → In n ns → ((m : ℕ) → In m ns → m ≡ c) → final ns ≡ Some c
is_at_least [] n c i all = elim i [ ]
is_at_least (m ∷ []) n c i all = ap Some (all m (here refl))
is_at_least (m ∷ k ∷ ns) n c i all = is_at_least (k ∷ ns) k c (here refl) (λ j r. all j (there r))

pub call_is : (h : List CellEntry) (c : ℕ) (e : CellEntry) → In e h → prepared_call e ≡ Some c
    → ((f : CellEntry) (n : ℕ) → In f h → prepared_call f ≡ Some n → n ≡ c) → call h ≡ Some c
call_is h c e i q all =
    is_at_least (filter_map prepared_call h) c c (picks prepared_call h i q)
    (λ m j. let r = picked prepared_call h j in all r.from m r.is_in r.makes)

-- histories whose every entry fits

good_event : {config : Config} (h : List CellEntry) (moment : ℕ) (event : CellEvent) → CellFitsAt config h moment event
    → GoodCell config (since_end h) → GoodCell config (since_end (record { moment = moment; event = event } ∷ h))
good_event h moment (Relay r) f g = goes_on f.does g
good_event h moment (Prepare call legs keys dropped) f g = goes_on tt g
good_event h moment (Commit signal) f g = goes_on tt g
good_event h moment (Expire due) f g = goes_on tt g
good_event h moment (Read log) f g = goes_on tt g
good_event h moment End f g = begins

pub good_since : {config : Config} (h : List CellEntry) → FittingCell config h → GoodCell config (since_end h)
good_since h empty = begins
good_since h (longer {e} {h = k} f rest) = good_event k e.moment e.event f (good_since k rest)

-- two relays of one packet, with one result of the send, after one history, do the same
pub same_deed : (config : Config) {h k : List CellEntry} {r s : Relayed} → r.deed ≡ deed config h r.packet r.sent_ok
    → s.deed ≡ deed config k s.packet s.sent_ok → h ≡ k → r.packet ≡ s.packet → r.sent_ok ≡ s.sent_ok → r.deed ≡ s.deed
same_deed config p q same packets answers = cc
