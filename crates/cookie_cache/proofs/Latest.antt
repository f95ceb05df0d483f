-- `kept` and the relation `IsLatest` are one.
use Rattle.std.proofs.Common.{◌≡◌, ℕ, ◌↔◌, List, Option, Some, None, All, refl, ap, find}
use Rattle.std.specs.Option.{option_map}
use Rattle.std.proofs.lemmas.List.Elements.{All-from_recursion, recursion_from_All}
use Rattle.relay_outside.specs.declared.address.Addr.{Addr}
use Rattle.cookie_cache.specs.Keepings.{Keeping, answers, kept, recent}
use Rattle.cookie_cache.specs.Latest.{MatchesCookie, IsLatest}
use Rattle.cookie_cache.proofs.Finding.{IsFirst, first_from_find, find_from_first, none_from_find, find_from_none}
use Rattle.cookie_cache.proofs.Matching.{answers_decides}

-- what was mapped
some_mapped : (found : Option Keeping) (reply : List ℕ) → option_map (λ keeping. keeping.reply) found ≡ Some reply
    → (keeping : Keeping) × (found ≡ Some keeping) × (keeping.reply ≡ reply)
some_mapped None reply h = cc
some_mapped (Some keeping) reply h = (keeping, refl, cc)

none_mapped : (found : Option Keeping) → option_map (λ keeping. keeping.reply) found ≡ None → found ≡ None
none_mapped None h = refl
none_mapped (Some keeping) h = cc

module _ (keepings : List Keeping) (source : Addr) (cookie : List ℕ) (at : ℕ) where
  latest_from_kept : (reply : List ℕ) → kept keepings source cookie at ≡ Some reply → IsLatest keepings source cookie at reply
  unfolding kept
  latest_from_kept reply h =
      let found = some_mapped (find (answers source cookie at) (recent keepings)) reply h in
      let first = first_from_find (MatchesCookie source cookie at) (answers source cookie at) (answers_decides source cookie at) (recent keepings) found.0 found.1 in
      record {
        later = first.before;
        keeping = found.0;
        earlier = first.after;
        among = first.parts;
        matches = first.holds;
        none_later = All-from_recursion (λ other. MatchesCookie source cookie at other → ⊥) first.before first.none_before;
        reply_is = found.2;
      }

  kept_from_latest : (reply : List ℕ) → IsLatest keepings source cookie at reply → kept keepings source cookie at ≡ Some reply
  unfolding kept
  kept_from_latest reply latest =
      let first : IsFirst (MatchesCookie source cookie at) (recent keepings) latest.keeping = record {
        before = latest.later;
        after = latest.earlier;
        parts = latest.among;
        holds = latest.matches;
        none_before = recursion_from_All (λ other. MatchesCookie source cookie at other → ⊥) latest.later latest.none_later;
      } in
      rw (find_from_first (MatchesCookie source cookie at) (answers source cookie at) (answers_decides source cookie at) (recent keepings) latest.keeping first)
      (ap (λ r. Some r) latest.reply_is)

  pub kept_as_latest : (reply : List ℕ) → (kept keepings source cookie at ≡ Some reply) ↔ IsLatest keepings source cookie at reply
  kept_as_latest reply = (latest_from_kept reply, kept_from_latest reply)

  none_from_kept : kept keepings source cookie at ≡ None → All (λ other. MatchesCookie source cookie at other → ⊥) (recent keepings)
  unfolding kept
  none_from_kept h =
      All-from_recursion (λ other. MatchesCookie source cookie at other → ⊥) (recent keepings)
      (none_from_find (MatchesCookie source cookie at) (answers source cookie at) (answers_decides source cookie at) (recent keepings)
      (none_mapped (find (answers source cookie at) (recent keepings)) h))

  kept_from_none : All (λ other. MatchesCookie source cookie at other → ⊥) (recent keepings) → kept keepings source cookie at ≡ None
  unfolding kept
  kept_from_none never =
      rw (find_from_none (MatchesCookie source cookie at) (answers source cookie at) (answers_decides source cookie at) (recent keepings)
      (recursion_from_All (λ other. MatchesCookie source cookie at other → ⊥) (recent keepings) never))
      refl

  pub kept_as_none : (kept keepings source cookie at ≡ None) ↔ All (λ other. MatchesCookie source cookie at other → ⊥) (recent keepings)
  kept_as_none = (none_from_kept, kept_from_none)
