-- The reply of a turn is kept for the next minute.
use Rattle.std.proofs.Common.{◌≡◌, ◌∙◌, ap, ℕ, ◌+◌, ◌<◌, List, [], ◌∷◌, take, true, cond, Some, None, refl, arith}
use Rattle.std.specs.List.{cons_option}
use Rattle.cookie_cache.specs.Keepings.{Keeping, recent}
use Rattle.cookie_cache.proofs.Latest.{kept_as_latest}
use Rattle.call_board.specs.Acts.{Control, Turn, BoardEntry}
use Rattle.call_board.specs.KeptReplies.{is_kept, keeping_at, keeping_of, keepings, kept_reply}

-- what is kept of a turn
abbrev keeping : ℕ → Control → Keeping
keeping moment c = record { source = c.source; cookie = c.cookie; reply = c.reply; moment = moment }

pub kept_after : (h : List BoardEntry) (e : BoardEntry) (c : Control) (now : ℕ) → e.event ≡ Turn c → is_kept c.act ≡ true → now < e.moment + 60000 → kept_reply (e ∷ h) c.source c.cookie now ≡ Some c.reply
kept_after h e c now is keeps young =
    let keeping_is : keeping_of e ≡ Some (keeping e.moment c) = ap (keeping_at e.moment) is ∙ ap (λ b. cond b (Some (keeping e.moment c)) None) keeps in
    let all : keepings (e ∷ h) ≡ keeping e.moment c ∷ keepings h = ap (λ k. cons_option k (keepings h)) keeping_is in
    (kept_as_latest (keepings (e ∷ h)) c.source c.cookie now c.reply).1 (record {
      later = [];
      keeping = keeping e.moment c;
      earlier = take 4095 (keepings h);
      among = ap recent all;
      matches = record { source_is = refl; cookie_is = refl; young = young };
      none_later = λ k d low matches. absurd (omega arith);
      reply_is = refl;
    })
