-- A call with SRTP on side B comes about as the laws on rounds ask it: rounds like these can be met.
use Rattle.std.proofs.Common.{ℕ, suc, ◌<◌, List, [], ◌∷◌, ◌++◌, Some, codes, refl, inl, replicate, zero, le_of_suc-le-suc, not-suc-le-zero, get_or, arith}
use Rattle.std.specs.Fmt.{digits}
use Rattle.base64.specs.Rfc4648.{encode_symbols}
use Rattle.sdes_lines.specs.declared.crypto_line.Suite.TheVariants.{Tag80, Tag32}
use Rattle.sdes_lines.specs.declared.crypto_line.CryptoLine.{CryptoLine}
use Rattle.sdes_lines.specs.CryptoLine.{line_text, IsUsable}
use Rattle.sdp_text.specs.Lines.{lines_of}
use Rattle.sdp_text.specs.declared.proto.Proto.TheVariants.{Savp}
use Rattle.sdp_edit.specs.ChosenLines.{section_lines, IsFirstOf, IsOffered}
use Rattle.port_pool.specs.declared.holder.Side.TheVariants.{B}
use Rattle.offer_answer.specs.Rounds.{Round, Offered, OfferAsk, AnswerAsk}
use Rattle.offer_answer.specs.Keys.{chosen_in, last_lines}
use Rattle.offer_answer.specs.Plan.{AnswerRead, offer_fault, answer_fault, demand}
use Rattle.offer_answer.specs.Laws.{IsAnswerRound, AreRounds}
use Rattle.offer_answer.proofs.rows.Calls.{plain, towards, alice_with, bob_with, audio, secure_audio, two_legs, key, offer_by, answer_by, a, b, none1}

abbrev securing : OfferAsk
securing = offer_by a (alice_with audio) (towards Savp) none1

abbrev secured : List Round
secured = Offered securing (two_legs 0 0) (key 0 0 B Tag80 ∷ key 1 0 B Tag32 ∷ []) ∷ []

abbrev line : CryptoLine
line = record { tag = 1; suite = Tag80; key = replicate 30 1 }

abbrev line_text_is : List ℕ
line_text_is = codes "a=crypto:1 AES_CM_128_HMAC_SHA1_80 inline:AQEBAQEBAQEBAQEBAQEBAQEBAQEBAQEBAQEBAQEB"

abbrev answer : AnswerAsk
answer = answer_by a b (bob_with (secure_audio ++ line_text_is ++ codes "\r\n")) plain (Some line ∷ [])

opened : Unit {0}
unfolding offer_fault answer_fault demand digits encode_symbols line_text
opened = tt

offer_comes_about : AreRounds secured
unfolding opened
offer_comes_about = (record { no_fault = refl; leased = refl; drawn = refl }, tt)

below_256 : (n i : ℕ) → get_or (replicate n 1) i 0 < 256
below_256 zero i = omega arith
below_256 (suc n) zero = omega arith
below_256 (suc n) (suc i) = below_256 n i

is_usable : IsUsable line_text_is 1 Tag80 (replicate 30 1)
unfolding opened
is_usable = record {
  is_tag = omega arith;
  is_key = record { size = refl; bytes = below_256 30 };
  end = [];
  is_end = record { lifetime = []; spaces = 0; is_lifetime = inl refl; text_is = refl };
  line_is = refl;
}

takes_the_line : IsFirstOf (IsOffered (last_lines secured 0)) (section_lines 0 (lines_of answer.sdp)) (Some line)
takes_the_line = inl ((is_usable, inl (refl, refl)), refl)

answer_comes_about : IsAnswerRound secured answer
unfolding AnswerRead opened
answer_comes_about = record { no_fault = refl; heard = record { count = refl; first = first } }
  where
    first : (section : ℕ) → section < 1 → IsFirstOf (IsOffered (last_lines secured section)) (section_lines section (lines_of answer.sdp)) (chosen_in answer.chosen section)
    first zero below = takes_the_line
    first (suc section) below = absurd (not-suc-le-zero (le_of_suc-le-suc below))
