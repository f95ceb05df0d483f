use Rattle.std.proofs.Common.{sym, [], inl, refl}
use Rattle.std.proofs.lemmas.List.{append-nil}
use Rattle.sdes_lines.specs.CryptoLine.{line_text}
use Rattle.sdes_lines.proofs.write.written_line_is_usable.Goals as goal

pub returns : goal.returns
returns c = λ line is_tag is_key. record {
  is_tag = is_tag;
  is_key = is_key;
  end = [];
  is_end = record { lifetime = []; spaces = 0; is_lifetime = inl refl; text_is = refl };
  line_is = sym (append-nil (line_text line.tag line.suite line.key));
}
