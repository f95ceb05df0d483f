-- The text of a usable crypto line: RFC 4568 section 9.1, narrowed to one inline key of 30 bytes for
-- one of two suites, with no MKI and no session parameter.
use Rattle.std.specs.Prelude.{◌≡◌, ℕ, ◌≤◌, ◌⊎◌, List, [], ◌++◌, length, replicate, codes, decimal}
use Rattle.std.specs.Str.Parse.{IsNumeral}
use Rattle.base64.specs.Engines.{standard}
use Rattle.base64.specs.GeneralPurpose.{encode_of, IsBytes}
use Rattle.sdes_lines.specs.declared.crypto_line.Suite.{Suite}
use Rattle.sdes_lines.specs.declared.crypto_line.Suite.TheVariants.{Tag80, Tag32}

-- the suite's name (RFC 4568 section 6.2)
abbrev pub suite_name : Suite → List ℕ
suite_name Tag80 = codes "AES_CM_128_HMAC_SHA1_80"
suite_name Tag32 = codes "AES_CM_128_HMAC_SHA1_32"

-- a tag: at most nine digits (RFC 4568 section 4, "tag")
abbrev pub IsTag : ℕ → Type 0
IsTag tag = tag ≤ 999999999

-- a master key of 16 bytes and a master salt of 14 (RFC 3711 section 8.2)
pub record IsKey (key : List ℕ) : Type 0 where
  pub size : length key ≡ 30
  pub bytes : IsBytes key

-- the line up to the end of its key: the tag in decimal, the suite's name, and the key in the standard
-- base64 of RFC 4648
unfoldable pub line_text : ℕ → Suite → List ℕ → List ℕ
line_text tag suite key = codes "a=crypto:" ++ decimal tag ++ codes " " ++ suite_name suite
    ++ codes " inline:" ++ encode_of standard key

-- these bytes, and then a number in one decimal digit or more
pub record IsNumberAfter (mark text : List ℕ) : Type 0 where
  pub digits : List ℕ
  pub is_numeral : IsNumeral 10 digits
  pub text_is : text ≡ mark ++ digits

-- nothing, or a lifetime: `|`, and a number of packets in digits or as a power of two
-- (RFC 4568 section 6.1)
abbrev pub IsLifetime : List ℕ → Type 0
IsLifetime text = (text ≡ []) ⊎ IsNumberAfter (codes "|") text ⊎ IsNumberAfter (codes "|2^") text

-- what may follow the key: a lifetime, and spaces
pub record IsLineEnd (text : List ℕ) : Type 0 where
  pub lifetime : List ℕ
  pub spaces : ℕ
  pub is_lifetime : IsLifetime lifetime
  pub text_is : text ≡ lifetime ++ replicate spaces 32

-- the line is usable, with this tag, suite and key
pub record IsUsable (line : List ℕ) (tag : ℕ) (suite : Suite) (key : List ℕ) : Type 0 where
  pub is_tag : IsTag tag
  pub is_key : IsKey key
  pub end : List ℕ
  pub is_end : IsLineEnd end
  pub line_is : line ≡ line_text tag suite key ++ end
