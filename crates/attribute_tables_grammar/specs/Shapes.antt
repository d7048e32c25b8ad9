-- Shapes, of payloads that hold no attributes: which payloads are accepted, their meaning, and its canonical encoding.
use Rattle.std.specs.Prelude.{ℕ, ◌+◌, ◌-◌, ◌*◌, ◌==◌, ◌&&◌, ◌||◌, nat_le, Bool, true, false, List, [], ◌∷◌, ◌++◌}
use Rattle.std.specs.Prelude.{length, take, drop, map}
use Rattle.netlink_packet_core_grammar.specs.Attributes.{nla_align, zeros}
use Rattle.netlink_packet_core_grammar.specs.Texts.{without_nul, is_text}
use Rattle.netlink_packet_core_grammar.specs.Booleans.{boolean_of, is_one}

-- The shape of a payload that holds no attributes.
pub data Shape : Type 0 where
  exact : ℕ → Shape  -- exactly n bytes
  either : ℕ → ℕ → Shape  -- one of two sizes
  at_most : ℕ → Shape  -- at most n bytes
  boolean_if_nonzero : Shape  -- a boolean of one byte: false if and only if it is 0
  boolean_if_one : Shape  -- a boolean of one byte: true if and only if it is 1
  boolean_of_four : Shape  -- a boolean of 4 bytes: false if and only if the number is 0
  presence : Shape  -- a flag that is set by being present, whatever its bytes
  text : Shape  -- UTF-8, with or without a last NUL
  raw : Shape
  never : Shape  -- no payload is accepted
  fixed_record : ℕ → ℕ → Shape  -- at least m bytes, of which the first m count; written as n bytes
  id_and_boolean : Shape  -- at least 8 bytes: 4 bytes, and a boolean of 4 bytes; the rest is dropped
  resized : ℕ → Shape  -- any number of bytes, cut or filled up with zeros to n

-- The little-endian number that the bytes encode.
abbrev pub number : List ℕ → ℕ
number [] = 0
number (b ∷ bytes) = b + 256 * number bytes

-- Four bytes: the number 1 if the bytes encode a number other than 0, else 0.
abbrev pub number_boolean : List ℕ → List ℕ
number_boolean bytes = boolean_of (number bytes) ∷ 0 ∷ 0 ∷ 0 ∷ []

-- The shape accepts the payload.
abbrev pub accepts : Shape → List ℕ → Bool
accepts (exact n) p = length p == n
accepts (either m n) p = (length p == m) || (length p == n)
accepts (at_most n) p = nat_le (length p) n
accepts boolean_if_nonzero p = length p == 1
accepts boolean_if_one p = length p == 1
accepts boolean_of_four p = length p == 4
accepts presence p = true
accepts text p = is_text p
accepts raw p = true
accepts never p = false
accepts (fixed_record m n) p = nat_le m (length p)
accepts id_and_boolean p = nat_le 8 (length p)
accepts (resized n) p = true

-- The meaning of a payload: two payloads are equivalent if and only if their meanings are equal.
abbrev pub meaning : Shape → List ℕ → List ℕ
meaning boolean_if_nonzero p = map boolean_of p
meaning boolean_if_one p = map is_one p
meaning boolean_of_four p = number_boolean p
meaning presence p = []
meaning text p = without_nul p
meaning (fixed_record m n) p = take m p
meaning id_and_boolean p = take 4 p ++ number_boolean (take 4 (drop 4 p))
meaning (resized n) p = take n (p ++ zeros n)
meaning _ p = p

-- The canonical payload of a meaning.
abbrev pub encoding : Shape → List ℕ → List ℕ
encoding text v = v ++ 0 ∷ []
encoding (fixed_record m n) v = v ++ zeros (n - m)
encoding _ v = v

-- A test that suffices: no canonical attribute of this shape is more than 77 times as long as the attribute, and a record
-- is written with at least the bytes that count.
abbrev pub shape_bounded : Shape → Bool
shape_bounded (fixed_record m n) = nat_le m n && nat_le (nla_align (4 + n)) (77 * (4 + m))
shape_bounded (resized n) = nat_le (nla_align (4 + n)) (77 * 4)
shape_bounded _ = true
