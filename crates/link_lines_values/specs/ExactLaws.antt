-- What the text of a raw attribute's payload determines, which a function of `laws` has as its contract.
use Rattle.std.specs.Prelude.{◌≡◌, ℕ, true, List, ◌++◌, codes}
use Rattle.netlink_packet_core_grammar.specs.Bytes.{AreBytes}
use Rattle.link_lines_values.specs.Exact.{Exact, determines_exact, raw_value}
use Rattle.link_lines_values.specs.Laws.{BeginsWithSpace, IsLine}

-- The text of a raw attribute's payload determines it if its format does; it is empty or begins with a space, is on
-- one line if its format is, and doesn't begin with the word ` nested`, which comes before the value if the kind has
-- the bit 0x8000.
pub record RawValuesAreDetermined : Type 0 where
  pub determined : (x : Exact) (p q : List ℕ) → determines_exact x ≡ true → AreBytes p → AreBytes q →
      raw_value x p ≡ raw_value x q → p ≡ q
  pub space : (x : Exact) (p : List ℕ) → BeginsWithSpace (raw_value x p)
  pub line : (x : Exact) (p : List ℕ) → determines_exact x ≡ true → IsLine (raw_value x p)
  pub unnested : (x : Exact) (p s : List ℕ) → determines_exact x ≡ true → AreBytes p → BeginsWithSpace s →
      raw_value x p ≡ codes " nested" ++ s → ⊥
