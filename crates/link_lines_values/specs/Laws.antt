-- What a text determines of the bytes that it shows, which the functions of `laws` have as contracts.
use Rattle.std.specs.Prelude.{◌≡◌, ℕ, ◌^◌, ◌<◌, ◌≤◌, Bool, true, false, List, [], ◌∷◌, ◌++◌, ⊤, codes}
use Rattle.std.specs.Prelude.{length, take, drop}
use Rattle.std.specs.Fmt.{decimal}
use Rattle.std.specs.List.{AllByRecursion}
use Rattle.attribute_tables_grammar.specs.Shapes.{number}
use Rattle.netlink_packet_core_grammar.specs.Bytes.{AreBytes}
use Rattle.netlink_packet_core_grammar.specs.Texts.{without_nul}
use Rattle.link_lines_values.specs.declared.fields.FieldShownBy.TheVariants as S
use Rattle.link_lines_values.specs.Bytes.{address_text, bytes_text, hardware_text, is_zero, quoted, boolean_text}
use Rattle.link_lines_values.specs.Digits.{hex_number, is_number, is_signed_size}
use Rattle.link_lines_values.specs.Names.{Text}
use Rattle.link_lines_values.specs.Records.{Field, FieldShown, counters_determine, counters_text, fields_determine}
use Rattle.link_lines_values.specs.Records.{fields_text, has_no_booleans, is_counters, is_record, record_text}
use Rattle.link_lines_values.specs.Records.{nonzero_text, total_size}
use Rattle.link_lines_values.specs.Values.{Shown, are_fields_on_a_line, is_shown_on_a_line, determines_sized}
use Rattle.link_lines_values.specs.Values.{value_text, number_value}
use Rattle.link_lines_values.specs.Values.{big_endian_value, signed_value, flags_value, named_flags_value}
use Rattle.link_lines_values.specs.Values.{big_endian_flags_value, flags_and_mask_value, optional_byte_value}
use Rattle.link_lines_values.specs.Values.{port_range_value}

-- A text is empty, or begins with a byte below the digits: a space, a bracket, a newline.
abbrev pub Ends : List ℕ → Type 0
Ends [] = ⊤
Ends (c ∷ s) = c < 48

-- Digits that such bytes follow determine their number, in decimal or in hex.
pub record DigitsAreDetermined : Type 0 where
  pub decimal_digits : (m n : ℕ) (s t : List ℕ) → m < 2 ^ 64 → n < 2 ^ 64 → Ends s → Ends t →
      decimal m ++ s ≡ decimal n ++ t → (m ≡ n) × (s ≡ t)
  pub hex_digits : (m n : ℕ) (s t : List ℕ) → m < 2 ^ 64 → n < 2 ^ 64 → Ends s → Ends t →
      hex_number m ++ s ≡ hex_number n ++ t → (m ≡ n) × (s ≡ t)

-- A text has no byte under 32, so no newline.
abbrev pub IsLine : List ℕ → Type 0
IsLine s = AllByRecursion (λ c. 32 ≤ c) s

-- A text is empty, or begins with a space.
abbrev pub BeginsWithSpace : List ℕ → Type 0
BeginsWithSpace [] = ⊤
BeginsWithSpace (c ∷ s) = c ≡ 32

-- A value's text is on one line if the names that it may show are, and is empty or begins with a space.
pub record ValuesAreOnALine : Type 0 where
  pub line : (shown : Shown) (p : List ℕ) → is_shown_on_a_line shown ≡ true → IsLine (value_text shown p)
  pub space : (shown : Shown) (p : List ℕ) → BeginsWithSpace (value_text shown p)

-- The text of bytes in hex, with or without colons, determines the bytes; that of bytes in quotes determines them up to
-- a NUL at the end.
pub record BytesAreDetermined : Type 0 where
  pub bytes : (p q : List ℕ) → AreBytes p → AreBytes q → bytes_text p ≡ bytes_text q → p ≡ q
  pub hardware : (p q : List ℕ) → AreBytes p → AreBytes q → hardware_text p ≡ hardware_text q → p ≡ q
  pub text : (p q : List ℕ) → AreBytes p → AreBytes q → quoted p ≡ quoted q → without_nul p ≡ without_nul q

-- The text of a number determines it among numbers of one size, whatever names follow it.
pub record NumbersAreDetermined : Type 0 where
  pub little : (texts : List Text) (p q : List ℕ) → AreBytes p → AreBytes q → length p ≡ length q → is_number p ≡ true →
      number_value texts p ≡ number_value texts q → p ≡ q
  pub big : (texts : List Text) (p q : List ℕ) → AreBytes p → AreBytes q → length p ≡ length q → is_number p ≡ true →
      big_endian_value texts p ≡ big_endian_value texts q → p ≡ q
  pub signed : (texts : List Text) (p q : List ℕ) → AreBytes p → AreBytes q → length p ≡ length q →
      is_signed_size (length p) ≡ true → signed_value texts p ≡ signed_value texts q → p ≡ q
  pub flags : (p q : List ℕ) → AreBytes p → AreBytes q → length p ≡ length q → is_number p ≡ true →
      flags_value p ≡ flags_value q → p ≡ q
  pub named_flags : (names : List Text) (p q : List ℕ) → AreBytes p → AreBytes q → length p ≡ length q →
      is_number p ≡ true → named_flags_value names p ≡ named_flags_value names q → p ≡ q

-- The text of an address determines it among addresses of one size.
pub record AddressesAreDetermined : Type 0 where
  pub ipv4 : (p q : List ℕ) → AreBytes p → AreBytes q → length p ≡ 4 → length q ≡ 4 → address_text p ≡ address_text q →
      p ≡ q
  pub ipv6 : (p q : List ℕ) → AreBytes p → AreBytes q → length p ≡ 16 → length q ≡ 16 →
      address_text p ≡ address_text q → p ≡ q

-- The texts of sets of flags, of an optional byte, of two port numbers, and of booleans that are 0 or 1 determine them.
pub record SettingsAreDetermined : Type 0 where
  pub big : (p q : List ℕ) → AreBytes p → AreBytes q → length p ≡ length q → is_number p ≡ true →
      big_endian_flags_value p ≡ big_endian_flags_value q → p ≡ q
  pub masked : (names : List Text) (p q : List ℕ) → AreBytes p → AreBytes q → length p ≡ 8 → length q ≡ 8 →
      flags_and_mask_value names p ≡ flags_and_mask_value names q → p ≡ q
  pub optional : (p q : List ℕ) → AreBytes p → AreBytes q → length p ≤ 1 → length q ≤ 1 →
      optional_byte_value p ≡ optional_byte_value q → p ≡ q
  pub ports : (p q : List ℕ) → AreBytes p → AreBytes q → length p ≡ 4 → length q ≡ 4 →
      port_range_value p ≡ port_range_value q → p ≡ q
  pub boolean : (p q : List ℕ) → AreBytes p → AreBytes q → length p ≡ length q → number p ≤ 1 → number q ≤ 1 →
      boolean_text p ≡ boolean_text q → p ≡ q

-- No address of 4 bytes has the text of one of 16.
abbrev pub AddressSizesAreDetermined : Type 0
AddressSizesAreDetermined = (p q : List ℕ) → AreBytes p → AreBytes q → length p ≡ 4 → length q ≡ 16 →
    address_text p ≡ address_text q → ⊥

-- A field that is shown as a boolean is 0 or 1.
abbrev pub IsKnown : FieldShown → List ℕ → Type 0
IsKnown S.Boolean p = number p ≤ 1
IsKnown v p = ⊤

-- Every field that is shown as a boolean is 0 or 1.
abbrev pub AllKnown : List Field → List ℕ → Type 0
AllKnown [] p = ⊤
AllKnown (f ∷ fs) p = IsKnown f.2 (take f.1 p) × AllKnown fs (drop f.1 p)

-- The bytes hold the fields of the record, each boolean among them 0 or 1, followed by zeros only.
pub record HoldsFields (fs : List Field) (p : List ℕ) : Type 0 where
  pub bytes : AreBytes p
  pub whole : total_size fs ≤ length p
  pub zeros : is_zero (drop (total_size fs) p) ≡ true
  pub known : AllKnown fs (take (total_size fs) p)

-- The text of a record determines it among records of one size, whether fields that are zero are left out or not.
abbrev pub RecordsAreDetermined : Type 0
RecordsAreDetermined = (sparse : Bool) (fs : List Field) (p q : List ℕ) → fields_determine 61 fs ≡ true →
    HoldsFields fs p → HoldsFields fs q → length p ≡ length q → record_text sparse fs p ≡ record_text sparse fs q →
    p ≡ q

-- The fields that are shown determine a record without booleans, whatever separates names from values.
abbrev pub FieldsAreDetermined : Type 0
FieldsAreDetermined = (separator : ℕ) (fs : List Field) (p q : List ℕ) → fields_determine separator fs ≡ true →
    has_no_booleans fs ≡ true → AreBytes p → AreBytes q → is_record fs p ≡ true → is_record fs q ≡ true →
    fields_text separator false fs p ≡ fields_text separator false fs q → p ≡ q

-- The text of counters, of fewer than 2 ^ 64 bytes, determines them.
abbrev pub CountersAreDetermined : Type 0
CountersAreDetermined = (fs : List Field) (p q : List ℕ) → counters_determine fs ≡ true → AreBytes p → AreBytes q →
    length p < 2 ^ 64 → length q < 2 ^ 64 → is_counters fs p ≡ true → is_counters fs q ≡ true →
    counters_text fs p ≡ counters_text fs q → p ≡ q

-- The counters that aren't zero determine all counters among those of one size, of fewer than 2 ^ 64 bytes.
abbrev pub NonzeroCountersAreDetermined : Type 0
NonzeroCountersAreDetermined = (fs : List Field) (p q : List ℕ) → counters_determine fs ≡ true → AreBytes p →
    AreBytes q → length p < 2 ^ 64 → length p ≡ length q → is_counters fs p ≡ true →
    nonzero_text fs p ≡ nonzero_text fs q → p ≡ q

-- The text of counters is on one line if the names that it may show are, and is empty or begins with a space.
pub record CountersAreOnALine : Type 0 where
  pub line : (fs : List Field) (p : List ℕ) → are_fields_on_a_line fs ≡ true → IsLine (counters_text fs p)
  pub space : (fs : List Field) (p : List ℕ) → BeginsWithSpace (counters_text fs p)
  pub nonzero_line : (fs : List Field) (p : List ℕ) → are_fields_on_a_line fs ≡ true → IsLine (nonzero_text fs p)
  pub nonzero_space : (fs : List Field) (p : List ℕ) → BeginsWithSpace (nonzero_text fs p)

-- The text of fields is on one line if the names that it may show are, and is empty or begins with a space.
pub record FieldsAreOnALine : Type 0 where
  pub line : (separator : ℕ) (sparse : Bool) (fs : List Field) (p : List ℕ) → 32 ≤ separator →
      are_fields_on_a_line fs ≡ true → IsLine (fields_text separator sparse fs p)
  pub space : (separator : ℕ) (sparse : Bool) (fs : List Field) (p : List ℕ) →
      BeginsWithSpace (fields_text separator sparse fs p)

-- The text of a payload of n bytes determines it if its format knows n; and no such text begins as that of bytes after
-- the word `bytes` does.
pub record SizedValuesAreDetermined : Type 0 where
  pub determined : (n : ℕ) (shown : Shown) (p q : List ℕ) → determines_sized n shown ≡ true → AreBytes p → AreBytes q →
      length p ≡ n → length q ≡ n → value_text shown p ≡ value_text shown q → p ≡ q
  pub apart : (n : ℕ) (shown : Shown) (p s : List ℕ) → determines_sized n shown ≡ true → AreBytes p → length p ≡ n →
      value_text shown p ≡ codes " bytes" ++ s → ⊥
