-- Properties of the result of a reader, for contracts.
use Rattle.std.specs.Prelude.{◌≡◌, ◌<◌, ℕ, Bool, true, false, List, map, Option, Some, Result, IsTrue, IfSome, IfOk, IfErr}
use Rattle.std.specs.Prelude.{MatchResult, Vec, length}
use Rattle.netlink_packet_core_grammar.specs.Attributes.{Attribute}
use Rattle.netlink_packet_core.specs.declared.DecodeError.{DecodeError}
use Rattle.netlink_packet_core.specs.Errors.{is_memory}
use Rattle.netlink_packet_core.specs.Lists.{text_by, all_fit_by}
use Rattle.attribute_tables_grammar.specs.Lists.{Row, canonical_form}
use Rattle.attribute_tables_grammar.specs.Readings.{AttributeReading}
use Rattle.attribute_tables_grammar.specs.Rules.{Rule}
use Rattle.attribute_tables.specs.Written.{written_as}

-- Ok only if `holds` is true, and an error other than out of memory only if it is false.
abbrev pub SucceedsIf : {T : Type 0} → Result T DecodeError → Bool → Type 0
SucceedsIf result holds = MatchResult result (λ _. IsTrue holds) (λ e. is_memory e ≡ false → holds ≡ false)

-- Ok if and only if `holds` is true.
abbrev pub SucceedsExactlyIf : {T : Type 0} → Result T DecodeError → Bool → Type 0
SucceedsExactlyIf result holds = MatchResult result (λ _. IsTrue holds) (λ _. holds ≡ false)

-- Ok or out of memory only if `holds` is true, and any other error only if it is false.
abbrev pub IsRefusedUnless : {T : Type 0} → Result T DecodeError → Bool → Type 0
IsRefusedUnless result holds = MatchResult result (λ _. IsTrue holds) (λ e. holds ≡ is_memory e)

-- Out of memory only if P holds.
abbrev pub IfMemory : {T : Type 0} → Result T DecodeError → Type 0 → Type 0
IfMemory result P = IfErr result (λ e. is_memory e ≡ true → P)

-- A value that was read is written as the rule's canonical encoding of the bytes, and fits if and only if that does.
abbrev pub IsWrittenBy : {V : Type 0} → Result V DecodeError → (V → List ℕ) → (V → Bool) → Rule → List ℕ → Type 0
IsWrittenBy result text fits rule bytes =
    IfOk result (λ v. (text v ≡ rule.canonical bytes) × (fits v ≡ rule.fits bytes))

-- A payload was read: the value is written by the rule, and is the variant of its row; memory runs out only for a
-- payload that isn't empty.
pub record IsPayloadRead {V : Type 0} (result : Result V DecodeError) (text : V → List ℕ) (fits : V → Bool)
    (names_row : V → Type 0) (rule : Rule) (bytes : List ℕ) : Type 0 where
  pub written : IsWrittenBy result text fits rule bytes
  pub is_row_variant : IfOk result names_row
  pub not_empty : IfMemory result (0 < length bytes)

-- A list that was read is written as the rule's canonical encoding of the bytes, and fits if and only if that does.
abbrev pub ListIsWrittenBy : {V Z : Type 0} → Result (Vec V Z) DecodeError → (V → Attribute) → (V → Bool) → Rule →
    List ℕ → Type 0
ListIsWrittenBy result entry inside_fits rule bytes =
    IsWrittenBy result (λ v. text_by entry v.items) (λ v. all_fit_by entry inside_fits v.items) rule bytes

-- A list that was read has this reading.
abbrev pub ListIsReadAs : {V Z : Type 0} → Result (Vec V Z) DecodeError → (V → Attribute) → (V → Bool) →
    Option (List AttributeReading) → Type 0
ListIsReadAs result entry inside_fits reading =
    IfOk result (λ v. reading ≡ Some (map (written_as entry inside_fits) v.items))

-- A value that was read is written as the attribute's canonical form under the row, and everything inside fits if and
-- only if the row says so.
abbrev pub IsRewrittenBy : {V : Type 0} → Result V DecodeError → (V → Attribute) → (V → Bool) → Row → Attribute → Type 0
IsRewrittenBy result entry inside_fits row attribute =
    IfOk result (λ v. (entry v ≡ canonical_form row attribute) × (inside_fits v ≡ row.rule.fits attribute.payload))

-- P holds for the value, if one was read.
abbrev pub IfRead : {T E : Type 0} → Result (Option T) E → (T → Type 0) → Type 0
IfRead result P = IfOk result (λ o. IfSome o P)

-- A value that was read under a row, if there is one, is written as the attribute's canonical form, and everything
-- inside fits if and only if the row says so.
abbrev pub RowIsRewrittenBy : {V : Type 0} → Result (Option V) DecodeError → (V → Attribute) → (V → Bool) → Row →
    Attribute → Type 0
RowIsRewrittenBy result entry inside_fits row attribute =
    IfRead result (λ v. (entry v ≡ canonical_form row attribute) × (inside_fits v ≡ row.rule.fits attribute.payload))
