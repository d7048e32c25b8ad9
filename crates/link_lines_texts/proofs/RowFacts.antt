-- Entries in code, and what they represent.
use Rattle.std.proofs.Common.{◌≡◌, ℕ, List, Bor, Option}
use Rattle.std.specs.Prelude.{option_map}
use Rattle.link_lines_values.specs.declared.fields.Layout.{Layout}
use Rattle.link_lines_values.specs.declared.number_tables.Numbers.{Numbers}
use Rattle.link_lines_values.specs.declared.values.ShownBy.{ShownBy}
use Rattle.link_lines_values.specs.DenseRows.{find}
use Rattle.link_lines_texts.specs.declared.format.FormatBy.{FormatBy}
use Rattle.link_lines_texts.specs.Format.{inside_of}
use Rattle.link_lines_raw.proofs.RowsInCode as rows
use Rattle.link_lines_texts.specs.AttributeNames.{Name, AttributeRow, attribute_rows_of, viewed}

-- What follows a name, as code has it.
abbrev pub Format : Type 0
Format = FormatBy (ShownBy Numbers Layout)

-- An entry as code has it.
abbrev pub Row : Type 0
Row = ℕ × Option (Bor (List ℕ) × Format)

-- The entry that it represents.
abbrev pub name : Bor (List ℕ) × Format → Name
name n = viewed (λ x. x.now) n

-- A look-up in code, in terms of the entries that it represents.
pub at_kind : (k : ℕ) (r : Option (Bor (Bor (List ℕ) × Format))) (ts : List Row) (us : List AttributeRow) → option_map (λ n. n.now) r ≡ find k ts → attribute_rows_of (λ x. x.now) ts ≡ us → option_map (λ n. name n.now) r ≡ find k us
at_kind = rows.at_kind (λ x. x.now) inside_of
