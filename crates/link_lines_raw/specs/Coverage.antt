-- Tests of the tables of raw attributes, by computation: the lines of each row determine what the row holds.
use Rattle.std.specs.Prelude.{ℕ, ◌&&◌, not, nat_le, Bool, true, false, List, [], ◌∷◌, Option, Some, None, bytes_eq, codes}
use Rattle.std.specs.List.{list_all}
use Rattle.link_lines_values.specs.DenseRows.{find}
use Rattle.link_lines_values.specs.Exact.{determines_exact}
use Rattle.link_lines_values.specs.Records.{fields_determine, has_no_booleans, total_size}
use Rattle.link_lines_values.specs.Values.{are_fields_on_a_line}
use Rattle.link_lines_raw.specs.declared.rows.Choice.TheVariants as C
use Rattle.link_lines_raw.specs.declared.rows.RawBy.TheVariants as R
use Rattle.link_lines_raw.specs.Choices.{choices_of}
use Rattle.link_lines_raw.specs.Names.{Named, NameRowOf, all_named_rows, has_name, is_word, names_apart}
use Rattle.link_lines_raw.specs.Rows.{Raw, RecordLine}
use Rattle.link_lines_raw.specs.Tables.{raw_groups}

-- Whether a byte string is a word that begins with a byte from `A` on.
abbrev pub is_line_word : List ℕ → Bool
is_line_word [] = false
is_line_word (c ∷ s) = nat_le 65 c && is_word s

-- Whether the line of a record determines the record, is one line, and isn't a line of padding.
abbrev pub is_line_determined : RecordLine → Bool
is_line_determined line =
    is_line_word line.0 && (fields_determine 32 line.1 && (has_no_booleans line.1 && (are_fields_on_a_line line.1 &&
    not (bytes_eq line.0 (codes "padding")))))

-- Whether the lines of records, one after the other, determine them.
abbrev pub are_lines_determined : RecordLine → Bool
are_lines_determined line = is_line_determined line && nat_le 1 (total_size line.1)

-- Whether the lines of what a row holds determine it.
abbrev pub determines_raw : Raw → Bool
determines_raw (R.Value shown) = determines_exact shown
determines_raw (R.List table) = true
determines_raw (R.Chosen choice kind) = true
determines_raw (R.Head line table) = is_line_determined line
determines_raw (R.HeadAndRecords head line) = is_line_determined head && are_lines_determined line
determines_raw (R.Hops table) = true
determines_raw (R.Records line) = are_lines_determined line

-- Whether the lines of what the row of a kind holds determine it.
abbrev pub is_row_determined : ℕ → Named Raw → Bool
is_row_determined kind row = determines_raw row.1

-- Whether an attribute holds a value.
abbrev pub is_value : Raw → Bool
is_value (R.Value shown) = true
is_value raw = false

-- Whether a row, if there is one, holds a value.
abbrev pub has_value : Option (Named Raw) → Bool
has_value None = false
has_value (Some row) = is_value row.1

-- Whether the attribute that chooses what a row holds, if there is one, holds a value.
abbrev pub is_chosen_by_value : List (NameRowOf Raw) → ℕ → Named Raw → Bool
is_chosen_by_value rows kind (name, R.Chosen choice k) = has_value (find k rows)
is_chosen_by_value rows kind (name, raw) = true

-- Whether the rows of a table have different names, their lines determine what they hold, and what chooses is a value.
abbrev pub is_table_determined : List (NameRowOf Raw) → Bool
is_table_determined rows =
    all_named_rows has_name rows && (all_named_rows is_row_determined rows && (names_apart rows &&
    all_named_rows (is_chosen_by_value rows) rows))

-- Whether a property holds for each table.
abbrev pub in_each : (List (NameRowOf Raw) → Bool) → Bool
in_each f = list_all (λ rows. list_all f rows) raw_groups

-- Whether a property holds for what is chosen in each set of choices.
abbrev pub in_each_choice : (Raw → Bool) → Bool
in_each_choice f =
    list_all (λ row. f row.1) (choices_of C.Encapsulation) && (list_all (λ row. f row.1) (choices_of C.Options) &&
    list_all (λ row. f row.1) (choices_of C.ActionOptions))
