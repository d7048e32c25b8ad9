-- Rows of raw attributes: a kind's name, and what its payload holds.
use Rattle.std.specs.Prelude.{ℕ, List, Option}
use Rattle.link_lines_values.specs.declared.fields.Layout.{Layout}
use Rattle.link_lines_values.specs.declared.number_tables.Numbers.{Numbers}
use Rattle.link_lines_values.specs.declared.exact.ExactBy.{ExactBy}
use Rattle.link_lines_values.specs.Exact.{Exact, exact_of}
use Rattle.link_lines_values.specs.Layouts.{layout_fields}
use Rattle.link_lines_values.specs.Records.{Field}
use Rattle.link_lines_raw.specs.declared.rows.RawBy.{RawBy}
use Rattle.link_lines_raw.specs.declared.rows.RawBy.TheVariants as R
use Rattle.link_lines_raw.specs.declared.rows.RecordLineOf.{RecordLineOf}
use Rattle.link_lines_raw.specs.Names.{NameRowOf, rows_in_code}

-- A record that has a line of its own: the line's first word, and the record's fields.
abbrev pub RecordLine : Type 0
RecordLine = RecordLineOf (List ℕ) (List Field)

-- What a raw attribute holds.
abbrev pub Raw : Type 0
Raw = RawBy Exact RecordLine

-- The record that a value in code represents.
abbrev pub record_line_of : {N : Type 0} → (N → List ℕ) → RecordLineOf N Layout → RecordLine
record_line_of f line = (f line.0, layout_fields line.1)

-- The row that a value in code represents.
abbrev pub raw_of : {N : Type 0} → (N → List ℕ) → RawBy (ExactBy Numbers Layout) (RecordLineOf N Layout) → Raw
raw_of f (R.Value shown) = R.Value (exact_of shown)
raw_of f (R.List table) = R.List table
raw_of f (R.Chosen choice kind) = R.Chosen choice kind
raw_of f (R.Head line table) = R.Head (record_line_of f line) table
raw_of f (R.HeadAndRecords head line) = R.HeadAndRecords (record_line_of f head) (record_line_of f line)
raw_of f (R.Hops table) = R.Hops table
raw_of f (R.Records line) = R.Records (record_line_of f line)

-- The rows that a constant in code represents.
abbrev pub raw_rows_in_code : {N : Type 0} → (N → List ℕ) →
    List (ℕ × Option (N × RawBy (ExactBy Numbers Layout) (RecordLineOf N Layout))) → List (NameRowOf Raw)
raw_rows_in_code f rows = rows_in_code f (raw_of f) rows
