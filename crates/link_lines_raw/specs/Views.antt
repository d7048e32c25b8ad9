-- The definitions that values in code represent.
use Rattle.std.specs.Prelude.{ℕ, List, Option}
use Rattle.std.specs.Borrow.{Bor}
use Rattle.link_lines_values.specs.declared.fields.Layout.{Layout}
use Rattle.link_lines_parts.specs.KindNames.{name_or_index}
use Rattle.link_lines_raw.specs.declared.lists.ListedBy.{ListedBy}
use Rattle.link_lines_raw.specs.declared.lists.ListedBy.TheVariants as L
use Rattle.link_lines_raw.specs.declared.rows.RecordLineOf.{RecordLineOf}
use Rattle.link_lines_raw.specs.Lists.{Listed}
use Rattle.link_lines_raw.specs.Names.{Named}
use Rattle.link_lines_raw.specs.Rows.{Raw, record_line_of}

-- What is listed, by a value in code.
abbrev pub listed_of : {N : Type 0} → (N → List ℕ) → ListedBy (Bor (List ℕ)) (RecordLineOf N Layout) → Listed
listed_of f (L.Attributes table list) = L.Attributes table list.now
listed_of f (L.NextHops table) = L.NextHops table
listed_of f (L.Records line) = L.Records (record_line_of f line)

-- What is listed and its bytes, by values in code.
abbrev pub listing : {N : Type 0} → (N → List ℕ) →
    ListedBy (Bor (List ℕ)) (RecordLineOf N Layout) × Bor (List ℕ) → Listed × List ℕ
listing f x = (listed_of f x.0, x.1.now)

-- The row of a kind that a value in code represents.
abbrev pub found_row : {N A : Type 0} → (N → List ℕ) → (A → Raw) → ℕ → Option N × A → Named Raw
found_row f g kind row = (name_or_index f kind row.0, g row.1)
