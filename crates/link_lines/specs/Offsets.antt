-- The offset of a message in its first line.
use Rattle.std.specs.Prelude.{ℕ, List, ◌++◌, codes, take, drop}
use Rattle.std.specs.Fmt.{decimal}
use Rattle.std.specs.List.{prefix_len}
use Rattle.link_lines_parts.specs.Lines.{is_in_line}

-- The lines of a message, with ` offset N` at the end of the first line.
abbrev pub with_offset : ℕ → List ℕ → List ℕ
with_offset offset text =
    take (prefix_len is_in_line text) text ++
    (codes " offset " ++ (decimal offset ++ drop (prefix_len is_in_line text) text))
