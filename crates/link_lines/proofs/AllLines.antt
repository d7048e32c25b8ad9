-- All lines of a message are shown.
use Rattle.std.proofs.Common.{◌≡◌, ℕ, false, cond, List, [], refl, ap, ◌∙◌}
use Rattle.link_lines.specs.MessageLaws.{NothingOmittedKeepsAll, all_messages, all_messages_with_offsets}
use Rattle.link_lines_parts.specs.Remaining.{remaining_lines}
use Rattle.link_lines.specs.MessageLines.{SelectsAllLines, Selection, is_about_given, output_lines, selected}

pub all_selected : NothingOmittedKeepsAll → (o : Selection) → SelectsAllLines o → (lines : List ℕ) → selected o lines ≡ lines
all_selected all o w lines =
    ap (λ link. cond (is_about_given link lines) (remaining_lines o.omitted lines) []) w.link
    ∙ ap (λ omitted. remaining_lines omitted lines) w.omitted ∙ all o.omitted.numbers lines

-- The selections of the laws show all lines.
pub all_are_whole : SelectsAllLines all_messages × SelectsAllLines all_messages_with_offsets
all_are_whole = (record { link = refl; omitted = refl }, record { link = refl; omitted = refl })

pub all_lines : NothingOmittedKeepsAll → (o : Selection) → SelectsAllLines o → o.offsets ≡ false → o.json ≡ false → (offset : ℕ) (lines : List ℕ) → output_lines o offset lines ≡ lines
all_lines all o w e j offset lines = rw (e, j) (all_selected all o w lines)
