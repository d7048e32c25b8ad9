-- The lines of a part, and those of the rest.
use Rattle.std.proofs.Common.{◌≡◌, ℕ, ◌+◌, List, [], ◌++◌, Option, Some, None, sym, ap, ◌∙◌}
use Rattle.netlink_packet_core_grammar.specs.Attributes.{Attribute}
use Rattle.link_lines_raw.specs.Lines.{lines_text}
use Rattle.link_lines_raw.specs.Lists.{Listed, first_part, inside_lines, listed_lines, part_lines, part_list, part_padding, part_with_head}
use Rattle.link_lines_raw.proofs.Spans.{lines_joined_text, no_text, part_is}
use Rattle.link_lines_raw.proofs.Unfolding.{next, none}

pub rest_text : (level : ℕ) (m : Listed) (rest : List ℕ) (e : Attribute) (padding : Option (List ℕ)) (after : List ℕ) → first_part m rest ≡ Some (e, after) → padding ≡ part_padding m e rest →
    lines_text (listed_lines level m rest) ≡ part_with_head level m e padding ++ (lines_text (inside_lines (level + 1) (part_list level m e)) ++ lines_text (listed_lines level m after))
rest_text level m rest e padding after h i =
    let inside = inside_lines (level + 1) (part_list level m e) in
    let more = listed_lines level m after in
    ap lines_text (next level m rest e after h) ∙ ap (λ o. lines_text (part_lines level m e o ++ (inside ++ more))) (sym i)
    ∙ lines_joined_text (part_lines level m e padding) (inside ++ more) ∙ ap (λ z. z ++ lines_text (inside ++ more)) (part_is level m e padding)
    ∙ ap (λ z. part_with_head level m e padding ++ z) (lines_joined_text inside more)

-- Of a part that lists nothing.
pub bare_text : (level : ℕ) (m : Listed) (rest : List ℕ) (e : Attribute) (padding : Option (List ℕ)) (after : List ℕ) → first_part m rest ≡ Some (e, after) → padding ≡ part_padding m e rest → part_list level m e ≡ None →
    lines_text (listed_lines level m rest) ≡ part_with_head level m e padding ++ lines_text (listed_lines level m after)
bare_text level m rest e padding after h i n =
    let more = lines_text (listed_lines level m after) in
    let own = part_with_head level m e padding in
    rest_text level m rest e padding after h i ∙ ap (λ o. own ++ (lines_text (inside_lines (level + 1) o) ++ more)) n ∙ ap (λ z. own ++ (z ++ more)) no_text

-- Nothing follows the last part.
pub end_text : (level : ℕ) (m : Listed) (rest : List ℕ) → first_part m rest ≡ None → lines_text (listed_lines level m rest) ≡ []
end_text level m rest h = ap lines_text (none level m rest h) ∙ no_text
