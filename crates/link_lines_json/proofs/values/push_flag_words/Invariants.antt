use Rattle.std.proofs.Common.{drop, flat_map, map, length}
use Rattle.link_lines_values.specs.Appends.{AppendsAllBut}
use Rattle.link_lines_json.specs.Values.{flag_json}
use Rattle.link_lines_parts.specs.Lines.{words_of}
use Rattle.link_lines_json.proofs.values.push_flag_words.Given as goal

abbrev pub invariant-loop-word : goal.invariant-loop-word
invariant-loop-word l =
    AppendsAllBut l.fn.out l.out (flat_map flag_json (map (λ word. drop 1 word) (words_of l.fn.names)))
    (flat_map flag_json (map (λ word. drop 1 word) (words_of l.left)))

abbrev pub decreases-loop-word : goal.decreases-loop-word
decreases-loop-word l = length l.left
