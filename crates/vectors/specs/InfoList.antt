-- The expected result for a link info list.
use Rattle.std.specs.Prelude.{ℕ, List, codes, cond}
use Rattle.hex.specs.Hex.{encode_lower}
use Rattle.link_info.specs.InfoGrammar.{info_rule}
use Rattle.link_info.specs.Peers.{bytes_peer}

-- The result for a list: its canonical text in hex, `unfit` if an attribute of that is too long, or `refused`.
abbrev pub expected_line : List ℕ → List ℕ
expected_line list =
    cond ((info_rule bytes_peer).accepted list)
    (cond ((info_rule bytes_peer).fits list) (encode_lower ((info_rule bytes_peer).canonical list)) (codes "unfit"))
    (codes "refused")
