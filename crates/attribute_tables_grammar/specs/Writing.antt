-- The canonical encoding of a list, as it is written attribute by attribute.
use Rattle.std.specs.Prelude.{◌≡◌, ℕ, ◌+◌, ◌≤◌, true, List, ◌++◌, length, Some}
use Rattle.netlink_packet_core_grammar.specs.Attributes.{nla_align}
use Rattle.attribute_tables_grammar.specs.Rules.{Rule}
use Rattle.attribute_tables_grammar.specs.Lists.{Context, Grammar, ListForm, list_rule}
use Rattle.attribute_tables_grammar.specs.Walks.{Measure, measure_of_rest}
use Rattle.attribute_tables_grammar.specs.AlreadyCanonical.{text_from}

-- The payload is accepted and fits an attribute, for which the capacity is enough.
pub record IsWritable (r : Rule) (p : List ℕ) (capacity : ℕ) : Type 0 where
  pub accepted : r.accepted p ≡ true
  pub fits : r.fits p ≡ true
  pub short : 4 + length (r.canonical p) ≤ 65535
  pub within : nla_align (4 + length (r.canonical p)) ≤ capacity

-- What was written so far, followed by the encoding of the rest, is the old bytes followed by the encoding of the whole
-- list.
pub record WrittenSoFar (form : ListForm) (g : Grammar) (bytes old out : List ℕ) (c : Context) (rest : List ℕ) : Type 0
  where
    pub rest_measure : Measure
    pub walked : measure_of_rest form g c rest ≡ Some rest_measure
    pub fits : rest_measure.fits ≡ true
    pub text : List ℕ
    pub rest_text : text_from form g c rest ≡ Some text
    pub whole : out ++ text ≡ old ++ (list_rule form g).canonical bytes
