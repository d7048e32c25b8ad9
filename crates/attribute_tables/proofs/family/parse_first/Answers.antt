use Rattle.attribute_tables.proofs.First.{family-first-judged, family-first-memory}
use Rattle.attribute_tables.proofs.family.parse_first.Goals as goal

pub returns-clause-judged : goal.returns-clause-judged
returns-clause-judged g c =
    let e = c.parse_first_by.ensures in
    family-first-judged c.single_first_attributes_are_read.ensures c.readings_determine_rules.ensures c.rows_are_looked_up.ensures g.F.Family.rows c.args.bytes.now c.parse_first_by.result e.judged e.whole e.allocates

pub returns-clause-memory : goal.returns-clause-memory
returns-clause-memory g c =
    let e = c.parse_first_by.ensures in
    family-first-memory c.first_attributes_are_viewed.ensures g.F.Family.rows c.args.bytes.now c.parse_first_by.result e.whole e.allocates
