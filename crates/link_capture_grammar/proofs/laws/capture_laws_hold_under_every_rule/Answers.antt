use Rattle.link_capture_grammar.proofs.EveryRule.{every_rule}
use Rattle.link_capture_grammar.proofs.laws.capture_laws_hold_under_every_rule.Goals as goal

pub returns : goal.returns
returns c = every_rule
