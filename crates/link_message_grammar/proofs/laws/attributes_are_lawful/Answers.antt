use Rattle.link_message_grammar.proofs.Tables.{table_lawful}
use Rattle.link_message_grammar.proofs.laws.attributes_are_lawful.Goals as goal

pub returns : goal.returns
returns c = table_lawful
