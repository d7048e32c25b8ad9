use Rattle.linkcap_tests.proofs.TypeNames.{types_have_names}
use Rattle.linkcap_tests.proofs.lines.laws.types_have_names.Goals as goal

pub returns : goal.returns
returns c = types_have_names
