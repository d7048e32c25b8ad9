use Rattle.std.proofs.Common.{refl}
use Rattle.link_lines_texts.proofs.attribute_names.data_names.Goals as goal

pub table_at-requires : goal.table_at-requires
table_at-requires c = refl
