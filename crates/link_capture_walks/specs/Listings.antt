-- Lists of attributes, from some attribute on.
use Rattle.std.specs.Prelude.{ℕ, Bool, List}
use Rattle.attribute_tables_grammar.specs.Lists.{Context, no_kind_in_force}
use Rattle.attribute_tables_grammar.specs.Tables.{info_next}
use Rattle.link_tables.specs.InForce.{in_force}
use Rattle.link_capture_walks.specs.declared.listed.Listed.{Listed}

-- A list from some attribute on: which list it is, by its table, the kinds of link and of port in force there, and
-- whether peers inside the list are judged.
pub record Listing (T : Type 0) : Type 0 where
  pub table : T
  pub context : Context
  pub judged : Bool

-- The value of a list in code.
abbrev pub listing : {T : Type 0} → Listed T → Listing T
listing l = record { table = l.table; context = in_force l.force; judged = l.judged }

-- A list from its first attribute on.
abbrev pub whole : {T : Type 0} → T → Bool → Listing T
whole t judged = record { table = t; context = no_kind_in_force; judged = judged }

-- The rest of a list of link info after an attribute, whose kind has no flag bits: other kinds may be in force there.
abbrev pub after_info : {T : Type 0} → Listing T → ℕ → List ℕ → Listing T
after_info l k p = record { table = l.table; context = info_next l.context k p; judged = l.judged }
