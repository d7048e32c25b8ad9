-- The payloads of the attributes of link info, by the kinds in force.
use Rattle.std.specs.Prelude.{ℕ, ◌==◌, cond, List, Option, Some, None, option_map}
use Rattle.attribute_tables_grammar.specs.Lists.{Context}
use Rattle.link_tables.specs.Names.{held_by_name}
use Rattle.link_tables.specs.declared.info.InForce.{InForce}
use Rattle.link_tables.specs.declared.kinds.TheConstants.{KINDS, PORT_KINDS}
use Rattle.link_tables.specs.declared.names.NameRow.{NameRow}
use Rattle.link_tables.specs.declared.rows.Held.{Held}
use Rattle.link_tables.specs.declared.rows.Held.TheVariants.{Plain}
use Rattle.link_tables.specs.declared.rows.Shape.TheVariants.{Text, Raw}

-- The context in the grammar of the kinds in force in code.
abbrev pub in_force : InForce → Context
in_force f = record { kind = option_map (λ b. b.now) f.kind; port_kind = option_map (λ b. b.now) f.port_kind }

-- The payload of data under the name in force, if there is one.
abbrev pub held_under : List NameRow → Option (List ℕ) → Option Held
held_under rows None = None
held_under rows (Some n) = Some (held_by_name rows n)

-- The payload of IFLA_INFO_DATA under the kind in force, if there is one.
unfoldable pub data_under : Option (List ℕ) → Option Held
data_under name = held_under KINDS name

-- The payload of IFLA_INFO_SLAVE_DATA under the port kind in force, if there is one.
unfoldable pub port_data_under : Option (List ℕ) → Option Held
port_data_under name = held_under PORT_KINDS name

-- The payload of IFLA_INFO_XSTATS, if a kind is in force: raw bytes.
abbrev pub statistics_under : Option (List ℕ) → Option Held
statistics_under None = None
statistics_under (Some n) = Some (Plain Raw)

-- The payload of an attribute whose kind has no flag bits; None if it depends on a kind, and none is in force.
abbrev pub held_in_force : Context → ℕ → Option Held
held_in_force c k =
    cond (k == 1) (Some (Plain Text))  -- IFLA_INFO_KIND
    (cond (k == 4) (Some (Plain Text))  -- IFLA_INFO_SLAVE_KIND
    (cond (k == 5) (port_data_under c.port_kind)  -- IFLA_INFO_SLAVE_DATA
    (cond (k == 2) (data_under c.kind)  -- IFLA_INFO_DATA
    (cond (k == 3) (statistics_under c.kind) (Some (Plain Raw))))))  -- IFLA_INFO_XSTATS
