-- Link info: data under the kind in force.
use Rattle.std.specs.Prelude.{◌≡◌, ℕ, Bool, true, false, ⊤, List, Option, Some, None, option_map}
use Rattle.std.specs.Borrow.{Bor}
use Rattle.netlink_packet_core.specs.Attributes.{Attribute, proper_kind}
use Rattle.netlink_packet_core.specs.AttributeViews.{viewed_attribute, viewed_kind, viewed_payload}
use Rattle.attribute_tables_grammar.specs.Lists.{Context, Row, canonical_form}
use Rattle.attribute_tables_grammar.specs.Peers.{RuleOfPeers, bytes_peer}
use Rattle.attribute_tables_grammar.specs.Tables.{info_next}
use Rattle.link_info_grammar.specs.LinkInfo.{link_info_row}
use Rattle.link_info_kinds.specs.Kinds.{info_kind_entry, info_kind_is_named, IsNamedBy}
use Rattle.link_info_kinds.specs.PortKinds.{info_port_kind_entry, info_port_kind_is_named, IsPortNamedBy}
use Rattle.link_info_kinds.specs.declared.info_kind.InfoKind.{InfoKind}
use Rattle.link_info_kinds.specs.declared.info_port_kind.InfoPortKind.{InfoPortKind}
use Rattle.link_info_data.specs.Data.{info_data_entry, info_data_fits, info_data_is_row_variant}
use Rattle.link_info_data.specs.PortData.{info_port_data_entry, info_port_data_fits, info_port_data_is_row_variant}
use Rattle.link_info_data.specs.Xstats.{xstats_bytes}
use Rattle.link_info_data.specs.declared.info_data.InfoData.{InfoData}
use Rattle.link_info_data.specs.declared.info_port.InfoPortData.{InfoPortData}
use Rattle.link_info.specs.declared.infos.NamesInForce.{NamesInForce}
use Rattle.link_info.specs.declared.infos.LinkInfo.{LinkInfo}
use Rattle.link_info.specs.declared.infos.LinkInfo.TheVariants as Info

-- ---- the encoding of values

-- The attribute of a value.
abbrev pub link_info_entry : LinkInfo → Attribute
link_info_entry (Info.Xstats x) = record { kind = 3; payload = xstats_bytes x }
link_info_entry (Info.Kind k) = info_kind_entry k
link_info_entry (Info.Data d) = info_data_entry d
link_info_entry (Info.PortKind k) = info_port_kind_entry k
link_info_entry (Info.PortData d) = info_port_data_entry d
link_info_entry (Info.Other a) = a

-- Each length inside a value fits the 2 bytes of its header.
abbrev pub link_info_fits : LinkInfo → Bool
link_info_fits (Info.Data d) = info_data_fits d
link_info_fits (Info.PortData d) = info_port_data_fits d
link_info_fits _ = true

-- ---- the kinds in force

-- The context in which a kind and a port kind, borrowed from the list, are in force.
abbrev pub context_of : Option (Bor (List ℕ)) → Option (Bor (List ℕ)) → Context
context_of kind port_kind =
    record { kind = option_map (λ b. b.now) kind; port_kind = option_map (λ b. b.now) port_kind }

-- The context of the names that a reader of the list holds.
abbrev pub in_force : NamesInForce → Context
in_force f = context_of f.kind f.port_kind

-- ---- the attribute at the start of the bytes, under a rule of peers and in a context

-- The row of the first attribute.
abbrev pub row_in : RuleOfPeers → Context → List ℕ → Row
row_in p c b = link_info_row p c (proper_kind (viewed_kind b))

-- The row of the first attribute accepts its payload.
abbrev pub is_accepted_in : RuleOfPeers → Context → List ℕ → Bool
is_accepted_in p c b = (row_in p c b).rule.accepted (viewed_payload b)

-- Everything inside the first attribute fits, by its row.
abbrev pub fits_in : RuleOfPeers → Context → List ℕ → Bool
fits_in p c b = (row_in p c b).rule.fits (viewed_payload b)

-- The canonical form of the first attribute.
abbrev pub written_in : RuleOfPeers → Context → List ℕ → Attribute
written_in p c b = canonical_form (row_in p c b) (viewed_attribute b)

-- The context after the first attribute.
abbrev pub context_after_first : Context → List ℕ → Context
context_after_first c b = info_next c (proper_kind (viewed_kind b)) (viewed_payload b)

-- ---- values that are the variants of their rows

-- The data are the variant of the kind in force.
abbrev pub data_is_row_variant : Option (List ℕ) → InfoData → Type 0
data_is_row_variant None d = ⊥
data_is_row_variant (Some n) d = (k : InfoKind) × IsNamedBy n k × info_data_is_row_variant k d

-- The port data are the variant of the port kind in force.
abbrev pub port_data_is_row_variant : Option (List ℕ) → InfoPortData → Type 0
port_data_is_row_variant None d = ⊥
port_data_is_row_variant (Some n) d = (k : InfoPortKind) × IsPortNamedBy n k × info_port_data_is_row_variant k d

-- The value is the variant of its row in a context.
abbrev pub link_info_is_row_variant : Context → LinkInfo → Type 0
link_info_is_row_variant c (Info.Xstats x) = ⊤
link_info_is_row_variant c (Info.Kind k) = info_kind_is_named k ≡ true
link_info_is_row_variant c (Info.Data d) = data_is_row_variant c.kind d
link_info_is_row_variant c (Info.PortKind k) = info_port_kind_is_named k ≡ true
link_info_is_row_variant c (Info.PortData d) = port_data_is_row_variant c.port_kind d
link_info_is_row_variant c (Info.Other a) = (link_info_row bytes_peer c (proper_kind a.kind)).is_typed ≡ false
