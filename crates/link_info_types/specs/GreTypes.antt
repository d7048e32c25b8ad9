-- The numbers, texts and flags of GRE and ERSPAN.
use Rattle.std.specs.Prelude.{ℕ, List, [], ◌∷◌, ◌++◌, codes}
use Rattle.std.specs.Fmt.{decimal}
use Rattle.netlink_packet_core.specs.Named.{numbered_by}
use Rattle.link_info_types.specs.declared.gre.GreIOFlags.{GreIOFlags}
use Rattle.link_info_types.specs.declared.gre.GreEncapFlags.{GreEncapFlags}
use Rattle.link_info_types.specs.declared.gre.GreEncapType.{GreEncapType}
use Rattle.link_info_types.specs.declared.gre.ErSpanDir.{ErSpanDir}

-- The bits of a set of GRE header flags.
abbrev pub gre_io_flags_bits : GreIOFlags → ℕ
gre_io_flags_bits f = f.0

-- The GRE header flags that have a name, each with its bits.
abbrev pub gre_io_flags_table : List (List ℕ × ℕ)
gre_io_flags_table =
    (codes "Checksum", 0x8000) ∷
    (codes "Routing", 0x4000) ∷
    (codes "Key", 0x2000) ∷
    (codes "Seq", 0x1000) ∷
    (codes "Strict0", 0x0800) ∷
    (codes "Rec", 0x0700) ∷
    (codes "Ack", 0x0080) ∷
    (codes "Flags", 0x0078) ∷
    (codes "Version", 0x0007) ∷
    []

-- The bits of a set of GRE encapsulation flags.
abbrev pub gre_encap_flags_bits : GreEncapFlags → ℕ
gre_encap_flags_bits f = f.0

-- The GRE encapsulation flags that have a name, each with its bits.
abbrev pub gre_encap_flags_table : List (List ℕ × ℕ)
gre_encap_flags_table =
    (codes "Checksum", 0x01) ∷
    (codes "Checksum6", 0x02) ∷
    (codes "RemoteChecksum", 0x04) ∷
    []

-- The number and the display of a GRE encapsulation type.
abbrev pub gre_encap_type_row : GreEncapType → ℕ × List ℕ
gre_encap_type_row GreEncapType.None = (0, codes "none")
gre_encap_type_row GreEncapType.Fou = (1, codes "fou")
gre_encap_type_row GreEncapType.Gue = (2, codes "gue")
gre_encap_type_row (GreEncapType.Other n) = (n, codes "other(" ++ (decimal n ++ codes ")"))

-- The variants of a GRE encapsulation type, except `Other`, in the order of their numbers.
abbrev pub listed_gre_encap_types : List GreEncapType
listed_gre_encap_types = GreEncapType.None ∷ GreEncapType.Fou ∷ GreEncapType.Gue ∷ []

-- The number of a GRE encapsulation type.
abbrev pub gre_encap_type_number : GreEncapType → ℕ
gre_encap_type_number v = (gre_encap_type_row v).0

-- The GRE encapsulation type with this number.
abbrev pub gre_encap_type_of : ℕ → GreEncapType
gre_encap_type_of n = numbered_by gre_encap_type_number listed_gre_encap_types GreEncapType.Other n

-- The display of a GRE encapsulation type.
abbrev pub gre_encap_type_text : GreEncapType → List ℕ
gre_encap_type_text v = (gre_encap_type_row v).1

-- The number and the display of an ERSPAN direction.
abbrev pub er_span_dir_row : ErSpanDir → ℕ × List ℕ
er_span_dir_row ErSpanDir.Ingress = (0, codes "ingress")
er_span_dir_row ErSpanDir.Egress = (1, codes "egress")
er_span_dir_row (ErSpanDir.Other n) = (n, codes "other(" ++ (decimal n ++ codes ")"))

-- The variants of an ERSPAN direction, except `Other`, in the order of their numbers.
abbrev pub listed_er_span_dirs : List ErSpanDir
listed_er_span_dirs = ErSpanDir.Ingress ∷ ErSpanDir.Egress ∷ []

-- The number of an ERSPAN direction.
abbrev pub er_span_dir_number : ErSpanDir → ℕ
er_span_dir_number v = (er_span_dir_row v).0

-- The ERSPAN direction with this number.
abbrev pub er_span_dir_of : ℕ → ErSpanDir
er_span_dir_of n = numbered_by er_span_dir_number listed_er_span_dirs ErSpanDir.Other n

-- The display of an ERSPAN direction.
abbrev pub er_span_dir_text : ErSpanDir → List ℕ
er_span_dir_text v = (er_span_dir_row v).1
