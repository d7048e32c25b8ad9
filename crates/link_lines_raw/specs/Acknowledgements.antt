-- The attributes of an extended acknowledgement (netlink.h, enum nlmsgerr_attrs), after an NLMSG_ERROR or NLMSG_DONE.
use Rattle.std.specs.Prelude.{ℕ, ◌&&◌, nat_lt, Bool, List, length}
use Rattle.link_lines_raw.specs.declared.lists.ListedBy.TheVariants as L
use Rattle.link_lines_raw.specs.declared.raw_tables.TheConstants.{ACKNOWLEDGEMENT}
use Rattle.link_lines_raw.specs.Attributes.{is_whole}
use Rattle.link_lines_raw.specs.Lines.{Line}
use Rattle.link_lines_raw.specs.Lists.{listed_lines}

-- Whether bytes are attributes up to the end, at least one.
abbrev pub is_acknowledgement : List ℕ → Bool
is_acknowledgement bytes = nat_lt 0 (length bytes) && is_whole bytes

-- The lines of the attributes, at level 1.
abbrev pub acknowledgement_lines : List ℕ → List Line
acknowledgement_lines bytes = listed_lines 1 (L.Attributes ACKNOWLEDGEMENT bytes) bytes
