-- The lines of bodies of messages other than links: the record at their start, and attributes.
use Rattle.std.specs.Prelude.{ℕ, ◌%◌, ◌==◌, ◌&&◌, nat_le, Bool, true, false, cond, List, [], ◌∷◌, length}
use Rattle.std.specs.Prelude.{take, drop, Option, Some, None}
use Rattle.link_lines_values.specs.Records.{is_record, total_size}
use Rattle.link_lines_raw.specs.declared.bodies.BodyRow.{BodyRow}
use Rattle.link_lines_raw.specs.declared.bodies.Header.{Header}
use Rattle.link_lines_raw.specs.declared.bodies.Header.TheVariants as H
use Rattle.link_lines_raw.specs.declared.bodies.TheConstants.{BODIES}
use Rattle.link_lines_raw.specs.declared.lists.ListedBy.TheVariants as L
use Rattle.link_lines_raw.specs.declared.raw_tables.RawTable.{RawTable}
use Rattle.link_lines_raw.specs.declared.records.TheConstants.{TIMESTAMP_LINE, IFADDRMSG_LINE, RTMSG_LINE, NDMSG_LINE}
use Rattle.link_lines_raw.specs.declared.records.TheConstants.{FIB_RULE_HDR_LINE, TCMSG_LINE, TCMSG_FILTER_LINE}
use Rattle.link_lines_raw.specs.declared.records.TheConstants.{TCAMSG_LINE, PREFIXMSG_LINE, NDTMSG_LINE}
use Rattle.link_lines_raw.specs.declared.records.TheConstants.{IFADDRLBLMSG_LINE, NETCONFMSG_LINE, BR_PORT_MSG_LINE}
use Rattle.link_lines_raw.specs.declared.records.TheConstants.{RTGEN_LINE, RTGENMSG_LINE, IFINFOMSG_LINE}
use Rattle.link_lines_raw.specs.declared.records.TheConstants.{IF_STATS_MSG_LINE, NHMSG_LINE}
use Rattle.link_lines_raw.specs.declared.records.TheConstants.{BR_VLAN_MSG_LINE, TUNNEL_MSG_LINE}
use Rattle.link_lines_raw.specs.Attributes.{is_whole, record_words}
use Rattle.link_lines_raw.specs.Lines.{Line, lines_text}
use Rattle.link_lines_raw.specs.Lists.{listed_lines}
use Rattle.link_lines_raw.specs.Rows.{RecordLine, record_line_of}

-- The record at the start of a body.
unfoldable pub header_line : Header → RecordLine
header_line H.Timestamp = record_line_of (λ n. n.now) TIMESTAMP_LINE
header_line H.Ifaddrmsg = record_line_of (λ n. n.now) IFADDRMSG_LINE
header_line H.Rtmsg = record_line_of (λ n. n.now) RTMSG_LINE
header_line H.Ndmsg = record_line_of (λ n. n.now) NDMSG_LINE
header_line H.FibRuleHdr = record_line_of (λ n. n.now) FIB_RULE_HDR_LINE
header_line H.Tcmsg = record_line_of (λ n. n.now) TCMSG_LINE
header_line H.TcmsgFilter = record_line_of (λ n. n.now) TCMSG_FILTER_LINE
header_line H.Tcamsg = record_line_of (λ n. n.now) TCAMSG_LINE
header_line H.Prefixmsg = record_line_of (λ n. n.now) PREFIXMSG_LINE
header_line H.Ndtmsg = record_line_of (λ n. n.now) NDTMSG_LINE
header_line H.Ifaddrlblmsg = record_line_of (λ n. n.now) IFADDRLBLMSG_LINE
header_line H.Netconfmsg = record_line_of (λ n. n.now) NETCONFMSG_LINE
header_line H.BrPortMsg = record_line_of (λ n. n.now) BR_PORT_MSG_LINE
header_line H.Rtgen = record_line_of (λ n. n.now) RTGEN_LINE
header_line H.Rtgenmsg = record_line_of (λ n. n.now) RTGENMSG_LINE
header_line H.Ifinfomsg = record_line_of (λ n. n.now) IFINFOMSG_LINE
header_line H.IfStatsMsg = record_line_of (λ n. n.now) IF_STATS_MSG_LINE
header_line H.Nhmsg = record_line_of (λ n. n.now) NHMSG_LINE
header_line H.BrVlanMsg = record_line_of (λ n. n.now) BR_VLAN_MSG_LINE
header_line H.TunnelMsg = record_line_of (λ n. n.now) TUNNEL_MSG_LINE

-- Whether two booleans are equal.
abbrev pub is_same : Bool → Bool → Bool
is_same true b = b
is_same false true = false
is_same false false = true

-- Whether it matters to a row that messages are requests, and they aren't as it says.
abbrev pub fits_request : Option Bool → Bool → Bool
fits_request None is_request = true
fits_request (Some b) is_request = is_same b is_request

-- Whether bytes begin with an address family, if it matters to a row.
abbrev pub fits_family : Option ℕ → List ℕ → Bool
fits_family None bytes = true
fits_family (Some family) [] = false
fits_family (Some family) (b ∷ bytes) = b == family

-- Whether a row is for the body of a message.
abbrev pub fits_body : BodyRow → ℕ → Bool → List ℕ → Bool
fits_body row message_type is_request bytes =
    nat_le row.0 message_type && (nat_le message_type row.1 && (fits_request row.2 is_request &&
    fits_family row.3 bytes))

-- The first of some rows that is for the body of a message.
abbrev pub first_fitting : List BodyRow → ℕ → Bool → List ℕ → Option BodyRow
first_fitting [] message_type is_request bytes = None
first_fitting (row ∷ rows) message_type is_request bytes =
    cond (fits_body row message_type is_request bytes) (Some row) (first_fitting rows message_type is_request bytes)

-- Whether bytes are attributes up to the end if there is a table of them, and otherwise empty.
abbrev pub is_list_of : Option RawTable → List ℕ → Bool
is_list_of None bytes = length bytes == 0
is_list_of (Some table) bytes = is_whole bytes

-- The lines of attributes after a record, if there is a table of them.
abbrev pub list_lines_of : Option RawTable → List ℕ → List Line
list_lines_of None bytes = []
list_lines_of (Some table) bytes = listed_lines 1 (L.Attributes table bytes) bytes

-- Whether bytes are a record and the attributes after it.
abbrev pub is_record_and_list : RecordLine → Option RawTable → List ℕ → Bool
is_record_and_list line table bytes =
    nat_le (total_size line.1) (length bytes) && (is_record line.1 (take (total_size line.1) bytes) &&
    is_list_of table (drop (total_size line.1) bytes))

-- The lines of a record and the attributes after it.
abbrev pub record_and_list_lines : RecordLine → Option RawTable → List ℕ → List Line
record_and_list_lines line table bytes =
    (1, record_words line (take (total_size line.1) bytes)) ∷ list_lines_of table (drop (total_size line.1) bytes)

-- The lines of a record and the attributes after it, if bytes are exactly that.
abbrev pub record_and_list : RecordLine → Option RawTable → List ℕ → Option (List Line)
record_and_list line table bytes =
    cond (is_record_and_list line table bytes) (Some (record_and_list_lines line table bytes)) None

-- The record of this size that a request of any type may be alone: the address family in 1 byte or in 4, or the header of
-- links.
abbrev pub general_header : ℕ → Option Header
general_header size =
    cond (size == 1) (Some H.Rtgen) (cond (size == 4) (Some H.Rtgenmsg) (cond (size == 16) (Some H.Ifinfomsg) None))

-- The lines of a record alone, if there is one.
abbrev pub alone_lines : Option Header → List ℕ → Option (List Line)
alone_lines None bytes = None
alone_lines (Some header) bytes = record_and_list (header_line header) None bytes

-- The lines of a body that is such a record alone, in a message type that asks for objects.
abbrev pub general_lines : ℕ → List ℕ → Option (List Line)
general_lines message_type bytes =
    cond (message_type % 4 == 2) (alone_lines (general_header (length bytes)) bytes) None

-- The first lines, if there are any, else the second.
abbrev pub lines_or : Option (List Line) → Option (List Line) → Option (List Line)
lines_or None others = others
lines_or (Some lines) others = Some lines

-- The lines of a body: by its row, if the body is exactly what the row says, and else as a record that any request may
-- be.
abbrev pub row_lines : Option BodyRow → ℕ → List ℕ → Option (List Line)
row_lines None message_type bytes = None
row_lines (Some row) message_type bytes =
    lines_or (record_and_list (header_line row.4) row.5 bytes) (general_lines message_type bytes)

-- The lines of the body of a message, by its type and whether it is a request, if they determine the body.
unfoldable pub body_lines : ℕ → Bool → List ℕ → Option (List Line)
body_lines message_type is_request bytes =
    row_lines (first_fitting BODIES.now message_type is_request bytes) message_type bytes

-- Whether there are lines.
abbrev pub has_lines : Option (List Line) → Bool
has_lines None = false
has_lines (Some lines) = true

-- The text of lines, if there are any.
abbrev pub text_or_none : Option (List Line) → List ℕ
text_or_none None = []
text_or_none (Some lines) = lines_text lines
