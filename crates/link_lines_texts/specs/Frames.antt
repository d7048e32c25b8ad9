-- The lines of a message: that of its header, of a link's header, and of its attributes.
use Rattle.std.specs.Prelude.{ℕ, ◌-◌, ◌%◌, ◌==◌, ◌||◌, ◌&&◌, not, nat_le, bit_and, Bool, true, false, cond, List, [], ◌∷◌}
use Rattle.std.specs.Prelude.{◌++◌, length, take, drop, codes, decimal, Option, Some, None}
use Rattle.netlink_packet_core_grammar.specs.Attributes.{nla_align}
use Rattle.netlink_packet_core_grammar.specs.Numbers.{u16_at, u32_at}
use Rattle.link_capture_grammar.specs.Bodies.{is_link_type}
use Rattle.link_lines_values.specs.declared.error_texts.TheConstants.{ERROR}
use Rattle.link_lines_values.specs.declared.flag_names.TheConstants.{MESSAGE_FLAGS, MESSAGE_GET_FLAGS, MESSAGE_CREATE_FLAGS}
use Rattle.link_lines_values.specs.declared.flag_names.TheConstants.{MESSAGE_DELETE_FLAGS, MESSAGE_ACK_FLAGS}
use Rattle.link_lines_values.specs.declared.number_texts.TheConstants.{MESSAGE_TYPE}
use Rattle.link_lines_values.specs.declared.values.ShownBy.TheVariants.{Signed}
use Rattle.link_lines_values.specs.Bytes.{is_zero}
use Rattle.link_lines_values.specs.Flags.{named_flags}
use Rattle.link_lines_values.specs.Names.{Text, text_in}
use Rattle.link_lines_values.specs.NumberTexts.{number_texts}
use Rattle.link_lines_values.specs.Values.{value_text}
use Rattle.link_lines_parts.specs.BytesLines.{bytes_line}
use Rattle.link_lines_raw.specs.Acknowledgements.{acknowledgement_lines, is_acknowledgement}
use Rattle.link_lines_raw.specs.Bodies.{body_lines as raw_body_lines}
use Rattle.link_lines_raw.specs.Lines.{Line, lines_text}
use Rattle.link_lines_texts.specs.declared.format.Scope.{Scope}
use Rattle.link_lines_texts.specs.Format.{is_canonical_peer}
use Rattle.link_lines_texts.specs.Links.{labelled, link_header_line}
use Rattle.link_lines_texts.specs.Lists.{in_peer, list_lines, of_link}

-- The names of message types.
abbrev pub message_types : List Text
message_types = number_texts MESSAGE_TYPE

-- The names of errors.
abbrev pub errors : List Text
errors = number_texts ERROR

-- Whether there is a text.
abbrev pub has_text : List ℕ → Bool
has_text [] = false
has_text (c ∷ text) = true

-- The names of the flags of requests of a type, by what they ask for: to create or set, to delete, or to get.
unfoldable pub request_flag_names : ℕ → List Text
request_flag_names t =
    cond (t % 4 == 1) (number_texts MESSAGE_DELETE_FLAGS)
    (cond (t % 4 == 2) (number_texts MESSAGE_GET_FLAGS) (number_texts MESSAGE_CREATE_FLAGS))

-- The names of the flags that messages of a type have.
unfoldable pub flag_names : ℕ → List Text
flag_names t =
    cond ((t == 2) || (t == 3)) (number_texts MESSAGE_ACK_FLAGS)
    (cond (nat_le 16 t && has_text (text_in message_types t)) (request_flag_names t)
    (number_texts MESSAGE_FLAGS))

-- A name, or `type` and a number if the name is empty.
abbrev pub or_number : ℕ → List ℕ → List ℕ
or_number t [] = codes "type " ++ decimal t
or_number t (x ∷ name) = x ∷ name

-- The name of a message type, or its number.
unfoldable pub type_text : ℕ → List ℕ
type_text t = or_number t (text_in message_types t)

-- Sequence number and port number, or nothing if they are left out.
abbrev pub numbers_text : Bool → List ℕ → List ℕ
numbers_text false f = []
numbers_text true f =
    labelled (codes " seq ") (decimal (u32_at 8 f)) ++ labelled (codes " port ") (decimal (u32_at 12 f))

-- The line of a message's header: type, flags and numbers.
unfoldable pub header_line : Bool → List ℕ → List ℕ
header_line numbers f =
    type_text (u16_at 4 f) ++
    (labelled (codes " flags ") (named_flags (flag_names (u16_at 4 f)) (u16_at 6 f)) ++
    (numbers_text numbers f ++ 10 ∷ []))

-- The line of the header of the request that an NLMSG_ERROR is about: its length, then its fields.
unfoldable pub request_line : Bool → List ℕ → List ℕ
request_line numbers r = labelled (codes "  request length ") (decimal (u32_at 0 r)) ++ (32 ∷ header_line numbers r)

-- What a link's attributes are in, in a message that is a request or not.
abbrev pub in_message : Bool → Scope
in_message is_request = record { is_in_peer = false; is_request = is_request }

-- The lines of the body of a link message, or of a peer; one without a header, which no normal text has, is shown as
-- bytes.
unfoldable pub link_lines : Scope → List ℕ → List ℕ
link_lines scope b =
    cond (nat_le 16 (length b)) (link_header_line 1 b ++ list_lines 1 (of_link scope b) (drop 16 b))
    (bytes_line (codes "body") b)

-- The types 108 to 110, RTM_NEWLINKPROP, RTM_DELLINKPROP and RTM_GETLINKPROP (rtnetlink.h), whose bodies are links'.
abbrev pub is_property_type : ℕ → Bool
is_property_type t = nat_le 108 t && nat_le t 110

-- The lines of the body of a message about a link's properties, which the normal text keeps as it is: those of a link if
-- it is a canonical peer, so that they determine its bytes, or else a line of its bytes.
unfoldable pub property_lines : Bool → List ℕ → List ℕ
property_lines is_request b =
    cond (is_canonical_peer b) (link_lines (in_peer (in_message is_request)) b) (bytes_line (codes "body") b)

-- Whether flags say that the attributes of an extended acknowledgement follow (netlink.h, NLM_F_ACK_TLVS).
abbrev pub has_attributes : ℕ → Bool
has_attributes flags = not (bit_and flags 512 == 0)

-- Whether flags say that only the header of the request is repeated (netlink.h, NLM_F_CAPPED).
abbrev pub is_capped : ℕ → Bool
is_capped flags = not (bit_and flags 256 == 0)

-- The number of bytes between the header of a request of this length and the padding before the attributes, if there
-- are attributes.
abbrev pub request_rest : ℕ → ℕ → Option ℕ
request_rest flags size =
    cond (has_attributes flags) (cond (is_capped flags) (Some 0) (cond (nat_le 16 size) (Some (size - 16)) None)) None

-- The number of bytes between a code without a request and the attributes, if there are attributes: they follow the
-- code of an NLMSG_DONE.
abbrev pub code_rest : ℕ → ℕ → Option ℕ
code_rest t flags = cond (t == 3 && has_attributes flags) (Some 0) None

-- Whether the first n bytes are followed by zeros up to a multiple of 4, and then by attributes up to the end.
abbrev pub is_followed : ℕ → List ℕ → Bool
is_followed n r =
    nat_le (nla_align n) (length r) && (is_zero (drop n (take (nla_align n) r)) && is_acknowledgement (drop (nla_align n) r))

-- The remaining bytes, as a line of the word `rest`, and the attributes after them, which there may be after n bytes.
unfoldable pub rest_lines : Option ℕ → List ℕ → List ℕ
rest_lines None r = bytes_line (codes "rest") r
rest_lines (Some n) r =
    cond (is_followed n r) (bytes_line (codes "rest") (take n r) ++
    lines_text (acknowledgement_lines (drop (nla_align n) r))) (bytes_line (codes "rest") r)

-- The lines for what follows the code: for an NLMSG_ERROR (netlink.h, struct nlmsgerr) the request's header, if it is
-- there; then the remaining bytes, and the attributes of an extended acknowledgement.
unfoldable pub after_code : Bool → ℕ → ℕ → List ℕ → List ℕ
after_code numbers t flags r =
    cond (t == 2 && nat_le 16 (length r)) (request_line numbers r ++
    rest_lines (request_rest flags (u32_at 0 r)) (drop 16 r)) (rest_lines (code_rest t flags) r)

-- The lines of the body of an NLMSG_ERROR or NLMSG_DONE: a signed code with the name of its error, and what follows it;
-- one without a code, which no normal text has, is shown as bytes.
unfoldable pub code_lines : Bool → ℕ → ℕ → List ℕ → List ℕ
code_lines numbers t flags b =
    cond (nat_le 4 (length b)) (codes "  code" ++
    (value_text (Signed errors) (take 4 b) ++ (10 ∷ [] ++ after_code numbers t flags (drop 4 b))))
    (bytes_line (codes "body") b)

-- The lines of a body, or else a line of its bytes.
abbrev pub or_bytes : Option (List Line) → List ℕ → List ℕ
or_bytes None b = bytes_line (codes "body") b
or_bytes (Some lines) b = lines_text lines

-- The lines of the body of a message other than a link, by its type.
unfoldable pub other_lines : ℕ → Bool → List ℕ → List ℕ
other_lines t is_request b =
    cond (is_property_type t) (property_lines is_request b) (or_bytes (raw_body_lines t is_request b) b)

-- Whether flags are those of a request: their lowest bit (netlink.h, NLM_F_REQUEST).
unfoldable pub has_request_flag : ℕ → Bool
has_request_flag flags = flags % 2 == 1

-- The lines of a message's body, by the message's type and flags.
unfoldable pub body_lines : Bool → ℕ → ℕ → List ℕ → List ℕ
body_lines numbers t flags b =
    cond (is_link_type t) (link_lines (in_message (has_request_flag flags)) b) (cond (t == 2 ||
    t == 3) (code_lines numbers t flags b) (other_lines t (has_request_flag flags) b))

-- The lines of a frame, given by its bytes without the padding; with sequence number and netlink port ID, or without.
unfoldable pub frame_lines : Bool → List ℕ → List ℕ
frame_lines numbers f = header_line numbers f ++ body_lines numbers (u16_at 4 f) (u16_at 6 f) (drop 16 f)
