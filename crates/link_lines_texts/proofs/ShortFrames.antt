-- How long the lines of frames and of texts are.
use Rattle.std.proofs.Common.{◌≡◌, ℕ, ◌+◌, ◌*◌, ◌%◌, ◌^◌, ◌<◌, ◌≤◌, Bool, true, false, cond, List, [], ◌∷◌, ◌++◌, length, take, drop, Option, Some, None, refl, ap, ◌∙◌, arith}
use Rattle.std.specs.Prelude.{⊤, ◌==◌, ◌&&◌, ◌||◌, codes, decimal, nat_le}
use Rattle.std.proofs.lemmas.Bool.{and_parts, cond_both, leb-true}
use Rattle.std.proofs.lemmas.List.{length-append, length-drop, length-take}
use Rattle.netlink_packet_core_grammar.specs.Attributes.{nla_align}
use Rattle.netlink_packet_core_grammar.specs.Bytes.{AreBytes}
use Rattle.netlink_packet_core_grammar.specs.Frames.{frame_length, frame_type, begins_with_frame}
use Rattle.netlink_packet_core_grammar.specs.Numbers.{u16_at, u32_at}
use Rattle.netlink_packet_core_grammar.proofs.Bytes.{AreBytes-drop, AreBytes-take}
use Rattle.attribute_tables_grammar.specs.Shapes.{number}
use Rattle.link_capture_grammar.specs.Bodies.{is_link_type}
use Rattle.link_capture_grammar.proofs.WholeFrames.{by_first_frames, length_of}
use Rattle.link_lines_parts.specs.BytesLines.{bytes_line}
use Rattle.link_lines_values.specs.declared.flag_names.TheConstants.{MESSAGE_ACK_FLAGS, MESSAGE_CREATE_FLAGS, MESSAGE_DELETE_FLAGS, MESSAGE_FLAGS, MESSAGE_GET_FLAGS}
use Rattle.link_lines_values.specs.declared.values.ShownBy.TheVariants.{Signed}
use Rattle.link_lines_values.specs.Bytes.{bytes_text}
use Rattle.link_lines_values.specs.Flags.{named_flags}
use Rattle.link_lines_values.specs.Layouts.{layout_fields}
use Rattle.link_lines_values.specs.Digits.{half_of, is_signed_size, signed_by}
use Rattle.link_lines_values.specs.Names.{Text, bracketed, named_signed, text_in}
use Rattle.link_lines_values.specs.NumberTexts.{number_texts}
use Rattle.link_lines_values.specs.Values.{value_text}
use Rattle.link_lines_raw.specs.declared.bodies.Header.{Header}
use Rattle.link_lines_raw.specs.declared.bodies.Header.TheVariants as H
use Rattle.link_lines_raw.specs.declared.bodies.TheConstants.{BODIES}
use Rattle.link_lines_raw.specs.declared.lists.ListedBy.TheVariants as L
use Rattle.link_lines_raw.specs.declared.raw_tables.RawTable.{RawTable}
use Rattle.link_lines_raw.specs.declared.raw_tables.TheConstants.{ACKNOWLEDGEMENT}
use Rattle.link_lines_raw.specs.Acknowledgements.{acknowledgement_lines}
use Rattle.link_lines_raw.specs.Attributes.{record_words}
use Rattle.link_lines_raw.specs.Bodies.{body_lines as raw_body_lines, first_fitting, header_line as raw_header_line, is_record_and_list, list_lines_of, record_and_list, record_and_list_lines}
use Rattle.link_lines_raw.proofs.BodiesDetermined.{row_holds}
use Rattle.link_lines_raw.specs.Lines.{Line, line_text, lines_text}
use Rattle.link_lines_raw.specs.Rows.{RecordLine}
use Rattle.link_lines_raw.proofs.Spans.{first_line_text, no_text}
use Rattle.link_lines_values.specs.Records.{fields_text, total_size}
use Rattle.link_lines_texts.specs.declared.format.Scope.{Scope}
use Rattle.link_lines_texts.specs.Captures.{Choice, is_chosen, shown_lines, text_lines}
use Rattle.link_lines_texts.specs.Format.{is_canonical_peer}
use Rattle.link_lines_texts.specs.Frames.{after_code, body_lines, code_lines, code_rest, errors, flag_names, frame_lines, has_request_flag, has_text, header_line, in_message, is_followed, is_property_type, link_lines, message_types, numbers_text, or_bytes, or_number, other_lines, property_lines, request_flag_names, request_line, request_rest, rest_lines, type_text}
use Rattle.link_lines_texts.specs.Links.{link_header_line}
use Rattle.link_lines_texts.specs.Lists.{in_peer, list_lines, of_link}
use Rattle.link_lines_texts.proofs.FrameUnfolding.{stopped, whole}
use Rattle.link_lines_texts.specs.Growth.{factor, fields_most, is_short_first_line, joined_size, longest}
use Rattle.link_lines_texts.specs.Laws.{LinesAreShort}
use Rattle.link_lines_texts.proofs.ShortBytes.{bytes_text_short}
use Rattle.link_lines_texts.proofs.ShortNumbers.{IsSize, decimal_short, flags_short, name_short, signed_short, text_short}
use Rattle.link_lines_texts.proofs.ShortRawLists.{listed_lines_short}
use Rattle.link_lines_texts.proofs.ShortLists.{header_short, list_short, u16_small, u32_small}
use Rattle.link_lines_texts.proofs.ShortValues.{both, fields_short}

-- ---- lines of bytes

bytes_line_short : (name p : List ℕ) → length name ≤ 8 → length (bytes_line name p) ≤ factor * length p
unfolding bytes_line
bytes_line_short name [] h = omega arith
bytes_line_short name (b ∷ p) h = omega (arith, h, bytes_text_short (b ∷ p), length-append name (bytes_text (b ∷ p) ++ 10 ∷ []), length-append (bytes_text (b ∷ p)) (10 ∷ []))

-- ---- the header of a message

two : IsSize 2
two = record { low = omega arith; high = omega arith }

four : IsSize 4
four = record { low = omega arith; high = omega arith }

-- The length of the line of a message's header, at most.
abbrev header_most : ℕ
header_most = 400

types_short : nat_le (longest message_types) 40 ≡ true
unfolding number_texts
types_short = refl

-- The names of flags.
abbrev AreFlagsShort : List Text → Type 0
AreFlagsShort names = nat_le (joined_size names) 240 ≡ true

create_short : AreFlagsShort (number_texts MESSAGE_CREATE_FLAGS)
unfolding number_texts
create_short = refl

delete_short : AreFlagsShort (number_texts MESSAGE_DELETE_FLAGS)
unfolding number_texts
delete_short = refl

get_short : AreFlagsShort (number_texts MESSAGE_GET_FLAGS)
unfolding number_texts
get_short = refl

ack_short : AreFlagsShort (number_texts MESSAGE_ACK_FLAGS)
unfolding number_texts
ack_short = refl

plain_short : AreFlagsShort (number_texts MESSAGE_FLAGS)
unfolding number_texts
plain_short = refl

request_flags_short : (t : ℕ) → AreFlagsShort (request_flag_names t)
unfolding request_flag_names
request_flags_short t =
    cond_both (t % 4 == 1) (number_texts MESSAGE_DELETE_FLAGS) (cond (t % 4 == 2) (number_texts MESSAGE_GET_FLAGS) (number_texts MESSAGE_CREATE_FLAGS)) AreFlagsShort (λ e. delete_short)
    (λ e. cond_both (t % 4 == 2) (number_texts MESSAGE_GET_FLAGS) (number_texts MESSAGE_CREATE_FLAGS) AreFlagsShort (λ f. get_short) (λ f. create_short))

flag_names_short : (t : ℕ) → AreFlagsShort (flag_names t)
unfolding flag_names
flag_names_short t =
    let b = nat_le 16 t && has_text (text_in message_types t) in
    cond_both ((t == 2) || (t == 3)) (number_texts MESSAGE_ACK_FLAGS) (cond b (request_flag_names t) (number_texts MESSAGE_FLAGS)) AreFlagsShort (λ e. ack_short) (λ e. cond_both b (request_flag_names t) (number_texts MESSAGE_FLAGS) AreFlagsShort (λ f. request_flags_short t) (λ f. plain_short))

or_number_short : (t : ℕ) (name : List ℕ) → t < 256 ^ 2 → length name ≤ 40 → length (or_number t name) ≤ 40
or_number_short t [] h l = omega (arith, decimal_short 2 t two h)
or_number_short t (c ∷ name) h l = l

type_short : (t : ℕ) → t < 256 ^ 2 → length (type_text t) ≤ 40
unfolding type_text
type_short t h = or_number_short t (text_in message_types t) h (omega (arith, text_short message_types t, leb-true (longest message_types) 40 types_short))

numbers_short : (numbers : Bool) (f : List ℕ) → AreBytes f → length (numbers_text numbers f) ≤ 35
numbers_short false f a = omega arith
numbers_short true f a =
    let seq = decimal (u32_at 8 f) in
    let port = decimal (u32_at 12 f) in
    omega (arith, decimal_short 4 (u32_at 8 f) four (u32_small 8 f a), decimal_short 4 (u32_at 12 f) four (u32_small 12 f a), length-append (codes " seq " ++ seq) (codes " port " ++ port))

header_line_short : (numbers : Bool) (f : List ℕ) → AreBytes f → length (header_line numbers f) ≤ header_most
unfolding header_line
header_line_short numbers f a =
    let t = u16_at 4 f in
    let names = flag_names t in
    let flags = named_flags names (u16_at 6 f) in
    let shown = numbers_text numbers f in
    omega (
      arith,
      type_short t (u16_small 4 f a),
      leb-true (joined_size names) 240 (flag_names_short t),
      flags_short 2 names (u16_at 6 f) two (u16_small 6 f a),
      numbers_short numbers f a,
      length-append (type_text t) ((codes " flags " ++ flags) ++ (shown ++ 10 ∷ [])),
      length-append (codes " flags " ++ flags) (shown ++ 10 ∷ []),
      length-append shown (10 ∷ []),
    )

-- ---- bodies of links

link_short : (scope : Scope) (b : List ℕ) → AreBytes b → length (link_lines scope b) ≤ factor * length b
unfolding link_lines
link_short scope b a =
    let list = list_lines 1 (of_link scope b) (drop 16 b) in
    cond_both (nat_le 16 (length b)) (link_header_line 1 b ++ list) (bytes_line (codes "body") b) (λ s. length s ≤ factor * length b)
    (λ e. omega (arith, leb-true 16 (length b) e, header_short 1 b (omega arith) a, list_short 1 (of_link scope b) (drop 16 b) (omega arith) (AreBytes-drop 16 b a), length-drop 16 b, length-append (link_header_line 1 b) list))
    (λ e. bytes_line_short (codes "body") b (omega arith))

property_short : (is_request : Bool) (b : List ℕ) → AreBytes b → length (property_lines is_request b) ≤ factor * length b
unfolding property_lines
property_short is_request b a =
    cond_both (is_canonical_peer b) (link_lines (in_peer (in_message is_request)) b) (bytes_line (codes "body") b) (λ s. length s ≤ factor * length b) (λ e. link_short (in_peer (in_message is_request)) b a) (λ e. bytes_line_short (codes "body") b (omega arith))

-- ---- bodies of errors, and ends of dumps

request_short : (numbers : Bool) (r : List ℕ) → AreBytes r → length (request_line numbers r) ≤ factor * 16
unfolding request_line
request_short numbers r a =
    let size = decimal (u32_at 0 r) in
    omega (arith, decimal_short 4 (u32_at 0 r) four (u32_small 0 r a), header_line_short numbers r a, length-append (codes "  request length " ++ size) (32 ∷ header_line numbers r))

aligned : (n : ℕ) → n ≤ nla_align n
aligned n = omega arith

followed_short : (n : ℕ) (r : List ℕ) → AreBytes r → is_followed n r ≡ true → length (bytes_line (codes "rest") (take n r) ++ lines_text (acknowledgement_lines (drop (nla_align n) r))) ≤ factor * length r
followed_short n r a e =
    let m : ℕ = nla_align n in
    let list = drop m r in
    omega (
      arith,
      aligned n,
      leb-true m (length r) (and_parts (nat_le m (length r)) _ e).0,
      bytes_line_short (codes "rest") (take n r) (omega arith),
      listed_lines_short 1 (L.Attributes ACKNOWLEDGEMENT list) list (omega arith) (record {}) (AreBytes-drop m r a),
      length-take n r,
      length-drop m r,
      length-append (bytes_line (codes "rest") (take n r)) (lines_text (acknowledgement_lines list)),
    )

rest_short : (o : Option ℕ) (r : List ℕ) → AreBytes r → length (rest_lines o r) ≤ factor * length r
unfolding rest_lines
rest_short None r a = bytes_line_short (codes "rest") r (omega arith)
rest_short (Some n) r a =
    cond_both (is_followed n r) (bytes_line (codes "rest") (take n r) ++ lines_text (acknowledgement_lines (drop (nla_align n) r))) (bytes_line (codes "rest") r) (λ s. length s ≤ factor * length r)
    (λ e. followed_short n r a e) (λ e. bytes_line_short (codes "rest") r (omega arith))

after_code_short : (numbers : Bool) (t flags : ℕ) (r : List ℕ) → AreBytes r → length (after_code numbers t flags r) ≤ factor * length r
unfolding after_code
after_code_short numbers t flags r a =
    let request = request_line numbers r in
    let rest = rest_lines (request_rest flags (u32_at 0 r)) (drop 16 r) in
    cond_both (t == 2 && nat_le 16 (length r)) (request ++ rest) (rest_lines (code_rest t flags) r) (λ s. length s ≤ factor * length r)
    (λ e. omega (arith, leb-true 16 (length r) (and_parts (t == 2) _ e).1, request_short numbers r a, rest_short (request_rest flags (u32_at 0 r)) (drop 16 r) (AreBytes-drop 16 r a), length-drop 16 r, length-append request rest)) (λ e. rest_short (code_rest t flags) r a)

errors_short : nat_le (longest errors) 40 ≡ true
unfolding number_texts
errors_short = refl

-- The number of 4 bytes, or of fewer, and its name.
code_size : (p : List ℕ) → length p ≤ 4 → length (value_text (Signed errors) p) ≤ 65
code_size p h =
    both (is_signed_size (length p)) (32 ∷ named_signed errors (length p) (number p)) (bytes_text p) 65
    (λ e. omega (arith, h, signed_short (length p) (number p), name_short errors (number p), leb-true (longest errors) 40 errors_short, length-append (signed_by (half_of (length p)) (number p)) (bracketed (text_in errors (number p)))))
    (λ e. omega (arith, bytes_text_short p, h))

line_end : (s t : List ℕ) → length (s ++ (10 ∷ [] ++ t)) ≡ length s + 1 + length t
line_end s t = length-append s (10 ∷ [] ++ t) ∙ omega arith

code_short : (numbers : Bool) (t flags : ℕ) (b : List ℕ) → AreBytes b → length (code_lines numbers t flags b) ≤ factor * length b
unfolding code_lines
code_short numbers t flags b a =
    let code = value_text (Signed errors) (take 4 b) in
    let after = after_code numbers t flags (drop 4 b) in
    cond_both (nat_le 4 (length b)) (codes "  code" ++ (code ++ (10 ∷ [] ++ after))) (bytes_line (codes "body") b) (λ s. length s ≤ factor * length b)
    (λ e. omega (arith, leb-true 4 (length b) e, code_size (take 4 b) (omega (arith, length-take 4 b)), after_code_short numbers t flags (drop 4 b) (AreBytes-drop 4 b a), length-drop 4 b, line_end code after))
    (λ e. bytes_line_short (codes "body") b (omega arith))

-- ---- other bodies

headers_short : (h : Header) → is_short_first_line (raw_header_line h) ≡ true
unfolding raw_header_line layout_fields number_texts
headers_short H.Timestamp = refl
headers_short h = refl

list_of_short : (table : Option RawTable) (p : List ℕ) → AreBytes p → length (lines_text (list_lines_of table p)) ≤ factor * length p
list_of_short None p a = omega (arith, ap length no_text)
list_of_short (Some t) p a = listed_lines_short 1 (L.Attributes t p) p (omega arith) (record {}) a

-- Lines, if there are any, are short enough.
abbrev AreLinesShort : Option (List Line) → List ℕ → Type 0
AreLinesShort None b = ⊤
AreLinesShort (Some lines) b = length (lines_text lines) ≤ factor * length b

record_by : (line : RecordLine) (table : Option RawTable) (b : List ℕ) → is_short_first_line line ≡ true → AreBytes b → is_record_and_list line table b ≡ true → length (lines_text (record_and_list_lines line table b)) ≤ factor * length b
record_by line table b k a e =
    let n = total_size line.1 in
    let words = record_words line (take n b) in
    let list = list_lines_of table (drop n b) in
    omega (
      arith,
      leb-true n (length b) (and_parts (nat_le n (length b)) _ e).0,
      leb-true (3 + length line.0 + fields_most line.1) (factor * n) k,
      fields_short 32 false line.1 (take n b) (AreBytes-take n b a),
      length-append line.0 (fields_text 32 false line.1 (take n b)),
      list_of_short table (drop n b) (AreBytes-drop n b a),
      length-drop n b,
      ap length (first_line_text (1, words) list),
      length-append (line_text (1, words)) (lines_text list),
      length-append words (10 ∷ []),
    )

record_short : (line : RecordLine) (table : Option RawTable) (b : List ℕ) → is_short_first_line line ≡ true → AreBytes b → AreLinesShort (record_and_list line table b) b
record_short line table b k a = cond_both (is_record_and_list line table b) (Some (record_and_list_lines line table b)) None (λ o. AreLinesShort o b) (λ e. record_by line table b k a e) (λ e. record {})

raw_body_short : (t : ℕ) (is_request : Bool) (b : List ℕ) → AreBytes b → AreLinesShort (raw_body_lines t is_request b) b
unfolding raw_body_lines
raw_body_short t is_request b a =
    row_holds (λ o. AreLinesShort o b) t b (λ h table. record_short (raw_header_line h) table b (headers_short h) a) (record {}) (first_fitting BODIES.now t is_request b)

or_bytes_short : (o : Option (List Line)) (b : List ℕ) → AreLinesShort o b → length (or_bytes o b) ≤ factor * length b
or_bytes_short None b h = bytes_line_short (codes "body") b (omega arith)
or_bytes_short (Some lines) b h = h

other_short : (t : ℕ) (is_request : Bool) (b : List ℕ) → AreBytes b → length (other_lines t is_request b) ≤ factor * length b
unfolding other_lines
other_short t is_request b a =
    let raw = raw_body_lines t is_request b in
    cond_both (is_property_type t) (property_lines is_request b) (or_bytes raw b) (λ s. length s ≤ factor * length b) (λ e. property_short is_request b a) (λ e. or_bytes_short raw b (raw_body_short t is_request b a))

-- ---- frames and texts

body_short : (numbers : Bool) (t flags : ℕ) (b : List ℕ) → AreBytes b → length (body_lines numbers t flags b) ≤ factor * length b
unfolding body_lines
body_short numbers t flags b a =
    let is_request = has_request_flag flags in
    cond_both (is_link_type t) (link_lines (in_message is_request) b) (cond (t == 2 || t == 3) (code_lines numbers t flags b) (other_lines t is_request b)) (λ s. length s ≤ factor * length b) (λ e. link_short (in_message is_request) b a)
    (λ e. cond_both (t == 2 || t == 3) (code_lines numbers t flags b) (other_lines t is_request b) (λ s. length s ≤ factor * length b) (λ f. code_short numbers t flags b a) (λ f. other_short t is_request b a))

frame_short : (numbers : Bool) (f : List ℕ) → 16 ≤ length f → AreBytes f → length (frame_lines numbers f) ≤ factor * length f
unfolding frame_lines
frame_short numbers f h a =
    let header = header_line numbers f in
    let body = body_lines numbers (u16_at 4 f) (u16_at 6 f) (drop 16 f) in
    omega (arith, h, header_line_short numbers f a, body_short numbers (u16_at 4 f) (u16_at 6 f) (drop 16 f) (AreBytes-drop 16 f a), length-drop 16 f, length-append header body)

shown_short : (o : Choice) (f : List ℕ) → 16 ≤ length f → AreBytes f → length (shown_lines o f) ≤ factor * length f
shown_short o f h a = cond_both (is_chosen o.only (frame_type f)) (frame_lines o.numbers f) [] (λ s. length s ≤ factor * length f) (λ e. frame_short o.numbers f h a) (λ e. omega arith)

-- Lines of bytes are short enough if they are bytes.
abbrev AreShort : Choice → List ℕ → Type 0
AreShort o c = AreBytes c → length (text_lines o c) ≤ factor * length c

no_frame : (o : Choice) (c : List ℕ) → begins_with_frame c ≡ false → AreShort o c
no_frame o c h a = omega (arith, ap length (stopped o c h))

one_frame : (o : Choice) (c : List ℕ) → begins_with_frame c ≡ true → AreShort o (drop (nla_align (frame_length c)) c) → AreShort o c
one_frame o c h more a =
    let n = frame_length c in
    let l = length_of c h in
    let frame = take n c in
    let rest = drop (nla_align n) c in
    omega (arith, l.0, l.1, ap length (whole o c h), length-append (shown_lines o frame) (text_lines o rest), shown_short o frame (omega (arith, length-take n c, l.0, l.1)) (AreBytes-take n c a), length-take n c, more (AreBytes-drop (nla_align n) c a), length-drop (nla_align n) c)

pub lines_short : LinesAreShort
lines_short choice text a = by_first_frames (AreShort choice) (no_frame choice) (one_frame choice) text a
