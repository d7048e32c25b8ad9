-- The frames of requests, and the texts of their contents.
use Rattle.std.proofs.Common.{◌≡◌, ℕ, ◌+◌, ◌-◌, ◌%◌, ◌≤◌, ◌<◌, ◌^◌, List, [], ◌∷◌, ◌++◌, length, map, take, drop, Result, Ok, Err, Option, None, Some, IfOk, inl, inr, refl, sym, ap, subst, ◌∙◌, arith, append-nil, length-append}
use Rattle.std.specs.Prelude.{min, Bool, true, false, ◌&&◌, ◌↔◌, ◌⊎◌, ◌≢◌, nat_le, IfErr}
use Rattle.std.proofs.Math.Nat.{min-eq_left, min-eq_right, min-le_left}
use Rattle.std.proofs.lemmas.Bool.{cases_lt, leb-true, le-leb}
use Rattle.std.proofs.lemmas.List.{drop_all, length-replicate, take_all}
use Rattle.netlink_packet_core_grammar.proofs.Numbers.{from_le4}
use Rattle.netlink_packet_core.specs.Attributes.{Attribute, attribute_header, attribute_length, attribute_text, list_size, list_text, nla_align, zeros}
use Rattle.netlink_packet_core.specs.Families.{attribute}
use Rattle.netlink_packet_core.specs.Frames.{BeginsWithFrame, frame_length, frame_type, frame_body, frame_text}
use Rattle.netlink_packet_core.specs.Headers.{header_text}
use Rattle.netlink_packet_core.specs.Laws.{EncodingsAreSplit}
use Rattle.netlink_packet_core.specs.Messages.{finalized, message_text}
use Rattle.netlink_packet_core.specs.Numbers.{as_usize, u16_at, u32_at, be2, le2, le4}
use Rattle.netlink_packet_core.specs.Payloads.{payload_entry}
use Rattle.netlink_packet_core.specs.NetlinkMessage.{NetlinkMessage}
use Rattle.netlink_packet_core.specs.NetlinkPayload.{NetlinkPayload}
use Rattle.netlink_packet_core.specs.NetlinkPayload.TheVariants.{InnerMessage}
use Rattle.link_message.specs.AddressFamilies.{address_family_number}
use Rattle.link_message.specs.Body.{link_body}
use Rattle.link_message.specs.Headers.{link_header_bytes}
use Rattle.link_message.specs.LinkFlagTypes.{link_flags_bits}
use Rattle.link_message.specs.LinkLayerTypes.{link_layer_type_number}
use Rattle.link_message.specs.TypeLaws.{HeadersAreSixteenBytes}
use Rattle.link_message.specs.LinkAttributes.{link_attribute_entry}
use Rattle.link_message.specs.LinkMessages.{link_message_text}
use Rattle.link_message.specs.declared.message.LinkMessage.{LinkMessage}
use Rattle.link_message.specs.LinkHeader.{LinkHeader}
use Rattle.link_capture.specs.CaptureFault.{CaptureFault}
use Rattle.link_capture.specs.Bodies.{body_text}
use Rattle.link_capture.specs.Captures.{first_fault, shifted, texts}
use Rattle.link_capture.specs.Laws.{CapturesAreCounted, FramesAreJudged}
use Rattle.link_capture.specs.Routes.{route_entry}
use Rattle.link_capture.specs.declared.route.RouteLink.{RouteLink}
use Rattle.examples.specs.declared.requests.RequestFault.{RequestFault}
use Rattle.examples.specs.Requests.{request_text, new_link_text, IsNormal, NewLinksAreNormal, vxlan_attributes, vxlan_body, vxlan_info_text}

-- a header of zeros
pub header_of_zeros : (h : LinkHeader) → address_family_number h.interface_family ≡ 0 → link_layer_type_number h.link_layer_type ≡ 0 → h.index ≡ 0 → link_flags_bits h.flags ≡ 0 → link_flags_bits h.change_mask ≡ 0 → link_header_bytes h ≡ zeros 16
unfolding link_header_bytes le2 le4
header_of_zeros h f l i g m = rw (f, l, i, g, m) refl

-- ---- sizes

-- a list's size is a multiple of 4
aligned : (es : List Attribute) → list_size es % 4 ≡ 0
aligned [] = refl
aligned (e ∷ es) = let h = aligned es in omega arith

-- a link body's size is a multiple of 4
pub body_aligned : EncodingsAreSplit → (h : List ℕ) (es : List Attribute) → length h ≡ 16 → length (h ++ list_text es) % 4 ≡ 0
body_aligned cut h es l =
    let a = aligned es in
    let s = (cut es).1 in
    rw length-append (omega arith)

-- ---- the frame of a request to make a link

pub length-new_link_text : (s : ℕ) (b : List ℕ) → length (new_link_text s b) ≡ 16 + length b
unfolding header_text le4 le2
length-new_link_text s b = omega arith

length_determined : (s : ℕ) (b : List ℕ) → 16 + length b < 2 ^ 32 → frame_length (new_link_text s b) ≡ 16 + length b
unfolding u32_at header_text le4 le2
length_determined s b h = from_le4 (16 + length b)

type_determined : (s : ℕ) (b : List ℕ) → frame_type (new_link_text s b) ≡ 16
unfolding u16_at header_text le4 le2
type_determined s b = refl

after_header : (s : ℕ) (b : List ℕ) → drop 16 (new_link_text s b) ≡ b
unfolding header_text le4 le2
after_header s b = refl

has_body : (s : ℕ) (b : List ℕ) → 16 + length b < 2 ^ 32 → frame_body (new_link_text s b) ≡ b
has_body s b h =
    ap (λ n. take (n - 16) (drop 16 (new_link_text s b))) (length_determined s b h)
    ∙ ap (λ x. take (16 + length b - 16) x) (after_header s b)
    ∙ take_all (16 + length b - 16) b (omega arith)

whole : (s : ℕ) (b : List ℕ) → 16 + length b < 2 ^ 32 → BeginsWithFrame (new_link_text s b)
whole s b h =
    let l = length-new_link_text s b in
    let t = length_determined s b h in
    record { has_header = omega arith; covers_header = omega arith; within = omega arith }

-- a body whose size is a multiple of 4 needs no padding, so its frame is already canonical
canonical_new_link_frame : (s : ℕ) (b : List ℕ) → length b % 4 ≡ 0 → frame_text (new_link_text s b) b ≡ new_link_text s b
unfolding frame_text header_text le4 le2
canonical_new_link_frame s b h =
    let request_header = header_text (record { length = 16 + length b; message_type = 16; flags = 0x605; sequence_number = s; port_number = 0 }) in
    let none : nla_align (16 + length b) - (16 + length b) ≡ 0 = omega arith in
    ap (λ n. request_header ++ (b ++ zeros n)) none ∙ ap (λ x. request_header ++ x) (append-nil b)

not_shifted : (o : Option CaptureFault) → shifted 0 o ≡ None → o ≡ None
not_shifted None h = refl
not_shifted (Some fault) h = absurd cc

-- the frame of a request is a legal capture of one frame
pub normal : FramesAreJudged link_body → CapturesAreCounted link_body → NewLinksAreNormal
unfolding body_text
normal judged counted s limit b canonical aligned' small within =
    let c = new_link_text s b in
    let size = length-new_link_text s b in
    let under : 16 + length b ≤ limit = omega arith in
    let length_is = length_determined s b small in
    let body : body_text link_body (frame_type c) (frame_body c) ≡ Ok b = ap (λ t. body_text link_body t (frame_body c)) (type_determined s b) ∙ ap (body_text link_body 16) (has_body s b small) ∙ canonical in
    let first = judged.ok limit c b (whole s b small) (subst (λ n. n ≤ limit) (sym length_is) under) body under in
    let end : drop (nla_align (frame_length c)) c ≡ [] = drop_all (nla_align (frame_length c)) c (omega arith) in (
      not_shifted (first_fault link_body limit c) (counted.next_fault limit 0 c (frame_length c, frame_text c b) first ∙ ap (λ r. shifted (0 + nla_align (frame_length c)) (first_fault link_body limit r)) end ∙ ap (shifted (0 + nla_align (frame_length c))) (counted.no_fault limit)),
      counted.next_text limit c (frame_length c, frame_text c b) first ∙ ap (λ r. frame_text c b ++ texts link_body limit r) end ∙ ap (λ t. frame_text c b ++ t) (counted.no_text limit) ∙ append-nil (frame_text c b) ∙ canonical_new_link_frame s b aligned',
    )

-- the body of a message
pub message_aligned : HeadersAreSixteenBytes → EncodingsAreSplit → (m : LinkMessage) → length (link_message_text m) % 4 ≡ 0
message_aligned sixteen cut m =
    body_aligned cut (link_header_bytes m.header) (map link_attribute_entry m.attributes.items) (sixteen m.header)

-- ---- the message of a request

-- a message with flags and a sequence number, once it is finalized
pub request_written : (m : NetlinkMessage RouteLink) (flags s : ℕ) (link : RouteLink) → m.header.port_number ≡ 0 → m.payload ≡ InnerMessage link → message_text route_entry (finalized route_entry (record m { header = record m.header { flags = flags; sequence_number = s } })) ≡ request_text flags s (route_entry link)
request_written m flags s link port payload =
    ap (λ p. header_text (record { length = 16 + length (payload_entry route_entry p).1; message_type = (payload_entry route_entry p).0; flags = flags; sequence_number = s; port_number = m.header.port_number }) ++ (payload_entry route_entry p).1) payload
    ∙ ap (λ n. header_text (record { length = 16 + length (route_entry link).1; message_type = (route_entry link).0; flags = flags; sequence_number = s; port_number = n }) ++ (route_entry link).1) port

-- the size of the finalized message
pub request_size : (p : NetlinkPayload RouteLink) (link : RouteLink) → p ≡ InnerMessage link → 16 + length (payload_entry route_entry p).1 ≡ 16 + length (route_entry link).1
request_size p link e = ap (λ q. 16 + length (payload_entry route_entry q).1) e

-- a size, as `buffer_len` returns it, which fits 32 bits or doesn't
pub small_size_determined : (n : ℕ) → as_usize n ≤ 4294967295 → n ≡ as_usize n
small_size_determined n h =
    elim (cases_lt 18446744073709551615 n) [
      | inl k ↦ absurd (let e : min n 18446744073709551615 ≡ 18446744073709551615 = min-eq_right (omega (arith, k)) in omega (arith, e, h))
      | inr k ↦ sym (min-eq_left k)
    ]

pub large_size_determined : (n : ℕ) → 4294967295 < as_usize n → 2 ^ 32 ≤ n
large_size_determined n h = let m = min-le_left n 18446744073709551615 in omega (arith, m, h)

-- ---- the result of a request

-- the texts of requests that are written are legal captures
pub ok_normal : {A : Type 0} (r : Result A RequestFault) (items : A → List ℕ) (text : List ℕ) (n : ℕ) → IfOk r (λ b. items b ≡ text) → (2 ^ 32 ≤ n → r ≡ Err RequestFault.TooLong) → (n < 2 ^ 32 → (limit : ℕ) → length text ≤ limit → IsNormal limit text) → IfOk r (λ b. (limit : ℕ) → length (items b) ≤ limit → IsNormal limit (items b))
ok_normal (Err fault) items text n e t f = tt
ok_normal (Ok b) items text n e t f =
    elim (cases_lt n (2 ^ 32)) [
      | inl k ↦ subst (λ x. (limit : ℕ) → length x ≤ limit → IsNormal limit x) (sym e) (f k)
      | inr k ↦ absurd (let h = t k in cc)
    ]

-- a request that isn't too long and isn't written ran out of memory
pub only_memory : {A : Type 0} (r : Result A RequestFault) → r ≢ Err RequestFault.TooLong → IfErr r (λ fault. (fault ≡ RequestFault.TooLong) ⊎ (fault ≡ RequestFault.Memory)) → IfErr r (λ fault. (fault ≡ RequestFault.Unfit) ⊎ (fault ≡ RequestFault.Memory))
only_memory (Ok v) short e = tt
only_memory (Err fault) short (inl k) = absurd (short (ap Err k))
only_memory (Err fault) short (inr k) = inr k

-- the body of a vxlan
pub vxlan_aligned : EncodingsAreSplit → (name : List ℕ) (vni mtu : ℕ) → length (vxlan_body name vni mtu) % 4 ≡ 0
vxlan_aligned cut name vni mtu = body_aligned cut (zeros 16) (vxlan_attributes name vni mtu) refl

-- ---- whether a vxlan fits

-- the parts of the test of a message
abbrev pub all_three : List ℕ → ℕ → List ℕ → Bool → Bool
all_three name mtu info inside =
    (nat_le (4 + length (name ++ 0 ∷ [])) 65535 && true) && ((nat_le (4 + length (le4 mtu)) 65535 && true) && ((nat_le (4 + length info) 65535 && inside) && true))

and_true_true : (b : Bool) → (b && true) && true ≡ b
and_true_true true = refl
and_true_true false = refl

name_only : (name : List ℕ) (mtu vni : ℕ) → all_three name mtu (vxlan_info_text vni) true ≡ nat_le (4 + length (name ++ 0 ∷ [])) 65535
unfolding list_text attribute_text le4 be2
name_only name mtu vni = and_true_true (nat_le (4 + length (name ++ 0 ∷ [])) 65535)

pub name_fits : (name : List ℕ) (mtu vni : ℕ) → (all_three name mtu (vxlan_info_text vni) true ≡ true) ↔ (length name ≤ 65530)
name_fits name mtu vni =
    let e = name_only name mtu vni in (
      (λ h. let l = leb-true (4 + length (name ++ 0 ∷ [])) 65535 (sym e ∙ h) in omega (arith, length-append name (0 ∷ []))),
      (λ h. e ∙ le-leb (4 + length (name ++ 0 ∷ [])) 65535 (omega (arith, length-append name (0 ∷ [])))),
    )

-- ---- the size of a vxlan's body

short_attribute : (e : Attribute) → length (attribute_text e) ≤ attribute_length e + 3
unfolding attribute_text
short_attribute e =
    let n = attribute_length e in
    let k = nla_align n - n in
    omega (arith, length-append (attribute_header n e.kind) (e.payload ++ zeros k), length-append e.payload (zeros k), length-replicate {A = ℕ} k 0)

short_list : (name mtu info : List ℕ) → length name ≤ 65530 → length mtu ≡ 4 → length info ≡ 40 → length (list_text (attribute 3 (name ++ 0 ∷ []) ∷ attribute 4 mtu ∷ attribute 18 info ∷ [])) ≤ 65600
unfolding list_text
short_list name mtu info n m i =
    let a = attribute 3 (name ++ 0 ∷ []) in
    let b = attribute 4 mtu in
    let d = attribute 18 info in
    omega (arith, length-append (attribute_text a) (attribute_text b ++ (attribute_text d ++ [])), length-append (attribute_text b) (attribute_text d ++ []), length-append (attribute_text d) [], short_attribute a, short_attribute b, short_attribute d, length-append name (0 ∷ []))

length-le4 : (n : ℕ) → length (le4 n) ≡ 4
unfolding le4
length-le4 n = refl

length-info : (vni : ℕ) → length (vxlan_info_text vni) ≡ 40
unfolding list_text attribute_text le4 be2
length-info vni = refl

pub short_body : (name : List ℕ) (vni mtu : ℕ) → length name ≤ 65530 → 16 + length (vxlan_body name vni mtu) < 2 ^ 32
short_body name vni mtu n =
    let l = short_list name (le4 mtu) (vxlan_info_text vni) n (length-le4 mtu) (length-info vni) in
    omega (arith, l, length-append (zeros 16) (list_text (vxlan_attributes name vni mtu)), length-replicate {A = ℕ} 16 0)

-- the size as `buffer_len` returns it
pub vxlan_size : (name : List ℕ) (vni mtu : ℕ) (text : List ℕ) → text ≡ vxlan_body name vni mtu → length name ≤ 65530 → as_usize (length text) ≡ length text
vxlan_size name vni mtu text e h =
    let s = short_body name vni mtu h in
    let l : length text ≡ length (vxlan_body name vni mtu) = ap length e in
    min-eq_left (omega (arith, s, l))
