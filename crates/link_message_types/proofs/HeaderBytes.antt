-- The 16 bytes of a header.
use Rattle.std.proofs.Common.{◌≡◌, ℕ, ◌+◌, ◌*◌, ◌^◌, ◌<◌, ◌≤◌, Bool, true, false, List, [], ◌∷◌, ◌++◌, length, take, drop, refl, sym, ap, ◌∙◌, arith, length-append, append-nil}
use Rattle.std.proofs.Math.ListN.{drop_of_length-le}
use Rattle.std.proofs.Math.Seq.{take-add}
use Rattle.std.proofs.lemmas.List.{drop-drop}
use Rattle.std.specs.Prelude.{cond, slice_index}
use Rattle.netlink_packet_core_grammar.specs.Numbers.{u16_at, le2, le4}
use Rattle.netlink_packet_core_grammar.proofs.Numbers.{u16_at-bytes, u16_at-le2}
use Rattle.link_message_grammar.specs.Body.{has_layer_type_name, header_text, layer_type_text}
use Rattle.link_message_types.specs.AddressFamilies.{address_family_number}
use Rattle.link_message_types.specs.LinkFlagTypes.{link_flags_bits}
use Rattle.link_message_types.specs.LinkLayerTypes.{link_layer_type_number, link_layer_type_of}
use Rattle.link_message_types.proofs.LayerTypes.{layer_type_numbered}
use Rattle.link_message_types.specs.Headers.{link_header_bytes}
use Rattle.link_message_types.specs.declared.header.LinkHeader.{LinkHeader}

pub length-link_header_bytes : (h : LinkHeader) → length (link_header_bytes h) ≡ 16
unfolding link_header_bytes le2 le4
length-link_header_bytes h = refl

pub length-link_header_bytes-append : (h : LinkHeader) (r : List ℕ) → length (link_header_bytes h ++ r) ≡ 16 + length r
length-link_header_bytes-append h r = omega (arith, length-append (link_header_bytes h) r, length-link_header_bytes h)

pub ruleset headers = (length-link_header_bytes, length-link_header_bytes-append)

-- The header's text, by offsets.
pub header_is : (b : List ℕ) → 16 ≤ length b → header_text b ≡ slice_index b 0 ∷ 0 ∷ layer_type_text (slice_index b 2) (slice_index b 3) ++ take 12 (drop 4 b)
header_is (f ∷ x ∷ a ∷ b ∷ rest) h = refl
header_is x h = absurd (omega arith)

-- The number of two bytes.
pub number_of : (n : ℕ) (p : List ℕ) → n < 2 ^ 16 → le2 n ≡ p → n ≡ u16_at 0 p
number_of n p h e = sym (u16_at-le2 n []) ∙ ap (λ x. u16_at 0 x) (append-nil (le2 n) ∙ e)

layer_by : (n k l : ℕ) (t : Bool) → has_layer_type_name n ≡ t → n ≡ k + 256 * l → le2 n ≡ k ∷ l ∷ [] → le2 (cond (has_layer_type_name n) n 65535) ≡ layer_type_text k l
unfolding le2
layer_by n k l true p e q = ap (λ s. le2 (cond s n 65535)) p ∙ q ∙ sym (ap (λ s. cond s (k ∷ l ∷ []) (255 ∷ 255 ∷ [])) (ap has_layer_type_name (sym e) ∙ p))
layer_by n k l false p e q = ap (λ s. le2 (cond s n 65535)) p ∙ sym (ap (λ s. cond s (k ∷ l ∷ []) (255 ∷ 255 ∷ [])) (ap has_layer_type_name (sym e) ∙ p))

-- The bytes of a layer type are those of the grammar.
pub layer_bytes : (n : ℕ) (b : List ℕ) → n < 2 ^ 16 → 4 ≤ length b → le2 n ≡ take 2 (drop 2 b) → le2 (link_layer_type_number (link_layer_type_of n)) ≡ layer_type_text (slice_index b 2) (slice_index b 3)
layer_bytes n (f ∷ x ∷ k ∷ l ∷ rest) h s e = ap le2 (layer_type_numbered n) ∙ layer_by n k l (has_layer_type_name n) refl (number_of n (k ∷ l ∷ []) h e ∙ u16_at-bytes k l []) e
layer_bytes n x h s e = absurd (omega arith)

-- A header of these numbers has the text of the bytes.
pub header_text_of : (h : LinkHeader) (b : List ℕ) → 16 ≤ length b → address_family_number h.interface_family ≡ slice_index b 0 → le2 (link_layer_type_number h.link_layer_type) ≡ layer_type_text (slice_index b 2) (slice_index b 3) → le4 h.index ≡ take 4 (drop 4 b) → le4 (link_flags_bits h.flags) ≡ take 4 (drop 8 b) → le4 (link_flags_bits h.change_mask) ≡ take 4 (drop 12 b) → link_header_bytes h ≡ header_text b
unfolding link_header_bytes
header_text_of h b s f t i g m =
    let r = drop 4 b in
    let numbers : take 12 r ≡ take 4 r ++ (take 4 (drop 8 b) ++ take 4 (drop 12 b)) = take-add 4 8 r ∙ ap (λ x. take 4 r ++ x) (take-add 4 4 (drop 4 r) ∙ ap (λ x. take 4 x ++ take 4 (drop 4 x)) (drop-drop 4 4 b) ∙ ap (λ x. take 4 (drop 8 b) ++ take 4 x) (drop-drop 4 8 b)) in
    let text = header_is b s in
    cc

-- A header that is written into 16 bytes fills them.
pub whole_header : (h : LinkHeader) (old new : List ℕ) → length old ≡ 16 → new ≡ link_header_bytes h ++ drop (length (link_header_bytes h)) old → new ≡ link_header_bytes h
whole_header h old new l e =
    e ∙ ap (λ x. link_header_bytes h ++ x) (drop_of_length-le old (omega (arith, length-link_header_bytes h))) ∙ append-nil (link_header_bytes h)
