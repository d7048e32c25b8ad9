-- The lines of a link's body determine it, in a message and in a peer.
use Rattle.std.proofs.Common.{◌≡◌, ℕ, ◌+◌, ◌*◌, ◌<◌, ◌≤◌, true, List, [], ◌∷◌, ◌++◌, length, take, drop, get_or, sym, ap, subst, refl, ◌∙◌, arith}
use Rattle.std.specs.Prelude.{nat_le, slice_index}
use Rattle.std.proofs.lemmas.Bool.{and_parts, cond_both, leb-true}
use Rattle.std.proofs.lemmas.List.{drop_at, length-append, length-take}
use Rattle.netlink_packet_core_grammar.specs.Bytes.{AreBytes}
use Rattle.attribute_tables_grammar.specs.Peers.{RuleOfPeers}
use Rattle.link_message_grammar.specs.Body.{body_rule, family, header_text, has_layer_type_name, layer_type_text, attributes_rule}
use Rattle.link_message_grammar.proofs.Parts.{bodies_are_headers_and_attributes}
use Rattle.link_message_grammar.specs.LinkMessage.{family_of}
use Rattle.link_lines_texts.specs.declared.format.Scope.{Scope}
use Rattle.link_lines_texts.specs.Links.{link_header_line}
use Rattle.link_lines_texts.specs.Lists.{list_lines, of_link}
use Rattle.link_lines_raw.specs.Lines.{IsShallow}
use Rattle.link_lines_texts.specs.Determination.{IsCanonical, of_family}
use Rattle.link_lines_texts.proofs.LineCuts.{following}
use Rattle.link_lines_texts.proofs.LinkHeadersDetermined.{link_header_determined}
use Rattle.netlink_packet_core_grammar.proofs.Bytes.{AreBytes-drop}

-- A canonical body of a link under a rule of peers.
pub record IsCanonicalLink (peer : RuleOfPeers) (b : List ℕ) : Type 0 where
  pub size : 16 ≤ length b
  pub second : slice_index b 1 ≡ 0
  pub attributes : IsCanonical (attributes_rule peer (family b)) (drop 16 b)

header_size : (b : List ℕ) → 16 ≤ length b → length (header_text b) ≡ 16
header_size (x ∷ y ∷ u ∷ v ∷ b) l =
    omega (arith, length-append (layer_type_text u v) (take 12 b), cond_both (has_layer_type_name (u + 256 * v)) (u ∷ v ∷ []) (255 ∷ 255 ∷ []) (λ z. length z ≡ 2) (λ e. refl) (λ e. refl), length-take 12 b)
header_size b l = absurd (omega arith)

second_is : (b p : List ℕ) → 16 ≤ length b → header_text b ++ p ≡ b → slice_index b 1 ≡ 0
second_is (x ∷ y ∷ u ∷ v ∷ b) p l e = sym (ap (λ l. get_or l 1 0) e)
second_is b p l e = absurd (omega arith)

-- A canonical body has a canonical header and canonical attributes.
pub canonical_link : (peer : RuleOfPeers) (b : List ℕ) → AreBytes b → (body_rule peer).accepted b ≡ true → (body_rule peer).canonical b ≡ b → IsCanonicalLink peer b
canonical_link peer b a accepts canonical =
    let parts = bodies_are_headers_and_attributes peer b in
    let rule = attributes_rule peer (family b) in
    let accepted = and_parts (nat_le 16 (length b)) (rule.accepted (drop 16 b)) (sym parts.accepted ∙ accepts) in
    let size = leb-true 16 (length b) accepted.0 in
    let text : header_text b ++ rule.canonical (drop 16 b) ≡ b = sym parts.canonical ∙ canonical in
    let list = rule.canonical (drop 16 b) in
    let kept = sym (drop_at (header_text b) list 16 (header_size b size)) ∙ ap (drop 16) text in
    record { size = size; second = second_is b _ size text; attributes = record { bytes = AreBytes-drop 16 b a; accepted = accepted.1; canonical = kept } }

-- The lists of all families are determined, if they are shorter than a bound.
abbrev pub FamiliesDetermined : ℕ → RuleOfPeers → Scope → Type 0
FamiliesDetermined bound peer scope = (level n : ℕ) (p q s t : List ℕ) → length p < bound → IsCanonical (attributes_rule peer (family_of n)) p → IsCanonical (attributes_rule peer (family_of n)) q → IsShallow level s → IsShallow level t →
    list_lines level (of_family scope n) p ++ s ≡ list_lines level (of_family scope n) q ++ t → (p ≡ q) × (s ≡ t)

abbrev list_part : ℕ → Scope → List ℕ → List ℕ
list_part level scope b = list_lines level (of_link scope b) (drop 16 b)

-- The lines of a body with a header.
abbrev pub link_part : ℕ → Scope → List ℕ → List ℕ
link_part level scope b = link_header_line level b ++ list_part level scope b

pub link_determined : (bound : ℕ) (peer : RuleOfPeers) (scope : Scope) → FamiliesDetermined bound peer scope → (level : ℕ) (p q s t : List ℕ) → length (drop 16 p) < bound → AreBytes p → AreBytes q → IsCanonicalLink peer p → IsCanonicalLink peer q → IsShallow level s → IsShallow level t →
    link_part level scope p ++ s ≡ link_part level scope q ++ t → (p ≡ q) × (s ≡ t)
link_determined bound peer scope lists level p q s t short a b h k i j e =
    let shown = following (link_header_line level p) (list_part level scope p) s (link_header_line level q) (list_part level scope q) t e in
    let same = link_header_determined level p q (list_part level scope p ++ s) (list_part level scope q ++ t) a b h.size k.size shown in
    let other = subst (λ n. IsCanonical (attributes_rule peer (family_of n)) (drop 16 q)) (sym same.family) k.attributes in
    let rest = same.rest ∙ ap (λ n. list_lines level (of_family scope n) (drop 16 q) ++ t) (sym same.family) in
    let r = lists level (slice_index p 0) (drop 16 p) (drop 16 q) s t short h.attributes other i j rest in
    (same.bytes (h.second ∙ sym k.second) r.0, r.1)
