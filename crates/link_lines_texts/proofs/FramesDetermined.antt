-- Lines determine frames, provided that they determine lists of attributes.
use Rattle.std.proofs.Common.{◌≡◌, ℕ, suc, ◌≤◌, Bool, true, false, cond, List, [], ◌∷◌, ◌++◌, length, take, drop, get_or, Option, Some, None, Ok, Err, refl, sym, ap, subst, ◌∙◌, append_assoc, arith, inl, inr}
use Rattle.std.specs.Prelude.{◌==◌, nat_le, codes}
use Rattle.std.proofs.lemmas.Bool.{and_parts, eqb-true, leb-true, ltb-false, le-leb, ne_eqb}
use Rattle.std.proofs.lemmas.Bool.Decides.{eqb_tells}
use Rattle.std.proofs.lemmas.List.{append_cancel_left, length-drop, length-take, take-take}
use Rattle.netlink_packet_core_grammar.specs.Bytes.{AreBytes}
use Rattle.netlink_packet_core_grammar.specs.Attributes.{nla_align}
use Rattle.netlink_packet_core_grammar.specs.Numbers.{u16_at, u32_at}
use Rattle.attribute_tables_grammar.specs.Peers.{RuleOfPeers, bytes_peer}
use Rattle.link_message_grammar.specs.Body.{link_body, link_peer}
use Rattle.link_capture_grammar.specs.Bodies.{is_link_type, body_text, ruled_text}
use Rattle.link_lines_values.specs.declared.values.ShownBy.TheVariants.{Signed, Bytes}
use Rattle.link_lines_values.specs.Bytes.{bytes_text, is_zero}
use Rattle.link_lines_values.specs.Digits.{is_signed_size}
use Rattle.link_lines_values.specs.NumberTexts.{number_texts}
use Rattle.link_lines_values.specs.Values.{is_shown_on_a_line, value_text}
use Rattle.link_lines_values.proofs.BytesDetermined.{bytes_determined}
use Rattle.link_lines_values.proofs.NumbersDetermined.{number_determined, numbers_determined}
use Rattle.link_lines_values.proofs.OneLine.{values_are_lines}
use Rattle.link_lines_values.proofs.Zeros.{zero_number}
use Rattle.link_lines_texts.specs.Frames.{after_code, body_lines, code_lines, code_rest, errors, frame_lines, has_request_flag, header_line, in_message, is_followed, is_property_type, link_lines, or_bytes, other_lines, property_lines, request_line, request_rest, rest_lines, type_text}
use Rattle.link_lines_parts.specs.BytesLines.{bytes_line}
use Rattle.link_lines_texts.specs.Format.{is_canonical_peer}
use Rattle.link_lines_texts.specs.Links.{link_numbers}
use Rattle.link_lines_texts.specs.Lists.{in_peer}
use Rattle.link_lines_texts.specs.declared.format.Scope.{Scope}
use Rattle.link_lines_raw.specs.declared.bodies.TheConstants.{BODIES}
use Rattle.link_lines_raw.specs.Acknowledgements.{acknowledgement_lines, is_acknowledgement}
use Rattle.link_lines_raw.specs.Attributes.{record_words}
use Rattle.link_lines_raw.specs.Bodies.{body_lines as raw_body_lines, first_fitting, header_line as body_header}
use Rattle.link_lines_raw.specs.Lines.{IsShallow, Line, lines_text}
use Rattle.link_lines_raw.proofs.AcknowledgementsDetermined.{acknowledgements_determined}
use Rattle.link_lines_raw.proofs.BodiesDetermined.{bodies_determined as bodies_are_determined, row_holds}
use Rattle.std.proofs.lemmas.Option.{same_Some}
use Rattle.link_lines_texts.specs.Determination.{AreKnown, FramesAreDetermined, IsCanonicalFrame, NumbersAreKnown, StartsFrame}
use Rattle.link_lines_texts.proofs.LineCuts.{following, cut_line}
use Rattle.link_lines_texts.proofs.HeadersDetermined.{flags_part, header_determined, request_determined, type_starts}
use Rattle.link_lines_texts.proofs.LinksDetermined.{found_canonical, link_lists_are_determined, peer_lists_are_determined}
use Rattle.link_lines_texts.proofs.LinkBodiesDetermined.{FamiliesDetermined, IsCanonicalLink, link_part, link_determined, canonical_link}
use Rattle.link_lines_values.proofs.ValuesDetermined.{both_parts}
use Rattle.netlink_packet_core_grammar.proofs.Bytes.{AreBytes-drop, AreBytes-take}
use Rattle.link_capture_grammar.specs.declared.fault.FaultKind.TheVariants.{Refused, EmptyPorts, Unfit}

-- ---- lines of bytes, and of codes

no_space : (s r : List ℕ) → StartsFrame s → s ≡ 32 ∷ r → ⊥
no_space [] r h e = absurd cc
no_space (c ∷ s) r h e = let first : c ≡ 32 = cc in omega arith

-- A line of bytes determines them.
shown_bytes_determined : (name : List ℕ) (x y : ℕ) (p q s t : List ℕ) → AreBytes (x ∷ p) → AreBytes (y ∷ q) → bytes_line name (x ∷ p) ++ s ≡ bytes_line name (y ∷ q) ++ t → (x ∷ p ≡ y ∷ q) × (s ≡ t)
unfolding bytes_line
shown_bytes_determined name x y p q s t a b e =
    let m = bytes_text (x ∷ p) in
    let n = bytes_text (y ∷ q) in
    let named_alike = following name (m ++ 10 ∷ []) s name (n ++ 10 ∷ []) t (ap (drop 2) e) in
    let shown = following m (10 ∷ []) s n (10 ∷ []) t (append_cancel_left name ((m ++ 10 ∷ []) ++ s) ((n ++ 10 ∷ []) ++ t) named_alike) in
    let r = cut_line m n s t (values_are_lines.line Bytes (x ∷ p) refl) (values_are_lines.line Bytes (y ∷ q) refl) shown in
    (bytes_determined.bytes (x ∷ p) (y ∷ q) a b r.0, r.1)

-- A line of bytes determines those of one size, whatever follows.
same_size_determined : (name p q s t : List ℕ) → AreBytes p → AreBytes q → length p ≡ length q → bytes_line name p ++ s ≡ bytes_line name q ++ t → (p ≡ q) × (s ≡ t)
unfolding bytes_line
same_size_determined name [] [] s t a b l e = (refl, e)
same_size_determined name [] (y ∷ q) s t a b l e = absurd (omega (arith, l))
same_size_determined name (x ∷ p) [] s t a b l e = absurd (omega (arith, l))
same_size_determined name (x ∷ p) (y ∷ q) s t a b l e = shown_bytes_determined name x y p q s t a b e

-- A line of bytes determines them, and no line means no bytes.
pub bytes_line_determined : (name p q s t : List ℕ) → AreBytes p → AreBytes q → StartsFrame s → StartsFrame t → bytes_line name p ++ s ≡ bytes_line name q ++ t → (p ≡ q) × (s ≡ t)
unfolding bytes_line
bytes_line_determined name [] [] s t a b i j e = (refl, e)
bytes_line_determined name [] (y ∷ q) s t a b i j e = absurd (no_space s (32 ∷ (name ++ (bytes_text (y ∷ q) ++ 10 ∷ [])) ++ t) i e)
bytes_line_determined name (x ∷ p) [] s t a b i j e = absurd (no_space t (32 ∷ (name ++ (bytes_text (x ∷ p) ++ 10 ∷ [])) ++ s) j (sym e))
bytes_line_determined name (x ∷ p) (y ∷ q) s t a b i j e = shown_bytes_determined name x y p q s t a b e

-- ---- the attributes of an extended acknowledgement

shallow : (s : List ℕ) → StartsFrame s → IsShallow 1 s
shallow s h r = no_space s (32 ∷ r) h

-- The lines of attributes are none of what follows a frame's lines.
attributes_differ : (p s t : List ℕ) → is_acknowledgement p ≡ true → StartsFrame t → lines_text (acknowledgement_lines p) ++ s ≡ t → ⊥
attributes_differ p s t h j e =
    let b = acknowledgements_determined.indented p h in
    no_space t (b.0 ++ s) j (sym e ∙ ap (λ z. z ++ s) b.1)

-- Bytes and attributes are not bytes alone.
rest_differs : (x p q s t : List ℕ) → is_acknowledgement p ≡ true → AreBytes x → AreBytes q → StartsFrame t → bytes_line (codes "rest") x ++ (lines_text (acknowledgement_lines p) ++ s) ≡ bytes_line (codes "rest") q ++ t → ⊥
unfolding bytes_line
rest_differs [] p [] s t h a b j e = attributes_differ p s t h j e
rest_differs [] p (y ∷ q) s t h a b j e = acknowledgements_determined.apart p s _ h e
rest_differs (c ∷ x) p [] s t h a b j e = no_space t _ j (sym e)
rest_differs (c ∷ x) p (y ∷ q) s t h a b j e = attributes_differ p s t h j (shown_bytes_determined (codes "rest") c y x q (lines_text (acknowledgement_lines p) ++ s) t a b e).1

-- Some bytes with attributes after them.
record IsFollowed (n : ℕ) (r : List ℕ) : Type 0 where
  within : nla_align n ≤ length r
  padding : is_zero (drop n (take (nla_align n) r)) ≡ true
  attributes : is_acknowledgement (drop (nla_align n) r) ≡ true

followed : (n : ℕ) (r : List ℕ) → is_followed n r ≡ true → IsFollowed n r
followed n r h =
    let parts = and_parts (nat_le (nla_align n) (length r)) _ h in
    let more = and_parts (is_zero (drop n (take (nla_align n) r))) _ parts.1 in
    record { within = leb-true (nla_align n) (length r) parts.0; padding = more.0; attributes = more.1 }

aligned : (n : ℕ) → n ≤ nla_align n
aligned n = omega arith

zeros_same : (p q : List ℕ) → AreBytes p → AreBytes q → length p ≡ length q → is_zero p ≡ true → is_zero q ≡ true → p ≡ q
zeros_same p q a b l h k = number_determined p q a b l (zero_number p h ∙ sym (zero_number q k))

-- The bytes up to the attributes.
front_determined : (n : ℕ) (p q : List ℕ) → AreBytes p → AreBytes q → IsFollowed n p → IsFollowed n q → take n p ≡ take n q → take (nla_align n) p ≡ take (nla_align n) q
front_determined n p q a b f g e =
    let m : ℕ = nla_align n in
    let low = aligned n in
    let size = length-take m p in
    let other = length-take m q in
    let padding : drop n (take m p) ≡ drop n (take m q) =
    zeros_same (drop n (take m p)) (drop n (take m q)) (AreBytes-drop n (take m p) (AreBytes-take m p a)) (AreBytes-drop n (take m q) (AreBytes-take m q b))
    (omega (arith, length-drop n (take m p), length-drop n (take m q), size, other, f.within, g.within)) f.padding g.padding in
    both_parts n (take m p) (take m q) (take-take n m p low ∙ e ∙ sym (take-take n m q low)) padding

followed_determined : (n : ℕ) (p q s t : List ℕ) → AreBytes p → AreBytes q → IsFollowed n p → IsFollowed n q → StartsFrame s → StartsFrame t →
    (bytes_line (codes "rest") (take n p) ++ lines_text (acknowledgement_lines (drop (nla_align n) p))) ++ s
    ≡ (bytes_line (codes "rest") (take n q) ++ lines_text (acknowledgement_lines (drop (nla_align n) q))) ++ t → (p ≡ q) × (s ≡ t)
followed_determined n p q s t a b f g i j e =
    let m : ℕ = nla_align n in
    let low = aligned n in
    let x = lines_text (acknowledgement_lines (drop m p)) in
    let y = lines_text (acknowledgement_lines (drop m q)) in
    let size : length (take n p) ≡ length (take n q) = omega (arith, length-take n p, length-take n q, f.within, g.within, low) in
    let front = same_size_determined (codes "rest") (take n p) (take n q) (x ++ s) (y ++ t) (AreBytes-take n p a) (AreBytes-take n q b) size
    (following (bytes_line (codes "rest") (take n p)) x s (bytes_line (codes "rest") (take n q)) y t e) in
    let list = acknowledgements_determined.determined (drop m p) (drop m q) s t (AreBytes-drop m p a) (AreBytes-drop m q b) f.attributes g.attributes (shallow s i) (shallow t j) front.1 in
    (both_parts m p q (front_determined n p q a b f g front.0) list.0, list.1)

rest_by : (n : ℕ) (p q s t : List ℕ) (x y : Bool) → is_followed n p ≡ x → is_followed n q ≡ y → AreBytes p → AreBytes q → StartsFrame s → StartsFrame t →
    cond x (bytes_line (codes "rest") (take n p) ++ lines_text (acknowledgement_lines (drop (nla_align n) p))) (bytes_line (codes "rest") p) ++ s
    ≡ cond y (bytes_line (codes "rest") (take n q) ++ lines_text (acknowledgement_lines (drop (nla_align n) q))) (bytes_line (codes "rest") q) ++ t → (p ≡ q) × (s ≡ t)
rest_by n p q s t false false h k a b i j e = bytes_line_determined (codes "rest") p q s t a b i j e
rest_by n p q s t false true h k a b i j e =
    absurd (rest_differs (take n q) (drop (nla_align n) q) p t s (followed n q k).attributes (AreBytes-take n q b) a i (sym (append_assoc (bytes_line (codes "rest") (take n q)) _ t) ∙ sym e))
rest_by n p q s t true false h k a b i j e =
    absurd (rest_differs (take n p) (drop (nla_align n) p) q s t (followed n p h).attributes (AreBytes-take n p a) b j (sym (append_assoc (bytes_line (codes "rest") (take n p)) _ s) ∙ e))
rest_by n p q s t true true h k a b i j e = followed_determined n p q s t a b (followed n p h) (followed n q k) i j e

-- The remaining bytes and the attributes are determined.
rest_determined : (o : Option ℕ) (p q s t : List ℕ) → AreBytes p → AreBytes q → StartsFrame s → StartsFrame t → rest_lines o p ++ s ≡ rest_lines o q ++ t → (p ≡ q) × (s ≡ t)
unfolding rest_lines
rest_determined None p q s t a b i j e = bytes_line_determined (codes "rest") p q s t a b i j e
rest_determined (Some n) p q s t a b i j e = rest_by n p q s t (is_followed n p) (is_followed n q) refl refl a b i j e

-- ---- what follows a code

-- What follows a code of this type is determined, given the flags.
abbrev AfterCodeIsDetermined : Bool → ℕ → ℕ → Type 0
AfterCodeIsDetermined n m g = (p q s t : List ℕ) → AreBytes p → AreBytes q → (m ≡ 2 → 16 ≤ length p → AreKnown n p) → (m ≡ 2 → 16 ≤ length q → AreKnown n q) → StartsFrame s → StartsFrame t →
    after_code n m g p ++ s ≡ after_code n m g q ++ t → (p ≡ q) × (s ≡ t)

-- A request's line is no line of bytes, nor the start of what follows a frame's lines.
request_differs : (n : Bool) (p q r s t : List ℕ) → StartsFrame t → (request_line n p ++ r) ++ s ≡ bytes_line (codes "rest") q ++ t → ⊥
unfolding request_line bytes_line
request_differs n p [] r s t h e = no_space t _ h (sym e)
request_differs n p (y ∷ q) r s t h e = let fifth : ◌≡◌ {A = ℕ} 113 115 = ap (λ l. get_or l 4 0) e in omega arith

requests_by : (n : Bool) (g : ℕ) (p q s t : List ℕ) (x y : Bool) → AreBytes p → AreBytes q → nat_le 16 (length p) ≡ x → nat_le 16 (length q) ≡ y →
    (16 ≤ length p → AreKnown n p) → (16 ≤ length q → AreKnown n q) → StartsFrame s → StartsFrame t →
    cond x (request_line n p ++ rest_lines (request_rest g (u32_at 0 p)) (drop 16 p)) (bytes_line (codes "rest") p) ++ s
    ≡ cond y (request_line n q ++ rest_lines (request_rest g (u32_at 0 q)) (drop 16 q)) (bytes_line (codes "rest") q) ++ t → (p ≡ q) × (s ≡ t)
requests_by n g p q s t false false a b x y h m i j e = bytes_line_determined (codes "rest") p q s t a b i j e
requests_by n g p q s t false true a b x y h m i j e = absurd (request_differs n q p (rest_lines (request_rest g (u32_at 0 q)) (drop 16 q)) t s i (sym e))
requests_by n g p q s t true false a b x y h m i j e = absurd (request_differs n p q (rest_lines (request_rest g (u32_at 0 p)) (drop 16 p)) s t j e)
requests_by n g p q s t true true a b x y h m i j e =
    let l = leb-true 16 (length p) x in
    let o = leb-true 16 (length q) y in
    let size = request_rest g (u32_at 0 p) in
    let u = rest_lines size (drop 16 p) in
    let w = rest_lines (request_rest g (u32_at 0 q)) (drop 16 q) in
    let same = request_determined n p q (u ++ s) (w ++ t) a b l o (h l) (m o) (following (request_line n p) u s (request_line n q) w t e) in
    let alike = same.rest ∙ ap (λ k. rest_lines (request_rest g k) (drop 16 q) ++ t) (sym same.size) in
    let r = rest_determined size (drop 16 p) (drop 16 q) s t (AreBytes-drop 16 p a) (AreBytes-drop 16 q b) i j alike in
    (same.bytes r.0, r.1)

after_error : (n : Bool) (g : ℕ) → AfterCodeIsDetermined n 2 g
unfolding after_code rest_lines
after_error n g p q s t a b h m i j e = requests_by n g p q s t (nat_le 16 (length p)) (nat_le 16 (length q)) a b refl refl (h refl) (m refl) i j e

after_done : (n : Bool) (g : ℕ) → AfterCodeIsDetermined n 3 g
unfolding after_code
after_done n g p q s t a b h m i j e = rest_determined (code_rest 3 g) p q s t a b i j e

abbrev rest_part : Bool → ℕ → ℕ → List ℕ → List ℕ
rest_part n m g b = after_code n m g (drop 4 b)

pub code_lines_are : (n : Bool) (m g : ℕ) (b : List ℕ) → 4 ≤ length b → code_lines n m g b ≡ codes "  code" ++ (value_text (Signed errors) (take 4 b) ++ 10 ∷ rest_part n m g b)
unfolding code_lines
code_lines_are n m g b h = rw (le-leb 4 (length b) h)

errors_on_a_line : is_shown_on_a_line (Signed errors) ≡ true
unfolding number_texts
errors_on_a_line = refl

-- The request's numbers in a body are known.
abbrev RequestIsKnown : Bool → ℕ → List ℕ → Type 0
RequestIsKnown n m p = m ≡ 2 → 20 ≤ length p → AreKnown n (drop 4 p)

code_determined : (n : Bool) (m f : ℕ) → AfterCodeIsDetermined n m f → (p q s t : List ℕ) → AreBytes p → AreBytes q → 4 ≤ length p → 4 ≤ length q →
    RequestIsKnown n m p → RequestIsKnown n m q → StartsFrame s → StartsFrame t → code_lines n m f p ++ s ≡ code_lines n m f q ++ t → (p ≡ q) × (s ≡ t)
code_determined n m f determined p q s t a b l o g h i j e =
    let x = value_text (Signed errors) (take 4 p) in
    let y = value_text (Signed errors) (take 4 q) in
    let lines = sym (ap (λ z. z ++ s) (code_lines_are n m f p l)) ∙ e ∙ ap (λ z. z ++ t) (code_lines_are n m f q o) in
    let shown = following x (10 ∷ rest_part n m f p) s y (10 ∷ rest_part n m f q) t (ap (drop 6) lines) in
    let c = cut_line x y (rest_part n m f p ++ s) (rest_part n m f q ++ t) (values_are_lines.line (Signed errors) (take 4 p) errors_on_a_line) (values_are_lines.line (Signed errors) (take 4 q) errors_on_a_line) shown in
    let r = determined (drop 4 p) (drop 4 q) s t (AreBytes-drop 4 p a) (AreBytes-drop 4 q b)
    (λ two z. g two (omega (arith, z, length-drop 4 p))) (λ two z. h two (omega (arith, z, length-drop 4 q))) i j c.1 in
    let size : length (take 4 p) ≡ 4 = omega (arith, length-take 4 p, l) in
    let other : length (take 4 q) ≡ 4 = omega (arith, length-take 4 q, o) in
    let code = numbers_determined.signed errors (take 4 p) (take 4 q) (AreBytes-take 4 p a) (AreBytes-take 4 q b) (size ∙ sym other) (ap is_signed_size size) c.0 in
    (both_parts 4 p q code r.0, r.1)

-- ---- a link's body

ruled_is : (x y z : Bool) (p b : List ℕ) → cond x (cond y (Err EmptyPorts) (cond z (Ok p) (Err Unfit))) (Err Refused) ≡ Ok b → (x ≡ true) × (p ≡ b)
ruled_is true false true p b e = (refl, cc)
ruled_is x y z p b e = absurd cc

-- A canonical body of a link has a canonical header and canonical attributes.
canonical_body : (b : List ℕ) → AreBytes b → ruled_text link_body b ≡ Ok b → IsCanonicalLink link_peer b
canonical_body b a e =
    let r = ruled_is (link_body.accepted b) (link_body.empty_ports b) (link_body.fits b) (link_body.canonical b) b e in
    canonical_link link_peer b a r.0 r.1

link_lines_are : (scope : Scope) (b : List ℕ) → 16 ≤ length b → link_lines scope b ≡ link_part 1 scope b
unfolding link_lines
link_lines_are scope b h = rw (le-leb 16 (length b) h)

-- The lines of a canonical body of a link under a rule of peers determine it.
body_determined : (peer : RuleOfPeers) (scope : Scope) → ((bound : ℕ) → FamiliesDetermined bound peer scope) → (p q s t : List ℕ) → AreBytes p → AreBytes q → IsCanonicalLink peer p → IsCanonicalLink peer q → StartsFrame s → StartsFrame t →
    link_lines scope p ++ s ≡ link_lines scope q ++ t → (p ≡ q) × (s ≡ t)
body_determined peer scope lists p q s t a b h k i j e =
    let lines = sym (ap (λ z. z ++ s) (link_lines_are scope p h.size)) ∙ e ∙ ap (λ z. z ++ t) (link_lines_are scope q k.size) in
    link_determined (suc (length (drop 16 p))) peer scope (lists (suc (length (drop 16 p)))) 1 p q s t (omega arith) a b h k (shallow s i) (shallow t j) lines

-- ---- a body about a link's properties

-- What the attributes of such a body are in.
abbrev in_properties : Bool → Scope
in_properties request = in_peer (in_message request)

-- A link's lines are not a line of bytes, nor the start of what follows a frame's lines.
link_differs : (scope : Scope) (p q s t : List ℕ) → 16 ≤ length p → StartsFrame t → link_lines scope p ++ s ≡ bytes_line (codes "body") q ++ t → ⊥
unfolding bytes_line link_numbers
link_differs scope p [] s t h j e = no_space t _ j (sym e ∙ ap (λ z. z ++ s) (link_lines_are scope p h))
link_differs scope p (y ∷ q) s t h j e =
    let third : ◌≡◌ {A = ℕ} 105 98 = ap (λ l. get_or l 2 0) (sym (ap (λ z. z ++ s) (link_lines_are scope p h)) ∙ e) in
    omega arith

properties_by : (request x y : Bool) (p q s t : List ℕ) → is_canonical_peer p ≡ x → is_canonical_peer q ≡ y → AreBytes p → AreBytes q → StartsFrame s → StartsFrame t →
    cond x (link_lines (in_properties request) p) (bytes_line (codes "body") p) ++ s ≡ cond y (link_lines (in_properties request) q) (bytes_line (codes "body") q) ++ t → (p ≡ q) × (s ≡ t)
properties_by request false false p q s t h k a b i j e = bytes_line_determined (codes "body") p q s t a b i j e
properties_by request false true p q s t h k a b i j e = absurd (link_differs (in_properties request) q p t s (found_canonical q b k).size i (sym e))
properties_by request true false p q s t h k a b i j e = absurd (link_differs (in_properties request) p q s t (found_canonical p a h).size j e)
properties_by request true true p q s t h k a b i j e =
    body_determined bytes_peer (in_properties request) (peer_lists_are_determined request) p q s t a b (found_canonical p a h) (found_canonical q b k) i j e

properties_determined : (request : Bool) (p q s t : List ℕ) → AreBytes p → AreBytes q → StartsFrame s → StartsFrame t → property_lines request p ++ s ≡ property_lines request q ++ t → (p ≡ q) × (s ≡ t)
unfolding property_lines
properties_determined request p q s t = properties_by request (is_canonical_peer p) (is_canonical_peer q) p q s t refl refl

-- ---- bodies by their type

-- The types NLMSG_NOOP, NLMSG_ERROR and NLMSG_DONE (netlink.h).
abbrev noop_type : ℕ
noop_type = 1

abbrev error_type : ℕ
error_type = 2

abbrev done_type : ℕ
done_type = 3

abbrev BodiesOfTypeAreDetermined : Bool → ℕ → ℕ → Type 0
BodiesOfTypeAreDetermined numbers flags n = (p q s t : List ℕ) → AreBytes p → AreBytes q → body_text link_body n p ≡ Ok p → body_text link_body n q ≡ Ok q →
    RequestIsKnown numbers n p → RequestIsKnown numbers n q → StartsFrame s → StartsFrame t →
    body_lines numbers n flags p ++ s ≡ body_lines numbers n flags q ++ t → (p ≡ q) × (s ≡ t)

noop_is : (p : List ℕ) → body_text link_body noop_type p ≡ Ok p → [] ≡ p
unfolding body_text
noop_is p h = cc

noops_determined : (numbers : Bool) (flags : ℕ) → BodiesOfTypeAreDetermined numbers flags noop_type
unfolding body_lines other_lines raw_body_lines bytes_line
noops_determined numbers flags [] [] s t a b h k f g i j e = (refl, e)
noops_determined numbers flags [] (y ∷ q) s t a b h k f g i j e = absurd (let none = noop_is (y ∷ q) k in cc)
noops_determined numbers flags (x ∷ p) q s t a b h k f g i j e = absurd (let none = noop_is (x ∷ p) h in cc)

code_by : (b : Bool) (p q : List ℕ) → cond b (Err Refused) (Ok q) ≡ Ok p → b ≡ false
code_by true p q h = absurd cc
code_by false p q h = refl

error_size : (p : List ℕ) → body_text link_body error_type p ≡ Ok p → 4 ≤ length p
unfolding body_text
error_size p h = let l = ltb-false (length p) 4 (code_by _ p p h) in omega (arith, l)

done_by : (a b : Bool) (p : List ℕ) → (a ≡ true → length p ≡ 0) → cond a (Ok (0 ∷ 0 ∷ 0 ∷ 0 ∷ [])) (cond b (Err Refused) (Ok p)) ≡ Ok p → b ≡ false
done_by true b p l h = let zeros : 0 ∷ 0 ∷ 0 ∷ 0 ∷ [] ≡ p = cc in let size : 4 ≡ length p = ap length zeros in absurd (omega (arith, l refl))
done_by false b p l h = code_by b p p h

done_size : (p : List ℕ) → body_text link_body done_type p ≡ Ok p → 4 ≤ length p
unfolding body_text
done_size p h = let l = ltb-false (length p) 4 (done_by (length p == 0) _ p (eqb-true (length p) 0) h) in omega (arith, l)

errors_determined : (numbers : Bool) (flags : ℕ) → BodiesOfTypeAreDetermined numbers flags error_type
unfolding body_lines
errors_determined numbers flags p q s t a b h k f g i j e =
    code_determined numbers error_type flags (after_error numbers flags) p q s t a b (error_size p h) (error_size q k) f g i j e

dones_determined : (numbers : Bool) (flags : ℕ) → BodiesOfTypeAreDetermined numbers flags done_type
unfolding body_lines
dones_determined numbers flags p q s t a b h k f g i j e =
    code_determined numbers done_type flags (after_done numbers flags) p q s t a b (done_size p h) (done_size q k) f g i j e

-- A body of another type.
text_is : (n : ℕ) (p : List ℕ) → (n ≡ noop_type → ⊥) → (n ≡ error_type → ⊥) → (n ≡ done_type → ⊥) → body_text link_body n p ≡ cond (is_link_type n) (ruled_text link_body p) (Ok p)
unfolding body_text
text_is n p a b c = rw (ne_eqb n noop_type a, ne_eqb n error_type b, ne_eqb n done_type c)

lines_are : (numbers : Bool) (flags n : ℕ) (p : List ℕ) → (n ≡ error_type → ⊥) → (n ≡ done_type → ⊥) → body_lines numbers n flags p ≡ cond (is_link_type n) (link_lines (in_message (has_request_flag flags)) p) (other_lines n (has_request_flag flags) p)
unfolding body_lines
lines_are numbers flags n p b c = rw (ne_eqb n error_type b, ne_eqb n done_type c)

-- ---- bodies of other messages

-- A text that begins with a space is none of what follows a frame's lines.
abbrev BeginsWithIndent : List ℕ → Type 0
BeginsWithIndent s = (r : List ℕ) × (s ≡ 32 ∷ r)

record_by : (b : Bool) (line : Line) (more lines : List Line) → cond b (Some ((1, line.1) ∷ more)) None ≡ Some lines → BeginsWithIndent (lines_text lines)
unfolding lines_text
record_by true line more lines e = subst (λ z. BeginsWithIndent (lines_text z)) (same_Some ((1, line.1) ∷ more) lines e) (_, refl)
record_by false line more lines e = absurd cc

-- The lines of a body begin with a space.
begin : (n : ℕ) (request : Bool) (p : List ℕ) (lines : List Line) → raw_body_lines n request p ≡ Some lines → BeginsWithIndent (lines_text lines)
unfolding raw_body_lines
begin n request p lines =
    row_holds (λ o. o ≡ Some lines → BeginsWithIndent (lines_text lines)) n p (λ h table. record_by _ (1, record_words (body_header h) _) _ lines) (λ e. absurd cc) (first_fitting BODIES.now n request p)

-- The lines of a body are not a line of its bytes, nor the start of what follows a frame's lines.
lines_differ : (n : ℕ) (request : Bool) (p q s t : List ℕ) (lines : List Line) → raw_body_lines n request p ≡ Some lines → StartsFrame t → lines_text lines ++ s ≡ bytes_line (codes "body") q ++ t → ⊥
unfolding bytes_line
lines_differ n request p [] s t lines h j e =
    let b = begin n request p lines h in
    no_space t (b.0 ++ s) j (sym e ∙ ap (λ z. z ++ s) b.1)
lines_differ n request p (y ∷ q) s t lines h j e = bodies_are_determined.apart n request p lines s _ h refl e

others_by : (n : ℕ) (request : Bool) (p q s t : List ℕ) (x y : Option (List Line)) → raw_body_lines n request p ≡ x → raw_body_lines n request q ≡ y → AreBytes p → AreBytes q → StartsFrame s → StartsFrame t →
    or_bytes x p ++ s ≡ or_bytes y q ++ t → (p ≡ q) × (s ≡ t)
others_by n request p q s t None None h k a b i j e = bytes_line_determined (codes "body") p q s t a b i j e
others_by n request p q s t (Some x) None h k a b i j e = absurd (lines_differ n request p q s t x h j e)
others_by n request p q s t None (Some y) h k a b i j e = absurd (lines_differ n request q p t s y k i (sym e))
others_by n request p q s t (Some x) (Some y) h k a b i j e = bodies_are_determined.determined n request p q x y s t a b h k (shallow s i) (shallow t j) e

others_of : (n : ℕ) (request l : Bool) (p q s t : List ℕ) → AreBytes p → AreBytes q → StartsFrame s → StartsFrame t →
    cond l (property_lines request p) (or_bytes (raw_body_lines n request p) p) ++ s ≡ cond l (property_lines request q) (or_bytes (raw_body_lines n request q) q) ++ t → (p ≡ q) × (s ≡ t)
others_of n request true p q s t a b i j e = properties_determined request p q s t a b i j e
others_of n request false p q s t a b i j e = others_by n request p q s t (raw_body_lines n request p) (raw_body_lines n request q) refl refl a b i j e

other_determined : (n : ℕ) (request : Bool) (p q s t : List ℕ) → AreBytes p → AreBytes q → StartsFrame s → StartsFrame t → other_lines n request p ++ s ≡ other_lines n request q ++ t → (p ≡ q) × (s ≡ t)
unfolding other_lines
other_determined n request p q s t = others_of n request (is_property_type n) p q s t

other_by : (n : ℕ) (request l : Bool) (p q s t : List ℕ) → AreBytes p → AreBytes q → cond l (ruled_text link_body p) (Ok p) ≡ Ok p → cond l (ruled_text link_body q) (Ok q) ≡ Ok q → StartsFrame s → StartsFrame t →
    cond l (link_lines (in_message request) p) (other_lines n request p) ++ s ≡ cond l (link_lines (in_message request) q) (other_lines n request q) ++ t → (p ≡ q) × (s ≡ t)
other_by n request true p q s t a b h k i j e = body_determined link_peer (in_message request) (link_lists_are_determined request) p q s t a b (canonical_body p a h) (canonical_body q b k) i j e
other_by n request false p q s t a b h k i j e = other_determined n request p q s t a b i j e

others_determined : (numbers : Bool) (flags n : ℕ) → (n ≡ noop_type → ⊥) → (n ≡ error_type → ⊥) → (n ≡ done_type → ⊥) → BodiesOfTypeAreDetermined numbers flags n
others_determined numbers flags n x y z p q s t a b h k f g i j e =
    let lines = sym (ap (λ l. l ++ s) (lines_are numbers flags n p y z)) ∙ e ∙ ap (λ l. l ++ t) (lines_are numbers flags n q y z) in
    other_by n (has_request_flag flags) (is_link_type n) p q s t a b (sym (text_is n p x y z) ∙ h) (sym (text_is n q x y z) ∙ k) i j lines

bodies_determined : (numbers : Bool) (flags n : ℕ) → BodiesOfTypeAreDetermined numbers flags n
bodies_determined numbers flags n =
    elim (eqb_tells n noop_type) [
      | inl x ↦ subst (BodiesOfTypeAreDetermined numbers flags) (sym x.1) (noops_determined numbers flags)
      | inr x ↦
          elim (eqb_tells n error_type) [
            | inl y ↦ subst (BodiesOfTypeAreDetermined numbers flags) (sym y.1) (errors_determined numbers flags)
            | inr y ↦
                elim (eqb_tells n done_type) [
                  | inl z ↦ subst (BodiesOfTypeAreDetermined numbers flags) (sym z.1) (dones_determined numbers flags)
                  | inr z ↦ others_determined numbers flags n x.1 y.1 z.1
                ]
          ]
    ]

-- ---- frames

-- The lines of a frame begin with the name of a type.
starts : (numbers : Bool) (f s : List ℕ) → StartsFrame (frame_lines numbers f ++ s)
unfolding frame_lines header_line
starts numbers f s =
    let body = body_lines numbers (u16_at 4 f) (u16_at 6 f) (drop 16 f) in
    let type = type_text (u16_at 4 f) in
    let parts = append_assoc (header_line numbers f) body s ∙ append_assoc type (flags_part numbers f) (body ++ s) in
    subst StartsFrame (sym parts) (type_starts (u16_at 4 f) (flags_part numbers f ++ (body ++ s)))

-- All of a frame but its length is determined, and where its lines end.
frames_determined : (numbers : Bool) (f g s t : List ℕ) → IsCanonicalFrame f → IsCanonicalFrame g → NumbersAreKnown numbers f → NumbersAreKnown numbers g → StartsFrame s → StartsFrame t →
    frame_lines numbers f ++ s ≡ frame_lines numbers g ++ t → (drop 4 f ≡ drop 4 g) × (s ≡ t)
unfolding frame_lines
frames_determined numbers f g s t h k x y i j e =
    let lines : ℕ → ℕ → List ℕ → List ℕ = λ n r b. body_lines numbers n r (drop 16 b) in
    let own_f = lines (u16_at 4 f) (u16_at 6 f) f in
    let own_g = lines (u16_at 4 g) (u16_at 6 g) g in
    let same = header_determined numbers f g (own_f ++ s) (own_g ++ t) h.bytes k.bytes h.header k.header x.own y.own
    (following (header_line numbers f) own_f s (header_line numbers g) own_g t e) in
    let back = sym same.type in
    let other = subst (λ n. body_text link_body n (drop 16 g) ≡ Ok (drop 16 g)) back k.body in
    let asked : RequestIsKnown numbers (u16_at 4 f) (drop 16 g) = λ two. y.request (back ∙ two) in
    let rest = same.rest ∙ ap (λ n. lines n (u16_at 6 g) g ++ t) back ∙ ap (λ r. lines (u16_at 4 f) r g ++ t) (sym same.flags) in
    let r = bodies_determined numbers (u16_at 6 f) (u16_at 4 f) (drop 16 f) (drop 16 g) s t (AreBytes-drop 16 f h.bytes) (AreBytes-drop 16 g k.bytes) h.body other x.request asked i j rest in
    (same.bytes r.0, r.1)

pub determined : FramesAreDetermined
determined = record { starts = starts; determined = frames_determined }
