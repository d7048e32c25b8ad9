-- An attribute, as its row writes it, has no encoding quirk itself.
use Rattle.std.proofs.Common.{◌≡◌, ℕ, zero, suc, ◌+◌, ◌-◌, ◌≤◌, Bool, true, false, cond, eqb, ltb, leb, List, [], ◌∷◌, ◌++◌, length, take, map, Option, option_map, Some, None, refl, sym, ap, subst, ◌∙◌, arith, length-append}
use Rattle.std.specs.Prelude.{◌&&◌, ◌||◌, not, slice_index}
use Rattle.std.proofs.Math.Seq.{get_or-append_right}
use Rattle.std.proofs.lemmas.Bool.{and_parts, eqb-true, eqb-false, leb-true, ne_eqb, false≢true}
use Rattle.std.proofs.lemmas.Bool.Decides.{nat_tests}
use Rattle.std.proofs.lemmas.List.{length-take-le}
use Rattle.std.proofs.lemmas.List.Folds.{list_any-append}
use Rattle.std.specs.Option.{option_map_or}
use Rattle.netlink_packet_core_grammar.specs.Attributes.{Attribute, proper_kind, zeros, nla_align, attribute_length, list_text, first_attribute}
use Rattle.netlink_packet_core_grammar.specs.Laws.{WrittenIsFirst}
use Rattle.netlink_packet_core_grammar.specs.Numbers.{u32_at}
use Rattle.netlink_packet_core_grammar.specs.Texts.{without_nul}
use Rattle.netlink_packet_core_grammar.specs.Booleans.{boolean_of, is_one}
use Rattle.attribute_tables_grammar.specs.Shapes.{number, number_boolean}
use Rattle.attribute_tables_grammar.specs.Lists.{Row, no_kind_in_force, canonical_form, canonical_forms, canonical_kind, row_of, first_only, kept, all_accepted, list_rule}
use Rattle.attribute_tables_grammar.specs.LookUps.{table_row}
use Rattle.attribute_tables_grammar.specs.Peers.{RuleOfPeers}
use Rattle.attribute_tables_grammar.specs.Tables.{Table as Rows, grammar}
use Rattle.attribute_tables_grammar.proofs.Attributes.{proper_kind-written}
use Rattle.link_info_grammar.specs.Families.{vxlan, geneve, gre, gre6, ip_tunnel, bareudp, batadv, netkit, pair}
use Rattle.link_message_grammar.specs.Body.{attribute_row, header_text}
use Rattle.link_message_grammar.specs.LinkMessage.{Family, unspec, bridge}
use Rattle.link_message_grammar.specs.NestedTables.{inet, xdp, resized, vf_infos}
use Rattle.link_capture_quirks.specs.declared.quirk_at.Quirk.{Quirk}
use Rattle.link_capture_quirks.specs.declared.quirk_at.Quirk.TheVariants.{NestedPortSettings, PathDiscoveryOverOne, LongAlias, NameWithoutNul, FlagWithPayload, BooleanOverOne, StrayNestedBit, ShortMap}
use Rattle.link_capture_quirks.specs.declared.tables.Data.{Data}
use Rattle.link_capture_quirks.specs.declared.tables.Data.TheVariants.{Vxlan, Geneve, Gre, Gre6, IpTunnel, BareUdp, Batadv, Netkit, Pair}
use Rattle.link_capture_quirks.specs.declared.tables.Table.TheVariants.{Inet, Programs, Functions, OfKind}
use Rattle.link_capture_quirks.specs.QuirkRows.{quirk_if, is_byte_over_one, is_u32_over_one, has_nul, is_long_alias, link_quirk, data_quirk, is_flag, is_strict, bit_quirk, payload_quirk, header_quirk}
use Rattle.link_capture_walks.specs.Walks.{collected_inside}
use Rattle.link_capture_quirks.specs.QuirkLists.{quirks_at, direct_quirks, inside_of, rest_after, list_quirks}
use Rattle.link_capture_quirks.specs.declared.tables.Table.{Table}
use Rattle.link_capture_walks.specs.Listings.{whole}
use Rattle.link_capture_quirks.specs.QuirkTables.{Listing, family_table, inside}
use Rattle.link_capture_quirks.proofs.Inside.{at_kind, either, split}
use Rattle.link_capture_quirks.specs.QuirkLaws.{ListsUnfoldByAttributes, link_list, IsDataTable, WrittenAttributesHaveNone}

abbrev pub NoQuirk : Option Quirk → Type 0
NoQuirk o = o ≡ None

pub no : (b : Bool) (s : Quirk) → b ≡ false → NoQuirk (quirk_if b s)
no b s h = ap (λ z. quirk_if z s) h

-- ---- payloads

pub and-no : (b c : Bool) → (b ≡ true → c ≡ false) → (b && c) ≡ false
and-no true c f = f refl
and-no false c f = refl

pub byte-boolean : (p : List ℕ) → is_byte_over_one (map boolean_of p) ≡ false
byte-boolean [] = refl
byte-boolean (zero ∷ []) = refl
byte-boolean (suc b ∷ []) = refl
byte-boolean (a ∷ b ∷ p) =
    let m : List ℕ = map boolean_of p in and-no (eqb (suc (suc (length m))) 1) _ (λ h. absurd (let n : suc (suc (length m)) ≡ 1 = eqb-true (suc (suc (length m))) 1 h in omega (arith, n)))

pub byte-one : (p : List ℕ) → is_byte_over_one (map is_one p) ≡ false
byte-one [] = refl
byte-one (zero ∷ []) = refl
byte-one (suc zero ∷ []) = refl
byte-one (suc (suc b) ∷ []) = refl
byte-one (a ∷ b ∷ p) =
    let m : List ℕ = map is_one p in and-no (eqb (suc (suc (length m))) 1) _ (λ h. absurd (let n : suc (suc (length m)) ≡ 1 = eqb-true (suc (suc (length m))) 1 h in omega (arith, n)))

pub ended-filled : (p : List ℕ) → eqb (length (p ++ 0 ∷ [])) 0 ≡ false
ended-filled p = let s : length (p ++ 0 ∷ []) ≡ length p + 1 = length-append p (0 ∷ []) in ne_eqb (length (p ++ 0 ∷ [])) 0 (λ e. absurd (omega (arith, s, e)))

or-true : (b : Bool) → (b || true) ≡ true
or-true true = refl
or-true false = refl

pub ended-nul : (p : List ℕ) → not (has_nul (p ++ 0 ∷ [])) ≡ false
ended-nul p = ap not (list_any-append (λ b. eqb b 0) p (0 ∷ []) ∙ or-true (has_nul p))

pub ended-short : (p : List ℕ) → is_long_alias (p ++ 0 ∷ []) ≡ false
ended-short p =
    and-no _ _ (λ h.
    let size : length (p ++ 0 ∷ []) ≡ length p + 1 = length-append p (0 ∷ []) in
    let long : length (p ++ 0 ∷ []) ≡ 255 = eqb-true _ 255 h in
    let n : length p ≡ 254 = omega (arith, size, long) in
    let last : slice_index (p ++ 0 ∷ []) 254 ≡ 0 =
    get_or-append_right p (0 ∷ []) 254 0 (omega (arith, n)) ∙ ap (λ k. slice_index (0 ∷ []) (254 - k)) n in
    ap (λ k. not (eqb k 0)) last)

pub word-boolean : (p : List ℕ) → is_u32_over_one (number_boolean p) ≡ false
unfolding u32_at
word-boolean p = elim (number p) as (λ n. is_u32_over_one (boolean_of n ∷ 0 ∷ 0 ∷ 0 ∷ []) ≡ false) [ zero ↦ refl | suc n ↦ refl ]

-- ---- the nested bit of a kind that is written without it

bit-no : (b c : Bool) (s : Quirk) → (c ≡ true → b ≡ false) → NoQuirk (cond b (quirk_if c s) None)
bit-no true true s f = ap (λ b. cond b (Some s) None) (f refl)
bit-no true false s f = refl
bit-no false c s f = refl

both-none : (b : Bool) → NoQuirk (cond b None None)
both-none true = refl
both-none false = refl

low : (k : ℕ) → leb 0x8000 (proper_kind k + 0) ≡ false
low k = grind arith

-- the row of such a kind is typed and not nested, so the bit is cleared; the bit of other kinds is no quirk
cleared : (s : Quirk) (r : Row) (k : ℕ) (c : Bool) → (c ≡ true → (r.is_typed ≡ true) × (r.is_nested ≡ false)) → NoQuirk (cond (leb 0x8000 (canonical_kind r k)) (quirk_if c s) None)
cleared s r k c f =
    bit-no _ c s (λ h.
    let t = f h in
    ap (λ b. leb 0x8000 (cond b (proper_kind k + cond r.is_nested 0x8000 0) k)) t.0 ∙ ap (λ b. leb 0x8000 (proper_kind k + cond b 0x8000 0)) t.1 ∙ low k)

-- ---- the attributes of a link

map-size : (p : List ℕ) → leb 28 (length p) ≡ true → ltb (length (take 28 p ++ zeros 4)) 32 ≡ false
map-size p h =
    let s : length (take 28 p ++ zeros 4) ≡ length (take 28 p) + 4 = length-append (take 28 p) (zeros 4) in
    let t : length (take 28 p) ≡ 28 = length-take-le 28 p (leb-true 28 (length p) h) in
    ap (λ n. ltb n 32) (s ∙ ap (λ n. n + 4) t)

pub link-payload : (p : RuleOfPeers) (f : Family) (k : ℕ) (b : List ℕ) → (attribute_row p f k).rule.accepted b ≡ true → NoQuirk (link_quirk k ((attribute_row p f k).rule.canonical b))
unfolding link_quirk
link-payload p f k b h =
    split NoQuirk (eqb k 3) _ _ (λ e. at_kind (λ n. NoQuirk (quirk_if (eqb (length ((attribute_row p f n).rule.canonical b)) 0) NameWithoutNul)) k 3 e (no _ _ (ended-filled (without_nul b))))
    (split NoQuirk (eqb k 14) _ _ (λ e. at_kind (λ n. (attribute_row p f n).rule.accepted b ≡ true → NoQuirk (quirk_if (ltb (length ((attribute_row p f n).rule.canonical b)) 32) ShortMap)) k 14 e (λ a. no _ _ (map-size b a)) h)
    (split NoQuirk (eqb k 20) _ _ (λ e. at_kind (λ n. NoQuirk (quirk_if (is_long_alias ((attribute_row p f n).rule.canonical b)) LongAlias)) k 20 e (no _ _ (ended-short (without_nul b))))
    (split NoQuirk (eqb k 56) _ _ (λ e. at_kind (λ n. NoQuirk (quirk_if (not (has_nul ((attribute_row p f n).rule.canonical b))) NameWithoutNul)) k 56 e (no _ _ (ended-nul (without_nul b)))) refl)))

link-bit : (p : RuleOfPeers) (f : Family) (k : ℕ) → NoQuirk (bit_quirk (link_list f) (canonical_kind (attribute_row p f (proper_kind k)) k))
link-bit p bridge k =
    let r = attribute_row p bridge (proper_kind k) in
    cleared NestedPortSettings r k _ (λ h.
    at_kind (λ n. ((attribute_row p bridge n).is_typed ≡ true) × ((attribute_row p bridge n).is_nested ≡ false)) (proper_kind k) 12
    (subst (λ n. eqb n 12 ≡ true) (proper_kind-written r k) h) (refl, refl))
link-bit p f k = both-none _

-- ---- data of kinds of links

flag-at : (p : RuleOfPeers) (t : Rows) (b : List ℕ) (k n : ℕ) → (table_row p t n).rule.canonical b ≡ [] → eqb k n ≡ true → NoQuirk (quirk_if (not (eqb (length ((table_row p t k).rule.canonical b)) 0)) FlagWithPayload)
flag-at p t b k n h e = at_kind (λ m. NoQuirk (quirk_if (not (eqb (length ((table_row p t m).rule.canonical b)) 0)) FlagWithPayload)) k n e (ap (λ x. quirk_if (not (eqb (length x) 0)) FlagWithPayload) h)

value-at : (test : List ℕ → Bool) (s : Quirk) (p : RuleOfPeers) (t : Rows) (b : List ℕ) (k n : ℕ) → test ((table_row p t n).rule.canonical b) ≡ false → eqb k n ≡ true → NoQuirk (quirk_if (test ((table_row p t k).rule.canonical b)) s)
value-at test s p t b k n h e = at_kind (λ m. NoQuirk (quirk_if (test ((table_row p t m).rule.canonical b)) s)) k n e (no _ s h)

data-payload : (p : RuleOfPeers) (d : Data) (t : Rows) (k : ℕ) (b : List ℕ) → IsDataTable d t → NoQuirk (data_quirk d k ((table_row p t k).rule.canonical b))
data-payload p Vxlan t k b i =
    subst (λ t. NoQuirk (data_quirk Vxlan k ((table_row p t k).rule.canonical b))) (sym i)
    (split NoQuirk (is_flag Vxlan k) _ _ (λ e. either (eqb k 23) _ e (flag-at p vxlan b k 23 refl) (λ e. either (eqb k 24) _ e (flag-at p vxlan b k 24 refl) (flag-at p vxlan b k 27 refl)))
    (split NoQuirk (eqb k 31 || eqb k 34) _ _ (λ e. either (eqb k 31) _ e (value-at is_byte_over_one BooleanOverOne p vxlan b k 31 (byte-boolean b)) (value-at is_byte_over_one BooleanOverOne p vxlan b k 34 (byte-boolean b))) refl))
data-payload p Geneve t k b i =
    subst (λ t. NoQuirk (data_quirk Geneve k ((table_row p t k).rule.canonical b))) (sym i)
    (split NoQuirk (is_flag Geneve k) _ _ (λ e. either (eqb k 6) _ e (flag-at p geneve b k 6 refl) (flag-at p geneve b k 14 refl)) refl)
data-payload p Gre t k b i =
    subst (λ t. NoQuirk (data_quirk Gre k ((table_row p t k).rule.canonical b))) (sym i)
    (split NoQuirk (eqb k 18) _ _ (flag-at p gre b k 18 refl)
    (split NoQuirk (eqb k 10) _ _ (value-at is_byte_over_one PathDiscoveryOverOne p gre b k 10 (byte-one b)) refl))
data-payload p Gre6 t k b i =
    subst (λ t. NoQuirk (data_quirk Gre6 k ((table_row p t k).rule.canonical b))) (sym i) (split NoQuirk (eqb k 18) _ _ (flag-at p gre6 b k 18 refl) refl)
data-payload p IpTunnel t k b i =
    subst (λ t. NoQuirk (data_quirk IpTunnel k ((table_row p t k).rule.canonical b))) (sym i.1) (split NoQuirk (eqb k 19) _ _ (flag-at p (ip_tunnel i.0) b k 19 refl) refl)
data-payload p BareUdp t k b i =
    subst (λ t. NoQuirk (data_quirk BareUdp k ((table_row p t k).rule.canonical b))) (sym i) (split NoQuirk (eqb k 4) _ _ (flag-at p bareudp b k 4 refl) refl)
data-payload p Batadv t k b i =
    subst (λ t. NoQuirk (data_quirk Batadv k ((table_row p t k).rule.canonical b))) (sym i)
    (split NoQuirk (eqb k 1) _ _ (value-at (λ x. not (has_nul x)) NameWithoutNul p batadv b k 1 (ended-nul (without_nul b))) refl)
data-payload p Netkit t k b i =
    subst (λ t. NoQuirk (data_quirk Netkit k ((table_row p t k).rule.canonical b))) (sym i)
    (split NoQuirk (eqb k 6 || eqb k 7) _ _ (λ e. either (eqb k 6) _ e (value-at is_u32_over_one BooleanOverOne p netkit b k 6 (word-boolean b)) (value-at is_u32_over_one BooleanOverOne p netkit b k 7 (word-boolean b))) refl)
data-payload p d t k b i = absurd i

next : (P : ℕ → Type 0) (k n : ℕ) → n ≤ k → P n → (suc n ≤ k → P k) → P k
next P k n l a f = elim (eqb k n) as (λ b. eqb k n ≡ b → P k) [ true ↦ λ e. at_kind P k n e a | false ↦ λ e. f (let d = eqb-false k n e in grind (arith, nat_tests)) ] refl

from_31_to_34 : (P : ℕ → Type 0) (k : ℕ) → (leb 31 k && leb k 34) ≡ true → P 31 → P 32 → P 33 → P 34 → P k
from_31_to_34 P k h a b c d =
    let g = and_parts (leb 31 k) (leb k 34) h in
    let low' : 31 ≤ k = leb-true 31 k g.0 in
    let high : k ≤ 34 = leb-true k 34 g.1 in
    next P k 31 low' a (λ l. next P k 32 l b (λ l. next P k 33 l c (λ l. next P k 34 l d (λ l. absurd (omega (arith, l, high))))))

abbrev IsPlain : Row → Type 0
IsPlain r = (r.is_typed ≡ true) × (r.is_nested ≡ false)

data-bit : (p : RuleOfPeers) (d : Data) (t : Rows) (k : ℕ) → IsDataTable d t → NoQuirk (bit_quirk (OfKind d) (canonical_kind (table_row p t (proper_kind k)) k))
data-bit p Vxlan t k i =
    subst (λ t. NoQuirk (bit_quirk (OfKind Vxlan) (canonical_kind (table_row p t (proper_kind k)) k))) (sym i)
    (let r = table_row p vxlan (proper_kind k) in
    cleared StrayNestedBit r k _ (λ h. from_31_to_34 (λ n. IsPlain (table_row p vxlan n)) (proper_kind k) (subst (λ n. is_strict Vxlan n ≡ true) (proper_kind-written r k) h) (refl, refl) (refl, refl) (refl, refl) (refl, refl)))
data-bit p Geneve t k i =
    subst (λ t. NoQuirk (bit_quirk (OfKind Geneve) (canonical_kind (table_row p t (proper_kind k)) k))) (sym i)
    (let r = table_row p geneve (proper_kind k) in
    cleared StrayNestedBit r k _ (λ h. at_kind (λ n. IsPlain (table_row p geneve n)) (proper_kind k) 14 (subst (λ n. eqb n 14 ≡ true) (proper_kind-written r k) h) (refl, refl)))
data-bit p d t k i = both-none _

-- ---- settings of IPv4, and programs

resized-size : (b : List ℕ) → eqb (length (take 132 (b ++ zeros 132))) 132 ≡ true
resized-size b =
    let s : length (b ++ zeros 132) ≡ length b + 132 = length-append b (zeros 132) in
    ap (λ n. eqb n 132) (length-take-le 132 (b ++ zeros 132) (omega (arith, s)))

inet-payload : (p : RuleOfPeers) (k : ℕ) (b : List ℕ) → NoQuirk (payload_quirk Inet k ((table_row p inet k).rule.canonical b))
unfolding resized
inet-payload p k b = no _ _ (and-no _ _ (λ e. at_kind (λ n. not (eqb (length ((table_row p inet n).rule.canonical b)) 132) ≡ false) k 1 e (ap not (resized-size b))))

programs-bit : (p : RuleOfPeers) (k : ℕ) → NoQuirk (bit_quirk Programs (canonical_kind (table_row p xdp (proper_kind k)) k))
programs-bit p k =
    let r = table_row p xdp (proper_kind k) in
    cleared StrayNestedBit r k _ (λ h. at_kind (λ n. IsPlain (table_row p xdp n)) (proper_kind k) 8 (subst (λ n. eqb n 8 ≡ true) (proper_kind-written r k) h) (refl, refl))

-- ---- all of these

direct-none : (t : Table) (offset : ℕ) (r : Row) (e : Attribute) → NoQuirk (bit_quirk t (canonical_kind r e.kind)) → NoQuirk (payload_quirk t (proper_kind e.kind) (r.rule.canonical e.payload)) → direct_quirks t offset (canonical_form r e) ≡ []
unfolding direct_quirks
direct-none t offset r e b q =
    ap (λ z. quirks_at offset z ++ quirks_at offset (payload_quirk t (proper_kind (canonical_kind r e.kind)) (r.rule.canonical e.payload))) b
    ∙ ap (λ z. quirks_at offset (payload_quirk t z (r.rule.canonical e.payload))) (proper_kind-written r e.kind)
    ∙ ap (quirks_at offset) q

link-direct : (p : RuleOfPeers) (f : Family) (k : ℕ) (b : List ℕ) → (attribute_row p f k).rule.accepted b ≡ true → NoQuirk (payload_quirk (link_list f) k ((attribute_row p f k).rule.canonical b))
link-direct p unspec k b h = link-payload p unspec k b h
link-direct p f k b h = link-payload p f k b h

header-none : (t : ℕ) (b : List ℕ) → NoQuirk (header_quirk t (header_text b))
header-none t (f ∷ x ∷ a ∷ b ∷ rest) = no _ _ (and-no _ _ (λ h. refl))
header-none t b = no _ _ (and-no _ _ (λ h. refl))

functions-direct : (p : RuleOfPeers) (offset : ℕ) (e : Attribute) → eqb (proper_kind e.kind) 1 ≡ true → direct_quirks Functions offset (canonical_form (table_row p vf_infos (proper_kind e.kind)) e) ≡ []
functions-direct p offset e h = direct-none Functions offset (table_row p vf_infos (proper_kind e.kind)) e (both-none _) (no _ _ (ap not h))

-- ---- a pair

abbrev Twin : Listing
Twin = whole (OfKind Pair) false

pair-inside : (e : Attribute) → inside_of Twin e ≡ None
unfolding inside
pair-inside e = ap (λ b. cond b (Some (whole (family_table (slice_index e.payload 0)) false, 16)) None) (and-no (eqb (proper_kind e.kind) 1) false (λ h. refl))

pair-direct : (p : RuleOfPeers) (offset : ℕ) (e : Attribute) (r : Row) → direct_quirks (OfKind Pair) offset (canonical_form r e) ≡ []
pair-direct p offset e r = direct-none (OfKind Pair) offset r e (both-none _) refl

one-quirk : ListsUnfoldByAttributes → WrittenIsFirst → (offset : ℕ) (e : Attribute) → ((offset : ℕ) → direct_quirks (OfKind Pair) offset e ≡ []) → list_quirks Twin offset (list_text (e ∷ [])) ≡ []
unfolding list_text first_attribute
one-quirk s w offset e direct =
    s.next Twin offset (list_text (e ∷ [])) e [] (w e [])
    ∙ ap (λ z. z ++ (collected_inside list_quirks (offset + 4) (inside_of Twin e) e.payload ++ list_quirks (rest_after Twin e) (offset + nla_align (attribute_length e)) [])) (direct offset)
    ∙ ap (λ o. collected_inside list_quirks (offset + 4) o e.payload ++ list_quirks (rest_after Twin e) (offset + nla_align (attribute_length e)) []) (pair-inside e)
    ∙ s.none (rest_after Twin e) (offset + nla_align (attribute_length e)) [] refl

pair-quirks : ListsUnfoldByAttributes → WrittenIsFirst → (p : RuleOfPeers) (offset : ℕ) (b : List ℕ) → (list_rule first_only (grammar p pair)).accepted b ≡ true → list_quirks Twin offset ((list_rule first_only (grammar p pair)).canonical b) ≡ []
unfolding canonical_forms
pair-quirks s w p offset b h =
    elim (first_attribute b) as (λ o.
    option_map_or (λ es. all_accepted (grammar p pair) no_kind_in_force (kept first_only es)) (option_map (λ (x : Attribute × List ℕ). x.0 ∷ []) o) false ≡ true
    → list_quirks Twin offset (option_map_or (λ es. list_text (canonical_forms (grammar p pair) no_kind_in_force (kept first_only es))) (option_map (λ (x : Attribute × List ℕ). x.0 ∷ []) o) []) ≡ []) [
      | None ↦ λ h. absurd (false≢true h)
      | Some x ↦ λ h. let r = row_of (grammar p pair) no_kind_in_force x.0 in one-quirk s w offset (canonical_form r x.0) (λ q. pair-direct p q x.0 r)
    ] h

pub written : ListsUnfoldByAttributes → WrittenIsFirst → WrittenAttributesHaveNone
written s w = record {
  link = λ p f offset e h. direct-none (link_list f) offset (attribute_row p f (proper_kind e.kind)) e (link-bit p f e.kind) (link-direct p f (proper_kind e.kind) e.payload h);
  of_kind = λ p d t offset e i. direct-none (OfKind d) offset (table_row p t (proper_kind e.kind)) e (data-bit p d t e.kind i) (data-payload p d t (proper_kind e.kind) e.payload i);
  settings = λ p offset e. direct-none Inet offset (table_row p inet (proper_kind e.kind)) e (both-none _) (inet-payload p (proper_kind e.kind) e.payload);
  programs = λ p offset e. direct-none Programs offset (table_row p xdp (proper_kind e.kind)) e (programs-bit p e.kind) refl;
  functions = functions-direct;
  pair = pair-quirks s w;
  header = header-none;
}
