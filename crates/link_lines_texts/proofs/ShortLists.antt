-- How long the lines of the lists in normal texts are.
use Rattle.std.proofs.Common.{◌≡◌, ℕ, zero, suc, ◌+◌, ◌*◌, ◌^◌, ◌<◌, ◌≤◌, Bool, true, false, cond, List, [], ◌∷◌, ◌++◌, length, drop, Option, Some, None, refl, arith}
use Rattle.std.specs.Prelude.{⊤, bytes_eq, codes, decimal, nat_le, slice_index}
use Rattle.std.proofs.lemmas.Bool.{and_parts, cond_both, leb-true}
use Rattle.std.proofs.lemmas.List.{length-append, length-drop}
use Rattle.netlink_packet_core_grammar.specs.Attributes.{Attribute, attribute_length, first_attribute, nla_align, proper_kind}
use Rattle.netlink_packet_core_grammar.specs.Bytes.{AreBytes}
use Rattle.netlink_packet_core_grammar.specs.Numbers.{u16_at, u32_at}
use Rattle.netlink_packet_core_grammar.proofs.Attributes.{sized}
use Rattle.netlink_packet_core_grammar.proofs.Bytes.{AreBytes-drop, AreBytes-first_attribute}
use Rattle.attribute_tables_grammar.specs.Lists.{Context, no_kind_in_force}
use Rattle.link_tables.specs.declared.rows.Held.{Held as TableHeld}
use Rattle.link_tables.specs.declared.rows.Held.TheVariants.{List as HeldList}
use Rattle.link_tables.specs.InForce.{data_under, port_data_under}
use Rattle.link_lines_parts.specs.Levels.{deepest_level}
use Rattle.link_lines_values.proofs.ValuesDetermined.{bytes_at}
use Rattle.link_lines_values.specs.declared.values.ShownBy.TheVariants.{Bytes}
use Rattle.link_lines_values.specs.Bytes.{bytes_text}
use Rattle.link_lines_values.specs.Digits.{is_number}
use Rattle.link_lines_values.specs.Flags.{word_flags}
use Rattle.link_lines_values.specs.Indents.{indent}
use Rattle.link_lines_values.specs.Layouts.{layout_fields}
use Rattle.link_lines_values.specs.Names.{named_number}
use Rattle.link_lines_values.specs.NumberTexts.{number_texts}
use Rattle.link_lines_raw.specs.Names.{all_named_rows}
use Rattle.link_lines_texts.specs.declared.attributes.ListTable.{ListTable}
use Rattle.link_lines_texts.specs.declared.format.Scope.{Scope}
use Rattle.link_lines_texts.specs.AttributeNames.{Name, attribute_name_of, data_names, family_names, info_attribute_names, link_names, link_rows, nested_names}
use Rattle.link_lines_texts.specs.Coverage.{in_each}
use Rattle.link_lines_texts.specs.Format.{Inside, Inside.Value, Inside.Settings, Inside.Plain, Inside.Held, Inside.Peer, Inside.Nested, Inside.Data, Inside.Statistics, Inside.PortData, can_statistics, if_reached, inside_held, is_canonical_peer, known_inside, statistics_inside}
use Rattle.link_lines_texts.specs.Links.{address_families, layer_types, link_flag_names, link_flags, link_header_line, link_numbers}
use Rattle.link_lines_texts.specs.Lists.{attribute_lines, header_inside, in_peer, inside_lines, inside_list, inside_text, inside_under, lines_within, list_inside, list_lines, named_attribute_header, named_attribute_list, named_attribute_text, next_in, next_lines, of_link}
use Rattle.link_lines_texts.specs.RawTables.{raw_table}
use Rattle.link_lines_texts.proofs.AttributeNamesDetermined.{found, in_table}
use Rattle.link_lines_texts.proofs.ListUnfolding.{list_in_reach}
use Rattle.link_lines_texts.specs.Growth.{allowance, factor, is_short_inside, is_short_name, is_short_raw, joined_size, leaves_space, longest, margin, name_size}
use Rattle.link_lines_texts.proofs.ShortBytes.{bytes_text_short}
use Rattle.link_lines_texts.proofs.ShortNumbers.{IsSize, decimal_short, named_short, size_of, word_flags_short}
use Rattle.link_lines_texts.proofs.ShortRawLists.{held_short, indent_size, raw_short}
use Rattle.link_lines_texts.proofs.ShortValues.{space, value_short}

-- ---- rows, by computation

names_short : in_each (all_named_rows is_short_name) ≡ true
unfolding nested_names link_names family_names link_rows info_attribute_names data_names layout_fields number_texts can_statistics
names_short = refl

can_short : (extra : ℕ) → is_short_raw extra can_statistics ≡ true
unfolding can_statistics layout_fields number_texts
can_short extra = refl

-- What is known of a name.
record IsShortName (row : Name) : Type 0 where
  name : leaves_space (name_size row.0) ≡ true
  held : is_short_inside (name_size row.0) row.1 ≡ true

name_facts : (m k : ℕ) (t : Name) → attribute_name_of m k ≡ Some t → IsShortName t
name_facts m k t h =
    let a = and_parts (leaves_space (name_size t.0)) _ (found is_short_name m k t (in_table (all_named_rows is_short_name) m refl names_short) h) in
    record { name = a.0; held = a.1 }

-- ---- what is shown under the kinds in force

held_inside : (extra : ℕ) (o : Option TableHeld) → is_short_inside extra (inside_held o) ≡ true
held_inside extra None = refl
held_inside extra (Some (HeldList form table)) = refl
held_inside extra (Some h) = refl

statistics_short : (extra : ℕ) (o : Option (List ℕ)) → is_short_inside extra (statistics_inside o) ≡ true
statistics_short extra None = refl
statistics_short extra (Some name) = cond_both (bytes_eq name (codes "can")) (Held can_statistics) (Value Bytes) (λ i. is_short_inside extra i ≡ true) (λ e. can_short extra) (λ e. refl)

peer_short : (extra : ℕ) (is_in_peer is_canonical : Bool) → is_short_inside extra (cond is_in_peer (cond is_canonical Peer Plain) Peer) ≡ true
peer_short extra true true = refl
peer_short extra true false = refl
peer_short extra false is_canonical = refl

known_short : (extra : ℕ) (scope : Scope) (c : Context) (i : Inside) (p : List ℕ) → is_short_inside extra i ≡ true → is_short_inside extra (known_inside scope c i p) ≡ true
known_short extra scope c (Settings v) p h = cond_both scope.is_request Plain (Value v) (λ i. is_short_inside extra i ≡ true) (λ e. refl) (λ e. h)
known_short extra scope c Peer p h = peer_short extra scope.is_in_peer (is_canonical_peer p)
known_short extra scope c Data p h = held_inside extra (data_under c.kind)
known_short extra scope c Statistics p h = statistics_short extra c.kind
known_short extra scope c PortData p h = held_inside extra (port_data_under c.port_kind)
known_short extra scope c i p h = h

-- ---- the header of a link

one : IsSize 1
one = record { low = omega arith; high = omega arith }

two : IsSize 2
two = record { low = omega arith; high = omega arith }

four : IsSize 4
four = record { low = omega arith; high = omega arith }

pub u16_small : (i : ℕ) (p : List ℕ) → AreBytes p → u16_at i p < 256 ^ 2
unfolding u16_at
u16_small i p a = omega (arith, bytes_at p a i, bytes_at p a (i + 1))

pub u32_small : (i : ℕ) (p : List ℕ) → AreBytes p → u32_at i p < 256 ^ 4
unfolding u32_at
u32_small i p a = omega (arith, bytes_at p a i, bytes_at p a (i + 1), bytes_at p a (i + 2), bytes_at p a (i + 3))

header_names : nat_le (margin + 121 + longest address_families + longest layer_types + 2 * joined_size link_flag_names) (factor * 16) ≡ true
unfolding number_texts
header_names = refl

numbers_short : (b : List ℕ) → AreBytes b → length (link_numbers b) ≤ 57 + longest address_families + longest layer_types
unfolding link_numbers
numbers_short b a =
    let family = named_number address_families (slice_index b 0) in
    let layer = named_number layer_types (u16_at 2 b) in
    let index = decimal (u32_at 4 b) in
    omega (
      arith,
      named_short 1 address_families (slice_index b 0) one (omega (arith, bytes_at b a 0)),
      named_short 2 layer_types (u16_at 2 b) two (u16_small 2 b a),
      decimal_short 4 (u32_at 4 b) four (u32_small 4 b a),
      length-append (codes "ifinfomsg family " ++ family) ((codes " type " ++ layer) ++ (codes " index " ++ index)),
      length-append (codes " type " ++ layer) (codes " index " ++ index),
    )

flags_short : (b : List ℕ) → AreBytes b → length (link_flags b) ≤ 64 + 2 * joined_size link_flag_names
unfolding link_flags
flags_short b a =
    let flags = word_flags link_flag_names (u32_at 8 b) in
    let change = word_flags link_flag_names (u32_at 12 b) in
    omega (
      arith,
      word_flags_short 4 link_flag_names (u32_at 8 b) four (u32_small 8 b a),
      word_flags_short 4 link_flag_names (u32_at 12 b) four (u32_small 12 b a),
      length-append (codes " flags " ++ flags) ((codes " change " ++ change) ++ 10 ∷ []),
      length-append (codes " change " ++ change) (10 ∷ []),
    )

pub header_short : (level : ℕ) (b : List ℕ) → level ≤ deepest_level → AreBytes b → length (link_header_line level b) ≤ factor * 16
header_short level b l a =
    omega (
      arith,
      leb-true (margin + 121 + longest address_families + longest layer_types + 2 * joined_size link_flag_names) (factor * 16) header_names,
      indent_size level,
      l,
      numbers_short b a,
      flags_short b a,
      length-append (indent level) (link_numbers b ++ link_flags b),
      length-append (link_numbers b) (link_flags b),
    )

-- ---- attributes

-- The bytes of a list, if there is one.
abbrev listed_size : Option (ListTable × List ℕ) → ℕ
listed_size None = 0
listed_size (Some x) = length x.1

-- They are bytes.
abbrev AreListed : Option (ListTable × List ℕ) → Type 0
AreListed None = ⊤
AreListed (Some x) = AreBytes x.1

-- What follows a name, the lines of a header or of a raw list, and the bytes of a list below.
abbrev IsShortBlock : ℕ → ℕ → Scope → Inside → List ℕ → Type 0
IsShortBlock extra level scope i p = extra + length (inside_text level i p) + length (header_inside level i p) + factor * listed_size (inside_list scope i p) ≤ allowance + factor * length p

peer_by : (extra level : ℕ) (scope : Scope) (p : List ℕ) (b : Bool) → nat_le 16 (length p) ≡ b → leaves_space extra ≡ true → level ≤ deepest_level → AreBytes p →
    extra + length (cond b [] (bytes_text p)) + length (cond b (link_header_line level p) []) + factor * listed_size (cond b (Some (of_link (in_peer scope) p, drop 16 p)) None) ≤ allowance + factor * length p
peer_by extra level scope p true e h l a = omega (arith, space extra h, header_short level p l a, leb-true 16 (length p) e, length-drop 16 p)
peer_by extra level scope p false e h l a = omega (arith, space extra h, bytes_text_short p)

-- The sizes of numbers are not 0.
low_size : (p : List ℕ) → is_number p ≡ true → 1 ≤ length p
low_size p e = (size_of (length p) e).low

block_by : (extra level : ℕ) (scope : Scope) (i : Inside) (p : List ℕ) (b : Bool) → nat_le level deepest_level ≡ b → leaves_space extra ≡ true → is_short_inside extra i ≡ true → AreBytes p → IsShortBlock extra level scope (if_reached b i) p
block_by extra level scope (Value v) p b e h k a = omega (arith, value_short extra 1 v p h k (low_size p) a)
block_by extra level scope (Settings v) p b e h k a = omega (arith, space extra h)
block_by extra level scope Plain p b e h k a = omega (arith, space extra h, bytes_text_short p)
block_by extra level scope (Held raw) p b e h k a = omega (arith, held_short extra level raw p h k a)
block_by extra level scope Peer p true e h k a = peer_by extra level scope p (nat_le 16 (length p)) refl h (leb-true level deepest_level e) a
block_by extra level scope Peer p false e h k a = omega (arith, space extra h, bytes_text_short p)
block_by extra level scope (Nested t) p true e h k a = omega (arith, space extra h)
block_by extra level scope (Nested t) p false e h k a = omega (arith, space extra h, bytes_text_short p)
block_by extra level scope Data p b e h k a = omega (arith, space extra h)
block_by extra level scope Statistics p b e h k a = omega (arith, space extra h)
block_by extra level scope PortData p b e h k a = omega (arith, space extra h)

named_by : (level : ℕ) (m : ListTable) (c : Context) (e : Attribute) (o : Option Name) → attribute_name_of m.table.0 (proper_kind e.kind) ≡ o → AreBytes e.payload →
    length (named_attribute_text level m c o e) + length (named_attribute_header level m c o e) + factor * listed_size (named_attribute_list level m c o e) ≤ allowance + factor * length e.payload
named_by level m c e None h a = omega (arith, raw_short level (raw_table m.table) e a)
named_by level m c e (Some t) h a =
    let f = name_facts m.table.0 (proper_kind e.kind) t h in
    let i = inside_under level m c t e.payload in
    omega (arith, length-append t.0 (inside_text level i e.payload), block_by (name_size t.0) level m.scope (known_inside m.scope c t.1 e.payload) e.payload (nat_le level deepest_level) refl f.name (known_short (name_size t.0) m.scope c t.1 e.payload f.held) a)

-- The lines of an attribute, and the bytes of a list below, are short enough for the attribute.
attribute_short : (level : ℕ) (m : ListTable) (c : Context) (e : Attribute) → level ≤ deepest_level → AreBytes e.payload → length (attribute_lines level m c e) + factor * listed_size (list_inside level m c e) ≤ factor * (4 + length e.payload)
unfolding attribute_lines list_inside
attribute_short level m c e l a =
    let o = attribute_name_of m.table.0 (proper_kind e.kind) in
    let text = named_attribute_text (level + 1) m c o e in
    let header = named_attribute_header (level + 1) m c o e in
    omega (arith, named_by (level + 1) m c e o refl a, indent_size level, l, length-append (indent level) (text ++ 10 ∷ header), length-append text (10 ∷ header))

-- The list in an attribute is bytes.
inside_listed : (scope : Scope) (i : Inside) (p : List ℕ) → AreBytes p → AreListed (inside_list scope i p)
inside_listed scope (Nested t) p a = a
inside_listed scope Peer p a = cond_both (nat_le 16 (length p)) (Some (of_link (in_peer scope) p, drop 16 p)) None AreListed (λ e. AreBytes-drop 16 p a) (λ e. record {})
inside_listed scope i p a = record {}

named_listed : (level : ℕ) (m : ListTable) (c : Context) (o : Option Name) (e : Attribute) → AreBytes e.payload → AreListed (named_attribute_list level m c o e)
named_listed level m c None e a = record {}
named_listed level m c (Some t) e a = inside_listed m.scope (inside_under level m c t e.payload) e.payload a

list_listed : (level : ℕ) (m : ListTable) (c : Context) (e : Attribute) → AreBytes e.payload → AreListed (list_inside level m c e)
unfolding list_inside
list_listed level m c e a = named_listed (level + 1) m c (attribute_name_of m.table.0 (proper_kind e.kind)) e a

-- ---- lists

abbrev AllShort : ℕ → Type 0
AllShort n = (level : ℕ) (m : ListTable) (c : Context) (p : List ℕ) → level ≤ deepest_level → AreBytes p → length (lines_within n level m c p) ≤ factor * length p

inside_by : (n level : ℕ) (m : ListTable) (c : Context) (e : Attribute) (o : Option (ListTable × List ℕ)) → list_inside level m c e ≡ o → AllShort n → AreListed o → length (inside_lines (λ l t d b. lines_within n l t d b) (level + 1) o) ≤ factor * listed_size o
inside_by n level m c e None h i a = omega arith
inside_by n level m c e (Some x) h i a = i (level + 1) x.0 no_kind_in_force x.1 (list_in_reach level m c e x h) a

aligned : (n : ℕ) → n ≤ nla_align n
aligned n = omega arith

next_by : (n level : ℕ) (m : ListTable) (c : Context) (p : List ℕ) (o : Option (Attribute × List ℕ)) → first_attribute p ≡ o → AllShort n → level ≤ deepest_level → AreBytes p → length (next_lines (λ l t d b. lines_within n l t d b) level m c o) ≤ factor * length p
next_by n level m c p None h i l a = omega arith
next_by n level m c p (Some x) h i l a =
    let s = sized p x.0 x.1 h in
    let b = AreBytes-first_attribute p x.0 x.1 h a in
    let own = attribute_lines level m c x.0 in
    let inside = inside_lines (λ l t d b. lines_within n l t d b) (level + 1) (list_inside level m c x.0) in
    let more = lines_within n level m (next_in m.table c x.0) x.1 in
    omega (arith, s.within, s.rest_length, aligned (attribute_length x.0), attribute_short level m c x.0 l b.1, inside_by n level m c x.0 (list_inside level m c x.0) refl i (list_listed level m c x.0 b.1), i level m (next_in m.table c x.0) x.1 l b.2, length-append own (inside ++ more), length-append inside more)

within_short : (n : ℕ) → AllShort n
unfolding lines_within
within_short zero level m c p l a = omega arith
within_short (suc n) level m c p l a = next_by n level m c p (first_attribute p) refl (within_short n) l a

pub list_short : (level : ℕ) (m : ListTable) (p : List ℕ) → level ≤ deepest_level → AreBytes p → length (list_lines level m p) ≤ factor * length p
unfolding list_lines
list_short level m p l a = within_short (length p) level m no_kind_in_force p l a
