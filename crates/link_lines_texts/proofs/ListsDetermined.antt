-- Lines determine lists, provided that those of named rows determine what the rows hold.
use Rattle.std.proofs.Common.{◌≡◌, ℕ, ◌+◌, ◌<◌, Bool, true, false, cond, List, [], ◌∷◌, ◌++◌, length, drop, Option, Some, None, refl, sym, ap, subst, ◌∙◌, append_assoc, append-nil, arith, ◌⊎◌, inl, inr}
use Rattle.std.specs.Prelude.{◌%◌, ⊤, bytes_eq, codes, get_or, nat_le}
use Rattle.std.proofs.lemmas.Bool.{cond_both}
use Rattle.std.proofs.lemmas.List.{append_cancel_left}
use Rattle.std.proofs.lemmas.Option.{same_Some}
use Rattle.netlink_packet_core_grammar.specs.Attributes.{Attribute, first_attribute, list_text, proper_kind}
use Rattle.netlink_packet_core_grammar.proofs.Attributes.{first_attribute_text, sized}
use Rattle.link_tables.specs.declared.rows.Held.{Held as TableHeld}
use Rattle.link_tables.specs.declared.rows.Held.TheVariants.{List as HeldList}
use Rattle.attribute_tables_grammar.specs.Rules.{Rule}
use Rattle.attribute_tables_grammar.specs.Lists.{Context, Grammar, ListForm, Row, list_rule, no_kind_in_force, row_of, canonical_kind}
use Rattle.link_lines_parts.specs.Levels.{deepest_level}
use Rattle.link_lines_values.specs.Bytes.{bytes_text}
use Rattle.link_lines_values.specs.Indents.{indent}
use Rattle.link_lines_values.specs.Laws.{Ends, IsLine}
use Rattle.link_lines_values.specs.Values.{value_text}
use Rattle.link_lines_values.specs.declared.values.ShownBy.TheVariants.{Bytes}
use Rattle.link_lines_values.specs.Layouts.{layout_fields}
use Rattle.link_lines_values.specs.NumberTexts.{number_texts}
use Rattle.link_lines_texts.specs.Format.{Inside, Inside.Value, Inside.Settings, Inside.Plain, Inside.Held, Inside.Peer, Inside.Nested, Inside.Data, Inside.Statistics, Inside.PortData, can_statistics, if_reached, inside_held, is_canonical_peer, is_inside_on_a_line, known_inside, of_held, statistics_inside}
use Rattle.link_tables.specs.InForce.{data_under, port_data_under}
use Rattle.link_lines_raw.specs.declared.raw_tables.RawTable.{RawTable}
use Rattle.link_lines_raw.specs.Attributes.{after_name, has_nested_bit, named_text, nested_word, plain_bytes, raw_row, raw_text}
use Rattle.link_lines_raw.specs.Coverage.{determines_raw}
use Rattle.link_lines_raw.specs.Laws.{IsEncodable}
use Rattle.link_lines_raw.specs.Lines.{lines_text}
use Rattle.link_lines_raw.specs.Choices.{resolved}
use Rattle.link_lines_raw.specs.Lists.{raw_below}
use Rattle.link_lines_raw.specs.Names.{Named}
use Rattle.link_lines_raw.specs.Rows.{Raw}
use Rattle.link_tables.specs.declared.table.Table.{Table}
use Rattle.link_lines_values.proofs.BytesDetermined.{bytes_determined}
use Rattle.link_lines_values.proofs.OneLine.{either_line, values_are_lines}
use Rattle.link_lines_raw.proofs.RawDetermined.{held_payloads_determined, raw_attributes_determined}
use Rattle.link_lines_raw.proofs.RawRows.{row_facts}
use Rattle.link_lines_texts.specs.declared.attributes.ListTable.{ListTable}
use Rattle.link_lines_texts.specs.Lists.{header_inside, inside_list, inside_text, inside_under, list_inside, list_lines, nested_lines, next_in, attribute_lines, rest_lines, named_attribute_header, named_attribute_list, named_attribute_text}
use Rattle.link_lines_raw.specs.Lines.{IsShallow}
use Rattle.link_lines_texts.specs.Determination.{IsCanonical}
use Rattle.link_lines_texts.specs.declared.format.Scope.{Scope}
use Rattle.link_lines_texts.specs.AttributeNames.{Name, attribute_name_of}
use Rattle.link_lines_texts.specs.RawTables.{raw_table}
use Rattle.link_lines_texts.proofs.CanonicalLists.{AllCanonical, CanonicalAttribute, canonical_list}
use Rattle.link_lines_texts.proofs.ListUnfolding.{rest_shorter, steps}
use Rattle.link_lines_texts.proofs.LineCuts.{IsWord, not_lower, space_ends, Starts, cut_line, cut_word, line_shallow, lines_joined, shallower, starts_joined, word_line}

-- The lines below an attribute's line.
abbrev pub below : ℕ → Scope → Inside → List ℕ → List ℕ
below level scope i p = header_inside level i p ++ nested_lines level (inside_list scope i p)

-- An attribute's line and those below it determine its payload, shown in a way that may depend on the payload, if it is
-- shorter than a bound. There is one since peers may be nested, and are shown by induction on their length.
abbrev pub InsideDetermined : ℕ → Scope → Rule → (List ℕ → Inside) → Type 0
InsideDetermined bound scope r i = (level : ℕ) (p q s t : List ℕ) → length p < bound → IsCanonical r p → IsCanonical r q → IsShallow level s → IsShallow level t → inside_text level (i p) p ≡ inside_text level (i q) q →
    below level scope (i p) p ++ s ≡ below level scope (i q) q ++ t → (p ≡ q) × (s ≡ t)

-- The same statement for a list.
abbrev pub NestedDetermined : ℕ → Rule → ListTable → Type 0
NestedDetermined bound r m = (level : ℕ) (p q s t : List ℕ) → length p < bound → IsCanonical r p → IsCanonical r q → IsShallow level s → IsShallow level t → list_lines level m p ++ s ≡ list_lines level m q ++ t → (p ≡ q) × (s ≡ t)

-- The names of a table are words that begin with an upper-case letter, what follows them is on their line, no two are
-- equal, and none is that of a raw attribute of another kind.
pub record NamesDetermined (m : Table) : Type 0 where
  pub word : (k : ℕ) (t : Name) → k < 65536 → attribute_name_of m.0 k ≡ Some t → IsWord t.0
  pub upper : (k : ℕ) (t : Name) → k < 65536 → attribute_name_of m.0 k ≡ Some t → Starts t.0 × (get_or t.0 0 0 < 97)
  pub line : (k : ℕ) (t : Name) → attribute_name_of m.0 k ≡ Some t → is_inside_on_a_line t.1 ≡ true
  pub apart : (k l : ℕ) (t u : Name) → k < 65536 → l < 65536 → attribute_name_of m.0 k ≡ Some t → attribute_name_of m.0 l ≡ Some u → t.0 ≡ u.0 → k ≡ l
  pub raw : (k l : ℕ) (t : Name) (n : Named Raw) → attribute_name_of m.0 k ≡ Some t → raw_row (raw_table m) l ≡ Some n → t.0 ≡ n.0 → k ≡ l % 0x4000

-- If a row has a name, what follows the name determines what the row holds.
pub record RowsDetermined (bound : ℕ) (g : Grammar) (m : ListTable) : Type 0 where
  pub named_attributes : (c : Context) (k : ℕ) (t : Name) → k < 65536 → attribute_name_of m.table.0 k ≡ Some t → ((g.row c k).is_typed ≡ true) × InsideDetermined bound m.scope (g.row c k).rule (λ p. known_inside m.scope c t.1 p)
  pub next : (c : Context) (e : Attribute) → g.next c e ≡ next_in m.table c e

-- ---- lines by attributes

abbrev lines_of : ℕ → ListTable → Context → List Attribute → List ℕ
lines_of level m c [] = []
lines_of level m c (e ∷ es) = attribute_lines level m c e ++ (nested_lines (level + 1) (list_inside level m c e) ++ lines_of level m (next_in m.table c e) es)

no_attribute : first_attribute [] ≡ None
unfolding first_attribute
no_attribute = refl

by_attributes : (level : ℕ) (m : ListTable) (c : Context) (es : List Attribute) → rest_lines level m c (list_text es) ≡ lines_of level m c es
unfolding list_text
by_attributes level m c [] = steps.none level m c [] no_attribute
by_attributes level m c (e ∷ es) =
    steps.next level m c (list_text (e ∷ es)) e (list_text es) (first_attribute_text e (list_text es))
    ∙ ap (λ z. attribute_lines level m c e ++ (nested_lines (level + 1) (list_inside level m c e) ++ z)) (by_attributes level m (next_in m.table c e) es)

-- ---- one line

data_line : (h : TableHeld) → is_inside_on_a_line (of_held h) ≡ true
data_line (HeldList form table) = refl
data_line h = refl

name_line : (o : Option TableHeld) → is_inside_on_a_line (inside_held o) ≡ true
name_line None = refl
name_line (Some h) = data_line h

can_line : determines_raw can_statistics ≡ true
unfolding can_statistics layout_fields number_texts
can_line = refl

statistics_line : (o : Option (List ℕ)) → is_inside_on_a_line (statistics_inside o) ≡ true
statistics_line None = refl
statistics_line (Some name) = cond_both (bytes_eq name (codes "can")) (Held can_statistics) (Value Bytes) (λ i. is_inside_on_a_line i ≡ true) (λ e. can_line) (λ e. refl)

peer_line : (is_in_peer is_canonical : Bool) → is_inside_on_a_line (cond is_in_peer (cond is_canonical Peer Plain) Peer) ≡ true
peer_line true true = refl
peer_line true false = refl
peer_line false is_canonical = refl

-- What the names in force determine is on one line.
known_line : (scope : Scope) (c : Context) (i : Inside) (p : List ℕ) → is_inside_on_a_line i ≡ true → is_inside_on_a_line (known_inside scope c i p) ≡ true
known_line scope c (Settings v) p h = cond_both scope.is_request Plain (Value v) (λ i. is_inside_on_a_line i ≡ true) (λ e. refl) (λ e. h)
known_line scope c Peer p h = peer_line scope.is_in_peer (is_canonical_peer p)
known_line scope c Data p h = name_line (data_under c.kind)
known_line scope c Statistics p h = statistics_line c.kind
known_line scope c PortData p h = name_line (port_data_under c.port_kind)
known_line scope c i p h = h

reached_line : (b : Bool) (i : Inside) → is_inside_on_a_line i ≡ true → is_inside_on_a_line (if_reached b i) ≡ true
reached_line true Peer h = refl
reached_line false Peer h = refl
reached_line true (Nested t) h = refl
reached_line false (Nested t) h = refl
reached_line b i h = h

plain_line : (p : List ℕ) → IsLine (plain_bytes p)
plain_line p = lines_joined (codes " bytes") (bytes_text p) (omega arith, (omega arith, (omega arith, (omega arith, (omega arith, (omega arith, record {})))))) (values_are_lines.line Bytes p refl)

inside_line : (level : ℕ) (i : Inside) (p : List ℕ) → is_inside_on_a_line i ≡ true → IsLine (inside_text level i p)
inside_line level (Value v) p h = values_are_lines.line v p h
inside_line level Plain p h = plain_line p
inside_line level (Held raw) p h = held_payloads_determined.line level raw p h
inside_line level Peer p h = either_line (nat_le 16 (length p)) [] (bytes_text p) (record {}) (values_are_lines.line Bytes p refl)
inside_line level i p h = record {}

inside_ends : (level : ℕ) (i : Inside) (p : List ℕ) → Ends (inside_text level i p)
inside_ends level (Value v) p = space_ends (value_text v p) (values_are_lines.space v p)
inside_ends level Plain p = omega arith
inside_ends level (Held raw) p = space_ends (after_name level raw p) (held_payloads_determined.space level raw p)
inside_ends level Peer p = cond_both (nat_le 16 (length p)) [] (bytes_text p) Ends (λ e. record {}) (λ e. space_ends (bytes_text p) (values_are_lines.space Bytes p))
inside_ends level i p = record {}

named_attribute_line : (level : ℕ) (m : ListTable) (names : NamesDetermined m.table) (c : Context) (k : ℕ) (o : Option Name) (e : Attribute) → k < 65536 → attribute_name_of m.table.0 k ≡ o → IsLine (named_attribute_text level m c o e)
named_attribute_line level m names c k None e l h = raw_attributes_determined.line level (raw_table m.table) e
named_attribute_line level m names c k (Some t) e l h =
    lines_joined t.0 (inside_text level (inside_under level m c t e.payload) e.payload) (word_line t.0 (names.word k t l h))
    (inside_line level (inside_under level m c t e.payload) e.payload (reached_line (nat_le level deepest_level) (known_inside m.scope c t.1 e.payload) (known_line m.scope c t.1 e.payload (names.line k t h))))

-- What follows the name of a raw attribute.
abbrev after_row : ℕ → Named Raw → Attribute → List ℕ
after_row level n e = nested_word e.kind ++ after_name level (resolved n.1 []) e.payload

raw_starts : (level : ℕ) (t : RawTable) (e : Attribute) (o : Option (Named Raw)) → raw_row t e.kind ≡ o → Starts (named_text level o [] e)
raw_starts level t e None h = omega arith
raw_starts level t e (Some n) h = starts_joined n.0 (after_row level n e) (row_facts t e.kind n h).starts

named_attribute_starts : (level : ℕ) (m : ListTable) (names : NamesDetermined m.table) (c : Context) (k : ℕ) (o : Option Name) (e : Attribute) → k < 65536 → attribute_name_of m.table.0 k ≡ o → Starts (named_attribute_text level m c o e)
unfolding raw_text
named_attribute_starts level m names c k None e l h = raw_starts level (raw_table m.table) e (raw_row (raw_table m.table) e.kind) refl
named_attribute_starts level m names c k (Some t) e l h = starts_joined t.0 (inside_text level (inside_under level m c t e.payload) e.payload) (names.upper k t l h).0

small_kind : (k : ℕ) → proper_kind k < 65536
small_kind k = omega arith

-- A line, and what follows it.
lines_are : (level : ℕ) (m : ListTable) (c : Context) (e : Attribute) (more : List ℕ) →
    attribute_lines level m c e ++ more ≡ indent level ++ (named_attribute_text (level + 1) m c (attribute_name_of m.table.0 (proper_kind e.kind)) e ++ 10 ∷ (named_attribute_header (level + 1) m c (attribute_name_of m.table.0 (proper_kind e.kind)) e ++ more))
unfolding attribute_lines
lines_are level m c e more =
    let own = named_attribute_text (level + 1) m c (attribute_name_of m.table.0 (proper_kind e.kind)) e in
    let header = named_attribute_header (level + 1) m c (attribute_name_of m.table.0 (proper_kind e.kind)) e in
    append_assoc (indent level) (own ++ 10 ∷ header) more ∙ ap (λ z. indent level ++ z) (append_assoc own (10 ∷ header) more)

lines_over : (level : ℕ) (m : ListTable) (names : NamesDetermined m.table) (c : Context) (e : Attribute) (more : List ℕ) → IsShallow (level + 1) (attribute_lines level m c e ++ more)
lines_over level m names c e more =
    let attribute_name_row = attribute_name_of m.table.0 (proper_kind e.kind) in
    let own = named_attribute_text (level + 1) m c attribute_name_row e in
    let rest = 10 ∷ (named_attribute_header (level + 1) m c attribute_name_row e ++ more) in
    let starts = starts_joined own rest (named_attribute_starts (level + 1) m names c (proper_kind e.kind) attribute_name_row e (small_kind e.kind) refl) in
    subst (IsShallow (level + 1)) (sym (lines_are level m c e more)) (line_shallow level (own ++ rest) starts)

-- What follows a line is shallow for the lines below it.
rest_over : (level : ℕ) (m : ListTable) (names : NamesDetermined m.table) (c : Context) (es : List Attribute) (s : List ℕ) → IsShallow level s → IsShallow (level + 1) (lines_of level m c es ++ s)
rest_over level m names c [] s h = shallower level s h
rest_over level m names c (e ∷ es) s h =
    let inside = nested_lines (level + 1) (list_inside level m c e) in
    let more = lines_of level m (next_in m.table c e) es in
    subst (IsShallow (level + 1)) (sym (append_assoc (attribute_lines level m c e) (inside ++ more) s)) (lines_over level m names c e ((inside ++ more) ++ s))

-- ---- lists that are too deep

pub words_determined : (bound : ℕ) (scope : Scope) (r : Rule) → InsideDetermined bound scope r (λ p. Plain)
words_determined bound scope r level p q x y short o u sx sy same under = (bytes_determined.bytes p q o.bytes u.bytes (ap (drop 6) same), under)

reached : (i : Inside) → if_reached true i ≡ i
reached Peer = refl
reached (Nested t) = refl
reached i = refl

-- Out of reach a format shows each payload as bytes, or each as ever.
abbrev IsFlat : (List ℕ → Inside) → Type 0
IsFlat i = ((p : List ℕ) → if_reached false (i p) ≡ Plain) ⊎ ((p : List ℕ) → if_reached false (i p) ≡ i p)

flat_held : (o : Option TableHeld) → IsFlat (λ p. inside_held o)
flat_held None = inr (λ p. refl)
flat_held (Some (HeldList form table)) = inl (λ p. refl)
flat_held (Some h) = inr (λ p. refl)

flat_statistics : (o : Option (List ℕ)) → IsFlat (λ p. statistics_inside o)
flat_statistics None = inr (λ p. refl)
flat_statistics (Some name) = cond_both (bytes_eq name (codes "can")) (Held can_statistics) (Value Bytes) (λ i. IsFlat (λ p. i)) (λ e. inr (λ p. refl)) (λ e. inr (λ p. refl))

flat_peer : (is_in_peer is_canonical : Bool) → if_reached false (cond is_in_peer (cond is_canonical Peer Plain) Peer) ≡ Plain
flat_peer true true = refl
flat_peer true false = refl
flat_peer false is_canonical = refl

flat : (scope : Scope) (c : Context) (i : Inside) → IsFlat (λ p. known_inside scope c i p)
flat scope c (Value v) = inr (λ p. refl)
flat scope c (Settings v) = cond_both scope.is_request Plain (Value v) (λ i. IsFlat (λ p. i)) (λ e. inr (λ p. refl)) (λ e. inr (λ p. refl))
flat scope c Plain = inr (λ p. refl)
flat scope c (Held raw) = inr (λ p. refl)
flat scope c Peer = inl (λ p. flat_peer scope.is_in_peer (is_canonical_peer p))
flat scope c (Nested t) = inl (λ p. refl)
flat scope c Data = flat_held (data_under c.kind)
flat scope c Statistics = flat_statistics c.kind
flat scope c PortData = flat_held (port_data_under c.port_kind)

flat_determined : (bound : ℕ) (scope : Scope) (r : Rule) (i : List ℕ → Inside) → IsFlat i → InsideDetermined bound scope r i → InsideDetermined bound scope r (λ p. if_reached false (i p))
flat_determined bound scope r i (inl e) h = subst (InsideDetermined bound scope r) (λ k p. sym (e p) k) (words_determined bound scope r)
flat_determined bound scope r i (inr e) h = subst (InsideDetermined bound scope r) (λ k p. sym (e p) k) h

-- What follows a name determines a payload in reach and out of it, if it does without a bound.
reached_determined : (bound : ℕ) (scope : Scope) (r : Rule) (c : Context) (i : Inside) (b : Bool) → InsideDetermined bound scope r (λ p. known_inside scope c i p) → InsideDetermined bound scope r (λ p. if_reached b (known_inside scope c i p))
reached_determined bound scope r c i true h = subst (InsideDetermined bound scope r) (λ k p. sym (reached (known_inside scope c i p)) k) h
reached_determined bound scope r c i false h = flat_determined bound scope r (λ p. known_inside scope c i p) (flat scope c i) h

-- ---- one attribute

same_attribute : (e f : Attribute) → e.kind ≡ f.kind → e.payload ≡ f.payload → e ≡ f
same_attribute e f k p i = record { kind = k i; payload = p i }

after_ends : (level : ℕ) (n : Named Raw) (e : Attribute) (b : Bool) → Ends (cond b (codes " nested") [] ++ after_name level (resolved n.1 []) e.payload)
after_ends level n e true = omega arith
after_ends level n e false = inside_ends level (Held (resolved n.1 [])) e.payload

-- No attribute with a row is shown as one without.
not_raw : (level : ℕ) (m : Table) (k : ℕ) (f : Attribute) (names : NamesDetermined m) (t : Name) (s : List ℕ) (o : Option (Named Raw)) → attribute_name_of m.0 (proper_kind k) ≡ Some t → attribute_name_of m.0 (proper_kind f.kind) ≡ None → raw_row (raw_table m) f.kind ≡ o → Ends s →
    t.0 ++ s ≡ named_text level o [] f → ⊥
not_raw level m k f names t s None h none i ends e =
    let upper = names.upper (proper_kind k) t (small_kind k) h in
    not_lower 107 t.0 s _ (omega arith) upper.0 upper.1 e
not_raw level m k f names t s (Some n) h none i ends e =
    let cut = cut_word t.0 n.0 s (after_row level n f) (names.word (proper_kind k) t (small_kind k) h) (row_facts (raw_table m) f.kind n i).word ends (after_ends level n f (has_nested_bit f.kind)) e in
    let kinds : proper_kind k ≡ f.kind % 0x4000 = names.raw (proper_kind k) f.kind t n h i cut.0 in
    let both : Some t ≡ None = sym h ∙ ap (attribute_name_of m.0) kinds ∙ none in
    absurd cc

written_typed : (r : Row) (k : ℕ) → r.is_typed ≡ true → canonical_kind r k ≡ proper_kind k + cond r.is_nested 0x8000 0
written_typed r k h = ap (λ t. cond t (proper_kind k + cond r.is_nested 0x8000 0) k) h

-- The lines below a line that has a name.
abbrev named_attribute_below : ℕ → ListTable → Context → Option Name → Attribute → List ℕ
named_attribute_below level m c o e = named_attribute_header level m c o e ++ nested_lines level (named_attribute_list level m c o e)

no_more : (lines x : List ℕ) → (lines ++ []) ++ x ≡ lines ++ x
no_more lines x = ap (λ z. z ++ x) (append-nil lines)

encodable : {r : Row} {e : Attribute} → CanonicalAttribute r e → IsEncodable e
encodable o = record { kind = o.small; payload = o.payload.bytes }

-- Payloads are shorter than a bound.
abbrev AllShort : ℕ → List Attribute → Type 0
AllShort bound [] = ⊤
AllShort bound (e ∷ es) = (length e.payload < bound) × AllShort bound es

-- Those of the attributes of a list are, if the list is.
all_short : (bound : ℕ) (es : List Attribute) → length (list_text es) < bound → AllShort bound es
unfolding list_text
all_short bound [] h = record {}
all_short bound (e ∷ es) h =
    let a = sized (list_text (e ∷ es)) e (list_text es) (first_attribute_text e (list_text es)) in
    let r = rest_shorter (list_text (e ∷ es)) e (list_text es) (first_attribute_text e (list_text es)) in
    (omega (arith, h, a.within), all_short bound es (omega (arith, h, r)))

module _ (bound : ℕ) (g : Grammar) (m : ListTable) (names : NamesDetermined m.table) (rows : RowsDetermined bound g m) where
  same_kinds : (c : Context) (e f : Attribute) → (row_of g c e).is_typed ≡ true → CanonicalAttribute (row_of g c e) e → CanonicalAttribute (row_of g c f) f → proper_kind e.kind ≡ proper_kind f.kind → e.kind ≡ f.kind
  same_kinds c e f typed o u k =
      sym o.kind ∙ written_typed (row_of g c e) e.kind typed ∙ ap (λ n. n + cond (g.row c n).is_nested 0x8000 0) k
      ∙ sym (written_typed (row_of g c f) f.kind (ap (λ n. (g.row c n).is_typed) (sym k) ∙ typed)) ∙ u.kind

  named_attribute_determined : (level : ℕ) (c : Context) (e f : Attribute) (x y : List ℕ) (t u : Name) → attribute_name_of m.table.0 (proper_kind e.kind) ≡ Some t → attribute_name_of m.table.0 (proper_kind f.kind) ≡ Some u →
      length e.payload < bound → CanonicalAttribute (row_of g c e) e → CanonicalAttribute (row_of g c f) f → IsShallow level x → IsShallow level y → named_attribute_text level m c (Some t) e ≡ named_attribute_text level m c (Some u) f →
      named_attribute_below level m c (Some t) e ++ x ≡ named_attribute_below level m c (Some u) f ++ y → (e ≡ f) × (x ≡ y)
  named_attribute_determined level c e f x y t u h i short o v sx sy same under =
      let k = proper_kind e.kind in
      let l = proper_kind f.kind in
      let known : Name → List ℕ → Inside = λ w p. inside_under level m c w p in
      let text : Name → List ℕ → List ℕ = λ w p. inside_text level (known w p) p in
      let cut = cut_word t.0 u.0 (text t e.payload) (text u f.payload) (names.word k t (small_kind e.kind) h) (names.word l u (small_kind f.kind) i)
      (inside_ends level (known t e.payload) e.payload) (inside_ends level (known u f.payload) f.payload) same in
      let kinds : k ≡ l = names.apart k l t u (small_kind e.kind) (small_kind f.kind) h i cut.0 in
      let one : t ≡ u = same_Some t u (sym h ∙ ap (attribute_name_of m.table.0) kinds ∙ i) in
      let determined = rows.named_attributes c k t (small_kind e.kind) h in
      let canonical_f : IsCanonical (g.row c k).rule f.payload = subst (λ n. IsCanonical (g.row c n).rule f.payload) (sym kinds) v.payload in
      let alike : text t e.payload ≡ text t f.payload = cut.1 ∙ ap (λ w. text w f.payload) (sym one) in
      let lines : below level m.scope (known t e.payload) e.payload ++ x ≡ below level m.scope (known t f.payload) f.payload ++ y =
      under ∙ ap (λ w. below level m.scope (known w f.payload) f.payload ++ y) (sym one) in
      let r = reached_determined bound m.scope (g.row c k).rule c t.1 (nat_le level deepest_level) determined.1 level e.payload f.payload x y short o.payload canonical_f sx sy alike lines in
      (same_attribute e f (same_kinds c e f determined.0 o v kinds) r.0, r.1)

  either_determined : (level : ℕ) (c : Context) (e f : Attribute) (x y : List ℕ) (a b : Option Name) → attribute_name_of m.table.0 (proper_kind e.kind) ≡ a → attribute_name_of m.table.0 (proper_kind f.kind) ≡ b →
      length e.payload < bound → CanonicalAttribute (row_of g c e) e → CanonicalAttribute (row_of g c f) f → IsShallow level x → IsShallow level y → named_attribute_text level m c a e ≡ named_attribute_text level m c b f →
      named_attribute_below level m c a e ++ x ≡ named_attribute_below level m c b f ++ y → (e ≡ f) × (x ≡ y)
  unfolding raw_text
  either_determined level c e f x y None None h i short o v sx sy same under =
      let table = raw_table m.table in
      raw_attributes_determined.determined level table e f x y (encodable o) (encodable v) sx sy same
      (sym (no_more (lines_text (raw_below level table e)) x) ∙ under ∙ no_more (lines_text (raw_below level table f)) y)
  either_determined level c e f x y None (Some u) h i short o v sx sy same under =
      absurd (not_raw level m.table f.kind e names u (inside_text level (inside_under level m c u f.payload) f.payload) (raw_row (raw_table m.table) e.kind) i h refl
      (inside_ends level (inside_under level m c u f.payload) f.payload) (sym same))
  either_determined level c e f x y (Some t) None h i short o v sx sy same under =
      absurd (not_raw level m.table e.kind f names t (inside_text level (inside_under level m c t e.payload) e.payload) (raw_row (raw_table m.table) f.kind) h i refl
      (inside_ends level (inside_under level m c t e.payload) e.payload) same)
  either_determined level c e f x y (Some t) (Some u) h i short o v sx sy same under = named_attribute_determined level c e f x y t u h i short o v sx sy same under

  -- Two attributes and what follows them.
  attribute_determined : (level : ℕ) (c : Context) (e f : Attribute) (x y : List ℕ) → length e.payload < bound → CanonicalAttribute (row_of g c e) e → CanonicalAttribute (row_of g c f) f → IsShallow (level + 1) x → IsShallow (level + 1) y →
      attribute_lines level m c e ++ (nested_lines (level + 1) (list_inside level m c e) ++ x) ≡ attribute_lines level m c f ++ (nested_lines (level + 1) (list_inside level m c f) ++ y) → (e ≡ f) × (x ≡ y)
  unfolding list_inside
  attribute_determined level c e f x y short o v sx sy same =
      let a = attribute_name_of m.table.0 (proper_kind e.kind) in
      let b = attribute_name_of m.table.0 (proper_kind f.kind) in
      let list_e = nested_lines (level + 1) (named_attribute_list (level + 1) m c a e) in
      let list_f = nested_lines (level + 1) (named_attribute_list (level + 1) m c b f) in
      let header_e = named_attribute_header (level + 1) m c a e in
      let header_f = named_attribute_header (level + 1) m c b f in
      let following : named_attribute_text (level + 1) m c a e ++ 10 ∷ (header_e ++ (list_e ++ x)) ≡ named_attribute_text (level + 1) m c b f ++ 10 ∷ (header_f ++ (list_f ++ y)) =
      append_cancel_left (indent level) _ _ (sym (lines_are level m c e (list_e ++ x)) ∙ same ∙ lines_are level m c f (list_f ++ y)) in
      let cut = cut_line (named_attribute_text (level + 1) m c a e) (named_attribute_text (level + 1) m c b f) (header_e ++ (list_e ++ x)) (header_f ++ (list_f ++ y)) (named_attribute_line (level + 1) m names c (proper_kind e.kind) a e (small_kind e.kind) refl)
      (named_attribute_line (level + 1) m names c (proper_kind f.kind) b f (small_kind f.kind) refl) following in
      either_determined (level + 1) c e f x y a b refl refl short o v sx sy cut.0 (append_assoc header_e list_e x ∙ cut.1 ∙ sym (append_assoc header_f list_f y))

  -- ---- attributes in order

  more_lines : (level : ℕ) (c : Context) (e : Attribute) (more s : List ℕ) →
      (attribute_lines level m c e ++ (nested_lines (level + 1) (list_inside level m c e) ++ more)) ++ s ≡ attribute_lines level m c e ++ (nested_lines (level + 1) (list_inside level m c e) ++ (more ++ s))
  more_lines level c e more s =
      let inside = nested_lines (level + 1) (list_inside level m c e) in
      append_assoc (attribute_lines level m c e) (inside ++ more) s ∙ ap (λ z. attribute_lines level m c e ++ z) (append_assoc inside more s)

  not_shallow : (level : ℕ) (c : Context) (e : Attribute) (more s : List ℕ) → IsShallow level s → s ≡ attribute_lines level m c e ++ more → ⊥
  not_shallow level c e more s h same = h _ (same ∙ lines_are level m c e more)

  attributes_determined : (level : ℕ) (c : Context) (es fs : List Attribute) (s t : List ℕ) → AllShort bound es → AllCanonical g c es → AllCanonical g c fs → IsShallow level s → IsShallow level t → lines_of level m c es ++ s ≡ lines_of level m c fs ++ t → (es ≡ fs) × (s ≡ t)
  attributes_determined level c [] [] s t short a b h k same = (refl, same)
  attributes_determined level c [] (f ∷ fs) s t short a b h k same = absurd (not_shallow level c f _ s h (same ∙ append_assoc (attribute_lines level m c f) _ t))
  attributes_determined level c (e ∷ es) [] s t short a b h k same = absurd (not_shallow level c e _ t k (sym same ∙ append_assoc (attribute_lines level m c e) _ s))
  attributes_determined level c (e ∷ es) (f ∷ fs) s t short a b h k same =
      let more_e = lines_of level m (next_in m.table c e) es in
      let more_f = lines_of level m (next_in m.table c f) fs in
      let one = attribute_determined level c e f (more_e ++ s) (more_f ++ t) short.0 a.0 b.0 (rest_over level m names (next_in m.table c e) es s h) (rest_over level m names (next_in m.table c f) fs t k)
      (sym (more_lines level c e more_e s) ∙ same ∙ more_lines level c f more_f t) in
      let canonical_e : AllCanonical g (next_in m.table c e) es = subst (λ d. AllCanonical g d es) (rows.next c e) a.1 in
      let context : g.next c f ≡ next_in m.table c e = ap (λ x. g.next c x) (sym one.0) ∙ rows.next c e in
      let canonical_f : AllCanonical g (next_in m.table c e) fs = subst (λ d. AllCanonical g d fs) context b.1 in
      let rest = attributes_determined level (next_in m.table c e) es fs s t short.1 canonical_e canonical_f h k (one.1 ∙ ap (λ x. lines_of level m (next_in m.table c x) fs ++ t) (sym one.0)) in
      (λ i. one.0 i ∷ rest.0 i, rest.1)

by_start : (level : ℕ) (m : ListTable) (p : List ℕ) (es : List Attribute) → p ≡ list_text es → list_lines level m p ≡ lines_of level m no_kind_in_force es
by_start level m p es h = steps.start level m p ∙ ap (rest_lines level m no_kind_in_force) h ∙ by_attributes level m no_kind_in_force es

-- Lines determine a list if they determine its rows.
pub lists_determined : (bound : ℕ) (form : ListForm) (g : Grammar) (m : ListTable) → NamesDetermined m.table → RowsDetermined bound g m → NestedDetermined bound (list_rule form g) m
lists_determined bound form g m names rows level p q s t short o u h k same =
    let a = canonical_list form g p o in
    let b = canonical_list form g q u in
    let r = attributes_determined bound g m names rows level no_kind_in_force a.attributes b.attributes s t (all_short bound a.attributes (subst (λ z. length z < bound) a.is short)) a.own b.own h k
    (ap (λ z. z ++ s) (sym (by_start level m p a.attributes a.is)) ∙ same ∙ ap (λ z. z ++ t) (by_start level m q b.attributes b.is)) in
    (a.is ∙ ap list_text r.0 ∙ sym b.is, r.1)
