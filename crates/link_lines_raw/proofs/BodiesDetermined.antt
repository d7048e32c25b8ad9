-- The lines of bodies determine them.
use Rattle.std.proofs.Common.{◌≡◌, ℕ, zero, suc, ◌%◌, ◌≤◌, ◌⊎◌, inl, inr, Bool, true, false, cond, List, [], ◌∷◌, ◌++◌, length, take, drop, get_or, Option, Some, None, refl, sym, ap, subst, ◌∙◌, arith, append_assoc}
use Rattle.std.specs.Prelude.{⊤, ◌==◌, ◌&&◌, ◌||◌, not, nat_le, nat_lt, bytes_eq, codes}
use Rattle.std.specs.List.{list_all}
use Rattle.std.proofs.lemmas.Bool.{and_parts, cond_both, eqb-true, leb-true, ltb-true, not-true, true≢false}
use Rattle.std.proofs.lemmas.Option.{same_Some}
use Rattle.std.proofs.lemmas.Slice.Eq.{bytes_eq-Decides}
use Rattle.netlink_packet_core_grammar.specs.Bytes.{AreBytes}
use Rattle.netlink_packet_core_grammar.proofs.Bytes.{AreBytes-drop, AreBytes-take}
use Rattle.link_lines_values.specs.Laws.{BeginsWithSpace, Ends}
use Rattle.link_lines_values.specs.Records.{fields_text, is_record, total_size}
use Rattle.link_lines_values.specs.Layouts.{layout_fields}
use Rattle.link_lines_values.specs.NumberTexts.{number_texts}
use Rattle.link_lines_values.proofs.ValuesDetermined.{both_parts}
use Rattle.link_lines_raw.specs.declared.bodies.BodyRow.{BodyRow}
use Rattle.link_lines_raw.specs.declared.bodies.Header.{Header}
use Rattle.link_lines_raw.specs.declared.bodies.Header.TheVariants as H
use Rattle.link_lines_raw.specs.declared.bodies.TheConstants.{BODIES}
use Rattle.link_lines_raw.specs.declared.lists.ListedBy.TheVariants as L
use Rattle.link_lines_raw.specs.declared.raw_tables.RawTable.{RawTable}
use Rattle.link_lines_parts.specs.Whole.{is_whole_after}
use Rattle.link_lines_raw.specs.Attributes.{record_words}
use Rattle.link_lines_raw.specs.Bodies.{alone_lines, body_lines, first_fitting, fits_body, fits_family, fits_request, general_header, general_lines, header_line, is_list_of, is_same, lines_or, list_lines_of, record_and_list, row_lines}
use Rattle.link_lines_raw.specs.Coverage.{is_line_determined}
use Rattle.link_lines_raw.specs.Laws.{BodiesAreDetermined}
use Rattle.link_lines_raw.specs.Lines.{IsShallow, Line, lines_text}
use Rattle.link_lines_raw.specs.Rows.{RecordLine}
use Rattle.link_lines_raw.proofs.ListLines.{listed_are_lines, words_are_line, words_end, words_start}
use Rattle.link_lines_raw.proofs.ListsDetermined.{shorter_determined}
use Rattle.link_lines_raw.proofs.Payloads.{words_determined}
use Rattle.link_lines_raw.proofs.Unfolding.{nothing_listed}
use Rattle.link_lines_raw.proofs.Spans.{AreDeep, AreLines, first_text, line_parts, listed_deep, texts_span}
use Rattle.link_lines_raw.proofs.Words.{cut_word, message_label, space_ends}

ends_joined : (a b : List ℕ) → Ends a → Ends b → Ends (a ++ b)
ends_joined [] b h k = k
ends_joined (c ∷ a) b h k = h

-- ---- headers, by computation

-- The index of a header, by which two are compared.
abbrev header_index : Header → ℕ
header_index H.Timestamp = 0
header_index H.Ifaddrmsg = 1
header_index H.Rtmsg = 2
header_index H.Ndmsg = 3
header_index H.FibRuleHdr = 4
header_index H.Tcmsg = 5
header_index H.TcmsgFilter = 6
header_index H.Tcamsg = 7
header_index H.Prefixmsg = 8
header_index H.Ndtmsg = 9
header_index H.Ifaddrlblmsg = 10
header_index H.Netconfmsg = 11
header_index H.BrPortMsg = 12
header_index H.Rtgen = 13
header_index H.Rtgenmsg = 14
header_index H.Ifinfomsg = 15
header_index H.IfStatsMsg = 16
header_index H.Nhmsg = 17
header_index H.BrVlanMsg = 18
header_index H.TunnelMsg = 19

abbrev header_at : ℕ → Header
header_at n =
    get_or (H.Timestamp ∷ H.Ifaddrmsg ∷ H.Rtmsg ∷ H.Ndmsg ∷ H.FibRuleHdr ∷ H.Tcmsg ∷ H.TcmsgFilter ∷ H.Tcamsg ∷ H.Prefixmsg ∷ H.Ndtmsg ∷ H.Ifaddrlblmsg ∷ H.Netconfmsg ∷ H.BrPortMsg ∷ H.Rtgen ∷ H.Rtgenmsg ∷ H.Ifinfomsg ∷ H.IfStatsMsg ∷ H.Nhmsg ∷ H.BrVlanMsg ∷ H.TunnelMsg ∷ []) n H.Timestamp

header_again : (h : Header) → header_at (header_index h) ≡ h
header_again H.Timestamp = refl
header_again h = refl

same_header : (g h : Header) → (header_index g == header_index h) ≡ true → g ≡ h
same_header g h e = sym (header_again g) ∙ ap header_at (eqb-true (header_index g) (header_index h) e) ∙ header_again h

-- Whether a header is this one, or its line has another word.
abbrev is_or_differs : Header → Header → Bool
is_or_differs g h = (header_index h == header_index g) || not (bytes_eq (header_line h).0 (header_line g).0)

-- Whether the line of a header determines its record, has a word other than `body`, and other than those of records that any
-- request may be, unless it is one of these, and has a first byte.
abbrev is_header_determined : Header → Bool
is_header_determined h =
    is_line_determined (header_line h) && (not (bytes_eq (header_line h).0 (codes "body")) && (nat_le 1 (total_size (header_line h).1)
    && (is_or_differs H.Rtgen h && (is_or_differs H.Rtgenmsg h && is_or_differs H.Ifinfomsg h))))

headers_determined : (h : Header) → is_header_determined h ≡ true
unfolding header_line layout_fields number_texts
headers_determined H.Timestamp = refl
headers_determined h = refl

-- A header is that of a record that any request may be.
abbrev IsGeneral : Header → Type 0
IsGeneral H.Rtgen = ⊤
IsGeneral H.Rtgenmsg = ⊤
IsGeneral H.Ifinfomsg = ⊤
IsGeneral h = ⊥

differ : (a b : List ℕ) → not (bytes_eq a b) ≡ true → a ≡ b → ⊥
differ a b h e = true≢false (sym ((bytes_eq-Decides a b).1 e) ∙ not-true (bytes_eq a b) h)

same_by_word : (g h : Header) (b : Bool) → (header_index h == header_index g) ≡ b → (b || not (bytes_eq (header_line h).0 (header_line g).0)) ≡ true → (header_line h).0 ≡ (header_line g).0 → h ≡ g
same_by_word g h true i d e = same_header h g i
same_by_word g h false i d e = absurd (differ (header_line h).0 (header_line g).0 d e)

record HeaderFacts (h : Header) : Type 0 where
  determined : is_line_determined (header_line h) ≡ true
  not_body : (header_line h).0 ≡ codes "body" → ⊥
  size : 1 ≤ total_size (header_line h).1
  general : (g : Header) → IsGeneral g → (header_line h).0 ≡ (header_line g).0 → h ≡ g

apart_from_general : (h g : Header) → is_or_differs H.Rtgen h ≡ true → is_or_differs H.Rtgenmsg h ≡ true → is_or_differs H.Ifinfomsg h ≡ true → IsGeneral g → (header_line h).0 ≡ (header_line g).0 → h ≡ g
apart_from_general h H.Rtgen i j k general e = same_by_word H.Rtgen h _ refl i e
apart_from_general h H.Rtgenmsg i j k general e = same_by_word H.Rtgenmsg h _ refl j e
apart_from_general h H.Ifinfomsg i j k general e = same_by_word H.Ifinfomsg h _ refl k e
apart_from_general h g i j k general e = absurd general

header_facts : (h : Header) → HeaderFacts h
header_facts h =
    let line = header_line h in
    let a = and_parts (is_line_determined line) _ (headers_determined h) in
    let b = and_parts (not (bytes_eq line.0 (codes "body"))) _ a.1 in
    let c = and_parts (nat_le 1 (total_size line.1)) _ b.1 in
    let d = and_parts (is_or_differs H.Rtgen h) _ c.1 in
    let e = and_parts (is_or_differs H.Rtgenmsg h) _ d.1 in
    record { determined = a.0; not_body = differ line.0 (codes "body") b.0; size = leb-true 1 (total_size line.1) c.0; general = λ g. apart_from_general h g d.0 e.0 e.1 }

-- ---- rows that fit one message have one header, by computation

abbrev requests_differ : Option Bool → Option Bool → Bool
requests_differ (Some a) (Some b) = not (is_same a b)
requests_differ a b = false

-- Two rows have one header, or no message that both are for.
abbrev is_consistent : BodyRow → BodyRow → Bool
is_consistent x y = (header_index x.4 == header_index y.4) || (nat_lt x.1 y.0 || (nat_lt y.1 x.0 || requests_differ x.2 y.2))

abbrev all_consistent : List BodyRow → List BodyRow → Bool
all_consistent all [] = true
all_consistent all (x ∷ xs) = list_all (is_consistent x) all && all_consistent all xs

rows_consistent : all_consistent BODIES.now BODIES.now ≡ true
rows_consistent = refl

consistent_by : (b : Bool) (z x y : BodyRow) (more : Option BodyRow) → is_consistent y z ≡ true → (more ≡ Some x → is_consistent y x ≡ true) → cond b (Some z) more ≡ Some x → is_consistent y x ≡ true
consistent_by true z x y more h k e = ap (is_consistent y) (sym (same_Some z x e)) ∙ h
consistent_by false z x y more h k e = k e

-- A row that fits is consistent with each row that is consistent with all.
consistent_with : (t : ℕ) (r : Bool) (p : List ℕ) (rows : List BodyRow) (x y : BodyRow) → list_all (is_consistent y) rows ≡ true → first_fitting rows t r p ≡ Some x → is_consistent y x ≡ true
consistent_with t r p [] x y h e = absurd cc
consistent_with t r p (z ∷ rows) x y h e =
    let parts = and_parts (is_consistent y z) (list_all (is_consistent y) rows) h in
    consistent_by (fits_body z t r p) z x y (first_fitting rows t r p) parts.0 (consistent_with t r p rows x y parts.1) e

all_by : (b : Bool) (z x : BodyRow) (all : List BodyRow) (more : Option BodyRow) → list_all (is_consistent z) all ≡ true → (more ≡ Some x → list_all (is_consistent x) all ≡ true) → cond b (Some z) more ≡ Some x → list_all (is_consistent x) all ≡ true
all_by true z x all more h k e = ap (λ w. list_all (is_consistent w) all) (sym (same_Some z x e)) ∙ h
all_by false z x all more h k e = k e

all_with : (t : ℕ) (r : Bool) (p : List ℕ) (all rows : List BodyRow) (x : BodyRow) → all_consistent all rows ≡ true → first_fitting rows t r p ≡ Some x → list_all (is_consistent x) all ≡ true
all_with t r p all [] x h e = absurd cc
all_with t r p all (z ∷ rows) x h e =
    let parts = and_parts (list_all (is_consistent z) all) (all_consistent all rows) h in
    all_by (fits_body z t r p) z x all (first_fitting rows t r p) parts.0 (all_with t r p all rows x parts.1) e

-- What a row that fits says of the message.
record Fits (t : ℕ) (r : Bool) (x : BodyRow) : Type 0 where
  low : x.0 ≤ t
  high : t ≤ x.1
  request : fits_request x.2 r ≡ true

fits_by : (t : ℕ) (r : Bool) (p : List ℕ) (b : Bool) (z x : BodyRow) (more : Option BodyRow) → fits_body z t r p ≡ b → (more ≡ Some x → Fits t r x) → cond b (Some z) more ≡ Some x → Fits t r x
fits_by t r p true z x more h k e =
    let a = and_parts (nat_le z.0 t) _ h in
    let b = and_parts (nat_le t z.1) _ a.1 in
    let c = and_parts (fits_request z.2 r) _ b.1 in
    subst (Fits t r) (same_Some z x e) (record { low = leb-true z.0 t a.0; high = leb-true t z.1 b.0; request = c.0 })
fits_by t r p false z x more h k e = k e

fits : (t : ℕ) (r : Bool) (p : List ℕ) (rows : List BodyRow) (x : BodyRow) → first_fitting rows t r p ≡ Some x → Fits t r x
fits t r p [] x e = absurd cc
fits t r p (z ∷ rows) x e = fits_by t r p (fits_body z t r p) z x (first_fitting rows t r p) refl (fits t r p rows x) e

no_request : (a b : Option Bool) (r : Bool) → fits_request a r ≡ true → fits_request b r ≡ true → requests_differ a b ≡ true → ⊥
no_request None b r h k e = absurd cc
no_request (Some x) None r h k e = absurd cc
no_request (Some true) (Some true) r h k e = absurd cc
no_request (Some true) (Some false) true h k e = absurd cc
no_request (Some true) (Some false) false h k e = absurd cc
no_request (Some false) (Some true) true h k e = absurd cc
no_request (Some false) (Some true) false h k e = absurd cc
no_request (Some false) (Some false) r h k e = absurd cc

disjoint_by : (t : ℕ) (r : Bool) (x y : BodyRow) (a b : Bool) → Fits t r x → Fits t r y → nat_lt x.1 y.0 ≡ a → nat_lt y.1 x.0 ≡ b → (a || (b || requests_differ x.2 y.2)) ≡ true → ⊥
disjoint_by t r x y true b f g i j h = omega (arith, f.high, g.low, ltb-true x.1 y.0 i)
disjoint_by t r x y false true f g i j h = omega (arith, g.high, f.low, ltb-true y.1 x.0 j)
disjoint_by t r x y false false f g i j h = no_request x.2 y.2 r f.request g.request h

header_by : (t : ℕ) (r : Bool) (x y : BodyRow) (b : Bool) → Fits t r x → Fits t r y → (header_index x.4 == header_index y.4) ≡ b → (b || (nat_lt x.1 y.0 || (nat_lt y.1 x.0 || requests_differ x.2 y.2))) ≡ true → x.4 ≡ y.4
header_by t r x y true f g i h = same_header x.4 y.4 i
header_by t r x y false f g i h = absurd (disjoint_by t r x y (nat_lt x.1 y.0) (nat_lt y.1 x.0) f g refl refl h)

-- Rows that fit one message have one header.
headers_same : (t : ℕ) (r : Bool) (p q : List ℕ) (x y : BodyRow) → first_fitting BODIES.now t r p ≡ Some x → first_fitting BODIES.now t r q ≡ Some y → x.4 ≡ y.4
headers_same t r p q x y h i =
    header_by t r x y (header_index x.4 == header_index y.4) (fits t r p BODIES.now x h) (fits t r q BODIES.now y i) refl
    (consistent_with t r q BODIES.now y x (all_with t r p BODIES.now BODIES.now x rows_consistent h) i)

-- ---- bodies with one first byte have one row

same_family : (o : Option ℕ) (c : ℕ) (p q : List ℕ) → fits_family o (c ∷ p) ≡ fits_family o (c ∷ q)
same_family None c p q = refl
same_family (Some f) c p q = refl

same_row : (rows : List BodyRow) (t : ℕ) (r : Bool) (c : ℕ) (p q : List ℕ) → first_fitting rows t r (c ∷ p) ≡ first_fitting rows t r (c ∷ q)
same_row [] t r c p q = refl
same_row (z ∷ rows) t r c p q =
    ap (λ b. cond (nat_le z.0 t && (nat_le t z.1 && (fits_request z.2 r && b))) (Some z) (first_fitting rows t r (c ∷ p))) (same_family z.3 c p q)
    ∙ ap (λ o. cond (fits_body z t r (c ∷ q)) (Some z) o) (same_row rows t r c p q)

first_same : (rows : List BodyRow) (t : ℕ) (r : Bool) (n : ℕ) (p q : List ℕ) → 1 ≤ n → n ≤ length p → n ≤ length q → take n p ≡ take n q → first_fitting rows t r p ≡ first_fitting rows t r q
first_same rows t r zero p q l i j e = absurd (omega (arith, l))
first_same rows t r (suc n) [] q l i j e = absurd (omega (arith, i))
first_same rows t r (suc n) (c ∷ p) [] l i j e = absurd (omega (arith, j))
first_same rows t r (suc n) (c ∷ p) (d ∷ q) l i j e =
    let first : c ≡ d = ap (λ z. get_or z 0 0) e in
    ap (λ z. first_fitting rows t r (z ∷ p)) first ∙ same_row rows t r d p q

-- ---- a record, and attributes after it

record Whole (line : RecordLine) (table : Option RawTable) (p : List ℕ) (a : List Line) : Type 0 where
  size : total_size line.1 ≤ length p
  is : is_record line.1 (take (total_size line.1) p) ≡ true
  list : is_list_of table (drop (total_size line.1) p) ≡ true
  lines : a ≡ (1, record_words line (take (total_size line.1) p)) ∷ list_lines_of table (drop (total_size line.1) p)

whole_by : (line : RecordLine) (table : Option RawTable) (p : List ℕ) (a : List Line) (b : Bool) →
    (nat_le (total_size line.1) (length p) && (is_record line.1 (take (total_size line.1) p) && is_list_of table (drop (total_size line.1) p))) ≡ b →
    cond b (Some ((1, record_words line (take (total_size line.1) p)) ∷ list_lines_of table (drop (total_size line.1) p))) None ≡ Some a → Whole line table p a
whole_by line table p a true h e =
    let x = and_parts (nat_le (total_size line.1) (length p)) _ h in
    let y = and_parts (is_record line.1 (take (total_size line.1) p)) (is_list_of table (drop (total_size line.1) p)) x.1 in
    record { size = leb-true (total_size line.1) (length p) x.0; is = y.0; list = y.1; lines = sym (same_Some _ a e) }
whole_by line table p a false h e = absurd cc

whole : (line : RecordLine) (table : Option RawTable) (p : List ℕ) (a : List Line) → record_and_list line table p ≡ Some a → Whole line table p a
whole line table p a e = whole_by line table p a _ refl e

no_bytes : (p q : List ℕ) → (length p == 0) ≡ true → (length q == 0) ≡ true → p ≡ q
no_bytes [] [] h k = refl
no_bytes (x ∷ p) q h k = absurd (let e = eqb-true (length (x ∷ p)) 0 h in omega (arith, e))
no_bytes [] (x ∷ q) h k = absurd (let e = eqb-true (length (x ∷ q)) 0 k in omega (arith, e))

lists_same : (table : Option RawTable) (p q : List ℕ) → AreBytes p → AreBytes q → is_list_of table p ≡ true → is_list_of table q ≡ true → list_lines_of table p ≡ list_lines_of table q → p ≡ q
lists_same None p q a b h i e = no_bytes p q h i
lists_same (Some t) p q a b h i e = shorter_determined (suc (length p)) 1 t p q (omega arith) a b h i e

-- The line of a record.
words_of : (line : RecordLine) (table : Option RawTable) (p : List ℕ) (a : List Line) → Whole line table p a → first_text a ≡ record_words line (take (total_size line.1) p)
words_of line table p a w = ap first_text w.lines

-- Records on equal lines are equal.
starts_same : (line : RecordLine) (s t : Option RawTable) (p q : List ℕ) (a : List Line) → is_line_determined line ≡ true → AreBytes p → AreBytes q → Whole line s p a → Whole line t q a → take (total_size line.1) p ≡ take (total_size line.1) q
starts_same line s t p q a d x y w v =
    words_determined line (take (total_size line.1) p) (take (total_size line.1) q) d (AreBytes-take (total_size line.1) p x) (AreBytes-take (total_size line.1) q y) w.is v.is
    (sym (words_of line s p a w) ∙ words_of line t q a v)

bodies_same : (line : RecordLine) (table : Option RawTable) (p q : List ℕ) (a : List Line) → is_line_determined line ≡ true → AreBytes p → AreBytes q → Whole line table p a → Whole line table q a → p ≡ q
bodies_same line table p q a d x y w v =
    let n = total_size line.1 in
    both_parts n p q (starts_same line table table p q a d x y w v)
    (lists_same table (drop n p) (drop n q) (AreBytes-drop n p x) (AreBytes-drop n q y) w.list v.list (ap (drop 1) (sym w.lines ∙ v.lines)))

-- ---- bodies

-- The first words of two lines differ if the first words of records do.
words_differ : (x y : RecordLine) (p q : List ℕ) → is_line_determined x ≡ true → is_line_determined y ≡ true → record_words x p ≡ record_words y q → x.0 ≡ y.0
words_differ x y p q h i e = (cut_word x.0 y.0 (fields_text 32 false x.1 p) (fields_text 32 false y.1 q) (words_start x p h).0 (words_start y q i).0 (words_end x p) (words_end y q) e).0

plain_same : (t : ℕ) (r : Bool) (x y : BodyRow) (p q : List ℕ) (a : List Line) → AreBytes p → AreBytes q → first_fitting BODIES.now t r p ≡ Some x → first_fitting BODIES.now t r q ≡ Some y → Whole (header_line x.4) x.5 p a → Whole (header_line y.4) y.5 q a → p ≡ q
plain_same t r x y p q a b c h i w v =
    let f = header_facts x.4 in
    let line = header_line x.4 in
    let own : Whole line y.5 q a = subst (λ z. Whole (header_line z) y.5 q a) (sym (headers_same t r p q x y h i)) v in
    let start = starts_same line x.5 y.5 p q a f.determined b c w own in
    let row : x ≡ y = same_Some x y (sym h ∙ first_same BODIES.now t r (total_size line.1) p q f.size w.size own.size start ∙ i) in
    bodies_same line x.5 p q a f.determined b c w (subst (λ z. Whole line z q a) (ap (λ z. z.5) (sym row)) own)

-- No bytes are a whole list of any table, without lines.
nothing_after : (table : Option RawTable) (p : List ℕ) → (length p == 0) ≡ true → (is_list_of table p ≡ true) × (list_lines_of table p ≡ [])
unfolding is_whole_after
nothing_after None p h = (h, refl)
nothing_after (Some t) [] h = (refl, nothing_listed 1 (L.Attributes t []))
nothing_after (Some t) (x ∷ p) h = absurd (let e = eqb-true (length (x ∷ p)) 0 h in omega (arith, e))

-- A record alone is one with a list of any table after it.
with_table : (line : RecordLine) (table : Option RawTable) (p : List ℕ) (a : List Line) → Whole line None p a → Whole line table p a
with_table line table p a w =
    let after = nothing_after table (drop (total_size line.1) p) w.list in
    record { size = w.size; is = w.is; list = after.0; lines = w.lines ∙ ap (λ ls. (1, record_words line (take (total_size line.1) p)) ∷ ls) (sym after.1) }

-- Lines are those of a record that any request may be.
record IsAlone (p : List ℕ) (a : List Line) : Type 0 where
  header : Header
  general : IsGeneral header
  whole : Whole (header_line header) None p a

alone_by : (h : Header) (p : List ℕ) (a : List Line) → IsGeneral h → record_and_list (header_line h) None p ≡ Some a → IsAlone p a
alone_by h p a g e = record { header = h; general = g; whole = whole (header_line h) None p a e }

alone_of : (n : ℕ) (p : List ℕ) (a : List Line) → alone_lines (general_header n) p ≡ Some a → IsAlone p a
alone_of n p a =
    cond_both (n == 1) (Some H.Rtgen) _ (λ o. alone_lines o p ≡ Some a → IsAlone p a) (λ e. alone_by H.Rtgen p a (record {}))
    (λ e. cond_both (n == 4) (Some H.Rtgenmsg) _ (λ o. alone_lines o p ≡ Some a → IsAlone p a) (λ f. alone_by H.Rtgenmsg p a (record {}))
    (λ f. cond_both (n == 16) (Some H.Ifinfomsg) None (λ o. alone_lines o p ≡ Some a → IsAlone p a) (λ g. alone_by H.Ifinfomsg p a (record {})) (λ g h. absurd cc)))

alone : (t : ℕ) (p : List ℕ) (a : List Line) → general_lines t p ≡ Some a → IsAlone p a
alone t p a =
    cond_both (t % 4 == 2) (alone_lines (general_header (length p)) p) None (λ o. o ≡ Some a → IsAlone p a) (λ e. alone_of (length p) p a) (λ e h. absurd cc)

-- The lines of a body are those by its row, or those of a record that any request may be.
abbrev AreFound : BodyRow → List ℕ → List Line → Type 0
AreFound x p a = Whole (header_line x.4) x.5 p a ⊎ IsAlone p a

found_by : (x : BodyRow) (t : ℕ) (p : List ℕ) (a : List Line) (o : Option (List Line)) → record_and_list (header_line x.4) x.5 p ≡ o → lines_or o (general_lines t p) ≡ Some a → AreFound x p a
found_by x t p a (Some b) h e = inl (whole (header_line x.4) x.5 p a (h ∙ e))
found_by x t p a None h e = inr (alone t p a e)

-- A record that any request may be has the lines of no other body.
alone_same : (h : Header) (table : Option RawTable) (p q : List ℕ) (a : List Line) → AreBytes p → AreBytes q → IsAlone p a → Whole (header_line h) table q a → p ≡ q
alone_same h table p q a b c k v =
    let g = k.header in
    let words = sym (words_of (header_line h) table q a v) ∙ words_of (header_line g) None p a k.whole in
    let word = words_differ (header_line h) (header_line g) (take (total_size (header_line h).1) q) (take (total_size (header_line g).1) p) (header_facts h).determined (header_facts g).determined words in
    let same : h ≡ g = (header_facts h).general g k.general word in
    bodies_same (header_line g) table p q a (header_facts g).determined b c (with_table (header_line g) table p a k.whole) (subst (λ z. Whole (header_line z) table q a) same v)

same_by : (t : ℕ) (r : Bool) (x y : BodyRow) (p q : List ℕ) (a : List Line) → AreBytes p → AreBytes q → first_fitting BODIES.now t r p ≡ Some x → first_fitting BODIES.now t r q ≡ Some y → AreFound x p a → AreFound y q a → p ≡ q
same_by t r x y p q a b c h i (inl w) (inl v) = plain_same t r x y p q a b c h i w v
same_by t r x y p q a b c h i (inl w) (inr k) = sym (alone_same x.4 x.5 q p a c b k w)
same_by t r x y p q a b c h i (inr k) (inl v) = alone_same y.4 y.5 p q a b c k v
same_by t r x y p q a b c h i (inr k) (inr l) = alone_same l.header None p q a b c k l.whole

rows_by : (t : ℕ) (r : Bool) (p q : List ℕ) (a : List Line) (o w : Option BodyRow) → AreBytes p → AreBytes q → first_fitting BODIES.now t r p ≡ o → first_fitting BODIES.now t r q ≡ w → row_lines o t p ≡ Some a → row_lines w t q ≡ Some a → p ≡ q
rows_by t r p q a None w b c h i d e = absurd cc
rows_by t r p q a (Some x) None b c h i d e = absurd cc
rows_by t r p q a (Some x) (Some y) b c h i d e =
    same_by t r x y p q a b c h i (found_by x t p a (record_and_list (header_line x.4) x.5 p) refl d) (found_by y t q a (record_and_list (header_line y.4) y.5 q) refl e)

-- Bodies with equal lines are equal.
bodies_with_lines : (t : ℕ) (r : Bool) (p q : List ℕ) (a : List Line) → AreBytes p → AreBytes q → body_lines t r p ≡ Some a → body_lines t r q ≡ Some a → p ≡ q
unfolding body_lines
bodies_with_lines t r p q a b c d e = rows_by t r p q a (first_fitting BODIES.now t r p) (first_fitting BODIES.now t r q) b c refl refl d e

either_holds : (P : Option (List Line) → Type 0) (a b : Option (List Line)) → P a → P b → P (lines_or a b)
either_holds P None b h k = k
either_holds P (Some a) b h k = h

-- What holds for the lines of records with attributes after them, and for none, holds for the lines of a body.
pub row_holds : (P : Option (List Line) → Type 0) (t : ℕ) (p : List ℕ) → ((h : Header) (table : Option RawTable) → P (record_and_list (header_line h) table p)) → P None → (o : Option BodyRow) → P (row_lines o t p)
row_holds P t p each none None = none
row_holds P t p each none (Some x) =
    let alone_holds : (o : Option Header) → P (alone_lines o p) = λ o. elim o as (λ o. P (alone_lines o p)) [ None ↦ none | Some h ↦ each h None ] in
    let general : P (general_lines t p) = cond_both (t % 4 == 2) (alone_lines (general_header (length p)) p) None P (λ e. alone_holds (general_header (length p))) (λ e. none) in
    either_holds P (record_and_list (header_line x.4) x.5 p) (general_lines t p) (each x.4 x.5) general

-- ---- the text of a body's lines

-- A body's lines begin with the line of a header.
record BodyLines (a : List Line) : Type 0 where
  header : Header
  start : List ℕ
  more : List Line
  is : a ≡ (1, record_words (header_line header) start) ∷ more
  deep : AreDeep 1 more
  lines : AreLines more

list_deep : (table : Option RawTable) (p : List ℕ) → AreDeep 1 (list_lines_of table p)
list_deep None p = record {}
list_deep (Some t) p = listed_deep 1 (L.Attributes t p) p

list_lines : (table : Option RawTable) (p : List ℕ) → AreLines (list_lines_of table p)
list_lines None p = record {}
list_lines (Some t) p = listed_are_lines 1 (L.Attributes t p) p (record {})

header_lines : (h : Header) (table : Option RawTable) (p : List ℕ) (a : List Line) → Whole (header_line h) table p a → BodyLines a
header_lines h table p a w =
    let n = total_size (header_line h).1 in
    record { header = h; start = take n p; more = list_lines_of table (drop n p); is = w.lines; deep = list_deep table (drop n p); lines = list_lines table (drop n p) }

lines_of_body : (t : ℕ) (r : Bool) (p : List ℕ) (a : List Line) → body_lines t r p ≡ Some a → BodyLines a
unfolding body_lines
lines_of_body t r p a =
    row_holds (λ o. o ≡ Some a → BodyLines a) t p (λ h table d. header_lines h table p a (whole (header_line h) table p a d)) (λ e. absurd cc) (first_fitting BODIES.now t r p)

body_deep : (a : List Line) → BodyLines a → AreDeep 1 a
body_deep a b = subst (AreDeep 1) (sym b.is) (omega arith, b.deep)

body_are_lines : (a : List Line) → BodyLines a → AreLines a
body_are_lines a b =
    let d = (header_facts b.header).determined in
    subst AreLines (sym b.is) ((words_are_line (header_line b.header) b.start d, (words_start (header_line b.header) b.start d).1), b.lines)

determined : (t : ℕ) (r : Bool) (p q : List ℕ) (a b : List Line) (s u : List ℕ) → AreBytes p → AreBytes q → body_lines t r p ≡ Some a → body_lines t r q ≡ Some b → IsShallow 1 s → IsShallow 1 u → lines_text a ++ s ≡ lines_text b ++ u → (p ≡ q) × (s ≡ u)
determined t r p q a b s u x y d e h k same =
    let m = lines_of_body t r p a d in
    let n = lines_of_body t r q b e in
    let c = texts_span 1 a b s u (body_deep a m) (body_deep b n) (body_are_lines a m) (body_are_lines b n) h k same in
    (bodies_with_lines t r p q a x y d (e ∙ ap (λ z. Some z) (sym c.0)), c.1)

-- The word `body` is no header's.
apart_by : (line : RecordLine) (p : List ℕ) (more : List Line) (s r : List ℕ) → is_line_determined line ≡ true → (line.0 ≡ codes "body" → ⊥) → BeginsWithSpace r → lines_text ((1, record_words line p) ∷ more) ++ s ≡ codes "  body" ++ r → ⊥
apart_by line p more s r d differs h e =
    let rest = 10 ∷ (lines_text more ++ s) in
    let words = fields_text 32 false line.1 p in
    let same : line.0 ++ (words ++ rest) ≡ codes "body" ++ r = sym (append_assoc line.0 words rest) ∙ ap (drop 2) (sym (line_parts (1, record_words line p) more s) ∙ e) in
    differs (cut_word line.0 (codes "body") (words ++ rest) r (words_start line p d).0 (message_label (codes "body") refl) (ends_joined words rest (words_end line p) (omega arith)) (space_ends r h) same).0

apart : (t : ℕ) (r : Bool) (p : List ℕ) (a : List Line) (s u : List ℕ) → body_lines t r p ≡ Some a → BeginsWithSpace u → lines_text a ++ s ≡ codes "  body" ++ u → ⊥
apart t r p a s u d h e =
    let b = lines_of_body t r p a d in
    let f = header_facts b.header in
    apart_by (header_line b.header) b.start b.more s u f.determined f.not_body h (ap (λ z. lines_text z ++ s) (sym b.is) ∙ e)

pub bodies_determined : BodiesAreDetermined
bodies_determined = record { determined = determined; apart = apart }
