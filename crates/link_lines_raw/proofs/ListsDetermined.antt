-- The lines of raw lists determine them.
use Rattle.std.proofs.Common.{◌≡◌, ℕ, zero, suc, ◌+◌, ◌%◌, ◌<◌, ◌≤◌, Bool, true, false, cond, List, [], ◌∷◌, ◌++◌, length, drop, flat_map, Option, Some, None, refl, sym, ap, subst, ◌∙◌, append_assoc, arith, ◌⊎◌, inl, inr}
use Rattle.std.specs.Prelude.{⊤, ◌==◌, ◌&&◌, not, codes}
use Rattle.std.specs.List.{AllByRecursion}
use Rattle.std.proofs.lemmas.Bool.{and_parts, eqb-true, not-true}
use Rattle.std.proofs.lemmas.Bool.Decides.{nat_tests}
use Rattle.std.proofs.lemmas.Option.{same_Some}
use Rattle.netlink_packet_core_grammar.specs.Attributes.{Attribute, attribute_length, first_attribute, nla_align}
use Rattle.netlink_packet_core_grammar.specs.Bytes.{AreBytes}
use Rattle.netlink_packet_core_grammar.proofs.Attributes.{sized}
use Rattle.link_lines_values.specs.Laws.{BeginsWithSpace}
use Rattle.link_lines_values.proofs.ExactDetermined.{raw_values_determined}
use Rattle.link_lines_raw.specs.declared.lists.ListedBy.TheVariants as L
use Rattle.link_lines_raw.specs.declared.raw_tables.RawTable.{RawTable}
use Rattle.link_lines_raw.specs.Attributes.{after_name, has_byte_order_bit, has_nested_bit, named_text, nested_word, proper_row, raw_row, raw_text}
use Rattle.link_lines_raw.specs.Choices.{is_of_kind, resolved}
use Rattle.link_lines_raw.specs.Coverage.{determines_raw, is_value}
use Rattle.link_lines_raw.specs.declared.rows.RawBy.TheVariants as R
use Rattle.link_lines_raw.specs.Laws.{IsEncodable}
use Rattle.link_lines_raw.specs.Lines.{Line}
use Rattle.link_lines_raw.specs.Lists.{first_part, head_line, inside_lines, listed_lines, named_head, named_list, padding_words, part_head, part_list, part_padding, part_text}
use Rattle.link_lines_raw.specs.Names.{Named}
use Rattle.link_lines_raw.specs.Rows.{Raw}
use Rattle.link_lines_raw.proofs.Hops.{hops_determined, records_determined}
use Rattle.link_lines_raw.proofs.Padding.{held_apart, paddings_determined}
use Rattle.link_lines_raw.proofs.Payloads.{ShorterDetermined, below, name_space, payload_determined, unnested}
use Rattle.link_lines_raw.proofs.RawRows.{ChoosingRow, choosing_row, held_determined, is_row, names_determined, row_facts}
use Rattle.link_lines_raw.proofs.Spans.{AreDeep, IsUnder, below_deep, deep_joined, first_text, head_deep, span}
use Rattle.link_lines_raw.proofs.Chosen.{payload_among, same_choice}
use Rattle.link_lines_raw.proofs.Unfolding.{next, none}
use Rattle.link_lines_raw.proofs.Unnamed.{unnamed_determined}
use Rattle.link_lines_raw.proofs.Whole.{AreEncodable, AreItems, IsItem, Item, items_determine, listing}
use Rattle.link_lines_raw.proofs.Words.{cut_word, not_lower, space_ends}

-- ---- attributes, one after the other

-- The lines below the line of an attribute.
abbrev pub under : ℕ → RawTable → List ℕ → Attribute → List Line
under level t w e = head_line level (named_head level (raw_row t e.kind) w e) ++ inside_lines level (named_list level (raw_row t e.kind) w e)

-- The lines below the line of an attribute with its padding.
abbrev padded_under : ℕ → RawTable → List ℕ → Item → List Line
padded_under level t w x = head_line level (padding_words x.1) ++ under level t w x.0

-- The line of an attribute, and those below it.
abbrev block : ℕ → RawTable → List ℕ → Item → List Line
block level t w x = (level, raw_text (level + 1) t w x.0) ∷ padded_under (level + 1) t w x

abbrev lines_of : ℕ → RawTable → List ℕ → List Item → List Line
lines_of level t w items = flat_map (block level t w) items

no_attribute : first_attribute [] ≡ None
unfolding first_attribute
no_attribute = refl

no_lines : (level : ℕ) (t : RawTable) (w : List ℕ) → listed_lines level (L.Attributes t w) [] ≡ []
unfolding first_part
no_lines level t w = none level (L.Attributes t w) [] no_attribute

three_joined : (a b c d : List Line) → (a ++ b) ++ (c ++ d) ≡ (a ++ (b ++ c)) ++ d
three_joined a b c d = sym (append_assoc (a ++ b) c d) ∙ ap (λ z. z ++ d) (append_assoc a b c)

lines_are : (level : ℕ) (t : RawTable) (w p : List ℕ) (items : List Item) → AreItems p items → listed_lines level (L.Attributes t w) p ≡ lines_of level t w items
unfolding first_part part_text part_head part_list part_padding
lines_are level t w p [] h = ap (λ z. listed_lines level (L.Attributes t w) z) h ∙ no_lines level t w
lines_are level t w p (x ∷ items) h =
    let e = x.0 in
    let text = raw_text (level + 1) t w e in
    let padding = head_line (level + 1) (padding_words x.1) in
    let head = head_line (level + 1) (named_head (level + 1) (raw_row t e.kind) w e) in
    let list = inside_lines (level + 1) (named_list (level + 1) (raw_row t e.kind) w e) in
    let more = listed_lines level (L.Attributes t w) h.0 in
    next level (L.Attributes t w) p e h.0 h.1
    ∙ ap (λ o. (level, text) ∷ ((head_line (level + 1) (padding_words o) ++ head) ++ (list ++ more))) h.2
    ∙ ap (λ z. (level, text) ∷ ((padding ++ head) ++ (list ++ z))) (lines_are level t w h.0 items h.3)
    ∙ ap (λ z. (level, text) ∷ z) (three_joined padding head list (lines_of level t w items))

lines_under : (level : ℕ) (t : RawTable) (w : List ℕ) (items : List Item) → IsUnder (level + 1) (lines_of level t w items)
lines_under level t w [] = record {}
lines_under level t w (x ∷ items) = omega arith

padded_deep : (level : ℕ) (t : RawTable) (w : List ℕ) (x : Item) → AreDeep level (padded_under level t w x)
padded_deep level t w x =
    let e = x.0 in
    deep_joined level (head_line level (padding_words x.1)) (under level t w e) (head_deep level (padding_words x.1)) (below_deep level (named_head level (raw_row t e.kind) w e) (named_list level (raw_row t e.kind) w e))

-- Pairs of a relation, in two lists of one length.
abbrev Pairs : (Item → Item → Type 0) → List Item → List Item → Type 0
Pairs P [] [] = ⊤
Pairs P (x ∷ xs) (y ∷ ys) = P x y × Pairs P xs ys
Pairs P xs ys = ⊥

-- Two attributes have the same line, the same padding, and the same lines below it.
pub record Alike (level : ℕ) (t : RawTable) (w v : List ℕ) (x y : Item) : Type 0 where
  pub text : raw_text (level + 1) t w x.0 ≡ raw_text (level + 1) t v y.0
  pub padding : x.1 ≡ y.1
  pub lines : under (level + 1) t w x.0 ≡ under (level + 1) t v y.0

blocks : (level : ℕ) (t : RawTable) (w v : List ℕ) (xs ys : List Item) → AreEncodable xs → AreEncodable ys → lines_of level t w xs ≡ lines_of level t v ys → Pairs (Alike level t w v) xs ys
blocks level t w v [] [] a b h = record {}
blocks level t w v [] (y ∷ ys) a b h = absurd cc
blocks level t w v (x ∷ xs) [] a b h = absurd cc
blocks level t w v (x ∷ xs) (y ∷ ys) a b h =
    let c = span (level + 1) (padded_under (level + 1) t w x) (padded_under (level + 1) t v y) (lines_of level t w xs) (lines_of level t v ys)
    (padded_deep (level + 1) t w x) (padded_deep (level + 1) t v y) (lines_under level t w xs) (lines_under level t v ys) (ap (drop 1) h) in
    let d = paddings_determined (level + 1) x.1 y.1 (under (level + 1) t w x.0) (under (level + 1) t v y.0) a.0.padding b.0.padding (held_apart (level + 1) t w x.0) (held_apart (level + 1) t v y.0) c.0 in
    (record { text = ap first_text h; padding = d.0; lines = d.1 }, blocks level t w v xs ys a.1 b.1 c.1)

-- ---- one attribute

kind_by : (k l : ℕ) (a : Bool) → k < 65536 → l < 65536 → has_nested_bit k ≡ a → has_nested_bit l ≡ a → has_byte_order_bit k ≡ false → has_byte_order_bit l ≡ false → k % 0x4000 ≡ l % 0x4000 → k ≡ l
kind_by k l true h i m n p q e = grind (arith, nat_tests)
kind_by k l false h i m n p q e = grind (arith, nat_tests)

nested_by : (a b : Bool) (x y : List ℕ) → ((s : List ℕ) → BeginsWithSpace s → x ≡ codes " nested" ++ s → ⊥) → ((s : List ℕ) → BeginsWithSpace s → y ≡ codes " nested" ++ s → ⊥) → BeginsWithSpace x → BeginsWithSpace y →
    cond a (codes " nested") [] ++ x ≡ cond b (codes " nested") [] ++ y → (a ≡ b) × (x ≡ y)
nested_by true true x y h k i j e = (refl, ap (drop 7) e)
nested_by true false x y h k i j e = absurd (k x i (sym e))
nested_by false true x y h k i j e = absurd (h y j e)
nested_by false false x y h k i j e = (refl, e)

word_space : (a : Bool) (s : List ℕ) → BeginsWithSpace s → BeginsWithSpace (cond a (codes " nested") [] ++ s)
word_space true s h = refl
word_space false s h = h

-- Two attributes with rows and the same text have the same kind, and the same text after their names.
pub record SameKind (level : ℕ) (t : RawTable) (w v : List ℕ) (e f : Attribute) (x y : Named Raw) : Type 0 where
  pub kind : e.kind ≡ f.kind
  pub row : x ≡ y
  pub after : after_name level (resolved x.1 w) e.payload ≡ after_name level (resolved x.1 v) f.payload

named_kind : (level : ℕ) (t : RawTable) (w v : List ℕ) (e f : Attribute) (x y : Named Raw) → IsEncodable e → IsEncodable f → raw_row t e.kind ≡ Some x → raw_row t f.kind ≡ Some y → named_text level (Some x) w e ≡ named_text level (Some y) v f → SameKind level t w v e f x y
named_kind level t w v e f x y a b h i same =
    let m = row_facts t e.kind x h in
    let n = row_facts t f.kind y i in
    let own = after_name level (resolved x.1 w) e.payload in
    let other = after_name level (resolved y.1 v) f.payload in
    let cut = cut_word x.0 y.0 (nested_word e.kind ++ own) (nested_word f.kind ++ other) m.word n.word
    (space_ends _ (word_space (has_nested_bit e.kind) own (name_space level (resolved x.1 w) e.payload))) (space_ends _ (word_space (has_nested_bit f.kind) other (name_space level (resolved y.1 v) f.payload))) same in
    let bits = nested_by (has_nested_bit e.kind) (has_nested_bit f.kind) own other
    (λ s j. unnested level (resolved x.1 w) e.payload s (held_determined t e.kind x w h) a.payload j) (λ s j. unnested level (resolved y.1 v) f.payload s (held_determined t f.kind y v i) b.payload j) (name_space level (resolved x.1 w) e.payload) (name_space level (resolved y.1 v) f.payload) cut.1 in
    let kinds : e.kind ≡ f.kind = kind_by e.kind f.kind (has_nested_bit e.kind) a.kind b.kind refl (sym bits.0) (is_row t e.kind x h).bit (is_row t f.kind y i).bit (names_determined t e.kind f.kind x y h i cut.0) in
    let one : x ≡ y = same_Some x y (sym h ∙ ap (raw_row t) kinds ∙ i) in
    record { kind = kinds; row = one; after = bits.1 ∙ ap (λ z. after_name level (resolved z.1 v) f.payload) (sym one) }

-- Two attributes without a row, or two with one; never one of each.
either_kind : (level : ℕ) (t : RawTable) (w v : List ℕ) (e f : Attribute) (a b : Option (Named Raw)) → IsEncodable e → IsEncodable f → raw_row t e.kind ≡ a → raw_row t f.kind ≡ b → named_text level a w e ≡ named_text level b v f →
    ((a ≡ None) × (e ≡ f)) ⊎ ((x : Named Raw) × (y : Named Raw) × (raw_row t e.kind ≡ Some x) × (raw_row t f.kind ≡ Some y) × SameKind level t w v e f x y)
either_kind level t w v e f None None a b h i same = inl (refl, unnamed_determined e f a b same)
either_kind level t w v e f None (Some y) a b h i same = let n = row_facts t f.kind y i in absurd (not_lower 107 y.0 (nested_word f.kind ++ after_name level (resolved y.1 v) f.payload) _ (omega arith) n.starts n.upper (sym same))
either_kind level t w v e f (Some x) None a b h i same = let n = row_facts t e.kind x h in absurd (not_lower 107 x.0 (nested_word e.kind ++ after_name level (resolved x.1 w) e.payload) _ (omega arith) n.starts n.upper same)
either_kind level t w v e f (Some x) (Some y) a b h i same = inr (x, y, h, i, named_kind level t w v e f x y a b h i same)

same_attribute : (e f : Attribute) → e.kind ≡ f.kind → e.payload ≡ f.payload → e ≡ f
same_attribute e f k p i = record { kind = k i; payload = p i }

-- What is known of two attributes without knowing what others choose: the kind, and a payload that is a value.
pub record Simple (t : RawTable) (e f : Attribute) : Type 0 where
  pub kind : e.kind ≡ f.kind
  pub value : (x : Named Raw) → raw_row t e.kind ≡ Some x → is_value x.1 ≡ true → e ≡ f

value_is : (level : ℕ) (raw : Raw) (w v p q : List ℕ) → is_value raw ≡ true → determines_raw raw ≡ true → AreBytes p → AreBytes q → after_name level (resolved raw w) p ≡ after_name level (resolved raw v) q → p ≡ q
unfolding after_name resolved
value_is level (R.Value shown) w v p q h d a b e = raw_values_determined.determined shown p q d a b e
value_is level raw w v p q h d a b e = absurd cc

simple_by : (level : ℕ) (t : RawTable) (w v : List ℕ) (e f : Attribute) → IsEncodable e → IsEncodable f →
    ((raw_row t e.kind ≡ None) × (e ≡ f)) ⊎ ((x : Named Raw) × (y : Named Raw) × (raw_row t e.kind ≡ Some x) × (raw_row t f.kind ≡ Some y) × SameKind level t w v e f x y) → Simple t e f
simple_by level t w v e f a b (inl h) = record { kind = ap (λ z. z.kind) h.1; value = λ x i j. h.1 }
simple_by level t w v e f a b (inr (x, y, h, i, s)) = record {
  kind = s.kind;
  value = λ z j k.
      let one : x ≡ z = same_Some x z (sym h ∙ j) in
      same_attribute e f s.kind (value_is level x.1 w v e.payload f.payload (ap (λ r. is_value r.1) one ∙ k) (row_facts t e.kind x h).determined a.payload b.payload s.after);
}

simple : (level : ℕ) (t : RawTable) (w v : List ℕ) (x y : Item) → IsItem x → IsItem y → Alike level t w v x y → Simple t x.0 y.0
unfolding raw_text
simple level t w v x y a b h =
    simple_by (level + 1) t w v x.0 y.0 a.attribute b.attribute (either_kind (level + 1) t w v x.0 y.0 (raw_row t x.0.kind) (raw_row t y.0.kind) a.attribute b.attribute refl refl h.text)

-- The same of the attributes of two items.
abbrev AreSimple : RawTable → Item → Item → Type 0
AreSimple t x y = Simple t x.0 y.0

all_simple : (level : ℕ) (t : RawTable) (w v : List ℕ) (xs ys : List Item) → AreEncodable xs → AreEncodable ys → Pairs (Alike level t w v) xs ys → Pairs (AreSimple t) xs ys
all_simple level t w v [] [] a b h = record {}
all_simple level t w v [] (y ∷ ys) a b h = absurd h
all_simple level t w v (x ∷ xs) [] a b h = absurd h
all_simple level t w v (x ∷ xs) (y ∷ ys) a b h = (simple level t w v x y a.0 b.0 h.0, all_simple level t w v xs ys a.1 b.1 h.1)

-- ---- attributes that choose

choosing_is : (t : RawTable) (k : ℕ) (r : ChoosingRow t k) (e : Attribute) → is_of_kind k e ≡ true → raw_row t e.kind ≡ Some r.row
unfolding raw_row
choosing_is t k r e h =
    let parts = and_parts (not (has_byte_order_bit e.kind)) (e.kind % 0x4000 == k) h in
    ap (λ b. cond b None (proper_row t (e.kind % 0x4000))) (not-true (has_byte_order_bit e.kind) parts.0) ∙ ap (proper_row t) (eqb-true (e.kind % 0x4000) k parts.1) ∙ r.proper

payload_pair : (t : RawTable) (k : ℕ) (r : ChoosingRow t k) (e f : Attribute) (x y : Option (List ℕ)) (b : Bool) → is_of_kind k e ≡ b → Simple t e f → x ≡ y → cond (is_of_kind k e) (Some e.payload) x ≡ cond (is_of_kind k f) (Some f.payload) y
payload_pair t k r e f x y true h s same =
    let one : e ≡ f = s.value r.row (choosing_is t k r e h) r.value in
    ap (λ z. cond (is_of_kind k z) (Some z.payload) x) one ∙ ap (λ z. cond (is_of_kind k f) (Some f.payload) z) same
payload_pair t k r e f x y false h s same =
    let other : is_of_kind k f ≡ false = ap (λ l. not (has_byte_order_bit l) && (l % 0x4000 == k)) (sym s.kind) ∙ h in
    ap (λ b. cond b (Some e.payload) x) h ∙ same ∙ sym (ap (λ b. cond b (Some f.payload) y) other)

same_payload : (t : RawTable) (k : ℕ) (r : ChoosingRow t k) (xs ys : List Item) → Pairs (AreSimple t) xs ys → payload_among k xs ≡ payload_among k ys
same_payload t k r [] [] h = refl
same_payload t k r [] (y ∷ ys) h = absurd h
same_payload t k r (x ∷ xs) [] h = absurd h
same_payload t k r (x ∷ xs) (y ∷ ys) h = payload_pair t k r x.0 y.0 (payload_among k xs) (payload_among k ys) (is_of_kind k x.0) refl h.0 (same_payload t k r xs ys h.1)

-- ---- an attribute, and lists

-- In the lists w and v, what the rows of a table hold is the same.
abbrev pub SameChoices : RawTable → List ℕ → List ℕ → Type 0
SameChoices t w v = (l : ℕ) (x : Named Raw) → raw_row t l ≡ Some x → resolved x.1 w ≡ resolved x.1 v

module _ (n : ℕ) (shorter : ShorterDetermined n) where
  named : (level : ℕ) (t : RawTable) (w v : List ℕ) (e f : Attribute) (x y : Named Raw) → length e.payload < n → IsEncodable e → IsEncodable f → SameChoices t w v → raw_row t e.kind ≡ Some x → raw_row t f.kind ≡ Some y → SameKind level t w v e f x y →
      under level t w e ≡ under level t v f → e ≡ f
  named level t w v e f x y l a b choices h i s lines =
      let raw = resolved x.1 w in
      let one : resolved x.1 v ≡ raw = sym (choices e.kind x h) in
      let own : below level raw e.payload ≡ below level raw f.payload =
      ap (λ o. head_line level (named_head level o w e) ++ inside_lines level (named_list level o w e)) (sym h) ∙ lines ∙ ap (λ o. head_line level (named_head level o v f) ++ inside_lines level (named_list level o v f)) (i ∙ ap (λ z. Some z) (sym s.row)) ∙ ap (λ z. below level z f.payload) one in
      same_attribute e f s.kind
      (payload_determined n shorter (hops_determined n shorter) records_determined level raw e.payload f.payload (held_determined t e.kind x w h) l a.payload b.payload (s.after ∙ ap (λ z. after_name level z f.payload) one) own)

  attribute_by : (level : ℕ) (t : RawTable) (w v : List ℕ) (e f : Attribute) → length e.payload < n → IsEncodable e → IsEncodable f → SameChoices t w v → under level t w e ≡ under level t v f →
      ((raw_row t e.kind ≡ None) × (e ≡ f)) ⊎ ((x : Named Raw) × (y : Named Raw) × (raw_row t e.kind ≡ Some x) × (raw_row t f.kind ≡ Some y) × SameKind level t w v e f x y) → e ≡ f
  attribute_by level t w v e f l a b choices lines (inl h) = h.1
  attribute_by level t w v e f l a b choices lines (inr (x, y, h, i, s)) = named level t w v e f x y l a b choices h i s lines

  -- An attribute is determined by its text and the lines below it.
  pub attribute_determined : (level : ℕ) (t : RawTable) (w v : List ℕ) (e f : Attribute) → length e.payload < n → IsEncodable e → IsEncodable f → SameChoices t w v → raw_text level t w e ≡ raw_text level t v f → under level t w e ≡ under level t v f → e ≡ f
  unfolding raw_text
  attribute_determined level t w v e f l a b choices text lines = attribute_by level t w v e f l a b choices lines (either_kind level t w v e f (raw_row t e.kind) (raw_row t f.kind) a b refl refl text)

  items_same : (level : ℕ) (t : RawTable) (w v : List ℕ) (xs ys : List Item) → SameChoices t w v → AllByRecursion (λ x. length x.0.payload < n) xs → AreEncodable xs → AreEncodable ys → Pairs (Alike level t w v) xs ys → xs ≡ ys
  items_same level t w v [] [] choices l a b h = refl
  items_same level t w v [] (y ∷ ys) choices l a b h = absurd h
  items_same level t w v (x ∷ xs) [] choices l a b h = absurd h
  items_same level t w v (x ∷ xs) (y ∷ ys) choices l a b h =
      let first = attribute_determined (level + 1) t w v x.0 y.0 l.0 a.0.attribute b.0.attribute choices h.0.text h.0.lines in
      let rest = items_same level t w v xs ys choices l.1 a.1 b.1 h.1 in
      λ i. (first i, h.0.padding i) ∷ rest i

payloads_shorter : (n : ℕ) (p : List ℕ) (items : List Item) → AreItems p items → length p ≤ n → AllByRecursion (λ x. length x.0.payload < n) items
payloads_shorter n p [] h l = record {}
payloads_shorter n p (x ∷ items) h l =
    let s = sized p x.0 h.0 h.1 in
    let a : attribute_length x.0 ≤ nla_align (attribute_length x.0) = omega arith in
    (omega (arith, s.within, l), payloads_shorter n h.0 items h.3 (omega (arith, s.within, s.rest_length, a, l)))

same_held : (t : RawTable) (p q : List ℕ) (xs ys : List Item) → AreItems p xs → AreItems q ys → Pairs (AreSimple t) xs ys → (l : ℕ) (x : Named Raw) (raw : Raw) → raw_row t l ≡ Some x → x.1 ≡ raw → resolved raw p ≡ resolved raw q
unfolding resolved
same_held t p q xs ys a b h l x (R.Value shown) row same = refl
same_held t p q xs ys a b h l x (R.List table) row same = refl
same_held t p q xs ys a b h l x (R.Chosen choice k) row same = same_choice choice k p q xs ys a b (same_payload t k (choosing_row t l choice k x row same) xs ys h)
same_held t p q xs ys a b h l x (R.Head line table) row same = refl
same_held t p q xs ys a b h l x (R.HeadAndRecords head line) row same = refl
same_held t p q xs ys a b h l x (R.Hops table) row same = refl
same_held t p q xs ys a b h l x (R.Records line) row same = refl

same_choices : (t : RawTable) (p q : List ℕ) (xs ys : List Item) → AreItems p xs → AreItems q ys → Pairs (AreSimple t) xs ys → SameChoices t p q
same_choices t p q xs ys a b h l x row = same_held t p q xs ys a b h l x x.1 row refl

-- Lines determine whole lists.
pub shorter_determined : (n : ℕ) → ShorterDetermined n
shorter_determined zero level t p q l a b h i e = absurd (omega (arith, l))
shorter_determined (suc n) level t p q l a b h i e =
    let x = listing p a h in
    let y = listing q b i in
    let pairs = blocks level t p q x.items y.items x.encodable y.encodable (sym (lines_are level t p p x.items x.are) ∙ e ∙ lines_are level t q q y.items y.are) in
    let choices = same_choices t p q x.items y.items x.are y.are (all_simple level t p q x.items y.items x.encodable y.encodable pairs) in
    let same = items_same n (shorter_determined n) level t p q x.items y.items choices (payloads_shorter n p x.items x.are (omega (arith, l))) x.encodable y.encodable pairs in
    items_determine p q y.items a b (subst (AreItems p) same x.are) y.are
