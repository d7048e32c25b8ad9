-- The lines of an extended acknowledgement determine its attributes, and differ from a line of bytes.
use Rattle.std.proofs.Common.{◌≡◌, ℕ, ◌<◌, true, cond, List, [], ◌∷◌, ◌++◌, length, Option, Some, None, refl, sym, ap, ◌∙◌, arith}
use Rattle.std.specs.Prelude.{codes, get_or, nat_lt}
use Rattle.std.proofs.lemmas.Bool.{and_parts}
use Rattle.netlink_packet_core_grammar.specs.Attributes.{Attribute}
use Rattle.netlink_packet_core_grammar.specs.Bytes.{AreBytes}
use Rattle.link_lines_parts.proofs.WholeLists.{step}
use Rattle.link_lines_raw.specs.declared.lists.ListedBy.TheVariants as L
use Rattle.link_lines_raw.specs.declared.raw_tables.RawTable.{RawTable}
use Rattle.link_lines_raw.specs.declared.raw_tables.TheConstants.{ACKNOWLEDGEMENT}
use Rattle.link_lines_raw.specs.declared.rows.RawBy.TheVariants as R
use Rattle.link_lines_raw.specs.Acknowledgements.{acknowledgement_lines, is_acknowledgement}
use Rattle.link_lines_raw.specs.Attributes.{after_name, is_whole, named_text, plain_bytes, raw_row, raw_text}
use Rattle.link_lines_raw.specs.Laws.{AcknowledgementsAreDetermined}
use Rattle.link_lines_raw.specs.Lines.{IsShallow, Line, lines_text}
use Rattle.link_lines_raw.specs.Lists.{first_part, head_line, head_of, held_lines, inside_lines, listed_in, part_text}
use Rattle.link_lines_raw.specs.Names.{Named}
use Rattle.link_lines_raw.specs.Rows.{Raw}
use Rattle.link_lines_raw.proofs.RawDetermined.{held_payloads_determined}
use Rattle.link_lines_raw.proofs.RawRows.{row_facts}
use Rattle.link_lines_raw.proofs.Unfolding.{next}
use Rattle.link_lines_raw.proofs.Words.{Starts}

-- ---- the attributes are determined

-- The row of an attribute that holds the list.
abbrev row : Raw
row = R.List ACKNOWLEDGEMENT

held_is : (p : List ℕ) → is_whole p ≡ true → held_lines 1 row p ≡ acknowledgement_lines p
held_is p h = ap (λ b. head_line 1 (cond b (head_of row p) None) ++ inside_lines 1 (cond b (listed_in row p) None)) h

name_is : (p : List ℕ) → is_whole p ≡ true → after_name 1 row p ≡ []
unfolding after_name
name_is p h = ap (λ b. cond b [] (plain_bytes p)) h

whole : (p : List ℕ) → is_acknowledgement p ≡ true → is_whole p ≡ true
whole p h = (and_parts (nat_lt 0 (length p)) (is_whole p) h).1

determined : (p q s t : List ℕ) → AreBytes p → AreBytes q → is_acknowledgement p ≡ true → is_acknowledgement q ≡ true → IsShallow 1 s → IsShallow 1 t →
    lines_text (acknowledgement_lines p) ++ s ≡ lines_text (acknowledgement_lines q) ++ t → (p ≡ q) × (s ≡ t)
determined p q s t a b h k i j e =
    let x = whole p h in
    let y = whole q k in
    held_payloads_determined.determined 1 row p q s t refl a b i j (name_is p x ∙ sym (name_is q y)) (ap (λ z. lines_text z ++ s) (held_is p x) ∙ e ∙ sym (ap (λ z. lines_text z ++ t) (held_is q y)))

-- ---- the first line

-- A text begins with an upper-case letter, a bracket, or the first letter of `kind`.
record StartsName (s : List ℕ) : Type 0 where
  starts : Starts s
  low : get_or s 0 0 < 114

joined : (name s : List ℕ) → Starts name → get_or name 0 0 < 97 → StartsName (name ++ s)
joined [] s h l = absurd h
joined (c ∷ name) s h l = record { starts = h; low = omega (arith, l) }

named_by : (level : ℕ) (t : RawTable) (w : List ℕ) (e : Attribute) (o : Option (Named Raw)) → raw_row t e.kind ≡ o → StartsName (named_text level o w e)
named_by level t w e None h = record { starts = omega arith; low = omega arith }
named_by level t w e (Some r) h = let f = row_facts t e.kind r h in joined r.0 _ f.starts f.upper

text_starts : (level : ℕ) (t : RawTable) (w : List ℕ) (e : Attribute) → StartsName (raw_text level t w e)
unfolding raw_text
text_starts level t w e = named_by level t w e (raw_row t e.kind) refl

-- The lines, of which the first begins with a name.
record FirstLine (lines : List Line) : Type 0 where
  text : List ℕ
  more : List Line
  is : lines ≡ (1, text) ∷ more
  name : StartsName text

first_line : (p : List ℕ) → is_acknowledgement p ≡ true → FirstLine (acknowledgement_lines p)
unfolding first_part part_text
first_line [] h = absurd cc
first_line (b ∷ p) h =
    let s = step b p (whole (b ∷ p) h) in
    record {
      text = raw_text 2 ACKNOWLEDGEMENT (b ∷ p) s.e;
      more = _;
      is = next 1 (L.Attributes ACKNOWLEDGEMENT (b ∷ p)) (b ∷ p) s.e s.rest s.first;
      name = text_starts 2 ACKNOWLEDGEMENT (b ∷ p) s.e;
    }

indented_by : (lines : List Line) → FirstLine lines → (r : List ℕ) × (lines_text lines ≡ 32 ∷ r)
unfolding lines_text
indented_by lines f = (_, ap lines_text f.is)

third : (text x y z : List ℕ) → StartsName text → get_or (((text ++ x) ++ y) ++ z) 0 0 < 114
third [] x y z h = absurd h.starts
third (c ∷ text) x y z h = h.low

apart_by : (lines : List Line) (s r : List ℕ) → FirstLine lines → lines_text lines ++ s ≡ codes "  rest" ++ r → ⊥
unfolding lines_text
apart_by lines s r f e =
    let same = sym (ap (λ z. lines_text z ++ s) f.is) ∙ e in
    let letter : get_or (((f.text ++ 10 ∷ []) ++ lines_text f.more) ++ s) 0 0 ≡ 114 = ap (λ z. get_or z 2 0) same in
    omega (arith, letter, third f.text (10 ∷ []) (lines_text f.more) s f.name)

pub acknowledgements_determined : AcknowledgementsAreDetermined
acknowledgements_determined = record {
  determined = determined;
  indented = λ p h. indented_by (acknowledgement_lines p) (first_line p h);
  apart = λ p s r h e. apart_by (acknowledgement_lines p) s r (first_line p h) e;
}
