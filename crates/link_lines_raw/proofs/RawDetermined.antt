-- The lines of raw attributes and of payloads determine them.
use Rattle.std.proofs.Common.{◌≡◌, ℕ, suc, true, List, [], ◌++◌, length, refl, arith}
use Rattle.netlink_packet_core_grammar.specs.Attributes.{Attribute}
use Rattle.netlink_packet_core_grammar.specs.Bytes.{AreBytes}
use Rattle.link_lines_raw.specs.declared.raw_tables.RawTable.{RawTable}
use Rattle.link_lines_raw.specs.Attributes.{after_name, raw_row, raw_text}
use Rattle.link_lines_raw.specs.Coverage.{determines_raw}
use Rattle.link_lines_raw.specs.Laws.{HeldPayloadsAreDetermined, IsEncodable, RawAttributesAreDetermined}
use Rattle.link_lines_raw.specs.Lines.{IsShallow, lines_text}
use Rattle.link_lines_raw.specs.Lists.{held_lines, named_head, named_list, raw_below, shown_head, shown_list}
use Rattle.link_lines_raw.specs.Rows.{Raw}
use Rattle.link_lines_raw.proofs.Hops.{hops_determined, records_determined}
use Rattle.link_lines_raw.proofs.ListLines.{attribute_lines, below_are_lines, shown_determined, shown_head_line, text_is_line}
use Rattle.link_lines_raw.proofs.ListsDetermined.{attribute_determined, shorter_determined}
use Rattle.link_lines_raw.proofs.Payloads.{name_line, name_space, payload_determined}
use Rattle.link_lines_raw.proofs.Spans.{below_deep, texts_span}

attribute : (level : ℕ) (t : RawTable) (e f : Attribute) (s u : List ℕ) → IsEncodable e → IsEncodable f → IsShallow level s → IsShallow level u → raw_text level t [] e ≡ raw_text level t [] f →
    lines_text (raw_below level t e) ++ s ≡ lines_text (raw_below level t f) ++ u → (e ≡ f) × (s ≡ u)
attribute level t e f s u a b h k text lines =
    let c = texts_span level (raw_below level t e) (raw_below level t f) s u
    (below_deep level (named_head level (raw_row t e.kind) [] e) (named_list level (raw_row t e.kind) [] e)) (below_deep level (named_head level (raw_row t f.kind) [] f) (named_list level (raw_row t f.kind) [] f))
    (attribute_lines level t [] e) (attribute_lines level t [] f) h k lines in
    let n = suc (length e.payload) in
    (attribute_determined n (shorter_determined n) level t [] [] e f (omega arith) a b (λ l x row. refl) text c.0, c.1)

pub raw_attributes_determined : RawAttributesAreDetermined
raw_attributes_determined = record { line = λ level t e. (text_is_line level t [] e).0; determined = attribute }

payload : (level : ℕ) (raw : Raw) (p q s u : List ℕ) → determines_raw raw ≡ true → AreBytes p → AreBytes q → IsShallow level s → IsShallow level u → after_name level raw p ≡ after_name level raw q →
    lines_text (held_lines level raw p) ++ s ≡ lines_text (held_lines level raw q) ++ u → (p ≡ q) × (s ≡ u)
payload level raw p q s u d a b h k text lines =
    let c = texts_span level (held_lines level raw p) (held_lines level raw q) s u
    (below_deep level (shown_head level raw p) (shown_list level raw p)) (below_deep level (shown_head level raw q) (shown_list level raw q))
    (below_are_lines level (shown_head level raw p) (shown_list level raw p) (shown_head_line level raw p d) (shown_determined level raw p d))
    (below_are_lines level (shown_head level raw q) (shown_list level raw q) (shown_head_line level raw q d) (shown_determined level raw q d)) h k lines in
    let n = suc (length p) in
    (payload_determined n (shorter_determined n) (hops_determined n (shorter_determined n)) records_determined level raw p q d (omega arith) a b text c.0, c.1)

pub held_payloads_determined : HeldPayloadsAreDetermined
held_payloads_determined = record { line = λ level raw p d. name_line level raw p d; space = λ level raw p. name_space level raw p; determined = payload }
