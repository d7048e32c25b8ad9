use Rattle.std.proofs.Common.{◌≡◌, ◌<◌, ◌++◌, ℕ, List, Option, true, take, drop, length, cond, Some, None, sym, ap, ◌∙◌, append-nil, refl, arith}
use Rattle.std.specs.Prelude.{min, nat_le}
use Rattle.std.proofs.lemmas.Bool.{and_parts, leb-true}
use Rattle.link_lines_values.specs.Records.{total_size}
use Rattle.link_lines_values.proofs.Appending.{as_text, done, failed, start, step}
use Rattle.link_lines_raw.specs.Attributes.{record_words}
use Rattle.link_lines_raw.specs.Bodies.{is_record_and_list, record_and_list, list_lines_of, record_and_list_lines, text_or_none}
use Rattle.link_lines_raw.specs.Lines.{line_text, lines_text}
use Rattle.link_lines_raw.specs.Rows.{RecordLine}
use Rattle.link_lines_raw.specs.declared.raw_tables.RawTable.{RawTable}
use Rattle.link_lines_raw.proofs.Spans.{first_line_text}
use Rattle.link_lines_raw.proofs.bodies.push_record_and_list.Goals as goal

both_text : (line : RecordLine) (table : Option RawTable) (bytes head rest : List ℕ) → is_record_and_list line table bytes ≡ true → head ≡ take (total_size line.1) bytes → rest ≡ drop (total_size line.1) bytes →
    line_text (1, record_words line head) ++ lines_text (list_lines_of table rest) ≡ text_or_none (record_and_list line table bytes)
both_text line table bytes head rest whole h r =
    (λ t. line_text (1, record_words line (h t)) ++ lines_text (list_lines_of table (r t)))
    ∙ sym (first_line_text (1, record_words line (take (total_size line.1) bytes)) (list_lines_of table (drop (total_size line.1) bytes)))
    ∙ ap (λ b. text_or_none (cond b (Some (record_and_list_lines line table bytes)) None)) (sym whole)

both_cut : (line : RecordLine) (table : Option RawTable) (bytes head rest : List ℕ) (n m : ℕ) → is_record_and_list line table bytes ≡ true → n ≡ min 18446744073709551615 m → m ≡ total_size line.1 → length bytes < 18446744073709551616 → head ≡ take n bytes → rest ≡ drop n bytes →
    line_text (1, record_words line head) ++ lines_text (list_lines_of table rest) ≡ text_or_none (record_and_list line table bytes)
both_cut line table bytes head rest n m whole e k l h r =
    let fits = leb-true (total_size line.1) (length bytes) (and_parts (nat_le (total_size line.1) (length bytes)) _ whole).0 in
    let size : n ≡ total_size line.1 = omega arith in
    both_text line table bytes head rest whole (h ∙ ap (λ j. take j bytes) size) (r ∙ ap (λ j. drop j bytes) size)

pub returns-in_err-push_record_line-clause-appends : goal.returns-in_err-push_record_line-clause-appends
returns-in_err-push_record_line-clause-appends c =
    let whole = sym c.is_record_and_list.ensures ∙ c.if-not-is_record_and_list.false in
    let text = both_cut _ _ c.args.bytes.now _ _ _ _ whole c.record_size.ensures (ap total_size c.fields.ensures) (omega arith) c.split_at.ensures.front c.split_at.ensures.back in
    failed _ _ _ c.from_residual.ensures.0 (start c.args.out.now _) c.in_err-push_record_line.ensures text

pub returns-in_err-push_list_of-clause-appends : goal.returns-in_err-push_list_of-clause-appends
returns-in_err-push_list_of-clause-appends c =
    let whole = sym c.is_record_and_list.ensures ∙ c.if-not-is_record_and_list.false in
    let text = both_cut _ _ c.args.bytes.now _ _ _ _ whole c.record_size.ensures (ap total_size c.fields.ensures) (omega arith) c.split_at.ensures.front c.split_at.ensures.back in
    let first = step _ (start c.args.out.now _) c.in_ok-push_record_line.ensures refl in
    as_text text (failed _ _ _ c.from_residual-in_err-push_list_of.ensures.0 first c.in_err-push_list_of.ensures (append-nil _))

pub returns-clause-appends : goal.returns-clause-appends
returns-clause-appends c =
    let whole = sym c.is_record_and_list.ensures ∙ c.if-not-is_record_and_list.false in
    let text = both_cut _ _ c.args.bytes.now _ _ _ _ whole c.record_size.ensures (ap total_size c.fields.ensures) (omega arith) c.split_at.ensures.front c.split_at.ensures.back in
    let first = step _ (start c.args.out.now _) c.in_ok-push_record_line.ensures refl in
    let second = step _ first c.in_ok-push_list_of.ensures (append-nil _) in
    as_text text (done _ second refl)
