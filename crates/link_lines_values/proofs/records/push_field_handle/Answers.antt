use Rattle.std.proofs.Common.{◌≡◌, ◌/◌, ◌%◌, ◌∷◌, ◌∙◌, false, append_assoc, refl, sym}
use Rattle.std.specs.Fmt.{digits}
use Rattle.link_lines_values.specs.Names.{bracketed, text_in, texts_of}
use Rattle.link_lines_values.specs.Records.{handle_or_hex, handle_text}
use Rattle.link_lines_values.proofs.Appending.{added, as_text, last, start, step}
use Rattle.link_lines_values.proofs.records.push_field_handle.Goals as goal

pub returns-in_ok-push_hex_digits-in-Some-2 : goal.returns-in_ok-push_hex_digits-in-Some-2
returns-in_ok-push_hex_digits-in-Some-2 c =
    let texts = texts_of (λ b. b.now) c.args.texts.now in
    let handle = c.in-Some.handle in
    let text : handle_text texts handle ≡ handle_or_hex texts c.args.handle c.args.part.now = rw (c.in-Some.is, c.if-part-eq4.true) refl in
    let parts = append_assoc (digits 16 false (handle / 65536)) (58 ∷ digits 16 false (handle % 65536)) (bracketed (text_in texts handle)) in
    let first = step _ (start c.args.out.now _) c.in_ok-push_hex_digits-in-Some.ensures refl in
    let e = c.in_ok-push-in-Some.ensures in
    let second = added c.push.new.self _ _ first e.items e.capacity refl in
    let third = step _ second (c.in_ok-push_hex_digits-in-Some-2).ensures refl in
    as_text (sym parts ∙ text) (last c.push_bracketed_name.result third c.push_bracketed_name.ensures)
