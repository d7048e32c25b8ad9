use Rattle.std.proofs.Common.{◌≡◌, None, inr, drop, refl, sym, ap, subst, ◌∙◌, rules}
use Rattle.std.proofs.lemmas.List.{take_rest}
use Rattle.netlink_packet_core_grammar.specs.Frames.{BeginsWithFrame, frame_type}
use Rattle.link_capture_attributes.specs.Attributes.{first_from, frame_attributes}
use Rattle.link_capture_attributes.specs.AttributeViews.{optional_found, found}
use Rattle.link_capture_grammar.specs.Captures.{first_frame}
use Rattle.linkcap_c.specs.Messages.{IsMessage}
use Rattle.link_capture_grammar.specs.Body.{link_body}
use Rattle.linkcap_c.proofs.AttributeBytes.{next_attribute}
use Rattle.linkcap_c.proofs.attributes.linkcap_next_attribute.Goals as goal

pub returns-in-Some-attribute_from-clause-legal : goal.returns-in-Some-attribute_from-clause-legal
returns-in-Some-attribute_from-clause-legal c = λ _.
    let m = c.in_default-measure_frame.ensures.ok in
    let rest = drop c.args.message c.args.capture.now in
    let is = ap (first_frame link_body c.in-Some.limit) (sym (take_rest c.args.capture.now c.args.message)) ∙ m.is in
    (c.in_default-measure_frame.field-0.len, frame_type rest, subst (λ limit. IsMessage limit rest c.in_default-measure_frame.field-0.len (frame_type rest)) c.in-Some.ensures.limit.0 (m.text, is, refl))

pub returns-in-Some-attribute_from-clause-attribute : goal.returns-in-Some-attribute_from-clause-attribute
returns-in-Some-attribute_from-clause-attribute c = λ _.
    let m = c.in_default-measure_frame.ensures.ok in
    let rest = take_rest c.args.capture.now c.args.message in
    next_attribute c.attributes_are_where_they_say.ensures c.args.capture.now c.args.message c.args.position (found c.in-Some-attribute_from.found) c.attribute_of.result
    (subst BeginsWithFrame rest m.whole)
    (ap (λ x. first_from c.args.position (frame_attributes c.args.message x)) (sym rest) ∙ sym c.in-Some-attribute_from.ensures.found)
    c.attribute_of.ensures

pub returns-in-None-clause-none : goal.returns-in-None-clause-none
returns-in-None-clause-none c = λ _.
    let m = c.in_default-measure_frame.ensures.ok in
    let rest = drop c.args.message c.args.capture.now in
    let e = take_rest c.args.capture.now c.args.message in
    let is = ap (first_frame link_body c.in-Some.limit) (sym e) ∙ m.is in
    let nothing : c.attribute_from.result ≡ None = search rules in
    inr (record {
      size = c.in_default-measure_frame.field-0.len;
      kind = frame_type rest;
      legal = subst (λ limit. IsMessage limit rest c.in_default-measure_frame.field-0.len (frame_type rest)) c.in-Some.ensures.limit.0 (m.text, is, refl);
      none = ap (λ x. first_from c.args.position (frame_attributes c.args.message x)) (sym e) ∙ sym c.attribute_from.ensures.found ∙ ap optional_found nothing;
    })
