use Rattle.std.proofs.Common.{◌≡◌, cond, Some, None, sym, ap, ◌∙◌, rules}
use Rattle.netlink_packet_core_grammar.specs.Attributes.{Attribute, first_attribute}
use Rattle.link_lines_raw.specs.Choices.{payload_after}
use Rattle.link_lines_raw.proofs.Chosen.{first_payload, no_payload}
use Rattle.link_lines_raw.proofs.choices.payload_of.Goals as goal

pub returns-then-is_of_kind : goal.returns-then-is_of_kind
returns-then-is_of_kind c =
    let e : Attribute = record { kind = c.in-Some.attribute.kind; payload = c.in-Some.attribute.payload.now } in
    let more = payload_after c.args.kind 0 c.in-Some.after.now in
    sym (first_payload c.args.kind c.loop-attribute.rest.now e c.in-Some.after.now c.in-Some.ensures.first ∙ ap (λ b. cond b (Some e.payload) more) (sym c.is_of_kind.ensures ∙ c.if-is_of_kind.true))
    ∙ c.loop-attribute.invariant

pub loop-attribute-preserved : goal.loop-attribute-preserved
loop-attribute-preserved c =
    let e : Attribute = record { kind = c.in-Some.attribute.kind; payload = c.in-Some.attribute.payload.now } in
    let more = payload_after c.args.kind 0 c.in-Some.after.now in
    sym (first_payload c.args.kind c.loop-attribute.rest.now e c.in-Some.after.now c.in-Some.ensures.first ∙ ap (λ b. cond b (Some e.payload) more) (sym c.is_of_kind.ensures ∙ c.if-is_of_kind.false))
    ∙ c.loop-attribute.invariant

pub returns : goal.returns
returns c =
    let none : first_attribute c.loop-attribute.rest.now ≡ None = search rules in
    sym (no_payload c.args.kind c.loop-attribute.rest.now none) ∙ c.loop-attribute.invariant
