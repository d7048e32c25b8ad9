use Rattle.std.proofs.Common.{◌≡◌, ◌++◌, IfOk, sym, ap, subst, ◌∙◌, append_assoc}
use Rattle.netlink_packet_core.specs.Attributes.{attribute_text}
use Rattle.netlink_packet_core.specs.Families.{attribute}
use Rattle.netlink_packet_core.specs.Lists.{text_by}
use Rattle.netlink_packet_core.specs.Numbers.{le4}
use Rattle.link_message.specs.Body.{link_body}
use Rattle.link_message.specs.Headers.{link_header_bytes}
use Rattle.link_message.specs.LinkAttributes.{link_attribute_entry}
use Rattle.examples.proofs.MessageTexts.{text-more}
use Rattle.examples.proofs.link_messages.with_mtu.Goals as goal

pub returns-clause-text : goal.returns-clause-text
returns-clause-text c =
    let m = c.in_ok-message.message in
    let h = link_header_bytes m.header in
    let a = attribute_text (attribute 4 (le4 c.args.mtu)) in
    let t : h ++ text_by link_attribute_entry c.push.new.self.items ≡ link_body.canonical c.args.body.now ++ a =
    ap (λ vs. h ++ text_by link_attribute_entry vs) c.in_ok-push.ensures.items
    ∙ ap (λ x. h ++ x) (text-more link_attribute_entry m.attributes.items _)
    ∙ sym (append_assoc h (text_by link_attribute_entry m.attributes.items) a)
    ∙ ap (λ x. x ++ a) c.in_ok-message.ensures.text in
    subst (λ x. IfOk c.written.result (λ bytes. bytes.items ≡ x)) t c.written.ensures
