use Rattle.std.proofs.Common.{◌≡◌, refl, ◌++◌, ◌+◌, ◌-◌, ◌<◌, length, take, drop, arith, ap, ◌∙◌, length-append, length-drop}
use Rattle.std.proofs.lemmas.Slice.{between_to_end}
use Rattle.netlink_packet_core_grammar.specs.Attributes.{nla_align, attribute_length, attribute_text, list_text}
use Rattle.netlink_packet_core_grammar.proofs.Sizes.{length-attribute_text}
use Rattle.netlink_packet_core_grammar.specs.Numbers.{u16_at}
use Rattle.netlink_packet_core_attributes.specs.Lists.{text_by}
use Rattle.netlink_packet_core_attributes.proofs.Emits.{capacity-at, emitted, text_by-more, size_by-more, length_in_header}
use Rattle.netlink_packet_core_attributes.proofs.nla_list.emit_all.Goals as goal

pub loop-item-preserved : goal.loop-item-preserved
loop-item-preserved g c =
    let v = c.item-item.result in
    let xs = c.args.items.now in
    let i = c.loop-item.item-index in
    let e = g.N.Nla.entry in
    let l : i < length xs = c.loop-item-test.true in
    let t = text_by-more e xs i v l c.item-item.is in
    let s = size_by-more e xs i v l c.item-item.is in
    let n : c.nla_align-at.result ≡ nla_align (attribute_length (e v)) = c.nla_align-at.ensures ∙ ap nla_align (c.read_u16.ensures ∙ ap (u16_at 0) c.emit.ensures ∙ length_in_header (e v) _) in
    let z : length (attribute_text (e v)) ≡ nla_align (attribute_length (e v)) = length-attribute_text (e v) in
    let w : c.emit.new.buffer ≡ attribute_text (e v) ++ drop c.nla_align-at.result (drop c.loop-item.at c.loop-item.buffer) =
    rw (n, ← between_to_end c.loop-item.buffer c.loop-item.at (length c.loop-item.buffer) (omega arith)) c.emit.ensures in
    record {
      offset = rw (s, n) (ap (λ k. k + nla_align (attribute_length (e v))) c.loop-item.invariant.offset);
      whole = rw (t, n) (omega (arith, length-append (text_by e (take i xs)) (attribute_text (e v)), z, c.loop-item.invariant.whole));
      text = rw t (emitted c.loop-item.at c.nla_align-at.result (text_by e (take i xs)) (attribute_text (e v)) c.args.buffer.now c.loop-item.buffer c.emit.new.buffer c.loop-item.invariant.whole c.loop-item.invariant.text w);
    }

pub loop-item-init : goal.loop-item-init
unfolding list_text
loop-item-init g c = record { offset = refl; whole = refl; text = refl }

pub emit-requires-clause-capacity : goal.emit-requires-clause-capacity
emit-requires-clause-capacity g c =
    let v = c.item-item.result in
    let r = capacity-at g.N.Nla.entry c.args.items.now c.loop-item.item-index v c.loop-item-test.true c.item-item.is in
    rw (between_to_end c.loop-item.buffer c.loop-item.at (length c.loop-item.buffer) (omega arith)) (omega (arith, length-drop c.loop-item.at c.loop-item.buffer))

pub read_u16-requires : goal.read_u16-requires
read_u16-requires g c =
    let e = g.N.Nla.entry c.item-item.result in
    let l = ap length c.emit.ensures ∙ length-append (attribute_text e) (drop (nla_align (attribute_length e)) (take (length c.loop-item.buffer - c.loop-item.at) (drop c.loop-item.at c.loop-item.buffer))) in
    omega (arith, l, length-attribute_text e)
