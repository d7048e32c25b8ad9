use Rattle.std.proofs.Common.{◌≡◌, refl, sym, ◌∙◌, ◌++◌, ◌+◌, ◌<◌, ◌≤◌, length, take, drop, arith, ap, [], append-nil, length-append, length-drop, rules}
use Rattle.std.proofs.lemmas.Slice.{between_to_end}
use Rattle.std.proofs.lemmas.List.{take_all, drop_all}
use Rattle.std.proofs.lemmas.Bool.{and_parts, leb-true}
use Rattle.netlink_packet_core_grammar.specs.Attributes.{nla_align, attribute_length, attribute_text, list_text}
use Rattle.netlink_packet_core_grammar.proofs.Sizes.{length-attribute_text}
use Rattle.netlink_packet_core_attributes.specs.Lists.{text_by, size_by}
use Rattle.netlink_packet_core_attributes.proofs.Headers.{header_and_payload}
use Rattle.netlink_packet_core_attributes.proofs.Emits.{fits-at, capacity-at, emitted, text_by-more, size_by-more}
use Rattle.attribute_tables.proofs.Lists.{length-text_by}
use Rattle.link_info_devices.specs.MacVlan.{mac_vlan_entry, mac_vlan_fits}
use Rattle.link_info_devices.specs.declared.mac_vlan.InfoMacVlan.{the_lemmas}
use Rattle.link_info_devices.proofs.Rows.{addresses}
use Rattle.link_info_devices.proofs.mac_vlan.InfoMacVlanNla.+texts.Goals as goal

pub emit_value-loop-inner-init : goal.emit_value-loop-inner-init
unfolding list_text
emit_value-loop-inner-init t c = record { offset = refl; whole = refl; text = refl }

pub emit_value-emit-requires : goal.emit_value-emit-requires
emit_value-emit-requires t c =
    let v = c.inner-item.result in
    let xs = c.deref-inner-items.result.now in
    let i = c.loop-inner.inner-index in
    let a = addresses c.args.self.now c.in-MacAddrData.list xs c.in-MacAddrData.is c.deref-inner-items.ensures.value in
    let f = fits-at mac_vlan_entry mac_vlan_fits xs i v c.loop-inner-test.true c.inner-item.is (sym a.fits ∙ c.requires.fits) in
    let r = capacity-at mac_vlan_entry xs i v c.loop-inner-test.true c.inner-item.is in
    let p = c.loop-inner.invariant.offset in
    let b = c.loop-inner.auto.buffer in
    let m : length c.args.buffer.now ≡ size_by mac_vlan_entry xs = c.requires.capacity ∙ ap length a.payload ∙ length-text_by mac_vlan_entry xs in
    let n : nla_align (attribute_length (mac_vlan_entry v)) ≤ length (drop c.loop-inner.at c.loop-inner.buffer) = omega (arith, length-drop c.loop-inner.at c.loop-inner.buffer) in
    (search (rules, the_lemmas), (f, rw (between_to_end c.loop-inner.buffer c.loop-inner.at (length c.loop-inner.buffer) (omega arith)) n))

pub emit_value-overflow_add-at : goal.emit_value-overflow_add-at
emit_value-overflow_add-at t c =
    let v = c.inner-item.result in
    let xs = c.deref-inner-items.result.now in
    let a = addresses c.args.self.now c.in-MacAddrData.list xs c.in-MacAddrData.is c.deref-inner-items.ensures.value in
    let r = capacity-at mac_vlan_entry xs c.loop-inner.inner-index v c.loop-inner-test.true c.inner-item.is in
    let p = c.loop-inner.invariant.offset in
    let m : length c.args.buffer.now ≡ size_by mac_vlan_entry xs = c.requires.capacity ∙ ap length a.payload ∙ length-text_by mac_vlan_entry xs in
    let b = c.loop-inner.auto.buffer in
    omega (arith, c.buffer_len-at.ensures)

pub emit_value-loop-inner-preserved : goal.emit_value-loop-inner-preserved
emit_value-loop-inner-preserved t c =
    let v = c.inner-item.result in
    let xs = c.deref-inner-items.result.now in
    let i = c.loop-inner.inner-index in
    let e = mac_vlan_entry in
    let l : i < length xs = c.loop-inner-test.true in
    let a = addresses c.args.self.now c.in-MacAddrData.list xs c.in-MacAddrData.is c.deref-inner-items.ensures.value in
    let s = text_by-more e xs i v l c.inner-item.is in
    let m = size_by-more e xs i v l c.inner-item.is in
    let f : attribute_length (e v) ≤ 65535 = leb-true (attribute_length (e v)) 65535 (and_parts _ _ (fits-at e mac_vlan_fits xs i v l c.inner-item.is (sym a.fits ∙ c.requires.fits))).0 in
    let n : c.buffer_len-at.result ≡ nla_align (attribute_length (e v)) = rw c.buffer_len-at.ensures (omega arith) in
    let z : length (attribute_text (e v)) ≡ nla_align (attribute_length (e v)) = length-attribute_text (e v) in
    let w : c.emit.new.buffer ≡ attribute_text (e v) ++ drop c.buffer_len-at.result (drop c.loop-inner.at c.loop-inner.buffer) =
    rw (n, ← between_to_end c.loop-inner.buffer c.loop-inner.at (length c.loop-inner.buffer) (omega arith)) c.emit.ensures in
    record {
      offset = rw (m, n) (ap (λ k. k + nla_align (attribute_length (e v))) c.loop-inner.invariant.offset);
      whole = rw (s, n) (omega (arith, length-append (text_by e (take i xs)) (attribute_text (e v)), z, c.loop-inner.invariant.whole));
      text = rw s (emitted c.loop-inner.at c.buffer_len-at.result (text_by e (take i xs)) (attribute_text (e v)) c.args.buffer.now c.loop-inner.buffer c.emit.new.buffer c.loop-inner.invariant.whole c.loop-inner.invariant.text w);
    }

pub emit_value-returns-after-loop-inner : goal.emit_value-returns-after-loop-inner
emit_value-returns-after-loop-inner t c =
    let xs = c.deref-inner-items.result.now in
    let a = addresses c.args.self.now c.in-MacAddrData.list xs c.in-MacAddrData.is c.deref-inner-items.ensures.value in
    let m : length c.args.buffer.now ≡ size_by mac_vlan_entry xs = c.requires.capacity ∙ ap length a.payload ∙ length-text_by mac_vlan_entry xs in
    let h : take c.loop-inner.inner-index xs ≡ xs = take_all c.loop-inner.inner-index xs c.loop-inner-test.false in
    let p : c.loop-inner.at ≡ size_by mac_vlan_entry xs = rw h at c.loop-inner.invariant.offset in
    let d : drop c.loop-inner.at c.args.buffer.now ≡ [] = drop_all c.loop-inner.at c.args.buffer.now (omega arith) in
    let k : c.loop-inner.buffer ≡ text_by mac_vlan_entry xs ++ [] = rw (h, d) at c.loop-inner.invariant.text in
    k ∙ append-nil (text_by mac_vlan_entry xs) ∙ sym a.payload

pub emit-returns : goal.emit-returns
emit-returns t c =
    let e = mac_vlan_entry c.args.self.now in
    let fits = leb-true (attribute_length e) 65535 (and_parts _ _ c.requires.fits).0 in
    header_and_payload e c.kind.result c.value_len-size.result c.args.buffer.now c.emit_header.new.buffer c.emit_value.new.buffer fits c.requires.capacity c.kind.ensures c.value_len-size.ensures c.emit_header.ensures c.emit_value.ensures
