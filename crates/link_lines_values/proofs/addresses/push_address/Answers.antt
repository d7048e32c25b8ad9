use Rattle.std.proofs.Common.{◌≡◌, ◌∷◌, refl}
use Rattle.std.specs.Net.Addr.{segments_of}
use Rattle.std.specs.Net.Text.{ipv4_text, ipv6_text}
use Rattle.link_lines_values.specs.Bytes.{address_text}
use Rattle.link_lines_values.proofs.Appending.{added, as_text, last, start}
use Rattle.link_lines_values.proofs.addresses.push_address.Goals as goal

pub returns-in_ok-push-in-4 : goal.returns-in_ok-push-in-4
returns-in_ok-push-in-4 c =
    let text : 32 ∷ ipv4_text c.args.bytes.now ≡ address_text c.args.bytes.now = rw c.in-4.is refl in
    let e = c.in_ok-push-in-4.ensures in
    as_text text (last c.push_ipv4.result (added c.push.new.self _ _ (start c.args.out.now _) e.items e.capacity refl) c.push_ipv4.ensures)

pub returns-in_ok-push-in-16 : goal.returns-in_ok-push-in-16
returns-in_ok-push-in-16 c =
    let text : 32 ∷ ipv6_text (segments_of c.args.bytes.now) ≡ address_text c.args.bytes.now = rw c.in-16.is refl in
    let e = c.in_ok-push-in-16.ensures in
    as_text text (last c.push_ipv6.result (added c.push-in-16.new.self _ _ (start c.args.out.now _) e.items e.capacity refl) c.push_ipv6.ensures)
