use Rattle.std.proofs.Common.{◌≡◌, ◌++◌, codes, drop, ap, ◌∙◌, refl}
use Rattle.std.proofs.lemmas.List.{take_rest}
use Rattle.std.specs.Net.Addr.{segments_of}
use Rattle.std.specs.Net.Text.{ipv4_text, ipv6_text}
use Rattle.link_lines_values.specs.Exact.{via_text}
use Rattle.link_lines_values.proofs.Appending.{added, as_text, last, start}
use Rattle.link_lines_values.proofs.exact.push_via.Goals as goal

pub returns-in_ok-extend_from_slice-in-6 : goal.returns-in_ok-extend_from_slice-in-6
returns-in_ok-extend_from_slice-in-6 c =
    let p = c.args.payload.now in
    let whole : codes " family=2 (AF_INET) addr=" ++ ipv4_text (drop 2 p) ≡ via_text p = rw c.in-6.is refl in
    let text = ap (λ z. codes " family=2 (AF_INET) addr=" ++ ipv4_text z) (take_rest p 2) ∙ whole in
    let e = c.in_ok-extend_from_slice-in-6.ensures in
    as_text text (last c.push_ipv4.result (added c.extend_from_slice.new.self _ _ (start c.args.out.now _) e.items e.capacity refl) c.push_ipv4.ensures)

pub returns-in_ok-extend_from_slice-in-18 : goal.returns-in_ok-extend_from_slice-in-18
returns-in_ok-extend_from_slice-in-18 c =
    let p = c.args.payload.now in
    let whole : codes " family=10 (AF_INET6) addr=" ++ ipv6_text (segments_of (drop 2 p)) ≡ via_text p = rw c.in-18.is refl in
    let text = ap (λ z. codes " family=10 (AF_INET6) addr=" ++ ipv6_text (segments_of z)) (take_rest p 2) ∙ whole in
    let e = c.in_ok-extend_from_slice-in-18.ensures in
    as_text text (last c.push_ipv6.result (added c.extend_from_slice-in-18.new.self _ _ (start c.args.out.now _) e.items e.capacity refl) c.push_ipv6.ensures)
