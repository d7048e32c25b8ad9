-- The message that is read back is written as the body that it was read from.
use Rattle.std.proofs.Common.{◌≡◌, ◌+◌, ◌≤◌, ◌^◌, length, IfOk, sym, subst, ◌∙◌, arith}
use Rattle.link_capture.specs.Routes.{route_entry}
use Rattle.examples.proofs.LegalRequests.{read_back}
use Rattle.examples.proofs.RequestFrames.{ok_normal, only_memory, short_body}
use Rattle.examples.specs.Requests.{new_link_text, request_text, vxlan_body}
use Rattle.examples.proofs.requests.vxlan_request.Goals as goal

pub returns-in-Ok-deserialize-clause-ok : goal.returns-in-Ok-deserialize-clause-ok
returns-in-Ok-deserialize-clause-ok c =
    let a = c.args in
    let canonical = c.vxlans_are_legal.ensures.canonical c.if-name-gt-LONGEST_NAME.false in
    let entry = read_back (vxlan_body a.name.now a.vni a.mtu) c.as_slice.result.now (route_entry c.in-Ok-deserialize.link) (c.as_slice.ensures.value ∙ c.in-Ok.ensures) canonical c.in-Ok-deserialize.ensures.ok in
    subst (λ y. IfOk c.request.result (λ bytes. bytes.items ≡ request_text 0x605 a.sequence_number y)) entry c.request.ensures.ok

pub returns-in-Ok-deserialize-clause-normal : goal.returns-in-Ok-deserialize-clause-normal
returns-in-Ok-deserialize-clause-normal c =
    let a = c.args in
    let b = vxlan_body a.name.now a.vni a.mtu in
    let canonical = c.vxlans_are_legal.ensures.canonical c.if-name-gt-LONGEST_NAME.false in
    let entry = read_back b c.as_slice.result.now (route_entry c.in-Ok-deserialize.link) (c.as_slice.ensures.value ∙ c.in-Ok.ensures) canonical c.in-Ok-deserialize.ensures.ok in
    let ok = subst (λ y. IfOk c.request.result (λ bytes. bytes.items ≡ request_text 0x605 a.sequence_number y)) entry c.request.ensures.ok in
    ok_normal c.request.result (λ bytes. bytes.items) (new_link_text a.sequence_number b) (16 + length b) ok
    (λ large. c.request.ensures.too_long.1 (subst (λ y. 2 ^ 32 ≤ 16 + length y.1) (sym entry) large))
    (λ small limit within. c.new_links_are_normal.ensures.normal a.sequence_number limit b canonical c.vxlans_are_legal.ensures.aligned small within)

pub returns-in-Ok-deserialize-clause-err : goal.returns-in-Ok-deserialize-clause-err
returns-in-Ok-deserialize-clause-err c =
    let a = c.args in
    let b = vxlan_body a.name.now a.vni a.mtu in
    let short = c.if-name-gt-LONGEST_NAME.false in
    let canonical = c.vxlans_are_legal.ensures.canonical short in
    let entry = read_back b c.as_slice.result.now (route_entry c.in-Ok-deserialize.link) (c.as_slice.ensures.value ∙ c.in-Ok.ensures) canonical c.in-Ok-deserialize.ensures.ok in
    only_memory c.request.result (λ e. let large = subst (λ y. 2 ^ 32 ≤ 16 + length y.1) entry (c.request.ensures.too_long.0 e) in omega (arith, large, short_body a.name.now a.vni a.mtu short)) c.request.ensures.err
