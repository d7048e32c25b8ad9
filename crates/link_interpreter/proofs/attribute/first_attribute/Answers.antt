use Rattle.std.specs.Prelude.{min}
use Rattle.std.proofs.Common.{◌≡◌, length, drop, ap, ◌∙◌, arith, rules}
use Rattle.std.proofs.lemmas.List.{drop_min, take_rest}
use Rattle.netlink_packet_core_grammar.specs.Attributes.{nla_align}
use Rattle.netlink_packet_core_grammar.proofs.FirstAttribute.{length_at, length_sum}
use Rattle.link_interpreter.proofs.CanonicalParts.{viewed_at}
use Rattle.link_interpreter.proofs.attribute.first_attribute.Goals as goal
use Rattle.link_interpreter.proofs.attribute.first_attribute.Goals.{then-size-lt4-via-then-size-lt4, then-size-lt4-via-else-size-lt4+then-size-bytes}

pub returns-then-bytes-lt4-clause-first : goal.returns-then-bytes-lt4-clause-first
returns-then-bytes-lt4-clause-first c = c.first_attributes_are_viewed.ensures.none c.args.bytes.now (λ h. let l = h.has_header in absurd (omega (arith, l)))

pub returns-then-size-lt4-clause-first : goal.returns-then-size-lt4-clause-first
returns-then-size-lt4-clause-first c =
    let bytes = c.args.bytes.now in
    let e = length_sum bytes in
    elim c.then-size-lt4.branch [
      | then-size-lt4-via-then-size-lt4 w ↦ c.first_attributes_are_viewed.ensures.none bytes (λ h. let l = h.covers_header in absurd (omega (arith, l, e)))
      | then-size-lt4-via-else-size-lt4+then-size-bytes w ↦ c.first_attributes_are_viewed.ensures.none bytes (λ h. let l = h.within in absurd (omega (arith, l, e)))
    ]

pub returns : goal.returns
returns c =
    let bytes = c.args.bytes.now in
    let e = length_sum bytes in
    let m : c.min.result ≡ min (nla_align (length_at bytes)) (length bytes) = search rules in
    let first =
    viewed_at bytes _ (take_rest bytes c.min.result ∙ ap (λ k. drop k bytes) m ∙ drop_min (nla_align (length_at bytes)) bytes) _
    (c.first_attributes_are_viewed.ensures.whole bytes (record { has_header = omega arith; covers_header = omega (arith, e); within = omega (arith, e) })) in
    record {
      first = first;
      within = c.first_attributes_are_within.ensures.within bytes _ _ first;
      short = let low = c.type_inv.bytes 0 in let high = c.type_inv.bytes 1 in omega (arith, low, high);
      following = c.first_attributes_are_within.ensures.rest_length bytes _ _ first;
    }
