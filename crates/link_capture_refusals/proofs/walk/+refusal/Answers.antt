use Rattle.std.proofs.Common.{◌≡◌, ◌+◌, length, Some, sym, ap, ◌∙◌, arith}
use Rattle.netlink_packet_core_grammar.specs.Attributes.{Attribute, attribute_length, nla_align}
use Rattle.link_capture_walks.specs.Listings.{listing}
use Rattle.link_capture_lists.specs.ListTables.{Listing, list_rest}
use Rattle.link_capture_lists.specs.RowRules.{following}
use Rattle.link_capture_refusals.specs.Refusals.{found_at, list_refusal}
use Rattle.link_interpreter.proofs.Loop.{some_bytes}
use Rattle.link_interpreter.specs.Sameness.{attribute_of}
use Rattle.link_capture_refusals.proofs.Continuing.{here, passed, stopped}
use Rattle.link_capture_lists.proofs.Lookups.{shorter_rest}
use Rattle.link_capture_refusals.proofs.walk.+refusal.Goals as goal

pub list_refusal-returns-in_default-clause-found : goal.list_refusal-returns-in_default-clause-found
list_refusal-returns-in_default-clause-found t c =
    let l = c.loop-list in
    let rest = l.rest.now in
    ap (λ f. Some f) c.at.ensures.found ∙ ap (λ r. Some (found_at l.offset r)) c.no_attribute.ensures
    ∙ sym (stopped c.lists_unfold_by_attributes.ensures (listing l.list) l.offset rest (some_bytes rest _ c.loop-list-test.true c.is_empty.ensures) c.in_default.ensures.first)
    ∙ l.invariant.so_far

pub list_refusal-returns-then-is_some-clause-found : goal.list_refusal-returns-then-is_some-clause-found
list_refusal-returns-then-is_some-clause-found t c =
    let l = c.loop-list in
    let rest = l.rest.now in
    here c.lists_unfold_by_attributes.ensures (listing l.list) l.offset rest (attribute_of c.in-Some.attribute) c.in-Some.after.now c.attribute_refusal-found.result
    (some_bytes rest _ c.loop-list-test.true c.is_empty.ensures) c.in-Some.ensures.first c.attribute_refusal-found.ensures.found (sym c.is_some.ensures ∙ c.if-is_some.true)
    ∙ l.invariant.so_far

pub list_refusal-loop-list-smaller : goal.list_refusal-loop-list-smaller
list_refusal-loop-list-smaller t c =
    omega (arith, c.in-Some.ensures.within, c.in-Some.ensures.following, shorter_rest c.next_list-list.result.table.form c.in-Some.after.now, ap length c.list_rest-rest.ensures)

pub list_refusal-loop-list-preserved : goal.list_refusal-loop-list-preserved
list_refusal-loop-list-preserved t c =
    let l = c.loop-list in
    let rest = l.rest.now in
    let e : Attribute = attribute_of c.in-Some.attribute in
    let w = c.in-Some.ensures.within in
    let d = c.in-Some.ensures.following in
    let g = shorter_rest c.next_list-list.result.table.form c.in-Some.after.now in
    let n = ap length c.list_rest-rest.ensures in
    let size : c.nla_align.result ≡ nla_align (attribute_length e) = c.nla_align.ensures in
    let some = some_bytes rest _ c.loop-list-test.true c.is_empty.ensures in
    let near = l.invariant.near some in
    let next : listing c.next_list-list.result ≡ following (listing l.list) e = c.next_list-list.ensures in
    let form = ap (λ (x : Listing). x.table.form) next in
    record {
      table = ap (λ (x : Listing). x.table) next ∙ l.invariant.table;
      judged = ap (λ (x : Listing). x.judged) next ∙ l.invariant.judged;
      within = omega (arith, w, d, g, n);
      near = λ h. omega (arith, w, d, g, n, size, near);
      so_far =
          ap (λ x. list_refusal x (l.offset + c.nla_align.result) c.list_rest-rest.result.now) next
          ∙ ap (λ m. list_refusal (following (listing l.list) e) (l.offset + m) c.list_rest-rest.result.now) size
          ∙ ap (list_refusal (following (listing l.list) e) (l.offset + nla_align (attribute_length e))) (c.list_rest-rest.ensures ∙ ap (λ f. list_rest f c.in-Some.after.now) form)
          ∙ passed c.lists_unfold_by_attributes.ensures (listing l.list) l.offset rest e c.in-Some.after.now c.attribute_refusal-found.result some c.in-Some.ensures.first c.attribute_refusal-found.ensures.found (sym c.is_some.ensures ∙ c.if-is_some.false)
          ∙ l.invariant.so_far;
    }
