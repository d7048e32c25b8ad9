use Rattle.std.proofs.Common.{◌≡◌, ◌+◌, length, Some, None, sym, ap, ◌∙◌, arith, rules, option_map}
use Rattle.std.proofs.lemmas.Bool.{le-leb, lt-leb}
use Rattle.netlink_packet_core_grammar.specs.Attributes.{Attribute, attribute_length, nla_align}
use Rattle.link_interpreter.specs.Sameness.{attribute_of}
use Rattle.link_capture_walks.specs.Listings.{listing}
use Rattle.link_capture_lists.proofs.Lookups.{shorter_rest}
use Rattle.link_capture_lists.specs.ListTables.{Listing, list_rest}
use Rattle.link_capture_lists.specs.RowRules.{following}
use Rattle.link_capture_walks.specs.Walks.{collected_inside}
use Rattle.link_capture_attributes.specs.Attributes.{Level, after, first_from, inside, list_attributes}
use Rattle.link_capture_attributes.specs.AttributeViews.{level_of}
use Rattle.link_capture_attributes.proofs.Walking.{found_after, found_inside, here, plain_after}
use Rattle.link_capture_attributes.proofs.walk.+attribute_in.Goals as goal
use Rattle.link_capture_attributes.proofs.walk.+attribute_in.Goals.{in-Some-inside+else-is_some, in_default-inside}

pub returns-then-offset-position-clause-found : goal.returns-then-offset-position-clause-found
returns-then-offset-position-clause-found t c =
    let l = c.attributes in
    ap (λ f. Some f) c.enter.ensures.here
    ∙ sym (here c.lists_unfold_by_attributes.ensures c.args.position (level_of l.level) l.offset l.rest.now (attribute_of c.in-Some.attribute) c.in-Some.after.now c.in-Some.ensures.first (le-leb c.args.position l.offset (omega (arith, c.if-offset-position.true))))
    ∙ l.invariant.so_far

pub returns-then-is_some-clause-found : goal.returns-then-is_some-clause-found
returns-then-is_some-clause-found t c =
    let l = c.attributes in
    let e : Attribute = attribute_of c.in-Some.attribute in
    let size = c.in-Some-inside.header_size in
    let below = level_of c.in-Some-inside.below in
    let entered : Some (below, size) ≡ inside (level_of l.level) e = ap (option_map (λ x. (level_of x.0, x.1))) (sym c.in-Some-inside.is) ∙ c.enter.ensures.inside in
    found_inside c.lists_unfold_by_attributes.ensures c.args.position (level_of l.level) l.offset l.rest.now e c.in-Some.after.now c.in-Some.ensures.first (lt-leb c.args.position l.offset (omega (arith, c.if-offset-position.false))) c.attribute_in-found.result
    (c.attribute_in-found.ensures.found
    ∙ ap (λ b. first_from c.args.position (list_attributes below (l.offset + 4 + size) b)) c.following.ensures
    ∙ ap (λ o. first_from c.args.position (collected_inside list_attributes (l.offset + 4) o e.payload)) entered)
    (sym c.is_some.ensures ∙ c.if-is_some.true)
    ∙ l.invariant.so_far

pub attributes-preserved : goal.attributes-preserved
attributes-preserved t c =
    let l = c.attributes in
    let rest = l.rest.now in
    let e : Attribute = attribute_of c.in-Some.attribute in
    let w = c.in-Some.ensures.within in
    let d = c.in-Some.ensures.following in
    let g = shorter_rest c.next_list-level.result.table.form c.in-Some.after.now in
    let n = ap length c.list_rest-rest.ensures in
    let size : c.nla_align.result ≡ nla_align (attribute_length e) = c.nla_align.ensures in
    let next : listing c.next_list-level.result ≡ following (listing l.level.list) e = c.next_list-level.ensures in
    let form = ap (λ (x : Listing). x.table.form) next in
    let place : Listing → Level = λ x. record { list = x; depth = l.level.depth; link_kind = (level_of l.level).link_kind } in
    let passed = lt-leb c.args.position l.offset (omega (arith, c.if-offset-position.false)) in
    let left : first_from c.args.position (list_attributes (after (level_of l.level) e) (l.offset + nla_align (attribute_length e)) (list_rest l.level.list.table.form c.in-Some.after.now)) ≡ first_from c.args.position (list_attributes (level_of l.level) l.offset rest) =
    elim c.match-inside.branch [
      | in-Some-inside+else-is_some w ↦
          let entered : Some (level_of w.in-Some-inside.below, w.in-Some-inside.header_size) ≡ inside (level_of l.level) e = ap (option_map (λ x. (level_of x.0, x.1))) (sym w.in-Some-inside.is) ∙ c.enter.ensures.inside in
          found_after c.lists_unfold_by_attributes.ensures c.args.position (level_of l.level) l.offset rest e c.in-Some.after.now c.in-Some.ensures.first passed w.attribute_in-found.result
          (w.attribute_in-found.ensures.found
          ∙ ap (λ b. first_from c.args.position (list_attributes (level_of w.in-Some-inside.below) (l.offset + 4 + w.in-Some-inside.header_size) b)) w.following.ensures
          ∙ ap (λ o. first_from c.args.position (collected_inside list_attributes (l.offset + 4) o e.payload)) entered)
          (sym w.is_some.ensures ∙ w.if-is_some.false)
      | in_default-inside w ↦
          let nothing : c.enter.result.1 ≡ None = search rules in
          plain_after c.lists_unfold_by_attributes.ensures c.args.position (level_of l.level) l.offset rest e c.in-Some.after.now c.in-Some.ensures.first passed
          (sym c.enter.ensures.inside ∙ ap (option_map (λ x. (level_of x.0, x.1))) nothing)
    ]
    in
    record {
      table = ap (λ (x : Listing). x.table) next ∙ l.invariant.table;
      judged = ap (λ (x : Listing). x.judged) next ∙ l.invariant.judged;
      depth = l.invariant.depth;
      within = omega (arith, w, d, g, n, l.invariant.within);
      near = λ h. omega (arith, h, w, d, g, n, size, l.invariant.near);
      so_far =
          ap (λ x. first_from c.args.position (list_attributes (place x) (l.offset + c.nla_align.result) c.list_rest-rest.result.now)) next
          ∙ ap (λ m. first_from c.args.position (list_attributes (after (level_of l.level) e) (l.offset + m) c.list_rest-rest.result.now)) size
          ∙ ap (λ b. first_from c.args.position (list_attributes (after (level_of l.level) e) (l.offset + nla_align (attribute_length e)) b)) (c.list_rest-rest.ensures ∙ ap (λ f. list_rest f c.in-Some.after.now) form)
          ∙ left ∙ l.invariant.so_far;
    }
