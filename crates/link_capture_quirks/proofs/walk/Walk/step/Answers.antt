use Rattle.std.proofs.Common.{option_map, ◌≡◌, ◌+◌, ◌++◌, ◌∷◌, [], length, None, sym, ap, subst, ◌∙◌, refl, arith, rules, length-drop, length-append}
use Rattle.netlink_packet_core_grammar.specs.Attributes.{Attribute}
use Rattle.link_capture_quirks.specs.declared.walk.Level.{Level}
use Rattle.link_capture_walks.specs.Listings.{listing}
use Rattle.link_capture_quirks.specs.QuirkLists.{quirks_at, list_quirks}
use Rattle.link_capture_quirks.specs.QuirkWalks.{AreWithin, walk_quirks, weight}
use Rattle.link_capture_quirks.proofs.Stacks.{within-leading, within-last}
use Rattle.link_capture_quirks.proofs.Continuing.{Next, Inner, Found, within-next, less-next, within-inside, less-inside, quirks-next, quirks-inside, quirks-end, less-end}
use Rattle.link_capture_quirks.proofs.walk.Walk.step.Goals as goal

pub returns-in_default : goal.returns-in_default
returns-in_default c =
    let ls = c.args.self.now.levels.items in
    record { within = within-leading 0 ls c.args.level c.requires; quirks_left = quirks-end c.lists_unfold_by_attributes.ensures ls c.args.level c.in_default.ensures.first; less = less-end ls c.args.level }

pub overflow_add-level : goal.overflow_add-level
overflow_add-level c =
    let near = (within-last 0 c.args.self.now.levels.items c.args.level c.requires).near (omega (arith, c.in-Some.ensures.within)) in
    omega (arith, near, c.in-Some.ensures.within)

pub push-requires : goal.push-requires
push-requires c = (omega arith, omega (arith, (within-last 0 c.args.self.now.levels.items c.args.level c.requires).depth_fits))

pub overflow_add-level-in-Some-inside : goal.overflow_add-level-in-Some-inside
overflow_add-level-in-Some-inside c =
    let near = (within-last 0 c.args.self.now.levels.items c.args.level c.requires).near (omega (arith, c.in-Some.ensures.within)) in
    omega (arith, near)

pub overflow_add-level-in-Some-inside-2 : goal.overflow_add-level-in-Some-inside-2
overflow_add-level-in-Some-inside-2 c =
    let near = (within-last 0 c.args.self.now.levels.items c.args.level c.requires).near (omega (arith, c.in-Some.ensures.within)) in
    omega (arith, near, c.in-Some.ensures.within, c.in-Some-inside.ensures.header_size)

pub push-requires-in-Some-inside : goal.push-requires-in-Some-inside
push-requires-in-Some-inside c =
    let size = ap length c.push.ensures.items ∙ length-append c.args.self.now.levels.items _ in
    (omega arith, omega (arith, (within-last 0 c.args.self.now.levels.items c.args.level c.requires).depth_fits, c.in-Some-inside.ensures.lower, size))

pub returns-in-Some-inside : goal.returns-in-Some-inside
returns-in-Some-inside c =
    let ls = c.args.self.now.levels.items in
    let l = c.args.level in
    let e : Attribute = record { kind = c.in-Some.attribute.kind; payload = c.in-Some.attribute.payload.now } in
    let m : Level = record { list = c.next_list.result; offset = l.offset + c.nla_align.result; rest = c.in-Some.after } in
    let n : Next l m e = record {
      first = c.in-Some.ensures.first;
      within = c.in-Some.ensures.within;
      left = c.in-Some.ensures.following;
      list = c.next_list.ensures.next;
      deep = c.next_list.ensures.as_deep;
      offset = ap (λ k. l.offset + k) c.nla_align.ensures;
    } in
    let header_size = c.in-Some-inside.header_size in
    let k : Level = record { list = c.in-Some-inside.list; offset = l.offset + 4 + header_size; rest = c.following.result } in
    let i : Inner l k e header_size = record {
      list = sym c.in-Some-inside.ensures.inside;
      deep = c.in-Some-inside.ensures.lower;
      offset = refl;
      inside = c.in-Some-inside.ensures.header_size;
      size = ap length c.following.ensures ∙ length-drop header_size e.payload;
      quirks_left = ap (λ b. list_quirks (listing k.list) k.offset b) c.following.ensures;
    } in
    let f : Found l e c.quirk_at-self.result c.quirk_at-self-2.result = record {
      bit = c.quirk_at-self.ensures ∙ ap (quirks_at l.offset) c.attribute_quirks-nested.ensures.bit;
      payload = c.quirk_at-self-2.ensures ∙ ap (quirks_at l.offset) c.attribute_quirks-nested.ensures.payload;
    } in
    let items = c.push-in-Some-inside.ensures.items ∙ ap (λ z. z ++ k ∷ []) c.push.ensures.items in
    record {
      within = subst (AreWithin 0) (sym items) (within-inside ls l m e c.requires n k header_size i);
      quirks_left = ap (walk_quirks c.quirk_at-self.result c.quirk_at-self-2.result) items ∙ quirks-inside c.lists_unfold_by_attributes.ensures ls l m e n c.quirk_at-self.result c.quirk_at-self-2.result f k header_size i;
      less = omega (arith, less-inside ls l m e c.requires n k header_size i, ap weight items);
    }

pub returns-in_default-inside : goal.returns-in_default-inside
returns-in_default-inside c =
    let ls = c.args.self.now.levels.items in
    let l = c.args.level in
    let e : Attribute = record { kind = c.in-Some.attribute.kind; payload = c.in-Some.attribute.payload.now } in
    let m : Level = record { list = c.next_list.result; offset = l.offset + c.nla_align.result; rest = c.in-Some.after } in
    let n : Next l m e = record {
      first = c.in-Some.ensures.first;
      within = c.in-Some.ensures.within;
      left = c.in-Some.ensures.following;
      list = c.next_list.ensures.next;
      deep = c.next_list.ensures.as_deep;
      offset = ap (λ k. l.offset + k) c.nla_align.ensures;
    } in
    let f : Found l e c.quirk_at-self.result c.quirk_at-self-2.result = record {
      bit = c.quirk_at-self.ensures ∙ ap (quirks_at l.offset) c.attribute_quirks-nested.ensures.bit;
      payload = c.quirk_at-self-2.ensures ∙ ap (quirks_at l.offset) c.attribute_quirks-nested.ensures.payload;
    } in
    let nothing : c.inside.result ≡ None = search rules in
    record {
      within = subst (AreWithin 0) (sym c.push.ensures.items) (within-next ls l m e c.requires n);
      quirks_left = ap (walk_quirks c.quirk_at-self.result c.quirk_at-self-2.result) c.push.ensures.items
          ∙ quirks-next c.lists_unfold_by_attributes.ensures ls l m e n c.quirk_at-self.result c.quirk_at-self-2.result f (sym c.inside.ensures.inside ∙ ap (option_map (λ x. (listing x.0, x.1))) nothing);
      less = omega (arith, less-next ls l m e c.requires n, ap weight c.push.ensures.items);
    }
