use Rattle.std.proofs.Common.{◌≡◌, ◌+◌, ◌++◌, Some, None, option_map, ap, subst, sym, ◌∙◌, length, arith, rules}
use Rattle.netlink_packet_core_grammar.specs.Attributes.{Attribute}
use Rattle.link_lines_values.proofs.Appending.{done, failed, step}
use Rattle.link_lines_raw.specs.Lines.{lines_text}
use Rattle.link_lines_raw.specs.Lists.{first_part, inside_lines, listed_lines, part_list}
use Rattle.link_lines_raw.specs.Views.{listed_of, listing}
use Rattle.link_lines_raw.proofs.Loop.{bare_text, end_text, rest_text}
use Rattle.link_lines_raw.proofs.Unfolding.{InReach, Within, part_in_reach, part_is_part, part_smaller}
use Rattle.link_lines_raw.proofs.raw.+push_listed.Goals as goal

pub push_part-requires-clause-part : goal.push_part-requires-clause-part
push_part-requires-clause-part t c =
    let m = listed_of (λ b. b.now) c.args.listed in
    part_is_part m c.loop-part.rest.now (record { kind = c.in-Some.part.kind; payload = c.in-Some.part.payload.now }) c.in-Some.after.now c.in-Some.ensures.first

pub push_listed-requires : goal.push_listed-requires
push_listed-requires t c =
    let m = listed_of (λ b. b.now) c.args.listed in
    let e : Attribute = record { kind = c.in-Some.part.kind; payload = c.in-Some.part.payload.now } in
    let s = part_smaller c.args.level m c.loop-part.rest.now e c.in-Some.after.now c.in-Some.ensures.first in
    let tells = sym c.in_ok-found.ensures.list ∙ ap (option_map (listing (λ b. b.now))) c.in-Some-found.is in
    let w = subst (Within (length c.loop-part.rest.now)) tells s.within in
    (omega (arith, w, c.loop-part.invariant.within), subst (InReach (c.args.level + 1)) tells (part_in_reach c.args.level m e c.requires))

pub loop-part-smaller-in-Continue-branch-2 : goal.loop-part-smaller-in-Continue-branch-2
loop-part-smaller-in-Continue-branch-2 t c =
    let m = listed_of (λ b. b.now) c.args.listed in
    let s = part_smaller c.args.level m c.loop-part.rest.now (record { kind = c.in-Some.part.kind; payload = c.in-Some.part.payload.now }) c.in-Some.after.now c.in-Some.ensures.first in
    s.rest_shorter

pub loop-part-smaller : goal.loop-part-smaller
loop-part-smaller t c =
    let m = listed_of (λ b. b.now) c.args.listed in
    let s = part_smaller c.args.level m c.loop-part.rest.now (record { kind = c.in-Some.part.kind; payload = c.in-Some.part.payload.now }) c.in-Some.after.now c.in-Some.ensures.first in
    s.rest_shorter

pub loop-part-preserved-in-Continue-branch-2 : goal.loop-part-preserved-in-Continue-branch-2
loop-part-preserved-in-Continue-branch-2 t c =
    let m = listed_of (λ b. b.now) c.args.listed in
    let e : Attribute = record { kind = c.in-Some.part.kind; payload = c.in-Some.part.payload.now } in
    let s = part_smaller c.args.level m c.loop-part.rest.now e c.in-Some.after.now c.in-Some.ensures.first in
    let x = listing (λ b. b.now) (c.in-Some-found.inside, c.in-Some-found.list) in
    let tells : part_list c.args.level m e ≡ Some x = sym c.in_ok-found.ensures.list ∙ ap (option_map (listing (λ b. b.now))) c.in-Some-found.is in
    let more = lines_text (listed_lines c.args.level m c.in-Some.after.now) in
    let own = step _ c.loop-part.invariant.appends c.in_ok-found.ensures.appends (sym (rest_text c.args.level m c.loop-part.rest.now e (option_map (λ b. b.now) c.in-Some.padding) c.in-Some.after.now c.in-Some.ensures.first c.in-Some.ensures.padding)) in
    record {
      within = omega (arith, s.rest_shorter, c.loop-part.invariant.within);
      appends = step _ own c.in_ok-push_listed.ensures (ap (λ o. lines_text (inside_lines (c.args.level + 1) o) ++ more) (sym tells));
    }

pub loop-part-preserved : goal.loop-part-preserved
loop-part-preserved t c =
    let m = listed_of (λ b. b.now) c.args.listed in
    let e : Attribute = record { kind = c.in-Some.part.kind; payload = c.in-Some.part.payload.now } in
    let s = part_smaller c.args.level m c.loop-part.rest.now e c.in-Some.after.now c.in-Some.ensures.first in
    let nothing : c.in_ok-found.found ≡ None = search rules in
    let tells : part_list c.args.level m e ≡ None = sym c.in_ok-found.ensures.list ∙ ap (option_map (listing (λ b. b.now))) nothing in
    record {
      within = omega (arith, s.rest_shorter, c.loop-part.invariant.within);
      appends = step _ c.loop-part.invariant.appends c.in_ok-found.ensures.appends (sym (bare_text c.args.level m c.loop-part.rest.now e (option_map (λ b. b.now) c.in-Some.padding) c.in-Some.after.now c.in-Some.ensures.first c.in-Some.ensures.padding tells));
    }

pub returns : goal.returns
returns t c =
    let m = listed_of (λ b. b.now) c.args.listed in
    let end : first_part m c.loop-part.rest.now ≡ None = search rules in
    done _ c.loop-part.invariant.appends (end_text c.args.level m c.loop-part.rest.now end)

pub returns-in_err-found : goal.returns-in_err-found
returns-in_err-found t c =
    let m = listed_of (λ b. b.now) c.args.listed in
    let e : Attribute = record { kind = c.in-Some.part.kind; payload = c.in-Some.part.payload.now } in
    failed _ _ _ c.from_residual.ensures.0 c.loop-part.invariant.appends c.in_err-found.ensures.appends (sym (rest_text c.args.level m c.loop-part.rest.now e (option_map (λ b. b.now) c.in-Some.padding) c.in-Some.after.now c.in-Some.ensures.first c.in-Some.ensures.padding))

pub returns-in_err-push_listed : goal.returns-in_err-push_listed
returns-in_err-push_listed t c =
    let m = listed_of (λ b. b.now) c.args.listed in
    let e : Attribute = record { kind = c.in-Some.part.kind; payload = c.in-Some.part.payload.now } in
    let x = listing (λ b. b.now) (c.in-Some-found.inside, c.in-Some-found.list) in
    let tells : part_list c.args.level m e ≡ Some x = sym c.in_ok-found.ensures.list ∙ ap (option_map (listing (λ b. b.now))) c.in-Some-found.is in
    let more = lines_text (listed_lines c.args.level m c.in-Some.after.now) in
    let own = step _ c.loop-part.invariant.appends c.in_ok-found.ensures.appends (sym (rest_text c.args.level m c.loop-part.rest.now e (option_map (λ b. b.now) c.in-Some.padding) c.in-Some.after.now c.in-Some.ensures.first c.in-Some.ensures.padding)) in
    failed _ _ _ c.from_residual-in_err-push_listed.ensures.0 own c.in_err-push_listed.ensures (ap (λ o. lines_text (inside_lines (c.args.level + 1) o) ++ more) (sym tells))
