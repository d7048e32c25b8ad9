-- the verdicts of both sides
use Rattle.std.proofs.Common.{◌∙◌, None, sym, subst}
use Rattle.link_capture_reader.specs.States.{source_state}
use Rattle.link_capture_comparing.specs.Comparisons.{Sources, IsFaultOf}
use Rattle.link_capture_comparing.specs.Sides.{HasVerdict}
use Rattle.link_capture_comparing.proofs.Deciding.{first_unread, first_faulty, second_unread, second_faulty}
use Rattle.link_capture_comparing.proofs.sources.judged.Goals as goal

pub returns-in-Err : goal.returns-in-Err
returns-in-Err g c = λ from to a b l h.
    let z = c.in-Err.ensures.judged from a h.left h.left_judged in
    let q : Sources = record {
      left_before = from;
      left_after = source_state g.S.Source.to_come g.S.Source.failures g.S.Source.ends_reported c.judge_rest.new.source;
      right_before = to;
      right_after = source_state g.T.Source.to_come g.T.Source.failures g.T.Source.ends_reported c.args.right_source.now;
    } in
    first_unread q c.args.left.now.limit z.0 b c.of_first.result c.in-Err.fault c.of_first.ensures z.2 h.right.bytes

pub returns-in-Ok : goal.returns-in-Ok
returns-in-Ok g c = λ from to a b l h.
    let z = c.in_default.ensures.judged from a h.left h.left_judged in
    let y = c.in-Ok.ensures.read to b h.right in
    let v = subst (λ f. HasVerdict f c.args.left.now.limit z.0) (sym c.fault.ensures ∙ c.in-Some.is) z.3 in
    first_faulty _ c.args.left.now.limit z.0 y.0 c.of_first-in-Ok.result c.in-Some.fault c.of_first-in-Ok.ensures z.2 y.2 v

pub returns-in-Err-read_rest : goal.returns-in-Err-read_rest
returns-in-Err-read_rest g c = λ from to a b l h.
    let z = c.in_default.ensures.judged from a h.left h.left_judged in
    let y = c.in-Err-read_rest.ensures.read to b h.right in
    second_unread _ c.args.left.now.limit z.0 y.0 c.of_second.result c.in-Err-read_rest.fault c.of_second.ensures z.2 y.2

pub returns-in-Err-judge_rest : goal.returns-in-Err-judge_rest
returns-in-Err-judge_rest g c = λ from to a b l h.
    let z = c.in_default.ensures.judged from a h.left h.left_judged in
    let y = c.in-Err-judge_rest.ensures.judged to b h.right h.right_judged in
    second_unread _ c.args.left.now.limit z.0 y.0 c.of_second-in-Err-judge_rest.result c.in-Err-judge_rest.fault c.of_second-in-Err-judge_rest.ensures z.2 y.2

pub returns-in-Some-fault : goal.returns-in-Some-fault
returns-in-Some-fault g c = λ from to a b l h.
    let z = c.in_default.ensures.judged from a h.left h.left_judged in
    let y = c.in_default-judge_rest.ensures.judged to b h.right h.right_judged in
    let legal = subst (λ f. HasVerdict f c.args.left.now.limit z.0) (sym c.fault.ensures ∙ c.in_default-fault.is) z.3 in
    let v = subst (λ f. HasVerdict f c.args.right.now.limit y.0) (sym c.fault-2.ensures ∙ c.in-Some-fault.is) y.3 in
    second_faulty _ c.args.left.now.limit z.0 y.0 c.of_second-in-Some-fault.result c.in-Some-fault.fault c.of_second-in-Some-fault.ensures z.2 y.2 legal
    (subst (λ n. IsFaultOf n y.0 c.in-Some-fault.fault) (sym l) v)

pub returns-in-None : goal.returns-in-None
returns-in-None g c = λ from to a b l h.
    let z = c.in_default.ensures.judged from a h.left h.left_judged in
    let y = c.in_default-judge_rest.ensures.judged to b h.right h.right_judged in
    let left_none = sym c.fault.ensures ∙ c.in_default-fault.is in
    let right_none = sym c.fault-2.ensures ∙ c.in-None.is in
    let left_legal = subst (λ f. HasVerdict f c.args.left.now.limit z.0) left_none z.3 in
    let right_legal = subst (λ n. HasVerdict None n y.0) (sym l) (subst (λ f. HasVerdict f c.args.right.now.limit y.0) right_none y.3) in
    (z.0, y.0, (z.2, y.2, left_legal, right_legal, h.decided (c.judge_rest.ensures.kept left_none) (c.judge_rest-2.ensures.kept right_none) z.0 y.0 z.1 y.1 left_legal right_legal))
