-- the side has stopped, and the source is read to its end
use Rattle.std.proofs.Common.{◌≡◌, ◌∙◌, true, None, is_some, refl, sym, subst}
use Rattle.link_capture_comparing.specs.Sides.{HasJudged, state_of}
use Rattle.link_capture_comparing.proofs.Finding.{finish_stopped, stopped_some, none_if, extends_refl}
use Rattle.link_capture_comparing.proofs.side.Side.judge_rest.Goals as goal

pub returns-then-is_some-clause-judged : goal.returns-then-is_some-clause-judged
returns-then-is_some-clause-judged g c = λ initial s h w.
    let r = state_of c.args.self.now in
    let e : is_some c.args.self.now.fault ≡ true = sym c.is_some.ensures ∙ c.if-is_some.true in
    finish_stopped c.faults_of_a_prefix_stay.ensures initial _ r.ended r r.limit s s c.read_rest.result c.read_rest.new.self.fault refl c.read_rest.ensures.fault (stopped_some r.fault r s e w) (extends_refl r.ended s) (λ k. k) (c.read_rest.ensures.read initial s h)

pub returns-clause-judged : goal.returns-clause-judged
returns-clause-judged g c = λ initial s h w.
    let r = state_of c.args.self.now in
    let none : r.fault ≡ None = none_if r.fault (sym c.is_some.ensures ∙ c.if-is_some.false) in
    let z = c.in_ok-judge_frames.ensures.judged initial s h (subst (λ f. HasJudged f r s) none w) in
    finish_stopped c.faults_of_a_prefix_stay.ensures initial _ r.ended (state_of c.judge_frames.new.self) r.limit s z.0 c.read_rest-2.result c.read_rest-2.new.self.fault c.judge_frames.ensures.limit c.read_rest-2.ensures.fault z.3 z.1 c.judge_frames.ensures.ended (c.read_rest-2.ensures.read initial z.0 z.2)
