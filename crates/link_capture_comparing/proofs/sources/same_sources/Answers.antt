-- the result for the sides, or why one couldn't be read
use Rattle.std.proofs.Common.{◌∙◌, Bool, inl, sym, subst}
use Rattle.link_capture_reader.specs.States.{source_state}
use Rattle.link_capture_comparing.specs.Comparisons.{ComparesSources, FailsBy, sources_of}
use Rattle.link_capture_comparing.specs.Partings.{SidesHaveParted, PartingFails}
use Rattle.link_capture_comparing.specs.Sides.{state_of}
use Rattle.link_capture_comparing.proofs.Deciding.{first_unread, not_false}
use Rattle.link_capture_comparing.proofs.sources.same_sources.Goals as goal

pub returns-in-Ok : goal.returns-in-Ok
returns-in-Ok g c =
    let left = source_state g.S.Source.to_come g.S.Source.failures g.S.Source.ends_reported in
    let right = source_state g.T.Source.to_come g.T.Source.failures g.T.Source.ends_reported in
    let between = sources_of left right c.args.left.now c.part.new.left_source c.args.right.now c.part.new.right_source in
    let q = sources_of left right c.args.left.now c.judged.new.left_source c.args.right.now c.judged.new.right_source in
    let z = c.in-Ok.ensures.parted in
    let l = c.part.ensures.left.2 in
    let h = subst (λ n. SidesHaveParted between n (state_of c.part.new.left) (state_of c.part.new.right) z.0 z.1 c.in-Ok.is_same) (sym l) z.2 in
    subst (λ n. ComparesSources q n c.judged.result) l (c.judged.ensures between.left_before between.right_before z.0 z.1 (l ∙ sym c.part.ensures.right.2) h)

pub returns-in-Ok-read_rest : goal.returns-in-Ok-read_rest
returns-in-Ok-read_rest g c =
    let left = source_state g.S.Source.to_come g.S.Source.failures g.S.Source.ends_reported in
    let right = source_state g.T.Source.to_come g.T.Source.failures g.T.Source.ends_reported in
    let between = sources_of left right c.args.left.now c.part.new.left_source c.args.right.now c.part.new.right_source in
    let q = sources_of left right c.args.left.now c.read_rest.new.source c.args.right.now c.part.new.right_source in
    let fault = c.in-Err.unread.fault in
    let z = subst (λ (second : Bool). PartingFails between (state_of c.part.new.left) second fault) (not_false c.in-Err.unread.second c.if-not-unread.false) c.in-Err.ensures.unread in
    let y = c.in-Ok-read_rest.ensures.read between.left_before z.1.0 z.1.1 in
    (y.0, z.0.0, subst (λ (second : Bool). FailsBy q c.args.limit y.0 z.0.0 second fault) (sym (not_false c.in-Err.unread.second c.if-not-unread.false)) (y.2, inl z.0.2))

pub returns : goal.returns
returns g c =
    let left = source_state g.S.Source.to_come g.S.Source.failures g.S.Source.ends_reported in
    let right = source_state g.T.Source.to_come g.T.Source.failures g.T.Source.ends_reported in
    let between = sources_of left right c.args.left.now c.part.new.left_source c.args.right.now c.part.new.right_source in
    let q = sources_of left right c.args.left.now c.read_rest.new.source c.args.right.now c.part.new.right_source in
    let z = subst (λ (second : Bool). PartingFails between (state_of c.part.new.left) second c.in-Err.unread.fault) (not_false c.in-Err.unread.second c.if-not-unread.false) c.in-Err.ensures.unread in
    let y = c.in-Err-read_rest.ensures.read between.left_before z.1.0 z.1.1 in
    first_unread q c.args.limit y.0 z.0.0 c.of_first.result c.in-Err-read_rest.fault c.of_first.ensures y.2 z.0.2.bytes
