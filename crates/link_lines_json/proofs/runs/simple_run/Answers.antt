use Rattle.std.proofs.Common.{ℕ, bit_or, cond, leb, refl, w8}
use Rattle.std.proofs.lemmas.Simd.{chunk-fits, length-chunk, splat_is_map, zip2_of_maps, zip2_splat}
use lib.Lanes.{chunk}
use Rattle.link_lines_json.specs.Runs.{is_simple}
use Rattle.link_lines_json.proofs.SimpleRuns.{run_of_load}
use Rattle.link_lines_json.proofs.runs.simple_run.Goals as goal

pub returns : goal.returns
returns c =
    let v = chunk c.args.at 8 c.args.text.now in
    let long = length-chunk c.args.at 8 c.args.text.now c.requires in
    let fits = chunk-fits w8 c.args.at 8 c.args.text.now c.type_inv.text in
    let outside = zip2_of_maps (λ a b. cond (leb a b) 255 0) _ _ v (splat_is_map v 8 86 long) (zip2_splat {Y = ℕ} _ v 8 41 long) in
    let others = zip2_of_maps bit_or _ _ v (zip2_of_maps bit_or _ _ v outside (zip2_splat {Y = ℕ} _ v 8 61 long)) (zip2_splat {Y = ℕ} _ v 8 92 long) in
    run_of_load is_simple _ v _ _ long fits others c.first_set.ensures refl
