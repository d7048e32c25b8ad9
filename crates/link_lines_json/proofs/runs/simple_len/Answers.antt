use Rattle.std.proofs.Common.{◌-◌, ◌∙◌, drop, length, arith}
use Rattle.std.proofs.lemmas.List.{length-drop}
use Rattle.std.proofs.lemmas.List.Sums.{prefix_len-le-length}
use Rattle.link_lines_json.specs.Runs.{is_simple}
use Rattle.link_lines_json.proofs.SimpleRuns.{run_cut, run_dropped}
use Rattle.link_lines_json.proofs.runs.simple_len.Goals as goal

pub returns-then-run-lt-LANES : goal.returns-then-run-lt-LANES
returns-then-run-lt-LANES c =
    let at = c.loop-at.at in
    let text = c.args.text.now in
    omega (arith, run_dropped is_simple at text c.loop-at.invariant, c.simple_run-run.ensures ∙ run_cut is_simple 8 (drop at text), c.if-run-lt-LANES.true)

pub loop-at-preserved : goal.loop-at-preserved
loop-at-preserved c =
    let at = c.loop-at.at in
    let text = c.args.text.now in
    omega (arith, run_dropped is_simple at text c.loop-at.invariant, c.simple_run-run.ensures ∙ run_cut is_simple 8 (drop at text), c.if-run-lt-LANES.false)

pub returns : goal.returns
returns c =
    let text = c.args.text.now in
    let last = length text - 8 in
    let left = prefix_len-le-length is_simple (drop last text) in
    omega (arith, run_dropped is_simple last text (omega (arith, c.loop-at.invariant, c.loop-at-test.false)), c.simple_run.ensures ∙ run_cut is_simple 8 (drop last text), left, length-drop last text, c.if-text-lt-LANES.false)
