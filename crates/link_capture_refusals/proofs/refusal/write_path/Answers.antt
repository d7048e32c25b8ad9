use Rattle.std.proofs.Common.{refl, true}
use Rattle.std.proofs.Output.{has_written_styled_append}
use Rattle.link_capture_refusals.proofs.PathTexts.{more}
use Rattle.link_capture_refusals.proofs.refusal.write_path.Goals as goal

pub names-preserved : goal.names-preserved
names-preserved g c = record {
  so_far = λ flush.
      let before = c.names.invariant.so_far flush in
      let first = c.in_ok-write_str.ensures.styled before.1.flush (refl {a = true}) in
      let second = c.in_ok-write_str-2.ensures.styled first.flush (refl {a = true}) in
      (_, has_written_styled_append _ _ _ _ _ _ before.1 (has_written_styled_append _ _ _ _ _ _ first second), more before.0 _ _ _ _ c.in-len1-up.len_at_least c.separator_after_name.ensures before.2);
}
