-- Captures that differ only in the padding after an accepted frame have the same results.
use Rattle.std.proofs.Common.{◌≡◌, ℕ, ◌+◌, List, ◌++◌, take, drop, Ok, sym, ap, ◌∙◌, arith}
use Rattle.std.proofs.lemmas.List.{take-append-drop}
use Rattle.netlink_packet_core_grammar.specs.Attributes.{nla_align}
use Rattle.attribute_tables_grammar.specs.Rules.{Rule}
use Rattle.link_capture_grammar.specs.Captures.{first_frame, first_fault, texts, shifted}
use Rattle.link_capture_grammar.specs.Laws.{EqualOutsidePadding, PaddingIsIgnored}
use Rattle.link_capture_grammar.specs.Numbers.{attribute_count, frame_attribute_count, frame_count}
use Rattle.link_capture_grammar.proofs.Frames.{first_frame-more, first_frame-take, fault_step, not_cut, texts_step}
use Rattle.link_capture_grammar.proofs.Numbers.{count_step, sum_step}

module _ (r : Rule) where
  same_frame : (limit : ℕ) (c d : List ℕ) (frame : ℕ × List ℕ) → first_frame r limit c ≡ Ok frame → EqualOutsidePadding frame.0 c d → first_frame r limit d ≡ Ok frame
  same_frame limit c d frame h p =
      let same_result : first_frame r limit (take frame.0 d) ≡ Ok frame = ap (first_frame r limit) (sym p.leading) ∙ first_frame-take r limit c frame.0 frame h (omega arith) in
      ap (first_frame r limit) (sym (take-append-drop frame.0 d))
      ∙ first_frame-more r limit (take frame.0 d) (drop frame.0 d) (not_cut (first_frame r limit (take frame.0 d)) frame same_result)
      ∙ same_result

  pub padding_is_ignored : PaddingIsIgnored r
  padding_is_ignored = record {
    frame = same_frame;
    fault = λ limit c d frame h p.
        fault_step r limit d frame (same_frame limit c d frame h p)
        ∙ ap (λ x. shifted (nla_align frame.0) (first_fault r limit x)) (sym p.following)
        ∙ sym (fault_step r limit c frame h);
    texts = λ limit c d frame h p.
        texts_step r limit d frame (same_frame limit c d frame h p)
        ∙ ap (λ x. frame.1 ++ texts r limit x) (sym p.following)
        ∙ sym (texts_step r limit c frame h);
    frames = λ limit c d frame h p.
        count_step r limit d frame (same_frame limit c d frame h p)
        ∙ ap (λ x. 1 + frame_count r limit x) (sym p.following)
        ∙ sym (count_step r limit c frame h);
    attributes = λ limit c d frame h p.
        sum_step r (frame_attribute_count r) limit d frame (same_frame limit c d frame h p)
        ∙ ap (λ x. frame_attribute_count r x + attribute_count r limit (drop (nla_align frame.0) d)) (sym p.leading)
        ∙ ap (λ x. frame_attribute_count r (take frame.0 c) + attribute_count r limit x) (sym p.following)
        ∙ sym (sum_step r (frame_attribute_count r) limit c frame h);
  }
