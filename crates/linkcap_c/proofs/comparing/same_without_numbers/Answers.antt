-- Captures mean the same without numbers exactly if their texts, with the numbers zeroed, are equal.
use Rattle.std.proofs.Common.{◌∙◌, sym}
use Rattle.link_capture_numbers.specs.Cleared.{numbers_cleared}
use Rattle.linkcap_c.proofs.comparing.same_without_numbers.Goals as goal

pub returns-clause-texts : goal.returns-clause-texts
returns-clause-texts c =
    let limit = c.args.limit in
    let a = c.args.first.now in
    let b = c.args.second.now in
    let small = c.ranges.limit.fits in
    let meanings = c.texts_determine_meanings.ensures in
    let cleared = c.cleared_captures_have_cleared_texts.ensures in (
      λ h. sym (cleared.texts_cleared limit a small) ∙ meanings.same_implies_equal_text limit (numbers_cleared a) (numbers_cleared b) (c.same_but_numbers.ensures.0 h) ∙ cleared.texts_cleared limit b small,
      λ e. c.same_but_numbers.ensures.1 (meanings.equal_text_implies_same limit (numbers_cleared a) (numbers_cleared b) small
          (cleared.fault limit a small ∙ c.in_default.ensures.legal) (cleared.fault limit b small ∙ c.in_default-check.ensures.legal)
          (cleared.texts_cleared limit a small ∙ e ∙ sym (cleared.texts_cleared limit b small))),
    )
