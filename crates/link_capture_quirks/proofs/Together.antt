-- What the laws are proved from.
use Rattle.link_capture_quirks.proofs.Captures.{attributes, by_lists, texts_have_no_quirk}
use Rattle.link_capture_quirks.proofs.CaptureSteps.{steps}

pub ruleset laws = (by_lists, steps, attributes, texts_have_no_quirk)
