-- The lemmas that the laws use.
use Rattle.link_capture_numbers.proofs.ClearedCaptures.{cleared}
use Rattle.link_lines_texts.proofs.AcceptedFrames.{accepted_canonical}
use Rattle.link_lines_texts.proofs.CapturesDetermined.{captures_determined, cleared_texts_determined, meanings_determined}
use Rattle.link_lines_texts.proofs.FrameUnfolding.{by_frames, joined}
use Rattle.link_lines_texts.proofs.FramesDetermined.{determined as frames_determined}
use Rattle.link_lines_texts.proofs.LinksDetermined.{lists_are_determined}
use Rattle.link_lines_texts.proofs.ListUnfolding.{steps}
use Rattle.link_lines_texts.proofs.ShapesDetermined.{shapes_determined}
use Rattle.link_lines_texts.proofs.ShortFrames.{lines_short}
use Rattle.link_lines_texts.proofs.SomeLines.{have_lines}
use Rattle.link_lines_texts.proofs.RowsComputed.{determined as rows_determined}

pub ruleset laws = (steps, by_frames, joined, have_lines, rows_determined, shapes_determined, lists_are_determined, frames_determined, accepted_canonical, captures_determined, cleared, cleared_texts_determined, meanings_determined, lines_short)
