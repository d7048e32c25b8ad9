-- The laws, from those of the crates below.
use Rattle.link_message_grammar.specs.Body.{link_body}
use Rattle.std.proofs.Common.{◌∙◌, ap, sym}
use Rattle.link_capture_grammar.proofs.Together.{captures_unfold_by_frames, frames_are_independent}
use Rattle.link_capture_grammar.proofs.EveryRule.{in_force}
use Rattle.link_capture_grammar.specs.Captures.{texts}
use Rattle.link_lines_texts.proofs.AcceptedFrames.{accepted_canonical}
use Rattle.link_lines_texts.proofs.CapturesDetermined.{captures_determined}
use Rattle.link_lines_texts.proofs.FrameUnfolding.{joined}
use Rattle.link_lines_texts.proofs.FramesDetermined.{determined as frames_determined}
use Rattle.link_lines_texts.specs.Captures.{text_lines}
use Rattle.link_lines.specs.Meanings.{LinesDependOnMeaning}
use Rattle.link_lines.specs.MessageLaws.{FirstFaultsAreReported, LinesDetermineContents, LinesDetermineOffsets, LinesOfMessagesAreOfTexts, MessagesUnfold}
use Rattle.link_lines.specs.Pieces.{PiecesAreJoined}
use Rattle.link_lines.proofs.ContentsDetermined.{contents_determined}
use Rattle.link_lines.proofs.Keeping.{all_kept}
use Rattle.link_lines.proofs.OffsetsDetermined.{offsets_determined}
use Rattle.link_lines.proofs.Pieces as pieces
use Rattle.link_lines.proofs.Plain as plain
use Rattle.link_lines.proofs.Reports as reports
use Rattle.link_lines.proofs.Walk as walk

pub messages_unfold : MessagesUnfold
messages_unfold = walk.messages_unfold (frames_are_independent link_body)

pub pieces_are_joined : PiecesAreJoined
pieces_are_joined = pieces.pieces_are_joined (frames_are_independent link_body) messages_unfold

pub first_faults_are_reported : FirstFaultsAreReported
first_faults_are_reported = reports.first_faults_are_reported messages_unfold

pub lines_of_messages : LinesOfMessagesAreOfTexts
lines_of_messages = plain.lines_of_messages_are_of_texts (captures_unfold_by_frames link_body) messages_unfold joined all_kept

pub lines_depend_on_meaning : LinesDependOnMeaning
lines_depend_on_meaning choice limit c small = record {
  normal = ap (text_lines choice) (in_force.texts_are_canonical limit c small);
  same = λ other h. ap (text_lines choice) (sym (in_force.texts_determine_meanings.same_implies_equal_text limit c other h));
  joined = λ h m rest. ap (text_lines choice) (in_force.joined_captures_have_joined_texts limit c rest h m) ∙ joined choice limit c (texts link_body limit rest) small;
}

pub lines_determine_contents : LinesDetermineContents
lines_determine_contents = contents_determined all_kept messages_unfold (frames_are_independent link_body) (captures_unfold_by_frames link_body) accepted_canonical frames_determined captures_determined

pub lines_determine_offsets : LinesDetermineOffsets
lines_determine_offsets = offsets_determined all_kept messages_unfold (frames_are_independent link_body) (captures_unfold_by_frames link_body) accepted_canonical frames_determined captures_determined

pub ruleset laws = (messages_unfold, pieces_are_joined, first_faults_are_reported, all_kept, lines_of_messages, lines_depend_on_meaning, lines_determine_contents, lines_determine_offsets)
