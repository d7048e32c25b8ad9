-- The laws of captures under every lawful rule of link bodies, and so under the one in force.
use Rattle.std.proofs.Common.{length, sym, ◌∙◌}
use Rattle.std.specs.Prelude.{nat_le}
use Rattle.std.proofs.lemmas.Bool.{leb-true, and_parts}
use Rattle.attribute_tables_grammar.specs.Peers.{bytes_peer}
use Rattle.attribute_tables_grammar.specs.Rules.{Lawful}
use Rattle.link_message_grammar.specs.Body.{body_rule, link_body, link_peer}
use Rattle.link_message_grammar.proofs.Body.{body_lawful, link_peer_lawful, old_bodies_are_migrated}
use Rattle.link_message_grammar.proofs.Parts.{bodies_are_headers_and_attributes}
use Rattle.link_capture_grammar.specs.Laws.{CaptureLaws, CaptureLawsHoldUnderEveryRule, OldCapturesAreMigrated, SamenessUnfoldsByFrames, NeedsHeaders}
use Rattle.link_capture_grammar.proofs.Frames.{joined_fault, joined_texts, fault_more}
use Rattle.link_capture_grammar.proofs.Together.{texts_are_legal, texts_are_canonical, texts_are_migrated, body_texts_are_canonical, joined_legal, prefix_texts, texts_are_small, faults_are_inside, frames_are_independent, captures_unfold_by_frames}
use Rattle.link_capture_grammar.proofs.Same.{texts_mean_the_same, same_are_legal}
use Rattle.link_capture_grammar.proofs.Meanings.{texts_determine_meanings, bodies_determine_meanings}
use Rattle.link_capture_grammar.proofs.Keeping.{texts_keep_frames}
use Rattle.link_capture_grammar.proofs.Judging.{frames_are_judged}
use Rattle.link_capture_grammar.proofs.Numbers.{captures_are_counted}
use Rattle.link_capture_grammar.proofs.Padding.{padding_is_ignored}
use Rattle.link_capture_grammar.proofs.SameFrames.{sameness_unfolds_by_frames}
use Rattle.link_capture_grammar.proofs.SmallFrames.{small_frames_fit}
use Rattle.link_capture_grammar.proofs.Unlisted.{unlisted_attributes_are_kept}

pub every_rule : CaptureLawsHoldUnderEveryRule
every_rule r lawful = record {
  texts_are_legal = texts_are_legal r lawful;
  texts_are_canonical = texts_are_canonical r lawful;
  joined_captures_have_the_faults_of_the_second = joined_fault r;
  joined_captures_are_legal = joined_legal r;
  joined_captures_have_joined_texts = joined_texts r;
  faults_of_a_prefix_stay = fault_more r;
  texts_of_a_prefix_stay = prefix_texts r;
  texts_are_small = texts_are_small r lawful;
  faults_are_at_frames = faults_are_inside r;
  body_texts_are_canonical = body_texts_are_canonical r lawful;
  texts_mean_the_same = texts_mean_the_same r lawful;
  same_captures_are_legal = same_are_legal r;
  texts_determine_meanings = texts_determine_meanings r lawful;
  body_texts_determine_meanings = bodies_determine_meanings r lawful;
  texts_keep_frames = texts_keep_frames r;
  frames_are_independent = frames_are_independent r;
  captures_unfold_by_frames = captures_unfold_by_frames r;
  frames_are_judged = frames_are_judged r;
  captures_are_counted = captures_are_counted r lawful;
  padding_is_ignored = padding_is_ignored r;
  sameness_unfolds_by_frames = sameness_unfolds_by_frames r lawful;
}

-- ---- the rule in force

link_body_lawful : Lawful link_body
link_body_lawful = body_lawful link_peer link_peer_lawful

link_bodies_need_headers : NeedsHeaders link_body
link_bodies_need_headers b a = leb-true 16 (length b) (and_parts (nat_le 16 (length b)) _ (sym (bodies_are_headers_and_attributes link_peer b).accepted ∙ a)).0

pub in_force : CaptureLaws link_body
in_force = every_rule link_body link_body_lawful

pub sameness_in_force : SamenessUnfoldsByFrames link_body
sameness_in_force = in_force.sameness_unfolds_by_frames link_bodies_need_headers

-- texts that were written while peers were kept as bytes
pub old_captures_are_migrated : OldCapturesAreMigrated
old_captures_are_migrated = record {
  in_force = texts_are_migrated (body_rule bytes_peer) link_body (old_bodies_are_migrated link_peer);
  under_every_rule = texts_are_migrated;
}

-- the results from which the laws are proved
pub ruleset laws = (in_force, sameness_in_force, old_captures_are_migrated, small_frames_fit, unlisted_attributes_are_kept)
