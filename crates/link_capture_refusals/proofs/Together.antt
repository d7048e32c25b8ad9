-- The laws, from those of the crates below.
use Rattle.netlink_packet_core_grammar.proofs.Together.{first_is_within}
use Rattle.attribute_tables_grammar.proofs.MeasureSteps.{measures_unfold, measures_determine_rules}
use Rattle.link_message_grammar.specs.Body.{link_body}
use Rattle.link_capture_grammar.proofs.Together.{captures_unfold_by_frames}
use Rattle.link_capture_lists.proofs.Together.{links_are_tables, rows_are_the_tables}
use Rattle.link_capture_refusals.specs.RefusalLaws.{LinksAreAccepted, ListsAreAccepted, ListsUnfoldByAttributes, RefusedBodiesHaveRefusals, RefusedFramesAreWhole}
use Rattle.link_capture_refusals.proofs.Accepted as accepted
use Rattle.link_capture_refusals.proofs.Captures as captures
use Rattle.link_capture_refusals.proofs.Independent.{independent}
use Rattle.link_capture_refusals.proofs.ListUnfolding.{steps}

pub lists : ListsUnfoldByAttributes
lists = steps first_is_within

pub lists_are_accepted : ListsAreAccepted
lists_are_accepted = accepted.lists lists first_is_within measures_unfold measures_determine_rules rows_are_the_tables

pub links_are_accepted : LinksAreAccepted
links_are_accepted = accepted.links lists first_is_within measures_unfold measures_determine_rules rows_are_the_tables links_are_tables

pub refused_frames_are_whole : RefusedFramesAreWhole
refused_frames_are_whole = captures.frames (captures_unfold_by_frames link_body)

pub refused_bodies_have_refusals : RefusedBodiesHaveRefusals
refused_bodies_have_refusals = captures.refused_body_has_refusal (captures_unfold_by_frames link_body) lists first_is_within links_are_accepted

pub ruleset laws = (lists, lists_are_accepted, links_are_accepted, refused_frames_are_whole, refused_bodies_have_refusals, independent)
