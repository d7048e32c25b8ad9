-- The laws, from those of the grammar.
use Rattle.netlink_packet_core_grammar.specs.Laws.{FirstIsViewed, WrittenIsFirst}
use Rattle.netlink_packet_core_grammar.proofs.Attributes.{first_attribute_text}
use Rattle.netlink_packet_core_grammar.proofs.FirstAttribute.{first_attribute_is, first_attribute_none}
use Rattle.netlink_packet_core_grammar.proofs.Together.{attributes_are_cut, first_is_within}
use Rattle.netlink_packet_core_attributes.specs.Laws.{WalkIsTheRelation, ListsAreWalked, OthersEndInAFault, TextsAreWalked, TextsAreReadBack, WalksAreShort, WalksUnfold}
use Rattle.netlink_packet_core_attributes.proofs.Walks as walks
use Rattle.netlink_packet_core_attributes.proofs.WalkLaws as laws_of

pub first_is_viewed : FirstIsViewed
first_is_viewed = record { whole = first_attribute_is; none = first_attribute_none }

pub written_is_first : WrittenIsFirst
written_is_first = first_attribute_text

pub relation : WalkIsTheRelation
relation = laws_of.walk_is_the_relation first_is_within

pub walked : ListsAreWalked
walked = laws_of.lists_are_walked first_is_within attributes_are_cut

pub others : OthersEndInAFault
others = laws_of.others_end_in_a_fault first_is_within attributes_are_cut

pub texts : TextsAreWalked
texts = laws_of.texts_are_walked first_is_within written_is_first

pub read_back : TextsAreReadBack
read_back = laws_of.texts_are_read_back first_is_viewed written_is_first

pub short : WalksAreShort
short = laws_of.walks_are_short first_is_within

pub steps : WalksUnfold
steps = walks.walks_unfold first_is_viewed first_is_within

-- what the laws are proved from
pub ruleset laws = (relation, walked, others, texts, read_back, short, steps)
