-- The laws that need more than one lemma.
use Rattle.std.proofs.Common.{◌≡◌, ℕ, ◌%◌, List, ◌++◌, length, Option, Some, None, refl, sym, ◌∙◌}
use Rattle.std.specs.Prelude.{option_map}
use Rattle.netlink_packet_core_grammar.specs.Attributes.{Attribute, IsAttributeList, attributes_of}
use Rattle.netlink_packet_core_grammar.specs.Laws.{SplittingIsTheRelation, JoinedListsAreSplit, FirstIsWithin}
use Rattle.netlink_packet_core_grammar.proofs.Attributes.{one_cut, sized, attributes_cut, cut_attributes, first_attribute_text, attributes_of_text, IsAttributeList-joined, IsAttributeList-rest}
use Rattle.netlink_packet_core_grammar.proofs.FirstAttribute.{first_attribute_is, first_attribute_none}
use Rattle.netlink_packet_core_grammar.proofs.Numbers.{u16_at-append, u32_at-append}
use Rattle.netlink_packet_core_grammar.proofs.Sizes.{length-list_text}

pub attributes_are_cut : SplittingIsTheRelation
attributes_are_cut bytes es = (attributes_cut bytes es, cut_attributes bytes es)

none_joined : (a b : List ℕ) (es : List Attribute) → length a % 4 ≡ 0 → IsAttributeList a es → attributes_of b ≡ None → (o : Option (List Attribute)) → attributes_of (a ++ b) ≡ o → o ≡ None
none_joined a b es four h n None e = refl
none_joined a b es four h n (Some gs) e =
    let r = IsAttributeList-rest a b es gs four h (attributes_cut (a ++ b) gs e) in
    let k : Some r.0 ≡ None = sym (cut_attributes b r.0 r.2) ∙ n in
    absurd cc

joined_by : (a b : List ℕ) (es : List Attribute) → length a % 4 ≡ 0 → IsAttributeList a es → (o : Option (List Attribute)) → attributes_of b ≡ o → attributes_of (a ++ b) ≡ option_map (λ fs. es ++ fs) o
joined_by a b es four h None e = none_joined a b es four h e (attributes_of (a ++ b)) refl
joined_by a b es four h (Some fs) e = cut_attributes (a ++ b) (es ++ fs) (IsAttributeList-joined a b es fs four h (attributes_cut b fs e))

pub joined : JoinedListsAreSplit
joined a b es four h = joined_by a b es four (attributes_cut a es h) (attributes_of b) refl

pub first_is_within : FirstIsWithin
first_is_within = record { within = λ bytes e rest h. (sized bytes e rest h).within; rest_length = λ bytes e rest h. (sized bytes e rest h).rest_length }

-- what the laws are proved from
pub ruleset laws = (one_cut, attributes_are_cut, joined, attributes_of_text, length-list_text, first_attribute_is, first_attribute_none, first_is_within, first_attribute_text, u16_at-append, u32_at-append)
