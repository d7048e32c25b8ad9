use Rattle.std.proofs.Common.{◌+◌, [], ◌∷◌, ◌++◌, length, ap, ◌∙◌}
use Rattle.std.specs.Prelude.{codes, ◌&&◌, true, nat_le}
use Rattle.netlink_packet_core.specs.Attributes.{attribute_text, list_text}
use Rattle.netlink_packet_core.specs.Families.{attribute}
use Rattle.netlink_packet_core.specs.Lists.{text_by, all_fit_by}
use Rattle.netlink_packet_core.specs.Numbers.{be2, le4}
use Rattle.link_info.specs.LinkInfo.{link_info_entry, link_info_fits}
use Rattle.link_info.specs.Vxlan.{vxlan_entry}
use Rattle.examples.proofs.requests.vxlan_info.Goals as goal

pub returns-clause-text : goal.returns-clause-text
returns-clause-text c =
    ap (λ vs. text_by link_info_entry vs) c.in_ok-info.ensures.items
    ∙ ap (λ vs. list_text (attribute 1 (codes "vxlan" ++ 0 ∷ []) ∷ attribute 2 (text_by vxlan_entry vs) ∷ [])) c.in_ok-settings.ensures.items

pub returns-clause-fits : goal.returns-clause-fits
unfolding list_text attribute_text le4 be2
returns-clause-fits c =
    ap (λ vs. all_fit_by link_info_entry link_info_fits vs) c.in_ok-info.ensures.items
    ∙ ap (λ vs. (nat_le (4 + length (text_by vxlan_entry vs)) 65535 && all_fit_by vxlan_entry (λ _. true) vs) && true) c.in_ok-settings.ensures.items
