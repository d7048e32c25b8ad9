-- Each table is computed.
use Rattle.std.specs.Prelude.{◌≡◌, true, refl}
use Rattle.link_lines_json.specs.Names.{bytes_names, number_list_names}
use Rattle.link_lines_parts.specs.Names.{header_names, is_among}
use Rattle.link_lines_raw.specs.declared.bodies.Header.{Header}
use Rattle.link_lines_raw.specs.declared.bodies.Header.TheVariants as H
use Rattle.link_lines_raw.specs.Bodies.{header_line}
use Rattle.link_lines_raw.specs.Tables as raw
use Rattle.link_lines_texts.specs.AttributeNames as links
use Rattle.linkcap_tests.proofs.lines.laws.values_are_known_by_name.Goals as goal

is_header : (header : Header) → is_among header_names (header_line header).0 ≡ true
unfolding header_names header_line
is_header H.Timestamp = refl
is_header H.Ifaddrmsg = refl
is_header H.Rtmsg = refl
is_header H.Ndmsg = refl
is_header H.FibRuleHdr = refl
is_header H.Tcmsg = refl
is_header H.TcmsgFilter = refl
is_header H.Tcamsg = refl
is_header H.Prefixmsg = refl
is_header H.Ndtmsg = refl
is_header H.Ifaddrlblmsg = refl
is_header H.Netconfmsg = refl
is_header H.BrPortMsg = refl
is_header H.Rtgen = refl
is_header H.Rtgenmsg = refl
is_header H.Ifinfomsg = refl
is_header H.IfStatsMsg = refl
is_header H.Nhmsg = refl
is_header H.BrVlanMsg = refl
is_header H.TunnelMsg = refl

pub returns : goal.returns
unfolding bytes_names number_list_names raw.link_rows raw.kind_rows raw.bridge_rows raw.cfm_rows raw.route_rows raw.neighbour_rows raw.traffic_rows raw.multicast_rows raw.option_rows links.nested_names links.link_names links.family_names links.link_rows links.info_attribute_names links.data_names
returns c = record {
  raw_bytes = refl;
  raw_numbers = refl;
  link_bytes = refl;
  link_numbers = refl;
  headers = is_header;
}
