-- The messages that frames are read as.
use Rattle.std.specs.Prelude.{◌≡◌, ℕ, List, Ok, Some}
use Rattle.netlink_packet_core.specs.Frames.{frame_type, frame_body, frame_text}
use Rattle.netlink_packet_core.specs.Messages.{message_text, message_value, read_message, finalized, unpadded_text}
use Rattle.netlink_packet_core.specs.NetlinkMessage.{NetlinkMessage}
use Rattle.link_capture_grammar.specs.Bodies.{body_text}
use Rattle.link_capture_grammar.specs.Captures.{first_frame}
use Rattle.link_capture.specs.declared.route.RouteLink.{RouteLink}
use Rattle.link_capture.specs.Routes.{route_entry, reads_route}
use Rattle.link_message_grammar.specs.Body.{link_body}

-- The first frame is accepted, n is its length, and m is its message: m is what the core reads from the bytes, and once
-- m is finalized, it is written as the frame's text without its padding.
pub record IsFirstMessage (limit : ℕ) (c : List ℕ) (n : ℕ) (m : NetlinkMessage RouteLink) : Type 0 where
  pub body : List ℕ
  pub judged : body_text link_body (frame_type c) (frame_body c) ≡ Ok body
  pub is : first_frame link_body limit c ≡ Ok (n, frame_text c body)
  pub read : read_message reads_route c ≡ Some (message_value route_entry m)
  pub text : message_text route_entry (finalized route_entry m) ≡ unpadded_text c body
