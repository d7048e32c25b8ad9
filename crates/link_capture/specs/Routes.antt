-- Messages of captures: their types and bodies, how these are read, and why a body is refused.
use Rattle.std.specs.Prelude.{◌≡◌, ◌&&◌, ◌||◌, nat_lt, ℕ, List, length, Bool, true, false, Option, Some, None, Result}
use Rattle.std.specs.Prelude.{Ok, Err, is_ok}
use Rattle.netlink_packet_core.specs.TypedBodies.{TypedBody}
use Rattle.link_capture_grammar.specs.Bodies.{body_text, is_link_type}
use Rattle.link_capture.specs.declared.fault.RouteFault.{RouteFault}
use Rattle.link_capture.specs.declared.route.RouteLink.{RouteLink}
use Rattle.link_capture.specs.Views.{other_type, other_bytes, readable_text}
use Rattle.link_message_grammar.specs.Body.{link_body}
use Rattle.link_capture_grammar.specs.declared.fault.FaultKind.{FaultKind}
use Rattle.link_capture_grammar.specs.declared.fault.FaultKind.TheVariants.{Refused, EmptyPorts, Unfit}

-- The error, unless it is out of memory, is the reason why the body has no text.
abbrev pub ReasonOf : RouteFault → Result (List ℕ) FaultKind → Type 0
ReasonOf RouteFault.Refused outcome = outcome ≡ Err Refused
ReasonOf RouteFault.EmptyPorts outcome = outcome ≡ Err EmptyPorts
ReasonOf RouteFault.Unfit outcome = outcome ≡ Err Unfit
ReasonOf RouteFault.Memory outcome = Unit {0}

-- The error, unless it is out of memory, is the reason why the body of type t has no text.
abbrev pub RouteReason : RouteFault → ℕ → List ℕ → Type 0
RouteReason fault t b = ReasonOf fault (body_text link_body t b)

-- The error is out of memory.
abbrev pub route_ran_out_of_memory : RouteFault → Bool
route_ran_out_of_memory RouteFault.Memory = true
route_ran_out_of_memory _ = false

-- Reading a body of type t may run out of memory: it has a text, and is a link's or has bytes.
abbrev pub route_may_run_out_of_memory : ℕ → List ℕ → Bool
route_may_run_out_of_memory t b = is_ok (body_text link_body t b) && (is_link_type t || nat_lt 0 (length b))

-- The type of a message, and the bytes of its body.
abbrev pub route_entry : RouteLink → TypedBody
route_entry (RouteLink.NewLink link) = (16, readable_text link)
route_entry (RouteLink.DelLink link) = (17, readable_text link)
route_entry (RouteLink.GetLink link) = (18, readable_text link)
route_entry (RouteLink.SetLink link) = (19, readable_text link)
route_entry (RouteLink.Other message) = (other_type message, other_bytes message)

-- The type with the text, if there is one.
abbrev pub typed_text : ℕ → Result (List ℕ) FaultKind → Option TypedBody
typed_text t (Ok text) = Some (t, text)
typed_text t (Err why) = None

-- The type and canonical text of the message that a body of type t is read as.
abbrev pub reads_route : ℕ → List ℕ → Option TypedBody
reads_route t b = typed_text t (body_text link_body t b)
