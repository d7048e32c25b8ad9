-- The bytes that a message is written as are read as the message.
use Rattle.std.proofs.Common.{◌≡◌, ◌<◌, ℕ, Bool, List, length, Ok, Some, refl, ap, arith}
use Rattle.std.specs.Prelude.{◌||◌, false, true, is_ok, nat_eq, nat_lt}
use Rattle.std.proofs.lemmas.Bool.{and_from, lt-ltb}
use Rattle.std.proofs.lemmas.Bool.Decides.{nat_tests}
use Rattle.netlink_packet_core.specs.TypedBodies.{IsInner}
use Rattle.link_capture_grammar.specs.Bodies.{is_link_type, body_text}
use Rattle.link_capture.specs.declared.route.RouteLink.{RouteLink}
use Rattle.link_capture.specs.KeptTypes.{IsOtherType}
use Rattle.link_capture.specs.Routes.{route_entry, route_may_run_out_of_memory, typed_text, reads_route}
use Rattle.link_message_grammar.specs.Body.{link_body}

-- The type of a message whose body is kept, as the tests of `body_text` see it.
record NotListed (t : ℕ) : Type 0 where
  noop : nat_eq t 1 ≡ false
  error : nat_eq t 2 ≡ false
  done : nat_eq t 3 ≡ false
  link : is_link_type t ≡ false

-- Types of messages whose bodies are kept have this property.
not_listed : (t : ℕ) → IsOtherType t → NotListed t
not_listed t k =
    let a = k.no_control in
    let b = k.no_link in
    record {
      noop = grind (arith, nat_tests);
      error = grind (arith, nat_tests);
      done = grind (arith, nat_tests);
      link =
          grind (arith, nat_tests);
    }

-- The body of a message of another type is kept.
pub other_text : (t : ℕ) (b : List ℕ) → IsOtherType t → body_text link_body t b ≡ Ok b
unfolding body_text
other_text t b k = let n = not_listed t k in rw (n.noop, n.error, n.done, n.link) refl

-- A disjunction with a true second part is true.
with_bytes : (a b : Bool) → b ≡ true → (a || b) ≡ true
with_bytes true b h = refl
with_bytes false b h = h

-- Reading a message of another type may run out of memory if its body has bytes.
pub other_needs_memory : (t : ℕ) (b : List ℕ) → IsOtherType t → 0 < length b → route_may_run_out_of_memory t b ≡ true
other_needs_memory t b k l =
    and_from (is_ok (body_text link_body t b)) _ (ap is_ok (other_text t b k))
    (with_bytes (is_link_type t) (nat_lt 0 (length b)) (lt-ltb 0 (length b) l))

-- A message is read from its type and body.
pub round_trip : (x : RouteLink) → reads_route (route_entry x).0 (route_entry x).1 ≡ Some (route_entry x)
unfolding body_text
round_trip (RouteLink.NewLink link) = ap (typed_text 16) link.readable.text
round_trip (RouteLink.DelLink link) = ap (typed_text 17) link.readable.text
round_trip (RouteLink.GetLink link) = ap (typed_text 18) link.readable.text
round_trip (RouteLink.SetLink link) = ap (typed_text 19) link.readable.text
round_trip (RouteLink.Other message) =
    ap (typed_text message.message_type) (other_text message.message_type message.bytes message.kept)

-- Messages of links and others aren't control messages.
pub route_inner : (x : RouteLink) → IsInner (route_entry x).0
route_inner (RouteLink.NewLink link) h = omega arith
route_inner (RouteLink.DelLink link) h = omega arith
route_inner (RouteLink.GetLink link) h = omega arith
route_inner (RouteLink.SetLink link) h = omega arith
route_inner (RouteLink.Other message) h = message.kept.no_control h
