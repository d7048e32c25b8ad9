-- Messages of captures with equal types and equal body texts are equal.
use Rattle.std.proofs.Common.{◌≡◌, ℕ, ◌≤◌, List, Bool, true, false, Some, refl, sym, ap, ◌∙◌, subst, arith}
use Rattle.std.specs.Prelude.{◌&&◌, bytes_eq}
use Rattle.std.proofs.lemmas.Bool.{and_parts, and_from, eq-eqb}
use Rattle.std.proofs.lemmas.Grind.{not_there}
use lib.Pointwise.{bytes_decides}
use Rattle.link_message.specs.declared.message.LinkMessage.{LinkMessage}
use Rattle.link_message.specs.LinkMessages.{link_message_text, link_message_fits}
use Rattle.link_message.specs.contracts.message.LinkMessageEq.TheImpl.Laws.{laws-law}
use Rattle.link_message.proofs.Messages.{messages_injective}
use Rattle.link_capture.specs.KeptTypes.{IsOtherType}
use Rattle.link_capture.specs.Readable.{IsReadFrom, IsReadable, equal_messages, is_read_back_as}
use Rattle.link_capture.specs.RoundTrips.{round_trip}
use Rattle.link_capture.specs.Routes.{route_entry}
use Rattle.netlink_packet_core.specs.TypedBodies.{TypedBody}
use Rattle.link_capture.specs.EqualRoutes.{EqualEntriesMeanEqualRoutes, RoutesReadBackEqual}
use Rattle.link_capture.specs.declared.route.RouteLink.{RouteLink}
use Rattle.link_capture.specs.contracts.route.RouteLinkPartialEq.TheImpl as route_equality
use Rattle.link_capture.proofs.Exact.{one_message, differ}

equal_of : (m n : LinkMessage) → is_read_back_as m n ≡ true → equal_messages n m ≡ true
equal_of m n h = (and_parts (equal_messages n m) (link_message_fits n && bytes_eq (link_message_text n) (link_message_text m)) h).0

stable : (b : Bool) → (b ≡ false → ⊥) → b ≡ true
stable true h = refl
stable false h = absurd (h refl)

-- two readable messages with the same text are equal
pub equal_texts_mean_equal : (m k : LinkMessage) → IsReadable m → IsReadable k → link_message_text m ≡ link_message_text k → equal_messages m k ≡ true
equal_texts_mean_equal m k p q e =
    stable (equal_messages m k) (λ f. not_there p.read_back (λ x. not_there q.read_back (λ y.
    let between = one_message messages_injective (link_message_text m) x.0 y.0 x.1 (subst (λ t. IsReadFrom t y.0) (sym e) y.1) in
    differ _ (sym (laws-law.congr x.0 m k (equal_of m x.0 x.2)) ∙ laws-law.congr x.0 y.0 k between ∙ equal_of k y.0 y.2) f)))

number : RouteLink → ℕ
number (RouteLink.NewLink x) = 16
number (RouteLink.DelLink x) = 17
number (RouteLink.GetLink x) = 18
number (RouteLink.SetLink x) = 19
number (RouteLink.Other x) = x.message_type

type_is : (x : RouteLink) → number x ≡ (route_entry x).0
unfolding number
type_is (RouteLink.NewLink x) = refl
type_is (RouteLink.DelLink x) = refl
type_is (RouteLink.GetLink x) = refl
type_is (RouteLink.SetLink x) = refl
type_is (RouteLink.Other x) = refl

not_kept : (t n : ℕ) → IsOtherType t → t ≡ n → 16 ≤ n → n ≤ 19 → ⊥
not_kept t n k e l u = let h = k.no_link in omega (arith, h (omega (arith, e, l)), e, u)

by_variant : (x y : RouteLink) → number x ≡ number y → route_entry x ≡ route_entry y → (route_equality.ghosts).eq x y ≡ true
unfolding number
by_variant (RouteLink.NewLink x) (RouteLink.NewLink y) i e = equal_texts_mean_equal x.message y.message x.readable y.readable (ap (λ (z : ℕ × List ℕ). z.1) e)
by_variant (RouteLink.DelLink x) (RouteLink.DelLink y) i e = equal_texts_mean_equal x.message y.message x.readable y.readable (ap (λ (z : ℕ × List ℕ). z.1) e)
by_variant (RouteLink.GetLink x) (RouteLink.GetLink y) i e = equal_texts_mean_equal x.message y.message x.readable y.readable (ap (λ (z : ℕ × List ℕ). z.1) e)
by_variant (RouteLink.SetLink x) (RouteLink.SetLink y) i e = equal_texts_mean_equal x.message y.message x.readable y.readable (ap (λ (z : ℕ × List ℕ). z.1) e)
by_variant (RouteLink.Other x) (RouteLink.Other y) i e = and_from _ _ (eq-eqb x.message_type y.message_type i) ((bytes_decides x.bytes y.bytes).1 (ap (λ (z : ℕ × List ℕ). z.1) e))
by_variant (RouteLink.Other x) (RouteLink.NewLink y) i e = absurd (not_kept _ 16 x.kept i (omega arith) (omega arith))
by_variant (RouteLink.Other x) (RouteLink.DelLink y) i e = absurd (not_kept _ 17 x.kept i (omega arith) (omega arith))
by_variant (RouteLink.Other x) (RouteLink.GetLink y) i e = absurd (not_kept _ 18 x.kept i (omega arith) (omega arith))
by_variant (RouteLink.Other x) (RouteLink.SetLink y) i e = absurd (not_kept _ 19 x.kept i (omega arith) (omega arith))
by_variant (RouteLink.NewLink x) (RouteLink.Other y) i e = absurd (not_kept _ 16 y.kept (sym i) (omega arith) (omega arith))
by_variant (RouteLink.DelLink x) (RouteLink.Other y) i e = absurd (not_kept _ 17 y.kept (sym i) (omega arith) (omega arith))
by_variant (RouteLink.GetLink x) (RouteLink.Other y) i e = absurd (not_kept _ 18 y.kept (sym i) (omega arith) (omega arith))
by_variant (RouteLink.SetLink x) (RouteLink.Other y) i e = absurd (not_kept _ 19 y.kept (sym i) (omega arith) (omega arith))
by_variant x y i e = absurd (omega (arith, i))

pub routes_injective : EqualEntriesMeanEqualRoutes
routes_injective x y e = by_variant x y (type_is x ∙ ap (λ (z : ℕ × List ℕ). z.0) e ∙ sym (type_is y)) e

some_equal : (p q : TypedBody) → Some p ≡ Some q → p ≡ q
some_equal p q e = cc

pub routes_read_back : RoutesReadBackEqual
routes_read_back x y e = routes_injective x y (some_equal _ _ (sym (round_trip x) ∙ e))

pub ruleset laws = (routes_injective, routes_read_back)
