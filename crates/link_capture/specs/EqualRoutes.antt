-- Messages of captures that are determined by their type and the bytes of their body.
use Rattle.std.specs.Prelude.{◌≡◌, true, Some}
use Rattle.link_capture.specs.declared.route.RouteLink.{RouteLink}
use Rattle.link_capture.specs.contracts.route.RouteLinkPartialEq.TheImpl as equality
use Rattle.link_capture.specs.Routes.{route_entry, reads_route}

-- Two messages of one type whose bodies have the same bytes are equal by `==`.
abbrev pub EqualEntriesMeanEqualRoutes : Type 0
EqualEntriesMeanEqualRoutes =
    (x y : RouteLink) → route_entry x ≡ route_entry y → (equality.ghosts).eq x y ≡ true

-- If the type and body of x are read as those of y, x equals y by `==`.
abbrev pub RoutesReadBackEqual : Type 0
RoutesReadBackEqual =
    (x y : RouteLink) → reads_route (route_entry x).0 (route_entry x).1 ≡ Some (route_entry y) →
    (equality.ghosts).eq x y ≡ true
