-- The numbers of events of links.
use Rattle.std.specs.Prelude.{ℕ, List, [], ◌∷◌}
use Rattle.netlink_packet_core.specs.Named.{numbered_by}
use Rattle.netlink_packet_core.specs.Numbers.{le4}
use Rattle.link_message_types.specs.declared.event.LinkEvent.{LinkEvent}

-- The number of an event.
abbrev pub link_event_number : LinkEvent → ℕ
link_event_number LinkEvent.None = 0
link_event_number LinkEvent.Reboot = 1
link_event_number LinkEvent.Features = 2
link_event_number LinkEvent.BondingFailover = 3
link_event_number LinkEvent.NotifyPeers = 4
link_event_number LinkEvent.IgmpResend = 5
link_event_number LinkEvent.BondingOptions = 6
link_event_number (LinkEvent.Other n) = n

-- The events with a variant of their own.
abbrev pub listed_link_events : List LinkEvent
listed_link_events =
    LinkEvent.None ∷
    LinkEvent.Reboot ∷
    LinkEvent.Features ∷
    LinkEvent.BondingFailover ∷
    LinkEvent.NotifyPeers ∷
    LinkEvent.IgmpResend ∷
    LinkEvent.BondingOptions ∷
    []

-- The event of a number.
abbrev pub link_event_of : ℕ → LinkEvent
link_event_of n = numbered_by link_event_number listed_link_events LinkEvent.Other n

-- The 4 bytes that an event is written as.
abbrev pub link_event_bytes : LinkEvent → List ℕ
link_event_bytes v = le4 (link_event_number v)
