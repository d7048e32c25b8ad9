-- The bodies of other messages, which are kept.
use Rattle.link_capture.specs.RoundTrips.{other_text, other_needs_memory}

pub ruleset others = (other_text, other_needs_memory)
