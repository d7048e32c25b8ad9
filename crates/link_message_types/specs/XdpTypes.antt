-- The numbers of the hooks to which XDP programs are attached.
use Rattle.std.specs.Prelude.{ℕ, List, [], ◌∷◌}
use Rattle.netlink_packet_core.specs.Named.{numbered_by}
use Rattle.link_message_types.specs.declared.xdp.XdpAttached.{XdpAttached}

-- The number of a hook.
abbrev pub xdp_attached_number : XdpAttached → ℕ
xdp_attached_number XdpAttached.None = 0
xdp_attached_number XdpAttached.Driver = 1
xdp_attached_number XdpAttached.SocketBuffer = 2
xdp_attached_number XdpAttached.Hardware = 3
xdp_attached_number XdpAttached.Multiple = 4
xdp_attached_number (XdpAttached.Other n) = n

-- The hooks with a variant of their own.
abbrev pub listed_xdp_attachments : List XdpAttached
listed_xdp_attachments =
    XdpAttached.None ∷
    XdpAttached.Driver ∷
    XdpAttached.SocketBuffer ∷
    XdpAttached.Hardware ∷
    XdpAttached.Multiple ∷
    []

-- The hook of a number.
abbrev pub xdp_attached_of : ℕ → XdpAttached
xdp_attached_of n = numbered_by xdp_attached_number listed_xdp_attachments XdpAttached.Other n
