-- The numbers and names of the management component transport protocol.
use Rattle.std.specs.Prelude.{ℕ, List, [], ◌∷◌, codes}
use Rattle.std.specs.Fmt.{decimal}
use Rattle.netlink_packet_core.specs.Named.{numbered_by}
use Rattle.link_message_types.specs.declared.mctp.MctpPhysBinding.{MctpPhysBinding}

-- The number and the name of a binding.
abbrev pub mctp_phys_binding_row : MctpPhysBinding → ℕ × List ℕ
mctp_phys_binding_row MctpPhysBinding.Smbus = (1, codes "smbus")
mctp_phys_binding_row MctpPhysBinding.PcieVdm = (2, codes "pcievdm")
mctp_phys_binding_row MctpPhysBinding.Usb = (3, codes "usb")
mctp_phys_binding_row MctpPhysBinding.Kcs = (4, codes "kcs")
mctp_phys_binding_row MctpPhysBinding.Serial = (5, codes "serial")
mctp_phys_binding_row MctpPhysBinding.I3c = (6, codes "i3c")
mctp_phys_binding_row MctpPhysBinding.Mmbi = (7, codes "mmbi")
mctp_phys_binding_row MctpPhysBinding.Pcc = (8, codes "pcc")
mctp_phys_binding_row MctpPhysBinding.Ucie = (9, codes "ucie")
mctp_phys_binding_row MctpPhysBinding.Vendor = (255, codes "vendor")
mctp_phys_binding_row (MctpPhysBinding.Other n) = (n, decimal n)

-- The bindings with a variant of their own.
abbrev pub listed_mctp_phys_bindings : List MctpPhysBinding
listed_mctp_phys_bindings =
    MctpPhysBinding.Smbus ∷
    MctpPhysBinding.PcieVdm ∷
    MctpPhysBinding.Usb ∷
    MctpPhysBinding.Kcs ∷
    MctpPhysBinding.Serial ∷
    MctpPhysBinding.I3c ∷
    MctpPhysBinding.Mmbi ∷
    MctpPhysBinding.Pcc ∷
    MctpPhysBinding.Ucie ∷
    MctpPhysBinding.Vendor ∷
    []

-- The number of a binding.
abbrev pub mctp_phys_binding_number : MctpPhysBinding → ℕ
mctp_phys_binding_number v = (mctp_phys_binding_row v).0

-- The binding of a number.
abbrev pub mctp_phys_binding_of : ℕ → MctpPhysBinding
mctp_phys_binding_of n = numbered_by mctp_phys_binding_number listed_mctp_phys_bindings MctpPhysBinding.Other n

-- The display of a binding.
abbrev pub mctp_phys_binding_text : MctpPhysBinding → List ℕ
mctp_phys_binding_text v = (mctp_phys_binding_row v).1
