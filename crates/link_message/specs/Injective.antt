-- Values that are determined by the attribute as which they are written.
use Rattle.std.specs.Prelude.{◌≡◌, Bool, true}
use Rattle.netlink_packet_core.specs.Attributes.{Attribute}

-- Two values, each the variant that its row names, are equal by `==` if they are written as the same attribute.
abbrev pub IsInjective : {V : Type 0} → (V → V → Bool) → (V → Attribute) → (V → Type 0) → Type 0
IsInjective {V} equal entry is_named =
    (v w : V) → is_named v → is_named w → entry v ≡ entry w → equal v w ≡ true
