-- The flags of links.
use Rattle.std.specs.Prelude.{ℕ, List, [], ◌∷◌, ◌++◌, ◌==◌, codes, false, filter, if◌then◌else◌, map}
use Rattle.std.specs.Fmt.{digits}
use Rattle.std.specs.Int.RustNames.{bit_and}
use Rattle.std.specs.List.{join_by}
use Rattle.bitflags.specs.Sets.{known_bits, without}
use Rattle.link_message_types.specs.declared.link_flag.LinkFlags.{LinkFlags}

-- The bits of a set of flags.
abbrev pub link_flags_bits : LinkFlags → ℕ
link_flags_bits f = f.0

-- The flags that have a name, each with its bits.
abbrev pub link_flags_table : List (List ℕ × ℕ)
link_flags_table =
    (codes "Up", 0x1) ∷
    (codes "Broadcast", 0x2) ∷
    (codes "Debug", 0x4) ∷
    (codes "Loopback", 0x8) ∷
    (codes "Pointopoint", 0x10) ∷
    (codes "Notrailers", 0x20) ∷
    (codes "Running", 0x40) ∷
    (codes "Noarp", 0x80) ∷
    (codes "Promisc", 0x100) ∷
    (codes "Allmulti", 0x200) ∷
    (codes "Controller", 0x400) ∷
    (codes "Port", 0x800) ∷
    (codes "Multicast", 0x1000) ∷
    (codes "Portsel", 0x2000) ∷
    (codes "Automedia", 0x4000) ∷
    (codes "Dynamic", 0x8000) ∷
    (codes "LowerUp", 0x10000) ∷
    (codes "Dormant", 0x20000) ∷
    (codes "Echo", 0x40000) ∷
    []

-- The names of the flags of a table that are set in a number.
abbrev pub flag_names : List (List ℕ × ℕ) → ℕ → List (List ℕ)
flag_names table n = map (λ row. row.0) (filter (λ row. bit_and n row.1 == row.1) table)

-- The bits without a name as one hexadecimal number; no text if there are none.
abbrev pub unnamed_text : ℕ → List (List ℕ)
unnamed_text n = if n == 0 then [] else (codes "0x" ++ digits 16 false n) ∷ []

-- The display of a set of flags: the names of its flags, and then its bits without a name, with ` | ` between each two.
unfoldable pub link_flags_text : LinkFlags → List ℕ
link_flags_text f =
    let unnamed = without 32 f.0 (known_bits link_flags_table) in
    join_by (λ text. text) (codes " | ") (flag_names link_flags_table f.0 ++ unnamed_text unnamed)
