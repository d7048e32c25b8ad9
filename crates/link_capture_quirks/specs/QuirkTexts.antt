-- The texts of encoding quirks, as programs print them.
use Rattle.std.specs.Prelude.{ℕ, List, ◌++◌, codes}
use Rattle.std.specs.Fmt.{decimal}
use Rattle.link_capture_quirks.specs.declared.quirk_at.Quirk.{Quirk}
use Rattle.link_capture_quirks.specs.declared.quirk_at.Quirk.TheVariants.{NestedPortSettings, ResizedSettings}
use Rattle.link_capture_quirks.specs.declared.quirk_at.Quirk.TheVariants.{PathDiscoveryOverOne, TrailingPeer, LongAlias}
use Rattle.link_capture_quirks.specs.declared.quirk_at.Quirk.TheVariants.{NameWithoutNul, FlagWithPayload}
use Rattle.link_capture_quirks.specs.declared.quirk_at.Quirk.TheVariants.{BooleanOverOne, StrayNestedBit}
use Rattle.link_capture_quirks.specs.declared.quirk_at.Quirk.TheVariants.{UnexpectedFunction, HeaderByte, ShortMap}
use Rattle.link_capture_quirks.specs.declared.quirk_at.QuirkAt.{QuirkAt}

-- The text of each quirk.
abbrev pub words : Quirk → List ℕ
words NestedPortSettings = codes "IFLA_PROTINFO with the nested bit"
words ResizedSettings = codes "IFLA_INET_CONF not of 132 bytes"
words PathDiscoveryOverOne = codes "IFLA_GRE_PMTUDISC over 1"
words TrailingPeer = codes "peer behind another attribute"
words LongAlias = codes "IFLA_IFALIAS of 255 bytes without a NUL"
words NameWithoutNul = codes "name without a NUL"
words FlagWithPayload = codes "flag with a payload"
words BooleanOverOne = codes "truth over 1"
words StrayNestedBit = codes "stray nested bit"
words UnexpectedFunction = codes "foreign entry in IFLA_VFINFO_LIST"
words HeaderByte = codes "second byte of the header of RTM_GETLINK"
words ShortMap = codes "IFLA_MAP under 32 bytes"

-- The text of a quirk: its name, ` at `, and the offset in decimal.
abbrev pub quirk_text : QuirkAt → List ℕ
quirk_text x = words x.quirk ++ (codes " at " ++ decimal x.offset)
