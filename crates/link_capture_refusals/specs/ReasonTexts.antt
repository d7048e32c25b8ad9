-- The texts of reasons, and the reasons why a shape refuses a value and why data are refused.
use Rattle.std.specs.Prelude.{ℕ, List, ◌++◌, codes}
use Rattle.std.specs.Fmt.{decimal}
use Rattle.link_tables.specs.declared.rows.Shape.{Shape}
use Rattle.link_tables.specs.declared.rows.Shape.TheVariants.{Text, Never}
use Rattle.link_capture_lists.specs.declared.tables.MissingKind.{MissingKind}
use Rattle.link_capture_lists.specs.declared.tables.MissingKind.TheVariants.{Link, Port}
use Rattle.link_capture_refusals.specs.declared.reason.Reason.{Reason}
use Rattle.link_capture_refusals.specs.declared.reason.Reason.TheVariants.{PayloadSize, NotUtf8, EmptyList, NoKind}
use Rattle.link_capture_refusals.specs.declared.reason.Reason.TheVariants.{NoPortKind, NoPayload, CutHeader}
use Rattle.link_capture_refusals.specs.declared.reason.Reason.TheVariants.{WrongLength, CutLink, EmptyPorts, Unfit}
use Rattle.link_capture_refusals.specs.declared.reason.Reason.TheVariants.{CutCode}

-- A number in decimal between two texts.
abbrev pub number_between : List ℕ → ℕ → List ℕ → List ℕ
number_between before n following = before ++ (decimal n ++ following)

-- The text of each reason.
abbrev pub words : Reason → List ℕ
words (PayloadSize n) = number_between (codes "a payload of ") n (codes " bytes")
words NotUtf8 = codes "a text that isn't UTF-8"
words EmptyList = codes "an empty list"
words NoKind = codes "no IFLA_INFO_KIND is in force"
words NoPortKind = codes "no IFLA_INFO_SLAVE_KIND is in force"
words NoPayload = codes "no payload is accepted under this kind of link"
words (CutHeader n) = number_between (codes "no attribute: ") n (codes " bytes are left")
words (WrongLength n l) = number_between (codes "no attribute: ") n (codes " bytes are left, and its length is ") ++ decimal l
words (CutLink n) = number_between (codes "a header of ") n (codes " bytes")
words EmptyPorts = codes "ports of which nothing is kept"
words Unfit = codes "an attribute of the text is over 65535 bytes"
words (CutCode n) = number_between (codes "a body of ") n (codes " bytes")

-- The reason why data are refused while a kind isn't in force.
abbrev pub missing_reason : MissingKind → Reason
missing_reason Link = NoKind
missing_reason Port = NoPortKind

-- The reason why a payload of n bytes is refused by a shape.
abbrev pub shape_reason : Shape → ℕ → Reason
shape_reason Text n = NotUtf8
shape_reason Never n = NoPayload
shape_reason _ n = PayloadSize n
