-- Kinds of links, and of ports, of equal name are equal.
use Rattle.std.proofs.Common.{◌≡◌, Bool, true, Some, sym, ap, ◌∙◌, String, Global, string_bytes}
use Rattle.std.specs.Prelude.{string_eq}
use lib.Pointwise.{bytes_decides}
use Rattle.link_info_kinds.specs.Kinds.{info_kind_text, info_kind_is_named, listed_kind}
use Rattle.link_info_kinds.proofs.Named.{names_determine_kinds, names_determine_port_kinds}
use Rattle.link_info_kinds.specs.PortKinds.{info_port_kind_text, info_port_kind_is_named, listed_port_kind}
use Rattle.link_info_kinds.specs.declared.info_kind.InfoKind.{InfoKind}
use Rattle.link_info_kinds.specs.declared.info_kind.InfoKind.TheVariants as Kind
use Rattle.link_info_kinds.specs.declared.info_port_kind.InfoPortKind.{InfoPortKind}
use Rattle.link_info_kinds.specs.declared.info_port_kind.InfoPortKind.TheVariants as PortKind
use Rattle.link_info_kinds.specs.contracts.info_kind.InfoKindPartialEq.TheImpl as equality
use Rattle.link_info_kinds.specs.contracts.info_kind.InfoKindEq.TheImpl.Laws as laws
use Rattle.link_info_kinds.specs.contracts.info_port_kind.InfoPortKindPartialEq.TheImpl as port_equality
use Rattle.link_info_kinds.specs.contracts.info_port_kind.InfoPortKindEq.TheImpl.Laws as port_laws

abbrev equal : InfoKind → InfoKind → Bool
equal = (equality.ghosts).eq

abbrev equal_ports : InfoPortKind → InfoPortKind → Bool
equal_ports = (port_equality.ghosts).eq

some_equal : {A : Type 0} (x y : A) → Some x ≡ Some y → x ≡ y
some_equal x y e = cc

strings_equal : (s t : String Global) → string_bytes s ≡ string_bytes t → string_eq s t ≡ true
strings_equal s t e = (bytes_decides s.bytes.items t.bytes.items).1 e

-- ---- kinds of links

-- A listed kind is the variant of its name.
pub listed_is : (k n : InfoKind) → listed_kind k ≡ Some n → k ≡ n
listed_is (Kind.Other s) n h = absurd cc
listed_is k n h = some_equal k n h

by_listing : (k m : InfoKind) → listed_kind k ≡ listed_kind m → info_kind_text k ≡ info_kind_text m → equal k m ≡ true
by_listing (Kind.Other s) (Kind.Other t) l e = strings_equal s t e
by_listing (Kind.Other s) m l e = absurd cc
by_listing k m l e = ap (equal k) (listed_is m k (sym l)) ∙ laws.laws-law.refl k

pub kinds_equal : (k m : InfoKind) → info_kind_is_named k ≡ true → info_kind_is_named m ≡ true → info_kind_text k ≡ info_kind_text m → equal k m ≡ true
kinds_equal k m p q e = by_listing k m (names_determine_kinds k m p q e) e

-- ---- kinds of ports

listed_port_is : (k n : InfoPortKind) → listed_port_kind k ≡ Some n → k ≡ n
listed_port_is (PortKind.Other s) n h = absurd cc
listed_port_is k n h = some_equal k n h

by_port_listing : (k m : InfoPortKind) → listed_port_kind k ≡ listed_port_kind m → info_port_kind_text k ≡ info_port_kind_text m → equal_ports k m ≡ true
by_port_listing (PortKind.Other s) (PortKind.Other t) l e = strings_equal s t e
by_port_listing (PortKind.Other s) m l e = absurd cc
by_port_listing k m l e = ap (equal_ports k) (listed_port_is m k (sym l)) ∙ port_laws.laws-law.refl k

pub port_kinds_equal : (k m : InfoPortKind) → info_port_kind_is_named k ≡ true → info_port_kind_is_named m ≡ true → info_port_kind_text k ≡ info_port_kind_text m → equal_ports k m ≡ true
port_kinds_equal k m p q e = by_port_listing k m (names_determine_port_kinds k m p q e) e
