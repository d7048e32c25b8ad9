-- Values of `InfoBatAdv` with equal attributes are equal.
use Rattle.std.proofs.Common.{[], refl, arith}
use Rattle.attribute_tables_grammar.specs.LookUps.{line_at}
use Rattle.link_info_grammar.specs.Families.{batadv}
use Rattle.link_info_devices.specs.declared.batadv.InfoBatAdv.TheVariants.{AlgoName, Other}
use Rattle.link_info_devices.specs.Batadv.{batadv_entry, batadv_is_row_variant}
use Rattle.link_info_devices.specs.contracts.batadv.InfoBatAdvPartialEq.TheImpl as equality
use Rattle.link_info_devices.specs.contracts.batadv.InfoBatAdvEq.TheImpl.Laws.{laws-law}
use Rattle.link_message.specs.Injective.{IsInjective}
use Rattle.link_message.proofs.Records.{string_same}
use Rattle.link_message.proofs.Decoders.{Otherwise, RoundTripIfDecoded, injective_or, value_of, round_trips}

round_trip : RoundTripIfDecoded batadv_entry batadv_is_row_variant (value_of (line_at batadv) Other [])
round_trip (Other a) h = rw h refl
round_trip v h = simp round_trips

otherwise : Otherwise (equality.ghosts).eq batadv_entry batadv_is_row_variant (line_at batadv) []
otherwise (AlgoName x) (AlgoName y) l m i j d p q k e = string_same x y e
otherwise v w l m i j d p q k e = absurd (first_of (omega arith, cc))

pub batadv_injective : IsInjective (equality.ghosts).eq batadv_entry batadv_is_row_variant
batadv_injective = injective_or _ laws-law.refl _ _ (line_at batadv) Other [] round_trip otherwise
