-- Values of `PairData` with equal attributes are equal.
use Rattle.std.proofs.Common.{ℕ, Fits, [], refl, arith}
use lib.Pointwise.{bytes_decides}
use denote.Param.{number}
use Rattle.std.specs.Int.{w16}
use Rattle.attribute_tables_grammar.specs.LookUps.{line_at}
use Rattle.link_info_grammar.specs.Families.{pair}
use Rattle.link_info_devices.specs.declared.veth.PairData.{PairData}
use Rattle.link_info_devices.specs.declared.veth.PairData.TheVariants as Pair
use Rattle.link_info_devices.specs.Veth.{pair_entry, pair_is_row_variant}
use Rattle.link_info_devices.specs.contracts.veth.PairDataPartialEq.TheImpl as equality
use Rattle.link_info_devices.specs.contracts.veth.PairDataEq.TheImpl.Laws.{laws-law}
use Rattle.link_message.specs.Injective.{IsInjective}
use Rattle.link_message.proofs.Decoders.{Otherwise, RoundTripIfDecoded, injective_or, value_of, round_trips}

round_trip : (n : ℕ) → RoundTripIfDecoded {V = PairData n} pair_entry pair_is_row_variant (value_of (line_at pair) Pair.Other [])
round_trip n (Pair.Other a) h = rw h refl
round_trip n v h = simp round_trips

otherwise : (n : ℕ) → Otherwise (equality.ghosts (number n)).eq pair_entry pair_is_row_variant (line_at pair) []
otherwise n (Pair.Peer x) (Pair.Peer y) l m i j d p q k e = (bytes_decides x.items y.items).1 e
otherwise n v w l m i j d p q k e = absurd (first_of (omega arith, cc))

pub pair_injective : (n : ℕ) → Fits w16 n → IsInjective (equality.ghosts (number n)).eq pair_entry pair_is_row_variant
pair_injective n f = injective_or _ (laws-law n f).refl _ _ (line_at pair) Pair.Other [] (round_trip n) (otherwise n)
