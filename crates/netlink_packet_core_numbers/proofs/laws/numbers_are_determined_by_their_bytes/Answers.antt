use Rattle.netlink_packet_core_numbers.proofs.DeterminedNumbers.{le2-determined, le4-determined, le8-determined, le16-determined, be2-determined, be4-determined, be8-determined, be16-determined}
use Rattle.netlink_packet_core_numbers.proofs.laws.numbers_are_determined_by_their_bytes.Goals as goal

pub returns : goal.returns
returns c = record { le2_determined = le2-determined; le4_determined = le4-determined; le8_determined = le8-determined; le16_determined = le16-determined; be2_determined = be2-determined; be4_determined = be4-determined; be8_determined = be8-determined; be16_determined = be16-determined }
