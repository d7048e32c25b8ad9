-- Raw data with equal attributes are equal.
use Rattle.std.proofs.Common.{◌≡◌, Fits, List, ℕ, Bool, true, sym, ap, ◌∙◌}
use denote.Param.{number}
use Rattle.std.specs.Int.{w16}
use Rattle.link_info_devices.specs.RawData.{raw_entry}
use Rattle.link_info_devices.specs.declared.raw_data.RawData.{RawData}
use Rattle.link_info_devices.specs.declared.raw_data.RawData.TheVariants as Raw
use Rattle.link_info_devices.specs.contracts.raw_data.RawDataPartialEq.TheImpl as equality
use Rattle.link_info_devices.specs.contracts.raw_data.RawDataEq.TheImpl.Laws.{laws-law}
use Rattle.netlink_packet_core.specs.Lists.{text_by}
use lib.Pointwise.{pointwise}
use Rattle.link_message.proofs.Lists
use Rattle.link_message.specs.Injective.{IsInjective}

-- Raw data of the family of a number.
abbrev equal : (n : ℕ) → RawData n → RawData n → Bool
equal n = (equality.ghosts (number n)).eq

pub raw_data_injective : (n : ℕ) → Fits w16 n → IsInjective (equal n) raw_entry (λ _. Unit {0})
raw_data_injective n f (Raw.Other x) (Raw.Other y) p q e =
    ap (λ a. equal n (Raw.Other x) (Raw.Other a)) (sym e) ∙ (laws-law n f).refl (Raw.Other x)

-- Lists of raw data with equal texts are equal.
pub lists_injective : (n : ℕ) → Fits w16 n → (vs ws : List (RawData n)) → text_by raw_entry vs ≡ text_by raw_entry ws → pointwise (equal n) vs ws ≡ true
lists_injective n f vs ws e = Lists.lists_injective (equal n) raw_entry (λ _. Unit {0}) (raw_data_injective n f) vs ws (λ _ _ _. tt) (λ _ _ _. tt) e
