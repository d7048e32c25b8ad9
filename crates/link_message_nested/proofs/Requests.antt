-- Settings that are requested.
use Rattle.std.proofs.Common.{◌≡◌, ℕ, ℤ, suc, ◌+◌, ◌<◌, true, List, [], ◌∷◌, ◌++◌, length, take, get_or, refl, sym, ap, ◌∙◌, arith, append-nil, append_assoc}
use Rattle.std.specs.Int.{w32, cast_unsigned}
use Rattle.std.proofs.lemmas.List.{take_more, length-take-le}
use Rattle.netlink_packet_core_grammar.specs.Numbers.{le4}
use Rattle.netlink_packet_core.specs.Lists.{all_fit_by}
use Rattle.link_message_nested.specs.InetSettings.{requested_entry, requested_from, requested_setting}
use Rattle.link_message_nested.specs.declared.inet.RequestedSetting.{RequestedSetting}

pub settings_fit : (vs : List RequestedSetting) → all_fit_by requested_entry (λ _. true) vs ≡ true
unfolding le4
settings_fit [] = refl
settings_fit (v ∷ vs) = settings_fit vs

pub ruleset requests = (settings_fit)

pub requested_more : (k : ℕ) (zs : List ℤ) (z : ℤ) → requested_from k (zs ++ z ∷ []) ≡ requested_from k zs ++ requested_setting (k + length zs) (cast_unsigned w32 z)
requested_more k [] z = append-nil _ ∙ ap (λ n. requested_setting n (cast_unsigned w32 z)) (omega arith)
requested_more k (y ∷ zs) z =
    ap (λ r. requested_setting k (cast_unsigned w32 y) ++ r) (requested_more (suc k) zs z)
    ∙ sym (append_assoc (requested_setting k (cast_unsigned w32 y)) (requested_from (suc k) zs) (requested_setting (suc k + length zs) (cast_unsigned w32 z)))
    ∙ ap (λ n. (requested_setting k (cast_unsigned w32 y) ++ requested_from (suc k) zs) ++ requested_setting n (cast_unsigned w32 z)) (omega arith)

-- One setting more.
pub requested_next : (zs : List ℤ) (i : ℕ) (z : ℤ) → i < length zs → requested_from 1 (take (i + 1) zs) ≡ requested_from 1 (take i zs) ++ requested_setting (i + 1) (cast_unsigned w32 (get_or zs i z))
requested_next zs i z h =
    ap (requested_from 1) (take_more zs i z h)
    ∙ requested_more 1 (take i zs) (get_or zs i z)
    ∙ ap (λ n. requested_from 1 (take i zs) ++ requested_setting n (cast_unsigned w32 (get_or zs i z))) (omega (arith, length-take-le i zs (omega arith)))
