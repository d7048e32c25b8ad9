-- A header that was read is written as the same bytes.
use Rattle.std.proofs.Common.{◌≡◌, ℕ, ◌+◌, ◌≤◌, List, [], ◌∷◌, ◌++◌, length, get_or, take, drop, refl, ap, ◌∙◌, arith}
use Rattle.std.proofs.lemmas.List.{drop-take}
use Rattle.netlink_packet_core_grammar.specs.Numbers.{u16_at, le4}
use Rattle.netlink_packet_core_grammar.proofs.Numbers.{AllBytes, written_2_at, written_4_at}
use Rattle.netlink_packet_core_messages.specs.declared.header.NetlinkHeader.{NetlinkHeader}
use Rattle.netlink_packet_core_messages.specs.Headers.{header_of, header_text}

offsets : (c : List ℕ) → AllBytes c → header_text (header_of c) ≡ get_or c 0 0 ∷ get_or c 1 0 ∷ get_or c 2 0 ∷ get_or c 3 0 ∷ get_or c 4 0 ∷ get_or c 5 0 ∷ get_or c 6 0 ∷ get_or c 7 0 ∷ get_or c 8 0 ∷ get_or c 9 0 ∷ get_or c 10 0 ∷ get_or c 11 0 ∷ get_or c 12 0 ∷ get_or c 13 0 ∷ get_or c 14 0 ∷ get_or c 15 0 ∷ []
unfolding header_text header_of
offsets c h = rw (written_4_at 0 c h, written_2_at 4 c h, written_2_at 6 c h, written_4_at 8 c h, written_4_at 12 c h) refl

pub header_written : (c : List ℕ) → 16 ≤ length c → AllBytes c → header_text (header_of c) ≡ take 16 c
header_written (a ∷ b ∷ c ∷ d ∷ e ∷ f ∷ g ∷ h ∷ i ∷ j ∷ k ∷ l ∷ m ∷ n ∷ o ∷ p ∷ rest) s t = offsets (a ∷ b ∷ c ∷ d ∷ e ∷ f ∷ g ∷ h ∷ i ∷ j ∷ k ∷ l ∷ m ∷ n ∷ o ∷ p ∷ rest) t
header_written c s t = absurd (omega arith)

with_length : (h : NetlinkHeader) (n : ℕ) → header_text (record h { length = n }) ≡ le4 n ++ drop 4 (header_text h)
unfolding header_text le4
with_length h n = refl

same_header : (c : List ℕ) (n : ℕ) → record (header_of c) { length = n; message_type = u16_at 4 c } ≡ record (header_of c) { length = n }
unfolding header_of
same_header c n = refl

-- the header at the start of a byte string, with another length
pub header_kept : (h : NetlinkHeader) (c : List ℕ) (n t : ℕ) → h ≡ header_of c → t ≡ u16_at 4 c → 16 ≤ length c → AllBytes c → header_text (record h { length = n; message_type = t }) ≡ le4 n ++ take 12 (drop 4 c)
header_kept h c n t e1 e2 l b =
    rw (e1, e2) (ap header_text (same_header c n) ∙ with_length (header_of c) n ∙ ap (λ x. le4 n ++ drop 4 x) (header_written c l b) ∙ ap (λ x. le4 n ++ x) (drop-take 4 12 c))
