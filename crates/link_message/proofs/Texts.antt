-- A message is written as its header, followed by its attributes.
use Rattle.std.proofs.Common.{◌≡◌, ℕ, ◌+◌, List, ◌++◌, length, drop, sym, ap, ◌∙◌, arith, length-append, append_assoc, append-nil}
use Rattle.std.proofs.lemmas.List.{drop-drop, drop_all}
use Rattle.link_message_types.specs.Headers.{link_header_bytes}
use Rattle.link_message_types.specs.Laws.{HeadersAreSixteenBytes}
use Rattle.link_message_types.specs.declared.header.LinkHeader.{LinkHeader}

-- The size of a header, alone and before other bytes.
pub length-header : HeadersAreSixteenBytes → (h : LinkHeader) → length (link_header_bytes h) ≡ 16
length-header law = law

pub length-header-append : HeadersAreSixteenBytes → (h : LinkHeader) (r : List ℕ) → length (link_header_bytes h ++ r) ≡ 16 + length r
length-header-append law h r = omega (arith, length-append (link_header_bytes h) r, law h)

pub ruleset headers = (length-header, length-header-append)

-- In a buffer of its size the header is all.
pub header_only : (h prefix : List ℕ) → length prefix ≡ length h → h ++ drop (length h) prefix ≡ h
header_only h prefix e = ap (λ x. h ++ x) (drop_all (length h) prefix (omega arith)) ∙ append-nil h

-- A header and attributes, written before what was there.
pub header_then : (h t old : List ℕ) (n : ℕ) → length h ≡ 16 → length t ≡ n → h ++ (t ++ drop n (drop 16 old)) ≡ (h ++ t) ++ drop (length (h ++ t)) old
header_then h t old n s e =
    let size : length (h ++ t) ≡ 16 + n = omega (arith, length-append h t) in
    sym (append_assoc h t (drop n (drop 16 old))) ∙ ap (λ r. (h ++ t) ++ r) (drop-drop n 16 old ∙ ap (λ m. drop m old) (sym size))
