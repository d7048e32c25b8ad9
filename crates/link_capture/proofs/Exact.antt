-- A message whose text is read as another message isn't readable.
use Rattle.std.proofs.Common.{◌≡◌, ℕ, List, Bool, true, false, sym, ap, ◌∙◌, inl, inr}
use Rattle.std.specs.Prelude.{◌&&◌, bytes_eq}
use Rattle.std.proofs.lemmas.Bool.{and_parts, and_from}
use Rattle.std.proofs.lemmas.Grind.{not_there}
use Rattle.link_message.specs.declared.message.LinkMessage.{LinkMessage}
use Rattle.link_message.specs.LinkMessages.{link_message_text, link_message_fits}
use Rattle.link_message.specs.contracts.message.LinkMessageEq.TheImpl.Laws.{laws-law}
use Rattle.link_message.specs.EqualTexts.{EqualTextsMeanEqualMessages}
use Rattle.link_capture.specs.Readable.{IsReadFrom, IsReadable, IsNotReadBack, equal_messages, is_read_back_as}
use Rattle.link_capture.proofs.ReadBack.{is_canonical_text}

-- two messages that are read from the same bytes are equal
pub one_message : EqualTextsMeanEqualMessages → (t : List ℕ) (m n : LinkMessage) → IsReadFrom t m → IsReadFrom t n → equal_messages m n ≡ true
one_message law t m n r s = law m n (r.family ∙ sym s.family) r.is_row_variant s.is_row_variant (r.text ∙ sym s.text)

-- if one message that is read from these bytes is equal to m, so is every other
alike : EqualTextsMeanEqualMessages → (t : List ℕ) (m n k : LinkMessage) → IsReadFrom t n → IsReadFrom t k → is_read_back_as m k ≡ true → is_read_back_as m n ≡ true
alike law t m n k r s h =
    let a = and_parts (equal_messages k m) (link_message_fits k && bytes_eq (link_message_text k) (link_message_text m)) h in
    let b = and_parts (link_message_fits k) (bytes_eq (link_message_text k) (link_message_text m)) a.1 in
    let equal = laws-law.congr n k m (one_message law t n k r s) ∙ a.0 in
    let fits = r.fits ∙ sym s.fits ∙ b.0 in
    let text = ap (λ x. bytes_eq x (link_message_text m)) (r.text ∙ sym s.text) ∙ b.1 in
    and_from _ _ equal (and_from _ _ fits text)

pub differ : (b : Bool) → b ≡ true → b ≡ false → ⊥
differ true h k = absurd cc
differ false h k = absurd cc

pub excluded : EqualTextsMeanEqualMessages → (m : LinkMessage) → IsNotReadBack m → IsReadable m → ⊥
excluded law m (inl a) h = differ _ (is_canonical_text _ h.text).accepted a
excluded law m (inr (inl p)) h = differ _ p (is_canonical_text _ h.text).no_empty_ports
excluded law m (inr (inr x)) h = not_there h.read_back (λ y. differ _ (alike law (link_message_text m) m x.0 y.0 x.1 y.1 y.2) x.2)
