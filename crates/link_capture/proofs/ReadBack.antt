-- A message that was read fits or doesn't, and is read back equal from what it is written as.
use Rattle.std.proofs.Common.{◌≡◌, ℕ, ◌≤◌, List, [], ◌∷◌, ◌++◌, Ok, Err, Bool, true, false, cond, refl, sym, ap, subst, ◌∙◌, arith}
use Rattle.std.specs.Prelude.{◌&&◌, bytes_eq, slice_index, length}
use Rattle.std.proofs.lemmas.Bool.{and_parts, and_from, leb-true}
use Rattle.std.proofs.lemmas.Slice.Eq.{bytes_eq-Decides}
use Rattle.std.proofs.lemmas.Grind.{merely}
use Rattle.link_message_grammar.specs.Body.{header_text, link_body, link_peer}
use Rattle.link_message_grammar.specs.Laws.{BodiesAreHeadersAndAttributes}
use Rattle.link_message.specs.AddressFamilies.{address_family_of}
use Rattle.link_message.specs.declared.message.LinkMessage.{LinkMessage}
use Rattle.link_message.specs.LinkMessages.{link_message_text, link_message_fits, link_message_names_row}
use Rattle.link_message.specs.contracts.message.LinkMessageEq.TheImpl.Laws.{laws-law}
use Rattle.link_capture_grammar.specs.Bodies.{ruled_text, body_text}
use Rattle.link_capture_grammar.specs.Laws.{BodyTextsAreCanonical}
use Rattle.link_capture.specs.Readable.{IsReadFrom, IsReadable, equal_messages, is_read_back_as}
use Rattle.link_capture_grammar.specs.declared.fault.FaultKind.TheVariants.{Refused, EmptyPorts, Unfit}

-- ---- a body that is accepted

pub ruled_ok : (b : List ℕ) → link_body.accepted b ≡ true → link_body.empty_ports b ≡ false → link_body.fits b ≡ true → ruled_text link_body b ≡ Ok (link_body.canonical b)
ruled_ok b a p f = rw (a, p, f) refl

pub ruled_refused : (b : List ℕ) → link_body.accepted b ≡ false → ruled_text link_body b ≡ Err Refused
ruled_refused b a = rw a refl

pub ruled_empty : (b : List ℕ) → link_body.accepted b ≡ true → link_body.empty_ports b ≡ true → ruled_text link_body b ≡ Err EmptyPorts
ruled_empty b a p = rw (a, p) refl

pub ruled_unfit : (b : List ℕ) → link_body.accepted b ≡ true → link_body.empty_ports b ≡ false → link_body.fits b ≡ false → ruled_text link_body b ≡ Err Unfit
ruled_unfit b a p f = rw (a, p, f) refl

-- a text that is already canonical
pub record CanonicalText (t : List ℕ) : Type 0 where
  pub accepted : link_body.accepted t ≡ true
  pub canonical : link_body.canonical t ≡ t
  pub no_empty_ports : link_body.empty_ports t ≡ false
  pub fits : link_body.fits t ≡ true

canonical_text_by : (t : List ℕ) (a p f : Bool) → link_body.accepted t ≡ a → link_body.empty_ports t ≡ p → link_body.fits t ≡ f → cond a (cond p (Err EmptyPorts) (cond f (Ok (link_body.canonical t)) (Err Unfit))) (Err Refused) ≡ Ok t → CanonicalText t
canonical_text_by t false p f h k l e = absurd cc
canonical_text_by t true true f h k l e = absurd cc
canonical_text_by t true false false h k l e = absurd cc
canonical_text_by t true false true h k l e = record { accepted = h; canonical = cc; no_empty_ports = k; fits = l }

pub is_canonical_text : (t : List ℕ) → ruled_text link_body t ≡ Ok t → CanonicalText t
is_canonical_text t h = canonical_text_by t (link_body.accepted t) (link_body.empty_ports t) (link_body.fits t) refl refl refl h

-- the first byte is kept
first_byte : (b c : List ℕ) → 16 ≤ length b → slice_index (header_text b ++ c) 0 ≡ slice_index b 0
first_byte (f ∷ x ∷ k ∷ l ∷ b) c h = refl
first_byte [] c h = absurd (omega arith)
first_byte (f ∷ []) c h = absurd (omega arith)
first_byte (f ∷ x ∷ []) c h = absurd (omega arith)
first_byte (f ∷ x ∷ k ∷ []) c h = absurd (omega arith)

same_text : (t : List ℕ) → bytes_eq t t ≡ true
same_text t = (bytes_eq-Decides t t).1 refl

pub means_itself : (m : LinkMessage) → link_message_fits m ≡ true → is_read_back_as m m ≡ true
means_itself m f = and_from _ _ (laws-law.refl m) (and_from _ _ f (same_text (link_message_text m)))

normal_text : BodyTextsAreCanonical link_body → (b t : List ℕ) → ruled_text link_body b ≡ Ok t → ruled_text link_body t ≡ Ok t
unfolding body_text
normal_text law b t h = law 16 b t h

pub readable_from : BodyTextsAreCanonical link_body → BodiesAreHeadersAndAttributes link_peer → (b : List ℕ) (m : LinkMessage) → IsReadFrom b m → link_body.empty_ports b ≡ false → link_message_fits m ≡ link_body.fits b → link_message_fits m ≡ true → IsReadable m
readable_from law parts b m r ports s f =
    let t = link_message_text m in
    let text : ruled_text link_body t ≡ Ok t = normal_text law b t (ruled_ok b r.accepted ports (sym s ∙ f) ∙ ap Ok (sym r.text)) in
    let o = is_canonical_text t text in
    let p = parts b in
    let long = leb-true _ _ (and_parts _ _ (sym p.accepted ∙ r.accepted)).0 in
    record {
      fits = f;
      text = text;
      read_back = merely (
        m,
        record {
          accepted = o.accepted;
          family = r.family ∙ ap address_family_of (sym (ap (λ x. slice_index x 0) (r.text ∙ p.canonical) ∙ first_byte b _ long));
          text = sym o.canonical;
          is_row_variant = r.is_row_variant;
          fits = f ∙ sym o.fits;
        },
        means_itself m f,
      );
    }

-- ---- a message that is read back

-- the contract of a reader, for the bytes of a slice
pub read_from : (b t : List ℕ) (n : LinkMessage) → b ≡ t → link_body.accepted b ≡ true → n.header.interface_family ≡ address_family_of (slice_index b 0) → link_message_text n ≡ link_body.canonical b → link_message_names_row n → link_message_fits n ≡ link_body.fits b → IsReadFrom t n
read_from b t n e a f x r s = subst (λ (y : List ℕ). IsReadFrom y n) e (record { accepted = a; family = f; text = x; is_row_variant = r; fits = s })

pub readable_read_back : (m n : LinkMessage) → link_message_fits m ≡ true → IsReadFrom (link_message_text m) n → link_body.empty_ports (link_message_text m) ≡ false → link_message_fits n ≡ link_body.fits (link_message_text m) → is_read_back_as m n ≡ true → IsReadable m
readable_read_back m n f r ports s e =
    let t = link_message_text m in
    let a = and_parts (equal_messages n m) (link_message_fits n && bytes_eq (link_message_text n) t) e in
    let b = and_parts (link_message_fits n) (bytes_eq (link_message_text n) t) a.1 in
    let same = (bytes_eq-Decides (link_message_text n) t).0 b.1 in
    record { fits = f; text = ruled_ok t r.accepted ports (sym s ∙ b.0) ∙ ap Ok (sym r.text ∙ same); read_back = merely (n, r, e) }

pub ruleset readable = (ruled_ok, ruled_refused, ruled_empty, ruled_unfit, readable_from)

pub ruleset reads_back = (readable_read_back)
