-- The attributes of a message: names with zeros after them, and where a payload is in the capture.
use Rattle.std.proofs.Common.{◌≡◌, ℕ, ◌+◌, List, ◌++◌, length, drop, take, Some, refl, sym, ap, ◌∙◌, arith}
use Rattle.std.specs.Prelude.{min, replicate}
use Rattle.std.proofs.lemmas.List.{drop-drop, drop-replicate, drop_at, take_at, take_min}
use Rattle.netlink_packet_core_grammar.specs.Frames.{BeginsWithFrame}
use Rattle.link_capture_attributes.specs.AttributeLaws.{AttributesAreWhereTheySay}
use Rattle.link_capture_attributes.specs.Attributes.{Found, first_from, frame_attributes}
use Rattle.linkcap_c.specs.Attributes.{IsNextAttribute, attribute_of, padded}
use Rattle.linkcap_c.specs.declared.attributes.LinkcapAttribute.{LinkcapAttribute}

-- The first bytes of a name, at most 63.
pub front : (n : List ℕ) (k : ℕ) → k ≡ min (length n) 63 → take k n ≡ take 63 n
front n k e = let same : k ≡ min 63 (length n) = omega (arith, e) in ap (λ m. take m n) same ∙ take_min 63 n

-- A name at the start of an array of zeros.
pub at_start : (n front : List ℕ) → front ≡ take 63 n → front ++ drop (length front) (replicate 64 0) ≡ padded (take 63 n)
at_start n front e =
    ap (λ x. x ++ drop (length x) (replicate 64 0)) e
    ∙ ap (λ x. take 63 n ++ x) (drop-replicate (length (take 63 n)) 64 0)

-- A payload in the capture.
pub next_attribute : AttributesAreWhereTheySay → (c : List ℕ) (message position : ℕ) (f : Found) (a : LinkcapAttribute) → BeginsWithFrame (drop message c) → first_from position (frame_attributes message (drop message c)) ≡ Some f → a ≡ attribute_of f → IsNextAttribute c message position a
next_attribute law c message position f a i first is = record { found = f; first = first; is = is; payload = by (law message position (drop message c) f i first).1 }
  where
    by : (before : List ℕ) × (rest : List ℕ) × (drop message c ≡ before ++ (f.attribute.payload ++ rest)) × (message + length before ≡ f.offset + 4) → take a.length (drop a.payload c) ≡ f.attribute.payload
    by (before, rest, e, at) =
        ap (λ (x : LinkcapAttribute). take x.length (drop x.payload c)) is
        ∙ ap (λ n. take (length f.attribute.payload) (drop n c)) (sym at)
        ∙ ap (take (length f.attribute.payload)) (sym (drop-drop (length before) message c) ∙ ap (drop (length before)) e ∙ drop_at before (f.attribute.payload ++ rest) (length before) refl)
        ∙ take_at f.attribute.payload rest (length f.attribute.payload) refl
