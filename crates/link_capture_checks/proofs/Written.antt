-- The text of a body that has one, by its type, and of a frame that is already canonical.
use Rattle.std.proofs.Common.{◌≡◌, ℕ, ◌+◌, ◌-◌, Bool, true, false, cond, List, [], ◌∷◌, ◌++◌, length, take, drop, Ok, Err, is_ok, refl, sym, ap, ◌∙◌, arith, append_assoc}
use Rattle.std.specs.Prelude.{◌==◌, nat_lt}
use Rattle.std.proofs.Math.Seq.{take-add}
use Rattle.std.proofs.lemmas.List.{drop-drop, length-append, length-drop, length-take}
use Rattle.netlink_packet_core_grammar.specs.Attributes.{nla_align, zeros}
use Rattle.netlink_packet_core_grammar.specs.Frames.{BeginsWithFrame, frame_length, frame_body, frame_text}
use Rattle.netlink_packet_core_grammar.specs.Numbers.{le4}
use Rattle.netlink_packet_core_grammar.proofs.Numbers.{AllBytes, le4_first}
use Rattle.netlink_packet_core.specs.Messages.{unpadded_text}
use Rattle.attribute_tables_grammar.specs.Rules.{Rule}
use Rattle.link_capture_grammar.specs.Bodies.{done_text, error_text, ruled_text}
use Rattle.link_capture_grammar.specs.Same.{done_body}
use Rattle.link_capture_checks.specs.Measures.{text_or_empty}
use Rattle.link_capture_grammar.specs.declared.fault.FaultKind.TheVariants.{Refused, EmptyPorts, Unfit}

kept_by : (v : Bool) (b : List ℕ) → is_ok (cond v (Err Refused) (Ok b)) ≡ true → text_or_empty (cond v (Err Refused) (Ok b)) ≡ b
kept_by true b h = absurd cc
kept_by false b h = refl

pub error_is : (b : List ℕ) → is_ok (error_text b) ≡ true → text_or_empty (error_text b) ≡ b
error_is b = kept_by (nat_lt (length b) 4) b

done_by : (v : Bool) (b code : List ℕ) → is_ok (cond v (Ok code) (error_text b)) ≡ true → text_or_empty (cond v (Ok code) (error_text b)) ≡ cond v code b
done_by true b code h = refl
done_by false b code h = error_is b h

pub done_is : (b : List ℕ) → is_ok (done_text b) ≡ true → text_or_empty (done_text b) ≡ done_body b
done_is b = done_by (length b == 0) b (0 ∷ 0 ∷ 0 ∷ 0 ∷ [])

pub record Ruled (r : Rule) (b : List ℕ) : Type 0 where
  pub accepted : r.accepted b ≡ true
  pub fits : r.fits b ≡ true
  pub text : text_or_empty (ruled_text r b) ≡ r.canonical b

ruled_by : (r : Rule) (b : List ℕ) (a e f : Bool) → r.accepted b ≡ a → r.empty_ports b ≡ e → r.fits b ≡ f → is_ok (cond a (cond e (Err EmptyPorts) (cond f (Ok (r.canonical b)) (Err Unfit))) (Err Refused)) ≡ true → Ruled r b
ruled_by r b true false true a e f h = record { accepted = a; fits = f; text = rw (a, e, f) refl }
ruled_by r b true false false a e f h = absurd cc
ruled_by r b true true f a e g h = absurd cc
ruled_by r b false e f a g i h = absurd cc

pub ruled_is : (r : Rule) (b : List ℕ) → is_ok (ruled_text r b) ≡ true → Ruled r b
ruled_is r b = ruled_by r b (r.accepted b) (r.empty_ports b) (r.fits b) refl refl refl

-- ---- a frame is the text of its header and its body, without the padding

pub frame_size : (c : List ℕ) → BeginsWithFrame c → frame_length c ≡ 16 + length (frame_body c)
frame_size c f =
    let body = frame_length c - 16 in
    omega (arith, f.covers_header, f.within, length-take body (drop 16 c), length-drop 16 c)

pub unpadded_size : (c text : List ℕ) → BeginsWithFrame c → length (unpadded_text c text) ≡ 16 + length text
unfolding le4
unpadded_size c text f =
    let head = take 12 (drop 4 c) in
    omega (arith, f.has_header, length-append head text, length-take 12 (drop 4 c), length-drop 4 c)

pub canonical_frame_text : (c : List ℕ) → BeginsWithFrame c → AllBytes c → take (frame_length c) c ≡ unpadded_text c (frame_body c)
canonical_frame_text c f b =
    let body = frame_length c - 16 in
    let parts : frame_length c ≡ 4 + (12 + body) = omega (arith, f.covers_header) in
    ap (λ n. take n c) parts
    ∙ take-add 4 (12 + body) c
    ∙ ap (λ x. x ++ take (12 + body) (drop 4 c)) (sym (le4_first c (omega (arith, f.has_header)) b))
    ∙ ap (λ x. le4 (frame_length c) ++ x) (take-add 12 body (drop 4 c))
    ∙ ap (λ x. le4 (frame_length c) ++ (take 12 (drop 4 c) ++ take body x)) (drop-drop 12 4 c)
    ∙ ap (λ n. le4 n ++ (take 12 (drop 4 c) ++ frame_body c)) (frame_size c f)

-- the text of a frame ends with its padding
pub with_padding : (c text out : List ℕ) (n : ℕ) → n ≡ 16 + length text → (out ++ unpadded_text c text) ++ zeros (nla_align n - n) ≡ out ++ frame_text c text
unfolding frame_text
with_padding c text out n e =
    let number = le4 (16 + length text) in
    let head = take 12 (drop 4 c) in
    let rest = zeros (nla_align n - n) in
    append_assoc out (number ++ (head ++ text)) rest
    ∙ ap (λ x. out ++ x) (append_assoc number (head ++ text) rest ∙ ap (λ x. number ++ x) (append_assoc head text rest))
    ∙ ap (λ k. out ++ (number ++ (head ++ (text ++ zeros (nla_align k - k))))) e
