-- A number is zero if and only if the sum of its bytes is.
use Rattle.std.proofs.Common.{◌≡◌, ℕ, zero, suc, ◌+◌, ◌<◌, Bool, true, false, List, [], ◌∷◌, length, refl, sym, ap, ◌∙◌, arith}
use Rattle.std.specs.Prelude.{◌==◌, if◌then◌else◌, slice_index}
use Rattle.std.proofs.lemmas.Bool.{eqb-true}
use Rattle.netlink_packet_core_grammar.specs.Numbers.{le4}
use Rattle.netlink_packet_core_grammar.specs.Booleans.{boolean_of}
use Rattle.attribute_tables_grammar.specs.Shapes.{number, number_boolean}
use Rattle.link_info_types.specs.NetkitTypes.{netkit_scrub_number, netkit_scrub_of}
use Rattle.link_info_types.specs.declared.netkit.NetkitScrub.{NetkitScrub}

of_more : (n : ℕ) → 0 < n → boolean_of n ≡ 1
of_more zero h = absurd (omega arith)
of_more (suc n) h = refl

word : ℕ → List ℕ
word n = n ∷ 0 ∷ 0 ∷ 0 ∷ []

default_number : (c : Bool) → netkit_scrub_number (if c then NetkitScrub.Default else NetkitScrub.Default) ≡ 1
default_number true = refl
default_number false = refl

scrub_by : (s n : ℕ) (t : Bool) → (s == 0) ≡ t → (s ≡ 0 → n ≡ 0) → (0 < s → 0 < n) → netkit_scrub_number (netkit_scrub_of s) ≡ boolean_of n
scrub_by s n true e z p =
    ap (λ x. netkit_scrub_number (if x then NetkitScrub.None else (if s == 1 then NetkitScrub.Default else NetkitScrub.Default))) e ∙ sym (ap boolean_of (z (eqb-true s 0 e)))
scrub_by zero n false e z p = absurd cc
scrub_by (suc s) n false e z p =
    ap (λ x. netkit_scrub_number (if x then NetkitScrub.None else (if suc s == 1 then NetkitScrub.Default else NetkitScrub.Default))) e
    ∙ default_number (suc s == 1)
    ∙ sym (of_more n (p (omega arith)))

boolean_number : (n m : ℕ) → m ≡ boolean_of n → le4 m ≡ word (boolean_of n)
unfolding le4 word
boolean_number zero m h = ap le4 h
boolean_number (suc n) m h = ap le4 h

scrub_of_bytes : (a b c d : ℕ) → le4 (netkit_scrub_number (netkit_scrub_of (a + b + c + d))) ≡ number_boolean (a ∷ b ∷ c ∷ d ∷ [])
unfolding word
scrub_of_bytes a b c d =
    boolean_number (number (a ∷ b ∷ c ∷ d ∷ [])) (netkit_scrub_number (netkit_scrub_of (a + b + c + d)))
    (scrub_by (a + b + c + d) (number (a ∷ b ∷ c ∷ d ∷ [])) (a + b + c + d == 0) refl (λ z. omega arith) (λ p. omega arith))

scrub_of_slice : (p : List ℕ) → length p ≡ 4 → le4 (netkit_scrub_number (netkit_scrub_of (slice_index p 0 + slice_index p 1 + slice_index p 2 + slice_index p 3))) ≡ number_boolean p
scrub_of_slice (a ∷ b ∷ c ∷ d ∷ []) h = scrub_of_bytes a b c d
scrub_of_slice [] h = absurd (omega arith)
scrub_of_slice (a ∷ []) h = absurd (omega arith)
scrub_of_slice (a ∷ b ∷ []) h = absurd (omega arith)
scrub_of_slice (a ∷ b ∷ c ∷ []) h = absurd (omega arith)
scrub_of_slice (a ∷ b ∷ c ∷ d ∷ e ∷ p) h = absurd (omega arith)

pub scrub_of_parts : (p : List ℕ) (w x y z : ℕ) → length p ≡ 4 → w ≡ slice_index p 0 → x ≡ slice_index p 1 → y ≡ slice_index p 2 → z ≡ slice_index p 3 → le4 (netkit_scrub_number (netkit_scrub_of (w + x + y + z))) ≡ number_boolean p
scrub_of_parts p w x y z h a b c d =
    let sum : w + x + y + z ≡ slice_index p 0 + slice_index p 1 + slice_index p 2 + slice_index p 3 = omega (arith, a, b, c, d) in
    ap (λ s. le4 (netkit_scrub_number (netkit_scrub_of s))) sum ∙ scrub_of_slice p h
