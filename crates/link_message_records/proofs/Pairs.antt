-- Fields, one after the other, read and written.
use Rattle.std.proofs.Common.{◌≡◌, ℕ, zero, suc, refl, ◌+◌, List, ◌++◌, length, take, drop, sym, ap, ◌∙◌, arith, append_assoc, length-append, length-drop, append-nil}
use Rattle.std.proofs.Math.ListN.{drop_of_length-le}
use Rattle.std.proofs.Math.Seq.{take-add}
use Rattle.std.proofs.lemmas.List.{drop-drop, take_at, drop_at}
use Rattle.netlink_packet_core_grammar.specs.Attributes.{zeros}
use Rattle.link_message_records.specs.Records.{with_zeros}

pub read_both : (m n : ℕ) (prefix a b rest : List ℕ) → a ≡ take m prefix → rest ≡ drop m prefix → b ≡ take n rest → a ++ b ≡ take (m + n) prefix
read_both m n prefix a b rest p q r = ap (λ x. x ++ b) p ∙ ap (λ x. take m prefix ++ x) (r ∙ ap (take n) q) ∙ sym (take-add m n prefix)

pub write_both : (x y b w r0 r1 z : List ℕ) (m n k : ℕ) → length x ≡ m → w ≡ x ++ drop m b → k ≡ m → r0 ≡ take k w → r1 ≡ drop k w → z ≡ y ++ drop n r1 → r0 ++ z ≡ (x ++ y) ++ drop (m + n) b
write_both x y b w r0 r1 z m n k e p q r s t =
    let prefix : r0 ≡ x = r ∙ ap (λ i. take i w) q ∙ ap (take m) p ∙ take_at x (drop m b) m e in
    let back : r1 ≡ drop m b = s ∙ ap (λ i. drop i w) q ∙ ap (drop m) p ∙ drop_at x (drop m b) m e in
    ap (λ l. l ++ z) prefix
    ∙ ap (λ l. x ++ l) (t ∙ ap (λ l. y ++ drop n l) back ∙ ap (λ l. y ++ l) (drop-drop n m b))
    ∙ sym (append_assoc x y (drop (m + n) b))

-- Fields followed by zeros.
pub padded : (x f w r0 r1 z t : List ℕ) (m p n k : ℕ) → length x ≡ m → m + p ≡ n → length f ≡ n → w ≡ x ++ drop m f → k ≡ m → r0 ≡ take k w → r1 ≡ drop k w → z ≡ zeros (length r1) → t ≡ x ++ zeros p → r0 ++ z ≡ t
padded x f w r0 r1 z t m p n k e a l h q r s u g =
    let prefix : r0 ≡ x = r ∙ ap (λ i. take i w) q ∙ ap (take m) h ∙ take_at x (drop m f) m e in
    let back : r1 ≡ drop m f = s ∙ ap (λ i. drop i w) q ∙ ap (drop m) h ∙ drop_at x (drop m f) m e in
    let many : length r1 ≡ p = omega (arith, ap length back, length-drop m f) in
    ap (λ i. i ++ z) prefix ∙ ap (λ i. x ++ i) (u ∙ ap zeros many) ∙ sym g

pub padding_is : (n : ℕ) (x : List ℕ) → with_zeros n x ≡ x ++ zeros n
padding_is zero x = sym (append-nil x)
padding_is (suc n) x = refl

pub ruleset paddings = (padding_is)

pub both_sizes : (a b : List ℕ) → length (a ++ b) ≡ length a + length b
both_sizes a b = length-append a b

pub ruleset pairs = (both_sizes)

-- A text of the buffer's size leaves nothing of the buffer.
pub whole_text : (t b : List ℕ) → length b ≡ length t → t ++ drop (length t) b ≡ t
whole_text t b e = ap (λ x. t ++ x) (drop_of_length-le b (omega arith)) ∙ append-nil t

pub ruleset whole_texts = (whole_text)
