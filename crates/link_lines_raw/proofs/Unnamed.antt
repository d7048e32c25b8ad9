-- Raw attributes without a name are determined by their kind and their bytes.
use Rattle.std.proofs.Common.{◌≡◌, ℕ, ◌/◌, ◌%◌, ◌<◌, List, [], ◌∷◌, ◌++◌, drop, get_or, None, refl, sym, ap, ◌∙◌, append-nil, arith}
use Rattle.netlink_packet_core_grammar.specs.Attributes.{Attribute}
use Rattle.netlink_packet_core_grammar.specs.Bytes.{AreBytes}
use Rattle.link_lines_values.specs.declared.values.ShownBy.TheVariants.{Bytes}
use Rattle.link_lines_values.specs.Bytes.{bytes_text}
use Rattle.link_lines_values.specs.Laws.{IsLine}
use Rattle.link_lines_values.proofs.BytesDetermined.{bytes_determined}
use Rattle.link_lines_values.proofs.OneLine.{hex_byte_line, more_line, values_are_lines}
use Rattle.link_lines_raw.specs.declared.raw_tables.RawTable.{RawTable}
use Rattle.link_lines_raw.specs.Attributes.{named_text, raw_row, raw_text, unnamed_text}
use Rattle.link_lines_raw.specs.Laws.{IsEncodable}
use Rattle.link_lines_raw.specs.Lists.{head_text, named_head}
use Rattle.link_lines_raw.proofs.Words.{lines_joined}

of_two_bytes : (k l : ℕ) → k / 256 ≡ l / 256 → k % 256 ≡ l % 256 → k ≡ l
of_two_bytes k l h e = omega arith

two_bytes : (k : ℕ) → k < 65536 → AreBytes (k / 256 ∷ k % 256 ∷ [])
two_bytes k h = (omega arith, (omega arith, record {}))

kinds_determined : (k l : ℕ) (p q : List ℕ) → k < 65536 → l < 65536 → AreBytes p → AreBytes q → unnamed_text k p ≡ unnamed_text l q → (k ≡ l) × (p ≡ q)
kinds_determined k l p q i j a b h =
    let at : ℕ → List ℕ → ℕ = λ n z. get_or z n 0 in
    let digits : bytes_text (k / 256 ∷ k % 256 ∷ []) ≡ bytes_text (l / 256 ∷ l % 256 ∷ []) = λ x. 32 ∷ ap (at 7) h x ∷ ap (at 8) h x ∷ ap (at 9) h x ∷ ap (at 10) h x ∷ [] in
    let same = bytes_determined.bytes (k / 256 ∷ k % 256 ∷ []) (l / 256 ∷ l % 256 ∷ []) (two_bytes k i) (two_bytes l j) digits in
    (of_two_bytes k l (ap (at 0) same) (ap (at 1) same), bytes_determined.bytes p q a b (ap (drop 11) h))

pub unnamed_determined : (e f : Attribute) → IsEncodable e → IsEncodable f → unnamed_text e.kind e.payload ≡ unnamed_text f.kind f.payload → e ≡ f
unnamed_determined e f a b h =
    let r = kinds_determined e.kind f.kind e.payload f.payload a.kind b.kind a.payload b.payload h in
    λ i. record { kind = r.0 i; payload = r.1 i }

-- The line of an attribute without a name, and of its padding.
pub unnamed_is : (level : ℕ) (t : RawTable) (w : List ℕ) (e : Attribute) (padding : List ℕ) → raw_row t e.kind ≡ None →
    unnamed_text e.kind e.payload ++ 10 ∷ padding ≡ raw_text level t w e ++ 10 ∷ (padding ++ head_text level (named_head level (raw_row t e.kind) w e))
unfolding raw_text
unnamed_is level t w e padding h =
    ap (λ z. unnamed_text e.kind e.payload ++ 10 ∷ z) (sym (append-nil padding))
    ∙ ap (λ o. named_text level o w e ++ 10 ∷ (padding ++ head_text level (named_head level o w e))) (sym h)

pub kind_line : (k : ℕ) (p : List ℕ) → IsLine (unnamed_text k p)
kind_line k p =
    let high = hex_byte_line (k / 256) in
    let low = hex_byte_line (k % 256) in
    search (lines_joined, more_line, values_are_lines.line Bytes p refl) depth 14
