-- The line of a link's header determines it.
use Rattle.std.proofs.Common.{◌≡◌, ℕ, ◌≤◌, List, [], ◌∷◌, ◌++◌, length, drop, refl, sym, ap, ◌∙◌, arith}
use Rattle.std.specs.Prelude.{codes, decimal, slice_index}
use Rattle.std.proofs.lemmas.List.{append_cancel_left}
use Rattle.netlink_packet_core_grammar.specs.Bytes.{AreBytes}
use Rattle.netlink_packet_core_grammar.specs.Numbers.{u16_at, u32_at}
use Rattle.link_lines_values.specs.Flags.{word_flags}
use Rattle.link_lines_values.specs.Indents.{indent}
use Rattle.link_lines_values.specs.Names.{named_number}
use Rattle.link_lines_texts.specs.Links.{address_families, labelled, layer_types, link_flag_names, link_flags, link_header_line, link_numbers}
use Rattle.link_lines_values.proofs.NumbersDetermined.{decimal_determined, named_determined, word_determined}
use Rattle.link_lines_values.proofs.ValuesDetermined.{bytes_at}
use Rattle.link_lines_texts.proofs.HeadersDetermined.{four_further, part_determined, two_further, u16_small, u32_small}
use Rattle.link_lines_texts.proofs.LineCuts.{following}

abbrev index_part : List ℕ → List ℕ
index_part b = labelled (codes " index ") (decimal (u32_at 4 b))

abbrev layer_part : List ℕ → List ℕ
layer_part b = labelled (codes " type ") (named_number layer_types (u16_at 2 b)) ++ index_part b

abbrev change_part : List ℕ → List ℕ
change_part b = labelled (codes " change ") (word_flags link_flag_names (u32_at 12 b)) ++ 10 ∷ []

-- Two bodies of links with the same line of their headers, and what follows it.
pub record SameLink (p q s t : List ℕ) : Type 0 where
  pub family : slice_index p 0 ≡ slice_index q 0
  pub bytes : slice_index p 1 ≡ slice_index q 1 → drop 16 p ≡ drop 16 q → p ≡ q
  pub rest : s ≡ t

two_are : (p : List ℕ) → 2 ≤ length p → p ≡ slice_index p 0 ∷ slice_index p 1 ∷ drop 2 p
two_are (a ∷ b ∷ p) l = refl
two_are p l = absurd (omega arith)

pub link_header_determined : (level : ℕ) (p q s t : List ℕ) → AreBytes p → AreBytes q → 16 ≤ length p → 16 ≤ length q → link_header_line level p ++ s ≡ link_header_line level q ++ t → SameLink p q s t
unfolding link_numbers link_flags
link_header_determined level p q s t a b l m e =
    let own : List ℕ → List ℕ = λ b. link_numbers b ++ link_flags b in
    let shown = append_cancel_left (indent level) (own p ++ s) (own q ++ t) (following (indent level) (own p) s (indent level) (own q) t e) in
    let f = part_determined (codes "ifinfomsg family ") (named_number address_families) (named_determined address_families) _ _ (layer_part p) (layer_part q) (link_flags p ++ s) (link_flags q ++ t)
    (omega (arith, bytes_at p a 0)) (omega (arith, bytes_at q b 0)) (omega arith) (omega arith) (following (link_numbers p) (link_flags p) s (link_numbers q) (link_flags q) t shown) in
    let y = part_determined (codes " type ") (named_number layer_types) (named_determined layer_types) _ _ (index_part p) (index_part q) (link_flags p ++ s) (link_flags q ++ t)
    (u16_small 2 p a) (u16_small 2 q b) (omega arith) (omega arith) f.1 in
    let x = decimal_determined _ _ (link_flags p ++ s) (link_flags q ++ t) (u32_small 4 p a) (u32_small 4 q b) (omega arith) (omega arith) (ap (drop 7) y.1) in
    let flags = word_flags link_flag_names in
    let g = part_determined (codes " flags ") flags (word_determined link_flag_names) _ _ (change_part p) (change_part q) s t (u32_small 8 p a) (u32_small 8 q b) (omega arith) (omega arith) x.1 in
    let c = part_determined (codes " change ") flags (word_determined link_flag_names) _ _ (10 ∷ []) (10 ∷ []) s t (u32_small 12 p a) (u32_small 12 q b) (omega arith) (omega arith) g.1 in
    let numbers : drop 16 p ≡ drop 16 q → drop 2 p ≡ drop 2 q =
    λ r. two_further 2 p q a b (omega arith) (omega arith) y.0 (four_further 4 p q a b (omega arith) (omega arith) x.0
    (four_further 8 p q a b (omega arith) (omega arith) g.0 (four_further 12 p q a b (omega arith) (omega arith) c.0 r))) in
    record {
      family = f.0;
      bytes = λ z r. let n = numbers r in two_are p (omega arith) ∙ (λ i. f.0 i ∷ z i ∷ n i) ∙ sym (two_are q (omega arith));
      rest = ap (drop 1) c.1;
    }
