-- The messages from one offset on, and those from the next.
use Rattle.std.proofs.Common.{◌≡◌, ℕ, ◌+◌, ◌<◌, ◌≤◌, ◌⊎◌, inl, inr, min, None, Ok, List, ◌++◌, length, drop, sym, ap, ◌∙◌, arith}
use Rattle.std.proofs.lemmas.List.{drop-drop, drop_all, drop_min}
use Rattle.std.proofs.lemmas.Bool.{cases_lt}
use Rattle.netlink_packet_core_grammar.specs.Attributes.{nla_align}
use Rattle.link_capture_grammar.specs.Body.{link_body}
use Rattle.link_capture_grammar.specs.Captures.{first_frame, first_fault, texts, shifted}
use Rattle.link_capture_grammar.specs.Numbers.{frame_count}
use Rattle.link_capture_grammar.specs.Laws.{CapturesAreCounted}
use Rattle.linkcap_c.specs.Messages.{IsFollowed}

module _ (counted : CapturesAreCounted link_body) (limit at k : ℕ) (c : List ℕ) where
  abbrev next : ℕ
  next = min (at + k) (length c)

  rest : drop next c ≡ drop (at + k) c
  rest = drop_min (at + k) c

  raised_next : ((at + k) < length c) ⊎ (length c ≤ at + k) → shifted (at + k) (first_fault link_body limit (drop (at + k) c)) ≡ shifted next (first_fault link_body limit (drop next c))
  raised_next (inl h) =
      let same : next ≡ at + k = omega arith in
      ap (λ z. shifted (at + k) (first_fault link_body limit z)) (sym rest) ∙ ap (λ n. shifted n (first_fault link_body limit (drop next c))) (sym same)
  raised_next (inr h) =
      let none : first_fault link_body limit (drop (at + k) c) ≡ None = ap (first_fault link_body limit) (drop_all (at + k) c h) ∙ counted.no_fault limit in
      ap (shifted (at + k)) none ∙ sym (ap (shifted next) (ap (first_fault link_body limit) rest ∙ none))

pub messages_continue : CapturesAreCounted link_body → (limit at n : ℕ) (c text : List ℕ) → at < length c → 16 ≤ n → first_frame link_body limit (drop at c) ≡ Ok (n, text) → IsFollowed limit c at (min (at + nla_align n) (length c))
messages_continue counted limit at n c text inside low h =
    let k = nla_align n in
    let behind : drop k (drop at c) ≡ drop (at + k) c = drop-drop k at c in
    let there = rest counted limit at k c in
    let found : ℕ × List ℕ = (n, text) in
    record {
      further = omega (arith, inside, low);
      fault = counted.next_fault limit at (drop at c) found h ∙ ap (λ z. shifted (at + k) (first_fault link_body limit z)) behind ∙ raised_next counted limit at k c (cases_lt (at + k) (length c));
      counted = counted.next_frames limit (drop at c) found h ∙ ap (λ z. 1 + frame_count link_body limit z) (behind ∙ sym there);
      text = text;
      written = counted.next_text limit (drop at c) found h ∙ ap (λ z. text ++ texts link_body limit z) (behind ∙ sym there);
    }
