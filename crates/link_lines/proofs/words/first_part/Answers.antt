use Rattle.std.proofs.Common.{◌≡◌, ◌∷◌, ◌<◌, ◌+◌, [], length, Option, Some, None, Bor, List, ℕ, sym, ap, ◌∙◌, arith}
use Rattle.std.specs.Prelude.{IfSome, IfNone, MatchOption}
use Rattle.std.specs.List.{position_or_len, before_first, after_first}
use Rattle.std.proofs.lemmas.List.{length-drop}
use Rattle.link_lines.specs.Words.{parts}
use Rattle.link_lines.proofs.WordLists.{comma, one_part, more_parts}
use Rattle.link_lines.proofs.words.first_part.Goals as goal

abbrev Split : List ℕ → Option (Bor (List ℕ) × Bor (List ℕ)) → Type 0
Split s r = MatchOption r (position_or_len comma s ≡ length s) (λ x. (x.0.now ≡ before_first comma s) × (x.1.now ≡ after_first comma s) × (position_or_len comma s < length s))

some_of : (s : List ℕ) (r : Option (Bor (List ℕ) × Bor (List ℕ))) → Split s r → IfSome r (λ r. parts s ≡ r.0.now ∷ parts r.1.now)
some_of s None h = tt
some_of s (Some x) h = more_parts s h.2 ∙ (λ i. sym h.0 i ∷ parts (sym h.1 i))

shorter_of : (s : List ℕ) (r : Option (Bor (List ℕ) × Bor (List ℕ))) → Split s r → IfSome r (λ r. length r.1.now < length s)
shorter_of s None h = tt
shorter_of s (Some x) h = omega (arith, ap length h.1, length-drop (position_or_len comma s + 1) s, h.2)

none_of : (s : List ℕ) (r : Option (Bor (List ℕ) × Bor (List ℕ))) → Split s r → IfNone r (parts s ≡ s ∷ [])
none_of s None h = one_part s h
none_of s (Some x) h = tt

pub returns : goal.returns
returns c =
    let split : Split c.args.words.now c.split_once.result = c.split_once.ensures.byte (omega arith) (λ w o h. h) in
    record {
      some = some_of c.args.words.now c.split_once.result split;
      shorter = shorter_of c.args.words.now c.split_once.result split;
      none = none_of c.args.words.now c.split_once.result split;
    }
