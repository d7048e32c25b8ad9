use Rattle.std.proofs.Common.{◌≡◌, ◌<◌, ℕ, List, length, Option, Some, None, Bor, option_map, arith, rules}
use Rattle.std.specs.Prelude.{MatchOption}
use Rattle.std.specs.List.{position_or_len, before_first, after_first}
use Rattle.linkshow_program.specs.Arguments.{assigned, is_equals}
use Rattle.linkshow_program.proofs.arguments.split_value.Goals as goal

abbrev Split : List ℕ → Option (Bor (List ℕ) × Bor (List ℕ)) → Type 0
Split s r = MatchOption r (position_or_len is_equals s ≡ length s) (λ x. (x.0.now ≡ before_first is_equals s) × (x.1.now ≡ after_first is_equals s) × (position_or_len is_equals s < length s))

parts_of : (s : List ℕ) (r : Option (Bor (List ℕ) × Bor (List ℕ))) → Split s r → option_map (λ parts. (parts.0.now, parts.1.now)) r ≡ assigned s
parts_of s None h = search (rules, h)
parts_of s (Some x) h = search (rules, arith, h)

pub returns : goal.returns
returns c = parts_of c.args.word.now c.split_once.result (c.split_once.ensures.byte (omega arith) (λ w o h. h))
