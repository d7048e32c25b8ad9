-- The layer types that have a variant are those that the grammar lists.
use Rattle.std.proofs.Common.{◌≡◌, ℕ, Bool, true, false, List, [], ◌∷◌, map, refl, arith}
use Rattle.std.specs.Prelude.{cond, ◌==◌, ◌||◌, if◌then◌else◌}
use Rattle.std.specs.List.{list_any}
use Rattle.std.proofs.lemmas.Bool.{eqb-true}
use Rattle.std.proofs.lemmas.Bool.Decides.{nat_tests}
use Rattle.netlink_packet_core.specs.Named.{numbered_by}
use Rattle.link_message_grammar.specs.Body.{has_layer_type_name}
use Rattle.link_message_types.specs.LinkLayerTypes.{link_layer_type_number, link_layer_type_of, listed_link_layer_types}
use Rattle.link_message_types.specs.declared.link_layer_type.LinkLayerType.{LinkLayerType}

-- The number of a value that is found by its number.
numbered : {V : Type 0} (number : V → ℕ) (vs : List V) (w : V) (n : ℕ) → number (numbered_by number vs (λ _. w) n) ≡ cond (list_any (λ m. m == n) (map number vs)) n (number w)
numbered number [] w n = refl
numbered number (v ∷ vs) w n = by_test (number v == n) (n == number v) refl refl (numbered number vs w n)
  where
    by_test : (s t : Bool) → (number v == n) ≡ s → (n == number v) ≡ t → number (numbered_by number vs (λ _. w) n) ≡ cond (list_any (λ m. m == n) (map number vs)) n (number w) → number (if t then v else numbered_by number vs (λ _. w) n) ≡ cond (s || list_any (λ m. m == n) (map number vs)) n (number w)
    by_test true true p q more = eqb-true (number v) n p
    by_test false false p q more = more
    by_test true false p q more = absurd (grind (arith, nat_tests))
    by_test false true p q more = absurd (grind (arith, nat_tests))

pub layer_type_numbered : (n : ℕ) → link_layer_type_number (link_layer_type_of n) ≡ cond (has_layer_type_name n) n 65535
unfolding link_layer_type_of has_layer_type_name
layer_type_numbered n = numbered link_layer_type_number listed_link_layer_types LinkLayerType.Void n

pub ruleset listed_types = (layer_type_numbered)
