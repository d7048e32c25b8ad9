-- The data under a name that isn't listed are raw bytes.
use Rattle.std.proofs.Common.{◌≡◌, ℕ, Bool, true, false, List, refl, sym, ap, ◌∙◌}
use Rattle.std.specs.Prelude.{not, bytes_eq}
use Rattle.std.proofs.lemmas.Bool.{and_parts, and_from}
use Rattle.std.proofs.lemmas.Slice.Eq.{bytes_eq-Decides}
use Rattle.attribute_tables_grammar.specs.Rules.{Rule, raw_rule}
use Rattle.attribute_tables_grammar.specs.Peers.{RuleOfPeers}
use Rattle.link_info_grammar.specs.KindNames.{is_unlisted, are_listed}
use Rattle.attribute_tables_grammar.specs.Tables.{Names, Names.others, Names.name, rule, rule_of_name, lacks_name}

skip : (b : Bool) (r s : Rule) → not b ≡ true → elim b as (λ x. Rule) [ true ↦ r | false ↦ s ] ≡ s
skip true r s h = absurd cc
skip false r s h = refl

pub named-lacks : (p : RuleOfPeers) (ns : Names) (n : List ℕ) → lacks_name n ns ≡ true → rule_of_name p ns n ≡ raw_rule
named-lacks p others n h = refl
named-lacks p (name m s ns) n h =
    let b = and_parts (not (bytes_eq n m)) (lacks_name n ns) h in
    skip (bytes_eq n m) (rule p s) (rule_of_name p ns n) b.0 ∙ named-lacks p ns n b.1

other : (b u : Bool) → (b ≡ true → u ≡ true) → not u ≡ true → not b ≡ true
other true true f h = absurd cc
other true false f h = absurd (let e : false ≡ true = f refl in cc)
other false u f h = refl

-- a name that isn't listed has no payload
pub lacks_name-unlisted : (ns : Names) (names : List (List ℕ)) (n : List ℕ) → are_listed ns names ≡ true → is_unlisted names n ≡ true → lacks_name n ns ≡ true
lacks_name-unlisted others names n h u = refl
lacks_name-unlisted (name m s ns) names n h u =
    let b = and_parts (not (is_unlisted names m)) (are_listed ns names) h in
    and_from (not (bytes_eq n m)) (lacks_name n ns) (other (bytes_eq n m) (is_unlisted names m) (λ e. ap (is_unlisted names) (sym ((bytes_eq-Decides n m).0 e)) ∙ u) b.0)
    (lacks_name-unlisted ns names n b.1 u)
