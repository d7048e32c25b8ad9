-- The payload found by a name is that of the names that the rows build.
use Rattle.std.proofs.Common.{◌≡◌, ℕ, Bool, true, false, cond, List, [], ◌∷◌, take, Some, refl}
use Rattle.std.specs.List.{list_all}
use Rattle.std.specs.Prelude.{bytes_eq}
use Rattle.std.proofs.lemmas.Bool.{and_parts, cond_both}
use Rattle.link_tables.specs.declared.rows.Held.{Held}
use Rattle.link_tables.specs.declared.rows.Held.TheVariants.{Plain}
use Rattle.link_tables.specs.declared.rows.Shape.TheVariants.{Raw}
use Rattle.attribute_tables_grammar.specs.LookUps.{payload_rule, payload_at, rule_or_raw}
use Rattle.attribute_tables_grammar.specs.Peers.{RuleOfPeers}
use Rattle.attribute_tables_grammar.specs.Tables.{Payload, Table}
use Rattle.link_tables.specs.declared.names.NameRow.{NameRow}
use Rattle.link_tables.specs.Rows.{payload_of}
use Rattle.link_tables.specs.Names.{names_of, held_by_name}

module _ (p : RuleOfPeers) (tables : ℕ → Table) (info : Payload) where
  pub found_name : (rs : List NameRow) (n : List ℕ) → payload_rule p (payload_of tables info (held_by_name rs n)) ≡ rule_or_raw p (payload_at (names_of tables info rs) n)
  found_name [] n = refl
  found_name (r ∷ rs) n =
      let t = bytes_eq n (take r.0 r.1) in
      elim t as (λ b. payload_rule p (payload_of tables info (cond b r.2 (held_by_name rs n))) ≡ rule_or_raw p (cond b (Some (payload_of tables info r.2)) (payload_at (names_of tables info rs) n))) [ true ↦ refl | false ↦ found_name rs n ]

-- a property of each row's payload, and of raw bytes, is one of the payload found by a name
pub held_all : (q : Held → Bool) → q (Plain Raw) ≡ true → (rs : List NameRow) (n : List ℕ) → list_all (λ r. q r.2) rs ≡ true → q (held_by_name rs n) ≡ true
held_all q e [] n h = e
held_all q e (r ∷ rs) n h =
    let a = and_parts (q r.2) (list_all (λ r. q r.2) rs) h in
    cond_both (bytes_eq n (take r.0 r.1)) _ _ (λ held. q held ≡ true) (λ _. a.0) (λ _. held_all q e rs n a.1)
