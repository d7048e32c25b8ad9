-- When two attributes under a table are equivalent, and two lists, by their next attributes.
use Rattle.std.proofs.Common.{◌≡◌, ◌<◌, ℕ, zero, suc, Bool, true, false, eqb, List, [], ◌∷◌, length, Option, Some, None, refl, ap, ◌∙◌, arith}
use Rattle.std.proofs.lemmas.Bool.{le-ltb, ne_eqb}
use Rattle.std.specs.Prelude.{◌==◌, ◌&&◌, ◌||◌, nat_lt}
use Rattle.netlink_packet_core_grammar.specs.Attributes.{Attribute, first_attribute, proper_kind}
use Rattle.attribute_tables_grammar.specs.Rules.{Rule, shape_rule}
use Rattle.attribute_tables_grammar.specs.Shapes.{raw}
use Rattle.attribute_tables_grammar.specs.Tables.{info_row, row_in_force}
use Rattle.attribute_tables_grammar.specs.Lists.{no_kind_in_force, Context, Row, row_at, same_attribute, list_rule, ListForm, any, Grammar}
use Rattle.attribute_tables_grammar.specs.Peers.{RuleOfPeers}
use Rattle.attribute_tables_grammar.specs.Sameness.{kept_of, same_rests, continues, same_kind_by_first_row}
use Rattle.attribute_tables_grammar.specs.Laws.{RowsAreLookedUp, KeptAttributesUnfold, SamenessUnfolds, AttributesAreCompared}
use Rattle.link_tables.specs.declared.rows.Held.{Held}
use Rattle.link_tables.specs.declared.rows.Form.{Form}
use Rattle.link_tables.specs.declared.rows.Held.TheVariants.{List as HeldList}
use Rattle.link_interpreter.specs.declared.same.Next.{Next}
use Rattle.link_interpreter.specs.declared.same.Next.TheVariants.{Kept, End, Cut}
use Rattle.link_tables.specs.declared.table.Table.{Table}
use Rattle.link_tables.specs.Rows.{form_of}
use Rattle.link_tables.specs.Tables.{held_rule, table_of}
use Rattle.link_interpreter.specs.Measures.{rows_of}
use Rattle.link_interpreter.specs.Sameness.{next_of}
use Rattle.link_interpreter.proofs.Held.{list_held}

-- two attributes under one look-up, when the first one's row holds the payload of this rule
module _ (law : AttributesAreCompared) (f : ℕ → Row) (e h : Attribute) where
  pub holds_rule : (r : Rule) (s : Bool) → r ≡ (row_at f e).rule → true ≡ same_kind_by_first_row (row_at f e) e.kind h.kind → s ≡ r.same e.payload h.payload → s ≡ same_attribute (row_at f e) (row_at f h) e h
  holds_rule r s is kinds same =
      same ∙ ap (λ r. r.same e.payload h.payload) is
      ∙ ap (λ b. b && (row_at f e).rule.same e.payload h.payload) kinds ∙ law.by_kind f e h

  pub other_kinds : false ≡ same_kind_by_first_row (row_at f e) e.kind h.kind → false ≡ same_attribute (row_at f e) (row_at f h) e h
  other_kinds kinds = ap (λ b. b && (row_at f e).rule.same e.payload h.payload) kinds ∙ law.by_kind f e h

-- kinds 1 to 5 of link info are typed, in every context
typed_in_force : (o : Option (List ℕ)) (f : List ℕ → Rule) → true ≡ (row_in_force o f).is_typed
typed_in_force None f = refl
typed_in_force (Some n) f = refl

and_false : (b : Bool) → (b && false) ≡ false
and_false true = refl
and_false false = refl

module _ (d q : List ℕ → Rule) (c : Context) where
  untyped : (k : ℕ) → 5 < k → (nat_lt 0 k && nat_lt k 6) ≡ (info_row d q c k).is_typed
  untyped k h =
      ap (λ b. nat_lt 0 k && b) (le-ltb k 6 (omega arith)) ∙ and_false (nat_lt 0 k)
      ∙ simp (ne_eqb k 1 (λ e. omega arith), ne_eqb k 2 (λ e. omega arith), ne_eqb k 3 (λ e. omega arith), ne_eqb k 4 (λ e. omega arith), ne_eqb k 5 (λ e. omega arith))

  typed_info : (k : ℕ) → (nat_lt 0 k && nat_lt k 6) ≡ (info_row d q c k).is_typed
  typed_info zero = refl
  typed_info (suc zero) = refl
  typed_info (suc (suc zero)) = typed_in_force c.kind d
  typed_info (suc (suc (suc zero))) = typed_in_force c.kind (λ n. shape_rule raw)
  typed_info (suc (suc (suc (suc zero)))) = refl
  typed_info (suc (suc (suc (suc (suc zero))))) = typed_in_force c.port_kind q
  typed_info (suc (suc (suc (suc (suc (suc k)))))) = untyped (suc (suc (suc (suc (suc (suc k)))))) (omega arith)

  pub info_kinds : (k l : ℕ) → (k == l || (nat_lt 0 (proper_kind k) && nat_lt (proper_kind k) 6 && proper_kind k == proper_kind l)) ≡ same_kind_by_first_row (info_row d q c (proper_kind k)) k l
  info_kinds k l = ap (λ b. k == l || (b && proper_kind k == proper_kind l)) (typed_info (proper_kind k))

-- a list as the payload of a row
pub held_same : RowsAreLookedUp → (p : RuleOfPeers) (held : Held) (form : Form) (t : Table) → held ≡ HeldList form t → (a b : List ℕ) → (list_rule (form_of form) (rows_of p (table_of t.0))).same a b ≡ (held_rule p held).same a b
held_same law p held form t e a b = ap (λ r. r.same a b) (list_held law p held form t e)

module _ (law : SamenessUnfolds) (form : ListForm) (g : Grammar) (a b : List ℕ) where
  pub left_longer : (e : Attribute) (x : List ℕ) (r : Next) → kept_of form a ≡ continues form e x → ((f : _) (y : _) → r ≡ Kept f y → ⊥) → kept_of form b ≡ next_of form r → false ≡ same_rests form g no_kind_in_force a b
  left_longer e x (Kept f y) k not l = absurd (not f y refl)
  left_longer e x End k not l = law.right_ended form g no_kind_in_force a b e x k l
  left_longer e x Cut k not l = law.right_stopped form g no_kind_in_force a b l

  pub left_shorter : (r : Next) → kept_of form a ≡ Some [] → (r ≡ End → ⊥) → kept_of form b ≡ next_of form r → false ≡ same_rests form g no_kind_in_force a b
  left_shorter (Kept f y) k not l = law.left_ended form g no_kind_in_force a b (record { kind = f.kind; payload = f.payload.now }) y.now k l
  left_shorter End k not l = absurd (not refl)
  left_shorter Cut k not l = law.right_stopped form g no_kind_in_force a b l

-- a list of any attributes has a next one, and the other ends
module _ (kept : KeptAttributesUnfold) (law : SamenessUnfolds) (g : Grammar) (c : Context) (a : List ℕ) where
  pub other_ended : (e : Attribute) (x : List ℕ) → kept_of any a ≡ continues any e x → (b : List ℕ) → first_attribute b ≡ None → false ≡ same_rests any g c a b
  other_ended e x k [] f = law.right_ended any g c a [] e x k (kept.ended any [] refl)
  other_ended e x k (y ∷ b) f = law.right_stopped any g c a (y ∷ b) (kept.stopped any (y ∷ b) f (omega arith))

  other_continues : kept_of any a ≡ Some [] → (b : List ℕ) → 0 < length b → (o : Option (Attribute × List ℕ)) → first_attribute b ≡ o → false ≡ same_rests any g c a b
  other_continues k b l (Some (f, y)) h = law.left_ended any g c a b f y k (kept.more any b f y h refl)
  other_continues k b l None h = law.right_stopped any g c a b (kept.stopped any b h l)

  pub both_ended : length a ≡ 0 → (b : List ℕ) → eqb (length b) 0 ≡ same_rests any g c a b
  both_ended l [] = law.ended any g c a [] (kept.ended any a l) (kept.ended any [] refl)
  both_ended l (y ∷ b) = ne_eqb (suc (length b)) 0 (λ h. absurd (omega (arith, h))) ∙ other_continues (kept.ended any a l) (y ∷ b) (omega arith) (first_attribute (y ∷ b)) refl
