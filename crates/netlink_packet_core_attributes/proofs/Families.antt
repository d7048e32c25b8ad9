-- A typed row writes an attribute with only the kind proper, whatever flag bits it had.
use Rattle.std.proofs.Common.{◌≡◌, ℕ, ◌+◌, Bool, true, false, cond, ap, arith}
use Rattle.netlink_packet_core_grammar.specs.Attributes.{Attribute, proper_kind}
use Rattle.attribute_tables_grammar.specs.Lists.{Row, canonical_form}

proper_kind_only : (t : Bool) (n k : ℕ) → t ≡ true → cond t (proper_kind (proper_kind k) + n) (proper_kind k) ≡ cond t (proper_kind k + n) k
proper_kind_only true n k h = ap (λ m. m + n) (omega arith)
proper_kind_only false n k h = absurd cc

pub rewrite-typed : (r : Row) (e : Attribute) → r.is_typed ≡ true → canonical_form r (record { kind = proper_kind e.kind; payload = e.payload }) ≡ canonical_form r e
rewrite-typed r e h = ap (λ k. record { kind = k; payload = r.rule.canonical e.payload }) (proper_kind_only r.is_typed (cond r.is_nested 0x8000 0) e.kind h)

pub ruleset families = (rewrite-typed)
