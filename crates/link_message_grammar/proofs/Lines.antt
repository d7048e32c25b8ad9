-- The look-up of a kind finds its row in the table of the family.
use Rattle.std.proofs.Common.{◌≡◌, ℕ, Bool, true, false, cond, refl, sym, ap, subst, ◌∙◌}
use Rattle.std.specs.Prelude.{◌==◌}
use Rattle.std.proofs.lemmas.Bool.{eqb-true}
use Rattle.attribute_tables_grammar.specs.Lists.{without_context}
use Rattle.attribute_tables_grammar.specs.LookUps.{line_at, row_of_line}
use Rattle.attribute_tables_grammar.specs.Peers.{RuleOfPeers}
use Rattle.attribute_tables_grammar.specs.Tables.{Table, grammar}
use Rattle.attribute_tables_grammar.proofs.LookUps.{grammar-table}
use Rattle.link_message_grammar.specs.Body.{attribute_row}
use Rattle.link_message_grammar.specs.LinkMessage.{Family, unspec, bridge, inet_6, other, protocol_line, with_protocol, before_protinfo, after_protinfo, link_table, link_line}
use Rattle.link_message_grammar.specs.Laws.{KindsAreLookedUp}

below_same : (t s : Table) (k : ℕ) → line_at t k ≡ line_at s k → line_at (before_protinfo t) k ≡ line_at (before_protinfo s) k
below_same t s k h = cc

past : (f : Family) (k : ℕ) → (k == 12) ≡ false → line_at (with_protocol f (after_protinfo f)) k ≡ line_at (after_protinfo f) k
past unspec k e = refl
past bridge k e = ap (λ b. cond b (protocol_line bridge) (line_at (after_protinfo bridge) k)) e
past inet_6 k e = ap (λ b. cond b (protocol_line inet_6) (line_at (after_protinfo inet_6) k)) e
past other k e = refl

at_twelve : (f : Family) → line_at (link_table f) 12 ≡ link_line f 12
at_twelve unspec = refl
at_twelve bridge = refl
at_twelve inet_6 = refl
at_twelve other = refl

lines_by : (f : Family) (k : ℕ) (b : Bool) → (k == 12) ≡ b → line_at (link_table f) k ≡ link_line f k
lines_by f k true e = subst (λ n. line_at (link_table f) n ≡ link_line f n) (sym (eqb-true k 12 e)) (at_twelve f)
lines_by f k false e =
    below_same (with_protocol f (after_protinfo f)) (after_protinfo f) k (past f k e)
    ∙ sym (ap (λ b. cond b (protocol_line f) (line_at (before_protinfo (after_protinfo f)) k)) e)

pub kinds_are_looked_up : KindsAreLookedUp
kinds_are_looked_up f k = lines_by f k (k == 12) refl

pub attributes-grammar : (p : RuleOfPeers) (f : Family) → grammar p (link_table f) ≡ without_context (attribute_row p f)
attributes-grammar p f = grammar-table p (link_table f) ∙ ap without_context (λ i k. row_of_line p (kinds_are_looked_up f k i))
