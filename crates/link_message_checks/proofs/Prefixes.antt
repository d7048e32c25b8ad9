-- The size of a body's canonical prefix.
use Rattle.std.proofs.Common.{◌≡◌, ℕ, ◌+◌, ◌-◌, ◌≤◌, ◌++◌, Bool, true, false, cond, List, length, take, drop, refl, sym, ap, subst, ◌∙◌, append_assoc, arith}
use Rattle.std.specs.Prelude.{◌&&◌}
use Rattle.std.proofs.Math.Seq.{take-add}
use Rattle.std.proofs.lemmas.Bool.{and_parts}
use Rattle.std.proofs.lemmas.List.{drop-drop, length-append, length-drop, length-take-le}
use Rattle.attribute_tables_grammar.specs.Laws.{RowsAreLookedUp}
use Rattle.attribute_tables_grammar.specs.Lists.{any, list_rule}
use Rattle.attribute_tables_grammar.specs.LookUps.{rows_rule}
use Rattle.attribute_tables_grammar.specs.Peers.{RuleOfPeers}
use Rattle.attribute_tables_grammar.specs.Rules.{Rule}
use Rattle.attribute_tables_grammar.specs.Tables.{Payload.list, Table, rule}
use Rattle.link_message_grammar.specs.Body.{attribute_bytes, body_rule, family, header_text, attributes_rule}
use Rattle.link_message_grammar.specs.LinkMessage.{Family, link_table}
use Rattle.link_message_grammar.specs.Laws.{BodiesAreHeadersAndAttributes}
use Rattle.link_interpreter.specs.Prefixes.{IsCanonicalPrefix, RestIsIndependent}
use Rattle.link_interpreter.specs.Measures.{rows_of}
use Rattle.link_message_checks.specs.Prefixes.{IsBodyPrefix}

-- The attributes of a family are a list of the rows that are looked up.
pub attributes_are_rows : RowsAreLookedUp → (p : RuleOfPeers) (f : Family) (t : Table) → t ≡ link_table f → list_rule any (rows_of p t) ≡ attributes_rule p f
unfolding rows_rule attributes_rule
attributes_are_rows law p f t e = sym (law.payload p any t) ∙ ap (λ t. rule p (list any t)) e

-- When no prefix is reported.
pub no_prefix : (p : RuleOfPeers) (b : List ℕ) → IsBodyPrefix p b 0
no_prefix p b = record { within = omega arith; header = λ l. absurd (omega (arith, l)); attributes = λ l. absurd (omega (arith, l)) }

-- A canonical header, and the canonical prefix of its attributes; none is reported if that is too long for its number.
pub body_prefix : (p : RuleOfPeers) (b : List ℕ) (already_canonical small : Bool) (n : ℕ) → 16 ≤ length b → (already_canonical ≡ true → header_text b ≡ take 16 b) → IsCanonicalPrefix (attributes_rule p (family b)) (attribute_bytes b) n → IsBodyPrefix p b (cond (already_canonical && small) (16 + n) 0)
body_prefix p b true true n long h f = record {
  within = omega (arith, f.within, length-drop 16 b, long);
  header = λ l. h refl;
  attributes = λ l. subst (IsCanonicalPrefix (attributes_rule p (family b)) (attribute_bytes b)) (omega arith) f;
}
body_prefix p b true false n long h f = no_prefix p b
body_prefix p b false small n long h f = no_prefix p b

-- Such a prefix is followed by accepted attributes, and the text continues with theirs.
pub record BodyContinues (p : RuleOfPeers) (b : List ℕ) (n : ℕ) : Type 0 where
  pub accepted : (attributes_rule p (family b)).accepted (drop n b) ≡ true
  pub fits : (attributes_rule p (family b)).fits (drop n b) ≡ true
  pub text : (body_rule p).canonical b ≡ take n b ++ (attributes_rule p (family b)).canonical (drop n b)
  pub size : length ((body_rule p).canonical b) ≡ n + length ((attributes_rule p (family b)).canonical (drop n b))

pub body_continues : (p : RuleOfPeers) → BodiesAreHeadersAndAttributes p → (b : List ℕ) (n : ℕ) → 16 ≤ n → IsBodyPrefix p b n → (body_rule p).accepted b ≡ true → (body_rule p).fits b ≡ true → BodyContinues p b n
body_continues p law b n long f a fit =
    let inner : Rule = attributes_rule p (family b) in
    let parts = law b in
    let inside : RestIsIndependent inner (attribute_bytes b) (take (n - 16) (attribute_bytes b)) (drop (n - 16) (attribute_bytes b)) = (f.attributes long).continues (and_parts _ _ (sym parts.accepted ∙ a)).1 (sym parts.fits ∙ fit) in
    let whole : 16 + (n - 16) ≡ n = omega (arith, long) in
    let rest : drop (n - 16) (attribute_bytes b) ≡ drop n b = drop-drop (n - 16) 16 b ∙ ap (λ k. drop k b) whole in
    let prefix : take 16 b ++ take (n - 16) (attribute_bytes b) ≡ take n b = sym (take-add 16 (n - 16) b) ∙ ap (λ k. take k b) whole in
    let text : (body_rule p).canonical b ≡ take n b ++ inner.canonical (drop n b) =
    parts.canonical
    ∙ (λ i. f.header long i ++ inside.text i)
    ∙ sym (append_assoc (take 16 b) (take (n - 16) (attribute_bytes b)) (inner.canonical (drop (n - 16) (attribute_bytes b))))
    ∙ (λ i. prefix i ++ inner.canonical (rest i)) in
    record {
      accepted = ap inner.accepted (sym rest) ∙ inside.accepted;
      fits = ap inner.fits (sym rest) ∙ inside.fits;
      text = text;
      size = ap length text ∙ length-append (take n b) (inner.canonical (drop n b)) ∙ ap (λ k. k + length (inner.canonical (drop n b))) (length-take-le n b f.within);
    }
