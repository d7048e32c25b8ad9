-- A body is measured as its header and its attributes.
use Rattle.std.proofs.Common.{◌≡◌, ℕ, ◌+◌, ◌<◌, ◌≤◌, ◌++◌, Bool, true, false, cond, List, length, take, Option, Some, None, refl, sym, ap, ◌∙◌, arith, length-append}
use Rattle.std.specs.Prelude.{◌&&◌, nat_le, option_map}
use Rattle.std.proofs.lemmas.Bool.{lt-leb, le-leb}
use Rattle.std.proofs.lemmas.List.{take-append-drop}
use Rattle.attribute_tables_grammar.specs.Peers.{RuleOfPeers}
use Rattle.attribute_tables_grammar.specs.Walks.{Measure, measure}
use Rattle.link_message_grammar.specs.Body.{header_text, attribute_bytes, family, attributes_rule, body_rule, with_body_header}
use Rattle.link_message_grammar.specs.Laws.{BodiesAreMeasured}
use Rattle.link_message_grammar.proofs.Body.{written_header}

module _ (p : RuleOfPeers) (b : List ℕ) where
  -- The measure of a body of this size.
  measured_as : ℕ → Measure
  measured_as n = let r = attributes_rule p (family b) in let a = attribute_bytes b in record { size = n; attributes = r.attributes a; fits = r.fits a; empty_ports = r.empty_ports a }

  short : length b < 16 → None ≡ measure (body_rule p) b
  unfolding body_rule measured_as
  short l = sym (ap (λ x. cond (x && (attributes_rule p (family b)).accepted (attribute_bytes b)) (Some (measured_as (length (header_text b ++ (attributes_rule p (family b)).canonical (attribute_bytes b))))) None) (lt-leb 16 (length b) l))

  pushed : (v : Bool) (m : Measure) → option_map with_body_header (cond v (Some m) None) ≡ cond v (Some (with_body_header m)) None
  pushed true m = refl
  pushed false m = refl

  long : (o : Option Measure) → 16 ≤ length b → o ≡ measure (attributes_rule p (family b)) (attribute_bytes b) → option_map with_body_header o ≡ measure (body_rule p) b
  unfolding body_rule measured_as
  long o l h =
      let r = attributes_rule p (family b) in
      let a = attribute_bytes b in
      let e : nat_le 16 (length b) ≡ true = le-leb 16 (length b) l in
      let w = written_header b e in
      let size : 16 + length (r.canonical a) ≡ length (header_text b ++ r.canonical a) = omega (arith, length-append (header_text b) (r.canonical a), w.size) in
      ap (option_map with_body_header) h ∙ pushed (r.accepted a) (measured_as (length (r.canonical a)))
      ∙ ap (λ n. cond (r.accepted a) (Some (measured_as n)) None) size
      ∙ ap (λ v. cond (v && r.accepted a) (Some (measured_as (length (header_text b ++ r.canonical a)))) None) (sym e)

  own : header_text b ≡ take 16 b → (attributes_rule p (family b)).canonical (attribute_bytes b) ≡ attribute_bytes b → (body_rule p).canonical b ≡ b
  unfolding body_rule measured_as
  own h c = ap (λ x. x ++ (attributes_rule p (family b)).canonical (attribute_bytes b)) h ∙ ap (λ x. take 16 b ++ x) c ∙ take-append-drop 16 b

pub bodies_are_measured : BodiesAreMeasured
bodies_are_measured = record { short = short; long = long; canonical_if_parts_are = own }
