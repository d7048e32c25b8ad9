-- Rules for payloads, and the laws of a lawful rule.
use Rattle.std.specs.Prelude.{◌≡◌, ℕ, ◌+◌, ◌*◌, ◌≤◌, Bool, true, false, List, length, bytes_eq}
use Rattle.netlink_packet_core_grammar.specs.Attributes.{nla_align}
use Rattle.netlink_packet_core_grammar.specs.Bytes.{AreBytes}
use Rattle.attribute_tables_grammar.specs.Shapes.{Shape, raw, accepts, meaning, encoding}

-- A rule for payloads: which are accepted, which are equivalent, and their canonical encoding.
pub record Rule : Type 0 where
  pub accepted : List ℕ → Bool
  -- Two accepted payloads are equivalent.
  pub same : List ℕ → List ℕ → Bool
  pub canonical : List ℕ → List ℕ
  -- The number of attributes inside, at all depths.
  pub attributes : List ℕ → ℕ
  -- Each length inside the canonical payload is at most 65535.
  pub fits : List ℕ → Bool
  -- A list of ports in it, or the payload itself as one, keeps no entry, so that its canonical form is rejected.
  pub empty_ports : List ℕ → Bool

-- The laws of a rule, for accepted payloads: the canonical payload is accepted unless ports inside would be empty, fits
-- if the payload does, and is already canonical; canonical payloads decide equivalence; with headers, one is at most
-- 77 times as long; the attributes inside take at least 4 bytes each; the canonical payload of bytes that fit is bytes.
pub record Lawful (r : Rule) : Type 0 where
  pub canonical_accepted : (p : List ℕ) → r.accepted p ≡ true → r.empty_ports p ≡ false →
      (r.accepted (r.canonical p) ≡ true) × (r.empty_ports (r.canonical p) ≡ false)
  pub canonical_fits : (p : List ℕ) → r.accepted p ≡ true → r.fits p ≡ true → r.fits (r.canonical p) ≡ true
  pub canonical_idempotent : (p : List ℕ) → r.accepted p ≡ true → r.canonical (r.canonical p) ≡ r.canonical p
  pub same_implies_equal_text : (p q : List ℕ) → r.accepted p ≡ true → r.accepted q ≡ true → r.same p q ≡ true →
      r.canonical p ≡ r.canonical q
  pub equal_text_implies_same : (p q : List ℕ) → r.accepted p ≡ true → r.accepted q ≡ true →
      r.canonical p ≡ r.canonical q → r.same p q ≡ true
  pub bounded : (p : List ℕ) → r.accepted p ≡ true → nla_align (4 + length (r.canonical p)) ≤ 77 * (4 + length p)
  pub counted : (p : List ℕ) → r.accepted p ≡ true → 4 * r.attributes p ≤ length p
  pub bytes : (p : List ℕ) → r.accepted p ≡ true → r.fits p ≡ true → AreBytes p → AreBytes (r.canonical p)

-- Rule s migrates the canonical payloads of rule r. Let both accept a payload. Its canonical payload under r has the same
-- canonical payload under s as the payload itself. Unless ports in the payload keep no entry under r, s accepts it, without
-- such ports. It fits under s if the payload does.
pub record IsMigratedBy (r s : Rule) : Type 0 where
  pub accepted : (p : List ℕ) → r.accepted p ≡ true → s.accepted p ≡ true → r.empty_ports p ≡ false →
      s.accepted (r.canonical p) ≡ true
  pub empty_ports : (p : List ℕ) → r.accepted p ≡ true → s.accepted p ≡ true → r.empty_ports p ≡ false →
      s.empty_ports (r.canonical p) ≡ false
  pub fits : (p : List ℕ) → r.accepted p ≡ true → s.accepted p ≡ true → s.fits p ≡ true → s.fits (r.canonical p) ≡ true
  pub canonical : (p : List ℕ) → r.accepted p ≡ true → s.accepted p ≡ true → s.canonical (r.canonical p) ≡ s.canonical p

-- The rule of a shape.
abbrev pub shape_rule : Shape → Rule
shape_rule s = record {
  accepted = accepts s;
  same = λ p q. bytes_eq (meaning s p) (meaning s q);
  canonical = λ p. encoding s (meaning s p);
  attributes = λ p. 0;
  fits = λ p. true;
  empty_ports = λ p. false;
}

-- The rule of raw bytes: any are accepted, and they are already canonical.
abbrev pub raw_rule : Rule
raw_rule = shape_rule raw
