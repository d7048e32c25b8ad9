-- Attributes in order, each in its context, and their canonical forms.
use Rattle.std.proofs.Common.{◌≡◌, ℕ, ◌+◌, ◌<◌, Bool, true, false, cond, List, [], ◌∷◌, ◌++◌, length, refl, sym, ap, ◌∙◌, arith}
use Rattle.std.specs.Prelude.{◌&&◌, nat_le, ◌==◌}
use Rattle.std.proofs.lemmas.Bool.{and_parts, and_from, or_parts, or_from, eqb-true, eq-eqb}
use Rattle.netlink_packet_core_grammar.specs.Attributes.{Attribute, proper_kind, list_text, attributes_of}
use Rattle.netlink_packet_core_grammar.proofs.Attributes.{attributes_of_text, got_is}
use Rattle.attribute_tables_grammar.specs.Rules.{Rule, Lawful, IsMigratedBy}
use Rattle.attribute_tables_grammar.specs.Lists.{Context, Row, Grammar, row_of, canonical_kind, same_kind, same_attribute, all_accepted, some_empty_ports, canonical_form, canonical_forms, all_fit, all_same, context_after, LawfulGrammar}

-- ---- kinds

proper_kind-written_by : (t n : Bool) (k : ℕ) → proper_kind (cond t (proper_kind k + cond n 0x8000 0) k) ≡ proper_kind k
proper_kind-written_by true true k = omega arith
proper_kind-written_by true false k = omega arith
proper_kind-written_by false n k = refl

pub proper_kind-written : (r : Row) (k : ℕ) → proper_kind (canonical_kind r k) ≡ proper_kind k
proper_kind-written r k = proper_kind-written_by r.is_typed r.is_nested k

written_kind_idempotent_by : (t n : Bool) (k : ℕ) → cond t (proper_kind (cond t (proper_kind k + cond n 0x8000 0) k) + cond n 0x8000 0) (cond t (proper_kind k + cond n 0x8000 0) k) ≡ cond t (proper_kind k + cond n 0x8000 0) k
written_kind_idempotent_by true n k = ap (λ x. x + cond n 0x8000 0) (proper_kind-written_by true n k)
written_kind_idempotent_by false n k = refl

pub written_kind_idempotent : (r : Row) (k : ℕ) → canonical_kind r (canonical_kind r k) ≡ canonical_kind r k
written_kind_idempotent r k = written_kind_idempotent_by r.is_typed r.is_nested k

pub written_kind_small_by : (t n : Bool) (k : ℕ) → k < 65536 → cond t (proper_kind k + cond n 0x8000 0) k < 65536
written_kind_small_by true true k h = omega arith
written_kind_small_by true false k h = omega arith
written_kind_small_by false n k h = h

same_kind-written_by : (t u n : Bool) (k l : ℕ) → cond (t && u) (proper_kind k == proper_kind l) (k == l) ≡ true → (proper_kind k ≡ proper_kind l) × (cond t (proper_kind k + cond n 0x8000 0) k ≡ cond t (proper_kind l + cond n 0x8000 0) l)
same_kind-written_by true true n k l h = let e = eqb-true (proper_kind k) (proper_kind l) h in (e, ap (λ x. x + cond n 0x8000 0) e)
same_kind-written_by true false n k l h = let e = eqb-true k l h in (ap proper_kind e, ap (λ x. proper_kind x + cond n 0x8000 0) e)
same_kind-written_by false u n k l h = let e = eqb-true k l h in (ap proper_kind e, e)

-- equivalent attributes have one kind proper, and are written with it
same_kind-written : (r s : Row) (k l : ℕ) → same_kind r s k l ≡ true → (proper_kind k ≡ proper_kind l) × (canonical_kind r k ≡ canonical_kind r l)
same_kind-written r s k l h = same_kind-written_by r.is_typed s.is_typed r.is_nested k l h

written-same_kind_by : (t n : Bool) (k l : ℕ) → cond t (proper_kind k + cond n 0x8000 0) k ≡ cond t (proper_kind l + cond n 0x8000 0) l → cond (t && t) (proper_kind k == proper_kind l) (k == l) ≡ true
written-same_kind_by true n k l h = eq-eqb (proper_kind k) (proper_kind l) (omega arith)
written-same_kind_by false n k l h = eq-eqb k l h

-- ---- rows that migrate canonical payloads

-- a row that writes kinds as another does, and has the same canonical payloads for the other's canonical ones
pub record MigratesRow (r s : Row) : Type 0 where
  pub kinds : (k : ℕ) → canonical_kind r k ≡ canonical_kind s k
  pub payloads : IsMigratedBy r.rule s.rule

-- lawful rules and their rows migrate their own canonical payloads
pub migrates_reflexive : (r : Rule) → Lawful r → IsMigratedBy r r
migrates_reflexive r l = record {
  accepted = λ p a b m. (l.canonical_accepted p a m).0;
  empty_ports = λ p a b m. (l.canonical_accepted p a m).1;
  fits = λ p a b f. l.canonical_fits p a f;
  canonical = λ p a b. l.canonical_idempotent p a;
}

pub row_migrates_reflexive : (r : Row) → Lawful r.rule → MigratesRow r r
row_migrates_reflexive r l = record { kinds = λ k. refl; payloads = migrates_reflexive r.rule l }

-- ---- the context that attributes leave, one after another

pub after_more : (g : Grammar) (c : Context) (es : List Attribute) (e : Attribute) → context_after g c (es ++ e ∷ []) ≡ g.next (context_after g c es) e
unfolding context_after
after_more g c [] e = refl
after_more g c (d ∷ es) e = after_more g (g.next c d) es e

-- an attribute leaves in force what its canonical form does
pub next_canonical : (g : Grammar) → LawfulGrammar g → (c : Context) (e : Attribute) → (row_of g c e).rule.accepted e.payload ≡ true → g.next c (canonical_form (row_of g c e) e) ≡ g.next c e
next_canonical g lawful c e a =
    let r = row_of g c e in
    sym (lawful.steps c e (canonical_form r e) (sym (proper_kind-written r e.kind)) (sym ((lawful.rows c (proper_kind e.kind)).canonical_idempotent e.payload a)))

-- ---- attributes under other rows than those that wrote them

module _ (g : Grammar) (lawful : LawfulGrammar g) (rows : Context → ℕ → Row) (migrates : (c : Context) (k : ℕ) → MigratesRow (g.row c k) (rows c k)) where
  -- g with the other rows
  abbrev h : Grammar
  h = record { row = rows; next = g.next }

  -- an attribute and its canonical form have the same row
  row_canonical : (c : Context) (e : Attribute) → row_of h c (canonical_form (row_of g c e) e) ≡ row_of h c e
  row_canonical c e = ap (rows c) (proper_kind-written (row_of g c e) e.kind)

  pub rewrite_idempotent : (c : Context) (e : Attribute) → (row_of g c e).rule.accepted e.payload ≡ true → (row_of h c e).rule.accepted e.payload ≡ true →
      canonical_form (row_of h c (canonical_form (row_of g c e) e)) (canonical_form (row_of g c e) e) ≡ canonical_form (row_of h c e) e
  rewrite_idempotent c e a b =
      let r = row_of g c e in
      let s = row_of h c e in
      let both = migrates c (proper_kind e.kind) in
      ap (λ x. canonical_form x (canonical_form r e)) (row_canonical c e)
      ∙ ap (λ k. record { kind = k; payload = s.rule.canonical (r.rule.canonical e.payload) }) (ap (canonical_kind s) (both.kinds e.kind) ∙ written_kind_idempotent s e.kind)
      ∙ ap (λ p. record { kind = canonical_kind s e.kind; payload = p }) (both.payloads.canonical e.payload a b)

  pub rewritten_idempotent : (c : Context) (es : List Attribute) → all_accepted g c es ≡ true → all_accepted h c es ≡ true → canonical_forms h c (canonical_forms g c es) ≡ canonical_forms h c es
  unfolding all_accepted canonical_forms
  rewritten_idempotent c [] a b = refl
  rewritten_idempotent c (e ∷ es) a b =
      let x = and_parts _ _ a in
      let y = and_parts _ _ b in
      let f = canonical_form (row_of h c e) e in
      let rest = canonical_forms g (g.next c e) es in
      ap (λ z. z ∷ canonical_forms h (g.next c (canonical_form (row_of g c e) e)) rest) (rewrite_idempotent c e x.0 y.0)
      ∙ ap (λ d. f ∷ canonical_forms h d rest) (next_canonical g lawful c e x.0)
      ∙ ap (λ z. f ∷ z) (rewritten_idempotent (g.next c e) es x.1 y.1)

  pub accepts_canonical : (c : Context) (es : List Attribute) → all_accepted g c es ≡ true → all_accepted h c es ≡ true → some_empty_ports g c es ≡ false →
      (all_accepted h c (canonical_forms g c es) ≡ true) × (some_empty_ports h c (canonical_forms g c es) ≡ false)
  unfolding all_accepted some_empty_ports canonical_forms
  accepts_canonical c [] a b m = (refl, refl)
  accepts_canonical c (e ∷ es) a b m =
      let x = and_parts _ _ a in
      let y = and_parts _ _ b in
      let n = or_parts _ _ m in
      let e' = canonical_form (row_of g c e) e in
      let rest = canonical_forms g (g.next c e) es in
      let both = (migrates c (proper_kind e.kind)).payloads in
      let more = accepts_canonical (g.next c e) es x.1 y.1 n.1 in
      let first_accepted : (row_of h c e').rule.accepted e'.payload ≡ true = ap (λ s. s.rule.accepted e'.payload) (row_canonical c e) ∙ both.accepted e.payload x.0 y.0 n.0 in
      let first_full : (row_of h c e').rule.empty_ports e'.payload ≡ false = ap (λ s. s.rule.empty_ports e'.payload) (row_canonical c e) ∙ both.empty_ports e.payload x.0 y.0 n.0 in
      let n_is = next_canonical g lawful c e x.0 in (
        and_from _ _ first_accepted (ap (λ d. all_accepted h d rest) n_is ∙ more.0),
        or_from _ _ first_full (ap (λ d. some_empty_ports h d rest) n_is ∙ more.1),
      )

  pub all_fit_canonical : (c : Context) (es : List Attribute) → all_accepted g c es ≡ true → all_accepted h c es ≡ true → all_fit h c es ≡ true → all_fit h c (canonical_forms g c es) ≡ true
  unfolding all_accepted all_fit canonical_forms
  all_fit_canonical c [] a b f = refl
  all_fit_canonical c (e ∷ es) a b f =
      let x = and_parts _ _ a in
      let y = and_parts _ _ b in
      let s = row_of h c e in
      let e' = canonical_form (row_of g c e) e in
      let rest = canonical_forms g (g.next c e) es in
      let f1 = and_parts (nat_le (4 + length (s.rule.canonical e.payload)) 65535 && s.rule.fits e.payload) (all_fit h (g.next c e) es) f in
      let f2 = and_parts (nat_le (4 + length (s.rule.canonical e.payload)) 65535) (s.rule.fits e.payload) f1.0 in
      let both = (migrates c (proper_kind e.kind)).payloads in
      let size_is : nat_le (4 + length ((row_of h c e').rule.canonical e'.payload)) 65535 ≡ true =
      ap (λ t. nat_le (4 + length (t.rule.canonical e'.payload)) 65535) (row_canonical c e) ∙ ap (λ z. nat_le (4 + length z) 65535) (both.canonical e.payload x.0 y.0) ∙ f2.0 in
      let inside : (row_of h c e').rule.fits e'.payload ≡ true = ap (λ t. t.rule.fits e'.payload) (row_canonical c e) ∙ both.fits e.payload x.0 y.0 f2.1 in
      and_from _ _ (and_from _ _ size_is inside) (ap (λ d. all_fit h d rest) (next_canonical g lawful c e x.0) ∙ all_fit_canonical (g.next c e) es x.1 y.1 f1.1)

module _ (g : Grammar) (lawful : LawfulGrammar g) where
  -- ---- equivalent lists, and equal canonical forms

  -- two equivalent lists begin with attributes of one row, whose payloads have one canonical form, and the rests are
  -- equivalent
  record SameFirstAttributes (c : Context) (e f : Attribute) (es fs : List Attribute) : Type 0 where
    kinds : canonical_kind (row_of g c e) e.kind ≡ canonical_kind (row_of g c e) f.kind
    rows : row_of g c f ≡ row_of g c e
    payloads : (row_of g c e).rule.canonical e.payload ≡ (row_of g c e).rule.canonical f.payload
    contexts : g.next c e ≡ g.next c f
    accepted : all_accepted g (g.next c e) es ≡ true
    accepted_too : all_accepted g (g.next c e) fs ≡ true
    same : all_same g (g.next c e) (g.next c e) es fs ≡ true

  same_first_attributes : (c : Context) (e f : Attribute) (es fs : List Attribute) → all_accepted g c (e ∷ es) ≡ true → all_accepted g c (f ∷ fs) ≡ true → all_same g c c (e ∷ es) (f ∷ fs) ≡ true → SameFirstAttributes c e f es fs
  unfolding all_accepted all_same
  same_first_attributes c e f es fs a b s =
      let r = row_of g c e in
      let q = row_of g c f in
      let s1 = and_parts (same_attribute r q e f) (all_same g (g.next c e) (g.next c f) es fs) s in
      let s2 = and_parts (same_kind r q e.kind f.kind) (r.rule.same e.payload f.payload && q.rule.same e.payload f.payload) s1.0 in
      let s3 = and_parts (r.rule.same e.payload f.payload) (q.rule.same e.payload f.payload) s2.1 in
      let k = same_kind-written r q e.kind f.kind s2.0 in
      let row_is : row_of g c f ≡ r = ap (g.row c) (sym k.0) in
      let a1 = and_parts _ _ a in
      let b1 = and_parts _ _ b in
      let f_accepted : r.rule.accepted f.payload ≡ true = ap (λ x. x.rule.accepted f.payload) (sym row_is) ∙ b1.0 in
      let p_is : r.rule.canonical e.payload ≡ r.rule.canonical f.payload = (lawful.rows c (proper_kind e.kind)).same_implies_equal_text e.payload f.payload a1.0 f_accepted s3.0 in
      let next_is : g.next c e ≡ g.next c f = lawful.steps c e f k.0 p_is in
      record {
        kinds = k.1;
        rows = row_is;
        payloads = p_is;
        contexts = next_is;
        accepted = a1.1;
        accepted_too = ap (λ d. all_accepted g d fs) next_is ∙ b1.1;
        same = ap (λ d. all_same g (g.next c e) d es fs) next_is ∙ s1.1;
      }

  pub same_rewritten : (c : Context) (es fs : List Attribute) → all_accepted g c es ≡ true → all_accepted g c fs ≡ true → all_same g c c es fs ≡ true → canonical_forms g c es ≡ canonical_forms g c fs
  unfolding all_accepted all_same canonical_forms
  same_rewritten c [] [] a b s = refl
  same_rewritten c [] (f ∷ fs) a b s = absurd cc
  same_rewritten c (e ∷ es) [] a b s = absurd cc
  same_rewritten c (e ∷ es) (f ∷ fs) a b s =
      let r = row_of g c e in
      let w = same_first_attributes c e f es fs a b s in
      let rest : canonical_forms g (g.next c e) es ≡ canonical_forms g (g.next c e) fs = same_rewritten (g.next c e) es fs w.accepted w.accepted_too w.same in
      let head : canonical_form r e ≡ canonical_form (row_of g c f) f =
      ap (λ x. record { kind = x; payload = r.rule.canonical e.payload }) w.kinds
      ∙ ap (λ x. record { kind = canonical_kind r f.kind; payload = x }) w.payloads
      ∙ ap (λ x. canonical_form x f) (sym w.rows) in
      ap (λ x. x ∷ canonical_forms g (g.next c e) es) head
      ∙ ap (λ x. canonical_form (row_of g c f) f ∷ x) rest
      ∙ ap (λ d. canonical_form (row_of g c f) f ∷ canonical_forms g d fs) w.contexts

  -- equivalent lists leave the same kinds in force
  pub one_context : (c : Context) (es fs : List Attribute) → all_accepted g c es ≡ true → all_accepted g c fs ≡ true → all_same g c c es fs ≡ true → context_after g c es ≡ context_after g c fs
  unfolding all_accepted all_same context_after
  one_context c [] [] a b s = refl
  one_context c [] (f ∷ fs) a b s = absurd cc
  one_context c (e ∷ es) [] a b s = absurd cc
  one_context c (e ∷ es) (f ∷ fs) a b s =
      let w = same_first_attributes c e f es fs a b s in
      one_context (g.next c e) es fs w.accepted w.accepted_too w.same ∙ ap (λ d. context_after g d fs) w.contexts

  pub rewritten_same : (c : Context) (es fs : List Attribute) → all_accepted g c es ≡ true → all_accepted g c fs ≡ true → canonical_forms g c es ≡ canonical_forms g c fs → all_same g c c es fs ≡ true
  unfolding all_accepted all_same canonical_forms
  rewritten_same c [] [] a b s = refl
  rewritten_same c [] (f ∷ fs) a b s = absurd cc
  rewritten_same c (e ∷ es) [] a b s = absurd cc
  rewritten_same c (e ∷ es) (f ∷ fs) a b s =
      let r = row_of g c e in
      let head : canonical_form r e ≡ canonical_form (row_of g c f) f = cc in
      let tails : canonical_forms g (g.next c e) es ≡ canonical_forms g (g.next c f) fs = cc in
      let kinds : proper_kind e.kind ≡ proper_kind f.kind = sym (proper_kind-written r e.kind) ∙ ap (λ x. proper_kind x.kind) head ∙ proper_kind-written (row_of g c f) f.kind in
      let row_is : row_of g c f ≡ r = ap (g.row c) (sym kinds) in
      let a1 = and_parts _ _ a in
      let b1 = and_parts _ _ b in
      let f_accepted : r.rule.accepted f.payload ≡ true = ap (λ x. x.rule.accepted f.payload) (sym row_is) ∙ b1.0 in
      let p_is : r.rule.canonical e.payload ≡ r.rule.canonical f.payload = ap (λ x. x.payload) head ∙ ap (λ x. x.rule.canonical f.payload) row_is in
      let w_is : canonical_kind r e.kind ≡ canonical_kind r f.kind = ap (λ x. x.kind) head ∙ ap (λ x. canonical_kind x f.kind) row_is in
      let next_is : g.next c e ≡ g.next c f = lawful.steps c e f kinds p_is in
      let rest = rewritten_same (g.next c e) es fs a1.1 (ap (λ d. all_accepted g d fs) next_is ∙ b1.1) (tails ∙ ap (λ d. canonical_forms g d fs) (sym next_is)) in
      let meaning = (lawful.rows c (proper_kind e.kind)).equal_text_implies_same e.payload f.payload a1.0 f_accepted p_is in
      let one : same_attribute r r e f ≡ true = and_from _ _ (written-same_kind_by r.is_typed r.is_nested e.kind f.kind w_is) (and_from _ _ meaning meaning) in
      and_from _ _ (ap (λ q. same_attribute r q e f) row_is ∙ one) (ap (λ d. all_same g (g.next c e) d es fs) (sym next_is) ∙ rest)

-- equal encodings are those of equal lists
pub one_list : (es fs : List Attribute) → list_text es ≡ list_text fs → es ≡ fs
one_list es fs h = got_is es fs (sym (attributes_of_text es) ∙ ap attributes_of h ∙ attributes_of_text fs)
