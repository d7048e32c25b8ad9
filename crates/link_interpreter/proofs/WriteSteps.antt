-- The facts that are known when an attribute is written: header, payload and padding, one after another.
use Rattle.std.proofs.Common.{◌≡◌, ℕ, ◌+◌, ◌-◌, ◌≤◌, ◌++◌, true, false, List, [], ◌∷◌, length, take, drop, refl, sym, ap, ◌∙◌, append_assoc, arith}
use Rattle.std.proofs.lemmas.List.{length-append, take_at}
use Rattle.std.proofs.Math.Seq.{drop-append_seam}
use Rattle.netlink_packet_core_grammar.specs.Attributes.{nla_align, zeros, Attribute, attribute_header, attribute_text}
use Rattle.attribute_tables_grammar.specs.Rules.{Rule}
use Rattle.attribute_tables_grammar.specs.Lists.{Row, Grammar, canonical_form, canonical_kind, list_rule}
use Rattle.attribute_tables_grammar.specs.Walks.{IsWalked}
use Rattle.attribute_tables_grammar.specs.Writing.{IsWritable}
use Rattle.attribute_tables_grammar.specs.Laws.{MeasuresDetermineRules}
use Rattle.link_tables.specs.declared.rows.Form.{Form}
use Rattle.link_tables.specs.declared.rows.Form.TheVariants.{Any, OfKindOne, FirstOnly}
use Rattle.link_tables.specs.Rows.{form_of}

-- writable under another name of the row's rule, and with more capacity
pub writable_as : (r f : Rule) (p : List ℕ) (capacity more : ℕ) → f ≡ r → capacity ≤ more → IsWritable r p capacity → IsWritable f p more
writable_as r f p capacity more e l w =
    let n : length (f.canonical p) ≡ length (r.canonical p) = ap (λ r. length (r.canonical p)) e in
    record {
      accepted = ap (λ r. r.accepted p) e ∙ w.accepted;
      fits = ap (λ r. r.fits p) e ∙ w.fits;
      short = omega (arith, n, w.short);
      within = omega (arith, n, w.within, l);
    }

-- an accepted payload isn't rejected
pub not_refused : (r f : Rule) (p : List ℕ) (capacity : ℕ) → f ≡ r → IsWritable r p capacity → f.accepted p ≡ false → ⊥
not_refused r f p capacity e w h = cc (ap (λ r. r.accepted p) e)

-- a header written over the four bytes before a payload, and padding after it, make the attribute's encoding
pub three_parts : (kind : ℕ) (text out a b c new : List ℕ) (start size : ℕ) → start ≡ length out → size ≡ length text → a ≡ out ++ 0 ∷ 0 ∷ 0 ∷ 0 ∷ [] → b ≡ a ++ text → c ≡ take start b ++ (attribute_header (4 + size) kind ++ drop (start + 4) b) → new ≡ c ++ zeros (nla_align (4 + size) - (4 + size)) → new ≡ out ++ attribute_text (record { kind = kind; payload = text })
unfolding attribute_text
three_parts kind text out a b c new start size at n x y z w =
    let h = attribute_header (4 + length text) kind in
    let p = zeros (nla_align (4 + length text) - (4 + length text)) in
    let whole : b ≡ out ++ (0 ∷ 0 ∷ 0 ∷ 0 ∷ text) = y ∙ ap (λ v. v ++ text) x ∙ append_assoc out (0 ∷ 0 ∷ 0 ∷ 0 ∷ []) text in
    let prefix : take start b ≡ out = ap (λ n. take n b) at ∙ ap (take (length out)) whole ∙ take_at out (0 ∷ 0 ∷ 0 ∷ 0 ∷ text) (length out) refl in
    let four : length a ≡ length out + 4 = ap length x ∙ length-append out (0 ∷ 0 ∷ 0 ∷ 0 ∷ []) in
    let following : drop (start + 4) b ≡ text = ap (λ n. drop (n + 4) b) at ∙ ap (λ n. drop n b) (sym four) ∙ ap (drop (length a)) y ∙ drop-append_seam a text in
    w ∙ ap (λ m. c ++ zeros (nla_align (4 + m) - (4 + m))) n
    ∙ ap (λ v. v ++ p) (z ∙ (λ i. prefix i ++ (attribute_header (4 + n i) kind ++ following i)))
    ∙ append_assoc out (h ++ text) p
    ∙ ap (λ v. out ++ v) (append_assoc h text p)

-- an attribute that was written by a look-up is the row's
pub rewritten_as : (row : Row) (f : Rule) (e : Attribute) (kind : ℕ) (out new : List ℕ) → f ≡ row.rule → kind ≡ canonical_kind row e.kind → new ≡ out ++ attribute_text (record { kind = kind; payload = f.canonical e.payload }) → new ≡ out ++ attribute_text (canonical_form row e)
rewritten_as row f e kind out new r k h = h ∙ (λ i. out ++ attribute_text (record { kind = k i; payload = (r i).canonical e.payload }))

-- an accepted list of another kind is walked
pub walked_if : MeasuresDetermineRules → (form : Form) (g : Grammar) (bytes : List ℕ) → (form ≡ FirstOnly → ⊥) → (list_rule (form_of form) g).accepted bytes ≡ true → IsWalked (form_of form) bytes
walked_if law Any g bytes n a = tt
walked_if law OfKindOne g bytes n a = tt
walked_if law FirstOnly g bytes n a = absurd (n refl)
walked_if law form g [] n a = absurd (cc (a, law.rejects (list_rule (form_of form) g) [] (law.no_bytes (form_of form) g [] refl tt)))
walked_if law form g (b ∷ bytes) n a = omega arith
