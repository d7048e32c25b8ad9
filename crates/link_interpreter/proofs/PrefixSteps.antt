-- The canonical prefix of a list, attribute by attribute.
use Rattle.std.proofs.Common.{◌≡◌, ℕ, ◌+◌, ◌-◌, ◌≤◌, ◌++◌, Bool, true, false, cond, List, [], ◌∷◌, length, take, drop, Option, Some, None, refl, sym, ap, ◌∙◌, append_assoc, arith}
use Rattle.std.specs.Prelude.{◌&&◌, nat_le, option_map}
use Rattle.std.proofs.lemmas.Bool.{and_parts, cond_both, false≢true}
use Rattle.std.proofs.lemmas.List.{length-append, take-append-drop, take_at}
use Rattle.std.proofs.lemmas.List.Prefix.{front_rest}
use Rattle.std.specs.Option.{option_map_or}
use Rattle.netlink_packet_core_grammar.specs.Attributes.{Attribute, attribute_text, list_text, first_attribute, attributes_of}
use Rattle.netlink_packet_core_grammar.proofs.FirstAttribute.{attributes_step}
use Rattle.attribute_tables_grammar.specs.Rules.{Rule}
use Rattle.attribute_tables_grammar.specs.Lists.{Row, no_kind_in_force, without_context, row_at, canonical_form, canonical_kind, all_accepted, canonical_forms, all_fit, any, list_rule}
use Rattle.link_interpreter.specs.Prefixes.{IsCanonicalPrefix, RestIsIndependent}

module _ (f : ℕ → Row) where
  abbrev pub rule : Rule
  rule = list_rule any (without_context f)

  -- if a list is accepted and fits, so does the rest after its first attribute, and the encoding of the whole is that
  -- attribute followed by that of the rest
  following_by : (e : Attribute) (bytes after : List ℕ) (o : Option (List Attribute)) → attributes_of after ≡ o → attributes_of bytes ≡ option_map (λ es. e ∷ es) o
      → rule.accepted bytes ≡ true → rule.fits bytes ≡ true → RestIsIndependent rule bytes (attribute_text (canonical_form (row_at f e) e)) after
  unfolding all_accepted all_fit canonical_forms list_text
  following_by e bytes after None a s x h = absurd (false≢true (sym (ap (λ o. option_map_or (all_accepted (without_context f) no_kind_in_force) o false) s) ∙ x))
  following_by e bytes after (Some es) a s x h =
      let g = without_context f in
      let r = row_at f e in
      let y : all_accepted g no_kind_in_force (e ∷ es) ≡ true = sym (ap (λ o. option_map_or (all_accepted g no_kind_in_force) o false) s) ∙ x in
      let z : all_fit g no_kind_in_force (e ∷ es) ≡ true = sym (ap (λ o. option_map_or (all_fit g no_kind_in_force) o true) s) ∙ h in
      let y' = and_parts (r.rule.accepted e.payload) (all_accepted g (g.next no_kind_in_force e) es) y in
      let z' = and_parts (nat_le (4 + length (r.rule.canonical e.payload)) 65535 && r.rule.fits e.payload) (all_fit g (g.next no_kind_in_force e) es) z in
      record {
        accepted = ap (λ o. option_map_or (all_accepted g no_kind_in_force) o false) a ∙ y'.1;
        fits = ap (λ o. option_map_or (all_fit g no_kind_in_force) o true) a ∙ z'.1;
        text =
            ap (λ o. option_map_or (λ fs. list_text (canonical_forms g no_kind_in_force fs)) o []) s
            ∙ ap (λ z. attribute_text (canonical_form r e) ++ z) (sym (ap (λ o. option_map_or (λ fs. list_text (canonical_forms g no_kind_in_force fs)) o []) a));
      }

  following : (e : Attribute) (bytes after : List ℕ) → first_attribute bytes ≡ Some (e, after) → rule.accepted bytes ≡ true → rule.fits bytes ≡ true → RestIsIndependent rule bytes (attribute_text (canonical_form (row_at f e) e)) after
  following e bytes after h a fit = following_by e bytes after (attributes_of after) refl (attributes_step bytes e after h) a fit

  -- the prefix ends at the start of the rest, and the attribute there is already canonical
  pub record IsCanonicalStep (bytes rest : List ℕ) (n : ℕ) (e : Attribute) (after : List ℕ) : Type 0 where
    pub offset : drop n bytes ≡ rest
    pub kind : canonical_kind (row_at f e) e.kind ≡ e.kind
    pub payload : (row_at f e).rule.canonical e.payload ≡ e.payload
    pub text : rest ≡ attribute_text e ++ after

  whole : (bytes rest : List ℕ) (n : ℕ) (e : Attribute) (after : List ℕ) → IsCanonicalStep bytes rest n e after → bytes ≡ (take n bytes ++ attribute_text e) ++ after
  whole bytes rest n e after s =
      sym (take-append-drop n bytes) ∙ ap (λ x. take n bytes ++ x) (s.offset ∙ s.text) ∙ sym (append_assoc (take n bytes) (attribute_text e) after)

  seam : (prefix after bytes : List ℕ) → bytes ≡ prefix ++ after → length prefix ≡ length bytes - length after
  seam prefix after bytes e = omega (arith, ap length e, length-append prefix after)

  -- the bytes after the attribute
  pub offset_following : (bytes rest : List ℕ) (n : ℕ) (e : Attribute) (after : List ℕ) → IsCanonicalStep bytes rest n e after → drop (length bytes - length after) bytes ≡ after
  offset_following bytes rest n e after s =
      let prefix = take n bytes ++ attribute_text e in
      let w = whole bytes rest n e after s in
      ap (λ k. drop k bytes) (sym (seam prefix after bytes w)) ∙ front_rest bytes prefix after w

  further : (bytes rest : List ℕ) (n : ℕ) (e : Attribute) (after : List ℕ) → first_attribute rest ≡ Some (e, after) → IsCanonicalStep bytes rest n e after → IsCanonicalPrefix rule bytes n → IsCanonicalPrefix rule bytes (length bytes - length after)
  further bytes rest n e after h s o =
      let prefix = take n bytes ++ attribute_text e in
      let w = whole bytes rest n e after s in
      let at : take (length bytes - length after) bytes ≡ prefix = ap (take (length bytes - length after)) w ∙ take_at prefix after (length bytes - length after) (seam prefix after bytes w) in
      let left = offset_following bytes rest n e after s in
      let is : canonical_form (row_at f e) e ≡ e = λ i. record { kind = s.kind i; payload = s.payload i } in
      record {
        within = omega arith;
        continues = λ a fit.
            let b = o.continues a fit in
            let d = following e rest after h (ap rule.accepted (sym s.offset) ∙ b.accepted) (ap rule.fits (sym s.offset) ∙ b.fits) in
            record {
              accepted = ap rule.accepted left ∙ d.accepted;
              fits = ap rule.fits left ∙ d.fits;
              text = cc (append_assoc (take n bytes) (attribute_text e) (rule.canonical after));
            };
      }

  -- the prefix grows as long as all attributes so far are already canonical; `left` bytes are after it
  pub prefix_step : (bytes rest : List ℕ) (left : ℕ) (e : Attribute) (after : List ℕ) (b : Bool) → first_attribute rest ≡ Some (e, after) → (b ≡ true → IsCanonicalStep bytes rest (length bytes - left) e after) → IsCanonicalPrefix rule bytes (length bytes - left) → IsCanonicalPrefix rule bytes (length bytes - cond b (length after) left)
  prefix_step bytes rest left e after b h s o = cond_both b (length after) left (λ n. IsCanonicalPrefix rule bytes (length bytes - n)) (λ is. further bytes rest (length bytes - left) e after h (s is) o) (λ _. o)

  pub offset_step : (bytes rest : List ℕ) (left : ℕ) (e : Attribute) (after : List ℕ) (b : Bool) → (b ≡ true → IsCanonicalStep bytes rest (length bytes - left) e after) → b ≡ true → drop (length bytes - cond b (length after) left) bytes ≡ after
  offset_step bytes rest left e after true s h = offset_following bytes rest (length bytes - left) e after (s refl)
  offset_step bytes rest left e after false s h = absurd cc

-- the number of bytes after the prefix doesn't grow
pub left_step : (whole rest left : ℕ) (b : Bool) → rest ≤ whole → left ≤ whole → cond b rest left ≤ whole
left_step whole rest left b r l = cond_both b rest left (λ n. n ≤ whole) (λ _. r) (λ _. l)
