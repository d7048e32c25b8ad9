-- Attributes that hold no others and are already canonical, one after another.
use Rattle.std.proofs.Common.{◌≡◌, ℕ, ◌+◌, ◌-◌, ◌<◌, true, false, List, length, ap, subst, ◌∙◌, arith}
use Rattle.std.specs.Prelude.{◌&&◌}
use Rattle.std.proofs.lemmas.Bool.{le-leb}
use Rattle.std.proofs.lemmas.List.{length-append}
use Rattle.netlink_packet_core_grammar.specs.Attributes.{attribute_length, attribute_text, nla_align}
use Rattle.netlink_packet_core_grammar.proofs.Sizes.{length-attribute_text}
use Rattle.attribute_tables_grammar.specs.Laws.{CanonicalListsUnfold, MeasuresUnfold}
use Rattle.attribute_tables_grammar.specs.Lists.{ListForm, Row, no_kind_in_force, without_context}
use Rattle.attribute_tables_grammar.specs.Walks.{MeasuredSoFar, plus, with_header}
use Rattle.link_interpreter.specs.Prefixes.{IsCanonicalValue, PassesCanonical, canonical_measure}
use Rattle.link_interpreter.proofs.PrefixSteps.{IsCanonicalStep, offset_following, prefix_step}

module _ (form : ListForm) (f : ℕ → Row) (rest after : List ℕ) (v : IsCanonicalValue form f rest after) where
  size : length rest ≡ nla_align (attribute_length v.attribute) + length after
  size = ap length v.text ∙ length-append (attribute_text v.attribute) after ∙ ap (λ n. n + length after) (length-attribute_text v.attribute)

  pub shorter : length after < length rest
  shorter = omega (arith, size)

  pub passed : MeasuresUnfold → CanonicalListsUnfold → (bytes : List ℕ) (count : ℕ) → PassesCanonical form f bytes count rest → PassesCanonical form f bytes (count + 1) after
  passed measures lists bytes count p =
      let e = v.attribute in
      let n = length bytes - length rest in
      let step : IsCanonicalStep f bytes rest n e after = record { offset = p.offset; kind = v.kind; payload = v.payload; text = v.text } in
      let sizes : n + nla_align (attribute_length e) ≡ length bytes - length after = omega (arith, size, p.within) in
      let fits = ap (λ b. b && true) (le-leb (attribute_length e) 65535 v.short) in
      let is : plus (canonical_measure n count) (with_header (canonical_measure (length e.payload) 0)) ≡ canonical_measure (length bytes - length after) (count + 1) =
      λ i. record { size = sizes i; attributes = count + 1; fits = fits i; empty_ports = false } in
      record {
        within = omega (arith, size, p.within);
        offset = offset_following f bytes rest n e after step;
        few = omega (arith, size, p.few);
        so_far = subst (λ m. MeasuredSoFar form (without_context f) bytes m no_kind_in_force after) is
            (measures.more form (without_context f) bytes rest no_kind_in_force e after (canonical_measure n count) (canonical_measure (length e.payload) 0) v.first v.kept v.measured p.so_far);
        already_canonical = lists.more form (without_context f) bytes rest no_kind_in_force e after v.first v.kept v.kind v.payload v.text p.already_canonical;
        prefix = prefix_step f bytes rest (length rest) e after true v.first (λ _. step) p.prefix;
      }
