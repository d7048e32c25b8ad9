-- The rule of bodies for bytes that hold a header.
use Rattle.std.proofs.Common.{◌≡◌, ℕ, ◌≤◌, ◌<◌, Bool, true, false, List, [], ◌∷◌, ◌++◌, length, Some, refl, sym, ap, subst, ◌∙◌, arith, inl, inr}
use Rattle.std.specs.Prelude.{◌&&◌, ◌||◌, ◌==◌, nat_le, slice_index, map}
use Rattle.std.specs.List.{list_any}
use Rattle.std.proofs.Math.Nat.{min-eq_left, min-eq_right}
use Rattle.std.proofs.lemmas.Bool.{leb-true, le-leb, eqb-true, ne_eqb, cases_lt}
use Rattle.netlink_packet_core.specs.Numbers.{as_usize}
use Rattle.attribute_tables_grammar.specs.Lists.{any, without_context}
use Rattle.attribute_tables_grammar.specs.Readings.{reading_as}
use Rattle.attribute_tables.specs.Written.{written_as}
use Rattle.link_message_grammar.specs.Body.{attribute_bytes, attribute_row, attributes_rule, family, header_text, is_emptied, link_body, link_peer}
use Rattle.link_message_grammar.specs.Laws.{BodiesAreHeadersAndAttributes, EmptyPortsAreDetermined}
use Rattle.link_message_grammar.specs.LinkMessage.{Family, family_of}
use Rattle.link_message_types.specs.AddressFamilies.{address_family_of, table_family}
use Rattle.link_message_types.specs.declared.address_family.AddressFamily.{AddressFamily}
use Rattle.link_message_attributes.specs.declared.attributes.LinkAttribute.{LinkAttribute}
use Rattle.link_message_attributes.specs.LinkAttributes.{link_attribute_entry, link_attribute_fits}

short : (n : ℕ) (t : Bool) → nat_le 16 n ≡ t → n < 16 → t ≡ false
short n true e l = absurd (let h : 16 ≤ n = leb-true 16 n e in omega arith)
short n false e l = refl

pub body-short : BodiesAreHeadersAndAttributes link_peer → (b : List ℕ) → length b < 16 → link_body.accepted b ≡ false
body-short parts b l = (parts b).accepted ∙ ap (λ t. t && (attributes_rule link_peer (family b)).accepted (attribute_bytes b)) (short (length b) (nat_le 16 (length b)) refl l)

pub body-accepted : BodiesAreHeadersAndAttributes link_peer → (b : List ℕ) → 16 ≤ length b → link_body.accepted b ≡ (attributes_rule link_peer (family b)).accepted (attribute_bytes b)
body-accepted parts b l = (parts b).accepted ∙ ap (λ t. t && (attributes_rule link_peer (family b)).accepted (attribute_bytes b)) (le-leb 16 (length b) l)

pub body-canonical : BodiesAreHeadersAndAttributes link_peer → (b : List ℕ) → link_body.canonical b ≡ header_text b ++ (attributes_rule link_peer (family b)).canonical (attribute_bytes b)
body-canonical parts b = (parts b).canonical

pub body-fits : BodiesAreHeadersAndAttributes link_peer → (b : List ℕ) → link_body.fits b ≡ (attributes_rule link_peer (family b)).fits (attribute_bytes b)
body-fits parts b = (parts b).fits

-- The attributes that are read determine whether they have ports of which no entry is kept.
read_empty : (vs : List LinkAttribute) → list_any (λ w. is_emptied w.entry) (map (written_as link_attribute_entry link_attribute_fits) vs) ≡ list_any (λ v. is_emptied (link_attribute_entry v)) vs
read_empty [] = refl
read_empty (v ∷ vs) = ap (λ t. is_emptied (link_attribute_entry v) || t) (read_empty vs)

pub body-empty_ports : BodiesAreHeadersAndAttributes link_peer → EmptyPortsAreDetermined link_peer → (b : List ℕ) (f : Family) → f ≡ family b → (vs : List LinkAttribute) → reading_as any (without_context (attribute_row link_peer f)) (attribute_bytes b) ≡ Some (map (written_as link_attribute_entry link_attribute_fits) vs) → list_any (λ v. is_emptied (link_attribute_entry v)) vs ≡ link_body.empty_ports b
body-empty_ports parts law b f h vs r =
    sym (read_empty vs) ∙ sym (law f (attribute_bytes b) _ r) ∙ ap (λ g. (attributes_rule link_peer g).empty_ports (attribute_bytes b)) h ∙ sym (parts b).empty_ports

-- A size that `buffer_len` and similar functions return is 0 if they return 0.
pub emitted_size_determined : (n : ℕ) → (as_usize n == 0) ≡ (n == 0)
emitted_size_determined n =
    elim (cases_lt 18446744073709551615 n) [
      | inl k ↦ ap (λ x. x == 0) (min-eq_right (omega (arith, k))) ∙ sym (ne_eqb n 0 (λ h. absurd (omega (arith, h, k))))
      | inr k ↦ ap (λ x. x == 0) (min-eq_left k)
    ]

pub ruleset sizes = (emitted_size_determined)

-- ---- the table of the family in a header

abbrev Agrees : ℕ → Type 0
Agrees n = table_family (address_family_of n) ≡ family_of n

at : (n m : ℕ) (t : Bool) → (n == m) ≡ t → Agrees m → ((n == m) ≡ false → Agrees n) → Agrees n
at n m true h p q = subst Agrees (sym (eqb-true n m h)) p
at n m false h p q = q h

pub family-table : (n : ℕ) → table_family (address_family_of n) ≡ family_of n
family-table n =
    at n 0 (n == 0) refl refl (λ a.
    at n 1 (n == 1) refl refl (λ b.
    at n 2 (n == 2) refl refl (λ c.
    at n 7 (n == 7) refl refl (λ d.
    at n 10 (n == 10) refl refl (λ e.
    at n 16 (n == 16) refl refl (λ f.
    at n 17 (n == 17) refl refl (λ g.
    at n 45 (n == 45) refl refl (λ h. rw (a, b, c, d, e, f, g, h) refl))))))))

-- The family of the header is the one whose rows the body has.
pub body-family : (b : List ℕ) (a : AddressFamily) → a ≡ address_family_of (slice_index b 0) → table_family a ≡ family b
body-family b a h = ap table_family h ∙ family-table (slice_index b 0)

pub ruleset bodies = (body-short, body-accepted, body-canonical, body-fits, body-family, body-empty_ports)
