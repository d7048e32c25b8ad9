-- The lines of what is listed are determined part by part, however many steps are allowed.
use Rattle.std.proofs.Common.{◌≡◌, ℕ, zero, suc, ◌+◌, ◌<◌, ◌≤◌, Bool, true, false, cond, List, [], ◌∷◌, ◌++◌, length, take, drop, Option, Some, None, refl, sym, ap, subst, ◌∙◌, arith}
use Rattle.std.specs.Prelude.{⊤, ◌==◌, nat_le}
use Rattle.std.proofs.lemmas.Bool.{and_parts, eq-eqb, le-leb, leb-true}
use Rattle.std.proofs.lemmas.List.{length-drop, length-take}
use Rattle.std.proofs.lemmas.Option.{same_Some}
use Rattle.netlink_packet_core_grammar.specs.Attributes.{Attribute, nla_align, attribute_length, first_attribute}
use Rattle.netlink_packet_core_grammar.specs.Numbers.{u16_at}
use Rattle.netlink_packet_core_grammar.proofs.Attributes.{sized}
use Rattle.link_lines_values.specs.Records.{total_size}
use Rattle.link_lines_raw.specs.declared.lists.ListedBy.TheVariants as L
use Rattle.link_lines_raw.specs.declared.raw_tables.RawTable.{RawTable}
use Rattle.link_lines_raw.specs.declared.rows.RawBy.TheVariants as R
use Rattle.link_lines_raw.specs.Attributes.{is_first_record, is_next_hop, is_shown, levels_below, raw_row}
use Rattle.link_lines_raw.specs.Choices.{resolved}
use Rattle.link_lines_parts.specs.Levels.{deepest_level}
use Rattle.link_lines_raw.specs.Lists.{Listed, first_bytes, first_part, inside_lines, is_part, lines_inside, lines_within, listed_in, listed_lines, levels_of, named_list, next_lines, part_lines, part_list, part_padding, shown_list}
use Rattle.link_lines_raw.specs.Names.{Named}
use Rattle.link_lines_raw.specs.Rows.{Raw, RecordLine}

-- What a part lists, if anything, is shorter than some bytes.
abbrev pub Within : ℕ → Option (Listed × List ℕ) → Type 0
Within n None = ⊤
Within n (Some x) = length x.1 < n

listed_within : (n : ℕ) (raw : Raw) (p : List ℕ) → length p < n → Within n (listed_in raw p)
listed_within n (R.Value shown) p h = record {}
listed_within n (R.List table) p h = h
listed_within n (R.Chosen choice kind) p h = record {}
listed_within n (R.Head line table) p h = omega (arith, h, length-drop (total_size line.1) p)
listed_within n (R.HeadAndRecords head line) p h = omega (arith, h, length-drop (total_size head.1) p)
listed_within n (R.Hops table) p h = h
listed_within n (R.Records line) p h = h

either_within : (n : ℕ) (b : Bool) (o : Option (Listed × List ℕ)) → Within n o → Within n (cond b o None)
either_within n true o h = h
either_within n false o h = record {}

named_within : (n level : ℕ) (o : Option (Named Raw)) (list : List ℕ) (e : Attribute) → length e.payload < n → Within n (named_list level o list e)
named_within n level None list e h = record {}
named_within n level (Some row) list e h = either_within n (is_shown level (resolved row.1 list) e.payload) (listed_in (resolved row.1 list) e.payload) (listed_within n (resolved row.1 list) e.payload h)

-- A part of what is listed, and what it lists, are shorter than the bytes.
pub record Smaller (level : ℕ) (listed : Listed) (bytes : List ℕ) (e : Attribute) (rest : List ℕ) : Type 0 where
  pub rest_shorter : length rest < length bytes
  pub within : Within (length bytes) (part_list level listed e)

aligned : (n : ℕ) → n ≤ nla_align n
aligned n = omega arith

attribute_smaller : (level : ℕ) (table : RawTable) (list bytes : List ℕ) (e : Attribute) (rest : List ℕ) → first_attribute bytes ≡ Some (e, rest) → Smaller level (L.Attributes table list) bytes e rest
unfolding part_list
attribute_smaller level table list bytes e rest h =
    let a = aligned (attribute_length e) in
    let b = sized bytes e rest h in
    record {
      rest_shorter = omega (arith, a, b.within, b.rest_length);
      within = named_within (length bytes) (level + 1) (raw_row table e.kind) list e (omega (arith, b.within));
    }

-- The first bytes are there, and what follows them is shorter.
pub record IsFirst (n : ℕ) (bytes : List ℕ) (e : Attribute) (rest : List ℕ) (b : Bool) : Type 0 where
  pub holds : b ≡ true
  pub payload_is : take n bytes ≡ e.payload
  pub rest_is : drop n bytes ≡ rest
  pub kind_is : 0 ≡ e.kind

pub first_bytes_are : (n : ℕ) (bytes : List ℕ) (e : Attribute) (rest : List ℕ) (b : Bool) → first_bytes b n bytes ≡ Some (e, rest) → IsFirst n bytes e rest b
first_bytes_are n bytes e rest false h = absurd cc
first_bytes_are n bytes e rest true h =
    let s = same_Some _ (e, rest) h in
    record { holds = refl; payload_is = ap (λ x. x.0.payload) s; rest_is = ap (λ x. x.1) s; kind_is = ap (λ x. x.0.kind) s }

-- The parts of a whole next hop.
pub record IsHop (bytes : List ℕ) : Type 0 where
  pub header : 8 ≤ length bytes
  pub low : 8 ≤ u16_at 0 bytes
  pub high : u16_at 0 bytes ≤ length bytes

pub hop_sizes : (bytes : List ℕ) → is_next_hop bytes ≡ true → IsHop bytes
hop_sizes bytes h =
    let a = and_parts (nat_le 8 (length bytes)) _ h in
    let b = and_parts (nat_le 8 (u16_at 0 bytes)) _ a.1 in
    let c = and_parts (nat_le (u16_at 0 bytes) (length bytes)) _ b.1 in
    record { header = leb-true 8 (length bytes) a.0; low = leb-true 8 (u16_at 0 bytes) b.0; high = leb-true (u16_at 0 bytes) (length bytes) c.0 }

hop_smaller : (level : ℕ) (table : RawTable) (bytes : List ℕ) (e : Attribute) (rest : List ℕ) → IsFirst (u16_at 0 bytes) bytes e rest (is_next_hop bytes) → Smaller level (L.NextHops table) bytes e rest
unfolding part_list
hop_smaller level table bytes e rest f =
    let h = hop_sizes bytes f.holds in
    let n = u16_at 0 bytes in
    record {
      rest_shorter = subst (λ r. length r < length bytes) f.rest_is (omega (arith, length-drop n bytes, h.low, h.high));
      within = subst (λ p. length (drop 8 p) < length bytes) f.payload_is (omega (arith, length-drop 8 (take n bytes), length-take n bytes, h.low, h.high));
    }

record_smaller : (level : ℕ) (line : RecordLine) (bytes : List ℕ) (e : Attribute) (rest : List ℕ) → IsFirst (total_size line.1) bytes e rest (is_first_record line.1 bytes) → Smaller level (L.Records line) bytes e rest
unfolding part_list
record_smaller level line bytes e rest f =
    let n = total_size line.1 in
    let a = and_parts (nat_le 1 n) _ f.holds in
    let b = and_parts (nat_le n (length bytes)) _ a.1 in
    record {
      rest_shorter = subst (λ r. length r < length bytes) f.rest_is (omega (arith, length-drop n bytes, leb-true 1 n a.0, leb-true n (length bytes) b.0));
      within = record {};
    }

pub part_smaller : (level : ℕ) (listed : Listed) (bytes : List ℕ) (e : Attribute) (rest : List ℕ) → first_part listed bytes ≡ Some (e, rest) → Smaller level listed bytes e rest
unfolding first_part
part_smaller level (L.Attributes table list) bytes e rest h = attribute_smaller level table list bytes e rest h
part_smaller level (L.NextHops table) bytes e rest h = hop_smaller level table bytes e rest (first_bytes_are (u16_at 0 bytes) bytes e rest (is_next_hop bytes) h)
part_smaller level (L.Records line) bytes e rest h = record_smaller level line bytes e rest (first_bytes_are (total_size line.1) bytes e rest (is_first_record line.1 bytes) h)

-- ---- any number of steps that suffices

abbrev Agree : ℕ → ℕ → Type 0
Agree m n = (level : ℕ) (listed : Listed) (bytes : List ℕ) → length bytes ≤ m → length bytes ≤ n → lines_within m level listed bytes ≡ lines_within n level listed bytes

same_inside : (m n level size : ℕ) (o : Option (Listed × List ℕ)) → Agree m n → Within size o → size ≤ suc m → size ≤ suc n → lines_inside (λ l d b. lines_within m l d b) level o ≡ lines_inside (λ l d b. lines_within n l d b) level o
same_inside m n level size None i w h k = refl
same_inside m n level size (Some x) i w h k = i level x.0 x.1 (omega (arith, w, h)) (omega (arith, w, k))

same_next : (m n level : ℕ) (listed : Listed) (bytes : List ℕ) → Agree m n → length bytes ≤ suc m → length bytes ≤ suc n → (o : Option (Attribute × List ℕ)) → first_part listed bytes ≡ o → next_lines (λ l d b. lines_within m l d b) level listed bytes o ≡ next_lines (λ l d b. lines_within n l d b) level listed bytes o
same_next m n level listed bytes i p q None h = refl
same_next m n level listed bytes i p q (Some x) h =
    let s = part_smaller level listed bytes x.0 x.1 h in
    let own = part_lines level listed x.0 (part_padding listed x.0 bytes) in
    ap (λ z. own ++ (z ++ lines_within m level listed x.1)) (same_inside m n (level + 1) (length bytes) (part_list level listed x.0) i s.within p q)
    ∙ ap (λ z. own ++ (lines_inside (λ l d b. lines_within n l d b) (level + 1) (part_list level listed x.0) ++ z)) (i level listed x.1 (omega (arith, s.rest_shorter, p)) (omega (arith, s.rest_shorter, q)))

no_part : (listed : Listed) (x : Attribute × List ℕ) → first_part listed [] ≡ Some x → ⊥
no_part listed x h = let s = (part_smaller 0 listed [] x.0 x.1 h).rest_shorter in omega (arith, s)

none_next : (n level : ℕ) (listed : Listed) (o : Option (Attribute × List ℕ)) → first_part listed [] ≡ o → next_lines (λ l d b. lines_within n l d b) level listed [] o ≡ []
none_next n level listed None h = refl
none_next n level listed (Some x) h = absurd (no_part listed x h)

pub enough : (m n : ℕ) → Agree m n
unfolding lines_within
enough zero zero level listed bytes p q = refl
enough zero (suc n) level listed [] p q = sym (none_next n level listed (first_part listed []) refl)
enough zero (suc n) level listed (b ∷ bytes) p q = absurd (omega (arith, p))
enough (suc m) zero level listed [] p q = none_next m level listed (first_part listed []) refl
enough (suc m) zero level listed (b ∷ bytes) p q = absurd (omega (arith, q))
enough (suc m) (suc n) level listed bytes p q = same_next m n level listed bytes (enough m n) p q (first_part listed bytes) refl

inside_is : (n level size : ℕ) (o : Option (Listed × List ℕ)) → Within size o → size ≤ suc n → lines_inside (λ l d b. lines_within n l d b) level o ≡ inside_lines level o
unfolding listed_lines
inside_is n level size None w h = refl
inside_is n level size (Some x) w h = enough n (length x.1) level x.0 x.1 (omega (arith, w, h)) (omega arith)

-- The lines of the first part, of what it lists, and of the parts after it.
pub next : (level : ℕ) (listed : Listed) (bytes : List ℕ) (e : Attribute) (after : List ℕ) → first_part listed bytes ≡ Some (e, after) →
    listed_lines level listed bytes ≡ part_lines level listed e (part_padding listed e bytes) ++ (inside_lines (level + 1) (part_list level listed e) ++ listed_lines level listed after)
unfolding listed_lines lines_within
next level listed [] e after h = absurd (no_part listed (e, after) h)
next level listed (b ∷ bytes) e after h =
    let s = part_smaller level listed (b ∷ bytes) e after h in
    let own = part_lines level listed e (part_padding listed e (b ∷ bytes)) in
    ap (λ o. next_lines (λ l d z. lines_within (length bytes) l d z) level listed (b ∷ bytes) o) h
    ∙ ap (λ z. own ++ (z ++ lines_within (length bytes) level listed after)) (inside_is (length bytes) (level + 1) (suc (length bytes)) (part_list level listed e) s.within (omega arith))
    ∙ ap (λ z. own ++ (inside_lines (level + 1) (part_list level listed e) ++ z)) (enough (length bytes) (length after) level listed after (omega (arith, s.rest_shorter)) (omega arith))

pub none : (level : ℕ) (listed : Listed) (bytes : List ℕ) → first_part listed bytes ≡ None → listed_lines level listed bytes ≡ []
unfolding listed_lines lines_within
none level listed [] h = refl
none level listed (b ∷ bytes) h = ap (λ o. next_lines (λ l d z. lines_within (length bytes) l d z) level listed (b ∷ bytes) o) h

pub nothing_listed : (level : ℕ) (listed : Listed) → listed_lines level listed [] ≡ []
unfolding listed_lines lines_within
nothing_listed level listed = refl

-- A part is one of what is listed.
pub part_is_part : (listed : Listed) (bytes : List ℕ) (e : Attribute) (rest : List ℕ) → first_part listed bytes ≡ Some (e, rest) → is_part listed e.payload ≡ true
unfolding first_part
part_is_part (L.Attributes table list) bytes e rest h = refl
part_is_part (L.NextHops table) bytes e rest h =
    let f = first_bytes_are (u16_at 0 bytes) bytes e rest (is_next_hop bytes) h in
    let s = hop_sizes bytes f.holds in
    subst (λ p. nat_le 8 (length p) ≡ true) f.payload_is (le-leb 8 (length (take (u16_at 0 bytes) bytes)) (omega (arith, length-take (u16_at 0 bytes) bytes, s.low, s.high)))
part_is_part (L.Records line) bytes e rest h =
    let n = total_size line.1 in
    let f = first_bytes_are n bytes e rest (is_first_record line.1 bytes) h in
    let a = and_parts (nat_le 1 n) _ f.holds in
    let b = and_parts (nat_le n (length bytes)) _ a.1 in
    subst (λ p. (length p == n) ≡ true) f.payload_is (eq-eqb (length (take n bytes)) n (omega (arith, length-take n bytes, leb-true n (length bytes) b.0)))

-- ---- what a part lists isn't too deep

-- The lines of what is listed, if anything, are in reach at this level.
abbrev pub InReach : ℕ → Option (Listed × List ℕ) → Type 0
InReach level None = ⊤
InReach level (Some x) = level + levels_of x.0 ≤ deepest_level

listed_in_reach : (level : ℕ) (raw : Raw) (p : List ℕ) → level + levels_below raw ≤ deepest_level → InReach level (listed_in raw p)
listed_in_reach level (R.Value shown) p h = record {}
listed_in_reach level (R.List table) p h = h
listed_in_reach level (R.Chosen choice kind) p h = record {}
listed_in_reach level (R.Head line table) p h = h
listed_in_reach level (R.HeadAndRecords head line) p h = h
listed_in_reach level (R.Hops table) p h = h
listed_in_reach level (R.Records line) p h = h

shown_by : (level : ℕ) (raw : Raw) (p : List ℕ) (b : Bool) → is_shown level raw p ≡ b → InReach level (cond b (listed_in raw p) None)
shown_by level raw p true h =
    listed_in_reach level raw p (leb-true (level + levels_below raw) deepest_level (and_parts (nat_le (level + levels_below raw) deepest_level) _ h).0)
shown_by level raw p false h = record {}

pub shown_in_reach : (level : ℕ) (raw : Raw) (p : List ℕ) → InReach level (shown_list level raw p)
shown_in_reach level raw p = shown_by level raw p (is_shown level raw p) refl

pub named_in_reach : (level : ℕ) (o : Option (Named Raw)) (list : List ℕ) (e : Attribute) → InReach level (named_list level o list e)
named_in_reach level None list e = record {}
named_in_reach level (Some row) list e = shown_in_reach level (resolved row.1 list) e.payload

pub part_in_reach : (level : ℕ) (listed : Listed) (e : Attribute) → level + levels_of listed ≤ deepest_level → InReach (level + 1) (part_list level listed e)
unfolding part_list
part_in_reach level (L.Attributes table list) e h = named_in_reach (level + 1) (raw_row table e.kind) list e
part_in_reach level (L.NextHops table) e h = omega (arith, h)
part_in_reach level (L.Records line) e h = record {}
