-- The lines of next hops and of records determine them, provided that those of shorter lists determine these.
use Rattle.std.proofs.Common.{◌≡◌, ℕ, zero, suc, ◌+◌, ◌-◌, ◌<◌, ◌≤◌, true, false, List, [], ◌∷◌, ◌++◌, length, take, drop, Option, Some, None, refl, sym, ap, subst, ◌∙◌, arith}
use Rattle.std.specs.Prelude.{◌&&◌, nat_le}
use Rattle.std.proofs.lemmas.Bool.{and_parts, leb-true}
use Rattle.std.proofs.lemmas.List.{length-drop, length-take}
use Rattle.netlink_packet_core_grammar.specs.Attributes.{Attribute}
use Rattle.netlink_packet_core_grammar.specs.Bytes.{AreBytes}
use Rattle.netlink_packet_core_grammar.specs.Numbers.{u16_at}
use Rattle.netlink_packet_core_grammar.proofs.Bytes.{AreBytes-drop, AreBytes-take}
use Rattle.link_lines_values.specs.Records.{Field, is_record, total_size}
use Rattle.link_lines_values.proofs.ValuesDetermined.{both_parts}
use Rattle.link_lines_raw.specs.declared.lists.ListedBy.TheVariants as L
use Rattle.link_lines_raw.specs.declared.raw_tables.RawTable.{RawTable}
use Rattle.link_lines_raw.specs.Attributes.{are_next_hops_after, are_records_after, is_first_record, is_next_hop, is_whole, next_hop_line, record_words}
use Rattle.link_lines_raw.specs.Coverage.{is_line_determined}
use Rattle.link_lines_raw.specs.Lists.{Listed, first_bytes, first_part, listed_lines, part_head, part_list, part_padding, part_text}
use Rattle.link_lines_raw.specs.Rows.{RecordLine}
use Rattle.link_lines_raw.proofs.ListLines.{next_hop_determined}
use Rattle.link_lines_raw.proofs.Payloads.{HopsDetermined, RecordsDetermined, ShorterDetermined, words_determined}
use Rattle.link_lines_raw.proofs.Spans.{IsUnder, first_text, listed_deep, span}
use Rattle.link_lines_raw.proofs.Whole.{cut_part, take_less}
use Rattle.link_lines_raw.proofs.Unfolding.{IsHop, hop_sizes, next, none, nothing_listed}

-- The lines of what is listed begin with one of its level, if there are any.
under_by : (level : ℕ) (listed : Listed) (p : List ℕ) (o : Option (Attribute × List ℕ)) → first_part listed p ≡ o → IsUnder (level + 1) (listed_lines level listed p)
under_by level listed p None h = subst (IsUnder (level + 1)) (sym (none level listed p h)) (record {})
under_by level listed p (Some x) h = subst (IsUnder (level + 1)) (sym (next level listed p x.0 x.1 h)) (omega arith)

pub listed_under : (level : ℕ) (listed : Listed) (p : List ℕ) → IsUnder (level + 1) (listed_lines level listed p)
listed_under level listed p = under_by level listed p (first_part listed p) refl

-- ---- next hops

hops_skipped : (skip : ℕ) (p : List ℕ) → are_next_hops_after skip p ≡ are_next_hops_after 0 (drop skip p)
unfolding are_next_hops_after
hops_skipped zero p = refl
hops_skipped (suc n) [] = refl
hops_skipped (suc n) (b ∷ p) = hops_skipped n p

-- A whole next hop at the start, and whole next hops after it.
pub record HopStep (p : List ℕ) : Type 0 where
  pub first : is_next_hop p ≡ true
  pub more : are_next_hops_after 0 (drop (u16_at 0 p) p) ≡ true

pub hop_step : (b : ℕ) (p : List ℕ) → are_next_hops_after 0 (b ∷ p) ≡ true → HopStep (b ∷ p)
unfolding are_next_hops_after
hop_step b p h =
    let parts = and_parts (is_next_hop (b ∷ p)) _ h in
    let s = hop_sizes (b ∷ p) parts.0 in
    let n = u16_at 0 (b ∷ p) in
    record {
      first = parts.0;
      more = ap (λ m. are_next_hops_after 0 (drop m (b ∷ p))) {x = n} {y = suc (n - 1)} (omega (arith, s.low)) ∙ sym (hops_skipped (n - 1) p) ∙ parts.1;
    }

-- The list in a next hop.
abbrev hop_list : List ℕ → List ℕ
hop_list p = drop 8 (take (u16_at 0 p) p)

hop_parts : (p : List ℕ) → is_next_hop p ≡ true → (is_record next_hop_line.1 (drop 2 (take 8 p)) ≡ true) × (is_whole (hop_list p) ≡ true)
hop_parts p h =
    let struct = cut_part 2 8 p (omega arith) in
    let s = hop_sizes p h in
    let list = cut_part 8 (u16_at 0 p) p s.low in
    let a = and_parts (nat_le 8 (length p)) _ h in
    let b = and_parts (nat_le 8 (u16_at 0 p)) _ a.1 in
    let c = and_parts (nat_le (u16_at 0 p) (length p)) _ b.1 in
    let d = and_parts (is_record next_hop_line.1 (take 6 (drop 2 p))) (is_whole (take (u16_at 0 p - 8) (drop 8 p))) c.1 in
    (ap (is_record next_hop_line.1) (sym struct) ∙ d.0, ap is_whole (sym list) ∙ d.1)

-- The lines of next hops: the first's, and the others'.
hop_lines : (level : ℕ) (t : RawTable) (p : List ℕ) → is_next_hop p ≡ true →
    listed_lines level (L.NextHops t) p ≡ (level, record_words next_hop_line (drop 2 (take 8 (take (u16_at 0 p) p)))) ∷ (listed_lines (level + 1) (L.Attributes t (hop_list p)) (hop_list p) ++ listed_lines level (L.NextHops t) (drop (u16_at 0 p) p))
unfolding first_part part_text part_head part_list part_padding
hop_lines level t p h =
    let list = hop_list p in
    let more = listed_lines (level + 1) (L.Attributes t list) list ++ listed_lines level (L.NextHops t) (drop (u16_at 0 p) p) in
    next level (L.NextHops t) p (record { kind = 0; payload = take (u16_at 0 p) p }) (drop (u16_at 0 p) p) (ap (λ b. first_bytes b (u16_at 0 p) p) h)
    ∙ ap (λ z. (level, record_words next_hop_line z) ∷ more) (cut_part 2 8 (take (u16_at 0 p) p) (omega arith))

two_determined : (p q : List ℕ) → AreBytes p → AreBytes q → 2 ≤ length p → 2 ≤ length q → u16_at 0 p ≡ u16_at 0 q → take 2 p ≡ take 2 q
unfolding u16_at
two_determined [] q a b i j e = absurd (omega (arith, i))
two_determined (x ∷ []) q a b i j e = absurd (omega (arith, i))
two_determined p [] a b i j e = absurd (omega (arith, j))
two_determined p (x ∷ []) a b i j e = absurd (omega (arith, j))
two_determined (x ∷ y ∷ p) (z ∷ w ∷ q) a b i j e =
    let low : x ≡ z = omega (arith, a.0, a.1.0, b.0, b.1.0, e) in
    let high : y ≡ w = omega (arith, a.0, a.1.0, b.0, b.1.0, e) in
    λ k. low k ∷ high k ∷ []

-- Next hops whose structs and lists are equal are equal.
hop_same : (p q : List ℕ) → AreBytes p → AreBytes q → IsHop p → IsHop q → drop 2 (take 8 p) ≡ drop 2 (take 8 q) → hop_list p ≡ hop_list q → (u16_at 0 p ≡ u16_at 0 q) × (take (u16_at 0 p) p ≡ take (u16_at 0 q) q)
hop_same p q a b i j struct list =
    let m = u16_at 0 p in
    let n = u16_at 0 q in
    let size : m ≡ n = omega (arith, ap length list, length-drop 8 (take m p), length-take m p, length-drop 8 (take n q), length-take n q, i.low, i.high, j.low, j.high) in
    let header : take 8 p ≡ take 8 q =
    both_parts 2 (take 8 p) (take 8 q) (take_less 2 8 p (omega arith) ∙ two_determined p q a b (omega (arith, i.header)) (omega (arith, j.header)) size ∙ sym (take_less 2 8 q (omega arith))) struct in
    (size, both_parts 8 (take m p) (take n q) (take_less 8 m p i.low ∙ header ∙ sym (take_less 8 n q j.low)) list)

module _ (n : ℕ) (shorter : ShorterDetermined n) where
  hops_by : (m level : ℕ) (t : RawTable) (p q : List ℕ) → length p ≤ m → length p < n → AreBytes p → AreBytes q → are_next_hops_after 0 p ≡ true → are_next_hops_after 0 q ≡ true →
      listed_lines level (L.NextHops t) p ≡ listed_lines level (L.NextHops t) q → p ≡ q
  hops_by m level t [] [] l k a b h i e = refl
  hops_by m level t [] (y ∷ q) l k a b h i e = let s = hop_step y q i in absurd (let no = sym (nothing_listed level (L.NextHops t)) ∙ e ∙ hop_lines level t (y ∷ q) s.first in cc)
  hops_by m level t (x ∷ p) [] l k a b h i e = let s = hop_step x p h in absurd (let no = sym (nothing_listed level (L.NextHops t)) ∙ sym e ∙ hop_lines level t (x ∷ p) s.first in cc)
  hops_by zero level t (x ∷ p) (y ∷ q) l k a b h i e = absurd (omega (arith, l))
  hops_by (suc m) level t (x ∷ p) (y ∷ q) l k a b h i e =
      let s = hop_step x p h in
      let r = hop_step y q i in
      let u = hop_sizes (x ∷ p) s.first in
      let v = hop_sizes (y ∷ q) r.first in
      let c = u16_at 0 (x ∷ p) in
      let d = u16_at 0 (y ∷ q) in
      let lines = sym (hop_lines level t (x ∷ p) s.first) ∙ e ∙ hop_lines level t (y ∷ q) r.first in
      let words : record_words next_hop_line (drop 2 (take 8 (take c (x ∷ p)))) ≡ record_words next_hop_line (drop 2 (take 8 (take d (y ∷ q)))) = ap first_text lines in
      let own = hop_parts (x ∷ p) s.first in
      let other = hop_parts (y ∷ q) r.first in
      let struct : drop 2 (take 8 (x ∷ p)) ≡ drop 2 (take 8 (y ∷ q)) =
      words_determined next_hop_line (drop 2 (take 8 (x ∷ p))) (drop 2 (take 8 (y ∷ q))) next_hop_determined (AreBytes-drop 2 (take 8 (x ∷ p)) (AreBytes-take 8 (x ∷ p) a)) (AreBytes-drop 2 (take 8 (y ∷ q)) (AreBytes-take 8 (y ∷ q) b)) own.0 other.0
      (ap (λ z. record_words next_hop_line (drop 2 z)) (sym (take_less 8 c (x ∷ p) u.low)) ∙ words ∙ ap (λ z. record_words next_hop_line (drop 2 z)) (take_less 8 d (y ∷ q) v.low)) in
      let cut = span (level + 1) (listed_lines (level + 1) (L.Attributes t (hop_list (x ∷ p))) (hop_list (x ∷ p))) (listed_lines (level + 1) (L.Attributes t (hop_list (y ∷ q))) (hop_list (y ∷ q)))
      (listed_lines level (L.NextHops t) (drop c (x ∷ p))) (listed_lines level (L.NextHops t) (drop d (y ∷ q)))
      (listed_deep (level + 1) (L.Attributes t (hop_list (x ∷ p))) (hop_list (x ∷ p))) (listed_deep (level + 1) (L.Attributes t (hop_list (y ∷ q))) (hop_list (y ∷ q))) (listed_under level (L.NextHops t) (drop c (x ∷ p))) (listed_under level (L.NextHops t) (drop d (y ∷ q))) (ap (drop 1) lines) in
      let list : hop_list (x ∷ p) ≡ hop_list (y ∷ q) =
      shorter (level + 1) t (hop_list (x ∷ p)) (hop_list (y ∷ q)) (omega (arith, length-drop 8 (take c (x ∷ p)), length-take c (x ∷ p), u.low, u.high, k)) (AreBytes-drop 8 (take c (x ∷ p)) (AreBytes-take c (x ∷ p) a)) (AreBytes-drop 8 (take d (y ∷ q)) (AreBytes-take d (y ∷ q) b)) own.1 other.1 cut.0 in
      let same = hop_same (x ∷ p) (y ∷ q) a b u v struct list in
      let rest = hops_by m level t (drop c (x ∷ p)) (drop d (y ∷ q)) (omega (arith, length-drop c (x ∷ p), u.low, u.high, l)) (omega (arith, length-drop c (x ∷ p), k)) (AreBytes-drop c (x ∷ p) a) (AreBytes-drop d (y ∷ q) b) s.more r.more cut.1 in
      both_parts c (x ∷ p) (y ∷ q) (same.1 ∙ ap (λ z. take z (y ∷ q)) (sym same.0)) (rest ∙ ap (λ z. drop z (y ∷ q)) (sym same.0))

  pub hops_determined : HopsDetermined n
  hops_determined level t p q l a b h i e = hops_by (length p) level t p q (omega arith) l a b h i e

-- ---- records

records_skipped : (fs : List Field) (skip : ℕ) (p : List ℕ) → are_records_after fs skip p ≡ are_records_after fs 0 (drop skip p)
unfolding are_records_after
records_skipped fs zero p = refl
records_skipped fs (suc n) [] = refl
records_skipped fs (suc n) (b ∷ p) = records_skipped fs n p

-- A record at the start, and records after it.
pub record RecordStep (fs : List Field) (p : List ℕ) : Type 0 where
  pub first : is_first_record fs p ≡ true
  pub low : 1 ≤ total_size fs
  pub high : total_size fs ≤ length p
  pub is : is_record fs (take (total_size fs) p) ≡ true
  pub more : are_records_after fs 0 (drop (total_size fs) p) ≡ true

pub record_step : (fs : List Field) (b : ℕ) (p : List ℕ) → are_records_after fs 0 (b ∷ p) ≡ true → RecordStep fs (b ∷ p)
unfolding are_records_after
record_step fs b p h =
    let n = total_size fs in
    let parts = and_parts (is_first_record fs (b ∷ p)) _ h in
    let c = and_parts (nat_le 1 n) _ parts.0 in
    let d = and_parts (nat_le n (length (b ∷ p))) (is_record fs (take n (b ∷ p))) c.1 in
    let low = leb-true 1 n c.0 in
    record {
      first = parts.0;
      low = low;
      high = leb-true n (length (b ∷ p)) d.0;
      is = d.1;
      more = ap (λ m. are_records_after fs 0 (drop m (b ∷ p))) {x = n} {y = suc (n - 1)} (omega (arith, low)) ∙ sym (records_skipped fs (n - 1) p) ∙ parts.1;
    }

record_lines : (level : ℕ) (line : RecordLine) (p : List ℕ) → is_first_record line.1 p ≡ true →
    listed_lines level (L.Records line) p ≡ (level, record_words line (take (total_size line.1) p)) ∷ listed_lines level (L.Records line) (drop (total_size line.1) p)
unfolding first_part part_text part_head part_list part_padding
record_lines level line p h = next level (L.Records line) p (record { kind = 0; payload = take (total_size line.1) p }) (drop (total_size line.1) p) (ap (λ b. first_bytes b (total_size line.1) p) h)

records_by : (m level : ℕ) (line : RecordLine) (p q : List ℕ) → length p ≤ m → is_line_determined line ≡ true → AreBytes p → AreBytes q → are_records_after line.1 0 p ≡ true → are_records_after line.1 0 q ≡ true →
    listed_lines level (L.Records line) p ≡ listed_lines level (L.Records line) q → p ≡ q
records_by m level line [] [] l d a b h i e = refl
records_by m level line [] (y ∷ q) l d a b h i e = let s = record_step line.1 y q i in absurd (let no = sym (nothing_listed level (L.Records line)) ∙ e ∙ record_lines level line (y ∷ q) s.first in cc)
records_by m level line (x ∷ p) [] l d a b h i e = let s = record_step line.1 x p h in absurd (let no = sym (nothing_listed level (L.Records line)) ∙ sym e ∙ record_lines level line (x ∷ p) s.first in cc)
records_by zero level line (x ∷ p) (y ∷ q) l d a b h i e = absurd (omega (arith, l))
records_by (suc m) level line (x ∷ p) (y ∷ q) l d a b h i e =
    let n = total_size line.1 in
    let s = record_step line.1 x p h in
    let r = record_step line.1 y q i in
    let lines = sym (record_lines level line (x ∷ p) s.first) ∙ e ∙ record_lines level line (y ∷ q) r.first in
    let words : record_words line (take n (x ∷ p)) ≡ record_words line (take n (y ∷ q)) = ap first_text lines in
    let rest = records_by m level line (drop n (x ∷ p)) (drop n (y ∷ q)) (omega (arith, length-drop n (x ∷ p), s.low, s.high, l)) d (AreBytes-drop n (x ∷ p) a) (AreBytes-drop n (y ∷ q) b) s.more r.more (ap (drop 1) lines) in
    both_parts n (x ∷ p) (y ∷ q) (words_determined line _ _ d (AreBytes-take n (x ∷ p) a) (AreBytes-take n (y ∷ q) b) s.is r.is words) rest

pub records_determined : RecordsDetermined
records_determined level line p q d a b h i e = records_by (length p) level line p q (omega arith) (and_parts (is_line_determined line) _ d).0 a b h i e

-- ---- one next hop or record after the other

pub hops_none : (p : List ℕ) → length p ≡ 0 → are_next_hops_after 0 p ≡ true
unfolding are_next_hops_after
hops_none [] l = refl
hops_none (b ∷ p) l = absurd (omega (arith, l))

pub hops_refused : (p : List ℕ) → 0 < length p → is_next_hop p ≡ false → are_next_hops_after 0 p ≡ false
unfolding are_next_hops_after
hops_refused [] l h = absurd (omega (arith, l))
hops_refused (b ∷ p) l h = ap (λ c. c && are_next_hops_after (u16_at 0 (b ∷ p) - 1) p) h

pub hops_next : (p : List ℕ) → 0 < length p → is_next_hop p ≡ true → are_next_hops_after 0 p ≡ are_next_hops_after 0 (drop (u16_at 0 p) p)
unfolding are_next_hops_after
hops_next [] l h = absurd (omega (arith, l))
hops_next (b ∷ p) l h =
    let s = hop_sizes (b ∷ p) h in
    let n = u16_at 0 (b ∷ p) in
    ap (λ c. c && are_next_hops_after (n - 1) p) h ∙ hops_skipped (n - 1) p ∙ ap (λ m. are_next_hops_after 0 (drop m (b ∷ p))) {x = suc (n - 1)} {y = n} (omega (arith, s.low))

pub records_none : (fs : List Field) (p : List ℕ) → length p ≡ 0 → are_records_after fs 0 p ≡ true
unfolding are_records_after
records_none fs [] l = refl
records_none fs (b ∷ p) l = absurd (omega (arith, l))

pub records_refused : (fs : List Field) (p : List ℕ) → 0 < length p → is_first_record fs p ≡ false → are_records_after fs 0 p ≡ false
unfolding are_records_after
records_refused fs [] l h = absurd (omega (arith, l))
records_refused fs (b ∷ p) l h = ap (λ c. c && are_records_after fs (total_size fs - 1) p) h

pub records_next : (fs : List Field) (p : List ℕ) → 0 < length p → is_first_record fs p ≡ true → are_records_after fs 0 p ≡ are_records_after fs 0 (drop (total_size fs) p)
unfolding are_records_after
records_next fs [] l h = absurd (omega (arith, l))
records_next fs (b ∷ p) l h =
    let n = total_size fs in
    let low = leb-true 1 n (and_parts (nat_le 1 n) _ h).0 in
    ap (λ c. c && are_records_after fs (n - 1) p) h ∙ records_skipped fs (n - 1) p ∙ ap (λ m. are_records_after fs 0 (drop m (b ∷ p))) {x = suc (n - 1)} {y = n} (omega (arith, low))

-- The sizes of a record at the start.
pub first_sizes : (fs : List Field) (p : List ℕ) → is_first_record fs p ≡ true → (1 ≤ total_size fs) × (total_size fs ≤ length p)
first_sizes fs p h =
    let c = and_parts (nat_le 1 (total_size fs)) _ h in
    let d = and_parts (nat_le (total_size fs) (length p)) (is_record fs (take (total_size fs) p)) c.1 in
    (leb-true 1 (total_size fs) c.0, leb-true (total_size fs) (length p) d.0)
