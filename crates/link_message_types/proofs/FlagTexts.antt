-- The part of a set of flags that remains to be written.
use denote.Shadow.{shadow}
use denote.Text.{Utf8}
use Rattle.std.proofs.Common.{◌≡◌, ◌+◌, ◌<◌, ◌≤◌, ℕ, true, false, List, [], ◌∷◌, ◌++◌, append_assoc, append-nil, drop, get_or, length, map, refl, subst, sym, ap, ◌∙◌}
use Rattle.std.specs.Prelude.{codes, flat_map, ◌==◌}
use Rattle.std.specs.Int.RustNames.{bit_and}
use Rattle.std.specs.List.{join_by}
use Rattle.std.specs.declared.fmt.Formatter.{Formatter}
use Rattle.std.specs.Fmt.{HasWritten, HasWrittenStyled, IsDefaultSpec, IsPlainFormatter, digits}
use Rattle.std.proofs.lemmas.List.{drop_all, drop_more}
use Rattle.bitflags.specs.Sets.{known_bits, without}
use Rattle.bitflags.specs.declared.traits.Flag.{Flag}
use Rattle.link_message_types.specs.LinkFlagTypes.{flag_names, link_flags_table, link_flags_text, unnamed_text}
use Rattle.link_message_types.specs.declared.link_flag.LinkFlags.{LinkFlags}

-- Texts in a row, the first after a separator and each other after ` | `.
abbrev pub written_after : List ℕ → List (List ℕ) → List ℕ
written_after separator [] = []
written_after separator (x ∷ xs) = separator ++ (x ++ flat_map (λ y. codes " | " ++ y) xs)

-- The text between two others is UTF-8.
pub bar_is_text : shadow (Utf8 (codes " | "))
unfolding lib.Utf8.encode
bar_is_text = (codes " | ", (refl, refl))

-- The row of a flag.
abbrev pub flag_row : Flag LinkFlags → List ℕ × ℕ
flag_row x = (x.name.now, x.value.0)

-- The bits of a set that have no name.
abbrev pub unnamed_of : LinkFlags → ℕ
unnamed_of v = without 32 v.0 (known_bits link_flags_table)

-- The texts of some flags and of the bits that have no name.
unfoldable pub texts_left : LinkFlags → List (Flag LinkFlags) → List (List ℕ)
texts_left v flags = flag_names (map flag_row flags) v.0 ++ unnamed_text (unnamed_of v)

written-joined : (xs : List (List ℕ)) → written_after [] xs ≡ join_by (λ text. text) (codes " | ") xs
written-joined [] = refl
written-joined (x ∷ xs) = refl

-- At the start everything remains.
pub all_left : (v : LinkFlags) (flags : List (Flag LinkFlags)) → map flag_row flags ≡ link_flags_table → written_after [] (texts_left v flags) ≡ link_flags_text v
unfolding texts_left link_flags_text
all_left v flags e =
    ap (λ rows. written_after [] (flag_names rows v.0 ++ unnamed_text (unnamed_of v))) e
    ∙ written-joined (flag_names link_flags_table v.0 ++ unnamed_text (unnamed_of v))

after-bar : (xs : List (List ℕ)) → flat_map (λ y. codes " | " ++ y) xs ≡ written_after (codes " | ") xs
after-bar [] = refl
after-bar (x ∷ xs) = append_assoc (codes " | ") x (flat_map (λ y. codes " | " ++ y) xs)

head-held : (v : LinkFlags) (x : Flag LinkFlags) (flags : List (Flag LinkFlags)) → (bit_and v.0 x.value.0 == x.value.0) ≡ true → texts_left v (x ∷ flags) ≡ x.name.now ∷ texts_left v flags
unfolding texts_left
head-held v x flags e = rw e refl

head-clear : (v : LinkFlags) (x : Flag LinkFlags) (flags : List (Flag LinkFlags)) → (bit_and v.0 x.value.0 == x.value.0) ≡ false → texts_left v (x ∷ flags) ≡ texts_left v flags
unfolding texts_left
head-clear v x flags e = rw e refl

-- After a flag that the set has, its name is written too, and a bar comes before the next text.
pub name_written : (v : LinkFlags) (flags : List (Flag LinkFlags)) (i : ℕ) (d : Flag LinkFlags) (done separator : List ℕ) → i < length flags → (bit_and v.0 (get_or flags i d).value.0 == (get_or flags i d).value.0) ≡ true
    → (done ++ (separator ++ (get_or flags i d).name.now)) ++ written_after (codes " | ") (texts_left v (drop (i + 1) flags)) ≡ done ++ written_after separator (texts_left v (drop i flags))
name_written v flags i d done separator h e =
    let x = get_or flags i d in
    let more = texts_left v (drop (i + 1) flags) in
    append_assoc done (separator ++ x.name.now) _
    ∙ ap (λ t. done ++ t) (append_assoc separator x.name.now _
    ∙ ap (λ t. separator ++ (x.name.now ++ t)) (sym (after-bar more))
    ∙ sym (ap (written_after separator) (ap (texts_left v) (drop_more flags i d h) ∙ head-held v x (drop (i + 1) flags) e)))

-- A flag that the set hasn't leaves the same texts.
pub name_passed : (v : LinkFlags) (flags : List (Flag LinkFlags)) (i : ℕ) (d : Flag LinkFlags) → i < length flags → (bit_and v.0 (get_or flags i d).value.0 == (get_or flags i d).value.0) ≡ false → texts_left v (drop (i + 1) flags) ≡ texts_left v (drop i flags)
name_passed v flags i d h e = sym (ap (texts_left v) (drop_more flags i d h) ∙ head-clear v (get_or flags i d) (drop (i + 1) flags) e)

-- At the end the bits that have no name remain.
pub names_done : (v : LinkFlags) (flags : List (Flag LinkFlags)) (i : ℕ) → length flags ≤ i → texts_left v (drop i flags) ≡ unnamed_text (unnamed_of v)
unfolding texts_left
names_done v flags i h = ap (λ rest. flag_names (map flag_row rest) v.0 ++ unnamed_text (unnamed_of v)) (drop_all i flags h)

-- The bits that have no name end the text.
pub number_written : (v : LinkFlags) (flags : List (Flag LinkFlags)) (i n : ℕ) (done separator : List ℕ) → length flags ≤ i → n ≡ unnamed_of v → false ≡ (n == 0)
    → done ++ (separator ++ (codes "0x" ++ digits 16 false n)) ≡ done ++ written_after separator (texts_left v (drop i flags))
number_written v flags i n done separator h e p =
    rw (names_done v flags i h, ← e, ← p) (ap (λ t. done ++ (separator ++ t)) (sym (append-nil (codes "0x" ++ digits 16 false n))))

-- If there are none, all is written.
pub nothing_written : (v : LinkFlags) (flags : List (Flag LinkFlags)) (i n : ℕ) (done separator : List ℕ) → length flags ≤ i → n ≡ unnamed_of v → true ≡ (n == 0) → done ≡ done ++ written_after separator (texts_left v (drop i flags))
nothing_written v flags i n done separator h e p = rw (names_done v flags i h, ← e, ← p) (sym (append-nil done))

-- The text under any options is that under none.
pub plain_of_styled : {W : Type 0} {took : W → List ℕ → W → Type 0} {f : Formatter W} {bytes : List ℕ} {g : Formatter W} → IsPlainFormatter f → HasWrittenStyled took f bytes g → HasWritten took f bytes g
plain_of_styled plain p = record { wrote = p.wrote; plain = record { bare = subst IsDefaultSpec (sym p.spec) plain.bare; flush = p.flush } }
