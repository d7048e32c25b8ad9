-- Bytes past a frame's length change no result, and bytes that end inside a frame are rejected.
use Rattle.std.proofs.Common.{◌≡◌, ℕ, ◌+◌, ◌-◌, ◌<◌, ◌≤◌, false, List, ◌++◌, length, get_or, take, drop, refl, sym, ap, ◌∙◌, arith, length-append, length-drop, Option, None}
use Rattle.std.proofs.lemmas.List.{get_or-take, get_or_append_left, drop-append-le, drop-take, take_at, length-take-le}
use Rattle.netlink_packet_core_grammar.specs.Numbers.{u16_at, u32_at}
use Rattle.netlink_packet_core_grammar.specs.Frames.{BeginsWithFrame, frame_length, frame_type, frame_body, begins_with_frame}
use Rattle.netlink_packet_core_grammar.specs.Laws.{NumbersAreIndependent}
use Rattle.netlink_packet_core_messages.specs.Headers.{header_of}
use Rattle.netlink_packet_core_messages.specs.Messages.{read_message}
use Rattle.netlink_packet_core_messages.proofs.Frames.{is_frame-true, is_frame-false}

-- two byte strings have the same header
abbrev AgreeOn16 : List ℕ → List ℕ → Type 0
AgreeOn16 c d = (i : ℕ) → i < 16 → get_or c i 0 ≡ get_or d i 0

header_agrees : (c d : List ℕ) → AgreeOn16 c d → header_of c ≡ header_of d
unfolding header_of u16_at u32_at
header_agrees c d a =
    rw (a 0 (omega arith), a 1 (omega arith), a 2 (omega arith), a 3 (omega arith), a 4 (omega arith), a 5 (omega arith), a 6 (omega arith), a 7 (omega arith))
    (rw (a 8 (omega arith), a 9 (omega arith), a 10 (omega arith), a 11 (omega arith), a 12 (omega arith), a 13 (omega arith), a 14 (omega arith), a 15 (omega arith)) refl)

length_agrees : (c d : List ℕ) → AgreeOn16 c d → u32_at 0 c ≡ u32_at 0 d
unfolding header_of
length_agrees c d a = ap (λ h. h.length) (header_agrees c d a)

type_agrees : (c d : List ℕ) → AgreeOn16 c d → u16_at 4 c ≡ u16_at 4 d
unfolding header_of
type_agrees c d a = ap (λ h. h.message_type) (header_agrees c d a)

same_reading : {V : Type 0} (reads : ℕ → List ℕ → Option V) (c d : List ℕ) → begins_with_frame c ≡ begins_with_frame d → frame_type c ≡ frame_type d → frame_body c ≡ frame_body d → header_of c ≡ header_of d → read_message reads c ≡ read_message reads d
same_reading reads c d e1 e2 e3 e4 = rw (e1, e2, e3, e4) refl

cut_agrees : (c rest : List ℕ) (n : ℕ) → 16 ≤ n → n ≤ length c → AgreeOn16 (take n c ++ rest) c
cut_agrees c rest n l m i h =
    let k = length-take-le n c m in
    get_or_append_left (take n c) rest 0 i (omega arith) ∙ get_or-take n c i 0 (omega arith)

body_agrees : (c rest : List ℕ) (n : ℕ) → 16 ≤ n → n ≤ length c → take (n - 16) (drop 16 (take n c ++ rest)) ≡ take (n - 16) (drop 16 c)
body_agrees c rest n l m =
    let k = length-take-le n c m in
    let e : 16 + (n - 16) ≡ n = omega arith in
    let d : drop 16 (take n c ++ rest) ≡ take (n - 16) (drop 16 c) ++ rest = drop-append-le 16 (take n c) rest (omega arith) ∙ ap (λ j. drop 16 (take j c) ++ rest) (sym e) ∙ ap (λ x. x ++ rest) (drop-take 16 (n - 16) c) in
    let s = length-take-le (n - 16) (drop 16 c) (omega (arith, length-drop 16 c)) in
    rw d (take_at (take (n - 16) (drop 16 c)) rest (n - 16) s)

pub cut_frame : (c rest : List ℕ) → BeginsWithFrame c → BeginsWithFrame (take (frame_length c) c ++ rest)
cut_frame c rest f =
    let k = length-take-le (frame_length c) c f.within in
    let l = length_agrees _ _ (cut_agrees c rest (frame_length c) f.covers_header f.within) in
    let a = length-append (take (frame_length c) c) rest in
    record {
      has_header = omega (arith, f.covers_header, k, a);
      covers_header = omega (arith, f.covers_header, l);
      within = omega (arith, l, k, a);
    }

pub past_body : (c rest : List ℕ) → BeginsWithFrame c → frame_body (take (frame_length c) c ++ rest) ≡ frame_body c
past_body c rest f =
    let l = length_agrees _ _ (cut_agrees c rest (frame_length c) f.covers_header f.within) in
    ap (λ n. take (n - 16) (drop 16 (take (frame_length c) c ++ rest))) l ∙ body_agrees c rest (frame_length c) f.covers_header f.within

pub past_frame : {V : Type 0} (reads : ℕ → List ℕ → Option V) (c rest : List ℕ) → BeginsWithFrame c → read_message reads (take (frame_length c) c ++ rest) ≡ read_message reads c
past_frame reads c rest f =
    let g = cut_agrees c rest (frame_length c) f.covers_header f.within in
    same_reading reads (take (frame_length c) c ++ rest) c
    (is_frame-true _ (cut_frame c rest f) ∙ sym (is_frame-true c f))
    (type_agrees _ _ g)
    (past_body c rest f)
    (header_agrees _ _ g)

cut_length : (c : List ℕ) (n : ℕ) → 16 ≤ n → n ≤ length c → u32_at 0 (take n c) ≡ u32_at 0 c
cut_length c n l m = length_agrees (take n c) c (λ i h. get_or-take n c i 0 (omega arith))

not_whole : (c : List ℕ) (n : ℕ) → BeginsWithFrame c → n < frame_length c → BeginsWithFrame (take n c) → ⊥
not_whole c n f h g =
    let k : length (take n c) ≡ n = (let w = f.within in length-take-le n c (omega arith)) in
    let l = cut_length c n (let b = g.has_header in omega arith) (let w = f.within in omega arith) in
    omega arith

none_read : {V : Type 0} (reads : ℕ → List ℕ → Option V) (c : List ℕ) → begins_with_frame c ≡ false → read_message reads c ≡ None
none_read reads c e = rw e refl

pub cut_refused : {V : Type 0} (reads : ℕ → List ℕ → Option V) (c : List ℕ) (n : ℕ) → BeginsWithFrame c → n < frame_length c → read_message reads (take n c) ≡ None
cut_refused reads c n f h = none_read reads (take n c) (is_frame-false _ (not_whole c n f h))

pub short_refused : NumbersAreIndependent → {V : Type 0} (reads : ℕ → List ℕ → Option V) (c rest : List ℕ) → 16 ≤ length c → frame_length c < 16 → read_message reads (c ++ rest) ≡ None
short_refused single reads c rest h l =
    none_read reads (c ++ rest) (is_frame-false _ (λ f. let k = f.covers_header in omega (arith, k)))
