-- A message's bytes in a buffer.
use Rattle.std.proofs.Common.{◌≡◌, ℕ, ◌+◌, ◌-◌, List, [], ◌++◌, length, take, drop, ap, ◌∙◌, arith, append_assoc, append-nil}
use Rattle.std.proofs.lemmas.List.{drop-drop, drop-take, drop_all}

-- the bytes written into a buffer of their size are the whole buffer
pub drop_exactly : (s b : List ℕ) → length b ≡ length s → s ++ drop (length s) b ≡ s
drop_exactly s b e =
    let z : drop (length s) b ≡ [] = drop_all (length s) b (omega arith) in
    rw z (append-nil s)

pub serialized : (buf head rest back header text : List ℕ) (n : ℕ) → length header ≡ 16 → head ≡ take 16 buf → rest ≡ drop 16 buf → back ≡ drop (n - 16) rest → n ≡ 16 + length text → (header ++ drop (length header) head) ++ (text ++ back) ≡ (header ++ text) ++ drop n buf
serialized buf head rest back header text n l e1 e2 e3 h =
    let z : drop 16 head ≡ [] = rw e1 (drop-take 16 0 buf) in
    let k : 16 + (n - 16) ≡ n = omega arith in
    let y : back ≡ drop n buf = rw (e3, e2) (drop-drop (n - 16) 16 buf ∙ ap (λ (j : ℕ). drop j buf) k) in
    rw (l, z, y) (simp (append_assoc, append-nil))
