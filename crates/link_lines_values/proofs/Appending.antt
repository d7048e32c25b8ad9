-- Texts that are appended part by part.
use Rattle.std.proofs.Common.{◌≡◌, ◌≤◌, ◌+◌, ◌∷◌, [], ◌++◌, ℕ, List, length, take, Vec, vec_capacity, Ok, Err, refl, ap, sym, subst, ◌∙◌, append_assoc, append-nil, length-append, Global, arith}
use Rattle.std.specs.Prelude.{Result, IsErr}
use Rattle.std.specs.declared.alloc.AllocError.{AllocError}
use Rattle.std.proofs.Math.Seq.{take-append_seam, take-length}
use Rattle.link_lines_values.specs.Appends.{Appends, AppendsAllBut}

-- What came first before still comes first.
pub kept_through : (old mid new : List ℕ) → take (length old) mid ≡ old → take (length mid) new ≡ mid → take (length old) new ≡ old
kept_through [] mid new h k = refl
kept_through (x ∷ old) [] new h k = absurd cc
kept_through (x ∷ old) (y ∷ mid) [] h k = absurd cc
kept_through (x ∷ old) (y ∷ mid) (z ∷ new) h k =
    let h' : take (length old) mid ≡ old = cc in
    let k' : take (length mid) new ≡ mid = cc in
    let more = kept_through old mid new h' k' in
    cc

length_of : (a b c d : List ℕ) → a ++ b ≡ c ++ d → length a + length b ≡ length c + length d
length_of a b c d e = omega (arith, length-append a b, length-append c d, ap length e)

-- Nothing is appended yet.
pub start : (v : Vec ℕ Global) (text : List ℕ) → AppendsAllBut v v text text
start v text = record { text = refl; size = refl; capacity = omega arith; kept = take-length v.items }

-- The next part of what is left is appended.
pub step : {V : Type 0} {old mid new : Vec ℕ Global} {v : V} {whole part rest : List ℕ} (left : List ℕ) → AppendsAllBut old mid whole left → Appends mid new (Ok v) part → part ++ rest ≡ left → AppendsAllBut old new whole rest
step {V} {old} {mid} {new} {v} {whole} {part} {rest} left s p e = record {
  text = ap (λ z. z ++ rest) p.ok ∙ append_assoc mid.items part rest ∙ ap (λ z. mid.items ++ z) e ∙ s.text;
  size = omega (arith, s.size, ap length p.ok, length-append mid.items part, ap length e, length-append part rest);
  capacity = omega (arith, s.capacity, p.capacity);
  kept = kept_through old.items mid.items new.items s.kept p.kept;
}

-- The same, of what the vector itself appends.
pub added : {old mid : Vec ℕ Global} {whole rest : List ℕ} (new : Vec ℕ Global) (part left : List ℕ) → AppendsAllBut old mid whole left → new.items ≡ mid.items ++ part → vec_capacity mid ≤ vec_capacity new → part ++ rest ≡ left → AppendsAllBut old new whole rest
added {old} {mid} {whole} {rest} new part left s p h e =
    let appends : Appends {V = ℕ} mid new (Ok 0) part =
    record { ok = p; memory = tt; capacity = h; kept = ap (λ z. take (length mid.items) z) p ∙ take-append_seam mid.items part } in
    step left s appends e

-- Memory ran out at a part of what is left.
pub failed : {V W : Type 0} {old mid new : Vec ℕ Global} {e : AllocError} {whole part : List ℕ} (r : Result W AllocError) (left rest : List ℕ) → IsErr r → AppendsAllBut old mid whole left → Appends {V = V} mid new (Err e) part → part ++ rest ≡ left → Appends old new r whole
failed (Ok v) left rest h s p t = absurd cc
failed {old = old} {mid = mid} {new = new} {whole = whole} {part = part} (Err f) left rest h s p t = record {
  ok = tt;
  memory = omega (arith, s.size, p.memory, s.capacity, ap length t, length-append part rest);
  capacity = omega (arith, s.capacity, p.capacity);
  kept = kept_through old.items mid.items new.items s.kept p.kept;
}

-- Nothing is left.
pub done : {V : Type 0} {old new : Vec ℕ Global} {v : V} {whole : List ℕ} (rest : List ℕ) → AppendsAllBut old new whole rest → rest ≡ [] → Appends old new (Ok v) whole
done {V} {old} {new} {v} {whole} rest s e = record {
  ok = sym (append-nil new.items) ∙ ap (λ z. new.items ++ z) (sym e) ∙ s.text;
  memory = tt;
  capacity = s.capacity;
  kept = s.kept;
}

-- What is left is appended, or memory runs out.
pub last : {V : Type 0} {old mid new : Vec ℕ Global} (r : Result V AllocError) {whole part : List ℕ} → AppendsAllBut old mid whole part → Appends mid new r part → Appends old new r whole
last {V} {old} {mid} {new} (Ok v) {whole} {part} s p = record {
  ok = ap (λ z. z) p.ok ∙ s.text;
  memory = tt;
  capacity = omega (arith, s.capacity, p.capacity);
  kept = kept_through old.items mid.items new.items s.kept p.kept;
}
last {V} {old} {mid} {new} (Err e) {whole} {part} s p = record {
  ok = tt;
  memory = omega (arith, s.size, p.memory, s.capacity);
  capacity = omega (arith, s.capacity, p.capacity);
  kept = kept_through old.items mid.items new.items s.kept p.kept;
}

-- The same text, written otherwise.
pub as_text : {V : Type 0} {old new : Vec ℕ Global} {r : Result V AllocError} {a b : List ℕ} → a ≡ b → Appends old new r a → Appends old new r b
as_text {V} {old} {new} {r} e p = subst (λ text. Appends old new r text) e p
