-- Texts that are appended part by part, with bytes to spare.
use Rattle.std.proofs.Common.{◌≡◌, ◌≤◌, ◌++◌, ℕ, List, length, Vec, Ok, Err, ap, subst, length-append, Global, arith}
use Rattle.std.specs.Prelude.{Result, IsErr}
use Rattle.std.specs.declared.alloc.AllocError.{AllocError}
use Rattle.link_lines_values.specs.Appends.{Appends, AppendsAllBut}
use Rattle.link_lines_values.proofs.Appending.{kept_through, last}
use Rattle.link_lines_texts.specs.AppendsWith.{AppendsWith}

-- Nothing is to spare.
pub spared : {V : Type 0} (spare : ℕ) {old new : Vec ℕ Global} (r : Result V AllocError) {text : List ℕ} → Appends old new r text → AppendsWith spare old new r text
spared spare (Ok v) p = record { ok = p.ok; memory = tt; capacity = p.capacity; kept = p.kept }
spared spare {old} {new} (Err e) {text} p = record { ok = tt; memory = omega (arith, p.memory); capacity = p.capacity; kept = p.kept }

-- What is appended.
pub whole : {V : Type 0} {spare : ℕ} {old new : Vec ℕ Global} {v : V} {text : List ℕ} → AppendsWith spare old new (Ok v) text → Appends old new (Ok v) text
whole p = record { ok = p.ok; memory = tt; capacity = p.capacity; kept = p.kept }

-- With less to spare.
pub failed_with : {V W : Type 0} {old mid new : Vec ℕ Global} {e : AllocError} {all part : List ℕ} (more less : ℕ) (r : Result W AllocError) (left rest : List ℕ) → less ≤ more → IsErr r → AppendsAllBut old mid all left → AppendsWith {V = V} less mid new (Err e) part → part ++ rest ≡ left → AppendsWith more old new r all
failed_with more less (Ok v) left rest l h s p t = absurd cc
failed_with {old = old} {mid = mid} {new = new} {all = all} {part = part} more less (Err f) left rest l h s p t = record {
  ok = tt;
  memory = omega (arith, l, s.size, p.memory, s.capacity, ap length t, length-append part rest);
  capacity = omega (arith, s.capacity, p.capacity);
  kept = kept_through old.items mid.items new.items s.kept p.kept;
}

-- The last part.
pub last_with : {V : Type 0} {old mid new : Vec ℕ Global} {all part : List ℕ} (more less : ℕ) (r : Result V AllocError) → less ≤ more → AppendsAllBut old mid all part → AppendsWith less mid new r part → AppendsWith more old new r all
last_with more less (Ok v) l s p = spared more (Ok v) (last (Ok v) s (whole p))
last_with {old = old} {mid = mid} {new = new} {all = all} {part = part} more less (Err e) l s p = record {
  ok = tt;
  memory = omega (arith, l, s.size, p.memory, s.capacity);
  capacity = omega (arith, s.capacity, p.capacity);
  kept = kept_through old.items mid.items new.items s.kept p.kept;
}

-- The same text, written otherwise.
pub as_text_with : {V : Type 0} {spare : ℕ} {old new : Vec ℕ Global} {r : Result V AllocError} {a b : List ℕ} → a ≡ b → AppendsWith spare old new r a → AppendsWith spare old new r b
as_text_with {V} {spare} {old} {new} {r} e p = subst (λ text. AppendsWith spare old new r text) e p
