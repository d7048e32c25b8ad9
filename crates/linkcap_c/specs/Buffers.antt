-- What calls leave in a caller's buffer.
use Rattle.std.specs.Prelude.{◌≡◌, ℕ, ◌<◌, ◌≤◌, List, ◌++◌, length, drop}

-- The buffer begins with a text of the reported length; the bytes after it are unchanged.
abbrev pub Holds : List ℕ → ℕ → List ℕ → List ℕ → Type 0
Holds text size old new = (size ≡ length text) × (new ≡ text ++ drop size old)

-- The buffer is smaller than a text, whose length is reported.
abbrev pub Lacks : List ℕ → ℕ → List ℕ → Type 0
Lacks text size old = (length old < length text) × (size ≡ length text)

-- A text is copied to the start of a buffer, and the status is returned; or the buffer is too small, and unchanged. The
-- length of the text is reported.
pub record IsCopied (status : ℕ) (text : List ℕ) (answer size : ℕ) (old new : List ℕ) : Type 0 where
  pub reported : size ≡ length text
  pub fits : length text ≤ length old → (answer ≡ status) × (new ≡ text ++ drop (length text) old)
  pub lacks : length old < length text → (answer ≡ 4) × (new ≡ old)
