-- The quirks that remain while a walk is inside the lists of a frame.
use Rattle.std.specs.Prelude.{◌≡◌, ℕ, suc, ◌+◌, ◌^◌, ◌<◌, ◌≤◌, List, [], ◌∷◌, ◌++◌, length, drop, Option, Some, None}
use Rattle.std.specs.Prelude.{Result, Ok, Err}
use Rattle.link_capture_grammar.specs.declared.fault.CaptureFault.{CaptureFault}
use Rattle.link_capture_grammar.specs.Captures.{first_fault, shifted}
use Rattle.link_capture_quirks.specs.declared.quirk_at.QuirkAt.{QuirkAt}
use Rattle.link_capture_quirks.specs.declared.walk.Level.{Level}
use Rattle.link_capture_walks.specs.Listings.{listing}
use Rattle.link_capture_quirks.specs.QuirkTables.{depth}
use Rattle.link_capture_quirks.specs.QuirkLists.{list_quirks}
use Rattle.link_capture_quirks.specs.CaptureQuirks.{quirks_from}
use Rattle.link_message_grammar.specs.Body.{link_body}

-- The quirks of the rest of one list.
abbrev pub level_quirks : Level → List QuirkAt
level_quirks l = list_quirks (listing l.list) l.offset l.rest.now

-- The quirks of the rest of nested lists, each inside the one before it.
abbrev pub levels_quirks : List Level → List QuirkAt
levels_quirks [] = []
levels_quirks (l ∷ ls) = levels_quirks ls ++ level_quirks l

-- A quirk, if there is one.
abbrev pub optional_quirk : Option QuirkAt → List QuirkAt
optional_quirk None = []
optional_quirk (Some x) = x ∷ []

-- The quirks of a walk: up to two that were found already, and then those of nested lists.
abbrev pub walk_quirks : Option QuirkAt → Option QuirkAt → List Level → List QuirkAt
walk_quirks first second levels = optional_quirk first ++ (optional_quirk second ++ levels_quirks levels)

-- With n lists around it, the list l leaves space for those inside it, and its offsets fit the machine's integers.
pub record FitsInside (n : ℕ) (l : Level) : Type 0 where
  pub depth_fits : n + depth (listing l.list) ≤ 5
  pub near : 0 < length l.rest.now → l.offset + length l.rest.now < 2 ^ 63

-- Each of these nested lists, of which the first has n lists around it, fits (`FitsInside`).
abbrev pub AreWithin : ℕ → List Level → Type 0
AreWithin n [] = Unit {0}
AreWithin n (l ∷ ls) = FitsInside n l × AreWithin (suc n) ls

-- The measure of a walk: its remaining bytes and lists.
abbrev pub weight : List Level → ℕ
weight [] = 0
weight (l ∷ ls) = weight ls + (length l.rest.now + 1)

-- ---- of a capture from an offset on

-- The quirks of a capture from an offset on.
abbrev pub rest_quirks : ℕ → List ℕ → ℕ → List QuirkAt
rest_quirks limit c offset = quirks_from limit offset (drop offset c)

-- The first fault of a capture from an offset on.
abbrev pub rest_fault : ℕ → List ℕ → ℕ → Option CaptureFault
rest_fault limit c offset = shifted offset (first_fault link_body limit (drop offset c))

-- A step of a walk: `from` are the quirks left of the frames begun so far, which end at the offset `start`; they become
-- `to` and `offset`. The step yields the next quirk, or the first fault from `start` on if no quirk is left before it, or
-- None. No quirk follows a fault.
abbrev pub IsStep : ℕ → List ℕ → List QuirkAt → ℕ → List QuirkAt → ℕ → Option (Result QuirkAt CaptureFault) → Type 0
IsStep limit c from start to offset None = (from ++ rest_quirks limit c start ≡ []) ×
    (rest_fault limit c start ≡ None) × (to ++ rest_quirks limit c offset ≡ []) × (rest_fault limit c offset ≡ None)
IsStep limit c from start to offset (Some (Ok x)) =
    (from ++ rest_quirks limit c start ≡ x ∷ (to ++ rest_quirks limit c offset)) ×
    (rest_fault limit c start ≡ rest_fault limit c offset)
IsStep limit c from start to offset (Some (Err fault)) = (from ++ rest_quirks limit c start ≡ []) ×
    (rest_fault limit c start ≡ Some fault) × (to ≡ [])
