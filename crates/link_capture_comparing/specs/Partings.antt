-- What is known of two sides once they have parted: after a difference, a fault, or the ends of both.
use Rattle.std.specs.Prelude.{◌≡◌, ◌↔◌, ℕ, Bool, true, false, List, [], None}
use Rattle.std.specs.Io.KnownBytes.{Consumes}
use Rattle.link_capture_grammar.specs.declared.fault.CaptureFault.{CaptureFault}
use Rattle.link_capture_grammar.specs.Captures.{IsLegal}
use Rattle.link_capture_grammar.specs.Same.{SameCapture}
use Rattle.link_capture_comparing.specs.Comparisons.{Sources}
use Rattle.link_capture_comparing.specs.Readings.{HasRead, ReadFailsAfter}
use Rattle.link_capture_comparing.specs.Sides.{SideState, HasJudged, Extends}
use Rattle.link_capture_grammar.specs.Body.{link_body}

-- Unless a side has a fault, `is_same` says of all legal captures that extend a and b whether they mean the same.
abbrev pub IsDecided : ℕ → SideState → SideState → List ℕ → List ℕ → Bool → Type 0
IsDecided limit l r a b is_same =
    l.fault ≡ None → r.fault ≡ None → (c d : List ℕ) → Extends l.ended a c → Extends r.ended b d → IsLegal link_body limit c →
    IsLegal link_body limit d → (is_same ≡ true) ↔ SameCapture link_body limit c d

-- The bytes a and b were read of the sources, l and r have judged them so far, and `is_same` decides (`IsDecided`).
pub record SidesHaveParted (q : Sources) (limit : ℕ) (l r : SideState) (a b : List ℕ) (is_same : Bool) : Type 0 where
  pub left : HasRead q.left_before q.left_after l.ended l.read a
  pub right : HasRead q.right_before q.right_after r.ended r.read b
  pub left_judged : HasJudged l.fault l a
  pub right_judged : HasJudged r.fault r b
  pub decided : IsDecided limit l r a b is_same

-- Reading the first source failed (false), or the second (true).
abbrev pub PartingFails : Sources → SideState → Bool → CaptureFault → Type 0
PartingFails q l false fault =
    ReadFailsAfter q.left_before q.left_after [] fault
    × ((b : List ℕ) × Consumes q.right_before.to_come q.right_after.to_come b)
PartingFails q l true fault =
    ReadFailsAfter q.right_before q.right_after [] fault
    × ((a : List ℕ) × HasRead q.left_before q.left_after l.ended l.read a)
