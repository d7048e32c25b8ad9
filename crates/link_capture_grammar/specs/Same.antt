-- When two captures mean the same, under a rule of link bodies. Frames are compared by their bytes; texts only decide
-- whether they are accepted.
use Rattle.std.specs.Prelude.{◌≡◌, ℕ, Bool, true, List, [], ◌∷◌, length, take, drop, cond, nat_eq, bytes_eq}
use Rattle.netlink_packet_core_grammar.specs.Frames.{frame_type, frame_body}
use Rattle.attribute_tables_grammar.specs.Rules.{Rule}
use Rattle.link_capture_grammar.specs.Bodies.{is_link_type}
use Rattle.link_capture_grammar.specs.Captures.{Frame, IsLegal, split}

-- A body of type 3, where an empty one is replaced by the code 0.
abbrev pub done_body : List ℕ → List ℕ
done_body b = cond (nat_eq (length b) 0) (0 ∷ 0 ∷ 0 ∷ 0 ∷ []) b

-- Two bodies of type t mean the same: always if it is NOOP, by the rule if it is a link's, otherwise if they are equal,
-- where the empty body of a DONE counts as the code 0.
unfoldable pub same_body : Rule → ℕ → List ℕ → List ℕ → Bool
same_body r t a b =
    cond (nat_eq t 1) true
    (cond (nat_eq t 3) (bytes_eq (done_body a) (done_body b))
    (cond (is_link_type t) (r.same a b) (bytes_eq a b)))

-- The frames at the start of a and b mean the same: they have equal type, flags, sequence number and port number, the
-- bytes 4 to 16, and bodies that mean the same.
pub record SameFrame (r : Rule) (a b : List ℕ) : Type 0 where
  pub header : take 12 (drop 4 a) ≡ take 12 (drop 4 b)
  pub body : same_body r (frame_type a) (frame_body a) (frame_body b) ≡ true

-- As many frames, which mean the same in pairs.
abbrev pub SameFrames : Rule → List Frame → List Frame → Type 0
SameFrames r [] [] = Unit {0}
SameFrames r [] (g ∷ gs) = ⊥
SameFrames r (f ∷ fs) [] = ⊥
SameFrames r (f ∷ fs) (g ∷ gs) = SameFrame r f.bytes g.bytes × SameFrames r fs gs

-- Two captures mean the same under a limit: both are legal, and their frames mean the same in pairs.
abbrev pub SameCapture : Rule → ℕ → List ℕ → List ℕ → Type 0
SameCapture r limit a b = IsLegal r limit a × IsLegal r limit b ×
    SameFrames r (split r limit a).frames (split r limit b).frames
