-- Bodies and captures compared without sequence numbers and netlink port IDs.
use Rattle.std.specs.Prelude.{ℕ, nat_le, nat_eq, Bool, cond, List, length}
use Rattle.link_capture_grammar.specs.Same.{SameCapture}
use Rattle.link_capture_numbers.specs.Cleared.{zeros_at, numbers_cleared}
use Rattle.link_capture_grammar.specs.Body.{link_body}

-- the body of an NLMSG_ERROR, with zeros over the numbers of the header that it repeats, if it does
abbrev pub error_cleared : List ℕ → List ℕ
error_cleared body = cond (nat_le 20 (length body)) (zeros_at 12 body) body

-- a body of a message of a type
abbrev pub body_without_numbers : ℕ → List ℕ → List ℕ
body_without_numbers t body = cond (nat_eq t 2) (error_cleared body) body

-- the captures mean the same after zeroing their sequence numbers and netlink port IDs
abbrev pub SameButNumbers : ℕ → List ℕ → List ℕ → Type 0
SameButNumbers limit a b = SameCapture link_body limit (numbers_cleared a) (numbers_cleared b)

-- what of a capture, or of its texts, is compared: all, or all but the numbers
abbrev pub compared_by : Bool → List ℕ → List ℕ
compared_by without_numbers c = cond without_numbers (numbers_cleared c) c
