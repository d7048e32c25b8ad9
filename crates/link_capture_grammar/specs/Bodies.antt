-- The bodies of frames: the text of each, or the fault of the frame.
use Rattle.std.specs.Prelude.{ℕ, ◌&&◌, List, [], ◌∷◌, length, Result, Ok, Err, nat_lt, nat_le, nat_eq, Bool, cond}
use Rattle.attribute_tables_grammar.specs.Rules.{Rule}
use Rattle.link_capture_grammar.specs.declared.fault.FaultKind.{FaultKind}
use Rattle.link_capture_grammar.specs.declared.fault.FaultKind.TheVariants.{Refused, EmptyPorts, Unfit}

-- The text of a body of type 2 (NLMSG_ERROR): the body; one without a whole code of 4 bytes is refused.
abbrev pub error_text : List ℕ → Result (List ℕ) FaultKind
error_text b = cond (nat_lt (length b) 4) (Err Refused) (Ok b)

-- The text of a body of type 3 (NLMSG_DONE): the code 0 for an empty body, else as that of an NLMSG_ERROR.
abbrev pub done_text : List ℕ → Result (List ℕ) FaultKind
done_text b = cond (nat_eq (length b) 0) (Ok (0 ∷ 0 ∷ 0 ∷ 0 ∷ [])) (error_text b)

-- The text of a link's body under a rule: the canonical body, unless the body isn't accepted, a list of VF ports in it
-- keeps no entry, or an attribute of its text is too long.
abbrev pub ruled_text : Rule → List ℕ → Result (List ℕ) FaultKind
ruled_text r b =
    cond (r.accepted b) (cond (r.empty_ports b) (Err EmptyPorts) (cond (r.fits b) (Ok (r.canonical b)) (Err Unfit)))
    (Err Refused)

-- The types 16 to 19, RTM_NEWLINK, RTM_DELLINK, RTM_GETLINK and RTM_SETLINK.
abbrev pub is_link_type : ℕ → Bool
is_link_type t = nat_le 16 t && nat_le t 19

-- The text of a body of type t: empty for NOOP, with a code for ERROR and DONE, by the rule for links, and the body
-- itself for every other type.
unfoldable pub body_text : Rule → ℕ → List ℕ → Result (List ℕ) FaultKind
body_text r t b =
    cond (nat_eq t 1) (Ok [])
    (cond (nat_eq t 2) (error_text b)
    (cond (nat_eq t 3) (done_text b)
    (cond (is_link_type t) (ruled_text r b) (Ok b))))
