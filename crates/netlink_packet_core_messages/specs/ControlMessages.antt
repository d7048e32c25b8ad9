-- The bodies of DONE and ERROR messages (netlink.h, struct nlmsgerr): a code of 4 bytes, and the bytes after it.
use Rattle.std.specs.Prelude.{ℕ, List, [], ◌++◌, length, drop, Option, None, Some, cond, nat_lt, nat_eq, pos}
use Rattle.netlink_packet_core_messages.specs.Codes.{code_of, code_text, raw_code, nonzero_code}
use Rattle.netlink_packet_core_messages.specs.declared.done.DoneMessage.{DoneMessage}
use Rattle.netlink_packet_core_messages.specs.declared.error.ErrorMessage.{ErrorMessage}

-- The body of a DONE message.
abbrev pub done_message_text : DoneMessage → List ℕ
done_message_text m = code_text m.code ++ m.extended_ack

-- The body of an ERROR message; without a code it has the code 0.
abbrev pub error_message_text : ErrorMessage → List ℕ
error_message_text m = code_text (raw_code m.code) ++ m.header

-- The DONE message of a body of at least 4 bytes.
abbrev pub done_of : List ℕ → DoneMessage
done_of b = record { code = code_of b; extended_ack = drop 4 b }

-- The ERROR message of a body of at least 4 bytes.
abbrev pub error_of : List ℕ → ErrorMessage
error_of b = record { code = nonzero_code (code_of b); header = drop 4 b }

-- The DONE message of an empty body.
abbrev pub empty_done : DoneMessage
empty_done = record { code = pos 0; extended_ack = [] }

-- The DONE message of a body, which has to be empty or have at least 4 bytes.
abbrev pub read_done : List ℕ → Option DoneMessage
read_done b = cond (nat_eq (length b) 0) (Some empty_done) (cond (nat_lt (length b) 4) None (Some (done_of b)))

-- The ERROR message of a body, which has to have at least 4 bytes.
abbrev pub read_error : List ℕ → Option ErrorMessage
read_error b = cond (nat_lt (length b) 4) None (Some (error_of b))
