-- Decode errors: their causes, their contexts, and their display.
use Rattle.std.specs.Prelude.{ℕ, Bool, true, false, List, [], ◌∷◌, ◌++◌, Option, Some, None, Result, Ok, Err, codes}
use Rattle.std.specs.Prelude.{get_or, replicate}
use Rattle.std.specs.Borrow.{Bor}
use Rattle.std.specs.Fmt.{decimal}
use Rattle.netlink_packet_core_numbers.specs.declared.error.Cause.{Cause}
use Rattle.netlink_packet_core_numbers.specs.declared.error.Cause.TheVariants.{Memory, Buffer, MacAddress, IpAddress}
use Rattle.netlink_packet_core_numbers.specs.declared.error.Cause.TheVariants.{Number, NlaBufferTooSmall}
use Rattle.netlink_packet_core_numbers.specs.declared.error.Cause.TheVariants.{NlaLengthMismatch, NlaInvalidLength}
use Rattle.netlink_packet_core_numbers.specs.declared.error.Cause.TheVariants.{BufferTooSmall, Text}
use Rattle.netlink_packet_core_numbers.specs.declared.error.DecodeError.{DecodeError}

-- The cause is a failed allocation.
abbrev is_memory_cause : Cause → Bool
is_memory_cause Memory = true
is_memory_cause _ = false

-- The error is out of memory.
abbrev pub is_memory : DecodeError → Bool
is_memory e = is_memory_cause e.cause

-- ---- errors without a context

-- The error of this cause, without contexts.
abbrev caused_by : Cause → DecodeError
caused_by c = record { cause = c; contexts = replicate 4 None }

-- The error of a failed allocation.
abbrev pub out_of_memory : DecodeError
out_of_memory = caused_by Memory

-- The error of a buffer of the named kind that is shorter than its minimum.
abbrev pub invalid_buffer : Bor (List ℕ) → ℕ → ℕ → DecodeError
invalid_buffer name received minimum = caused_by (Buffer name received minimum)

-- The error of a hardware address that hasn't 6 bytes.
abbrev pub invalid_mac_address : ℕ → DecodeError
invalid_mac_address received = caused_by (MacAddress received)

-- The error of an Internet protocol address that has neither 4 nor 16 bytes.
abbrev pub invalid_ip_address : ℕ → DecodeError
invalid_ip_address received = caused_by (IpAddress received)

-- The error of a number that hasn't the expected size.
abbrev pub invalid_number : ℕ → ℕ → DecodeError
invalid_number expected received = caused_by (Number expected received)

-- The error of a buffer that is too small for an attribute.
abbrev pub nla_buffer_too_small : ℕ → ℕ → DecodeError
nla_buffer_too_small buffer_len nla_len = caused_by (NlaBufferTooSmall buffer_len nla_len)

-- The error of an attribute whose length exceeds its buffer.
abbrev pub nla_length_mismatch : ℕ → ℕ → DecodeError
nla_length_mismatch buffer_len nla_len = caused_by (NlaLengthMismatch buffer_len nla_len)

-- The error of an attribute whose length is less than the size of its header.
abbrev pub nla_invalid_length : ℕ → ℕ → DecodeError
nla_invalid_length buffer_len nla_len = caused_by (NlaInvalidLength buffer_len nla_len)

-- The error of a buffer that is too small for a value.
abbrev pub buffer_too_small : ℕ → ℕ → DecodeError
buffer_too_small buffer_len value_len = caused_by (BufferTooSmall buffer_len value_len)

-- The error with this message.
abbrev pub of_text : Bor (List ℕ) → DecodeError
of_text t = caused_by (Text t)

-- ---- contexts

-- The contexts with one more, in the first free position; if none is free, they are unchanged.
abbrev added : Bor (List ℕ) → List (Option (Bor (List ℕ))) → List (Option (Bor (List ℕ)))
added t [] = []
added t (None ∷ ts) = Some t ∷ ts
added t (Some s ∷ ts) = Some s ∷ added t ts

-- The error with one more context; only the first four are kept.
abbrev pub in_context : Bor (List ℕ) → DecodeError → DecodeError
in_context t e = record { cause = e.cause; contexts = added t e.contexts }

-- The result with one more context, if it is an error.
abbrev pub in_context_if : {T : Type 0} → Bor (List ℕ) → Result T DecodeError → Result T DecodeError
in_context_if t (Ok x) = Ok x
in_context_if t (Err e) = Err (in_context t e)

-- ---- display

-- The text of a cause.
abbrev pub cause_text : Cause → List ℕ
cause_text Memory = codes "out of memory"
cause_text (Buffer name m n) =
    codes "invalid " ++ (name.now ++
    (codes ": " ++ (decimal m ++ (codes " bytes, at least " ++ (decimal n ++ codes " are needed")))))
cause_text (MacAddress m) = codes "invalid MAC address: " ++ (decimal m ++ codes " bytes, not 6")
cause_text (IpAddress m) = codes "invalid IP address: " ++ (decimal m ++ codes " bytes, not 4 or 16")
cause_text (Number n m) = codes "invalid number: " ++ (decimal m ++ (codes " bytes, not " ++ decimal n))
cause_text (NlaBufferTooSmall m n) =
    codes "buffer of " ++ (decimal m ++ (codes " bytes is too small for an attribute of " ++ decimal n))
cause_text (NlaLengthMismatch m n) =
    codes "attribute of " ++ (decimal n ++ (codes " bytes in a buffer of " ++ decimal m))
cause_text (NlaInvalidLength m n) =
    codes "attribute of " ++ (decimal n ++ (codes " bytes is shorter than its header, in a buffer of " ++ decimal m))
cause_text (BufferTooSmall m n) =
    codes "buffer of " ++ (decimal m ++ (codes " bytes is too small for a value of " ++ decimal n))
cause_text (Text t) = t.now

-- The text that a context adds before the rest.
abbrev pub prefix_text : Option (Bor (List ℕ)) → List ℕ
prefix_text None = []
prefix_text (Some t) = t.now ++ codes " caused by "

-- The display of an error: the contexts, newest first, and then the cause.
abbrev pub display_text : DecodeError → List ℕ
display_text e =
    prefix_text (get_or e.contexts 3 None) ++ (prefix_text (get_or e.contexts 2 None)
    ++ (prefix_text (get_or e.contexts 1 None) ++ (prefix_text (get_or e.contexts 0 None) ++ cause_text e.cause)))
