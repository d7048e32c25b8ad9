-- The memory that the lines of a message take.
use Rattle.std.specs.Prelude.{◌≡◌, ◌⊎◌, ℕ, ◌+◌, ◌<◌, ◌≤◌, cond, List, [], length, max, min, Vec, vec_capacity}
use Rattle.std.specs.Prelude.{Result, Ok, Err, OnOk, OnErr}
use Rattle.std.specs.Global.{Global}
use Rattle.std.specs.declared.alloc.AllocError.{AllocError}
use Rattle.netlink_packet_core_grammar.specs.Frames.{frame_type}
use Rattle.link_capture_grammar.specs.Captures.{first_frame}
use Rattle.link_capture_grammar.specs.declared.fault.FaultKind.{FaultKind}
use Rattle.link_lines_texts.specs.Captures.{is_chosen, text_lines}
use Rattle.link_lines.specs.MessageLines.{Selection, choice_of, faulty_lines, lines_with_offset, output_lines, selected}
use Rattle.link_lines.specs.Messages.{Message, Message.Accepted, Message.Faulty, Message.Last, frame_of}
use Rattle.link_lines.specs.declared.messages.Buffers.{Buffers}
use Rattle.link_message_grammar.specs.Body.{link_body}

-- The text replaces the lines, perhaps in the spare buffer, which is exchanged for theirs then; memory runs out only if the
-- spare buffer had less capacity than the text needs. The smaller capacity doesn't shrink.
pub record ReplacesLines {V : Type 0} (lines spare new_lines new_spare : Vec ℕ Global) (result : Result V AllocError)
    (text : List ℕ) : Type 0 where
  pub ok : OnOk result (new_lines.items ≡ text)
  pub memory : OnErr result (vec_capacity spare < length text)
  pub capacity : min (vec_capacity lines) (vec_capacity spare) ≤ min (vec_capacity new_lines) (vec_capacity new_spare)

-- The most bytes that a step leaves of a message's lines.
abbrev pub largest_stage : Selection → ℕ → List ℕ → ℕ
largest_stage o offset lines =
    max (length (selected o lines))
    (max (length (lines_with_offset o.offsets offset (selected o lines))) (length (output_lines o offset lines)))

-- A buffer lacked capacity for what a step leaves of a message's lines, or `out` for what is shown of them.
abbrev pub LacksOutputCapacity : Selection → ℕ → List ℕ → Vec ℕ Global → Vec ℕ Global → Vec ℕ Global → Type 0
LacksOutputCapacity o offset text lines spare out =
    (min (vec_capacity lines) (vec_capacity spare) < largest_stage o offset text) ⊎
    (vec_capacity out < length out.items + length (output_lines o offset text))

-- A buffer lacked capacity for a message's lines and some extra bytes, or memory ran out later.
abbrev pub LacksLines : Selection → ℕ → List ℕ → ℕ → Buffers → Vec ℕ Global → Type 0
LacksLines o offset text extra b out =
    (vec_capacity b.lines < length text + extra) ⊎ LacksOutputCapacity o offset text b.lines b.spare out

-- The buffers or `out` lacked capacity for a message.
abbrev pub LacksShown : Selection → Message → Buffers → Vec ℕ Global → Type 0
LacksShown o (Accepted offset text) b out = LacksLines o offset (text_lines (choice_of o) text) (length text) b out
LacksShown o (Faulty offset kind frame) b out =
    LacksLines o offset
    (cond (is_chosen o.only (frame_type frame)) (faulty_lines (choice_of o).numbers kind frame) []) 16 b out
LacksShown o (Last offset kind frame) b out = ⊥

-- The first message of c is accepted, and a buffer lacked capacity for its text.
abbrev pub LacksText : ℕ → List ℕ → Vec ℕ Global → Type 0
LacksText limit c out = (n : ℕ) × (text : List ℕ) × (first_frame link_body limit c ≡ Ok (n, text)) × (vec_capacity out < length text)

-- The buffers or `out` lacked capacity for the first message of c, which is at an offset.
abbrev pub LacksMemory : Selection → ℕ → ℕ → List ℕ → Buffers → Vec ℕ Global → Type 0
LacksMemory o limit offset c b out =
    LacksText limit c b.text ⊎
    (((n : ℕ) × (text : List ℕ) × (first_frame link_body limit c ≡ Ok (n, text)) × LacksShown o (Accepted offset text) b out) ⊎
    ((kind : FaultKind) × (first_frame link_body limit c ≡ Err kind) × LacksShown o (Faulty offset kind (frame_of c)) b out))
