use Rattle.std.proofs.Common.{◌≡◌, List, ℕ, ◌++◌, drop}
use Rattle.std.specs.Fmt.{HasWrittenStyled, IsFlush}
use denote.Shadow.{shadow}
use denote.Text.{Utf8}
use Rattle.link_message_types.specs.LinkFlagTypes.{link_flags_text}
use Rattle.link_message_types.proofs.FlagTexts.{texts_left, written_after}
use Rattle.link_message_types.proofs.link_flag.LinkFlagsDisplay.fmt.Given as goal

abbrev pub invariant-loop-flag : goal.invariant-loop-flag
invariant-loop-flag g l =
    shadow (Utf8 l.separator) × (IsFlush l.fn.f → (done : List ℕ) × HasWrittenStyled g.W.Write.write_str_gives l.fn.f done l.f
    × (done ++ written_after l.separator (texts_left l.self (drop l.flag-index l.flag-items)) ≡ link_flags_text l.self))
