use Rattle.std.proofs.Common.{◌≡◌, ◌++◌, ◌∙◌, ℕ, append_assoc, ap, refl, rules, sym, true}
use Rattle.std.proofs.Output.{has_written_append, has_written_of_eq, has_written_styled_append, has_written_styled_of_eq}
use Rattle.std.specs.Prelude.{codes}
use Rattle.std.specs.Fmt.{decimal}
use Rattle.netlink_packet_core_numbers.specs.Errors.{cause_text}
use Rattle.netlink_packet_core_numbers.specs.declared.error.Cause.TheVariants.{NlaInvalidLength}
use Rattle.netlink_packet_core_numbers.proofs.error.CauseDisplay.fmt.Goals as goal

-- the message of this cause has too many parts for a search by the prover
text_of_invalid_length : (m n : ℕ) → (codes "attribute of " ++ decimal n) ++ (codes " bytes is shorter than its header, in a buffer of " ++ decimal m) ≡ cause_text (NlaInvalidLength m n)
text_of_invalid_length m n = append_assoc (codes "attribute of ") (decimal n) (codes " bytes is shorter than its header, in a buffer of " ++ decimal m)

pub returns-in_ok-write_count-in-MacAddress-clause-styled : goal.returns-in_ok-write_count-in-MacAddress-clause-styled
returns-in_ok-write_count-in-MacAddress-clause-styled g c = λ flush ok.
    let first = c.in_ok-write_count-in-MacAddress.ensures.styled flush (refl {a = true}) in
    let second = c.write_str-in-MacAddress.ensures.styled first.flush ok in
    has_written_styled_of_eq _ _ _ _ _ (search rules) (has_written_styled_append _ _ _ _ _ _ first second)

pub returns-in_ok-write_count-in-IpAddress-clause-styled : goal.returns-in_ok-write_count-in-IpAddress-clause-styled
returns-in_ok-write_count-in-IpAddress-clause-styled g c = λ flush ok.
    let first = c.in_ok-write_count-in-IpAddress.ensures.styled flush (refl {a = true}) in
    let second = c.write_str-in-IpAddress.ensures.styled first.flush ok in
    has_written_styled_of_eq _ _ _ _ _ (search rules) (has_written_styled_append _ _ _ _ _ _ first second)

pub returns-in_ok-write_count-in-Number-clause-styled : goal.returns-in_ok-write_count-in-Number-clause-styled
returns-in_ok-write_count-in-Number-clause-styled g c = λ flush ok.
    let first = c.in_ok-write_count-in-Number.ensures.styled flush (refl {a = true}) in
    let second = c.write_count-in-Number-2.ensures.styled first.flush ok in
    has_written_styled_of_eq _ _ _ _ _ (search rules) (has_written_styled_append _ _ _ _ _ _ first second)

pub returns-in_ok-write_count-in-NlaBufferTooSmall-clause-styled : goal.returns-in_ok-write_count-in-NlaBufferTooSmall-clause-styled
returns-in_ok-write_count-in-NlaBufferTooSmall-clause-styled g c = λ flush ok.
    let first = c.in_ok-write_count-in-NlaBufferTooSmall.ensures.styled flush (refl {a = true}) in
    let second = c.write_count-in-NlaBufferTooSmall-2.ensures.styled first.flush ok in
    has_written_styled_of_eq _ _ _ _ _ (search rules) (has_written_styled_append _ _ _ _ _ _ first second)

pub returns-in_ok-write_count-in-NlaLengthMismatch-clause-styled : goal.returns-in_ok-write_count-in-NlaLengthMismatch-clause-styled
returns-in_ok-write_count-in-NlaLengthMismatch-clause-styled g c = λ flush ok.
    let first = c.in_ok-write_count-in-NlaLengthMismatch.ensures.styled flush (refl {a = true}) in
    let second = c.write_count-in-NlaLengthMismatch-2.ensures.styled first.flush ok in
    has_written_styled_of_eq _ _ _ _ _ (search rules) (has_written_styled_append _ _ _ _ _ _ first second)

pub returns-in_ok-write_count-in-NlaInvalidLength-clause-styled : goal.returns-in_ok-write_count-in-NlaInvalidLength-clause-styled
returns-in_ok-write_count-in-NlaInvalidLength-clause-styled g c = λ flush ok.
    let first = c.in_ok-write_count-in-NlaInvalidLength.ensures.styled flush (refl {a = true}) in
    let second = c.write_count-in-NlaInvalidLength-2.ensures.styled first.flush ok in
    has_written_styled_of_eq _ _ _ _ _ (text_of_invalid_length _ _ ∙ sym (ap cause_text c.in-NlaInvalidLength.is)) (has_written_styled_append _ _ _ _ _ _ first second)

pub returns-in_ok-write_count-in-BufferTooSmall-clause-styled : goal.returns-in_ok-write_count-in-BufferTooSmall-clause-styled
returns-in_ok-write_count-in-BufferTooSmall-clause-styled g c = λ flush ok.
    let first = c.in_ok-write_count-in-BufferTooSmall.ensures.styled flush (refl {a = true}) in
    let second = c.write_count-in-BufferTooSmall-2.ensures.styled first.flush ok in
    has_written_styled_of_eq _ _ _ _ _ (search rules) (has_written_styled_append _ _ _ _ _ _ first second)

pub returns-in_ok-write_count-in-NlaInvalidLength-clause-writes : goal.returns-in_ok-write_count-in-NlaInvalidLength-clause-writes
returns-in_ok-write_count-in-NlaInvalidLength-clause-writes g c = λ plain ok.
    let first = c.in_ok-write_count-in-NlaInvalidLength.ensures.writes plain (refl {a = true}) in
    let second = c.write_count-in-NlaInvalidLength-2.ensures.writes first.plain ok in
    has_written_of_eq _ _ _ _ _ (text_of_invalid_length _ _ ∙ sym (ap cause_text c.in-NlaInvalidLength.is)) (has_written_append _ _ _ _ _ _ first second)
