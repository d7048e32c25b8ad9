-- What was used is legal, and is written.
use Rattle.std.proofs.Common.{◌-◌, length}
use Rattle.linkcap_c.specs.Options.{output_form}
use Rattle.linkcap_c.specs.Pieces.{IsLegalTo}
use Rattle.linkcap_c.proofs.Walking.{Walked}
use Rattle.linkcap_c.proofs.pieces.write_messages.Given as goal

abbrev pub invariant-messages : goal.invariant-messages
invariant-messages l = record {
  legal : IsLegalTo l.limit l.last l.bytes l.used;
  walked : Walked (output_form l.output) l.limit l.offset l.last l.bytes l.fn.out l.out l.used l.written;
}

abbrev pub decreases-messages : goal.decreases-messages
decreases-messages l = length l.bytes - l.used
