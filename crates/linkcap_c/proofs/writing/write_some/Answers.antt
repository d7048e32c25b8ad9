-- The message that has the fault.
use Rattle.std.proofs.Common.{◌≡◌, ◌+◌, ◌-◌, ◌∙◌, Some, length, drop, ap, sym, subst, refl, arith}
use Rattle.std.specs.Prelude.{option_map}
use Rattle.linkcap_c.specs.Findings.{fault_of}
use Rattle.linkcap_c.specs.Forms.{keeps_going}
use Rattle.linkcap_c.specs.Options.{output_form}
use Rattle.linkcap_c.specs.Pieces.{IsFaulty, StopsAfter, is_last}
use Rattle.linkcap_c.proofs.Walking.{stops_there}
use Rattle.linkcap_c.proofs.writing.write_some.Goals as goal

pub returns-in-Fault-clause-written : goal.returns-in-Fault-clause-written
returns-in-Fault-clause-written c =
    let done = c.write_piece-done in
    let piece = c.args.piece.now in
    let kind = c.in-Fault.kind in
    let why = subst (StopsAfter (output_form c.args.output.now) c.args.limit piece.offset (is_last piece) piece.bytes.now done.result.used done.result.at (length c.args.out.now - done.result.written)) c.in-Fault.is done.ensures.stops in
    record {
      used = done.ensures.used;
      written = done.ensures.written;
      legal = λ n. absurd (n refl);
      ended = λ n. absurd cc;
      fault = λ _. record {
        kind = kind;
        at = done.result.at;
        reported = c.of_one.ensures;
        legal = done.ensures.legal;
        there = why.0;
        reaches = why.1;
        first = λ before more b m. ap (option_map (fault_of 0)) (done.ensures.first before more kind b m why.0) ∙ ap Some (sym c.of_one.ensures);
      };
      room = λ n. absurd cc;
      memory = λ n. absurd cc;
      nothing_wanted = λ n. refl;
      continues = done.ensures.continues;
      stops = λ _ here before more b m.
          let same : done.result.at ≡ done.result.used = omega (arith, ap (λ x. x.offset) c.of_one.ensures, here) in (
            kind,
            c.of_one.ensures ∙ ap (λ n. fault_of 0 (record { kind = kind; offset = piece.offset + n })) same,
            done.ensures.ends before more kind b m (subst (λ n. IsFaulty c.args.limit (is_last piece) (drop n piece.bytes.now) kind) same why.0)
                (stops_there c.pieces_are_joined.ensures (keeps_going (output_form c.args.output.now)) c.args.limit (is_last piece) piece.bytes.now done.result.used done.result.at kind why.0 why.1 same),
          );
    }
