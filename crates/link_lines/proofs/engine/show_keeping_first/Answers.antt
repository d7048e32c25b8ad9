-- The bytes that were read and written at each exit.
use Rattle.std.proofs.Common.{◌≡◌, ◌∙◌, ◌+◌, ◌++◌, ◌-◌, ◌^◌, ◌<◌, ℕ, List, [], Some, min, length, take, drop, refl, sym, ap, subst, arith, rules}
use Rattle.std.proofs.lemmas.List.{append-nil, length-append, length-take, take_rest}
use Rattle.std.proofs.lemmas.Result.{err_from_is_err_and}
use Rattle.std.proofs.KnownBytes.{Appends-trans, Consumes-kept, Consumes-trans}
use Rattle.std.specs.Io.KnownBytes.{Appends, Consumes}
use Rattle.link_capture_reader.proofs.FirstBytes.{kept_more}
use Rattle.link_capture_reader.proofs.Progress.{kept_less, unended}
use Rattle.link_capture_reader.specs.Devices.{risen, IsPrefix}
use Rattle.link_lines.specs.MessageLines.{lines_of_messages, shown}
use Rattle.link_lines.specs.Messages.{frame_of, report_of}
use Rattle.link_lines.specs.Options.{selection_of}
use Rattle.link_lines.specs.Walks.{Ends, FinishedWith, Passes, left_to_show, or_else, report_in, shown_to}
use Rattle.link_lines.proofs.Progress.{are_cut, before_end, before_piece, bytes_joined, continues, cut_runs_out, device_shown, failed_write, finished, nothing_came_for, prefix_shown, ran_out, stopped_shown, tail_runs_out, write_only}
use Rattle.link_lines.proofs.engine.show_keeping_first.Goals as goal

pub pieces-init : goal.pieces-init
pieces-init g c = record {
  empty = c.new-lines.ensures.items;
  source_failures = refl;
  ends = refl;
  sink_failures = refl;
  came = ([], nothing_came_for _ _ _ c.new-rest.ensures.items _ _, c.clear.ensures);
}

pub overflow_add-accepted : goal.overflow_add-accepted
overflow_add-accepted g c = omega (arith, c.len.ensures, c.pieces.invariant.came.1.fits)

pub overflow_sub-accepted : goal.overflow_sub-accepted
overflow_sub-accepted g c = omega (arith, c.len.ensures, c.pieces.invariant.came.1.fits)

-- No memory could be reserved for the rest of a cut message.
pub returns-in_default : goal.returns-in_default
returns-in_default g c =
    let i = c.pieces.invariant in
    let s = i.came.0 in
    let came = i.came.1 in (
      s,
      lines_of_messages (selection_of c.args.options.now) came.messages,
      came.consumed,
      came.wrote,
      device_shown _ _ _ _ c.args.limit s _ _ _ c.fault_at.ensures refl
          (cut_runs_out c.messages_unfold.ensures c.first_faults_are_reported.ensures _ _ _ _ _ _ _ _ _ _ _ s came c.in_default.ensures.err),
      i.came.2,
    )

pub returns-in_default-read : goal.returns-in_default-read
returns-in_default-read g c =
    let i = c.pieces.invariant in
    let s = i.came.0 in
    let came = i.came.1 in
    let at : c.pieces.start + c.len.result ≡ c.pieces.start + length c.pieces.rest.items = omega (arith, c.len.ensures) in (
      s,
      lines_of_messages (selection_of c.args.options.now) came.messages,
      Consumes-kept _ _ _ s came.consumed c.in_default-read.ensures.bytes,
      came.wrote,
      device_shown _ _ _ _ c.args.limit s _ _ _ c.fault_at-in_default-read.ensures refl (
        c.in_default-read.ensures.failures ∙ ap risen i.source_failures,
        at ∙ came.accepted,
        before_end c.messages_unfold.ensures c.first_faults_are_reported.ensures _ _ _ _ _ _ _ _ _ _ _ s came _ at,
      ),
      i.came.2,
    )

pub returns-then-size-eq0 : goal.returns-then-size-eq0
returns-then-size-eq0 g c =
    let i = c.pieces.invariant in
    let s = i.came.0 in
    let came = i.came.1 in
    let read = c.in-Ok-read in (
      s,
      lines_of_messages (selection_of c.args.options.now) came.messages,
      subst (Consumes _ _) (ap (λ n. s ++ take n c.read.new.buffer) c.if-size-eq0.true ∙ append-nil s) (Consumes-trans _ _ _ s (take read.size c.read.new.buffer) came.consumed read.ensures.bytes.0),
      came.wrote,
      finished c.messages_unfold.ensures c.first_faults_are_reported.ensures c.faults_are_at_frames.ensures _ _ _ _ _ _ _ _ _ _ _ s came _ _ _ (search rules) c.finish.result
          (subst (λ x. FinishedWith (report_in c.pieces.found) x c.pieces.start c.pieces.written c.finish.result) (c.as_slice.ensures.value ∙ c.reserve_piece.ensures.items) c.finish.ensures),
      i.came.2,
    )

-- What holds if a piece isn't shown.
pub returns-then-size-accepted : goal.returns-then-size-accepted
returns-then-size-accepted g c =
    let i = c.pieces.invariant in
    let s = i.came.0 in
    let came = i.came.1 in
    let read = c.in-Ok-read in
    let piece = take read.size c.read.new.buffer in
    let at : c.pieces.start + c.len.result ≡ c.pieces.start + length c.pieces.rest.items = omega (arith, c.len.ensures) in
    let size : length (s ++ piece) ≡ length s + read.size = omega (arith, length-append s piece, length-take read.size c.read.new.buffer, read.ensures.within) in (
      s ++ piece,
      lines_of_messages (selection_of c.args.options.now) came.messages,
      Consumes-trans _ _ _ s piece came.consumed read.ensures.bytes.0,
      came.wrote,
      device_shown _ _ _ _ c.args.limit (s ++ piece) _ _ _ c.fault_at-then-size-accepted.ensures refl (record {
        long = omega (arith, size, came.accepted, at, c.if-size-accepted.true);
        last = omega (arith, size, came.accepted, at, read.ensures.within);
        prefix = before_piece c.messages_unfold.ensures c.first_faults_are_reported.ensures _ _ _ _ _ _ _ _ _ _ _ s came piece _ at;
      }),
      kept_more c.pieces.first.items _ s piece i.came.2 c.keep_first.ensures,
    )

pub continue_message-requires : goal.continue_message-requires
continue_message-requires g c =
    kept_less _ _ _ _ (omega (arith, length-take c.in-Ok-read.size c.read.new.buffer)) c.in-Ok.ensures.ok

pub returns-in_err-written : goal.returns-in_err-written
returns-in_err-written g c =
    let p = err_from_is_err_and c.from_residual.result c.from_residual.ensures.1 in
    let i = c.pieces.invariant in
    let s = i.came.0 in
    let came = i.came.1 in
    let o = selection_of c.args.options.now in
    let piece = take c.in-Ok-read.size c.read.new.buffer in
    let z = c.in_err-written.ensures.fault in
    let slice = c.as_slice-in-pieces-2.result.now in
    let joined = bytes_joined _ _ _ _ c.pieces.rest.items piece c.left_to_show-bytes.ensures c.as_slice-in-pieces.ensures.value c.continue_message.ensures c.reserve_piece.ensures.items in
    let prefix = prefix_shown c.messages_unfold.ensures c.first_faults_are_reported.ensures o c.args.limit _ _ _ c.left_to_show-bytes.result.now _ _ _ _ _ (g.S.Source.to_come c.read.new.self) _ _ s piece came joined _ _ _ i.empty c.push_messages-walk.ensures.passes in
    rw p.1 (
      s ++ piece,
      lines_of_messages o came.messages ++ take z.2.0 slice,
      Consumes-trans _ _ _ s piece came.consumed c.in-Ok-read.ensures.bytes.0,
      Appends-trans _ _ _ (lines_of_messages o came.messages) (take z.2.0 slice) came.wrote z.2.3,
      device_shown _ _ _ _ c.args.limit (s ++ piece) _ _ c.in_err-written.field-0.0 p.2 (write_only (s ++ piece) _ _ z.0)
          (failed_write _ _ _ _ c.args.limit (s ++ piece) (lines_of_messages o came.messages) slice c.pieces.written z.2.0 c.in_err-written.field-0.0
          (z.1 ∙ ap risen i.sink_failures)
          (subst (λ x. IsPrefix (lines_of_messages o came.messages ++ x) (shown o c.args.limit (s ++ piece))) (sym c.as_slice-in-pieces-2.ensures.value) prefix)
          z.2.1 came.count z.0 z.2.2),
      kept_more c.pieces.first.items _ s piece i.came.2 c.keep_first.ensures,
    )

-- No memory for a message that is to be shown.
pub returns-in-Err : goal.returns-in-Err
returns-in-Err g c =
    let i = c.pieces.invariant in
    let s = i.came.0 in
    let came = i.came.1 in
    let o = selection_of c.args.options.now in
    let piece = take c.in-Ok-read.size c.read.new.buffer in
    let bytes = c.left_to_show-bytes.result.now in
    let at = c.in-Err.at in
    let lines = c.push_messages-walk.new.out.items in
    let joined = bytes_joined _ _ _ _ c.pieces.rest.items piece c.left_to_show-bytes.ensures c.as_slice-in-pieces.ensures.value c.continue_message.ensures c.reserve_piece.ensures.items in
    let passes = subst (λ r. Passes o c.args.limit c.pieces.start bytes c.pieces.padding (shown_to r) c.pieces.lines.items lines (report_in c.pieces.found) (report_in c.push_messages-walk.new.found)) c.in-Err.is c.push_messages-walk.ensures.passes in
    let memory = c.in-Err.ensures.memory in (
      s ++ piece,
      lines_of_messages o came.messages ++ lines,
      Consumes-trans _ _ _ s piece came.consumed c.in-Ok-read.ensures.bytes.0,
      Appends-trans _ _ _ (lines_of_messages o came.messages) lines came.wrote (subst (Appends _ _) c.as_slice-in-pieces-2.ensures.value c.in_ok-written.ensures.ok.1),
      device_shown _ _ _ _ c.args.limit (s ++ piece) _ _ _ c.fault_at-in-Err.ensures refl
          (ran_out c.messages_unfold.ensures c.first_faults_are_reported.ensures o c.args.limit _ _ _ bytes _ _ _ _ _ (g.S.Source.to_come c.read.new.self) _ _ s piece came joined at _ _ i.empty passes memory.0 memory.1),
      kept_more c.pieces.first.items _ s piece i.came.2 c.keep_first.ensures,
    )

pub returns-in-Some : goal.returns-in-Some
returns-in-Some g c =
    let i = c.pieces.invariant in
    let s = i.came.0 in
    let came = i.came.1 in
    let o = selection_of c.args.options.now in
    let piece = take c.in-Ok-read.size c.read.new.buffer in
    let bytes = c.left_to_show-bytes.result.now in
    let walked = c.in-Ok-walk.walked in
    let lines = c.push_messages-walk.new.out.items in
    let joined = bytes_joined _ _ _ _ c.pieces.rest.items piece c.left_to_show-bytes.ensures c.as_slice-in-pieces.ensures.value c.continue_message.ensures c.reserve_piece.ensures.items in
    let passes = subst (λ r. Passes o c.args.limit c.pieces.start bytes c.pieces.padding (shown_to r) c.pieces.lines.items lines (report_in c.pieces.found) (report_in c.push_messages-walk.new.found)) c.in-Ok-walk.is c.push_messages-walk.ensures.passes in
    let stops = c.in-Some.ensures.some in
    let stop = subst (Ends o.keep_going c.args.limit bytes walked.len) stops.0 c.in-Ok-walk.ensures.ends in
    let rest : take (length bytes - walked.len) (drop walked.len bytes) ≡ drop walked.len bytes = take_rest bytes walked.len in
    let report = c.stopped_by.ensures ∙ ap (λ x. or_else (report_in c.push_messages-walk.new.found) (Some (report_of (c.pieces.start + walked.len) c.in-Some.kind (frame_of x)))) rest in
    let written = c.in_ok-written.ensures.ok in (
      s ++ piece,
      lines_of_messages o came.messages ++ lines,
      Consumes-trans _ _ _ s piece came.consumed c.in-Ok-read.ensures.bytes.0,
      Appends-trans _ _ _ (lines_of_messages o came.messages) lines came.wrote (subst (Appends _ _) c.as_slice-in-pieces-2.ensures.value written.1),
      stopped_shown c.messages_unfold.ensures c.first_faults_are_reported.ensures o c.args.limit _ _ _ bytes _ _ _ _ _ (g.S.Source.to_come c.read.new.self) _ _ s piece came joined _ _ _ i.empty passes c.faults_are_at_frames.ensures _ _ _ c.in-Some.kind c.stopped_by.result stop.0 stop.1 stops.1 report,
      kept_more c.pieces.first.items _ s piece i.came.2 c.keep_first.ensures,
    )

-- No memory for the bytes of a message that is cut.
pub returns-in_default-keep_rest : goal.returns-in_default-keep_rest
returns-in_default-keep_rest g c =
    let i = c.pieces.invariant in
    let s = i.came.0 in
    let came = i.came.1 in
    let o = selection_of c.args.options.now in
    let piece = take c.in-Ok-read.size c.read.new.buffer in
    let bytes = c.left_to_show-bytes.result.now in
    let walked = c.in-Ok-walk.walked in
    let lines = c.push_messages-walk.new.out.items in
    let joined = bytes_joined _ _ _ _ c.pieces.rest.items piece c.left_to_show-bytes.ensures c.as_slice-in-pieces.ensures.value c.continue_message.ensures c.reserve_piece.ensures.items in
    let passes = subst (λ r. Passes o c.args.limit c.pieces.start bytes c.pieces.padding (shown_to r) c.pieces.lines.items lines (report_in c.pieces.found) (report_in c.push_messages-walk.new.found)) c.in-Ok-walk.is c.push_messages-walk.ensures.passes in
    let is : c.min-passed.result ≡ min walked.len (length bytes) = c.min-passed.ensures in
    let left : left_to_show c.continue_message.new.rest.items piece ≡ bytes = ap (λ x. left_to_show x piece) (sym c.as_slice-in-pieces.ensures.value) ∙ sym c.left_to_show-bytes.ensures in
    let more : c.min-passed.result < length bytes = subst (λ (x : List ℕ). c.min-passed.result < length x) left c.in_default-keep_rest.ensures.err in
    let cut = are_cut o.keep_going c.args.limit bytes walked.len c.min-passed.result walked.last c.in-Ok-walk.ensures.ends c.in_default-stopping_fault.ensures.none is in (
      s ++ piece,
      lines_of_messages o came.messages ++ lines,
      Consumes-trans _ _ _ s piece came.consumed c.in-Ok-read.ensures.bytes.0,
      Appends-trans _ _ _ (lines_of_messages o came.messages) lines came.wrote (subst (Appends _ _) c.as_slice-in-pieces-2.ensures.value c.in_ok-written.ensures.ok.1),
      device_shown _ _ _ _ c.args.limit (s ++ piece) _ _ _ c.fault_at-in_default-keep_rest.ensures refl
          (tail_runs_out c.messages_unfold.ensures c.first_faults_are_reported.ensures o c.args.limit _ _ _ bytes _ _ _ _ _ (g.S.Source.to_come c.read.new.self) _ _ s piece came joined walked.len _ _ i.empty passes c.min-passed.result is more cut),
      kept_more c.pieces.first.items _ s piece i.came.2 c.keep_first.ensures,
    )

pub pieces-preserved : goal.pieces-preserved
pieces-preserved g c =
    let i = c.pieces.invariant in
    let s = i.came.0 in
    let came = i.came.1 in
    let o = selection_of c.args.options.now in
    let read = c.in-Ok-read in
    let piece = take read.size c.read.new.buffer in
    let bytes = c.left_to_show-bytes.result.now in
    let walked = c.in-Ok-walk.walked in
    let lines = c.push_messages-walk.new.out.items in
    let joined : bytes ≡ c.pieces.rest.items ++ piece = bytes_joined _ _ _ _ c.pieces.rest.items piece c.left_to_show-bytes.ensures c.as_slice-in-pieces.ensures.value c.continue_message.ensures c.reserve_piece.ensures.items in
    let passes = subst (λ r. Passes o c.args.limit c.pieces.start bytes c.pieces.padding (shown_to r) c.pieces.lines.items lines (report_in c.pieces.found) (report_in c.push_messages-walk.new.found)) c.in-Ok-walk.is c.push_messages-walk.ensures.passes in
    let is : c.min-passed.result ≡ min walked.len (length bytes) = c.min-passed.ensures in
    let size : length piece ≡ read.size = omega (arith, length-take read.size c.read.new.buffer, read.ensures.within) in
    let cut = are_cut o.keep_going c.args.limit bytes walked.len c.min-passed.result walked.last c.in-Ok-walk.ensures.ends c.in_default-stopping_fault.ensures.none is in
    let written = c.in_ok-written.ensures.ok in
    let left : left_to_show c.continue_message.new.rest.items piece ≡ bytes = ap (λ x. left_to_show x piece) (sym c.as_slice-in-pieces.ensures.value) ∙ sym c.left_to_show-bytes.ensures in
    let kept : c.keep_rest.new.rest.items ≡ drop c.min-passed.result bytes = c.in-Ok-keep_rest.ensures.ok ∙ ap (drop c.min-passed.result) left in
    record {
      empty = c.clear-in-pieces.ensures.items;
      source_failures = read.ensures.failures ∙ i.source_failures;
      ends = read.ensures.ends ∙ unended read.size _ _ c.if-size-eq0.false ∙ i.ends;
      sink_failures = written.2 ∙ i.sink_failures;
      came = (
        s ++ piece,
        continues c.messages_unfold.ensures c.first_faults_are_reported.ensures o c.args.limit _ _ _ bytes _ _ _ _ _ _ _ _ s piece came joined walked.len _ lines i.empty passes c.in_ok-written.written c.min-passed.result
            c.keep_rest.new.rest.items _ kept read.ensures.bytes.0 (subst (Appends _ _) c.as_slice-in-pieces-2.ensures.value written.1)
            (subst (λ x. c.in_ok-written.written ≡ min (c.pieces.written + length x) (2 ^ 64 - 1)) c.as_slice-in-pieces-2.ensures.value written.0) is c.in-Ok-walk.ensures.bounds
            (omega (arith, c.if-size-accepted.false, c.len.ensures, ap length joined, length-append c.pieces.rest.items piece, size)) cut,
        kept_more c.pieces.first.items _ s piece i.came.2 c.keep_first.ensures,
      );
    }
