-- The progress of showing a capture from a source to a sink.
use Rattle.std.proofs.Common.{◌≡◌, ℕ, ◌+◌, ◌-◌, ◌^◌, ◌<◌, ◌≤◌, min, inl, inr, Bool, List, [], ◌∷◌, ◌++◌, length, take, drop, Option, None, Some, Result, Ok, Err, refl, sym, ap, subst, ◌∙◌, arith, length-append, append-nil}
use Rattle.std.specs.Prelude.{◌⊎◌, nat_lt}
use Rattle.std.proofs.lemmas.List.{drop_all, drop-append-le, drop-drop, length-drop, length-take, take_at}
use Rattle.std.proofs.lemmas.Bool.{lt-ltb}
use Rattle.std.specs.Io.KnownBytes.{Appends, Consumes}
use Rattle.std.proofs.KnownBytes.{Appends-nil, Appends-trans, Consumes-nil, Consumes-trans}
use Rattle.link_capture_grammar.specs.Captures.{IsOfFrames, first_fault, first_frame}
use Rattle.link_capture_grammar.specs.Laws.{FaultsAreAtFrames}
use Rattle.link_message_grammar.specs.Body.{link_body}
use Rattle.link_capture_grammar.specs.declared.fault.CaptureFault.{CaptureFault}
use Rattle.link_capture_grammar.specs.declared.fault.FaultKind.{FaultKind}
use Rattle.link_capture_grammar.specs.declared.fault.FaultKind.TheVariants.{Cut, Memory, Read, Write, TooLong, Failed}
use Rattle.link_capture_reader.specs.Outcomes.{HasNoFaultButCut}
use Rattle.link_capture_reader.specs.Devices.{IsPrefix}
use Rattle.link_capture_reader.proofs.Progress.{part_prefix}
use Rattle.link_capture_refusals.specs.RefusalViews.{optional_found}
use Rattle.link_lines.specs.MessageLaws.{FirstFaultsAreReported, MessagesUnfold}
use Rattle.link_lines.specs.MessageLines.{Selection, lines_of_messages, shown}
use Rattle.link_lines.specs.Messages.{Message, Report, first_report, frame_of, last_fault, messages, messages_at, report_of}
use Rattle.link_lines.specs.Outcomes.{ComesTo, IsReadThrough, IsToBeShown, RunsOutReading, IsShowResult, IsShowFault, ShowsPrefix, has_bytes}
use Rattle.link_lines.specs.Refused.{reported_refusal, without_refusal}
use Rattle.link_lines.specs.Walks.{Ends, FinishedWith, Passes, StopsThere, cut_with_piece, left_to_show, or_else, report_in}
use Rattle.link_lines.specs.declared.refused.ShowFault.{ShowFault}
use Rattle.link_lines.proofs.Passing.{last_there, lines_more, lines_of_none, open_more, reports_more}
use Rattle.link_lines.proofs.Reaching.{AreCut, Concluded, Reaches, concluded, first_reported, nothing_reported, no_tail, open_tail, reached, reaches_piece, reaches_rest}

-- The bytes s were read, and the lines of their messages are written. What isn't shown are the bytes `rest`, which begin
-- at the offset `start`, after `padding` bytes.
pub record Came (o : Selection) (limit start padding : ℕ) (rest : List ℕ) (found : Option ShowFault) (written : ℕ) (come_old come_new holds_old holds_new : Option (List ℕ)) (s : List ℕ) : Type 0 where
  pub messages : List Message
  pub reaches : Reaches o.keep_going limit s messages start padding rest
  pub goes_on : last_fault messages ≡ None
  pub reports : report_in found ≡ first_report messages
  pub accepted : start + length rest ≡ length s
  pub place : rest ≡ drop start s
  pub cut : AreCut limit padding rest
  pub near : padding ≤ 3
  pub fits : start + length rest < 2 ^ 64
  pub consumed : Consumes come_old come_new s
  pub wrote : Appends holds_old holds_new (lines_of_messages o messages)
  pub count : written ≡ min (length (lines_of_messages o messages)) (2 ^ 64 - 1)

pub nothing_came : (o : Selection) (limit : ℕ) (come holds : Option (List ℕ)) → Came o limit 0 0 [] None 0 come come holds holds []
nothing_came o limit come holds = record {
  messages = [];
  reaches = λ t. refl;
  goes_on = refl;
  reports = refl;
  accepted = refl;
  place = refl;
  cut = inl refl;
  near = omega arith;
  fits = omega arith;
  consumed = Consumes-nil come;
  wrote = subst (Appends holds holds) (sym (lines_of_none o)) (Appends-nil holds);
  count = ap (λ (t : List ℕ). min (length t) (2 ^ 64 - 1)) (sym (lines_of_none o));
}

-- The same statement for an empty buffer.
pub nothing_came_for : (o : Selection) (limit : ℕ) (rest : List ℕ) → rest ≡ [] → (come holds : Option (List ℕ)) → Came o limit 0 0 rest None 0 come come holds holds []
nothing_came_for o limit rest e come holds = subst (λ r. Came o limit 0 0 r None 0 come come holds holds []) (sym e) (nothing_came o limit come holds)

module _ (go : MessagesUnfold) (law : FirstFaultsAreReported) (o : Selection) (limit start padding : ℕ) (rest : List ℕ) (found : Option ShowFault) (written : ℕ) (come_old come_new holds_old holds_new : Option (List ℕ)) (s : List ℕ) (came : Came o limit start padding rest found written come_old come_new holds_old holds_new s) where
  abbrev tail : List Message
  tail = messages_at o.keep_going limit (start + padding) (drop padding rest)

  conclusion : Concluded o limit s came.messages tail
  conclusion = concluded o limit s came.messages tail (reached o.keep_going limit s came.messages start padding rest came.reaches) came.goes_on

  -- The lines that are written are those of all that was read.
  pub lines_shown : lines_of_messages o came.messages ≡ shown o limit s
  lines_shown =
      sym (conclusion.lines ∙ ap (λ x. lines_of_messages o came.messages ++ x) (open_tail go o limit (start + padding) padding rest came.cut).no_lines ∙ append-nil (lines_of_messages o came.messages))

  still_open : HasNoFaultButCut (last_fault (messages o.keep_going limit s))
  still_open = subst HasNoFaultButCut (sym conclusion.fault) (open_tail go o limit (start + padding) padding rest came.cut).is_open

  -- A further piece isn't shown.
  pub before_piece : (p : List ℕ) (at : ℕ) → at ≡ start + length rest → ShowsPrefix o limit (s ++ p) (lines_of_messages o came.messages) at
  before_piece p at e =
      let size : length s ≡ at = sym came.accepted ∙ sym e in
      let read : take at (s ++ p) ≡ s = take_at s p at size in
      record {
        inside = omega (arith, size, length-append s p);
        is_open = subst (λ x. HasNoFaultButCut (last_fault (messages o.keep_going limit x))) (sym read) still_open;
        written = lines_shown ∙ ap (shown o limit) (sym read);
      }

  pub before_end : (at : ℕ) → at ≡ start + length rest → ShowsPrefix o limit s (lines_of_messages o came.messages) at
  before_end at e = subst (λ x. ShowsPrefix o limit x (lines_of_messages o came.messages) at) (append-nil s) (before_piece [] at e)

  -- No memory for the rest of a cut message.
  pub cut_runs_out : 0 < length rest → RunsOutReading o limit s (lines_of_messages o came.messages) start
  cut_runs_out l = elim came.cut [
    | inl none ↦ absurd (omega (arith, l, ap length none))
    | inr cut ↦
        let at : start + padding ≡ start = omega (arith, cut.0) in
        let there : drop padding rest ≡ drop start s = ap (λ n. drop n rest) cut.0 ∙ came.place in (
          record {
            inside = omega (arith, l, came.accepted);
            before = came.messages;
            all = reached o.keep_going limit s came.messages start padding rest came.reaches
                ∙ ap (λ n. came.messages ++ messages_at o.keep_going limit n (drop padding rest)) at
                ∙ ap (λ x. came.messages ++ messages_at o.keep_going limit start x) there;
            goes_on = came.goes_on;
            written = refl;
          },
          inr (ap (first_frame link_body limit) (sym came.place) ∙ cut.1),
        )
  ]

-- ---- results

-- A fault that a frame can have.
shown_frame : (o : Selection) (E R W : Type 0) (limit : ℕ) (s w : List ℕ) (kind : FaultKind) (at : ℕ) → IsOfFrames kind → first_fault link_body limit s ≡ Some (record { kind = kind; offset = at }) → IsReadThrough (last_fault (messages o.keep_going limit s)) E → w ≡ shown o limit s → IsShowFault o E R W limit s w kind at
shown_frame o E R W limit s w Memory at k f e l = absurd k
shown_frame o E R W limit s w Read at k f e l = absurd k
shown_frame o E R W limit s w Write at k f e l = absurd k
shown_frame o E R W limit s w TooLong at k f e l = absurd k
shown_frame o E R W limit s w Failed at k f e l = absurd k
shown_frame o E R W limit s w kind at k f e l = (f, e, l)

-- The report of a result in code.
abbrev reported_by : ShowFault → Report
reported_by e = (e.fault, optional_found e.refusal)

-- The first fault is reported.
pub fault_shown : FirstFaultsAreReported → FaultsAreAtFrames link_body → (o : Selection) (E R W : Type 0) (limit : ℕ) (s w : List ℕ) (e : ShowFault) → first_report (messages o.keep_going limit s) ≡ Some (reported_by e) → IsReadThrough (last_fault (messages o.keep_going limit s)) E → w ≡ shown o limit s →
    IsShowResult o E R W limit s w (Err e)
fault_shown law frames o E R W limit s w e report ended lines =
    let first = first_reported law o.keep_going limit s (reported_by e) report in
    (shown_frame o E R W limit s w e.fault.kind e.fault.offset (frames limit s e.fault first.0).2 first.0 ended lines, first.1)

-- A fault of a device, or out of memory, has no reason.
pub device_shown : (o : Selection) (E R W : Type 0) (limit : ℕ) (s w : List ℕ) (e : ShowFault) (fault : CaptureFault) → e ≡ without_refusal fault → reported_refusal s fault.kind fault.offset ≡ None → IsShowFault o E R W limit s w fault.kind fault.offset → IsShowResult o E R W limit s w (Err e)
device_shown o E R W limit s w e fault f n h = subst (λ x. IsShowResult o E R W limit s w (Err x)) (sym f) (h, sym n)

ends_through : (f : Option CaptureFault) (E : Type 0) → E → IsReadThrough f E
ends_through None E e = e
ends_through (Some f) E e = λ k. e

has_length : (w : List ℕ) (n : ℕ) → n ≡ min (length w) (2 ^ 64 - 1) → nat_lt 0 n ≡ has_bytes w
has_length [] n e = ap (nat_lt 0) (e ∙ refl)
has_length (b ∷ w) n e = lt-ltb 0 n (omega (arith, e))

-- ---- the end of the source

module _ (go : MessagesUnfold) (law : FirstFaultsAreReported) (frames : FaultsAreAtFrames link_body) (o : Selection) (limit start padding : ℕ) (rest : List ℕ) (found : Option ShowFault) (written : ℕ) (come_old come_new holds_old holds_new : Option (List ℕ)) (s : List ℕ) (came : Came o limit start padding rest found written come_old come_new holds_old holds_new s) (E R W : Type 0) (ended : E) where
  abbrev w : List ℕ
  w = lines_of_messages o came.messages

  abbrev all : List Message
  all = messages o.keep_going limit s

  abbrev left : List Message
  left = messages_at o.keep_going limit (start + padding) (drop padding rest)

  first : first_report all ≡ or_else (report_in found) (first_report left)
  first =
      (concluded o limit s came.messages left (reached o.keep_going limit s came.messages start padding rest came.reaches) came.goes_on).report
      ∙ ap (λ x. or_else x (first_report left)) (sym came.reports)

  lines_are : w ≡ shown o limit s
  lines_are = lines_shown go law o limit start padding rest found written come_old come_new holds_old holds_new s came

  by_report : (e : ShowFault) → first_report all ≡ Some (reported_by e) → IsShowResult o E R W limit s w (Err e)
  by_report e report = fault_shown law frames o E R W limit s w e report (ends_through (last_fault all) E ended) lines_are

  cut_left : (x : ℕ) (c : List ℕ) → rest ≡ x ∷ c → first_report left ≡ Some (reported_by (without_refusal (record { kind = Cut; offset = start })))
  cut_left x c e = elim came.cut [
    | inl none ↦ absurd (let z : length (x ∷ c) ≡ 0 = ap length (sym e ∙ none) in omega (arith, z))
    | inr cut ↦
        let stop : first_frame link_body limit (drop padding rest) ≡ Err Cut = subst (λ n. first_frame link_body limit (drop n rest) ≡ Err Cut) (sym cut.0) cut.1 in
        let some : 0 < length (drop padding rest) = subst (λ n. 0 < length (drop n rest)) (sym cut.0) (omega (arith, ap length e)) in
        let at : start + padding ≡ start = omega (arith, cut.0) in
        (last_there go o limit (start + padding) (drop padding rest) Cut some (stop, λ b. absurd (cc))).report
        ∙ ap (λ n. Some (reported_by (without_refusal (record { kind = Cut; offset = n })))) at
  ]

  finished_in : (r : Option Report) → report_in found ≡ r → (c : List ℕ) → rest ≡ c → (result : Result Bool ShowFault) → FinishedWith r c start written result → IsShowResult o E R W limit s w result
  finished_in None e [] f (Ok b) h =
      let none : left ≡ [] = ap (λ c. messages_at o.keep_going limit (start + padding) (drop padding c)) f ∙ no_tail go o limit (start + padding) padding in
      (ended, nothing_reported law o.keep_going limit s (first ∙ ap (λ x. or_else x (first_report left)) e ∙ ap first_report none), lines_are, h ∙ has_length w written came.count)
  finished_in None e [] f (Err x) h = absurd h
  finished_in None e (x ∷ c) f (Ok b) h = absurd h
  finished_in None e (x ∷ c) f (Err z) h =
      subst (λ y. IsShowResult o E R W limit s w (Err y)) (sym h) (by_report (without_refusal (record { kind = Cut; offset = start })) (first ∙ ap (λ y. or_else y (first_report left)) e ∙ cut_left x c f))
  finished_in (Some r) e c f (Ok b) h = absurd h
  finished_in (Some r) e c f (Err z) h = by_report z (first ∙ ap (λ y. or_else y (first_report left)) e ∙ ap (λ y. Some y) (sym h))

  pub finished : (result : Result Bool ShowFault) → FinishedWith (report_in found) rest start written result → IsShowResult o E R W limit s w result
  finished result h = finished_in (report_in found) refl rest refl result h

-- ---- a piece

module _ (go : MessagesUnfold) (law : FirstFaultsAreReported) (o : Selection) (limit start padding : ℕ) (rest whole : List ℕ) (found then : Option ShowFault) (written : ℕ) (come_old come_between come_new holds_old holds_between : Option (List ℕ)) (s p : List ℕ) (came : Came o limit start padding rest found written come_old come_between holds_old holds_between s) (joined : whole ≡ rest ++ p) (to : ℕ) (old new : List ℕ) (none : old ≡ []) (passes : Passes o limit start whole padding to old new (report_in found) (report_in then)) where
  abbrev ms : List Message
  ms = came.messages ++ passes.messages

  abbrev after : List Message
  after = messages_at o.keep_going limit (start + to) (drop to whole)

  reaches : Reaches o.keep_going limit (s ++ p) ms start to whole
  reaches = reaches_piece o.keep_going limit s came.messages start padding rest p whole to passes.messages came.reaches joined passes.between

  going : last_fault ms ≡ None
  going = open_more came.messages passes.messages came.goes_on ∙ passes.goes_on

  conclusion_then : Concluded o limit (s ++ p) ms after
  conclusion_then = concluded o limit (s ++ p) ms after (reached o.keep_going limit (s ++ p) ms start to whole reaches) going

  gained : new ≡ lines_of_messages o passes.messages
  gained = passes.lines ∙ ap (λ x. x ++ lines_of_messages o passes.messages) none

  pub lines_then : lines_of_messages o ms ≡ lines_of_messages o came.messages ++ new
  lines_then = lines_more o came.messages passes.messages ∙ ap (λ x. lines_of_messages o came.messages ++ x) (sym gained)

  reports_then : report_in then ≡ first_report ms
  reports_then = passes.reports ∙ ap (λ x. or_else x (first_report passes.messages)) came.reports ∙ sym (reports_more came.messages passes.messages)

  -- What is written and will be is a prefix of the lines.
  pub prefix_shown : IsPrefix (lines_of_messages o came.messages ++ new) (shown o limit (s ++ p))
  prefix_shown = (lines_of_messages o after, conclusion_then.lines ∙ ap (λ x. x ++ lines_of_messages o after) lines_then)

  -- The bytes to be shown are those of the capture at their offset.
  there : (n : ℕ) → drop n whole ≡ drop (start + n) (s ++ p)
  there n =
      ap (drop n) (joined ∙ ap (λ x. x ++ p) came.place ∙ sym (drop-append-le start s p (omega (arith, came.accepted))))
      ∙ drop-drop n start (s ++ p)

  comes_to : to < length whole → ComesTo o limit (s ++ p) (lines_of_messages o came.messages ++ new) (start + to)
  comes_to l = record {
    inside = omega (arith, l, came.accepted, ap length joined, length-append rest p, length-append s p);
    before = ms;
    all = reached o.keep_going limit (s ++ p) ms start to whole reaches ∙ ap (λ x. ms ++ messages_at o.keep_going limit (start + to) x) (there to);
    goes_on = going;
    written = sym lines_then;
  }

  -- No memory for a message that is to be shown.
  pub ran_out : to < length whole → IsToBeShown o.keep_going limit (drop to whole) → RunsOutReading o limit (s ++ p) (lines_of_messages o came.messages ++ new) (start + to)
  ran_out l shown = (comes_to l, inl (subst (IsToBeShown o.keep_going limit) (there to) shown))

  -- No memory for the bytes of a message that is cut.
  pub tail_runs_out : (passed : ℕ) → passed ≡ min to (length whole) → passed < length whole → AreCut limit (to - passed) (drop passed whole) → RunsOutReading o limit (s ++ p) (lines_of_messages o came.messages ++ new) (start + passed)
  tail_runs_out passed is l cut = elim cut [
    | inl none ↦ absurd (omega (arith, l, ap length none, length-drop passed whole))
    | inr e ↦
        let same : to ≡ passed = omega (arith, is, l) in (
          subst (λ n. ComesTo o limit (s ++ p) (lines_of_messages o came.messages ++ new) (start + n)) same (comes_to (omega (arith, same, l))),
          inr (ap (first_frame link_body limit) (sym (there passed)) ∙ e.1),
        )
  ]

  -- Showing stops at a message of the piece.
  pub stopped_shown : FaultsAreAtFrames link_body → (E R W : Type 0) (kind : FaultKind) (e : ShowFault) → to < length whole → StopsThere o.keep_going limit (drop to whole) kind → (kind ≡ Cut → ⊥) → report_in (Some e) ≡ or_else (report_in then) (Some (report_of (start + to) kind (frame_of (drop to whole)))) →
      IsShowResult o E R W limit (s ++ p) (lines_of_messages o came.messages ++ new) (Err e)
  stopped_shown frames E R W kind e l stop differs report =
      let last = last_there go o limit (start + to) (drop to whole) kind (omega (arith, l, length-drop to whole)) stop in
      let first : first_report (messages o.keep_going limit (s ++ p)) ≡ Some (reported_by e) =
      conclusion_then.report ∙ ap (λ x. or_else x (first_report after)) (sym reports_then) ∙ ap (or_else (report_in then)) last.report ∙ sym report in
      let lines : lines_of_messages o came.messages ++ new ≡ shown o limit (s ++ p) =
      sym (conclusion_then.lines ∙ ap (λ x. lines_of_messages o ms ++ x) last.no_lines ∙ append-nil (lines_of_messages o ms) ∙ lines_then) in
      fault_shown law frames o E R W limit (s ++ p) (lines_of_messages o came.messages ++ new) e first
      (subst (λ f. IsReadThrough f E) (sym (conclusion_then.fault ∙ last.fault)) (λ k. absurd (differs k))) lines

  -- All messages of the piece are shown, but perhaps a cut one.
  continues_after : (total passed : ℕ) (holds_new : Option (List ℕ)) → Consumes come_between come_new p → Appends holds_between holds_new new → total ≡ min (written + length new) (2 ^ 64 - 1) → passed ≡ min to (length whole) → to ≤ length whole + 3 → start + length whole < 2 ^ 64 → AreCut limit (to - passed) (drop passed whole) →
      Came o limit (start + passed) (to - passed) (drop passed whole) then total come_old come_new holds_old holds_new (s ++ p)
  continues_after total passed holds_new consumed wrote count is near fits cut =
      let within : passed ≤ length whole = omega (arith, is) in
      let low : passed ≤ to = omega (arith, is) in
      record {
        messages = ms;
        reaches = reaches_rest o.keep_going limit (s ++ p) ms start to whole passed reaches low within;
        goes_on = going;
        reports = reports_then;
        accepted = omega (arith, came.accepted, length-drop passed whole, ap length joined, length-append rest p, length-append s p, within);
        place = there passed;
        cut = cut;
        near = omega (arith, is, near);
        fits = omega (arith, fits, length-drop passed whole, within);
        consumed = Consumes-trans come_old come_between come_new s p came.consumed consumed;
        wrote = subst (Appends holds_old holds_new) (sym lines_then) (Appends-trans holds_old holds_between holds_new (lines_of_messages o came.messages) new came.wrote wrote);
        count = omega (arith, count, came.count, ap length lines_then, length-append (lines_of_messages o came.messages) new);
      }

  -- The same statement for the bytes that are left.
  pub continues : (total passed : ℕ) (kept_bytes : List ℕ) (holds_new : Option (List ℕ)) → kept_bytes ≡ drop passed whole → Consumes come_between come_new p → Appends holds_between holds_new new → total ≡ min (written + length new) (2 ^ 64 - 1) → passed ≡ min to (length whole) → to ≤ length whole + 3 → start + length whole < 2 ^ 64 → AreCut limit (to - passed) (drop passed whole) →
      Came o limit (start + passed) (to - passed) kept_bytes then total come_old come_new holds_old holds_new (s ++ p)
  continues total passed kept_bytes holds_new e consumed wrote count is near fits cut =
      subst (λ x. Came o limit (start + passed) (to - passed) x then total come_old come_new holds_old holds_new (s ++ p)) (sym e) (continues_after total passed holds_new consumed wrote count is near fits cut)

-- A failure of the sink has no reason.
pub write_only : (s : List ℕ) (kind : FaultKind) (at : ℕ) → kind ≡ Write → reported_refusal s kind at ≡ None
write_only s kind at e = subst (λ k. reported_refusal s k at ≡ None) (sym e) refl

-- What isn't shown of a piece is a cut message, if no other message stops showing.
pub are_cut : (k : Bool) (limit : ℕ) (whole : List ℕ) (to passed : ℕ) (last : Option FaultKind) → Ends k limit whole to last → (last ≡ None) ⊎ (last ≡ Some Cut) → passed ≡ min to (length whole) → AreCut limit (to - passed) (drop passed whole)
are_cut k limit whole to passed last ends (inl none) is =
    let end : length whole ≤ to = subst (Ends k limit whole to) none ends in
    inl (drop_all passed whole (omega (arith, is, end)))
are_cut k limit whole to passed last ends (inr cut) is =
    let stop = subst (Ends k limit whole to) cut ends in
    let same : to ≡ passed = omega (arith, is, stop.0) in
    inr (omega (arith, same), subst (λ n. first_frame link_body limit (drop n whole) ≡ Err Cut) same stop.1.0)

-- A write failed after n bytes of the lines.
pub failed_write : (o : Selection) (E R W : Type 0) (limit : ℕ) (s a out : List ℕ) (written n : ℕ) (fault : CaptureFault) → W → IsPrefix (a ++ out) (shown o limit s) → n ≤ length out → written ≡ min (length a) (2 ^ 64 - 1) → fault.kind ≡ Write → fault.offset ≡ min (written + n) (2 ^ 64 - 1) → IsShowFault o E R W limit s (a ++ take n out) fault.kind fault.offset
failed_write o E R W limit s a out written n fault w p l c k at =
    let size : length (a ++ take n out) ≡ length a + n = length-append a (take n out) ∙ omega (arith, length-take n out) in
    subst (λ x. IsShowFault o E R W limit s (a ++ take n out) x fault.offset) (sym k) (w, omega (arith, size, c, at), part_prefix a out (shown o limit s) n p)

-- ---- the bytes of a piece

-- A piece after a cut message is shown with the message's bytes, and else by itself.
pub left_joined : (rest piece : List ℕ) → left_to_show (cut_with_piece rest piece) piece ≡ rest ++ piece
left_joined [] piece = refl
left_joined (b ∷ rest) piece = refl

-- What is shown follows what wasn't.
pub bytes_joined : (bytes slice after held rest piece : List ℕ) → bytes ≡ left_to_show slice piece → slice ≡ after → after ≡ cut_with_piece held piece → held ≡ rest → bytes ≡ rest ++ piece
bytes_joined bytes slice after held rest piece b s a h =
    b ∙ ap (λ x. left_to_show x piece) (s ∙ a ∙ ap (λ x. cut_with_piece x piece) h) ∙ left_joined rest piece
