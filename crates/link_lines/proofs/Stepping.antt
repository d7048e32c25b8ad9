-- The first message of some bytes, whatever follows them.
use Rattle.std.proofs.Common.{◌≡◌, ℕ, ◌+◌, ◌≤◌, ◌<◌, true, false, List, [], ◌∷◌, ◌++◌, length, take, drop, Option, Some, Err, refl, sym, ap, subst, ◌∙◌, arith, length-append}
use Rattle.std.proofs.lemmas.List.{take-append-le}
use Rattle.netlink_packet_core_grammar.proofs.Numbers.{u32_at-append}
use Rattle.netlink_packet_core_grammar.specs.Attributes.{nla_align}
use Rattle.netlink_packet_core_grammar.specs.Frames.{BeginsWithFrame, frame_length}
use Rattle.link_message_grammar.specs.Body.{link_body}
use Rattle.link_capture_grammar.specs.Captures.{first_frame}
use Rattle.link_capture_grammar.specs.Laws.{FramesAreIndependent}
use Rattle.link_capture_grammar.specs.declared.fault.FaultKind.{FaultKind}
use Rattle.link_capture_grammar.specs.declared.fault.FaultKind.TheVariants.{Cut}
use Rattle.link_lines.specs.MessageLaws.{MessagesUnfold}
use Rattle.link_lines.specs.MessageLines.{Selection, message_lines}
use Rattle.link_lines.specs.Messages.{Message.Accepted, Message.Faulty, Report, frame_of, is_of_body, messages_at, report_of}
use Rattle.link_lines.specs.Pieces.{IsShownAs}
use Rattle.link_lines.specs.Walks.{IsJudged, Passes, Steps, or_else}
use Rattle.link_lines.specs.declared.messages.Judgement.{Judgement}
use Rattle.link_lines.specs.declared.messages.Judgement.TheVariants as J
use Rattle.link_lines.specs.declared.messages.ShownMessage.{ShownMessage}
use Rattle.link_lines.specs.declared.messages.ShownMessage.TheVariants as Outcome
use Rattle.link_lines.specs.declared.messages.Step.{Step}
use Rattle.link_lines.specs.declared.messages.Step.TheVariants.{Next}
use Rattle.link_lines.proofs.Passing.{or_none, passes_next}

-- The judgement is this one.
pub judged_as : (limit : ℕ) (c text : List ℕ) (r q : Judgement) → r ≡ q → IsJudged limit c text r → IsJudged limit c text q
judged_as limit c text r q e h = subst (IsJudged limit c text) e h

pub is_accepted : FramesAreIndependent link_body → MessagesUnfold → (o : Selection) (limit offset : ℕ) (c text old new : List ℕ) (before now : Option Report) (n : ℕ) → IsJudged limit c text (J.Accepted n) → new ≡ old ++ message_lines o (Accepted offset text) → now ≡ before → Steps o limit offset c old new before now (Next n)
is_accepted frames go o limit offset c text old new before now n e lines report =
    let accepted = frames.accepted limit c (n, text) e in (
      Accepted offset text,
      (λ t. go.accepted o.keep_going limit offset (c ++ t) (n, text) (frames.unchanged_by_more limit c t (λ x. cc) ∙ e)),
      accepted.low,
      accepted.whole,
      lines,
      report ∙ sym (or_none before),
      refl,
    )

of_body_differs : (kind : FaultKind) → is_of_body kind ≡ true → kind ≡ Cut → ⊥
of_body_differs kind b e = let bad : false ≡ true = sym (ap is_of_body e) ∙ b in cc

err_kind : (a b : FaultKind) (c : List ℕ) (limit : ℕ) → first_frame link_body limit c ≡ Err a → first_frame link_body limit c ≡ Err b → a ≡ b
err_kind a b c limit e f = cc

pub is_faulty : FramesAreIndependent link_body → MessagesUnfold → (o : Selection) (limit offset : ℕ) (c text old new : List ℕ) (before now : Option Report) (kind : FaultKind) (n : ℕ) → IsJudged limit c text (J.Faulty kind n) → o.keep_going ≡ true → new ≡ old ++ message_lines o (Faulty offset kind (frame_of c)) → now ≡ or_else before (Some (report_of offset kind (frame_of c))) →
    Steps o limit offset c old new before now (Next n)
is_faulty frames go o limit offset c text old new before now kind n e goes lines report =
    let frame = e.2 in
    let size : n ≡ frame_length c = e.3 in (
      Faulty offset kind (frame_of c),
      (λ t.
          let same : frame_length (c ++ t) ≡ frame_length c = u32_at-append c t (omega (arith, frame.has_header)) in
          let own : frame_of (c ++ t) ≡ frame_of c = ap (λ m. take m (c ++ t)) same ∙ take-append-le (frame_length c) c t frame.within in
          let whole : BeginsWithFrame (c ++ t) = record {
            has_header = omega (arith, frame.has_header, length-append c t);
            covers_header = omega (arith, frame.covers_header, same);
            within = omega (arith, frame.within, same, length-append c t);
          } in
          let judged : first_frame link_body limit (c ++ t) ≡ Err kind = frames.unchanged_by_more limit c t (λ x. of_body_differs kind e.1 (err_kind kind Cut c limit e.0 x)) ∙ e.0 in
          let k = o.keep_going in
          ap (λ b. messages_at b limit offset (c ++ t)) goes ∙ go.faulty limit offset (c ++ t) kind judged e.1 whole
          ∙ ap (λ f. Faulty offset kind f ∷ messages_at true limit (offset + nla_align (frame_length (c ++ t))) (drop (nla_align (frame_length (c ++ t))) (c ++ t))) own
          ∙ ap (λ m. Faulty offset kind (frame_of c) ∷ messages_at true limit (offset + nla_align m) (drop (nla_align m) (c ++ t))) (same ∙ sym size)
          ∙ ap (λ b. Faulty offset kind (frame_of c) ∷ messages_at b limit (offset + nla_align n) (drop (nla_align n) (c ++ t))) (sym goes)),
      omega (arith, size, frame.covers_header),
      omega (arith, size, frame.within),
      lines,
      report,
      refl,
    )

-- ---- the message that was shown

-- The outcome is this one.
pub shown_as : (o : Selection) (limit offset : ℕ) (c old new : List ℕ) (r q : ShownMessage) → r ≡ q → IsShownAs o limit offset c old new r → IsShownAs o limit offset c old new q
shown_as o limit offset c old new r q e h = subst (IsShownAs o limit offset c old new) e h

pub accepted_step : FramesAreIndependent link_body → MessagesUnfold → (o : Selection) (limit offset : ℕ) (c old new : List ℕ) (before : Option Report) (n : ℕ) → IsShownAs o limit offset c old new (Outcome.Accepted n) → Steps o limit offset c old new before before (Next n)
accepted_step frames go o limit offset c old new before n shown = is_accepted frames go o limit offset c shown.0 old new before before n shown.1 shown.2 refl

pub faulty_step : FramesAreIndependent link_body → MessagesUnfold → (o : Selection) (limit offset : ℕ) (c old new : List ℕ) (before now : Option Report) (kind : FaultKind) (n : ℕ) → IsShownAs o limit offset c old new (Outcome.Faulty kind n) → now ≡ or_else before (Some (report_of offset kind (frame_of c))) → Steps o limit offset c old new before now (Next n)
faulty_step frames go o limit offset c old new before now kind n shown report = is_faulty frames go o limit offset c [] old new before now kind n (shown.1, shown.2, shown.3, shown.4) shown.0 shown.5 report

-- One more message of some bytes is shown.
pub step_passes : (o : Selection) (limit start : ℕ) (c part : List ℕ) (from len at : ℕ) (old mid new : List ℕ) (before between now : Option Report) (step : Step) (n : ℕ) → Passes o limit start c from len old mid before between → len < length c → part ≡ drop len c → at ≡ start + len → step ≡ Next n → Steps o limit at part mid new between now step →
    Passes o limit start c from (len + nla_align n) old new before now
step_passes o limit start c part from len at old mid new before between now step n w l is there e s =
    let here : Steps o limit (start + len) (drop len c) mid new between now (Next n) =
    subst (λ a. Steps o limit a (drop len c) mid new between now (Next n)) there (subst (λ x. Steps o limit at x mid new between now (Next n)) is (subst (λ x. Steps o limit at part mid new between now x) e s)) in
    passes_next o limit start c from len old mid new before between now here.0 n w l here.1 here.4 here.5 here.6

-- A step has a length that fits.
pub step_fits : (o : Selection) (limit at : ℕ) (part mid new : List ℕ) (between now : Option Report) (step : Step) (n : ℕ) → step ≡ Next n → Steps o limit at part mid new between now step → (16 ≤ n) × (n ≤ length part)
step_fits o limit at part mid new between now step n e s =
    let here : Steps o limit at part mid new between now (Next n) = subst (λ x. Steps o limit at part mid new between now x) e s in
    (here.2, here.3)
