-- The messages of the bytes that were read, and those that are still to be shown.
use Rattle.std.proofs.Common.{◌≡◌, ℕ, ◌+◌, ◌-◌, ◌≤◌, inl, inr, Bool, List, [], ◌∷◌, ◌++◌, length, drop, Option, None, Some, Err, refl, sym, ap, subst, ◌∙◌, arith, append_assoc, append-nil}
use Rattle.std.specs.Prelude.{◌⊎◌, option_map}
use Rattle.std.proofs.lemmas.List.{drop-append-le, drop-drop, drop_all}
use Rattle.link_capture_grammar.specs.Captures.{first_fault, first_frame}
use Rattle.link_capture_grammar.specs.declared.fault.CaptureFault.{CaptureFault}
use Rattle.link_capture_grammar.specs.declared.fault.FaultKind.TheVariants.{Cut}
use Rattle.link_capture_reader.specs.Outcomes.{HasNoFaultButCut}
use Rattle.link_lines.specs.MessageLaws.{FirstFaultsAreReported, MessagesUnfold, report_of_fault}
use Rattle.link_lines.specs.MessageLines.{Selection, lines_of_messages, shown}
use Rattle.link_lines.specs.Messages.{Message, Report, first_report, last_fault, messages, messages_at}
use Rattle.link_lines.specs.Refused.{reported_refusal}
use Rattle.link_lines.specs.Walks.{AreBetween, or_else}
use Rattle.link_message_grammar.specs.Body.{link_body}
use Rattle.link_lines.proofs.Passing.{last_there, lines_more, lines_of_none, open_more, reports_more}

-- Of the capture that begins with s, these are the messages up to the offset n of c, which begins at the offset `start`,
-- whatever follows.
abbrev pub Reaches : Bool → ℕ → List ℕ → List Message → ℕ → ℕ → List ℕ → Type 0
Reaches k limit s ms start n c = (t : List ℕ) → messages_at k limit 0 (s ++ t) ≡ ms ++ messages_at k limit (start + n) (drop n (c ++ t))

module _ (k : Bool) (limit : ℕ) (s : List ℕ) (ms : List Message) (start n : ℕ) (c : List ℕ) where
  -- A piece is read, and its messages are shown.
  pub reaches_piece : (p whole : List ℕ) (to : ℕ) (ns : List Message) → Reaches k limit s ms start n c → whole ≡ c ++ p → AreBetween k limit start whole n to ns → Reaches k limit (s ++ p) (ms ++ ns) start to whole
  reaches_piece p whole to ns r e b = λ t.
      let there : c ++ (p ++ t) ≡ whole ++ t = sym (append_assoc c p t) ∙ ap (λ x. x ++ t) (sym e) in
      ap (messages_at k limit 0) (append_assoc s p t) ∙ r (p ++ t) ∙ ap (λ x. ms ++ messages_at k limit (start + n) (drop n x)) there
      ∙ ap (λ x. ms ++ x) (b t) ∙ sym (append_assoc ms ns (messages_at k limit (start + to) (drop to (whole ++ t))))

  -- Bytes that were shown are removed.
  pub reaches_rest : (m : ℕ) → Reaches k limit s ms start n c → m ≤ n → m ≤ length c → Reaches k limit s ms (start + m) (n - m) (drop m c)
  reaches_rest m r l h = λ t.
      let there : start + n ≡ (start + m) + (n - m) = omega (arith, l) in
      let all : m + (n - m) ≡ n = omega (arith, l) in
      let rest : drop n (c ++ t) ≡ drop (n - m) (drop m c ++ t) = ap (λ x. drop x (c ++ t)) (sym all) ∙ sym (drop-drop (n - m) m (c ++ t)) ∙ ap (drop (n - m)) (drop-append-le m c t h) in
      r t ∙ ap (λ x. ms ++ messages_at k limit x (drop n (c ++ t))) there ∙ ap (λ x. ms ++ messages_at k limit ((start + m) + (n - m)) x) rest

  -- Nothing follows.
  pub reached : Reaches k limit s ms start n c → messages k limit s ≡ ms ++ messages_at k limit (start + n) (drop n c)
  reached r = ap (messages_at k limit 0) (sym (append-nil s)) ∙ r [] ∙ ap (λ x. ms ++ messages_at k limit (start + n) (drop n x)) (append-nil c)

-- ---- what follows of a capture's messages

pub record Concluded (o : Selection) (limit : ℕ) (s : List ℕ) (ms tail : List Message) : Type 0 where
  pub lines : shown o limit s ≡ lines_of_messages o ms ++ lines_of_messages o tail
  pub fault : last_fault (messages o.keep_going limit s) ≡ last_fault tail
  pub report : first_report (messages o.keep_going limit s) ≡ or_else (first_report ms) (first_report tail)

pub concluded : (o : Selection) (limit : ℕ) (s : List ℕ) (ms tail : List Message) → messages o.keep_going limit s ≡ ms ++ tail → last_fault ms ≡ None → Concluded o limit s ms tail
concluded o limit s ms tail e goes_on = record {
  lines = ap (lines_of_messages o) e ∙ lines_more o ms tail;
  fault = ap last_fault e ∙ open_more ms tail goes_on;
  report = ap first_report e ∙ reports_more ms tail;
}

-- The bytes that aren't shown are a message that is cut, if there are any.
abbrev pub AreCut : ℕ → ℕ → List ℕ → Type 0
AreCut limit n c = (c ≡ []) ⊎ ((n ≡ 0) × (first_frame link_body limit c ≡ Err Cut))

-- The messages of such bytes: none, or the cut one.
pub record IsOpenTail (o : Selection) (tail : List Message) : Type 0 where
  pub no_lines : lines_of_messages o tail ≡ []
  pub is_open : HasNoFaultButCut (last_fault tail)

pub no_tail : MessagesUnfold → (o : Selection) (limit at n : ℕ) → messages_at o.keep_going limit at (drop n []) ≡ []
no_tail go o limit at n = ap (messages_at o.keep_going limit at) (drop_all n [] (omega arith)) ∙ go.none o.keep_going limit at

open_none : (o : Selection) (tail : List Message) → tail ≡ [] → IsOpenTail o tail
open_none o tail e = subst (IsOpenTail o) (sym e) (record { no_lines = lines_of_none o; is_open = tt })

open_cut : MessagesUnfold → (o : Selection) (limit at : ℕ) (c : List ℕ) → first_frame link_body limit c ≡ Err Cut → IsOpenTail o (messages_at o.keep_going limit at c)
open_cut go o limit at [] e = open_none o (messages_at o.keep_going limit at []) (go.none o.keep_going limit at)
open_cut go o limit at (x ∷ c) e =
    let last = last_there go o limit at (x ∷ c) Cut (omega arith) (e, λ b. absurd (cc)) in
    record { no_lines = last.no_lines; is_open = subst HasNoFaultButCut (sym last.fault) refl }

pub open_tail : MessagesUnfold → (o : Selection) (limit at n : ℕ) (c : List ℕ) → AreCut limit n c → IsOpenTail o (messages_at o.keep_going limit at (drop n c))
open_tail go o limit at n c (inl none) = open_none o (messages_at o.keep_going limit at (drop n c)) (ap (λ x. messages_at o.keep_going limit at (drop n x)) none ∙ no_tail go o limit at n)
open_tail go o limit at n c (inr cut) = subst (λ x. IsOpenTail o (messages_at o.keep_going limit at (drop x c))) (sym cut.0) (open_cut go o limit at c cut.1)

-- ---- the first fault, and the reason of a refused body

known_fault : (s : List ℕ) (f : Option CaptureFault) (r : Report) → option_map (report_of_fault s) f ≡ Some r → (f ≡ Some r.0) × (r.1 ≡ reported_refusal s r.0.kind r.0.offset)
known_fault s None r e = absurd (cc)
known_fault s (Some f) r e =
    let same : report_of_fault s f ≡ r = cc in
    (ap (λ x. Some x.0) same, subst (λ x. x.1 ≡ reported_refusal s x.0.kind x.0.offset) same refl)

pub first_reported : FirstFaultsAreReported → (k : Bool) (limit : ℕ) (s : List ℕ) (r : Report) → first_report (messages k limit s) ≡ Some r → (first_fault link_body limit s ≡ Some r.0) × (r.1 ≡ reported_refusal s r.0.kind r.0.offset)
first_reported law k limit s r e = known_fault s (first_fault link_body limit s) r (sym (law k limit s) ∙ e)

no_fault : (s : List ℕ) (f : Option CaptureFault) → option_map (report_of_fault s) f ≡ None → f ≡ None
no_fault s None e = refl
no_fault s (Some f) e = absurd (cc)

pub nothing_reported : FirstFaultsAreReported → (k : Bool) (limit : ℕ) (s : List ℕ) → first_report (messages k limit s) ≡ None → first_fault link_body limit s ≡ None
nothing_reported law k limit s e = no_fault s (first_fault link_body limit s) (sym (law k limit s) ∙ e)
