-- Messages that were passed in a walk.
use Rattle.std.proofs.Common.{◌≡◌, ℕ, ◌+◌, ◌<◌, Bool, true, false, List, [], ◌∷◌, ◌++◌, length, drop, Option, None, Some, refl, sym, ap, subst, ◌∙◌, arith, append_assoc, append-nil}
use Rattle.std.proofs.lemmas.Grind.{flat_map-append}
use Rattle.std.proofs.lemmas.List.{drop-append-le, drop-drop}
use Rattle.netlink_packet_core_grammar.specs.Attributes.{nla_align}
use Rattle.link_capture_grammar.specs.declared.fault.FaultKind.{FaultKind}
use Rattle.link_capture_grammar.specs.declared.fault.FaultKind.TheVariants.{Refused}
use Rattle.link_lines.specs.MessageLaws.{MessagesUnfold}
use Rattle.link_lines.specs.MessageLines.{Selection, message_lines, lines_of_messages}
use Rattle.link_lines.specs.Messages.{Message, Message.Accepted, Message.Faulty, Message.Last, Report, first_report, frame_of, frame_reason, is_of_body, last_fault, messages_at, report_of}
use Rattle.link_lines.specs.Walks.{IsFirst, Passes, StopsThere, or_else}

-- ---- messages, one after the other

pub lines_more : (o : Selection) (ms ns : List Message) → lines_of_messages o (ms ++ ns) ≡ lines_of_messages o ms ++ lines_of_messages o ns
unfolding lines_of_messages
lines_more o ms ns = flat_map-append (message_lines o) ms ns

pub lines_of_one : (o : Selection) (m : Message) → lines_of_messages o (m ∷ []) ≡ message_lines o m
unfolding lines_of_messages
lines_of_one o m = append-nil (message_lines o m)

pub lines_of_none : (o : Selection) → lines_of_messages o [] ≡ []
unfolding lines_of_messages
lines_of_none o = refl

pub reports_more : (ms ns : List Message) → first_report (ms ++ ns) ≡ or_else (first_report ms) (first_report ns)
reports_more [] ns = refl
reports_more (Accepted offset text ∷ ms) ns = reports_more ms ns
reports_more (Faulty offset kind frame ∷ ms) ns = refl
reports_more (Last offset kind frame ∷ ms) ns = refl

pub or_none : (r : Option Report) → or_else r None ≡ r
or_none None = refl
or_none (Some r) = refl

or_or : (a b c : Option Report) → or_else (or_else a b) c ≡ or_else a (or_else b c)
or_or None b c = refl
or_or (Some r) b c = refl

pub open_more : (ms ns : List Message) → last_fault ms ≡ None → last_fault (ms ++ ns) ≡ last_fault ns
open_more [] ns e = refl
open_more (Accepted offset text ∷ ms) ns e = open_more ms ns e
open_more (Faulty offset kind frame ∷ ms) ns e = open_more ms ns e
open_more (Last offset kind frame ∷ ms) ns e = absurd (cc)

-- ---- a walk

pub passes_none : (o : Selection) (limit start : ℕ) (c : List ℕ) (from : ℕ) (old : List ℕ) (before : Option Report) → Passes o limit start c from from old old before before
passes_none o limit start c from old before = record {
  messages = [];
  between = λ t. refl;
  lines = sym (append-nil old) ∙ ap (λ x. old ++ x) (sym (lines_of_none o));
  reports = sym (or_none before);
  goes_on = refl;
}

module _ (o : Selection) (limit start : ℕ) (c : List ℕ) (from len : ℕ) (old mid new : List ℕ) (before between now : Option Report) (m : Message) (n : ℕ) where
  pub passes_next : Passes o limit start c from len old mid before between → len < length c → IsFirst o.keep_going limit (start + len) (drop len c) m n → new ≡ mid ++ message_lines o m → now ≡ or_else between (first_report (m ∷ [])) → last_fault (m ∷ []) ≡ None →
      Passes o limit start c from (len + nla_align n) old new before now
  passes_next w l first lines reports one = record {
    messages = w.messages ++ m ∷ [];
    between = λ t.
        let k = o.keep_going in
        let cut : drop len (c ++ t) ≡ drop len c ++ t = drop-append-le len c t (omega (arith, l)) in
        let there : (start + len) + nla_align n ≡ start + (len + nla_align n) = omega arith in
        let rest : drop (nla_align n) (drop len c ++ t) ≡ drop (len + nla_align n) (c ++ t) = ap (drop (nla_align n)) (sym cut) ∙ drop-drop (nla_align n) len (c ++ t) in
        w.between t ∙ ap (λ x. w.messages ++ messages_at k limit (start + len) x) cut ∙ ap (λ x. w.messages ++ x) (first t)
        ∙ ap (λ x. w.messages ++ m ∷ messages_at k limit x (drop (nla_align n) (drop len c ++ t))) there
        ∙ ap (λ x. w.messages ++ m ∷ messages_at k limit (start + (len + nla_align n)) x) rest
        ∙ sym (append_assoc w.messages (m ∷ []) (messages_at k limit (start + (len + nla_align n)) (drop (len + nla_align n) (c ++ t))));
    lines =
        lines ∙ ap (λ x. x ++ message_lines o m) w.lines ∙ append_assoc old (lines_of_messages o w.messages) (message_lines o m)
        ∙ ap (λ x. old ++ (lines_of_messages o w.messages ++ x)) (sym (lines_of_one o m)) ∙ ap (λ x. old ++ x) (sym (lines_more o w.messages (m ∷ [])));
    reports =
        reports ∙ ap (λ x. or_else x (first_report (m ∷ []))) w.reports ∙ or_or before (first_report w.messages) (first_report (m ∷ []))
        ∙ ap (or_else before) (sym (reports_more w.messages (m ∷ [])));
    goes_on = open_more w.messages (m ∷ []) w.goes_on ∙ one;
  }

-- ---- the message at which showing stops

-- The reason of a fault that isn't one of a message's body doesn't depend on the message.
no_reason : (kind : FaultKind) (offset : ℕ) (c d : List ℕ) → is_of_body kind ≡ false → frame_reason kind offset c ≡ frame_reason kind offset d
no_reason Refused offset c d e = absurd (cc)
no_reason kind offset c d e = refl

-- The messages from there on have no lines, and the fault is reported.
pub record IsLast (o : Selection) (at : ℕ) (kind : FaultKind) (c : List ℕ) (tail : List Message) : Type 0 where
  pub no_lines : lines_of_messages o tail ≡ []
  pub fault : last_fault tail ≡ Some (record { kind = kind; offset = at })
  pub report : first_report tail ≡ Some (report_of at kind (frame_of c))

one_last : (o : Selection) (at : ℕ) (kind : FaultKind) (c frame : List ℕ) (tail : List Message) → tail ≡ Last at kind frame ∷ [] → frame_reason kind at frame ≡ frame_reason kind at (frame_of c) → IsLast o at kind c tail
one_last o at kind c frame tail e r = subst (IsLast o at kind c) (sym e) (record {
  no_lines = lines_of_one o (Last at kind frame);
  fault = refl;
  report = ap (λ x. Some (record { kind = kind; offset = at }, x)) r;
})

last_by : MessagesUnfold → (o : Selection) (limit at : ℕ) (c : List ℕ) (kind : FaultKind) (k of_body : Bool) → is_of_body kind ≡ of_body → o.keep_going ≡ k → 0 < length c → StopsThere o.keep_going limit c kind → IsLast o at kind c (messages_at o.keep_going limit at c)
last_by go o limit at [] kind k of_body b e l s = absurd (omega (arith, l))
last_by go o limit at (x ∷ c) kind k false b e l s = one_last o at kind (x ∷ c) [] (messages_at o.keep_going limit at (x ∷ c)) (go.invalid o.keep_going limit at x c kind s.0 b) (no_reason kind at [] (frame_of (x ∷ c)) b)
last_by go o limit at (x ∷ c) kind k true b e l s =
    let stop = s.1 b in
    one_last o at kind (x ∷ c) (frame_of (x ∷ c)) (messages_at o.keep_going limit at (x ∷ c)) (ap (λ y. messages_at y limit at (x ∷ c)) stop.0 ∙ go.stopped limit at (x ∷ c) kind s.0 b stop.1) refl

pub last_there : MessagesUnfold → (o : Selection) (limit at : ℕ) (c : List ℕ) (kind : FaultKind) → 0 < length c → StopsThere o.keep_going limit c kind → IsLast o at kind c (messages_at o.keep_going limit at c)
last_there go o limit at c kind l s = last_by go o limit at c kind o.keep_going (is_of_body kind) refl refl l s
