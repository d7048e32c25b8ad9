-- the cut frame, and what comes after it
use Rattle.std.proofs.Common.{◌≡◌, ◌≢◌, ◌+◌, ◌-◌, ◌<◌, ◌≤◌, inl, inr, ◌++◌, Err, length, drop, sym, ap, subst, ◌∙◌}
use Rattle.std.proofs.Common.{arith, rules, length-append, vec_capacity, Ok}
use Rattle.std.specs.Prelude.{⊤}
use Rattle.std.proofs.lemmas.List.{take_rest, take_all}
use Rattle.std.proofs.lemmas.Bool.{eq-eqb}
use Rattle.std.proofs.lemmas.Result.{IfOk-weaker, IfErr-weaker}
use Rattle.link_capture_grammar.specs.declared.fault.FaultKind.TheVariants.{Cut, Memory}
use Rattle.netlink_packet_core_grammar.specs.Attributes.{nla_align}
use Rattle.link_capture_grammar.specs.Captures.{HeaderIsAllowed, first_frame, first_fault}
use Rattle.link_capture_reader.proofs.CutFrames.{completed, whole}
use Rattle.link_capture_reader.proofs.Passing.{passed_one, only_one_fault, only_one_texts, then_reads_to, then_faults}
use Rattle.link_capture_reader.proofs.Passing.{then_runs_out, stop_zero, no_texts, cut_resumes, start_fault}
use Rattle.link_capture_reader.proofs.Passing.{start_texts}
use Rattle.link_capture_reader.specs.Readers.{IsReservedIfCut, IsPendingAfter}
use Rattle.link_capture_reader.specs.Walks.{ReadsTo, OtherFaultIsFirst, MemoryFaultIsAtFrame}
use Rattle.link_capture_grammar.specs.Body.{link_body}
use Rattle.link_capture_reader.proofs.pieces.Pending.resume_frame.Goals as goal

pub returns-in-Err-clause-fault : goal.returns-in-Err-clause-fault
returns-in-Err-clause-fault c = λ _.
    let go = c.captures_unfold_by_frames.ensures in
    let limit = c.args.self.now.limit in
    let old = c.args.self.now.kept.items in
    let bytes = c.args.bytes.now in
    let joined = old ++ bytes in
    let kind = c.in-Err.kind in
    let some : 0 < length joined = omega (arith, length-append old bytes) in
    let refused : first_frame link_body limit joined ≡ Err kind =
    ap (λ x. first_frame link_body limit (x ++ bytes)) (sym c.as_slice.ensures.value) ∙ c.in-Err.ensures.err.1 in (
      c.in-Err.ensures.err.0,
      start_fault go limit c.args.start joined kind some refused,
      start_texts go limit joined c.args.out.now.items kind refused,
    )

pub returns-in_default-complete_frame-clause-memory : goal.returns-in_default-complete_frame-clause-memory
returns-in_default-complete_frame-clause-memory c = λ _.
    let full = c.in_default-complete_frame.ensures.full in
    let limit = c.args.self.now.limit in
    let old = c.args.self.now.kept.items in
    let bytes = c.args.bytes.now in
    let some : 0 < length (old ++ bytes) = omega (arith, length-append old bytes) in
    let header_allowed = subst (λ x. HeaderIsAllowed limit (x ++ bytes)) c.as_slice.ensures.value
    c.in_default.ensures.ok in (
      0,
      omega arith,
      stop_zero limit (old ++ bytes) some header_allowed,
      no_texts limit c.args.out.now.items,
      λ r. elim r [
        | inl k ↦
            let none : c.args.self.now.kept.len ≡ 0 = omega (arith, ap length k, c.args.self.now.kept.ok.0) in
            absurd (cc (eq-eqb c.args.self.now.kept.len 0 none))
        | inr a ↦ absurd (omega (arith, a, full))
      ],
    )

pub returns-then-left-owed-clause-ok : goal.returns-then-left-owed-clause-ok
returns-then-left-owed-clause-ok c =
    let go = c.captures_unfold_by_frames.ensures in
    let limit = c.args.self.now.limit in
    let old = c.args.self.now.kept.items in
    let bytes = c.args.bytes.now in
    let joined = old ++ bytes in
    let moved = c.in-Ok.moved in
    let size = c.in-Ok-push_frame.size in
    let ok = c.in-Ok-push_frame.ensures.ok in
    let fr = ap (first_frame link_body limit) (sym c.as_slice-2.ensures.value) ∙ ok.1 in
    let d = completed c.frames_are_independent.ensures limit old bytes c.complete_frame.new.kept.items moved size ok.0
    c.in-Ok.ensures.moved c.in-Ok.ensures.within c.in-Ok.ensures.exact fr in
    let pad = c.padding-owed.ensures in
    let le : length joined ≤ nla_align size = omega (arith, d.total) in (
      subst (λ f. IsPendingAfter f joined c.clear.new.self.items (c.padding-owed.result - (length bytes - moved)))
          (sym (only_one_fault go limit joined (size, ok.0) d.prefix_is le))
          (c.clear.ensures.items, omega (arith, d.total)),
      ok.2 ∙ ap (λ t. c.args.out.now.items ++ t) (sym (only_one_texts go limit joined (size, ok.0) d.prefix_is le)),
    )

pub returns-else-left-owed : goal.returns-else-left-owed
returns-else-left-owed c =
    let go = c.captures_unfold_by_frames.ensures in
    let limit = c.args.self.now.limit in
    let start = c.args.start in
    let old = c.args.self.now.kept.items in
    let bytes = c.args.bytes.now in
    let joined = old ++ bytes in
    let moved = c.in-Ok.moved in
    let size = c.in-Ok-push_frame.size in
    let ok = c.in-Ok-push_frame.ensures.ok in
    let before = c.args.out.now.items in
    let pushed = c.push_frame.new.out.items in
    let out = c.read_frames-in-Ok-push_frame.new.out.items in
    let kept = c.read_frames-in-Ok-push_frame.new.self.kept.items in
    let owed = c.read_frames-in-Ok-push_frame.new.self.owed in
    let fr = ap (first_frame link_body limit) (sym c.as_slice-2.ensures.value) ∙ ok.1 in
    let d = completed c.frames_are_independent.ensures limit old bytes c.complete_frame.new.kept.items moved size ok.0
    c.in-Ok.ensures.moved c.in-Ok.ensures.within c.in-Ok.ensures.exact fr in
    let pad = c.padding-owed.ensures in
    let w = passed_one go limit joined (size, ok.0) d.prefix_is (omega (arith, d.total)) in
    let left = take_rest bytes (moved + c.padding-owed.result) ∙ ap (λ n. drop (moved + n) bytes) pad ∙ sym d.left in
    let one = go.one_frame_text limit joined (size, ok.0) d.prefix_is in
    let passed = nla_align size in
    record {
      ok = IfOk-weaker c.read_frames-in-Ok-push_frame.result
          (λ _. ReadsTo limit _ pushed out kept owed) (λ _. ReadsTo limit joined before out kept owed)
          (λ _. then_reads_to go limit joined passed _ ok.0 before _ _ _ owed w left one ok.2)
          c.read_frames-in-Ok-push_frame.ensures.ok;
      fault = IfErr-weaker c.read_frames-in-Ok-push_frame.result
          (λ fault. OtherFaultIsFirst limit _ _ pushed out fault) (λ fault. OtherFaultIsFirst limit start joined before out fault)
          (λ fault. then_faults go limit joined passed start _ _ ok.0 before _ _ fault w left (omega arith) one ok.2)
          c.read_frames-in-Ok-push_frame.ensures.fault;
      memory = IfErr-weaker c.read_frames-in-Ok-push_frame.result
          (λ fault. MemoryFaultIsAtFrame ⊤ limit _ _ pushed out fault)
          (λ fault. MemoryFaultIsAtFrame (IsReservedIfCut old (vec_capacity c.args.self.now.kept) (length bytes)) limit start joined before out fault)
          (λ fault. then_runs_out go ⊤ (IsReservedIfCut old (vec_capacity c.args.self.now.kept) (length bytes)) limit joined passed start _ _ ok.0 before _ _ fault (λ r. tt) w left (omega arith) one ok.2)
          c.read_frames-in-Ok-push_frame.ensures.memory;
      capacity = search rules;
      limit = search rules;
      accepted = search rules;
    }

pub returns-in-Cut-clause-ok : goal.returns-in-Cut-clause-ok
returns-in-Cut-clause-ok c =
    let go = c.captures_unfold_by_frames.ensures in
    let limit = c.args.self.now.limit in
    let old = c.args.self.now.kept.items in
    let bytes = c.args.bytes.now in
    let new = c.complete_frame.new.kept.items in
    let cut = c.in-Cut.is in
    let other : c.in-Err-push_frame.kind ≢ Memory = λ e. cc in
    let fr : first_frame link_body limit new ≡ Err Cut =
    ap (first_frame link_body limit) (sym c.as_slice-2.ensures.value) ∙ c.in-Err-push_frame.ensures.refused other
    ∙ ap (λ k. Err k) cut in
    let all : c.in-Ok.moved ≡ length bytes = elim c.in-Ok.ensures.judged [ inl a ↦ a | inr a ↦ absurd (a fr) ] in
    let same : new ≡ old ++ bytes =
    c.in-Ok.ensures.moved ∙ ap (λ x. old ++ x) (take_all c.in-Ok.moved bytes (omega arith)) in
    let some : 0 < length new = omega (arith, ap length same, length-append old bytes) in
    let joined_cut : first_frame link_body limit (old ++ bytes) ≡ Err Cut = ap (first_frame link_body limit) (sym same) ∙ fr in
    rw c.requires.owed (
      subst (λ d. IsPendingAfter (first_fault link_body limit d) d new 0) same (cut_resumes go limit new some fr),
      c.in-Err-push_frame.ensures.err ∙ start_texts go limit (old ++ bytes) c.args.out.now.items Cut joined_cut,
    )

pub returns-in_default-kind : goal.returns-in_default-kind
returns-in_default-kind c =
    let go = c.captures_unfold_by_frames.ensures in
    let limit = c.args.self.now.limit in
    let old = c.args.self.now.kept.items in
    let bytes = c.args.bytes.now in
    let joined = old ++ bytes in
    let out = c.args.out.now.items in
    let new = c.complete_frame.new.kept.items in
    let kind = c.in-Err-push_frame.kind in
    let w = whole old bytes new c.in-Ok.moved c.in-Ok.ensures.moved in
    let some : 0 < length joined = omega (arith, length-append old bytes) in
    let header_allowed = subst (λ x. HeaderIsAllowed limit (x ++ bytes)) c.as_slice.ensures.value
    c.in_default.ensures.ok in
    record {
      ok = tt;
      fault = λ n.
          let fr : first_frame link_body limit new ≡ Err kind =
          ap (first_frame link_body limit) (sym c.as_slice-2.ensures.value) ∙ c.in-Err-push_frame.ensures.refused n in
          let not_cut : first_frame link_body limit new ≢ Err Cut = λ e. c.in_default-kind.not-Cut cc in
          let left = drop c.in-Ok.moved bytes in
          let all : first_frame link_body limit joined ≡ Err kind =
          ap (first_frame link_body limit) w ∙ c.frames_are_independent.ensures.unchanged_by_more limit new left not_cut ∙ fr in (
            c.in_default-kind.not-Cut,
            start_fault go limit c.args.start joined kind some all,
            c.in-Err-push_frame.ensures.err ∙ start_texts go limit joined out kind all,
          );
      memory = λ m.
          let lacks = c.in-Err-push_frame.ensures.memory m in
          let left = drop c.in-Ok.moved bytes in
          let accepted : first_frame link_body limit joined ≡ Ok (lacks.0, lacks.1) =
          ap (first_frame link_body limit) w ∙ c.frames_are_independent.ensures.unchanged_by_more limit new left (λ e. cc)
          ∙ ap (first_frame link_body limit) (sym c.as_slice-2.ensures.value) ∙ lacks.2 in (
            0,
            omega arith,
            stop_zero limit joined some header_allowed,
            c.in-Err-push_frame.ensures.err ∙ no_texts limit out,
            λ _. inl ((lacks.0, lacks.1), accepted),
          );
      capacity = λ k _.
          let none : c.args.self.now.kept.len ≡ 0 = omega (arith, ap length k, c.args.self.now.kept.ok.0) in
          absurd (cc (eq-eqb c.args.self.now.kept.len 0 none));
      limit = search rules;
      accepted = search rules;
    }
