-- A capture has a refusal if and only if its first fault is a refused body.
use Rattle.std.proofs.Common.{◌≡◌, ℕ, ◌+◌, ◌-◌, ◌<◌, Bool, true, false, cond, List, drop, take, length, Option, Some, None, Ok, Err, Result, refl, sym, ap, subst, ◌∙◌, arith}
use Rattle.std.specs.Prelude.{min, IsSome, is_none, nat_eq, nat_le, nat_lt}
use Rattle.std.proofs.lemmas.Bool.{and_parts, cond_both, leb-true, ne_eqb}
use Rattle.std.proofs.lemmas.List.{length-take}
use Rattle.netlink_packet_core_grammar.specs.Frames.{BeginsWithFrame, frame_body, frame_length, frame_type}
use Rattle.netlink_packet_core_grammar.specs.Laws.{FirstIsWithin}
use Rattle.attribute_tables_grammar.specs.Rules.{Rule}
use Rattle.link_message_grammar.specs.Body.{link_body}
use Rattle.link_capture_grammar.specs.Bodies.{body_text, is_link_type}
use Rattle.link_capture_grammar.specs.Captures.{first_fault, first_frame, judged_text}
use Rattle.link_capture_grammar.specs.Laws.{CapturesUnfoldByFrames}
use Rattle.link_capture_grammar.proofs.Frames.{checked_header_by}
use Rattle.link_capture_grammar.proofs.SameFrames.{no, yes}
use Rattle.link_capture_grammar.specs.declared.fault.CaptureFault.{CaptureFault}
use Rattle.link_capture_grammar.specs.declared.fault.FaultKind.{FaultKind}
use Rattle.link_capture_grammar.specs.declared.fault.FaultKind.TheVariants.{Refused, TextOverLimit}
use Rattle.link_capture_refusals.specs.RefusalLaws.{IsBetween, LinksAreAccepted, ListsUnfoldByAttributes, RefusedBodiesHaveRefusals, RefusedFramesAreWhole, IsInFrame}
use Rattle.link_capture_refusals.specs.Refusals.{Found, code_refusal, fault_refusal, frame_refusal, link_refusal, list_refusal, refusal, first_fault_refusal}
use Rattle.link_capture_refusals.proofs.Offsets.{IsPlacedBetween, link_between}
use Rattle.link_capture_grammar.specs.declared.fault.FaultKind.TheVariants.{EmptyPorts, Unfit}

-- ---- a refused frame

record RefusedFrame (c : List ℕ) : Type 0 where
  frame : BeginsWithFrame c
  body : body_text link_body (frame_type c) (frame_body c) ≡ Err Refused

judged_refused : (limit : ℕ) (c : List ℕ) (o : Result (List ℕ) FaultKind) → judged_text limit c o ≡ Err Refused → o ≡ Err Refused
judged_refused limit c (Ok text) h = cond_both (nat_lt limit (16 + length text)) (Err TextOverLimit) (Ok _) (λ j. j ≡ Err Refused → Ok text ≡ Err Refused) (λ _ e. absurd cc) (λ _ e. absurd cc) h
judged_refused limit c (Err Refused) h = refl
judged_refused limit c (Err r) h = absurd cc

frame_refused : (limit : ℕ) (c : List ℕ) → first_frame link_body limit c ≡ Err Refused → RefusedFrame c
unfolding first_frame
frame_refused limit c h =
    checked_header_by limit (length c) (frame_length c) (judged_text limit c (body_text link_body (frame_type c) (frame_body c))) (λ j. j ≡ Err Refused → RefusedFrame c)
    (λ _ e. absurd cc) (λ _ e. absurd cc) (λ _ e. absurd cc) (λ _ _ _ _ e. absurd cc)
    (λ header covers _ whole e. record {
      frame = record { has_header = header; covers_header = covers; within = whole };
      body = judged_refused limit c (body_text link_body (frame_type c) (frame_body c)) e;
    }) h

pub frames : CapturesUnfoldByFrames link_body → RefusedFramesAreWhole
frames law limit offset c h = (frame_refused limit (drop offset c) (law.fault_there limit c (record { kind = Refused; offset = offset }) h)).frame

-- ---- the body of a link

ruled_refused : (r : Rule) (b : List ℕ) (a e f : Bool) → r.accepted b ≡ a → cond a (cond e (Err EmptyPorts) (cond f (Ok (r.canonical b)) (Err Unfit))) (Err Refused) ≡ Err Refused → r.accepted b ≡ false
ruled_refused r b false e f i h = i
ruled_refused r b true true f i h = absurd cc
ruled_refused r b true false true i h = absurd cc
ruled_refused r b true false false i h = absurd cc

link_refused : (t : ℕ) (b : List ℕ) → is_link_type t ≡ true → body_text link_body t b ≡ Err Refused → link_body.accepted b ≡ false
unfolding body_text
link_refused t b l h =
    let low = leb-true 16 t (and_parts (nat_le 16 t) (nat_le t 19) l).0 in
    let other : (k : ℕ) → k < 16 → t ≡ k → ⊥ = λ k m e. absurd (omega (arith, e, low, m)) in
    ruled_refused link_body b (link_body.accepted b) (link_body.empty_ports b) (link_body.fits b) refl
    (yes (is_link_type t) _ _ _ l
    (no (nat_eq t 3) _ _ _ (ne_eqb t 3 (other 3 (omega arith)))
    (no (nat_eq t 2) _ _ _ (ne_eqb t 2 (other 2 (omega arith)))
    (no (nat_eq t 1) _ _ _ (ne_eqb t 1 (other 1 (omega arith))) h))))

-- ---- a refused body has a refusal

some_of : (o : Option Found) → is_none o ≡ false → IsSome o
some_of None h = absurd cc
some_of (Some f) h = refl

module _ (law : CapturesUnfoldByFrames link_body) (lists : ListsUnfoldByAttributes) (w : FirstIsWithin) (links : LinksAreAccepted) where
  refused_frame_has_refusal : (offset : ℕ) (c : List ℕ) (l : Bool) → is_link_type (frame_type c) ≡ l → body_text link_body (frame_type c) (frame_body c) ≡ Err Refused →
      IsSome (cond l (link_refusal list_refusal true (offset + 16) (offset + 16) (frame_body c)) (Some (code_refusal (frame_body c))))
  refused_frame_has_refusal offset c true l h =
      some_of (link_refusal list_refusal true (offset + 16) (offset + 16) (frame_body c)) (sym (links true (offset + 16) (offset + 16) (frame_body c)) ∙ link_refused (frame_type c) (frame_body c) l h)
  refused_frame_has_refusal offset c false l h = refl

  has_refusal : (limit offset : ℕ) (c : List ℕ) → first_fault link_body limit c ≡ Some (record { kind = Refused; offset = offset }) → IsSome (refusal limit c)
  unfolding frame_refusal
  has_refusal limit offset c h =
      let r = frame_refused limit (drop offset c) (law.fault_there limit c (record { kind = Refused; offset = offset }) h) in
      subst (λ o. IsSome (first_fault_refusal c o)) (sym h) (refused_frame_has_refusal offset (drop offset c) (is_link_type (frame_type (drop offset c))) refl r.body)

  -- ---- the offset of a refusal

  in_frame : (offset : ℕ) (c : List ℕ) (f : Found) (l : Bool) → BeginsWithFrame c → is_link_type (frame_type c) ≡ l →
      cond l (link_refusal list_refusal true (offset + 16) (offset + 16) (frame_body c)) (Some (code_refusal (frame_body c))) ≡ Some f → cond l (IsBetween offset (offset + frame_length c) f.offset) (f.offset ≡ None)
  in_frame offset c f true i e h =
      let b = frame_body c in
      let s = length-take (frame_length c - 16) (drop 16 c) in
      let p : IsPlacedBetween (offset + 16) (offset + 16 + length b) (Some f) = subst (IsPlacedBetween (offset + 16) (offset + 16 + length b)) h (link_between lists w true (offset + 16) b) in
      by_offset f.offset s p
    where
      by_offset : (o : Option ℕ) → length (take (frame_length c - 16) (drop 16 c)) ≡ min (frame_length c - 16) (length (drop 16 c)) → IsBetween (offset + 16) (offset + 16 + length (frame_body c)) o → IsBetween offset (offset + frame_length c) o
      by_offset None s p = p
      by_offset (Some x) s p = let covers = i.covers_header in (omega (arith, p.0), omega (arith, p.1, s, covers))
  in_frame offset c f false i e h = let same : code_refusal (frame_body c) ≡ f = cc in sym (ap (λ (x : Found). x.offset) same)

  by_kind : (limit offset : ℕ) (c : List ℕ) (f : Found) (kind : FaultKind) → first_fault link_body limit c ≡ Some (record { kind = kind; offset = offset }) → fault_refusal c offset kind ≡ Some f →
      (at : ℕ) × (first_fault link_body limit c ≡ Some (record { kind = Refused; offset = at })) × IsInFrame at (drop at c) f
  unfolding frame_refusal
  by_kind limit offset c f Refused h e =
      let r = frame_refused limit (drop offset c) (law.fault_there limit c (record { kind = Refused; offset = offset }) h) in
      (offset, h, in_frame offset (drop offset c) f (is_link_type (frame_type (drop offset c))) r.frame refl e)
  by_kind limit offset c f kind h e = absurd cc

  by_fault : (limit : ℕ) (c : List ℕ) (f : Found) (o : Option CaptureFault) → first_fault link_body limit c ≡ o → first_fault_refusal c o ≡ Some f →
      (at : ℕ) × (first_fault link_body limit c ≡ Some (record { kind = Refused; offset = at })) × IsInFrame at (drop at c) f
  by_fault limit c f None h e = absurd cc
  by_fault limit c f (Some fault) h e = by_kind limit fault.offset c f fault.kind h e

  pub refused_body_has_refusal : RefusedBodiesHaveRefusals
  refused_body_has_refusal = record { refused_body_has_refusal = has_refusal; offset_in_frame = λ limit c f e. by_fault limit c f (first_fault link_body limit c) refl e }
