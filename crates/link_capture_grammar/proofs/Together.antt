-- The laws that need more than one lemma.
use Rattle.std.proofs.Common.{◌≡◌, ℕ, ◌%◌, Some, None, Err, List, ◌++◌, take, drop, refl, sym, ap, subst, ◌∙◌, length, inl, inr}
use Rattle.attribute_tables_grammar.specs.Rules.{Rule, Lawful, IsMigratedBy}
use Rattle.attribute_tables_grammar.proofs.Attributes.{migrates_reflexive}
use Rattle.link_capture_grammar.specs.declared.fault.CaptureFault.{CaptureFault}
use Rattle.link_capture_grammar.specs.Captures.{shifted, first_frame, first_fault, texts, IsLegal}
use Rattle.link_capture_grammar.specs.Laws.{TextsAreLegal, TextsAreCanonical, TextsAreMigrated, JoinedLegal, PrefixTexts, TextsAreSmall, FaultsAreAtFrames, BodyTextsAreCanonical, FramesAreIndependent, CapturesUnfoldByFrames}
use Rattle.link_capture_grammar.proofs.Frames.{accepted, cut_cases, first_frame-more, one_fault, one_frame_text, fault_stop, texts_stop, stops, offset_fits, base_legal, base_texts, offset_legal, reach_offset, joined_fault, fault-append, texts-append, fault_inside, fault_kinds}
use Rattle.link_capture_grammar.proofs.Normal.{body_migrated, texts_idempotent}
use Rattle.link_capture_grammar.proofs.Same.{not_shifted}
use Rattle.link_capture_grammar.proofs.Small.{texts_small}

module _ (r : Rule) where
  pub joined_legal : JoinedLegal r
  joined_legal limit a b h m =
      let j = joined_fault r limit a b h m in (
        λ l. not_shifted (length a) (first_fault r limit b) (sym j ∙ l),
        λ l. j ∙ ap (shifted (length a)) l,
      )

  pub prefix_texts : PrefixTexts r
  prefix_texts limit a b = (_, texts-append r limit a b)

  pub faults_are_inside : FaultsAreAtFrames r
  faults_are_inside limit c fault h =
      let i = fault_inside r limit c fault h in
      (i.0, i.1, fault_kinds r limit c fault h)

  pub frames_are_independent : FramesAreIndependent r
  frames_are_independent = record { accepted = accepted r; cut = cut_cases r; unchanged_by_more = first_frame-more r }

  -- the frame at the first fault
  there : (limit : ℕ) (c : List ℕ) (fault : CaptureFault) → first_fault r limit c ≡ Some fault → first_frame r limit (drop fault.offset c) ≡ Err fault.kind
  there limit c fault h =
      elim (stops r limit c) [
        | inl w ↦ (let f = w.fault_is in absurd cc)
        | inr w ↦ (let e = sym w.1.fault_is ∙ h in subst (λ o. elim o as (λ _. Type 0) [ Some x ↦ first_frame r limit (drop x.offset c) ≡ Err x.kind | None ↦ ⊥ ]) e w.1.first_frame_is)
      ]

  pub captures_unfold_by_frames : CapturesUnfoldByFrames r
  captures_unfold_by_frames = record {
    one_legal = one_fault r;
    one_frame_text = one_frame_text r;
    first_frame_fault = fault_stop r;
    first_frame_texts = texts_stop r;
    fault_there = there;
    reach_start = λ limit c. subst (λ n. n % 4 ≡ 0) (reach_offset r limit c) (offset_fits r limit c).0;
    reach_legal = λ limit c more. subst (λ n. IsLegal r limit (take n (c ++ more))) (reach_offset r limit c) (base_legal r limit c more);
    reach_texts = λ limit c more. subst (λ n. texts r limit (take n (c ++ more)) ≡ texts r limit c) (reach_offset r limit c) (base_texts r limit c more);
    rest_fault = λ limit c more. subst (λ n. first_fault r limit (c ++ more) ≡ shifted n (first_fault r limit (drop n (c ++ more)))) (reach_offset r limit c) (fault-append r limit c more);
    rest_texts = λ limit c more. subst (λ n. texts r limit (c ++ more) ≡ texts r limit c ++ texts r limit (drop n (c ++ more))) (reach_offset r limit c) (texts-append r limit c more);
  }

-- texts that were written under r, under a rule s that migrates it
pub texts_are_migrated : (r s : Rule) → IsMigratedBy r s → TextsAreMigrated r s
texts_are_migrated r s migrates limit c l h k = texts_idempotent r s migrates limit c l (offset_legal r limit c h ∙ sym (offset_legal s limit c k))

module _ (r : Rule) (lawful : Lawful r) where
  pub texts_are_legal : TextsAreLegal r
  texts_are_legal limit c l = (texts_idempotent r r (migrates_reflexive r lawful) limit c l refl).0

  pub texts_are_canonical : TextsAreCanonical r
  texts_are_canonical limit c l = (texts_idempotent r r (migrates_reflexive r lawful) limit c l refl).1

  pub body_texts_are_canonical : BodyTextsAreCanonical r
  body_texts_are_canonical t b text h = body_migrated r r (migrates_reflexive r lawful) t b text text h h

  pub texts_are_small : TextsAreSmall r
  texts_are_small = texts_small r lawful
