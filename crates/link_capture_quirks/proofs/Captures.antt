-- The texts of a capture have no quirk: proved frame by frame.
use Rattle.std.proofs.Common.{◌≡◌, ℕ, ◌+◌, Bool, true, false, cond, List, [], ◌++◌, drop, Ok, refl, sym, ap, ◌∙◌, arith}
use Rattle.netlink_packet_core_grammar.specs.Attributes.{nla_align}
use Rattle.netlink_packet_core_grammar.specs.Frames.{frame_type, frame_body, frame_text}
use Rattle.netlink_packet_core_grammar.proofs.Attributes.{first_attribute_text}
use Rattle.netlink_packet_core_grammar.proofs.Together.{first_is_within}
use Rattle.attribute_tables_grammar.specs.Rules.{IsMigratedBy}
use Rattle.attribute_tables_grammar.proofs.Attributes.{migrates_reflexive}
use Rattle.link_message_grammar.specs.Body.{link_body, link_peer}
use Rattle.link_message_grammar.proofs.Body.{body_lawful, link_peer_lawful}
use Rattle.link_capture_grammar.specs.Bodies.{is_link_type, body_text}
use Rattle.link_capture_grammar.specs.Captures.{first_frame, texts}
use Rattle.link_capture_grammar.specs.Laws.{IsLimit}
use Rattle.link_capture_grammar.proofs.Frames as Frames
use Rattle.link_capture_grammar.proofs.Frames.{accepted}
use Rattle.link_capture_grammar.proofs.Normal.{ruled, texted, text_type, text_body, first_frame_migrated}
use Rattle.link_capture_grammar.proofs.SameFrames.{link_ruled}
use Rattle.link_capture_quirks.specs.QuirkLaws.{ListsUnfoldByAttributes, QuirksUnfoldByFrames, WrittenAttributesHaveNone}
use Rattle.link_capture_quirks.specs.CaptureQuirks.{frame_quirks, link_quirks, quirks_from}
use Rattle.link_capture_quirks.proofs.Canonical.{written}
use Rattle.link_capture_quirks.proofs.CaptureSteps as Steps
use Rattle.link_capture_quirks.specs.QuirkLists.{list_quirks, quirk_walk}
use Rattle.link_capture_walks.proofs.Steps.{unfolds_by_attributes}
use Rattle.link_capture_quirks.specs.TextLaws.{TextsHaveNoQuirk}
use Rattle.link_capture_quirks.proofs.Bodies.{body-none}

-- ---- the laws of the crates below

pub by_lists : ListsUnfoldByAttributes
unfolding list_quirks
by_lists = unfolds_by_attributes quirk_walk first_is_within (λ l bytes. omega arith)

by_frames : QuirksUnfoldByFrames
by_frames = Steps.steps

pub attributes : WrittenAttributesHaveNone
attributes = written by_lists first_attribute_text

migrates : IsMigratedBy link_body link_body
migrates = migrates_reflexive link_body (body_lawful link_peer link_peer_lawful)

-- ---- frames

frame-none : (limit : ℕ) (c : List ℕ) (frame : ℕ × List ℕ) (more : List ℕ) → IsLimit limit → first_frame link_body limit c ≡ Ok frame → (offset : ℕ) → frame_quirks offset (frame.1 ++ more) ≡ []
unfolding frame_quirks
frame-none limit c frame more l h offset =
    let t = texted link_body limit c frame h in
    let a = accepted link_body limit c frame h in
    let x = frame_text c t.body ++ more in
    ap (λ (y : List ℕ). frame_quirks offset (y ++ more)) t.text_is
    ∙ ap (λ k. cond (is_link_type k) (link_quirks (offset + 16) k (frame_body x)) []) (text_type c t.body more a.header)
    ∙ ap (λ b. cond (is_link_type (frame_type c)) (link_quirks (offset + 16) (frame_type c) b) []) (text_body c t.body more a.header (omega (arith, t.fits, l)))
    ∙ by (is_link_type (frame_type c)) refl t.body t.body_is
  where
    by : (k : Bool) → is_link_type (frame_type c) ≡ k → (body : List ℕ) → body_text link_body (frame_type c) (frame_body c) ≡ Ok body → cond k (link_quirks (offset + 16) (frame_type c) body) [] ≡ []
    by true k body h =
        let r = ruled link_body (frame_body c) body (link_ruled link_body (frame_type c) (frame_body c) body k h) in
        ap (link_quirks (offset + 16) (frame_type c)) (sym r.is) ∙ body-none by_lists attributes (offset + 16) (frame_type c) (frame_body c) r.accepted
    by false k body h = refl

texts-none : (limit : ℕ) (c : List ℕ) → IsLimit limit → (offset : ℕ) → quirks_from limit offset (texts link_body limit c) ≡ []
texts-none limit c l =
    Frames.by_frames link_body limit (λ c. (offset : ℕ) → quirks_from limit offset (texts link_body limit c) ≡ [])
    (λ c frame h more offset.
    let rest = texts link_body limit (drop (nla_align frame.0) c) in
    let f = first_frame_migrated link_body link_body migrates limit c frame frame rest l h h in
    let following = offset + nla_align f.0 in
    ap (quirks_from limit offset) (Frames.texts_step link_body limit c frame h)
    ∙ by_frames.next limit offset (frame.1 ++ rest) (f.0, frame.1) f.1
    ∙ ap (λ z. z ++ quirks_from limit following (drop (nla_align f.0) (frame.1 ++ rest))) (frame-none limit c frame rest l h offset)
    ∙ ap (quirks_from limit following) f.2
    ∙ more following)
    (λ c kind h offset. ap (quirks_from limit offset) (Frames.texts_stop link_body limit c kind h) ∙ by_frames.none limit offset) c

pub texts_have_no_quirk : TextsHaveNoQuirk
texts_have_no_quirk limit c l = texts-none limit c l 0
