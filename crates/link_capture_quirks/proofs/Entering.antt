-- A walk begins a frame, and the capture continues after that frame.
use Rattle.std.proofs.Common.{◌≡◌, ℕ, ◌+◌, true, false, cond, List, [], ◌∷◌, ◌++◌, drop, Option, None, Ok, sym, ap, ◌∙◌}
use Rattle.std.proofs.lemmas.List.{drop-drop}
use Rattle.netlink_packet_core_grammar.specs.Attributes.{nla_align}
use Rattle.netlink_packet_core_grammar.specs.Frames.{frame_type, frame_body}
use Rattle.link_capture_grammar.specs.Bodies.{is_link_type}
use Rattle.link_capture_grammar.specs.Captures.{first_frame}
use Rattle.link_capture_quirks.specs.declared.quirk_at.QuirkAt.{QuirkAt}
use Rattle.link_capture_quirks.specs.declared.walk.Level.{Level}
use Rattle.link_capture_quirks.specs.QuirkRows.{header_quirk}
use Rattle.link_capture_quirks.specs.QuirkLists.{quirks_at, list_quirks}
use Rattle.link_capture_quirks.specs.CaptureQuirks.{body_list, link_quirks, frame_quirks, quirks_from}
use Rattle.link_capture_quirks.specs.QuirkWalks.{optional_quirk, level_quirks, walk_quirks, rest_quirks}
use Rattle.link_capture_quirks.specs.QuirkLaws.{QuirksUnfoldByFrames}
use Rattle.link_message_grammar.specs.Body.{link_body}

pub not-entered : (offset : ℕ) (c : List ℕ) → is_link_type (frame_type c) ≡ false → [] ≡ frame_quirks offset c
unfolding frame_quirks
not-entered offset c h = ap (λ b. cond b (link_quirks (offset + 16) (frame_type c) (frame_body c)) []) (sym h)

pub entered : (offset t : ℕ) (c b : List ℕ) (first : Option QuirkAt) (l : Level) (ls : List Level) → t ≡ frame_type c → b ≡ frame_body c → is_link_type (frame_type c) ≡ true → ls ≡ l ∷ [] → optional_quirk first ≡ quirks_at (offset + 16 + 1) (header_quirk t b) →
    level_quirks l ≡ list_quirks (body_list b) (offset + 16 + 16) (drop 16 b) → walk_quirks first None ls ≡ frame_quirks offset c
unfolding frame_quirks link_quirks
entered offset t c b first l ls e f link inside_frame header list =
    ap (walk_quirks first None) inside_frame
    ∙ ap (λ z. z ++ level_quirks l) header
    ∙ ap (λ z. quirks_at (offset + 16 + 1) (header_quirk t b) ++ z) list
    ∙ ap (λ n. link_quirks (offset + 16) n b) e
    ∙ ap (link_quirks (offset + 16) (frame_type c)) f
    ∙ ap (λ y. cond y (link_quirks (offset + 16) (frame_type c) (frame_body c)) []) (sym link)

-- after a frame
pub quirks-after-frame : QuirksUnfoldByFrames → (limit at n : ℕ) (c text : List ℕ) → first_frame link_body limit (drop at c) ≡ Ok (n, text) → rest_quirks limit c at ≡ frame_quirks at (drop at c) ++ rest_quirks limit c (at + nla_align n)
quirks-after-frame s limit at n c text h = s.next limit at (drop at c) (n, text) h ∙ ap (λ z. frame_quirks at (drop at c) ++ quirks_from limit (at + nla_align n) z) (drop-drop (nla_align n) at c)
