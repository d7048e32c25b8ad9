use Rattle.std.proofs.Common.{◌≡◌, ◌+◌, ◌++◌, ◌∷◌, [], true, false, ap, ◌∙◌, rules}
use Rattle.netlink_packet_core_grammar.specs.Frames.{frame_type}
use Rattle.link_capture_grammar.specs.Bodies.{is_link_type}
use Rattle.link_capture_quirks.specs.declared.walk.Level.{Level}
use Rattle.link_capture_walks.specs.Listings.{whole}
use Rattle.link_capture_quirks.specs.QuirkLists.{quirks_at, list_quirks}
use Rattle.link_capture_quirks.proofs.Entering.{not-entered, entered}
use Rattle.link_capture_quirks.proofs.walk.Walk.enter.Goals as goal

pub returns-then-not-is_link_type-clause-quirks_left : goal.returns-then-not-is_link_type-clause-quirks_left
returns-then-not-is_link_type-clause-quirks_left c =
    let no : is_link_type (frame_type c.args.bytes.now) ≡ false = search rules in c.requires.quirks_left ∙ not-entered c.args.offset c.args.bytes.now no

pub returns-clause-quirks_left : goal.returns-clause-quirks_left
returns-clause-quirks_left c =
    let yes' : is_link_type (frame_type c.args.bytes.now) ≡ true = search rules in
    let l : Level = record { list = c.new-list.result; offset = c.args.offset + 16 + 16; rest = c.following.result } in
    let type' : c.message_type-message_type.result ≡ frame_type c.args.bytes.now = search rules in
    entered c.args.offset c.message_type-message_type.result c.args.bytes.now c.frame_body-body.result.now c.quirk_at-self.result l c.push.new.self.items
    type' c.frame_body-body.ensures yes' (c.push.ensures.items ∙ ap (λ z. z ++ l ∷ []) c.requires.ended)
    (c.quirk_at-self.ensures ∙ ap (quirks_at (c.args.offset + 16 + 1)) c.header_quirk.ensures)
    (ap (λ t. list_quirks t (c.args.offset + 16 + 16) c.following.result.now) c.new-list.ensures ∙ ap (λ t. list_quirks (whole t true) (c.args.offset + 16 + 16) c.following.result.now) c.family_table.ensures ∙ ap (list_quirks _ (c.args.offset + 16 + 16)) c.following.ensures)
