use Rattle.std.proofs.Common.{◌≡◌, false, sym, ap, ◌∙◌, inl, inr}
use Rattle.link_message_grammar.specs.Body.{link_body}
use Rattle.link_capture.specs.Readable.{is_read_back_as}
use Rattle.link_capture.proofs.ReadBack.{read_from, readable_read_back}
use Rattle.link_capture.proofs.readable.reads_back.Goals as goal

pub returns-then-not-branch-clause-otherwise : goal.returns-then-not-branch-clause-otherwise
returns-then-not-branch-clause-otherwise c =
    let k = c.in-Ok.ensures in
    let e = c.as_slice.ensures.value ∙ c.in_ok-text.ensures.ok in
    let r = read_from _ _ c.in-Ok.read_back e k.ok k.family k.text k.is_row_variant k.fits in
    let same : is_read_back_as c.args.message.now c.in-Ok.read_back ≡ false = sym c.in_ok-is_read_back_as.ensures.ok ∙ c.if-not-branch.true in
    λ _. inr (inr (c.in-Ok.read_back, r, same))

pub returns-then-has_empty_ports-clause-otherwise : goal.returns-then-has_empty_ports-clause-otherwise
returns-then-has_empty_ports-clause-otherwise c =
    let k = c.in-Ok.ensures in
    let e = c.as_slice.ensures.value ∙ c.in_ok-text.ensures.ok in
    λ _. inr (inl (sym (k.empty_ports ∙ ap link_body.empty_ports e) ∙ sym c.has_empty_ports.ensures ∙ c.if-has_empty_ports.true))

pub returns-clause-ok : goal.returns-clause-ok
returns-clause-ok c =
    let k = c.in-Ok.ensures in
    let e = c.as_slice.ensures.value ∙ c.in_ok-text.ensures.ok in
    let r = read_from _ _ c.in-Ok.read_back e k.ok k.family k.text k.is_row_variant k.fits in
    readable_read_back c.args.message.now c.in-Ok.read_back (sym c.if-not-fits.ensures) r (sym (k.empty_ports ∙ ap link_body.empty_ports e) ∙ sym c.has_empty_ports.ensures ∙ c.if-has_empty_ports.false) (k.fits ∙ ap link_body.fits e) (sym c.in_ok-is_read_back_as.ensures.ok ∙ c.if-not-branch.false)
