use Rattle.std.proofs.Common.{sym, ◌∙◌}
use Rattle.link_capture_walks.specs.Listings.{listing}
use Rattle.link_capture_lists.proofs.Lookups.{info_rest}
use Rattle.link_capture_lists.proofs.tables.next_list.Goals as goal

pub returns : goal.returns
returns c =
    let l = listing c.args.list in
    c.after_info.ensures
    ∙ info_rest l (record { kind = c.args.kind; payload = c.args.payload.now }) (sym c.is_link_info.ensures ∙ c.if-not-is_link_info.false) (sym (c.is_kept.ensures c.args.payload.now) ∙ c.if-not-is_kept.false)
