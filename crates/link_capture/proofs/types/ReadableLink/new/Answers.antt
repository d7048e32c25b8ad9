use Rattle.link_capture.proofs.Exact.{excluded}
use Rattle.link_capture.proofs.types.ReadableLink.new.Goals as goal

pub returns-in-Err-clause-unreadable : goal.returns-in-Err-clause-unreadable
returns-in-Err-clause-unreadable c =
    λ w h. excluded c.equal_texts_mean_equal_messages.ensures c.args.message (c.in-Err.ensures.otherwise w) h
