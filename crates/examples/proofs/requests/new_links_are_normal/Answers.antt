use Rattle.examples.proofs.RequestFrames.{message_aligned, normal}
use Rattle.examples.proofs.requests.new_links_are_normal.Goals as goal

pub returns-clause-normal : goal.returns-clause-normal
returns-clause-normal c = normal c.frames_are_judged.ensures c.captures_are_counted.ensures

pub returns-clause-aligned : goal.returns-clause-aligned
returns-clause-aligned c = message_aligned c.headers_are_sixteen_bytes.ensures c.encodings_are_split.ensures
