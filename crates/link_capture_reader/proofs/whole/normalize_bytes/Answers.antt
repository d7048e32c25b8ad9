-- what the laws of the grammar say about the texts
use Rattle.link_capture_reader.proofs.whole.normalize_bytes.Goals as goal

pub returns-clause-text : goal.returns-clause-text
returns-clause-text c =
    let limit = c.args.limit in
    let b = c.args.bytes.now in
    let within = c.ranges.limit.fits in
    record {
      legal = c.texts_are_legal.ensures limit b within;
      canonical = c.texts_are_canonical.ensures limit b within;
      same = λ h. c.texts_mean_the_same.ensures limit b within h;
      small = c.texts_are_small.ensures limit b;
      joined = λ h m rest. (
        c.joined_captures_are_legal.ensures limit b rest h m,
        c.joined_captures_have_joined_texts.ensures limit b rest h m,
      );
    }
