-- What the laws of the grammar say about texts and lines.
use Rattle.linkcap_c.proofs.writing.text_is_normal.Goals as goal

pub returns-clause-text : goal.returns-clause-text
returns-clause-text c =
    let limit = c.args.limit in
    let b = c.args.capture.now in
    let within = c.ranges.limit.fits in
    record {
      legal = c.texts_are_legal.ensures limit b within;
      canonical = c.texts_are_canonical.ensures limit b within;
      same = λ h. c.texts_mean_the_same.ensures limit b within h;
      small = c.texts_are_small.ensures limit b;
      joined = λ h m rest. (
        c.joined_captures_are_legal.ensures limit b rest h m,
        c.joined_captures_have_joined_texts.ensures limit b rest h m,
      );
    }

pub returns-clause-meaning : goal.returns-clause-meaning
returns-clause-meaning c = λ choice. c.lines_depend_on_meaning.ensures choice c.args.limit c.args.capture.now c.ranges.limit.fits
