use Rattle.std.proofs.Common.{◌≡◌, ◌∷◌, ◌++◌, take, drop, ap, ◌∙◌, refl}
use Rattle.std.proofs.lemmas.List.{drop_min, take_min}
use Rattle.link_lines_values.specs.Exact.{label_value, labels_text, more_labels_text}
use Rattle.link_lines_values.proofs.Appending.{added, as_text, last, start, step}
use Rattle.link_lines_values.proofs.exact.push_labels.Goals as goal

pub returns : goal.returns
returns c =
    let p = c.args.payload.now in
    let size = c.min.ensures in
    let front : c.split_at.result.0.now ≡ take 4 p = c.split_at.ensures.front ∙ ap (λ n. take n p) size ∙ take_min 4 p in
    let back : c.split_at.result.1.now ≡ drop 4 p = c.split_at.ensures.back ∙ ap (λ n. drop n p) size ∙ drop_min 4 p in
    let text : 32 ∷ (label_value c.split_at.result.0.now ++ more_labels_text c.split_at.result.1.now) ≡ labels_text p = λ t. 32 ∷ (label_value (front t) ++ more_labels_text (back t)) in
    let e = c.in_ok-push.ensures in
    let first = added c.push.new.self _ _ (start c.args.out.now _) e.items e.capacity refl in
    let second = step _ first c.in_ok-push_label_value.ensures refl in
    as_text text (last c.push_more_labels.result second c.push_more_labels.ensures)
