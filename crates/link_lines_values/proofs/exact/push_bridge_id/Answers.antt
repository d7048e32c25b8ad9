use Rattle.std.proofs.Common.{◌≡◌, ◌∷◌, ◌++◌, length, take, drop, ap, ◌∙◌, refl, rules}
use Rattle.std.proofs.lemmas.List.{take_rest}
use Rattle.link_lines_values.specs.Bytes.{hex_text}
use Rattle.link_lines_values.specs.Exact.{bridge_id_text}
use Rattle.link_lines_values.proofs.Appending.{added, as_text, last, start, step}
use Rattle.link_lines_values.proofs.exact.push_bridge_id.Goals as goal

pub returns : goal.returns
returns c =
    let p = c.args.payload.now in
    let size : length p ≡ 8 = search rules in
    let whole : 32 ∷ (hex_text (take 2 p) ++ 46 ∷ hex_text (drop 2 p)) ≡ bridge_id_text p = rw size refl in
    let text = ap (λ z. 32 ∷ (hex_text (take 2 p) ++ 46 ∷ hex_text z)) (take_rest p 2) ∙ whole in
    let e = c.in_ok-push.ensures in
    let first = added c.push.new.self _ _ (start c.args.out.now _) e.items e.capacity refl in
    let second = step _ first c.in_ok-push_hex_text.ensures refl in
    let f = (c.in_ok-push-2).ensures in
    let third = added c.push-2.new.self _ _ second f.items f.capacity refl in
    as_text text (last c.push_hex_text-2.result third c.push_hex_text-2.ensures)
