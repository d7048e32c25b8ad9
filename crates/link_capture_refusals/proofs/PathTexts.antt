-- Names of a path, one after another.
use Rattle.std.proofs.Common.{◌≡◌, ◌<◌, ◌≤◌, ◌-◌, ℕ, List, [], ◌∷◌, ◌++◌, length, map, take, drop, get_or, Bor, sym, ap, ◌∙◌, append_assoc, append-nil, arith}
use Rattle.std.proofs.lemmas.List.{take_rest}
use Rattle.link_capture_refusals.specs.RefusalTexts.{separator_after_name, path_text}

abbrev texts : List (Bor (List ℕ)) → List (List ℕ)
texts ns = map (λ n. n.now) ns

pub cut : (left : List (Bor (List ℕ))) (d : Bor (List ℕ)) → 1 ≤ length left →
    path_text (texts left) ≡ (get_or left 0 d).now ++ (separator_after_name (texts (take (length left - 1) (drop 1 left))) ++ path_text (texts (take (length left - 1) (drop 1 left))))
cut [] d m = absurd (omega arith)
cut (x ∷ more) d m = ap (λ t. x.now ++ (separator_after_name (texts t) ++ path_text (texts t))) (sym (take_rest (x ∷ more) 1))

-- one more name is written
pub more : (done sign whole : List ℕ) (left : List (Bor (List ℕ))) (d : Bor (List ℕ)) → 1 ≤ length left → sign ≡ separator_after_name (texts (take (length left - 1) (drop 1 left))) → done ++ path_text (texts left) ≡ whole →
    (done ++ ((get_or left 0 d).now ++ sign)) ++ path_text (texts (take (length left - 1) (drop 1 left))) ≡ whole
more done sign whole left d m s h =
    let rest = path_text (texts (take (length left - 1) (drop 1 left))) in
    append_assoc done ((get_or left 0 d).now ++ sign) rest ∙ ap (λ z. done ++ z) (append_assoc (get_or left 0 d).now sign rest)
    ∙ ap (λ z. done ++ ((get_or left 0 d).now ++ (z ++ rest))) s ∙ ap (λ z. done ++ z) (sym (cut left d m)) ∙ h

-- no name is left
pub ended : (done whole : List ℕ) (left : List (Bor (List ℕ))) → length left < 1 → done ++ path_text (texts left) ≡ whole → done ≡ whole
ended done whole [] m h = sym (append-nil done) ∙ h
ended done whole (x ∷ left) m h = absurd (omega (arith, m))
