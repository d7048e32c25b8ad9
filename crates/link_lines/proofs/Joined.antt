-- Empty bytes have no lines.
use Rattle.std.proofs.Common.{◌≡◌, ℕ, List, [], ◌∷◌, ◌++◌, length, refl, sym, ap, ◌∙◌, arith, length-append}
use Rattle.link_message_grammar.specs.Body.{link_body}
use Rattle.link_capture_grammar.proofs.Frames.{texts_nil}
use Rattle.link_lines_texts.specs.Captures.{Choice, text_lines}
use Rattle.link_lines_texts.specs.Laws.{LinesAreJoined}

nothing_twice : (x : List ℕ) → x ≡ x ++ x → x ≡ []
nothing_twice [] e = refl
nothing_twice (a ∷ x) e = absurd (omega (arith, ap length e, length-append (a ∷ x) (a ∷ x)))

pub no_lines : (ch : Choice) → LinesAreJoined → text_lines ch [] ≡ []
no_lines ch joined =
    let z = texts_nil link_body 0 in
    let h = joined ch 0 [] [] (omega arith) in
    nothing_twice (text_lines ch []) (ap (λ x. text_lines ch (x ++ [])) (sym z) ∙ h ∙ ap (λ x. text_lines ch x ++ text_lines ch []) z)
