-- What was opened.
use Rattle.std.proofs.Common.{◌≡◌, List, [], ◌∷◌, Option, None, Some, refl, ap, append_assoc}
use Rattle.link_capture_reader.specs.Files.{Opening, then_opened}

-- two openings, one after the other
pub twice : {File : Type 0} (before : Option (List (Opening File))) (a b : Opening File) → then_opened (then_opened before (a ∷ [])) (b ∷ []) ≡ then_opened before (a ∷ b ∷ [])
twice None a b = refl
twice (Some all) a b = ap Some (append_assoc all (a ∷ []) (b ∷ []))
