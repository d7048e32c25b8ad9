use Rattle.std.proofs.Common.{◌≡◌, List, ℕ, ◌++◌, length, map}
use Rattle.std.specs.Fmt.{HasWrittenStyled, IsFlush}
use Rattle.link_capture_refusals.specs.RefusalTexts.{path_text}
use Rattle.link_capture_refusals.proofs.refusal.write_path.Given as goal

abbrev pub invariant-names : goal.invariant-names
invariant-names g l = record {
  so_far : IsFlush l.fn.f → (done : List ℕ) × HasWrittenStyled g.W.Write.write_str_gives l.fn.f done l.f
      × (done ++ path_text (map (λ n. n.now) l.left) ≡ path_text (map (λ n. n.now) l.path));
}

abbrev pub decreases-names : goal.decreases-names
decreases-names g l = length l.left
