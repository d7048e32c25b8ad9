-- both files were opened
use Rattle.std.proofs.Common.{◌∙◌, ℕ, List, [], ◌∷◌, Option, Ok, ap}
use Rattle.link_capture_reader.specs.Files.{opening, then_opened}
use Rattle.linkcap_program.proofs.Openings.{twice}
use Rattle.linkcap_program.proofs.comparing.compare.Goals as goal

pub returns : goal.returns
returns g c =
    let one = opening c.args.first.now (Ok c.in-Ok.left) in
    let two = opening c.args.second.now (Ok c.in-Ok-open.right) in
    let before = g.F.FileSystem.openings c.args.files.now in
    let known = c.open.ensures.contents in (
      Ok c.in-Ok.left,
      (
        c.in-Ok.ensures.bytes,
        (
          Ok c.in-Ok-open.right,
          c.in-Ok-open.ensures.opening ∙ ap (λ all. then_opened all (two ∷ [])) c.in-Ok.ensures.opening ∙ twice before one two,
          (
            c.in-Ok-open.ensures.bytes ∙ ap (λ (k : List ℕ → Option (List ℕ)). k c.args.second.now) known,
            (c.same_sources.new.left, c.same_sources.new.right, c.same_sources.ensures),
          ),
        ),
      ),
    )
