use Rattle.std.proofs.Common.{◌≡◌, ℕ, ◌++◌, Bool, true, false, List, [], Option, Some, None, append-nil, refl, sym, ap, subst, ◌∙◌}
use Rattle.std.specs.Prelude.{IfOk}
use Rattle.link_lines_values.proofs.Appending.{as_text, done, failed, last, start, step}
use Rattle.link_lines_raw.specs.declared.bodies.BodyRow.{BodyRow}
use Rattle.link_lines_raw.specs.declared.bodies.TheConstants.{BODIES}
use Rattle.link_lines_raw.specs.Bodies.{body_lines, first_fitting, general_lines, has_lines, header_line, lines_or, record_and_list, row_lines, text_or_none}
use Rattle.link_lines_raw.specs.Lines.{Line}
use Rattle.link_lines_raw.specs.Rows.{RecordLine, record_line_of}
use Rattle.link_lines_raw.proofs.bodies.push_body.Goals as goal

-- What follows the text of the first lines.
abbrev rest_of : Option (List Line) → Option (List Line) → List ℕ
rest_of None others = text_or_none others
rest_of (Some lines) others = []

first_and_rest : (a b : Option (List Line)) → text_or_none a ++ rest_of a b ≡ text_or_none (lines_or a b)
first_and_rest None b = refl
first_and_rest (Some a) b = append-nil _

first_alone : (a b : Option (List Line)) → has_lines a ≡ true → lines_or a b ≡ a
first_alone None b h = absurd cc
first_alone (Some a) b h = refl

others_alone : (a b : Option (List Line)) → has_lines a ≡ false → (lines_or a b ≡ b) × (text_or_none a ≡ [])
others_alone None b h = (refl, refl)
others_alone (Some a) b h = absurd cc

-- The lines of a body whose row is this one.
lines_are : (t : ℕ) (r : Bool) (p : List ℕ) (row : BodyRow) (line : RecordLine) → line ≡ header_line row.4 → first_fitting BODIES.now t r p ≡ Some row → lines_or (record_and_list line row.5 p) (general_lines t p) ≡ body_lines t r p
unfolding body_lines
lines_are t r p row line e f = ap (λ l. lines_or (record_and_list l row.5 p) (general_lines t p)) e ∙ ap (λ o. row_lines o t p) (sym f)

pub returns-in_err-push_record_and_list-clause-appends : goal.returns-in_err-push_record_and_list-clause-appends
returns-in_err-push_record_and_list-clause-appends c =
    let line = record_line_of (λ b. b.now) c.header_line.result in
    let own = record_and_list line c.in-Some.row.5 c.args.body.now in
    let general = general_lines c.args.message_type c.args.body.now in
    let whole = lines_are c.args.message_type c.args.is_request c.args.body.now c.in-Some.row line c.header_line.ensures (sym c.first_fitting.ensures ∙ c.in-Some.is) in
    failed _ _ _ c.from_residual.ensures.0 (start c.args.out.now _) c.in_err-push_record_and_list.ensures.appends (first_and_rest own general ∙ ap text_or_none whole)

pub returns-then-branch-clause-appends : goal.returns-then-branch-clause-appends
returns-then-branch-clause-appends c =
    let line = record_line_of (λ b. b.now) c.header_line.result in
    let own = record_and_list line c.in-Some.row.5 c.args.body.now in
    let whole = lines_are c.args.message_type c.args.is_request c.args.body.now c.in-Some.row line c.header_line.ensures (sym c.first_fitting.ensures ∙ c.in-Some.is) in
    let alone = first_alone own (general_lines c.args.message_type c.args.body.now) (sym c.in_ok-push_record_and_list.ensures.shown ∙ c.if-branch.true) in
    let first = step _ (start c.args.out.now _) c.in_ok-push_record_and_list.ensures.appends (append-nil _) in
    as_text (ap text_or_none (sym alone ∙ whole)) (done _ first refl)

pub returns-then-branch-clause-shown : goal.returns-then-branch-clause-shown
returns-then-branch-clause-shown c =
    let line = record_line_of (λ b. b.now) c.header_line.result in
    let own = record_and_list line c.in-Some.row.5 c.args.body.now in
    let whole = lines_are c.args.message_type c.args.is_request c.args.body.now c.in-Some.row line c.header_line.ensures (sym c.first_fitting.ensures ∙ c.in-Some.is) in
    let shown = sym c.in_ok-push_record_and_list.ensures.shown ∙ c.if-branch.true in
    let alone = first_alone own (general_lines c.args.message_type c.args.body.now) shown in
    sym shown ∙ ap has_lines (sym alone ∙ whole)

pub returns-clause-appends : goal.returns-clause-appends
returns-clause-appends c =
    let line = record_line_of (λ b. b.now) c.header_line.result in
    let own = record_and_list line c.in-Some.row.5 c.args.body.now in
    let general = general_lines c.args.message_type c.args.body.now in
    let whole = lines_are c.args.message_type c.args.is_request c.args.body.now c.in-Some.row line c.header_line.ensures (sym c.first_fitting.ensures ∙ c.in-Some.is) in
    let alone = others_alone own general (sym c.in_ok-push_record_and_list.ensures.shown ∙ c.if-branch.false) in
    let first = step _ (start c.args.out.now _) c.in_ok-push_record_and_list.ensures.appends refl in
    as_text (ap (λ s. s ++ text_or_none general) alone.1 ∙ ap text_or_none (sym alone.0 ∙ whole)) (last c.push_general.result first c.push_general.ensures.appends)

pub returns-clause-shown : goal.returns-clause-shown
returns-clause-shown c =
    let line = record_line_of (λ b. b.now) c.header_line.result in
    let own = record_and_list line c.in-Some.row.5 c.args.body.now in
    let general = general_lines c.args.message_type c.args.body.now in
    let whole = lines_are c.args.message_type c.args.is_request c.args.body.now c.in-Some.row line c.header_line.ensures (sym c.first_fitting.ensures ∙ c.in-Some.is) in
    let alone = others_alone own general (sym c.in_ok-push_record_and_list.ensures.shown ∙ c.if-branch.false) in
    subst (λ o. IfOk c.push_general.result (λ is_shown. is_shown ≡ has_lines o)) (sym alone.0 ∙ whole) c.push_general.ensures.shown
