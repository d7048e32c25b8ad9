use Rattle.std.proofs.Common.{◌++◌, [], ◌∙◌, refl, sym, ap, arith, true}
use Rattle.std.specs.Prelude.{codes}
use Rattle.std.proofs.Output.{has_written_styled_append, has_written_styled_nil, has_written_styled_of_eq}
use Rattle.bitflags.specs.Sets.{without}
use Rattle.link_message_types.proofs.FlagTexts.{all_left, bar_is_text, name_passed, name_written, nothing_written, number_written, plain_of_styled, written_after}
use Rattle.link_message_types.proofs.link_flag.LinkFlagsDisplay.fmt.Goals as goal
use Rattle.link_message_types.proofs.link_flag.LinkFlagsDisplay.fmt.Goals.{then-contains+in_ok-write_str+in_ok-write_str-2, else-contains}

pub loop-flag-init : goal.loop-flag-init
loop-flag-init g c = (([], (refl, refl)), λ flush. ([], has_written_styled_nil _ _ flush, all_left c.args.self.now c.flags-flag-items.result.now (c.flags-flag-items.ensures tt)))

pub loop-flag-preserved : goal.loop-flag-preserved
loop-flag-preserved g c =
    let flags = c.flags-flag-items.result.now in
    let i = c.loop-flag.flag-index in
    let separator = c.loop-flag.separator.now in
    elim c.if-contains.branch [
      | then-contains+in_ok-write_str+in_ok-write_str-2 w ↦
          rw (w.separator-is, w.f-is) (
            bar_is_text,
            λ flush.
                let so_far = c.loop-flag.invariant.1 flush in
                let barred = w.in_ok-write_str.ensures.styled so_far.1.flush (refl {a = true}) in
                let named = w.in_ok-write_str-2.ensures.styled barred.flush (refl {a = true}) in
                (_, has_written_styled_append _ _ _ _ _ _ so_far.1 (has_written_styled_append _ _ _ _ _ _ barred named), name_written c.args.self.now flags i _ so_far.0 separator c.loop-flag-test.true (sym (w.if-contains.ensures tt)) ∙ so_far.2),
          )
      | else-contains w ↦
          rw (w.separator-is, w.f-is) (
            c.loop-flag.invariant.0,
            λ flush.
                let so_far = c.loop-flag.invariant.1 flush in
                (so_far.0, so_far.1, ap (λ texts. so_far.0 ++ written_after separator texts) (name_passed c.args.self.now flags i _ c.loop-flag-test.true (sym (w.if-contains.ensures tt))) ∙ so_far.2),
          )
    ]

pub returns-in_ok-write_str-5-clause-styled : goal.returns-in_ok-write_str-5-clause-styled
returns-in_ok-write_str-5-clause-styled g c = λ flush ok.
    let so_far = c.loop-flag.invariant.1 flush in
    let barred = c.in_ok-write_str-3.ensures.styled so_far.1.flush (refl {a = true}) in
    let begun = c.in_ok-write_str-4.ensures.styled barred.flush (refl {a = true}) in
    let ended = c.in_ok-write_str-5.ensures.styled begun.flush (refl {a = true}) in
    let unnamed = c.difference-unnamed.ensures tt ∙ ap (without 32 c.args.self.now.0) (c.all.ensures tt) in
    let digits = c.as_str.ensures.value ∙ c.in_ok-digits.ensures in
    has_written_styled_of_eq _ _ _ _ _
    (ap (λ number. so_far.0 ++ (c.loop-flag.separator.now ++ (codes "0x" ++ number))) digits
    ∙ number_written c.args.self.now c.flags-flag-items.result.now c.loop-flag.flag-index c.difference-unnamed.result.0 so_far.0 c.loop-flag.separator.now (omega arith) unnamed (c.if-not-is_empty.ensures tt) ∙ so_far.2)
    (has_written_styled_append _ _ _ _ _ _ so_far.1 (has_written_styled_append _ _ _ _ _ _ barred (has_written_styled_append _ _ _ _ _ _ begun ended)))

pub returns-in_ok-write_str-5-clause-writes : goal.returns-in_ok-write_str-5-clause-writes
returns-in_ok-write_str-5-clause-writes g c = λ plain ok. plain_of_styled plain (returns-in_ok-write_str-5-clause-styled g c plain.flush ok)

pub returns-else-not-is_empty-clause-styled : goal.returns-else-not-is_empty-clause-styled
returns-else-not-is_empty-clause-styled g c = λ flush ok.
    let so_far = c.loop-flag.invariant.1 flush in
    let unnamed = c.difference-unnamed.ensures tt ∙ ap (without 32 c.args.self.now.0) (c.all.ensures tt) in
    has_written_styled_of_eq _ _ _ _ _ (nothing_written c.args.self.now c.flags-flag-items.result.now c.loop-flag.flag-index c.difference-unnamed.result.0 so_far.0 c.loop-flag.separator.now (omega arith) unnamed (c.if-not-is_empty.ensures tt) ∙ so_far.2) so_far.1

pub returns-else-not-is_empty-clause-writes : goal.returns-else-not-is_empty-clause-writes
returns-else-not-is_empty-clause-writes g c = λ plain ok. plain_of_styled plain (returns-else-not-is_empty-clause-styled g c plain.flush ok)
