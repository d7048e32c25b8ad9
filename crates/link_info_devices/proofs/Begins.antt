-- If reading may run out of memory only for accepted attributes, a list that begins readable begins accepted.
use Rattle.std.proofs.Common.{◌≡◌, ℕ, Bool, true, false, List}
use Rattle.std.specs.Prelude.{◌&&◌, ◌||◌}
use Rattle.attribute_tables_grammar.specs.Lists.{Row}
use Rattle.attribute_tables.specs.Beginnings.{begins_with_attribute, begins_accepted, begins_readable}
use Rattle.attribute_tables.specs.Views.{is_accepted_by}
use Rattle.attribute_tables.proofs.Beginnings.{accepted-begins}

one_of_two : (w a : Bool) → (w && (a || a)) ≡ true → (w && a) ≡ true
one_of_two true true h = h
one_of_two true false h = h
one_of_two false a h = h

pub readable-accepted : (rows : ℕ → Row) (b : List ℕ) → begins_readable rows (is_accepted_by rows) b ≡ true → begins_accepted rows b ≡ true
unfolding begins_readable begins_accepted
readable-accepted rows b h = one_of_two (begins_with_attribute b) (is_accepted_by rows b) h

pub ruleset begins = (readable-accepted, accepted-begins)
