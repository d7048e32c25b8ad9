-- The values of attributes and levels in code.
use Rattle.std.specs.Prelude.{◌+◌, ◌≤◌, Option, option_map}
use Rattle.link_interpreter.specs.Sameness.{attribute_of}
use Rattle.link_capture_walks.specs.Listings.{listing}
use Rattle.link_capture_lists.specs.ListTables.{depth}
use Rattle.link_capture_attributes.specs.Attributes.{Found, Level}
use Rattle.link_capture_attributes.specs.declared.attribute_at.AttributeAt.{AttributeAt}
use Rattle.link_capture_attributes.specs.declared.walk.Level.{Level as LevelInCode}

-- The value of an attribute with its context in code.
abbrev pub found : AttributeAt → Found
found a =
    record {
      offset = a.offset;
      attribute = attribute_of a.attribute;
      depth = a.depth;
      name = option_map (λ n. n.now) a.name;
      link_kind = option_map (λ n. n.now) a.link_kind;
    }

-- The value of an optional attribute in code.
abbrev pub optional_found : Option AttributeAt → Option Found
optional_found o = option_map found o

-- The value of a level in code.
abbrev pub level_of : LevelInCode → Level
level_of l = record { list = listing l.list; depth = l.depth; link_kind = option_map (λ n. n.now) l.link_kind }

-- The attributes of this list, and those inside them, are inside at most 6 others.
abbrev pub IsShallow : LevelInCode → Type 0
IsShallow l = l.depth + depth l.list.judged l.list.table.rows.0 ≤ 7
