-- What options in code ask for.
use Rattle.std.specs.Prelude.{not, option_map}
use Rattle.link_lines_parts.specs.Remaining.{omitted_of}
use Rattle.link_lines.specs.declared.options.ShowOptions.{ShowOptions}
use Rattle.link_lines.specs.MessageLines.{Selection}

-- What is shown of a capture, as options say.
abbrev pub selection_of : ShowOptions → Selection
selection_of o = record {
  numbers = not o.without_numbers;
  only = option_map (λ types. types.items) o.only;
  link = option_map (λ link. link.now) o.link;
  omitted = omitted_of o.without;
  offsets = o.offsets;
  keep_going = o.keep_going;
  json = o.json;
}
