-- The search for the name of an attribute of the normal text's tables.
use Rattle.std.specs.Prelude.{ℕ, ◌-◌, suc, nat_lt, cond, List, [], Option, get_or}
use Rattle.link_lines_raw.specs.NameSearch.{named_below}
use Rattle.link_lines_texts.specs.AttributeNames.{AttributeRow, nested_names, family_names, info_attribute_names}
use Rattle.link_lines_texts.specs.AttributeNames.{data_names, link_rows}
use Rattle.link_lines_texts.specs.declared.names.TheConstants.{ALL_LINKS}
use Rattle.link_tables.specs.declared.kinds.TheConstants.{AMT}
use Rattle.link_tables.specs.declared.table.TheConstants.{LINK_INFO, LINK_UNSPEC}

-- The rows of all tables, by the table's index; at that of links of an address family those that depend on it, and last
-- those that links of every family have.
unfoldable pub rows_at : ℕ → List AttributeRow
rows_at n =
    cond (nat_lt n LINK_UNSPEC.0) (get_or nested_names n [])
    (cond (nat_lt n LINK_INFO.0) (get_or family_names (n - LINK_UNSPEC.0) [])
    (cond (nat_lt n AMT.0) info_attribute_names
    (cond (nat_lt n ALL_LINKS) (get_or data_names (n - AMT.0) []) link_rows)))

-- The name of an attribute, of any table, that the word is.
unfoldable pub text_name : List ℕ → Option (List ℕ)
text_name w = named_below rows_at w (suc ALL_LINKS)
