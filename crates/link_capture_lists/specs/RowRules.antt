-- The rules of the grammar's tables, by which attributes of these lists are accepted.
use Rattle.std.specs.Prelude.{◌≡◌, ℕ, Bool, true, cond, List, Option, Some, None}
use Rattle.netlink_packet_core_grammar.specs.Attributes.{Attribute}
use Rattle.attribute_tables_grammar.specs.Lists.{any, Context, Grammar, is_kept, list_rule, row_of}
use Rattle.attribute_tables_grammar.specs.Peers.{RuleOfPeers, bytes_peer, peer_rule}
use Rattle.attribute_tables_grammar.specs.Rules.{Rule, raw_rule, shape_rule}
use Rattle.attribute_tables_grammar.specs.Shapes.{never}
use Rattle.link_info_grammar.specs.LinkInfo.{info_grammar}
use Rattle.link_interpreter.specs.Measures.{rows_of}
use Rattle.link_message_grammar.specs.Body.{link_peer, attributes_rule}
use Rattle.link_message_grammar.specs.LinkMessage.{family_of}
use Rattle.link_tables.specs.declared.table.Table.{Table}
use Rattle.link_tables.specs.Rows.{form_of, shape_of}
use Rattle.link_tables.specs.Tables.{family_table, is_link_info, table_of}
use Rattle.link_capture_lists.specs.declared.tables.Inside.{Inside}
use Rattle.link_capture_lists.specs.declared.tables.Inside.TheVariants as I
use Rattle.link_capture_lists.specs.ListTables.{Listing, row_in}

-- The rule of peers: links' bodies, inside which peers are bytes; or only bytes.
abbrev pub peer_of : Bool → RuleOfPeers
peer_of judged = cond judged link_peer bytes_peer

-- The rows of a table, and the context after each attribute.
unfoldable pub grammar_at : Bool → Table → Grammar
grammar_at judged t =
    cond (is_link_info t) (info_grammar (peer_of judged)) (rows_of (peer_of judged) (table_of t.0))

-- The rows of the table of a list, and the context after each attribute.
abbrev pub grammar_of : Listing → Grammar
grammar_of l = grammar_at l.judged l.table.rows

-- The first attribute of a list is dropped by the list kind, or accepted by its row.
abbrev pub is_accepted : Listing → Attribute → Bool
is_accepted l e = cond (is_kept (form_of l.table.form) e) ((row_of (grammar_of l) l.context e).rule.accepted e.payload) true

-- The rest of a list after an attribute.
abbrev pub following : Listing → Attribute → Listing
following l e =
    record {
      table = l.table;
      context =
          cond (is_kept (form_of l.table.form) e) ((grammar_of l).next l.context e) l.context;
      judged = l.judged;
    }

-- ---- the rules of contents

-- The rule of a content.
abbrev pub inside_rule : Bool → Inside → Rule
inside_rule judged (I.Value s) = shape_rule (shape_of s)
inside_rule judged (I.List f t) = list_rule (form_of f) (grammar_at judged t)
inside_rule judged I.Peer = peer_rule (peer_of judged)
inside_rule judged (I.Refused r) = shape_rule never

-- The rule of a row.
abbrev pub row_rule : Bool → Option (List ℕ × Inside) → Rule
row_rule judged None = raw_rule
row_rule judged (Some x) = inside_rule judged x.1

-- The content of each row is that of the row in the grammar's table; a kind without a row is kept as it is.
abbrev pub RowsAreTheTables : Type 0
RowsAreTheTables = (judged : Bool) (t : Table) (c : Context) (k : ℕ) →
    ((grammar_at judged t).row c k).rule ≡ row_rule judged (row_in t c k)

-- The attributes of a link of an address family are those of its table.
abbrev pub LinksAreTables : Type 0
LinksAreTables = (judged : Bool) (n : ℕ) →
    attributes_rule (peer_of judged) (family_of n) ≡ list_rule any (grammar_at judged (family_table n))
