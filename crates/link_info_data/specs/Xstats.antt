-- The statistics of a kind of link, as bytes.
use Rattle.std.specs.Prelude.{ℕ, List}
use Rattle.link_info_data.specs.declared.xstats.LinkXstats.{LinkXstats}
use Rattle.link_info_data.specs.declared.xstats.LinkXstats.TheVariants.{Other}

-- The bytes of a value of statistics.
abbrev pub xstats_bytes : LinkXstats → List ℕ
xstats_bytes (Other b) = b.items
