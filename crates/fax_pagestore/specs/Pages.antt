-- Pages: a format, and rows of its width.
use Rattle.std.specs.Prelude.{List}
use Rattle.fax_runcodes.specs.declared.format.Format.{Format}
use Rattle.fax_runcodes.specs.Rows.{Elements}
use Rattle.fax_runcodes.specs.Widths.{elements_of}
use Rattle.fax_pagestore.specs.PageRows.{AreRows}

-- a page as it is meant: its format and its rows
pub record PageValue : Type 0 where
  pub format : Format
  pub rows : List Elements

-- its rows are of the format's width, at least one and not too many
abbrev pub IsPage : PageValue → Type 0
IsPage page = AreRows (elements_of page.format.width) page.rows
