-- How many octets of memory rows take, and what is made of them, as far as lengths say.
use Rattle.std.specs.Prelude.{ℕ, ◌+◌, ◌*◌, ◌/◌, List, [], ◌∷◌, length, sum_by, if◌then◌else◌}
use Rattle.fax_runcodes.specs.declared.Colour.{Colour}
use Rattle.fax_runcodes.specs.declared.Colour.TheVariants.{White}
use Rattle.fax_runcodes.specs.Rows.{Elements, differ}
use Rattle.fax_pagestore.specs.Pages.{PageValue}
use Rattle.fax_pagestore.specs.Readers.{ReaderValue}

-- how many elements have another colour than the one before them, where an element of this colour stands before the first
unfoldable pub changes_after : (before : Colour) → Elements → ℕ
changes_after before [] = 0
changes_after before (colour ∷ row) =
    if differ colour before then changes_after colour row + 1 else changes_after colour row

-- a row: an entry of 16 octets, and two for each changing element (ITU-T T.4, 4.2.1.3.1)
unfoldable pub octets_of_row : Elements → ℕ
octets_of_row row = 16 + 2 * changes_after White row

-- rows side by side
unfoldable pub octets_of_rows : List Elements → ℕ
octets_of_rows rows = sum_by octets_of_row rows

-- a page
abbrev pub octets_of_page : PageValue → ℕ
octets_of_page page = octets_of_rows page.rows

-- a reader of a page: its rows, and the octets in which the bits stand that are not read
abbrev pub octets_of_reader : ReaderValue → ℕ
octets_of_reader reader = octets_of_rows reader.rows + (length reader.left + 7) / 8
