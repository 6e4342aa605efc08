-- How many octets of memory what an answerer keeps of pages takes, as far as lengths say.
use Rattle.std.specs.Prelude.{ℕ, ◌+◌, List, Option, Some, None, sum_by}
use Rattle.fax_pagestore.specs.Octets.{octets_of_page, octets_of_reader}
use Rattle.fax_pagestore.specs.Readers.{ReaderValue}
use Rattle.fax_answer.specs.Reached.{Rep}
use Rattle.fax_answer.specs.Replies.{ConfirmedPage}

-- the readers of images
unfoldable pub octets_of_readers : List ReaderValue → ℕ
octets_of_readers readers = sum_by octets_of_reader readers

-- the page that the MCF confirms that waits
abbrev pub octets_confirmed : Option ConfirmedPage → ℕ
octets_confirmed None = 0
octets_confirmed (Some confirmed) = octets_of_page confirmed.page

-- an answerer
abbrev pub octets_of_answerer : Rep → ℕ
octets_of_answerer kept = octets_of_readers kept.image.readers + octets_confirmed kept.confirmed
