-- The page that joined a book last, for as long as the book has its job. (This project's profile.)
use Rattle.std.specs.Prelude.{◌-◌, List, length, Option, Some, None, slice_get}
use Rattle.fax_pagestore.specs.Pages.{PageValue}
use Rattle.fax_jobs.specs.Jobs.{JobValue}
use Rattle.fax_jobs.specs.Books.{Book}

-- the job that was closed last, of those that wait; where none waits, the one that is being sent
abbrev pub or_else : Option JobValue → Option JobValue → Option JobValue
or_else None other = other
or_else (Some job) other = Some job

abbrev pub closed_last : List JobValue → Option JobValue
closed_last waiting = slice_get waiting (length waiting - 1)

-- a page joins the open job; after that, the job that was closed last has the newest
abbrev pub newest_job : Book → Option JobValue
newest_job book = or_else book.open_job (or_else (closed_last book.waiting) book.sending)

abbrev pub last_page : Option JobValue → Option PageValue
last_page None = None
last_page (Some job) = slice_get job.pages (length job.pages - 1)

abbrev pub newest_page : Book → Option PageValue
newest_page book = last_page (newest_job book)
