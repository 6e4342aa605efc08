-- Jobs: pages of one call that go out in one call of our own. (This project's profile.)
use Rattle.std.specs.Prelude.{◌≡◌, ℕ, ◌<◌, ◌≤◌, List, [], ◌∷◌, All, length}
use Rattle.fax_runcodes.specs.declared.format.Format.{Format}
use Rattle.fax_pagestore.specs.Pages.{PageValue, IsPage}

-- the number of the call that the pages came in, the format of the first, and the pages in the order of their confirmations
pub record JobValue : Type 0 where
  pub call : ℕ
  pub format : Format
  pub pages : List PageValue

-- the most pages of a job
abbrev pub most_pages : ℕ
most_pages = 999

-- the format is that of the first page
abbrev pub IsOfFirst : Format → List PageValue → Type 0
IsOfFirst format [] = ⊥
IsOfFirst format (page ∷ pages) = format ≡ page.format

-- 1 to 999 pages, of any formats; the job's format is that of the first
pub record IsJob (job : JobValue) : Type 0 where
  pub some : 0 < length job.pages
  pub few : length job.pages ≤ most_pages
  pub of_first : IsOfFirst job.format job.pages
  pub are_pages : All IsPage job.pages
