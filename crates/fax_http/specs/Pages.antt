-- The page for an operator, in HTML (this project's profile). Each text from outside stands in it as it is shown.
use Rattle.std.specs.Prelude.{ℕ, ◌++◌, nat_eq, if◌then◌else◌, List, [], codes, decimal, length}
use Rattle.std.specs.List.{flat_map}
use Rattle.fax_http.specs.declared.health.Health.{Health}
use Rattle.fax_http.specs.declared.page.TheConstants.{BOTTOM, COUNTS, ILL, ILL_END, JOBS, LINES, NO_JOBS, NO_LINES, ROWS_END, SECTION_END, TOP, WELL}
use Rattle.fax_http.specs.declared.view.CountView.{CountView}
use Rattle.fax_http.specs.declared.view.JobView.{JobView}
use Rattle.fax_http.specs.declared.view.LineView.{LineView}
use Rattle.fax_http.specs.declared.view.PageView.{PageView}
use Rattle.fax_http.specs.Cells.{called_cell, calling_cell, name_cell, number_cell, shown_cell, text_cell}
use Rattle.fax_http.specs.Healths.{is_well, reason}
use Rattle.fax_http.specs.Undelivered.{undelivered_part}

-- what is wrong
unfoldable pub ill_part : Health → List ℕ
ill_part health =
    ILL.now
    ++ (reason health.is_stopping (codes "<li>it was told to stop</li>\n")
    ++ (reason health.has_failed_disk (codes "<li>the spool's disk has failed</li>\n")
    ++ (reason health.is_late (codes "<li>turns are late</li>\n") ++ ILL_END.now)))

-- how the server is: well, or what is wrong
abbrev pub state_part : Health → List ℕ
state_part health = if is_well health then WELL.now else ill_part health

-- the row of a line: its name, what is on on each leg, how many jobs wait
unfoldable pub line_row : LineView → List ℕ
line_row line = codes "<tr>" ++ (name_cell line.name.now ++ (calling_cell line.calling
    ++ (called_cell line.called ++ (number_cell line.waiting ++ codes "</tr>\n"))))

unfoldable pub shown_lines : List LineView → List ℕ
shown_lines lines = LINES.now ++ (flat_map line_row lines ++ ROWS_END.now)

-- a table of lines, or that there are none
abbrev pub lines_table : List LineView → List ℕ
lines_table lines = if nat_eq (length lines) 0 then NO_LINES.now else shown_lines lines

unfoldable pub lines_part : List LineView → ℕ → List ℕ
lines_part lines others = lines_table lines
    ++ (codes "<p>Other lines: " ++ (decimal others ++ codes ".</p>\n</section>\n"))

-- how many of a job's pages were delivered
abbrev pub delivered_cell : ℕ → ℕ → List ℕ
delivered_cell delivered pages =
    codes "<td>" ++ (decimal delivered ++ (codes " of " ++ (decimal pages ++ codes "</td>")))

-- the row of a job: its line, its call, what was delivered, how it ended
unfoldable pub job_row : JobView → List ℕ
job_row job = codes "<tr>" ++ (name_cell job.line.now ++ (shown_cell [] job.call
    ++ (delivered_cell job.delivered job.pages ++ (text_cell job.outcome.now ++ codes "</tr>\n"))))

unfoldable pub shown_jobs : List JobView → List ℕ
shown_jobs jobs = JOBS.now ++ (flat_map job_row jobs ++ ROWS_END.now)

abbrev pub jobs_table : List JobView → List ℕ
jobs_table jobs = if nat_eq (length jobs) 0 then NO_JOBS.now else shown_jobs jobs

unfoldable pub jobs_part : List JobView → List ℕ
jobs_part jobs = jobs_table jobs ++ SECTION_END.now

-- the row of a count
unfoldable pub count_row : CountView → List ℕ
count_row count =
    codes "<tr>" ++ (name_cell count.name.now ++ (number_cell count.value ++ codes "</tr>\n"))

unfoldable pub counts_part : List CountView → List ℕ
counts_part counts = COUNTS.now ++ (flat_map count_row counts ++ (ROWS_END.now ++ BOTTOM.now))

-- THE PAGE: how the server is, the lines on which something is under way, the jobs that ended last, the calls of which pages could not be
-- delivered, and the counts.
unfoldable pub page_octets : PageView → List ℕ
page_octets view = TOP.now
    ++ (state_part view.health ++ (lines_part view.lines.now view.others ++ (jobs_part view.jobs.now
    ++ (undelivered_part view.undelivered.now ++ counts_part view.counts.now))))
