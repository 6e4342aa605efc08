-- What is sent over lines that are opened. (This project's profile.)
use Rattle.std.specs.Prelude.{List, Option}
use Rattle.fax_pagestore.specs.Pages.{PageValue}
use Rattle.fax_jobs.specs.Books.{job_of}
use Rattle.fax_jobs.specs.declared.report.Report.{Report}
use Rattle.fax_gateway.specs.declared.settings.Settings.{Settings}
use Rattle.fax_gateway.specs.Wires.{KnownWire}
use Rattle.fax_terminal.specs.Ends.{EndTraffic}
use Rattle.fax_loop.specs.Exchanges.{IsExchange, Lines}
use Rattle.fax_loop.specs.Links.{IsFaithful}
use Rattle.fax_loop.specs.declared.exchange.Lines.{Lines as OpenedLines}

-- what lines tell, where their ends and their wire tell this
abbrev pub told_lines : {E W : Type 0}
    → (told : E → EndTraffic) → (known : W → KnownWire) → OpenedLines E W → Lines
told_lines told known lines =
    record { caller = told lines.caller; wire = known lines.wire; answerer = told lines.answerer }

-- A page went from a machine that calls over a gateway to another machine, all with these settings, over lines that were opened and
-- are so now: the gateway reported so, and the other machine confirmed these pages. Where the lines tell that they carried what was
-- handed to them, each of these is the page.
pub record IsSent {L : Type 0} (told : L → Lines) (opened : L → Type 0) (settings : Settings)
    (page : PageValue) (report : Option Report) (pages : List PageValue) : Type 0 where
  pub before : L
  pub after : L
  pub is_opened : opened before
  pub exchange : IsExchange settings (job_of 0 page) (told before) (told after) report pages
  pub faithful : IsFaithful (told before) (told after) page report pages
