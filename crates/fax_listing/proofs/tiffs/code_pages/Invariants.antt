use Rattle.std.proofs.Common.{◌≡◌, string_bytes, take}
use Rattle.fax_listing.specs.Tiffs.{CodesPages}
use Rattle.fax_listing.proofs.tiffs.code_pages.Given as goal

-- the pages so far are coded
abbrev pub invariant-loop-page : goal.invariant-loop-page
invariant-loop-page l = CodesPages (take l.page-index l.pages) l.coded.items l.are_all (string_bytes l.initial.told) (string_bytes l.told)
