use Rattle.std.proofs.Common.{◌≡◌, ◌<◌, ◌^◌, ◌++◌, drop, length}
use Rattle.fax_tiff.specs.WrittenTiffs.{pages_from}
use Rattle.fax_tiff.proofs.writing.push_pages.Given as goal

-- what was added and the pages that are left are all pages
abbrev pub invariant-loop-i : goal.invariant-loop-i
invariant-loop-i l = record {
  all : l.octets.items ++ pages_from (length l.octets.items) l.i l.total (drop l.i l.pages) ≡ l.fn.octets.items ++ pages_from (length l.fn.octets.items) 0 l.total l.pages;
  short : 0 < l.i → length l.octets.items < 2 ^ 32;
}
