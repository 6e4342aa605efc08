use Rattle.std.proofs.Common.{◌≡◌, string_bytes, take}
use Rattle.fax_listing.specs.Pictures.{KeepsPictures}
use Rattle.fax_listing.proofs.pictures.keep_pictures.Given as goal

-- the pages so far are pictured
abbrev pub invariant-loop-page : goal.invariant-loop-page
invariant-loop-page g l =
    let files = g.F.PictureFiles in
    record {
      kept : KeepsPictures l.prefix (take l.page-index l.pages) l.is_whole (string_bytes l.initial.told) (string_bytes l.told) (files.made l.fn.files) (files.made l.files);
      unfailed : files.failed l.files ≡ files.failed l.fn.files;
    }
