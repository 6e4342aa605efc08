use Rattle.std.proofs.Common.{◌∙◌, string_bytes}
use Rattle.fax_listing.proofs.PictureLemmas.{pictured}
use Rattle.fax_listing.proofs.pictures.keep_picture.Goals as goal

pub returns-in-Some-clause-kept : goal.returns-in-Some-clause-kept
returns-in-Some-clause-kept g c =
    let m = c.in_ok-make_picture-in-Some.ensures.made in
    pictured c.args.prefix.now c.args.page.now c.as_str.result.now (string_bytes c.args.told.now) m.0 _ _ c.in-Some.shown (c.as_str.ensures.value ∙ c.in_ok-name.ensures) (rw c.in-Some.is at c.in_ok-shown.ensures) m.1 m.2
