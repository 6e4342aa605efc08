use Rattle.std.proofs.Common.{◌∙◌, string_bytes}
use Rattle.fax_listing.proofs.TiffFileLemmas.{none_meant, one_coded}
use Rattle.fax_listing.proofs.tiffs.code_page.Goals as goal

pub returns-in_ok-push-in-Some : goal.returns-in_ok-push-in-Some
returns-in_ok-push-in-Some c =
    one_coded c.args.page.now c.in-Some.shown c.in_ok-one-in-Some.one c.args.coded.now.items _ (string_bytes c.args.told.now) (rw c.in-Some.is at c.in_ok-shown.ensures) c.in_ok-one-in-Some.ensures
    c.in_ok-push-in-Some.ensures.items

pub returns-in_ok-tell_no_page-in-None : goal.returns-in_ok-tell_no_page-in-None
returns-in_ok-tell_no_page-in-None c =
    none_meant c.args.page.now c.as_str.result.now c.args.coded.now.items (string_bytes c.args.told.now) _ (rw c.in-None.is at c.in_ok-shown.ensures)
    (c.as_str.ensures.value ∙ c.in_ok-name-in-None.ensures) c.in_ok-tell_no_page-in-None.ensures
