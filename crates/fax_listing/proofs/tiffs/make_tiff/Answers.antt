use Rattle.fax_listing.proofs.TiffFileLemmas.{no_room, no_tiff, tiff_made}
use Rattle.fax_listing.proofs.tiffs.make_tiff.Goals as goal

pub returns-in_ok-make-in-Ok-clause-made : goal.returns-in_ok-make-in-Ok-clause-made
returns-in_ok-make-in-Ok-clause-made g c = λ shown are.
    tiff_made c.args.name.now shown c.args.coded.now c.in-Ok.octets.items c.as_slice.result.now _ _ c.tiff_is_read_back.ensures are c.in-Ok.ensures.ok c.as_slice.ensures.value
    c.in-Ok.ensures.some c.in-Ok.ensures.few c.in-Ok.ensures.short c.in_ok-make-in-Ok.ensures.ok

pub returns-in-Err-NoPages-clause-made : goal.returns-in-Err-NoPages-clause-made
returns-in-Err-NoPages-clause-made g c = λ shown are. no_tiff c.args.name.now shown c.args.coded.now _ are (c.in-Err-NoPages.ensures.none (cc))

pub returns-in_ok-tell_too_long-in-Err-TooLong-clause-made : goal.returns-in_ok-tell_too_long-in-Err-TooLong-clause-made
returns-in_ok-tell_too_long-in-Err-TooLong-clause-made g c = λ shown are. no_room c.args.name.now shown c.args.coded.now _ are (c.in-Err-TooLong.ensures.long (cc))
