use Rattle.std.proofs.Common.{◌≡◌, Bool, List, subst, arith}
use Rattle.fax_bits.specs.Reading.{Passes}
use Rattle.fax_pagestore.specs.PageTexts.{IsSeparator}
use Rattle.fax_pagestore.proofs.FrontLemmas.{Passes-window, IsSeparator-from}
use Rattle.fax_pagestore.proofs.reading.pass_separator.Goals as goal

pub returns-clause-separator : goal.returns-clause-separator
returns-clause-separator c =
    λ tag same.
    let is : c.in_ok-tag-2.tag ≡ tag = cc in
    let tagged = rw c.in_ok-tag-2.ensures.ok_part at c.pass_tag.ensures.found in
    subst (λ t. (text : List Bool) × IsSeparator c.args.coding t text × Passes c.args.reader.now c.pass_tag.new.reader text) is
    (IsSeparator-from c.args.coding c.in_ok-tag-2.tag c.args.reader.now c.skip.new.self c.pass_tag.new.reader c.zeros_in_window-zeros.result
    (Passes-window c.args.reader.now c.skip.new.self c.zeros_in_window-zeros.result (c.zeros_in_window-zeros.ensures.one (omega arith)) c.skip.ensures) (omega arith) tagged)
