use Rattle.std.proofs.Common.{List, ℕ, sym, ◌∙◌, ap}
use Rattle.fax_spool.specs.Seals.{sealed}
use Rattle.fax_spool.proofs.Digests.{seals_are_one}
use Rattle.fax_spool.proofs.spool_record.read_spool_record.Goals as goal

pub returns-in-Some-read_page_record : goal.returns-in-Some-read_page_record
returns-in-Some-read_page_record c = (c.in-Some.ensures ∙ ap (λ (l : List ℕ). sealed l) c.in-Some-read_page_record.ensures.read, c.in-Some-read_page_record.ensures.numbers)

pub returns-in-Some-read_ended_record : goal.returns-in-Some-read_ended_record
returns-in-Some-read_ended_record c = (c.in-Some.ensures ∙ ap (λ (l : List ℕ). sealed l) c.in-Some-read_ended_record.ensures.read, c.in-Some-read_ended_record.ensures.numbers)

pub returns-in-None : goal.returns-in-None
returns-in-None c = record {
  no_page = λ page is. c.in_default-read_page_record.ensures.read page (seals_are_one _ _ (sym c.in-Some.ensures ∙ is));
  no_end = λ ended is. c.in_default-read_ended_record.ensures.read ended (seals_are_one _ _ (sym c.in-Some.ensures ∙ is));
  no_epoch = λ number is. c.in-None.ensures number (seals_are_one _ _ (sym c.in-Some.ensures ∙ is));
}
