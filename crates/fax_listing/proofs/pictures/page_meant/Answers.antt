use Rattle.std.proofs.Common.{inl, inr}
use Rattle.fax_listing.proofs.pictures.page_meant.Goals as goal

pub returns-in_default : goal.returns-in_default
returns-in_default c =
    λ shown means. elim (c.read_waiting_page.ensures.reads shown means) [ inl ok ↦ cc | inr memory ↦ c.in_default.not-NoMemory (cc) ]
