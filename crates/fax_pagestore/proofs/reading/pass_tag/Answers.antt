use Rattle.std.proofs.Common.{◌≡◌, ◌==◌, [], ◌∷◌, take, refl, sym, ◌∙◌, subst}
use Rattle.fax_bits.specs.Reading.{Passes}
use Rattle.fax_pagestore.proofs.FrontLemmas.{one_bit}
use Rattle.fax_pagestore.proofs.reading.pass_tag.Goals as goal

pub returns-in_ok-tag-in-Mr-clause-found : goal.returns-in_ok-tag-in-Mr-clause-found
returns-in_ok-tag-in-Mr-clause-found c =
    let one : take 1 c.args.reader.now.left ≡ (c.in_ok-tag-in-Mr.tag == 1) ∷ [] = sym c.in_ok-tag-in-Mr.ensures.bit ∙ one_bit c.in_ok-tag-in-Mr.tag c.in_ok-tag-in-Mr.ensures.word in
    rw c.in-Mr.is ((c.in_ok-tag-in-Mr.tag == 1) ∷ [], refl, subst (Passes c.args.reader.now c.skip.new.self) one c.skip.ensures)
