use Rattle.std.proofs.Common.{◌≡◌, ◌≤◌, List, Bool, ◌++◌, ◌∷◌, true, false, replicate, Option, Some, None, IfSome, IfOk, inl, inr}
use Rattle.std.specs.Option.{ok_or}
use Rattle.std.proofs.lemmas.Bool.{cases_lt}
use Rattle.fax_bits.specs.Reading.{Passes}
use Rattle.fax_pagestore.specs.declared.fault.PageFault.{PageFault}
use Rattle.fax_pagestore.specs.PageTexts.{IsTag, IsSeparator}
use Rattle.fax_pagestore.specs.PageFaults.{LineBegins}
use Rattle.fax_pagestore.proofs.FrontLemmas.{Passes-zeros_one, zeros_and_one, IsSeparator-from}
use Rattle.fax_pagestore.proofs.reading.pass_filled_eol.Goals as goal
use Rattle.fax_pagestore.proofs.reading.pass_filled_eol.Goals.{After-skip}

-- what is found, as what is no fault
found_ok : (P Q : Bool → Type 0) (found : Option Bool) (fault : PageFault) → ((b : Bool) → P b → Q b) → IfSome found P → IfOk (ok_or found fault) Q
found_ok P Q (Some b) fault f p = f b p
found_ok P Q None fault f p = tt

-- since no line begins there are 11 zeros
enough : (c : After-skip) → 11 ≤ c.skip_zeros.result
enough c = elim (cases_lt c.skip_zeros.result 11) [
  | inl few ↦
      let one : (rest : List Bool) × (c.args.reader.now.left ≡ replicate c.skip_zeros.result false ++ true ∷ rest) =
      zeros_and_one c.args.reader.now c.skip_zeros.new.self c.skip_zeros.result c.skip_zeros.ensures.passes c.skip_zeros.ensures.stops (c.has.ensures.0 c.if-not-has.false) in
      let begins : LineBegins c.args.reader.now.left = (c.skip_zeros.result, one.0, few, one.1) in
      absurd (c.requires begins)
  | inr many ↦ many
]

pub returns-clause-ok : goal.returns-clause-ok
returns-clause-ok c =
    rw c.ok_or.ensures.value
    (found_ok (λ tag. (text : List Bool) × IsTag c.args.coding tag text × Passes c.skip.new.self c.pass_tag.new.reader text)
    (λ tag. (text : List Bool) × IsSeparator c.args.coding tag text × Passes c.args.reader.now c.pass_tag.new.reader text) c.pass_tag.result _
    (λ tag tagged. IsSeparator-from c.args.coding tag c.args.reader.now c.skip.new.self c.pass_tag.new.reader c.skip_zeros.result
    (Passes-zeros_one c.args.reader.now c.skip_zeros.new.self c.skip.new.self c.skip_zeros.result c.skip_zeros.ensures.passes c.skip_zeros.ensures.stops
    (c.has.ensures.0 c.if-not-has.false) c.skip.ensures) (enough (goal.at.returns-clause-ok c).After-skip) tagged)
    c.pass_tag.ensures.found)
