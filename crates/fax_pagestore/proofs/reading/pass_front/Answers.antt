use Rattle.std.proofs.Common.{true, false, ◌∷◌, [], ◌++◌, length, replicate, arith}
use Rattle.std.proofs.lemmas.Option.{IfSome_then}
use Rattle.fax_bits.specs.Reading.{Passes}
use Rattle.fax_pagestore.proofs.FrontLemmas.{Passes-zeros_one, FrontSoFar-none, FrontSoFar-more, none_left, IsFront-from, no_front, no_tag, zeros_one_shorter}
use Rattle.fax_pagestore.proofs.reading.pass_front.Goals as goal
use Rattle.fax_pagestore.proofs.reading.pass_front.Goals.{After-skip}

-- the zeros and the 1 after them
passed : (c : After-skip) → Passes c.loop-coding.reader c.skip.new.self (replicate c.skip_zeros-zeros.result false ++ true ∷ [])
passed c =
    Passes-zeros_one c.loop-coding.reader c.skip_zeros-zeros.new.self c.skip.new.self c.skip_zeros-zeros.result c.skip_zeros-zeros.ensures.passes c.skip_zeros-zeros.ensures.stops
    (c.has.ensures.0 c.if-not-has.false) c.skip.ensures

pub loop-coding-init : goal.loop-coding-init
loop-coding-init c = FrontSoFar-none c.args.reader.now

pub returns-then-not-has-clause-none : goal.returns-then-not-has-clause-none
returns-then-not-has-clause-none c =
    λ _. no_front c.args.reader.now c.loop-coding.reader c.skip_zeros-zeros.new.self c.skip_zeros-zeros.result c.loop-coding.invariant c.skip_zeros-zeros.ensures.passes
    (none_left c.has.result (length c.skip_zeros-zeros.new.self.left) c.has.ensures.1 c.if-not-has.true) c.args.coding

pub returns-then-zeros-from-clause-found : goal.returns-then-zeros-from-clause-found
returns-then-zeros-from-clause-found c =
    IfSome_then c.pass_tag.result c.pass_tag.ensures.found
    (λ tag. IsFront-from c.args.coding tag c.args.reader.now c.loop-coding.reader c.skip.new.self c.pass_tag.new.reader c.skip_zeros-zeros.result c.loop-coding.invariant
    (passed (goal.at.returns-then-zeros-from-clause-found c).After-skip) (omega arith))

pub returns-then-zeros-from-clause-none : goal.returns-then-zeros-from-clause-none
returns-then-zeros-from-clause-none c =
    λ none. no_tag c.args.reader.now c.loop-coding.reader c.skip.new.self c.skip_zeros-zeros.result c.loop-coding.invariant
    (passed (goal.at.returns-then-zeros-from-clause-none c).After-skip) c.args.coding (c.pass_tag.ensures.none none)

pub loop-coding-smaller : goal.loop-coding-smaller
loop-coding-smaller c = zeros_one_shorter c.loop-coding.reader c.skip.new.self c.skip_zeros-zeros.result (passed (goal.at.loop-coding-smaller c).After-skip)

pub loop-coding-preserved : goal.loop-coding-preserved
loop-coding-preserved c =
    FrontSoFar-more c.args.reader.now c.loop-coding.reader c.skip.new.self c.skip_zeros-zeros.result c.loop-coding.invariant (passed (goal.at.loop-coding-preserved c).After-skip) (omega arith)
