use Rattle.std.proofs.Common.{◌≡◌, ◌/◌, ◌^◌, Bool, true, false, IfSome, refl, take, ◌∙◌, arith}
use Rattle.std.specs.Bool.{then_some}
use Rattle.fax_bits.specs.Bits.{word_bits}
use Rattle.fax_bits.proofs.WindowLemmas.{word_of_window, padded-le}
use Rattle.fax_pagestore.proofs.reading.next_bit.Goals as goal

-- what is there only where a test passes
where_some : {X : Type 0} (P : X → Type 0) (test : Bool) (x : X) → (test ≡ true → P x) → IfSome (then_some test x) P
where_some P true x f = f refl
where_some P false x f = tt

pub returns-clause-bit : goal.returns-clause-bit
returns-clause-bit c =
    rw c.then_some.ensures
    (where_some (λ bit. word_bits 1 bit ≡ take 1 c.args.reader.now.left) c.has.result (c.window.result / 2 ^ 55)
    (λ some. word_of_window 56 1 c.window.result c.args.reader.now.left (omega arith) c.window.ensures.bits ∙ padded-le 1 c.args.reader.now.left (c.has.ensures.0 some)))
