use Rattle.std.specs.Result.{is_ok}
use Rattle.std.proofs.Common.{Bool, true, false, if◌then◌else◌, ◌++◌, ◌-◌, ◌≡◌, ◌+◌, ◌≤◌, ℕ, List, length, take, drop, replicate, ap, subst, ◌∙◌, refl, arith, length-append, length-drop}
use Rattle.std.proofs.lemmas.List.{take_all, take-append-le}
use Rattle.fax_pagestore.specs.Fill.{less_fill, zeros_after}
use Rattle.fax_pagestore.proofs.FillLemmas.{AddedUpTo-none, AddedUpTo-span, AddedUpTo-all, slice_from}
use Rattle.fax_pagestore.proofs.reader.fill.append.Goals as goal

-- what is added, where there is memory
added_if : (ok : Bool) (new old added : List ℕ) → new ≡ (if ok then old ++ added else old) → ok ≡ true → new ≡ old ++ added
added_if true new old added e is = e
added_if false new old added e is = absurd (cc is)

pub loop-place-init : goal.loop-place-init
loop-place-init c = record {
  added = AddedUpTo-none c.args.zeros c.args.piece.now c.args.octets.now.items;
  len = c.len-len.ensures;
  begins = take_all c.len-len.result c.args.octets.now.items (omega (arith, c.len-len.ensures));
}

pub loop-place-preserved : goal.loop-place-preserved
loop-place-preserved c =
    let piece : List ℕ = c.args.piece.now in
    let place : ℕ = c.loop-place.place in
    let k : ℕ = c.kept_front-front.result.len in
    let left = slice_from piece place in
    let after = slice_from piece (place + k) in
    let inside : place + k + c.zeros_in_front.result ≤ length piece =
    omega (arith, c.kept_front-front.ensures.within, c.zeros_in_front.ensures.within, ap length left, ap length after, length-drop place piece, length-drop (place + k) piece, c.loop-place-test.true) in
    let kept = subst (λ os. less_fill c.loop-place.count (take k os) ≡ take k os) left c.kept_front-front.ensures.kept in
    let count = subst (λ os. c.kept_front-front.result.zeros ≡ zeros_after c.loop-place.count (take k os)) left c.kept_front-front.ensures.zeros in
    let zeros = subst (λ os. take c.zeros_in_front.result os ≡ replicate c.zeros_in_front.result 0) after c.zeros_in_front.ensures.zeros in
    let span = take (place + k - place) (drop place piece) in
    let size : place + k - place ≡ k = omega arith in
    let all : c.extend_from_slice.new.self.items ≡ c.loop-place.octets.items ++ span =
    added_if (is_ok c.extend_from_slice.result) c.extend_from_slice.new.self.items c.loop-place.octets.items span c.extend_from_slice.ensures.items (rw c.if-is_err.ensures.negation refl) in
    let enough : c.len-len.result ≤ length c.loop-place.octets.items =
    omega (arith, c.loop-place.invariant.len, ap length c.loop-place.invariant.added.items_are, length-append c.args.octets.now.items (less_fill c.args.zeros (take place piece))) in
    record {
      added = AddedUpTo-span c.args.zeros piece c.args.octets.now.items c.loop-place.octets.items c.extend_from_slice.new.self.items place c.loop-place.count k c.kept_front-front.result.zeros c.zeros_in_front.result
          c.loop-place.invariant.added inside kept count (all ∙ ap (λ n. c.loop-place.octets.items ++ take n (drop place piece)) size) zeros
          (λ some. (c.kept_front-front.ensures.stops (omega (arith, some, inside, ap length left, length-drop place piece))).1);
      len = c.loop-place.invariant.len;
      begins = ap (take c.len-len.result) all ∙ take-append-le c.len-len.result c.loop-place.octets.items span enough ∙ c.loop-place.invariant.begins;
    }

pub returns-clause-ok : goal.returns-clause-ok
returns-clause-ok c = (AddedUpTo-all c.args.zeros c.args.piece.now c.args.octets.now.items c.loop-place.octets.items c.loop-place.place c.loop-place.count c.loop-place.invariant.added c.loop-place-test.false).0

pub returns-clause-zeros : goal.returns-clause-zeros
returns-clause-zeros c = (AddedUpTo-all c.args.zeros c.args.piece.now c.args.octets.now.items c.loop-place.octets.items c.loop-place.place c.loop-place.count c.loop-place.invariant.added c.loop-place-test.false).1
