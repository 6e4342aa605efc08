use Rattle.std.proofs.Common.{◌%◌, ◌/◌, ℕ, List, Bool, length, drop, ap, ◌∙◌, subst, arith, inl, inr, length-drop}
use Rattle.fax_bits.specs.Bits.{bits_of}
use Rattle.fax_bits.proofs.BitsLemmas.{length-bits_of}
use Rattle.fax_runcodes.specs.Widths.{elements_of}
use Rattle.fax_pagestore.specs.LinesUnderWay.{BeginSameLine}
use Rattle.fax_pagestore.proofs.FillLemmas.{slice_from}
use Rattle.fax_pagestore.proofs.LineLemmas.{IfOk_map}
use Rattle.fax_pagestore.proofs.ReaderLemmas.{IfSome_at, drop_place}
use Rattle.fax_pagestore.proofs.reader.line.keep_line.Goals as goal

pub returns-in_default-clause-kept : goal.returns-in_default-clause-kept
returns-in_default-clause-kept c = IfOk_map c.keep_from.result _ _ (λ used same. inl same) c.keep_from.ensures.kept

pub returns-in_default-clause-no_more : goal.returns-in_default-clause-no_more
returns-in_default-clause-no_more c = IfOk_map c.keep_from.result _ _ (λ used same. omega (arith, ap length same)) c.keep_from.ensures.kept

pub returns-clause-kept : goal.returns-clause-kept
returns-clause-kept c =
    let items : List ℕ = c.args.octets.now.items in
    let kept : List Bool = drop c.in-Some.line.used (bits_of c.in-Some.line.octets.items) in
    let slice = slice_from c.deref.result.now (c.args.place / 8) ∙ ap (drop (c.args.place / 8)) c.deref.ensures.value in
    let bits = ap (λ (o : List ℕ). drop (c.args.place % 8) (bits_of o)) slice ∙ drop_place items c.args.place c.requires in
    inr (subst (λ (b : List Bool). BeginSameLine (elements_of c.args.width) b kept) bits (IfSome_at c.in_ok-found.found _ c.in_ok-found.ensures.same c.in-Some.line c.in-Some.is))

pub returns-clause-no_more : goal.returns-clause-no_more
returns-clause-no_more c =
    let items : List ℕ = c.args.octets.now.items in
    let line = c.in-Some.line in
    let slice = slice_from c.deref.result.now (c.args.place / 8) ∙ ap (drop (c.args.place / 8)) c.deref.ensures.value in
    let shorter = IfSome_at c.in_ok-found.found _ c.in_ok-found.ensures.shorter line c.in-Some.is in
    omega (arith, shorter, ap length slice, c.requires, length-drop (c.args.place / 8) items, length-drop line.used (bits_of line.octets.items), length-bits_of line.octets.items, length-drop c.args.place (bits_of items), length-bits_of items)
