use Rattle.std.proofs.Common.{List, ℕ, drop, sym, ap, ◌∙◌, subst}
use Rattle.fax_bits.specs.Bits.{bits_of}
use Rattle.fax_runcodes.specs.Widths.{elements_of}
use Rattle.fax_pagestore.specs.Fill.{less_fill}
use Rattle.fax_pagestore.proofs.FillLaw.{judged_with_fill}
use Rattle.fax_pagestore.specs.Readers.{HasRead, ReaderValue, IsReadUpTo, NoMoreIsWhole, AreJudged}
use Rattle.fax_pagestore.proofs.LinePages.{AreReadAs-here}
use Rattle.fax_pagestore.proofs.ReaderLemmas.{settled_judged}
use Rattle.fax_pagestore.proofs.reader.PageReader.fault.Goals as goal

pub returns-in-Some-clause-judged : goal.returns-in-Some-clause-judged
returns-in-Some-clause-judged g c = λ octets has.
    subst (AreJudged c.args.self.now.coding (elements_of c.args.self.now.format.width) octets c.args.self.now.rows) (sym c.fault.ensures)
    (judged_with_fill c.args.self.now.coding (elements_of c.args.self.now.format.width) octets c.args.self.now.rows _
    (AreReadAs-here c.args.self.now.coding (elements_of c.args.self.now.format.width) (less_fill 0 octets) has.others c.args.self.now.rows _ has.read_as
    (settled_judged has.others c.args.self.now c.in-Some.settled has.after (ap (λ (r : ReaderValue). r.settled) (sym c.self.view_is) ∙ c.in-Some.is))))

pub returns-in-None-clause-judged : goal.returns-in-None-clause-judged
returns-in-None-clause-judged g c = λ octets has.
    let came = subst (HasRead octets) (sym c.self.view_is) has in
    let before = came.after in
    let less : List ℕ = less_fill 0 octets in
    let kept = sym c.as_slice.ensures.value in
    let read = subst (λ (o : List ℕ). IsReadUpTo c.self.inside.coding (elements_of c.self.inside.format.width) came.others (g.S.RowStore.rows c.self.inside.rows) c.self.inside.tag (drop c.self.inside.used (bits_of o))) kept
    (before.read c.in-None.is) in
    let waits = subst (λ (o : List ℕ). NoMoreIsWhole c.self.inside.coding (elements_of c.self.inside.format.width) (g.S.RowStore.rows c.self.inside.rows) c.self.inside.tag (drop c.self.inside.used (bits_of o))) kept
    (before.waits c.in-None.is) in
    subst (λ (r : ReaderValue). AreJudged r.coding (elements_of r.format.width) octets r.rows c.judge.result) c.self.view_is
    (judged_with_fill c.self.inside.coding (elements_of c.self.inside.format.width) octets (g.S.RowStore.rows c.self.inside.rows) c.judge.result
    (AreReadAs-here c.self.inside.coding (elements_of c.self.inside.format.width) less came.others (g.S.RowStore.rows c.self.inside.rows) c.judge.result came.read_as
    (c.judge.ensures.judged came.others read waits)))
