use Rattle.std.proofs.Common.{◌≡◌, ℕ, ◌<◌, List, length, take, get_or, sym, ◌∙◌, ap, arith, rules}
use Rattle.std.proofs.Math.Seq.{take-length}
use Rattle.fax_pagestore.specs.Octets.{octets_of_reader}
use Rattle.fax_pagestore.specs.Readers.{ReaderValue}
use Rattle.fax_answer.specs.Images.{ImageValue}
use Rattle.fax_answer.specs.Octets.{octets_of_readers}
use Rattle.fax_answer.proofs.OctetsLemmas.{octets_of_readers-none, octets_of_readers-more, octets_of_readers-reverse}
use Rattle.fax_answer.proofs.image.Image.held.Goals as goal

pub loop-reader-init : goal.loop-reader-init
loop-reader-init g c = record { counted = sym octets_of_readers-none; few = omega arith }

pub loop-reader-preserved : goal.loop-reader-preserved
loop-reader-preserved g c =
    let readers : List ReaderValue = c.deref-reader-items.result.now in
    let inside : c.loop-reader.reader-index < length readers = search rules in
    let more = octets_of_readers-more readers c.loop-reader.reader-index c.reader-item.result inside in
    let own : c.held.result ≡ octets_of_reader (get_or readers c.loop-reader.reader-index c.reader-item.result) =
    c.held.ensures.octets ∙ ap (λ (reader : ReaderValue). octets_of_reader reader) c.reader-item.is in
    record { counted = omega (arith, c.loop-reader.invariant.counted); few = omega (arith, c.loop-reader.invariant.few, c.held.ensures.few) }

pub returns-clause-octets : goal.returns-clause-octets
returns-clause-octets g c =
    let readers : List ReaderValue = c.deref-reader-items.result.now in
    let whole : c.loop-reader.reader-index ≡ length readers = search rules in
    c.loop-reader.invariant.counted ∙ ap (λ (n : ℕ). octets_of_readers (take n readers)) whole ∙ ap (λ (rs : List ReaderValue). octets_of_readers rs) (take-length readers ∙ c.deref-reader-items.ensures.value)
    ∙ sym (octets_of_readers-reverse c.self.inside.readers.items) ∙ ap (λ (i : ImageValue). octets_of_readers i.readers) c.self.view_is
