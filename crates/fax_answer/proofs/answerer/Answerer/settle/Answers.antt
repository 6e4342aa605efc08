use Rattle.std.proofs.Common.{◌≡◌, List, Option, None, take, refl, sym, ◌∙◌, ap, subst, arith}
use Rattle.fax_pagestore.specs.Readers.{ReaderValue}
use Rattle.fax_answer.specs.declared.image.Accepted.{Accepted}
use Rattle.fax_answer.specs.Images.{ImageValue, Confirms}
use Rattle.fax_answer.specs.Reached.{Rep, Stands}
use Rattle.fax_answer.specs.Shown.{confirmed_shown}
use Rattle.fax_answer.specs.Octets.{octets_of_answerer, octets_of_readers}
use Rattle.fax_answer.proofs.OctetsLemmas.{octets_kept, octets_of_readers-take}
use Rattle.fax_answer.proofs.SlotsLemmas.{finish_left, holds_settled}
use Rattle.fax_answer.proofs.answerer.Answerer.settle.Goals as goal

pub returns-clause-stands : goal.returns-clause-stands
returns-clause-stands g c core s =
    let k = subst (λ (x : Rep). Stands core x) (sym c.self.view_is) s in
    let left : List ReaderValue = c.finish-found.new.self.readers in
    let both = finish_left c.self.inside.image.accepted c.self.inside.image.readers left c.keep.new.kept c.self.inside.confirmed c.finish-found.result (confirmed_shown {S = g.row.S.Denot}) k.confirmed refl c.keep.ensures k.confirms (c.finish-found.ensures.none, c.finish-found.ensures.page) in
    let accepted : c.keep-2.new.self.accepted ≡ None = ap (λ (i : ImageValue). i.accepted) c.keep-2.ensures ∙ c.finish-found.ensures.settled in
    record {
      confirmed = k.confirmed;
      confirms = subst (λ (a : Option Accepted). Confirms a c.keep-2.new.self.readers (confirmed_shown {S = g.row.S.Denot} c.keep.new.kept) k.confirmed) (sym accepted) both.1;
      follows = k.follows;
      reason = k.reason;
      holds = holds_settled core.state core.history c.self.inside.image c.keep-2.new.self left c.readers_wanted.result both.0 (c.readers_wanted.ensures core k.confirmed k.follows)
          (ap (λ (i : ImageValue). i.readers) c.keep-2.ensures) accepted (ap (λ (i : ImageValue). i.run) c.keep-2.ensures ∙ c.finish-found.ensures.run) (ap (λ (i : ImageValue). i.longest) c.keep-2.ensures ∙ c.finish-found.ensures.longest) k.holds;
    }

pub returns-clause-held : goal.returns-clause-held
returns-clause-held g c =
    let found = c.finish-found.ensures.held in
    let confirmed = octets_kept c.finish-found.result c.self.inside.confirmed c.keep.new.kept c.keep.ensures in
    let fewer = octets_of_readers-take c.readers_wanted.result c.finish-found.new.self.readers in
    let kept : octets_of_readers c.keep-2.new.self.readers ≡ octets_of_readers (take c.readers_wanted.result c.finish-found.new.self.readers) =
    ap (λ (i : ImageValue). octets_of_readers i.readers) c.keep-2.ensures in
    let old = ap (λ (k : Rep). octets_of_answerer k) c.self.view_is in
    omega arith
