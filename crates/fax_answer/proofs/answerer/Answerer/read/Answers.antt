use Rattle.std.proofs.Common.{◌≡◌, List, sym, ap, subst}
use Rattle.fax_pagestore.specs.Readers.{ReaderValue}
use Rattle.fax_answer.specs.Images.{HasEnded}
use Rattle.fax_answer.specs.Reached.{Rep, AnswersImage}
use Rattle.fax_answer.proofs.AnswerLemmas.{accepts, refuses}
use Rattle.fax_answer.proofs.answerer.Answerer.read.Goals as goal

pub returns-in-Ok : goal.returns-in-Ok
returns-in-Ok g c dcs octets h =
    let same : c.self.inside.image.readers ≡ c.args.self.now.image.readers = ap (λ (k : Rep). k.image.readers) c.self.view_is in
    let here : HasEnded dcs octets c.self.inside.image.readers = subst (HasEnded dcs octets) (sym same) h in
    subst (λ (r : List ReaderValue). AnswersImage octets dcs c.args.command r c.mcf.result) same
    (accepts c.self.inside.image.readers dcs octets c.args.command c.in-Ok.place c.is_last-closes.result c.mcf.result c.is_last-closes.ensures (c.in-Ok.ensures.page dcs octets here) c.mcf.ensures)

pub returns-in-Err : goal.returns-in-Err
returns-in-Err g c dcs octets h =
    let same : c.self.inside.image.readers ≡ c.args.self.now.image.readers = ap (λ (k : Rep). k.image.readers) c.self.view_is in
    let here : HasEnded dcs octets c.self.inside.image.readers = subst (HasEnded dcs octets) (sym same) h in
    subst (λ (r : List ReaderValue). AnswersImage octets dcs c.args.command r c.rtn.result) same
    (refuses c.self.inside.image.readers dcs octets c.args.command c.in-Err.fault c.rtn.result (c.in-Err.ensures.fault dcs octets here) c.rtn.ensures)
