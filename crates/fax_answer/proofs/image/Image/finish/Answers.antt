use Rattle.std.proofs.Common.{◌≡◌, ◌<◌, ◌+◌, ◌++◌, ℕ, length, get_or, take, drop, Some, sym, ap, ◌∙◌, subst, arith, rules}
use Rattle.fax_pagestore.specs.Pages.{PageValue}
use Rattle.fax_answer.specs.declared.image.Accepted.{Accepted}
use Rattle.fax_answer.specs.Replies.{ConfirmedPage}
use Rattle.fax_answer.specs.Images.{ImageValue}
use Rattle.fax_answer.proofs.Places.{accepted_reader, accepted_left, same_found, same_page, no_fault}
use Rattle.fax_answer.proofs.OctetsLemmas.{octets_finished, octets_let_go}
use Rattle.fax_answer.proofs.image.Image.finish.Goals as goal

pub returns-in-Ok-clause-page : goal.returns-in-Ok-clause-page
returns-in-Ok-clause-page g c accepted page e at =
    let readers = ap (λ (i : ImageValue). i.readers) c.self.view_is in
    let same : c.in-Some.accepted ≡ accepted = same_found c.in-Some.accepted accepted (sym c.in-Some.is ∙ c.take.ensures.value ∙ ap (λ (i : ImageValue). i.accepted) c.self.view_is ∙ e) in
    let place : c.in-Some.accepted.place ≡ accepted.place = ap (λ (a : Accepted). a.place) same in
    let value = subst (λ (n : ℕ). c.remove-reader.result ≡ get_or c.self.inside.readers.items n c.remove-reader.result) place c.remove-reader.ensures.value in
    let items = subst (λ (n : ℕ). c.remove-reader.new.self.items ≡ take n c.self.inside.readers.items ++ drop (n + 1) c.self.inside.readers.items) place c.remove-reader.ensures.by_index.2 in
    let r = accepted_reader c.self.inside.readers.items c.args.self.now.readers accepted.place page c.remove-reader.result readers at value in
    let found : c.in-Ok.page ≡ page = same_page c.in-Ok.page page (c.in-Ok.ensures.reads at.octets page r.0 r.1) in (
      ap (λ (p : PageValue). let k : ConfirmedPage = record { page = p; closes = c.in-Some.accepted.closes } in Some k) found ∙ ap (λ (a : Accepted). let k : ConfirmedPage = record { page = page; closes = a.closes } in Some k) same,
      accepted_left c.self.inside.readers.items c.remove-reader.new.self.items c.args.self.now.readers accepted.place page readers at items,
    )

pub returns-clause-page : goal.returns-clause-page
returns-clause-page g c accepted page e at =
    let readers = ap (λ (i : ImageValue). i.readers) c.self.view_is in
    let same : c.in-Some.accepted ≡ accepted = same_found c.in-Some.accepted accepted (sym c.in-Some.is ∙ c.take.ensures.value ∙ ap (λ (i : ImageValue). i.accepted) c.self.view_is ∙ e) in
    let place : c.in-Some.accepted.place ≡ accepted.place = ap (λ (a : Accepted). a.place) same in
    let value = subst (λ (n : ℕ). c.remove-reader.result ≡ get_or c.self.inside.readers.items n c.remove-reader.result) place c.remove-reader.ensures.value in
    let r = accepted_reader c.self.inside.readers.items c.args.self.now.readers accepted.place page c.remove-reader.result readers at value in
    absurd (no_fault c.in-Err.field-0 page (c.in-Err.ensures.reads at.octets page r.0 r.1))

pub returns-in-Ok-clause-held : goal.returns-in-Ok-clause-held
returns-in-Ok-clause-held g c =
    let readers = ap (λ (i : ImageValue). i.readers) c.self.view_is in
    let inside : c.in-Some.accepted.place < length c.self.inside.readers.items = search rules in
    octets_finished c.self.inside.readers.items c.remove-reader.new.self.items c.args.self.now.readers c.in-Some.accepted.place c.remove-reader.result c.in-Ok.page inside
    c.remove-reader.ensures.value c.remove-reader.ensures.by_index.2 readers c.in-Ok.ensures.rows

pub returns-clause-held : goal.returns-clause-held
returns-clause-held g c =
    let readers = ap (λ (i : ImageValue). i.readers) c.self.view_is in
    let inside : c.in-Some.accepted.place < length c.self.inside.readers.items = search rules in
    let all = octets_let_go c.self.inside.readers.items c.remove-reader.new.self.items c.args.self.now.readers c.in-Some.accepted.place c.remove-reader.result inside
    c.remove-reader.ensures.value c.remove-reader.ensures.by_index.2 readers in
    omega arith
