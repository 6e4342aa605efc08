use Rattle.std.proofs.Common.{rules, ◌≡◌, ◌-◌, ℕ, length, ap}
use Rattle.fax_answer.specs.Images.{ImageValue}
use Rattle.fax_answer.proofs.Places.{ended_means, ended_fails}
use Rattle.fax_answer.proofs.image.Image.page_ended.Goals as goal

pub returns-in-Ok-clause-page : goal.returns-in-Ok-clause-page
returns-in-Ok-clause-page g c dcs octets h =
    let long : c.len-len.result ≡ length c.self.inside.readers.items = search rules in
    ended_means c.self.inside.readers.items c.args.self.now.readers (c.len-len.result - 2) c.index.result.now dcs octets (ap (λ (i : ImageValue). i.readers) c.self.view_is)
    (ap (λ (n : ℕ). n - 2) long) c.index.ensures c.in-Ok.ensures.ok h

pub returns-in-Err-clause-fault : goal.returns-in-Err-clause-fault
returns-in-Err-clause-fault g c dcs octets h =
    let long : c.len-len.result ≡ length c.self.inside.readers.items = search rules in
    ended_fails c.self.inside.readers.items c.args.self.now.readers (c.len-len.result - 2) c.index.result.now dcs octets c.in-Err.fault (ap (λ (i : ImageValue). i.readers) c.self.view_is)
    (ap (λ (n : ℕ). n - 2) long) c.index.ensures c.in-Err.ensures.fault h
